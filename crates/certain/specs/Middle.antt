-- What is certain, by the tree: some row of it has the three graves in three different branches.
use Rattle.std.specs.Prelude.{◌≡◌, ℕ, ◌≤◌, true, ◌⊎◌, nat_eq}
use Rattle.finds.specs.Branches.{◌+++◌}
use Rattle.finds.specs.Counts.{count_t, count_ts}
use Rattle.finds.specs.Trees.{Tree, grave, any, row, Trees, none, more}

-- The grave is in the tree.
abbrev pub In : ℕ → Tree → Type 0
In g t = 1 ≤ count_t (nat_eq g) true t

-- The grave is in one of the branches.
abbrev pub InSome : ℕ → Trees → Type 0
InSome g ts = 1 ≤ count_ts (nat_eq g) true ts

-- One of the graves is in the branches x, and the other in the branches y.
abbrev pub Across : ℕ → ℕ → Trees → Trees → Type 0
Across a c x y = (InSome a x × InSome c y) ⊎ (InSome c x × InSome a y)

-- One of the branches has b, and of a and c one is in a branch before it, the other in a branch behind it.
pub record Sides (a b c : ℕ) (ts : Trees) : Type 0 where
  pub before : Trees
  pub it : Tree
  pub behind : Trees
  pub is : ts ≡ before +++ more it behind
  pub in_it : In b it
  pub across : Across a c before behind

-- Somewhere in the tree branches in a row have b on one side of a and c on the other: a, b and c are in three different branches, b's between.
abbrev mutual
  pub Middle : ℕ → ℕ → ℕ → Tree → Type 0
  Middle a b c (grave g) = ⊥
  Middle a b c (any ts) = Middles a b c ts
  Middle a b c (row ts) = Middles a b c ts ⊎ Sides a b c ts

  -- The same of one of the branches.
  pub Middles : ℕ → ℕ → ℕ → Trees → Type 0
  Middles a b c none = ⊥
  Middles a b c (more t ts) = Middle a b c t ⊎ Middles a b c ts
