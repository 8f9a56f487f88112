-- A tree that is only known to stand in cells can be had: it is found again by looking at the cells.
use Rattle.std.proofs.Common.{◌≡◌, ℕ, zero, suc, ◌+◌, ◌^◌, ◌<◌, ◌≤◌, eqb, true, false, ◌⊎◌, sym, subst, inl, inr, arith}
use lib.Bits.{bit_and, bit_or}
use lib.Count.{ones}
use mathlib.Core.Logic.{∥∥₁_elim, ∥∥₁_map}
use Rattle.std.specs.Coded.{le_prop}
use Rattle.std.proofs.lemmas.Bool.{cases_lt}
use Rattle.std.proofs.lemmas.Bool.Decides.{eqb_tells}
use Rattle.finds.specs.Trees.{Tree}
use Rattle.trees.specs.Cells.{nodes, Sound, Cells, Ends, Part}
use Rattle.trees.specs.Checks.{Checked, TreeIn}
use Rattle.trees.specs.Rows.{seen, Long, Stands}
use Rattle.trees.specs.declared.rows.View.{View}
use Rattle.trees.proofs.Cells.{some_nodes, body_set, holds_part, end_is}
use Rattle.trees.proofs.Checking.{Checking, grave_checked, grave_not, checking_start, checking_more, checking_next, checking_yes, checking_no, tree_in_stands}
use Rattle.trees.proofs.Sets.{set_fits}
use Rattle.trees.proofs.Standing.{sort_low}

-- What is looked for in cell i: a sound tree with the cell behind it; or none can stand there.
abbrev Sought : Cells → ℕ → ℕ → Type 0
Sought R n i = ((e : ℕ) × Checked R n i e) ⊎ ((t : Tree) → Part R n i t → Sound t → ⊥)

-- Two numbers are the same, or not.
abbrev Same : ℕ → ℕ → Type 0
Same x y = ((eqb x y ≡ true) × (x ≡ y)) ⊎ ((eqb x y ≡ false) × (x ≡ y → ⊥))

-- Without a branch in cell c the branches so far are all.
last_branch : {R : Cells} {n i c place graves : ℕ} → Checking R n i c place graves → 1 ≤ R.sort i → R.sort i ≤ 2 → ((c < n) × (R.parent c ≡ i) → ⊥) → Sought R n i
last_branch {R} {n} {i} {c} {place} {graves} k low high stop = end (eqb_tells graves (R.set i)) (cases_lt place (R.sort i + 1))
  where
    end : Same graves (R.set i) → (place < R.sort i + 1) ⊎ (R.sort i + 1 ≤ place) → Sought R n i
    end (inl (x, same)) (inr many) = inl (c, checking_yes k stop low high same many)
    end (inl (x, same)) (inl few) = inr (checking_no k stop low (λ e l. omega arith))
    end (inr (x, other)) y = inr (checking_no k stop low (λ e l. other e))

-- With one, its cell is looked at, and then the branches behind it.
one_branch : {R : Cells} {n i c place graves : ℕ} → Checking R n i c place graves → c < n → R.parent c ≡ i → Sought R n c →
    ((e p g : ℕ) → c < e → Checking R n i e p g → Sought R n i) → Sought R n i
one_branch {R} {n} {i} {c} {place} {graves} k l p (inr none) next = inr (λ t q s. let z = (checking_next k l p t q s).2 in none z.0 z.1 z.2)
one_branch {R} {n} {i} {c} {place} {graves} k l p (inl (e, found)) next = go (eqb_tells (R.place c) place) (eqb_tells (bit_and graves (R.set c)) 0)
  where
    go : Same (R.place c) place → Same (bit_and graves (R.set c)) 0 → Sought R n i
    go (inr (x, other)) y = inr (λ t q s. other (checking_next k l p t q s).0)
    go (inl (x, same)) (inr (y, meet)) = inr (λ t q s. meet (checking_next k l p t q s).1)
    go (inl (x, same)) (inl (y, apart)) = next e (place + 1) (bit_or graves (R.set c)) found.within.0 (checking_more k l p same apart found)

-- The branches from cell c on, if trees can be sought in the cells behind cell i.
branches : (m : ℕ) {R : Cells} {n i c place graves : ℕ} → n ≤ c + m → Checking R n i c place graves → 1 ≤ R.sort i → R.sort i ≤ 2 → ((x : ℕ) → i < x → x < n → Sought R n x) → Sought R n i
branches zero h k low high seek = last_branch k low high (λ b. omega (arith, b.0))
branches (suc m) {R} {n} {i} {c} h k low high seek = go (λ e p g l q. branches m (omega arith) q low high seek) (cases_lt c n) (eqb_tells (R.parent c) i)
  where
    go : ((e p g : ℕ) → c < e → Checking R n i e p g → Sought R n i) → (c < n) ⊎ (n ≤ c) → Same (R.parent c) i → Sought R n i
    go next (inr h) y = last_branch k low high (λ b. omega (arith, b.0))
    go next (inl l) (inr (y, other)) = last_branch k low high (λ b. other b.1)
    go next (inl l) (inl (y, p)) = one_branch k l p (seek c (let a = k.at in omega arith) l) next

-- A cell, by its sort.
sought : (m : ℕ) (R : Cells) (n i : ℕ) → n ≤ i + m → i < n → Sought R n i
sought zero R n i h l = absurd (omega arith)
sought (suc m) R n i h l = go (λ x a b. sought m R n x (omega arith) b) (cases_lt 0 (R.sort i)) (cases_lt 2 (R.sort i)) (cases_lt (R.set i) (2 ^ 64)) (eqb_tells (ones (R.set i)) 1)
  where
    go : ((x : ℕ) → i < x → x < n → Sought R n x) → (0 < R.sort i) ⊎ (R.sort i ≤ 0) → (2 < R.sort i) ⊎ (R.sort i ≤ 2) → (R.set i < 2 ^ 64) ⊎ (2 ^ 64 ≤ R.set i) → Same (ones (R.set i)) 1 → Sought R n i
    go seek x (inl high) y z = inr (λ t p s. omega (arith, sort_low R i t p.0))
    go seek (inr flat) (inr low) (inl fits) (inl (z, one)) = inl (i + 1, grave_checked R n i l (omega arith) fits one)
    go seek (inr flat) (inr low) (inr big) z = inr (λ t p s. let e = body_set R i t p.0 in let f = set_fits t s in omega arith)
    go seek (inr flat) (inr low) (inl fits) (inr (z, other)) = inr (grave_not R n i (omega arith) other)
    go seek (inl some) (inr low) y z = branches n (omega arith) (checking_start R n i l) (omega arith) low seek

nothing : (x y : ⊥) → x ≡ y
nothing x y = absurd x

-- Where a sound tree is known to stand, it can be had.
pub had_standing : {v : View} {n i : ℕ} → ∥ Stands v n i ∥₁ → Stands v n i
had_standing {v} {n} {i} h = go (sought n (seen v) n i (omega arith) below)
  where
    below : i < n
    below = ∥∥₁_elim h le_prop (λ s. s.below)

    long : Long v n
    long = record {
      parents_long = ∥∥₁_elim h le_prop (λ s. s.long.parents_long);
      sorts_long = ∥∥₁_elim h le_prop (λ s. s.long.sorts_long);
      places_long = ∥∥₁_elim h le_prop (λ s. s.long.places_long);
      sets_long = ∥∥₁_elim h le_prop (λ s. s.long.sets_long);
    }

    ends : (e : ℕ) → Checked (seen v) n i e → Ends (seen v) n i e
    ends e k = at (cases_lt e n) (cases_lt ((seen v).parent e) i)
      where
        at : (e < n) ⊎ (n ≤ e) → ((seen v).parent e < i) ⊎ (i ≤ (seen v).parent e) → Ends (seen v) n i e
        at (inr a) b = inl (let w = k.within.1 in omega arith)
        at (inl a) (inl b) = inr (a, b)
        at (inl a) (inr b) = absurd (∥∥₁_elim h nothing (λ s. other s (subst (Ends (seen v) n i) (sym (k.only s.tree s.part s.sound)) s.part.2)))
          where
            other : Stands v n i → Ends (seen v) n i e → ⊥
            other s (inl x) = omega arith
            other s (inr x) = omega (arith, x.1)

    go : Sought (seen v) n i → Stands v n i
    go (inr none) = absurd (∥∥₁_elim h nothing (λ s. none s.tree s.part s.sound))
    go (inl (e, k)) = record {
      long = long;
      few = ∥∥₁_elim h le_prop (λ s. s.few);
      below = below;
      tree = k.tree;
      part = (k.body, (let w = k.within.1 in let a = k.end in omega arith), subst (Ends (seen v) n i) k.end (ends e k));
      sound = k.sound;
    }

-- A whole tree, in the first n cells, likewise.
pub had_tree : {v : View} {n : ℕ} → ∥ TreeIn v n ∥₁ → TreeIn v n
had_tree {v} {n} h = go (eqb_tells ((seen v).parent 0) 0) (eqb_tells ((seen v).place 0) 0) (eqb_tells n (nodes s.tree))
  where
    s : Stands v n 0
    s = had_standing (∥∥₁_map h tree_in_stands)

    -- Whatever tree is known to lie there ends at the same cell.
    same : TreeIn v n → n ≡ nodes s.tree
    same t =
        let e = end_is (seen v) n 0 (0 + nodes s.tree) t.tree (holds_part (seen v) n t.tree t.holds) (omega (arith, some_nodes s.tree)) s.part.1 (λ x a b. omega arith) s.part.2 in
        omega (arith, t.holds.many)

    go : Same ((seen v).parent 0) 0 → Same ((seen v).place 0) 0 → Same n (nodes s.tree) → TreeIn v n
    go (inr (x, other)) y z = absurd (∥∥₁_elim h nothing (λ t. other t.holds.top))
    go (inl x) (inr (y, other)) z = absurd (∥∥₁_elim h nothing (λ t. other t.holds.first))
    go (inl x) (inl y) (inr (z, other)) = absurd (∥∥₁_elim h nothing (λ t. other (same t)))
    go (inl (x, top)) (inl (y, first)) (inl (z, many)) = record { long = s.long; tree = s.tree; holds = record { top = top; first = first; body = s.part.0; many = many }; sound = s.sound }
