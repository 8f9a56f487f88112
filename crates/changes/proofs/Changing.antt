-- What is promised of a change in lent rows, from what the draft holds.
use Rattle.std.proofs.Common.{◌≡◌, ℕ, zero, suc, ◌-◌, ◌*◌, ◌<◌, ◌≤◌, Bool, true, length, Some, None, Option, refl, arith}
use Rattle.finds.specs.Finds.{Finds}
use Rattle.finds.specs.Trees.{Tree, none, more}
use Rattle.finds.specs.Counts.{count_t}
use Rattle.finds.specs.Sets.{has}
use Rattle.pqtree.specs.Change.{Outcome, torn, made, if_two, change, step}
use Rattle.pqtree.specs.Theorems.{Stands as StandsFor}
use Rattle.pqtree.proofs.Change.{step_size}
use Rattle.pqtree.proofs.Exact.{step_exact}
use Rattle.trees.specs.Cells.{size, Sound, Cells, Lent, held, shortest, Holds}
use Rattle.trees.specs.Checks.{TreeIn}
use Rattle.trees.specs.Rows.{seen_rows}
use Rattle.trees.specs.Starting.{SameFrom}
use Rattle.trees.specs.declared.rows.View.{View}
use Rattle.trees.proofs.Cells.{some_nodes, few_nodes}
use Rattle.trees.proofs.Sets.{few_cells}
use Rattle.changes.specs.Draft.{Kept}
use Rattle.changes.specs.Splice.{having, Drawn}
use Rattle.changes.specs.Whole.{Holding, number_of, cells_of, Stepped, Right, GoesOn, Changes}
use Rattle.changes.proofs.Same.{holds_same}
use Rattle.changes.proofs.Splicing.{having_body}
use Rattle.changes.proofs.Redrawing.{step_many, step_sound}
use Rattle.changes.proofs.Telling.{mask_has}
use Rattle.changes.proofs.Writing.{ats_kept}

same_rows : (R : Lent) (c : ℕ) → SameFrom c R R
same_rows R c = record { parents = refl; sorts = refl; places = refl; sets = refl }

-- ---- the step

few_step : (k : ℕ → Bool) (t : Tree) → count_t k true t < 2 → step k t ≡ made t
few_step k t = go (count_t k true t)
  where
    go : (n : ℕ) → n < 2 → if_two n (made t) (change k t) ≡ made t
    go zero h = refl
    go (suc zero) h = refl
    go (suc (suc n)) h = absurd (omega arith)

-- A step that is right for the finds makes the answer right that is the step's.
right : (f : Finds) (S : Lent) (r : Option ℕ) (o : Outcome) → ((u : Tree) → o ≡ made u → Sound u) → StandsFor f o → Stepped S r o → Right f S r
right f S (Some c) torn sound a b = absurd b
right f S (Some c) (made u) sound a b = (u, b, sound u refl, a.1, a.2)
right f S None torn sound a b = a
right f S None (made u) sound a b = absurd b

-- ---- the tree in the rows

pub whole_tree : (v : View) (count : ℕ) → Holding (seen_rows v) count → TreeIn v count
whole_tree v count h =
    let m = few_nodes h.tree h.sound.good in
    let n = h.holds.many in
    record {
      long = record { parents_long = omega (arith, h.room); sorts_long = omega (arith, h.room); places_long = omega (arith, h.room); sets_long = omega (arith, h.room) };
      tree = h.tree;
      holds = h.holds;
      sound = h.sound;
    }

module _ {R : Lent} {count : ℕ} (h : Holding R count) (kind : ℕ) where
  pub first_set : 0 < length R.sets
  first_set = omega (arith, few_nodes h.tree h.sound.good, some_nodes h.tree, h.room)

  all_is : having (held R) kind 0 ≡ count_t (has kind) true h.tree
  all_is = having_body (has kind) kind (mask_has kind) (held R) 0 h.tree h.holds.body h.sound

  goes_on : (S : Lent) (r : Option ℕ) (o : Outcome) → shortest S ≡ shortest R → step (has kind) h.tree ≡ o → Stepped S r o → GoesOn S r
  goes_on S (Some c) torn l e b = absurd b
  goes_on S (Some c) (made u) l e b =
      let z = step_size (has kind) h.tree u h.sound.good e in
      record {
        tree = u;
        holds = b;
        sound = step_sound (has kind) h.tree u h.sound e;
        room = omega (arith, h.room);
      }
  goes_on S None torn l e b = tt
  goes_on S None (made u) l e b = absurd b

  -- The rows hold one tree, so what is so of that tree is so of each that they hold.
  changes : (S : Lent) (r : Option ℕ) → shortest S ≡ shortest R → Stepped S r (step (has kind) h.tree) → SameFrom (cells_of r) R S →
      (count_t (has kind) true h.tree < 2 → (number_of r ≡ 0) × (cells_of r ≡ count) × SameFrom 0 R S) → Changes R S count kind r
  changes S r l s rest few = record {
    exact = λ f t p y e. right _ S r (step (has kind) h.tree) (λ u. step_sound (has kind) h.tree u h.sound) (step_exact f (has kind) h.tree p h.sound.good (rw (is t y) e)) s;
    stepped = λ t y. rw (← is t y) s;
    few = λ t y c. few (rw (is t y) c);
    rest = rest;
    goes_on = goes_on S r (step (has kind) h.tree) l refl s;
  }
    where
      is : (t : Tree) → Holds (held R) count t → h.tree ≡ t
      is t y = holds_same (held R) count h.tree t h.holds y

  pub few_changes : having (held R) kind 0 < 2 → Changes R R count kind (Some count)
  few_changes l = changes R (Some count) refl (rw (few_step (has kind) h.tree (omega (arith, all_is))) h.holds) (same_rows R count) (λ c. (refl, refl, same_rows R 0))

  -- ---- the kind lies in two graves or more, and the tree was redrawn

  module _ (two : 2 ≤ having (held R) kind 0) where
    step_is : step (has kind) h.tree ≡ change (has kind) h.tree
    step_is = step_many (has kind) h.tree (omega (arith, all_is))

    never_few : {A : Type 0} → count_t (has kind) true h.tree < 2 → A
    never_few c = absurd (omega (arith, all_is))

    pub none_changes : (D : Cells) → ((t : Tree) → Holds (held R) count t → Drawn D None (change (has kind) t)) → Changes R R count kind None
    none_changes D d = changes R None refl (rw step_is (go (change (has kind) h.tree) (d h.tree h.holds))) (same_rows R 0) never_few
      where
        go : (o : Outcome) → Drawn D None o → Stepped R None o
        go torn x = tt
        go (made u) x = absurd x

    module _ (D : Cells) (c : ℕ) (d : (t : Tree) → Holds (held R) count t → Drawn D (Some c) (change (has kind) t)) where
      -- The tree that was made is no larger than there is room.
      pub made_cells : (c ≤ 127) × (c ≤ 2 * size h.tree - 1)
      made_cells = go (change (has kind) h.tree) step_is (d h.tree h.holds)
        where
          go : (o : Outcome) → step (has kind) h.tree ≡ o → Drawn D (Some c) o → (c ≤ 127) × (c ≤ 2 * size h.tree - 1)
          go torn e x = absurd x
          go (made u) e x =
              let s = step_sound (has kind) h.tree u h.sound e in
              let z = step_size (has kind) h.tree u h.sound.good e in
              let m = few_nodes u s.good in
              (omega (arith, x.many, few_cells u s), omega (arith, x.many))

      pub made_changes : (S : Lent) → Kept D (held S) c → SameFrom c R S → shortest S ≡ shortest R → Changes R S count kind (Some c)
      made_changes S k rest l = changes S (Some c) l (rw step_is (go (change (has kind) h.tree) (d h.tree h.holds))) rest never_few
        where
          go : (o : Outcome) → Drawn D (Some c) o → Stepped S (Some c) o
          go torn x = absurd x
          go (made u) x =
              let a = ats_kept 0 0 0 (more u none) k (omega (arith, x.many)) (x.top, x.first, x.body, tt) in
              record { top = a.0; first = a.1; body = a.2; many = x.many }
