-- From the tree that has grown in the rows to what is promised of the finds.
use Rattle.std.proofs.Common.{◌≡◌, ℕ, zero, suc, ◌+◌, ◌-◌, ◌<◌, ◌≤◌, Bool, List, length, get_or, take, sym, refl, ap, ◌∙◌, subst, arith}
use Rattle.std.proofs.lemmas.List.{get_or-take, take_all}
use Rattle.finds.specs.Finds.{Finds}
use Rattle.finds.specs.Exactness.{Exactly, SomeFits}
use Rattle.finds.specs.Trees.{Tree, graves_from, start}
use Rattle.finds.proofs.Size.{few_nodes, some_nodes}
use Rattle.pqtree.specs.Change.{torn}
use Rattle.pqtree.specs.Growth.{first_kinds, then_kind, after}
use Rattle.pqtree.specs.Theorems.{Stands}
use Rattle.pqtree.proofs.Growth.{kind_by_kind, whole_table}
use Rattle.tables.specs.Room.{branches_for}
use Rattle.trees.specs.Cells.{size, sizes, Lent, held, Holds}
use Rattle.trees.specs.Starting.{SameFrom}
use Rattle.trees.proofs.Cells.{body_moved}
use Rattle.trees.proofs.Starting.{start_sound}
use Rattle.seriation.specs.Building.{Grown, Staged, SameBelow, Cleared, Standing, Builds}
use Rattle.seriation.specs.declared.built.Built.TheVariants.{Tree as TreeBuilt, NoOrder}
use Rattle.seriation.proofs.Growing.{same_then}

-- ---- the beginning

from_size : (i m : ℕ) → sizes (graves_from i m) ≡ m
from_size i zero = refl
from_size i (suc m) = let z = from_size (suc i) m in omega arith

start_size : (n : ℕ) → 0 < n → size (start n) ≡ n
start_size zero h = absurd (omega arith)
start_size (suc zero) h = refl
start_size (suc (suc m)) h = from_size 0 (suc (suc m))

pub begun : (f : Finds) (count : ℕ) (R : Lent) → 0 < f.graves → f.graves ≤ 64 → Holds (held R) count (start f.graves) → Grown f 0 count R R
begun f count R some few h =
    record {
      tree = start f.graves;
      holds = h;
      sound = start_sound f.graves some few;
      graves_are = start_size f.graves some;
      grown = refl;
      rest = record { parents = refl; sorts = refl; places = refl; sets = refl };
    }

-- A tree takes no more cells than are lent for its graves.
pub grown_cells : (f : Finds) (j count : ℕ) (R S : Lent) → Grown f j count R S → (1 ≤ count) × (count ≤ branches_for f.graves)
grown_cells f j count R S g =
    let x = few_nodes g.tree g.sound.good in let y = g.holds.many in let z = g.graves_are in let w = some_nodes g.tree in (omega arith, omega arith)

-- ---- emptied cells behind the tree

take_at : (c x : ℕ) (xs ys : List ℕ) → take c ys ≡ take c xs → x < c → get_or ys x 0 ≡ get_or xs x 0
take_at c x xs ys e h = sym (get_or-take c ys x 0 h) ∙ ap (λ (l : List ℕ). get_or l x 0) e ∙ get_or-take c xs x 0 h

-- What leaves the cells of a tree as they are leaves the tree.
holds_below : (S T : Lent) (count : ℕ) (t : Tree) → SameBelow count S T → Holds (held S) count t → Holds (held T) count t
holds_below S T count t b h =
    let w = some_nodes t in let m = h.many in
    record {
      top = take_at count 0 S.parents T.parents b.parents (omega arith) ∙ h.top;
      first = take_at count 0 S.places T.places b.places (omega arith) ∙ h.first;
      body = body_moved (held S) (held T) 0 0 0 0 t refl (take_at count 0 S.sorts T.sorts b.sorts (omega arith)) (take_at count 0 S.sets T.sets b.sets (omega arith))
          (λ x y u v e.
          let z : y ≡ x = omega arith in
          subst (λ (i : ℕ). ((held T).sort i ≡ (held S).sort x) × ((held T).set i ≡ (held S).set x) × ((held T).place i ≡ (held S).place x) × ((held T).parent i + 0 ≡ (held S).parent x + 0)) (sym z) (
            take_at count x S.sorts T.sorts b.sorts (omega arith),
            take_at count x S.sets T.sets b.sets (omega arith),
            take_at count x S.places T.places b.places (omega arith),
            ap (λ (i : ℕ). i + 0) (take_at count x S.parents T.parents b.parents (omega arith)),
          ))
          h.body;
      many = m;
    }

-- ---- the end

stays_torn : (f : Finds) (j d : ℕ) → after f j ≡ torn → after f (d + j) ≡ torn
stays_torn f j zero e = let z : zero + j ≡ j = omega arith in ap (after f) z ∙ e
stays_torn f j (suc d) e = let z : suc d + j ≡ suc (d + j) = omega arith in ap (after f) z ∙ ap (then_kind _) (stays_torn f j d e)

module _ (f : Finds) (some : 0 < f.graves) (R S T U : Lent) (j count c : ℕ) where
  -- The rows were begun in S, the tree has grown from there to T, and the cells behind it have been emptied in U.
  pub standing : SameFrom c R S → c ≤ branches_for f.graves → Staged f j count S T → Cleared count (branches_for f.graves) T U → j ≤ length f.kinds → Standing f j count R U
  standing a l s w h =
      let g = s.stage in let e = subst (Stands (first_kinds j f)) g.grown (kind_by_kind f some j h) in
      record {
        stage = record {
          tree = g.tree;
          holds = holds_below T U count g.tree w.below g.holds;
          sound = g.sound;
          graves_are = g.graves_are;
          grown = g.grown;
          rest = same_then (branches_for f.graves) (branches_for f.graves) (omega arith) (same_then (branches_for f.graves) (branches_for f.graves) (omega arith) (same_up a l) g.rest) w.rest;
        };
        exact = e.1;
        some = e.2;
        empty = w.empty;
      }
    where
      same_up : SameFrom c R S → c ≤ branches_for f.graves → SameFrom (branches_for f.graves) R S
      same_up a l = same_then c (branches_for f.graves) l (record { parents = refl; sorts = refl; places = refl; sets = refl }) a

module _ (f : Finds) (some : 0 < f.graves) (R U : Lent) (count : ℕ) where
  -- All kinds: the tree is that of all orders that fit.
  pub tree_built : (j : ℕ) → j ≡ length f.kinds → Standing f j count R U → Builds f R U (TreeBuilt 0 count)
  tree_built j e s =
      let w = subst (λ (i : ℕ). Standing f i count R U) e s in
      record { outcome = (refl, (w, subst (λ (g : Finds). Exactly g w.stage.tree) all w.exact), subst SomeFits all w.some); stages = kind_by_kind f some }
    where
      all : first_kinds (length f.kinds) f ≡ f
      all = ap (λ (ks : List (ℕ → Bool)). record { graves = f.graves; kinds = ks }) (take_all (length f.kinds) f.kinds (omega arith))

  -- A kind with which no order fits: none fits with more kinds.
  pub none_built : (j : ℕ) → j < length f.kinds → after f (suc j) ≡ torn → Standing f j count R U → Builds f R U (NoOrder j)
  none_built j h e s =
      record {
        outcome = (
          h,
          subst (Stands f) torn_at_end (whole_table f some),
          subst (Stands (first_kinds (suc j) f)) e (kind_by_kind f some (suc j) (omega arith)),
          (count, s),
        );
        stages = kind_by_kind f some;
      }
    where
      torn_at_end : after f (length f.kinds) ≡ torn
      torn_at_end = let z : length f.kinds ≡ (length f.kinds - suc j) + suc j = omega arith in ap (after f) z ∙ stays_torn f (suc j) (length f.kinds - suc j) e
