-- The tree without kinds, written cell by cell.
use Rattle.std.proofs.Common.{◌≡◌, ℕ, zero, suc, ◌+◌, ◌<◌, ◌≤◌, true, eqb, drop, sym, refl, ap, ◌∙◌, subst, ⊎_elim, zero-add, add-one, arith}
use lib.Bits.{bit_or}
use Rattle.std.proofs.lemmas.List.{drop-set-lt}
use Rattle.std.proofs.lemmas.Bool.{cases_lt}
use Rattle.finds.specs.Branches.{◌+++◌}
use Rattle.finds.specs.Finds.{Order}
use Rattle.finds.specs.Trees.{grave, any, none, more, Allows, len, graves_from, start}
use Rattle.finds.proofs.Counts.{allows_count}
use Rattle.finds.proofs.Start.{Whole, start_good, row_start, start_whole, fill, has_row}
use Rattle.trees.specs.Cells.{all_nodes, sets_of, Sound, Lent, held, shortest, Ats, Holds}
use Rattle.trees.specs.Sorts.{code_of}
use Rattle.trees.specs.Starting.{SameFrom, Graves, GraveCell}
use Rattle.trees.specs.declared.rows.Cell.{Cell}
use Rattle.trees.proofs.Cells.{ats_at, ats_plus}
use Rattle.trees.proofs.Sets.{sets_more}
use Rattle.trees.proofs.Writing.{ats_kept, Put, Written, written, put_kept}

from_more : (i m : ℕ) → graves_from i (suc m) ≡ graves_from i m +++ more (grave (i + m)) none
from_more i zero = ap (λ (x : ℕ). more (grave x) none) (omega arith)
from_more i (suc m) = ap (more (grave i)) (from_more (suc i) m ∙ ap (λ (x : ℕ). graves_from (suc i) m +++ more (grave x) none) (omega arith))

from_many : (i m : ℕ) → (all_nodes (graves_from i m) ≡ m) × (len (graves_from i m) ≡ m)
from_many i zero = (refl, refl)
from_many i (suc m) = let r = from_many (suc i) m in (omega arith, omega arith)

from_next : (n : ℕ) → graves_from 0 (n + 1) ≡ graves_from 0 n +++ more (grave n) none
from_next n = ap (graves_from 0) (add-one n) ∙ from_more 0 n ∙ ap (λ (x : ℕ). graves_from 0 n +++ more (grave x) none) (zero-add n)

-- One grave more is written.
pub graves_more : {n all : ℕ} {cell : Cell} {before r after : Lent} → Graves n all before r → GraveCell n cell → Put (n + 1) cell.parent (code_of cell.sort) cell.place cell.graves r after → n + 1 < shortest r → Graves (n + 1) (bit_or all cell.graves) before after
graves_more {n} {all} {cell} {r = r} {after = after} h c w l = record {
  lie =
      subst (Ats (held after) 1 0 0) (sym (from_next n))
      (ats_plus (held after) 1 0 0 (graves_from 0 n) (more (grave n) none)
      (ats_kept (held r) (held after) 1 0 0 (graves_from 0 n) (λ x a b. x_is.others x (omega (arith, many.0))) h.lie)
      (ats_at (held after) 0 (more (grave n) none) (omega (arith, many.0)) (omega (arith, many.1))
      (x_is.parent_is ∙ c.parent, x_is.place_is ∙ c.place, (x_is.sort_is ∙ c.sort, x_is.set_is ∙ c.graves), tt)));
  set_is = ap (λ (x : ℕ). bit_or x cell.graves) h.set_is ∙ ap (bit_or (sets_of (graves_from 0 n))) c.graves ∙ sym (ap sets_of (from_next n) ∙ sets_more (graves_from 0 n) (grave n));
  kept = put_kept (n + 1) w h.kept;
}
  where
    x_is : Written (held r) (held after) (n + 1) cell.parent (code_of cell.sort) cell.place cell.graves
    x_is = written w l

    many : (all_nodes (graves_from 0 n) ≡ n) × (len (graves_from 0 n) ≡ n)
    many = from_many 0 n

start_any : (n : ℕ) → 2 ≤ n → start n ≡ any (graves_from 0 n)
start_any zero h = absurd (omega arith)
start_any (suc zero) h = absurd (omega arith)
start_any (suc (suc n)) h = refl

-- The graves are written, and the cell above them too: that is the tree without kinds.
pub graves_all : {n all : ℕ} {before r after : Lent} → 2 ≤ n → Graves n all before r → Put 0 0 1 0 all r after → 0 < shortest r → Holds (held after) (n + 1) (start n) × SameFrom (n + 1) before after
graves_all {n} {all} {r = r} {after = after} two h w l = (
  subst (Holds (held after) (n + 1)) (sym (start_any n two)) whole,
  record {
    parents = ap (drop (n + 1)) w.parents ∙ drop-set-lt (n + 1) r.parents 0 0 (omega arith) ∙ h.kept.parents;
    sorts = ap (drop (n + 1)) w.sorts ∙ drop-set-lt (n + 1) r.sorts 0 1 (omega arith) ∙ h.kept.sorts;
    places = ap (drop (n + 1)) w.places ∙ drop-set-lt (n + 1) r.places 0 0 (omega arith) ∙ h.kept.places;
    sets = ap (drop (n + 1)) w.sets ∙ drop-set-lt (n + 1) r.sets 0 all (omega arith) ∙ h.kept.sets;
  },
)
  where
    x_is : Written (held r) (held after) 0 0 1 0 all
    x_is = written w l

    whole : Holds (held after) (n + 1) (any (graves_from 0 n))
    whole = record {
      top = x_is.parent_is;
      first = x_is.place_is;
      body = (x_is.sort_is, x_is.set_is ∙ h.set_is, ats_kept (held r) (held after) 1 0 0 (graves_from 0 n) (λ x a b. x_is.others x (omega arith)) h.lie);
      many = omega (arith, (from_many 0 n).0);
    }

-- The tree without kinds is sound: it has each grave as often as the row of an order has it.
pub start_sound : (n : ℕ) → 0 < n → n ≤ 64 → Sound (start n)
start_sound n some few = record {
  good = start_good n some;
  once = λ g. let e = allows_count (eqb g) true a in ⊎_elim (λ l. omega (arith, w.once g l)) (λ l. omega (arith, w.never g l)) (cases_lt g n);
  small = λ g l. sym (allows_count (eqb g) true a) ∙ w.never g (omega arith);
}
  where
    o : Order n
    o = record { place = λ g. g; within = λ g l. l; apart = λ g h a b e. e }

    a : Allows (start n) (fill o n)
    a = row_start n some o (fill o n) (has_row o)

    w : Whole n (fill o n)
    w = start_whole n some (fill o n) a
