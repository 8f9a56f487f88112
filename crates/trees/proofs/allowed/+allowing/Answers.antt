use Rattle.std.proofs.Common.{◌≡◌, ℕ, ◌+◌, ◌-◌, ◌≤◌, ◌<◌, Bool, true, false, not, List, length, get_or, take, drop, Some, None, Decides, ⊎_elim, sym, refl, ap, ◌∙◌, subst, add-zero, arith}
use Rattle.std.proofs.lemmas.List.{length-take, length-drop, get_or-drop, drop-drop}
use Rattle.std.proofs.lemmas.Option.{get_or_from_slice_get, slice_get_within, slice_get-get_or, none-some}
use Rattle.std.proofs.lemmas.Bool.{cases_lt}
use Rattle.std.specs.List.{slice_get}
use lib.Bits.{bit_xor}
use lib.Count.{ones}
use Rattle.finds.specs.Sets.{bit, has}
use Rattle.finds.specs.Trees.{Tree, grave, any, row, Allows}
use Rattle.finds.proofs.Parity.{not_not}
use Rattle.trees.specs.Cells.{size, set_of, sets_of, kids, Cells, Body, Part, Sound}
use Rattle.trees.specs.Reading.{beginning_of}
use Rattle.trees.specs.Rows.{seen}
use Rattle.trees.specs.Sorts.{code_of}
use Rattle.trees.specs.Subtrees.{Is, set_at, Within}
use Rattle.trees.specs.Walks.{BranchWith}
use Rattle.trees.specs.declared.subtree.Subtree.{Subtree}
use Rattle.trees.proofs.Allowing.{grave_allows}
use Rattle.trees.proofs.Deciding.{so, not_so, denied}
use Rattle.trees.proofs.Finding.{had_standing}
use Rattle.trees.proofs.Picking.{Picked, Pick, picked_start, pick, pick_size, picked_more, picked_not, picked_gone, picked_none, picked_end}
use Rattle.trees.proofs.Standing.{stands_size, part_size, kids_set, kids_size, kids_room, is_any}
use Rattle.trees.proofs.Stepping.{set_is, branch_is, going_start, going_within, going_next, going_more, going_end, branch_sound, size_is}
use Rattle.trees.proofs.Walking.{with_sound}
use Rattle.trees.proofs.Taking.{Taken, taken_start, taken_more, taken_not, taken_end, way}
use Rattle.trees.proofs.allowed.+allowing.Goals as goal

-- ---- branches in any order

as_any : (R : Cells) (i : ℕ) (t : Tree) (l : List ℕ) (r : Bool) → Body R i t → R.sort i ≡ 1 → Decides r (Allows (any (kids t)) l) → Decides r (Allows t l)
as_any R i t l r b e = subst (λ (z : Tree). Decides r (Allows z l)) (sym (is_any R i t b e))

-- The first grave of what is left is the next of the row.
record Next (l : List ℕ) (at g : ℕ) : Type 0 where
  pub some : at < length l
  pub is : g ≡ get_or l at 0

next_grave : (l r : List ℕ) (at g : ℕ) → r ≡ drop at l → Some g ≡ slice_get r 0 → Next l at g
next_grave l r at g e h = record {
  some = (let a = slice_get_within r 0 g (sym h) in let b = ap length e in let d = length-drop at l in omega arith);
  is = sym (get_or_from_slice_get r 0 g 0 (sym h)) ∙ ap (λ (x : List ℕ). get_or x 0 0) e ∙ get_or-drop at l 0 0 ∙ ap (λ (x : ℕ). get_or l x 0) (add-zero at);
}

pub any_allows-loop-grave-init : goal.any_allows-loop-grave-init
any_allows-loop-grave-init t c = (
  0,
  omega arith,
  refl,
  λ u p s.
      let l : 1 ≤ (seen c.args.part.rows).sort c.args.part.root = omega (arith, c.requires.sort) in
      picked_start u c.args.row.now _ (c.graves-left.ensures ∙ (kids_set (seen c.args.part.rows) c.args.part.root u p.0 l).0)
      (kids_size (seen c.args.part.rows) c.args.part.count c.args.part.root u p s l ∙ sym c.requires.long),
)

pub any_allows-returns-then-not-contains : goal.any_allows-returns-then-not-contains
any_allows-returns-then-not-contains t c = λ u p s.
    let i = c.loop-grave.invariant in
    let n = next_grave c.args.row.now c.loop-grave.rest.now i.0 c.in-Some.grave.now i.2 c.in-Some.ensures.value in
    as_any (seen c.args.part.rows) c.args.part.root u c.args.row.now false p.0 c.requires.sort
    (not_so (picked_gone s (i.3 u p s) n.some (ap (has c.loop-grave.left) (sym n.is) ∙ sym c.if-not-contains.ensures)))

pub any_allows-returns-in_default-branch_with : goal.any_allows-returns-in_default-branch_with
any_allows-returns-in_default-branch_with t c = λ u p s.
    let i = c.loop-grave.invariant in
    let n = next_grave c.args.row.now c.loop-grave.rest.now i.0 c.in-Some.grave.now i.2 c.in-Some.ensures.value in
    as_any (seen c.args.part.rows) c.args.part.root u c.args.row.now false p.0 c.requires.sort
    (not_so (picked_none u c.args.row.now i.0 n.some (ap (λ (g : ℕ). bit g (sets_of (kids u))) (sym n.is) ∙ c.in_default-branch_with.ensures.found u p)))

-- What is known of the branch with the next grave, in a tree that stands there.
record Picks (l : List ℕ) (at left : ℕ) (s b : Subtree) (u : Tree) (q : Picked u l left at) : Type 0 where
  pub it : Tree
  pub is : Is b it
  pub sound : Sound it
  pub pick : Pick q.rest it
  pub has_it : bit (get_or l at 0) (set_of it) ≡ 1
  pub size_is : ones (set_at b) ≡ size it

picks : {l : List ℕ} {at left g : ℕ} {s b : Subtree} (u : Tree) → Is s u → (h : Sound u) → (q : Picked u l left at) → Next l at g → has left g ≡ true → Within s b → BranchWith s.root g u b.root → Picks l at left s b u q
picks {l} {at} {left} {g} {s} {b} u p h q n e i w =
    let v : BranchWith s.root (get_or l at 0) u b.root = subst (λ (x : ℕ). BranchWith s.root x u b.root) n.is w in
    let sound = with_sound h v in
    let is = branch_is i v p in
    record { it = v.it; is = is; sound = sound; pick = pick h q v (subst (λ (x : ℕ). has left x ≡ true) n.is e); has_it = v.in_it; size_is = size_is b v.it is sound }

-- The first part of what is left, as a part of the row.
its_part : (l r x : List ℕ) (at k m : ℕ) → r ≡ drop at l → x ≡ take k r → k ≡ m → x ≡ take m (drop at l)
its_part l r x at k m e h z = h ∙ ap (take k) e ∙ ap (λ (y : ℕ). take y (drop at l)) z

pub any_allows-split_at-requires : goal.any_allows-split_at-requires
any_allows-split_at-requires t c =
    let i = c.loop-grave.invariant in
    let n = next_grave c.args.row.now c.loop-grave.rest.now i.0 c.in-Some.grave.now i.2 c.in-Some.ensures.value in
    let z = had_standing c.args.part.stands in
    let u = z.tree in
    let p = z.part in
    let s = z.sound in
    let k = picks u p s (i.3 u p s) n (sym c.if-not-contains.ensures) c.in-Some-branch_with.ensures.same (c.in-Some-branch_with.ensures.found u p) in
    let a = (pick_size s (i.3 u p s) k.pick).1 in
    let b = ap length i.2 in
    let d = length-drop i.0 c.args.row.now in
    omega (arith, c.size.ensures.many, k.size_is)

pub any_allows-part_allows-requires : goal.any_allows-part_allows-requires
any_allows-part_allows-requires t c =
    let z = had_standing c.args.part.stands in
    let b = c.in-Some-branch_with.ensures.found z.tree z.part in
    let w = c.in-Some-branch_with.ensures.same in
    (omega (arith, c.decreases, b.at, w.count, (had_standing c.in-Some-branch_with.branch.stands).below), c.split_at.ensures.front_len ∙ c.size.ensures.many)

pub any_allows-returns-then-not-part_allows : goal.any_allows-returns-then-not-part_allows
any_allows-returns-then-not-part_allows t c = λ u p s.
    let i = c.loop-grave.invariant in
    let n = next_grave c.args.row.now c.loop-grave.rest.now i.0 c.in-Some.grave.now i.2 c.in-Some.ensures.value in
    let k = picks u p s (i.3 u p s) n (sym c.if-not-contains.ensures) c.in-Some-branch_with.ensures.same (c.in-Some-branch_with.ensures.found u p) in
    as_any (seen c.args.part.rows) c.args.part.root u c.args.row.now false p.0 c.requires.sort
    (not_so (picked_not s (i.3 u p s) k.pick n.some k.has_it
    (λ a. denied (c.if-not-part_allows.ensures k.it k.is k.sound) (subst (Allows k.it) (sym (its_part c.args.row.now c.loop-grave.rest.now c.split_at.result.0.now i.0 c.size.result (size k.it) i.2 c.split_at.ensures.front (c.size.ensures.many ∙ k.size_is))) a))))

pub any_allows-loop-grave-preserved : goal.any_allows-loop-grave-preserved
any_allows-loop-grave-preserved t c =
    let i = c.loop-grave.invariant in
    let n = next_grave c.args.row.now c.loop-grave.rest.now i.0 c.in-Some.grave.now i.2 c.in-Some.ensures.value in
    let back = c.split_at.ensures.back ∙ ap (drop c.size.result) i.2 ∙ drop-drop c.size.result i.0 c.args.row.now in (
      i.0 + c.size.result,
      (let b = ap length i.2 in let d = length-drop i.0 c.args.row.now in omega (arith, c.split_at.ensures.back_len, i.1)),
      back,
      λ u p s.
          let k = picks u p s (i.3 u p s) n (sym c.if-not-contains.ensures) c.in-Some-branch_with.ensures.same (c.in-Some-branch_with.ensures.found u p) in
          let e = c.size.ensures.many ∙ k.size_is in
          let a = (c.if-not-part_allows.ensures k.it k.is k.sound).0 refl in
          let r = picked_more s (i.3 u p s) k.pick n.some k.has_it (subst (Allows k.it) (its_part c.args.row.now c.loop-grave.rest.now c.split_at.result.0.now i.0 c.size.result (size k.it) i.2 c.split_at.ensures.front e) a) in
          subst (λ (x : ℕ). Picked u c.args.row.now (bit_xor c.loop-grave.left c.graves-left-in-Some.result) (i.0 + x)) (sym e)
          (subst (λ (x : ℕ). Picked u c.args.row.now (bit_xor c.loop-grave.left x) (i.0 + size k.it)) (sym (c.graves-left-in-Some.ensures ∙ set_is c.in-Some-branch_with.branch k.it k.is)) r),
    )

-- Where there is no first grave, none is left.
none_left : (l : List ℕ) → None ≡ slice_get l 0 → length l ≡ 0
none_left l e = ⊎_elim (λ h. absurd (none-some (get_or l 0 0) (e ∙ slice_get-get_or l 0 0 h))) (λ h. omega arith) (cases_lt 0 (length l))

pub any_allows-returns : goal.any_allows-returns
any_allows-returns t c = λ u p s.
    let i = c.loop-grave.invariant in
    as_any (seen c.args.part.rows) c.args.part.root u c.args.row.now true p.0 c.requires.sort (so (picked_end s (i.3 u p s) (omega (arith, ap length i.2, length-drop i.0 c.args.row.now, none_left c.loop-grave.rest.now c.in_default.ensures.value))))

-- ---- branches in a row

-- The part of the row for the next branch.
next_part : (l : List ℕ) (b : Bool) (at many k begin : ℕ) → many ≡ k → begin ≡ beginning_of b at many (length l) → take (begin + many - begin) (drop begin l) ≡ take k (drop (beginning_of b at k (length l)) l)
next_part l b at many k begin e h =
    ap (λ (x : ℕ). take x (drop begin l)) (let z : begin + many - begin ≡ k = omega arith in z) ∙ ap (λ (x : ℕ). take k (drop x l)) (h ∙ ap (λ (x : ℕ). beginning_of b at x (length l)) e)

-- A cell of branches in a row has one behind it.
behind : (s : Subtree) → (seen s.rows).sort s.root ≡ 2 → (s.root + 1 < s.count) × (s.count ≤ 127) × (s.root + 1 < length s.rows.sets.now)
behind s e =
    let h = had_standing s.stands in
    let r = kids_room (seen s.rows) s.count s.root h.tree h.part h.sound (omega arith) in
    (r, h.few, omega (arith, h.long.sets_long))

pub row_allows-offset_bounds-part-part : goal.row_allows-offset_bounds-part-part
row_allows-offset_bounds-part-part t c = let b = behind c.args.part c.requires.sort in omega arith

pub row_allows-bounds-part-part : goal.row_allows-bounds-part-part
row_allows-bounds-part-part t c = (behind c.args.part c.requires.sort).2

-- A part has a grave, so the row has one.
some_row : (s : Subtree) (l : List ℕ) → length l ≡ ones (set_at s) → 0 < length l
some_row s l e = let h = stands_size (had_standing s.stands) in omega arith

pub row_allows-bounds-row-0 : goal.row_allows-bounds-row-0
row_allows-bounds-row-0 t c = some_row c.args.part c.args.row.now c.requires.long

pub row_allows-loop-branch-init : goal.row_allows-loop-branch-init
row_allows-loop-branch-init t c = going_start _ c.branches-branch-items.ensures c.into_iter-branch-iterator.ensures.into_iter_gives
    (λ u p s. taken_start (not c.contains-back.result) c.args.row.now u (kids_size (seen c.args.part.rows) c.args.part.count c.args.part.root u p s (omega (arith, c.requires.sort)) ∙ sym c.requires.long))

pub row_allows-begin_of-begin-requires : goal.row_allows-begin_of-begin-requires
row_allows-begin_of-begin-requires t c =
    let s = had_standing c.args.part.stands in
    let x = going_next c.loop-branch.invariant c.in-Some.ensures.steps s.tree s.part in
    let e = c.size-many.ensures.many ∙ size_is c.in-Some.branch x.it x.part (branch_sound s.sound x) in
    let l = (x.so s.sound).long in
    omega arith

pub row_allows-part_allows-requires : goal.row_allows-part_allows-requires
row_allows-part_allows-requires t c =
    let s = had_standing c.args.part.stands in
    let x = going_next c.loop-branch.invariant c.in-Some.ensures.steps s.tree s.part in
    let w = going_within c.loop-branch.invariant c.in-Some.ensures.steps in (
      omega (arith, c.decreases, x.at, w.count, (had_standing c.in-Some.branch.stands).below),
      simp (length-take, length-drop) (omega (arith, c.size-many.ensures.many, c.begin_of-begin.ensures.within)),
    )

pub row_allows-returns-then-not-part_allows : goal.row_allows-returns-then-not-part_allows
row_allows-returns-then-not-part_allows t c = λ u p s.
    let x = going_next c.loop-branch.invariant c.in-Some.ensures.steps u p in
    let q = branch_sound s x in
    let e = c.size-many.ensures.many ∙ size_is c.in-Some.branch x.it x.part q in
    let w = way (seen c.args.part.rows) c.args.part.root u c.args.row.now (not c.contains-back.result) p.0 c.requires.sort s (some_row c.args.part c.args.row.now c.requires.long) (sym c.contains-back.ensures ∙ sym (not_not c.contains-back.result)) in
    not_so (λ a. taken_not (x.so s)
    (λ h. denied (c.if-not-part_allows.ensures x.it x.part q)
    (subst (Allows x.it) (sym (next_part c.args.row.now (not c.contains-back.result) c.loop-branch.at c.size-many.result (size x.it) c.begin_of-begin.result e c.begin_of-begin.ensures.begins)) h))
    (w.0 a))

pub row_allows-overflow_add-at : goal.row_allows-overflow_add-at
row_allows-overflow_add-at t c =
    let s = had_standing c.args.part.stands in
    let x = going_next c.loop-branch.invariant c.in-Some.ensures.steps s.tree s.part in
    let e = c.size-many.ensures.many ∙ size_is c.in-Some.branch x.it x.part (branch_sound s.sound x) in
    let l = (x.so s.sound).long in
    let f = stands_size s in
    omega (arith, c.requires.long)

pub row_allows-loop-branch-preserved : goal.row_allows-loop-branch-preserved
row_allows-loop-branch-preserved t c = going_more _ c.loop-branch.invariant c.in-Some.ensures.steps (λ u p x s.
    let q = branch_sound s x in
    let e = c.size-many.ensures.many ∙ size_is c.in-Some.branch x.it x.part q in
    let a = (c.if-not-part_allows.ensures x.it x.part q).0 refl in
    subst (λ (k : ℕ). Taken (not c.contains-back.result) (c.loop-branch.at + k) c.args.row.now u x.rest) (sym e)
    (taken_more (x.so s) (subst (Allows x.it) (next_part c.args.row.now (not c.contains-back.result) c.loop-branch.at c.size-many.result (size x.it) c.begin_of-begin.result e c.begin_of-begin.ensures.begins) a)))

pub row_allows-returns : goal.row_allows-returns
row_allows-returns t c = λ u p s.
    so ((way (seen c.args.part.rows) c.args.part.root u c.args.row.now (not c.contains-back.result) p.0 c.requires.sort s (some_row c.args.part c.args.row.now c.requires.long) (sym c.contains-back.ensures ∙ sym (not_not c.contains-back.result))).1
    (taken_end (going_end c.loop-branch.invariant c.in-None.ensures.steps.0 u p s)))

-- ---- the three sorts

pub part_allows-bounds-row-0 : goal.part_allows-bounds-row-0
part_allows-bounds-row-0 t c = some_row c.args.part c.args.row.now c.requires

-- A grave allows itself alone.
at_grave : (R : Cells) (n i : ℕ) (t : Tree) (l : List ℕ) (r : Bool) → Part R n i t → Sound t → R.sort i ≡ 0 → length l ≡ ones (R.set i) → r ≡ has (R.set i) (get_or l 0 0) → Decides r (Allows t l)
at_grave R n i (grave g) l r p s z e h =
    subst (λ (b : Bool). Decides b (Allows (grave g) l)) (ap (λ (x : ℕ). has x (get_or l 0 0)) (sym p.0.1) ∙ sym h) (grave_allows g l (e ∙ part_size R n i (grave g) p s))
at_grave R n i (any ts) l r p s z e h = absurd (omega (arith, p.0.0))
at_grave R n i (row ts) l r p s z e h = absurd (omega (arith, p.0.0))

pub part_allows-returns-in-Grave : goal.part_allows-returns-in-Grave
part_allows-returns-in-Grave t c = λ u p s.
    at_grave (seen c.args.part.rows) c.args.part.count c.args.part.root u c.args.row.now c.contains.result p s (sym c.sort.ensures ∙ ap code_of c.in-Grave.is) c.requires
    (c.contains.ensures ∙ ap (λ (x : ℕ). has x (get_or c.args.row.now 0 0)) c.graves.ensures)
