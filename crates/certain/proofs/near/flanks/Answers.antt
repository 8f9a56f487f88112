use Rattle.std.proofs.Common.{◌≡◌, ℕ, ◌+◌, ◌-◌, ◌<◌, List, ◌++◌, length, sym, ap, ◌∙◌, arith}
use Rattle.finds.specs.Trees.{Tree, all_graves}
use Rattle.trees.specs.Cells.{nodes, Sound}
use Rattle.trees.specs.Rows.{seen}
use Rattle.trees.specs.Subtrees.{Is, Within}
use Rattle.trees.specs.declared.subtree.Subtree.{Subtree}
use Rattle.trees.proofs.Finding.{had_standing}
use Rattle.trees.proofs.Stepping.{beside}
use Rattle.certain.specs.Near.{BranchAt}
use Rattle.certain.proofs.Ends.{stands_at, branch_part, before_it, behind_it, none_before_it, none_behind_it}
use Rattle.trees.proofs.Sorts.{same_unless, other_if}
use Rattle.trees.specs.Sorts.{code_of}
use Rattle.trees.specs.declared.rows.Sort.TheVariants.{Row}
use Rattle.certain.proofs.near.flanks.Goals as goal
use Rattle.certain.proofs.near.flanks.Goals.{then-ne-via-then-ne, then-ne-via-else-ne+then-branch-part}

-- Where the branch ends.
ended : {s b : Subtree} {u : Tree} {e : ℕ} → Within s b → Is s u → Sound u → (w : BranchAt s.root b.root u) → ((t : Tree) → Is b t → e ≡ b.root + nodes t) → e ≡ b.root + nodes w.it
ended {s} i p h w f = f w.it (beside w.it i (branch_part (seen s.rows) s.count p h w))

pub returns-then-ne : goal.returns-then-ne
returns-then-ne c = λ u p s w e x y.
    let R = seen c.args.part.rows in
    elim c.then-ne.branch [
      | then-ne-via-then-ne k ↦ other_if c.sort.result Row k.if-ne.ensures (c.sort.ensures ∙ e)
      | then-ne-via-else-ne+then-branch-part k ↦ none_before_it R c.args.part.count p s w k.if-branch-part.true x
    ]

pub returns-then-end : goal.returns-then-end
returns-then-end c = λ u p s w e x y.
    none_behind_it (seen c.args.part.rows) c.args.part.count p s w _ _ (ended c.requires.within p s w c.end-end.ensures.end) (c.end.ensures.end u p) c.if-end.true y

-- The branch lies within the rows.
inside : {s b : Subtree} → Within s b → (b.root < 127) × (b.root < length s.rows.sets.now)
inside {s} {b} i = let h = had_standing b.stands in let o = had_standing s.stands in omega (arith, i.count, h.below, o.few, o.long.sets_long)

pub overflow_sub-last : goal.overflow_sub-last
overflow_sub-last c = let s = had_standing c.args.part.stands in let w = (c.requires.branch s.tree s.part).at in omega arith

pub offset_bounds-part-branch : goal.offset_bounds-part-branch
offset_bounds-part-branch c = let i = inside c.requires.within in omega arith

pub bounds-part-branch : goal.bounds-part-branch
bounds-part-branch c = let i = inside c.requires.within in omega arith

pub invariant_of-next : goal.invariant_of-next
invariant_of-next c =
    let s = had_standing c.args.part.stands in
    let R = seen c.args.part.rows in
    let n = c.args.part.count in
    let w = c.requires.branch s.tree s.part in
    let k = behind_it R n s.part s.sound w _ _ (ended c.requires.within s.part s.sound w c.end-end.ensures.end) (c.end.ensures.end s.tree s.part) c.if-end.false in
    record { stands = ∣ stands_at s c.end-end.result k.next k.part k.sound ∣₁ }

pub returns : goal.returns
returns c = λ u p s w.
    let R = seen c.args.part.rows in
    let n = c.args.part.count in
    let a = before_it R n p s w (c.args.branch.root - 1) (let z = w.at in omega arith) c.if-branch-part.false in
    let k = behind_it R n p s w _ _ (ended c.requires.within p s w c.end-end.ensures.end) (c.end.ensures.end u p) c.if-end.false in
    let b = c.first_grave.ensures k.next k.part k.sound in (
      sym c.sort.ensures ∙ ap code_of (same_unless c.sort.result Row c.if-ne.ensures),
      record {
        fore = a.0;
        rest = b.0 ++ all_graves k.others;
        last = a.1;
        first = ap all_graves k.is ∙ ap (λ (z : List ℕ). z ++ all_graves k.others) b.1;
      },
    )
