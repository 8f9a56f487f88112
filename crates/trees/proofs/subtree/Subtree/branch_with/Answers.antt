use Rattle.std.proofs.Common.{◌≡◌, ℕ, true, false, sym, refl, ap, ◌∙◌, arith}
use Rattle.std.proofs.lemmas.Bool.{eqb-true, eqb-false}
use Rattle.finds.specs.Branches.{◌+++◌}
use Rattle.finds.specs.Trees.{Tree, Trees, none, more}
use Rattle.finds.specs.Sets.{bit, has}
use Rattle.trees.specs.Cells.{set_of, sets_of}
use Rattle.finds.proofs.Bits.{bit_of_or, bit_low, bit_zero}
use Rattle.trees.proofs.Sets.{sets_more}
use Rattle.finds.proofs.Size.{some_nodes}
use Rattle.trees.proofs.Finding.{had_standing}
use Rattle.trees.proofs.Stepping.{set_is, ahead, goes_on, same_ahead, going_start, going_ahead, going_more, going_end}
use Rattle.trees.proofs.subtree.Subtree.branch_with.Goals as goal

-- None of the branches that are done has the grave.
abbrev Without : ℕ → Tree → Trees → Trees → Type 0
Without g t done rest = bit g (sets_of done) ≡ 0

-- What the set of a cell has, the branch there has.
found : (g s : ℕ) (t : Tree) → s ≡ set_of t → true ≡ has s g → bit g (set_of t) ≡ 1
found g s t e h = ap (bit g) (sym e) ∙ eqb-true (bit g s) 1 (sym h)

-- If it lacks the grave, one branch more is passed.
passed : (g s : ℕ) (done : Trees) (t : Tree) → s ≡ set_of t → bit g (sets_of done) ≡ 0 → false ≡ has s g → bit g (sets_of (done +++ more t none)) ≡ 0
passed g s done t e w h =
    let n = eqb-false (bit g s) 1 (sym h) in
    let l = bit_low g s in
    let x = ap (bit g) e in
    let y = ap (bit g) (sets_more done t) ∙ bit_of_or g (sets_of done) (set_of t) in
    omega arith

pub loop-branch-init : goal.loop-branch-init
loop-branch-init c = going_start (Without c.args.grave) c.branches-left.ensures refl (λ t p. bit_zero c.args.grave)

pub returns-then-contains-clause-found : goal.returns-then-contains-clause-found
returns-then-contains-clause-found c = λ t p.
    let x = going_ahead c.loop-branch.invariant c.in-Some.ensures t p in
    record { before = x.done; it = x.it; behind = x.rest; is = x.is; at = x.at; in_it = found c.args.grave _ x.it (c.graves.ensures ∙ set_is c.in-Some.branch x.it x.part) c.if-contains.ensures }

pub loop-branch-preserved : goal.loop-branch-preserved
loop-branch-preserved c =
    let y = goes_on c.in-Some.ensures c.next.result c.next.ensures.steps in
    going_more (Without c.args.grave) c.loop-branch.invariant y.1
    (λ t p x. passed c.args.grave _ x.done x.it (c.graves.ensures ∙ same_ahead c.in-Some.ensures (ahead y.1) ∙ set_is y.0 x.it x.part) x.so c.if-contains.ensures)

pub loop-branch-smaller : goal.loop-branch-smaller
loop-branch-smaller c =
    let y = goes_on c.in-Some.ensures c.next.result c.next.ensures.steps in
    let h = had_standing y.0.stands in
    omega (arith, y.1.at_after h.tree h.part, some_nodes h.tree, y.1.root, y.1.end_after, y.1.some)

pub returns-clause-found : goal.returns-clause-found
returns-clause-found c = going_end c.loop-branch.invariant c.in_default.ensures
