use Rattle.std.proofs.Common.{◌≡◌, ℕ, Bool, false, ◌⊎◌, Decides, sym, ap, ◌∙◌, subst, arith}
use Rattle.finds.specs.Finds.{Finds}
use Rattle.finds.specs.Trees.{Tree}
use Rattle.trees.specs.Cells.{kids, Sound}
use Rattle.trees.specs.Rows.{seen}
use Rattle.trees.specs.Subtrees.{Is}
use Rattle.trees.specs.declared.subtree.Subtree.{Subtree}
use Rattle.trees.specs.declared.whole.WholeTree.{WholeTree}
use Rattle.trees.proofs.Deciding.{not_so}
use Rattle.trees.proofs.Finding.{had_standing}
use Rattle.certain.specs.Certain.{Between}
use Rattle.certain.specs.Middle.{Middle}
use Rattle.certain.specs.Shown.{ShownBy}
use Rattle.certain.proofs.Descent.{Narrowed, narrowed_more, decided, gone, kids_in, parting}
use Rattle.trees.proofs.Sorts.{same_sort, other_sort}
use Rattle.trees.specs.Sorts.{code_of}
use Rattle.trees.specs.declared.rows.Sort.TheVariants.{Row}
use Rattle.certain.proofs.between.is_certain.Goals as goal

-- One of the three is in no branch.
none_between : {a b c : ℕ} {w : WholeTree} {s : Subtree} → Narrowed a b c w s → ((u : Tree) → Is s u → Sound u → Middle a b c u → ⊥) → (f : Finds) (t : Tree) → ShownBy w f t → Decides false (Between f a b c)
none_between k n = decided false k (λ u p s. not_so (n u p s))

pub returns-in_default : goal.returns-in_default
returns-in_default c =
    none_between c.loop-x.invariant (λ u p s m. gone c.args.a (kids u) (c.in_default.ensures.found u p) (kids_in c.args.a c.args.b c.args.c u m).0)

pub returns-in_default-branch_with : goal.returns-in_default-branch_with
returns-in_default-branch_with c =
    none_between c.loop-x.invariant (λ u p s m. gone c.args.b (kids u) (c.in_default-branch_with.ensures.found u p) (kids_in c.args.a c.args.b c.args.c u m).1)

pub returns-in_default-branch_with-2 : goal.returns-in_default-branch_with-2
returns-in_default-branch_with-2 c =
    none_between c.loop-x.invariant (λ u p s m. gone c.args.c (kids u) (c.in_default-branch_with-2.ensures.found u p) (kids_in c.args.a c.args.b c.args.c u m).2)

-- They are not all in one branch.
not_one : (x y z : ℕ) → (x ≡ y → ⊥) ⊎ ((x ≡ y) × (y ≡ z → ⊥)) → (x ≡ y) × (y ≡ z) → ⊥
not_one x y z h k = omega (arith, k.0, k.1)

pub returns-then-eq : goal.returns-then-eq
returns-then-eq c = decided _ c.loop-x.invariant (λ u p s.
    let k = parting (seen c.loop-x.part.rows) s p.0 (c.in-Some.ensures.found u p) (c.in-Some-branch_with.ensures.found u p) (c.in-Some-branch_with-2.ensures.found u p) (not_one c.in-Some.x.root c.in-Some-branch_with.y.root c.in-Some-branch_with-2.z.root c.then-x-y.either) in
    ((λ e. k.1 (sym c.sort.ensures ∙ ap code_of (same_sort c.sort.result Row c.if-eq.ensures)) (c.is_amid.ensures.0 e)), λ m. c.is_amid.ensures.1 (k.0 m).1))

pub returns-else-eq : goal.returns-else-eq
returns-else-eq c = subst (λ (r : Bool). (f : Finds) (t : Tree) → ShownBy c.args.tree f t → Decides r (Between f c.args.a c.args.b c.args.c)) (sym c.if-eq.false)
    (none_between c.loop-x.invariant (λ u p s m.
    let k = parting (seen c.loop-x.part.rows) s p.0 (c.in-Some.ensures.found u p) (c.in-Some-branch_with.ensures.found u p) (c.in-Some-branch_with-2.ensures.found u p) (not_one c.in-Some.x.root c.in-Some-branch_with.y.root c.in-Some-branch_with-2.z.root c.then-x-y.either) in
    other_sort c.sort.result Row c.if-eq.ensures (c.sort.ensures ∙ (k.0 m).0)))

pub loop-x-smaller : goal.loop-x-smaller
loop-x-smaller c =
    let h = had_standing c.loop-x.part.stands in
    let w = c.in-Some-branch_with.ensures.found h.tree h.part in
    omega (arith, c.in-Some-branch_with.ensures.same.count, w.at, (had_standing c.in-Some-branch_with.y.stands).below)

pub loop-x-preserved : goal.loop-x-preserved
loop-x-preserved c = narrowed_more c.loop-x.invariant c.in-Some.ensures.found c.in-Some-branch_with.ensures.same c.in-Some-branch_with.ensures.found c.in-Some-branch_with-2.ensures.found c.if-x-y.false c.if-y-z.false
