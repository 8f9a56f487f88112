use Rattle.std.proofs.Common.{◌≡◌, ℕ, ◌+◌, ◌-◌, ◌*◌, ◌^◌, ◌<◌, ◌≤◌, sym, ap, ◌∙◌, subst, arith}
use Rattle.finds.specs.Trees.{Tree}
use Rattle.trees.specs.Cells.{Cells, Holds}
use Rattle.trees.specs.Rows.{seen}
use Rattle.certain.specs.Counting.{product, Number, Fitting}
use Rattle.certain.specs.Factors.{factor}
use Rattle.certain.proofs.Counting.{number_fitting}
use Rattle.certain.proofs.Factors.{factors, factors_more, factors_grow, tree_factors}
use Rattle.certain.proofs.number.orders.Goals as goal

-- One cell more.
more : (R : Cells) (a f i : ℕ) → a ≡ factors R 0 i → f ≡ factor R i → a * f ≡ factors R 0 (i + 1)
more R a f i e h = ap (λ (x : ℕ). x * f) e ∙ ap (λ (x : ℕ). factors R 0 i * x) h ∙ sym (factors_more R i)

-- If the product over some cells is too large, so is that over all.
large : (R : Cells) (a f i n : ℕ) (t : Tree) → a ≡ factors R 0 i → f ≡ factor R i → i < n → (a * f < 2 ^ 64 → ⊥) → Holds R n t → 2 ^ 64 ≤ product t
large R a f i n t e h l k p =
    let m = more R a f i e h in
    let g = factors_grow R (i + 1) (n - (i + 1)) in
    let z = ap (factors R 0) (let w : i + 1 + (n - (i + 1)) ≡ n = omega arith in w) ∙ tree_factors R n t p in
    omega arith

pub returns-in_default : goal.returns-in_default
returns-in_default c =
    let R = seen c.args.tree.rows in
    let big = large R c.loop-i.all c.factor_at.result c.loop-i.i c.args.tree.count in
    record {
      by_tree = λ t p l. omega (arith, big t c.loop-i.invariant.0 c.factor_at.ensures (omega arith) c.in_default.ensures p);
      by_finds = λ f t s. (product t, number_fitting f t s.exact s.sound, big t c.loop-i.invariant.0 c.factor_at.ensures (omega arith) c.in_default.ensures s.holds);
    }

pub loop-i-preserved : goal.loop-i-preserved
loop-i-preserved c =
    let h = c.in-Some.ensures in
    (h.1 ∙ more (seen c.args.tree.rows) c.loop-i.all c.factor_at.result c.loop-i.i c.loop-i.invariant.0 c.factor_at.ensures, omega arith)

pub returns : goal.returns
returns c =
    let R = seen c.args.tree.rows in
    let at : c.loop-i.i ≡ c.args.tree.count = omega arith in
    let all : (t : Tree) → Holds R c.args.tree.count t → c.loop-i.all ≡ product t = λ t p. c.loop-i.invariant.0 ∙ ap (factors R 0) at ∙ tree_factors R c.args.tree.count t p in
    record {
      by_tree = λ t p. (let e = all t p in omega (arith, c.loop-i.invariant.1), all t p);
      by_finds = λ f t s. subst (Number (Fitting f)) (sym (all t s.holds)) (number_fitting f t s.exact s.sound);
    }
