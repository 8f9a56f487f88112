-- Cells hold one tree at most: the sorts, the parents and the sets determine it.
use Rattle.std.proofs.Common.{◌≡◌, ℕ, suc, ◌+◌, ◌^◌, ◌<◌, ◌≤◌, sym, refl, ap, ◌∙◌, ⊎_elim, arith}
use Rattle.std.proofs.lemmas.Bool.{cases_eq, cases_lt}
use Rattle.finds.specs.Trees.{Tree, grave, any, row, Trees, none, more}
use Rattle.finds.specs.Sets.{bit}
use Rattle.trees.specs.Cells.{Cells, nodes, all_nodes, Body, Ats, Holds, Part}
use Rattle.finds.proofs.Bits.{bit_pow, bit_pow_other}
use Rattle.trees.proofs.Cells.{some_nodes, body_inner, end_is}

pow_same : (g h : ℕ) → 2 ^ g ≡ 2 ^ h → g ≡ h
pow_same g h e =
    ⊎_elim (λ s. s) (λ n. absurd (let a = bit_pow g in let b = bit_pow_other g h n in let c = ap (bit g) e in omega arith)) (cases_eq g h)

module _ (R : Cells) where
  -- Of two lists of branches in the same cells the first branches end together: the next branch has the parent p, and no cell inside a branch has.
  longer : (i p q : ℕ) (t u : Tree) (ts us : Trees) → p < i → Ats R i p q (more t ts) → Body R i u → all_nodes (more t ts) ≡ all_nodes (more u us) → nodes u ≤ nodes t
  longer i p q t u none us l a b e = omega arith
  longer i p q t u (more v vs) us l a b e =
      ⊎_elim (λ h. absurd (omega (arith, a.3.0, body_inner R i u b (i + nodes t) (omega (arith, some_nodes t)) (omega arith)))) (λ h. h) (cases_lt (nodes t) (nodes u))

  mutual
    body_same : (i : ℕ) (t u : Tree) → Body R i t → Body R i u → nodes t ≡ nodes u → t ≡ u
    body_same i (grave g) (grave h) a b e = ap grave (pow_same g h (sym a.1 ∙ b.1))
    body_same i (grave g) (any us) a b e = absurd (omega (arith, a.0, b.0))
    body_same i (grave g) (row us) a b e = absurd (omega (arith, a.0, b.0))
    body_same i (any ts) (grave h) a b e = absurd (omega (arith, a.0, b.0))
    body_same i (any ts) (any us) a b e = ap any (ats_same (suc i) i 0 ts us (omega arith) a.2 b.2 (omega arith))
    body_same i (any ts) (row us) a b e = absurd (omega (arith, a.0, b.0))
    body_same i (row ts) (grave h) a b e = absurd (omega (arith, a.0, b.0))
    body_same i (row ts) (any us) a b e = absurd (omega (arith, a.0, b.0))
    body_same i (row ts) (row us) a b e = ap row (ats_same (suc i) i 0 ts us (omega arith) a.2 b.2 (omega arith))

    ats_same : (i p q : ℕ) (ts us : Trees) → p < i → Ats R i p q ts → Ats R i p q us → all_nodes ts ≡ all_nodes us → ts ≡ us
    ats_same i p q none none l a b e = refl
    ats_same i p q none (more u us) l a b e = absurd (omega (arith, some_nodes u))
    ats_same i p q (more t ts) none l a b e = absurd (omega (arith, some_nodes t))
    ats_same i p q (more t ts) (more u us) l a b e =
        let m : nodes t ≡ nodes u = omega (arith, longer i p q t u ts us l a b.2 e, longer i p q u t us ts l b a.2 (sym e)) in
        let h = body_same i t u a.2 b.2 m in
        let r = ats_same (i + nodes t) p (suc q) ts us (omega arith) a.3 (rw m b.3) (omega arith) in
        cc

  pub part_same : (n i : ℕ) (t u : Tree) → Part R n i t → Part R n i u → t ≡ u
  part_same n i t u a b =
      let e = end_is R n i (i + nodes u) t a (omega (arith, some_nodes u)) b.1 (λ x h l. (body_inner R i u b.0 x h l).0) b.2 in
      body_same i t u a.0 b.0 (omega arith)

  pub holds_same : (n : ℕ) (t u : Tree) → Holds R n t → Holds R n u → t ≡ u
  holds_same n t u a b = body_same 0 t u a.body b.body (sym a.many ∙ b.many)
