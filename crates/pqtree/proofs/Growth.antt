-- Kind after kind: what has grown stands for the kinds so far; and so each table has a tree, or no order fits.
use Rattle.std.proofs.Common.{◌≡◌, ℕ, zero, suc, ◌<◌, ◌≤◌, Bool, false, ◌⊎◌, List, [], ◌∷◌, ◌++◌, length, get_or, take, sym, ap, ◌∙◌, subst, inl, inr, append-nil, add-one, arith}
use mathlib.Core.List.Permᴰ
use mathlib.Core.List.{Permᴰ}
use Rattle.std.proofs.lemmas.List.{take_more, take_all}
use Rattle.finds.specs.Finds.{Finds, Order, Fits}
use Rattle.finds.specs.Trees.{Tree, Good, start}
use Rattle.finds.specs.Exactness.{Exactly, SomeFits, NoneFits}
use Rattle.finds.proofs.Laws.{one_kind_more, any_sequence}
use Rattle.finds.proofs.Start.{start_good, start_exact}
use Rattle.pqtree.specs.Change.{Outcome, torn, made}
use Rattle.pqtree.specs.Growth.{first_kinds, then_kind, after}
use Rattle.pqtree.specs.Theorems.{Stands, KindByKind, TreeOrNone}
use Rattle.pqtree.proofs.Exact.{step_exact, some_fits}

-- ---- finds that the same orders fit

-- What stands for some finds stands for others of the same graves that the same orders fit.
module _ (n : ℕ) (xs ys : List (ℕ → Bool)) (same : (o : Order n) → (Fits (record { graves = n; kinds = xs }) o → Fits (record { graves = n; kinds = ys }) o) × (Fits (record { graves = n; kinds = ys }) o → Fits (record { graves = n; kinds = xs }) o)) where
  stands_same : (x : Outcome) → Stands (record { graves = n; kinds = xs }) x → Stands (record { graves = n; kinds = ys }) x
  unfolding Exactly
  stands_same torn s = λ o fit. s o ((same o).1 fit)
  stands_same (made t) s = (
    s.0,
    ((λ o l r. let e = s.1.0 o l r in ((λ fit. e.0 ((same o).1 fit)), (λ p. (same o).0 (e.1 p)))), s.1.1),
    (s.2.0, (same s.2.0).0 s.2.1),
  )

-- The kind behind the others, or in front of them.
behind : (k : ℕ → Bool) (ks : List (ℕ → Bool)) → Permᴰ (ks ++ (k ∷ [])) (k ∷ ks)
behind k ks = subst (λ (l : List (ℕ → Bool)). Permᴰ (ks ++ (k ∷ [])) (k ∷ l)) (append-nil ks) (Permᴰ.middle k ks [])

-- ---- kind after kind

module _ (f : Finds) (some : 0 < f.graves) where
  -- One kind more, put in front.
  then_stands : (k : ℕ → Bool) (ks : List (ℕ → Bool)) (x : Outcome) → Stands (record { graves = f.graves; kinds = ks }) x → Stands (record { graves = f.graves; kinds = k ∷ ks }) (then_kind k x)
  then_stands k ks torn s = λ o fit. s o ((one_kind_more (record { graves = f.graves; kinds = ks }) k o).0 fit).0
  then_stands k ks (made t) s = step_exact (record { graves = f.graves; kinds = ks }) k t some s.0 s.1

  grows : (j : ℕ) → j ≤ length f.kinds → Stands (first_kinds j f) (after f j)
  grows zero h = let e = start_exact f.graves some in (start_good f.graves some, e, some_fits (record { graves = f.graves; kinds = [] }) (start f.graves) e)
  grows (suc j) h =
      let k = get_or f.kinds j (λ g. false) in let ks = take j f.kinds in
      let e : take (suc j) f.kinds ≡ ks ++ (k ∷ []) = ap (λ (i : ℕ). take i f.kinds) (sym (add-one j)) ∙ take_more f.kinds j (λ g. false) (omega arith) in
      subst (λ (l : List (ℕ → Bool)). Stands (record { graves = f.graves; kinds = l }) (after f (suc j))) (sym e)
      (stands_same f.graves (k ∷ ks) (ks ++ (k ∷ [])) (λ o. let p = any_sequence f.graves (ks ++ (k ∷ [])) (k ∷ ks) o (behind k ks) in (p.1, p.0)) (after f (suc j))
      (then_stands k ks (after f j) (grows j (omega arith))))

pub kind_by_kind : KindByKind
kind_by_kind f some = grows f some

-- ---- each table

pub whole_table : (f : Finds) → 0 < f.graves → Stands f (after f (length f.kinds))
whole_table f some =
    subst (λ (l : List (ℕ → Bool)). Stands (record { graves = f.graves; kinds = l }) (after f (length f.kinds))) (take_all (length f.kinds) f.kinds (omega arith)) (grows f some (length f.kinds) (omega arith))

pub tree_or_none : TreeOrNone
tree_or_none f some = go (after f (length f.kinds)) (whole_table f some)
  where
    go : (x : Outcome) → Stands f x → ((t : Tree) × Good t × Exactly f t × SomeFits f) ⊎ NoneFits f
    go torn s = inr s
    go (made t) s = inl (t, s.0, s.1, s.2)
