-- The change allows just those rows of the tree in which the kind is one stretch.
use Rattle.std.proofs.Common.{◌≡◌, ℕ, zero, suc, ◌≤◌, Bool, true, false, sym, refl, ◌∙◌, subst, arith}
use Rattle.finds.specs.Trees.{Tree, grave, any, row, Trees, none, more, Good, Goods, graves}
use Rattle.finds.specs.Branches.{◌+++◌}
use Rattle.finds.specs.Counts.{count_t}
use Rattle.finds.proofs.Branches.{Alls, alls_right}
use Rattle.finds.proofs.Counts.{allows_count}
use Rattle.pqtree.specs.Status.{heavy}
use Rattle.pqtree.specs.Opening.{Opening}
use Rattle.pqtree.specs.Change.{Outcome, made, as_row, as_any, place, row_cut, any_cut, if_one, change, inside, if_two, step}
use Rattle.finds.specs.Size.{size}
use Rattle.pqtree.proofs.Words.{stretch_lacks, stretch_few}
use Rattle.finds.proofs.Size.{size_count}
use Rattle.pqtree.proofs.Status.{heavy_bare}
use Rattle.pqtree.proofs.Fitting.{Changed, Fit, row_fits, place_fit, any_fits}
use Rattle.pqtree.proofs.Rows.{row_fit}
use Rattle.pqtree.proofs.Leading.{Single, single}
use Rattle.pqtree.proofs.Middle.{any_fit}
use Rattle.pqtree.proofs.Reading.{reads}

module _ (k : ℕ → Bool) where
  -- The change of a tree that has the kind is right.
  abbrev pub Changes : Tree → Type 0
  Changes t = 1 ≤ count_t k true t → Fit k t (change k t)

  only : (ts : Trees) (s : Single k ts) → Alls Changes ts → Fit k s.it (change k s.it)
  only ts s a = (alls_right Changes s.left (more s.it s.right) (subst (λ (z : Trees). Alls Changes z) s.is a)).0 s.has

  -- Where one branch alone has the kind, the branches are those on its left, the branch and those on its right.
  inside_fit : (T : Trees → Tree) (O : Opening → Outcome) (ts : Trees) (s : Single k ts) →
      Fit k (T (s.left +++ more s.it s.right)) (O (place (change k s.it) s.left s.right)) → Fit k (T ts) (O (inside k ts))
  inside_fit T O ts s f =
      subst (λ (z : Trees). Fit k (T z) (O (inside k ts))) (sym s.is) (subst (λ (z : Opening). Fit k (T (s.left +++ more s.it s.right)) (O z)) (sym s.so) f)

  mutual
    pub change_fit : (t : Tree) → Good t → Changes t
    change_fit (grave g) h n = go (k g) refl
      where
        go : (x : Bool) → k g ≡ x → Fit k (grave g) (made (grave g))
        go true e l = ((λ p. (p, stretch_lacks k false l (allows_count k false p ∙ rw e))), λ p s. p)
        go false e l = ((λ p. (p, stretch_lacks k true l (allows_count k true p ∙ rw e))), λ p s. p)
    change_fit (any ts) h n = go (heavy k ts) refl (change_fits ts h.1)
      where
        go : (m : ℕ) → heavy k ts ≡ m → Alls Changes ts → Fit k (any ts) (if_one m (as_any (inside k ts)) (any_cut k ts))
        go zero e a = absurd (let z = heavy_bare k ts e in omega arith)
        go (suc zero) e a = let s = single k ts e in inside_fit any as_any ts s (any_fits k s.it s.left s.right (change k s.it) (only ts s a) s.no_left s.no_right)
        go (suc (suc m)) e a = any_fit k ts h.1 (omega arith)
    change_fit (row ts) h n = go (heavy k ts) refl (change_fits ts h.1)
      where
        go : (m : ℕ) → heavy k ts ≡ m → Alls Changes ts → Fit k (row ts) (if_one m (as_row (inside k ts)) (as_row (row_cut k ts)))
        go zero e a = absurd (let z = heavy_bare k ts e in omega arith)
        go (suc zero) e a =
            let s = single k ts e in
            inside_fit row as_row ts s
            (row_fits k (s.left +++ more s.it s.right) (place (change k s.it) s.left s.right)
            (place_fit k s.it s.left s.right (change k s.it) (only ts s a) s.no_left s.no_right))
        go (suc (suc m)) e a = row_fit k ts h.1 (omega arith)

    change_fits : (ts : Trees) → Goods ts → Alls Changes ts
    change_fits none h = tt
    change_fits (more t ts) h = (change_fit t h.0, change_fits ts h.1)

  -- A kind that lay in fewer than two graves is one stretch of each row.
  pub step_fit : (t : Tree) → Good t → Fit k t (step k t)
  step_fit t h = go (count_t k true t) refl
    where
      go : (n : ℕ) → count_t k true t ≡ n → Fit k t (if_two n (made t) (change k t))
      go zero e = λ l. ((λ p. (p, stretch_few k l (let z = allows_count k true p in omega arith))), λ p s. p)
      go (suc zero) e = λ l. ((λ p. (p, stretch_few k l (let z = allows_count k true p in omega arith))), λ p s. p)
      go (suc (suc n)) e = change_fit t h (omega arith)

-- ---- the graves are kept: of every kind there are as many as before

pub fit_counts : (k q : ℕ → Bool) (b : Bool) (t u : Tree) {o : Outcome} → Fit k t o → o ≡ made u → count_t q b u ≡ count_t q b t
fit_counts k q b t u f e =
    sym (allows_count q b (reads u)) ∙ allows_count q b ((f (graves u)).0 (subst (λ (o : Outcome). Changed o (graves u)) (sym e) (reads u))).0

pub change_counts : (k q : ℕ → Bool) (b : Bool) (t u : Tree) → Good t → 1 ≤ count_t k true t → change k t ≡ made u → count_t q b u ≡ count_t q b t
change_counts k q b t u g n e = fit_counts k q b t u (change_fit k t g n) e

pub step_counts : (k q : ℕ → Bool) (b : Bool) (t u : Tree) → Good t → step k t ≡ made u → count_t q b u ≡ count_t q b t
step_counts k q b t u g e = fit_counts k q b t u (step_fit k t g) e

pub step_size : (k : ℕ → Bool) (t u : Tree) → Good t → step k t ≡ made u → size u ≡ size t
step_size k t u g e =
    let a = size_count k t in let b = size_count k u in let c = step_counts k k true t u g e in let d = step_counts k k false t u g e in omega arith
