-- A row of which two branches or more have the kind.
use Rattle.std.proofs.Common.{◌≡◌, ℕ, ◌+◌, ◌≤◌, Bool, true, false, cond, List, ◌++◌, sym, refl, ◌∙◌, inl, inr, arith}
use Rattle.finds.specs.Trees.{row, Trees, none, more, InRow, next, Goods}
use Rattle.finds.specs.Counts.{count_t}
use Rattle.finds.proofs.Counts.{allows_count, in_row_count, in_one, one_in}
use Rattle.pqtree.specs.Status.{Status, bare, part, full, status, sorted, weigh, heavy}
use Rattle.pqtree.specs.Opening.{stuck, laid, ◌⊞◌, open_up, open_all, open_row}
use Rattle.pqtree.specs.Change.{as_row, if_bare, row_cut}
use Rattle.pqtree.proofs.Words.{Rise, Stretch, StretchCut, stretch_skip, stretch_join, stretch_cut, stretch_second}
use Rattle.pqtree.proofs.Status.{status_says, bare_heavy}
use Rattle.pqtree.proofs.Chosen.{in_sorted}
use Rattle.pqtree.proofs.Opening.{Opened, glue, halves, lays, lays_all, open_all_in, open_all_rise, rise_open_all}
use Rattle.pqtree.proofs.Fitting.{Fit, row_fits}

module _ (k : ℕ → Bool) where
  -- Branches laid open in sequence allow just their rows that rise.
  open_row_to : (b : Bool) (ts : Trees) (l : List ℕ) → Goods ts → Opened (open_row k b ts) l → InRow ts l × Rise k b l
  open_row_to b ts l g r = go (sorted k b ts) refl r
    where
      go : (x : Bool) → sorted k b ts ≡ x → Opened (cond x (open_all k b ts) stuck) l → InRow ts l × Rise k b l
      go true e r = (open_all_in k b ts l (lays_all k ts g) r, open_all_rise k b ts l (lays_all k ts g) e r)
      go false e r = absurd r

  open_row_from : (b : Bool) (ts : Trees) (l : List ℕ) → Goods ts → InRow ts l → Rise k b l → Opened (open_row k b ts) l
  open_row_from b ts l g r s = rw (in_sorted k b ts l g r s) (rise_open_all k b ts l (lays_all k ts g) r s)

  -- Bare branches are skipped; at the first other one the row rises to the kind, and from there it falls.
  row_cut_to : (ts : Trees) (l : List ℕ) → Goods ts → Opened (row_cut k ts) l → InRow ts l × Stretch k l
  row_cut_to none l g r = absurd r
  row_cut_to (more t ts) l g r = go (status k t) refl r (λ c. row_cut_to ts c g.1)
    where
      cut : Opened (open_up k true t ⊞ open_row k false ts) l → InRow (more t ts) l × Stretch k l
      cut r =
          let h = halves (open_up k true t) (open_row k false ts) l r in
          let p = (lays k t g.0 true h.fore).0 h.here in
          let q = open_row_to false ts h.rest g.1 h.there in
          rw h.is (next p.0 q.0, stretch_join k h.fore h.rest p.1 q.1)

      go : (s : Status) → status k t ≡ s → Opened (if_bare s (laid (more t none) ⊞ row_cut k ts) (open_up k true t ⊞ open_row k false ts)) l →
          ((c : List ℕ) → Opened (row_cut k ts) c → InRow ts c × Stretch k c) → InRow (more t ts) l × Stretch k l
      go bare e r ih =
          let h = halves (laid (more t none)) (row_cut k ts) l r in
          let p = one_in h.here in
          let q = ih h.rest h.there in
          rw h.is (next p q.0, stretch_skip k h.fore h.rest (allows_count k true p ∙ status_says k t e) q.1)
      go part e r ih = cut r
      go full e r ih = cut r

  -- The other way round: two branches have the kind, so the stretch lies neither within the first of them nor wholly behind it.
  row_cut_from : (ts : Trees) (l : List ℕ) → Goods ts → 2 ≤ heavy k ts → InRow ts l → Stretch k l → Opened (row_cut k ts) l
  row_cut_from none l g n r s = absurd (omega arith)
  row_cut_from (more t ts) l g n (next {k = x} {l = y} h r) s = go (status k t) refl n (λ n. row_cut_from ts y g.1 n r (stretch_second k x y s))
    where
      cut : 1 ≤ count_t k true t → 1 ≤ heavy k ts → StretchCut k x y → Opened (open_up k true t ⊞ open_row k false ts) (x ++ y)
      cut has n (inl c) = absurd (let z = allows_count k true h in omega (arith, c.0))
      cut has n (inr (inl c)) = absurd (let z = bare_heavy k ts (sym (in_row_count k true r) ∙ c.1) in omega arith)
      cut has n (inr (inr c)) = glue (open_up k true t) (open_row k false ts) x y ((lays k t g.0 true x).1 h c.0) (open_row_from false ts y g.1 r c.1)

      go : (z : Status) → status k t ≡ z → 2 ≤ weigh z + heavy k ts → (2 ≤ heavy k ts → Opened (row_cut k ts) y) →
          Opened (if_bare z (laid (more t none) ⊞ row_cut k ts) (open_up k true t ⊞ open_row k false ts)) (x ++ y)
      go bare e n ih = glue (laid (more t none)) (row_cut k ts) x y (in_one h) (ih (omega arith))
      go part e n ih = cut (status_says k t e).0 (omega arith) (stretch_cut k x y s)
      go full e n ih = cut (status_says k t e).0 (omega arith) (stretch_cut k x y s)

  pub row_fit : (ts : Trees) → Goods ts → 2 ≤ heavy k ts → Fit k (row ts) (as_row (row_cut k ts))
  row_fit ts g n = row_fits k ts (row_cut k ts) (λ l. (row_cut_to ts l g, row_cut_from ts l g n))
