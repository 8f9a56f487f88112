-- Branches chosen by their status, and branches that come in sequence.
use Rattle.std.proofs.Common.{◌≡◌, ℕ, ◌+◌, ◌<◌, ◌≤◌, Bool, true, false, cond, not, ◌&&◌, ◌⊎◌, List, sym, refl, ap, ◌∙◌, inl, inr, ⊎_elim, true≢false, arith}
use mathlib.Core.Bool.{false≢true}
use Rattle.finds.specs.Trees.{Tree, Trees, none, more, Mixed, no_more, put, Put, first, after, InRow, next, len, Good, Goods}
use Rattle.finds.specs.Branches.{◌+++◌, revs}
use Rattle.finds.specs.Counts.{count_t, count_ts}
use Rattle.finds.proofs.Branches.{Alls, put_under, put_in_middle, mixed_refl, mixed_trans, mixed_sym, mixed_revs, mixed_none, mixed_one}
use Rattle.finds.proofs.Counts.{count_ts_plus, mixed_count, allows_count, in_row_count}
use Rattle.pqtree.specs.Status.{Status, bare, part, full, status, far, same, keep, sel, all_are, sorted, few, heavy}
use Rattle.pqtree.proofs.Words.{Rise, RiseCut, rise_cut, rise_second}
use Rattle.pqtree.proofs.Status.{goods_each, each_goods, good_live, same_refl, same_is, far_lacks, lacks_far, bare_heavy, heavy_plus, mixed_heavy}

-- ---- at most one branch

-- At most one branch has one order.
pub mixed_few : {ts us : Trees} → Mixed ts us → few us ≡ true → ts ≡ us
mixed_few {ts} {us} m e = go us (mixed_sym m) e
  where
    go : (us : Trees) → Mixed us ts → few us ≡ true → ts ≡ us
    go none m e = mixed_none m
    go (more u none) m e = mixed_one m
    go (more u (more v us)) m e = absurd (false≢true e)

module _ (k : ℕ → Bool) where
  -- ---- branches of one status

  -- Each branch has the status s.
  abbrev pub Are : Status → Trees → Type 0
  Are s = Alls (λ (t : Tree). status k t ≡ s)

  pub all_are_so : (s : Status) (ts : Trees) → all_are k s ts ≡ true → Are s ts
  all_are_so s none e = tt
  all_are_so s (more t ts) e = go (same (status k t) s) refl e (all_are_so s ts)
    where
      go : (x : Bool) → same (status k t) s ≡ x → x && all_are k s ts ≡ true → (all_are k s ts ≡ true → Are s ts) → (status k t ≡ s) × Are s ts
      go true q e ih = (same_is (status k t) s q, ih e)
      go false q e ih = absurd (false≢true e)

  pub far_count : (b : Bool) (ts : Trees) → Are (far b) ts → count_ts k b ts ≡ 0
  far_count b none a = refl
  far_count b (more t ts) a = let z = far_lacks k b t a.0 in let y = far_count b ts a.1 in omega arith

  pub count_far : (b : Bool) (ts : Trees) → Goods ts → count_ts k b ts ≡ 0 → all_are k (far b) ts ≡ true
  count_far b none h e = refl
  count_far b (more t ts) h e = rw (lacks_far k b t h.0 (omega arith)) (rw (same_refl (far b)) (count_far b ts h.1 (omega arith)))

  -- ---- choosing

  keep_mixed : (x : Bool) (t : Tree) {us vs : Trees} → Mixed us vs → Mixed (keep x t us) (keep x t vs)
  keep_mixed true t m = put m first
  keep_mixed false t m = m

  keep_swap : (x y : Bool) (t u : Tree) (ts : Trees) → Mixed (keep x t (keep y u ts)) (keep y u (keep x t ts))
  keep_swap true true t u ts = put (mixed_refl (more u ts)) (after first)
  keep_swap true false t u ts = mixed_refl (more t ts)
  keep_swap false true t u ts = mixed_refl (more u ts)
  keep_swap false false t u ts = mixed_refl ts

  put_sel : (s : Status) {t : Tree} {us vs : Trees} → Put t us vs → Mixed (keep (same (status k t) s) t (sel k s us)) (sel k s vs)
  put_sel s first = mixed_refl _
  put_sel s {t} (after {u = u} {us = us} p) =
      mixed_trans (keep_swap (same (status k t) s) (same (status k u) s) t u (sel k s us)) (keep_mixed (same (status k u) s) u (put_sel s p))

  -- Of the branches in another order the same ones are chosen, in some order.
  pub mixed_sel : (s : Status) {ts us : Trees} → Mixed ts us → Mixed (sel k s ts) (sel k s us)
  mixed_sel s no_more = no_more
  mixed_sel s (put {t = t} m p) = mixed_trans (keep_mixed (same (status k t) s) t (mixed_sel s m)) (put_sel s p)

  pub sel_alls : (P : Tree → Type 0) (s : Status) (ts : Trees) → Alls P ts → Alls P (sel k s ts)
  sel_alls P s none a = a
  sel_alls P s (more t ts) a = go (same (status k t) s) (sel_alls P s ts a.1)
    where
      go : (x : Bool) → Alls P (sel k s ts) → Alls P (keep x t (sel k s ts))
      go true c = (a.0, c)
      go false c = c

  pub sel_goods : (s : Status) (ts : Trees) → Goods ts → Goods (sel k s ts)
  sel_goods s ts h = each_goods (sel k s ts) (sel_alls Good s ts (goods_each ts h))

  pub sel_are : (s : Status) (ts : Trees) → Are s (sel k s ts)
  sel_are s none = tt
  sel_are s (more t ts) = go (same (status k t) s) refl (sel_are s ts)
    where
      go : (x : Bool) → same (status k t) s ≡ x → Are s (sel k s ts) → Are s (keep x t (sel k s ts))
      go true e a = (same_is (status k t) s e, a)
      go false e a = a

  pub sel_lacks : (b : Bool) (ts : Trees) → count_ts k b (sel k (far b) ts) ≡ 0
  sel_lacks b ts = far_count b (sel k (far b) ts) (sel_are (far b) ts)

  -- If all branches have the status s, choosing by it keeps them, and choosing by another leaves none.
  pub sel_same : (s : Status) (ts : Trees) → Are s ts → sel k s ts ≡ ts
  sel_same s none a = refl
  sel_same s (more t ts) a = rw a.0 (rw (same_refl s) (ap (more t) (sel_same s ts a.1)))

  pub sel_other : (s u : Status) (ts : Trees) → same s u ≡ false → Are s ts → sel k u ts ≡ none
  sel_other s u none d a = refl
  sel_other s u (more t ts) d a = rw a.0 (rw d (sel_other s u ts d a.1))

  -- ---- the three statuses one after the other

  -- First the branches that lack b, then the partial ones, then those that lack the other.
  abbrev pub lined : Bool → Trees → Trees
  lined b ts = sel k (far b) ts +++ (sel k part ts +++ sel k (far (not b)) ts)

  pub lined_mixed : (b : Bool) (ts : Trees) → Mixed ts (lined b ts)
  lined_mixed b none = no_more
  lined_mixed b (more t ts) = put (lined_mixed b ts) (go b (status k t))
    where
      go : (b : Bool) (s : Status) →
          Put t (lined b ts) (keep (same s (far b)) t (sel k (far b) ts) +++ (keep (same s part) t (sel k part ts) +++ keep (same s (far (not b))) t (sel k (far (not b)) ts)))
      go true bare = first
      go true part = put_under (sel k bare ts) first
      go true full = put_under (sel k bare ts) (put_in_middle t (sel k part ts) (sel k full ts))
      go false bare = put_under (sel k full ts) (put_in_middle t (sel k part ts) (sel k bare ts))
      go false part = put_under (sel k full ts) first
      go false full = first

  -- Those that have the kind are the partial ones and the full ones.
  pub lined_heavy : (ts : Trees) → heavy k ts ≡ heavy k (sel k part ts) + heavy k (sel k full ts)
  lined_heavy ts =
      let a = mixed_heavy k (lined_mixed true ts) in
      let b = heavy_plus k (sel k bare ts) (sel k part ts +++ sel k full ts) in
      let c = heavy_plus k (sel k part ts) (sel k full ts) in
      let d = bare_heavy k (sel k bare ts) (sel_lacks true ts) in
      omega arith

  -- ---- branches in sequence

  -- In sequence they stand as in lined, with at most one partial one.
  pub sorted_lined : (b : Bool) (ts : Trees) → sorted k b ts ≡ true → (ts ≡ lined b ts) × (few (sel k part ts) ≡ true)
  sorted_lined b none e = (refl, refl)
  sorted_lined b (more t ts) e = go b (status k t) e (sorted_lined b ts) (all_are_so (far (not b)) ts)
    where
      go : (b : Bool) (s : Status) → cond (same s (far b)) (sorted k b ts) (all_are k (far (not b)) ts) ≡ true →
          (sorted k b ts ≡ true → (ts ≡ lined b ts) × (few (sel k part ts) ≡ true)) → (all_are k (far (not b)) ts ≡ true → Are (far (not b)) ts) →
          (more t ts ≡ keep (same s (far b)) t (sel k (far b) ts) +++ (keep (same s part) t (sel k part ts) +++ keep (same s (far (not b))) t (sel k (far (not b)) ts)))
          × (few (keep (same s part) t (sel k part ts)) ≡ true)
      go true bare e ih a = (ap (more t) (ih e).0, (ih e).1)
      go true part e ih a = (rw (sel_other full bare ts refl (a e), sel_other full part ts refl (a e), sel_same full ts (a e)), rw (sel_other full part ts refl (a e)))
      go true full e ih a = (rw (sel_other full bare ts refl (a e), sel_other full part ts refl (a e), sel_same full ts (a e)), rw (sel_other full part ts refl (a e)))
      go false bare e ih a = (rw (sel_other bare full ts refl (a e), sel_other bare part ts refl (a e), sel_same bare ts (a e)), rw (sel_other bare part ts refl (a e)))
      go false part e ih a = (rw (sel_other bare full ts refl (a e), sel_other bare part ts refl (a e), sel_same bare ts (a e)), rw (sel_other bare part ts refl (a e)))
      go false full e ih a = (ap (more t) (ih e).0, (ih e).1)

  pub few_sorted : (b : Bool) (ts : Trees) → few ts ≡ true → sorted k b ts ≡ true
  few_sorted b none e = refl
  few_sorted b (more t none) e = go (same (status k t) (far b))
    where
      go : (x : Bool) → cond x true true ≡ true
      go true = refl
      go false = refl
  few_sorted b (more t (more u us)) e = absurd (false≢true e)

  sorted_end : (b : Bool) (us : Trees) (t : Tree) → sorted k b (us +++ more t none) ≡ true → (count_ts k b us ≡ 0) ⊎ (count_t k (not b) t ≡ 0)
  sorted_end b none t e = inl refl
  sorted_end b (more u us) t e = go (same (status k u) (far b)) refl e (sorted_end b us t)
    where
      go : (x : Bool) → same (status k u) (far b) ≡ x → cond x (sorted k b (us +++ more t none)) (all_are k (far (not b)) (us +++ more t none)) ≡ true →
          (sorted k b (us +++ more t none) ≡ true → (count_ts k b us ≡ 0) ⊎ (count_t k (not b) t ≡ 0)) → (count_t k b u + count_ts k b us ≡ 0) ⊎ (count_t k (not b) t ≡ 0)
      go true q e ih = ⊎_elim (λ h. inl (let z = far_lacks k b u (same_is (status k u) (far b) q) in omega arith)) inr (ih e)
      go false q e ih =
          inr (let z = far_count (not b) (us +++ more t none) (all_are_so (far (not b)) (us +++ more t none) e) in let y = count_ts_plus k (not b) us (more t none) in omega arith)

  -- Branches that come in sequence both ways lack b or lack the other.
  pub sorted_both : (b : Bool) (ts : Trees) → 2 ≤ len ts → Goods ts → sorted k b ts ≡ true → sorted k b (revs ts) ≡ true →
      (count_ts k b ts ≡ 0) ⊎ (count_ts k (not b) ts ≡ 0)
  sorted_both b none n h e f = absurd (omega arith)
  sorted_both b (more t none) n h e f = absurd (omega arith)
  sorted_both b (more t (more u us)) n h e f =
      go (same (status k t) (far b)) refl e (sorted_end b (revs (more u us)) t f) (mixed_count k b (mixed_revs (more u us)))
    where
      live : (b : Bool) (t : Tree) → Good t → 0 < count_t k b t + count_t k (not b) t
      live true t g = good_live k t g
      live false t g = let z = good_live k t g in omega arith

      go : (x : Bool) → same (status k t) (far b) ≡ x → cond x (sorted k b (more u us)) (all_are k (far (not b)) (more u us)) ≡ true →
          (count_ts k b (revs (more u us)) ≡ 0) ⊎ (count_t k (not b) t ≡ 0) → count_ts k b (revs (more u us)) ≡ count_ts k b (more u us) →
          (count_ts k b (more t (more u us)) ≡ 0) ⊎ (count_ts k (not b) (more t (more u us)) ≡ 0)
      go true q e (inl c) m = inl (let z = far_lacks k b t (same_is (status k t) (far b) q) in omega arith)
      go true q e (inr c) m = absurd (let z = far_lacks k b t (same_is (status k t) (far b) q) in let y = live b t h.0 in omega arith)
      go false q e (inl c) m =
          absurd (let z = far_count (not b) (more u us) (all_are_so (far (not b)) (more u us) e) in let y = live b u h.1.0 in omega arith)
      go false q e (inr c) m = inr (let z = far_count (not b) (more u us) (all_are_so (far (not b)) (more u us) e) in omega arith)

  -- Branches whose row rises come in sequence: past the first one that has b, nothing lacks it.
  pub in_sorted : (b : Bool) (ts : Trees) (l : List ℕ) → Goods ts → InRow ts l → Rise k b l → sorted k b ts ≡ true
  in_sorted b none l g r s = refl
  in_sorted b (more t ts) l g (next {k = x} {l = y} h r) s =
      go (same (status k t) (far b)) refl (in_sorted b ts y g.1 r (rise_second k b x y s)) (rise_cut k b x y s)
    where
      go : (q : Bool) → same (status k t) (far b) ≡ q → sorted k b ts ≡ true → RiseCut k b x y →
          cond q (sorted k b ts) (all_are k (far (not b)) ts) ≡ true
      go true e ih c = ih
      go false e ih (inl c) = absurd (true≢false (sym (same_refl (far b)) ∙ ap (λ (z : Status). same z (far b)) (sym (lacks_far k b t g.0 (sym (allows_count k b h) ∙ c.0))) ∙ e))
      go false e ih (inr c) = count_far (not b) ts g.1 (sym (in_row_count k (not b) r) ∙ c.1)
