-- What a status says of counts, and how many branches have the kind.
use Rattle.std.proofs.Common.{◌≡◌, ℕ, zero, suc, ◌+◌, ◌<◌, ◌≤◌, Bool, true, false, refl, subst, true≢false, arith}
use mathlib.Core.Bool.{false≢true}
use Rattle.finds.specs.Trees.{Tree, Trees, none, more, Mixed, no_more, put, Put, first, after, len, Good, Goods}
use Rattle.finds.specs.Branches.{◌+++◌}
use Rattle.finds.specs.Counts.{count_t, count_ts}
use Rattle.finds.proofs.Branches.{Alls, mixed_alls}
use Rattle.pqtree.specs.Status.{Status, bare, part, full, status_of, status, far, same, weigh, heavy}
use Rattle.finds.proofs.Size.{few_nodes, size_count}

-- ---- well-formed branches

pub goods_each : (ts : Trees) → Goods ts → Alls Good ts
goods_each none h = tt
goods_each (more t ts) h = (h.0, goods_each ts h.1)

pub each_goods : (ts : Trees) → Alls Good ts → Goods ts
each_goods none h = tt
each_goods (more t ts) h = (h.0, each_goods ts h.1)

pub mixed_goods : {ts us : Trees} → Mixed ts us → Goods ts → Goods us
mixed_goods {ts} {us} m h = each_goods us (mixed_alls Good m (goods_each ts h))

-- A well-formed tree has a grave.
pub good_live : (k : ℕ → Bool) (t : Tree) → Good t → 0 < count_t k true t + count_t k false t
good_live k t g = let y = few_nodes t g in let z = size_count k t in omega arith

-- ---- statuses

pub same_refl : (x : Status) → same x x ≡ true
same_refl bare = refl
same_refl part = refl
same_refl full = refl

pub same_is : (x y : Status) → same x y ≡ true → x ≡ y
same_is bare bare e = refl
same_is bare part e = absurd (false≢true e)
same_is bare full e = absurd (false≢true e)
same_is part bare e = absurd (false≢true e)
same_is part part e = refl
same_is part full e = absurd (false≢true e)
same_is full bare e = absurd (false≢true e)
same_is full part e = absurd (false≢true e)
same_is full full e = refl

-- What the status says of n graves with the kind and m without it.
abbrev pub Says : Status → ℕ → ℕ → Type 0
Says bare n m = n ≡ 0
Says part n m = (0 < n) × (0 < m)
Says full n m = (0 < n) × (m ≡ 0)

status_of_says : (n m : ℕ) → Says (status_of n m) n m
status_of_says zero m = refl
status_of_says (suc n) zero = (omega arith, refl)
status_of_says (suc n) (suc m) = (omega arith, omega arith)

bare_status : (n m : ℕ) → n ≡ 0 → status_of n m ≡ bare
bare_status zero m e = refl
bare_status (suc n) m e = absurd (omega arith)

full_status : (n m : ℕ) → 0 < n + m → m ≡ 0 → status_of n m ≡ full
full_status zero m h e = absurd (omega arith)
full_status (suc n) zero h e = refl
full_status (suc n) (suc m) h e = absurd (omega arith)

module _ (k : ℕ → Bool) where
  pub status_says : (t : Tree) {s : Status} → status k t ≡ s → Says s (count_t k true t) (count_t k false t)
  status_says t e = subst (λ (s : Status). Says s (count_t k true t) (count_t k false t)) e (status_of_says (count_t k true t) (count_t k false t))

  -- A tree has the status far b exactly if it lacks b.
  pub far_lacks : (b : Bool) (t : Tree) → status k t ≡ far b → count_t k b t ≡ 0
  far_lacks true t e = status_says t e
  far_lacks false t e = (status_says t e).1

  pub lacks_far : (b : Bool) (t : Tree) → Good t → count_t k b t ≡ 0 → status k t ≡ far b
  lacks_far true t g e = bare_status (count_t k true t) (count_t k false t) e
  lacks_far false t g e = full_status (count_t k true t) (count_t k false t) (good_live k t g) e

  -- A tree that is not bare has the kind.
  pub has_kind : (t : Tree) → same (status k t) bare ≡ false → 1 ≤ count_t k true t
  has_kind t d = go (status k t) refl d
    where
      go : (s : Status) → status k t ≡ s → same s bare ≡ false → 1 ≤ count_t k true t
      go bare e d = absurd (true≢false d)
      go part e d = omega (arith, status_says t e)
      go full e d = omega (arith, status_says t e)

  -- ---- how many branches have the kind

  pub heavy_bare : (ts : Trees) → heavy k ts ≡ 0 → count_ts k true ts ≡ 0
  heavy_bare none e = refl
  heavy_bare (more t ts) e = go (status k t) refl e (heavy_bare ts)
    where
      go : (s : Status) → status k t ≡ s → weigh s + heavy k ts ≡ 0 → (heavy k ts ≡ 0 → count_ts k true ts ≡ 0) → count_t k true t + count_ts k true ts ≡ 0
      go bare q e ih = let z = status_says t q in let y = ih (omega arith) in omega arith
      go part q e ih = absurd (omega arith)
      go full q e ih = absurd (omega arith)

  pub bare_heavy : (ts : Trees) → count_ts k true ts ≡ 0 → heavy k ts ≡ 0
  bare_heavy none e = refl
  bare_heavy (more t ts) e =
      let h : status k t ≡ bare = bare_status (count_t k true t) (count_t k false t) (omega arith) in
      let r = bare_heavy ts (omega arith) in
      rw h (omega arith)

  pub heavy_len : (ts : Trees) → heavy k ts ≤ len ts
  heavy_len none = omega arith
  heavy_len (more t ts) = go (status k t) (heavy_len ts)
    where
      go : (s : Status) → heavy k ts ≤ len ts → weigh s + heavy k ts ≤ suc (len ts)
      go bare z = omega arith
      go part z = omega arith
      go full z = omega arith

  pub heavy_plus : (x y : Trees) → heavy k (x +++ y) ≡ heavy k x + heavy k y
  heavy_plus none y = omega arith
  heavy_plus (more t x) y = let z = heavy_plus x y in omega arith

  put_heavy : {t : Tree} {us vs : Trees} → Put t us vs → heavy k vs ≡ weigh (status k t) + heavy k us
  put_heavy first = refl
  put_heavy (after p) = let h = put_heavy p in omega arith

  pub mixed_heavy : {ts us : Trees} → Mixed ts us → heavy k us ≡ heavy k ts
  mixed_heavy no_more = refl
  mixed_heavy (put m p) = let z = put_heavy p in let y = mixed_heavy m in omega arith
