-- Lists of branches: one after the other, turned round, and put in another order.
use Rattle.std.proofs.Common.{◌≡◌, ◌+◌, ◌⊎◌, sym, refl, ap, ◌∙◌, inl, inr, arith}
use Rattle.finds.specs.Trees.{Tree, Trees, none, more, Mixed, no_more, put, Put, first, after, Turned, empty, last, AtEnd, alone, behind, len, Goods}
pub use Rattle.finds.specs.Branches.{◌+++◌, revs}

-- P holds of each branch.
abbrev pub Alls : (Tree → Type 0) → Trees → Type 0
Alls P none = Unit {0}
Alls P (more t ts) = P t × Alls P ts

-- ---- one after the other

pub plus_assoc : (x y z : Trees) → (x +++ y) +++ z ≡ x +++ (y +++ z)
plus_assoc none y z = refl
plus_assoc (more t x) y z = ap (more t) (plus_assoc x y z)

pub plus_none : (x : Trees) → x +++ none ≡ x
plus_none none = refl
plus_none (more t x) = ap (more t) (plus_none x)

pub len_plus : (x y : Trees) → len (x +++ y) ≡ len x + len y
len_plus none y = omega arith
len_plus (more t x) y = let z = len_plus x y in omega arith

pub alls_plus : (P : Tree → Type 0) (x y : Trees) → Alls P x → Alls P y → Alls P (x +++ y)
alls_plus P none y a c = c
alls_plus P (more t x) y a c = (a.0, alls_plus P x y a.1 c)

pub alls_right : (P : Tree → Type 0) (x y : Trees) → Alls P (x +++ y) → Alls P y
alls_right P none y a = a
alls_right P (more t x) y a = alls_right P x y a.1

pub goods_plus : (x y : Trees) → Goods x → Goods y → Goods (x +++ y)
goods_plus none y a c = c
goods_plus (more t x) y a c = (a.0, goods_plus x y a.1 c)

pub goods_right : (x y : Trees) → Goods (x +++ y) → Goods y
goods_right none y a = a
goods_right (more t x) y a = goods_right x y a.1

-- ---- turned round

pub revs_plus : (x y : Trees) → revs (x +++ y) ≡ revs y +++ revs x
revs_plus none y = sym (plus_none (revs y))
revs_plus (more t x) y = ap (λ (z : Trees). z +++ more t none) (revs_plus x y) ∙ plus_assoc (revs y) (revs x) (more t none)

pub revs_revs : (x : Trees) → revs (revs x) ≡ x
revs_revs none = refl
revs_revs (more t x) = revs_plus (revs x) (more t none) ∙ ap (more t) (revs_revs x)

at_end : {us vs : Trees} {t : Tree} → AtEnd us t vs → vs ≡ us +++ more t none
at_end alone = refl
at_end (behind {u = u} e) = ap (more u) (at_end e)

end_at : (us : Trees) (t : Tree) → AtEnd us t (us +++ more t none)
end_at none t = alone
end_at (more u us) t = behind (end_at us t)

-- The relation Turned is the function revs.
pub turned_is : {ts us : Trees} → Turned ts us → us ≡ revs ts
turned_is empty = refl
turned_is (last {t = t} w e) = at_end e ∙ ap (λ (z : Trees). z +++ more t none) (turned_is w)

pub is_turned : (ts : Trees) → Turned ts (revs ts)
is_turned none = empty
is_turned (more t ts) = last (is_turned ts) (end_at (revs ts) t)

-- ---- a branch put in somewhere

pub put_under : {t : Tree} {us vs : Trees} (x : Trees) → Put t us vs → Put t (x +++ us) (x +++ vs)
put_under none p = p
put_under (more u x) p = after (put_under x p)

pub put_in_middle : (t : Tree) (x y : Trees) → Put t (x +++ y) (x +++ more t y)
put_in_middle t x y = put_under x first

-- Where a branch was put in: the ones on its left and on its right.
pub record Around (t : Tree) (w v : Trees) : Type 0 where
  pub left : Trees
  pub right : Trees
  pub out : w ≡ left +++ right
  pub with_it : v ≡ left +++ more t right

pub put_around : {t : Tree} {w v : Trees} → Put t w v → Around t w v
put_around {w = w} first = record { left = none; right = w; out = refl; with_it = refl }
put_around (after {u = u} p) =
    let r = put_around p in record { left = more u r.left; right = r.right; out = ap (more u) r.out; with_it = ap (more u) r.with_it }

-- If t is put in before u, it may be put in after u.
pub put_put : {u t : Tree} {w' w v : Trees} → Put t w' w → Put u w v → (v' : Trees) × Put u w' v' × Put t v' v
put_put {u} {t} {w'} p first = (more u w', first, after p)
put_put first (after q) = (_, q, first)
put_put (after p) (after q) = let r = put_put p q in (more _ r.0, after r.1, after r.2)

put_plus : {t : Tree} {us vs : Trees} (w : Trees) → Put t us vs → Put t (us +++ w) (vs +++ w)
put_plus w first = first
put_plus w (after p) = after (put_plus w p)

-- ---- the same branches in another order

pub mixed_refl : (ts : Trees) → Mixed ts ts
mixed_refl none = no_more
mixed_refl (more t ts) = put (mixed_refl ts) first

-- What can be taken out of the branches can be taken out of them in another order.
pub mixed_out : {t : Tree} {us' us vs : Trees} → Put t us' us → Mixed us vs → (vs' : Trees) × Mixed us' vs' × Put t vs' vs
mixed_out first (put m p) = (_, m, p)
mixed_out (after q) (put m p) = let r = mixed_out q m in let s = put_put r.2 p in (s.0, put r.1 s.1, s.2)

pub mixed_trans : {ts us vs : Trees} → Mixed ts us → Mixed us vs → Mixed ts vs
mixed_trans no_more m = m
mixed_trans (put m p) n = let r = mixed_out p n in put (mixed_trans m r.1) r.2

pub put_front : {t : Tree} {us vs : Trees} → Put t us vs → Mixed vs (more t us)
put_front first = mixed_refl _
put_front (after p) = put (put_front p) (after first)

pub mixed_sym : {ts us : Trees} → Mixed ts us → Mixed us ts
mixed_sym no_more = no_more
mixed_sym (put m p) = mixed_trans (put_front p) (put (mixed_sym m) first)

pub mixed_plus : {x x' y y' : Trees} → Mixed x x' → Mixed y y' → Mixed (x +++ y) (x' +++ y')
mixed_plus no_more n = n
mixed_plus (put m p) n = put (mixed_plus m n) (put_plus _ p)

pub mixed_swap : (x y : Trees) → Mixed (x +++ y) (y +++ x)
mixed_swap none y = rw plus_none (mixed_refl y)
mixed_swap (more t x) y = put (mixed_swap x y) (put_in_middle t y x)

pub mixed_revs : (ts : Trees) → Mixed ts (revs ts)
mixed_revs none = no_more
mixed_revs (more t ts) = put (mixed_revs ts) (rw plus_none at (put_in_middle t (revs ts) none))

-- The same branch put in on both sides.
pub mixed_mid : (t : Tree) (x y x' y' : Trees) → Mixed (x +++ y) (x' +++ y') → Mixed (x +++ more t y) (x' +++ more t y')
mixed_mid t x y x' y' m = mixed_trans (put_front (put_in_middle t x y)) (put m (put_in_middle t x' y'))

put_alls : (P : Tree → Type 0) {t : Tree} {us vs : Trees} → Put t us vs → P t → Alls P us → Alls P vs
put_alls P first h a = (h, a)
put_alls P (after p) h a = (a.0, put_alls P p h a.1)

pub mixed_alls : (P : Tree → Type 0) {ts us : Trees} → Mixed ts us → Alls P ts → Alls P us
mixed_alls P no_more a = a
mixed_alls P (put m p) a = put_alls P p a.0 (mixed_alls P m a.1)

-- No branch has one order, one branch too, and two branches have two.
pub mixed_none : {us : Trees} → Mixed none us → us ≡ none
mixed_none no_more = refl

pub mixed_one : {t : Tree} {us : Trees} → Mixed (more t none) us → us ≡ more t none
mixed_one (put no_more first) = refl

pub mixed_two : {p q : Tree} {us : Trees} → Mixed (more p (more q none)) us → (us ≡ more p (more q none)) ⊎ (us ≡ more q (more p none))
mixed_two (put (put no_more first) first) = inl refl
mixed_two (put (put no_more first) (after first)) = inr refl
