-- The counts of rows and trees agree; and the rows that a tree allows, cut, joined and turned round.
use Rattle.std.proofs.Common.{◌≡◌, ℕ, ◌+◌, Bool, List, [], ◌∷◌, ◌++◌, reverse, sym, refl, ap, ◌∙◌, subst, append_assoc, append-nil, arith}
use mathlib.Core.List.{reverse-cons, reverse-append}
use Rattle.finds.specs.Trees.{Tree, Trees, none, more, Allows, one, mixed, straight, turned, InRow, nil, next, Mixed, no_more, put, Put, first, after}
pub use Rattle.finds.specs.Counts.{hit, count, count_t, count_ts}
use Rattle.finds.proofs.Branches.{◌+++◌, revs, revs_revs, mixed_trans, mixed_revs, turned_is, is_turned}

-- ---- counts of rows and of branches

pub count_append : (k : ℕ → Bool) (b : Bool) (a c : List ℕ) → count k b (a ++ c) ≡ count k b a + count k b c
count_append k b [] c = omega arith
count_append k b (g ∷ a) c = let h = count_append k b a c in omega arith

pub count_reverse : (k : ℕ → Bool) (b : Bool) (l : List ℕ) → count k b (reverse l) ≡ count k b l
count_reverse k b [] = refl
count_reverse k b (g ∷ l) = rw reverse-cons (let h = count_reverse k b l in let z = count_append k b (reverse l) (g ∷ []) in omega arith)

pub count_ts_plus : (k : ℕ → Bool) (b : Bool) (x y : Trees) → count_ts k b (x +++ y) ≡ count_ts k b x + count_ts k b y
count_ts_plus k b none y = omega arith
count_ts_plus k b (more t x) y = let z = count_ts_plus k b x y in omega arith

put_count : (k : ℕ → Bool) (b : Bool) {t : Tree} {us vs : Trees} → Put t us vs → count_ts k b vs ≡ count_t k b t + count_ts k b us
put_count k b first = refl
put_count k b (after p) = let h = put_count k b p in omega arith

pub mixed_count : (k : ℕ → Bool) (b : Bool) {ts us : Trees} → Mixed ts us → count_ts k b us ≡ count_ts k b ts
mixed_count k b no_more = refl
mixed_count k b (put m p) = let h = put_count k b p in let z = mixed_count k b m in omega arith

-- An allowed row has the counts of its tree.
mutual
  pub allows_count : (k : ℕ → Bool) (b : Bool) {t : Tree} {l : List ℕ} → Allows t l → count k b l ≡ count_t k b t
  allows_count k b one = omega arith
  allows_count k b (mixed m r) = in_row_count k b r ∙ mixed_count k b m
  allows_count k b (straight r) = in_row_count k b r
  allows_count k b (turned {ts = ts} w r) = in_row_count k b r ∙ ap (count_ts k b) (turned_is w) ∙ mixed_count k b (mixed_revs ts)

  pub in_row_count : (k : ℕ → Bool) (b : Bool) {ts : Trees} {l : List ℕ} → InRow ts l → count k b l ≡ count_ts k b ts
  in_row_count k b nil = refl
  in_row_count k b (next {k = a} {l = c} h r) =
      let x = allows_count k b h in let y = in_row_count k b r in let z = count_append k b a c in omega arith

-- ---- rows that branches allow, one after the other

pub in_plus : {ts us : Trees} {a c : List ℕ} → InRow ts a → InRow us c → InRow (ts +++ us) (a ++ c)
in_plus nil s = s
in_plus (next {k = x} {l = y} h r) s = rw append_assoc (next h (in_plus r s))

-- A row of branches and more branches, cut where the second ones begin.
pub record Cut (ts us : Trees) (l : List ℕ) : Type 0 where
  pub fore : List ℕ
  pub rest : List ℕ
  pub is : l ≡ fore ++ rest
  pub here : InRow ts fore
  pub there : InRow us rest

pub in_cut : (ts us : Trees) {l : List ℕ} → InRow (ts +++ us) l → Cut ts us l
in_cut none us {l} r = record { fore = []; rest = l; is = refl; here = nil; there = r }
in_cut (more t ts) us (next {k = a} h r) =
    let c = in_cut ts us r in
    record { fore = a ++ c.fore; rest = c.rest; is = ap (λ (x : List ℕ). a ++ x) c.is ∙ sym (append_assoc a c.fore c.rest); here = next h c.here; there = c.there }

-- One branch alone.
pub in_one : {t : Tree} {l : List ℕ} → Allows t l → InRow (more t none) l
in_one h = rw append-nil at (next h nil)

pub one_in : {t : Tree} {l : List ℕ} → InRow (more t none) l → Allows t l
one_in (next h nil) = rw append-nil h

-- An allowed row turned round is allowed too.
mutual
  pub allows_turn : {t : Tree} {l : List ℕ} → Allows t l → Allows t (reverse l)
  allows_turn one = one
  allows_turn (mixed m r) = mixed (mixed_trans m (mixed_revs _)) (in_row_turn r)
  allows_turn (straight r) = turned (is_turned _) (in_row_turn r)
  allows_turn (turned {ts = ts} {l = l} w r) =
      straight (subst (λ (x : Trees). InRow x (reverse l)) (ap revs (turned_is w) ∙ revs_revs ts) (in_row_turn r))

  pub in_row_turn : {ts : Trees} {l : List ℕ} → InRow ts l → InRow (revs ts) (reverse l)
  in_row_turn nil = nil
  in_row_turn (next {k = a} {l = c} h r) = rw (reverse-append a c) (in_plus (in_row_turn r) (in_one (allows_turn h)))
