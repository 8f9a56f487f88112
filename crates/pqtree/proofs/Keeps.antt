-- The change keeps trees well-formed: no place gets too few branches.
use Rattle.std.proofs.Common.{◌≡◌, ℕ, zero, suc, ◌+◌, ◌≤◌, Bool, true, false, cond, not, ◌⊎◌, List, [], reverse, sym, refl, ◌∙◌, subst, arith}
use mathlib.Core.List.{reverse-reverse}
use Rattle.finds.specs.Trees.{Tree, grave, any, row, Trees, none, more, Allows, InRow, nil, len, Good, Goods, graves, all_graves}
use Rattle.finds.specs.Branches.{◌+++◌, revs}
use Rattle.finds.specs.Counts.{count, count_t, count_ts}
use Rattle.finds.proofs.Branches.{Alls, len_plus, goods_plus, mixed_alls, mixed_revs}
use Rattle.finds.proofs.Counts.{allows_count, in_row_count, in_one, allows_turn}
use Rattle.pqtree.specs.Status.{Status, bare, part, full, status, far, sel, sorted, few, weigh, heavy}
use Rattle.pqtree.specs.Opening.{Opening, stuck, laid, ◌⊞◌, group, if_part, open_up, open_all, open_back, open_parts, open_row}
use Rattle.pqtree.specs.Change.{Outcome, torn, made, as_row, as_any, if_bare, row_cut, cut_middle, join, any_cut, place, if_one, change, inside, if_two, step}
use Rattle.pqtree.proofs.Words.{Rise, rise_turn, rise_both}
use Rattle.pqtree.proofs.Status.{good_live, status_says, heavy_bare, heavy_len}
use Rattle.pqtree.proofs.Chosen.{Are, sel_alls, sel_goods, sel_are, lined_heavy}
use Rattle.pqtree.proofs.Opening.{Opened, group_goods, open_back_is, open_parts_is, lays}
use Rattle.pqtree.proofs.Middle.{group_heavy}
use Rattle.pqtree.proofs.Reading.{reads, reads_all}

-- Each branch that is laid is well-formed.
abbrev pub GoodsLaid : Opening → Type 0
GoodsLaid stuck = Unit {0}
GoodsLaid (laid us) = Goods us

-- At least n branches are laid.
abbrev pub LaidLeast : ℕ → Opening → Type 0
LaidLeast n stuck = Unit {0}
LaidLeast n (laid us) = n ≤ len us

-- Both: n well-formed branches at least.
abbrev pub Kept : ℕ → Opening → Type 0
Kept n o = GoodsLaid o × LaidLeast n o

-- The tree that is made is well-formed.
abbrev pub GoodMade : Outcome → Type 0
GoodMade torn = Unit {0}
GoodMade (made t) = Good t

-- ---- openings one after the other, and as a place of a tree

good_glue : (x y : Opening) → GoodsLaid x → GoodsLaid y → GoodsLaid (x ⊞ y)
good_glue stuck y a b = tt
good_glue (laid x) stuck a b = tt
good_glue (laid x) (laid y) a b = goods_plus x y a b

len_glue : (x y : Opening) (n m : ℕ) → LaidLeast n x → LaidLeast m y → LaidLeast (n + m) (x ⊞ y)
len_glue stuck y n m a b = tt
len_glue (laid x) stuck n m a b = tt
len_glue (laid x) (laid y) n m a b = let z = len_plus x y in omega arith

len_less : (n m : ℕ) (o : Opening) → m ≤ n → LaidLeast n o → LaidLeast m o
len_less n m stuck h a = tt
len_less n m (laid us) h a = omega arith

as_row_good : (n : ℕ) (o : Opening) → 3 ≤ n → Kept n o → GoodMade (as_row o)
as_row_good n stuck h a = tt
as_row_good n (laid us) h a = (omega (arith, a.1), a.0)

as_any_good : (n : ℕ) (o : Opening) → 2 ≤ n → Kept n o → GoodMade (as_any o)
as_any_good n stuck h a = tt
as_any_good n (laid us) h a = (omega (arith, a.1), a.0)

join_good : (es : Trees) (o : Outcome) → Goods es → GoodMade o → GoodMade (join es o)
join_good es torn a b = tt
join_good none (made t) a b = b
join_good (more e es) (made t) a b = ((let z = len_plus es (more t none) in omega arith), goods_plus (more e es) (more t none) a (b, tt))

module _ (k : ℕ → Bool) where
  -- ---- a tree laid open

  -- Laid open either way, the branches are well-formed.
  abbrev OpensGood : Tree → Type 0
  OpensGood t = (b : Bool) → GoodsLaid (open_up k b t)

  open_all_good : (b : Bool) (ts : Trees) → Alls OpensGood ts → GoodsLaid (open_all k b ts)
  open_all_good b none a = tt
  open_all_good b (more t ts) a = good_glue (open_up k b t) (open_all k b ts) (a.0 b) (open_all_good b ts a.1)

  mutual
    pub open_good : (t : Tree) → Good t → OpensGood t
    open_good (grave g) h b = (tt, tt)
    open_good (any ts) h b = go (status k (any ts)) (few (sel k part ts)) (opens_good ts h.1)
      where
        ends : (s : Status) → Goods (group (sel k s ts))
        ends s = group_goods (sel k s ts) (sel_goods k s ts h.1)

        go : (s : Status) (x : Bool) → Alls OpensGood ts →
            GoodsLaid (if_part s (laid (more (any ts) none)) (cond x (laid (group (sel k (far b) ts)) ⊞ (open_parts k b ts ⊞ laid (group (sel k (far (not b)) ts)))) stuck))
        go bare x a = (h, tt)
        go full x a = (h, tt)
        go part true a =
            good_glue (laid (group (sel k (far b) ts))) (open_parts k b ts ⊞ laid (group (sel k (far (not b)) ts))) (ends (far b))
            (good_glue (open_parts k b ts) (laid (group (sel k (far (not b)) ts)))
            (subst GoodsLaid (sym (open_parts_is k b ts)) (open_all_good b (sel k part ts) (sel_alls k OpensGood part ts a))) (ends (far (not b))))
        go part false a = tt
    open_good (row ts) h b = go (status k (row ts)) (sorted k b ts) (sorted k b (revs ts)) (opens_good ts h.1)
      where
        go : (s : Status) (x y : Bool) → Alls OpensGood ts → GoodsLaid (if_part s (laid (more (row ts) none)) (cond x (open_all k b ts) (cond y (open_back k b ts) stuck)))
        go bare x y a = (h, tt)
        go full x y a = (h, tt)
        go part true y a = open_all_good b ts a
        go part false true a = subst GoodsLaid (sym (open_back_is k b ts)) (open_all_good b (revs ts) (mixed_alls OpensGood (mixed_revs ts) a))
        go part false false a = tt

    opens_good : (ts : Trees) → Goods ts → Alls OpensGood ts
    opens_good none h = tt
    opens_good (more t ts) h = (open_good t h.0, opens_good ts h.1)

  -- How many branches a tree of this status is laid open into at least.
  abbrev pub pieces : Status → ℕ
  pieces bare = 1
  pieces part = 2
  pieces full = 1

  -- No branch would allow the empty row. One branch would allow a row and the row turned round, which both rise, so the tree was not partial.
  pub open_len : (b : Bool) (t : Tree) → Good t → LaidLeast (pieces (status k t)) (open_up k b t)
  open_len b t h = go (open_up k b t) (λ l. (lays k t h b l).0)
    where
      both : (b : Bool) (l : List ℕ) → Rise k b l → Rise k (not b) l → (count k true l ≡ 0) ⊎ (count k false l ≡ 0)
      both true l r s = rise_both k l r s
      both false l r s = rise_both k l s r

      alone : (s : Status) → status k t ≡ s → (u : Tree) → ((l : List ℕ) → InRow (more u none) l → Allows t l × Rise k b l) → pieces s ≤ 1
      alone bare e u f = omega arith
      alone full e u f = omega arith
      alone part e u f =
          let p = f (graves u) (in_one (reads u)) in
          let q = f (reverse (graves u)) (in_one (allows_turn (reads u))) in
          let r : Rise k (not b) (graves u) = subst (λ (z : List ℕ). Rise k (not b) z) (reverse-reverse (graves u)) (rise_turn k b (reverse (graves u)) q.1) in
          absurd (let x = allows_count k true p.0 in let y = allows_count k false p.0 in let z = status_says k t e in let w = both b (graves u) p.1 r in omega arith)

      most : (s : Status) → pieces s ≤ 2
      most bare = omega arith
      most part = omega arith
      most full = omega arith

      go : (o : Opening) → ((l : List ℕ) → Opened o l → Allows t l × Rise k b l) → LaidLeast (pieces (status k t)) o
      go stuck f = tt
      go (laid none) f =
          absurd (let p = (f [] nil).0 in let x = allows_count k true p in let y = allows_count k false p in let z = good_live k t h in omega arith)
      go (laid (more u none)) f = alone (status k t) refl u f
      go (laid (more u (more w us))) f = let z = most (status k t) in omega arith

  -- The graves are kept: of every kind there are as many in the branches as in the tree.
  pub open_counts : (q : ℕ → Bool) (b c : Bool) (t : Tree) (us : Trees) → Good t → open_up k b t ≡ laid us → count_ts q c us ≡ count_t q c t
  open_counts q b c t us h e =
      sym (in_row_count q c (reads_all us))
      ∙ allows_count q c ((lays k t h b (all_graves us)).0 (subst (λ (o : Opening). Opened o (all_graves us)) (sym e) (reads_all us))).0

  -- ---- a row of which two branches or more have the kind

  open_all_len : (b : Bool) (ts : Trees) → Goods ts → LaidLeast (len ts) (open_all k b ts)
  open_all_len b none h = omega arith
  open_all_len b (more t ts) h =
      len_less (pieces (status k t) + len ts) (suc (len ts)) (open_up k b t ⊞ open_all k b ts) (least (status k t))
      (len_glue (open_up k b t) (open_all k b ts) (pieces (status k t)) (len ts) (open_len b t h.0) (open_all_len b ts h.1))
    where
      least : (s : Status) → suc (len ts) ≤ pieces s + len ts
      least bare = omega arith
      least part = omega arith
      least full = omega arith

  open_row_keeps : (b : Bool) (ts : Trees) → Goods ts → Kept (len ts) (open_row k b ts)
  open_row_keeps b ts h = go (sorted k b ts)
    where
      go : (x : Bool) → Kept (len ts) (cond x (open_all k b ts) stuck)
      go true = (open_all_good b ts (opens_good ts h), open_all_len b ts h)
      go false = (tt, tt)

  -- From the first branch that has the kind on.
  cut_keeps : (t : Tree) (ts : Trees) → Good t → Goods ts → Kept (pieces (status k t) + len ts) (open_up k true t ⊞ open_row k false ts)
  cut_keeps t ts g h =
      let q = open_row_keeps false ts h in (
        good_glue (open_up k true t) (open_row k false ts) (open_good t g true) q.0,
        len_glue (open_up k true t) (open_row k false ts) (pieces (status k t)) (len ts) (open_len true t g) q.1,
      )

  -- A bare branch in front of the rest.
  bare_keeps : (t : Tree) (n : ℕ) (o : Opening) → Good t → Kept n o → Kept (suc n) (laid (more t none) ⊞ o)
  bare_keeps t n stuck g a = (tt, tt)
  bare_keeps t n (laid us) g a = ((g, a.0), omega (arith, a.1))

  pub row_cut_keeps : (ts : Trees) → Goods ts → Kept (len ts) (row_cut k ts)
  row_cut_keeps none h = (tt, tt)
  row_cut_keeps (more t ts) h = go (status k t) refl (row_cut_keeps ts h.1) (cut_keeps t ts h.0 h.1)
    where
      cut : Opening
      cut = open_up k true t ⊞ open_row k false ts

      go : (s : Status) → status k t ≡ s → Kept (len ts) (row_cut k ts) → Kept (pieces (status k t) + len ts) cut →
          Kept (suc (len ts)) (if_bare s (laid (more t none) ⊞ row_cut k ts) cut)
      go bare e a b = bare_keeps t (len ts) (row_cut k ts) h.0 a
      go part e a b = (b.0, len_less (pieces (status k t) + len ts) (suc (len ts)) cut (rw e (omega arith)) b.1)
      go full e a b = (b.0, len_less (pieces (status k t) + len ts) (suc (len ts)) cut (rw e (omega arith)) b.1)

  -- ---- branches in any order

  -- The first partial branch gives two branches of the row, and the full ones or the other partial one a third.
  cut_middle_good : (ts : Trees) → Goods ts → 2 ≤ heavy k ts → GoodMade (cut_middle k (sel k part ts) (sel k full ts))
  cut_middle_good ts h n = go (sel k part ts) (sel_goods k part ts h) (sel_are k part ts) (lined_heavy k ts)
    where
      fs : Trees
      fs = sel k full ts

      go : (ps : Trees) → Goods ps → Are k part ps → heavy k ts ≡ heavy k ps + heavy k fs → GoodMade (cut_middle k ps fs)
      go none a q w = ((let z = heavy_len k fs in omega arith), sel_goods k full ts h)
      go (more p ps) a q w =
          rw q.0
          (as_row_good (pieces (status k p) + len us) (open_up k true p ⊞ open_row k false us) long
          (cut_keeps p us a.0 (goods_plus (group fs) ps (group_goods fs (sel_goods k full ts h)) a.1)))
        where
          us : Trees
          us = group fs +++ ps

          long : 3 ≤ pieces (status k p) + len us
          long = let o : weigh (status k p) ≡ 1 = rw q.0 in let z = group_heavy k fs ps (omega arith) in let y = heavy_len k us in rw q.0 (omega arith)

  -- ---- the whole

  mutual
    pub change_good : (t : Tree) → Good t → 1 ≤ count_t k true t → GoodMade (change k t)
    change_good (grave g) h n = tt
    change_good (any ts) h n = go (heavy k ts) refl (inside_keeps ts h.1)
      where
        go : (m : ℕ) → heavy k ts ≡ m → Kept (len ts) (inside k ts) → GoodMade (if_one m (as_any (inside k ts)) (any_cut k ts))
        go zero e a = absurd (let z = heavy_bare k ts e in omega arith)
        go (suc zero) e a = as_any_good (len ts) (inside k ts) h.0 a
        go (suc (suc m)) e a = join_good (sel k bare ts) (cut_middle k (sel k part ts) (sel k full ts)) (sel_goods k bare ts h.1) (cut_middle_good ts h.1 (omega arith))
    change_good (row ts) h n = go (heavy k ts) (inside_keeps ts h.1) (row_cut_keeps ts h.1)
      where
        go : (m : ℕ) → Kept (len ts) (inside k ts) → Kept (len ts) (row_cut k ts) →
            GoodMade (if_one m (as_row (inside k ts)) (as_row (row_cut k ts)))
        go zero a b = as_row_good (len ts) (row_cut k ts) h.0 b
        go (suc zero) a b = as_row_good (len ts) (inside k ts) h.0 a
        go (suc (suc m)) a b = as_row_good (len ts) (row_cut k ts) h.0 b

    inside_keeps : (ts : Trees) → Goods ts → Kept (len ts) (inside k ts)
    inside_keeps none h = (tt, tt)
    inside_keeps (more t ts) h = go (status k t) refl (change_good t h.0) (inside_keeps ts h.1)
      where
        here : (o : Outcome) → GoodMade o → Kept (suc (len ts)) (place o none ts)
        here torn a = (tt, tt)
        here (made u) a = ((a, h.1), omega arith)

        go : (s : Status) → status k t ≡ s → (1 ≤ count_t k true t → GoodMade (change k t)) → Kept (len ts) (inside k ts) →
            Kept (suc (len ts)) (if_bare s (laid (more t none) ⊞ inside k ts) (place (change k t) none ts))
        go bare e a b = bare_keeps t (len ts) (inside k ts) h.0 b
        go part e a b = here (change k t) (a (status_says k t e).0)
        go full e a b = here (change k t) (a (status_says k t e).0)

  pub step_good : (t : Tree) → Good t → GoodMade (step k t)
  step_good t h = go (count_t k true t) refl
    where
      go : (n : ℕ) → count_t k true t ≡ n → GoodMade (if_two n (made t) (change k t))
      go zero e = h
      go (suc zero) e = h
      go (suc (suc n)) e = change_good t h (omega arith)
