-- The first branch that has the kind.
use Rattle.std.proofs.Common.{◌≡◌, ℕ, suc, ◌+◌, ◌≤◌, Bool, true, false, refl, ap, ◌∙◌, arith}
use Rattle.finds.specs.Trees.{Tree, Trees, none, more}
use Rattle.finds.specs.Branches.{◌+++◌}
use Rattle.finds.specs.Counts.{count_t, count_ts}
use Rattle.pqtree.specs.Status.{Status, bare, part, full, status, same, keep, sel, weigh, heavy}
use Rattle.pqtree.specs.Opening.{Opening, laid, ◌⊞◌}
use Rattle.pqtree.specs.Change.{Outcome, torn, made, place, change, inside}
use Rattle.pqtree.proofs.Status.{status_says, has_kind, heavy_bare}

module _ (k : ℕ → Bool) where
  -- The branches before it, which lack the kind, the branch itself and those behind it; what is chosen of them; and that the change inside is made in it.
  pub record Leading (us : Trees) : Type 0 where
    pub fore : Trees
    pub head : Tree
    pub tail : Trees
    pub is : us ≡ fore +++ more head tail
    pub lacks : count_ts k true fore ≡ 0
    pub has : 1 ≤ count_t k true head
    pub weight : heavy k us ≡ suc (heavy k tail)
    pub bares : sel k bare us ≡ fore +++ sel k bare tail
    pub parts : sel k part us ≡ keep (same (status k head) part) head (sel k part tail)
    pub fulls : sel k full us ≡ keep (same (status k head) full) head (sel k full tail)
    pub so : inside k us ≡ place (change k head) fore tail

  pub leading : (us : Trees) → 1 ≤ heavy k us → Leading us
  leading none n = absurd (omega arith)
  leading (more t us) n = go (status k t) refl n (leading us)
    where
      push : (o : Outcome) (x y : Trees) → laid (more t none) ⊞ place o x y ≡ place o (more t x) y
      push torn x y = refl
      push (made u) x y = refl

      front : same (status k t) bare ≡ false → weigh (status k t) ≡ 1 → inside k (more t us) ≡ place (change k t) none us → Leading (more t us)
      front d w so = record
          { fore = none; head = t; tail = us; is = refl; lacks = refl; has = has_kind k t d; weight = omega arith; bares = rw d; parts = refl; fulls = refl; so = so }

      go : (s : Status) → status k t ≡ s → 1 ≤ weigh s + heavy k us → (1 ≤ heavy k us → Leading us) → Leading (more t us)
      go bare e n ih =
          let r = ih (omega arith) in
          record {
            fore = more t r.fore;
            head = r.head;
            tail = r.tail;
            is = ap (more t) r.is;
            lacks = (let z = status_says k t e in omega arith);
            has = r.has;
            weight = rw e (omega arith);
            bares = rw e (ap (more t) r.bares);
            parts = rw e r.parts;
            fulls = rw e r.fulls;
            so = rw e (ap (λ (z : Opening). laid (more t none) ⊞ z) r.so ∙ push (change k r.head) r.fore r.tail);
          }
      go part e n ih = front (rw e) (rw e) (rw e)
      go full e n ih = front (rw e) (rw e) (rw e)

  -- The one branch that has the kind, between branches that lack it.
  pub record Single (ts : Trees) : Type 0 where
    pub left : Trees
    pub it : Tree
    pub right : Trees
    pub is : ts ≡ left +++ more it right
    pub no_left : count_ts k true left ≡ 0
    pub no_right : count_ts k true right ≡ 0
    pub has : 1 ≤ count_t k true it
    pub so : inside k ts ≡ place (change k it) left right

  pub single : (ts : Trees) → heavy k ts ≡ 1 → Single ts
  single ts e =
      let d = leading ts (omega arith) in
      record
      { left = d.fore; it = d.head; right = d.tail; is = d.is; no_left = d.lacks; no_right = heavy_bare k d.tail (omega arith); has = d.has; so = d.so }
