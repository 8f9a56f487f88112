-- A tree laid open as a program does it: a group, one branch after the other, a group.
use Rattle.std.proofs.Common.{◌≡◌, ℕ, zero, suc, ◌+◌, ◌*◌, ◌<◌, ◌≤◌, Bool, true, not, ◌⊎◌, List, length, get_or, Some, None, Option, refl, ap, ◌∙◌, subst, inl, inr, arith}
use lib.Count.{ones}
use Rattle.finds.specs.Trees.{Tree, grave, any, row, Trees, none, more, Mixed, no_more, put, Put, first, after, Good, Goods, len}
use Rattle.finds.specs.Sets.{has}
use Rattle.pqtree.specs.Status.{status}
use Rattle.pqtree.specs.Opening.{Opening, stuck, laid, ◌⊞◌, open_up, open_all}
use Rattle.pqtree.proofs.Opening.{laid_none, open_all_plus, open_whole}
use Rattle.trees.specs.Cells.{size, sizes, kids, Cells, Part, Parts, Sound, Sounds}
use Rattle.trees.specs.Masks.{Mask}
use Rattle.trees.specs.Rows.{seen}
use Rattle.trees.specs.declared.rows.View.{View}
use Rattle.trees.proofs.Allowing.{good_size, goods_len}
use Rattle.trees.proofs.Cells.{parts_len}
use Rattle.trees.proofs.Standing.{part_size}
use Rattle.changes.specs.declared.shares.Share.{Share}
use Rattle.changes.specs.declared.shares.Share.TheVariants.{Empty, Full}
use Rattle.changes.specs.declared.draft.Spot.{Spot}
use Rattle.changes.specs.Bunches.{AllStand, weight}
use Rattle.changes.specs.Draft.{Kept}
use Rattle.changes.specs.Written.{Room, Opened, not_laid, laid_at}
use Rattle.changes.proofs.Fronts.{front, tree_at, front_more, front_size, front_goods, front_all, part_at, sound_at}
use Rattle.changes.proofs.Keeping.{Keeps, same_sizes, keeps_all}
use Rattle.changes.proofs.Standing.{parts_weight, room_after}
use Rattle.changes.proofs.Telling.{told, mask_has}
use Rattle.changes.proofs.Writing.{kept_trans, wrote_on, wrote_plus}

-- ---- openings that were written

-- What stood before an opening was written stands behind it.
pub opened_kept : {Q R S : Cells} {at next : Spot} {o : Opening} → Kept Q R at.cell → Opened R at (Some next) o → Kept R S next.cell → Kept Q S at.cell
opened_kept h (laid_at w) k = kept_trans h (wrote_on _ w) k

pub opened_plus : {R S : Cells} {at mid : Spot} {r : Option Spot} {x y : Opening} → Opened R at (Some mid) x → Kept R S mid.cell → Opened S mid r y → Opened S at r (x ⊞ y)
opened_plus (laid_at w) k not_laid = not_laid
opened_plus (laid_at w) k (laid_at u) = laid_at (wrote_plus _ _ w k u)

pub opened_stuck : {R : Cells} {at : Spot} {o : Opening} → Opened R at None o → o ≡ stuck
opened_stuck not_laid = refl

pub opened_room : {R : Cells} {at next : Spot} {o : Opening} (ts : Trees) (a b : ℕ) → Opened R at (Some next) o → Keeps o ts → 2 * sizes ts + b ≤ a → Room at a → Room next b
opened_room ts a b (laid_at {us = us} w) g l r = let e = same_sizes us ts g in room_after us a b w g.good (omega arith) r

-- Branches with a grave take a cell less than twice their graves.
pub opened_room_more : {R : Cells} {at next : Spot} {o : Opening} (ts : Trees) (a b : ℕ) → Opened R at (Some next) o → Keeps o ts → 1 ≤ sizes ts → 2 * sizes ts + b ≤ a + 1 → Room at a → Room next b
opened_room_more ts a b (laid_at {us = us} w) g h l r = let e = same_sizes us ts g in let f = some us (omega arith) in room_after us a b w g.good (omega arith) r
  where
    some : (us : Trees) → 1 ≤ sizes us → 1 ≤ len us
    some none h = absurd (omega arith)
    some (more t us) h = omega arith

pub opened_not : {R : Cells} {at : Spot} {x : Opening} (y : Opening) → Opened R at None x → Opened R at None (x ⊞ y)
opened_not y not_laid = not_laid

module _ (k : ℕ → Bool) (b : Bool) where
  one_more : (x : ℕ) (ts : Trees) → x < len ts → open_all k b (front (x + 1) ts) ≡ open_all k b (front x ts) ⊞ open_up k b (tree_at x ts)
  one_more x ts l = ap (open_all k b) (front_more x ts l) ∙ open_all_plus k b (front x ts) (more (tree_at x ts) none) ∙ ap (λ (o : Opening). open_all k b (front x ts) ⊞ o) (laid_none (open_up k b (tree_at x ts)))

  -- One branch more is laid open.
  pub opened_front : {R S : Cells} {at mid next : Spot} (x : ℕ) (ts : Trees) → x < len ts → Opened R at (Some mid) (open_all k b (front x ts)) → Kept R S mid.cell →
      Opened S mid (Some next) (open_up k b (tree_at x ts)) → Opened S at (Some next) (open_all k b (front (x + 1) ts))
  opened_front x ts l w h u = rw (one_more x ts l) (opened_plus w h u)

  -- One branch that cannot be laid open.
  pub one_stuck : (x : ℕ) (ts : Trees) → x < len ts → open_up k b (tree_at x ts) ≡ stuck → open_all k b ts ≡ stuck
  one_stuck x none l e = absurd (omega arith)
  one_stuck zero (more t ts) l e = rw e
  one_stuck (suc x) (more t ts) l e = rw (one_stuck x ts (omega arith) e) (nothing (open_up k b t))
    where
      nothing : (o : Opening) → o ⊞ stuck ≡ stuck
      nothing stuck = refl
      nothing (laid us) = refl

  -- What has nothing of the mask or nothing else stays whole.
  pub stays_whole : (t : Tree) (x : Share) → (x ≡ Empty) ⊎ (x ≡ Full) → status k t ≡ told b x → open_up k b t ≡ laid (more t none)
  stays_whole t x (inl f) e = open_whole k b b t (e ∙ ap (told b) f)
  stays_whole t x (inr f) e = open_whole k b (not b) t (e ∙ ap (told b) f)

-- ---- how many graves the branches have

put_len : {t : Tree} {us vs : Trees} → Put t us vs → len vs ≡ suc (len us)
put_len first = refl
put_len (after p) = ap suc (put_len p)

pub mixed_len : {ts us : Trees} → Mixed ts us → len us ≡ len ts
mixed_len no_more = refl
mixed_len (put m p) = put_len p ∙ ap suc (mixed_len m)

-- The other branches have a grave each.
pub others : (x : ℕ) (ts : Trees) → Goods ts → x < len ts → size (tree_at x ts) + len ts ≤ sizes ts + 1
others x none g l = absurd (omega arith)
others zero (more t ts) g l = let a = goods_len ts g.1 in omega arith
others (suc x) (more t ts) g l = let a = others x ts g.1 (omega arith) in let b = good_size t g.0 in omega arith

-- A well-formed tree that has branches has two at least, and their graves.
pub kids_many : (t : Tree) → Good t → 0 < len (kids t) → (2 ≤ len (kids t)) × (sizes (kids t) ≡ size t)
kids_many (grave g) h l = absurd (omega arith)
kids_many (any ts) h l = (h.0, refl)
kids_many (row ts) h l = (omega (arith, h.0), refl)

-- ---- the parts of a list of cells, laid open one behind the other

-- Those of the first x cells are laid open from the spot `at` on, whatever trees stand there, and next is the spot behind them.
abbrev pub SoFar : View → ℕ → ℕ → List ℕ → Cells → Spot → Spot → ℕ → Type 0
SoFar v n m cs R at next x = (k : ℕ → Bool) (b : Bool) → Mask k b m → (ts : Trees) → Parts (seen v) n cs ts → Sounds ts → Opened R at (Some next) (open_all k b (front x ts))

-- What is found of the part in one cell.
abbrev pub Found : View → ℕ → ℕ → ℕ → Cells → Spot → Option Spot → Type 0
Found v n m i R at r = (k : ℕ → Bool) (b : Bool) → Mask k b m → (t : Tree) → Part (seen v) n i t → Sound t → Opened R at r (open_up k b t)

-- What is found of the parts in these cells, one behind the other.
abbrev pub FoundAll : View → ℕ → ℕ → List ℕ → Cells → Spot → Option Spot → Type 0
FoundAll v n m cs R at r = (k : ℕ → Bool) (b : Bool) → Mask k b m → (ts : Trees) → Parts (seen v) n cs ts → Sounds ts → Opened R at r (open_all k b ts)

module _ (v : View) (n m : ℕ) (cs : List ℕ) (x : ℕ) where
  pub loop_more : {R S : Cells} {at mid next : Spot} → x < length cs → SoFar v n m cs R at mid x → Kept R S mid.cell → Found v n m (get_or cs x 0) S mid (Some next) → SoFar v n m cs S at next (x + 1)
  loop_more l o h f k b w ts p q =
      let d : x < len ts = omega (arith, parts_len (seen v) n cs ts p) in
      opened_front k b x ts d (o k b w ts p q) h (f k b w (tree_at x ts) (part_at (seen v) n cs ts x p l) (sound_at ts x q d))

  pub loop_end : {R : Cells} {at next : Spot} → length cs ≤ x → SoFar v n m cs R at next x → FoundAll v n m cs R at (Some next)
  loop_end {R} {at} {next} l o k b w ts p q =
      subst (λ (z : Trees). Opened R at (Some next) (open_all k b z)) (front_all x ts (omega (arith, parts_len (seen v) n cs ts p))) (o k b w ts p q)

  pub loop_stuck : {R : Cells} {at next : Spot} → x < length cs → Found v n m (get_or cs x 0) R next None → FoundAll v n m cs R at None
  loop_stuck l f k b w ts p q =
      let d : x < len ts = omega (arith, parts_len (seen v) n cs ts p) in
      rw (one_stuck k b x ts d (opened_stuck (f k b w (tree_at x ts) (part_at (seen v) n cs ts x p l) (sound_at ts x q d)))) not_laid

  -- The others have a grave each.
  pub each_lighter : AllStand v n cs → x < length cs → ones (get_or v.sets.now (get_or cs x 0) 0) + length cs ≤ weight v.sets.now cs + 1
  each_lighter s l =
      let ts = s.trees in
      let e = parts_len (seen v) n cs ts s.parts in
      let d : x < len ts = omega arith in
      let f = part_size (seen v) n (get_or cs x 0) (tree_at x ts) (part_at (seen v) n cs ts x s.parts l) (sound_at ts x s.sound d) in
      let g = parts_weight v n cs ts s.parts s.sound in
      let h = others x ts s.sound.good d in
      omega arith

  -- There are such trees, and there was room for all of them.
  module _ (s : AllStand v n cs) {R : Cells} {at next : Spot} (o : SoFar v n m cs R at next x) where
    pub so_far : Opened R at (Some next) (open_all (has m) true (front x s.trees))
    so_far = o (has m) true (mask_has m) s.trees s.parts s.sound

    -- Room for c cells is left if it was there beside the first x.
    pub room_left : (a c : ℕ) → 2 * sizes (front x s.trees) + c ≤ a → Room at a → Room next c
    room_left a c l r = opened_room (front x s.trees) a c so_far (keeps_all (has m) true (front x s.trees) (front_goods x s.trees s.sound.good)) l r

    pub room_next : x < length cs → Room at (2 * weight v.sets.now cs + 1) → Room next (2 * ones (get_or v.sets.now (get_or cs x 0) 0) + 1)
    room_next l r =
        let ts = s.trees in
        let d : x < len ts = omega (arith, parts_len (seen v) n cs ts s.parts) in
        let e = part_size (seen v) n (get_or cs x 0) (tree_at x ts) (part_at (seen v) n cs ts x s.parts l) (sound_at ts x s.sound d) in
        let f = front_size x ts d in
        let g = parts_weight v n cs ts s.parts s.sound in
        room_left _ _ (omega arith) r
