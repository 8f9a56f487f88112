-- Branches in a row, changed as a program does it: those without the kind, the first one with it, the rest.
use Rattle.std.proofs.Common.{◌≡◌, ℕ, zero, suc, ◌+◌, ◌*◌, ◌<◌, ◌≤◌, Bool, true, false, List, length, get_or, take, drop, Some, None, Option, sym, refl, ap, ◌∙◌, add-one, arith}
use lib.Count.{ones}
use Rattle.finds.specs.Trees.{Tree, grave, any, row, Trees, none, more, Good, len}
use Rattle.finds.specs.Sets.{has}
use Rattle.pqtree.specs.Status.{Status, bare, part, full, status}
use Rattle.pqtree.specs.Change.{if_bare, row_cut}
use Rattle.pqtree.specs.Opening.{Opening, stuck, laid, ◌⊞◌, open_up, open_row}
use Rattle.trees.specs.Cells.{size, sizes, kids, Cells, Body, Parts, Sound, Sounds}
use Rattle.trees.specs.Rows.{seen, Stands}
use Rattle.trees.specs.Subtrees.{Is}
use Rattle.trees.specs.declared.rows.View.{View}
use Rattle.trees.specs.declared.subtree.Subtree.{Subtree}
use Rattle.trees.proofs.Allowing.{good_size, goods_len}
use Rattle.trees.proofs.Cells.{parts_len}
use Rattle.trees.proofs.Finding.{had_standing}
use Rattle.trees.proofs.Sets.{sound_kids}
use Rattle.trees.proofs.Standing.{part_size, kids_size}
use Rattle.changes.specs.declared.shares.Share.{Share}
use Rattle.changes.specs.declared.shares.Share.TheVariants.{Empty, Partial, Full}
use Rattle.changes.specs.declared.draft.Spot.{Spot}
use Rattle.changes.specs.Bunches.{weight}
use Rattle.changes.specs.Draft.{Kept}
use Rattle.changes.specs.Shares.{share, EmptyFirst}
use Rattle.changes.specs.Written.{Room, Wrote, Opened, laid_at}
use Rattle.changes.proofs.Fronts.{front, tree_at, back, front_goods, part_at, sound_at, parts_front, parts_back, sounds_front, sounds_back, three_sizes, three_len}
use Rattle.changes.proofs.Keeping.{keeps_up}
use Rattle.changes.proofs.Laying.{room_less}
use Rattle.changes.proofs.Openings.{opened_kept, opened_plus, opened_not, opened_room_more, Found}
use Rattle.changes.proofs.Standing.{parts_weight, room_after}
use Rattle.changes.proofs.Telling.{told, mask_has, cell_tells}

-- ---- the cut of a row

not_bare : (s : Status) (x y : Opening) → (s ≡ bare → ⊥) → if_bare s x y ≡ y
not_bare bare x y n = absurd (n refl)
not_bare part x y n = refl
not_bare full x y n = refl

-- The first x are bare, and the next is not.
pub cut_at : (k : ℕ → Bool) (x : ℕ) (ts : Trees) → x < len ts → ((y : ℕ) → y < x → status k (tree_at y ts) ≡ bare) → (status k (tree_at x ts) ≡ bare → ⊥) →
    row_cut k ts ≡ laid (front x ts) ⊞ (open_up k true (tree_at x ts) ⊞ open_row k false (back (x + 1) ts))
cut_at k x ts l b n = go x ts l b n ∙ ap (λ (y : ℕ). laid (front x ts) ⊞ (open_up k true (tree_at x ts) ⊞ open_row k false (back y ts))) (sym (add-one x))
  where
    none_first : (o : Opening) → o ≡ laid none ⊞ o
    none_first stuck = refl
    none_first (laid us) = refl

    one_first : (t : Tree) (us : Trees) (o : Opening) → laid (more t none) ⊞ (laid us ⊞ o) ≡ laid (more t us) ⊞ o
    one_first t us stuck = refl
    one_first t us (laid vs) = refl

    go : (x : ℕ) (ts : Trees) → x < len ts → ((y : ℕ) → y < x → status k (tree_at y ts) ≡ bare) → (status k (tree_at x ts) ≡ bare → ⊥) →
        row_cut k ts ≡ laid (front x ts) ⊞ (open_up k true (tree_at x ts) ⊞ open_row k false (back (suc x) ts))
    go x none l b n = absurd (omega arith)
    go zero (more t ts) l b n = not_bare (status k t) _ _ n ∙ none_first (open_up k true t ⊞ open_row k false ts)
    go (suc x) (more t ts) l b n =
        rw (b 0 (omega arith))
        (ap (λ (o : Opening). laid (more t none) ⊞ o) (go x ts (omega arith) (λ y h. b (suc y) (omega arith)) n)
        ∙ one_first t (front x ts) (open_up k true (tree_at x ts) ⊞ open_row k false (back (suc x) ts)))

-- All are bare.
pub cut_none : (k : ℕ → Bool) (ts : Trees) → ((y : ℕ) → y < len ts → status k (tree_at y ts) ≡ bare) → row_cut k ts ≡ stuck
cut_none k none b = refl
cut_none k (more t ts) b = rw (b 0 (omega arith), cut_none k ts (λ y h. b (suc y) (omega arith)))

row_long : (R : Cells) (i : ℕ) (t : Tree) → Body R i t → R.sort i ≡ 2 → Good t → 3 ≤ len (kids t)
row_long R i (grave g) b d h = absurd (omega (arith, b.0))
row_long R i (any ts) b d h = absurd (omega (arith, b.0))
row_long R i (row ts) b d h = h.0

-- ---- by the cells of its branches

told_bare : (z : Share) → told true z ≡ bare → z ≡ Empty
told_bare Empty e = refl
told_bare Partial e = absurd (let z : ◌≡◌ {A = ℕ} 0 1 = cc in omega arith)
told_bare Full e = absurd (let z : ◌≡◌ {A = ℕ} 0 1 = cc in omega arith)

-- The branches of the part have their roots in the cells cs, of which the first x have nothing of the kind.
module _ (part : Subtree) {m x : ℕ} {us cs : List ℕ} (f : cs ≡ us) (g : (t : Tree) → Is part t → Parts (seen part.rows) part.count us (kids t)) (e : EmptyFirst part.rows.sets.now m cs x) where
  abbrev v : View
  v = part.rows

  abbrev n : ℕ
  n = part.count

  abbrev i : ℕ
  i = part.root

  abbrev s : Stands v n i
  s = had_standing part.stands

  parts : (t : Tree) → Is part t → Parts (seen v) n cs (kids t)
  parts t p = rw f (g t p)

  many : (t : Tree) → Is part t → length cs ≡ len (kids t)
  many t p = parts_len (seen v) n cs (kids t) (parts t p)

  tells : (t : Tree) → Is part t → Sound t → (y : ℕ) → y < length cs → status (has m) (tree_at y (kids t)) ≡ told true (share (get_or v.sets.now (get_or cs y 0) 0) m)
  tells t p q y l =
      cell_tells (has m) true m (mask_has m) v n (get_or cs y 0) (tree_at y (kids t)) (part_at (seen v) n cs (kids t) y (parts t p) l)
      (sound_at (kids t) y (sound_kids t q) (omega (arith, many t p)))

  bares : (t : Tree) → Is part t → Sound t → (y : ℕ) → y < x → status (has m) (tree_at y (kids t)) ≡ bare
  bares t p q y l = tells t p q y (omega (arith, e.within)) ∙ ap (told true) (e.before y l)

  -- No branch has the kind.
  pub is_torn : length cs ≤ x → (t : Tree) → Is part t → Sound t → row_cut (has m) (kids t) ≡ stuck
  is_torn l t p q = cut_none (has m) (kids t) (λ y h. bares t p q y (omega (arith, many t p)))

  abbrev pub before : List ℕ
  before = take x cs

  abbrev pub behind : List ℕ
  behind = drop (x + 1) cs

  before_parts : (t : Tree) → Is part t → Parts (seen v) n before (front x (kids t))
  before_parts t p = parts_front (seen v) n cs (kids t) x (parts t p)

  behind_parts : (t : Tree) → Is part t → Parts (seen v) n behind (back (x + 1) (kids t))
  behind_parts t p = parts_back (seen v) n cs (kids t) (x + 1) (parts t p)

  -- The first ones are copied, and the next one has the kind.
  module _ (l : x < length cs) {R : Cells} {at mid : Spot} (w : (ts : Trees) → Parts (seen v) n before ts → Wrote R at mid ts) where
    is_cut : (t : Tree) → Is part t → Sound t → row_cut (has m) (kids t) ≡ laid (front x (kids t)) ⊞ (open_up (has m) true (tree_at x (kids t)) ⊞ open_row (has m) false (back (x + 1) (kids t)))
    is_cut t p q = cut_at (has m) x (kids t) (omega (arith, many t p)) (bares t p q) (λ z. e.next l (told_bare _ (sym (tells t p q x l) ∙ z)))

    there : {S : Cells} {r : Option Spot} → Found v n m (get_or cs x 0) S mid r → (t : Tree) → Is part t → Sound t → Opened S mid r (open_up (has m) true (tree_at x (kids t)))
    there o t p q = o (has m) true (mask_has m) (tree_at x (kids t)) (part_at (seen v) n cs (kids t) x (parts t p) l) (sound_at (kids t) x (sound_kids t q) (omega (arith, many t p)))

    -- It cannot be laid open.
    pub cut_stuck : {S : Cells} → Kept R S mid.cell → Found v n m (get_or cs x 0) S mid None → (t : Tree) → Is part t → Sound t → Opened S at None (row_cut (has m) (kids t))
    cut_stuck h o t p q = rw (is_cut t p q) (opened_plus (laid_at (w (front x (kids t)) (before_parts t p))) h (opened_not (open_row (has m) false (back (x + 1) (kids t))) (there o t p q)))

    -- It is laid open, and r is what comes of the rest, laid open the other way.
    pub cut_opened : {S T : Cells} {next : Spot} {r : Option Spot} → Kept R S mid.cell → Found v n m (get_or cs x 0) S mid (Some next) → Kept S T next.cell →
        ((ts : Trees) → Parts (seen v) n behind ts → Sounds ts → Opened T next r (open_row (has m) false ts)) → (t : Tree) → Is part t → Sound t → Opened T at r (row_cut (has m) (kids t))
    cut_opened h o j rest t p q =
        let z = there o t p q in
        rw (is_cut t p q)
        (opened_plus (laid_at (w (front x (kids t)) (before_parts t p))) (opened_kept h z j) (opened_plus z j (rest (back (x + 1) (kids t)) (behind_parts t p) (sounds_back (x + 1) (kids t) (sound_kids t q)))))

  -- ---- the branches stand, and there is room

  module _ (d : (seen v).sort i ≡ 2) {at : Spot} (r : Room at (2 * ones ((seen v).set i))) (l : x < length cs) where
    abbrev ts : Trees
    ts = kids s.tree

    goods : Sounds ts
    goods = sound_kids s.tree s.sound

    whole : ones ((seen v).set i) ≡ sizes (front x ts) + (size (tree_at x ts) + sizes (back (x + 1) ts))
    whole = sym (kids_size (seen v) n i s.tree s.part s.sound (omega arith)) ∙ three_sizes x ts (omega (arith, many s.tree s.part))

    pub room_before : Room at (2 * weight v.sets.now before)
    room_before =
        let a = parts_weight v n before (front x ts) (before_parts s.tree s.part) (sounds_front x ts goods) in
        room_less _ _ (omega (arith, whole)) r

    next_size : ones (get_or v.sets.now (get_or cs x 0) 0) ≡ size (tree_at x ts)
    next_size = part_size (seen v) n (get_or cs x 0) (tree_at x ts) (part_at (seen v) n cs ts x (parts s.tree s.part) l) (sound_at ts x goods (omega (arith, many s.tree s.part)))

    module _ {R : Cells} {mid : Spot} (w : (ts : Trees) → Parts (seen v) n before ts → Wrote R at mid ts) where
      wrote : Wrote R at mid (front x ts)
      wrote = w (front x ts) (before_parts s.tree s.part)

      pub kept_before : {Q S : Cells} → Kept Q R at.cell → Kept R S mid.cell → Kept Q S at.cell
      kept_before h j = opened_kept h (laid_at wrote) j

      -- A row has three branches at least, so others come before or behind.
      pub room_next : Room mid (2 * ones (get_or v.sets.now (get_or cs x 0) 0) + 1)
      room_next =
          let a = row_long (seen v) i s.tree s.part.0 d s.sound.good in
          let b = three_len x ts (omega (arith, many s.tree s.part)) in
          let c = goods_len (back (x + 1) ts) (sounds_back (x + 1) ts goods).good in
          room_after (front x ts) _ _ wrote (front_goods x ts goods.good) (omega (arith, whole, next_size)) r

      module _ {S : Cells} {next : Spot} (o : Found v n m (get_or cs x 0) S mid (Some next)) where
        laid_there : Opened S mid (Some next) (open_up (has m) true (tree_at x ts))
        laid_there = there l w o s.tree s.part s.sound

        pub kept_next : {Q T : Cells} → Kept Q R at.cell → Kept R S mid.cell → Kept S T next.cell → Kept Q T at.cell
        kept_next h j a = kept_before h (opened_kept j laid_there a)

        pub room_behind : Room next (2 * weight v.sets.now behind + 1)
        room_behind =
            let t = tree_at x ts in
            let g = (sound_at ts x goods (omega (arith, many s.tree s.part))).good in
            let a = parts_weight v n behind (back (x + 1) ts) (behind_parts s.tree s.part) (sounds_back (x + 1) ts goods) in
            let b : Room mid (2 * (size t + sizes (back (x + 1) ts))) = room_after (front x ts) _ _ wrote (front_goods x ts goods.good) (omega (arith, whole)) r in
            opened_room_more (more t none) _ _ laid_there (keeps_up (has m) true t g) (omega (arith, good_size t g)) (omega arith) b
