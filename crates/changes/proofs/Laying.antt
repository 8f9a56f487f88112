-- Laying a tree open by its layout: the branches stand, there is room for them, and what is written is the opening.
use Rattle.std.proofs.Common.{◌≡◌, ℕ, ◌+◌, ◌-◌, ◌*◌, ◌<◌, ◌≤◌, Bool, true, List, length, get_or, Some, None, sym, ap, ◌∙◌, arith}
use lib.Count.{ones}
use Rattle.finds.specs.Trees.{Tree, grave, any, row, Trees, Good, len}
use Rattle.finds.specs.Branches.{◌+++◌}
use Rattle.finds.specs.Sets.{has}
use Rattle.finds.proofs.Branches.{len_plus}
use Rattle.pqtree.specs.Status.{part, status}
use Rattle.pqtree.specs.Opening.{group}
use Rattle.trees.specs.Cells.{size, sizes, kids, Cells, Part, Parts, Sound, Sounds}
use Rattle.trees.specs.Masks.{Mask}
use Rattle.trees.specs.Rows.{seen, Stands}
use Rattle.trees.specs.declared.rows.View.{View}
use Rattle.trees.proofs.Cells.{parts_len}
use Rattle.trees.proofs.Allowing.{sizes_plus, goods_len}
use Rattle.trees.proofs.Standing.{part_size}
use Rattle.trees.proofs.Sets.{sound_kids, sounds_cut}
use Rattle.trees.proofs.Allowing.{sizes_mixed}
use Rattle.changes.specs.declared.bunch.Bunch.{Bunch}
use Rattle.changes.specs.declared.shares.Share.TheVariants.{Partial}
use Rattle.changes.specs.declared.draft.Spot.{Spot}
use Rattle.changes.specs.declared.opening.Layout.{Layout}
use Rattle.changes.specs.Bunches.{listed, AllStand, weight}
use Rattle.changes.specs.Draft.{Kept}
use Rattle.changes.specs.Layouts.{Bunched, Lays}
use Rattle.changes.specs.Shares.{share}
use Rattle.changes.specs.Written.{Room, Wrote, not_laid, laid_at}
use Rattle.changes.proofs.Keeping.{same_sizes, same_group, keeps_all}
use Rattle.changes.proofs.Layouts.{mixed_sounds, grave_whole}
use Rattle.changes.proofs.Openings.{opened_kept, opened_plus, opened_stuck, opened_room, mixed_len, kids_many, Found, FoundAll}
use Rattle.changes.proofs.Standing.{parts_weight, room_after}
use Rattle.changes.proofs.Telling.{mask_has, told, cell_tells}

-- A cell with a part of the mask is the root of a partial tree.
pub part_told : (v : View) (n i m : ℕ) (k : ℕ → Bool) (b : Bool) → Mask k b m → Partial ≡ share (get_or v.sets.now i 0) m → (t : Tree) → Part (seen v) n i t → Sound t → status k t ≡ part
part_told v n i m k b w e t p s = cell_tells k b m w v n i t p s ∙ sym (ap (told b) e)

-- The same room for less.
pub room_less : {at : Spot} (a b : ℕ) → b ≤ a → Room at a → Room at b
room_less a b l r = record { fits = omega (arith, r.fits); few = r.few }

-- A partial tree has two branches at least, and their graves.
part_kids : (k : ℕ → Bool) (t : Tree) → Good t → status k t ≡ part → (2 ≤ len (kids t)) × (sizes (kids t) ≡ size t)
part_kids k (grave g) h e = absurd (grave_whole k g e)
part_kids k (any ts) h e = kids_many (any ts) h (omega (arith, h.0))
part_kids k (row ts) h e = kids_many (row ts) h (omega (arith, h.0))

-- The branches of one layout.
module _ {v : View} {n : ℕ} {k : ℕ → Bool} {b : Bool} {t : Tree} {l : Layout} (y : Lays v n k b t l) (q : Sound t) where
  lay_sounds : Sounds (y.firsts +++ (y.middles +++ y.lasts))
  lay_sounds = mixed_sounds y.all (sound_kids t q)

  pub first_sound : Sounds y.firsts
  first_sound = (sounds_cut y.firsts (y.middles +++ y.lasts) lay_sounds).0

  pub middle_sound : Sounds y.middles
  middle_sound = (sounds_cut y.middles y.lasts (sounds_cut y.firsts (y.middles +++ y.lasts) lay_sounds).1).0

  pub last_sound : Sounds y.lasts
  last_sound = (sounds_cut y.middles y.lasts (sounds_cut y.firsts (y.middles +++ y.lasts) lay_sounds).1).1

  pub lay_sizes : sizes y.firsts + (sizes y.middles + sizes y.lasts) ≡ sizes (kids t)
  lay_sizes =
      let a = sizes_mixed y.all in
      let c = sizes_plus y.firsts (y.middles +++ y.lasts) in
      let d = sizes_plus y.middles y.lasts in
      omega arith

  -- In those in the middle two graves fewer than in the tree are more than one for each.
  pub lay_fewer : status k t ≡ part → sizes y.middles + 2 ≤ size t + len y.middles
  lay_fewer e =
      let a = mixed_len y.all in
      let c = len_plus y.firsts (y.middles +++ y.lasts) in
      let d = len_plus y.middles y.lasts in
      let f = goods_len y.firsts first_sound.good in
      let g = goods_len y.lasts last_sound.good in
      let h = lay_sizes in
      omega (arith, part_kids k t q.good e)

-- The part in cell i has this layout.
module _ (v : View) (n i m : ℕ) (e : Partial ≡ share (get_or v.sets.now i 0) m) (l : Layout)
    (h : (k : ℕ → Bool) (b : Bool) → Mask k b m → (t : Tree) → Part (seen v) n i t → Sound t → status k t ≡ part → Lays v n k b t l) where
  abbrev partial : (s : Stands v n i) → status (has m) s.tree ≡ part
  partial s = part_told v n i m (has m) true (mask_has m) e s.tree s.part s.sound

  abbrev here : (s : Stands v n i) → Lays v n (has m) true s.tree l
  here s = h (has m) true (mask_has m) s.tree s.part s.sound (partial s)

  module _ (s : Stands v n i) where
    -- ---- the branches stand

    abbrev stand : (u : Bunch) (ts : Trees) → Bunched v n u ts → Sounds ts → (cs : List ℕ) → cs ≡ listed u → AllStand v n cs
    stand u ts q o cs f = record { long = s.long; few = s.few; trees = ts; parts = rw f q; sound = o }

    pub first_stand : (cs : List ℕ) → cs ≡ listed l.first → AllStand v n cs
    first_stand = stand l.first (here s).firsts (here s).first (first_sound (here s) s.sound)

    abbrev pub middle_stand : (cs : List ℕ) → cs ≡ listed l.middle → AllStand v n cs
    middle_stand = stand l.middle (here s).middles (here s).middle (middle_sound (here s) s.sound)

    pub last_stand : (cs : List ℕ) → cs ≡ listed l.last → AllStand v n cs
    last_stand = stand l.last (here s).lasts (here s).last (last_sound (here s) s.sound)

    -- ---- there is room

    whole : ones (get_or v.sets.now i 0) ≡ size s.tree
    whole = part_size (seen v) n i s.tree s.part s.sound

    graves : sizes (here s).firsts + (sizes (here s).middles + sizes (here s).lasts) ≡ size s.tree
    graves = lay_sizes (here s) s.sound ∙ (part_kids (has m) s.tree s.sound.good (partial s)).1

    pub room_first : {at : Spot} (cs : List ℕ) → cs ≡ listed l.first → Room at (2 * ones (get_or v.sets.now i 0) + 1) → Room at (2 * weight v.sets.now cs + 1)
    room_first cs f r =
        let a = parts_weight v n (listed l.first) (here s).firsts (here s).first (first_sound (here s) s.sound) in
        let c = graves in
        let d = whole in
        rw f (room_less _ _ (omega arith) r)

    -- The first were written from the spot `at` on.
    module _ {R : Cells} {at mid : Spot} (cs ds : List ℕ) (f : cs ≡ listed l.first) (d : ds ≡ listed l.middle) (g : (ts : Trees) → Parts (seen v) n cs ts → Wrote R at mid (group ts)) where
      pub kept_first : {Q S : Cells} → Kept Q R at.cell → Kept R S mid.cell → Kept Q S at.cell
      kept_first a c = opened_kept a (laid_at (g (here s).firsts (rw f (here s).first))) c

      module _ (r : Room at (2 * ones (get_or v.sets.now i 0) + 1)) where
        room_mid : Room mid (2 * (sizes (here s).middles + sizes (here s).lasts) + 1)
        room_mid =
            let fs = (here s).firsts in
            let z = same_group fs (first_sound (here s) s.sound).good in
            let a = same_sizes (group fs) fs z in
            let c = graves in
            let e = whole in
            room_after (group fs) _ _ (g fs (rw f (here s).first)) z.good (omega arith) r

        pub room_middle : Room mid (2 * weight v.sets.now ds + 1)
        room_middle =
            let c = parts_weight v n ds (here s).middles (middle_stand ds d).parts (middle_sound (here s) s.sound) in
            room_less _ _ (omega arith) room_mid

        pub room_last : {S : Cells} {next : Spot} → FoundAll v n m ds S mid (Some next) → (es : List ℕ) → es ≡ listed l.last → Room next (2 * weight v.sets.now es + 1)
        room_last o es j =
            let ms = (here s).middles in
            let q = middle_sound (here s) s.sound in
            let c = parts_weight v n (listed l.last) (here s).lasts (here s).last (last_sound (here s) s.sound) in
            rw j (opened_room ms _ _ (o (has m) true (mask_has m) ms (middle_stand ds d).parts q) (keeps_all (has m) true ms q.good) (omega arith) room_mid)

      pub kept_all : {Q S T : Cells} {next : Spot} → FoundAll v n m ds S mid (Some next) → Kept Q R at.cell → Kept R S mid.cell → Kept S T next.cell → Kept Q T at.cell
      kept_all o a c e = kept_first a (opened_kept c (o (has m) true (mask_has m) (here s).middles (middle_stand ds d).parts (middle_sound (here s) s.sound)) e)

    -- ---- and the branches in the middle are fewer

    pub lighter : (ds : List ℕ) → ds ≡ listed l.middle → 2 * (weight v.sets.now ds - length ds) + 3 < 2 * ones (get_or v.sets.now i 0)
    lighter ds d =
        let ts = (here s).middles in
        let p = (middle_stand ds d).parts in
        let q = middle_sound (here s) s.sound in
        let a = parts_weight v n ds ts p q in
        let c = parts_len (seen v) n ds ts p in
        let f = goods_len ts q.good in
        let g = lay_fewer (here s) s.sound (partial s) in
        omega (arith, whole)

  -- ---- what is written

  -- All was written: it is the opening of whatever tree stands there.
  pub laid_open : {R S T : Cells} {at mid next end : Spot} (cs ds es : List ℕ) → cs ≡ listed l.first → ds ≡ listed l.middle → es ≡ listed l.last →
      ((ts : Trees) → Parts (seen v) n cs ts → Wrote R at mid (group ts)) → Kept R S mid.cell → FoundAll v n m ds S mid (Some next) → Kept S T next.cell →
      ((ts : Trees) → Parts (seen v) n es ts → Wrote T next end (group ts)) → Found v n m i T at (Some end)
  laid_open cs ds es f d j first c middle g last k b w t p q =
      let y = h k b w t p q (part_told v n i m k b w e t p q) in
      let o = middle k b w y.middles (rw d y.middle) (middle_sound y q) in
      rw y.opens (opened_plus (laid_at (first y.firsts (rw f y.first))) (opened_kept c o g) (opened_plus o g (laid_at (last y.lasts (rw j y.last)))))

  -- One branch could not be laid open: neither can the tree.
  pub laid_not : {T : Cells} {mid : Spot} (at : Spot) (ds : List ℕ) → ds ≡ listed l.middle → FoundAll v n m ds T mid None → Found v n m i T at None
  laid_not at ds d fails k b w t p q =
      let y = h k b w t p q (part_told v n i m k b w e t p q) in
      rw (y.opens, opened_stuck (fails k b w y.middles (rw d y.middle) (middle_sound y q))) not_laid
