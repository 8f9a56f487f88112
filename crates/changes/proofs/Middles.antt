-- The partial branches and the full ones, bound together as a program does it.
use Rattle.std.proofs.Common.{◌≡◌, ℕ, ◌+◌, ◌*◌, ◌<◌, ◌≤◌, Bool, true, false, eqb, cond, List, length, get_or, drop, Some, None, Option, sym, refl, ap, ◌∙◌, arith}
use lib.Bits.{bit_or}
use lib.Count.{ones}
use Rattle.std.proofs.lemmas.Bool.{eqb-false}
use Rattle.finds.specs.Trees.{Tree, any, Trees, none, more, Goods, len}
use Rattle.finds.specs.Branches.{◌+++◌}
use Rattle.finds.specs.Sets.{has}
use Rattle.finds.proofs.Counts.{count_ts_plus}
use Rattle.pqtree.specs.Status.{part, full, few, sel}
use Rattle.pqtree.specs.Change.{made, as_row, cut_middle}
use Rattle.pqtree.specs.Opening.{Opening, stuck, laid, ◌⊞◌, group, open_up, open_all, open_row}
use Rattle.pqtree.proofs.Chosen.{Are as AllOf, sel_are, sel_goods}
use Rattle.pqtree.proofs.Computed.{sorted_parts, cut_middle_is}
use Rattle.trees.specs.Cells as cells
use Rattle.trees.specs.Cells.{size, sizes, sets_of, Cells, Sound, Sounds}
use Rattle.trees.specs.Rows.{seen}
use Rattle.trees.specs.declared.rows.View.{View}
use Rattle.trees.proofs.Allowing.{good_size, goods_len}
use Rattle.trees.proofs.Cells.{parts_len}
use Rattle.trees.proofs.Sets.{sets_plus}
use Rattle.trees.proofs.Standing.{part_size}
use Rattle.changes.specs.declared.draft.Spot.{Spot}
use Rattle.changes.specs.declared.parts.Parts.{Parts}
use Rattle.changes.specs.Bunches.{AllStand, weight}
use Rattle.changes.specs.Parts.{Are}
use Rattle.changes.specs.Draft.{Kept}
use Rattle.changes.specs.Shares.{union_of}
use Rattle.changes.specs.Written.{Room, Wrote, Opened, laid_at}
use Rattle.changes.proofs.Fronts.{tree_at, back, part_at, sound_at, parts_back, sounds_back, three_sizes, three_len}
use Rattle.changes.proofs.Having.{had_all}
use Rattle.changes.proofs.Keeping.{Keeps, same_group, same_sizes, keeps_as, keeps_plus, keeps_up, keeps_row}
use Rattle.changes.proofs.Laying.{room_less}
use Rattle.changes.proofs.Openings.{opened_kept, opened_plus, opened_not, opened_room_more, Found}
use Rattle.changes.proofs.Standing.{parts_weight, parts_union, room_after, stand_weight}
use Rattle.changes.proofs.Telling.{mask_has}

-- ---- what the middle is

-- The row of the middle, laid open.
abbrev pub laid_middle : (ℕ → Bool) → Trees → Trees → Opening
laid_middle k none fs = stuck
laid_middle k (more p ps) fs = open_up k true p ⊞ (laid (group fs) ⊞ open_row k false ps)

-- That more than one partial branch more cannot be laid open, the sequence of them tells.
pub middle_is : (k : ℕ → Bool) (ps fs : Trees) → 0 < len ps → AllOf k part ps → Goods fs → AllOf k full fs → cut_middle k ps fs ≡ as_row (laid_middle k ps fs)
middle_is k none fs l a g c = absurd (omega arith)
middle_is k (more p ps) fs l a g c =
    cut_middle_is k p ps fs a.0 a.1 g c ∙ ap (λ (o : Opening). as_row (open_up k true p ⊞ o)) (rw (sorted_parts k false ps a.1) (go (few ps)))
  where
    go : (x : Bool) → cond x (laid (group fs) ⊞ open_all k false ps) stuck ≡ laid (group fs) ⊞ cond x (open_all k false ps) stuck
    go true = refl
    go false = refl

pub no_middle : (k : ℕ → Bool) (ps fs : Trees) → len ps ≡ 0 → cut_middle k ps fs ≡ made (any fs)
no_middle k none fs e = refl
no_middle k (more p ps) fs e = absurd (omega arith)

-- It has the graves of the full ones and of the partial ones.
pub keeps_middle : (k : ℕ → Bool) (ps fs : Trees) → Goods ps → Goods fs → Keeps (laid_middle k ps fs) (fs +++ ps)
keeps_middle k none fs g h = tt
keeps_middle k (more p ps) fs g h =
    keeps_as (laid_middle k (more p ps) fs) (more p none +++ (fs +++ ps)) (fs +++ more p ps)
    (λ q c. let a = count_ts_plus q c fs ps in let b = count_ts_plus q c fs (more p ps) in omega arith)
    (keeps_plus (open_up k true p) (laid (group fs) ⊞ open_row k false ps) (more p none) (fs +++ ps) (keeps_up k true p g.0)
    (keeps_plus (laid (group fs)) (open_row k false ps) fs ps (same_group fs h) (keeps_row k false ps g.1)))

pub middle_set : (a b : ℕ) (partials fulls : Parts) (ps fs : Trees) → Are partials ps → Are fulls fs → a ≡ union_of fulls.rows.sets.now fulls.cells.now → b ≡ union_of partials.rows.sets.now partials.cells.now → bit_or a b ≡ sets_of (fs +++ ps)
middle_set a b partials fulls ps fs p q e f = rw (e ∙ parts_union fulls.rows _ _ fs q, f ∙ parts_union partials.rows _ _ ps p) (sym (sets_plus fs ps))

-- ---- by the partial branches and the full ones

-- There is a partial branch.
module _ (m : ℕ) (partials fulls : Parts) (e : false ≡ eqb (length partials.cells.now) 0) where
  l : 0 < length partials.cells.now
  l = omega (arith, eqb-false (length partials.cells.now) 0 (sym e))

  abbrev v : View
  v = partials.rows

  abbrev n : ℕ
  n = partials.count

  abbrev cs : List ℕ
  cs = partials.cells.now

  abbrev full_weight : ℕ
  full_weight = weight fulls.rows.sets.now fulls.cells.now

  abbrev pub rest : List ℕ
  rest = drop 1 cs

  rest_parts : (ps : Trees) → Are partials ps → cells.Parts (seen v) n rest (back 1 ps)
  rest_parts ps p = parts_back (seen v) n cs ps 1 p

  some : (ps : Trees) → Are partials ps → 0 < len ps
  some ps p = omega (arith, l, parts_len (seen v) n cs ps p)

  -- So it is for the branches of those statuses.
  pub sel_middle : (ts : Trees) → Sounds ts → Are partials (sel (has m) part ts) → cut_middle (has m) (sel (has m) part ts) (sel (has m) full ts) ≡ as_row (laid_middle (has m) (sel (has m) part ts) (sel (has m) full ts))
  sel_middle ts s p = middle_is (has m) (sel (has m) part ts) (sel (has m) full ts) (some _ p) (sel_are (has m) part ts) (sel_goods (has m) full ts s.good) (sel_are (has m) full ts)

  one_there : {R : Cells} {at : Spot} {r : Option Spot} → Found v n m (get_or cs 0 0) R at r → (ps : Trees) → Are partials ps → Sounds ps → Opened R at r (open_up (has m) true (tree_at 0 ps))
  one_there o ps p q = o (has m) true (mask_has m) (tree_at 0 ps) (part_at (seen v) n cs ps 0 p l) (sound_at ps 0 q (some ps p))

  is_laid : (ps fs : Trees) → 0 < len ps → laid_middle (has m) ps fs ≡ open_up (has m) true (tree_at 0 ps) ⊞ (laid (group fs) ⊞ open_row (has m) false (back 1 ps))
  is_laid none fs h = absurd (omega arith)
  is_laid (more p ps) fs h = refl

  -- The first one cannot be laid open.
  pub middle_stuck : {R : Cells} {at : Spot} → Found v n m (get_or cs 0 0) R at None → (ps fs : Trees) → Are partials ps → Sounds ps → Opened R at None (laid_middle (has m) ps fs)
  middle_stuck o ps fs p q = rw (is_laid ps fs (some ps p)) (opened_not (laid (group fs) ⊞ open_row (has m) false (back 1 ps)) (one_there o ps p q))

  -- It is laid open, the full ones are written as one branch, and r is what comes of the rest, laid open the other way.
  pub middle_opened : {R S T : Cells} {at next mid : Spot} {r : Option Spot} → Found v n m (get_or cs 0 0) R at (Some next) → Kept R S next.cell →
      ((us : Trees) → Are fulls us → Wrote S next mid (group us)) → Kept S T mid.cell →
      ((us : Trees) → cells.Parts (seen v) n rest us → Sounds us → Opened T mid r (open_row (has m) false us)) →
      (ps fs : Trees) → Are partials ps → Sounds ps → Are fulls fs → Opened T at r (laid_middle (has m) ps fs)
  middle_opened o h w j others ps fs p q u =
      let g = w fs u in
      rw (is_laid ps fs (some ps p))
      (opened_plus (one_there o ps p q) (opened_kept h (laid_at g) j) (opened_plus (laid_at g) j (others (back 1 ps) (rest_parts ps p) (sounds_back 1 ps q))))

  -- ---- they stand, and there is room

  abbrev s : AllStand v n cs
  s = had_all partials.stand

  abbrev z : AllStand fulls.rows fulls.count fulls.cells.now
  z = had_all fulls.stand

  abbrev p : Tree
  p = tree_at 0 s.trees

  p_sound : Sound p
  p_sound = sound_at s.trees 0 s.sound (some s.trees s.parts)

  p_size : ones (get_or v.sets.now (get_or cs 0 0) 0) ≡ size p
  p_size = part_size (seen v) n (get_or cs 0 0) p (part_at (seen v) n cs s.trees 0 s.parts l) p_sound

  all_size : weight v.sets.now cs ≡ size p + sizes (back 1 s.trees)
  all_size = let a = parts_weight v n cs s.trees s.parts s.sound in let b = three_sizes 0 s.trees (some s.trees s.parts) in omega arith

  module _ {at : Spot} (r : Room at (2 * (weight v.sets.now cs + full_weight))) where
    -- Another branch has a grave too.
    pub room_one : 2 ≤ length cs + length fulls.cells.now → Room at (2 * ones (get_or v.sets.now (get_or cs 0 0) 0) + 1)
    room_one two =
        let a = stand_weight _ _ _ z in
        let b = goods_len (back 1 s.trees) (sounds_back 1 s.trees s.sound).good in
        let c = three_len 0 s.trees (some s.trees s.parts) in
        let d = parts_len (seen v) n cs s.trees s.parts in
        room_less _ _ (omega (arith, p_size, all_size)) r

    module _ {R : Cells} {next : Spot} (o : Found v n m (get_or cs 0 0) R at (Some next)) where
      room_two : Room next (2 * (sizes (back 1 s.trees) + full_weight) + 1)
      room_two =
          opened_room_more (more p none) _ _ (one_there o s.trees s.parts s.sound) (keeps_up (has m) true p p_sound.good) (omega (arith, good_size p p_sound.good)) (omega (arith, all_size)) r

      pub room_fulls : Room next (2 * full_weight + 1)
      room_fulls = room_less _ _ (omega arith) room_two

      module _ {S : Cells} {mid : Spot} (w : (us : Trees) → Are fulls us → Wrote S next mid (group us)) where
        pub kept_two : {Q T : Cells} → Kept Q R at.cell → Kept R S next.cell → Kept S T mid.cell → Kept Q T at.cell
        kept_two h j a = opened_kept h (one_there o s.trees s.parts s.sound) (opened_kept j (laid_at (w z.trees z.parts)) a)

        pub room_rest : Room mid (2 * weight v.sets.now rest + 1)
        room_rest =
            let fs = z.trees in
            let g = same_group fs z.sound.good in
            let a = same_sizes (group fs) fs g in
            let b = parts_weight fulls.rows _ _ fs z.parts z.sound in
            let c = parts_weight v n rest (back 1 s.trees) (rest_parts s.trees s.parts) (sounds_back 1 s.trees s.sound) in
            room_after (group fs) _ _ (w fs z.parts) g.good (omega arith) room_two
