-- Branches in any order, changed as a program does it: those without the kind, and one branch for all that have it.
use Rattle.std.proofs.Common.{◌≡◌, ℕ, ◌+◌, ◌*◌, ◌<◌, ◌≤◌, Bool, true, eqb, List, length, Some, None, Option, refl, ap, ◌∙◌, arith}
use lib.Count.{ones}
use Rattle.finds.specs.Trees.{Tree, any, Trees, none, more, Goods, len}
use Rattle.finds.specs.Branches.{◌+++◌}
use Rattle.finds.specs.Counts.{count_t, count_ts}
use Rattle.finds.specs.Sets.{has}
use Rattle.finds.proofs.Branches.{goods_plus}
use Rattle.finds.proofs.Counts.{count_ts_plus, mixed_count}
use Rattle.pqtree.specs.Status.{Status, bare, part, full, sel, heavy}
use Rattle.pqtree.specs.Change.{Outcome, torn, made, as_row, row_cut, cut_middle, join}
use Rattle.pqtree.specs.Opening.{Opening, stuck, laid, group}
use Rattle.pqtree.proofs.Status.{heavy_len}
use Rattle.pqtree.proofs.Chosen.{lined_mixed, lined_heavy, sel_goods}
use Rattle.pqtree.proofs.Opening.{group_goods, group_count}
use Rattle.trees.specs.Cells.{sizes, sets_of, kids, Cells, Parts, Sound, Sounds}
use Rattle.trees.specs.Rows.{seen, Stands}
use Rattle.trees.specs.Subtrees.{Is}
use Rattle.trees.specs.declared.rows.View.{View}
use Rattle.trees.specs.declared.subtree.Subtree.{Subtree}
use Rattle.trees.proofs.Allowing.{sizes_plus}
use Rattle.trees.proofs.Cells.{parts_len}
use Rattle.trees.proofs.Finding.{had_standing}
use Rattle.trees.proofs.Sets.{same_set, sound_kids}
use Rattle.trees.proofs.Standing.{kids_size}
use Rattle.trees.proofs.Allowing.{sizes_mixed}
use Rattle.changes.specs.declared.bunch.Bunch.{Bunch}
use Rattle.changes.specs.declared.shares.Share.{Share}
use Rattle.changes.specs.declared.shares.Share.TheVariants.{Empty, Partial, Full}
use Rattle.changes.specs.declared.draft.Spot.{Spot}
use Rattle.changes.specs.declared.opening.Layout.{Layout}
use Rattle.changes.specs.Bunches.{listed, AllStand, weight}
use Rattle.changes.specs.Draft.{Kept, Rebuilt}
use Rattle.changes.specs.Layouts.{Picked, Apart}
use Rattle.changes.specs.Written.{first_in, Headed, Room, Wrote}
use Rattle.changes.proofs.Keeping.{Keeps, keeps_cut}
use Rattle.changes.proofs.Laying.{room_less}
use Rattle.changes.proofs.Layouts.{sel_sounds, picked_bunch}
use Rattle.changes.proofs.Standing.{parts_weight, room_after}
use Rattle.changes.proofs.Telling.{told, mask_has}
use Rattle.changes.proofs.Writing.{wrote_plus, lies_wrote, lies_any}

-- ---- the graves of what was made

-- What was made has the graves of ts.
abbrev pub Graves : Outcome → Trees → Type 0
Graves torn ts = Unit {0}
Graves (made u) ts = (q : ℕ → Bool) (c : Bool) → count_t q c u ≡ count_ts q c ts

row_graves : (o : Opening) (x y : Trees) → Keeps o x → ((q : ℕ → Bool) (c : Bool) → count_ts q c x ≡ count_ts q c y) → Graves (as_row o) y
row_graves stuck x y g f = tt
row_graves (laid us) x y g f = λ q c. g.counts q c ∙ f q c

middle_graves : (k : ℕ → Bool) (ps fs : Trees) → Goods ps → Goods fs → Graves (cut_middle k ps fs) (ps +++ fs)
middle_graves k none fs g h = λ q c. refl
middle_graves k (more p ps) fs g h =
    row_graves (row_cut k (more p (group fs +++ ps))) (more p (group fs +++ ps)) (more p ps +++ fs) (keeps_cut k (more p (group fs +++ ps)) (g.0, goods_plus (group fs) ps (group_goods fs h) g.1))
    (λ q c. let a = count_ts_plus q c (group fs) ps in let b = count_ts_plus q c ps fs in let d = group_count q c fs in omega arith)

-- The bare branches and what was made have the graves of all branches.
joined_set : (k : ℕ → Bool) (ts : Trees) → Sounds ts → (u : Tree) → Graves (made u) (sel k part ts +++ sel k full ts) → sets_of ts ≡ sets_of (sel k bare ts +++ more u none)
joined_set k ts s u g = same_set (any ts) (any (sel k bare ts +++ more u none)) (λ x.
    let a = mixed_count (eqb x) true (lined_mixed k true ts) in
    let b = count_ts_plus (eqb x) true (sel k bare ts) (sel k part ts +++ sel k full ts) in
    let c = count_ts_plus (eqb x) true (sel k bare ts) (more u none) in
    let d = g (eqb x) true in
    omega arith)

-- ---- joined with the bare ones

pub join_none : (o : Outcome) → o ≡ join none o
join_none torn = refl
join_none (made t) = refl

-- The cell was written, the bare branches inside it, and then what was made.
pub rebuilt_join : {R S T : Cells} (at : Spot) {first next : Spot} {m : ℕ} (k : ℕ → Bool) (ts : Trees) → Sounds ts → first ≡ first_in at → Headed R at 1 m → m ≡ sets_of ts →
    Kept R T first.cell → 0 < len (sel k bare ts) → Wrote S first next (sel k bare ts) → Kept S T next.cell →
    (r : Option ℕ) → Rebuilt T next.cell next.parent next.place r (cut_middle k (sel k part ts) (sel k full ts)) →
    Rebuilt T at.cell at.parent at.place r (join (sel k bare ts) (cut_middle k (sel k part ts) (sel k full ts)))
rebuilt_join {S = S} {T = T} at {first = first} {next = next} k ts s i h e f l w g r b =
    go (sel k bare ts) l w (joined_set k ts s) r (cut_middle k (sel k part ts) (sel k full ts)) (middle_graves k (sel k part ts) (sel k full ts) (sel_goods k part ts s.good) (sel_goods k full ts s.good)) b
  where
    go : (es : Trees) → 0 < len es → Wrote S first next es → ((u : Tree) → Graves (made u) (sel k part ts +++ sel k full ts) → sets_of ts ≡ sets_of (es +++ more u none)) →
        (r : Option ℕ) (o : Outcome) → Graves o (sel k part ts +++ sel k full ts) → Rebuilt T next.cell next.parent next.place r o → Rebuilt T at.cell at.parent at.place r (join es o)
    go none l w j r o c b = absurd (omega arith)
    go (more x es) l w j None torn c b = tt
    go (more x es) l w j None (made u) c b = absurd b
    go (more x es) l w j (Some n) torn c b = absurd b
    go (more x es) l w j (Some n) (made u) c b =
        lies_any at i f (more x es +++ more u none) (e ∙ j u c)
        (wrote_plus (more x es) (more u none) w g (lies_wrote {next = record { cell = n; parent = next.parent; place = next.place + 1 }} u b refl refl)) h

-- ---- by the cells of its branches

-- The branches of the part have their roots in the cells cs, which were set apart by their share of the kind.
module _ (whole_part : Subtree) {m : ℕ} {us cs : List ℕ} (f : cs ≡ us) (g : (t : Tree) → Is whole_part t → Parts (seen whole_part.rows) whole_part.count us (kids t)) {l : Layout} (a : Apart whole_part.rows.sets.now m cs l) where
  abbrev v : View
  v = whole_part.rows

  abbrev n : ℕ
  n = whole_part.count

  abbrev i : ℕ
  i = whole_part.root

  abbrev s : Stands v n i
  s = had_standing whole_part.stands

  apart_parts : (want : Share) (w : Bunch) → Picked v.sets.now m cs want w → (xs : List ℕ) → xs ≡ listed w → (t : Tree) → Is whole_part t → Sound t → Parts (seen v) n xs (sel (has m) (told true want) (kids t))
  apart_parts want w c xs e t p q = rw e (picked_bunch v n (has m) true m (mask_has m) cs (kids t) (rw f (g t p)) (sound_kids t q) want w c)

  pub bare_parts : (xs : List ℕ) → xs ≡ listed l.first → (t : Tree) → Is whole_part t → Sound t → Parts (seen v) n xs (sel (has m) bare (kids t))
  bare_parts = apart_parts Empty l.first a.first

  pub partial_parts : (xs : List ℕ) → xs ≡ listed l.middle → (t : Tree) → Is whole_part t → Sound t → Parts (seen v) n xs (sel (has m) part (kids t))
  partial_parts = apart_parts Partial l.middle a.middle

  pub full_parts : (xs : List ℕ) → xs ≡ listed l.last → (t : Tree) → Is whole_part t → Sound t → Parts (seen v) n xs (sel (has m) full (kids t))
  full_parts = apart_parts Full l.last a.last

  abbrev ts : Trees
  ts = kids s.tree

  sounds : Sounds ts
  sounds = sound_kids s.tree s.sound

  apart_stand : (q : Status) (xs : List ℕ) → Parts (seen v) n xs (sel (has m) q ts) → AllStand v n xs
  apart_stand q xs p = record { long = s.long; few = s.few; trees = sel (has m) q ts; parts = p; sound = sel_sounds (has m) q ts sounds }

  pub bare_stand : (xs : List ℕ) → xs ≡ listed l.first → AllStand v n xs
  bare_stand xs e = apart_stand bare xs (bare_parts xs e s.tree s.part s.sound)

  pub partial_stand : (xs : List ℕ) → xs ≡ listed l.middle → AllStand v n xs
  partial_stand xs e = apart_stand part xs (partial_parts xs e s.tree s.part s.sound)

  pub full_stand : (xs : List ℕ) → xs ≡ listed l.last → AllStand v n xs
  full_stand xs e = apart_stand full xs (full_parts xs e s.tree s.part s.sound)

  module _ (d : (seen v).sort i ≡ 1) (h : (t : Tree) → Is whole_part t → 2 ≤ heavy (has m) (kids t)) (ys zs : List ℕ) (y : ys ≡ listed l.middle) (z : zs ≡ listed l.last) where
    pub two_heavy : 2 ≤ length ys + length zs
    two_heavy =
        let b = parts_len (seen v) n ys (sel (has m) part ts) (partial_parts ys y s.tree s.part s.sound) in
        let c = parts_len (seen v) n zs (sel (has m) full ts) (full_parts zs z s.tree s.part s.sound) in
        let e = heavy_len (has m) (sel (has m) part ts) in
        let j = heavy_len (has m) (sel (has m) full ts) in
        omega (arith, h s.tree s.part, lined_heavy (has m) ts)

    whole : ones ((seen v).set i) ≡ sizes (sel (has m) bare ts) + (weight v.sets.now ys + weight v.sets.now zs)
    whole =
        let b = parts_weight v n ys (sel (has m) part ts) (partial_parts ys y s.tree s.part s.sound) (sel_sounds (has m) part ts sounds) in
        let c = parts_weight v n zs (sel (has m) full ts) (full_parts zs z s.tree s.part s.sound) (sel_sounds (has m) full ts sounds) in
        let e = sizes_mixed (lined_mixed (has m) true ts) in
        let j = sizes_plus (sel (has m) bare ts) (sel (has m) part ts +++ sel (has m) full ts) in
        let k = sizes_plus (sel (has m) part ts) (sel (has m) full ts) in
        omega (arith, kids_size (seen v) n i s.tree s.part s.sound (omega arith))

    -- There is room for those with the kind.
    pub room_heavy : (o : ℕ) → o + 2 * ones ((seen v).set i) ≤ 255 → o + 2 * (weight v.sets.now ys + weight v.sets.now zs) ≤ 255
    room_heavy o r = omega (arith, whole)

    pub room_bares : {at : Spot} → Room at (2 * ones ((seen v).set i)) → (xs : List ℕ) → xs ≡ listed l.first → Room at (2 * weight v.sets.now xs)
    room_bares r xs e =
        let b = parts_weight v n xs (sel (has m) bare ts) (bare_parts xs e s.tree s.part s.sound) (sel_sounds (has m) bare ts sounds) in
        room_less _ _ (omega (arith, whole)) r

    -- Behind the bare ones too, if there are any.
    pub room_joined : {R : Cells} {at next : Spot} → Room at (2 * ones ((seen v).set i)) → 0 < length (listed l.first) → (xs : List ℕ) → xs ≡ listed l.first →
        ((ts : Trees) → Parts (seen v) n xs ts → Wrote R at next ts) → next.cell + 2 * (weight v.sets.now ys + weight v.sets.now zs) ≤ 255
    room_joined r b xs e w =
        let es = sel (has m) bare ts in
        let p = bare_parts xs e s.tree s.part s.sound in
        let c = parts_len (seen v) n xs es p in
        let j = ap length e in
        let k = room_after es _ (2 * (weight v.sets.now ys + weight v.sets.now zs) + 1) (w es p) (sel_goods (has m) bare ts sounds.good) (omega (arith, whole)) r in
        omega (arith, k.fits)

  pub some_bare : 0 < length (listed l.first) → (t : Tree) → Is whole_part t → Sound t → 0 < len (sel (has m) bare (kids t))
  some_bare b t p q = omega (arith, parts_len (seen v) n (listed l.first) (sel (has m) bare (kids t)) (bare_parts (listed l.first) refl t p q))

  pub none_bare : length (listed l.first) ≡ 0 → (t : Tree) → Is whole_part t → Sound t → sel (has m) bare (kids t) ≡ none
  none_bare b t p q = go (sel (has m) bare (kids t)) (omega (arith, parts_len (seen v) n (listed l.first) (sel (has m) bare (kids t)) (bare_parts (listed l.first) refl t p q)))
    where
      go : (es : Trees) → len es ≡ 0 → es ≡ none
      go none h = refl
      go (more x es) h = absurd (omega arith)
