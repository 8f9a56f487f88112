-- Lists of cells at which sound trees stand: what they weigh, and each of them.
use Rattle.std.proofs.Common.{◌≡◌, ℕ, zero, suc, ◌+◌, ◌*◌, ◌<◌, ◌≤◌, List, [], ◌∷◌, length, get_or, take, drop, refl, arith}
use lib.Count.{ones}
use Rattle.std.specs.List.{All}
use Rattle.finds.specs.Trees.{any, Trees, none, more, len, Goods}
use Rattle.pqtree.specs.Opening.{group}
use Rattle.trees.specs.Cells.{sizes, sets_of, Cells, Parts, Sounds}
use Rattle.trees.specs.Rows.{seen, Stands}
use Rattle.trees.specs.declared.rows.View.{View}
use Rattle.trees.proofs.Cells.{some_nodes, len_nodes, all_few_nodes, body_set, parts_len}
use Rattle.trees.proofs.Allowing.{goods_len}
use Rattle.trees.proofs.Standing.{part_size}
use Rattle.trees.proofs.Sets.{sounds_first, sounds_rest, few_branches}
use Rattle.changes.specs.declared.draft.Spot.{Spot}
use Rattle.changes.specs.Bunches.{AllStand, weight}
use Rattle.changes.specs.Shares.{union_of}
use Rattle.changes.specs.Written.{Room, Wrote}
use Rattle.changes.proofs.Fronts.{front, back, parts_front, parts_back, sounds_front, sounds_back, tree_at, front_size, front_goods, part_at, sound_at}

pub parts_weight : (v : View) (n : ℕ) (cs : List ℕ) (ts : Trees) → Parts (seen v) n cs ts → Sounds ts → weight v.sets.now cs ≡ sizes ts
parts_weight v n [] none p s = refl
parts_weight v n [] (more t ts) p s = absurd p
parts_weight v n (c ∷ cs) none p s = absurd p
parts_weight v n (c ∷ cs) (more t ts) p s = let x = part_size (seen v) n c t p.0 (sounds_first t ts s) in let y = parts_weight v n cs ts p.1 (sounds_rest t ts s) in omega arith

-- Each of them has a grave.
pub stand_weight : (v : View) (n : ℕ) (cs : List ℕ) → AllStand v n cs → length cs ≤ weight v.sets.now cs
stand_weight v n cs s =
    let ts = s.trees in
    let a = parts_weight v n cs ts s.parts s.sound in
    let b = parts_len (seen v) n cs ts s.parts in
    let d = goods_len ts s.sound.good in
    omega arith

pub parts_union : (v : View) (n : ℕ) (cs : List ℕ) (ts : Trees) → Parts (seen v) n cs ts → union_of v.sets.now cs ≡ sets_of ts
parts_union v n [] none p = refl
parts_union v n [] (more t ts) p = absurd p
parts_union v n (c ∷ cs) none p = absurd p
parts_union v n (c ∷ cs) (more t ts) p = rw (body_set (seen v) c t p.0.0, parts_union v n cs ts p.1)

-- Each cell is one of the first n.
parts_below : (R : Cells) (n : ℕ) (cs : List ℕ) (ts : Trees) → Parts R n cs ts → All (λ c. c < n) cs
parts_below R n [] ts p k d l = absurd (omega arith)
parts_below R n (c ∷ cs) none p k d l = absurd p
parts_below R n (c ∷ cs) (more t ts) p zero d l = omega (arith, p.0.1, some_nodes t)
parts_below R n (c ∷ cs) (more t ts) p (suc k) d l = parts_below R n cs ts p.1 k d (omega arith)

pub stand_below : (v : View) (n : ℕ) (cs : List ℕ) → AllStand v n cs → All (λ c. c < length v.sets.now) cs
stand_below v n cs s k d l = omega (arith, parts_below (seen v) n cs s.trees s.parts k d l, s.long.sets_long)

pub stand_few : (v : View) (n : ℕ) (cs : List ℕ) → AllStand v n cs → length cs ≤ 64
stand_few v n cs s = omega (arith, parts_len (seen v) n cs s.trees s.parts, few_branches s.trees s.sound)

-- The first x of them, and those behind.
pub all_front : {v : View} {n : ℕ} {cs : List ℕ} (x : ℕ) → AllStand v n cs → AllStand v n (take x cs)
all_front {v} {n} {cs} x s = record { long = s.long; few = s.few; trees = front x s.trees; parts = parts_front (seen v) n cs s.trees x s.parts; sound = sounds_front x s.trees s.sound }

pub all_behind : {v : View} {n : ℕ} {cs : List ℕ} (x : ℕ) → AllStand v n cs → AllStand v n (drop x cs)
all_behind {v} {n} {cs} x s = record { long = s.long; few = s.few; trees = back x s.trees; parts = parts_back (seen v) n cs s.trees x s.parts; sound = sounds_back x s.trees s.sound }

pub stand_at : (v : View) (n : ℕ) (cs : List ℕ) (x : ℕ) → AllStand v n cs → x < length cs → Stands v n (get_or cs x 0)
stand_at v n cs x s l = record {
  long = s.long;
  few = s.few;
  below = (let p = part_at (seen v) n cs s.trees x s.parts l in omega (arith, p.1, some_nodes (tree_at x s.trees)));
  tree = tree_at x s.trees;
  part = part_at (seen v) n cs s.trees x s.parts l;
  sound = sound_at s.trees x s.sound (let e = parts_len (seen v) n cs s.trees s.parts in omega arith);
}

-- Behind what was written there is room for the rest.
pub room_after : {R : Cells} {at next : Spot} (us : Trees) (a b : ℕ) → Wrote R at next us → Goods us → 2 * sizes us + b ≤ a + len us → Room at a → Room next b
room_after us a b w g l r = record {
  fits = (let x = all_few_nodes us g in omega (arith, w.cell_is, r.fits));
  few = (let x = len_nodes us in omega (arith, w.cell_is, w.place_is, r.few));
}

-- At the cell behind the first x, which were copied.
pub room_at : {R : Cells} {at next : Spot} (v : View) (n : ℕ) (cs : List ℕ) (x : ℕ) → (s : AllStand v n cs) → x < length cs →
    Wrote R at next (front x s.trees) → Room at (2 * weight v.sets.now cs) → Room next (2 * ones (get_or v.sets.now (get_or cs x 0) 0))
room_at v n cs x s l w r =
    let ts = s.trees in
    let e = parts_weight v n cs ts s.parts s.sound in
    let m = parts_len (seen v) n cs ts s.parts in
    let f = part_size (seen v) n (get_or cs x 0) (tree_at x ts) (part_at (seen v) n cs ts x s.parts l) (sound_at ts x s.sound (omega arith)) in
    let g = front_size x ts (omega arith) in
    room_after (front x ts) _ _ w (front_goods x ts s.sound.good) (omega arith) r

-- ---- groups

pub group_few : (ts : Trees) → len ts < 2 → group ts ≡ ts
group_few none l = refl
group_few (more t none) l = refl
group_few (more t (more u us)) l = absurd (omega arith)

pub group_many : (ts : Trees) → 2 ≤ len ts → group ts ≡ more (any ts) none
group_many none l = absurd (omega arith)
group_many (more t none) l = absurd (omega arith)
group_many (more t (more u us)) l = refl
