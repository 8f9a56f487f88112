-- Rows checked for a tree, branch by branch.
use Rattle.std.proofs.Common.{◌≡◌, ℕ, zero, suc, ◌+◌, ◌/◌, ◌%◌, ◌^◌, ◌<◌, ◌≤◌, Bool, true, false, eqb, ◌⊎◌, sym, refl, ap, ◌∙◌, subst, inl, inr, pow-suc, arith, pow_mono}
use lib.Arith.{bin_ind}
use lib.Bits.{bit_and, bit_or}
use lib.Count.{ones, ones_step}
use Rattle.std.proofs.lemmas.Bool.{cases_lt, ne_eqb}
use Rattle.finds.specs.Branches.{◌+++◌}
use Rattle.finds.specs.Counts.{hit, count_t, count_ts}
use Rattle.finds.specs.Sets.{bit}
use Rattle.finds.specs.Trees.{Tree, grave, any, row, Trees, none, more, len, Good}
use Rattle.finds.proofs.Branches.{len_plus, goods_plus}
use Rattle.finds.proofs.Counts.{count_ts_plus}
use Rattle.trees.specs.Cells.{nodes, all_nodes, size, set_of, sets_of, kids, Sound, Sounds, Cells, Body, Ats, Ends, Part, Holds}
use Rattle.trees.specs.Checks.{Checked, TreeIn}
use Rattle.trees.specs.Rows.{seen, Stands}
use Rattle.trees.specs.declared.rows.View.{View}
use Rattle.finds.proofs.Bits.{bit_of_and, bit_zero, bit_ext, ones_none}
use Rattle.trees.proofs.Cells.{some_nodes, nodes_plus, kids_ats, body_set, ats_cut, ats_at, ats_plus, holds_part}
use Rattle.trees.proofs.Sets.{sound_kids, bit_set, bit_sets, sets_more, few_cells}
use Rattle.trees.proofs.Standing.{part_size, kids_set}
use Rattle.trees.proofs.Walking.{Come, Next, come_nodes, walk_start, walk_next, walk_more, walk_end, next_sound}

-- ---- one grave

ones_zero : (s : ℕ) → ones s ≡ 0 → s ≡ 0
ones_zero = bin_ind (λ (n : ℕ). ones n ≡ 0 → n ≡ 0) (λ e. refl) (λ n ih e. let a = ones_step n in let b = ih (omega arith) in omega arith)

-- A number with one bit is a power of two.
one_bit : (s : ℕ) → ones s ≡ 1 → (g : ℕ) × (s ≡ 2 ^ g)
one_bit = bin_ind (λ (n : ℕ). ones n ≡ 1 → (g : ℕ) × (n ≡ 2 ^ g)) (λ e. absurd (omega (arith, ones_none)))
    (λ n ih e. go n ih e (n % 2) refl)
  where
    go : (n : ℕ) → (ones (n / 2) ≡ 1 → (g : ℕ) × (n / 2 ≡ 2 ^ g)) → ones n ≡ 1 → (d : ℕ) → n % 2 ≡ d → (g : ℕ) × (n ≡ 2 ^ g)
    go n ih e zero h = let a = ones_step n in let r = ih (omega arith) in (suc r.0, (let b = pow-suc 2 r.0 in omega (arith, r.1)))
    go n ih e (suc d) h = let a = ones_step n in let b = ones_zero (n / 2) (omega arith) in (0, omega arith)

pub sound_grave : (g : ℕ) → g < 64 → Sound (grave g)
sound_grave g l = record { good = tt; once = λ x. low (eqb x g); small = λ x h. ap (λ (b : Bool). hit b true) (ne_eqb x g (λ e. omega arith)) }
  where
    low : (b : Bool) → hit b true ≤ 1
    low true = omega arith
    low false = omega arith

pub grave_checked : (R : Cells) (n i : ℕ) → i < n → R.sort i ≡ 0 → R.set i < 2 ^ 64 → ones (R.set i) ≡ 1 → Checked R n i (i + 1)
grave_checked R n i b s f e = let r = one_bit (R.set i) e in record {
  within = omega arith;
  tree = grave r.0;
  body = (s, r.1);
  sound = sound_grave r.0 (small r.0 r.1 (cases_lt r.0 64));
  end = refl;
  only = only;
}
  where
    small : (g : ℕ) → R.set i ≡ 2 ^ g → (g < 64) ⊎ (64 ≤ g) → g < 64
    small g e (inl l) = l
    small g e (inr l) = absurd (let m = pow_mono l in omega arith)

    only : (t : Tree) → Part R n i t → Sound t → i + 1 ≡ i + nodes t
    only (grave g) p q = refl
    only (any ts) p q = absurd (omega (arith, p.0.0))
    only (row ts) p q = absurd (omega (arith, p.0.0))

pub grave_not : (R : Cells) (n i : ℕ) → R.sort i ≡ 0 → (ones (R.set i) ≡ 1 → ⊥) → (t : Tree) → Part R n i t → Sound t → ⊥
grave_not R n i s w (grave g) p q = w (part_size R n i (grave g) p q)
grave_not R n i s w (any ts) p q = omega (arith, p.0.0)
grave_not R n i s w (row ts) p q = omega (arith, p.0.0)

-- ---- branches

-- Sound branches and one more without a grave of theirs are sound.
sounds_more : (x : Trees) (t : Tree) → Sounds x → Sound t → bit_and (sets_of x) (set_of t) ≡ 0 → Sounds (x +++ more t none)
sounds_more x t s q e = record {
  good = goods_plus x (more t none) s.good (q.good, tt);
  once = λ g.
      let z = sum g in
      let a = ap (bit g) e ∙ bit_zero g in
      let b = bit_of_and g (sets_of x) (set_of t) in
      let c = bit_sets g x in
      let d = bit_set g t in
      let o = s.once g in
      let p = q.once g in
      omega arith;
  small = λ g l. let z = sum g in let o = s.small g l in let p = q.small g l in omega arith;
}
  where
    sum : (g : ℕ) → count_ts (eqb g) true (x +++ more t none) ≡ count_ts (eqb g) true x + (count_t (eqb g) true t + 0)
    sum g = count_ts_plus (eqb g) true x (more t none)

-- The branches of t behind those that are done begin at the place that their number gives, and have other graves.
next_place : {R : Cells} {n i c : ℕ} {t : Tree} {P : Trees → Trees → Type 0} → Part R n i t → (x : Next R n i c t P) → (R.parent c ≡ i) × (R.place c ≡ len x.done)
next_place {R} {n} {i} {c} {t} p x =
    let a = (ats_cut R (suc i) i 0 x.done (more x.it x.rest) (subst (Ats R (suc i) i 0) x.is (kids_ats R i t p.0))).1 in
    (ap R.parent x.at ∙ a.0, ap R.place x.at ∙ a.1 ∙ omega arith)

next_apart : {R : Cells} {n i c : ℕ} {t : Tree} {P : Trees → Trees → Type 0} → Sound t → (x : Next R n i c t P) → bit_and (sets_of x.done) (R.set c) ≡ 0
next_apart {R} {c = c} {t = t} s x =
    ap (bit_and (sets_of x.done)) (body_set R c x.it x.part.0)
    ∙ bit_ext (bit_and (sets_of x.done) (set_of x.it)) 0
    (λ g.
    let a = bit_of_and g (sets_of x.done) (set_of x.it) in
    let b = bit_sets g x.done in
    let c = bit_set g x.it in
    let d = count_ts_plus (eqb g) true x.done (more x.it x.rest) in
    let e = ap (count_ts (eqb g) true) x.is in
    let o = (sound_kids t s).once g in
    let z = bit_zero g in
    omega arith)

-- The walk over the branches comes to an end where a cell has another parent.
come_next : {R : Cells} {n i c : ℕ} {t : Tree} {P : Trees → Trees → Type 0} → Part R n i t → Come i c t P → c < n → R.parent c ≡ i → Next R n i c t P
come_next {R} {n} {i} {c} {t} {P} p w l e = walk_next p w refl (go (cases_lt c (i + nodes t)) p.2)
  where
    go : (c < i + nodes t) ⊎ (i + nodes t ≤ c) → Ends R n i (i + nodes t) → c < i + nodes t
    go (inl h) z = h
    go (inr h) z = let a = come_nodes w in let same : i + nodes t ≡ c = omega arith in absurd (ended (subst (Ends R n i) same z))
      where
        ended : Ends R n i c → ⊥
        ended (inl q) = omega arith
        ended (inr q) = omega (arith, q.1)

-- So many branches of cell i have been found, up to the cell c: they lie there, and they are the first branches of each tree that can stand there.
pub record Checking (R : Cells) (n i c place graves : ℕ) : Type 0 where
  pub done : Trees
  pub lie : Ats R (suc i) i 0 done
  pub sounds : Sounds done
  pub at : c ≡ suc i + all_nodes done
  pub places : place ≡ len done
  pub sets : graves ≡ sets_of done
  pub within : c ≤ n
  pub each : (t : Tree) → Part R n i t → Sound t → Come i c t (λ done rest. (place ≡ len done) × (graves ≡ sets_of done))

pub checking_start : (R : Cells) (n i : ℕ) → i < n → Checking R n i (i + 1) 0 0
checking_start R n i l = record {
  done = none;
  lie = tt;
  sounds = record { good = tt; once = λ g. omega arith; small = λ g l. refl };
  at = omega arith;
  places = refl;
  sets = refl;
  within = omega arith;
  each = λ t p s. walk_start i t _ (refl, refl);
}

pub checking_more : {R : Cells} {n i c place graves e : ℕ} → Checking R n i c place graves → c < n → R.parent c ≡ i → R.place c ≡ place → bit_and graves (R.set c) ≡ 0 → Checked R n c e →
    Checking R n i e (place + 1) (bit_or graves (R.set c))
checking_more {R} {n} {i} {c} {place} {graves} {e} k l par pla apart h = record {
  done = k.done +++ more h.tree none;
  lie = ats_plus R (suc i) i 0 k.done (more h.tree none) k.lie (ats_at R i (more h.tree none) k.at (k.places ∙ omega arith) (par, pla, h.body, tt));
  sounds = sounds_more k.done h.tree k.sounds h.sound (ap (λ (x : ℕ). bit_and x (set_of h.tree)) (sym k.sets) ∙ ap (bit_and graves) (sym (body_set R c h.tree h.body)) ∙ apart);
  at = (let a = nodes_plus k.done (more h.tree none) in let b = k.at in let d = h.end in omega arith);
  places = (let a = len_plus k.done (more h.tree none) in let b = k.places in omega arith);
  sets = ap (λ (x : ℕ). bit_or x (R.set c)) k.sets ∙ ap (bit_or (sets_of k.done)) (body_set R c h.tree h.body) ∙ sym (sets_more k.done h.tree);
  within = h.within.1;
  each = λ t p s.
      let x = come_next p (k.each t p s) l par in
      walk_more _ e x (h.only x.it x.part (next_sound s x)) (
        (let a = len_plus x.done (more x.it none) in omega (arith, x.so.0)),
        ap (λ (y : ℕ). bit_or y (R.set c)) x.so.1 ∙ ap (bit_or (sets_of x.done)) (body_set R c x.it x.part.0) ∙ sym (sets_more x.done x.it),
      );
}

-- What the branch in cell c must have, if a tree can stand in cell i.
pub checking_next : {R : Cells} {n i c place graves : ℕ} → Checking R n i c place graves → c < n → R.parent c ≡ i → (t : Tree) → Part R n i t → Sound t →
    (R.place c ≡ place) × (bit_and graves (R.set c) ≡ 0) × ((u : Tree) × Part R n c u × Sound u)
checking_next {R} {c = c} k l par t p s =
    let x = come_next p (k.each t p s) l par in
    ((next_place p x).1 ∙ sym x.so.0, ap (λ (y : ℕ). bit_and y (R.set c)) x.so.1 ∙ next_apart s x, (x.it, x.part, next_sound s x))

-- At the end all branches of each tree that can stand there are found.
pub checking_all : {R : Cells} {n i c place graves : ℕ} → Checking R n i c place graves → ((c < n) × (R.parent c ≡ i) → ⊥) → (t : Tree) → Part R n i t → Sound t →
    (c ≡ i + nodes t) × (place ≡ len (kids t)) × (graves ≡ sets_of (kids t))
checking_all {R} {n} {i} {c} {place} {graves} k stop t p s = let e = end in let r = walk_end w refl (omega arith) in (e, r.0, r.1)
  where
    w : Come i c t (λ done rest. (place ≡ len done) × (graves ≡ sets_of done))
    w = k.each t p s

    end : c ≡ i + nodes t
    end = go (cases_lt c (i + nodes t))
      where
        go : (c < i + nodes t) ⊎ (i + nodes t ≤ c) → c ≡ i + nodes t
        go (inl h) = let x = walk_next p w refl h in absurd (stop (omega (arith, p.1), (next_place p x).0))
        go (inr h) = let a = come_nodes w in omega arith

-- A cell with branches has two at least in any order, and three at least in a row.
kids_many : (R : Cells) (i : ℕ) (t : Tree) → Body R i t → Good t → 1 ≤ R.sort i → R.sort i + 1 ≤ len (kids t)
kids_many R i (grave g) b h l = absurd (omega (arith, b.0))
kids_many R i (any ts) b h l = omega (arith, b.0, h.0)
kids_many R i (row ts) b h l = omega (arith, b.0, h.0)

pub checking_yes : {R : Cells} {n i c place graves : ℕ} → Checking R n i c place graves → ((c < n) × (R.parent c ≡ i) → ⊥) → 1 ≤ R.sort i → R.sort i ≤ 2 → graves ≡ R.set i → R.sort i + 1 ≤ place → Checked R n i c
checking_yes {R} {n} {i} {c} {place} {graves} k stop low high same many = go (R.sort i) refl
  where
    end : (t : Tree) → nodes t ≡ suc (all_nodes k.done) → c ≡ i + nodes t
    end t e = let a = k.at in omega arith

    go : (s : ℕ) → R.sort i ≡ s → Checked R n i c
    go zero e = absurd (omega arith)
    go (suc zero) e = record {
      within = (let a = k.at in let b = k.within in omega arith);
      tree = any k.done;
      body = (e, sym same ∙ k.sets, k.lie);
      sound = record { good = ((let a = k.places in omega arith), k.sounds.good); once = k.sounds.once; small = k.sounds.small };
      end = end (any k.done) refl;
      only = λ t p s. (checking_all k stop t p s).0;
    }
    go (suc (suc zero)) e = record {
      within = (let a = k.at in let b = k.within in omega arith);
      tree = row k.done;
      body = (e, sym same ∙ k.sets, k.lie);
      sound = record { good = ((let a = k.places in omega arith), k.sounds.good); once = k.sounds.once; small = k.sounds.small };
      end = end (row k.done) refl;
      only = λ t p s. (checking_all k stop t p s).0;
    }
    go (suc (suc (suc s))) e = absurd (omega arith)

pub checking_no : {R : Cells} {n i c place graves : ℕ} → Checking R n i c place graves → ((c < n) × (R.parent c ≡ i) → ⊥) → 1 ≤ R.sort i → (graves ≡ R.set i → R.sort i + 1 ≤ place → ⊥) → (t : Tree) → Part R n i t → Sound t → ⊥
checking_no {R} {i = i} k stop low w t p s =
    let a = checking_all k stop t p s in w (a.2 ∙ sym (kids_set R i t p.0 low).0) (let b = kids_many R i t p.0 s.good low in omega (arith, a.1))

-- ---- the whole tree

pub tree_in_few : {v : View} {n : ℕ} → TreeIn v n → (1 ≤ n) × (n ≤ 127)
tree_in_few h = let a = few_cells h.tree h.sound in let b = some_nodes h.tree in let c = h.holds.many in (omega arith, omega arith)

pub tree_in_stands : {v : View} {n : ℕ} → TreeIn v n → Stands v n 0
tree_in_stands {v} {n} h =
    let f = tree_in_few h in record { long = h.long; few = f.1; below = omega arith; tree = h.tree; part = holds_part (seen v) n h.tree h.holds; sound = h.sound }

-- Its first set has as many ones as it has graves.
pub tree_in_size : (v : View) {n : ℕ} (t : Tree) → Holds (seen v) n t → Sound t → ones ((seen v).set 0) ≡ size t
tree_in_size v {n} t h s = part_size (seen v) n 0 t (holds_part (seen v) n t h) s
