-- Parts of a tree that are only known to stand in cells can be had, one by one.
use Rattle.std.proofs.Common.{◌≡◌, ℕ, ◌+◌, ◌≤◌, eqb, true, List, [], ◌∷◌, refl, ap, arith}
use mathlib.Core.Logic.{∥∥₁_elim, ∥∥₁_map}
use Rattle.std.specs.Coded.{le_prop}
use Rattle.finds.specs.Counts.{count_t, count_ts}
use Rattle.finds.specs.Sets.{bit}
use Rattle.finds.specs.Trees.{Tree, Trees, none, more, Goods}
use Rattle.trees.specs.Cells.{Cells, Part, Parts, Sound, Sounds}
use Rattle.trees.specs.Rows.{seen, Stands}
use Rattle.trees.specs.declared.rows.View.{View}
use Rattle.trees.proofs.Cells.{some_nodes, body_set}
use Rattle.trees.proofs.Finding.{had_standing}
use Rattle.trees.proofs.Sets.{bit_set, sounds_first, sounds_rest}
use Rattle.changes.specs.Bunches.{AllStand}

-- The first of some parts, and the others.
pub all_first : {v : View} {n c : ℕ} {cs : List ℕ} → AllStand v n (c ∷ cs) → Stands v n c
all_first {v} {n} {c} {cs} s = go s.trees s.parts s.sound
  where
    go : (ts : Trees) → Parts (seen v) n (c ∷ cs) ts → Sounds ts → Stands v n c
    go none p h = absurd p
    go (more t ts) p h = record { long = s.long; few = s.few; below = omega (arith, p.0.1, some_nodes t); tree = t; part = p.0; sound = sounds_first t ts h }

pub all_rest : {v : View} {n c : ℕ} {cs : List ℕ} → AllStand v n (c ∷ cs) → AllStand v n cs
all_rest {v} {n} {c} {cs} s = go s.trees s.parts s.sound
  where
    go : (ts : Trees) → Parts (seen v) n (c ∷ cs) ts → Sounds ts → AllStand v n cs
    go none p h = absurd p
    go (more t ts) p h = record { long = s.long; few = s.few; trees = ts; parts = p.1; sound = sounds_rest t ts h }

-- How many of the cells have the grave.
abbrev having : Cells → ℕ → List ℕ → ℕ
having R g [] = 0
having R g (c ∷ cs) = bit g (R.set c) + having R g cs

-- A sound tree has the grave as often as its set has it.
counted : (R : Cells) (n c g : ℕ) (t : Tree) → Part R n c t → Sound t → count_t (eqb g) true t ≡ bit g (R.set c)
counted R n c g t p s = let a = bit_set g t in let o = s.once g in let e = ap (bit g) (body_set R c t p.0) in omega arith

-- So it is the same of the parts that are known to stand there.
known : (v : View) (n : ℕ) (cs : List ℕ) (g : ℕ) → (ts : Trees) → Parts (seen v) n cs ts → Sounds ts → count_ts (eqb g) true ts ≡ having (seen v) g cs
known v n [] g none p s = refl
known v n [] g (more t ts) p s = absurd p
known v n (c ∷ cs) g none p s = absurd p
known v n (c ∷ cs) g (more t ts) p s = let a = counted (seen v) n c g t p.0 (sounds_first t ts s) in let b = known v n cs g ts p.1 (sounds_rest t ts s) in omega arith

-- The parts, had one by one.
record Had (v : View) (n : ℕ) (cs : List ℕ) : Type 0 where
  pub trees : Trees
  pub parts : Parts (seen v) n cs trees
  pub good : Goods trees
  pub count : (g : ℕ) → count_ts (eqb g) true trees ≡ having (seen v) g cs
  pub small : (g : ℕ) → 64 ≤ g → count_ts (eqb g) true trees ≡ 0

had : {v : View} {n : ℕ} (cs : List ℕ) → ∥ AllStand v n cs ∥₁ → Had v n cs
had [] h = record { trees = none; parts = tt; good = tt; count = λ g. refl; small = λ g l. refl }
had {v} {n} (c ∷ cs) h =
    let s = had_standing (∥∥₁_map h all_first) in
    let r = had cs (∥∥₁_map h all_rest) in
    record {
      trees = more s.tree r.trees;
      parts = (s.part, r.parts);
      good = (s.sound.good, r.good);
      count = λ g. let a = counted (seen v) n c g s.tree s.part s.sound in let b = r.count g in omega arith;
      small = λ g l. let a = s.sound.small g l in let b = r.small g l in omega arith;
    }

pub had_all : {v : View} {n : ℕ} {cs : List ℕ} → ∥ AllStand v n cs ∥₁ → AllStand v n cs
had_all {v} {n} {cs} h = let r = had cs h in record {
  long = record {
    parents_long = ∥∥₁_elim h le_prop (λ s. s.long.parents_long);
    sorts_long = ∥∥₁_elim h le_prop (λ s. s.long.sorts_long);
    places_long = ∥∥₁_elim h le_prop (λ s. s.long.places_long);
    sets_long = ∥∥₁_elim h le_prop (λ s. s.long.sets_long);
  };
  few = ∥∥₁_elim h le_prop (λ s. s.few);
  trees = r.trees;
  parts = r.parts;
  sound = record {
    good = r.good;
    once = λ g. let a = r.count g in let b : having (seen v) g cs ≤ 1 = ∥∥₁_elim h le_prop (λ s. let k = known v n cs g s.trees s.parts s.sound in let o = s.sound.once g in omega arith) in omega arith;
    small = r.small;
  };
}
