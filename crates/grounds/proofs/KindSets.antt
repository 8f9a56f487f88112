-- Kinds as sets, in bytes or in numbers: which of them part three graves.
use Rattle.std.proofs.Common.{◌≡◌, ℕ, ◌/◌, ◌<◌, Bool, true, false, List, length, get_or, sym, ap, ◌∙◌, arith}
use Rattle.std.proofs.lemmas.List.{get_or-map, length-map}
use Rattle.finds.specs.Finds.{Finds}
use Rattle.finds.specs.Sets.{has}
use Rattle.clashes.specs.Rings.{lay, Parts}
use Rattle.tables.specs.Format.{kind_set, finds_in}
use Rattle.tables.proofs.KindList.{kinds_length, kinds_at}
use Rattle.tables.specs.Format.{finds_of_sets}

-- The set has a and c and not b.
abbrev pub Parting : ℕ → ℕ → ℕ → ℕ → Type 0
Parting s a b c = (has s a ≡ true) × (has s b ≡ false) × (has s c ≡ true)

-- The finds have just so many kinds, each by its set.
pub record KindsAre (f : Finds) (many : ℕ) (set : ℕ → ℕ) : Type 0 where
  pub count : length f.kinds ≡ many
  pub each : (i : ℕ) → i < many → (g : ℕ) → lay f i g ≡ has (set i) g

pub in_bytes : (n : ℕ) (bs : List ℕ) → KindsAre (finds_in n bs) (length bs / 8) (kind_set bs)
in_bytes n bs = record {
  count = kinds_length bs 0 (length bs / 8);
  each = λ i h g. ap (λ (k : ℕ → Bool). k g) (kinds_at bs 0 (length bs / 8) i i (λ _. false) h (omega arith));
}

pub in_sets : (n : ℕ) (sets : List ℕ) → KindsAre (finds_of_sets n sets) (length sets) (λ i. get_or sets i 0)
in_sets n sets = record { count = length-map sets has; each = λ i h g. ap (λ (k : ℕ → Bool). k g) (get_or-map has sets i 0 (λ _. false) h) }

module _ {f : Finds} {many : ℕ} {set : ℕ → ℕ} (k : KindsAre f many set) (a b c : ℕ) where
  pub parts_in : (i : ℕ) → i < many → a < f.graves → b < f.graves → c < f.graves → Parting (set i) a b c → Parts f a b c
  parts_in i h la lb lc p = record {
    kind = i;
    listed = let z = k.count in omega arith;
    below = (la, lb, lc);
    has_a = k.each i h a ∙ p.0;
    lacks = k.each i h b ∙ p.1;
    has_c = k.each i h c ∙ p.2;
  }

  pub parting_of : Parts f a b c → (i : ℕ) × (i < many) × Parting (set i) a b c
  parting_of s =
      let i = s.kind in let h : i < many = (let z = k.count in let l = s.listed in omega arith) in
      (i, h, (sym (k.each i h a) ∙ s.has_a, sym (k.each i h b) ∙ s.lacks, sym (k.each i h c) ∙ s.has_c))
