-- Bits of numbers, and how many ones there are. Proofs go by halving: the lowest bit, and the same of the half.
use Rattle.std.proofs.Common.{◌≡◌, ℕ, zero, suc, ◌+◌, ◌*◌, ◌/◌, ◌%◌, ◌^◌, ◌<◌, ◌≤◌, min, max, ◌≢◌, sym, refl, ap, ◌∙◌, pow-suc, one-add, arith}
use lib.Arith.{bin_ind}
use lib.Bits.{bit_and, bit_or, and_step, or_step}
use lib.Count.{ones, ones_in, ones_step}
use Rattle.std.proofs.lemmas.Nat.{shr-shr}
use Rattle.finds.specs.Sets.{bit}

pub ones_none : ones 0 ≡ 0
unfolding ones ones_in
ones_none = refl

halves_of : (x y m : ℕ) → m < 2 → x ≡ y * 2 + m → (x / 2 ≡ y) × (x % 2 ≡ m)
halves_of x y m h e = (omega arith, omega arith)

and_halves : (a c : ℕ) → (bit_and a c / 2 ≡ bit_and (a / 2) (c / 2)) × (bit_and a c % 2 ≡ min (a % 2) (c % 2))
and_halves a c = halves_of (bit_and a c) (bit_and (a / 2) (c / 2)) (min (a % 2) (c % 2)) (omega arith) (and_step a c)

or_halves : (a c : ℕ) → (bit_or a c / 2 ≡ bit_or (a / 2) (c / 2)) × (bit_or a c % 2 ≡ max (a % 2) (c % 2))
or_halves a c = halves_of (bit_or a c) (bit_or (a / 2) (c / 2)) (max (a % 2) (c % 2)) (omega arith) (or_step a c)

pow_halves : (g : ℕ) → (2 ^ suc g / 2 ≡ 2 ^ g) × (2 ^ suc g % 2 ≡ 0)
pow_halves g = halves_of (2 ^ suc g) (2 ^ g) 0 (omega arith) (let e = pow-suc 2 g in omega arith)

-- ---- single bits

pub bit_low : (g s : ℕ) → bit g s ≤ 1
bit_low zero s = omega arith
bit_low (suc g) s = bit_low g (s / 2)

pub bit_zero : (g : ℕ) → bit g 0 ≡ 0
bit_zero zero = refl
bit_zero (suc g) = bit_zero g

pub bit_of_and : (g a c : ℕ) → bit g (bit_and a c) ≡ min (bit g a) (bit g c)
bit_of_and zero a c = (and_halves a c).1
bit_of_and (suc g) a c = ap (bit g) (and_halves a c).0 ∙ bit_of_and g (a / 2) (c / 2)

pub bit_of_or : (g a c : ℕ) → bit g (bit_or a c) ≡ max (bit g a) (bit g c)
bit_of_or zero a c = (or_halves a c).1
bit_of_or (suc g) a c = ap (bit g) (or_halves a c).0 ∙ bit_of_or g (a / 2) (c / 2)

pub bit_pow : (g : ℕ) → bit g (2 ^ g) ≡ 1
bit_pow zero = refl
bit_pow (suc g) = ap (bit g) (pow_halves g).0 ∙ bit_pow g

pub bit_pow_other : (g x : ℕ) → g ≢ x → bit g (2 ^ x) ≡ 0
bit_pow_other zero zero n = absurd (n refl)
bit_pow_other zero (suc x) n = (pow_halves x).1
bit_pow_other (suc g) zero n = bit_zero g
bit_pow_other (suc g) (suc x) n = ap (bit g) (pow_halves x).0 ∙ bit_pow_other g x (λ e. n (ap suc e))

-- A bit by a shift.
pub bit_is : (g s : ℕ) → bit g s ≡ s / 2 ^ g % 2
bit_is zero s = omega arith
bit_is (suc g) s = bit_is g (s / 2) ∙ ap (λ (x : ℕ). x % 2) (shr-shr s 1 g ∙ ap (λ (x : ℕ). s / 2 ^ x) (one-add g))

-- Bits beyond the number's own are 0.
pub bit_beyond : (d g s : ℕ) → s < 2 ^ d → d ≤ g → bit g s ≡ 0
bit_beyond zero g s h l = let z : s ≡ 0 = omega arith in rw z (bit_zero g)
bit_beyond (suc d) zero s h l = absurd (omega arith)
bit_beyond (suc d) (suc g) s h l = bit_beyond d g (s / 2) (let z = pow-suc 2 d in omega arith) (omega arith)

-- A number with no bit is 0, and numbers with the same bits are equal.
no_bits : (a : ℕ) → ((g : ℕ) → bit g a ≡ 0) → a ≡ 0
no_bits = bin_ind (λ (n : ℕ). ((g : ℕ) → bit g n ≡ 0) → n ≡ 0) (λ f. refl) (λ n ih f. let r = ih (λ g. f (suc g)) in let e = f 0 in omega arith)

pub bit_ext : (a c : ℕ) → ((g : ℕ) → bit g a ≡ bit g c) → a ≡ c
bit_ext = bin_ind (λ (n : ℕ). (c : ℕ) → ((g : ℕ) → bit g n ≡ bit g c) → n ≡ c) (λ c f. sym (no_bits c (λ g. sym (f g) ∙ bit_zero g)))
    (λ n ih c f. let r = ih (c / 2) (λ g. f (suc g)) in let e = f 0 in omega arith)

pub or_assoc : (a b c : ℕ) → bit_or (bit_or a b) c ≡ bit_or a (bit_or b c)
or_assoc a b c = bit_ext (bit_or (bit_or a b) c) (bit_or a (bit_or b c))
    (λ g. let w = bit_of_or g (bit_or a b) c in let x = bit_of_or g a b in let y = bit_of_or g a (bit_or b c) in let z = bit_of_or g b c in omega arith)

-- ---- how many ones

ones_and : (s m : ℕ) → ones (bit_and s m) ≡ min (s % 2) (m % 2) + ones (bit_and (s / 2) (m / 2))
ones_and s m = let h = and_halves s m in let e = ones_step (bit_and s m) in let z = ap ones h.0 in omega arith

-- The ones of two numbers without a common bit add up, under a mask too.
pub ones_plus : (a c : ℕ) → ((g : ℕ) → bit g a + bit g c ≤ 1) → ones (bit_or a c) ≡ ones a + ones c
ones_plus =
    bin_ind (λ (n : ℕ). (c : ℕ) → ((g : ℕ) → bit g n + bit g c ≤ 1) → ones (bit_or n c) ≡ ones n + ones c) (λ c f. omega (arith, ones_none))
    (λ n ih c f.
    let r = ih (c / 2) (λ g. f (suc g)) in
    let h = or_halves n c in
    let w = ap ones h.0 in
    let t = ones_step (bit_or n c) in
    let u = ones_step n in
    let v = ones_step c in
    let e = f 0 in
    omega arith)

pub ones_or : (a c m : ℕ) → ((g : ℕ) → bit g a + bit g c ≤ 1) → ones (bit_and (bit_or a c) m) ≡ ones (bit_and a m) + ones (bit_and c m)
ones_or a c m f =
    ap ones (bit_ext (bit_and (bit_or a c) m) (bit_or (bit_and a m) (bit_and c m))
    (λ g. let w = bit_of_and g (bit_or a c) m in let x = bit_of_or g a c in let y = bit_of_or g (bit_and a m) (bit_and c m) in let z = bit_of_and g a m in let v = bit_of_and g c m in omega arith))
    ∙ ones_plus (bit_and a m) (bit_and c m) (λ g. let z = bit_of_and g a m in let v = bit_of_and g c m in let e = f g in omega arith)

pub ones_pow : (g m : ℕ) → ones (bit_and (2 ^ g) m) ≡ bit g m
ones_pow zero m = let e = ones_and 1 m in omega (arith, ones_none)
ones_pow (suc g) m =
    let h = pow_halves g in
    let e = ones_and (2 ^ suc g) m in
    let z = ap (λ (x : ℕ). ones (bit_and x (m / 2))) h.0 in
    let r = ones_pow g (m / 2) in
    omega arith
