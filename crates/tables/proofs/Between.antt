-- The places between the first and the last grave of a kind.
use Rattle.std.proofs.Common.{◌≡◌, ℕ, ◌+◌, ◌-◌, ◌<◌, Bool, true, false, List, length, get_or, take, drop, sym, ap, ◌∙◌, true≢false, arith, length-drop}
use Rattle.std.proofs.lemmas.List.{get_or-take, get_or-drop, length-take-le}
use native.Mathlib.Decide.{dec_lt}
use Rattle.tables.specs.Orders.{Between}

-- At first stands the first grave of the kind, and at last the last one.
pub record Ends (k : ℕ → Bool) (l : List ℕ) (first last : ℕ) : Type 0 where
  pub first_lt : first < length l
  pub first_has : k (get_or l first 0) ≡ true
  pub none_before : (p : ℕ) → p < first → k (get_or l p 0) ≡ true → ⊥
  pub last_lt : last < length l
  pub last_has : k (get_or l last 0) ≡ true
  pub none_behind : (p : ℕ) → last < p → p < length l → k (get_or l p 0) ≡ false

module _ {k : ℕ → Bool} {l : List ℕ} {first last : ℕ} (e : Ends k l first last) where
  -- A grave between two of the kind lies between the first and the last.
  inside : (p : ℕ) → Between k l p → (first < p) × (p < last)
  inside p t = (from (dec_lt t.before first), to (dec_lt last t.behind))
    where
      from : Dec (t.before < first) → first < p
      from (yes d) = absurd (e.none_before t.before d t.before_has)
      from (no d) = let z = t.before_lt in omega arith

      to : Dec (last < t.behind) → p < last
      to (yes d) = absurd (true≢false (sym t.behind_has ∙ e.none_behind t.behind d t.behind_lt))
      to (no d) = let z = t.behind_gt in omega arith

  -- The graves from the first on, up to the last.
  abbrev pub part : List ℕ
  part = take (last - first) (drop first l)

  part_length : length part ≡ last - first
  part_length = let z = length-drop first l in let y = e.last_lt in length-take-le (last - first) (drop first l) (omega arith)

  part_at : (i p : ℕ) → i < last - first → first + i ≡ p → get_or part i 0 ≡ get_or l p 0
  part_at i p h q = get_or-take (last - first) (drop first l) i 0 h ∙ get_or-drop first l i 0 ∙ ap (λ (j : ℕ). get_or l j 0) q

  -- Where none of the first n of them lacks the kind, none of these lies between.
  none_within : (n : ℕ) → ((i : ℕ) → i < n → k (get_or part i 0) ≡ false → ⊥) → (p : ℕ) → p < first + n → Between k l p → ⊥
  none_within n has p h t =
      let i = inside p t in has (p - first) (omega arith) (ap k (part_at (p - first) p (omega arith) (omega arith)) ∙ t.lacks)

  -- Where none of them lacks it, none lies between.
  pub none_between : ((i : ℕ) → i < length part → k (get_or part i 0) ≡ false → ⊥) → (p : ℕ) → p < length l → Between k l p → ⊥
  none_between has p h t =
      let i = inside p t in none_within (last - first) (λ j m. has j (let z = part_length in omega arith)) p (omega arith) t

  -- The first of them that lacks it lies between, and is the first that does.
  pub between_first : (n : ℕ) → n < length part → k (get_or part n 0) ≡ false → ((i : ℕ) → i < n → k (get_or part i 0) ≡ false → ⊥)
      → (first + n < length l) × Between k l (first + n) × ((p : ℕ) → p < first + n → Between k l p → ⊥)
  between_first n h lacks has =
      let z = e.last_lt in let y = part_length in
      let x : k (get_or l (first + n) 0) ≡ false = sym (ap k (part_at n (first + n) (omega arith) (omega arith))) ∙ lacks in (
        omega arith,
        record { lacks = x; before = first; before_lt = behind (dec_lt 0 n) x; before_has = e.first_has; behind = last; behind_gt = omega arith; behind_lt = e.last_lt; behind_has = e.last_has },
        none_within n has,
      )
    where
      behind : Dec (0 < n) → k (get_or l (first + n) 0) ≡ false → first < first + n
      behind (yes d) x = omega arith
      behind (no d) x = let g : first ≡ first + n = omega arith in absurd (true≢false (sym e.first_has ∙ ap (λ (j : ℕ). k (get_or l j 0)) g ∙ x))
