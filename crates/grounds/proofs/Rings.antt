-- The ring that was read back, in the bytes that were lent for it.
use Rattle.std.proofs.Common.{◌≡◌, ℕ, ◌+◌, ◌-◌, ◌*◌, ◌<◌, ◌≤◌, List, ◌++◌, map, length, get_or, take, drop, sym, ap, ◌∙◌, subst, ap₂, arith}
use borrow.Rule.Slice.PartMut.{put_mid, post_of}
use Rattle.std.proofs.lemmas.List.{length-append, length-map, length-take-le, length-drop, get_or-take, get_or-drop, take_at, take_rest}
use Rattle.std.proofs.lemmas.Slice.{take-put_mid, drop-put_mid, drop-append-drop}
use Rattle.finds.specs.Finds.{Finds, Pair}
use Rattle.finds.proofs.Laws.{ground_law}
use Rattle.clashes.proofs.Chains.{closes_ground}
use Rattle.grounds.specs.Checking.{pairs_of}
use Rattle.grounds.specs.Finding.{RingIn}
use Rattle.grounds.specs.Notes.{numbered}
use Rattle.grounds.specs.Reading.{Closed}
use Rattle.grounds.proofs.RingBytes.{pairs_append}

module _ (f : Finds) {queue : List ℕ} {left right : ℕ} (c : Closed f queue left right) where
  abbrev rest : ℕ
  rest = length queue - right

  -- Both legs are parts of the queue that hold numbers of pairs.
  pub left_cells : (t : ℕ) → t ≡ left → (i : ℕ) → i < length (take t queue) → get_or (take t queue) i 0 < f.graves * f.graves
  left_cells t e i h =
      let apart = c.apart in let within = c.within in let z = length-take-le t queue (omega arith) in
      let y = get_or-take t queue i 0 (omega arith) in let x = c.left_known i (omega arith) in omega arith

  pub right_cells : (i : ℕ) → i < length (take rest (drop right queue)) → get_or (take rest (drop right queue)) i 0 < f.graves * f.graves
  right_cells = subst (λ (l : List ℕ). (i : ℕ) → i < length l → get_or l i 0 < f.graves * f.graves) (sym (take_rest queue right))
      (λ i h. let z = length-drop right queue in let y = get_or-drop right queue i 0 in let x = c.right_known (right + i) (omega arith) (omega arith) in omega arith)

  -- One leg and then the other were written, over the bytes from the front on.
  pub ring_in : (bytes a b : List ℕ) (i k j : ℕ) → i ≡ left → k ≡ 2 * left → j ≡ 2 * rest → length a ≡ 2 * left → length b ≡ 2 * rest →
      pairs_of a ≡ map (numbered f.graves) (take i queue) → pairs_of b ≡ map (numbered f.graves) (take rest (drop right queue)) →
      RingIn f (left + rest) bytes (put_mid (2 * left) j (a ++ post_of 0 k bytes) b)
  ring_in bytes a b i k j ei ek ej la lb ea eb = record {
    ring = c.ring;
    pairs_are = c.pairs_are ∙ sym (ap pairs_of front ∙ pairs_append left a b la ∙ ap₂ (λ (u v : List Pair). u ++ v) legs (eb ∙ ap (map (numbered f.graves)) (take_rest queue right)));
    many = ap length c.pairs_are ∙ length-append (map (numbered f.graves) (take left queue)) (map (numbered f.graves) (drop right queue))
        ∙ (let x = length-map (take left queue) (numbered f.graves) in let y = length-map (drop right queue) (numbered f.graves) in
        let apart = c.apart in let within = c.within in let z = length-take-le left queue (omega arith) in let w = length-drop right queue in omega arith);
    few = c.few;
    beyond = drop-put_mid (2 * left) j whole b (2 * (left + rest)) (omega arith) wide (omega arith) ∙ drop-append-drop k bytes a (2 * (left + rest)) (omega arith) (omega arith);
    none_fits = ground_law f (closes_ground f c.ring.pairs c.ring.uneven c.ring.closes);
  }
    where
      whole : List ℕ
      whole = a ++ post_of 0 k bytes

      wide : 2 * left ≤ length whole
      wide = let z = length-append a (post_of 0 k bytes) in omega arith

      front : take (2 * (left + rest)) (put_mid (2 * left) j whole b) ≡ a ++ b
      front = take-put_mid (2 * left) j whole b (2 * (left + rest)) (omega arith) wide ∙ ap (λ (l : List ℕ). l ++ b) (take_at a (post_of 0 k bytes) (2 * left) la)

      legs : pairs_of a ≡ map (numbered f.graves) (take left queue)
      legs = ea ∙ ap (λ (t : ℕ). map (numbered f.graves) (take t queue)) ei
