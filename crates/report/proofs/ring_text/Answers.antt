use Rattle.std.proofs.Common.{◌≡◌, ℕ, ◌+◌, ◌*◌, ◌/◌, ◌<◌, List, [], ◌++◌, length, get_or, codes, append_assoc, add-one, arith, rules, refl, sym, ap, ap₂, ◌∙◌}
use Rattle.std.specs.Simd.{first_chunks}
use Rattle.finds.specs.Finds.{Pair}
use Rattle.grounds.proofs.RingBytes.{pairs_at}
use Rattle.grounds.proofs.RingChunks.{of_two, chunk_pair}
use Rattle.report.specs.Answer.{line_feed, pair_text, pairs_text}
use Rattle.report.proofs.ring_text.Goals as goal

-- The two bytes of a pair, where the bytes are cut two by two.
bytes_at : (ring : List ℕ) (cut : List (List ℕ)) (k : ℕ) → cut ≡ first_chunks 2 (length ring / 2) ring → k < length ring / 2
    → (get_or (get_or cut k []) 0 0 ≡ get_or ring (2 * k) 0) × (get_or (get_or cut k []) 1 0 ≡ get_or ring (2 * k + 1) 0)
bytes_at ring cut k e h =
    let two = ap (λ (cs : List (List ℕ)). of_two (get_or cs k [])) e ∙ chunk_pair ring (length ring / 2) k [] refl h ∙ sym (pairs_at ring k h) in
    (ap (λ (p : Pair). p.first) two, ap (λ (p : Pair). p.second) two)

-- The next pair behind the others.
pair_more : (ring a b c : List ℕ) (k x y : ℕ) → b ≡ a ++ pairs_text ring k → (x ≡ get_or ring (2 * k) 0) × (y ≡ get_or ring (2 * k + 1) 0) → c ≡ b ++ pair_text k x y → c ≡ a ++ pairs_text ring (k + 1)
pair_more ring a b c k x y e xy f =
    rw (add-one k) (
    let p = append_assoc a (pairs_text ring k) (pair_text k (get_or ring (2 * k) 0) (get_or ring (2 * k + 1) 0)) in
    let q = ap₂ (pair_text k) xy.0 xy.1 in
    cc)

-- All pairs, and the end of the line.
pairs_all : (ring a b c : List ℕ) (k n : ℕ) → k ≡ n → b ≡ a ++ pairs_text ring k → c ≡ b ++ line_feed → c ≡ a ++ (pairs_text ring n ++ line_feed)
pairs_all ring a b c k n h e f = let p = append_assoc a (pairs_text ring n) line_feed in cc

pub loop-k-preserved : goal.loop-k-preserved
loop-k-preserved c =
    pair_more c.args.ring.now (codes "no order" ++ line_feed) _ _ c.loop-k.k _ _ c.loop-k.invariant
    (bytes_at c.args.ring.now c.as_chunks.result.0.now c.loop-k.k c.as_chunks.ensures.front (search rules)) c.in_ok-write_pair.ensures

pub returns : goal.returns
returns c = pairs_all c.args.ring.now (codes "no order" ++ line_feed) _ _ c.loop-k.k (length c.args.ring.now / 2) (omega arith) c.loop-k.invariant c.in_ok-push_str.ensures.bytes
