-- The way up from two clashing pairs of one colour, written into the cells of the queue from both ends.
use Rattle.std.proofs.Common.{◌≡◌, ℕ, ◌+◌, ◌-◌, ◌*◌, ◌<◌, ◌≤◌, ◌≢◌, List, [], ◌∷◌, ◌++◌, map, length, get_or, take, drop, set, sym, ap, ◌∙◌, subst, subst₂, arith}
use Rattle.std.proofs.lemmas.Nat.{div-add-mod'}
use Rattle.std.proofs.lemmas.List.{length-map, length-set, length-take-le, length-drop, get_or-map, get_or-take, get_or-drop, take_more_set, take-set-le, drop-set-lt, drop-set, drop_all, map_push}
use Rattle.std.proofs.ByRecursion.{All-get_or}
use Rattle.finds.specs.Finds.{Finds, Pair}
use Rattle.clashes.specs.Colours.{pair, Proper}
use Rattle.clashes.specs.Rings.{Ring}
use Rattle.clashes.specs.Search.{Mark}
use Rattle.clashes.proofs.Chains.{chain_proper}
use Rattle.clashes.proofs.Readback.{met, legs_short, up_left, up_right}
use Rattle.grounds.specs.Notes.{number, numbered, noted, Climbing, Forked}
use Rattle.grounds.specs.Reading.{Closed}
use Rattle.grounds.proofs.Numbers.{numbered_number, number_below, same_number}
use Rattle.grounds.proofs.Turns.{fewer}

-- The legs up to p and q stand in the queue below one place and from another on.
pub record Standing (f : Finds) (depths parents queue : List ℕ) (p q left right : ℕ) : Type 0 where
  pub climbing : Climbing f depths parents p q (map (numbered f.graves) (take left queue)) (map (numbered f.graves) (drop right queue))
  pub full : length queue ≡ f.graves * f.graves
  pub apart : left < right
  pub within : right < length queue
  pub p_cell : p < f.graves * f.graves
  pub q_cell : q < f.graves * f.graves

module _ (f : Finds) (some : 1 ≤ f.graves) {depths parents : List ℕ} where
  -- The legs never fill the queue.
  short : (queue : List ℕ) (p q left right : ℕ) → left ≤ length queue →
      Climbing f depths parents p q (map (numbered f.graves) (take left queue)) (map (numbered f.graves) (drop right queue)) →
      left + (length queue - right) ≤ f.graves * (f.graves - 1)
  short queue p q left right l c =
      let z = legs_short c.legs in
      let a = length-map (take left queue) (numbered f.graves) in let b = length-map (drop right queue) (numbered f.graves) in
      let d = length-take-le left queue l in let g = length-drop right queue in omega arith

  stands : (queue : List ℕ) (p q left right : ℕ) → length queue ≡ f.graves * f.graves → left ≤ right → right < length queue →
      Climbing f depths parents p q (map (numbered f.graves) (take left queue)) (map (numbered f.graves) (drop right queue)) →
      Standing f depths parents queue p q left right
  stands queue p q left right e l h c = record {
    climbing = c;
    full = e;
    apart = (let z = short queue p q left right (omega arith) c in let y = fewer f.graves some in omega arith);
    within = h;
    p_cell = (let z = number_below f c.p c.legs.seen_p.0 in let y = c.left_is in omega arith);
    q_cell = (let z = number_below f c.q c.legs.seen_q.0 in let y = c.right_is in omega arith);
  }

  -- At first the other pair is written.
  pub starts : (queue : List ℕ) (p q : ℕ) → length queue ≡ f.graves * f.graves → Forked f depths parents p q →
      Standing f depths parents (set queue (f.graves * f.graves - 1) q) p q 0 (f.graves * f.graves - 1)
  starts queue p q e c =
      let last = f.graves * f.graves - 1 in let y = fewer f.graves some in
      stands (set queue last q) p q 0 last (length-set queue last q ∙ e) (omega arith) (let z = length-set queue last q in omega arith)
      (subst (λ (l : List ℕ). Climbing f depths parents p q [] (map (numbered f.graves) l))
      (sym (drop-set queue last q (omega arith) ∙ ap (λ (l : List ℕ). q ∷ l) (drop_all (last + 1) queue (omega arith)))) c)

  module _ {queue : List ℕ} {p q left right : ℕ} (s : Standing f depths parents queue p q left right) where
    abbrev c : Climbing f depths parents p q (map (numbered f.graves) (take left queue)) (map (numbered f.graves) (drop right queue))
    c = s.climbing

    abbrev mark : Pair → Mark
    mark = noted f c.seed depths parents

    p_depth : get_or depths p 0 ≡ get_or depths (number f.graves c.p) 0
    p_depth = ap (λ (x : ℕ). get_or depths x 0) c.left_is

    q_depth : get_or depths q 0 ≡ get_or depths (number f.graves c.q) 0
    q_depth = ap (λ (x : ℕ). get_or depths x 0) c.right_is

    -- What is written are the numbers of pairs.
    cell_below : (x : ℕ) → Proper f (numbered f.graves x) → x < f.graves * f.graves
    cell_below x h = let z = number_below f (numbered f.graves x) h in let y = div-add-mod' x f.graves in omega arith

    left_known : (i : ℕ) → i < left → get_or queue i 0 < f.graves * f.graves
    left_known i l =
        let l' : i < length (take left queue) = (let apart = s.apart in let within = s.within in let z = length-take-le left queue (omega arith) in omega arith) in
        let e = get_or-map (numbered f.graves) (take left queue) i 0 (pair 0 0) l' ∙ ap (numbered f.graves) (get_or-take left queue i 0 l) in
        cell_below (get_or queue i 0) (subst (Proper f) e (All-get_or (Proper f) (map (numbered f.graves) (take left queue)) i (pair 0 0)
        (let z = length-map (take left queue) (numbered f.graves) in omega arith) (chain_proper c.legs.up)))

    right_known : (i : ℕ) → right ≤ i → i < length queue → get_or queue i 0 < f.graves * f.graves
    right_known i le l =
        let l' : i - right < length (drop right queue) = (let z = length-drop right queue in omega arith) in
        let k : right + (i - right) ≡ i = omega arith in
        let e = get_or-map (numbered f.graves) (drop right queue) (i - right) 0 (pair 0 0) l'
        ∙ ap (numbered f.graves) (get_or-drop right queue (i - right) 0 ∙ ap (λ (j : ℕ). get_or queue j 0) k) in
        cell_below (get_or queue i 0) (subst (Proper f) e (All-get_or (Proper f) (map (numbered f.graves) (drop right queue)) (i - right) (pair 0 0)
        (let z = length-map (drop right queue) (numbered f.graves) in omega arith) (chain_proper c.legs.down)))

    -- The legs have met.
    pub closed : p ≡ q → Closed f queue left right
    closed e = record {
      ring = r.0;
      pairs_are = r.1;
      apart = s.apart;
      within = s.within;
      few = short queue p q left right (let apart = s.apart in let within = s.within in omega arith) c;
      left_known = left_known;
      right_known = right_known;
    }
      where
        r : (x : Ring f) × (x.pairs ≡ map (numbered f.graves) (take left queue) ++ map (numbered f.graves) (drop right queue))
        r = met c.legs (same_number f c.p c.q c.legs.seen_p.0 c.legs.seen_q.0 (sym c.left_is ∙ e ∙ c.right_is))

    module _ (ne : p ≢ q) where
      differ : c.p ≢ c.q
      differ h = ne (c.left_is ∙ ap (number f.graves) h ∙ sym c.right_is)

      -- The parent of a pair by its cell.
      parent_is : (x : ℕ) (r : Pair) → x ≡ number f.graves r → get_or parents x 0 ≡ number f.graves (mark r).parent
      parent_is x r h = ap (λ (y : ℕ). get_or parents y 0) h ∙ sym (div-add-mod' (get_or parents (number f.graves r) 0) f.graves)

      -- Up from p, if it is the deeper one.
      module _ (le : get_or depths q 0 ≤ get_or depths p 0) where
        deep_p : (mark c.q).depth ≤ (mark c.p).depth
        deep_p = omega (arith, p_depth, q_depth)

        pub on_left : Standing f depths parents (set queue left p) (get_or parents p 0) q (left + 1) right
        on_left =
            let apart = s.apart in let within = s.within in
            stands (set queue left p) (get_or parents p 0) q (left + 1) right (length-set queue left p ∙ s.full) (omega arith) (let z = length-set queue left p in omega arith)
            (subst₂ (Climbing f depths parents (get_or parents p 0) q) (sym more) (sym rest)
            (record {
              seed = c.seed;
              rooted = c.rooted;
              p = (mark c.p).parent;
              q = c.q;
              left_is = parent_is p c.p c.left_is;
              right_is = c.right_is;
              legs = up_left c.rooted c.legs differ deep_p;
            }))
          where
            more : map (numbered f.graves) (take (left + 1) (set queue left p)) ≡ map (numbered f.graves) (take left queue) ++ c.p ∷ []
            more =
                ap (map (numbered f.graves)) (take_more_set queue left p (let apart = s.apart in let within = s.within in omega arith))
                ∙ map_push (numbered f.graves) (take left queue) p
                ∙ ap (λ (r : Pair). map (numbered f.graves) (take left queue) ++ r ∷ []) (ap (numbered f.graves) c.left_is ∙ numbered_number f.graves c.p c.legs.seen_p.0.1)

            rest : map (numbered f.graves) (drop right (set queue left p)) ≡ map (numbered f.graves) (drop right queue)
            rest = ap (map (numbered f.graves)) (drop-set-lt right queue left p s.apart)

      -- Up from q, if it is the deeper one.
      module _ (lt : get_or depths p 0 < get_or depths q 0) where
        deep_q : (mark c.p).depth ≤ (mark c.q).depth
        deep_q = omega (arith, p_depth, q_depth)

        pub on_right : Standing f depths parents (set queue (right - 1) (get_or parents q 0)) p (get_or parents q 0) left (right - 1)
        on_right =
            let apart = s.apart in let within = s.within in let y = get_or parents q 0 in
            stands (set queue (right - 1) y) p y left (right - 1) (length-set queue (right - 1) y ∙ s.full) (omega arith) (let z = length-set queue (right - 1) y in omega arith)
            (subst₂ (Climbing f depths parents p y) (sym rest) (sym more)
            (record {
              seed = c.seed;
              rooted = c.rooted;
              p = c.p;
              q = (mark c.q).parent;
              left_is = c.left_is;
              right_is = parent_is q c.q c.right_is;
              legs = up_right c.rooted c.legs differ deep_q;
            }))
          where
            rest : map (numbered f.graves) (take left (set queue (right - 1) (get_or parents q 0))) ≡ map (numbered f.graves) (take left queue)
            rest = ap (map (numbered f.graves)) (take-set-le left queue (right - 1) (get_or parents q 0) (let apart = s.apart in omega arith))

            more : map (numbered f.graves) (drop (right - 1) (set queue (right - 1) (get_or parents q 0))) ≡ (mark c.q).parent ∷ map (numbered f.graves) (drop right queue)
            more =
                let apart = s.apart in
                ap (map (numbered f.graves)) (drop-set queue (right - 1) (get_or parents q 0) (let within = s.within in omega arith)
                ∙ ap (λ (i : ℕ). get_or parents q 0 ∷ drop i queue) (omega arith))
                ∙ ap (λ (x : ℕ). numbered f.graves (get_or parents x 0) ∷ map (numbered f.graves) (drop right queue)) c.right_is
