-- The pair at the head of the queue is at work: the pairs beside it are met one after the other, until it is done.
use Rattle.std.proofs.Common.{◌≡◌, ℕ, ◌+◌, ◌*◌, ◌%◌, ◌<◌, ◌≤◌, ◌≢◌, ◌⊎◌, ◌↔◌, List, [], ◌∷◌, length, get_or, set, sym, refl, ap, ◌∙◌, subst, subst₂, inl, inr, ⊎_elim, arith, below_more}
use mathlib.Core.Logic.{if_pos}
use native.Mathlib.Decide.{ℕ_discrete}
use Rattle.std.proofs.lemmas.List.{get_or-set_same}
use Rattle.finds.specs.Finds.{Finds, Pair}
use Rattle.clashes.specs.Colours.{pair, op, Proper}
use Rattle.clashes.specs.Rings.{Joint}
use Rattle.clashes.specs.Search.{Mark, Differ, Legs}
use Rattle.clashes.proofs.Clashes.{same_pair, opposed, parted, joint_op, joint_left, neighbour}
use Rattle.clashes.proofs.Search.{paint, look, finish}
use Rattle.clashes.proofs.Readback.{start}
use Rattle.grounds.specs.Notes.{number, numbered, Seen, Queued, noted, Notes, beside, Working, Forked}
use Rattle.grounds.proofs.Numbers.{numbered_number, same_number}
use Rattle.grounds.proofs.Beside.{beside_on, beside_back}
use Rattle.grounds.proofs.Entering.{seeded, Fresh, depths', parents', queue', still, keeps, now_seen, adds, entered}

module _ {f : Finds} {below : ℕ} {depths parents queue : List ℕ} {head tail : ℕ} {p : Pair} {place : ℕ} (w : Working f below depths parents queue head tail p place) where
  abbrev k : Notes f below depths parents queue head tail
  k = w.notes

  abbrev mark : Pair → Mark
  mark = noted f k.seed depths parents

  abbrev q : Pair
  q = beside f.graves p place

  seen_p : Seen f depths p
  seen_p = let o = k.queued head w.waits in subst (Seen f depths) (same_number f o.0 p o.1.0 w.proper (sym o.2 ∙ w.here)) o.1

  -- It is of the component at work, since it is not done.
  source_p : k.seed p ≡ k.source
  source_p = ⊎_elim (λ h. absurd (k.apart h.1.0 head h.1.1 w.waits (h.1.2 ∙ sym w.here))) (λ e. e) (k.search.waits p seen_p)

  -- A pair met that does not clash with it, or has the other colour, asks for nothing.
  met_more : (Joint f p q → Seen f depths q × Differ (mark p) (mark q)) → Working f below depths parents queue head tail p (place + 1)
  met_more h = record {
    notes = k;
    waits = w.waits;
    here = w.here;
    proper = w.proper;
    met = below_more (λ i. Joint f p (beside f.graves p i) → Seen f depths (beside f.graves p i) × Differ (mark p) (mark (beside f.graves p i))) place w.met h;
  }

  pub no_clash : (Joint f p q → ⊥) → Working f below depths parents queue head tail p (place + 1)
  no_clash h = met_more (λ j. absurd (h j))

  one_seed : Joint f p q → Seen f depths q → k.seed q ≡ k.seed p
  one_seed j s = look k.search p q seen_p source_p j s

  pub other_colour : Joint f p q → 1 ≤ get_or depths (number f.graves q) 0 → get_or depths (number f.graves q) 0 % 2 ≢ get_or depths (number f.graves p) 0 % 2 →
      Working f below depths parents queue head tail p (place + 1)
  other_colour j l d = met_more (λ _. let s : Seen f depths q = (joint_left (joint_op j), l) in (s, (one_seed j s, let m = seen_p.1 in omega arith)))

  -- Two clashing pairs of one colour: from both a way leads back to one seed.
  pub one_colour : Joint f p q → 1 ≤ get_or depths (number f.graves q) 0 → get_or depths (number f.graves q) 0 % 2 ≡ get_or depths (number f.graves p) 0 % 2 →
      Forked f depths parents (number f.graves p) (number f.graves q)
  one_colour j l d = record {
    seed = k.seed;
    rooted = k.search.rooted;
    p = p;
    q = q;
    left_is = refl;
    right_is = refl;
    legs = subst (λ (r : Pair). Legs f (Seen f depths) mark p q [] (r ∷ [])) (sym (numbered_number f.graves q proper.1))
        (start p q seen_p (proper, l) (sym (one_seed j (proper, l))) (joint_op j) (let m = seen_p.1 in omega arith));
  }
    where
      proper : Proper f q
      proper = joint_left (joint_op j)

  -- A pair that is not seen is noted as a child of p.
  pub painted : Joint f p q → get_or depths (number f.graves q) 0 ≡ 0 → tail < length queue → number f.graves q < length depths → number f.graves q < length parents →
      Working f below (set depths (number f.graves q) (get_or depths (number f.graves p) 0 + 1)) (set parents (number f.graves q) (number f.graves p))
      (set queue tail (number f.graves q)) head (tail + 1) p (place + 1)
  painted j unseen room cell cell' = record {
    notes = notes';
    waits = (let l = w.waits in omega arith);
    here = still k v head w.waits ∙ w.here;
    proper = w.proper;
    met = below_more (λ i. Joint f p (beside f.graves p i) → Seen f (depths' k v) (beside f.graves p i) × Differ (mark' p) (mark' (beside f.graves p i))) place
        (λ i l c. let o = w.met i l c in (keeps k v (beside f.graves p i) o.0, subst₂ Differ (sym old_p) (sym ((adds k v).old (beside f.graves p i) o.0)) o.1))
        (λ _. (now_seen k v, (seed_q ∙ sym source_p ∙ sym (ap (λ (m : Mark). m.seed) old_p), let z = ap (λ (m : Mark). m.depth) old_p in let y = depth_q in omega arith)));
  }
    where
      v : Fresh f depths queue tail
      v = record {
        q = q;
        proper = joint_left (joint_op j);
        unseen = unseen;
        room = room;
        cell = cell;
        s = k.source;
        up = number f.graves p;
        depth = get_or depths (number f.graves p) 0 + 1;
        some = omega arith;
      }

      mark' : Pair → Mark
      mark' = noted f (seeded k.seed q k.source) (depths' k v) (parents' k v)

      old_p : mark' p ≡ mark p
      old_p = (adds k v).old p seen_p

      seed_q : (mark' q).seed ≡ k.source
      seed_q = if_pos (same_pair q q) refl k.source (k.seed q)

      depth_q : (mark' q).depth ≡ (mark p).depth + 1
      depth_q = let z = get_or-set_same depths (number f.graves q) (get_or depths (number f.graves p) 0 + 1) 0 cell in let m = seen_p.1 in omega arith

      parent_q : (mark' q).parent ≡ p
      parent_q = ap (numbered f.graves) (get_or-set_same parents (number f.graves q) (number f.graves p) 0 cell') ∙ numbered_number f.graves p w.proper.1

      notes' : Notes f below (depths' k v) (parents' k v) (queue' k v) head (tail + 1)
      notes' = entered k v below (let z = k.shallow p w.proper in omega arith)
          (paint k.search p q (adds k v) seen_p source_p j (λ h. let z = h.1 in omega arith) seed_q parent_q depth_q)
          (λ r h. ⊎_elim (λ s. inl (keeps k v r s)) inr (k.passed r h))

module _ {f : Finds} {below : ℕ} {depths parents queue : List ℕ} {head tail : ℕ} where
  -- All that clashes with p has been met: p is done.
  pub done : {p : Pair} → Working f below depths parents queue head tail p (2 * f.graves) → Notes f below depths parents queue (head + 1) tail
  done {p} w = record {
    seed = k.seed;
    source = k.source;
    search = finish k.search p (seen_p w) all now_done;
    passed = k.passed;
    found = k.found;
    queued = k.queued;
    apart = k.apart;
    shallow = k.shallow;
    ordered = (let l = w.waits in omega arith);
  }
    where
      k : Notes f below depths parents queue head tail
      k = w.notes

      mark : Pair → Mark
      mark = noted f k.seed depths parents

      Met : Pair → Type 0
      Met q = Seen f depths q × Differ (mark p) (mark q)

      met : (i : ℕ) (q : Pair) → i < 2 * f.graves → beside f.graves p i ≡ q → Joint f p q → Met q
      met i q l e j = subst Met e (w.met i l (subst (Joint f p) (sym e) j))

      all : (q : Pair) → Joint f p q → Met q
      all q j =
          let la = w.proper.0 in
          neighbour j Met (met p.first (op p) (omega arith) (sym (beside_on f.graves p p.first la)) (inl (opposed p w.proper)))
          (λ c s. let l = s.below.2 in met c (pair p.second c) (omega arith) (sym (beside_on f.graves p c l)) (inl (parted s)))
          (λ c s. let l = s.below.0 in met (f.graves + c) (pair c p.first) (omega arith) (sym (beside_back f.graves p (f.graves + c) (omega arith)) ∙ ap (λ (x : ℕ). pair x p.first) (omega arith)) (inr (parted s)))

      now_done : (r : Pair) → (Queued f queue head r ⊎ (r ≡ p)) ↔ Queued f queue (head + 1) r
      now_done r = (
        ⊎_elim (λ h. (h.0, (h.1.0, (let l = h.1.1 in omega arith), h.1.2)))
            (λ e. (subst (Proper f) (sym e) w.proper, (head, omega arith, w.here ∙ ap (number f.graves) (sym e)))),
        λ h. earlier h (ℕ_discrete h.1.0 head),
      )
        where
          earlier : (h : Queued f queue (head + 1) r) → Dec (h.1.0 ≡ head) → Queued f queue head r ⊎ (r ≡ p)
          earlier h (yes e) = inr (same_number f r p h.0 w.proper (sym h.1.2 ∙ ap (λ (i : ℕ). get_or queue i 0) e ∙ w.here))
          earlier h (no e) = inl (h.0, (h.1.0, (let l = h.1.1 in omega arith), h.1.2))
