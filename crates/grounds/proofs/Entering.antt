-- A pair that is not seen gets its notes: what the cells say of all other pairs stays.
use Rattle.std.proofs.Common.{◌≡◌, ℕ, ◌+◌, ◌-◌, ◌<◌, ◌≤◌, ◌≢◌, ◌⊎◌, List, length, get_or, set, sym, ap, ◌∙◌, inl, inr, ⊎_elim, arith}
use mathlib.Core.Logic.{ite, if_neg}
use native.Mathlib.Decide.{dec_lt}
use Rattle.std.proofs.lemmas.List.{get_or-set_same, get_or-set_other}
use Rattle.finds.specs.Finds.{Finds, Pair}
use Rattle.clashes.specs.Colours.{Proper}
use Rattle.clashes.specs.Search.{Search, Adds}
use Rattle.clashes.proofs.Clashes.{same_pair}
use Rattle.clashes.proofs.Search.{same_mark}
use Rattle.grounds.specs.Notes.{number, numbered, Seen, Queued, noted, Notes}
use Rattle.grounds.proofs.Numbers.{same_number}

-- The seeds with that of q set.
abbrev pub seeded : (Pair → Pair) → Pair → Pair → Pair → Pair
seeded seed q s p = ite (same_pair p q) s (seed p)

-- A pair that is not seen, with room for it in the queue, and what is to be noted of it.
pub record Fresh (f : Finds) (depths queue : List ℕ) (tail : ℕ) : Type 0 where
  pub q : Pair
  pub proper : Proper f q
  pub unseen : get_or depths (number f.graves q) 0 ≡ 0
  pub room : tail < length queue
  pub cell : number f.graves q < length depths
  pub s : Pair
  pub up : ℕ
  pub depth : ℕ
  pub some : 1 ≤ depth

module _ {f : Finds} {below : ℕ} {depths parents queue : List ℕ} {head tail : ℕ} (k : Notes f below depths parents queue head tail) (v : Fresh f depths queue tail) where
  abbrev q : Pair
  q = v.q

  abbrev x : ℕ
  x = number f.graves q

  abbrev pub depths' : List ℕ
  depths' = set depths x v.depth

  abbrev pub parents' : List ℕ
  parents' = set parents x v.up

  abbrev pub queue' : List ℕ
  queue' = set queue tail x

  -- Its cell is that of no pair seen before.
  pub other : (p : Pair) → Seen f depths p → number f.graves p ≢ x
  other p h e = let z = h.1 in let y = ap (λ (y : ℕ). get_or depths y 0) e in let u = v.unseen in omega arith

  pub still : (i : ℕ) → i < tail → get_or queue' i 0 ≡ get_or queue i 0
  still i h = get_or-set_other queue tail i x 0 (λ e. omega arith)

  pub now_seen : Seen f depths' q
  now_seen = (v.proper, let z = get_or-set_same depths x v.depth 0 v.cell in let some = v.some in omega arith)

  pub keeps : (p : Pair) → Seen f depths p → Seen f depths' p
  keeps p h = (h.0, let z = get_or-set_other depths x (number f.graves p) v.depth 0 (other p h) in let y = h.1 in omega arith)

  pub only : (p : Pair) → Seen f depths' p → Seen f depths p ⊎ (p ≡ q)
  only p h = go (same_pair p q)
    where
      go : Dec (p ≡ q) → Seen f depths p ⊎ (p ≡ q)
      go (yes e) = inr e
      go (no ne) = inl (h.0, let z = get_or-set_other depths x (number f.graves p) v.depth 0 (λ e. ne (same_number f p q h.0 v.proper e)) in let y = h.1 in omega arith)

  -- What was queued stays so.
  queued_still : (end : ℕ) → end ≤ tail → (p : Pair) → Queued f queue end p → Queued f queue' end p
  queued_still end le p h = (h.0, (h.1.0, h.1.1, still h.1.0 (let l = h.1.1 in omega arith) ∙ h.1.2))

  -- So one pair more is seen, and nothing else changes.
  pub adds : Adds (Seen f depths) (Queued f queue head) (noted f k.seed depths parents) q
      (Seen f depths') (Queued f queue' head) (noted f (seeded k.seed q v.s) depths' parents')
  adds = let le = k.ordered in record {
    keeps = keeps;
    only = only;
    done = λ p. (
      queued_still head le p,
      λ h. (h.0, (h.1.0, h.1.1, sym (still h.1.0 (let l = h.1.1 in omega arith)) ∙ h.1.2)),
    );
    old = λ p h. let o = other p h in let y = number f.graves p in same_mark
        (if_neg (same_pair p q) (λ e. o (ap (number f.graves) e)) v.s (k.seed p))
        (ap (numbered f.graves) (get_or-set_other parents x y v.up 0 o))
        (ap (λ (z : ℕ). z - 1) (get_or-set_other depths x y v.depth 0 o));
  }

  -- The notes after it, if the search goes on with them.
  abbrev pub entered : (low : ℕ) → v.depth ≤ tail + 1 → Search f v.s (Seen f depths') (Queued f queue' head) (noted f (seeded k.seed q v.s) depths' parents') →
      ((p : Pair) → Proper f p → Seen f depths' p ⊎ (low ≤ number f.graves p)) → Notes f low depths' parents' queue' head (tail + 1)
  entered low deep search passed = record {
    seed = seeded k.seed q v.s;
    source = v.s;
    search = search;
    passed = passed;
    found = λ p h. ⊎_elim (λ o. later p (k.found p o)) (λ e. (h.0, (tail, omega arith, last ∙ ap (number f.graves) (sym e)))) (only p h);
    queued = λ i h. place i h (dec_lt i tail);
    apart = λ i j l h e. differ i j l h (dec_lt j tail) e;
    shallow = λ p h. shallow p h (same_pair p q);
    ordered = (let le = k.ordered in omega arith);
  }
    where
      last : get_or queue' tail 0 ≡ x
      last = get_or-set_same queue tail x 0 v.room

      later : (p : Pair) → Queued f queue tail p → Queued f queue' (tail + 1) p
      later p h = (h.0, (h.1.0, (let l = h.1.1 in omega arith), still h.1.0 h.1.1 ∙ h.1.2))

      place : (i : ℕ) → i < tail + 1 → Dec (i < tail) → (p : Pair) × Seen f depths' p × (get_or queue' i 0 ≡ number f.graves p)
      place i h (yes l) = let o = k.queued i l in (o.0, keeps o.0 o.1, still i l ∙ o.2)
      place i h (no l) = (q, now_seen, ap (λ (j : ℕ). get_or queue' j 0) (omega arith) ∙ last)

      differ : (i j : ℕ) → i < j → j < tail + 1 → Dec (j < tail) → get_or queue' i 0 ≢ get_or queue' j 0
      differ i j l h (yes m) e = k.apart i j l m (sym (still i (omega arith)) ∙ e ∙ still j m)
      differ i j l h (no m) e =
          let o = k.queued i (omega arith) in
          other o.0 o.1 (sym o.2 ∙ sym (still i (omega arith)) ∙ e ∙ ap (λ (y : ℕ). get_or queue' y 0) (omega arith) ∙ last)

      shallow : (p : Pair) → Proper f p → Dec (p ≡ q) → get_or depths' (number f.graves p) 0 ≤ tail + 1
      shallow p h (yes e) = let z = ap (λ (r : Pair). get_or depths' (number f.graves r) 0) e in let y = get_or-set_same depths x v.depth 0 v.cell in omega arith
      shallow p h (no ne) =
          let z = get_or-set_other depths x (number f.graves p) v.depth 0 (λ e. ne (same_number f p q h v.proper e)) in let y = k.shallow p h in omega arith
