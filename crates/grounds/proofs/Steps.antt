-- The steps of the search on its cells.
use Rattle.std.proofs.Common.{◌≡◌, ℕ, zero, suc, ◌+◌, ◌-◌, ◌*◌, ◌<◌, ◌≤◌, ◌≢◌, ◌⊎◌, List, [], ◌∷◌, length, get_or, set, sym, refl, ap, ◌∙◌, subst, inl, inr, ⊎_elim, arith}
use mathlib.Core.Logic.{if_pos}
use native.Mathlib.Decide.{ℕ_discrete}
use Rattle.std.proofs.lemmas.Nat.{div-mul-add, le-div}
use Rattle.std.proofs.lemmas.List.{get_or-set_same}
use Rattle.std.specs.List.{AllByRecursion}
use Rattle.finds.specs.Finds.{Finds, Pair}
use Rattle.finds.specs.Exactness.{SomeFits}
use Rattle.clashes.specs.Colours.{pair, Proper}
use Rattle.clashes.specs.Rings.{at, Once}
use Rattle.clashes.specs.Search.{Mark, Search}
use Rattle.clashes.proofs.Clashes.{same_pair}
use Rattle.clashes.proofs.Orders.{order_of}
use Rattle.clashes.proofs.Search.{begin, next, plant, colours}
use Rattle.clashes.proofs.Short.{pairs_few}
use Rattle.grounds.specs.Notes.{number, numbered, Seen, Queued, noted, Notes}
use Rattle.grounds.proofs.Numbers.{numbered_number, number_below}
use Rattle.grounds.proofs.Entering.{Fresh, depths', keeps, now_seen, adds, entered}

module _ (f : Finds) where
  -- Nothing is seen at first.
  pub begun : (depths parents queue : List ℕ) → ((p : Pair) → Proper f p → get_or depths (number f.graves p) 0 ≡ 0) → Notes f 0 depths parents queue 0 0
  begun depths parents queue none = record {
    seed = λ p. p;
    source = pair 0 0;
    search = begin (noted f (λ p. p) depths parents) unseen (λ p h. (let l = h.1.1 in omega arith));
    passed = λ p h. inr (omega arith);
    found = λ p h. absurd (unseen p h);
    queued = λ i h. absurd (omega arith);
    apart = λ i j h l e. omega arith;
    shallow = λ p h. (let z = none p h in omega arith);
    ordered = omega arith;
  }
    where
      unseen : (p : Pair) → Seen f depths p → ⊥
      unseen p h = let z = none p h.0 in let y = h.1 in omega arith

  module _ {below : ℕ} {depths parents queue : List ℕ} {head tail : ℕ} (k : Notes f below depths parents queue head tail) where
    abbrev mark : Pair → Mark
    mark = noted f k.seed depths parents

    -- ---- room

    -- The pairs in the queue below a place.
    abbrev listed : ℕ → List Pair
    listed zero = []
    listed (suc t) = numbered f.graves (get_or queue t 0) ∷ listed t

    listed_length : (t : ℕ) → length (listed t) ≡ t
    listed_length zero = refl
    listed_length (suc t) = ap suc (listed_length t)

    listed_all : (P : Pair → Type 0) (t : ℕ) → ((i : ℕ) → i < t → P (numbered f.graves (get_or queue i 0))) → AllByRecursion P (listed t)
    listed_all P zero h = tt
    listed_all P (suc t) h = (h t (omega arith), listed_all P t (λ i l. h i (omega arith)))

    listed_at : (i : ℕ) → i < tail → (p : Pair) × Seen f depths p × (numbered f.graves (get_or queue i 0) ≡ p) × (get_or queue i 0 ≡ number f.graves p)
    listed_at i h =
        let o = k.queued i h in
        (o.0, o.1, ap (numbered f.graves) o.2 ∙ numbered_number f.graves o.0 o.1.0.1, o.2)

    listed_once : (t : ℕ) → t ≤ tail → Once (listed t)
    listed_once zero l = tt
    listed_once (suc t) l = (listed_all (λ p. numbered f.graves (get_or queue t 0) ≢ p) t differ, listed_once t (omega arith))
      where
        differ : (i : ℕ) → i < t → numbered f.graves (get_or queue t 0) ≢ numbered f.graves (get_or queue i 0)
        differ i h e =
            let a = listed_at t (omega arith) in let b = listed_at i (omega arith) in
            k.apart i t h (omega arith) (b.3 ∙ ap (number f.graves) (sym b.2 ∙ sym e ∙ a.2) ∙ sym a.3)

    listed_proper : AllByRecursion (Proper f) (listed tail)
    listed_proper = listed_all (Proper f) tail (λ i h. let a = listed_at i h in subst (Proper f) (sym a.2) a.1.0)

    -- The queue has no more pairs than there are.
    pub tail_few : tail ≤ f.graves * (f.graves - 1)
    tail_few = let z = pairs_few f (listed tail) (listed_once tail (omega arith)) listed_proper in let y = listed_length tail in omega arith

    -- ---- a new seed

    -- All that is seen is done where no pair waits.
    all_done : head ≡ tail → (p : Pair) → Seen f depths p → Queued f queue head p
    all_done e p h = subst (λ (t : ℕ). Queued f queue t p) (sym e) (k.found p h)

    -- A lower number has no higher first grave.
    firsts : (p q : Pair) → Proper f p → number f.graves q ≤ number f.graves p → q.first ≤ p.first
    firsts p q h l =
        let z = le-div q.first (number f.graves p) f.graves (let g = h.0 in omega arith) (omega arith) in
        let x = div-mul-add p.first f.graves p.second h.1 in omega arith

    -- All pairs up to the next number are seen, if the pair with it is.
    passes : (depths' : List ℕ) → ((p : Pair) → Seen f depths p → Seen f depths' p) → (Proper f (numbered f.graves below) → Seen f depths' (numbered f.graves below)) →
        (p : Pair) → Proper f p → Seen f depths' p ⊎ (below + 1 ≤ number f.graves p)
    passes depths' still h p l = ⊎_elim (λ s. inl (still p s)) (λ m. more m (ℕ_discrete (number f.graves p) below)) (k.passed p l)
      where
        more : below ≤ number f.graves p → Dec (number f.graves p ≡ below) → Seen f depths' p ⊎ (below + 1 ≤ number f.graves p)
        more m (yes e) =
            let d : p ≡ numbered f.graves below = sym (numbered_number f.graves p l.1) ∙ ap (numbered f.graves) e in
            inl (subst (Seen f depths') (sym d) (h (subst (Proper f) d l)))
        more m (no e) = inr (omega arith)

    -- A number is passed over if its pair is seen or is none.
    pub skipped : (Proper f (numbered f.graves below) → Seen f depths (numbered f.graves below)) → Notes f (below + 1) depths parents queue head tail
    skipped h = record {
      seed = k.seed;
      source = k.source;
      search = k.search;
      passed = passes depths (λ p s. s) h;
      found = k.found;
      queued = k.queued;
      apart = k.apart;
      shallow = k.shallow;
      ordered = k.ordered;
    }

    -- The first pair that is not seen is a new seed, where no pair waits.
    pub planted : (q : Pair) (up : ℕ) → numbered f.graves below ≡ q → number f.graves q ≡ below → head ≡ tail → Proper f q →
        get_or depths (number f.graves q) 0 ≡ 0 → tail < length queue → number f.graves q < length depths →
        Notes f (below + 1) (set depths (number f.graves q) 1) (set parents (number f.graves q) up) (set queue tail (number f.graves q)) head (tail + 1)
    planted q up is at idle proper unseen room cell =
        entered k v (below + 1) (omega arith)
        (plant fresh (adds k v) (if_pos (same_pair q q) refl q (k.seed q)) (let z = get_or-set_same depths (number f.graves q) 1 0 cell in omega arith))
        (passes (depths' k v) (keeps k v) (λ _. subst (Seen f (depths' k v)) (sym is) (now_seen k v)))
      where
        v : Fresh f depths queue tail
        v = record { q = q; proper = proper; unseen = unseen; room = room; cell = cell; s = q; up = up; depth = 1; some = omega arith }

        fresh : Search f q (Seen f depths) (Queued f queue head) mark
        fresh = next k.search q (all_done idle) (λ p h. ⊎_elim inl (λ l. inr (firsts p q h (omega arith))) (k.passed p h))

    -- All pairs are seen and done, so that some order fits.
    pub ended : below ≡ f.graves * f.graves → head ≡ tail → SomeFits f
    ended e idle = order_of f (colours k.search (λ p h. ⊎_elim (λ s. s) (λ l. absurd (let z = number_below f p h in omega arith)) (k.passed p h)) (all_done idle))
