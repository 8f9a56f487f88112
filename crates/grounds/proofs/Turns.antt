-- The turns of the search's loops, with the cells as the code leaves them.
use Rattle.std.proofs.Common.{◌≡◌, ℕ, ◌+◌, ◌-◌, ◌*◌, ◌/◌, ◌%◌, ◌<◌, ◌≤◌, ◌≢◌, None, Some, inl, inr, List, get_or, set, sym, refl, ap, ◌∙◌, subst, ap₂, subst₂, arith}
use mathlib.Core.Path.{subst₃}
use native.Mathlib.Nat.{mul-sub}
use Rattle.std.proofs.lemmas.Nat.{mul-le, div-add-mod', div_below, mod_below}
use Rattle.finds.specs.Finds.{Finds, Pair}
use Rattle.clashes.specs.Colours.{Proper}
use Rattle.clashes.specs.Rings.{Joint}
use Rattle.grounds.specs.Notes.{number, numbered, Notes, beside, Working, Forked}
use Rattle.grounds.specs.Searching.{Sized, Entered, Unseen, Met}
use Rattle.grounds.specs.declared.search.Fork.{Fork}
use Rattle.grounds.specs.declared.search.Search.{Search}
use Rattle.grounds.specs.declared.sets.Sets.{Sets}
use Rattle.grounds.proofs.Steps.{skipped, planted, tail_few}
use Rattle.grounds.proofs.AtWork.{painted, other_colour, one_colour}

-- There are fewer pairs of different graves than cells.
pub fewer : (n : ℕ) → 1 ≤ n → n * (n - 1) < n * n
fewer n h = let z = mul-sub n n 1 in let y : 1 * 1 ≤ n * n = mul-le 1 1 n n h h in omega arith

-- The cells of a search in these sets.
pub sized_as : (s : Search) {sets : Sets} → s.sets ≡ sets → Sized sets.graves s.depths.now s.parents.now s.queue.now
sized_as s e = subst (λ (t : Sets). Sized t.graves s.depths.now s.parents.now s.queue.now) e
    (record { for_depths = s.for_depths; for_parents = s.for_parents; for_queue = s.for_queue; few = s.few })

module _ (f : Finds) (some : 1 ≤ f.graves) where
  -- The number of a cell is that of its pair.
  cell_number : (x : ℕ) → number f.graves (numbered f.graves x) ≡ x
  cell_number x = div-add-mod' x f.graves

  -- A cell off the diagonal is that of a pair of two different graves.
  cell_proper : (x : ℕ) → x < f.graves * f.graves → x / f.graves ≢ x % f.graves → Proper f (numbered f.graves x)
  cell_proper x l ne = (div_below x f.graves f.graves some l, mod_below x f.graves some, ne)

  module _ {below : ℕ} {depths parents queue : List ℕ} {head tail : ℕ} (k : Notes f below depths parents queue head tail) where
    pub room : tail < f.graves * f.graves
    room = let z = tail_few f k in let y = fewer f.graves some in omega arith

    -- A cell on the diagonal is passed over, and so is that of a pair that is seen.
    pub skipped_self : below / f.graves ≡ below % f.graves → Notes f (below + 1) depths parents queue head tail
    skipped_self e = skipped f k (λ h. absurd (h.2 e))

    pub skipped_seen : 1 ≤ get_or depths below 0 → Notes f (below + 1) depths parents queue head tail
    skipped_seen l = skipped f k (λ h. (h, subst (λ (x : ℕ). 1 ≤ get_or depths x 0) (sym (cell_number below)) l))

  -- Any other is that of a new seed.
  pub planted_at : {below head : ℕ} {s t : Search} → Sized f.graves s.depths.now s.parents.now s.queue.now → Notes f below s.depths.now s.parents.now s.queue.now head s.tail →
      below < f.graves * f.graves → below / f.graves ≢ below % f.graves → head ≡ s.tail → get_or s.depths.now below 0 ≡ 0 →
      Entered below below s t →
      Notes f (below + 1) t.depths.now t.parents.now t.queue.now head t.tail
  planted_at {below} {head} {s} {t} z k l ne idle unseen e =
      let q = numbered f.graves below in let is = cell_number below in
      notes_as (sym e.tail_is)
      (ap (λ (x : ℕ). set s.depths.now x 1) is ∙ ap (λ (d : ℕ). set s.depths.now below (d + 1)) (sym unseen) ∙ sym e.depths_are)
      (ap (λ (x : ℕ). set s.parents.now x below) is ∙ sym e.parents_are) (ap (set s.queue.now s.tail) is ∙ sym e.queue_is)
      (planted f k q below refl is idle (cell_proper below l ne) (ap (λ (x : ℕ). get_or s.depths.now x 0) is ∙ unseen) (let r = room k in omega arith) (omega arith))
    where
      notes_as : {depths depths' parents parents' queue queue' : List ℕ} {tail tail' : ℕ} → tail ≡ tail' → depths ≡ depths' → parents ≡ parents' → queue ≡ queue' →
          Notes f (below + 1) depths parents queue head tail → Notes f (below + 1) depths' parents' queue' head tail'
      notes_as {depths' = ds} {parents' = ps} {queue' = us} {tail = end} x d p u n =
          subst (Notes f (below + 1) ds ps us head) x (subst₃ (λ (i j l : List ℕ). Notes f (below + 1) i j l head end) d p u n)

module _ (s : Search) {f : Finds} {below head : ℕ} {p : Pair} {place : ℕ} (w : Working f below s.depths.now s.parents.now s.queue.now head s.tail p place)
    (cell x : ℕ) (j : Joint f p (beside f.graves p place)) (cell_is : cell ≡ number f.graves p) (x_is : x ≡ number f.graves (beside f.graves p place)) where
  pub shallow_at : get_or s.depths.now cell 0 ≤ s.tail
  shallow_at = let z = w.notes.shallow p w.proper in let y = ap (λ (i : ℕ). get_or s.depths.now i 0) cell_is in omega arith

  pub painted_at : {t : Search} → Sized f.graves s.depths.now s.parents.now s.queue.now → s.tail < f.graves * f.graves → x < f.graves * f.graves → Unseen s x →
      Entered x cell s t → Working f below t.depths.now t.parents.now t.queue.now head t.tail p (place + 1)
  painted_at {t} z wide within unseen e =
      subst (λ (end : ℕ). Working f below t.depths.now t.parents.now t.queue.now head end p (place + 1)) (sym e.tail_is)
      (subst₃ (λ (d u v : List ℕ). Working f below d u v head (s.tail + 1) p (place + 1))
      (ap₂ (λ (i l : ℕ). set s.depths.now i (get_or s.depths.now l 0 + 1)) (sym x_is) (sym cell_is) ∙ sym e.depths_are)
      (ap₂ (set s.parents.now) (sym x_is) (sym cell_is) ∙ sym e.parents_are) (ap (set s.queue.now s.tail) (sym x_is) ∙ sym e.queue_is)
      (painted w j (ap (λ (i : ℕ). get_or s.depths.now i 0) (sym x_is) ∙ unseen) (omega arith) (omega arith) (omega arith)))

  -- After it is met the pair at work goes on to the next place.
  pub met_at : {t : Search} → Sized f.graves s.depths.now s.parents.now s.queue.now → s.tail < f.graves * f.graves → x < f.graves * f.graves → Met cell x s t None →
      Working f below t.depths.now t.parents.now t.queue.now head t.tail p (place + 1)
  met_at z wide within (inl (unseen, e)) = painted_at z wide within unseen e
  met_at z wide within (inr (some, ne, e)) =
      let a = ap (λ (i : ℕ). get_or s.depths.now i 0) x_is in let b = ap (λ (i : ℕ). get_or s.depths.now i 0) cell_is in
      subst (λ (t : Search). Working f below t.depths.now t.parents.now t.queue.now head t.tail p (place + 1)) (sym e)
      (other_colour w j (omega arith) (λ h. ne (ap (λ (i : ℕ). i % 2) a ∙ h ∙ ap (λ (i : ℕ). i % 2) (sym b))))

  -- Or both pairs have one colour.
  pub forks_at : {t : Search} (fork : Fork) → Met cell x s t (Some fork) → Forked f t.depths.now t.parents.now fork.left fork.right
  forks_at fork m =
      let a = ap (λ (i : ℕ). get_or s.depths.now i 0) x_is in let b = ap (λ (i : ℕ). get_or s.depths.now i 0) cell_is in
      subst (λ (t : Search). Forked f t.depths.now t.parents.now fork.left fork.right) (sym m.2)
      (subst₂ (Forked f s.depths.now s.parents.now) (sym (m.3 ∙ cell_is)) (sym (m.4 ∙ x_is))
      (one_colour w j (let z = m.0 in omega arith) (ap (λ (i : ℕ). i % 2) (sym a) ∙ m.1 ∙ ap (λ (i : ℕ). i % 2) b)))
