use Rattle.std.proofs.Common.{ℕ, ◌+◌, ◌<◌, ◌≢◌, List, length, get_or, set, Some, None, Option, refl, ◌∙◌, subst, sym, inl, inr, arith, below_more}
use Rattle.std.proofs.lemmas.List.{get_or-set_same, get_or-set_other, drop-set-lt}
use Rattle.std.specs.Option.{unwrap_or}
use Rattle.finds.specs.Finds.{Finds}
use Rattle.finds.specs.Trees.{graves}
use Rattle.certain.specs.Near.{Told, Written}
use Rattle.certain.specs.declared.neighbours.Neighbours.{Neighbours}
use Rattle.certain.proofs.near.all_nearest.Goals as goal

-- What is written in two rows at i, and what was written before it.
write_more : (P : ℕ → ℕ → ℕ → Type 0) (xs ys : List ℕ) (i v w : ℕ) → i < length xs → i < length ys → ((b : ℕ) → b < i → P b (get_or xs b 0) (get_or ys b 0)) → P i v w →
    (b : ℕ) → b < i + 1 → P b (get_or (set xs i v) b 0) (get_or (set ys i w) b 0)
write_more P xs ys i v w k l below here =
    below_more (λ b. P b (get_or (set xs i v) b 0) (get_or (set ys i w) b 0)) i
    (λ b h. let ne : b ≢ i = omega arith in rw (get_or-set_other xs i b v 0 ne, get_or-set_other ys i b w 0 ne) (below b h))
    (rw (get_or-set_same xs i v 0 k, get_or-set_same ys i w 0 l) here)

-- Neither of the two.
abbrev no_two : Neighbours
no_two = record { before = 255; behind = 255 }

told_written : (f : Finds) (l : List ℕ) (b : ℕ) (r : Option Neighbours) → Told f l b r → Written f l b (unwrap_or r no_two).before (unwrap_or r no_two).behind
told_written f l b None h = inl (refl, refl, h)
told_written f l b (Some p) h = inr h

pub loop-b-preserved : goal.loop-b-preserved
loop-b-preserved c = (
  (λ f t s. write_more (Written f _) c.loop-b.before c.loop-b.behind c.loop-b.b _ _ (omega (arith, c.loop-b.auto.before, c.requires.room.0)) (omega (arith, c.loop-b.auto.behind, c.requires.room.1))
      (c.loop-b.invariant.0 f t s)
      (subst (λ (p : Neighbours). Written f (graves t) c.loop-b.b p.before p.behind) (sym c.unwrap_or-found.ensures) (told_written f (graves t) c.loop-b.b c.nearest.result (c.nearest.ensures f t s)))),
  drop-set-lt c.args.n c.loop-b.before c.loop-b.b _ (omega arith) ∙ c.loop-b.invariant.1,
  drop-set-lt c.args.n c.loop-b.behind c.loop-b.b _ (omega arith) ∙ c.loop-b.invariant.2,
)
