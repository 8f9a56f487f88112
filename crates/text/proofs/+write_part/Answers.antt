use Rattle.std.proofs.Common.{◌≡◌, ℕ, ◌+◌, ◌⊎◌, List, ◌++◌, decimal, string_bytes, sym, ap, ◌∙◌, subst, inl, inr, append-nil, arith}
use Rattle.std.proofs.lemmas.Result.{on_ok_weaker}
use lib.Count.{count_trailing_zeros}
use lib.Utf8.{encode}
use Rattle.finds.specs.Trees.{Tree, none, more}
use Rattle.finds.proofs.Branches.{len_plus}
use Rattle.trees.specs.Cells.{kids, Cells, Body}
use Rattle.trees.specs.Rows.{seen}
use Rattle.trees.proofs.Finding.{had_standing}
use Rattle.trees.proofs.Stepping.{going_start, going_within, going_next, going_more, going_end, branch_sound}
use Rattle.text.specs.Show.{show, shows}
use Rattle.text.proofs.Showing.{first_written, next_written, grave_shown, any_shown, row_shown, around, pushed}
use Rattle.text.proofs.+write_part.Goals as goal
use Rattle.text.proofs.+write_part.Goals.{in-Any, in-Row, then-k-gt0+in_ok-push-2, else-k-gt0}

pub returns-in-Grave : goal.returns-in-Grave
returns-in-Grave m c = on_ok_weaker c.write_grave.result (λ e u p s.
    e ∙ ap (λ (z : List ℕ). string_bytes c.args.out.now ++ z)
    (ap (λ (z : ℕ). decimal (count_trailing_zeros 64 z)) c.graves.ensures ∙ grave_shown (seen c.args.part.rows) c.args.part.root u p.0 s (sym c.in-Grave.ensures))) c.write_grave.ensures

pub loop-k-init : goal.loop-k-init
loop-k-init m c = going_start _ c.branches.ensures (ap (λ x. x.iter) c.into_iter-k-iterator.ensures.into_iter_gives ∙ c.enumerate-k-items.ensures.source)
    (λ u p. (ap (λ x. x.count) c.into_iter-k-iterator.ensures.into_iter_gives ∙ c.enumerate-k-items.ensures.count, λ s. sym (append-nil _)))

pub write_part-requires : goal.write_part-requires
write_part-requires m c =
    let s = had_standing c.args.part.stands in
    let x = going_next c.loop-k.invariant c.in-Some.ensures.steps.0 s.tree s.part in
    let w = going_within c.loop-k.invariant c.in-Some.ensures.steps.0 in
    (omega (arith, c.decreases, x.at, w.count, (had_standing c.in-Some.branch.stands).below), tt)

pub loop-k-preserved : goal.loop-k-preserved
unfolding encode
loop-k-preserved m c = going_more _ c.loop-k.invariant c.in-Some.ensures.steps.0 (λ u p x. (
  c.in-Some.ensures.steps.2 ∙ ap (λ (k : ℕ). k + 1) x.so.0 ∙ sym (len_plus x.done (more x.it none)),
  λ s.
      let e = c.in_ok-write_part.ensures x.it x.part (branch_sound s x) in
      let k = c.in-Some.ensures.steps.1 ∙ x.so.0 in
      elim c.if-k-gt0.branch [
        | then-k-gt0+in_ok-push-2 w ↦ next_written x.done x.it _ (string_bytes c.loop-k.out) (string_bytes c.if-k-gt0.out) _ (omega (arith, w.if-k-gt0.true)) (x.so.1 s) (ap string_bytes w.out-is ∙ w.in_ok-push-2.ensures.bytes) e
        | else-k-gt0 w ↦ first_written x.done x.it _ (string_bytes c.if-k-gt0.out) _ (omega (arith, w.if-k-gt0.false)) (ap string_bytes w.out-is ∙ x.so.1 s) e
      ],
))

-- The brackets are those of the sort.
brackets : (R : Cells) (i : ℕ) (t : Tree) {o : ℕ × ℕ} → Body R i t → ((R.sort i ≡ 1) × (o ≡ (123, 125))) ⊎ ((R.sort i ≡ 2) × (o ≡ (91, 93))) → encode o.0 ++ (shows (kids t) ++ encode o.1) ≡ show t
unfolding encode
brackets R i t {o} h (inl (e, k)) = subst (λ (z : ℕ × ℕ). encode z.0 ++ (shows (kids t) ++ encode z.1) ≡ show t) (sym k) (any_shown R i t h e)
brackets R i t {o} h (inr (e, k)) = subst (λ (z : ℕ × ℕ). encode z.0 ++ (shows (kids t) ++ encode z.1) ≡ show t) (sym k) (row_shown R i t h e)

pub returns : goal.returns
returns m c = on_ok_weaker c.push-2.result (λ e u p s.
    around (string_bytes c.args.out.now) _ _ _ c.in_ok-push.ensures.bytes ((going_end c.loop-k.invariant c.in-None.ensures.steps.0.0 u p).1 s) e
    (brackets (seen c.args.part.rows) c.args.part.root u p.0 (elim c.match-sort.branch [
      | in-Any w ↦ inl (sym w.in-Any.ensures, w.open-is)
      | in-Row w ↦ inr (sym w.in-Row.ensures, w.open-is)
    ]))) (pushed c.push-2.result _ _ _ c.push-2.ensures.bytes)
