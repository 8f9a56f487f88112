use Rattle.std.proofs.Common.{◌≡◌, ℕ, suc, ◌+◌, List, [], ◌∷◌, ◌++◌, length, sym, refl, ap, ◌∙◌, arith}
use Rattle.finds.specs.Trees.{Trees, none, more, len}
use Rattle.finds.proofs.Branches.{len_plus}
use Rattle.trees.specs.Cells.{nodes, kids, roots}
use Rattle.trees.specs.Rows.{seen}
use Rattle.trees.proofs.Cells.{kids_parts, roots_plus}
use Rattle.trees.proofs.Finding.{had_standing}
use Rattle.trees.proofs.Sets.{sound_kids, few_branches}
use Rattle.trees.proofs.Stepping.{going_start, going_next, going_more, going_end}
use Rattle.changes.proofs.opening.branches_of.Goals as goal

roots_len : (i : ℕ) (ts : Trees) → length (roots i ts) ≡ len ts
roots_len i none = refl
roots_len i (more t ts) = ap suc (roots_len (i + nodes t) ts)

pub loop-branch-init : goal.loop-branch-init
loop-branch-init c = going_start _ c.branches-branch-items.ensures c.into_iter-branch-iterator.ensures.into_iter_gives (λ t p. c.new-cells.ensures)

-- While there is a branch to come, fewer than 64 are listed.
pub push-requires : goal.push-requires
push-requires c =
    let s = had_standing c.args.part.stands in
    let x = going_next c.loop-branch.invariant c.in-Some.ensures.steps s.tree s.part in
    let e = ap length x.so ∙ roots_len (suc c.args.part.root) x.done in
    let k = ap len x.is ∙ len_plus x.done (more x.it x.rest) in
    omega (arith, few_branches (kids s.tree) (sound_kids s.tree s.sound))

pub loop-branch-preserved : goal.loop-branch-preserved
loop-branch-preserved c = going_more _ c.loop-branch.invariant c.in-Some.ensures.steps
    (λ t p x.
    c.push.ensures ∙ ap (λ (l : List ℕ). l ++ (c.in-Some.branch.root ∷ [])) x.so ∙ ap (λ (r : ℕ). roots (suc c.args.part.root) x.done ++ (r ∷ [])) x.at
    ∙ sym (roots_plus (suc c.args.part.root) x.done (more x.it none)))

pub returns-clause-stand : goal.returns-clause-stand
returns-clause-stand c = let s = had_standing c.args.part.stands in record {
  long = s.long;
  few = s.few;
  trees = kids s.tree;
  parts = rw (going_end c.loop-branch.invariant c.in-None.ensures.steps.0 s.tree s.part) (kids_parts (seen c.args.part.rows) c.args.part.count c.args.part.root s.tree s.part);
  sound = sound_kids s.tree s.sound;
}

pub returns-clause-branches : goal.returns-clause-branches
returns-clause-branches c = λ t p. rw (going_end c.loop-branch.invariant c.in-None.ensures.steps.0 t p) (kids_parts (seen c.args.part.rows) c.args.part.count c.args.part.root t p)
