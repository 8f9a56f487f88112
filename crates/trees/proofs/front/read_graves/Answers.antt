use Rattle.std.proofs.Common.{◌≡◌, ℕ, ◌<◌, ◌≤◌, List, length, sym, ◌∙◌, arith}
use lib.Count.{ones}
use Rattle.trees.specs.Checks.{TreeIn}
use Rattle.trees.specs.Rows.{seen}
use Rattle.trees.specs.declared.rows.View.{View}
use Rattle.trees.proofs.Checking.{tree_in_size}
use Rattle.trees.proofs.Finding.{had_tree}
use Rattle.trees.proofs.Leaves.{Read, read_grave, read_other, read_fewer, read_all, leaves_all}
use Rattle.trees.proofs.front.read_graves.Goals as goal
use Rattle.trees.proofs.front.read_graves.Goals.{then-tree-i, else-tree-i}

-- There is room for one grave more.
room : {v : View} {n i at : ℕ} {before out : List ℕ} → TreeIn v n → ones ((seen v).set 0) ≤ length before → length out ≡ length before → Read (seen v) i at before out → (seen v).sort i ≡ 0 → i < n → at < length out
room {v} {n} h r k w e l =
    let a = read_fewer n w e l in
    let b = (leaves_all (seen v) n h.tree h.holds h.sound).1 in
    let d = tree_in_size v h.tree h.holds h.sound in
    omega arith

pub bounds-out-at : goal.bounds-out-at
bounds-out-at c = room (had_tree c.args.tree.holds) c.requires c.loop-i.auto.out c.loop-i.invariant (c.if-tree-i.true ∙ c.into.ensures) c.loop-i-test.true

pub loop-i-preserved : goal.loop-i-preserved
loop-i-preserved c =
    elim c.if-tree-i.branch [
      | then-tree-i w ↦
          read_grave c.loop-i.invariant (w.if-tree-i.true ∙ c.into.ensures) (room (had_tree c.args.tree.holds) c.requires c.loop-i.auto.out c.loop-i.invariant (w.if-tree-i.true ∙ c.into.ensures) c.loop-i-test.true) w.at-is w.out-is
      | else-tree-i w ↦ read_other c.loop-i.invariant (λ e. w.if-tree-i.false (e ∙ sym c.into.ensures)) w.at-is w.out-is
    ]

pub returns : goal.returns
returns c = read_all c.loop-i.invariant c.args.tree.count (omega arith)
