use Rattle.std.proofs.Common.{ℕ, sym, subst, arith}
use lib.Count.{count_trailing_zeros}
use Rattle.trees.specs.Cells.{Sounds}
use Rattle.trees.specs.Rows.{seen}
use Rattle.trees.proofs.Finding.{had_standing}
use Rattle.trees.proofs.Sets.{sound_kids, sounds_first}
use Rattle.certain.proofs.Ends.{Begins, begins_kids, grave_begins}
use Rattle.certain.proofs.near.first_grave.Goals as goal

pub loop-branch-preserved : goal.loop-branch-preserved
loop-branch-preserved c = λ t p s.
    let w = c.loop-branch.invariant t p s in
    let x = c.in-Some.ensures.first w.it w.part w.sound in
    record {
      it = x.0;
      part = x.3;
      sound = sounds_first x.0 x.1 (subst Sounds x.2 (sound_kids w.it w.sound));
      so = λ g h. w.so g (begins_kids w.it x.0 x.1 x.2 g h);
    }

pub loop-branch-smaller : goal.loop-branch-smaller
loop-branch-smaller c = omega (arith, c.in-Some.ensures.next.0.count, c.in-Some.ensures.next.1, (had_standing c.loop-branch.first.stands).below)

pub returns : goal.returns
returns c = λ t p s.
    let w = c.loop-branch.invariant t p s in
    let e = c.in_default.ensures.first w.it w.part w.sound in
    subst (λ (x : ℕ). Begins t (count_trailing_zeros 64 x)) (sym c.graves.ensures) (w.so _ (grave_begins (seen c.loop-branch.first.rows) c.loop-branch.first.root w.it w.part.0 w.sound e))
