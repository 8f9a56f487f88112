use Rattle.std.proofs.Common.{◌≡◌, ℕ, ◌<◌, get_or, drop}
use Rattle.finds.specs.Finds.{Finds}
use Rattle.finds.specs.Trees.{Tree, graves}
use Rattle.certain.specs.Near.{Written}
use Rattle.certain.specs.Shown.{ShownBy}
use Rattle.certain.proofs.near.all_nearest.Given as goal

abbrev pub invariant-loop-b : goal.invariant-loop-b
invariant-loop-b l =
    ((f : Finds) (t : Tree) → ShownBy l.tree f t → (b : ℕ) → b < l.b → Written f (graves t) b (get_or l.before b 0) (get_or l.behind b 0))
    × (drop l.n l.before ≡ drop l.n l.initial.before)
    × (drop l.n l.behind ≡ drop l.n l.initial.behind)
