-- What follows from that a tree shows finds: it does too where it is found, and has as many graves.
use Rattle.std.proofs.Common.{◌≡◌, ℕ, sym, ◌∙◌}
use lib.Count.{ones}
use Rattle.finds.specs.Exactness.{RowOf, Exactly}
use Rattle.finds.specs.Finds.{Finds}
use Rattle.finds.specs.Trees.{Tree, graves}
use Rattle.pqtree.proofs.Reading.{reads}
use Rattle.trees.proofs.Allowing.{allows_length}
use Rattle.trees.proofs.Checking.{tree_in_size}
use Rattle.trees.proofs.Roots.{found_holds}
use Rattle.trees.specs.Rows.{seen}
use Rattle.trees.specs.Wholes.{Found}
use Rattle.trees.specs.declared.rows.View.{View}
use Rattle.trees.specs.declared.whole.WholeTree.{WholeTree}
use Rattle.certain.specs.Shown.{Shows, ShownBy}

-- The row that is read from the tree is that of an order, so it is as long as there are graves.
pub shown_size : (v : View) {n : ℕ} {f : Finds} {t : Tree} → Shows v n f t → f.graves ≡ ones ((seen v).set 0)
unfolding RowOf Exactly
shown_size v {t = t} s = sym (s.exact.1 (graves t) (reads t)).1.0 ∙ allows_length (reads t) ∙ sym (tree_in_size v t s.holds s.sound)

-- The tree that is found in rows shows what these show.
pub found_shown : {v : View} {n : ℕ} {w : WholeTree} {f : Finds} {t : Tree} → Found v n w → Shows v n f t → ShownBy w f t
found_shown i s = record { holds = found_holds i _ s.holds; sound = s.sound; exact = s.exact }
