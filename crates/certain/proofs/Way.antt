-- The way down a tree to the grave b, and what is told of the nearest graves on it.
use Rattle.std.proofs.Common.{◌≡◌, ℕ, Some, None, Option}
use Rattle.std.specs.Option.{option_or}
use Rattle.finds.specs.Finds.{Finds}
use Rattle.finds.specs.Trees.{Tree, graves}
use Rattle.finds.specs.Sets.{bit}
use Rattle.trees.specs.Cells.{sets_of, kids, Holds, Sound}
use Rattle.trees.specs.Rows.{seen}
use Rattle.trees.specs.Subtrees.{Is, Within}
use Rattle.trees.specs.Walks.{BranchWith}
use Rattle.trees.specs.declared.subtree.Subtree.{Subtree}
use Rattle.trees.specs.declared.whole.WholeTree.{WholeTree}
use Rattle.trees.proofs.Sets.{sound_kids}
use Rattle.trees.proofs.Stepping.{branch_is}
use Rattle.trees.proofs.Walking.{with_sound}
use Rattle.certain.specs.Near.{Told, BranchAt, Flanks}
use Rattle.certain.specs.Shown.{ShownBy}
use Rattle.certain.specs.declared.neighbours.Neighbours.{Neighbours}
use Rattle.certain.proofs.Descent.{Come, in_it, kids_in, gone}
use Rattle.certain.proofs.Level.{Right, level, right_told}

-- What is right for the part, or else what is told so far, is right for the whole tree.
pub record SoFar (b : ℕ) (w : WholeTree) (s : Subtree) (best : Option Neighbours) : Type 0 where
  pub come : (t : Tree) → Holds (seen w.rows) w.count t → Sound t → Come s (λ u. (r : Option Neighbours) → Right u b r → Right t b (option_or r best))

-- A branch that has a grave is a branch.
abbrev pub branch_at : {i g c : ℕ} {u : Tree} → BranchWith i g u c → BranchAt i c u
branch_at w = record { before = w.before; it = w.it; behind = w.behind; is = w.is; at = w.at }

-- One branch further down: what flanks it is told if nothing inside it is.
pub so_far_more : {b : ℕ} {w : WholeTree} {s x : Subtree} {best : Option Neighbours} (q : Option Neighbours) → SoFar b w s best → Within s x → ((u : Tree) → Is s u → BranchWith s.root b u x.root) →
    ((u : Tree) → Is s u → Sound u → (k : BranchAt s.root x.root u) → Flanks ((seen s.rows).sort s.root) k.before k.behind q) → SoFar b w x (option_or q best)
so_far_more {b} {w} {s} {x} {best} q f i g k = record {
  come = λ t h o.
      let d = f.come t h o in
      let v = g d.it d.part in
      record {
        it = v.it;
        part = branch_is i v d.part;
        sound = with_sound d.sound v;
        so = λ r m. both t r (d.so (option_or r q) (level b (seen s.rows) s.root d.it d.part.0 (sound_kids d.it d.sound).once v.before v.it v.behind v.is (in_it v) r q m
            (k d.it d.part d.sound (branch_at v))));
      };
}
  where
    both : (t : Tree) (r : Option Neighbours) → Right t b (option_or (option_or r q) best) → Right t b (option_or r (option_or q best))
    both t (Some p) m = m
    both t None m = m

-- Where no branch has b, what is told so far is all.
pub so_far_end : {b : ℕ} {w : WholeTree} {s : Subtree} {best : Option Neighbours} → SoFar b w s best → ((u : Tree) → Is s u → bit b (sets_of (kids u)) ≡ 0) →
    (f : Finds) (t : Tree) → ShownBy w f t → Told f (graves t) b best
so_far_end {b} {best = best} k g f t s =
    let o = k.come t s.holds s.sound in
    right_told f t s.exact b best (o.so None (λ x y m. gone b (kids o.it) (g o.it o.part) (kids_in x b y o.it m).1))
