-- From a tree of exactly the orders that fit to one of those that fit with one kind more.
use Rattle.std.proofs.Common.{ℕ, ◌<◌, Bool, List}
use Rattle.finds.specs.Finds.{Finds, Order, Fits}
use Rattle.finds.specs.Trees.{Tree, graves}
use Rattle.finds.specs.Exactness.{RowOf, Exactly, SomeFits}
use Rattle.finds.specs.Laws.{with_kind}
use Rattle.finds.proofs.Laws.{one_kind_more}
use Rattle.finds.proofs.Start.{row_whole, has_row, fill}
use Rattle.pqtree.specs.Change.{Outcome, torn, made, step}
use Rattle.pqtree.specs.Theorems.{Stands, StepExact}
use Rattle.pqtree.proofs.Fitting.{Changed, Fit}
use Rattle.pqtree.proofs.Change.{step_fit}
use Rattle.pqtree.proofs.Keeps.{GoodMade, step_good}
use Rattle.pqtree.proofs.Reading.{reads}
use Rattle.pqtree.proofs.Stretch.{stretch_one, one_stretch}

-- A tree of exactly the orders that fit shows that some order fits: the one that is read from it.
pub some_fits : (f : Finds) (t : Tree) → Exactly f t → SomeFits f
unfolding Exactly
some_fits f t e = let o = e.1 (graves t) (reads t) in (o.0, (e.0 o.0 (graves t) o.1).1 (reads t))

module _ (f : Finds) (k : ℕ → Bool) (t : Tree) (some : 0 < f.graves) (e : Exactly f t) (x : Outcome) (fit : Fit k t x) where
  -- With the kind an order fits just if the outcome allows its row.
  kind_to : (o : Order f.graves) (l : List ℕ) → RowOf f.graves o l → Fits (with_kind f k) o → Changed x l
  unfolding Exactly
  kind_to o l r h = let q = (one_kind_more f k o).0 h in (fit l).1 ((e.0 o l r).0 q.0) (one_stretch f.graves o l k r (row_whole f.graves some o l r) q.1)

  kind_from : (o : Order f.graves) (l : List ℕ) → RowOf f.graves o l → Changed x l → Fits (with_kind f k) o
  unfolding Exactly
  kind_from o l r p = let q = (fit l).0 p in (one_kind_more f k o).1 ((e.0 o l r).1 q.0) (stretch_one f.graves o l k r q.1)

step_stands : (f : Finds) (k : ℕ → Bool) (t : Tree) → 0 < f.graves → Exactly f t → (x : Outcome) → Fit k t x → GoodMade x → Stands (with_kind f k) x
unfolding Exactly
step_stands f k t n e torn fit g = λ o h. kind_to f k t n e torn fit o (fill o f.graves) (has_row o) h
step_stands f k t n e (made u) fit g = (g, exact, some_fits (with_kind f k) u exact)
  where
    exact : Exactly (with_kind f k) u
    exact = ((λ o l r. (kind_to f k t n e (made u) fit o l r, kind_from f k t n e (made u) fit o l r)), λ l p. e.1 l ((fit l).0 p).0)

pub step_exact : StepExact
step_exact f k t n g e = step_stands f k t n e (step k t) (step_fit k t g) (step_good k t g)
