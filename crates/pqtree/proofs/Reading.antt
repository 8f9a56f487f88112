-- Each tree allows the row that is read from it as it stands.
use Rattle.finds.specs.Trees.{Tree, grave, any, row, Trees, none, more, Allows, one, mixed, straight, InRow, nil, next, graves, all_graves}
use Rattle.finds.proofs.Branches.{mixed_refl}

mutual
  pub reads : (t : Tree) → Allows t (graves t)
  reads (grave g) = one
  reads (any ts) = mixed (mixed_refl ts) (reads_all ts)
  reads (row ts) = straight (reads_all ts)

  pub reads_all : (ts : Trees) → InRow ts (all_graves ts)
  reads_all none = nil
  reads_all (more t ts) = next (reads t) (reads_all ts)
