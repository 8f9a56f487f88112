-- How a row of graves is read against branches that stand in a row.
use Rattle.std.specs.Prelude.{ℕ, ◌-◌, Bool, true, false, List, length, take, drop}
use Rattle.finds.specs.Branches.{revs}
use Rattle.finds.specs.Trees.{Trees, InRow}

-- The branches are read one after the other; from the last to the first if the row is turned round.
abbrev pub Reads : Bool → Trees → List ℕ → Type 0
Reads false ts l = InRow ts l
Reads true ts l = InRow (revs ts) l

-- What is left of the row when the branches in front have taken so many graves: they come first, or last if the row is turned round.
abbrev pub left_of : Bool → ℕ → List ℕ → List ℕ
left_of false at l = drop at l
left_of true at l = take (length l - at) l

-- Where the k graves of the next branch begin, in a row of n graves of which so many are taken.
abbrev pub beginning_of : Bool → ℕ → ℕ → ℕ → ℕ
beginning_of false at k n = at
beginning_of true at k n = n - at - k
