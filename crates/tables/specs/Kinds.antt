-- The kinds of a table, one after the other.
use Rattle.std.specs.Prelude.{ℕ, List}
use Rattle.tables.specs.Format.{sets_in}
use Rattle.tables.specs.declared.kinds.Kinds.{Kinds}

-- The sets of graves of the kinds that are still to come.
abbrev pub sets_left : Kinds → List ℕ
sets_left kinds = sets_in kinds.bytes.now
