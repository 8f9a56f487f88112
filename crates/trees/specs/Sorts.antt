-- The sorts of cells by their numbers.
use Rattle.std.specs.Prelude.{◌≡◌, ℕ, ◌<◌, Result, Ok, Err}
use Rattle.trees.specs.declared.rows.NoSort.{NoSort}
use Rattle.trees.specs.declared.rows.Sort.{Sort}
use Rattle.trees.specs.declared.rows.Sort.TheVariants.{Grave, Any, Row}

-- The number of a sort.
abbrev pub code_of : Sort → ℕ
code_of Grave = 0
code_of Any = 1
code_of Row = 2

-- The sort that has this number, or the number if no sort has it.
abbrev pub Decodes : ℕ → Result Sort NoSort → Type 0
Decodes code (Ok s) = code_of s ≡ code
Decodes code (Err e) = (e.0 ≡ code) × (2 < code)
