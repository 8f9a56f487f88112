-- Trees as text: branches in any order in braces, rows in brackets, one space apart, and nothing else.
use Rattle.std.specs.Prelude.{ℕ, List, [], ◌++◌, codes, decimal}
use Rattle.finds.specs.Trees.{Tree, grave, any, row, Trees, none, more}

-- The text of a tree; its graves come in the order in which they are read from left to right.
abbrev mutual
  pub show : Tree → List ℕ
  show (grave g) = decimal g
  show (any ts) = codes "{" ++ (shows ts ++ codes "}")
  show (row ts) = codes "[" ++ (shows ts ++ codes "]")

  -- The texts of the branches, one space apart.
  pub shows : Trees → List ℕ
  shows none = []
  shows (more t ts) = show t ++ spaced ts

  -- The texts of the branches, each with a space before it.
  pub spaced : Trees → List ℕ
  spaced none = []
  spaced (more t ts) = codes " " ++ (show t ++ spaced ts)
