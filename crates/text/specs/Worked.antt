-- Two small trees and their texts.
use Rattle.std.specs.Prelude.{◌≡◌, codes}
use Rattle.finds.specs.Trees.{Tree, grave, any, row, none, more}
use Rattle.text.specs.Show.{show}

-- A row of two graves and a pair, beside a pair.
abbrev pub nested : Tree
nested =
    any (more (row (more (grave 0) (more (grave 1) (more (any (more (grave 2) (more (grave 3) none))) none)))) (more (any (more (grave 4) (more (grave 5) none))) none))

-- The texts of that tree and of a grave alone.
abbrev pub WorkedTexts : Type 0
WorkedTexts = (show nested ≡ codes "{[0 1 {2 3}] {4 5}}") × (show (grave 63) ≡ codes "63")
