-- The texts of what is told, byte for byte.
use Rattle.std.specs.Prelude.{ℕ, List, ◌++◌, codes, decimal}
use Rattle.tables.specs.Refusals.{number_of, place_of}
use Rattle.tables.specs.declared.refusal.Refusal.{Refusal}
use Rattle.tables.specs.declared.verdict.Torn.{Torn}

-- A refusal by its number and place.
abbrev pub refusal_text : Refusal → List ℕ
refusal_text r = codes "refused " ++ (decimal (number_of r) ++ (codes " at " ++ decimal (place_of r)))

-- The kind that is torn, and the grave that tears it.
abbrev pub torn_text : Torn → List ℕ
torn_text t = codes "torn " ++ (decimal t.kind ++ (codes " at " ++ decimal t.grave))
