-- The texts of what is told, byte for byte.
use Rattle.std.specs.Prelude.{ℕ, List, ◌++◌, codes, decimal}
use Rattle.grounds.specs.declared.verdict.NoClash.{NoClash}

-- The pair that does not clash with the next.
abbrev pub no_clash_text : NoClash → List ℕ
no_clash_text n = codes "no clash at " ++ decimal n.pair
