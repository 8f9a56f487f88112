-- How cells are chosen by their share of a mask, and united.
use Rattle.std.proofs.Common.{◌≡◌, ℕ, List, [], ◌∷◌, get_or, ◌∙◌}
use lib.Bits.{bit_or, or_comm}
use Rattle.std.specs.List.{fold}
use Rattle.finds.proofs.Bits.{or_assoc}
use Rattle.changes.specs.Shares.{union_of}

-- A fold of `|` gathers the union.
pub fold_union : (ms : List ℕ) (a : ℕ) (cs : List ℕ) → fold (λ a c. bit_or a (get_or ms c 0)) a cs ≡ bit_or a (union_of ms cs)
fold_union ms a [] = or_comm 0 a
fold_union ms a (c ∷ cs) = fold_union ms (bit_or a (get_or ms c 0)) cs ∙ or_assoc a (get_or ms c 0) (union_of ms cs)
