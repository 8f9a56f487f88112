-- Sorts told apart by `==` and by `!=`.
use Rattle.std.proofs.Common.{◌≡◌, true, false, not, sym, refl, ap, ◌∙◌, arith}
use mathlib.Core.Bool.{false≢true}
use denote.Enum.Bare.{sameb}
use Rattle.finds.proofs.Parity.{not_not}
use Rattle.trees.specs.Sorts.{code_of}
use Rattle.trees.specs.contracts.rows.Sort.{the_type}
use Rattle.trees.specs.declared.rows.Sort.{Sort}
use Rattle.trees.specs.declared.rows.Sort.TheVariants.{Grave, Any, Row}

pub same_sort : (s w : Sort) → true ≡ sameb the_type s w → s ≡ w
same_sort Grave Grave e = refl
same_sort Grave Any e = absurd (false≢true (sym e))
same_sort Grave Row e = absurd (false≢true (sym e))
same_sort Any Grave e = absurd (false≢true (sym e))
same_sort Any Any e = refl
same_sort Any Row e = absurd (false≢true (sym e))
same_sort Row Grave e = absurd (false≢true (sym e))
same_sort Row Any e = absurd (false≢true (sym e))
same_sort Row Row e = refl

-- Another sort has another number.
pub other_sort : (s w : Sort) → false ≡ sameb the_type s w → (code_of s ≡ code_of w) → ⊥
other_sort Grave Grave e k = false≢true e
other_sort Grave Any e k = omega arith
other_sort Grave Row e k = omega arith
other_sort Any Grave e k = omega arith
other_sort Any Any e k = false≢true e
other_sort Any Row e k = omega arith
other_sort Row Grave e k = omega arith
other_sort Row Any e k = omega arith
other_sort Row Row e k = false≢true e

pub same_unless : (s w : Sort) → false ≡ not (sameb the_type s w) → s ≡ w
same_unless s w e = same_sort s w (ap not e ∙ not_not (sameb the_type s w))

pub other_if : (s w : Sort) → true ≡ not (sameb the_type s w) → (code_of s ≡ code_of w) → ⊥
other_if s w e = other_sort s w (ap not e ∙ not_not (sameb the_type s w))
