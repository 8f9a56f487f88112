-- The laws of fitting orders that follow from the definitions alone. Each is a statement; the function of the same name has it as its contract.
use Rattle.std.specs.Prelude.{◌≡◌, ℕ, ◌+◌, ◌<◌, Bool, not, List, ◌∷◌, nat_lt}
use mathlib.Core.List.{Permᴰ}
use Rattle.finds.specs.Finds.{Finds, Order, OneStretch, Fits, Pair, Clash, Ground}
use Rattle.finds.specs.Exactness.{NoneFits}

-- A ground shows that no order fits.
abbrev pub GroundLaw : Type 0
GroundLaw = (f : Finds) → Ground f → NoneFits f

-- Whether the pair is so in the order.
unfoldable pub says : {n : ℕ} → Order n → Pair → Bool
says o p = nat_lt (o.place p.first) (o.place p.second)

-- Of two clashing pairs an order that fits makes just one so.
abbrev pub JustOne : Type 0
JustOne = (f : Finds) (o : Order f.graves) (p q : Pair) → Fits f o → Clash f p q → says o p ≡ not (says o q)

-- The finds with one kind more.
abbrev pub with_kind : Finds → (ℕ → Bool) → Finds
with_kind f k = record { graves = f.graves; kinds = k ∷ f.kinds }

-- With one kind more those orders fit that fitted before and do not tear it.
abbrev pub OneKindMore : Type 0
OneKindMore = (f : Finds) (k : ℕ → Bool) (o : Order f.graves) →
    (Fits (with_kind f k) o → Fits f o × OneStretch f.graves o k) × (Fits f o → OneStretch f.graves o k → Fits (with_kind f k) o)

-- An order turned round fits too.
abbrev pub TurnedFits : Type 0
TurnedFits =
    (f : Finds) (o q : Order f.graves) → ((g : ℕ) → g < f.graves → o.place g + q.place g + 1 ≡ f.graves) → Fits f o → Fits f q

-- The kinds may come in any sequence: the same orders fit. (Permᴰ is the library's permutation of lists, which goes both ways.)
abbrev pub AnySequence : Type 0
AnySequence = (n : ℕ) (xs ys : List (ℕ → Bool)) (o : Order n) → Permᴰ xs ys →
    (Fits (record { graves = n; kinds = xs }) o → Fits (record { graves = n; kinds = ys }) o)
    × (Fits (record { graves = n; kinds = ys }) o → Fits (record { graves = n; kinds = xs }) o)
