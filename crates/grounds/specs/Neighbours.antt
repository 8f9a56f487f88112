-- The pairs that clash with a pair, found by sets of graves.
use Rattle.std.specs.Prelude.{◌≡◌, ℕ, ◌*◌, ◌<◌, cond, not, ◌&&◌, ◌⊎◌, List, bit_or, Some, None, Decides, Option}
use Rattle.std.specs.List.{fold}
use Rattle.finds.specs.Finds.{Finds, Pair}
use Rattle.finds.specs.Sets.{has}
use Rattle.clashes.specs.Colours.{Proper}
use Rattle.clashes.specs.Rings.{Joint, Parts}
use Rattle.grounds.specs.Checking.{said}
use Rattle.grounds.specs.Notes.{number, beside}
use Rattle.tables.specs.Format.{finds_of_sets}
use Rattle.grounds.specs.declared.neighbours.Work.{Work}
use Rattle.grounds.specs.declared.sets.Sets.{Sets}

-- The finds that the sets stand for.
abbrev pub finds_in_sets : Sets → Finds
finds_in_sets s = finds_of_sets s.graves s.kinds.now

-- The union of the sets that have a and not b.
abbrev pub parting : ℕ → ℕ → List ℕ → ℕ
parting a b sets = fold (λ s k. cond (has k a && not (has k b)) (bit_or s k) s) 0 sets

-- The pairs (a,b) and (b,c) clash: c is a, or some kind lay in a and in c and not in b.
abbrev pub Beyond : Finds → ℕ → ℕ → ℕ → Type 0
Beyond f a b c = (c ≡ a) ⊎ Parts f a b c

-- The set has just the graves c for which (a,b) and (b,c) clash; a bit for no grave says nothing.
abbrev pub Clashing : Finds → ℕ → ℕ → ℕ → Type 0
Clashing f a b set = (c : ℕ) → c < f.graves → Decides (has set c) (Beyond f a b c)

-- The number is that of a pair of two different graves.
abbrev pub Numbers : Finds → ℕ → Type 0
Numbers f x = (p : Pair) × Proper f p × (x ≡ number f.graves p)

-- What is known of a pair at work. (That (c,a) and (a,b) clash is said by (b,a) and (a,c).)
pub record AtWork (f : Finds) (w : Work) : Type 0 where
  pub numbers : w.cell ≡ number f.graves (said w.pair)
  pub within : w.cell < f.graves * f.graves
  pub proper : Proper f (said w.pair)
  pub on : Clashing f w.pair.first w.pair.second w.onward
  pub off : Clashing f w.pair.second w.pair.first w.back

-- What is said of the pair beside p at a place: its number if it clashes with p.
abbrev pub Meets : Finds → Pair → ℕ → Option ℕ → Type 0
Meets f p place None = Joint f p (beside f.graves p place) → ⊥
Meets f p place (Some x) = Joint f p (beside f.graves p place) × (x ≡ number f.graves (beside f.graves p place)) × (x < f.graves * f.graves)
