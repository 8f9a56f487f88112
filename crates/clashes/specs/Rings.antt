-- Rings: a ground as a list of pairs.
use Rattle.std.specs.Prelude.{◌≡◌, ℕ, ◌+◌, ◌<◌, Bool, true, false, cond, ◌≢◌, ◌⊎◌, List, [], ◌∷◌, length, get_or, ◌==◌, slice_index_or}
use Rattle.std.specs.List.{AllByRecursion}
use Rattle.finds.specs.Finds.{Finds, Pair, Clash}
use Rattle.finds.specs.Parity.{odd}
use Rattle.clashes.specs.Colours.{pair}

-- A clash in either sense.
abbrev pub Joint : Finds → Pair → Pair → Type 0
Joint f p q = Clash f p q ⊎ Clash f q p

-- Whether the kind of this number lay in the grave.
abbrev pub lay : Finds → ℕ → ℕ → Bool
lay f i g = get_or f.kinds i (λ _. false) g

-- Some kind lay in a and in c and not in b, so that (a,b) and (b,c) clash.
pub record Parts (f : Finds) (a b c : ℕ) : Type 0 where
  pub kind : ℕ
  pub listed : kind < length f.kinds
  pub below : (a < f.graves) × (b < f.graves) × (c < f.graves)
  pub has_a : lay f kind a ≡ true
  pub lacks : lay f kind b ≡ false
  pub has_c : lay f kind c ≡ true

-- Chain f p l q: the pairs of l, from p on, each clash with the next, and the last of them with q. Without pairs it stays at p.
pub data Chain (f : Finds) : Pair → List Pair → Pair → Type 0 where
  none : {p : Pair} → Chain f p [] p
  link : {p q r : Pair} {l : List Pair} → Joint f p q → Chain f q l r → Chain f p (p ∷ l) r

-- The place after i in a ring of n: the next one, and after the last the first.
abbrev pub after : ℕ → ℕ → ℕ
after n i = cond (i + 1 == n) 0 (i + 1)

-- The pair at a place of a list; past its end the pair (0,0), which clashes with none.
abbrev pub at : List Pair → ℕ → Pair
at ps i = slice_index_or ps i (pair 0 0)

-- Each pair clashes with the next and the last with the first; a pair may stand more than once.
abbrev pub Closes : Finds → List Pair → Type 0
Closes f ps = (i : ℕ) → i < length ps → Joint f (at ps i) (at ps (after (length ps) i))

-- The pair is not in the list.
abbrev pub Lacks : Pair → List Pair → Type 0
Lacks p ps = AllByRecursion (λ q. p ≢ q) ps

-- No pair stands twice in the list.
abbrev pub Once : List Pair → Type 0
Once [] = Unit {0}
Once (p ∷ ps) = Lacks p ps × Once ps

-- A ring: an odd number of pairs that close, none twice.
pub record Ring (f : Finds) : Type 0 where
  pub pairs : List Pair
  pub closes : Closes f pairs
  pub uneven : odd (length pairs) ≡ true
  pub once : Once pairs
