-- What a search that goes from pair to clashing pair keeps true, and what it keeps true while it reads a ring from its notes.
use Rattle.std.specs.Prelude.{◌≡◌, ℕ, ◌+◌, ◌%◌, ◌≤◌, ◌≢◌, ◌⊎◌, ◌↔◌, List, ◌++◌, length}
use Rattle.std.specs.List.{AllByRecursion}
use Rattle.finds.specs.Finds.{Finds, Pair}
use Rattle.clashes.specs.Colours.{Proper}
use Rattle.clashes.specs.Rings.{Joint, Chain, Once}

-- What the search notes of a pair that it has seen: the seed of its component, the pair from which it came to it, and how many steps it is from the seed.
pub record Mark : Type 0 where
  pub seed : Pair
  pub parent : Pair
  pub depth : ℕ

-- A pair that the search came to from another one, seen before: they clash, and it is one step farther from the same seed.
pub record Child (f : Finds) (Seen : Pair → Type 0) (mark : Pair → Mark) (p : Pair) : Type 0 where
  pub seen : Seen (mark p).parent
  pub joint : Joint f (mark p).parent p
  pub same : (mark (mark p).parent).seed ≡ (mark p).seed
  pub deep : (mark (mark p).parent).depth + 1 ≡ (mark p).depth

-- A pair that is its own seed.
abbrev pub Root : (Pair → Mark) → Pair → Type 0
Root mark p = (p ≡ (mark p).seed) × ((mark p).depth ≡ 0)

-- Each pair seen is its own seed or the child of another.
abbrev pub Rooted : (f : Finds) → (Pair → Type 0) → (Pair → Mark) → Type 0
Rooted f Seen mark = (p : Pair) → Seen p → Root mark p ⊎ Child f Seen mark p

-- One seed, and two colours: the colour is whether the depth is odd.
abbrev pub Differ : Mark → Mark → Type 0
Differ m n = (n.seed ≡ m.seed) × ((m.depth + n.depth) % 2 ≡ 1)

-- The search is at work in the component of s. Seen are the pairs with a mark, and done those all of whose clashes have been looked at.
pub record Search (f : Finds) (s : Pair) (Seen Done : Pair → Type 0) (mark : Pair → Mark) : Type 0 where
  pub rooted : Rooted f Seen mark
  pub least : (p : Pair) → Seen p → (mark p).seed.first ≤ p.first
  pub seen : (p : Pair) → Done p → Seen p
  pub closed : (p q : Pair) → Done p → Joint f p q → Seen q × Differ (mark p) (mark q)
  -- What is seen and not done is of the component at work.
  pub waits : (p : Pair) → Seen p → Done p ⊎ ((mark p).seed ≡ s)
  -- All pairs with a lower first grave than s are seen.
  pub swept : (p : Pair) → Proper f p → Seen p ⊎ (s.first ≤ p.first)

-- At most one pair more, r, is seen after the step than before it; all else stays as it was.
pub record Adds (Seen Done : Pair → Type 0) (mark : Pair → Mark) (r : Pair) (Seen' Done' : Pair → Type 0) (mark' : Pair → Mark) : Type 0 where
  pub keeps : (p : Pair) → Seen p → Seen' p
  pub only : (p : Pair) → Seen' p → Seen p ⊎ (p ≡ r)
  pub done : (p : Pair) → Done p ↔ Done' p
  pub old : (p : Pair) → Seen p → mark' p ≡ mark p

-- What is written while p and q are the ends of the legs: q itself, or a pair other than p that is as deep as both.
abbrev pub Under : (Pair → Mark) → Pair → Pair → Pair → Type 0
Under mark p q x = (x ≡ q) ⊎ ((x ≢ p) × ((mark p).depth ≤ (mark x).depth) × ((mark q).depth ≤ (mark x).depth))

-- Two legs of a ring that grow towards each other, up the parents from two clashing pairs of one component and one colour.
-- Written are u, which goes up from the one to before p, and v, which goes down from q to the other.
pub record Legs (f : Finds) (Seen : Pair → Type 0) (mark : Pair → Mark) (p q : Pair) (u v : List Pair) : Type 0 where
  pub foot : Pair
  pub up : Chain f foot u p
  pub down : Chain f q v foot
  pub seen_p : Seen p
  pub seen_q : Seen q
  pub one_seed : (mark p).seed ≡ (mark q).seed
  pub under : AllByRecursion (Under mark p q) (u ++ v)
  pub once : Once (u ++ v)
  pub uneven : (length u + length v + ((mark p).depth + (mark q).depth)) % 2 ≡ 1
