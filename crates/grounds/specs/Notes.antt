-- What the search for a ring notes in lent cells, and what it keeps true of them.
-- The cells are numbered as the pairs are. A cell of `depths` holds one more than the depth of its pair, and 0 for a pair that is not seen; a cell of `parents` holds the number of the pair's parent.
-- `queue` holds the numbers of the pairs seen, in the order in which they were: those below `head` are done, and those from there to `tail` wait.
use Rattle.std.specs.Prelude.{◌≡◌, ℕ, ◌+◌, ◌-◌, ◌*◌, ◌/◌, ◌%◌, ◌<◌, ◌≤◌, cond, ◌≢◌, ◌⊎◌, List, [], ◌∷◌, nat_lt, slice_index, slice_index_or}
use Rattle.finds.specs.Finds.{Finds, Pair}
use Rattle.clashes.specs.Colours.{pair, Proper}
use Rattle.clashes.specs.Rings.{Joint}
use Rattle.clashes.specs.Search.{Mark, Rooted, Differ, Search, Legs}

-- The number of a pair of n graves, by first and then second grave.
abbrev pub number : ℕ → Pair → ℕ
number n p = p.first * n + p.second

-- The pair with a number.
abbrev pub numbered : ℕ → ℕ → Pair
numbered n x = pair (x / n) (x % n)

-- The pair is seen.
abbrev pub Seen : Finds → List ℕ → Pair → Type 0
Seen f depths p = Proper f p × (1 ≤ slice_index depths (number f.graves p))

-- The pair stands in the queue below a place.
abbrev pub Queued : Finds → List ℕ → ℕ → Pair → Type 0
Queued f queue end p = Proper f p × ((i : ℕ) × (i < end) × (slice_index queue i ≡ number f.graves p))

-- What is noted of a pair. Its seed stands in no cell.
abbrev pub noted : Finds → (Pair → Pair) → List ℕ → List ℕ → Pair → Mark
noted f seed depths parents p =
    let x = number f.graves p in record { seed = seed p; parent = numbered f.graves (slice_index parents x); depth = slice_index depths x - 1 }

-- What holds from one pair of the queue to the next. All pairs with a lower number than `below` are seen.
pub record Notes (f : Finds) (below : ℕ) (depths parents queue : List ℕ) (head tail : ℕ) : Type 0 where
  -- The seed of each pair, and that of the component at work.
  pub seed : Pair → Pair
  pub source : Pair
  pub search : Search f source (Seen f depths) (Queued f queue head) (noted f seed depths parents)
  pub passed : (p : Pair) → Proper f p → Seen f depths p ⊎ (below ≤ number f.graves p)
  -- The queue holds just the pairs that are seen, none twice.
  pub found : (p : Pair) → Seen f depths p → Queued f queue tail p
  pub queued : (i : ℕ) → i < tail → (p : Pair) × Seen f depths p × (slice_index queue i ≡ number f.graves p)
  pub apart : (i j : ℕ) → i < j → j < tail → slice_index queue i ≢ slice_index queue j
  -- No pair is deeper than there are pairs seen.
  pub shallow : (p : Pair) → Proper f p → slice_index depths (number f.graves p) ≤ tail
  pub ordered : head ≤ tail

-- The pairs that may clash with a pair (a,b) by their places: (b,k) at k, and (k,a) at n + k.
abbrev pub beside : ℕ → Pair → ℕ → Pair
beside n p k = cond (nat_lt k n) (pair p.second k) (pair (k - n) p.first)

-- What holds while the pair p at the head of the queue is at work: of the pairs beside it below a place those that clash with it are seen and have the other colour.
pub record Working (f : Finds) (below : ℕ) (depths parents queue : List ℕ) (head tail : ℕ) (p : Pair) (place : ℕ) : Type 0 where
  pub notes : Notes f below depths parents queue head tail
  pub waits : head < tail
  pub here : slice_index_or queue head 0 ≡ number f.graves p
  pub proper : Proper f p
  pub met : (k : ℕ) → k < place → Joint f p (beside f.graves p k) →
      Seen f depths (beside f.graves p k)
      × Differ (noted f notes.seed depths parents p) (noted f notes.seed depths parents (beside f.graves p k))

-- Two legs of a ring, u and v, that have come up to the pairs with these numbers.
pub record Climbing (f : Finds) (depths parents : List ℕ) (left right : ℕ) (u v : List Pair) : Type 0 where
  pub seed : Pair → Pair
  pub rooted : Rooted f (Seen f depths) (noted f seed depths parents)
  pub p : Pair
  pub q : Pair
  pub left_is : left ≡ number f.graves p
  pub right_is : right ≡ number f.graves q
  pub legs : Legs f (Seen f depths) (noted f seed depths parents) p q u v

-- Two clashing pairs of one colour, where the legs begin.
abbrev pub Forked : Finds → List ℕ → List ℕ → ℕ → ℕ → Type 0
Forked f depths parents left right = Climbing f depths parents left right [] (numbered f.graves right ∷ [])
