-- How trees lie to a kind, and the branches of a place chosen and told apart by that.
use Rattle.std.specs.Prelude.{ℕ, zero, suc, ◌+◌, Bool, true, false, cond, not, ◌&&◌}
use Rattle.finds.specs.Trees.{Tree, Trees, none, more}
use Rattle.finds.specs.Counts.{count_t}

-- A tree is bare if none of its graves has the kind, full if all have, and else partial.
pub data Status : Type 0 where
  bare : Status
  part : Status
  full : Status

-- The status of so many graves with the kind and so many without.
abbrev pub status_of : ℕ → ℕ → Status
status_of zero m = bare
status_of (suc n) zero = full
status_of (suc n) (suc m) = part

abbrev pub status : (ℕ → Bool) → Tree → Status
status k t = status_of (count_t k true t) (count_t k false t)

-- The status of a tree that lacks b: bare if no grave has the kind (b is true), full if each has it (b is false).
abbrev pub far : Bool → Status
far true = bare
far false = full

-- Whether two statuses are the same.
abbrev pub same : Status → Status → Bool
same bare bare = true
same bare part = false
same bare full = false
same part bare = false
same part part = true
same part full = false
same full bare = false
same full part = false
same full full = true

-- The branches with t in front if x is true, and without it if not.
abbrev pub keep : Bool → Tree → Trees → Trees
keep true t ts = more t ts
keep false t ts = ts

-- The branches of the status s, in their order.
abbrev pub sel : (ℕ → Bool) → Status → Trees → Trees
sel k s none = none
sel k s (more t ts) = keep (same (status k t) s) t (sel k s ts)

-- Whether each branch has the status s.
abbrev pub all_are : (ℕ → Bool) → Status → Trees → Bool
all_are k s none = true
all_are k s (more t ts) = same (status k t) s && all_are k s ts

-- Whether the branches come in sequence: those that lack b, at most one that is partial, and those that lack the other.
abbrev pub sorted : (ℕ → Bool) → Bool → Trees → Bool
sorted k b none = true
sorted k b (more t ts) = cond (same (status k t) (far b)) (sorted k b ts) (all_are k (far (not b)) ts)

-- Whether there is at most one branch.
abbrev pub few : Trees → Bool
few none = true
few (more t none) = true
few (more t (more u us)) = false

-- 1 for a tree that has the kind somewhere, and 0 for a bare one.
abbrev pub weigh : Status → ℕ
weigh bare = 0
weigh part = 1
weigh full = 1

-- How many branches have the kind somewhere.
abbrev pub heavy : (ℕ → Bool) → Trees → ℕ
heavy k none = 0
heavy k (more t ts) = weigh (status k t) + heavy k ts
