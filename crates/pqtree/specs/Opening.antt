-- Laying a partial tree open into a row of branches: what lacks b first, and what lacks the other last.
-- With b true it goes from empty to full; with b false from full to empty.
use Rattle.std.specs.Prelude.{ℕ, Bool, cond, not}
use Rattle.finds.specs.Trees.{Tree, grave, any, row, Trees, none, more}
use Rattle.finds.specs.Branches.{◌+++◌, revs}
use Rattle.pqtree.specs.Status.{Status, bare, part, full, status, far, sel, sorted, few}

-- What comes of laying open: it cannot be done, or these branches in a row.
pub data Opening : Type 0 where
  stuck : Opening
  laid : Trees → Opening

-- The first opening and then the second, if both can be done.
infixr 50 ◌⊞◌
abbrev pub ◌⊞◌ : Opening → Opening → Opening
stuck ⊞ y = stuck
(laid x) ⊞ stuck = stuck
(laid x) ⊞ (laid y) = laid (x +++ y)

-- The branches as at most one: two or more become one branch in which they may stand in any order.
abbrev pub group : Trees → Trees
group none = none
group (more t none) = more t none
group (more t (more u us)) = more (any (more t (more u us))) none

-- y for a partial tree, and x for any other.
abbrev pub if_part : Status → Opening → Opening → Opening
if_part bare x y = x
if_part part x y = y
if_part full x y = x

-- A tree laid open. One that is not partial stays whole.
-- Branches in any order: those that lack b as one branch, at most one that is partial laid open, those that lack the other as one.
-- Branches in a row must come in sequence, one way or the other, and each is laid open.
abbrev mutual
  pub open_up : (ℕ → Bool) → Bool → Tree → Opening
  open_up k b (grave g) = laid (more (grave g) none)
  open_up k b (any ts) = if_part (status k (any ts)) (laid (more (any ts) none))
      (cond (few (sel k part ts)) (laid (group (sel k (far b) ts)) ⊞ (open_parts k b ts ⊞ laid (group (sel k (far (not b)) ts)))) stuck)
  open_up k b (row ts) = if_part (status k (row ts)) (laid (more (row ts) none))
      (cond (sorted k b ts) (open_all k b ts) (cond (sorted k b (revs ts)) (open_back k b ts) stuck))

  -- Each branch laid open, in their order.
  pub open_all : (ℕ → Bool) → Bool → Trees → Opening
  open_all k b none = laid none
  open_all k b (more t ts) = open_up k b t ⊞ open_all k b ts

  -- Each branch laid open, the last one first.
  pub open_back : (ℕ → Bool) → Bool → Trees → Opening
  open_back k b none = laid none
  open_back k b (more t ts) = open_back k b ts ⊞ open_up k b t

  -- Each partial branch laid open, in their order.
  pub open_parts : (ℕ → Bool) → Bool → Trees → Opening
  open_parts k b none = laid none
  open_parts k b (more t ts) = if_part (status k t) (open_parts k b ts) (open_up k b t ⊞ open_parts k b ts)

-- Branches that must come in sequence, each laid open.
abbrev pub open_row : (ℕ → Bool) → Bool → Trees → Opening
open_row k b ts = cond (sorted k b ts) (open_all k b ts) stuck
