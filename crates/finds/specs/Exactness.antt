-- What it is for a tree to stand for the finds, and that each table has such a tree or a ground.
use Rattle.std.specs.Prelude.{◌≡◌, ℕ, ◌<◌, ◌⊎◌, List, length, slice_index_or}
use Rattle.finds.specs.Finds.{Finds, Order, Fits, Ground}
use Rattle.finds.specs.Trees.{Tree, Allows}

-- The order as a row of graves: at each place the grave that has it.
unfoldable pub RowOf : (n : ℕ) → Order n → List ℕ → Type 0
RowOf n o l = (length l ≡ n) × ((g : ℕ) → g < n → slice_index_or l (o.place g) n ≡ g)

-- The tree allows exactly the orders that fit: of the rows of orders those that fit, and no other rows.
unfoldable pub Exactly : Finds → Tree → Type 0
Exactly f t =
    ((o : Order f.graves) (l : List ℕ) → RowOf f.graves o l → (Fits f o → Allows t l) × (Allows t l → Fits f o))
    × ((l : List ℕ) → Allows t l → (o : Order f.graves) × RowOf f.graves o l)

-- Some order fits.
abbrev pub SomeFits : Finds → Type 0
SomeFits f = (o : Order f.graves) × Fits f o

-- No order fits.
abbrev pub NoneFits : Finds → Type 0
NoneFits f = (o : Order f.graves) → Fits f o → ⊥

-- Each table with a grave has a tree that allows exactly the orders that fit, of which there is one at least; or it has a ground.
abbrev pub TreeOrGround : Type 0
TreeOrGround = (f : Finds) → 0 < f.graves → ((t : Tree) × Exactly f t × SomeFits f) ⊎ Ground f
