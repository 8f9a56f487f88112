-- How much memory is to be lent for a table of n graves.
use Rattle.std.specs.Prelude.{ℕ, ◌-◌, ◌*◌}

-- Cells for the branches of a tree, in each of its rows.
abbrev pub branches_for : ℕ → ℕ
branches_for n = 2 * n - 1

-- Cells for the colours of the pairs of graves.
abbrev pub colours_for : ℕ → ℕ
colours_for n = n * n

-- Bytes for a ring of pairs, two for each pair.
abbrev pub ring_for : ℕ → ℕ
ring_for n = 2 * (n * (n - 1))
