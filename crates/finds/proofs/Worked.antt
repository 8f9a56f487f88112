-- The three worked tables: the first by the theorem of the tree without kinds, the others by a ground each.
use Rattle.std.proofs.Common.{ℕ, Bool, false, refl, arith, lit<}
use Rattle.finds.specs.Finds.{turned, between, here, on, Ground}
use Rattle.finds.specs.Worked.{each_two, first_with_each, WorkedTables}
use Rattle.finds.proofs.Laws.{ground_law}
use Rattle.finds.proofs.Start.{start_exact}

-- No kind is read past the end of the list.
abbrev past : ℕ → Bool
past g = false

-- The pairs 0-1, 1-2, 2-0.
ring_of_three : Ground each_two
ring_of_three = record {
  half = 1;
  start = record { first = 0; second = 1 };
  start_is = (lit< tt, lit< tt, omega arith);
  walk =
      on (on (on here
      (between {a = 0} {b = 1} {c = 2} 2 past (lit< tt) (lit< tt) (lit< tt) (lit< tt) refl refl refl))
      (between {a = 1} {b = 2} {c = 0} 0 past (lit< tt) (lit< tt) (lit< tt) (lit< tt) refl refl refl))
      (between {a = 2} {b = 0} {c = 1} 1 past (lit< tt) (lit< tt) (lit< tt) (lit< tt) refl refl refl);
}

-- The pairs 0-1, 1-2, 2-0, 0-2, 2-3, 3-0, 0-3, 3-1, 1-0.
ring_of_nine : Ground first_with_each
ring_of_nine = record {
  half = 4;
  start = record { first = 0; second = 1 };
  start_is = (lit< tt, lit< tt, omega arith);
  walk =
      on (on (on (on (on (on (on (on (on here
      (between {a = 0} {b = 1} {c = 2} 1 past (lit< tt) (lit< tt) (lit< tt) (lit< tt) refl refl refl))
      (between {a = 1} {b = 2} {c = 0} 0 past (lit< tt) (lit< tt) (lit< tt) (lit< tt) refl refl refl))
      (turned {a = 2} {b = 0} (lit< tt) (lit< tt) (omega arith)))
      (between {a = 0} {b = 2} {c = 3} 2 past (lit< tt) (lit< tt) (lit< tt) (lit< tt) refl refl refl))
      (between {a = 2} {b = 3} {c = 0} 1 past (lit< tt) (lit< tt) (lit< tt) (lit< tt) refl refl refl))
      (turned {a = 3} {b = 0} (lit< tt) (lit< tt) (omega arith)))
      (between {a = 0} {b = 3} {c = 1} 0 past (lit< tt) (lit< tt) (lit< tt) (lit< tt) refl refl refl))
      (between {a = 3} {b = 1} {c = 0} 2 past (lit< tt) (lit< tt) (lit< tt) (lit< tt) refl refl refl))
      (turned {a = 1} {b = 0} (lit< tt) (lit< tt) (omega arith));
}

pub worked_tables : WorkedTables
worked_tables = (start_exact 3 (lit< tt), ground_law each_two ring_of_three, ground_law first_with_each ring_of_nine)
