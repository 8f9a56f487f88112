-- A tree that grows kind after kind.
use Rattle.std.specs.Prelude.{ℕ, zero, suc, Bool, false, take, slice_index_or}
use Rattle.finds.specs.Finds.{Finds}
use Rattle.finds.specs.Trees.{start}
use Rattle.pqtree.specs.Change.{Outcome, torn, made, step}

-- The finds with their first j kinds alone.
abbrev pub first_kinds : ℕ → Finds → Finds
first_kinds j f = record { graves = f.graves; kinds = take j f.kinds }

-- One kind more: where there is no tree, there is none with it.
abbrev pub then_kind : (ℕ → Bool) → Outcome → Outcome
then_kind k torn = torn
then_kind k (made t) = step k t

-- What has grown after the first j kinds of the finds, from the tree without kinds.
abbrev pub after : Finds → ℕ → Outcome
after f zero = made (start f.graves)
after f (suc j) = then_kind (slice_index_or f.kinds j (λ g. false)) (after f j)
