-- A tree that grows in lent rows: one kind more, and what stands in the rows at the end.
use Rattle.std.proofs.Common.{◌≡◌, ℕ, suc, ◌+◌, ◌-◌, ◌<◌, ◌≤◌, Bool, false, List, map, length, get_or, drop, sym, refl, ap, ◌∙◌, subst, inl, Some, None, arith}
use Rattle.std.proofs.lemmas.List.{drop-drop, get_or-map, length-map}
use Rattle.finds.specs.Sets.{has}
use Rattle.finds.specs.Trees.{Tree}
use Rattle.finds.proofs.Size.{few_nodes}
use Rattle.pqtree.specs.Change.{Outcome, torn, made, step}
use Rattle.pqtree.specs.Growth.{then_kind, after}
use Rattle.pqtree.proofs.Change.{step_size}
use Rattle.tables.specs.Format.{finds_of_sets}
use Rattle.tables.specs.Room.{branches_for}
use Rattle.trees.specs.Cells.{Lent, held, shortest, Holds}
use Rattle.trees.specs.Starting.{SameFrom}
use Rattle.changes.specs.Whole.{Holding, Stepped, Changes}
use Rattle.changes.proofs.Redrawing.{step_sound}
use Rattle.seriation.specs.Building.{Grown, Staged}

-- ---- rows that are the same from a cell on

drop_later : (c d : ℕ) (xs ys : List ℕ) → c ≤ d → drop c xs ≡ drop c ys → drop d xs ≡ drop d ys
drop_later c d xs ys h e =
    let s : c + (d - c) ≡ d = omega arith in
    ap (λ (x : ℕ). drop x xs) (sym s) ∙ sym (drop-drop (d - c) c xs) ∙ ap (drop (d - c)) e ∙ drop-drop (d - c) c ys ∙ ap (λ (x : ℕ). drop x ys) s

pub same_then : (c d : ℕ) {R S T : Lent} → c ≤ d → SameFrom d R S → SameFrom c S T → SameFrom d R T
same_then c d {R} {S} {T} h a b =
    record {
      parents = drop_later c d T.parents S.parents h b.parents ∙ a.parents;
      sorts = drop_later c d T.sorts S.sorts h b.sorts ∙ a.sorts;
      places = drop_later c d T.places S.places h b.places ∙ a.places;
      sets = drop_later c d T.sets S.sets h b.sets ∙ a.sets;
    }

-- ---- one kind more

-- The answers of a change, by the outcome of the step.
made_is : (S : Lent) (c : ℕ) (x : Outcome) → Stepped S (Some c) x → (u : Tree) × (x ≡ made u) × Holds (held S) c u
made_is S c torn h = absurd h
made_is S c (made u) h = (u, refl, h)

none_is : (S : Lent) (x : Outcome) → Stepped S None x → x ≡ torn
none_is S torn h = refl
none_is S (made u) h = absurd h

module _ (n : ℕ) (ss : List ℕ) (i count : ℕ) (R S : Lent) (g : Grown (finds_of_sets n ss) i count R S) where
  -- The rows can be changed.
  pub holding : branches_for n ≤ shortest S → Holding S count
  holding h = let z = g.graves_are in record { tree = g.tree; holds = g.holds; sound = g.sound; room = omega arith }

  -- After the next kind has grown what the step makes.
  next : i < length ss → after (finds_of_sets n ss) (suc i) ≡ step (has (get_or ss i 0)) g.tree
  next h = ap (then_kind (get_or (map has ss) i (λ _. false))) g.grown ∙ ap (λ (k : ℕ → Bool). step k g.tree) (get_or-map has ss i 0 (λ _. false) h)

  pub grown_more : (c : ℕ) (T : Lent) → i < length ss → Changes S T count (get_or ss i 0) (Some c) → Grown (finds_of_sets n ss) (i + 1) c R T
  grown_more c T h w =
      let k = has (get_or ss i 0) in let m = made_is T c (step k g.tree) (w.stepped g.tree g.holds) in
      let s = step_sound k g.tree m.0 g.sound m.1 in let z = step_size k g.tree m.0 g.sound.good m.1 in
      let y = few_nodes m.0 s.good in let q = m.2.many in let x = g.graves_are in let one : i + 1 ≡ suc i = omega arith in
      record {
        tree = m.0;
        holds = m.2;
        sound = s;
        graves_are = z ∙ x;
        grown = ap (after (finds_of_sets n ss)) one ∙ next h ∙ m.1;
        rest = same_then c (branches_for n) (omega arith) g.rest w.rest;
      }

  -- Where no order fits with the next kind, the rows are as they were.
  pub grown_torn : (T : Lent) → i < length ss → Changes S T count (get_or ss i 0) None → Grown (finds_of_sets n ss) i count R T × (after (finds_of_sets n ss) (suc i) ≡ torn)
  grown_torn T h w = (
    subst (Grown (finds_of_sets n ss) i count R) same g,
    next h ∙ none_is T (step (has (get_or ss i 0)) g.tree) (w.stepped g.tree g.holds),
  )
    where
      same : S ≡ T
      same = λ j. record { parents = sym w.rest.parents j; sorts = sym w.rest.sorts j; places = sym w.rest.places j; sets = sym w.rest.sets j }

  pub staged_all : i ≡ length ss → Staged (finds_of_sets n ss) (length ss) count R S
  staged_all e = record { stage = subst (λ (j : ℕ). Grown (finds_of_sets n ss) j count R S) e g; ended = inl (sym (length-map ss has)) }
