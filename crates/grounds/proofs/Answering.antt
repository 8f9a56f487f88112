-- From what the calls below promise to the whole promise.
use Rattle.std.proofs.Common.{◌≡◌, ℕ, ◌/◌, ◌<◌, ◌≤◌, List, length, get_or, take, drop, Some, sym, ap, ◌∙◌, subst, arith}
use native.Mathlib.Decide.{dec_lt}
use Rattle.finds.specs.Finds.{Finds}
use Rattle.clashes.proofs.Chains.{closes_ground}
use Rattle.seriation.specs.Building.{Builds, SetsWritten}
use Rattle.seriation.specs.declared.built.Built.TheVariants.{Tree as TreeBuilt, NoOrder}
use Rattle.tables.specs.Format.{kind_set, kind_count, finds_in, finds_of, finds_of_sets}
use Rattle.tables.specs.Reading.{Taken, TableOf}
use Rattle.pqtree.specs.Growth.{first_kinds, after}
use Rattle.pqtree.specs.Theorems.{Stands}
use Rattle.pqtree.proofs.Growth.{kind_by_kind}
use Rattle.tables.specs.declared.stored.Table.{Table}
use Rattle.grounds.specs.Finding.{RingIn}
use Rattle.grounds.specs.Whole.{Held, Unsearched, Searched, ATree, AGround}

-- What is not below is at least so large.
pub at_least : (x y : ℕ) → (x < y → ⊥) → y ≤ x
at_least x y h = go (dec_lt x y)
  where
    go : Dec (x < y) → y ≤ x
    go (yes p) = absurd (h p)
    go (no p) = omega arith

-- The room for the graves that the file states is that for the table's.
pub room_for : (need : ℕ → ℕ) (n m x : ℕ) → n ≡ m → (x < need m → ⊥) → need n ≤ x
room_for need n m x e h = subst (λ (k : ℕ). need k ≤ x) (sym e) (at_least x (need m) h)

-- The finds of the file are those of the sets that were written.
pub same_finds : (file : List ℕ) (t : Table) (many : ℕ) (ks : List ℕ) → TableOf file t → finds_in t.graves t.kinds.now ≡ finds_of_sets t.graves (take many ks) → finds_of_sets t.graves (take many ks) ≡ finds_of file
same_finds file t many ks of e = sym e ∙ of.finds_are

pub tree_of : (f g : Finds) (before after : Held) (root count : ℕ) → g ≡ f → Builds g before.rows after.rows (TreeBuilt root count) → Unsearched before after → ATree f root count before after
tree_of f g before after root count e b u =
    let o = (subst (λ (h : Finds). Builds h before.rows after.rows (TreeBuilt root count)) e b).outcome in
    record { root_is = o.0; standing = o.1.0; exact = o.1.1; some = o.2; else = u }

pub ground_of : (f g : Finds) (before after : Held) (kind pairs : ℕ) → g ≡ f → Builds g before.rows after.rows (NoOrder kind) → RingIn g pairs before.ring after.ring → Searched g.graves before after → AGround f pairs before after
ground_of f g before after kind pairs e b r s =
    let o = (subst (λ (h : Finds). Builds h before.rows after.rows (NoOrder kind)) e b).outcome in
    let ring = subst (λ (h : Finds). RingIn h pairs before.ring after.ring) e r in
    record {
      ring = ring;
      ground = closes_ground f ring.ring.pairs ring.ring.uneven ring.ring.closes;
      none = o.1;
      kind = kind;
      found = o.2;
      count = o.3.0;
      standing = o.3.1;
      else = subst (λ (h : Finds). Searched h.graves before after) e s;
    }

pub sets_of_file : (file : List ℕ) (t : Table) (many : ℕ) (before ks : List ℕ) → TableOf file t → many ≡ length t.kinds.now / 8 →
    ((i : ℕ) → i < many → get_or ks i 0 ≡ kind_set t.kinds.now i) → drop many ks ≡ drop many before → SetsWritten file before ks
sets_of_file file t many before ks of e w r =
    let z : many ≡ kind_count file = (let y = of.whole in omega arith) in
    record {
      sets = λ i h. w i (omega arith) ∙ ap (λ (bs : List ℕ). kind_set bs i) of.kinds_are;
      rest = subst (λ (m : ℕ). drop m ks ≡ drop m before) z r;
    }

-- The sizes of lent memory by the numbers that the code has found, and by the slices.
pub taken_room : (file : List ℕ) (b c d e k r : ℕ) → b ≡ d → c ≡ e → Taken file (Some (record { branches = b; kinds = k; colours = c; rings = r })) → Taken file (Some (record { branches = d; kinds = k; colours = e; rings = r }))
taken_room file b c d e k r p q h =
    subst (λ (x : ℕ). Taken file (Some (record { branches = d; kinds = k; colours = x; rings = r }))) q (subst (λ (x : ℕ). Taken file (Some (record { branches = x; kinds = k; colours = c; rings = r }))) p h)

-- After each kind of the file the tree stood for the kinds so far.
pub stages : (file : List ℕ) (t : Table) → TableOf file t → (j : ℕ) → j ≤ length (finds_of file).kinds → Stands (first_kinds j (finds_of file)) (after (finds_of file) j)
stages file t of = kind_by_kind (finds_of file) (let g = of.graves_are in let s = of.some in omega arith)
