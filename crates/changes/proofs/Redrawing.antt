-- The whole tree in the draft, from what is done to its smallest part that holds the kind.
use Rattle.std.proofs.Common.{◌≡◌, ℕ, zero, suc, ◌+◌, ◌-◌, ◌*◌, ◌<◌, ◌≤◌, ◌⊎◌, Bool, true, eqb, length, get_or, take, ap, Some, None, Option, sym, refl, ◌∙◌, subst, inl, inr, arith}
use lib.Bits.{bit_and}
use lib.Count.{ones}
use Rattle.std.proofs.lemmas.Bool.{cases_lt}
use Rattle.std.proofs.lemmas.List.{length-take, get_or-take}
use Rattle.trees.specs.Checks.{TreeIn}
use Rattle.finds.specs.Trees.{Tree, none, more}
use Rattle.finds.specs.Counts.{count_t}
use Rattle.finds.specs.Sets.{has}
use Rattle.pqtree.specs.Status.{heavy}
use Rattle.pqtree.specs.Change.{Outcome, torn, made, if_two, change, step}
use Rattle.pqtree.proofs.Change.{step_counts}
use Rattle.pqtree.proofs.Keeps.{GoodMade, step_good}
use Rattle.trees.specs.Cells.{nodes, kids, Sound, Cells, Body, Ends, Holds, Part}
use Rattle.trees.specs.Rows.{seen, Stands}
use Rattle.trees.specs.declared.rows.View.{View}
use Rattle.trees.proofs.Cells.{body_inner, holds_part}
use Rattle.trees.proofs.Sets.{few_cells}
use Rattle.trees.proofs.Standing.{stands_size}
use Rattle.changes.specs.Draft.{Kept, Lies, Rebuilt}
use Rattle.changes.specs.Splice.{having, LastWith, Smallest, Shifted, Drawn}
use Rattle.changes.specs.Template.{template}
use Rattle.changes.proofs.Same.{part_same}
use Rattle.changes.proofs.Splicing.{Spliced, links, Follows, FoundIn, found_in, having_body}
use Rattle.changes.proofs.Telling.{mask_has}
use Rattle.changes.proofs.Writing.{kept_trans, ats_kept}

-- ---- the step

if_two_many : (n : ℕ) (x y : Outcome) → 2 ≤ n → if_two n x y ≡ y
if_two_many zero x y h = absurd (omega arith)
if_two_many (suc zero) x y h = absurd (omega arith)
if_two_many (suc (suc n)) x y h = refl

pub step_many : (k : ℕ → Bool) (t : Tree) → 2 ≤ count_t k true t → step k t ≡ change k t
step_many k t h = if_two_many (count_t k true t) (made t) (change k t) h

-- A step keeps a tree sound.
pub step_sound : (k : ℕ → Bool) (t u : Tree) → Sound t → step k t ≡ made u → Sound u
step_sound k t u s e = record {
  good = subst GoodMade e (step_good k t s.good);
  once = λ g. let c = step_counts k (eqb g) true t u s.good e in let o = s.once g in omega arith;
  small = λ g l. step_counts k (eqb g) true t u s.good e ∙ s.small g l;
}

-- ---- the answer for the part

rebuilt_none : (D : Cells) (r p q : ℕ) (o : Outcome) → Rebuilt D r p q None o → o ≡ torn
rebuilt_none D r p q torn b = refl
rebuilt_none D r p q (made u) b = absurd b

rebuilt_some : (D : Cells) (r p q e : ℕ) (o : Outcome) → Rebuilt D r p q (Some e) o → (u : Tree) × (o ≡ made u) × Lies D r p q e u
rebuilt_some D r p q e torn b = absurd b
rebuilt_some D r p q e (made u) b = (u, refl, b)

-- ---- the smallest part is found, and the cells behind it are read

pub smallest_some : (v : View) (n kind r : ℕ) → 0 < n → n ≤ length v.sets.now → LastWith (take n v.sets.now) kind (having (seen v) kind 0) (Some r) → Smallest (seen v) n kind r
smallest_some v n kind r some long f =
    let m : length (take n v.sets.now) ≡ n = simp length-take (omega arith) in
    let same : (x : ℕ) → x < n → get_or (take n v.sets.now) x 0 ≡ get_or v.sets.now x 0 = λ x l. get_or-take n v.sets.now x 0 l in
    record {
      within = omega (arith, f.0);
      holds = ap (λ (x : ℕ). ones (bit_and x kind)) (sym (same r (omega (arith, f.0)))) ∙ f.1;
      last = λ x h l e. f.2 x h (omega arith) (ap (λ (y : ℕ). ones (bit_and y kind)) (same x l) ∙ e);
    }

pub smallest_none : (v : View) (n kind : ℕ) → 0 < n → n ≤ length v.sets.now → LastWith (take n v.sets.now) kind (having (seen v) kind 0) None → ⊥
smallest_none v n kind some long f =
    let m : length (take n v.sets.now) ≡ n = simp length-take (omega arith) in
    f 0 (omega arith) (ap (λ (y : ℕ). ones (bit_and y kind)) (get_or-take n v.sets.now 0 0 some))

-- The parent of each cell is a cell.
pub tree_parents : {v : View} {n : ℕ} → TreeIn v n → (x : ℕ) → x < n → (seen v).parent x < n
tree_parents {v} {n} h x l = go (cases_lt 0 x)
  where
    go : (0 < x) ⊎ (x ≤ 0) → (seen v).parent x < n
    go (inl a) = omega (arith, body_inner (seen v) 0 h.tree h.holds.body x a (omega (arith, h.holds.many)))
    go (inr a) = let e : x ≡ 0 = omega arith in rw e (omega (arith, h.holds.top))

-- ---- the part in the view

-- In the view stands a tree that has the kind twice or more, and cell r is the root of its smallest part that holds the kind.
pub record Site (v : View) (n kind r : ℕ) : Type 0 where
  pub stands : Stands v n 0
  pub two : 2 ≤ having (seen v) kind 0
  pub smallest : Smallest (seen v) n kind r

pub at_site : {v : View} {n kind r : ℕ} → Stands v n 0 → 2 ≤ having (seen v) kind 0 → Smallest (seen v) n kind r → Site v n kind r
at_site s t m = record { stands = s; two = t; smallest = m }

module _ {v : View} {n kind r : ℕ} (site : Site v n kind r) where
  abbrev pub tree : Tree
  tree = site.stands.tree

  count_is : n ≡ nodes tree
  count_is = go site.stands.part.2
    where
      go : Ends (seen v) n 0 (0 + nodes tree) → n ≡ nodes tree
      go (inl e) = omega arith
      go (inr e) = absurd (omega (arith, e.1))

  all_is : having (seen v) kind 0 ≡ count_t (has kind) true tree
  all_is = having_body (has kind) kind (mask_has kind) (seen v) 0 tree site.stands.part.0 site.stands.sound

  pub found : FoundIn (has kind) n r (seen v) 0 tree
  found =
      found_in (has kind) n r (seen v) kind (having (seen v) kind 0) (mask_has kind) site.two site.smallest.holds site.smallest.last tree 0
      site.stands.part
      site.stands.sound
      (sym all_is)
      (omega arith)
      (omega (arith, site.smallest.within, count_is))

  pub part_stands : Stands v n r
  part_stands = record { long = site.stands.long; few = site.stands.few; below = site.smallest.within; tree = found.it; part = found.is_part; sound = found.sound }

  pub part_spread : (t : Tree) → Part (seen v) n r t → 2 ≤ heavy (has kind) (kids t)
  part_spread t p = subst (λ (u : Tree). 2 ≤ heavy (has kind) (kids u)) (part_same (seen v) n r found.it t found.is_part p) found.spread

  pub part_room : r + 2 * ones ((seen v).set r) ≤ 255
  part_room = omega (arith, stands_size part_stands, site.smallest.within, site.stands.few)

  -- The tree that the cells hold is the one that stands there.
  held_is : (t : Tree) → Holds (seen v) n t → tree ≡ t
  held_is t h = part_same (seen v) n 0 tree t site.stands.part (holds_part (seen v) n t h)

  -- What is ensured of the trees that have their root in cell r.
  abbrev pub Builds : Cells → Option ℕ → Type 0
  Builds D o = (t : Tree) → Part (seen v) n r t → Sound t → Rebuilt D r ((seen v).parent r) ((seen v).place r) o (template (has kind) t)

  built : (D : Cells) (o : Option ℕ) → Builds D o → Rebuilt D r ((seen v).parent r) ((seen v).place r) o (template (has kind) found.it)
  built D o b = b found.it found.is_part found.sound

  pub drawn_none : (D : Cells) → Builds D None → (t : Tree) → Holds (seen v) n t → Drawn D None (change (has kind) t)
  drawn_none D b t h = rw (← held_is t h, found.torn_so (rebuilt_none D r ((seen v).parent r) ((seen v).place r) (template (has kind) found.it) (built D None b))) tt

  -- ---- the part ended before e, and is rebuilt in cells that end before `at`

  module _ (D : Cells) (at e : ℕ) (ends : (t : Tree) → Part (seen v) n r t → e ≡ r + nodes t) (builds : Builds D (Some at)) where
    end : e ≡ r + nodes found.it
    end = ends found.it found.is_part

    new : (u : Tree) × (template (has kind) found.it ≡ made u) × Lies D r ((seen v).parent r) ((seen v).place r) at u
    new = rebuilt_some D r ((seen v).parent r) ((seen v).place r) at (template (has kind) found.it) (built D (Some at) builds)

    whole : Follows (has kind) n r (seen v) Tree (λ w. change (has kind) tree ≡ made w) nodes (nodes tree) (λ S w. Body S 0 w) found.it new.0
    whole = found.made_so new.0 new.1

    cells_are : at + (n - e) ≡ nodes whole.whole
    cells_are = omega (arith, end, whole.cells, new.2.ends, found.within, count_is)

    pub whole_room : at + (n - e) ≤ 127
    whole_room =
        let s = step_many (has kind) tree (omega (arith, all_is, site.two)) in
        omega (arith, cells_are, few_cells whole.whole (step_sound (has kind) tree whole.whole site.stands.sound (s ∙ whole.is)))

    pub drawn_some : (B S : Cells) → Kept (seen v) B r → Kept B D r → Kept D S at → Shifted (seen v) S e n at → (t : Tree) → Holds (seen v) n t → Drawn S (Some (at + (n - e))) (change (has kind) t)
    drawn_some B S x y z w t h = rw (← held_is t h, whole.is) (record {
      top = top.0 ∙ h.top;
      first = top.1 ∙ h.first;
      body = whole.lies S spliced lies.2;
      many = cells_are;
    })
      where
        lies : (S.parent r ≡ (seen v).parent r) × (S.place r ≡ (seen v).place r) × Body S r new.0 × Unit {0}
        lies = ats_kept r ((seen v).parent r) ((seen v).place r) (more new.0 none) z (omega (arith, new.2.ends)) (new.2.parent_is, new.2.place_is, new.2.body, tt)

        spliced : Spliced (seen v) S n r (r + nodes found.it) (r + nodes new.0)
        spliced = record {
          kept = kept_trans (kept_trans x (omega arith) y) (omega (arith, new.2.ends)) z;
          parent_is = lies.0;
          place_is = lies.1;
          behind = rw (← end, ← new.2.ends) w;
        }

        top : (S.parent 0 ≡ (seen v).parent 0) × (S.place 0 ≡ (seen v).place 0)
        top = links (seen v) S n r (r + nodes found.it) (r + nodes new.0) 0 spliced (omega arith)
