-- The layout that is found by the shares of cells is one by which the tree is laid open.
use Rattle.std.proofs.Common.{◌≡◌, ℕ, ◌<◌, ◌≤◌, Bool, true, false, not, eqb, List, [], length, reverse, Some, None, sym, refl, ap, ◌∙◌, subst, inl, inr, arith}
use Rattle.finds.specs.Trees.{Tree, grave, any, row, Trees, none, more, Mixed, len}
use Rattle.finds.specs.Branches.{◌+++◌, revs}
use Rattle.finds.proofs.Branches.{plus_none, mixed_refl, mixed_revs}
use Rattle.pqtree.specs.Status.{Status, bare, part, full, status, far, sel, sorted, few}
use Rattle.pqtree.specs.Opening.{Opening, stuck, laid, ◌⊞◌, open_up, open_all}
use Rattle.finds.proofs.Counts.{mixed_count}
use Rattle.pqtree.proofs.Status.{mixed_goods, status_says}
use Rattle.pqtree.proofs.Chosen.{lined_mixed}
use Rattle.pqtree.proofs.Opening.{open_parts_is, open_back_is}
use Rattle.trees.specs.Cells.{kids, Part, Parts, Sound, Sounds}
use Rattle.trees.specs.Masks.{Mask}
use Rattle.trees.specs.Rows.{seen}
use Rattle.trees.specs.declared.rows.View.{View}
use Rattle.trees.proofs.Cells.{parts_len, parts_rev}
use Rattle.trees.proofs.Sets.{sound_kids, sounds_cut}
use Rattle.changes.specs.declared.bunch.Bunch.{Bunch}
use Rattle.changes.specs.declared.shares.Share.{Share}
use Rattle.changes.specs.declared.shares.Share.TheVariants.{Empty, Partial, Full}
use Rattle.changes.specs.declared.opening.Layout.{Layout}
use Rattle.changes.specs.Bunches.{listed, AllStand}
use Rattle.changes.specs.Layouts.{Bunched, Picked, Apart, Lays, InSequence}
use Rattle.changes.specs.Shares.{in_order}
use Rattle.changes.proofs.Telling.{count_size, told, picked, ordered}

-- ---- at most one branch

pub few_len : (ts : Trees) → len ts ≤ 1 → few ts ≡ true
few_len none l = refl
few_len (more t none) l = refl
few_len (more t (more u us)) l = absurd (omega arith)

pub many_len : (ts : Trees) → 1 < len ts → few ts ≡ false
many_len none l = absurd (omega arith)
many_len (more t none) l = absurd (omega arith)
many_len (more t (more u us)) l = refl

-- An opening with none before it and none behind it.
alone : (x : Opening) → x ≡ laid none ⊞ (x ⊞ laid none)
alone stuck = refl
alone (laid x) = ap laid (sym (plus_none x))

-- The same branches in another order.
pub mixed_sounds : {ts us : Trees} → Mixed ts us → Sounds ts → Sounds us
mixed_sounds {ts} {us} x s = record {
  good = mixed_goods x s.good;
  once = λ g. let e = mixed_count (eqb g) true x in let o = s.once g in omega arith;
  small = λ g l. mixed_count (eqb g) true x ∙ s.small g l;
}

-- Parts of a tree may come the other way round.
pub all_turned : {v : View} {n : ℕ} {cs : List ℕ} → AllStand v n cs → AllStand v n (reverse cs)
all_turned {v} {n} {cs} s =
    record { long = s.long; few = s.few; trees = revs s.trees; parts = parts_rev (seen v) n cs s.trees s.parts; sound = mixed_sounds (mixed_revs s.trees) s.sound }

pub sel_sounds : (k : ℕ → Bool) (s : Status) (ts : Trees) → Sounds ts → Sounds (sel k s ts)
sel_sounds k s ts h = go s
  where
    first : Sounds (sel k bare ts) × Sounds (sel k part ts +++ sel k full ts)
    first = sounds_cut (sel k bare ts) (sel k part ts +++ sel k full ts) (mixed_sounds (lined_mixed k true ts) h)

    second : Sounds (sel k part ts) × Sounds (sel k full ts)
    second = sounds_cut (sel k part ts) (sel k full ts) first.1

    go : (s : Status) → Sounds (sel k s ts)
    go bare = first.0
    go part = second.0
    go full = second.1

-- No cell is the root of no tree.
none_bunched : (v : View) (n : ℕ) (z : Bunch) → listed z ≡ [] → Bunched v n z none
none_bunched v n z h = rw h tt

-- All branches of a row stand in the middle.
laying : (v : View) (n : ℕ) (k : ℕ → Bool) (b : Bool) (ts us : Trees) (u y z : Bunch) → listed y ≡ [] → listed z ≡ [] → Bunched v n u us → Mixed ts us → open_up k b (row ts) ≡ open_all k b us →
    Lays v n k b (row ts) (record { first = y; middle = u; last = z })
laying v n k b ts us u y z g h q x e = record {
  firsts = none;
  middles = us;
  lasts = none;
  first = none_bunched v n y g;
  middle = q;
  last = none_bunched v n z h;
  all = subst (Mixed ts) (sym (plus_none us)) x;
  opens = e ∙ alone (open_all k b us);
}

module _ (v : View) (n : ℕ) (k : ℕ → Bool) (b : Bool) (m : ℕ) (w : Mask k b m) (cs : List ℕ) (ts : Trees) (p : Parts (seen v) n cs ts) (s : Sounds ts) where
  -- What was picked are the branches of that status.
  pub picked_bunch : (want : Share) (u : Bunch) → Picked v.sets.now m cs want u → Bunched v n u (sel k (told b want) ts)
  picked_bunch want u q = rw q (picked k b m w v n want cs ts p s)

  -- There are so many of them.
  pub picked_len : (want : Share) (u : Bunch) → Picked v.sets.now m cs want u → length (listed u) ≡ len (sel k (told b want) ts)
  picked_len want u q = parts_len (seen v) n (listed u) (sel k (told b want) ts) (picked_bunch want u q)

  pub any_stuck : status k (any ts) ≡ part → (l : Layout) → Apart v.sets.now m cs l → 1 < length (listed l.middle) → open_up k b (any ts) ≡ stuck
  any_stuck e l q h = rw (e, many_len (sel k part ts) (omega (arith, picked_len Partial l.middle q.middle)))

  pub any_layout : status k (any ts) ≡ part → (l : Layout) → Apart v.sets.now m cs l → length (listed l.middle) ≤ 1 → Lays v n k b (any ts) l
  any_layout e l q h = record {
    firsts = sel k (far b) ts;
    middles = sel k part ts;
    lasts = sel k (far (not b)) ts;
    first = picked_bunch Empty l.first q.first;
    middle = picked_bunch Partial l.middle q.middle;
    last = picked_bunch Full l.last q.last;
    all = lined_mixed k b ts;
    opens = rw (e, few_len (sel k part ts) (omega (arith, picked_len Partial l.middle q.middle)), open_parts_is k b ts);
  }

  -- ---- in a row

  straight : in_order v.sets.now m false cs ≡ sorted k b ts
  straight = (ordered k b m w v n cs ts p s).0

  back : in_order v.sets.now m false (reverse cs) ≡ sorted k b (revs ts)
  back = (ordered k b m w v n (reverse cs) (revs ts) (parts_rev (seen v) n cs ts p) (mixed_sounds (mixed_revs ts) s)).0

  pub row_stuck : status k (row ts) ≡ part → InSequence v.sets.now m cs None → open_up k b (row ts) ≡ stuck
  row_stuck e q = rw (e, sym straight ∙ q.0, sym back ∙ q.1)

  -- The branches all stand in the middle, as they are or turned round.
  pub row_layout : status k (row ts) ≡ part → (u y z : Bunch) → listed y ≡ [] → listed z ≡ [] → InSequence v.sets.now m cs (Some u) → Lays v n k b (row ts) (record { first = y; middle = u; last = z })
  row_layout e u y z g h (inl q) =
      laying v n k b ts ts u y z g h (rw q.1 p) (mixed_refl ts) (rw (e, sym straight ∙ q.0))
  row_layout e u y z g h (inr q) =
      laying v n k b ts (revs ts) u y z g h (rw q.2 (parts_rev (seen v) n cs ts p)) (mixed_revs ts) (rw (e, sym straight ∙ q.0, sym back ∙ q.1) (open_back_is k b ts))

pub grave_whole : (k : ℕ → Bool) (g : ℕ) → status k (grave g) ≡ part → ⊥
grave_whole k g e = let z = status_says k (grave g) e in let y = count_size k true (grave g) in omega arith

-- ---- by the sort of the cell

module _ (v : View) (n i : ℕ) (k : ℕ → Bool) (b : Bool) (m : ℕ) (w : Mask k b m) (cs : List ℕ) where
  pub layout_many : (t : Tree) → Part (seen v) n i t → Sound t → Parts (seen v) n cs (kids t) → status k t ≡ part → (seen v).sort i ≡ 1 →
      (l : Layout) → Apart v.sets.now m cs l → 1 < length (listed l.middle) → open_up k b t ≡ stuck
  layout_many (grave g) q s p e d l f h = absurd (grave_whole k g e)
  layout_many (any ts) q s p e d l f h = any_stuck v n k b m w cs ts p (sound_kids (any ts) s) e l f h
  layout_many (row ts) q s p e d l f h = absurd (omega (arith, q.0.0))

  pub layout_any : (t : Tree) → Part (seen v) n i t → Sound t → Parts (seen v) n cs (kids t) → status k t ≡ part → (seen v).sort i ≡ 1 →
      (l : Layout) → Apart v.sets.now m cs l → length (listed l.middle) ≤ 1 → Lays v n k b t l
  layout_any (grave g) q s p e d l f h = absurd (grave_whole k g e)
  layout_any (any ts) q s p e d l f h = any_layout v n k b m w cs ts p (sound_kids (any ts) s) e l f h
  layout_any (row ts) q s p e d l f h = absurd (omega (arith, q.0.0))

  pub layout_stuck : (t : Tree) → Part (seen v) n i t → Sound t → Parts (seen v) n cs (kids t) → status k t ≡ part → ((seen v).sort i ≡ 1 → ⊥) →
      InSequence v.sets.now m cs None → open_up k b t ≡ stuck
  layout_stuck (grave g) q s p e d h = absurd (grave_whole k g e)
  layout_stuck (any ts) q s p e d h = absurd (d q.0.0)
  layout_stuck (row ts) q s p e d h = row_stuck v n k b m w cs ts p (sound_kids (row ts) s) e h

  pub layout_row : (t : Tree) → Part (seen v) n i t → Sound t → Parts (seen v) n cs (kids t) → status k t ≡ part → ((seen v).sort i ≡ 1 → ⊥) →
      (u y z : Bunch) → listed y ≡ [] → listed z ≡ [] → InSequence v.sets.now m cs (Some u) → Lays v n k b t (record { first = y; middle = u; last = z })
  layout_row (grave g) q s p e d u y z f g' h = absurd (grave_whole k g e)
  layout_row (any ts) q s p e d u y z f g h = absurd (d q.0.0)
  layout_row (row ts) q s p e d u y z f g h = row_layout v n k b m w cs ts p (sound_kids (row ts) s) e u y z f g h
