-- One refusal at most applies to a file, and none if it is taken.
use Rattle.std.proofs.Common.{◌≡◌, ℕ, ◌<◌, List, Some, None, Option, sym, refl, ap, ◌∙◌, arith}
use native.Mathlib.Decide.{dec_lt}
use Rattle.tables.specs.Reading.{Shortage, Refused, Taken}
use Rattle.tables.specs.declared.refusal.Lent.{Lent}
use Rattle.tables.specs.declared.refusal.Lent.TheVariants.{Branches, Colours, Rings}
use Rattle.tables.specs.declared.refusal.Refusal.{Refusal}
use Rattle.tables.specs.declared.refusal.Refusal.TheVariants.{GraveCount, KindCount, FileLength, UnknownGrave, BadOrder, BadRing, BadPair, ShortMemory}
use Rattle.tables.specs.declared.room.Room.{Room}

-- Two places that are each the first with P are the same.
first_once : (P : ℕ → Type 0) (i j : ℕ) → P i → ((k : ℕ) → k < i → P k → ⊥) → P j → ((k : ℕ) → k < j → P k → ⊥) → i ≡ j
first_once P i j p none q no_other = go (dec_lt i j) (dec_lt j i)
  where
    go : Dec (i < j) → Dec (j < i) → i ≡ j
    go (yes l) d = absurd (no_other i l p)
    go (no n) (yes l) = absurd (none j l q)
    go (no n) (no m) = omega arith

-- One lent memory at most is the first that is too short.
one_shortage : (lent : Option Room) (n m : ℕ) (a b : Lent) → Shortage lent n m (Some a) → Shortage lent n m (Some b) → a ≡ b
one_shortage lent n m Branches Branches x y = refl
one_shortage lent n m Branches Colours x y = absurd (y.0 x)
one_shortage lent n m Branches Rings x y = absurd (y.0 x)
one_shortage lent n m Colours Branches x y = absurd (x.0 y)
one_shortage lent n m Colours Colours x y = refl
one_shortage lent n m Colours Rings x y = absurd (y.1 x.1)
one_shortage lent n m Rings Branches x y = absurd (x.0 y)
one_shortage lent n m Rings Colours x y = absurd (x.1 y.1)
one_shortage lent n m Rings Rings x y = refl

-- Where memory is too short it does not suffice.
not_roomy : (lent : Option Room) (n m : ℕ) (a : Lent) → Shortage lent n m (Some a) → Shortage lent n m None → ⊥
not_roomy lent n m Branches x y = y.0 x
not_roomy lent n m Colours x y = y.1 x.1
not_roomy lent n m Rings x y = y.2 x.2

module _ (file : List ℕ) (lent : Option Room) where
  pub taken_once : (r : Refusal) → Taken file lent → Refused file lent r → ⊥
  taken_once GraveCount t x = t.0.0 x
  taken_once KindCount t x = t.0.1 x.1
  taken_once (FileLength at) t x = t.0.2 x.2
  taken_once (UnknownGrave at) t x = t.2 at x.2 x.3
  taken_once (ShortMemory what) t x = not_roomy lent _ _ what x.1 t.1
  taken_once (BadOrder at) t x = x
  taken_once (BadRing at) t x = x
  taken_once (BadPair at) t x = x

  pub refused_once : (r q : Refusal) → Refused file lent r → Refused file lent q → r ≡ q
  refused_once GraveCount GraveCount x y = refl
  refused_once GraveCount KindCount x y = absurd (y.0 x)
  refused_once GraveCount (FileLength b) x y = absurd (y.0 x)
  refused_once GraveCount (UnknownGrave b) x y = absurd (y.0.0 x)
  refused_once GraveCount (ShortMemory b) x y = absurd (y.0.0 x)
  refused_once GraveCount (BadOrder b) x y = absurd y
  refused_once GraveCount (BadRing b) x y = absurd y
  refused_once GraveCount (BadPair b) x y = absurd y
  refused_once KindCount GraveCount x y = absurd (x.0 y)
  refused_once KindCount KindCount x y = refl
  refused_once KindCount (FileLength b) x y = absurd (y.1 x.1)
  refused_once KindCount (UnknownGrave b) x y = absurd (y.0.1 x.1)
  refused_once KindCount (ShortMemory b) x y = absurd (y.0.1 x.1)
  refused_once KindCount (BadOrder b) x y = absurd y
  refused_once KindCount (BadRing b) x y = absurd y
  refused_once KindCount (BadPair b) x y = absurd y
  refused_once (FileLength a) GraveCount x y = absurd (x.0 y)
  refused_once (FileLength a) KindCount x y = absurd (x.1 y.1)
  refused_once (FileLength a) (FileLength b) x y = ap FileLength (x.3 ∙ sym y.3)
  refused_once (FileLength a) (UnknownGrave b) x y = absurd (y.0.2 x.2)
  refused_once (FileLength a) (ShortMemory b) x y = absurd (y.0.2 x.2)
  refused_once (FileLength a) (BadOrder b) x y = absurd y
  refused_once (FileLength a) (BadRing b) x y = absurd y
  refused_once (FileLength a) (BadPair b) x y = absurd y
  refused_once (UnknownGrave a) GraveCount x y = absurd (x.0.0 y)
  refused_once (UnknownGrave a) KindCount x y = absurd (x.0.1 y.1)
  refused_once (UnknownGrave a) (FileLength b) x y = absurd (x.0.2 y.2)
  refused_once (UnknownGrave a) (UnknownGrave b) x y = ap UnknownGrave (first_once _ a b x.3 x.4 y.3 y.4)
  refused_once (UnknownGrave a) (ShortMemory b) x y = absurd (not_roomy lent _ _ b y.1 x.1)
  refused_once (UnknownGrave a) (BadOrder b) x y = absurd y
  refused_once (UnknownGrave a) (BadRing b) x y = absurd y
  refused_once (UnknownGrave a) (BadPair b) x y = absurd y
  refused_once (ShortMemory a) GraveCount x y = absurd (x.0.0 y)
  refused_once (ShortMemory a) KindCount x y = absurd (x.0.1 y.1)
  refused_once (ShortMemory a) (FileLength b) x y = absurd (x.0.2 y.2)
  refused_once (ShortMemory a) (UnknownGrave b) x y = absurd (not_roomy lent _ _ a x.1 y.1)
  refused_once (ShortMemory a) (ShortMemory b) x y = ap ShortMemory (one_shortage lent _ _ a b x.1 y.1)
  refused_once (ShortMemory a) (BadOrder b) x y = absurd y
  refused_once (ShortMemory a) (BadRing b) x y = absurd y
  refused_once (ShortMemory a) (BadPair b) x y = absurd y
  refused_once (BadOrder a) q x y = absurd x
  refused_once (BadRing a) q x y = absurd x
  refused_once (BadPair a) q x y = absurd x
