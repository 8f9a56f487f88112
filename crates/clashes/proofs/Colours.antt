-- The pairs are coloured clash after clash, and components joined, until a ground is met or all clashes have two colours.
use Rattle.std.proofs.Common.{◌≡◌, ℕ, zero, suc, ◌<◌, ◌≤◌, Bool, true, false, not, ◌≢◌, ◌⊎◌, length, sym, refl, ap, ◌∙◌, subst, subst₂, inl, inr, ⊎_elim, arith}
use mathlib.Core.Logic.Dec
use mathlib.Core.Logic.{Ne-symm}
use mathlib.Core.Bool.{Bool-discrete}
use native.Mathlib.Decide.{ℕ_discrete, dec_le}
use Rattle.finds.specs.Finds.{Finds, Pair, Clash, turned, between, Ground}
use Rattle.finds.proofs.Parity.{◌⊕◌, ⊕_twice, differ}
use Rattle.clashes.specs.Colours.{pair, Reach, Label, flip, Holds}
use Rattle.clashes.specs.Rings.{Joint, lay}
use Rattle.clashes.specs.Theorems.{ColoursOrGround}
use Rattle.clashes.proofs.Clashes.{same_pair, parts}
use Rattle.clashes.proofs.Walks.{stay, step, return}
use Rattle.clashes.proofs.Labels.{flip_flip, odd_ring, relabel, relabel_yes, relabel_no, relabel_flip, relabel_holds}

-- A label for each pair that holds. At first each pair is its own seed.
record State (f : Finds) : Type 0 where
  label : Pair → Label
  holds : (p : Pair) → Holds f p (label p)

module _ (f : Finds) where
  -- The pairs have one seed and two colours.
  abbrev Fine : State f → Pair → Pair → Type 0
  Fine s p q = s.label q ≡ flip (s.label p)

  -- From each state there is one in which all is fine that was, and E too; or there is a ground.
  abbrev Can : (Pair → Pair → Type 0) → Type 0
  Can E = (s : State f) → Ground f ⊎ ((t : State f) × ((p q : Pair) → Fine s p q ⊎ E p q → Fine t p q))

  -- ---- one clash

  -- Two components are joined over a step from p to q; the seed of p becomes that of both.
  merge : (s : State f) (p q : Pair) → Joint f p q → (s.label p).seed ≢ (s.label q).seed → (s.label p).seed.first ≤ (s.label q).seed.first →
      (t : State f) × ((x y : Pair) → Fine s x y → Fine t x y) × Fine t p q
  merge s p q c ne u = (joined, keeps, now)
    where
      x : Pair
      x = (s.label p).seed

      y : Pair
      y = (s.label q).seed

      b : Bool
      b = not (s.label p).col ⊕ (s.label q).col

      across : Reach f b x y
      across = return (step (s.holds p).reached c) (s.holds q).reached

      joined : State f
      joined = record { label = λ r. relabel x b y (s.label r); holds = λ r. relabel_holds x b y (s.label r) r across u (s.holds r) }

      keeps : (v z : Pair) → Fine s v z → Fine joined v z
      keeps v z h = ap (relabel x b y) h ∙ relabel_flip x b y (s.label v)

      now : Fine joined p q
      now = relabel_yes x b y (s.label q) refl
          ∙ (λ i. record { seed = x; col = ⊕_twice (not (s.label p).col) (s.label q).col i })
          ∙ ap flip (sym (relabel_no x b y (s.label p) ne))

  -- A clash is met: its pairs have one seed, and then one colour or two, or their components are joined.
  meet : (p q : Pair) → Clash f p q → Can (λ x y. (x ≡ p) × (y ≡ q))
  meet p q c s =
      go (same_pair (s.label p).seed (s.label q).seed) (Bool-discrete (s.label p).col (s.label q).col) (dec_le (s.label p).seed.first (s.label q).seed.first)
    where
      Met : Type 0
      Met = Ground f ⊎ ((t : State f) × ((x y : Pair) → Fine s x y ⊎ ((x ≡ p) × (y ≡ q)) → Fine t x y))

      later : (t : State f) → ((x y : Pair) → Fine s x y → Fine t x y) → Fine t p q → Met
      later t k h = inr (t, λ x y. ⊎_elim (k x y) (λ e. subst₂ (Fine t) (sym e.0) (sym e.1) h))

      go : Dec ((s.label p).seed ≡ (s.label q).seed) → Dec ((s.label p).col ≡ (s.label q).col) →
          Dec ((s.label p).seed.first ≤ (s.label q).seed.first) → Met
      go (yes e) (yes h) u = inl (odd_ring (s.label p) (s.label q) c (s.holds p) (s.holds q) e h)
      go (yes e) (no h) u = later s (λ x y z. z) (λ i. record { seed = sym e i; col = differ (s.label p).col (s.label q).col h i })
      go (no ne) d (yes u) = let r = merge s p q (inl c) ne u in later r.0 r.1 r.2
      go (no ne) d (no u) =
          let r = merge s q p (inr c) (Ne-symm ne) (omega arith) in
          later r.0 r.1 (sym (ap flip r.2 ∙ flip_flip (r.0.label q)))

  -- ---- all of them

  -- One thing and then another.
  both : {E F G : Pair → Pair → Type 0} → Can E → Can F → ((p q : Pair) → G p q → E p q ⊎ F p q) → Can G
  both {E} {F} {G} e d split s = ⊎_elim inl (λ t. ⊎_elim inl (λ u. inr (u.0, λ p q h. u.1 p q (then t.0 t.1 p q h))) (d t.0)) (e s)
    where
      then : (t : State f) → ((p q : Pair) → Fine s p q ⊎ E p q → Fine t p q) → (p q : Pair) → Fine s p q ⊎ G p q → Fine t p q ⊎ F p q
      then t k p q (inl h) = inl (k p q (inl h))
      then t k p q (inr h) = ⊎_elim (λ x. inl (k p q (inr x))) inr (split p q h)

  -- Nothing to do.
  idle : {E : Pair → Pair → Type 0} → ((p q : Pair) → E p q → ⊥) → Can E
  idle none s = inr (s, λ p q. ⊎_elim (λ h. h) (λ e. absurd (none p q e)))

  -- E of some number below n.
  abbrev Some : ℕ → (ℕ → Pair → Pair → Type 0) → Pair → Pair → Type 0
  Some n E p q = (k : ℕ) × (k < n) × E k p q

  -- One after the other for all numbers below n.
  each : (n : ℕ) (E : ℕ → Pair → Pair → Type 0) → ((k : ℕ) → k < n → Can (E k)) → Can (Some n E)
  each zero E can = idle (λ p q e. let h = e.1 in omega arith)
  each (suc n) E can = both (each n E (λ k h. can k (omega arith))) (can n (omega arith)) (λ p q e. last p q e (ℕ_discrete e.0 n))
    where
      last : (p q : Pair) (e : Some (suc n) E p q) → Dec (e.0 ≡ n) → Some n E p q ⊎ E n p q
      last p q e (yes z) = inr (subst (λ (k : ℕ). E k p q) z e.2)
      last p q e (no z) = inl (e.0, (let l = e.1 in omega arith), e.2)

  -- The pairs p and q clash if X, which can be tested.
  abbrev If : Type 0 → Pair → Pair → Pair → Pair → Type 0
  If X p q x y = X × ((x ≡ p) × (y ≡ q))

  test : {X : Type 0} (p q : Pair) → Dec X → (X → Clash f p q) → Can (If X p q)
  test p q (yes h) c s = both {F = λ _ _. ⊥} (meet p q (c h)) (idle (λ x y e. e)) (λ x y e. inl e.1) s
  test p q (no h) c s = idle (λ x y e. h e.0) s

  -- The kind number i lay in a and c and not in b.
  abbrev Tells : ℕ → ℕ → ℕ → ℕ → Type 0
  Tells a b c i = (lay f i a ≡ true) × ((lay f i b ≡ false) × (lay f i c ≡ true))

  abbrev Turns : Pair → Pair → Type 0
  Turns = Some f.graves (λ a. Some f.graves (λ b. If (a ≢ b) (pair a b) (pair b a)))

  abbrev Betweens : Pair → Pair → Type 0
  Betweens = Some f.graves (λ a. Some f.graves (λ b. Some f.graves (λ c. Some (length f.kinds) (λ i. If (Tells a b c i) (pair a b) (pair b c)))))

  -- So every clash is met, of opposite pairs and by each kind.
  all_met : Can (Clash f)
  all_met = both turns betweens (λ p q c. split c)
    where
      n : ℕ
      n = f.graves

      turns : Can Turns
      turns = each n _ (λ a la. each n _ (λ b lb. test (pair a b) (pair b a) (Dec.not (ℕ_discrete a b)) (λ h. turned la lb h)))

      betweens : Can Betweens
      betweens = each n _ (λ a la. each n _ (λ b lb. each n _ (λ c lc. each (length f.kinds) _ (λ i h. test (pair a b) (pair b c)
          (Dec.and (Bool-discrete (lay f i a) true) (Dec.and (Bool-discrete (lay f i b) false) (Bool-discrete (lay f i c) true)))
          (λ t. between i (λ _. false) h la lb lc t.0 t.1.0 t.1.1)))))

      split : {p q : Pair} → Clash f p q → Turns p q ⊎ Betweens p q
      split (turned {a = a} {b = b} la lb ne) = inl (a, la, (b, lb, (ne, (refl, refl))))
      split (between {a = a} {b = b} {c = c} i d h la lb lc ka kb kc) =
          let s = parts i d h la lb lc ka kb kc in inr (a, la, (b, lb, (c, lc, (s.kind, s.listed, ((s.has_a, (s.lacks, s.has_c)), (refl, refl))))))

pub colours_or_ground : ColoursOrGround
colours_or_ground f = ⊎_elim inr
    (λ t. inl (record { label = t.0.label; flips = λ p q c. t.1 p q (inr c); holds = λ p h. t.0.holds p }))
    (all_met f (record { label = λ p. record { seed = p; col = false }; holds = λ p. record { reached = stay; least = omega arith } }))
