-- The first of a list of branches, and the branch behind them, as a loop over cells goes on.
use Rattle.std.proofs.Common.{◌≡◌, ℕ, zero, suc, ◌+◌, ◌<◌, ◌≤◌, List, [], ◌∷◌, length, get_or, take, drop, sym, refl, ap, ◌∙◌, subst, add-one, arith}
use Rattle.finds.specs.Trees.{Tree, grave, Trees, none, more, len, Goods}
use Rattle.finds.specs.Branches.{◌+++◌}
use Rattle.trees.specs.Cells.{size, sizes, Cells, Part, Parts, Sound, Sounds}
use Rattle.finds.proofs.Branches.{len_plus}
use Rattle.trees.proofs.Allowing.{sizes_plus}
use Rattle.trees.proofs.Sets.{sounds_cut, sounds_first, sounds_rest}

-- The first x branches.
abbrev pub front : ℕ → Trees → Trees
front zero ts = none
front (suc x) none = none
front (suc x) (more t ts) = more t (front x ts)

-- The branch behind the first x.
abbrev pub tree_at : ℕ → Trees → Tree
tree_at x none = grave 0
tree_at zero (more t ts) = t
tree_at (suc x) (more t ts) = tree_at x ts

pub front_more : (x : ℕ) (ts : Trees) → x < len ts → front (x + 1) ts ≡ front x ts +++ more (tree_at x ts) none
front_more x ts l = ap (λ (y : ℕ). front y ts) (add-one x) ∙ go x ts l
  where
    go : (x : ℕ) (ts : Trees) → x < len ts → front (suc x) ts ≡ front x ts +++ more (tree_at x ts) none
    go x none l = absurd (omega arith)
    go zero (more t ts) l = refl
    go (suc x) (more t ts) l = ap (more t) (go x ts (omega arith))

pub front_all : (x : ℕ) (ts : Trees) → len ts ≤ x → front x ts ≡ ts
front_all zero none l = refl
front_all (suc x) none l = refl
front_all zero (more t ts) l = absurd (omega arith)
front_all (suc x) (more t ts) l = ap (more t) (front_all x ts (omega arith))

pub front_size : (x : ℕ) (ts : Trees) → x < len ts → sizes (front x ts) + size (tree_at x ts) ≤ sizes ts
front_size x none l = absurd (omega arith)
front_size zero (more t ts) l = omega arith
front_size (suc x) (more t ts) l = let h = front_size x ts (omega arith) in omega arith

pub front_goods : (x : ℕ) (ts : Trees) → Goods ts → Goods (front x ts)
front_goods zero ts g = tt
front_goods (suc x) none g = tt
front_goods (suc x) (more t ts) g = (g.0, front_goods x ts g.1)

pub part_at : (R : Cells) (n : ℕ) (cs : List ℕ) (ts : Trees) (x : ℕ) → Parts R n cs ts → x < length cs → Part R n (get_or cs x 0) (tree_at x ts)
part_at R n [] ts x p l = absurd (omega arith)
part_at R n (c ∷ cs) none x p l = absurd p
part_at R n (c ∷ cs) (more t ts) zero p l = p.0
part_at R n (c ∷ cs) (more t ts) (suc x) p l = part_at R n cs ts x p.1 (omega arith)

pub sound_at : (ts : Trees) (x : ℕ) → Sounds ts → x < len ts → Sound (tree_at x ts)
sound_at none x s l = absurd (omega arith)
sound_at (more t ts) zero s l = sounds_first t ts s
sound_at (more t ts) (suc x) s l = sound_at ts x (sounds_rest t ts s) (omega arith)

-- ---- and the branches behind the first x

abbrev pub back : ℕ → Trees → Trees
back zero ts = ts
back (suc x) none = none
back (suc x) (more t ts) = back x ts

pub front_back : (x : ℕ) (ts : Trees) → front x ts +++ back x ts ≡ ts
front_back zero ts = refl
front_back (suc x) none = refl
front_back (suc x) (more t ts) = ap (more t) (front_back x ts)

pub back_more : (x : ℕ) (ts : Trees) → x < len ts → back x ts ≡ more (tree_at x ts) (back (x + 1) ts)
back_more x ts l = go x ts l ∙ ap (λ (y : ℕ). more (tree_at x ts) (back y ts)) (sym (add-one x))
  where
    go : (x : ℕ) (ts : Trees) → x < len ts → back x ts ≡ more (tree_at x ts) (back (suc x) ts)
    go x none l = absurd (omega arith)
    go zero (more t ts) l = refl
    go (suc x) (more t ts) l = go x ts (omega arith)

pub parts_front : (R : Cells) (n : ℕ) (cs : List ℕ) (ts : Trees) (x : ℕ) → Parts R n cs ts → Parts R n (take x cs) (front x ts)
parts_front R n cs ts zero p = tt
parts_front R n [] none (suc x) p = tt
parts_front R n [] (more t ts) (suc x) p = absurd p
parts_front R n (c ∷ cs) none (suc x) p = absurd p
parts_front R n (c ∷ cs) (more t ts) (suc x) p = (p.0, parts_front R n cs ts x p.1)

pub parts_back : (R : Cells) (n : ℕ) (cs : List ℕ) (ts : Trees) (x : ℕ) → Parts R n cs ts → Parts R n (drop x cs) (back x ts)
parts_back R n cs ts zero p = p
parts_back R n [] none (suc x) p = tt
parts_back R n [] (more t ts) (suc x) p = absurd p
parts_back R n (c ∷ cs) none (suc x) p = absurd p
parts_back R n (c ∷ cs) (more t ts) (suc x) p = parts_back R n cs ts x p.1

pub sounds_front : (x : ℕ) (ts : Trees) → Sounds ts → Sounds (front x ts)
sounds_front x ts s = (sounds_cut (front x ts) (back x ts) (subst Sounds (sym (front_back x ts)) s)).0

pub sounds_back : (x : ℕ) (ts : Trees) → Sounds ts → Sounds (back x ts)
sounds_back x ts s = (sounds_cut (front x ts) (back x ts) (subst Sounds (sym (front_back x ts)) s)).1

-- What the first, the next and the rest have is what all have.
pub three_sizes : (x : ℕ) (ts : Trees) → x < len ts → sizes ts ≡ sizes (front x ts) + (size (tree_at x ts) + sizes (back (x + 1) ts))
three_sizes x ts l = ap sizes (sym (front_back x ts)) ∙ sizes_plus (front x ts) (back x ts) ∙ ap (λ (z : Trees). sizes (front x ts) + sizes z) (back_more x ts l)

pub three_len : (x : ℕ) (ts : Trees) → x < len ts → len ts ≡ len (front x ts) + suc (len (back (x + 1) ts))
three_len x ts l = ap len (sym (front_back x ts)) ∙ len_plus (front x ts) (back x ts) ∙ ap (λ (z : Trees). len (front x ts) + len z) (back_more x ts l)
