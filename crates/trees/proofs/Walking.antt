-- Walks over the branches of a cell, one branch after the other.
use Rattle.std.proofs.Common.{◌≡◌, ℕ, suc, ◌+◌, ◌<◌, ◌≤◌, sym, refl, ap, ◌∙◌, subst, arith}
use Rattle.finds.specs.Branches.{◌+++◌}
use Rattle.finds.specs.Trees.{Tree, Trees, none, more}
use Rattle.finds.proofs.Branches.{plus_assoc, plus_none}
use Rattle.trees.specs.Cells.{nodes, all_nodes, kids, Cells, Part, Sound, Sounds}
use Rattle.trees.specs.Walks.{BranchWith}
use Rattle.trees.proofs.Cells.{some_nodes, kids_nodes, nodes_plus, part_at}
use Rattle.trees.proofs.Sets.{sound_kids, sounds_cut, sounds_first}

-- The walk over the branches of t, the tree in cell i, has come to cell c: it has done some branches and has the rest before it, of which P holds.
pub record Come (i c : ℕ) (t : Tree) (P : Trees → Trees → Type 0) : Type 0 where
  pub done : Trees
  pub rest : Trees
  pub is : kids t ≡ done +++ rest
  pub at : c ≡ suc i + all_nodes done
  pub so : P done rest

-- The same of whatever tree stands in cell i.
abbrev pub Walked : Cells → ℕ → ℕ → ℕ → (Tree → Trees → Trees → Type 0) → Type 0
Walked R n i c P = (t : Tree) → Part R n i t → Come i c t (P t)

pub come_nodes : {i c : ℕ} {t : Tree} {P : Trees → Trees → Type 0} → (w : Come i c t P) → i + nodes t ≡ c + all_nodes w.rest
come_nodes {t = t} w = let a = kids_nodes t in let b = ap all_nodes w.is ∙ nodes_plus w.done w.rest in let d = w.at in omega arith

pub walk_start : (i : ℕ) (t : Tree) (P : Trees → Trees → Type 0) → P none (kids t) → Come i (i + 1) t P
walk_start i t P p = record { done = none; rest = kids t; is = refl; at = omega arith; so = p }

-- While the walk has not come to the end, there is a next branch.
pub record Next (R : Cells) (n i c : ℕ) (t : Tree) (P : Trees → Trees → Type 0) : Type 0 where
  pub done : Trees
  pub it : Tree
  pub rest : Trees
  pub is : kids t ≡ done +++ more it rest
  pub at : c ≡ suc i + all_nodes done
  pub part : Part R n c it
  pub so : P done (more it rest)

pub walk_next : {R : Cells} {n i c e : ℕ} {t : Tree} {P : Trees → Trees → Type 0} → Part R n i t → Come i c t P → e ≡ i + nodes t → c < e → Next R n i c t P
walk_next {R} {n} {i} {c} {e} {t} {P} p w h l = go w.rest refl
  where
    go : (r : Trees) → w.rest ≡ r → Next R n i c t P
    go none z = absurd (let a = come_nodes w in let b = ap all_nodes z in omega arith)
    go (more u r) z =
        let k : kids t ≡ w.done +++ more u r = w.is ∙ ap (λ (x : Trees). w.done +++ x) z in
        record { done = w.done; it = u; rest = r; is = k; at = w.at; part = subst (λ (x : ℕ). Part R n x u) (sym w.at) (part_at R n i t w.done u r p k); so = subst (P w.done) z w.so }

pub walk_more : {R : Cells} {n i c : ℕ} {t : Tree} {P : Trees → Trees → Type 0} (Q : Trees → Trees → Type 0) (r : ℕ) → (x : Next R n i c t P) → r ≡ c + nodes x.it → Q (x.done +++ more x.it none) x.rest → Come i r t Q
walk_more Q r x e q = record {
  done = x.done +++ more x.it none;
  rest = x.rest;
  is = x.is ∙ sym (plus_assoc x.done (more x.it none) x.rest);
  at = (let a = nodes_plus x.done (more x.it none) in let b = x.at in omega arith);
  so = q;
}

-- At the end all branches are done.
pub walk_end : {i c e : ℕ} {t : Tree} {P : Trees → Trees → Type 0} → Come i c t P → e ≡ i + nodes t → e ≤ c → P (kids t) none
walk_end {t = t} {P = P} w h l = go w.rest refl
  where
    go : (r : Trees) → w.rest ≡ r → P (kids t) none
    go none z = subst (λ (x : Trees). P x none) (sym (w.is ∙ ap (λ (x : Trees). w.done +++ x) z ∙ plus_none w.done)) (subst (P w.done) z w.so)
    go (more u r) z = absurd (let a = come_nodes w in let b = ap all_nodes z in let d = some_nodes u in omega arith)

-- A branch of a sound tree is sound, so the walk may go on from it.
pub next_sound : {R : Cells} {n i c : ℕ} {t : Tree} {P : Trees → Trees → Type 0} → Sound t → (x : Next R n i c t P) → Sound x.it
next_sound {t = t} s x = sounds_first x.it x.rest (sounds_cut x.done (more x.it x.rest) (subst Sounds x.is (sound_kids t s))).1

-- The branch that has a grave is a part, and sound.
pub with_part : (R : Cells) (n : ℕ) {i g c : ℕ} {t : Tree} → (b : BranchWith i g t c) → Part R n i t → Part R n c b.it
with_part R n {i} {t = t} b p = subst (λ (x : ℕ). Part R n x b.it) (sym b.at) (part_at R n i t b.before b.it b.behind p b.is)

pub with_sound : {i g c : ℕ} {t : Tree} → Sound t → (b : BranchWith i g t c) → Sound b.it
with_sound {t = t} s b = sounds_first b.it b.behind (sounds_cut b.before (more b.it b.behind) (subst Sounds b.is (sound_kids t s))).1
