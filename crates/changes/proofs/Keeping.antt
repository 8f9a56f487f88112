-- What is laid open has the same graves, in well-formed branches: so it has the same set, and there is room for it.
use Rattle.std.proofs.Common.{◌≡◌, ℕ, Bool, true, false, cond, eqb, refl, ◌∙◌, arith}
use Rattle.finds.specs.Trees.{Tree, any, Trees, none, more, Good, Goods}
use Rattle.finds.specs.Branches.{◌+++◌}
use Rattle.finds.specs.Counts.{count_ts}
use Rattle.finds.proofs.Branches.{goods_plus}
use Rattle.finds.proofs.Counts.{count_ts_plus}
use Rattle.finds.proofs.Size.{sizes_count}
use Rattle.pqtree.specs.Status.{Status, bare, part, full, status, sorted}
use Rattle.pqtree.specs.Change.{if_bare, row_cut}
use Rattle.pqtree.specs.Opening.{Opening, stuck, laid, ◌⊞◌, group, open_up, open_all, open_row}
use Rattle.pqtree.proofs.Opening.{group_goods, group_count}
use Rattle.pqtree.proofs.Keeps.{GoodsLaid, open_good, open_counts}
use Rattle.trees.specs.Cells.{sizes, sets_of}
use Rattle.trees.proofs.Sets.{same_set}

-- The branches us are well-formed and have the graves of ts.
pub record Same (us ts : Trees) : Type 0 where
  pub good : Goods us
  pub counts : (q : ℕ → Bool) (c : Bool) → count_ts q c us ≡ count_ts q c ts

-- So have those of the opening, if there is one.
abbrev pub Keeps : Opening → Trees → Type 0
Keeps stuck ts = Unit {0}
Keeps (laid us) ts = Same us ts

pub same_sizes : (us ts : Trees) → Same us ts → sizes us ≡ sizes ts
same_sizes us ts s =
    let k : ℕ → Bool = λ g. true in let x = sizes_count k us in let y = sizes_count k ts in let a = s.counts k true in let b = s.counts k false in omega arith

pub same_sets : (us ts : Trees) → Same us ts → sets_of us ≡ sets_of ts
same_sets us ts s = same_set (any us) (any ts) (λ g. s.counts (eqb g) true)

pub same_refl : (ts : Trees) → Goods ts → Same ts ts
same_refl ts g = record { good = g; counts = λ q c. refl }

pub same_group : (ts : Trees) → Goods ts → Same (group ts) ts
same_group ts g = record { good = group_goods ts g; counts = λ q c. group_count q c ts }

pub keeps_plus : (o p : Opening) (x y : Trees) → Keeps o x → Keeps p y → Keeps (o ⊞ p) (x +++ y)
keeps_plus stuck p x y a b = tt
keeps_plus (laid us) stuck x y a b = tt
keeps_plus (laid us) (laid vs) x y a b = record {
  good = goods_plus us vs a.good b.good;
  counts = λ q c. let d = count_ts_plus q c us vs in let e = count_ts_plus q c x y in let f = a.counts q c in let h = b.counts q c in omega arith;
}

-- The same graves in another list of branches.
pub keeps_as : (o : Opening) (x y : Trees) → ((q : ℕ → Bool) (c : Bool) → count_ts q c x ≡ count_ts q c y) → Keeps o x → Keeps o y
keeps_as stuck x y f a = tt
keeps_as (laid us) x y f a = record { good = a.good; counts = λ q c. a.counts q c ∙ f q c }

module _ (k : ℕ → Bool) (b : Bool) where
  pub keeps_up : (t : Tree) → Good t → Keeps (open_up k b t) (more t none)
  keeps_up t g = go (open_up k b t) refl (open_good k t g b)
    where
      go : (o : Opening) → open_up k b t ≡ o → GoodsLaid o → Keeps o (more t none)
      go stuck e h = tt
      go (laid us) e h = record { good = h; counts = λ q c. let x = open_counts k q b c t us g e in omega arith }

  pub keeps_all : (ts : Trees) → Goods ts → Keeps (open_all k b ts) ts
  keeps_all none g = same_refl none tt
  keeps_all (more t ts) g = keeps_plus (open_up k b t) (open_all k b ts) (more t none) ts (keeps_up t g.0) (keeps_all ts g.1)

  pub keeps_row : (ts : Trees) → Goods ts → Keeps (open_row k b ts) ts
  keeps_row ts g = go (sorted k b ts)
    where
      go : (x : Bool) → Keeps (cond x (open_all k b ts) stuck) ts
      go true = keeps_all ts g
      go false = tt

pub keeps_cut : (k : ℕ → Bool) (ts : Trees) → Goods ts → Keeps (row_cut k ts) ts
keeps_cut k none g = tt
keeps_cut k (more t ts) g = go (status k t) (keeps_cut k ts g.1)
  where
    cut : Keeps (open_up k true t ⊞ open_row k false ts) (more t ts)
    cut = keeps_plus (open_up k true t) (open_row k false ts) (more t none) ts (keeps_up k true t g.0) (keeps_row k false ts g.1)

    go : (s : Status) → Keeps (row_cut k ts) ts → Keeps (if_bare s (laid (more t none) ⊞ row_cut k ts) (open_up k true t ⊞ open_row k false ts)) (more t ts)
    go bare h = keeps_plus (laid (more t none)) (row_cut k ts) (more t none) ts (same_refl (more t none) (g.0, tt)) h
    go part h = cut
    go full h = cut
