use Rattle.std.proofs.Common.{ℕ, ◌/◌, ◌<◌, Bool, true, false, List, length, Decides, MatchBool, rules}
use Rattle.clashes.specs.Rings.{Parts}
use Rattle.tables.specs.Format.{kind_set, finds_in}
use Rattle.trees.proofs.Deciding.{so, not_so}
use Rattle.grounds.proofs.KindSets.{Parting, in_bytes, parts_in, parting_of}
use Rattle.grounds.proofs.checking.parted.Goals as goal

-- Some kind of the finds parts the graves just if some kind in the bytes does.
parting_decided : (n : ℕ) (bs : List ℕ) (x y z : ℕ) (b : Bool) → x < n → y < n → z < n
    → MatchBool b ((i : ℕ) × (i < length bs / 8) × Parting (kind_set bs i) x y z) ((i : ℕ) → i < length bs / 8 → Parting (kind_set bs i) x y z → ⊥) → Decides b (Parts (finds_in n bs) x y z)
parting_decided n bs x y z true lx ly lz found = so (parts_in (in_bytes n bs) x y z found.0 found.1 lx ly lz found.2)
parting_decided n bs x y z false lx ly lz none = not_so (λ s. let p = parting_of (in_bytes n bs) x y z s in none p.0 p.1 p.2)

pub returns : goal.returns
returns c =
    let bs = c.args.table.kinds.now in let x = c.args.a in let y = c.args.b in let z = c.args.c in let k = c.requires in
    let found : MatchBool c.any.result ((i : ℕ) × (i < length bs / 8) × Parting (kind_set bs i) x y z) ((i : ℕ) → i < length bs / 8 → Parting (kind_set bs i) x y z → ⊥) = search rules in
    parting_decided c.args.table.graves bs x y z c.any.result k.known.0 k.known.1.0 k.known.1.1 found
