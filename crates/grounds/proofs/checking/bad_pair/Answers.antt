use Rattle.std.proofs.Common.{ℕ, ◌/◌, ◌<◌, length, MatchOption, rules}
use Rattle.grounds.proofs.RingChunks.{IllChunk, first_ill}
use Rattle.grounds.proofs.checking.bad_pair.Goals as goal

pub returns : goal.returns
returns c =
    let l = c.args.ring.now in let n = c.args.n in
    let found : MatchOption c.position.result ((i : ℕ) → i < length l / 2 → IllChunk n l i → ⊥) (λ at. (at < length l / 2) × IllChunk n l at × ((i : ℕ) → i < at → IllChunk n l i → ⊥)) = search rules in
    first_ill n l c.position.result found
