use Rattle.std.proofs.Common.{◌^◌, ◌<◌, ◌≤◌, arith}
use Rattle.std.proofs.Math.Nat.{pow-le-pow_right}
use Rattle.std.proofs.lemmas.Bool.{le-ltb}
use Rattle.tables.proofs.Reach.{reaches_is}
use Rattle.tables.proofs.reading.reaches.Goals as goal

pub returns-then-n-lt64 : goal.returns-then-n-lt64
returns-then-n-lt64 c = reaches_is c.args.set c.args.n

pub returns-else-n-lt64 : goal.returns-else-n-lt64
returns-else-n-lt64 c =
    let two : 0 < 2 = omega arith in let low : 64 ≤ c.args.n = omega arith in let h : 2 ^ 64 ≤ 2 ^ c.args.n = pow-le-pow_right two low in
    rw (le-ltb c.args.n 64 (omega arith)) (omega arith)
