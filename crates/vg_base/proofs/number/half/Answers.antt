use Rattle.std.proofs.Common.{◌-◌, ◌^◌, ◌≤◌, arith}
use Rattle.std.proofs.Math.Nat.{pow-le-pow_right}
use Rattle.std.proofs.lemmas.Nat.{one_shl}
use Rattle.vg_base.proofs.number.half.Goals as goal

pub returns-clause-small : goal.returns-clause-small
returns-clause-small c =
    let weight : 2 ^ (c.args.width - 1) ≤ 2 ^ 127 = pow-le-pow_right {n = 2} (omega arith) {i = c.args.width - 1} {j = 127} (omega arith) in
    omega (arith, one_shl (c.args.width - 1) 128 (omega arith))
