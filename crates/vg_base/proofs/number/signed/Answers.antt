use Rattle.std.proofs.Common.{◌≡◌, ◌%◌, ◌^◌, arith}
use Rattle.std.proofs.Math.Nat.{mod-eq_of_lt}
use Rattle.std.proofs.lemmas.Grind.{common_steps}
use Rattle.vg_base.proofs.Bits.{length-bits, num-bits}
use Rattle.vg_base.proofs.number.signed.Goals as goal

pub returns-then-low-half-clause-bits : goal.returns-then-low-half-clause-bits
returns-then-low-half-clause-bits c = rw (length-bits c.args.width c.args.value, num-bits c.args.width c.args.value) (grind (arith, common_steps))

pub returns-else-low-half-clause-bits : goal.returns-else-low-half-clause-bits
returns-else-low-half-clause-bits c = rw (length-bits c.args.width c.args.value, num-bits c.args.width c.args.value) (grind (arith, common_steps))

pub returns-then-low-half-clause-within : goal.returns-then-low-half-clause-within
returns-then-low-half-clause-within c fits =
    let whole : c.args.value % 2 ^ c.args.width ≡ c.args.value = mod-eq_of_lt fits in
    grind (arith, common_steps, whole)

pub returns-else-low-half-clause-within : goal.returns-else-low-half-clause-within
returns-else-low-half-clause-within c fits =
    let whole : c.args.value % 2 ^ c.args.width ≡ c.args.value = mod-eq_of_lt fits in
    grind (arith, common_steps, whole)
