use Rattle.std.proofs.Common.{◌+◌, ◌-◌, ◌*◌, ◌/◌, ◌%◌, ◌^◌, ◌∙◌, ap}
use Rattle.vg_gather.proofs.Carries.{skip_high, skip_low}
use Rattle.vg_gather.proofs.constant_bytes.skip_byte.Goals as goal

pub returns-clause-byte : goal.returns-clause-byte
returns-clause-byte c =
    ap (λ b. (b + c.args.rest.carry) % 256) c.from.ensures
    ∙ skip_low c.args.byte c.args.rest.carry c.args.rest.digits c.args.rest.shift c.requires.high

pub returns-clause-behind : goal.returns-clause-behind
returns-clause-behind c =
    ap (λ b. (b + c.args.rest.carry) / 256 + c.args.rest.digits * 2 ^ (c.args.rest.shift - 8)) c.from.ensures
    ∙ skip_high c.args.byte c.args.rest.carry c.args.rest.digits c.args.rest.shift c.requires.high
