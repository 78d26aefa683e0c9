use Rattle.std.proofs.Common.{◌+◌, ◌*◌, ◌/◌, ◌%◌, ◌^◌, ◌∙◌, ap}
use Rattle.vg_gather.proofs.Carries.{fill_high, fill_low}
use Rattle.vg_gather.proofs.constant_bytes.fill_byte.Goals as goal

pub returns-clause-byte : goal.returns-clause-byte
returns-clause-byte c =
    ap (λ b. (b + c.args.rest.carry + c.args.rest.digits % 256 * c.pow.result) % 256) c.from.ensures
    ∙ ap (λ p. (c.args.byte + c.args.rest.carry + c.args.rest.digits % 256 * p) % 256) c.pow.ensures
    ∙ fill_low c.args.byte c.args.rest.carry c.args.rest.digits c.args.rest.shift

pub returns-clause-behind : goal.returns-clause-behind
returns-clause-behind c =
    ap (λ b. (b + c.args.rest.carry + c.args.rest.digits % 256 * c.pow.result) / 256 + c.args.rest.digits / 256 * 2 ^ c.args.rest.shift) c.from.ensures
    ∙ ap (λ p. (c.args.byte + c.args.rest.carry + c.args.rest.digits % 256 * p) / 256 + c.args.rest.digits / 256 * 2 ^ c.args.rest.shift) c.pow.ensures
    ∙ fill_high c.args.byte c.args.rest.carry c.args.rest.digits c.args.rest.shift
