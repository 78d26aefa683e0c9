use Rattle.std.proofs.Common.{◌≡◌, ℕ, [], subst, get_or, set}
use Rattle.vg_bits.specs.Range.{replaced}
use Rattle.vg_lift.proofs.Puts.{put_leaves}
use Rattle.vg_lift.proofs.putting.put_bits.Goals as goal

pub returns : goal.returns
returns c =
    let rs = c.args.state.now.registers.items in
    let registers = subst (λ (first : ℕ). c.put.new.self.registers.items ≡ set rs c.args.register (replaced first c.args.new.now (get_or rs c.args.register [])))
    c.in_ok-first.ensures c.put.ensures.registers in
    put_leaves c.args.pool.now c.args.state.now c.put.new.self c.args.register c.args.first c.args.new.now
    c.requires.fits c.requires.bits c.requires.inside registers c.put.ensures.variables
