use Rattle.std.proofs.Common.{◌≡◌, ◌-◌, sym, subst, ◌∙◌, arith, length}
use Rattle.std.proofs.lemmas.Result.{IfOk-weaker}
use Rattle.vg_pool.specs.Pool.{StandsFor}
use Rattle.vg_bits.specs.Range.{range}
use Rattle.vg_lift.proofs.Nodes.{gathered_node, gathered_above}
use Rattle.vg_lift.proofs.StateSteps.{range_fits, range_length}
use Rattle.vg_lift.proofs.gather.+gather_from.Goals as goal

pub put_above-requires-clause-above : goal.put_above-requires-clause-above
put_above-requires-clause-above t c =
    gathered_node c.args.pool.now c.gather_from-else-continues.new.pool c.start_run-next.result _ c.in_ok-above-in-len1-up.above c.in_ok-above-in-len1-up.ensures.node c.start_run-next.ensures.size

pub returns-in_ok-above-in-len1-up-clause-node : goal.returns-in_ok-above-in-len1-up-clause-node
returns-in_ok-above-in-len1-up-clause-node t c =
    let grown = c.gather_from-else-continues in
    let e = gathered_above c.args.pool.now grown.new.pool c.args.run c.start_run-next.result c.args.bits.now c.in_ok-above-in-len1-up.above c.in-len1-up.len_at_least
    (sym c.continues.ensures ∙ c.if-continues.false) c.requires.run grown.ensures.keeps c.start_run-next.ensures.is c.in_ok-above-in-len1-up.ensures.node in
    IfOk-weaker c.put_above.result _ _ (λ n s. subst (StandsFor c.put_above.new.pool n) e s) c.put_above.ensures.node

pub gather_from-requires : goal.gather_from-requires
gather_from-requires t c =
    let longest = c.lengthened-longest in
    let count = longest.result.1 in
    let bits = c.args.bits.now in
    let left : length (range count (length bits - count) bits) ≡ length bits - count = range_length count (length bits - count) bits (omega (arith, longest.ensures.within)) in (
      omega (arith, c.decreases, left, longest.ensures.some, longest.ensures.within),
      (
        longest.ensures.fits,
        (
          range_fits c.args.pool.now count (length bits - count) bits c.requires.bits,
          omega (arith, left, c.requires.few, longest.ensures.size, longest.ensures.within),
        ),
      ),
    )
