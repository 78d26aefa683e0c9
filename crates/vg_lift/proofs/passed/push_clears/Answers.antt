use Rattle.std.proofs.Common.{◌≡◌, ◌∙◌, ◌*◌, ◌+◌, ◌++◌, ◌%◌, ap, arith, replicate}
use Rattle.vg_lift.specs.declared.bit.Bit.TheVariants.{Clear}
use Rattle.vg_lift.proofs.Begins.{clears_end, clears_next}
use Rattle.vg_lift.proofs.passed.push_clears.Goals as goal

pub clears-preserved : goal.clears-preserved
clears-preserved c =
    let next : 64 * c.clears._place + 64 ≡ 64 * (c.clears._place + 1) = omega arith in
    clears_next (64 * c.clears._place) 64 _ _ _ c.clears.invariant c.in_ok-extend_from_slice.ensures.items
    ∙ ap (λ n. c.args.bits.now.items ++ replicate n Clear) next

pub returns : goal.returns
returns c =
    let count : 64 * c.clears._place + c.args.count % 64 ≡ c.args.count = omega (arith, c.clears-test.false, c.clears.auto._place-end) in
    clears_end (64 * c.clears._place) (c.args.count % 64) c.args.count _ _ _ (omega arith) count c.clears.invariant c.in_ok-extend_from_slice-2.ensures.items
