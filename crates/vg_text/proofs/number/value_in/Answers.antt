use Rattle.std.proofs.Common.{◌<◌, ◌≤◌, ◌+◌, ◌*◌, length, drop, get_or, arith, ◌∙◌, sym}
use Rattle.vg_text.specs.Number.{digit_value}
use Rattle.vg_text.proofs.Numbers.{value_from-step, value_from-grows, value_from-end}
use Rattle.vg_text.proofs.number.value_in.Goals as goal

pub digits-preserved : goal.digits-preserved
digits-preserved c =
    let here : c.digits.digit-index < length c.args.digits.now = omega arith in
    let whole = sym (value_from-step c.args.base c.digits.value c.args.digits.now c.digits.digit-index here) ∙ c.digits.invariant.whole in
    record { fits = omega (arith, c.in-Some.ensures.0, c.in-Some.ensures.1); whole = rw c.in-Some.ensures.1 whole }

pub returns-in-None : goal.returns-in-None
returns-in-None c =
    let here : c.digits.digit-index < length c.args.digits.now = omega arith in
    let whole = sym (value_from-step c.args.base c.digits.value c.args.digits.now c.digits.digit-index here) ∙ c.digits.invariant.whole in
    let next = c.digits.value * c.args.base + digit_value (get_or c.args.digits.now c.digits.digit-index 0) in
    let grows = value_from-grows c.args.base next (drop (c.digits.digit-index + 1) c.args.digits.now) c.requires in
    λ small. c.in-None.ensures (omega (arith, small, whole, grows))

pub returns : goal.returns
returns c =
    let past : length c.args.digits.now ≤ c.digits.digit-index = omega arith in
    let whole = sym (value_from-end c.args.base c.digits.value c.args.digits.now c.digits.digit-index past) ∙ c.digits.invariant.whole in
    (omega (arith, whole, c.digits.invariant.fits), whole)
