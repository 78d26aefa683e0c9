use Rattle.std.proofs.Common.{arith, map, subst, sym}
use Rattle.std.specs.Result.{IfOk}
use Rattle.std.proofs.lemmas.Bool.Decides.{nat_tests}
use Rattle.vg_shapes.specs.Description.{description_of}
use Rattle.vg_cost.specs.Had.{costs_had}
use Rattle.vg_cost.proofs.Scanned.{all-shuffles, none-scanned}
use Rattle.vg_cost.proofs.scan.costs_among.Goals as goal
use Rattle.std.proofs.Common.{◌≡◌, ◌∙◌}

pub returns : goal.returns
returns c =
    let ds = map description_of c.args.descriptions.now in
    subst (λ l. IfOk c.costs_of.result (λ costs. costs.items ≡ costs_had ds c.args.ssa.now c.args.packs.now l))
    (all-shuffles ds c.args.operand.now c.as_slice-numbers.result.now (c.as_slice-numbers.ensures.value ∙ c.requires.numbers))
    c.costs_of.ensures

pub returns-then-is_empty : goal.returns-then-is_empty
returns-then-is_empty c =
    let ds = map description_of c.args.descriptions.now in
    let t = sym c.is_empty.ensures ∙ c.if-is_empty.true in
    c.new.ensures.items
    ∙ none-scanned ds c.args.ssa.now c.args.packs.now c.args.operand.now c.as_slice-numbers.result.now
    (c.as_slice-numbers.ensures.value ∙ c.requires.numbers) (grind (arith, nat_tests, t))
