use Rattle.std.proofs.Common.{◌∙◌, arith, subst}
use Rattle.vg_packs.specs.Floor.{IsLowest}
use Rattle.vg_packs.proofs.floor.floor_below.Goals as goal

pub returns-clause-lowest : goal.returns-clause-lowest
returns-clause-lowest c =
    let low = subst (IsLowest c.least_of-least.result) (c.as_slice.ensures.value ∙ c.in_ok-units.ensures) c.least_of-least.ensures in λ v h.
    let k = low v h in omega (arith, k, c.floor_under.ensures.below)
