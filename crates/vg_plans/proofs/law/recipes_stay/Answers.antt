use Rattle.vg_plans.proofs.Running.{recipe-keeps, inserted-keeps}
use Rattle.vg_plans.proofs.law.recipes_stay.Goals as goal

pub returns : goal.returns
returns c w own plan p o other =
    record { cost = recipe-keeps w own plan p o other; inserts = inserted-keeps w own plan p o other }
