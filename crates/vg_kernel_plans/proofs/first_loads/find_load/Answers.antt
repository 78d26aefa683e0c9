use Rattle.std.proofs.Common.{◌∙◌, rules, tests}
use Rattle.std.proofs.lemmas.Iterator.{YieldsList-from_slice}
use Rattle.std.proofs.lemmas.Iterator.Search.{find_from_yields_List}
use Rattle.vg_kernel_plans.specs.LoadGroups.{loads_at}
use Rattle.vg_kernel_plans.specs.LoadTable.{place}
use Rattle.vg_kernel_plans.proofs.first_loads.find_load.Goals as goal

pub returns : goal.returns
returns c =
    let found = find_from_yields_List (loads_at (place c.args.pointer c.args.offset) c.args.width) _ _ c.find.result c.find.ensures.ran (YieldsList-from_slice c.args.loads.now cc) (λ x b q k. search (rules, tests)) in
    c.copied.ensures ∙ found
