use Rattle.std.proofs.Common.{◌∙◌, rules, tests}
use Rattle.std.specs.Prelude.{nat_eq}
use Rattle.std.proofs.lemmas.Iterator.{YieldsList-from_slice}
use Rattle.std.proofs.lemmas.Iterator.Search.{find_from_yields_List}
use Rattle.vg_packs.proofs.aligned.find_link.Goals as goal

pub returns : goal.returns
returns c =
    let found = find_from_yields_List (λ l. nat_eq l.unit c.args.unit) _ _ c.find.result c.find.ensures.ran (YieldsList-from_slice c.args.links.now cc) (λ x b q k. search (rules, tests)) in
    c.copied.ensures ∙ found
