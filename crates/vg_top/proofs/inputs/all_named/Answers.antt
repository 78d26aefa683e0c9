use Rattle.std.proofs.Common.{◌∙◌, sym, rules, tests}
use Rattle.std.proofs.lemmas.Iterator.{YieldsList-from_slice}
use Rattle.std.proofs.lemmas.Iterator.Search.{all_from_yields_List}
use Rattle.std.proofs.lemmas.List.Folds.{list_all-map}
use Rattle.vg_request.specs.Binding.{binding_seen}
use Rattle.vg_top.specs.Inputs.{is_named}
use Rattle.vg_top.proofs.inputs.all_named.Goals as goal

pub returns : goal.returns
returns c =
    let xs = c.args.bindings.now in
    let ps = c.args.params.now in
    all_from_yields_List (λ b. is_named b.name.now ps) _ _ _ c.all.ensures.ran (YieldsList-from_slice xs cc) (λ x b q k. search (rules, tests)) ∙ sym (list_all-map (λ b. is_named b.name ps) binding_seen xs)
