use Rattle.std.proofs.Common.{rules, tests}
use Rattle.std.proofs.lemmas.Fn.{filter_same}
use Rattle.vg_pseudo.specs.Names.{has_name}
use Rattle.vg_names.proofs.body_names.keep_marked.Goals as goal

pub returns : goal.returns
returns c =
    filter_same _ (λ a. has_name c.args.marked.now a.name.now) _ (λ x b q k. search (rules, tests)) _ _
    c.retain.ensures.filtered
