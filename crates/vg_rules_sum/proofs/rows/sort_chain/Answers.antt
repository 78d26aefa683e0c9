use Rattle.std.proofs.Common.{◌∙◌, ap, sym}
use Rattle.std.specs.Prelude.{Some}
use Rattle.std.proofs.lemmas.Result.{IfOk-weaker}
use Rattle.vg_rules_sum.specs.Rules.{sort_chain}
use Rattle.vg_rules_sum.proofs.Given.{given}
use Rattle.vg_rules_sum.proofs.rows.sort_chain.Goals as goal

pub returns : goal.returns
unfolding sort_chain
returns c =
    IfOk-weaker c.put_in_order.result _ _ (λ new e. given _ _ c.requires.applies ∙ ap Some (sym e)) c.put_in_order.ensures
