use Rattle.std.proofs.Common.{[], ◌∷◌, ◌++◌, ◌∙◌, ap}
use Rattle.std.proofs.lemmas.List.{take_all}
use Rattle.vg_known.specs.WiderDifference.{small_whole, wholes_of}
use Rattle.vg_forms.proofs.WholeNodes.{wholes-turn}
use Rattle.vg_forms.proofs.classes.Classes.wholes.Goals as goal

pub classes-preserved : goal.classes-preserved
classes-preserved c =
    wholes-turn c.as_slice-all.result.now c.classes.wholes c.push.new.self c.classes.t-index c.t-item.result
    c.classes-test.true c.classes.invariant
    (c.in_ok-push.ensures ∙ ap (λ t. c.classes.wholes ++ small_whole c.classes.wholes t ∷ []) c.t-item.is)

pub returns : goal.returns
returns c = c.classes.invariant
    ∙ ap wholes_of (take_all c.classes.t-index c.as_slice-all.result.now c.classes-test.false
    ∙ c.as_slice-all.ensures.keys ∙ c.self.view_is)
