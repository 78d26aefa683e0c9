use Rattle.std.proofs.Common.{◌∙◌, refl}
use Rattle.vg_script.specs.Views.{script_of}
use Rattle.vg_range.specs.Steps.{arm_view}
use Rattle.vg_range.specs.Walk.{is_empty}
use Rattle.vg_range.proofs.ArmsLeft.{nothing_is}
use Rattle.vg_range.proofs.arms.arms_do_nothing.Goals as goal

pub returns : goal.returns
returns c =
    c.all_empty.ensures
    ∙ nothing_is arm_view (λ a. is_empty (script_of a.body)) (λ a. refl) c.args.arms.now
