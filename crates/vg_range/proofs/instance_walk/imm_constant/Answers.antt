use Rattle.std.proofs.Common.{◌∙◌}
use Rattle.vg_range.proofs.Immediates.{imm_step}
use Rattle.vg_range.proofs.instance_walk.imm_constant.Goals as goal

pub registers-preserved : goal.registers-preserved
registers-preserved c =
    imm_step c.registers.constants.items c.push.new.self.items c.args.imm c.first_imm.result c.registers.place c.saturating_sub-place.result
    c.registers.left.now c.in-len1-up.len_at_least c.in_ok-push.ensures.items c.first_imm.ensures c.saturating_sub-place.ensures
    ∙ c.registers.invariant
