-- what is found, and what is left after it
use Rattle.std.proofs.Common.{◌≡◌, ◌++◌, length}
use Rattle.vg_range.specs.Walk.{imm_constant}
use Rattle.vg_range.proofs.instance_walk.imm_constant.Given as goal

abbrev pub invariant-registers : goal.invariant-registers
invariant-registers l =
    l.constants.items ++ imm_constant l.place l.fn.imm l.left
    ≡ imm_constant l.fn.dst l.fn.imm l.fn.widths

abbrev pub decreases-registers : goal.decreases-registers
decreases-registers l = length l.left
