use Rattle.std.proofs.Common.{arith}
use Rattle.vg_memory.proofs.ByteLaws.{byte_below, shorter}
use Rattle.vg_memory.proofs.bytes.+number.Goals as goal

pub overflow_mul-result : goal.overflow_mul-result
overflow_mul-result t c = omega (arith, byte_below _ c.number.result (shorter c.args.from.now c.requires) c.number.ensures.below)

pub overflow_add-result : goal.overflow_add-result
overflow_add-result t c = omega (arith, c.type_inv.from 0, byte_below _ c.number.result (shorter c.args.from.now c.requires) c.number.ensures.below)
