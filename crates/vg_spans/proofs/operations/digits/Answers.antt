use Rattle.std.proofs.Common.{arith}
use Rattle.vg_spans.proofs.Digits.{digits-least}
use Rattle.vg_spans.proofs.operations.digits.Goals as goal

pub returns-clause-most : goal.returns-clause-most
returns-clause-most c = digits-least _ 127 c.magnitude-beside_sign.ensures.below (omega arith)
