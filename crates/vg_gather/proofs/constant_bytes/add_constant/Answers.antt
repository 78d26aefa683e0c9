use Rattle.std.proofs.Common.{refl}
use Rattle.vg_gather.proofs.Carries.{adds_constant, adds_nothing}
use Rattle.vg_gather.proofs.constant_bytes.add_constant.Goals as goal

pub returns-in-Value : goal.returns-in-Value
returns-in-Value c = adds_nothing c.args.slot.now _ _ _ c.in-Value.is refl

pub returns-in-Constant : goal.returns-in-Constant
returns-in-Constant c = adds_constant c.args.slot.now _ _ _ _ _ c.in-Constant.is c.add_number.ensures

pub returns-in-Nothing : goal.returns-in-Nothing
returns-in-Nothing c = adds_nothing c.args.slot.now _ _ _ c.in-Nothing.is refl
