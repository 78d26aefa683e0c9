use Rattle.std.proofs.Common.{◌<◌, sym, ◌∙◌, arith}
use Rattle.vg_base.specs.declared.width.Width.{Width}
use Rattle.vg_base.specs.declared.width.Width.TheVariants.{W8, W16, W32, W64}
use Rattle.vg_base.specs.Width.{bits_of}
use Rattle.vg_scalar.proofs.ShiftLaws.{shl_past, lshr_past, ashr_past}
use Rattle.vg_scalar.proofs.shift.Shift.apply.Goals as goal

pub returns-in-Shl : goal.returns-in-Shl
returns-in-Shl c = rw c.in-Shl.is (sym (shl_past (bits_of c.args.width) c.args.amount c.args.number (omega arith)))

pub returns-in-Lshr : goal.returns-in-Lshr
returns-in-Lshr c = rw c.in-Lshr.is (sym (lshr_past (bits_of c.args.width) c.args.amount c.args.number (omega arith)))

some_bits : (w : Width) → 0 < bits_of w
some_bits W8 = omega arith
some_bits W16 = omega arith
some_bits W32 = omega arith
some_bits W64 = omega arith

pub returns-in-Ashr : goal.returns-in-Ashr
returns-in-Ashr c = c.within-in-Ashr.ensures ∙ rw (c.in-Ashr.is, c.bits-in-Ashr.ensures) (sym (ashr_past (bits_of c.args.width) c.args.amount c.args.number (some_bits c.args.width) (omega arith)))
