use Rattle.std.proofs.Common.{None, Option, inr, refl, subst, sym}
use Rattle.vg_compile.specs.Listed.{IsLeft}
use Rattle.vg_shapes.specs.declared.ssa.Ssa.{Ssa}
use Rattle.vg_compile.proofs.lists.unless_same.Goals as goal

pub returns-then-has_units : goal.returns-then-has_units
returns-then-has_units c =
    subst (λ (v : Option Ssa). IsLeft v c.args.earlier.now None) (sym c.in-Some.is) (inr (refl, c.has_units.ensures c.if-has_units.true))
