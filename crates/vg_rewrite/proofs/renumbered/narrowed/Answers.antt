use Rattle.std.proofs.Common.{sym, subst}
use Rattle.vg_rewrite.specs.Renumbering.{CanBeRenumbered}
use Rattle.vg_rewrite.specs.Narrowed.{narrowed_units}
use Rattle.vg_rewrite.proofs.Apart.{narrowed-keeps_fitting, narrowed-keeps_kernels}
use Rattle.vg_rewrite.proofs.FromTypes.{can-be}
use Rattle.vg_rewrite.proofs.NarrowedTypes.{narrowed-typed}
use Rattle.vg_rewrite.proofs.renumbered.narrowed.Goals as goal

pub renumbered-requires : goal.renumbered-requires
renumbered-requires c =
    let ssa = c.args.ssa.now in
    let typed = narrowed-typed ssa c.requires in
    subst (CanBeRenumbered ssa) (sym c.in_ok-units.ensures.exact) (can-be ssa (narrowed_units ssa) c.requires typed.0 typed.1)

pub returns-clause-stands_for : goal.returns-clause-stands_for
returns-clause-stands_for c =
    narrowed-keeps_fitting c.args.ssa.now c.in_ok-units.units.items c.renumbered.result c.requires c.in_ok-units.ensures.exact c.renumbered.ensures.exact

pub returns-clause-stands_for_apart : goal.returns-clause-stands_for_apart
returns-clause-stands_for_apart c =
    narrowed-keeps_kernels c.args.ssa.now c.in_ok-units.units.items c.renumbered.result c.requires c.in_ok-units.ensures.exact c.renumbered.ensures.exact
