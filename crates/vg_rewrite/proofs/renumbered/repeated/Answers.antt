use Rattle.std.proofs.Common.{sym, subst}
use Rattle.vg_rewrite.specs.Renumbering.{CanBeRenumbered}
use Rattle.vg_rewrite.specs.Repeated.{repeated_units}
use Rattle.vg_rewrite.proofs.Apart.{repeated-keeps_kernels}
use Rattle.vg_rewrite.proofs.FromTypes.{can-be}
use Rattle.vg_rewrite.proofs.RepeatedTypes.{repeated-typed, sound-typed}
use Rattle.vg_rewrite.proofs.renumbered.repeated.Goals as goal

pub renumbered-requires : goal.renumbered-requires
renumbered-requires c =
    let ssa = c.args.ssa.now in
    let typed = repeated-typed ssa (sound-typed ssa c.requires) in
    subst (CanBeRenumbered ssa) (sym c.in_ok-units.ensures.exact) (can-be ssa (repeated_units ssa) c.requires typed.0 typed.1)

pub returns-clause-stands_for_apart : goal.returns-clause-stands_for_apart
returns-clause-stands_for_apart c =
    repeated-keeps_kernels c.args.ssa.now c.in_ok-units.units.items c.renumbered.result c.requires c.in_ok-units.ensures.exact c.renumbered.ensures.exact
