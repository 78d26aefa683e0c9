use Rattle.std.proofs.Common.{◌∙◌, ap, subst, sym, IfOk}
use Rattle.vg_rewrite.specs.Renumbering.{CanBeRenumbered}
use Rattle.vg_rewrite.specs.Repeated.{repeated_units}
use Rattle.vg_rewrite.specs.Rewritten.{IsRenumbered, over}
use Rattle.vg_rewrite.proofs.Apart.{between, between-typed, both-keep_kernels}
use Rattle.vg_rewrite.proofs.Counting.{few-between}
use Rattle.vg_rewrite.proofs.FromTypes.{can-be}
use Rattle.vg_rewrite.proofs.NarrowedTypes.{narrowed-typed}
use Rattle.vg_rewrite.proofs.RepeatedTypes.{repeated-typed}
use Rattle.vg_rewrite.proofs.renumbered.narrowed_repeated.Goals as goal

pub repeat_few-requires : goal.repeat_few-requires
repeat_few-requires c =
    let narrow = c.in_ok-narrow.narrow.items in
    let few = c.in_ok-narrow.ensures.few in
    few-between c.args.ssa.now narrow c.in_ok-between.between c.requires c.in_ok-between.ensures few

pub renumbered-requires : goal.renumbered-requires
renumbered-requires c =
    let ssa = c.args.ssa.now in
    let same = c.in_ok-between.ensures ∙ ap (over ssa) c.in_ok-narrow.ensures.exact in
    let is = c.in_ok-units.ensures.exact ∙ ap repeated_units same in
    let narrow = narrowed-typed ssa c.requires in
    let typed = repeated-typed (between ssa) (between-typed ssa c.requires) in
    let can = can-be ssa (repeated_units (between ssa)) c.requires typed.0 (typed.1 ∙ narrow.1) in
    subst (CanBeRenumbered ssa) (sym is) can

pub returns-clause-exact : goal.returns-clause-exact
returns-clause-exact c =
    let ssa = c.args.ssa.now in
    let same = c.in_ok-between.ensures ∙ ap (over ssa) c.in_ok-narrow.ensures.exact in
    let is = c.in_ok-units.ensures.exact ∙ ap repeated_units same in
    subst (λ us. IfOk c.renumbered.result (IsRenumbered ssa us)) is c.renumbered.ensures.exact

pub returns-clause-stands_for_apart : goal.returns-clause-stands_for_apart
returns-clause-stands_for_apart c =
    let ssa = c.args.ssa.now in
    let same = c.in_ok-between.ensures ∙ ap (over ssa) c.in_ok-narrow.ensures.exact in
    let is = c.in_ok-units.ensures.exact ∙ ap repeated_units same in
    both-keep_kernels ssa c.in_ok-units.units.items c.renumbered.result c.requires is c.renumbered.ensures.exact
