use Rattle.std.proofs.Common.{◌<◌, ◌∙◌, All, length, sym, subst}
use Rattle.vg_kernel_plans.specs.Packing.{needs_of}
use Rattle.vg_packs.proofs.Cycles.{all-from}
use Rattle.vg_packs.proofs.NodeUnits.{pack-units}
use Rattle.vg_packs.proofs.walk.needs_reach.Goals as goal

pub walk_down-requires-clause-starts_inside : goal.walk_down-requires-clause-starts_inside
walk_down-requires-clause-starts_inside c =
    subst (λ l. All (λ x. x < length c.args.marks.now) l) (sym (c.as_slice-starts.ensures.value ∙ c.in_ok-needs-in-Call.ensures))
    (all-from (length c.args.marks.now) (needs_of c.args.table.now c.args.ssa.now c.args.deps.now c.args.pack.now) (λ x h.
    c.requires.units_inside x (pack-units c.args.table.now c.args.ssa.now c.args.deps.now c.requires.names c.args.pack.now x h)))
