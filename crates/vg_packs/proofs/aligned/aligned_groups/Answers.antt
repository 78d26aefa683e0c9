use Rattle.std.proofs.Common.{◌∙◌, ap}
use Rattle.std.specs.Prelude.{filter}
use Rattle.vg_kernel_plans.specs.Groups.{is_aligned}
use Rattle.vg_packs.specs.Aligned.{aheads_of}
use Rattle.vg_packs.proofs.Ahead.{all-aligned}
use Rattle.vg_packs.proofs.aligned.aligned_groups.Goals as goal

pub aligned_among-requires : goal.aligned_among-requires
aligned_among-requires c =
    c.as_slice-2.ensures.value ∙ c.in_ok-links.ensures ∙ ap aheads_of (c.as_slice.ensures.value ∙ c.in_ok-stores.ensures)

pub returns : goal.returns
returns c =
    c.in_ok-aligned.ensures
    ∙ all-aligned c.args.ssa.now c.as_slice-2.result.now
    (c.as_slice-2.ensures.value ∙ c.in_ok-links.ensures ∙ ap aheads_of (c.as_slice.ensures.value ∙ c.in_ok-stores.ensures))
    c.in_ok-groups.groups.items
    ∙ ap (filter (is_aligned c.args.ssa.now)) c.in_ok-groups.ensures
