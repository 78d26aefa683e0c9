use Rattle.std.proofs.Common.{◌∙◌, subst, sym}
use Rattle.vg_beam.specs.SearchSpace.{choice_of, described}
use Rattle.vg_beam.specs.PackTable.{no_pack}
use Rattle.vg_beam.specs.Key.{Names}
use Rattle.vg_beam.proofs.Candidates.{kept-first}
use Rattle.vg_beam.proofs.beam_plan.empty_plan.Goals as goal

pub returns-clause-kept : goal.returns-clause-kept
returns-clause-kept c =
    kept-first (choice_of c.args.space.now) (described c.args.space.now) c.args.space.now.table.now c.args.space.now.ssa.now _ _ c.as_slice.result.now
    c.in_ok-running.ensures.packs c.in_ok-running.ensures.stands (c.from_vec.ensures ∙ c.new-2.ensures.items)
    (subst (λ ns. Names no_pack c.number_all.new.self.packs.items ns c.as_slice.result.now) (sym c.from_vec-2.ensures) c.in_ok-tried.ensures.names)
    (c.as_slice.ensures.value ∙ c.in_ok-groups.ensures)
