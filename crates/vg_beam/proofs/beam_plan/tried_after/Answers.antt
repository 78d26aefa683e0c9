use Rattle.std.proofs.Common.{◌<◌, length, subst, sym}
use Rattle.vg_plans.specs.Members.{Every}
use Rattle.vg_beam.specs.BeamPlan.{is_apart}
use Rattle.vg_beam.specs.PackTable.{pack_at, produced_at}
use Rattle.vg_beam.proofs.Growing.{filter-both}
use Rattle.vg_beam.proofs.beam_plan.tried_after.Goals as goal

pub push_apart-requires-2-clause-inside : goal.push_apart-requires-2-clause-inside
push_apart-requires-2-clause-inside c =
    subst (Every (λ n. n < length c.args.pack_table.now.packs.items)) (sym c.produced-produced.ensures) c.requires.produced

pub returns : goal.returns
returns c =
    filter-both (λ n. is_apart c.args.plan.now (pack_at c.args.pack_table.now.packs.items n)) c.args.parent.now.tried (produced_at c.args.pack_table.now c.args.pack)
    c.new-apart.result.items c.push_apart.new.apart.items c.push_apart-2.new.apart.items c.from_vec.result c.as_slice-before.result.now c.produced-produced.result.now
    c.new-apart.ensures.items c.as_slice-before.ensures c.produced-produced.ensures c.in_ok-push_apart.ensures c.in_ok-push_apart-2.ensures c.from_vec.ensures
