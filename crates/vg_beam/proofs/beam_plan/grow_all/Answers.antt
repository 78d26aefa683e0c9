use Rattle.vg_beam.specs.SearchSpace.{choice_of, described}
use Rattle.vg_beam.specs.Candidate.{CanGrow}
use Rattle.vg_beam.proofs.Candidates.{all-along, candidate-along, grown-all, grown-first, grown-more}
use Rattle.vg_beam.proofs.Numbers.{every-any}
use Rattle.vg_beam.proofs.beam_plan.grow_all.Goals as goal

pub candidates-init : goal.candidates-init
candidates-init c =
    grown-first (choice_of c.args.space.now) (described c.args.space.now) c.args.space.now.table.now c.args.space.now.ssa.now c.args.pack_table.now c.args.level.now c.new-next.result.items c.new-next.ensures.items c.requires.pack_table

pub grow-requires-clause-pack_table : goal.grow-requires-clause-pack_table
grow-requires-clause-pack_table c = c.candidates.invariant.pack_table

pub grow-requires-clause-level : goal.grow-requires-clause-level
grow-requires-clause-level c =
    all-along (choice_of c.args.space.now) (described c.args.space.now) c.args.space.now.table.now c.args.space.now.ssa.now c.args.pack_table.now.packs.items c.candidates.pack_table.packs.items c.args.level.now c.candidates.invariant.grows c.requires.level

pub grow-requires-clause-candidate : goal.grow-requires-clause-candidate
grow-requires-clause-candidate c =
    candidate-along (choice_of c.args.space.now) (described c.args.space.now) c.args.space.now.table.now c.args.space.now.ssa.now c.args.pack_table.now.packs.items c.candidates.pack_table.packs.items c.args.level.now _ c.candidates.invariant.grows
    (every-any (CanGrow (choice_of c.args.space.now) (described c.args.space.now) c.args.space.now.table.now c.args.space.now.ssa.now c.args.pack_table.now.packs.items c.args.level.now) c.args.candidates.now c.candidates.candidate-index _
    c.requires.candidates c.candidates-test.true)

pub candidates-preserved : goal.candidates-preserved
candidates-preserved c =
    grown-more (choice_of c.args.space.now) (described c.args.space.now) c.args.space.now.table.now c.args.space.now.ssa.now c.args.pack_table.now c.candidates.pack_table _ c.args.level.now c.args.candidates.now c.candidates.candidate-index _
    c.candidates.next.items _ c.in_ok-kept.kept c.candidates-test.true c.candidates.invariant c.in_ok-kept.ensures
    c.requires.candidates c.in_ok-push.ensures.items

pub returns : goal.returns
returns c =
    grown-all (choice_of c.args.space.now) (described c.args.space.now) c.args.space.now.table.now c.args.space.now.ssa.now c.args.pack_table.now c.candidates.pack_table c.args.level.now c.args.candidates.now c.candidates.candidate-index c.candidates.next.items
    c.candidates-test.false c.candidates.invariant
