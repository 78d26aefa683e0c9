use Rattle.std.proofs.Common.{take}
use Rattle.vg_beam.specs.SearchSpace.{choice_of, described}
use Rattle.vg_beam.specs.Candidate.{AreGrown}
use Rattle.vg_beam.proofs.beam_plan.grow_all.Given as goal

abbrev pub invariant-candidates : goal.invariant-candidates
invariant-candidates l =
    AreGrown (choice_of l.space) (described l.space) l.space.table.now l.space.ssa.now l.initial.pack_table l.pack_table l.level (take l.candidate-index l.candidates) l.next.items
