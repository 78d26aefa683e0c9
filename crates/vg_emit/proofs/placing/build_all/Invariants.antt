use Rattle.std.proofs.Common.{◌≡◌, [], drop}
use Rattle.vg_emission.specs.Emission.{build_all}
use Rattle.vg_emit.specs.Views.{all_placed_behind, all_placed_of, job_of, known}
use Rattle.vg_emit.proofs.placing.build_all.Given as goal

abbrev pub invariant-numbers : goal.invariant-numbers
invariant-numbers l =
    all_placed_behind (all_placed_of l.draft l.registers.items) (build_all (job_of l.job) (known l.draft) (drop l.number-index l.numbers))
    ≡ all_placed_behind (all_placed_of l.fn.draft []) (build_all (job_of l.job) (known l.fn.draft) l.numbers)
