use Rattle.std.proofs.Common.{◌≡◌, ◌++◌, drop}
use Rattle.vg_emission.specs.Emission.{emitted}
use Rattle.vg_emission.specs.Program.{begin}
use Rattle.vg_emit.specs.Views.{job_of, known}
use Rattle.vg_emit.proofs.program.emitted.Given as goal

abbrev pub invariant-nodes : goal.invariant-nodes
invariant-nodes l =
    l.draft.lines.items ++ emitted (job_of l.job) (known l.draft) (drop l.node-index l.nodes)
    ≡ emitted (job_of l.job) (begin (job_of l.job)) l.nodes
