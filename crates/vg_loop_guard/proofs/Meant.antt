-- Blocks that mean the kernel of so many turns, whatever their checks say, and a rest that means the
-- kernel of one mean the loop.
use Rattle.std.proofs.Common.{◌≡◌, ◌∙◌, arith}
use Rattle.vg_kernel.specs.WellFormed.{IsWellFormed}
use Rattle.vg_compile.specs.Means.{Means}
use Rattle.vg_program.specs.Meaning.{Instructions, meaning}
use Rattle.vg_guard.specs.Compiled.{GuardedMeans}
use Rattle.vg_guard.specs.Guarded.{guarded_meaning}
use Rattle.vg_guarded_loop.specs.declared.guarded_loop.GuardedLoop.{GuardedLoop}
use Rattle.vg_loop_laws.specs.Laws.{HasSteps}
use Rattle.vg_loop_laws.specs.Limits.{turns_of}
use Rattle.vg_loop_laws.specs.Loops.{Loop, blocks_meaning}
use Rattle.vg_loop_laws.specs.Unrolled.{unrolled}
use Rattle.vg_loop_laws.proofs.Looped.{blocks-mean-loop}
use Rattle.vg_loop_laws.proofs.Most.{turns-are-most}
use Rattle.vg_loop_guard.specs.CompiledGuardedLoop.{GuardedLoopMeans}

pub guarded-loop-is-meant : (called : Instructions) (l : Loop) (g : GuardedLoop) → IsWellFormed l.kernel → HasSteps l
    → g.turns ≡ turns_of l → g.times ≡ l.times → g.steps ≡ l.steps
    → GuardedMeans called g.block (unrolled l (turns_of l)) → Means called g.rest l.kernel
    → GuardedLoopMeans called g l
guarded-loop-is-meant called l g is has turns times steps block rest memory places args input =
    let some = (turns-are-most l is).keep.some in
    (λ i. blocks_meaning (times i) (turns i) (steps i) (guarded_meaning called g.block) (meaning called g.rest) memory places args)
    ∙ blocks-mean-loop l (turns_of l) (guarded_meaning called g.block) (meaning called g.rest) args has (omega (arith, some))
    (λ m ps laid. block m ps args (record {
      bytes = laid.bytes;
      pointers = laid.pointers;
      near = laid.near;
      integers = input.integers;
      layout = laid.layout;
    }))
    (λ m ps laid. rest.same m ps args (record {
      bytes = laid.bytes;
      pointers = laid.pointers;
      near = laid.near;
      integers = input.integers;
      layout = laid.layout;
    }))
    memory places (record { bytes = input.bytes; pointers = input.pointers; near = input.near; layout = input.layout })
