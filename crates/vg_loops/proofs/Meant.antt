-- Programs that mean the kernel of a block and that of a turn mean the loop.
use Rattle.std.proofs.Common.{◌≡◌, ℕ, ◌<◌, ◌≤◌, List, sym, ap, ◌∙◌, arith}
use Rattle.vg_kernel.specs.WellFormed.{IsWellFormed}
use Rattle.vg_compile.specs.Means.{Means}
use Rattle.vg_program.specs.Meaning.{Instructions, meaning}
use Rattle.vg_looped.specs.declared.looped.Looped.{Looped}
use Rattle.vg_loop_laws.specs.Laws.{HasSteps}
use Rattle.vg_loop_laws.specs.Limits.{turns_of}
use Rattle.vg_loop_laws.specs.Loops.{Loop, loop_meaning, blocks_meaning}
use Rattle.vg_loop_laws.specs.Unrolled.{unrolled}
use Rattle.vg_loop_laws.proofs.Looped.{blocks-mean-loop}
use Rattle.vg_loop_laws.proofs.Most.{turns-are-most}
use Rattle.vg_loops.specs.Inputs.{IsLoopInput, looped_meaning}

pub loop-is-meant : (called : Instructions) (l : Loop) (looped : Looped) → IsWellFormed l.kernel → HasSteps l
    → looped.turns ≡ turns_of l → looped.times ≡ l.times → looped.steps ≡ l.steps
    → Means called looped.block (unrolled l (turns_of l)) → Means called looped.rest l.kernel
    → (memory places args : List ℕ) → IsLoopInput l memory places args
    → looped_meaning called looped memory places args ≡ loop_meaning l memory places args
loop-is-meant called l looped is has turns times steps block rest memory places args input =
    let some = (turns-are-most l is).keep.some in
    (λ i. blocks_meaning (times i) (turns i) (steps i) (meaning called looped.block) (meaning called looped.rest) memory places args)
    ∙ blocks-mean-loop l (turns_of l) (meaning called looped.block) (meaning called looped.rest) args has (omega (arith, some))
    (λ m ps laid. block.same m ps args (record {
      bytes = laid.bytes;
      pointers = laid.pointers;
      near = laid.near;
      integers = input.integers;
      layout = laid.layout;
    }))
    (λ m ps laid. rest.same m ps args (record {
      bytes = laid.bytes;
      pointers = laid.pointers;
      near = laid.near;
      integers = input.integers;
      layout = laid.layout;
    }))
    memory places (record { bytes = input.bytes; pointers = input.pointers; near = input.near; layout = input.layout })
