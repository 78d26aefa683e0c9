-- What is compiled of a loop with guards is one.
use Rattle.std.proofs.Common.{◌≡◌, ◌∙◌, sym}
use Rattle.vg_compile.proofs.OneProgram.{one-program}
use Rattle.vg_guard.proofs.OneGuarded.{one-guarded}
use Rattle.vg_loop_laws.specs.Limits.{turns_of}
use Rattle.vg_loop_laws.specs.Unrolled.{unrolled}
use Rattle.vg_loop_guard.specs.OneGuardedLoop.{OneGuardedLoopIsCompiled}

pub one-guarded-loop : OneGuardedLoopIsCompiled
one-guarded-loop entries set l width more one other x y =
    let block : one.block ≡ other.block = one-guarded entries set (unrolled l (turns_of l)) width more one.block other.block x.block y.block in
    let rest : one.rest ≡ other.rest = one-program entries set l.kernel width more one.rest other.rest x.rest y.rest in
    let times : one.times ≡ other.times = x.times ∙ sym y.times in
    let steps : one.steps ≡ other.steps = x.steps ∙ sym y.steps in
    let turns : one.turns ≡ other.turns = x.turns ∙ sym y.turns in
    λ i. record { block = block i; rest = rest i; times = times i; steps = steps i; turns = turns i }
