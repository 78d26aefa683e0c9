use Rattle.std.proofs.Common.{refl, ap, subst, ◌∙◌}
use Rattle.vg_guard.specs.Compiled.{IsCompiledGuarded}
use Rattle.vg_loop_laws.specs.Unrolled.{unrolled}
use Rattle.vg_loops.specs.View.{loop_of}
use Rattle.vg_loop_guard.proofs.Whole.{few-steps, compiled-guarded-loop}
use Rattle.vg_loop_guard.proofs.compiling.compile_guarded_loop_described.Goals as goal

pub check_size-requires : goal.check_size-requires
check_size-requires c =
    few-steps (loop_of c.args.source.now) c.from_vec.result c.requires.source
    (c.from_vec.ensures ∙ c.in_ok-steps.ensures.items ∙ c.as_slice.ensures)

pub returns : goal.returns
returns c =
    let l = loop_of c.args.source.now in
    let turns = c.turns_of-turns.ensures.turns in
    let kernel = c.in_ok-kernel.ensures.unrolled ∙ ap (unrolled l) turns in
    (λ entries set described.
    let block = subst (λ k. IsCompiledGuarded entries set k c.args.width c.args.more c.in_ok-block.block) kernel (c.in_ok-block.ensures entries set described) in
    compiled-guarded-loop entries set l c.args.width c.args.more _ c.requires.source described.proper turns refl
    (c.from_vec.ensures ∙ c.in_ok-steps.ensures.items ∙ c.as_slice.ensures) c.in_ok-check_size.ensures block (c.in_ok-rest.ensures entries set described))
