use Rattle.std.proofs.Common.{refl, ap, subst, ◌∙◌}
use Rattle.vg_compile.specs.Compiled.{IsCompiled}
use Rattle.vg_loop_laws.specs.Unrolled.{unrolled}
use Rattle.vg_loops.specs.View.{loop_of}
use Rattle.vg_loops.proofs.Whole.{compiled-loop}
use Rattle.vg_loops.proofs.compiling.compile_loop_described.Goals as goal

pub returns : goal.returns
returns c =
    let l = loop_of c.args.source.now in
    let turns = c.turns_of-turns.ensures.turns in
    let kernel = c.in_ok-kernel.ensures.unrolled ∙ ap (unrolled l) turns in
    (λ entries set described.
    let block = subst (λ k. IsCompiled entries set k c.args.width c.args.more c.in_ok-block.block) kernel (c.in_ok-block.ensures entries set described) in
    compiled-loop entries set l c.args.width c.args.more _ c.requires.source described.proper turns refl
    (c.from_vec.ensures ∙ c.in_ok-steps.ensures.items ∙ c.as_slice.ensures) block (c.in_ok-rest.ensures entries set described))
