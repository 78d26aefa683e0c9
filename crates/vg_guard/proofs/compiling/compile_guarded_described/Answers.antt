use Rattle.std.proofs.Common.{subst, sym, ◌∙◌}
use Rattle.vg_compile.specs.Compiled.{IsCompiled}
use Rattle.vg_kernel.specs.Tree.{tree_of}
use Rattle.vg_kernel.specs.WellFormed.{IsWellFormed}
use Rattle.vg_guard.proofs.NoaliasLaws.{noalias-is-well_formed}
use Rattle.vg_guard.proofs.Whole.{compiled-guarded}
use Rattle.vg_guard.proofs.compiling.compile_guarded_described.Goals as goal

pub compile_described-requires-clause-kernel : goal.compile_described-requires-clause-kernel
compile_described-requires-clause-kernel c =
    subst IsWellFormed (sym c.in_ok-noalias.ensures) (noalias-is-well_formed (tree_of c.args.kernel.now) c.requires.kernel)

pub returns : goal.returns
returns c =
    (λ entries set described. compiled-guarded entries set (tree_of c.args.kernel.now) c.args.width c.args.more _ c.requires.kernel described.proper
    (c.from_vec.ensures ∙ c.in_ok-checks.ensures)
    (subst (λ k. IsCompiled entries set k c.args.width c.args.more c.in_ok-fast.fast) c.in_ok-noalias.ensures (c.in_ok-fast.ensures entries set described))
    (c.in_ok-slow.ensures entries set described))
