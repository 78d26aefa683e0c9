use Rattle.std.proofs.Common.{◌∙◌, refl, ap, map}
use Rattle.vg_kernel.specs.Tree.{tree_of}
use Rattle.vg_shapes.specs.Description.{description_of}
use Rattle.vg_compile.specs.Emitted.{with_scalar}
use Rattle.vg_compile.proofs.MorePrograms.{more-known, more-grows, more-compiled}
use Rattle.vg_compile.proofs.compiling.compile_cheapest.Goals as goal

pub emit_plan-requires-clause-known : goal.emit_plan-requires-clause-known
emit_plan-requires-clause-known c =
    more-known (map description_of c.args.descriptions.now) (tree_of c.args.kernel.now) c.args.width
    c.in_ok-planned.planned.best.rewriting c.in_ok-planned.planned.best.values c.in_ok-planned.planned.plain c.requires.callable c.in_ok-planned.ensures

pub emit_plan-requires-clause-deps : goal.emit_plan-requires-clause-deps
emit_plan-requires-clause-deps c = c.in_ok-planned.ensures.deps

pub emit_plan-requires-clause-plan : goal.emit_plan-requires-clause-plan
emit_plan-requires-clause-plan c =
    more-grows (map description_of c.args.descriptions.now) (tree_of c.args.kernel.now) c.args.width
    c.in_ok-planned.planned.best.rewriting c.in_ok-planned.planned.best.values c.in_ok-planned.planned.plain c.requires.callable c.in_ok-planned.ensures

pub returns : goal.returns
returns c =
    let ds = map description_of c.args.descriptions.now in
    let program = c.in_ok-program.program in
    λ entries set described. more-compiled entries set (tree_of c.args.kernel.now) c.args.width ds ds
    c.in_ok-planned.planned.best.rewriting c.in_ok-planned.planned.best.values c.in_ok-planned.planned.plain program c.with_scalar.result refl
    c.requires.kernel described.all described.each described.proper c.in_ok-planned.ensures c.in_ok-program.ensures
    (c.with_scalar.ensures ∙ ap (λ n. with_scalar n program) c.scalar_cost.ensures)
