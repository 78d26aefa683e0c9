use Rattle.std.proofs.Common.{map}
use Rattle.vg_shapes.specs.Description.{description_of}
use Rattle.vg_emit_laws.proofs.Near.{matches-are-near, packs-are-short}
use Rattle.vg_compile.proofs.emitting.emit_plan.Goals as goal

pub emit_described-requires-clause-short : goal.emit_described-requires-clause-short
emit_described-requires-clause-short c =
    packs-are-short (map description_of c.args.descriptions.now) c.args.table.now c.args.ssa.now c.args.deps.now c.args.plan.now c.requires.known c.requires.plan

pub emit_described-requires-clause-near : goal.emit_described-requires-clause-near
emit_described-requires-clause-near c = matches-are-near (map description_of c.args.descriptions.now) c.args.table.now c.args.ssa.now c.requires.known
