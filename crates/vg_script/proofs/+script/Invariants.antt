use Rattle.std.proofs.Common.{◌≤◌}
use Rattle.vg_script.specs.declared.script.Given.{size-Given}
use Rattle.vg_script.specs.declared.script.Script.{size-Script}
use Rattle.vg_script.proofs.+script.Given as goal

abbrev pub invariant-script::Given::drop-rest : goal.invariant-script::Given::drop-rest
invariant-script::Given::drop-rest l = size-Given l.self ≤ size-Given l.fn.self

abbrev pub invariant-script::Script::drop-rest : goal.invariant-script::Script::drop-rest
invariant-script::Script::drop-rest l = size-Script l.self ≤ size-Script l.fn.self
