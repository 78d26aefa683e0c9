-- those that are done, and what those that are left give after them, are what all give
use Rattle.std.proofs.Common.{◌≡◌, [], map, take, drop}
use Rattle.vg_pseudo.specs.Tree.{define_of}
use Rattle.vg_pseudo.specs.Resolve.{functions_of}
use Rattle.vg_names.specs.Views.{function_view}
use Rattle.vg_names.proofs.ResolvingAll.{functions_done}
use Rattle.vg_names.proofs.operation.resolved_defines.Given as goal

abbrev pub invariant-defines : goal.invariant-defines
invariant-defines l = record {
  same : functions_done (map function_view l.functions.items) (functions_of l.names (map define_of (drop l.define-index l.defines))) ≡ functions_of [] (map define_of l.defines);
  names : l.names ≡ map (λ d. d.name) (map define_of (take l.define-index l.defines));
}
