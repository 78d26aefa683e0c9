use Rattle.std.proofs.Common.{◌≡◌, drop}
use Rattle.vg_emission.specs.Program.{all_inserted}
use Rattle.vg_emit.specs.Marks.{marked}
use Rattle.vg_emit.proofs.needed.mark_all_inserted.Given as goal

abbrev pub invariant-recipes : goal.invariant-recipes
invariant-recipes l =
    marked l.marks (all_inserted (drop l.place l.recipes) (drop l.place l.operands))
    ≡ marked l.fn.marks (all_inserted l.recipes l.operands)
