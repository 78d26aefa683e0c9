use Rattle.std.proofs.Common.{◌≡◌, ◌+◌, ◌*◌, ◌≤◌, ◌^◌, length, vec_len}
use Rattle.vg_rewrite.specs.Marks.{numbers}
use Rattle.vg_rewrite.specs.Repeated.{repeat_units}
use Rattle.vg_rewrite.specs.Repeating.{repeating}
use Rattle.vg_shapes.specs.Units.{arguments}
use Rattle.vg_rewrite.proofs.repeating.Repeating.repeat_units.Given as goal

-- what was made and what is left are all
abbrev pub invariant-units : goal.invariant-units
invariant-units l = record {
  same : repeat_units l.ssa l.user l.rest (repeating l.self) ≡ repeat_units l.ssa (arguments l.ssa) l.ssa.units (repeating l.initial.self);
  few : l.user + length l.rest ≡ numbers l.ssa;
  room : l.self.first + vec_len l.self.units + 7 * length l.rest ≤ 2 ^ 24;
}

abbrev pub decreases-units : goal.decreases-units
decreases-units l = length l.rest
