-- Repeated units in the code.
use Rattle.std.specs.Prelude.{◌≡◌}
use Rattle.vg_rewrite.specs.declared.repeating.Repeating.{Repeating as Code}
use Rattle.vg_rewrite.specs.Repeated.{Repeating, Taken}
use Rattle.vg_shapes.specs.declared.wanted.Wanted.{Wanted}

-- what the code holds
abbrev pub repeating : Code → Repeating
repeating g = record { first = g.first; units = g.units.items; stands = g.stands.items }

-- this is after an operand was taken, and this stands for it
pub record Takes (after : Repeating) (x : Wanted) (t : Taken) : Type 0 where
  pub after_is : after ≡ t.after
  pub value : x ≡ t.value
