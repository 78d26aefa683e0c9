-- Narrowing in the code.
use Rattle.std.specs.Prelude.{◌≡◌}
use Rattle.vg_rewrite.specs.declared.narrowing.Narrowing.{Narrowing as Code}
use Rattle.vg_rewrite.specs.Narrowed.{Formed, Narrowing}
use Rattle.vg_shapes.specs.declared.wanted.Wanted.{Wanted}

-- what the code holds
abbrev pub narrowing : Code → Narrowing
narrowing g = record { first = g.first; units = g.units.items; made = g.made.items }

-- this is after a form was made, and this stands for it
pub record Forms (after : Narrowing) (x : Wanted) (f : Formed) : Type 0 where
  pub after_is : after ≡ f.after
  pub value : x ≡ f.value
