-- A register of a body, as the definition of names speaks of it.
use Rattle.std.specs.Prelude.{Bool, ◌||◌}
use Rattle.vg_pseudo.specs.Names.{Register}
use Rattle.vg_names.specs.declared.registers.Register as code

abbrev pub register_view : code.Register → Register
register_view r = record {
  name = r.name;
  width = r.width;
  is_variable = r.is_variable;
  signed_slices = r.signed_slices;
  signed_whole = r.signed_whole;
  span = r.span;
}

-- some of its bits are read as signed
abbrev pub has_sign : Register → Bool
has_sign r = r.signed_slices || r.signed_whole
