-- The names by which terms of values are printed.
use Rattle.std.specs.Prelude.{[], map}
use Rattle.vg_terms.specs.declared.text.Names.{Names}
use Rattle.vg_program.specs.declared.param.Param.{Param}
use Rattle.vg_program.specs.Params.{integers, pointers}
use Rattle.std.specs.Prelude.{List}

-- the names of pointers and of integers, by their numbers
abbrev pub names_of : List Param → Names
names_of ps = record {
  params = [];
  pointers = map (λ p. p.name) (pointers ps);
  arguments = map (λ p. p.name) (integers ps);
}
