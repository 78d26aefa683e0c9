use Rattle.std.proofs.Common.{◌≡◌, ◌++◌, true, length}
use Rattle.std.specs.List.{list_all}
use Rattle.vg_program.specs.Vectors.{is_low_hex, bytes_in}
use Rattle.vg_program.proofs.vector_reading.bytes_in.Given as goal

abbrev pub invariant-digits : goal.invariant-digits
invariant-digits l = record {
  whole : l.bytes.items ++ bytes_in l.rest ≡ bytes_in l.fn.run;
  digits : list_all is_low_hex l.rest ≡ true;
}

abbrev pub decreases-digits : goal.decreases-digits
decreases-digits l = length l.rest
