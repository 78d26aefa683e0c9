-- the digits that are left make the whole number after those before
use Rattle.std.proofs.Common.{◌≡◌, ◌<◌, ◌^◌, drop}
use Rattle.vg_text.specs.Number.{value_from}
use Rattle.vg_text.proofs.number.value_in.Given as goal

abbrev pub invariant-digits : goal.invariant-digits
invariant-digits l = record {
  fits : l.value < 2 ^ 128;
  whole : value_from l.base l.value (drop l.digit-index l.digits) ≡ value_from l.base 0 l.digits;
}
