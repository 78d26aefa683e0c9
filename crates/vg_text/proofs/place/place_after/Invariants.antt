-- the bytes that are left lead from here to the place after all of them
use Rattle.std.proofs.Common.{◌≡◌, ◌≤◌, ◌+◌, drop, max}
use Rattle.vg_text.specs.Place.{place_after}
use Rattle.vg_text.proofs.place.place_after.Given as goal

abbrev pub invariant-bytes : goal.invariant-bytes
invariant-bytes l = record {
  whole : place_after l.here (drop l.byte-index l.bytes) ≡ place_after l.fn.place l.bytes;
  line : l.here.line ≤ l.fn.place.line + l.byte-index;
  column : l.here.column ≤ max l.fn.place.column 1 + l.byte-index;
}
