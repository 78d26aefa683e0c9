use Rattle.std.proofs.Common.{◌≡◌, ◌<◌, ◌++◌, ◌*◌, ◌^◌, drop, length, take}
use Rattle.vg_gather.specs.Adding.{added, amount}
use Rattle.vg_gather.proofs.constant_bytes.add_number.Given as goal

abbrev pub invariant-bytes : goal.invariant-bytes
invariant-bytes l = record {
  carry : l.rest.carry < 256;
  long : length l.bytes ≡ length l.fn.bytes;
  sum : take l.i l.bytes ++ added (amount l.rest) (drop l.i l.bytes) ≡ added (l.number * 2 ^ l.shift) l.fn.bytes;
}
