-- Where an access begins: the place of a pointer and an offset in bytes.
use Rattle.std.specs.Prelude.{ℕ, ℤ, pos, ◌+ℤ◌, List, slice_index}
use Rattle.vg_base.specs.declared.address.Address.{Address}

-- the exact whole number, for the places of the pointers in order
abbrev pub place_of : List ℕ → Address → ℤ
place_of places a = pos (slice_index places a.pointer) +ℤ a.offset
