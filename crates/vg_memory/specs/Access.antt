-- Where an access begins as an index of the memory.
use Rattle.std.specs.Prelude.{ℕ, ◌+◌, ℤ, pos, negsuc, Option, Some, None, nat_le, if◌then◌else◌}

-- the index of the first byte, where each of so many bytes lies in a memory of this length
abbrev pub index_of : ℕ → ℤ → ℕ → Option ℕ
index_of length (pos address) size = if nat_le (address + size) length then Some address else None
index_of length (negsuc _) size = None
