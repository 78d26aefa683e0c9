-- A sink in memory: what was written, and what a write does to it.
use Rattle.std.specs.Prelude.{ℕ, ◌+◌, ◌-◌, Bool, nat_le, List, [], ◌++◌, length, take, if◌then◌else◌}
use Rattle.vg_outside.specs.Count.{raised}

-- the bytes written, the number of bytes that there is room for, and the count of faults
pub record SinkState : Type 0 where
  pub written : List ℕ
  pub room : ℕ
  pub faults : ℕ

-- nothing written
abbrev pub new_sink : ℕ → SinkState
new_sink room = record { written = []; room = room; faults = 0 }

-- the bytes fit in what is left of the room
abbrev pub fits : SinkState → List ℕ → Bool
fits s bytes = nat_le (length s.written + length bytes) s.room

-- all of the bytes where they fit, else as many as fit and a fault
abbrev pub after_write : SinkState → List ℕ → SinkState
after_write s bytes = if fits s bytes
    then record s { written = s.written ++ bytes }
    else record s {
      written = s.written ++ take (s.room - length s.written) bytes;
      faults = raised s.faults;
    }
