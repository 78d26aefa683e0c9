-- What the lines of programs access, and their events.
use Rattle.std.specs.Prelude.{Bool, true, false, List, map, Option}
use Rattle.std.specs.Option.{option_map}
use Rattle.vg_shapes.specs.declared.access.Access.{Access}
use Rattle.vg_program.specs.declared.line.Line.{Line}
use Rattle.vg_program.specs.declared.line.Line.TheVariants.{Load, Store, Two, Shift, Resize, Compare, Select, VectorLoad, VectorStore, Constant, Insert, Extract, Call}
use Rattle.vg_program.specs.Accesses.{access_of}
use Rattle.vg_events.specs.Events.{Label, labels}

-- whether a line writes what it accesses
abbrev pub writes_of : Line → Bool
writes_of (Load w a) = false
writes_of (Store w a v) = true
writes_of (Two op w l r) = false
writes_of (Shift op w v n) = false
writes_of (Resize op w from v) = false
writes_of (Compare op w l r) = false
writes_of (Select w c x y) = false
writes_of (VectorLoad z a) = false
writes_of (VectorStore z a v) = true
writes_of (Constant bs) = false
writes_of (Insert v bits n w x) = false
writes_of (Extract v n w) = false
writes_of (Call name vs imm bits cost) = false

-- what a line reads or writes
abbrev pub line_access : Line → Option Access
line_access l =
    option_map (λ a. record { address = a.address; size = a.size; writes = writes_of l }) (access_of l)

-- the events of lines
abbrev pub line_labels : List Line → List Label
line_labels lines = labels (map line_access lines)
