-- Statements without others inside that write bits of registers or variables.
use Rattle.vg_script.specs.Script.{Script, put, fill, copy, copy_from, give}

abbrev pub IsAssignment : Script → Type 0
IsAssignment (put r l w x) = Unit {0}
IsAssignment (fill r l w z) = Unit {0}
IsAssignment (copy r l w q m) = Unit {0}
IsAssignment (copy_from r l w f q m) = Unit {0}
IsAssignment (give k x) = Unit {0}
IsAssignment _ = ⊥
