-- What is compiled of a loop is one.
use Rattle.std.specs.Prelude.{◌≡◌, ℕ, Bool, List}
use Rattle.vg_catalog.specs.Entries.{Entry}
use Rattle.vg_looped.specs.declared.looped.Looped.{Looped}
use Rattle.vg_loop_laws.specs.Loops.{Loop}
use Rattle.vg_loops.specs.CompiledLoop.{IsCompiledLoop}

-- there is one block and one rest that are compiled of a loop by entries, a set of extensions and a width,
-- with more plans or without
abbrev pub OneLoopedIsCompiled : Type 0
OneLoopedIsCompiled =
    (entries : List Entry) (set : ℕ) (l : Loop) (width : ℕ) (more : Bool) (one other : Looped)
    → IsCompiledLoop entries set l width more one → IsCompiledLoop entries set l width more other
    → one ≡ other
