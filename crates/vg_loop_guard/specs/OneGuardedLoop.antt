-- What is compiled of a loop with guards is one.
use Rattle.std.specs.Prelude.{◌≡◌, ℕ, Bool, List}
use Rattle.vg_catalog.specs.Entries.{Entry}
use Rattle.vg_guarded_loop.specs.declared.guarded_loop.GuardedLoop.{GuardedLoop}
use Rattle.vg_loop_laws.specs.Loops.{Loop}
use Rattle.vg_loop_guard.specs.CompiledGuardedLoop.{IsCompiledGuardedLoop}

-- there is one guarded loop that is compiled of a loop by entries, a set of extensions and a width, with
-- more plans or without
abbrev pub OneGuardedLoopIsCompiled : Type 0
OneGuardedLoopIsCompiled =
    (entries : List Entry) (set : ℕ) (l : Loop) (width : ℕ) (more : Bool) (one other : GuardedLoop)
    → IsCompiledGuardedLoop entries set l width more one
    → IsCompiledGuardedLoop entries set l width more other → one ≡ other
