-- What is compiled of a kernel with guards is one.
use Rattle.std.specs.Prelude.{◌≡◌, ℕ, Bool, List}
use Rattle.vg_catalog.specs.Entries.{Entry}
use Rattle.vg_kernel.specs.Tree.{Tree}
use Rattle.vg_guard.specs.declared.guarded.Guarded.{Guarded}
use Rattle.vg_guard.specs.Compiled.{IsCompiledGuarded}

-- there is one guarded program that is compiled of a kernel by entries, a set of extensions and a width,
-- with more plans or without
abbrev pub OneGuardedIsCompiled : Type 0
OneGuardedIsCompiled =
    (entries : List Entry) (set : ℕ) (k : Tree) (width : ℕ) (more : Bool) (g h : Guarded)
    → IsCompiledGuarded entries set k width more g → IsCompiledGuarded entries set k width more h
    → g ≡ h
