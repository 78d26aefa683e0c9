-- The laws of guards.
use Rattle.std.specs.Prelude.{◌≡◌, ◌≤◌, ℕ, true, List, length}
use Rattle.vg_kernel.specs.Tree.{Tree}
use Rattle.vg_kernel.specs.WellFormed.{pointers, IsWellFormed}
use Rattle.vg_kernel.specs.Layout.{Respects}
use Rattle.vg_pseudo.specs.declared.header.Header.{Header}
use Rattle.vg_program.specs.Params as params
use Rattle.vg_program.specs.Sizes.{TakeFew}
use Rattle.vg_program.specs.Text.{signature_of}
use Rattle.vg_program.specs.Valid.{IsValid}
use Rattle.vg_guard.specs.declared.guarded.Guarded.{Guarded}
use Rattle.vg_guard.specs.Guarded.{IsGuarded}
use Rattle.vg_guard.specs.Noalias.{all_noalias}
use Rattle.vg_guard.specs.Checks.{checks_of, all_hold}
use Rattle.vg_guard.specs.Rules.{AreChecks}

-- where the checks of a kernel hold, a layout that keeps what the kernel says of `noalias` keeps it
-- as if every pointer were `noalias`
abbrev pub ChecksKeepApart : Type 0
ChecksKeepApart =
    (k : Tree) (places : List ℕ) → IsWellFormed k → Respects k places
    → all_hold places (checks_of k) ≡ true → Respects (all_noalias k) places

-- a kernel is well formed with every pointer `noalias` too
abbrev pub NoaliasIsWellFormed : Type 0
NoaliasIsWellFormed = (k : Tree) → IsWellFormed k → IsWellFormed (all_noalias k)

-- the checks of a kernel keep the rules, and there are at most 120, one for each pair of 16
-- pointers
abbrev pub ChecksKeepRules : Type 0
ChecksKeepRules =
    (k : Tree) → IsWellFormed k
    → AreChecks (length (pointers k.params)) (checks_of k) × (length (checks_of k) ≤ 120)

-- two programs of at most 12,288 lines each, where instructions take at most four registers, and at
-- most 120 checks have a text within the bound
abbrev pub GuardedProgramsFit : Type 0
GuardedProgramsFit =
    (headers : List Header) (g : Guarded) → TakeFew headers
    → IsValid headers g.fast → IsValid headers g.slow
    → signature_of g.slow ≡ signature_of g.fast
    → AreChecks (length (params.pointers g.fast.params)) g.checks → length g.checks ≤ 120
    → length g.fast.lines ≤ 12288 → length g.slow.lines ≤ 12288 → IsGuarded headers g
