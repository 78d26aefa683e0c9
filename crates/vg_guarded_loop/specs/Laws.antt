-- The laws of the texts of guarded loops.
use Rattle.std.specs.Prelude.{◌≡◌, ℕ, ◌≤◌, List, length, Ok}
use Rattle.vg_pseudo.specs.declared.header.Header.{Header}
use Rattle.vg_guarded_loop.specs.declared.guarded_loop.GuardedLoop.{GuardedLoop}
use Rattle.vg_guarded_loop.specs.GuardedLoop.{guarded_loop_text, IsGuardedLoop}
use Rattle.vg_guarded_loop.specs.Grammar.{guarded_loop_at}

-- what is read keeps the rules, and is spelled so
abbrev pub WhatIsReadIsAGuardedLoop : Type 0
WhatIsReadIsAGuardedLoop =
    (headers : List Header) (text : List ℕ) (l : GuardedLoop) → length text ≤ 4194304
    → guarded_loop_at headers text ≡ Ok l → IsGuardedLoop headers l × (guarded_loop_text l ≡ text)

-- what keeps the rules is read from its text, so printed and read again it is the same
abbrev pub GuardedLoopTextsAreRead : Type 0
GuardedLoopTextsAreRead =
    (headers : List Header) (l : GuardedLoop) → IsGuardedLoop headers l
    → guarded_loop_at headers (guarded_loop_text l) ≡ Ok l
