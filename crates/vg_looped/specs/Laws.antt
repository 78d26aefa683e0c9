-- The laws of looped texts.
use Rattle.std.specs.Prelude.{◌≡◌, ℕ, ◌≤◌, List, length, Ok}
use Rattle.std.specs.List.{AllByRecursion}
use Rattle.vg_pseudo.specs.declared.header.Header.{Header}
use Rattle.vg_program.specs.Params.{pointers}
use Rattle.vg_program.specs.Sizes.{TakeFew}
use Rattle.vg_program.specs.Valid.{KeepsRules}
use Rattle.vg_looped.specs.declared.looped.Looped.{Looped}
use Rattle.vg_looped.specs.Looped.{looped_text, IsLooped}
use Rattle.vg_looped.specs.Grammar.{looped_at}

-- what is read keeps the rules, and is spelled so
abbrev pub WhatIsReadIsLooped : Type 0
WhatIsReadIsLooped =
    (headers : List Header) (text : List ℕ) (l : Looped) → length text ≤ 4194304
    → looped_at headers text ≡ Ok l → IsLooped headers l × (looped_text l ≡ text)

-- what keeps the rules is read from its text, so printed and read again it is the same
abbrev pub LoopedTextsAreRead : Type 0
LoopedTextsAreRead =
    (headers : List Header) (l : Looped) → IsLooped headers l
    → looped_at headers (looped_text l) ≡ Ok l

-- two programs of at most 12,288 lines each, where instructions take at most four registers, a step
-- for each pointer and at most 16 turns have a text within the bound
abbrev pub LoopedProgramsFit : Type 0
LoopedProgramsFit =
    (headers : List Header) (l : Looped) → TakeFew headers
    → KeepsRules headers l.block → KeepsRules headers l.rest
    → length l.steps ≡ length (pointers l.block.params) → AllByRecursion (λ s. s ≤ 65536) l.steps
    → l.turns ≤ 16 → length l.block.lines ≤ 12288 → length l.rest.lines ≤ 12288
    → length (looped_text l) ≤ 4194304
