-- The laws of the language of loops.
use Rattle.std.specs.Prelude.{◌≡◌, ◌↔◌, ℕ, List, Ok, Err}
use Rattle.vg_kernel.specs.declared.fault.KernelFault.{KernelFault}
use Rattle.vg_kernel.specs.Grammar.{IsKernelText}
use Rattle.vg_kernel.specs.Tree.{Tree}
use Rattle.vg_loop_laws.specs.Loops.{Loop}
use Rattle.vg_loops.specs.Formed.{IsLoop}
use Rattle.vg_loops.specs.Reader.{loop_from}
use Rattle.vg_loop_grammar.specs.Grammar.{IsLoopText}

-- what is read is in the language and keeps its limits
abbrev pub WhatIsReadIsALoop : Type 0
WhatIsReadIsALoop = (text : List ℕ) (l : Loop) → loop_from text ≡ Ok l → IsLoopText text l

-- what is in the language and keeps its limits is read
abbrev pub LoopTextsAreRead : Type 0
LoopTextsAreRead = (text : List ℕ) (l : Loop) → IsLoopText text l → loop_from text ≡ Ok l

-- a text has a first fault exactly where it spells no loop
abbrev pub RefusedExactlyWhereNoLoop : Type 0
RefusedExactlyWhereNoLoop =
    (text : List ℕ)
    → ((fault : KernelFault) × (loop_from text ≡ Err fault))
    ↔ ((l : Loop) → IsLoopText text l → ⊥)

-- a text spells one loop at most
abbrev pub TextsSpellOneLoop : Type 0
TextsSpellOneLoop = (text : List ℕ) (l m : Loop) → IsLoopText text l → IsLoopText text m → l ≡ m

-- and no kernel beside it
abbrev pub NoLoopTextIsAKernel : Type 0
NoLoopTextIsAKernel =
    (text : List ℕ) (l : Loop) (k : Tree) → IsLoopText text l → IsKernelText text k → ⊥

-- a loop that a text spells keeps the rules
abbrev pub LoopTextsKeepTheRules : Type 0
LoopTextsKeepTheRules = (text : List ℕ) (l : Loop) → IsLoopText text l → IsLoop l
