-- The reader of operation texts against their grammar.
use Rattle.std.specs.Prelude.{◌≡◌, Ok}
use Rattle.vg_text.specs.Words.{Reading}
use Rattle.vg_pseudo.specs.Tree.{Operation}
use Rattle.vg_pseudo.specs.Operations.{operation_at}
use Rattle.vg_pseudo.specs.Grammar.{IsOperationText}

-- what is read as an operation is in the grammar
abbrev pub IsSound : Type 0
IsSound =
    (r : Reading) (o : Operation) (rest : Reading)
    → operation_at r ≡ Ok (o, rest)
    → IsOperationText r o rest

-- what is in the grammar is read
abbrev pub IsComplete : Type 0
IsComplete =
    (r : Reading) (o : Operation) (rest : Reading)
    → IsOperationText r o rest
    → operation_at r ≡ Ok (o, rest)
