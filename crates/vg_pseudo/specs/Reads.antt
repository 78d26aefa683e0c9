-- What a function of the code returned, seen by a view, and what is left then, against what reading gives.
use Rattle.std.specs.Prelude.{Option, Some, None, Result}
use Rattle.vg_base.specs.Gives as returned
use Rattle.vg_text.specs.Words.{Reading}
use Rattle.vg_pseudo.specs.declared.fault.PseudoFault.{PseudoFault}
use Rattle.vg_pseudo.specs.declared.fault.PseudoFault.TheVariants.{Memory}

-- the fault of a text that an error tells; want of memory tells none
abbrev pub told : PseudoFault → Option PseudoFault
told (Memory e) = None
told fault = Some fault

-- the same fault, unless there was no memory
abbrev pub Fails : {Y : Type 0} → PseudoFault → Result Y PseudoFault → Type 0
Fails fault read = returned.Fails told fault read

-- the same value or fault, unless there was no memory
abbrev pub Gives : {X Y : Type 0} → (X → Y) → Result X PseudoFault → Result Y PseudoFault → Type 0
Gives view result read = returned.Gives told view result read

-- the same value in front of what is left, or the same fault, unless there was no memory
abbrev pub Reads : {X Y : Type 0} → (X → Y) → Reading → Result X PseudoFault → Result (Y × Reading) PseudoFault → Type 0
Reads view behind result read = returned.Gives told (λ x. (view x, behind)) result read
