-- What a function of the code returned, seen by a view, and what is left then, against what reading gives.
use Rattle.std.specs.Prelude.{Option, Some, None, Result}
use Rattle.vg_base.specs.Gives as returned
use Rattle.vg_text.specs.Words.{Reading}
use Rattle.vg_catalog.specs.declared.fault.CatalogFault.{CatalogFault}
use Rattle.vg_catalog.specs.declared.fault.CatalogFault.TheVariants.{Memory}

-- the fault of a file that an error tells; want of memory tells none
abbrev pub told : CatalogFault → Option CatalogFault
told (Memory e) = None
told fault = Some fault

-- the same fault, unless there was no memory
abbrev pub Fails : {Y : Type 0} → CatalogFault → Result Y CatalogFault → Type 0
Fails fault read = returned.Fails told fault read

-- the same value or fault, unless there was no memory
abbrev pub Gives : {X Y : Type 0} → (X → Y) → Result X CatalogFault → Result Y CatalogFault → Type 0
Gives view result read = returned.Gives told view result read

-- the same value in front of what is left, or the same fault, unless there was no memory
abbrev pub Reads : {X Y : Type 0} → (X → Y) → Reading → Result X CatalogFault →
    Result (Y × Reading) CatalogFault → Type 0
Reads view behind result read = returned.Gives told (λ x. (view x, behind)) result read
