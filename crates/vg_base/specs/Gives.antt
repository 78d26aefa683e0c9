-- What a function of the code returned, seen by a view, against what its definition gives. The code has an error more,
-- want of memory, which says nothing of the text: `told` is the fault that an error tells of it.
use Rattle.std.specs.Prelude.{◌≡◌, Option, Some, None, Result, Ok, Err}

-- this fault, if there is one
abbrev pub FailsBy : {F Y : Type 0} → Option F → Result Y F → Type 0
FailsBy (Some fault) given = given ≡ Err fault
FailsBy None given = Unit {0}

-- the fault that the error tells, unless there was no memory
abbrev pub Fails : {E F Y : Type 0} → (E → Option F) → E → Result Y F → Type 0
Fails told error given = FailsBy (told error) given

-- the same value or fault, unless there was no memory
abbrev pub Gives : {E F X Y : Type 0} → (E → Option F) → (X → Y) → Result X E → Result Y F → Type 0
Gives told view (Ok x) given = given ≡ Ok (view x)
Gives told view (Err error) given = Fails told error given
