-- Repeated units: each free use of a load, or of an extension of one, has a load of its own.
use Rattle.std.specs.Prelude.{ℕ, pos, ◌+◌, ◌-◌, ◌&&◌, ◌||◌, not, Bool, false, List, [], ◌∷◌, ◌++◌, length, map, Option, Some, None, slice_index_or, nat_eq, if◌then◌else◌}
use Rattle.std.specs.List.{list_any}
use Rattle.std.specs.Option.{is_some}
use Rattle.vg_base.specs.Trap.{◌>>=◌}
use Rattle.vg_base.specs.declared.address.Address.{Address}
use Rattle.vg_base.specs.declared.width.Width.{Width}
use Rattle.vg_base.specs.declared.width.Width.TheVariants.{W8}
use Rattle.vg_scalar.specs.declared.resize.Resize.{Resize}
use Rattle.vg_scalar.specs.declared.resize.Resize.TheVariants.{Sext, Zext, Trunc}
use Rattle.vg_shapes.specs.declared.ssa.Ssa.{Ssa}
use Rattle.vg_shapes.specs.declared.ssa_unit.Operands.{Operands}
use Rattle.vg_shapes.specs.declared.ssa_unit.Operator.{Operator}
use Rattle.vg_shapes.specs.declared.ssa_unit.Operator.TheVariants.{Two, Shift, Resize as ToWidth, Compare, Select}
use Rattle.vg_shapes.specs.declared.ssa_unit.SsaUnit.{SsaUnit}
use Rattle.vg_shapes.specs.declared.ssa_unit.SsaUnit.TheVariants.{Load, Store, Operation}
use Rattle.vg_shapes.specs.declared.wanted.Wanted.{Wanted}
use Rattle.vg_shapes.specs.declared.wanted.Wanted.TheVariants.{Value, Constant, Nothing}
use Rattle.vg_shapes.specs.Depends.{conflict_at, uses_at}
use Rattle.vg_shapes.specs.Order.{numbers_from}
use Rattle.vg_shapes.specs.Units.{arguments, unit_at}

-- ---- loads and extensions of loads

-- the value of this number is that of a load
abbrev pub load_of : Option SsaUnit → ℕ → Option ℕ
load_of None v = None
load_of (Some (Load a w)) v = Some v
load_of (Some (Store a w x)) v = None
load_of (Some (Operation op w k xs)) v = None

abbrev pub loaded_at : Ssa → ℕ → Option ℕ
loaded_at ssa v = load_of (unit_at ssa v) v

abbrev pub loaded_by : Ssa → Wanted → Option ℕ
loaded_by ssa (Value v) = loaded_at ssa v
loaded_by ssa (Constant w n) = None
loaded_by ssa Nothing = None

abbrev pub extended_by : Ssa → Resize → Wanted → Option ℕ
extended_by ssa Sext x = loaded_by ssa x
extended_by ssa Zext x = loaded_by ssa x
extended_by ssa Trunc x = None

-- the load that a unit of this number is, or extends
abbrev pub source_by : Ssa → ℕ → SsaUnit → Option ℕ
source_by ssa v (Load a w) = Some v
source_by ssa v (Store a w x) = None
source_by ssa v (Operation (Two op) w k xs) = None
source_by ssa v (Operation (Shift op) w k xs) = None
source_by ssa v (Operation (ToWidth op from) w k xs) = extended_by ssa op xs.first
source_by ssa v (Operation (Compare op) w k xs) = None
source_by ssa v (Operation Select w k xs) = None

abbrev pub source_of : Ssa → ℕ → Option ℕ
source_of ssa v = unit_at ssa v >>= source_by ssa v

-- ---- uses

-- an access of a store between two numbers may meet a load
abbrev pub meets_between : Ssa → ℕ → ℕ → Bool
meets_between ssa load user =
    list_any (λ s. conflict_at ssa load s) (numbers_from (load + 1) (user - (load + 1)))

-- the use of a value by the unit of a number is free: the value is a load, or an extension of one, the
-- unit is none, and no store between the load and the unit may meet the load
abbrev pub is_free_by : Ssa → ℕ → Option ℕ → Bool
is_free_by ssa user None = false
is_free_by ssa user (Some load) = not (meets_between ssa load user)

abbrev pub is_free : Ssa → ℕ → ℕ → Bool
is_free ssa user v = not (is_some (source_of ssa user)) && is_free_by ssa user (source_of ssa v)

-- ---- what stays where it stood

abbrev pub unit_list : Ssa → List ℕ
unit_list ssa = numbers_from (arguments ssa) (length ssa.units)

-- the unit of a number is neither a load nor an extension of one, and uses a value
abbrev pub takes : Ssa → ℕ → ℕ → Bool
takes ssa user v = not (is_some (source_of ssa user)) && uses_at ssa user v

-- a use of a value that is not free needs it where it stood
abbrev pub is_needed : Ssa → ℕ → Bool
is_needed ssa v = list_any (λ user. takes ssa user v && not (is_free ssa user v)) (unit_list ssa)

abbrev pub is_number : ℕ → Option ℕ → Bool
is_number v None = false
is_number v (Some x) = nat_eq x v

-- a load, or an extension of it, is used
abbrev pub is_read : Ssa → ℕ → Bool
is_read ssa load =
    list_any
    (λ v. is_number load (source_of ssa v) && list_any (λ user. takes ssa user v) (unit_list ssa))
    (unit_list ssa)

-- a load stays where one of these is needed, and where nothing uses it
abbrev pub load_stays : Ssa → ℕ → Bool
load_stays ssa load =
    list_any (λ v. is_number load (source_of ssa v) && is_needed ssa v) (unit_list ssa)
    || not (is_read ssa load)

-- ---- what is made

-- the number of the first unit, the units so far, and what stands for each value where it stood
pub record Repeating : Type 0 where
  pub first : ℕ
  pub units : List SsaUnit
  pub stands : List Wanted

abbrev pub put_unit : SsaUnit → Repeating → Repeating
put_unit u g = record g { units = g.units ++ u ∷ [] }

abbrev pub next_number : Repeating → Wanted
next_number g = Value (g.first + length g.units)

abbrev pub stand_as : Wanted → Repeating → Repeating
stand_as x g = record g { stands = g.stands ++ x ∷ [] }

-- an operand that is taken, and the units before it
pub record Taken : Type 0 where
  pub after : Repeating
  pub value : Wanted

abbrev pub anew : SsaUnit → Repeating → Taken
anew u g = record { after = put_unit u g; value = next_number g }

abbrev pub with_first : Wanted → SsaUnit → SsaUnit
with_first x (Load a w) = Load a w
with_first x (Store a w y) = Store a w y
with_first x (Operation op w k xs) =
    Operation op w k (record { first = x; second = xs.second; third = xs.third })

-- the unit of a number; there is one
abbrev pub unit_or : Option SsaUnit → SsaUnit
unit_or None = Store (record { pointer = 0; offset = pos 0 }) W8 Nothing
unit_or (Some u) = u

-- a load of its own, and behind it an extension of its own
abbrev pub read_anew : Ssa → ℕ → ℕ → Repeating → Taken
read_anew ssa v load g =
    let read = anew (unit_or (unit_at ssa load)) g in
    if nat_eq v load then read
    else anew (with_first read.value (unit_or (unit_at ssa v))) read.after

abbrev pub stood : Repeating → ℕ → Taken
stood g v = record { after = g; value = slice_index_or g.stands v Nothing }

-- an operand of the unit of a number: a free use reads anew, any other takes what stands
abbrev pub take_source : Ssa → ℕ → ℕ → Option ℕ → Repeating → Taken
take_source ssa user v None g = stood g v
take_source ssa user v (Some load) g =
    if is_free ssa user v then read_anew ssa v load g else stood g v

abbrev pub take_operand : Ssa → ℕ → Wanted → Repeating → Taken
take_operand ssa user (Value v) g = take_source ssa user v (source_of ssa v) g
take_operand ssa user (Constant w n) g = record { after = g; value = Constant w n }
take_operand ssa user Nothing g = record { after = g; value = Nothing }

-- a load or an extension where it stays
abbrev pub stand_source : Bool → SsaUnit → Repeating → Repeating
stand_source stays u g =
    if stays then stand_as (next_number g) (put_unit u g) else stand_as Nothing g

-- an operation or a store, its operands from left to right
abbrev pub repeat_operation : Ssa → ℕ → Operator → Width → ℕ → Operands → Repeating → Repeating
repeat_operation ssa v op w k xs g =
    let x = take_operand ssa v xs.first g in
    let y = take_operand ssa v xs.second x.after in
    let z = take_operand ssa v xs.third y.after in
    stand_as (next_number z.after)
    (put_unit (Operation op w k (record { first = x.value; second = y.value; third = z.value }))
    z.after)

abbrev pub repeat_store : Ssa → ℕ → Address → Width → Wanted → Repeating → Repeating
repeat_store ssa v a w x g =
    let y = take_operand ssa v x g in
    stand_as Nothing (put_unit (Store a w y.value) y.after)

abbrev pub repeat_other : Ssa → ℕ → SsaUnit → Repeating → Repeating
repeat_other ssa v (Load a w) g = stand_source (load_stays ssa v) (Load a w) g
repeat_other ssa v (Store a w x) g = repeat_store ssa v a w x g
repeat_other ssa v (Operation op w k xs) g = repeat_operation ssa v op w k xs g

-- an extension of a load takes what stands for the load
abbrev pub repeat_by : Ssa → ℕ → SsaUnit → Option ℕ → Repeating → Repeating
repeat_by ssa v u None g = repeat_other ssa v u g
repeat_by ssa v u (Some load) g =
    if nat_eq v load then repeat_other ssa v u g
    else stand_source (is_needed ssa v) (with_first (slice_index_or g.stands load Nothing) u) g

abbrev pub repeat_units : Ssa → ℕ → List SsaUnit → Repeating → Repeating
repeat_units ssa v [] g = g
repeat_units ssa v (u ∷ us) g =
    repeat_units ssa (v + 1) us (repeat_by ssa v u (source_of ssa v) g)

-- the units in which each free use has a load of its own
abbrev pub repeated_units : Ssa → List SsaUnit
repeated_units ssa =
    (repeat_units ssa (arguments ssa) ssa.units
    (record {
      first = arguments ssa;
      units = [];
      stands = map Value (numbers_from 0 (arguments ssa));
    })).units
