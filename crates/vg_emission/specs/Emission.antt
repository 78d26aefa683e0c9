-- The lines of packs and units in an order.
use Rattle.std.specs.Prelude.{ℕ, ◌+◌, ◌*◌, ◌/◌, ◌^◌, Bool, List, [], ◌∷◌, ◌++◌, length, map, filter, Option, Some, None, pos, unwrap_or, nat_eq, nat_lt, slice_index, slice_index_or, if◌then◌else◌}
use Rattle.vg_base.specs.Bits.{bytes}
use Rattle.vg_base.specs.declared.address.Address.{Address}
use Rattle.vg_base.specs.declared.width.Width.{Width}
use Rattle.vg_base.specs.declared.width.Width.TheVariants.{W8, W16, W32, W64}
use Rattle.vg_program.specs.declared.line.Line.{Line}
use Rattle.vg_program.specs.declared.line.Line.TheVariants as line
use Rattle.vg_program.specs.declared.operand.Operand.{Operand as Number}
use Rattle.vg_program.specs.declared.operand.Operand.TheVariants.{Register, Argument, Literal}
use Rattle.vg_program.specs.declared.vector_size.VectorSize.{VectorSize}
use Rattle.vg_program.specs.declared.vector_size.VectorSize.TheVariants.{B4, B8, B16, B32, B64}
use Rattle.vg_shapes.specs.declared.operand.Operand.{Operand}
use Rattle.vg_shapes.specs.declared.operand.Slot.{Slot}
use Rattle.vg_shapes.specs.declared.order.Node.{Node}
use Rattle.vg_shapes.specs.declared.order.Node.TheVariants.{PackAt, UnitAt}
use Rattle.vg_shapes.specs.declared.pack.Pack.{Pack}
use Rattle.vg_shapes.specs.declared.pack.Pack.TheVariants.{Stores, Loads, Call}
use Rattle.vg_shapes.specs.declared.ssa.Ssa.{Ssa}
use Rattle.vg_shapes.specs.declared.ssa_unit.Operator.{Operator}
use Rattle.vg_shapes.specs.declared.ssa_unit.Operator.TheVariants.{Two, Shift, Resize, Compare, Select}
use Rattle.vg_shapes.specs.declared.ssa_unit.SsaUnit.{SsaUnit}
use Rattle.vg_shapes.specs.declared.ssa_unit.SsaUnit.TheVariants.{Load, Store, Operation}
use Rattle.vg_shapes.specs.declared.wanted.Wanted.{Wanted}
use Rattle.vg_shapes.specs.declared.wanted.Wanted.TheVariants.{Value, Constant, Nothing}
use Rattle.vg_shapes.specs.Description.{Description}
use Rattle.vg_shapes.specs.Operands.{lanes_of}
use Rattle.vg_shapes.specs.Units.{arguments, unit_at}
use Rattle.vg_kernel_plans.specs.declared.recipe.Recipe.{Recipe}
use Rattle.vg_kernel_plans.specs.declared.recipe.Recipe.TheVariants as recipe
use Rattle.vg_kernel_plans.specs.Held.{lane_width_of}
use Rattle.vg_kernel_plans.specs.Taken.{first_width}
use Rattle.vg_kernel_plans.specs.Wants.{wants_value}
use Rattle.vg_emission.specs.Draft.{Draft, Made, found, with_name, with_held, with_vectors, with_built}

-- What lines are emitted from: a kernel, the descriptions of instances, packs, for each pack the
-- numbers of the operands that it takes, these operands with a recipe for each, and which values are
-- needed as scalars.
pub record Job : Type 0 where
  pub ssa : Ssa
  pub descriptions : List Description
  pub packs : List Pack
  pub takes : List (List ℕ)
  pub operands : List Operand
  pub recipes : List Recipe
  pub needed : ℕ → Bool

-- ---- parts of a job by their numbers; past the end stands what does nothing

abbrev pub no_description : Description
no_description = record {
  name = [];
  imm = None;
  cost = 0;
  params = [];
  register = 0;
  lane_width = 0;
  lanes = [];
}

abbrev pub description_at : Job → ℕ → Description
description_at j e = slice_index_or j.descriptions e no_description

abbrev pub pack_at : Job → ℕ → Pack
pack_at j k = slice_index_or j.packs k (Stores [])

abbrev pub takes_at : Job → ℕ → List ℕ
takes_at j k = slice_index_or j.takes k []

abbrev pub operand_at : Job → ℕ → Operand
operand_at j o = slice_index_or j.operands o (record { register = 0; slots = [] })

abbrev pub recipe_at : Job → ℕ → Recipe
recipe_at j o = slice_index_or j.recipes o (recipe.Constant [])

-- ---- numbers and sizes

-- the width of so many bits: 8, 16, 32 or 64
abbrev pub width_for : ℕ → Width
width_for n = if nat_eq n 8 then W8 else if nat_eq n 16 then W16 else if nat_eq n 32 then W32 else W64

-- the size of so many bytes: 4, 8, 16, 32 or 64
abbrev pub size_for : ℕ → VectorSize
size_for n =
    if nat_eq n 4 then B4
    else if nat_eq n 8 then B8
    else if nat_eq n 16 then B16
    else if nat_eq n 32 then B32
    else B64

-- what stands for a value or a constant
abbrev pub number_for : Job → Draft → Wanted → Number
number_for j d (Value v) =
    if nat_lt v (arguments j.ssa) then Argument v else Register (unwrap_or (found d.names v) 0)
number_for j d (Constant w n) = Literal (width_for w) n
number_for j d Nothing = Literal W8 0

-- the address of a load or a store
abbrev pub address_of : Option SsaUnit → Address
address_of None = record { pointer = 0; offset = pos 0 }
address_of (Some (Load a w)) = a
address_of (Some (Store a w x)) = a
address_of (Some (Operation op w k xs)) = record { pointer = 0; offset = pos 0 }

-- where the first of units that are consecutive in memory begins
abbrev pub first_address : Ssa → List ℕ → Address
first_address ssa [] = record { pointer = 0; offset = pos 0 }
first_address ssa (v ∷ vs) = address_of (unit_at ssa v)

-- how many bytes they have together
abbrev pub joint_size : Ssa → List ℕ → VectorSize
joint_size ssa us = size_for (length us * first_width ssa us / 8)

-- ---- values taken out of registers, and put into them

-- of a register a line for each lane whose value is needed, the first lane having this number
abbrev pub extracts : Job → Draft → ℕ → Width → ℕ → List (Option ℕ) → Made
extracts j d r w n [] = record { lines = []; draft = d }
extracts j d r w n (None ∷ lanes) = extracts j d r w (n + 1) lanes
extracts j d r w n (Some v ∷ lanes) =
    if j.needed v
    then (let rest = extracts j (with_name d v) r w (n + 1) lanes in
    record { lines = line.Extract r n w ∷ rest.lines; draft = rest.draft })
    else extracts j d r w (n + 1) lanes

-- a line for each slot, each puts a value into the register that the line before it gave
abbrev pub inserts : Job → Draft → ℕ → ℕ → List Slot → List Line
inserts j d bits r [] = []
inserts j d bits r (s ∷ ss) =
    line.Insert r bits (s.low / s.width) (width_for s.width) (number_for j d s.wanted)
    ∷ inserts j d bits (r + 1) ss

-- the slots that want values
abbrev pub value_slots : Operand → List Slot
value_slots o = filter (λ s. wants_value s.wanted) o.slots

-- a number with the constants of slots at their bits
abbrev pub constant_of : Slot → Wanted → ℕ
constant_of s (Value v) = 0
constant_of s (Constant w n) = n * 2 ^ s.low
constant_of s Nothing = 0

abbrev pub constants_of : List Slot → ℕ
constants_of [] = 0
constants_of (s ∷ ss) = constant_of s s.wanted + constants_of ss

-- the bytes of a register with the constants of an operand, and zeros elsewhere
abbrev pub constant_bytes : Operand → List ℕ
constant_bytes o = bytes (o.register / 8) (constants_of o.slots)

-- the call of a description on registers
abbrev pub call_of : Description → List ℕ → Line
call_of e registers = line.Call e.name registers e.imm e.register e.cost

-- ---- operands

-- lines, what is known after them, and the register in which an operand is then
pub record Placed : Type 0 where
  pub lines : List Line
  pub draft : Draft
  pub register : ℕ

-- the registers of packs
abbrev pub registers_of : Draft → List ℕ → List ℕ
registers_of d packs = map (λ k. unwrap_or (found d.held k) 0) packs

-- an operand by its recipe
abbrev pub place : Job → Draft → ℕ → Recipe → Placed
place j d o (recipe.Reuse k) =
    let r = unwrap_or (found d.held k) 0 in
    record { lines = []; draft = with_built d o r; register = r }
place j d o (recipe.Constant bs) = record {
  lines = line.Constant bs ∷ [];
  draft = with_built (with_vectors d 1) o d.vectors;
  register = d.vectors;
}
place j d o (recipe.Shuffle e packs) = record {
  lines = call_of (description_at j e) (registers_of d packs) ∷ [];
  draft = with_built (with_vectors d 1) o d.vectors;
  register = d.vectors;
}
place j d o recipe.Inserts =
    let own = operand_at j o in
    let slots = value_slots own in
    let r = d.vectors + length slots in
    record {
      lines = line.Constant (constant_bytes own) ∷ inserts j d own.register d.vectors slots;
      draft = with_built (with_vectors (with_vectors d 1) (length slots)) o r;
      register = r;
    }

-- one that stands in a register is there
abbrev pub place_once : Job → Draft → ℕ → Option ℕ → Placed
place_once j d o (Some r) = record { lines = []; draft = d; register = r }
place_once j d o None = place j d o (recipe_at j o)

-- an operand is brought into a register where it is first taken
abbrev pub build : Job → Draft → ℕ → Placed
build j d o = place_once j d o (found d.built o)

-- the same of several, one after the other
pub record AllPlaced : Type 0 where
  pub lines : List Line
  pub draft : Draft
  pub registers : List ℕ

abbrev pub build_all : Job → Draft → List ℕ → AllPlaced
build_all j d [] = record { lines = []; draft = d; registers = [] }
build_all j d (o ∷ os) =
    let first = build j d o in
    let rest = build_all j first.draft os in
    record {
      lines = first.lines ++ rest.lines;
      draft = rest.draft;
      registers = first.register ∷ rest.registers;
    }

-- ---- units outside packs

abbrev pub operation_line : Operator → Width → ℕ → Number → Number → Number → Line
operation_line (Two op) w k a b c = line.Two op w a b
operation_line (Shift op) w k a b c = line.Shift op w a k
operation_line (Resize op from) w k a b c = line.Resize op w from a
operation_line (Compare op) w k a b c = line.Compare op w a b
operation_line Select w k a b c = line.Select w a b c

-- a load, a store, or an operation that is needed
abbrev pub unit_lines : Job → Draft → ℕ → Option SsaUnit → Made
unit_lines j d v None = record { lines = []; draft = d }
unit_lines j d v (Some (Load a w)) = record { lines = line.Load w a ∷ []; draft = with_name d v }
unit_lines j d v (Some (Store a w x)) =
    record { lines = line.Store w a (number_for j d x) ∷ []; draft = d }
unit_lines j d v (Some (Operation op w k xs)) =
    if j.needed v
    then record {
      lines =
          operation_line op w k (number_for j d xs.first) (number_for j d xs.second)
          (number_for j d xs.third)
          ∷ [];
      draft = with_name d v;
    }
    else record { lines = []; draft = d }

-- ---- packs

-- the line of a pack on the registers of its operands
abbrev pub pack_line : Job → Pack → List ℕ → Line
pack_line j (Stores us) registers =
    line.VectorStore (joint_size j.ssa us) (first_address j.ssa us) (slice_index registers 0)
pack_line j (Loads us) registers = line.VectorLoad (joint_size j.ssa us) (first_address j.ssa us)
pack_line j (Call e lanes) registers = call_of (description_at j e) registers

-- what the line gives: a store gives nothing
abbrev pub with_pack : Draft → ℕ → Pack → Draft
with_pack d k (Stores us) = d
with_pack d k (Loads us) = with_held d k
with_pack d k (Call e lanes) = with_held d k

-- the operands, the line, and after it what is taken out of its register
abbrev pub pack_lines : Job → Draft → ℕ → Pack → Made
pack_lines j d k p =
    let operands = build_all j d (takes_at j k) in
    let behind = with_pack operands.draft k p in
    let width = width_for (lane_width_of j.descriptions j.ssa p) in
    let rest = extracts j behind operands.draft.vectors width 0 (lanes_of p) in
    record {
      lines = operands.lines ++ pack_line j p operands.registers ∷ rest.lines;
      draft = rest.draft;
    }

-- ---- orders

abbrev pub node_lines : Job → Draft → Node → Made
node_lines j d (PackAt k) = pack_lines j d k (pack_at j k)
node_lines j d (UnitAt v) = unit_lines j d v (unit_at j.ssa v)

-- the lines of nodes in this order
abbrev pub emitted : Job → Draft → List Node → List Line
emitted j d [] = []
emitted j d (n ∷ ns) = let made = node_lines j d n in made.lines ++ emitted j made.draft ns
