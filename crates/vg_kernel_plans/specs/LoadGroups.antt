-- Load groups: the loads of one pointer and width that stand beside each other in memory, cut into
-- parts each of which a line can load; and which of them have something of what an operand wants.
use Rattle.std.specs.Prelude.{ℕ, zero, suc, ℤ, pos, negsuc, ◌+◌, ◌-◌, ◌/◌, ◌^◌, ◌&&◌, not, Bool, List, [], ◌∷◌, length, take, drop, filter, find, Option, Some, None, nat_eq, nat_le}
use Rattle.std.specs.List.{flat_map, list_any}
use Rattle.std.specs.Ordering.{int_eq}
use Rattle.vg_base.specs.declared.address.Address.{Address}
use Rattle.vg_base.specs.declared.width.Width.{Width}
use Rattle.vg_base.specs.Width.{bits_of, size_of}
use Rattle.vg_plans.specs.Levels.{distinct, sort_by}
use Rattle.vg_plans.specs.World.{is_in}
use Rattle.vg_shapes.specs.declared.operand.Operand.{Operand}
use Rattle.vg_shapes.specs.declared.pack.Pack.{Pack}
use Rattle.vg_shapes.specs.declared.pack.Pack.TheVariants.{Loads}
use Rattle.vg_shapes.specs.declared.ssa.Ssa.{Ssa}
use Rattle.vg_shapes.specs.declared.ssa_unit.SsaUnit.{SsaUnit}
use Rattle.vg_shapes.specs.declared.ssa_unit.SsaUnit.TheVariants.{Load, Store, Operation}
use Rattle.vg_shapes.specs.Pack.{behind, units_of}
use Rattle.vg_shapes.specs.Units.{unit_at}
use Rattle.vg_kernel_plans.specs.declared.first_loads.PlacedLoad.{PlacedLoad}
use Rattle.vg_kernel_plans.specs.Groups.{ahead, unit_numbers}
use Rattle.vg_kernel_plans.specs.Taken.{register_of_bytes}
use Rattle.vg_kernel_plans.specs.Wants.{wanted_values}

-- ---- the loads of a kernel by their places

-- a unit with its place, if it is a load
abbrev pub placed_load : ℕ → Option SsaUnit → List PlacedLoad
placed_load v None = []
placed_load v (Some (Load a w)) = record { unit = v; address = a; width = w } ∷ []
placed_load v (Some (Store a w x)) = []
placed_load v (Some (Operation op w k xs)) = []

-- it loads this width from this address
abbrev pub loads_at : Address → Width → PlacedLoad → Bool
loads_at a w l =
    nat_eq l.address.pointer a.pointer
    && (int_eq l.address.offset a.offset && nat_eq (bits_of l.width) (bits_of w))

abbrev pub same_place : PlacedLoad → PlacedLoad → Bool
same_place l m = loads_at m.address m.width l

-- all loads, in order
abbrev pub all_loads : Ssa → List PlacedLoad
all_loads ssa = flat_map (λ v. placed_load v (unit_at ssa v)) (unit_numbers ssa)

-- of several at one place the first
abbrev pub first_loads : Ssa → List PlacedLoad
first_loads ssa = distinct same_place (all_loads ssa)

-- ---- runs

-- no load stands right ahead of it
abbrev pub begins_run : List PlacedLoad → PlacedLoad → Bool
begins_run loads l = not (list_any (loads_at (ahead l.address (size_of l.width)) l.width) loads)

-- the loads from a place on, each right after the one before, at most so many
abbrev pub run_at : List PlacedLoad → Address → Width → ℕ → List ℕ
run_at loads a w zero = []
run_at loads a w (suc n) =
    elim (find (loads_at a w) loads) as (λ l. List ℕ) [
      | None ↦ []
      | Some l ↦ l.unit ∷ run_at loads (behind a (size_of w)) w n
    ]

-- the run that a load begins
abbrev pub run_of : List PlacedLoad → PlacedLoad → List ℕ
run_of loads l = run_at loads l.address l.width (length loads)

-- how far an offset is from the least one that can be written
abbrev pub above_least : ℤ → ℕ
above_least (pos n) = 2 ^ 31 + n
above_least (negsuc n) = 2 ^ 31 - suc n

-- the loads that begin runs: by pointer, of one pointer by width, and of one width by offset, each rising
abbrev pub run_begins : List PlacedLoad → List PlacedLoad
run_begins loads =
    sort_by (λ l. l.address.pointer)
    (sort_by (λ l. bits_of l.width)
    (sort_by (λ l. above_least l.address.offset) (filter (begins_run loads) loads)))

-- ---- groups

-- the sizes in bytes of what is loaded into a register of this width, falling
abbrev pub sizes_in : ℕ → List ℕ
sizes_in register =
    filter (λ n. nat_eq (register_of_bytes n) register) (64 ∷ 32 ∷ 16 ∷ 8 ∷ 4 ∷ [])

-- so many bytes are at least two loads of this width, and no more than are left
abbrev pub is_part : Width → ℕ → ℕ → Bool
is_part w left size = nat_le 2 (size / size_of w) && nat_le (size / size_of w) left

-- loads beside each other, cut from the least offset upwards: at each place the largest part, as long as
-- there is one, and at most so many
abbrev pub cut_from : ℕ → Width → ℕ → List ℕ → List Pack
cut_from register w zero us = []
cut_from register w (suc n) us =
    elim (find (is_part w (length us)) (sizes_in register)) as (λ s. List Pack) [
      | None ↦ []
      | Some size ↦
          Loads (take (size / size_of w) us) ∷ cut_from register w n (drop (size / size_of w) us)
    ]

-- the groups of the run that a load begins
abbrev pub groups_in : ℕ → List PlacedLoad → PlacedLoad → List Pack
groups_in register loads l =
    cut_from register l.width (length (run_of loads l)) (run_of loads l)

-- the load groups of a register, by pointer, width and offset
abbrev pub load_groups : Ssa → ℕ → List Pack
load_groups ssa register =
    flat_map (groups_in register (first_loads ssa)) (run_begins (first_loads ssa))

-- it has a value that the operand wants
abbrev pub feeds : Operand → Pack → Bool
feeds o g = list_any (λ v. is_in v (units_of g)) (wanted_values o)

-- the load groups of an operand's register that have a value that it wants
abbrev pub feeders : Ssa → Operand → List Pack
feeders ssa o = filter (feeds o) (load_groups ssa o.register)
