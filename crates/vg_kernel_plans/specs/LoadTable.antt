-- Load groups by their numbers, and for each unit the numbers of the groups that have it.
use Rattle.std.specs.Prelude.{◌≡◌, ◌<◌, ◌≤◌, ℕ, ℤ, ◌^◌, ◌&&◌, Bool, true, false, List, [], ◌∷◌, filter, get_or, length, nat_eq, nat_le, nat_lt, Option, Some, None, if◌then◌else◌}
use Rattle.std.specs.List.{list_any}
use Rattle.vg_base.specs.declared.address.Address.{Address}
use Rattle.vg_base.specs.declared.width.Width.{Width}
use Rattle.vg_plans.specs.Members.{Has}
use Rattle.vg_plans.specs.World.{is_in}
use Rattle.vg_shapes.specs.declared.operand.Operand.{Operand}
use Rattle.vg_shapes.specs.declared.pack.Pack.{Pack}
use Rattle.vg_shapes.specs.declared.pack.Pack.TheVariants.{Loads}
use Rattle.vg_shapes.specs.declared.ssa.Ssa.{Ssa}
use Rattle.vg_shapes.specs.Order.{numbers_from}
use Rattle.vg_shapes.specs.Pack.{units_of}
use Rattle.vg_kernel_plans.specs.declared.load_groups.LoadGroups.{LoadGroups}
use Rattle.vg_kernel_plans.specs.declared.register_groups.RegisterGroups.{RegisterGroups}
use Rattle.vg_kernel_plans.specs.LoadGroups.{is_part, load_groups}
use Rattle.vg_kernel_plans.specs.Wants.{wanted_values}

-- a place of a pointer
abbrev pub place : ℕ → ℤ → Address
place pointer offset = record { pointer = pointer; offset = offset }

abbrev pub no_group : Pack
no_group = Loads []

abbrev pub group_at : List Pack → ℕ → Pack
group_at groups k = get_or groups k no_group

-- a group of this number is there, and has this unit
abbrev pub has_unit : List Pack → ℕ → ℕ → Bool
has_unit groups v k = nat_lt k (length groups) && is_in v (units_of (group_at groups k))

-- the numbers of the groups that have a unit
abbrev pub numbers_of : List Pack → ℕ → List ℕ
numbers_of groups v = filter (has_unit groups v) (numbers_from 0 (length groups))

-- for each unit the numbers of the groups that have it, and of no other number any
pub record IsTable (groups : List Pack) (table : List (List ℕ)) : Type 0 where
  pub numbers : (v : ℕ) → v < length table → get_or table v [] ≡ numbers_of groups v
  pub others : (v k : ℕ) → length table ≤ v → has_unit groups v k ≡ false

pub record AreGroups (g : RegisterGroups) : Type 0 where
  pub table : IsTable g.groups.items g.numbers.items
  pub few : length g.groups.items ≤ 2 ^ 24

-- the groups of each register with their tables
pub record HaveTables (g : LoadGroups) : Type 0 where
  pub of_512 : AreGroups g.of_512
  pub of_256 : AreGroups g.of_256
  pub of_128 : AreGroups g.of_128

-- the groups of a register
abbrev pub groups_at : LoadGroups → ℕ → List Pack
groups_at g register =
    if nat_eq register 512 then g.of_512.groups.items
    else if nat_eq register 256 then g.of_256.groups.items
    else if nat_eq register 128 then g.of_128.groups.items
    else []

-- the groups that have one of these units
abbrev pub having : List Pack → List ℕ → List Pack
having groups units = filter (λ g. list_any (λ v. is_in v (units_of g)) units) groups

-- the groups of an operand's register that have a value that it wants
abbrev pub feeders_in : LoadGroups → Operand → List Pack
feeders_in g o = having (groups_at g o.register) (wanted_values o)

-- all load groups of a kernel where they are tried, else none
pub record AreLoadGroups (ssa : Ssa) (g : LoadGroups) : Type 0 where
  pub tables : HaveTables g
  pub groups :
      (register : ℕ) → groups_at g register ≡ (if g.choice.fed then load_groups ssa register else [])

-- ---- how they are found

-- so many bytes, if they are a part of what is left, else what is found otherwise
abbrev pub part_or : Width → ℕ → ℕ → Option ℕ → Option ℕ
part_or w left size otherwise = if is_part w left size then Some size else otherwise

-- the units of all groups are below a number
abbrev pub HaveUnitsBelow : List Pack → ℕ → Type 0
HaveUnitsBelow groups n = (g : Pack) → Has g groups → (v : ℕ) → is_in v (units_of g) ≡ true → v < n

-- a lane has this value
abbrev pub is_lane : ℕ → Option ℕ → Bool
is_lane v None = false
is_lane v (Some u) = nat_eq v u

abbrev pub is_below : ℕ → Option ℕ → Bool
is_below n None = true
is_below n (Some m) = nat_lt n m

-- the least number from one on, among these and one that was found
abbrev pub least_onto : ℕ → Option ℕ → List ℕ → Option ℕ
least_onto from found [] = found
least_onto from found (n ∷ ns) =
    least_onto from (if nat_le from n && is_below n found then Some n else found) ns

-- from this number on a group of this number has one of these units
abbrev pub is_wanted_from : List Pack → List ℕ → ℕ → ℕ → Bool
is_wanted_from groups units from k = nat_le from k && list_any (λ v. has_unit groups v k) units

-- the least number of which a test holds, if it holds of any
abbrev pub IsLeast : (ℕ → Bool) → Option ℕ → Type 0
IsLeast test None = (k : ℕ) → test k ≡ false
IsLeast test (Some n) = (test n ≡ true) × ((k : ℕ) → k < n → test k ≡ false)
