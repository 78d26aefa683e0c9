-- When emitted programs keep the rules on programs.
use Rattle.std.specs.Prelude.{◌≡◌, ℕ, ◌*◌, ◌<◌, ◌≤◌, ◌^◌, List, length, map, slice_get, Option, Some, None, IsSomeAnd, IsTrue}
use Rattle.std.specs.List.{AllByRecursion}
use Rattle.vg_pseudo.specs.declared.header.Header.{Header}
use Rattle.vg_program.specs.declared.line.Line.{Line}
use Rattle.vg_program.specs.declared.line.Line.TheVariants as line
use Rattle.vg_program.specs.Cost.{cost_of}
use Rattle.vg_program.specs.Valid.{header_of, IsConstant, IsImm, KeepsRules}
use Rattle.vg_program.specs.Vectors.{constant_bits}
use Rattle.vg_shapes.specs.declared.match_table.Match.{Match}
use Rattle.vg_shapes.specs.declared.operand.Operand.{Operand}
use Rattle.vg_shapes.specs.declared.order.Node.{Node}
use Rattle.vg_shapes.specs.declared.pack.Pack.{Pack}
use Rattle.vg_shapes.specs.declared.pack.Pack.TheVariants.{Call}
use Rattle.vg_shapes.specs.declared.ssa.Ssa.{Ssa}
use Rattle.vg_shapes.specs.Description.{Description}
use Rattle.vg_shapes.specs.Nodes.{IsOrder}
use Rattle.vg_shapes.specs.Sound.{value_bits}
use Rattle.vg_text.specs.Byte.{is_name_text}
use Rattle.vg_kernel_plans.specs.declared.recipe.Recipe.{Recipe}
use Rattle.vg_kernel_plans.specs.declared.recipe.Recipe.TheVariants as recipe
use Rattle.vg_kernel_plans.specs.Held.{lane_width_of, register_of}
use Rattle.vg_emission.specs.Emission.{Job, description_at, operand_at, pack_at, recipe_at}
use Rattle.vg_emission.specs.Planned.{IsPlanned}
use Rattle.vg_emission.specs.Program.{job_of, program_of}

-- an instruction is called as a description says
pub record IsCalled (d : Description) (h : Header) : Type 0 where
  pub params : map (λ q. q.register) h.params ≡ d.params
  pub immediate : IsImm h.imm d.imm
  pub register : d.register ≡ h.register
  pub cost : d.cost ≡ h.cost

abbrev pub HasHeader : List Header → Description → Type 0
HasHeader headers d =
    IsTrue (is_name_text d.name) × IsSomeAnd (header_of headers d.name) (IsCalled d)

-- the lanes of a call are in its register, and their values have their width
abbrev pub LaneFits : Ssa → ℕ → Option ℕ → Type 0
LaneFits ssa w None = Unit {0}
LaneFits ssa w (Some v) = value_bits ssa v ≡ Some w

pub record LanesFit (ds : List Description) (ssa : Ssa) (e : ℕ) (lanes : List (Option ℕ)) : Type 0 where
  pub inside : length lanes * lane_width_of ds ssa (Call e lanes) ≤ register_of ds ssa (Call e lanes)
  pub few : length lanes ≤ 64
  pub widths : AllByRecursion (LaneFits ssa (lane_width_of ds ssa (Call e lanes))) lanes

-- a recipe gives a register of the width of its operand
abbrev pub RecipeFits : Job → Operand → Recipe → Type 0
RecipeFits j o (recipe.Reuse k) = register_of j.descriptions j.ssa (pack_at j k) ≡ o.register
RecipeFits j o (recipe.Constant bs) = IsConstant bs × (constant_bits (length bs) ≡ o.register)
RecipeFits j o (recipe.Shuffle e packs) =
    (e < length j.descriptions)
    × ((description_at j e).register ≡ o.register)
    × (map (λ k. register_of j.descriptions j.ssa (pack_at j k)) packs ≡ (description_at j e).params)
RecipeFits j o recipe.Inserts = Unit {0}

-- The descriptions are those of instructions, calls have their lanes in their registers, and recipes
-- give registers of the widths of their operands.
pub record AreFit (j : Job) (headers : List Header) : Type 0 where
  pub described : AllByRecursion (HasHeader headers) j.descriptions
  pub calls : (k e : ℕ) (lanes : List (Option ℕ)) → slice_get j.packs k ≡ Some (Call e lanes)
      → LanesFit j.descriptions j.ssa e lanes
  pub recipes : (o : ℕ) → o < length j.operands
      → RecipeFits j (operand_at j o) (recipe_at j o)

-- the program that is emitted for packs keeps the rules on programs, whatever its text is long
abbrev pub EmittedKeepsRules : Type 0
EmittedKeepsRules =
    (headers : List Header) (ds : List Description) (matches : List Match) (ssa : Ssa)
    (packs : List Pack) (recipes : List Recipe) (order : List Node) →
    IsPlanned (job_of ds matches ssa packs recipes) → IsOrder ssa matches packs order →
    AreFit (job_of ds matches ssa packs recipes) headers →
    cost_of (program_of ds matches ssa packs recipes order) < 2 ^ 32 →
    KeepsRules headers (program_of ds matches ssa packs recipes order)

-- a call is that of a description; what else its line has is not looked at
abbrev pub IsDescribed : List Description → Line → Type 0
IsDescribed ds (line.Call name registers imm bits cost) =
    (e : ℕ) × (d : Description) × (slice_get ds e ≡ Some d) × (name ≡ d.name) × (imm ≡ d.imm)
IsDescribed ds _ = Unit {0}

abbrev pub CallsDescribed : List Description → List Line → Type 0
CallsDescribed ds ls = AllByRecursion (IsDescribed ds) ls

-- the program that is emitted for packs calls described instances alone
abbrev pub EmittedCallsDescribed : Type 0
EmittedCallsDescribed =
    (headers : List Header) (ds : List Description) (matches : List Match) (ssa : Ssa)
    (packs : List Pack) (recipes : List Recipe) (order : List Node) →
    IsPlanned (job_of ds matches ssa packs recipes) → IsOrder ssa matches packs order →
    AreFit (job_of ds matches ssa packs recipes) headers →
    CallsDescribed ds (program_of ds matches ssa packs recipes order).lines
