-- What is emitted for the numbered values of a kernel.
use Rattle.std.specs.Prelude.{◌≡◌, ◌≤◌, ℕ, List, length, map}
use Rattle.std.specs.List.{AllByRecursion}
use Rattle.vg_kernel.specs.Cost.{scalar_cost}
use Rattle.vg_kernel.specs.Tree.{Tree}
use Rattle.vg_pseudo.specs.declared.header.Header.{Header}
use Rattle.vg_program.specs.declared.program.Program.{Program}
use Rattle.vg_program.specs.Cost.{cost_of}
use Rattle.vg_program.specs.Meaning.{Instructions}
use Rattle.vg_program.specs.Valid.{KeepsRules}
use Rattle.vg_shapes.specs.declared.match_table.Match.{Match}
use Rattle.vg_shapes.specs.declared.order.Node.{Node}
use Rattle.vg_shapes.specs.declared.pack.Pack.{Pack}
use Rattle.vg_shapes.specs.declared.ssa.Ssa.{Ssa}
use Rattle.vg_shapes.specs.Depends.{dependences}
use Rattle.vg_shapes.specs.Description.{Description}
use Rattle.vg_shapes.specs.Nodes.{IsOrder}
use Rattle.vg_order.specs.Scheduled.{IsScheduled}
use Rattle.vg_emission.specs.Fit.{CallsDescribed, HasHeader}
use Rattle.vg_emission.specs.Laws.{MeansUnits}
use Rattle.vg_emission.specs.Program.{param_of}
use Rattle.vg_gather.specs.Recipes.{planned_program}
use Rattle.vg_plan_laws.specs.Laws.{AreTrue}
use Rattle.vg_compile.specs.Chosen as plans
use Rattle.vg_compile.specs.Chosen.{IsChosenPlan, KernelPlan, price_of}

-- The program of a plan in the order in which its packs and the units outside them are put by all
-- dependences of its kernel. That order is legal, and there is one.
abbrev pub IsEmitted : List Description → List Match → Ssa → List Pack → Program → Type 0
IsEmitted ds matches ssa packs p =
    (order : List Node) × IsOrder ssa matches packs order
    × IsScheduled (dependences ssa) ssa matches packs order
    × (p ≡ planned_program ds matches ssa packs order)

-- a program that states another scalar cost
abbrev pub with_scalar : ℕ → Program → Program
with_scalar scalar p =
    record { name = p.name; params = p.params; lines = p.lines; cost = p.cost; scalar = scalar }

-- the program of a plan of a kernel, in its order, but that it states the kernel's scalar cost; and what it
-- costs
pub record IsProgramOf (ds : List Description) (k : Tree) (plan : KernelPlan) (p : Program) : Type 0 where
  pub program : Program
  pub emitted : IsEmitted ds plan.matches plan.ssa plan.packs program
  pub is : p ≡ with_scalar (scalar_cost k) program
  pub cost : cost_of p ≡ price_of ds plan

-- The program of the chosen plan, which is the one that is told of a kernel, in its order; and what it costs.
pub record IsChosenProgram (ds : List Description) (ssa : Ssa) (width : ℕ) (p : Program) : Type 0 where
  pub matches : List Match
  pub packs : List Pack
  pub chosen : IsChosenPlan ds matches ssa width packs
  pub emitted : IsEmitted ds matches ssa packs p
  pub cost : cost_of p ≡ plans.cost_of ds matches ssa packs

-- A program for the numbered values of a kernel by the descriptions of instances. It has the kernel's name
-- and parameters and states its number of units as the scalar cost. Where the descriptions are true, it
-- leaves the memory that the units leave or traps where they do; where they are those of instructions, it
-- keeps the rules on programs and calls described instances alone. It costs at most a line for each unit.
pub record IsProgramOver (ds : List Description) (ssa : Ssa) (p : Program) : Type 0 where
  pub name : p.name ≡ ssa.name
  pub params : p.params ≡ map param_of ssa.params
  pub scalar : p.scalar ≡ length ssa.units
  pub means : (called : Instructions) → AreTrue called ds → MeansUnits called p ssa
  pub rules : (headers : List Header) → AllByRecursion (HasHeader headers) ds → KeepsRules headers p
  pub calls : (headers : List Header) → AllByRecursion (HasHeader headers) ds
      → CallsDescribed ds p.lines
  pub cost : cost_of p ≤ length ssa.units

-- such a program of the chosen plan, where the search keeps so many plans of each size
pub record IsProgramFor (ds : List Description) (ssa : Ssa) (width : ℕ) (p : Program) : Type 0 where
  pub program : IsProgramOver ds ssa p
  pub chosen : IsChosenProgram ds ssa width p
