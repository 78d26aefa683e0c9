-- Numbers below which a plan needs no look, and plans that grow.
use Rattle.std.specs.Prelude.{◌≡◌, ◌<◌, ◌≤◌, ◌⊎◌, ℕ, ◌+◌, Bool, false, List, length, get_or}
use Rattle.vg_plans.specs.Members.{Has}
use Rattle.vg_kernel_plans.specs.Packing.{needs_of}
use Rattle.vg_shapes.specs.declared.match_table.Match.{Match}
use Rattle.vg_shapes.specs.declared.pack.Pack.{Pack}
use Rattle.vg_shapes.specs.declared.ssa.Ssa.{Ssa}
use Rattle.vg_shapes.specs.Pack.{units_of}
use Rattle.vg_shapes.specs.Units.{arguments}
use Rattle.vg_packs.specs.declared.growing.GrowingPlan.{GrowingPlan}
use Rattle.vg_packs.specs.Marks.{AreMarks}
use Rattle.vg_packs.specs.Walk.{IsFree, is_in_plan}

-- units below a floor depend on units below it alone, and none of them is of the pack
pub record IsFloor (needs : ℕ → List ℕ) (own : ℕ → Bool) (floor : ℕ) : Type 0 where
  pub closed : (v x : ℕ) → v < floor → Has x (needs v) → x < floor
  pub away : (v : ℕ) → v < floor → own v ≡ false

-- no number of a list is below this one, and none is above it
abbrev pub IsLowest : ℕ → List ℕ → Type 0
IsLowest low vs = (v : ℕ) → Has v vs → low ≤ v

abbrev pub IsHighest : ℕ → List ℕ → Type 0
IsHighest high vs = (v : ℕ) → Has v vs → v ≤ high

-- a pack lies beside a number: its units are from there on, or they and all on which it depends are below
pub record IsBelow (matches : List Match) (ssa : Ssa) (deps : List (ℕ × ℕ)) (f : ℕ) (p : Pack) : Type 0 where
  pub units : (v : ℕ) → Has v (units_of p) → v < f
  pub needs : (x : ℕ) → Has x (needs_of matches ssa deps p) → x < f

abbrev pub IsBeside : List Match → Ssa → List (ℕ × ℕ) → ℕ → Pack → Type 0
IsBeside matches ssa deps f p = IsLowest f (units_of p) ⊎ IsBelow matches ssa deps f p

-- each pack of a plan lies beside each number that is not marked
abbrev pub MarksSpans : List Match → Ssa → List (ℕ × ℕ) → List Pack → List Bool → Type 0
MarksSpans matches ssa deps plan spanned =
    (f : ℕ) → f < length spanned → get_or spanned f false ≡ false →
    (p : Pack) → Has p plan → IsBeside matches ssa deps f p

-- the marks that stood, and those of the numbers that lie within a pack: it lies beside all others
pub record MarksSpan (matches : List Match) (ssa : Ssa) (deps : List (ℕ × ℕ)) (p : Pack)
    (spanned new_spanned : List Bool) : Type 0 where
  pub long : length new_spanned ≡ length spanned
  pub stays : (f : ℕ) → f < length spanned → get_or new_spanned f false ≡ false → get_or spanned f false ≡ false
  pub beside : (f : ℕ) → f < length spanned → get_or new_spanned f false ≡ false → IsBeside matches ssa deps f p

-- the marks of a plan that grows are those of its packs, and it has no cycle
pub record IsGrown (matches : List Match) (ssa : Ssa) (deps : List (ℕ × ℕ)) (g : GrowingPlan) : Type 0 where
  pub packed : AreMarks (arguments ssa + length ssa.units) (is_in_plan g.packs.items) g.packed.items
  pub long : length g.spanned.items ≡ arguments ssa + length ssa.units
  pub spans : MarksSpans matches ssa deps g.packs.items g.spanned.items
  pub free : IsFree matches ssa deps g.packs.items
