-- Runs of loads: what they are, by the units of a kernel alone.
use Rattle.std.specs.Prelude.{◌≡◌, ◌≤◌, ℕ, List, [], ◌∷◌, Some}
use Rattle.vg_base.specs.declared.address.Address.{Address}
use Rattle.vg_base.specs.declared.width.Width.{Width}
use Rattle.vg_base.specs.Width.{size_of}
use Rattle.vg_kernel_plans.specs.Groups.{ahead}
use Rattle.vg_kernel_plans.specs.LoadGroups.{first_loads}
use Rattle.vg_shapes.specs.declared.ssa.Ssa.{Ssa}
use Rattle.vg_shapes.specs.declared.ssa_unit.SsaUnit.TheVariants.{Load}
use Rattle.vg_shapes.specs.Pack.{behind}
use Rattle.vg_shapes.specs.Units.{unit_at}

-- what lists of a kernel list
abbrev MemberOf : {X : Type 0} → (Ssa → List X) → Type 0
MemberOf {X} lists = X

-- a load and where it loads: its unit, address and width
abbrev pub PlacedLoad : Type 0
PlacedLoad = MemberOf first_loads

-- some unit loads this width from this address
abbrev pub IsLoaded : Ssa → Address → Width → Type 0
IsLoaded ssa a w = (v : ℕ) × (unit_at ssa v ≡ Some (Load a w))

-- the first unit that loads this width from this address
pub record IsFirstLoad (ssa : Ssa) (a : Address) (w : Width) (v : ℕ) : Type 0 where
  pub load : unit_at ssa v ≡ Some (Load a w)
  pub first : (u : ℕ) → unit_at ssa u ≡ Some (Load a w) → v ≤ u

-- the first loads of a width from consecutive places, the first of which is this one, up to a place from
-- which nothing of that width is loaded
abbrev pub RunOn : Ssa → Width → Address → List ℕ → Type 0
RunOn ssa w a [] = IsLoaded ssa a w → ⊥
RunOn ssa w a (u ∷ us) = IsFirstLoad ssa a w u × RunOn ssa w (behind a (size_of w)) us

-- the whole run that a load begins: right ahead of it nothing of its width is loaded
pub record IsWholeRun (ssa : Ssa) (l : PlacedLoad) (run : List ℕ) : Type 0 where
  pub begins : (others : List ℕ) × (run ≡ l.unit ∷ others)
  pub none_ahead : IsLoaded ssa (ahead l.address (size_of l.width)) l.width → ⊥
  pub goes_on : RunOn ssa l.width l.address run
