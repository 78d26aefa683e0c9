-- Which units are planned for a kernel, and how their values are numbered.
use Rattle.std.specs.Prelude.{◌≡◌, List, [], map, true, false}
use Rattle.vg_kernel.specs.Tree.{Tree}
use Rattle.vg_rewrite.specs.Narrowed.{narrowed_units}
use Rattle.vg_rewrite.specs.Repeated.{repeated_units}
use Rattle.vg_rewrite.specs.Rewritten.{are_few, over, StandsForApart}
use Rattle.vg_shapes.specs.declared.ssa.Ssa.{Ssa}
use Rattle.vg_shapes.specs.declared.ssa_unit.SsaUnit.{SsaUnit}
use Rattle.vg_ssa.specs.Cuts.{HasCuts}
use Rattle.vg_ssa.specs.Numbering.{IsNumbering, param_of}
use Rattle.vg_ssa.specs.OfUnits.{AreNumbered, HaveCuts}
use Rattle.vg_compile.specs.declared.rewriting.Rewriting.{Rewriting}
use Rattle.vg_compile.specs.declared.rewriting.Rewriting.TheVariants.{Own, Repeated, Narrowed, NarrowedRepeated}

-- ---- units

-- the units that are made so of those of numbered values
abbrev pub units_by : Rewriting → Ssa → List SsaUnit
units_by Own ssa = ssa.units
units_by Repeated ssa = repeated_units ssa
units_by Narrowed ssa = narrowed_units ssa
units_by NarrowedRepeated ssa = repeated_units (over ssa (narrowed_units ssa))

-- they are more than 8,192 loads and operations
abbrev pub AreTooMany : Rewriting → Tree → Type 0
AreTooMany rewriting k =
    (own : Ssa) × IsNumbering k own × (are_few (units_by rewriting own) ≡ false)

-- ---- values

-- the values of units that are made of a kernel's own, at most 8,192 loads and operations
pub record AreRewritten (rewriting : Rewriting) (k : Tree) (ssa : Ssa) : Type 0 where
  pub own : Ssa
  pub is_own : IsNumbering k own
  pub few : are_few (units_by rewriting own) ≡ true
  pub numbered : AreNumbered own.name own.params (units_by rewriting own) ssa

-- a kernel's own values, or those
abbrev pub AreValues : Rewriting → Tree → Ssa → Type 0
AreValues Own k ssa = IsNumbering k ssa
AreValues Repeated k ssa = AreRewritten Repeated k ssa
AreValues Narrowed k ssa = AreRewritten Narrowed k ssa
AreValues NarrowedRepeated k ssa = AreRewritten NarrowedRepeated k ssa

-- each with its cut term
abbrev pub HaveCutTerms : Rewriting → Tree → Ssa → Type 0
HaveCutTerms Own k ssa = HasCuts k ssa
HaveCutTerms Repeated k ssa = HaveCuts ssa.params ssa.units ssa
HaveCutTerms Narrowed k ssa = HaveCuts ssa.params ssa.units ssa
HaveCutTerms NarrowedRepeated k ssa = HaveCuts ssa.params ssa.units ssa

-- the values of units of a kernel, which lanes fit whole alone
abbrev pub AreWholeBy : Rewriting → Tree → Ssa → Type 0
AreWholeBy rewriting k ssa = AreValues rewriting k ssa × (ssa.cuts ≡ [])

-- with their cut terms, which lanes fit whole, cut or turned
abbrev pub AreWideBy : Rewriting → Tree → Ssa → Type 0
AreWideBy rewriting k ssa = AreValues rewriting k ssa × HaveCutTerms rewriting k ssa

-- ---- in the place of a kernel

-- values of the name and the parameters of a kernel, whose units do as the kernel does in each layout
-- that respects its noalias
pub record StandIn (k : Tree) (ssa : Ssa) : Type 0 where
  pub named : ssa.name ≡ k.name
  pub over : ssa.params ≡ map param_of k.params
  pub apart : StandsForApart k ssa
