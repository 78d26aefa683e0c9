-- Units over parameters as numbered values, whatever kernel they are of.
use Rattle.std.specs.Prelude.{◌≡◌, ◌≤◌, ℕ, List, [], length, map, filter, not, Option, Some, None, IsTrue}
use Rattle.std.specs.List.{AllByRecursion, IsDistinct, filter_map}
use Rattle.std.specs.Str.{bytes_eq}
use Rattle.vg_base.specs.declared.width.Width.{Width}
use Rattle.vg_shapes.specs.declared.ssa.Ssa.{Ssa}
use Rattle.vg_shapes.specs.declared.ssa.SsaParam.{SsaParam}
use Rattle.vg_shapes.specs.declared.ssa.SsaParamKind.{SsaParamKind}
use Rattle.vg_shapes.specs.declared.ssa.SsaParamKind.TheVariants.{Pointer, Integer}
use Rattle.vg_shapes.specs.declared.ssa_unit.SsaUnit.{SsaUnit}
use Rattle.vg_shapes.specs.Sound.{IsUnit, TakeEarlier, cuts_of, is_store, terms_of}
use Rattle.vg_shapes.specs.Units.{arguments}
use Rattle.vg_ssa.specs.declared.value_terms.Depth.{Depth}
use Rattle.vg_ssa.specs.declared.value_terms.Depth.TheVariants.{Whole, Cut}
use Rattle.vg_ssa.specs.declared.value_terms.ValueTerms.{ValueTerms}
use Rattle.vg_ssa.specs.ValueTerm.{argument_terms, terms_behind}
use Rattle.vg_terms.specs.Term.{Tree, tree}
use Rattle.vg_text.specs.Byte.{is_name_text}

-- the width of an integer parameter
abbrev pub width_of_kind : SsaParamKind → Option Width
width_of_kind (Pointer noalias) = None
width_of_kind (Integer w) = Some w

-- the widths of the parameters that are integers, in order
abbrev pub widths_of : List SsaParam → List Width
widths_of params = filter_map (λ p. width_of_kind p.kind) params

-- units over parameters, before their values have terms
abbrev pub without_terms : List ℕ → List SsaParam → List SsaUnit → Ssa
without_terms name params units =
    record { name = name; params = params; units = units; terms = []; cuts = [] }

-- The names and the limits are those of kernels, and units take earlier values of the widths that they
-- want. Terms count for nothing.
pub record CanBeNumbered (ssa : Ssa) : Type 0 where
  pub name : IsTrue (is_name_text ssa.name)
  pub names : AllByRecursion (λ p. IsTrue (is_name_text p.name)) ssa.params
  pub distinct : IsDistinct bytes_eq (map (λ p. p.name) ssa.params)
  pub params : length ssa.params ≤ 16
  pub stores : length (filter is_store ssa.units) ≤ 4096
  pub uses : length (filter (λ u. not (is_store u)) ssa.units) ≤ 8192
  pub units : AllByRecursion (IsUnit ssa) ssa.units
  pub earlier : TakeEarlier (arguments ssa) ssa.units

-- the terms that the code has so far
abbrev pub trees_of : ValueTerms → List Tree
trees_of known = map tree known.terms.items

-- the terms of the values of units over parameters
abbrev pub terms_over : Depth → List SsaParam → List SsaUnit → List Tree
terms_over d params units =
    terms_behind d (length (widths_of params)) (argument_terms 0 (widths_of params)) units

-- these units over these parameters, each value with its term
pub record AreNumbered (name : List ℕ) (params : List SsaParam) (units : List SsaUnit)
    (ssa : Ssa) : Type 0 where
  pub named : ssa.name ≡ name
  pub over : ssa.params ≡ params
  pub made_of : ssa.units ≡ units
  pub terms : terms_of ssa ≡ terms_over Whole params units

-- and with its cut term
abbrev pub HaveCuts : List SsaParam → List SsaUnit → Ssa → Type 0
HaveCuts params units ssa = cuts_of ssa ≡ terms_over Cut params units
