-- The terms of a kernel on the way.
use Rattle.std.specs.Prelude.{◌≡◌, ℕ, ◌≤◌, Bool, false, List, [], ◌∷◌, ◌++◌, drop, length, take}
use Rattle.std.specs.List.{list_any}
use Rattle.vg_base.specs.Width.{bits_of}
use Rattle.vg_terms.specs.Order.{is_same_term}
use Rattle.vg_terms.specs.Term.{Tree, leaf}
use Rattle.vg_shapes.specs.declared.ssa.SsaParam.{SsaParam}
use Rattle.vg_shapes.specs.declared.ssa.SsaParamKind.{SsaParamKind}
use Rattle.vg_shapes.specs.declared.ssa.SsaParamKind.TheVariants.{Pointer, Integer}
use Rattle.vg_shapes.specs.declared.ssa_unit.SsaUnit.{SsaUnit}
use Rattle.vg_shapes.specs.Sound.{argument_key}
use Rattle.vg_shapes.specs.Units.{integers_of}
use Rattle.vg_known.specs.Cuts.{met_with}
use Rattle.vg_known.specs.Kernels.{argument_leaves, Terms, terms_behind}

-- the terms of parameters, and those that were met, with those of one parameter more
abbrev pub argument_terms : SsaParamKind → List Tree → List Tree
argument_terms (Pointer noalias) ts = ts
argument_terms (Integer w) ts = ts ++ leaf (bits_of w) (argument_key (length ts)) ∷ []

abbrev pub argument_met : SsaParamKind → ℕ → List Tree → List Tree
argument_met (Pointer noalias) n met = met
argument_met (Integer w) n met = met_with met (leaf (bits_of w) (argument_key n))

-- these are the leaves of the parameters before the rest, no two of one number, and each was met
pub record Begun (ts met : List Tree) (rest : List SsaParam) (all : List Tree) : Type 0 where
  pub all_met : met ≡ ts
  pub is : ts ++ argument_leaves (length ts) (integers_of rest) ≡ all
  pub fresh : (w n : ℕ) → length ts ≤ n → list_any (is_same_term (leaf w (argument_key n))) ts ≡ false

-- these are the terms of the units before a place
pub record Termed (flags : List Bool) (first : ℕ) (units : List SsaUnit) (place : ℕ) (s all : Terms) : Type 0 where
  pub is : terms_behind flags first (take place units) s (drop place units) ≡ all
