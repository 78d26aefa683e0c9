-- The units of a kernel over its parameters, numbered.
use Rattle.std.proofs.Common.{◌≡◌, ℕ, suc, List, [], ◌∷◌, length, map, Option, Some, None, refl, sym, ap, subst, ◌∙◌, arith}
use Rattle.std.specs.Prelude.{filter, if◌then◌else◌}
use Rattle.std.specs.List.{cons_option}
use Rattle.vg_base.specs.declared.width.Width.{Width}
use Rattle.vg_kernel.specs.declared.parameter.KParam.{KParam}
use Rattle.vg_kernel.specs.declared.parameter.KParamKind.{KParamKind}
use Rattle.vg_kernel.specs.declared.parameter.KParamKind.TheVariants as kinds
use Rattle.vg_kernel.specs.declared.statement.KStmt.{KStmt}
use Rattle.vg_kernel.specs.WellFormed.{integer_widths, IsWellFormed}
use Rattle.vg_kernel.specs.Tree.{statement_of, Tree as Kernel}
use Rattle.vg_shapes.specs.declared.ssa.Ssa.{Ssa}
use Rattle.vg_shapes.specs.declared.ssa.SsaParam.{SsaParam}
use Rattle.vg_shapes.specs.declared.ssa_unit.SsaUnit.{SsaUnit}
use Rattle.vg_ssa.specs.declared.value_terms.Depth.TheVariants.{Whole, Cut}
use Rattle.vg_shapes.specs.Units.{is_integer}
use Rattle.vg_ssa.specs.Built.{Built, CanTake, next}
use Rattle.vg_ssa.specs.Cuts.{HasCuts}
use Rattle.vg_ssa.specs.Numbering.{first_unit, IsNumbering, kind_of, param_of, units_from, units_of}
use Rattle.vg_ssa.specs.OfUnits.{AreNumbered, CanBeNumbered, HaveCuts, terms_over, without_terms}
use Rattle.vg_ssa.proofs.Enough.{kernel-few}
use Rattle.vg_ssa.proofs.Soundness.{kernel-terms}

-- what the code has is the kernel's
pub record AreOf (k : Kernel) (name : List ℕ) (params : List SsaParam) (units : List SsaUnit) : Type 0 where
  pub named : name ≡ k.name
  pub over : params ≡ map param_of k.params
  pub made_of : units ≡ units_of k

pub can-of : (k : Kernel) (name : List ℕ) (params : List SsaParam) (units : List SsaUnit) → AreOf k name params units → CanBeNumbered (without_terms k.name (map param_of k.params) units) → CanBeNumbered (without_terms name params units)
can-of k name params units is h = subst CanBeNumbered (λ i. without_terms (sym is.named i) (sym is.over i) units) h

pub numbering-of : (k : Kernel) (name : List ℕ) (params : List SsaParam) (units : List SsaUnit) (ssa : Ssa) → AreOf k name params units → AreNumbered name params units ssa → IsNumbering k ssa
numbering-of k name params units ssa is h = record {
  name = h.named ∙ is.named;
  params = h.over ∙ is.over;
  units = h.made_of ∙ is.made_of;
  terms = h.terms ∙ (λ i. terms_over Whole (is.over i) (is.made_of i)) ∙ kernel-terms Whole k;
}

pub cuts-of : (k : Kernel) (name : List ℕ) (params : List SsaParam) (units : List SsaUnit) (ssa : Ssa) → AreOf k name params units → HaveCuts params units ssa → HasCuts k ssa
cuts-of k name params units ssa is h = h ∙ (λ i. terms_over Cut (is.over i) (is.made_of i)) ∙ kernel-terms Cut k

-- ---- the units of a kernel

count-more : (kind : KParamKind) (p : KParam) (ps : List KParam) (ws : List Width) → length ps ≡ length ws
    → length (if is_integer (kind_of kind) then p ∷ ps else ps) ≡ length (cons_option (elim kind as (λ k. Option Width) [ kinds.Pointer noalias ↦ None | kinds.Integer w ↦ Some w ]) ws)
count-more (kinds.Pointer noalias) p ps ws e = e
count-more (kinds.Integer w) p ps ws e = ap suc e

-- as many parameters are integers as have a width
pub integers-counted : (ps : List KParam) → length (filter (λ p. is_integer (kind_of p.kind)) ps) ≡ length (integer_widths ps)
integers-counted [] = refl
integers-counted (p ∷ ps) = count-more p.kind p (filter (λ q. is_integer (kind_of q.kind)) ps) (integer_widths ps) (integers-counted ps)

-- before the first unit
abbrev pub begun : ℕ → Built
begun n = record { first = n; units = []; names = [] }

begun-next : (n : ℕ) → next (begun n) ≡ n
begun-next n = omega arith

pub begun-units : (k : Kernel) (b : Built) (n : ℕ) (ss : List KStmt) → b ≡ begun n → n ≡ first_unit k → map statement_of ss ≡ k.statements → units_from (next b) b.names (map statement_of ss) ≡ units_of k
begun-units k b n ss e f g = ap (λ d. units_from (next d) d.names (map statement_of ss)) e ∙ (λ i. units_from ((begun-next n ∙ f) i) [] (g i))

pub begun-room : (k : Kernel) (b : Built) (n : ℕ) (ss : List KStmt) → IsWellFormed k → b ≡ begun n → n ≡ first_unit k → map statement_of ss ≡ k.statements → CanTake b (units_from (next b) b.names (map statement_of ss))
begun-room k b n ss good e f g =
    let few = kernel-few k good in
    let same = ap length (begun-units k b n ss e f g) in
    let at : next b ≡ first_unit k = ap next e ∙ begun-next n ∙ f in
    omega arith
