-- The chosen plan of a kernel is one.
use Rattle.std.proofs.Common.{◌≡◌, ◌∙◌, ℕ, List, map, sym, ap, ap₂}
use Rattle.vg_kernel.specs.Tree.{Tree}
use Rattle.vg_terms.specs.declared.term.Term.{Term}
use Rattle.vg_terms.specs.Term.{tree}
use Rattle.vg_shapes.specs.declared.match_table.Match.{Match}
use Rattle.vg_shapes.specs.declared.pack.Pack.{Pack}
use Rattle.vg_shapes.specs.declared.ssa.Ssa.{Ssa}
use Rattle.vg_shapes.specs.declared.ssa.SsaParam.{SsaParam}
use Rattle.vg_shapes.specs.declared.ssa_unit.SsaUnit.{SsaUnit}
use Rattle.vg_shapes.specs.Depends.{dependences}
use Rattle.vg_shapes.specs.Description.{Description}
use Rattle.vg_kernel_plans.specs.Completed.{chosen_fed_of}
use Rattle.vg_kernel_plans.specs.Packing.{chosen_of}
use Rattle.vg_match.specs.Laws.{HaveSameValues, IsOrderedTable}
use Rattle.vg_match.proofs.OneTable.{one-table}
use Rattle.vg_compile.specs.Chosen.{AreWhole, AreWide, cost_of, IsChosenFed, IsChosenFedOver, IsChosenFedPlan, IsChosenOver, IsChosenPlan, IsChosenWhole, IsChosenWide, IsTableOf, KernelPlan}
use Rattle.vg_compile.specs.OnePlan.{AreOnePlan, OneChosenPlan}

-- ---- the values of a kernel

pub whole-values : (k : Tree) (a b : Ssa) → AreWhole k a → AreWhole k b → HaveSameValues a b
whole-values k a b x y = record {
  params = x.0.params ∙ sym y.0.params;
  units = x.0.units ∙ sym y.0.units;
  terms = x.0.terms ∙ sym y.0.terms;
  cuts = ap (λ (ts : List Term). map tree ts) (x.1 ∙ sym y.1);
}

pub wide-values : (k : Tree) (a b : Ssa) → AreWide k a → AreWide k b → HaveSameValues a b
wide-values k a b x y = record {
  params = x.0.params ∙ sym y.0.params;
  units = x.0.units ∙ sym y.0.units;
  terms = x.0.terms ∙ sym y.0.terms;
  cuts = x.1 ∙ sym y.1;
}

-- ---- plans see the parameters and the units of values alone

module _ (ds : List Description) (a b : Ssa) (same : HaveSameValues a b) where
  abbrev with_units : List SsaParam → List SsaUnit → Ssa
  with_units ps us = record { name = a.name; params = ps; units = us; terms = a.terms; cuts = a.cuts }

  chosen-same : (matches : List Match) (width : ℕ)
      → chosen_of ds matches a (dependences a) width ≡ chosen_of ds matches b (dependences b) width
  chosen-same matches width =
      λ i. chosen_of ds matches (with_units (same.params i) (same.units i)) (dependences (with_units (same.params i) (same.units i))) width

  fed-same : (matches : List Match) (width : ℕ)
      → chosen_fed_of ds matches a (dependences a) width ≡ chosen_fed_of ds matches b (dependences b) width
  fed-same matches width =
      λ i. chosen_fed_of ds matches (with_units (same.params i) (same.units i)) (dependences (with_units (same.params i) (same.units i))) width

  cost-same : (matches : List Match) (packs : List Pack) → cost_of ds matches a packs ≡ cost_of ds matches b packs
  cost-same matches packs = λ i. cost_of ds matches (with_units (same.params i) (same.units i)) packs

-- ---- one plan

pub in-order : (ds : List Description) (ssa : Ssa) (matches : List Match) → IsTableOf ds ssa matches
    → IsOrderedTable ds ssa matches
in-order ds ssa matches t = record { matched = t.matched; ordered = t.ordered; bindings = t.bindings }

one-plan : (ds : List Description) (width : ℕ) (a b : KernelPlan) → HaveSameValues a.ssa b.ssa
    → IsChosenPlan ds a.matches a.ssa width a.packs
    → IsChosenPlan ds b.matches b.ssa width b.packs → AreOnePlan ds a b
one-plan ds width a b same x y =
    let matches = one-table ds a.ssa b.ssa a.matches b.matches same (in-order ds a.ssa a.matches x.table) (in-order ds b.ssa b.matches y.table) in
    let packs = x.is
    ∙ chosen-same ds a.ssa b.ssa same a.matches width
    ∙ ap (λ (ms : List Match). chosen_of ds ms b.ssa (dependences b.ssa) width) matches
    ∙ sym y.is in
    record {
      matches = matches;
      packs = packs;
      price = cost-same ds a.ssa b.ssa same a.matches a.packs ∙ ap₂ (λ (ms : List Match) (ps : List Pack). cost_of ds ms b.ssa ps) matches packs;
    }

one-fed-plan : (ds : List Description) (width : ℕ) (a b : KernelPlan) → HaveSameValues a.ssa b.ssa
    → IsChosenFedPlan ds a.matches a.ssa width a.packs
    → IsChosenFedPlan ds b.matches b.ssa width b.packs → AreOnePlan ds a b
one-fed-plan ds width a b same x y =
    let matches = one-table ds a.ssa b.ssa a.matches b.matches same (in-order ds a.ssa a.matches x.table) (in-order ds b.ssa b.matches y.table) in
    let packs = x.is
    ∙ fed-same ds a.ssa b.ssa same a.matches width
    ∙ ap (λ (ms : List Match). chosen_fed_of ds ms b.ssa (dependences b.ssa) width) matches
    ∙ sym y.is in
    record {
      matches = matches;
      packs = packs;
      price = cost-same ds a.ssa b.ssa same a.matches a.packs ∙ ap₂ (λ (ms : List Match) (ps : List Pack). cost_of ds ms b.ssa ps) matches packs;
    }

pub one-over : (numbered : Tree → Ssa → Type 0) (ds : List Description) (k : Tree) (width : ℕ) (a b : KernelPlan)
    → ((x y : Ssa) → numbered k x → numbered k y → HaveSameValues x y) → IsChosenOver numbered ds k width a
    → IsChosenOver numbered ds k width b → AreOnePlan ds a b
one-over numbered ds k width a b same x y = one-plan ds width a b (same a.ssa b.ssa x.values y.values) x.chosen y.chosen

pub one-fed-over : (numbered : Tree → Ssa → Type 0) (ds : List Description) (k : Tree) (width : ℕ) (a b : KernelPlan)
    → ((x y : Ssa) → numbered k x → numbered k y → HaveSameValues x y) → IsChosenFedOver numbered ds k width a
    → IsChosenFedOver numbered ds k width b → AreOnePlan ds a b
one-fed-over numbered ds k width a b same x y = one-fed-plan ds width a b (same a.ssa b.ssa x.values y.values) x.chosen y.chosen

one-whole : (ds : List Description) (k : Tree) (width : ℕ) (a b : KernelPlan) → IsChosenWhole ds k width a
    → IsChosenWhole ds k width b → AreOnePlan ds a b
one-whole ds k width a b x y = one-over AreWhole ds k width a b (whole-values k) x y

one-wide : (ds : List Description) (k : Tree) (width : ℕ) (a b : KernelPlan) → IsChosenWide ds k width a
    → IsChosenWide ds k width b → AreOnePlan ds a b
one-wide ds k width a b x y = one-over AreWide ds k width a b (wide-values k) x y

one-fed : (ds : List Description) (k : Tree) (width : ℕ) (a b : KernelPlan) → IsChosenFed ds k width a
    → IsChosenFed ds k width b → AreOnePlan ds a b
one-fed ds k width a b x y = one-fed-over AreWide ds k width a b (wide-values k) x y

pub one-chosen-plan : OneChosenPlan
one-chosen-plan = record { whole = one-whole; wide = one-wide; fed = one-fed }
