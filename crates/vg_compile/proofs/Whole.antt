-- What the program of a kernel's numbered values is for the kernel.
use Rattle.std.proofs.Common.{◌≡◌, ℕ, ◌≤◌, Bool, false, List, [], ◌∷◌, ◌++◌, length, map, refl, sym, ap, ◌∙◌, subst, arith}
use Rattle.std.specs.Prelude.{not}
use Rattle.std.specs.List.{AllByRecursion}
use Rattle.std.proofs.lemmas.List.Filters.{length-filter_both}
use Rattle.vg_catalog.specs.Called.{called_by, headers_of}
use Rattle.vg_catalog.specs.Entries.{Entry}
use Rattle.vg_kernel.specs.Cost.{scalar_cost}
use Rattle.vg_kernel.specs.Tree.{Tree}
use Rattle.vg_kernel.specs.WellFormed.{IsWellFormed}
use Rattle.vg_pseudo.specs.declared.header.Header.{Header}
use Rattle.vg_program.specs.declared.program.Program.{Program}
use Rattle.vg_program.specs.Cost as programs
use Rattle.vg_program.specs.Meaning.{Instructions, meaning}
use Rattle.vg_program.specs.Sizes.{TakeFew}
use Rattle.vg_program.specs.Valid.{IsValid, KeepsRules}
use Rattle.vg_program.proofs.TextSizes.{short_fits}
use Rattle.vg_plan_text.specs.PlanText.{plan_text}
use Rattle.vg_shapes.specs.declared.match_table.Match.{Match}
use Rattle.vg_shapes.specs.declared.pack.Pack.{Pack}
use Rattle.vg_shapes.specs.declared.ssa.Ssa.{Ssa}
use Rattle.vg_shapes.specs.Description.{Description}
use Rattle.vg_shapes.specs.Sound.{IsSound, is_store}
use Rattle.vg_ssa.specs.Numbering.{IsNumbering, units_of}
use Rattle.vg_ssa.specs.StandsFor.{StandsFor}
use Rattle.vg_ssa.proofs.Soundness.{kernel-can}
use Rattle.vg_ssa.proofs.Counts.{units-are_the_cost}
use Rattle.vg_emission.specs.Fit.{CallsDescribed, HasHeader}
use Rattle.vg_emission.specs.Laws.{MeansUnits}
use Rattle.vg_emission.specs.Truth.{IsCallable}
use Rattle.vg_plan_laws.specs.Laws.{AreTrue}
use Rattle.vg_plan_laws.proofs.Chosen.{kernels-are-small}
use Rattle.vg_emit_laws.specs.Laws.{CostSome}
use Rattle.vg_emit_laws.proofs.Lines.{program-lines}
use Rattle.vg_descriptions.specs.Descriptions.{AreOf, descriptions}
use Rattle.vg_descriptions.specs.Proper.{AreProper, IsProper}
use Rattle.vg_compile.specs.declared.rewriting.Rewriting.{Rewriting}
use Rattle.vg_compile.specs.declared.rewriting.Rewriting.TheVariants.{Own}
use Rattle.vg_compile.specs.Chosen.{KernelPlan, AreWhole, IsChosenFor}
use Rattle.vg_compile.specs.Compiled.{IsCompiled}
use Rattle.vg_compile.specs.Emitted.{IsProgramFor, IsProgramOf, IsProgramOver, with_scalar}
use Rattle.vg_compile.specs.Means.{Means, param_of}
use Rattle.vg_compile.specs.Planned.{IsExplained, IsPlanOf, IsPlanned, IsPlannedFor, costs_told, rewriting_line}
use Rattle.vg_compile.specs.Rewritten.{StandIn}
use Rattle.vg_compile.proofs.Joined.{own-stand, units-mean-kernels}
use Rattle.vg_compile.proofs.More.{units-cost, whole-is}

-- ---- descriptions

all-true : (entries : List Entry) (ds : List Description) → AreOf entries ds → AreTrue (called_by entries) ds
all-true entries [] are = tt
all-true entries (d ∷ ds) are = (are.0.is_true, all-true entries ds are.1)

all-headers : (entries : List Entry) (ds : List Description) → AreOf entries ds
    → AllByRecursion (HasHeader (headers_of entries)) ds
all-headers entries [] are = tt
all-headers entries (d ∷ ds) are = (are.0.header, all-headers entries ds are.1)

pub all-callable : (entries : List Entry) (ds : List Description) → AreOf entries ds → AllByRecursion IsCallable ds
all-callable entries [] are = tt
all-callable entries (d ∷ ds) are = (are.0.callable, all-callable entries ds are.1)

-- ---- headers

take-few : (entries : List Entry) → AllByRecursion (λ e. IsProper e.header) entries → TakeFew (headers_of entries)
take-few [] all = tt
take-few (e ∷ es) all = (all.0.few, take-few es all.1)

cost-some : (entries : List Entry) → AllByRecursion (λ e. IsProper e.header) entries → CostSome (headers_of entries)
cost-some [] all = tt
cost-some (e ∷ es) all = (all.0.cost, cost-some es all.1)

-- ---- the scalar cost

scalar-rules : (headers : List Header) (n : ℕ) (p : Program) → n ≤ 16384 → KeepsRules headers p
    → KeepsRules headers (with_scalar n p)
scalar-rules headers n p few rules = record {
  name = rules.name;
  params = rules.params;
  lines = rules.lines;
  cost = rules.cost;
  small = rules.small;
  scalar = few;
}

scalar-means : (called : Instructions) (n : ℕ) (p : Program) (ssa : Ssa) → MeansUnits called p ssa
    → MeansUnits called (with_scalar n p) ssa
unfolding meaning
scalar-means called n p ssa means = means

-- that of a well-formed kernel is one that programs may state
scalar-few : (k : Tree) → IsWellFormed k → scalar_cost k ≤ 16384
scalar-few k good =
    let can = kernel-can k good in
    let both = length-filter_both is_store (λ u. not (is_store u)) (λ u. refl) (units_of k) in
    let cost = units-are_the_cost k in
    let stores = can.stores in
    let uses = can.uses in
    omega arith

-- a program that states it already
with-own : (p : Program) (n : ℕ) → p.scalar ≡ n → p ≡ with_scalar n p
with-own p n e = λ i. record { name = p.name; params = p.params; lines = p.lines; cost = p.cost; scalar = e i }

-- ---- the whole

-- A program over the units of a plan of a kernel, but that it states the scalar cost of the kernel.
pub compiled : (entries : List Entry) (set : ℕ) (k : Tree) (width : ℕ) (more : Bool) (ssa : Ssa) (ds : List Description)
    (over p : Program) (rewriting : Rewriting) (plan : KernelPlan)
    → IsWellFormed k → StandIn k ssa → IsSound ssa → ds ≡ descriptions set entries → AreOf entries ds
    → AreProper entries
    → IsProgramOver ds ssa over → p ≡ with_scalar (scalar_cost k) over → IsChosenFor more ds k width rewriting plan
    → programs.cost_of p ≤ scalar_cost k → IsProgramOf ds k plan p
    → IsCompiled entries set k width more p
compiled entries set k width more ssa ds over p rewriting plan good stands sound same are proper program is chosen cheap of_plan =
    let headers = headers_of entries in
    let q = with_scalar (scalar_cost k) over in
    let rules = scalar-rules headers (scalar_cost k) over (scalar-few k good) (program.rules headers (all-headers entries ds are)) in
    let lines = program-lines headers q (cost-some entries proper.headers) rules in
    let means : Means (called_by entries) q k = units-mean-kernels (called_by entries) k ssa q stands program.name program.params
    (scalar-means (called_by entries) (scalar_cost k) over ssa (program.means (called_by entries) (all-true entries ds are))) in
    record {
      means = subst (λ (r : Program). Means (called_by entries) r k) (sym is) means;
      valid = subst (IsValid headers) (sym is) (short_fits headers q (take-few entries proper.headers) rules (omega (arith, lines, program.cost, kernels-are-small ssa sound)));
      calls = subst (λ (r : Program). CallsDescribed (descriptions set entries) r.lines) (sym is) (subst (λ xs. CallsDescribed xs over.lines) same (program.calls headers (all-headers entries ds are)));
      scalar = ap (λ (r : Program). r.scalar) is;
      cost = cheap;
      rewriting = rewriting;
      plan = plan;
      chosen = subst (λ xs. IsChosenFor more xs k width rewriting plan) same chosen;
      program = subst (λ xs. IsProgramOf xs k plan p) same of_plan;
    }

-- the same by the descriptions that the code has
pub compiled-by : (entries : List Entry) (set : ℕ) (k : Tree) (width : ℕ) (more : Bool) (ssa : Ssa)
    (ds xs : List Description) (over p : Program) (rewriting : Rewriting) (plan : KernelPlan)
    → xs ≡ ds → IsWellFormed k → StandIn k ssa → IsSound ssa → ds ≡ descriptions set entries → AreOf entries ds
    → AreProper entries → IsProgramOver xs ssa over → p ≡ with_scalar (scalar_cost k) over
    → IsChosenFor more xs k width rewriting plan → programs.cost_of p ≤ scalar_cost k
    → IsProgramOf xs k plan p → IsCompiled entries set k width more p
compiled-by entries set k width more ssa ds xs over p rewriting plan slice good stands sound listed are proper program is chosen cheap of_plan =
    compiled entries set k width more ssa ds over p rewriting plan good stands sound listed are proper
    (subst (λ d. IsProgramOver d ssa over) slice program) is (subst (λ d. IsChosenFor more d k width rewriting plan) slice chosen) cheap (subst (λ d. IsProgramOf d k plan p) slice of_plan)

-- without more plans
pub compiled-whole : (entries : List Entry) (set : ℕ) (k : Tree) (width : ℕ) (ssa : Ssa) (ds xs : List Description)
    (p : Program)
    → xs ≡ ds → IsWellFormed k → AreWhole k ssa → StandsFor k ssa → IsSound ssa → ds ≡ descriptions set entries
    → AreOf entries ds
    → AreProper entries → IsProgramFor xs ssa width p → IsCompiled entries set k width false p
compiled-whole entries set k width ssa ds xs p slice good values stands sound listed are proper program =
    let units : length ssa.units ≡ scalar_cost k = units-cost k ssa values.0 in
    let is : p ≡ with_scalar (scalar_cost k) p = with-own p (scalar_cost k) (program.program.scalar ∙ units) in
    compiled-by entries set k width false ssa ds xs p p Own (record { ssa = ssa; matches = program.chosen.matches; packs = program.chosen.packs })
    slice good (own-stand k ssa values.0 stands) sound listed are proper program.program is
    (refl, record { values = values; chosen = program.chosen.chosen }) (omega (arith, program.program.cost, units))
    (record { program = p; emitted = program.chosen.emitted; is = is; cost = program.chosen.cost })

-- ---- what is told of the plan

-- by the descriptions that the code has
pub planned-by : (entries : List Entry) (set : ℕ) (k : Tree) (width : ℕ) (ssa : Ssa) (ds xs : List Description)
    (matches : List Match) (packs : List Pack) (cost plain : ℕ)
    → xs ≡ ds → IsNumbering k ssa → ssa.cuts ≡ [] → ds ≡ descriptions set entries
    → IsPlanned xs matches ssa width packs cost plain
    → IsPlanOf entries set k width packs cost plain
planned-by entries set k width ssa ds xs matches packs cost plain slice is uncut listed planned = (
  ssa,
  matches,
  whole-is (descriptions set entries) k width ssa matches packs cost plain (is, uncut)
      (subst (λ d. IsPlanned d matches ssa width packs cost plain) (slice ∙ listed) planned),
)

pub explained-by : (entries : List Entry) (set : ℕ) (k : Tree) (width : ℕ) (more : Bool) (ds xs : List Description)
    (rewriting : Rewriting) (plan : KernelPlan) (cost plain : ℕ) (text : List ℕ)
    → xs ≡ ds → ds ≡ descriptions set entries → IsPlannedFor more xs k width rewriting plan cost plain
    → text ≡ rewriting_line rewriting ++ plan_text (map param_of k.params) xs plan.ssa plan.packs (costs_told k cost plain)
    → IsExplained entries set k width more text
explained-by entries set k width more ds xs rewriting plan cost plain text slice listed planned e =
    let about : xs ≡ descriptions set entries = slice ∙ listed in
    record {
      rewriting = rewriting;
      plan = plan;
      cost = cost;
      plain = plain;
      planned = subst (λ d. IsPlannedFor more d k width rewriting plan cost plain) about planned;
      lines = e ∙ ap (λ d. rewriting_line rewriting ++ plan_text (map param_of k.params) d plan.ssa plan.packs (costs_told k cost plain)) about;
    }
