-- Guarded programs that are compiled: they mean the kernel, and their texts keep the rules.
use Rattle.std.proofs.Common.{◌≡◌, ◌≢◌, ℕ, suc, ◌+◌, ◌^◌, ◌<◌, ◌≤◌, Bool, true, false, cond, List, [], ◌∷◌, length, map, sum_by, Option, Some, None, refl, sym, ap, subst, ◌∙◌, inl, inr, arith}
use Rattle.std.specs.List.{AllZip, AllByRecursion, filter_map, cons_option}
use Rattle.std.proofs.lemmas.Bool.{cases_Bool, cond-true, cond-false}
use Rattle.std.proofs.lemmas.List.Sums.{sum_by-cons}
use Rattle.vg_catalog.specs.Called.{called_by, headers_of}
use Rattle.vg_catalog.specs.Entries.{Entry}
use Rattle.vg_compile.specs.Compiled.{IsCompiled}
use Rattle.vg_compile.specs.Means.{kind_of, param_of, integer_bits, widths, IsInput, Means}
use Rattle.vg_emit_laws.proofs.Lines.{program-lines}
use Rattle.vg_descriptions.specs.Proper.{AreProper, IsProper}
use Rattle.vg_kernel.specs.Cost.{scalar_cost, statement_cost, uses_of}
use Rattle.vg_kernel.specs.declared.parameter.KParam.{KParam}
use Rattle.vg_kernel.specs.declared.parameter.KParamKind.{KParamKind}
use Rattle.vg_kernel.specs.declared.parameter.KParamKind.TheVariants.{Pointer, Integer}
use Rattle.vg_kernel.specs.Names.{is_pointer}
use Rattle.vg_kernel.specs.Meaning.{meaning}
use Rattle.vg_kernel.specs.Tree.{Tree, Statement, assign, store}
use Rattle.vg_kernel.specs.WellFormed.{pointers, IsWellFormed}
use Rattle.vg_pseudo.specs.declared.header.Header.{Header}
use Rattle.vg_program.specs.declared.signature.Signature.{Signature}
use Rattle.vg_program.specs.Meaning.{Instructions}
use Rattle.vg_program.specs.Params as params
use Rattle.vg_program.specs.Params.{is_pointer_kind}
use Rattle.vg_program.specs.Text.{signature_of}
use Rattle.vg_guard.specs.declared.guarded.Guarded.{Guarded}
use Rattle.vg_guard.specs.Checks.{checks_of, all_hold}
use Rattle.vg_guard.specs.Compiled.{GuardedMeans, IsCompiledGuarded}
use Rattle.vg_guard.specs.Guarded.{guarded_meaning, IsGuarded}
use Rattle.vg_guard.specs.Noalias.{noalias_kind, noalias_param, all_noalias}
use Rattle.vg_guard.specs.Rules.{AreChecks}
use Rattle.vg_guard.proofs.Apart.{checks-keep-apart}
use Rattle.vg_guard.proofs.GuardedSizes.{guarded-fits}
use Rattle.vg_guard.proofs.Listed.{checks-keep-rules}
use Rattle.vg_guard.proofs.NoaliasLaws.{pointers-kept}

-- ---- parameters

bits-kept : (kind : KParamKind) → integer_bits (noalias_kind kind) ≡ integer_bits kind
bits-kept (Pointer noalias) = refl
bits-kept (Integer w) = refl

widths-kept : (ps : List KParam) → filter_map (λ p. integer_bits p.kind) (map noalias_param ps) ≡ filter_map (λ p. integer_bits p.kind) ps
widths-kept [] = refl
widths-kept (p ∷ ps) = λ i. cons_option (bits-kept p.kind i) (widths-kept ps i)

kind-kept : (kind : KParamKind) → kind_of (noalias_kind kind) ≡ kind_of kind
kind-kept (Pointer noalias) = refl
kind-kept (Integer w) = refl

params-kept : (ps : List KParam) → map param_of (map noalias_param ps) ≡ map param_of ps
params-kept [] = refl
params-kept (p ∷ ps) = λ i. (record { name = p.name; kind = kind-kept p.kind i }) ∷ params-kept ps i

pointer-same : (kind : KParamKind) → is_pointer_kind (kind_of kind) ≡ is_pointer kind
pointer-same (Pointer noalias) = refl
pointer-same (Integer w) = refl

pointers-same : (ps : List KParam) → length (params.pointers (map param_of ps)) ≡ length (pointers ps)
pointers-same [] = refl
pointers-same (p ∷ ps) =
    ap (λ (b : Bool). length (cond b (param_of p ∷ params.pointers (map param_of ps)) (params.pointers (map param_of ps)))) (pointer-same p.kind)
    ∙ one (is_pointer p.kind) (pointers-same ps)
  where
    one : (b : Bool) → length (params.pointers (map param_of ps)) ≡ length (pointers ps)
        → length (cond b (param_of p ∷ params.pointers (map param_of ps)) (params.pointers (map param_of ps))) ≡ length (cond b (p ∷ pointers ps) (pointers ps))
    one true e = ap suc e
    one false e = e

-- ---- the meaning

same-meaning : (k : Tree) (memory places args : List ℕ) → meaning (all_noalias k) memory places args ≡ meaning k memory places args
unfolding meaning
same-meaning k memory places args = refl

-- where the checks hold, what the kernel may be run on, it may be run on with every pointer noalias
noalias-input : (k : Tree) (memory places args : List ℕ) → IsWellFormed k → all_hold places (checks_of k) ≡ true → IsInput k memory places args → IsInput (all_noalias k) memory places args
noalias-input k memory places args is hold input = record {
  bytes = input.bytes;
  pointers = input.pointers ∙ sym (pointers-kept k.params);
  near = input.near;
  integers = subst (λ ws. AllZip (λ w n. n < 2 ^ w) ws args) (sym (widths-kept k.params)) input.integers;
  layout = checks-keep-apart k places is input.layout hold;
}

pub guarded-means : (called : Instructions) (g : Guarded) (k : Tree) → IsWellFormed k → g.checks ≡ checks_of k → Means called g.fast (all_noalias k) → Means called g.slow k → GuardedMeans called g k
guarded-means called g k is same fast slow memory places args input = elim (cases_Bool (all_hold places g.checks)) [
  | inl held ↦
      cond-true _ _ _ held
      ∙ fast.same memory places args (noalias-input k memory places args is (ap (all_hold places) (sym same) ∙ held) input)
      ∙ same-meaning k memory places args
  | inr not_held ↦ cond-false _ _ _ not_held ∙ slow.same memory places args input
]

-- ---- the text

-- a kernel has at most 12,288 loads, operations and stores
cost-within : (ss : List Statement) → sum_by statement_cost ss ≤ sum_by uses_of ss + length ss
cost-within [] = omega arith
cost-within (assign e ∷ ss) = omega (arith, cost-within ss, sum_by-cons statement_cost (assign e) ss, sum_by-cons uses_of (assign e) ss)
cost-within (store w a e ∷ ss) = omega (arith, cost-within ss, sum_by-cons statement_cost (store w a e) ss, sum_by-cons uses_of (store w a e) ss)

small : (k : Tree) → IsWellFormed k → scalar_cost k ≤ 12288
small k is = omega (arith, cost-within k.statements, is.statements, is.uses)

-- what proper headers have, those of entries have
all-headers : (P : Header → Type 0) → ((h : Header) → IsProper h → P h) → (entries : List Entry) → AllByRecursion (λ e. IsProper e.header) entries → AllByRecursion P (headers_of entries)
all-headers P has [] all = tt
all-headers P has (e ∷ es) all = (has e.header all.0, all-headers P has es all.1)

one-signature : (called : Instructions) (g : Guarded) (k : Tree) → Means called g.fast (all_noalias k) → Means called g.slow k → signature_of g.slow ≡ signature_of g.fast
one-signature called g k fast slow =
    let names : g.slow.name ≡ g.fast.name = slow.name ∙ sym fast.name in
    let same : g.slow.params ≡ g.fast.params = slow.params ∙ sym (params-kept k.params) ∙ sym fast.params in
    (λ i. record { name = names i; params = same i })

pub compiled-guarded : (entries : List Entry) (set : ℕ) (k : Tree) (width : ℕ) (more : Bool) (g : Guarded) → IsWellFormed k → AreProper entries → g.checks ≡ checks_of k
    → IsCompiled entries set (all_noalias k) width more g.fast → IsCompiled entries set k width more g.slow → IsCompiledGuarded entries set k width more g
compiled-guarded entries set k width more g is proper same fast slow =
    let headers = headers_of entries in
    let some = all-headers (λ h. 1 ≤ h.cost) (λ h is. is.cost) entries proper.headers in
    let few_taken = all-headers (λ h. length h.params ≤ 4) (λ h is. is.few) entries proper.headers in
    let first = program-lines headers g.fast some fast.valid.rules in
    let second = program-lines headers g.slow some slow.valid.rules in
    let bound = small k is in
    let checks = checks-keep-rules k is in
    let count : length (pointers k.params) ≡ length (params.pointers g.fast.params) =
    sym (pointers-same k.params) ∙ ap (λ ps. length (params.pointers ps)) (sym (params-kept k.params) ∙ sym fast.means.params) in
    let few : length g.checks ≤ 120 = subst (λ cs. length cs ≤ 120) (sym same) checks.1 in
    let right = subst (λ n. AreChecks n g.checks) count (subst (AreChecks (length (pointers k.params))) (sym same) checks.0) in
    record {
      checks = same;
      means = guarded-means (called_by entries) g k is same fast.means slow.means;
      rules =
          guarded-fits headers g few_taken fast.valid slow.valid (one-signature (called_by entries) g k fast.means slow.means) right few
          (omega (arith, first, fast.cost, bound)) (omega (arith, second, slow.cost, bound));
      fast = fast;
      slow = slow;
    }
