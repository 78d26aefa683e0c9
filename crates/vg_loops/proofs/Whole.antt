-- A looped text that is compiled keeps the rules on looped texts.
use Rattle.std.proofs.Common.{◌≡◌, ℕ, zero, suc, ◌+◌, ◌<◌, ◌≤◌, ◌==◌, Bool, true, false, cond, List, [], ◌∷◌, length, map, sum_by, Some, refl, sym, ap, subst, ◌∙◌, inl, inr, arith}
use Rattle.std.specs.Prelude.{nat_lt, slice_get, slice_index, IsTrue}
use Rattle.std.specs.List.{AllByRecursion}
use Rattle.std.proofs.lemmas.Bool.{cases_Bool, eqb-true, ltb-true}
use Rattle.std.proofs.lemmas.List.Sums.{sum_by-cons}
use Rattle.vg_base.specs.Width.{bits_of}
use Rattle.vg_catalog.specs.Called.{called_by, headers_of}
use Rattle.vg_catalog.specs.Entries.{Entry}
use Rattle.vg_compile.specs.Compiled.{IsCompiled}
use Rattle.vg_compile.specs.Means.{kind_of, param_of}
use Rattle.vg_emit_laws.proofs.Lines.{program-lines}
use Rattle.vg_descriptions.specs.Proper.{AreProper, IsProper}
use Rattle.vg_kernel.specs.Cost.{scalar_cost, statement_cost, uses_of}
use Rattle.vg_kernel.specs.declared.parameter.KParam.{KParam}
use Rattle.vg_kernel.specs.declared.parameter.KParamKind.{KParamKind}
use Rattle.vg_kernel.specs.declared.parameter.KParamKind.TheVariants.{Pointer, Integer}
use Rattle.vg_kernel.specs.Names.{is_pointer}
use Rattle.vg_kernel.specs.Tree.{Tree, Statement, assign, store}
use Rattle.vg_kernel.specs.WellFormed as kernel
use Rattle.vg_kernel.specs.WellFormed.{integer_widths, IsWellFormed}
use Rattle.vg_loop_laws.specs.Limits.{keeps_limits, turns_of}
use Rattle.vg_loop_laws.specs.Loops.{Loop}
use Rattle.vg_loop_laws.specs.Unrolled.{unrolled}
use Rattle.vg_loop_laws.proofs.Kept.{unrolled-is-well_formed}
use Rattle.vg_loop_laws.proofs.Most.{turns-are-most}
use Rattle.vg_looped.specs.declared.looped.Looped.{Looped}
use Rattle.vg_looped.specs.Looped.{IsTimes, IsLooped}
use Rattle.vg_looped.specs.Steps.{stepped}
use Rattle.vg_looped.proofs.LoopedSizes.{kept-few, looped-fits}
use Rattle.vg_loops.specs.CompiledLoop.{IsCompiledLoop}
use Rattle.vg_loops.specs.Formed.{IsLoop}
use Rattle.vg_loops.specs.Reader.{stores_moving}
use Rattle.vg_loops.proofs.Meant.{loop-is-meant}
use Rattle.vg_program.specs.declared.program.Program.{Program}
use Rattle.vg_program.specs.Params.{pointers, integers, is_pointer_kind}
use Rattle.vg_program.specs.Text.{signature_of}
use Rattle.vg_pseudo.specs.declared.header.Header.{Header}

-- ---- parameters

pointer-same : (kind : KParamKind) → is_pointer_kind (kind_of kind) ≡ is_pointer kind
pointer-same (Pointer noalias) = refl
pointer-same (Integer w) = refl

pointers-same : (ps : List KParam) → length (pointers (map param_of ps)) ≡ length (kernel.pointers ps)
pointers-same [] = refl
pointers-same (p ∷ ps) =
    ap (λ (b : Bool). length (cond b (param_of p ∷ pointers (map param_of ps)) (pointers (map param_of ps)))) (pointer-same p.kind)
    ∙ one (is_pointer p.kind) (pointers-same ps)
  where
    one : (b : Bool) → length (pointers (map param_of ps)) ≡ length (kernel.pointers ps)
        → length (cond b (param_of p ∷ pointers (map param_of ps)) (pointers (map param_of ps))) ≡ length (cond b (p ∷ kernel.pointers ps) (kernel.pointers ps))
    one true e = ap suc e
    one false e = e

-- the parameter that counts the turns
times-same : (ps : List KParam) (t : ℕ) → t < length (integer_widths ps) → IsTimes (map param_of ps) t
times-same [] t few = absurd (omega (arith, few))
times-same (p ∷ ps) t few = by p.kind t few (times-same ps)
  where
    by : (kind : KParamKind) (t : ℕ) → t < length (integer_widths (record { name = p.name; kind = kind } ∷ ps))
        → ((k : ℕ) → k < length (integer_widths ps) → IsTimes (map param_of ps) k)
        → IsTimes (map param_of (record { name = p.name; kind = kind } ∷ ps)) t
    by (Pointer noalias) t few rest = rest t few
    by (Integer w) zero few rest = (bits_of w, refl)
    by (Integer w) (suc t) few rest = rest t (omega (arith, few))

-- ---- steps

step-known : (k : ℕ) (ss : List ℕ) (p : ℕ) → nat_lt 0 (slice_index ss p) ≡ true → 0 < length (stepped k ss)
unfolding stepped
step-known k [] p some = absurd (cc)
step-known k (s ∷ ss) zero some = elim (cases_Bool (s == 0)) [
  | inl none ↦ absurd (omega (arith, eqb-true s 0 none, ltb-true 0 s some))
  | inr e ↦ by (s == 0) e
]
  where
    by : (b : Bool) → b ≡ false → 0 < length (cond b (stepped (k + 1) ss) ((k, s) ∷ stepped (k + 1) ss))
    by true e = absurd (cc)
    by false e = omega arith
step-known k (s ∷ ss) (suc p) some = by (s == 0) (step-known (k + 1) ss p some)
  where
    by : (b : Bool) → 0 < length (stepped (k + 1) ss) → 0 < length (cond b (stepped (k + 1) ss) ((k, s) ∷ stepped (k + 1) ss))
    by true h = h
    by false h = omega arith

some-step : (steps : List ℕ) (ss : List Statement) → IsTrue (stores_moving steps ss) → 0 < length (stepped 0 steps)
some-step steps [] some = absurd (cc)
some-step steps (assign e ∷ ss) some = some-step steps ss some
some-step steps (store w a e ∷ ss) some = elim (cases_Bool (nat_lt 0 (slice_index steps a.pointer))) [
  | inl moves ↦ step-known 0 steps a.pointer moves
  | inr stays ↦ some-step steps ss (rw stays at some)
]

few-turns : (l : Loop) → turns_of l ≤ 16
unfolding turns_of
few-turns l = by (keeps_limits l 16) (keeps_limits l 8) (keeps_limits l 4) (keeps_limits l 2)
  where
    by : (a b c d : Bool) → cond a 16 (cond b 8 (cond c 4 (cond d 2 1))) ≤ 16
    by true b c d = omega arith
    by false true c d = omega arith
    by false false true d = omega arith
    by false false false true = omega arith
    by false false false false = omega arith

-- ---- lines

-- a kernel has at most 12,288 loads, operations and stores
cost-within : (ss : List Statement) → sum_by statement_cost ss ≤ sum_by uses_of ss + length ss
cost-within [] = omega arith
cost-within (assign e ∷ ss) = omega (arith, cost-within ss, sum_by-cons statement_cost (assign e) ss, sum_by-cons uses_of (assign e) ss)
cost-within (store w a e ∷ ss) = omega (arith, cost-within ss, sum_by-cons statement_cost (store w a e) ss, sum_by-cons uses_of (store w a e) ss)

small : (k : Tree) → IsWellFormed k → scalar_cost k ≤ 12288
small k is = omega (arith, cost-within k.statements, is.statements, is.uses)

-- what proper headers have, those of entries have
all-headers : (P : Header → Type 0) → ((h : Header) → IsProper h → P h) → (entries : List Entry) → AllByRecursion (λ e. IsProper e.header) entries → AllByRecursion P (headers_of entries)
all-headers P has [] all = tt
all-headers P has (e ∷ es) all = (has e.header all.0, all-headers P has es all.1)

lines-few : (entries : List Entry) (set : ℕ) (k : Tree) (width : ℕ) (more : Bool) (p : Program) → AreProper entries → IsWellFormed k → IsCompiled entries set k width more p → length p.lines ≤ 12288
lines-few entries set k width more p proper is compiled =
    let some = all-headers (λ h. 1 ≤ h.cost) (λ h is. is.cost) entries proper.headers in
    omega (arith, program-lines (headers_of entries) p some compiled.valid.rules, compiled.cost, small k is)

-- ---- the whole

pub compiled-loop : (entries : List Entry) (set : ℕ) (l : Loop) (width : ℕ) (more : Bool) (looped : Looped) → IsLoop l → AreProper entries
    → looped.turns ≡ turns_of l → looped.times ≡ l.times → looped.steps ≡ l.steps
    → IsCompiled entries set (unrolled l (turns_of l)) width more looped.block → IsCompiled entries set l.kernel width more looped.rest
    → IsCompiledLoop entries set l width more looped
compiled-loop entries set l width more looped is proper turns times steps block rest =
    let most = turns-are-most l is.kernel in
    let ps = looped.block.params in
    let few_taken = all-headers (λ h. length h.params ≤ 4) (λ h is. is.few) entries proper.headers in
    let signature : signature_of looped.rest ≡ signature_of looped.block = one-signature (rest.means.name ∙ sym block.means.name) (rest.means.params ∙ sym block.means.params) in
    let each : length looped.steps ≡ length (pointers ps) =
    ap length steps ∙ is.steps ∙ sym (pointers-same l.kernel.params) ∙ ap (λ qs. length (pointers qs)) (sym block.means.params) in
    let near = subst (AllByRecursion (λ s. s ≤ 65536)) (sym steps) is.small in
    let few : looped.turns ≤ 16 = subst (λ n. n ≤ 16) (sym turns) (few-turns l) in
    let first = lines-few entries set (unrolled l (turns_of l)) width more looped.block proper (unrolled-is-well_formed l (turns_of l) is.kernel most.keep) block in
    let second = lines-few entries set l.kernel width more looped.rest proper is.kernel rest in
    record {
      turns = turns;
      times = times;
      steps = steps;
      few_steps = omega (arith, each, kept-few (λ q. is_pointer_kind q.kind) ps, block.valid.rules.params.few);
      block = block;
      rest = rest;
      means = loop-is-meant (called_by entries) l looped is.kernel is.steps turns times steps block.means rest.means;
      rules = record {
        block = block.valid.rules;
        rest = rest.valid.rules;
        signature = signature;
        times = subst (λ qs. IsTimes qs looped.times) (sym block.means.params) (subst (IsTimes (map param_of l.kernel.params)) (sym times) (times-same l.kernel.params l.times is.times));
        steps = each;
        near = near;
        some_step = subst (λ ss. 0 < length (stepped 0 ss)) (sym steps) (some-step l.steps l.kernel.statements is.moving);
        some = subst (λ n. 1 ≤ n) (sym turns) most.keep.some;
        few = few;
        size = looped-fits (headers_of entries) looped few_taken block.valid.rules rest.valid.rules each near few first second;
      };
    }
  where
    one-signature : looped.rest.name ≡ looped.block.name → looped.rest.params ≡ looped.block.params → signature_of looped.rest ≡ signature_of looped.block
    one-signature names params = (λ i. record { name = names i; params = params i })
