-- What words bind is what a kernel or a loop may be run on.
use Rattle.std.proofs.Common.{◌≡◌, ℕ, suc, ◌^◌, ◌<◌, Bool, true, false, cond, List, [], ◌∷◌, length, map, Option, Some, None, refl, sym, ap, subst, ◌∙◌, All}
use Rattle.std.specs.Prelude.{nat_lt, not, ◌&&◌, ◌||◌, ◌==◌}
use Rattle.std.specs.List.{AllZip, AllByRecursion, filter_map, cons_option}
use Rattle.std.specs.Option.{option_map, option_and_then}
use Rattle.std.proofs.lemmas.Bool.{ltb-true}
use Rattle.std.proofs.lemmas.List.Elements.{All-from_recursion}
use Rattle.vg_kernel.specs.declared.parameter.KParam.{KParam}
use Rattle.vg_kernel.specs.declared.parameter.KParamKind.{KParamKind}
use Rattle.vg_kernel.specs.declared.parameter.KParamKind.TheVariants as kernel_kind
use Rattle.vg_kernel.specs.Layout.{Respects}
use Rattle.vg_kernel.specs.Names.{is_pointer}
use Rattle.vg_kernel.specs.Tree.{Tree}
use Rattle.vg_kernel.specs.WellFormed as kernel
use Rattle.vg_program.specs.declared.param.Param.{Param}
use Rattle.vg_program.specs.declared.param_kind.ParamKind.{ParamKind}
use Rattle.vg_program.specs.declared.param_kind.ParamKind.TheVariants.{Pointer, Integer}
use Rattle.vg_program.specs.Params.{pointers, integers, is_pointer_kind, is_integer_kind, kind_bits}
use Rattle.vg_compile.specs.Means.{kind_of, param_of, integer_bits, IsInput}
use Rattle.vg_loop_laws.specs.Inputs.{AreBytes, LoopRespects}
use Rattle.vg_loop_laws.specs.Loops.{Loop, turns_asked}
use Rattle.vg_loops.specs.Inputs.{IsLoopInput}
use Rattle.vg_loops.specs.Near.{stay_near}
use Rattle.vg_loops.proofs.Nearness.{near-told}
use Rattle.vg_request.specs.Binding.{Signed, Binding}
use Rattle.vg_top.specs.Inputs.{place_of, value_of, number_of, param_value, values, all_named, InputLists, inputs_of, FitParams}
use Rattle.vg_top.specs.Left.{near_inputs, loop_inputs}
use Rattle.vg_top.proofs.BoundInputs.{values_fit}

-- ---- the lists that are bound

pub record Bound (bs : List Binding) (ps : List Param) (i : InputLists) : Type 0 where
  pub places : values bs (pointers ps) ≡ Some i.places
  pub args : values bs (integers ps) ≡ Some i.args

pub bound : (bs : List Binding) (ps : List Param) (i : InputLists) → inputs_of bs ps ≡ Some i → Bound bs ps i
unfolding inputs_of
bound bs ps i e =
    let both = by (all_named bs ps) (values bs (pointers ps)) (values bs (integers ps)) e in
    record { places = both.0; args = both.1 }
  where
    by : (b : Bool) (p a : Option (List ℕ))
        → cond b (option_and_then (λ places. option_map (λ args. record { places = places; args = args }) a) p) None ≡ Some i
        → (p ≡ Some i.places) × (a ≡ Some i.args)
    by false p a e = absurd (cc)
    by true None a e = absurd (cc)
    by true (Some places) None e = absurd (cc)
    by true (Some places) (Some args) e =
        let same : (let given : InputLists = record { places = places; args = args } in given ≡ i) = cc in
        (ap (λ (j : InputLists). Some j.places) same, ap (λ (j : InputLists). Some j.args) same)

-- ---- places have 64 bits

chosen : (a b : Bool) (d v : ℕ) → cond (a && b) (Some d) None ≡ Some v → (a ≡ true) × (d ≡ v)
chosen true true d v e = (refl, cc)
chosen true false d v e = absurd (cc)
chosen false b d v e = absurd (cc)

place-below : (k : ParamKind) (o : Option Signed) (v : ℕ) → is_pointer_kind k ≡ true → option_and_then (value_of k) o ≡ Some v → v < 2 ^ 64
place-below Pointer None v is e = absurd (cc)
place-below Pointer (Some n) v is e =
    let k = chosen (nat_lt n.distance (2 ^ 64)) (not n.negative || n.distance == 0) n.distance v e in
    subst (λ (x : ℕ). x < 2 ^ 64) k.1 (ltb-true n.distance (2 ^ 64) k.0)
place-below (Integer w) o v is e = absurd (cc)

-- the first value and the others
parts : (o : Option ℕ) (r : Option (List ℕ)) (vs : List ℕ) → option_and_then (λ v. option_map (λ us. v ∷ us) r) o ≡ Some vs → (v : ℕ) × (us : List ℕ) × (o ≡ Some v) × (r ≡ Some us) × (v ∷ us ≡ vs)
parts None r vs e = absurd (cc)
parts (Some v) None vs e = absurd (cc)
parts (Some v) (Some us) vs e = (v, us, refl, refl, cc)

places-below : (bs : List Binding) (ps : List Param) (vs : List ℕ) → values bs (pointers ps) ≡ Some vs → AllByRecursion (λ p. p < 2 ^ 64) vs
places-below bs [] [] e = tt
places-below bs [] (v ∷ vs) e = absurd (cc)
places-below bs (p ∷ ps) vs e = by (is_pointer_kind p.kind) refl e (λ us given. places-below bs ps us given)
  where
    by : (b : Bool) → is_pointer_kind p.kind ≡ b → values bs (cond b (p ∷ pointers ps) (pointers ps)) ≡ Some vs
        → ((us : List ℕ) → values bs (pointers ps) ≡ Some us → AllByRecursion (λ p. p < 2 ^ 64) us)
        → AllByRecursion (λ p. p < 2 ^ 64) vs
    by true is e rest =
        let k = parts (param_value bs p) (values bs (pointers ps)) vs e in
        subst (λ (l : List ℕ). AllByRecursion (λ p. p < 2 ^ 64) l) k.4 (place-below p.kind (number_of bs p.name) k.0 is k.2, rest k.1 k.3)
    by false is e rest = rest vs e

places-near : (bs : List Binding) (ps : List Param) (vs : List ℕ) → values bs (pointers ps) ≡ Some vs → All (λ p. p < 2 ^ 64) vs
places-near bs ps vs e = All-from_recursion (λ p. p < 2 ^ 64) vs (places-below bs ps vs e)

-- ---- integers have their widths, and each pointer has a place

-- values fit the integers among parameters, and fit their widths
abbrev FitKinds : List KParam → List ℕ → Type 0
FitKinds ps args = AllZip (λ (p : Param) n. n < 2 ^ kind_bits p.kind) (integers (map param_of ps)) args

abbrev FitWidths : List KParam → List ℕ → Type 0
FitWidths ps args = AllZip (λ w n. n < 2 ^ w) (filter_map (λ p. integer_bits p.kind) ps) args

widths-kept : (ps : List KParam) (args : List ℕ) → FitKinds ps args → FitWidths ps args
widths-kept [] [] fit = tt
widths-kept [] (n ∷ args) fit = absurd fit
widths-kept (p ∷ ps) args fit = by p.kind args fit (λ xs given. widths-kept ps xs given)
  where
    by : (kind : KParamKind) (xs : List ℕ)
        → AllZip (λ (p : Param) n. n < 2 ^ kind_bits p.kind) (cond (is_integer_kind (kind_of kind)) (record { name = p.name; kind = kind_of kind } ∷ integers (map param_of ps)) (integers (map param_of ps))) xs
        → ((ys : List ℕ) → FitKinds ps ys → FitWidths ps ys)
        → AllZip (λ w n. n < 2 ^ w) (cons_option (integer_bits kind) (filter_map (λ q. integer_bits q.kind) ps)) xs
    by (kernel_kind.Pointer noalias) xs fit rest = rest xs fit
    by (kernel_kind.Integer w) [] fit rest = absurd fit
    by (kernel_kind.Integer w) (n ∷ xs) fit rest = (fit.0, rest xs fit.1)

pointer-same : (kind : KParamKind) → is_pointer_kind (kind_of kind) ≡ is_pointer kind
pointer-same (kernel_kind.Pointer noalias) = refl
pointer-same (kernel_kind.Integer w) = refl

pointers-same : (ps : List KParam) → length (pointers (map param_of ps)) ≡ length (kernel.pointers ps)
pointers-same [] = refl
pointers-same (p ∷ ps) =
    ap (λ (b : Bool). length (cond b (param_of p ∷ pointers (map param_of ps)) (pointers (map param_of ps)))) (pointer-same p.kind)
    ∙ one (is_pointer p.kind) (pointers-same ps)
  where
    one : (b : Bool) → length (pointers (map param_of ps)) ≡ length (kernel.pointers ps)
        → length (cond b (param_of p ∷ pointers (map param_of ps)) (pointers (map param_of ps))) ≡ length (cond b (p ∷ kernel.pointers ps) (kernel.pointers ps))
    one true e = ap suc e
    one false e = e

-- ---- inputs

pub input : (k : Tree) (bs : List Binding) (memory : List ℕ) (i : InputLists) → inputs_of bs (map param_of k.params) ≡ Some i → AreBytes memory → Respects k i.places → IsInput k memory i.places i.args
input k bs memory i e bytes apart =
    let b = bound bs (map param_of k.params) i e in
    let fit = values_fit bs (map param_of k.params) i.places i.args (sym b.places) (sym b.args) in
    record {
      bytes = bytes;
      pointers = fit.places ∙ pointers-same k.params;
      near = places-near bs (map param_of k.params) i.places b.places;
      integers = widths-kept k.params i.args fit.args;
      layout = apart;
    }

-- inputs of a loop are bound, and no pointer is moved past 2 ^ 64 - 1
near-bound : (times : ℕ) (steps : List ℕ) (o : Option InputLists) (i : InputLists) → loop_inputs times steps o ≡ Some i → (o ≡ Some i) × (stay_near steps (turns_asked times i.args) i.places ≡ true)
near-bound times steps None i e = absurd (cc)
near-bound times steps (Some j) i e = by (stay_near steps (turns_asked times j.args) j.places) refl e
  where
    by : (b : Bool) → stay_near steps (turns_asked times j.args) j.places ≡ b → cond b (Some j) None ≡ Some i → (Some j ≡ Some i) × (stay_near steps (turns_asked times i.args) i.places ≡ true)
    by true is e =
        let same : j ≡ i = cc in
        (ap Some same, subst (λ (x : InputLists). stay_near steps (turns_asked times x.args) x.places ≡ true) same is)
    by false is e = absurd (cc)

pub loop-input : (l : Loop) (bs : List Binding) (memory : List ℕ) (i : InputLists) → loop_inputs l.times l.steps (inputs_of bs (map param_of l.kernel.params)) ≡ Some i → AreBytes memory → LoopRespects l (turns_asked l.times i.args) i.places → IsLoopInput l memory i.places i.args
loop-input l bs memory i e bytes apart =
    let given = near-bound l.times l.steps (inputs_of bs (map param_of l.kernel.params)) i e in
    let b = bound bs (map param_of l.kernel.params) i given.0 in
    let fit = values_fit bs (map param_of l.kernel.params) i.places i.args (sym b.places) (sym b.args) in
    record {
      bytes = bytes;
      pointers = fit.places ∙ pointers-same l.kernel.params;
      near = near-told l.steps (turns_asked l.times i.args) i.places given.1;
      integers = widths-kept l.kernel.params i.args fit.args;
      layout = apart;
    }
