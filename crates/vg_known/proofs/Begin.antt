-- What a sound kernel gives to begin with: widths, and the environment of a run.
use Rattle.std.proofs.Common.{◌≡◌, ℕ, zero, suc, ◌+◌, ◌-◌, ◌%◌, ◌^◌, ◌<◌, true, List, [], ◌∷◌, ◌++◌, length, map, Option, Some, None, refl, sym, ap, subst, ◌∙◌, inl, inr, arith, append_assoc, length-append}
use Rattle.std.specs.Prelude.{slice_get, slice_index, slice_index_or}
use Rattle.std.specs.List.{AllByRecursion}
use Rattle.std.specs.Option.{option_map}
use Rattle.std.proofs.lemmas.Bool.{cases_Bool, cases_lt, cond-true, cond-false, le-ltb, lt-ltb}
use Rattle.std.proofs.lemmas.List.{get_or_append_left, get_or-append-add, length-map, length_push, map-append}
use Rattle.std.proofs.Math.Nat.{mod-eq_of_lt}
use Rattle.vg_base.specs.Trap.{◌>>=◌}
use Rattle.vg_base.specs.declared.width.Width.{Width}
use Rattle.vg_base.specs.Width.{bits_of}
use Rattle.vg_terms.specs.declared.value.Env.{Env}
use Rattle.vg_terms.specs.Term.{leaf, IsWidth}
use Rattle.vg_terms.specs.Value.{number_at, value}
use Rattle.vg_shapes.specs.declared.ssa.Ssa.{Ssa}
use Rattle.vg_shapes.specs.declared.ssa.SsaParam.{SsaParam}
use Rattle.vg_shapes.specs.declared.ssa.SsaParamKind.{SsaParamKind}
use Rattle.vg_shapes.specs.declared.ssa.SsaParamKind.TheVariants.{Pointer, Integer}
use Rattle.vg_shapes.specs.declared.ssa_unit.Operands.{Operands}
use Rattle.vg_shapes.specs.declared.ssa_unit.Operator.{Operator}
use Rattle.vg_shapes.specs.declared.ssa_unit.Operator.TheVariants.{Two, Shift, Resize as ToWidth, Compare, Select}
use Rattle.vg_shapes.specs.declared.ssa_unit.SsaUnit.{SsaUnit}
use Rattle.vg_shapes.specs.declared.ssa_unit.SsaUnit.TheVariants.{Load, Store, Operation}
use Rattle.vg_shapes.specs.declared.wanted.Wanted.{Wanted}
use Rattle.vg_shapes.specs.declared.wanted.Wanted.TheVariants.{Value, Constant, Nothing}
use Rattle.vg_shapes.specs.Sound.{AreArguments, argument_key, IsBit, IsEarlier, IsNumber, IsOperation, IsUnit, kind_bits, pointers, TakeEarlier, TakesEarlier, unit_bits, value_bits}
use Rattle.vg_shapes.specs.Units.{arguments, integers, integers_of, is_integer}
use Rattle.vg_ssa.specs.Fitting.{IsTermOf}
use Rattle.vg_ssa.specs.ValueTerm.{no_term}
use Rattle.vg_ssa.proofs.OperationTerms.{bits-width}
use Rattle.vg_ssa.proofs.Terms.{leaf-term, Stand}
use Rattle.vg_ssa.proofs.Typing.{BitIn, NumberIn, OperationIn, UnitIn, UnitsIn}
use Rattle.vg_known.specs.Kernels.{argument_leaves}
use Rattle.vg_known.proofs.Terms.{Each}

-- ---- widths of arguments

-- of each integer parameter its width
abbrev pub argument_bits : List SsaParam → List (Option ℕ)
argument_bits ps = map (λ p. Some (kind_bits p.kind)) ps

abbrev AreIntegers : List SsaParam → Type 0
AreIntegers [] = Unit {0}
AreIntegers (p ∷ ps) = (is_integer p.kind ≡ true) × AreIntegers ps

filtered-integers : (ps : List SsaParam) → AreIntegers (integers_of ps)
filtered-integers [] = tt
filtered-integers (p ∷ ps) = elim (cases_Bool (is_integer p.kind)) [
  | inl t ↦ subst AreIntegers (sym (cond-true _ _ _ t)) (t, filtered-integers ps)
  | inr f ↦ subst AreIntegers (sym (cond-false _ _ _ f)) (filtered-integers ps)
]

integer-width : (k : SsaParamKind) → is_integer k ≡ true → IsWidth (kind_bits k)
integer-width (Pointer noalias) h = absurd (cc)
integer-width (Integer w) h = bits-width w

pub leaves-long : (v : ℕ) (ps : List SsaParam) → length (argument_leaves v ps) ≡ length ps
leaves-long v [] = refl
leaves-long v (p ∷ ps) = ap suc (leaves-long (v + 1) ps)

leaves-stand : (v : ℕ) (ps : List SsaParam) → AreIntegers ps → (k w : ℕ) → slice_index_or (argument_bits ps) k None ≡ Some w → IsWidth w × IsTermOf w (slice_index_or (argument_leaves v ps) k no_term)
leaves-stand v [] are k w e = absurd (cc)
leaves-stand v (p ∷ ps) are zero w e =
    let same : kind_bits p.kind ≡ w = cc in
    let width = integer-width p.kind are.0 in
    subst (λ n. IsWidth n × IsTermOf n (leaf (kind_bits p.kind) (argument_key v))) same (width, leaf-term (kind_bits p.kind) (argument_key v) width)
leaves-stand v (p ∷ ps) are (suc k) w e = leaves-stand (v + 1) ps are.1 k w e

pub arguments-stand : (ssa : Ssa) → Stand (argument_bits (integers ssa)) (argument_leaves 0 (integers ssa))
arguments-stand ssa = record {
  long = leaves-long 0 (integers ssa) ∙ sym (length-map (integers ssa) (λ p. Some (kind_bits p.kind)));
  each = leaves-stand 0 (integers ssa) (filtered-integers ssa.params);
}

-- the leaves of arguments have their numbers, where the environment says so
leaves-each : (env : Env) (v : ℕ) (ps : List SsaParam) (ns : List ℕ) → AreArguments ps ns → ((k : ℕ) → k < length ns → number_at env.pairs (argument_key (v + k)) ≡ slice_index ns k) → (k : ℕ) → value env (slice_index_or (argument_leaves v ps) k no_term) ≡ slice_index ns k
leaves-each env v [] [] are reads k = refl
leaves-each env v [] (n ∷ ns) are reads k = absurd (cc)
leaves-each env v (p ∷ ps) [] are reads k = absurd are
leaves-each env v (p ∷ ps) (n ∷ ns) are reads zero =
    ap (λ m. m % 2 ^ kind_bits p.kind) (ap (λ j. number_at env.pairs (argument_key j)) (let e : v ≡ v + 0 = omega arith in e) ∙ reads 0 (omega arith)) ∙ mod-eq_of_lt are.0
leaves-each env v (p ∷ ps) (n ∷ ns) are reads (suc k) =
    leaves-each env (v + 1) ps ns are.1 (λ j l. ap (λ i. number_at env.pairs (argument_key i)) (let e : v + 1 + j ≡ v + suc j = omega arith in e) ∙ reads (suc j) (omega arith)) k

pub arguments-mean : (env : Env) (ssa : Ssa) (args : List ℕ) → AreArguments (integers ssa) args → ((k : ℕ) → k < length args → number_at env.pairs (argument_key k) ≡ slice_index args k) → Each env (argument_leaves 0 (integers ssa)) args
arguments-mean env ssa args are reads = leaves-each env 0 (integers ssa) args are (λ k l. ap (λ i. number_at env.pairs (argument_key i)) (let e : 0 + k ≡ k = omega arith in e) ∙ reads k l)

pub arguments-long : (ps : List SsaParam) (ns : List ℕ) → AreArguments ps ns → length ns ≡ length ps
arguments-long [] [] h = refl
arguments-long [] (n ∷ ns) h = absurd (cc)
arguments-long (p ∷ ps) [] h = absurd h
arguments-long (p ∷ ps) (n ∷ ns) h = ap suc (arguments-long ps ns h.1)

-- ---- widths of values

-- of the values so far
abbrev pub bits_behind : Ssa → List SsaUnit → List (Option ℕ)
bits_behind ssa done = argument_bits (integers ssa) ++ map unit_bits done

bits-long : (ssa : Ssa) (done : List SsaUnit) → length (bits_behind ssa done) ≡ arguments ssa + length done
bits-long ssa done =
    length-append (argument_bits (integers ssa)) (map unit_bits done)
    ∙ (λ i. length-map (integers ssa) (λ p. Some (kind_bits p.kind)) i + length-map done unit_bits i)

argument-bit : (ps : List SsaParam) (v w : ℕ) → option_map (λ p. kind_bits p.kind) (slice_get ps v) ≡ Some w → slice_index_or (argument_bits ps) v None ≡ Some w
argument-bit [] v w e = absurd (cc)
argument-bit (p ∷ ps) zero w e = e
argument-bit (p ∷ ps) (suc v) w e = argument-bit ps v w e

unit-bit : (us more : List SsaUnit) (k w : ℕ) → k < length us → (slice_get (us ++ more) k >>= unit_bits) ≡ Some w → slice_index_or (map unit_bits us) k None ≡ Some w
unit-bit [] more k w less e = absurd (omega arith)
unit-bit (u ∷ us) more zero w less e = e
unit-bit (u ∷ us) more (suc k) w less e = unit-bit us more k w (omega arith) e

value-bit : (ssa : Ssa) (done us : List SsaUnit) (v w : ℕ) → ssa.units ≡ done ++ us → v < arguments ssa + length done → value_bits ssa v ≡ Some w → slice_index_or (bits_behind ssa done) v None ≡ Some w
value-bit ssa done us v w whole less e =
    let many : length (argument_bits (integers ssa)) ≡ arguments ssa = length-map (integers ssa) (λ p. Some (kind_bits p.kind)) in
    elim (cases_lt v (arguments ssa)) [
      | inl here ↦
          get_or_append_left (argument_bits (integers ssa)) (map unit_bits done) None v (omega arith)
          ∙ argument-bit (integers ssa) v w (sym (cond-true _ _ _ (lt-ltb v (arguments ssa) here)) ∙ e)
      | inr later ↦
          let k = v - arguments ssa in
          let at : v ≡ length (argument_bits (integers ssa)) + k = omega arith in
          let got : (slice_get ssa.units k >>= unit_bits) ≡ Some w = sym (cond-false _ _ _ (le-ltb v (arguments ssa) later) ∙ ap (λ (o : Option SsaUnit). o >>= unit_bits) (cond-false _ _ _ (le-ltb v (arguments ssa) later))) ∙ e in
          ap (λ j. slice_index_or (bits_behind ssa done) j None) at ∙ get_or-append-add (argument_bits (integers ssa)) (map unit_bits done) k None
          ∙ unit-bit done us k w (omega arith) (ap (λ l. slice_get l k >>= unit_bits) (sym whole) ∙ got)
    ]

number-in : (ssa : Ssa) (done us : List SsaUnit) (w : Width) (x : Wanted) → ssa.units ≡ done ++ us → IsEarlier (arguments ssa + length done) x → IsNumber ssa w x → NumberIn (bits_behind ssa done) w x
number-in ssa done us w (Value v) whole early h = value-bit ssa done us v (bits_of w) whole early h
number-in ssa done us w (Constant m k) whole early h = h
number-in ssa done us w Nothing whole early h = h

bit-in : (ssa : Ssa) (done us : List SsaUnit) (x : Wanted) → ssa.units ≡ done ++ us → IsEarlier (arguments ssa + length done) x → IsBit ssa x → BitIn (bits_behind ssa done) x
bit-in ssa done us (Value v) whole early h = value-bit ssa done us v 1 whole early h
bit-in ssa done us (Constant m k) whole early h = h
bit-in ssa done us Nothing whole early h = h

operation-in : (ssa : Ssa) (done us : List SsaUnit) (op : Operator) (w : Width) (k : ℕ) (xs : Operands) → ssa.units ≡ done ++ us → TakesEarlier (arguments ssa + length done) (Operation op w k xs) → IsOperation ssa op w k xs → OperationIn (bits_behind ssa done) op w k xs
operation-in ssa done us (Two op) w k xs whole early h = (h.0, number-in ssa done us w xs.first whole early.0 h.1, number-in ssa done us w xs.second whole early.1 h.2, h.3)
operation-in ssa done us (Shift op) w k xs whole early h = (h.0, number-in ssa done us w xs.first whole early.0 h.1, h.2, h.3)
operation-in ssa done us (ToWidth op v) w k xs whole early h = (h.0, h.1, number-in ssa done us v xs.first whole early.0 h.2, h.3, h.4)
operation-in ssa done us (Compare op) w k xs whole early h = (h.0, number-in ssa done us w xs.first whole early.0 h.1, number-in ssa done us w xs.second whole early.1 h.2, h.3)
operation-in ssa done us Select w k xs whole early h = (h.0, bit-in ssa done us xs.first whole early.0 h.1, number-in ssa done us w xs.second whole early.1 h.2, number-in ssa done us w xs.third whole early.2 h.3)

unit-in : (ssa : Ssa) (done us : List SsaUnit) (u : SsaUnit) → ssa.units ≡ done ++ us → TakesEarlier (arguments ssa + length done) u → IsUnit ssa u → UnitIn (length (pointers ssa)) (bits_behind ssa done) u
unit-in ssa done us (Load a w) whole early h = h
unit-in ssa done us (Store a w x) whole early h = (h.0, number-in ssa done us w x whole early h.1)
unit-in ssa done us (Operation op w k xs) whole early h = operation-in ssa done us op w k xs whole early h

pub units-in : (ssa : Ssa) (done us : List SsaUnit) → ssa.units ≡ done ++ us → TakeEarlier (arguments ssa + length done) us → AllByRecursion (IsUnit ssa) us → UnitsIn (length (pointers ssa)) (bits_behind ssa done) us
units-in ssa done [] whole early are = tt
units-in ssa done (u ∷ us) whole early are =
    let next : bits_behind ssa (done ++ u ∷ []) ≡ bits_behind ssa done ++ unit_bits u ∷ [] = ap (λ l. argument_bits (integers ssa) ++ l) (map-append unit_bits done (u ∷ [])) ∙ sym (append_assoc (argument_bits (integers ssa)) (map unit_bits done) (unit_bits u ∷ [])) in
    let at : arguments ssa + length done + 1 ≡ arguments ssa + length (done ++ u ∷ []) = (let l = length_push done u in omega arith) in (
      unit-in ssa done (u ∷ us) u whole early.0 are.0,
      subst (λ bits. UnitsIn (length (pointers ssa)) bits us) next (units-in ssa (done ++ u ∷ []) us (whole ∙ sym (append_assoc done (u ∷ []) us)) (subst (λ k. TakeEarlier k us) at early.1) are.1),
    )
