-- Each line leaves what is known of it.
use Rattle.std.proofs.Common.{◌≡◌, ℕ, zero, suc, ◌+◌, ◌-◌, ◌*◌, ◌/◌, ◌^◌, ◌<◌, ◌≤◌, ℤ, div-one, Bool, true, false, List, [], ◌∷◌, ◌++◌, length, map, take, drop, replicate, get_or, Option, Some, None, refl, sym, ap, subst, ◌∙◌, inl, inr, arith, length-append}
use Rattle.std.specs.Prelude.{nat_eq, nat_lt, slice_get, slice_index, ◌||◌, IsSomeAnd, IsTrue}
use Rattle.std.specs.Option.{option_map}
use Rattle.std.proofs.lemmas.Bool.{cases_Bool, cond-true, cond-false, eqb-true, ltb-true}
use Rattle.std.proofs.lemmas.List.{length-map, map-append}
use Rattle.vg_base.specs.declared.address.Address.{Address}
use Rattle.vg_base.specs.declared.width.Width.{Width}
use Rattle.vg_base.specs.declared.width.Width.TheVariants.{W8, W16, W32, W64}
use Rattle.vg_base.specs.Address.{place_of}
use Rattle.vg_base.specs.Bits.{bits, bits_of_bytes, bytes, num, number}
use Rattle.vg_base.specs.Memory.{loaded, stored}
use Rattle.vg_base.specs.Trap.{◌>>=◌}
use Rattle.vg_base.specs.Width.{bits_of, size_of}
use Rattle.vg_base.proofs.Bits.{num-bits}
use Rattle.vg_bits.specs.BitList.{IsBytes}
use Rattle.vg_bits.specs.Range.{range, replaced}
use Rattle.vg_bits.proofs.BitLists.{bits-mod, bits-num}
use Rattle.vg_bits.proofs.ByteLists.{bits_of_bytes-bytes, bytes-number, IsBits-bits_of_bytes, IsBytes-bytes, length-bits_of_bytes, num-bits_of_bytes, same_from_bits}
use Rattle.vg_bits.proofs.Ranges.{length-range, length-replaced}
use Rattle.vg_scalar.specs.Scalar.{comparison_result, resize_result, select_result, shift_result, two_result}
use Rattle.vg_scalar.specs.declared.resize.Resize.{Resize as ResizeOp}
use Rattle.vg_scalar.specs.declared.resize.Resize.TheVariants.{Sext, Zext, Trunc}
use Rattle.vg_terms.specs.declared.value.Env.{Env}
use Rattle.vg_terms.specs.Term.{Tree, constant}
use Rattle.vg_terms.specs.Value.{value}
use Rattle.vg_program.specs.declared.line.Line.{Line}
use Rattle.vg_program.specs.declared.line.Line.TheVariants.{Load, Store, Two, Shift, Resize, Compare, Select, VectorLoad, VectorStore, Constant, Insert, Extract, Call}
use Rattle.vg_program.specs.declared.operand.Operand.{Operand}
use Rattle.vg_program.specs.declared.operand.Operand.TheVariants.{Register, Argument, Literal}
use Rattle.vg_program.specs.declared.param.Param.{Param}
use Rattle.vg_program.specs.declared.vector_size.VectorSize.{VectorSize}
use Rattle.vg_program.specs.declared.vector_size.VectorSize.TheVariants.{B4, B8, B16, B32, B64}
use Rattle.vg_program.specs.declared.defined.Defined.TheVariants.{Scalar, Vector}
use Rattle.vg_program.specs.Before.{Before, with_defined}
use Rattle.vg_program.specs.Meaning.{Inputs, Instructions, lane_number, operand_number, register_bits, State, step, widened, with_lane, with_memory}
use Rattle.vg_program.specs.Meaning as meaning
use Rattle.vg_program.specs.Params.{integers, kind_bits}
use Rattle.vg_program.specs.Text.{defined}
use Rattle.vg_program.specs.Valid.{HasWidth, IsLane, IsLine, Resizes}
use Rattle.vg_program.specs.Vectors.{bytes_of, constant_bits, is_register_size, register_of}
use Rattle.vg_shapes.specs.declared.ssa_unit.Operator.{Operator}
use Rattle.vg_shapes.specs.declared.ssa_unit.Operator.TheVariants as operator
use Rattle.vg_shapes.specs.Order.{one_if, Stands}
use Rattle.vg_shapes.specs.Registers.{Reads}
use Rattle.vg_shapes.specs.RunUnits.{operation_result}
use Rattle.vg_shapes.specs.Sound.{IsChange, result_bits}
use Rattle.vg_order_laws.specs.Sequence.{run_steps}
use Rattle.vg_order_laws.proofs.Sequences.{counts-itself}
use Rattle.vg_ssa.specs.Fitting.{IsTermOf, OperandsFit}
use Rattle.vg_ssa.specs.ValueTerm.{no_term}
use Rattle.vg_ssa.proofs.OperationTerms.{bits-width}
use Rattle.vg_ssa.proofs.Terms.{constant-term}
use Rattle.vg_lift.specs.Gather.{Bit, clear, bits_from}
use Rattle.vg_lift.specs.LaneTerm.{pieces}
use Rattle.vg_lift.proofs.Holding.{formed-drop, formed-take, length-pieces, map-take, pieces-formed, pieces-value, range-map, replaced-map}
use Rattle.vg_lift.proofs.Joining.{bits_from-formed, bits_from-value, length-bits_from}
use Rattle.vg_lift.proofs.Stands.{bit_value, BitsFormed}
use Rattle.vg_events.specs.Events.{Label, label_at, next}
use Rattle.vg_events.specs.Lines.{line_access}
use Rattle.vg_events.specs.Pairs.{IsPaired, Labelled}
use Rattle.vg_events.specs.Steps.{event_step}
use Rattle.vg_events.proofs.Runs.{some-bytes}
use Rattle.vg_events.proofs.Steps.{chain-as-loaded, steps-chain, stored-as-chain}
use Rattle.vg_events.proofs.Traps.{some-register_bytes}
use Rattle.vg_known.specs.Calls.{bits_of_terms, call_terms, lane_bits, met_with_all}
use Rattle.vg_known.specs.Cuts.{computed, gathered}
use Rattle.vg_known.specs.Kernels.{bits_at}
use Rattle.vg_known.specs.Known.{event_bits, Given, know, Known, known_bits, operand_term, read_bits, with_met, with_puts, with_scalar, with_vector}
use Rattle.vg_known.specs.Classes.{AllFormed, ClassesMean}
use Rattle.vg_known.proofs.Values.{computed-means, gathered-means, image, Means}

-- ---- what is known fits what is defined

-- a canonical term of its width for each scalar
abbrev pub ScalarsFit : List ℕ → List Tree → Type 0
ScalarsFit [] ts = ts ≡ []
ScalarsFit (w ∷ ws) [] = ⊥
ScalarsFit (w ∷ ws) (t ∷ ts) = IsTermOf w t × ScalarsFit ws ts

-- as many bits of well-formed terms as each register has
abbrev pub HasBits : ℕ → List Bit → Type 0
HasBits w bs = (length bs ≡ w) × BitsFormed [] bs

abbrev pub VectorsFit : List ℕ → List (List Bit) → Type 0
VectorsFit [] vs = vs ≡ []
VectorsFit (w ∷ ws) [] = ⊥
VectorsFit (w ∷ ws) (v ∷ vs) = HasBits w v × VectorsFit ws vs

pub record KnownFits (b : Before) (k : Known) : Type 0 where
  pub scalars : ScalarsFit b.scalars k.scalars
  pub vectors : VectorsFit b.vectors k.vectors

pub scalar-at : (ws : List ℕ) (ts : List Tree) (r w : ℕ) → ScalarsFit ws ts → slice_get ws r ≡ Some w → IsTermOf w (get_or ts r no_term)
scalar-at [] ts r w fit e = absurd (cc)
scalar-at (v ∷ ws) [] r w fit e = absurd fit
scalar-at (v ∷ ws) (t ∷ ts) zero w fit e = subst (λ n. IsTermOf n t) (let same : v ≡ w = cc in same) fit.0
scalar-at (v ∷ ws) (t ∷ ts) (suc r) w fit e = scalar-at ws ts r w fit.1 e

pub scalar-push : (ws : List ℕ) (ts : List Tree) (w : ℕ) (t : Tree) → ScalarsFit ws ts → IsTermOf w t → ScalarsFit (ws ++ w ∷ []) (ts ++ t ∷ [])
scalar-push [] [] w t fit is = (is, refl)
scalar-push [] (u ∷ ts) w t fit is = absurd (cc)
scalar-push (v ∷ ws) [] w t fit is = absurd fit
scalar-push (v ∷ ws) (u ∷ ts) w t fit is = (fit.0, scalar-push ws ts w t fit.1 is)

pub vector-at : (ws : List ℕ) (vs : List (List Bit)) (r w : ℕ) → VectorsFit ws vs → slice_get ws r ≡ Some w → HasBits w (get_or vs r [])
vector-at [] vs r w fit e = absurd (cc)
vector-at (v ∷ ws) [] r w fit e = absurd fit
vector-at (v ∷ ws) (t ∷ ts) zero w fit e = subst (λ n. HasBits n t) (let same : v ≡ w = cc in same) fit.0
vector-at (v ∷ ws) (t ∷ ts) (suc r) w fit e = vector-at ws ts r w fit.1 e

pub vector-push : (ws : List ℕ) (ts : List (List Bit)) (w : ℕ) (t : List Bit) → VectorsFit ws ts → HasBits w t → VectorsFit (ws ++ w ∷ []) (ts ++ t ∷ [])
vector-push [] [] w t fit is = (is, refl)
vector-push [] (u ∷ ts) w t fit is = absurd (cc)
vector-push (v ∷ ws) [] w t fit is = absurd fit
vector-push (v ∷ ws) (u ∷ ts) w t fit is = (fit.0, vector-push ws ts w t fit.1 is)

-- ---- events and their bits

-- eight bits of well-formed terms with this byte
pub record HasByte (env : Env) (b : ℕ) (bs : List Bit) : Type 0 where
  pub long : length bs ≡ 8
  pub formed : BitsFormed [] bs
  pub is : image env bs ≡ bits 8 b

pub formed-append : (xs ys : List Bit) → BitsFormed [] xs → BitsFormed [] ys → BitsFormed [] (xs ++ ys)
formed-append [] ys f g = g
formed-append (x ∷ xs) ys f g = (f.0, formed-append xs ys f.1 g)

-- bits of several events
pub record HaveBytes (env : Env) (bytes : List ℕ) (bs : List Bit) : Type 0 where
  pub long : length bs ≡ 8 * length bytes
  pub formed : BitsFormed [] bs
  pub is : image env bs ≡ bits_of_bytes bytes

pub events-have : (env : Env) (f : ℕ → List Bit) (byte : ℕ → ℕ) (es : List ℕ) → ((e : ℕ) → Stands e es → HasByte env (byte e) (f e)) → HaveBytes env (map byte es) (event_bits f es)
unfolding bits_of_bytes
events-have env f byte [] have = record { long = refl; formed = tt; is = refl }
events-have env f byte (e ∷ es) have =
    let first = have e (let one = counts-itself e in omega arith) in
    let rest = events-have env f byte es (λ x s. have x (omega arith)) in
    record {
      long = omega (arith, length-append (f e) (event_bits f es), first.long, rest.long);
      formed = formed-append (f e) (event_bits f es) first.formed rest.formed;
      is = map-append (bit_value env []) (f e) (event_bits f es) ∙ (λ i. first.is i ++ rest.is i);
    }

pub labelled-writes : (ls : List Label) (w : Bool) (a : Address) (es : List ℕ) → Labelled ls w a es → (e : ℕ) → Stands e es → (label_at ls e).writes ≡ w
labelled-writes ls w a [] h e s = absurd (omega arith)
labelled-writes ls w a (f ∷ es) h e s = elim (cases_Bool (nat_eq e f)) [
  | inl t ↦ ap (λ n. (label_at ls n).writes) (eqb-true e f t) ∙ ap (λ (l : Label). l.writes) h.0
  | inr n ↦ labelled-writes ls w (next a) es h.1 e (let none : one_if (nat_eq e f) ≡ 0 = ap one_if n in omega arith)
]

-- ---- what a walk is given

pub record GivenFits (env : Env) (g : Given) (i : Inputs) (params : List Param) (ls : List Label) (byte : ℕ → ℕ) : Type 0 where
  pub nothing_read : Reads env []
  pub arguments : ScalarsFit (map (λ q. kind_bits q.kind) (integers params)) g.arguments
  pub args : map (value env) g.arguments ≡ i.args
  pub small : (e : ℕ) → byte e < 256
  pub reads : (e : ℕ) → e < length ls → (label_at ls e).writes ≡ false → HasByte env (byte e) (bits_at g.reads e)

-- the state that is known
abbrev pub shown : Env → List ℕ → Known → State
shown env m k = record { memory = m; scalars = map (value env) k.scalars; vectors = map (image env) k.vectors }

-- ---- operands

get-image : {A B : Type 0} (f : A → B) (l : List A) (k : ℕ) (d : A) → get_or (map f l) k (f d) ≡ f (get_or l k d)
get-image f [] k d = refl
get-image f (x ∷ l) zero d = refl
get-image f (x ∷ l) (suc k) d = get-image f l k d

mapped-get : {A B : Type 0} (f : A → B) (l : List A) (k : ℕ) → option_map f (slice_get l k) ≡ slice_get (map f l) k
mapped-get f [] k = refl
mapped-get f (x ∷ l) zero = refl
mapped-get f (x ∷ l) (suc k) = mapped-get f l k

operand-value : (env : Env) (g : Given) (i : Inputs) (k : Known) (x : Operand) → map (value env) g.arguments ≡ i.args → operand_number i (map (value env) k.scalars) x ≡ value env (operand_term g k x)
operand-value env g i k (Register r) args = get-image (value env) k.scalars r no_term
operand-value env g i k (Argument a) args = ap (λ l. slice_index l a) (sym args) ∙ get-image (value env) g.arguments a no_term
operand-value env g i k (Literal w n) args = refl

pub operand-fits : (g : Given) (b : Before) (k : Known) (x : Operand) (w : ℕ) → ScalarsFit (map (λ q. kind_bits q.kind) (integers b.params)) g.arguments → ScalarsFit b.scalars k.scalars → HasWidth b x w → IsTermOf w (operand_term g k x)
operand-fits g b k (Register r) w arguments fit h = scalar-at b.scalars k.scalars r w fit h
operand-fits g b k (Argument a) w arguments fit h = scalar-at (map (λ q. kind_bits q.kind) (integers b.params)) g.arguments a w arguments (sym (mapped-get (λ q. kind_bits q.kind) (integers b.params) a) ∙ h)
operand-fits g b k (Literal v n) w arguments fit h = elim (cases_Bool (nat_lt n (2 ^ bits_of v))) [
  | inl t ↦
      let same : Some (bits_of v) ≡ Some w = sym (cond-true _ _ _ t) ∙ h in
      let is : bits_of v ≡ w = cc in
      subst (λ m. IsTermOf m (constant (bits_of v) n)) is (constant-term (bits_of v) n (bits-width v) (ltb-true n (2 ^ bits_of v) t))
  | inr f ↦ absurd (let none : None ≡ Some w = sym (cond-false _ _ _ f) ∙ h in cc)
]

pub change-is : (op : ResizeOp) (from to : Width) → Resizes op from to → IsChange op to from
change-is Sext from to h = h
change-is Zext from to h = h
change-is Trunc from to h = h

-- ---- numbers and lists

pub eight-size : (w : Width) → 8 * size_of w ≡ bits_of w
eight-size W8 = refl
eight-size W16 = refl
eight-size W32 = refl
eight-size W64 = refl

pub few-bits : (w : Width) → bits_of w ≤ 128
few-bits W8 = omega arith
few-bits W16 = omega arith
few-bits W32 = omega arith
few-bits W64 = omega arith

pub some-bits : (w : Width) → 0 < bits_of w
some-bits W8 = omega arith
some-bits W16 = omega arith
some-bits W32 = omega arith
some-bits W64 = omega arith

pub lane-inside : (w : Width) (bits n : ℕ) → n < bits / bits_of w → n * bits_of w + bits_of w ≤ bits
lane-inside W8 bits n h = omega arith
lane-inside W16 bits n h = omega arith
lane-inside W32 bits n h = omega arith
lane-inside W64 bits n h = omega arith

pub bytes-fit : (z : VectorSize) → 8 * bytes_of z ≤ register_of z
bytes-fit B4 = omega arith
bytes-fit B8 = omega arith
bytes-fit B16 = omega arith
bytes-fit B32 = omega arith
bytes-fit B64 = omega arith

pub small-bytes : (byte : ℕ → ℕ) (es : List ℕ) → ((e : ℕ) → byte e < 256) → IsBytes (map byte es)
small-bytes byte [] small = tt
small-bytes byte (e ∷ es) small = (small e, small-bytes byte es small)

pub events-image : (env : Env) (f : ℕ → List Bit) (byte : ℕ → ℕ) (es : List ℕ) → ((e : ℕ) → Stands e es → image env (f e) ≡ bits 8 (byte e)) → image env (event_bits f es) ≡ bits_of_bytes (map byte es)
unfolding bits_of_bytes
events-image env f byte [] have = refl
events-image env f byte (e ∷ es) have =
    map-append (bit_value env []) (f e) (event_bits f es)
    ∙ (λ i. have e (let one = counts-itself e in omega arith) i ++ events-image env f byte es (λ x s. have x (omega arith)) i)

clears-image : (env : Env) (n : ℕ) → image env (replicate n clear) ≡ replicate n 0
clears-image env zero = refl
clears-image env (suc n) = ap (λ l. 0 ∷ l) (clears-image env n)

pub clears-formed : (n : ℕ) → BitsFormed [] (replicate n clear)
clears-formed zero = tt
clears-formed (suc n) = (tt, clears-formed n)

pub length-clears : (n : ℕ) → length (replicate n clear) ≡ n
length-clears zero = refl
length-clears (suc n) = ap suc (length-clears n)

pub whole-image : (env : Env) (t : Tree) (n : ℕ) → image env (bits_from t 0 n) ≡ bits n (value env t)
whole-image env t n = bits_from-value env [] t 0 n ∙ ap (bits n) (let e : value env t / 2 ^ 0 ≡ value env t = div-one (value env t) in e)

pub take-image : (env : Env) (n : ℕ) (bs : List Bit) → take n (image env bs) ≡ image env (take n bs)
take-image env n bs = sym (map-take (bit_value env []) n bs)

-- ---- one value more

means-as : (env : Env) (w v n m : ℕ) (t : Tree) → w ≡ v → n ≡ m → Means env w n t → Means env v m t
means-as env w v n m t e f h = subst (λ a. Means env a m t) e (subst (λ a. Means env w a t) f h)

-- what a line leaves, which defines this
pub record Leaves (env : Env) (b : Before) (o : Option State) (t : List ℕ) (k : Known) : Type 0 where
  pub is : o ≡ Some (shown env t k)
  pub fits : KnownFits b k

scalar-known : (env : Env) (b : Before) (m t : List ℕ) (k : Known) (w n : ℕ) (u : Tree) → KnownFits b k → Means env w n u → m ≡ t
    → Leaves env (with_defined b (Scalar w)) (Some (meaning.with_scalar (shown env m k) n)) t (with_scalar k u)
scalar-known env b m t k w n u fits means same = record {
  is = (λ i. Some (record {
    memory = same i;
    scalars = (ap (λ v. map (value env) k.scalars ++ v ∷ []) (sym means.means) ∙ sym (map-append (value env) k.scalars (u ∷ []))) i;
    vectors = map (image env) k.vectors;
  }));
  fits = record { scalars = scalar-push b.scalars k.scalars w u fits.scalars means.is; vectors = fits.vectors };
}

vector-known : (env : Env) (b : Before) (m t : List ℕ) (k : Known) (w : ℕ) (reg : List ℕ) (bs : List Bit) → KnownFits b k → HasBits w bs → reg ≡ image env bs → m ≡ t
    → Leaves env (with_defined b (Vector w)) (Some (meaning.with_vector (shown env m k) reg)) t (with_vector k bs)
vector-known env b m t k w reg bs fits has is same = record {
  is = (λ i. Some (record {
    memory = same i;
    scalars = map (value env) k.scalars;
    vectors = (ap (λ v. map (image env) k.vectors ++ v ∷ []) is ∙ sym (map-append (image env) k.vectors (bs ∷ []))) i;
  }));
  fits = record { scalars = fits.scalars; vectors = vector-push b.vectors k.vectors w bs fits.vectors has };
}

no-events : (step : ℕ → List ℕ → Option (List ℕ)) (es m t : List ℕ) → es ≡ [] → run_steps step es m ≡ Some t → m ≡ t
unfolding run_steps
no-events step [] m t e done = cc
no-events step (f ∷ es) m t e done = absurd (cc)

-- the events of a load, and of a store
loads : (places : List ℕ) (ls : List Label) (byte : ℕ → ℕ) (a : Address) (n : ℕ) (es m t : List ℕ) → 0 < n → length es ≡ n → Labelled ls false a es → run_steps (event_step places ls byte) es m ≡ Some t
    → (m ≡ t) × (loaded m (place_of places a) n ≡ Some (map byte es))
loads places ls byte a n es m t some long labelled done =
    let size : length (map byte es) ≡ n = length-map es byte ∙ long in
    let seen = chain-as-loaded (place_of places a) (map byte es) m t (omega arith) (sym (steps-chain places ls byte false a es labelled m) ∙ done) in
    (sym seen.0, ap (loaded m (place_of places a)) (sym size) ∙ seen.1)

stores : (places : List ℕ) (ls : List Label) (byte : ℕ → ℕ) (a : Address) (n : ℕ) (es m t : List ℕ) → 0 < n → length es ≡ n → Labelled ls true a es → run_steps (event_step places ls byte) es m ≡ Some t
    → stored m (place_of places a) (map byte es) ≡ Some t
stores places ls byte a n es m t some long labelled done =
    let size : length (map byte es) ≡ n = length-map es byte ∙ long in
    sym (stored-as-chain (place_of places a) (map byte es) m (omega arith)) ∙ sym (steps-chain places ls byte true a es labelled m) ∙ done

-- what a store of these bytes leaves
memory-known : (env : Env) (b : Before) (m t at_bytes new : List ℕ) (at : ℤ) (k : Known) (es : List ℕ) (bs : List Bit) → KnownFits b k → new ≡ at_bytes → stored m at at_bytes ≡ Some t
    → Leaves env b (stored m at new >>= λ memory. Some (with_memory (shown env m k) memory)) t (with_puts k es bs)
memory-known env b m t at_bytes new at k es bs fits same put = record {
  is = ap (λ l. stored m at l >>= λ memory. Some (with_memory (shown env m k) memory)) same ∙ ap (λ o. o >>= λ memory. Some (with_memory (shown env m k) memory)) put;
  fits = record { scalars = fits.scalars; vectors = fits.vectors };
}

registers-image : (env : Env) (k : Known) (vs : List ℕ) → map (λ v. register_bits (map (image env) k.vectors) v) vs ≡ map (image env) (map (known_bits k) vs)
registers-image env k [] = refl
registers-image env k (v ∷ vs) = (λ i. get-image (image env) k.vectors v [] i ∷ registers-image env k vs i)

pub some-there : {A : Type 0} (o : Option A) (P : A → Type 0) → IsSomeAnd o P → (x : A) × (o ≡ Some x) × P x
some-there None P h = absurd h
some-there (Some x) P h = (x, refl, h)

pub constant-wide : (n : ℕ) → IsTrue (is_register_size n) → 8 * n ≡ constant_bits n
constant-wide n h = elim (cases_Bool (nat_eq n 16)) [
  | inl t ↦ let e = eqb-true n 16 t in (let k : 8 * n ≡ 128 = omega arith in k) ∙ sym (cond-true _ _ _ t)
  | inr f ↦ elim (cases_Bool (nat_eq n 32)) [
    | inl t ↦ let e = eqb-true n 32 t in (let k : 8 * n ≡ 256 = omega arith in k) ∙ sym (cond-false _ _ _ f ∙ cond-true _ _ _ t)
    | inr g ↦
        let last : nat_eq n 64 ≡ true = sym (λ i. f i || (g i || nat_eq n 64)) ∙ h in
        let e = eqb-true n 64 last in (let k : 8 * n ≡ 512 = omega arith in k) ∙ sym (cond-false _ _ _ f ∙ cond-false _ _ _ g)
  ]
]

-- ---- lines

-- the bits of the events of a store are those that the line stores
abbrev pub Puts : (ℕ → List Bit) → Given → Line → List ℕ → Known → Type 0
Puts f g (Store w a x) es k = event_bits f es ≡ bits_from (operand_term g k x) 0 (bits_of w)
Puts f g (VectorStore z a v) es k = event_bits f es ≡ take (8 * bytes_of z) (known_bits k v)
Puts f g (Load w a) es k = Unit {0}
Puts f g (Two op w x y) es k = Unit {0}
Puts f g (Shift op w x n) es k = Unit {0}
Puts f g (Resize op w from x) es k = Unit {0}
Puts f g (Compare op w x y) es k = Unit {0}
Puts f g (Select w c x y) es k = Unit {0}
Puts f g (VectorLoad z a) es k = Unit {0}
Puts f g (Constant bs) es k = Unit {0}
Puts f g (Insert v bits n w x) es k = Unit {0}
Puts f g (Extract v n w) es k = Unit {0}
Puts f g (Call name vs imm bits cost) es k = Unit {0}

-- a call gives what is known of it
abbrev pub CallFits : Env → Instructions → Given → Before → Line → Known → Type 0
CallFits env called g b (Call name vs imm bits cost) k =
    let terms = call_terms g.entries k.met name imm (map (known_bits k) vs) in
    HasBits bits (bits_of_terms (lane_bits g.entries name) terms)
    × (called name (map (image env) (map (known_bits k) vs)) imm ≡ image env (bits_of_terms (lane_bits g.entries name) terms))
    × AllFormed terms
CallFits env called g b (Load w a) k = Unit {0}
CallFits env called g b (Store w a x) k = Unit {0}
CallFits env called g b (Two op w x y) k = Unit {0}
CallFits env called g b (Shift op w x n) k = Unit {0}
CallFits env called g b (Resize op w from x) k = Unit {0}
CallFits env called g b (Compare op w x y) k = Unit {0}
CallFits env called g b (Select w c x y) k = Unit {0}
CallFits env called g b (VectorLoad z a) k = Unit {0}
CallFits env called g b (VectorStore z a v) k = Unit {0}
CallFits env called g b (Constant bs) k = Unit {0}
CallFits env called g b (Insert v bits n w x) k = Unit {0}
CallFits env called g b (Extract v n w) k = Unit {0}

-- all that one line wants
pub record LineFits (env : Env) (called : Instructions) (g : Given) (i : Inputs) (b : Before) (ls : List Label) (byte : ℕ → ℕ) (final : ℕ → List Bit) (l : Line) (es : List ℕ) (k : Known) : Type 0 where
  pub given : GivenFits env g i b.params ls byte
  pub known : KnownFits b k
  pub classes : ClassesMean env k.met
  pub valid : IsLine b l
  pub paired : IsPaired ls (line_access l) es
  pub inside : (e : ℕ) → Stands e es → e < length ls
  pub puts : Puts final g l es k
  pub put_bytes : (e : ℕ) → Stands e es → (label_at ls e).writes ≡ true → image env (final e) ≡ bits 8 (byte e)
  pub calls : CallFits env called g b l k

-- an operation on operands
operation-known : (env : Env) (g : Given) (i : Inputs) (b : Before) (m t : List ℕ) (k : Known) (op : Operator) (w : Width) (n r : ℕ) (x y z : Tree) → KnownFits b k → ClassesMean env k.met → OperandsFit op w n x y z
    → operation_result op (bits_of w) n (value env x) (value env y) (value env z) ≡ r → m ≡ t
    → Leaves env (with_defined b (Scalar (result_bits op w))) (Some (meaning.with_scalar (shown env m k) r)) t (with_scalar k (computed k.met op (bits_of w) n x y z))
operation-known env g i b m t k op w n r x y z fits classes operands is same =
    scalar-known env b m t k (result_bits op w) r (computed k.met op (bits_of w) n x y z) fits
    (means-as env (result_bits op w) (result_bits op w) (operation_result op (bits_of w) n (value env x) (value env y) (value env z)) r (computed k.met op (bits_of w) n x y z) refl is (computed-means env k.met op w n x y z classes operands)) same

stored-bytes : (env : Env) (byte : ℕ → ℕ) (es : List ℕ) (n : ℕ) (final : ℕ → List Bit) (bs : List Bit) → ((e : ℕ) → byte e < 256) → length es ≡ n → ((e : ℕ) → Stands e es → image env (final e) ≡ bits 8 (byte e)) → event_bits final es ≡ bs → bytes n (num (image env bs)) ≡ map byte es
stored-bytes env byte es n final bs small long have puts =
    let are = small-bytes byte es small in
    let size : length (map byte es) ≡ n = length-map es byte ∙ long in
    let is : image env bs ≡ bits_of_bytes (map byte es) = ap (image env) (sym puts) ∙ events-image env final byte es have in
    (λ j. bytes (sym size j) ((ap num is ∙ num-bits_of_bytes (map byte es) are) j)) ∙ bytes-number (map byte es) are

-- of a whole term the low bits alone are stored
low-number : (env : Env) (t : Tree) (n : ℕ) → bytes n (value env t) ≡ bytes n (num (image env (bits_from t 0 (8 * n))))
low-number env t n =
    same_from_bits (bytes n (value env t)) (bytes n (num (image env (bits_from t 0 (8 * n))))) (IsBytes-bytes n (value env t)) (IsBytes-bytes n (num (image env (bits_from t 0 (8 * n)))))
    (bits_of_bytes-bytes n (value env t) ∙ sym (bits_of_bytes-bytes n (num (image env (bits_from t 0 (8 * n)))) ∙ ap (λ l. bits (8 * n) (num l)) (whole-image env t (8 * n)) ∙ ap (bits (8 * n)) (num-bits (8 * n) (value env t)) ∙ bits-mod (8 * n) (value env t)))

pub line-does : (env : Env) (called : Instructions) (g : Given) (i : Inputs) (b : Before) (ls : List Label) (byte : ℕ → ℕ) (final : ℕ → List Bit) (l : Line) (es : List ℕ) (k : Known) (m t : List ℕ) → LineFits env called g i b ls byte final l es k
    → run_steps (event_step i.places ls byte) es m ≡ Some t → Leaves env (with_defined b (defined l)) (step called i l (shown env m k)) t (know g l es k)
line-does env called g i b ls byte final (Load w a) es k m t h done =
    let read = loads i.places ls byte a (size_of w) es m t (some-bytes w) h.paired.0 h.paired.1 done in
    let have = events-have env (bits_at g.reads) byte es (λ e s. h.given.reads e (h.inside e s) (labelled-writes ls false a es h.paired.1 e s)) in
    let bs = read_bits g es in
    let size : length bs ≡ bits_of w = have.long ∙ ap (λ n. 8 * n) (length-map es byte ∙ h.paired.0) ∙ eight-size w in
    let means = gathered-means env k.met bs h.given.nothing_read h.classes have.formed (omega (arith, some-bits w)) (omega (arith, few-bits w)) in
    let is : num (image env bs) ≡ number (map byte es) = ap num have.is ∙ num-bits_of_bytes (map byte es) (small-bytes byte es h.given.small) in
    let left = scalar-known env b m t k (bits_of w) (number (map byte es)) (gathered k.met bs) h.known (means-as env (length bs) (bits_of w) (num (image env bs)) (number (map byte es)) (gathered k.met bs) size is means) read.0 in
    record { is = ap (λ o. o >>= λ bytes. Some (meaning.with_scalar (shown env m k) (number bytes))) read.1 ∙ left.is; fits = left.fits }
line-does env called g i b ls byte final (Store w a x) es k m t h done =
    let put = stores i.places ls byte a (size_of w) es m t (some-bytes w) h.paired.0 h.paired.1 done in
    let x_term = operand_term g k x in
    let bytes_are = stored-bytes env byte es (size_of w) final (bits_from x_term 0 (bits_of w)) h.given.small h.paired.0 (λ e s. h.put_bytes e s (labelled-writes ls true a es h.paired.1 e s)) h.puts in
    memory-known env b m t (map byte es) (bytes (size_of w) (operand_number i (map (value env) k.scalars) x)) (place_of i.places a) k es (bits_from x_term 0 (bits_of w)) h.known
    (ap (bytes (size_of w)) (operand-value env g i k x h.given.args) ∙ low-number env x_term (size_of w) ∙ ap (λ n. bytes (size_of w) (num (image env (bits_from x_term 0 n)))) (eight-size w) ∙ bytes_are) put
line-does env called g i b ls byte final (Two op w x y) es k m t h done =
    operation-known env g i b m t k (operator.Two op) w 0 (two_result op (bits_of w) (operand_number i (map (value env) k.scalars) x) (operand_number i (map (value env) k.scalars) y)) (operand_term g k x) (operand_term g k y) no_term h.known h.classes
    (operand-fits g b k x (bits_of w) h.given.arguments h.known.scalars h.valid.0, operand-fits g b k y (bits_of w) h.given.arguments h.known.scalars h.valid.1)
    (sym (λ j. two_result op (bits_of w) (operand-value env g i k x h.given.args j) (operand-value env g i k y h.given.args j)))
    (no-events (event_step i.places ls byte) es m t h.paired done)
line-does env called g i b ls byte final (Shift op w x n) es k m t h done =
    operation-known env g i b m t k (operator.Shift op) w n (shift_result op (bits_of w) n (operand_number i (map (value env) k.scalars) x)) (operand_term g k x) no_term no_term h.known h.classes
    (h.valid.1, operand-fits g b k x (bits_of w) h.given.arguments h.known.scalars h.valid.0)
    (sym (ap (shift_result op (bits_of w) n) (operand-value env g i k x h.given.args)))
    (no-events (event_step i.places ls byte) es m t h.paired done)
line-does env called g i b ls byte final (Resize op w from x) es k m t h done =
    operation-known env g i b m t k (operator.Resize op from) w 0 (resize_result op (bits_of w) (bits_of from) (operand_number i (map (value env) k.scalars) x)) (operand_term g k x) no_term no_term h.known h.classes
    (change-is op from w h.valid.1, operand-fits g b k x (bits_of from) h.given.arguments h.known.scalars h.valid.0)
    (sym (ap (resize_result op (bits_of w) (bits_of from)) (operand-value env g i k x h.given.args)))
    (no-events (event_step i.places ls byte) es m t h.paired done)
line-does env called g i b ls byte final (Compare op w x y) es k m t h done =
    operation-known env g i b m t k (operator.Compare op) w 0 (comparison_result op (bits_of w) (operand_number i (map (value env) k.scalars) x) (operand_number i (map (value env) k.scalars) y)) (operand_term g k x) (operand_term g k y) no_term h.known h.classes
    (operand-fits g b k x (bits_of w) h.given.arguments h.known.scalars h.valid.0, operand-fits g b k y (bits_of w) h.given.arguments h.known.scalars h.valid.1)
    (sym (λ j. comparison_result op (bits_of w) (operand-value env g i k x h.given.args j) (operand-value env g i k y h.given.args j)))
    (no-events (event_step i.places ls byte) es m t h.paired done)
line-does env called g i b ls byte final (Select w c x y) es k m t h done =
    operation-known env g i b m t k operator.Select w 0 (select_result (operand_number i (map (value env) k.scalars) c) (operand_number i (map (value env) k.scalars) x) (operand_number i (map (value env) k.scalars) y)) (operand_term g k c) (operand_term g k x) (operand_term g k y) h.known h.classes
    (operand-fits g b k c 1 h.given.arguments h.known.scalars h.valid.0, operand-fits g b k x (bits_of w) h.given.arguments h.known.scalars h.valid.1, operand-fits g b k y (bits_of w) h.given.arguments h.known.scalars h.valid.2)
    (sym (λ j. select_result (operand-value env g i k c h.given.args j) (operand-value env g i k x h.given.args j) (operand-value env g i k y h.given.args j)))
    (no-events (event_step i.places ls byte) es m t h.paired done)
line-does env called g i b ls byte final (VectorLoad z a) es k m t h done =
    let read = loads i.places ls byte a (bytes_of z) es m t (some-register_bytes z) h.paired.0 h.paired.1 done in
    let have = events-have env (bits_at g.reads) byte es (λ e s. h.given.reads e (h.inside e s) (labelled-writes ls false a es h.paired.1 e s)) in
    let zeros = register_of z - 8 * bytes_of z in
    let bs = read_bits g es in
    let many : length (map byte es) ≡ bytes_of z = length-map es byte ∙ h.paired.0 in
    let size : length bs ≡ 8 * bytes_of z = have.long ∙ ap (λ n. 8 * n) many in
    let is : widened (register_of z) (map byte es) ≡ image env (bs ++ replicate zeros clear) =
    (λ j. sym have.is j ++ (ap (λ n. replicate (register_of z - 8 * n) 0) many ∙ sym (clears-image env zeros)) j) ∙ sym (map-append (bit_value env []) bs (replicate zeros clear)) in
    let has : HasBits (register_of z) (bs ++ replicate zeros clear) = (
      omega (arith, length-append bs (replicate zeros clear), size, length-clears zeros, bytes-fit z),
      formed-append bs (replicate zeros clear) have.formed (clears-formed zeros),
    ) in
    let left = vector-known env b m t k (register_of z) (widened (register_of z) (map byte es)) (bs ++ replicate zeros clear) h.known has is read.0 in
    record { is = ap (λ o. o >>= λ bytes. Some (meaning.with_vector (shown env m k) (widened (register_of z) bytes))) read.1 ∙ left.is; fits = left.fits }
line-does env called g i b ls byte final (VectorStore z a v) es k m t h done =
    let put = stores i.places ls byte a (bytes_of z) es m t (some-register_bytes z) h.paired.0 h.paired.1 done in
    let part = take (8 * bytes_of z) (known_bits k v) in
    memory-known env b m t (map byte es) (bytes (bytes_of z) (num (take (8 * bytes_of z) (register_bits (map (image env) k.vectors) v)))) (place_of i.places a) k es part h.known
    (ap (λ l. bytes (bytes_of z) (num (take (8 * bytes_of z) l))) (get-image (image env) k.vectors v []) ∙ ap (λ l. bytes (bytes_of z) (num l)) (take-image env (8 * bytes_of z) (known_bits k v))
    ∙ stored-bytes env byte es (bytes_of z) final part h.given.small h.paired.0 (λ e s. h.put_bytes e s (labelled-writes ls true a es h.paired.1 e s)) h.puts) put
line-does env called g i b ls byte final (Constant bs) es k m t h done =
    let w = 8 * length bs in
    let n = num (bits_of_bytes bs) in
    let parts = pieces w n 0 w in
    let wide : w ≡ constant_bits (length bs) = constant-wide (length bs) h.valid.size in
    let has : HasBits (constant_bits (length bs)) parts = (length-pieces w n 0 w ∙ wide, pieces-formed [] w n 0 w (omega arith)) in
    let is : bits_of_bytes bs ≡ image env parts =
    sym (pieces-value env [] w n 0 w (omega arith) ∙ ap (bits w) (let e : n / 2 ^ 0 ≡ n = div-one n in e) ∙ ap (λ q. bits q n) (sym (length-bits_of_bytes bs)) ∙ bits-num (bits_of_bytes bs) (IsBits-bits_of_bytes bs)) in
    vector-known env b m t k (constant_bits (length bs)) (bits_of_bytes bs) parts h.known has is (no-events (event_step i.places ls byte) es m t h.paired done)
line-does env called g i b ls byte final (Insert v long n w x) es k m t h done =
    let old = known_bits k v in
    let has_old = vector-at b.vectors k.vectors v long h.known.vectors h.valid.0 in
    let x_term = operand_term g k x in
    let x_is = operand-fits g b k x (bits_of w) h.given.arguments h.known.scalars h.valid.1 in
    let new = bits_from x_term 0 (bits_of w) in
    let low = n * bits_of w in
    let size = length-bits_from x_term 0 (bits_of w) in
    let fit : low + length new ≤ length old = omega (arith, size, has_old.0, lane-inside w long n h.valid.2.0) in
    let all = replaced low new old in
    let has : HasBits long all = (
      length-replaced low new old fit ∙ has_old.0,
      formed-append (take low old) (new ++ drop (low + length new) old) (formed-take [] low old has_old.1)
          (formed-append new (drop (low + length new) old) (bits_from-formed [] x_term 0 (bits_of w) x_is.well_formed (omega (arith, x_is.width))) (formed-drop [] (low + length new) old has_old.1)),
    ) in
    let new_is : bits (bits_of w) (operand_number i (map (value env) k.scalars) x) ≡ image env new = ap (bits (bits_of w)) (operand-value env g i k x h.given.args) ∙ sym (whole-image env x_term (bits_of w)) in
    let is : with_lane (bits_of w) n (operand_number i (map (value env) k.scalars) x) (register_bits (map (image env) k.vectors) v) ≡ image env all =
    (λ j. replaced low (new_is j) (get-image (image env) k.vectors v [] j)) ∙ sym (replaced-map (bit_value env []) low new old) in
    vector-known env b m t k long (with_lane (bits_of w) n (operand_number i (map (value env) k.scalars) x) (register_bits (map (image env) k.vectors) v)) all h.known has is (no-events (event_step i.places ls byte) es m t h.paired done)
line-does env called g i b ls byte final (Extract v n w) es k m t h done =
    let there = some-there (slice_get b.vectors v) (λ long. IsLane long w n) h.valid in
    let old = known_bits k v in
    let has_old = vector-at b.vectors k.vectors v there.0 h.known.vectors there.1 in
    let low = n * bits_of w in
    let part = range low (bits_of w) old in
    let size : length part ≡ bits_of w = length-range low (bits_of w) old (omega (arith, has_old.0, lane-inside w there.0 n there.2.0)) in
    let means = gathered-means env k.met part h.given.nothing_read h.classes (formed-take [] (bits_of w) (drop low old) (formed-drop [] low old has_old.1)) (omega (arith, size, some-bits w)) (omega (arith, size, few-bits w)) in
    let is : num (image env part) ≡ lane_number (bits_of w) n (register_bits (map (image env) k.vectors) v) =
    ap num (range-map (bit_value env []) low (bits_of w) old) ∙ ap (λ l. num (range low (bits_of w) l)) (sym (get-image (image env) k.vectors v [])) in
    scalar-known env b m t k (bits_of w) (lane_number (bits_of w) n (register_bits (map (image env) k.vectors) v)) (gathered k.met part) h.known
    (means-as env (length part) (bits_of w) (num (image env part)) (lane_number (bits_of w) n (register_bits (map (image env) k.vectors) v)) (gathered k.met part) size is means) (no-events (event_step i.places ls byte) es m t h.paired done)
line-does env called g i b ls byte final (Call name vs imm long cost) es k m t h done =
    let terms = call_terms g.entries k.met name imm (map (known_bits k) vs) in
    let all = bits_of_terms (lane_bits g.entries name) terms in
    let registers : map (λ v. register_bits (map (image env) k.vectors) v) vs ≡ map (image env) (map (known_bits k) vs) = registers-image env k vs in
    vector-known env b m t (with_met k (met_with_all k.met terms)) long (called name (map (λ v. register_bits (map (image env) k.vectors) v) vs) imm) all (record { scalars = h.known.scalars; vectors = h.known.vectors }) h.calls.0
    (ap (λ l. called name l imm) registers ∙ h.calls.1) (no-events (event_step i.places ls byte) es m t h.paired done)
