-- Where units give numbers, each is held by the span of its value.
use Rattle.std.proofs.Common.{◌≡◌, ℕ, zero, suc, ◌+◌, ◌-◌, ◌^◌, ◌<◌, ◌≤◌, ◌⊎◌, Bool, true, false, List, [], ◌∷◌, ◌++◌, length, take, drop, map, Option, Some, None, refl, sym, ap, ◌∙◌, subst, arith, append_assoc, append-nil, inl, inr}
use Rattle.std.specs.Prelude.{pos, nat_eq, nat_lt, slice_get, slice_index, slice_index_or, int_lt, if◌then◌else◌}
use Rattle.std.specs.List.{AllByRecursion}
use Rattle.std.specs.Option.{option_map}
use Rattle.std.proofs.lemmas.Bool.{cases_lt, cond-false, cond-true, le-ltb, lt-ltb}
use Rattle.std.proofs.lemmas.List.{get_or_append_left, get_or_push, length-append, length-map, length_push, take-append-drop}
use Rattle.std.proofs.lemmas.Nat.{pow_pos}
use Rattle.vg_base.specs.Bits.{signed_at}
use Rattle.vg_base.specs.Trap.{◌>>=◌}
use Rattle.vg_base.specs.declared.width.Width.{Width}
use Rattle.vg_base.specs.declared.width.Width.TheVariants.{W8, W16, W32, W64}
use Rattle.vg_base.specs.Width.{bits_of}
use Rattle.vg_scalar.specs.declared.comparison.Comparison.{Comparison}
use Rattle.vg_scalar.specs.declared.comparison.Comparison.TheVariants.{Eq, Slt, Ult}
use Rattle.vg_scalar.specs.declared.resize.Resize.{Resize as Resizing}
use Rattle.vg_scalar.specs.declared.resize.Resize.TheVariants.{Sext, Zext, Trunc}
use Rattle.vg_scalar.specs.Scalar.{comparison_result, low, low_signed}
use Rattle.vg_shapes.specs.declared.ssa.Ssa.{Ssa}
use Rattle.vg_shapes.specs.declared.ssa.SsaParam.{SsaParam}
use Rattle.vg_shapes.specs.declared.ssa.SsaParamKind.{SsaParamKind}
use Rattle.vg_shapes.specs.declared.ssa.SsaParamKind.TheVariants.{Pointer, Integer}
use Rattle.vg_shapes.specs.declared.ssa_unit.Operands.{Operands}
use Rattle.vg_shapes.specs.declared.ssa_unit.Operator.{Operator}
use Rattle.vg_shapes.specs.declared.ssa_unit.Operator.TheVariants.{Two, Shift, Resize, Compare, Select}
use Rattle.vg_shapes.specs.declared.ssa_unit.SsaUnit.{SsaUnit}
use Rattle.vg_shapes.specs.declared.ssa_unit.SsaUnit.TheVariants.{Load, Store, Operation}
use Rattle.vg_shapes.specs.declared.wanted.Wanted.{Wanted}
use Rattle.vg_shapes.specs.declared.wanted.Wanted.TheVariants.{Value, Constant, Nothing}
use Rattle.vg_shapes.specs.RunUnits.{number_of, result_of, start_of}
use Rattle.vg_shapes.specs.Sound.{AreArguments, IsChange, IsEarlier, IsNumber, IsOperation, IsSound, IsUnit, kind_bits, result_bits, TakeEarlier, TakesEarlier, unit_bits, value_bits}
use Rattle.vg_shapes.specs.Units.{arguments, integers, integers_of, is_integer, unit_at}
use Rattle.vg_spans.specs.declared.span.Span.{Span}
use Rattle.vg_spans.specs.Laws.{span_at, SpansAreReadable, SpansHold}
use Rattle.vg_spans.specs.Span.{only, signed_span, span}
use Rattle.vg_spans.specs.Spans.{argument_spans, operation_span, read_operand, signed_numbers, spans_behind, unit_span}
use Rattle.vg_spans.proofs.Given.{AreGiven, given-long, run-given, some-given}
use Rattle.vg_spans.proofs.Holding.{any-holds, Holds}
use Rattle.vg_spans.proofs.Reading.{constant-reads, ReadsAs, value-reads}
use Rattle.vg_spans.proofs.Rows.{bit-holds, ChangesTo, choice-holds, resize-holds, shift-holds, two-holds}
use Rattle.vg_ssa.proofs.Meaning.{bound, Gives}

abbrev pub none : Span
none = only (pos 0)

-- the number of each value so far is held by its span
pub record AllHold (ssa : Ssa) (spans : List Span) (numbers : List ℕ) : Type 0 where
  pub long : length spans ≡ length numbers
  pub each : (v w : ℕ) → v < length numbers → value_bits ssa v ≡ Some w → Holds w (slice_index_or spans v none) (slice_index numbers v)

pub width-some : (w : Width) → 0 < bits_of w
width-some W8 = omega arith
width-some W16 = omega arith
width-some W32 = omega arith
width-some W64 = omega arith

pub width-most : (w : Width) → bits_of w ≤ 64
width-most W8 = omega arith
width-most W16 = omega arith
width-most W32 = omega arith
width-most W64 = omega arith

-- ---- one operation

pub number-reads : (ssa : Ssa) (spans : List Span) (numbers : List ℕ) (w : Width) (x : Wanted) → AllHold ssa spans numbers → IsEarlier (length numbers) x → IsNumber ssa w x
    → ReadsAs (bits_of w) (read_operand (bits_of w) spans x) (number_of (slice_index numbers) x)
number-reads ssa spans numbers w (Value v) all l h = value-reads (bits_of w) (slice_index numbers v) (slice_index_or spans v none) (all.each v (bits_of w) l h)
number-reads ssa spans numbers w (Constant m n) all l h =
    let below : n < 2 ^ bits_of w = subst (λ k. n < 2 ^ k) h.0 h.1 in
    let P : ℕ → Type 0 = λ k. ReadsAs (bits_of w) (record { plain = only (signed_at k n); signed = signed_numbers (bits_of w) (only (signed_at k n)); unsigned = only (pos n) }) n in
    subst P (sym h.0) (constant-reads (bits_of w) n (width-some w) below)
number-reads ssa spans numbers w Nothing all l h = absurd h

change-to : (op : Resizing) (w v : Width) → IsChange op w v → ChangesTo op (bits_of v) (bits_of w)
change-to Sext w v h = h
change-to Zext w v h = h
change-to Trunc w v h = h

comparison-holds : (op : Comparison) (w a b : ℕ) → Holds 1 (span (pos 0) (pos 1)) (comparison_result op w a b)
comparison-holds Eq w a b = bit-holds (nat_eq (low w a) (low w b))
comparison-holds Slt w a b = bit-holds (int_lt (low_signed w a) (low_signed w b))
comparison-holds Ult w a b = bit-holds (nat_lt (low w a) (low w b))

operation-holds : (ssa : Ssa) (spans : List Span) (numbers : List ℕ) (op : Operator) (w : Width) (k : ℕ) (xs : Operands) → AllHold ssa spans numbers
    → IsEarlier (length numbers) xs.first → IsEarlier (length numbers) xs.second → IsEarlier (length numbers) xs.third → IsOperation ssa op w k xs
    → Holds (result_bits op w) (operation_span spans op (bits_of w) k xs) (result_of (slice_index numbers) op (bits_of w) k xs)
operation-holds ssa spans numbers op w k xs all x y z = by op
  where
    r : (v : Width) (u : Wanted) → IsEarlier (length numbers) u → IsNumber ssa v u → ReadsAs (bits_of v) (read_operand (bits_of v) spans u) (number_of (slice_index numbers) u)
    r v u l h = number-reads ssa spans numbers v u all l h

    n : Wanted → ℕ
    n u = number_of (slice_index numbers) u

    by : (op : Operator) → IsOperation ssa op w k xs → Holds (result_bits op w) (operation_span spans op (bits_of w) k xs) (result_of (slice_index numbers) op (bits_of w) k xs)
    by (Two op) h =
        two-holds op (bits_of w) (number_of (slice_index numbers) xs.first) (number_of (slice_index numbers) xs.second) (read_operand (bits_of w) spans xs.first) (read_operand (bits_of w) spans xs.second)
        (width-most w) (r w xs.first x h.1) (r w xs.second y h.2)
    by (Shift op) h = shift-holds op (bits_of w) k (number_of (slice_index numbers) xs.first) (read_operand (bits_of w) spans xs.first) (r w xs.first x h.1)
    by (Resize op v) h =
        resize-holds op (bits_of w) (bits_of v) (number_of (slice_index numbers) xs.first) (read_operand (bits_of v) spans xs.first) (width-some w) (change-to op w v h.1) (r v xs.first x h.2)
    by (Compare op) h = comparison-holds op (bits_of w) (number_of (slice_index numbers) xs.first) (number_of (slice_index numbers) xs.second)
    by Select h =
        choice-holds (nat_eq (low 1 (number_of (slice_index numbers) xs.first)) 1) (bits_of w) (number_of (slice_index numbers) xs.second) (number_of (slice_index numbers) xs.third)
        (read_operand (bits_of w) spans xs.second) (read_operand (bits_of w) spans xs.third) (r w xs.second y h.2) (r w xs.third z h.3)

-- ---- one unit more

unit-holds : (ssa : Ssa) (spans : List Span) (numbers : List ℕ) (u : SsaUnit) (n w : ℕ) → AllHold ssa spans numbers → IsUnit ssa u → TakesEarlier (length numbers) u → Gives numbers u n → unit_bits u ≡ Some w
    → Holds w (unit_span spans u) n
unit-holds ssa spans numbers (Load a v) n w all h l g e =
    let same : bits_of v ≡ w = cc in
    subst (λ k. Holds k (signed_span (bits_of v)) n) same (any-holds (bits_of v) n (width-some v) g)
unit-holds ssa spans numbers (Store a v x) n w all h l g e = absurd (cc)
unit-holds ssa spans numbers (Operation op v k xs) n w all h l g e =
    let same : result_bits op v ≡ w = cc in
    subst (λ m. Holds m (unit_span spans (Operation op v k xs)) n) same
    (subst (Holds (result_bits op v) (unit_span spans (Operation op v k xs))) (sym g) (operation-holds ssa spans numbers op v k xs all l.0 l.1 l.2 h))

hold-more : (ssa : Ssa) (spans : List Span) (numbers : List ℕ) (s : Span) (n : ℕ) → AllHold ssa spans numbers → ((w : ℕ) → value_bits ssa (length numbers) ≡ Some w → Holds w s n) → AllHold ssa (spans ++ s ∷ []) (numbers ++ n ∷ [])
hold-more ssa spans numbers s n all one = record {
  long = (let a = length_push spans s in let b = length_push numbers n in let l = all.long in omega arith);
  each = λ v w l e. by v w e (cases_lt v (length numbers)) (let b = length_push numbers n in omega arith);
}
  where
    by : (v w : ℕ) → value_bits ssa v ≡ Some w → (v < length numbers) ⊎ (length numbers ≤ v) → v ≤ length numbers → Holds w (slice_index_or (spans ++ s ∷ []) v none) (slice_index (numbers ++ n ∷ []) v)
    by v w e (inl l) m =
        let long = all.long in
        let P : Span → Type 0 = λ t. Holds w t (slice_index (numbers ++ n ∷ []) v) in
        subst P (sym (get_or_append_left spans (s ∷ []) none v (omega arith)))
        (subst (Holds w (slice_index_or spans v none)) (sym (get_or_append_left numbers (n ∷ []) 0 v l)) (all.each v w l e))
    by v w e (inr g) m =
        let is : length numbers ≡ v = omega arith in
        let long = all.long in
        let is' : length spans ≡ v = omega arith in
        let P : Span → Type 0 = λ t. Holds w t (slice_index (numbers ++ n ∷ []) v) in
        subst P (sym (get_or_push spans s none v is'))
        (subst (Holds w s) (sym (get_or_push numbers n 0 v is)) (one w (ap (value_bits ssa) is ∙ e)))

-- ---- all units

-- the widths of the units from this number on
abbrev pub AreFrom : Ssa → ℕ → List SsaUnit → Type 0
AreFrom ssa n [] = Unit {0}
AreFrom ssa n (u ∷ us) = (value_bits ssa n ≡ unit_bits u) × AreFrom ssa (n + 1) us

pub given-hold : (ssa : Ssa) (us : List SsaUnit) (spans : List Span) (numbers more : List ℕ) → AllHold ssa spans numbers → AreFrom ssa (length numbers) us → AllByRecursion (IsUnit ssa) us → TakeEarlier (length numbers) us
    → AreGiven numbers us more → AllHold ssa (spans_behind spans us) (numbers ++ more)
given-hold ssa [] spans numbers more all from are earlier given = subst (λ l. AllHold ssa spans (numbers ++ l)) (sym given) (subst (AllHold ssa spans) (sym (append-nil numbers)) all)
given-hold ssa (u ∷ us) spans numbers [] all from are earlier given = absurd given
given-hold ssa (u ∷ us) spans numbers (n ∷ more) all from are earlier given =
    let one = length_push numbers n in
    let next = hold-more ssa spans numbers (unit_span spans u) n all (λ w e. unit-holds ssa spans numbers u n w all are.0 earlier.0 given.0 (sym from.0 ∙ e)) in
    subst (AllHold ssa (spans_behind (spans ++ unit_span spans u ∷ []) us)) (append_assoc numbers (n ∷ []) more)
    (given-hold ssa us (spans ++ unit_span spans u ∷ []) (numbers ++ n ∷ []) more next (subst (λ k. AreFrom ssa k us) (sym one) from.1) are.1 (subst (λ k. TakeEarlier k us) (sym one) earlier.1) given.1)

-- ---- what stands before the first unit

-- an integer parameter has a width
some-width : (kind : SsaParamKind) → is_integer kind ≡ true → 0 < kind_bits kind
some-width (Pointer noalias) e = absurd (cc)
some-width (Integer w) e = width-some w

filtered : (p : SsaParam) (ps : List SsaParam) (b : Bool) → is_integer p.kind ≡ b → AllByRecursion (λ p. 0 < kind_bits p.kind) ps → AllByRecursion (λ p. 0 < kind_bits p.kind) (if b then p ∷ ps else ps)
filtered p ps true e h = (some-width p.kind e, h)
filtered p ps false e h = h

integers-wide : (ps : List SsaParam) → AllByRecursion (λ p. 0 < kind_bits p.kind) (integers_of ps)
integers-wide [] = tt
integers-wide (p ∷ ps) = filtered p (integers_of ps) (is_integer p.kind) refl (integers-wide ps)

abbrev width_at : List SsaParam → ℕ → Option ℕ
width_at ps v = option_map (λ p. kind_bits p.kind) (slice_get ps v)

arguments-hold : (ps : List SsaParam) (ns : List ℕ) → AllByRecursion (λ p. 0 < kind_bits p.kind) ps → AreArguments ps ns → (v w : ℕ) → width_at ps v ≡ Some w
    → Holds w (slice_index_or (map (λ p. signed_span (kind_bits p.kind)) ps) v none) (slice_index ns v)
arguments-hold [] ns h g v w e = absurd (cc)
arguments-hold (p ∷ ps) [] h g v w e = absurd g
arguments-hold (p ∷ ps) (n ∷ ns) h g zero w e =
    let same : kind_bits p.kind ≡ w = cc in
    subst (λ k. Holds k (signed_span (kind_bits p.kind)) n) same (any-holds (kind_bits p.kind) n h.0 g.0)
arguments-hold (p ∷ ps) (n ∷ ns) h g (suc v) w e = arguments-hold ps ns h.1 g.1 v w e

pub arguments-long : (ps : List SsaParam) (ns : List ℕ) → AreArguments ps ns → length ns ≡ length ps
arguments-long [] ns h = ap length h
arguments-long (p ∷ ps) [] h = absurd h
arguments-long (p ∷ ps) (n ∷ ns) h = ap suc (arguments-long ps ns h.1)

pub begun-hold : (ssa : Ssa) (args : List ℕ) → AreArguments (integers ssa) args → AllHold ssa (argument_spans ssa.params) args
begun-hold ssa args h =
    let long = arguments-long (integers ssa) args h in
    record {
      long = length-map (integers ssa) (λ p. signed_span (kind_bits p.kind)) ∙ sym long;
      each = λ v w l e.
          let front : v < arguments ssa = omega arith in
          let own : width_at (integers ssa) v ≡ Some w = sym (cond-true (nat_lt v (arguments ssa)) (width_at (integers ssa) v) (unit_at ssa v >>= unit_bits) (lt-ltb v (arguments ssa) front)) ∙ e in
          arguments-hold (integers ssa) args (integers-wide ssa.params) h v w own;
    }

-- some numbers of parameters
record SomeArguments (ps : List SsaParam) : Type 0 where
  args : List ℕ
  are : AreArguments ps args

some-arguments : (ps : List SsaParam) → SomeArguments ps
some-arguments [] = record { args = []; are = refl }
some-arguments (p ∷ ps) = let rest = some-arguments ps in record { args = 0 ∷ rest.args; are = (pow_pos (kind_bits p.kind), rest.are) }

-- ---- the widths of units

width-behind : (ssa : Ssa) (j : ℕ) → value_bits ssa (arguments ssa + j) ≡ (slice_get ssa.units j >>= unit_bits)
width-behind ssa j =
    let past : nat_lt (arguments ssa + j) (arguments ssa) ≡ false = le-ltb (arguments ssa + j) (arguments ssa) (omega arith) in
    let at : arguments ssa + j - arguments ssa ≡ j = omega arith in
    cond-false (nat_lt (arguments ssa + j) (arguments ssa)) (width_at (integers ssa) (arguments ssa + j)) (unit_at ssa (arguments ssa + j) >>= unit_bits) past
    ∙ ap (λ o. o >>= unit_bits) (cond-false (nat_lt (arguments ssa + j) (arguments ssa)) None (slice_get ssa.units (arguments ssa + j - arguments ssa)) past ∙ ap (slice_get ssa.units) at)

are-from : (ssa : Ssa) (n : ℕ) (us : List SsaUnit) → ((j : ℕ) → value_bits ssa (n + j) ≡ (slice_get us j >>= unit_bits)) → AreFrom ssa n us
are-from ssa n [] h = tt
are-from ssa n (u ∷ us) h = (
  (let e : n ≡ n + 0 = omega arith in ap (value_bits ssa) e ∙ h 0),
  are-from ssa (n + 1) us (λ j. (let e : n + 1 + j ≡ n + suc j = omega arith in ap (value_bits ssa) e) ∙ h (suc j)),
)

-- ---- the front of a list of units

from-front : (ssa : Ssa) (n : ℕ) (us vs : List SsaUnit) → AreFrom ssa n (us ++ vs) → AreFrom ssa n us
from-front ssa n [] vs h = tt
from-front ssa n (u ∷ us) vs h = (h.0, from-front ssa (n + 1) us vs h.1)

all-front : {A : Type 0} (P : A → Type 0) (us vs : List A) → AllByRecursion P (us ++ vs) → AllByRecursion P us
all-front P [] vs h = tt
all-front P (u ∷ us) vs h = (h.0, all-front P us vs h.1)

earlier-front : (n : ℕ) (us vs : List SsaUnit) → TakeEarlier n (us ++ vs) → TakeEarlier n us
earlier-front n [] vs h = tt
earlier-front n (u ∷ us) vs h = (h.0, earlier-front (n + 1) us vs h.1)

-- the spans of the first units stay
spans-stay : (spans : List Span) (us vs : List SsaUnit) (v : ℕ) → v < length spans + length us → slice_index_or (spans_behind spans (us ++ vs)) v none ≡ slice_index_or (spans_behind spans us) v none
spans-stay spans [] vs v l = front spans vs v (omega arith)
  where
    front : (spans : List Span) (us : List SsaUnit) (v : ℕ) → v < length spans → slice_index_or (spans_behind spans us) v none ≡ slice_index_or spans v none
    front spans [] v l = refl
    front spans (u ∷ us) v l =
        let s = unit_span spans u in
        let long = length_push spans s in
        front (spans ++ s ∷ []) us v (omega arith) ∙ get_or_append_left spans (s ∷ []) none v l
spans-stay spans (u ∷ us) vs v l =
    let s = unit_span spans u in
    let long = length_push spans s in
    spans-stay (spans ++ s ∷ []) us vs v (omega arith)

-- ---- the laws

-- numbers that some of the first units give are held by the spans of all
pub front-hold : (ssa : Ssa) (us vs : List SsaUnit) (args more : List ℕ) → IsSound ssa → us ++ vs ≡ ssa.units → AreArguments (integers ssa) args → AreGiven args us more
    → (v w : ℕ) → v < length (args ++ more) → value_bits ssa v ≡ Some w → Holds w (span_at ssa v) (slice_index (args ++ more) v)
front-hold ssa us vs args more sound split fit given v w l e =
    let first = arguments-long (integers ssa) args fit in
    let from : AreFrom ssa (arguments ssa) (us ++ vs) = subst (AreFrom ssa (arguments ssa)) (sym split) (are-from ssa (arguments ssa) ssa.units (width-behind ssa)) in
    let units : AllByRecursion (IsUnit ssa) (us ++ vs) = subst (AllByRecursion (IsUnit ssa)) (sym split) sound.units in
    let earlier : TakeEarlier (arguments ssa) (us ++ vs) = subst (TakeEarlier (arguments ssa)) (sym split) sound.earlier in
    let all = given-hold ssa us (argument_spans ssa.params) args more (begun-hold ssa args fit)
    (subst (λ n. AreFrom ssa n us) (sym first) (from-front ssa (arguments ssa) us vs from)) (all-front (IsUnit ssa) us vs units)
    (subst (λ n. TakeEarlier n us) (sym first) (earlier-front (arguments ssa) us vs earlier)) given in
    let begun = begun-hold ssa args fit in
    let near : v < length (argument_spans ssa.params) + length us = (let a = begun.long in let b = given-long args us more given in let c = length-append args more in omega arith) in
    let stay : slice_index_or (spans_behind (argument_spans ssa.params) us) v none ≡ span_at ssa v =
    sym (spans-stay (argument_spans ssa.params) us vs v near) ∙ ap (λ k. slice_index_or (spans_behind (argument_spans ssa.params) k) v none) split in
    subst (λ s. Holds w s (slice_index (args ++ more) v)) stay (all.each v w l e)

pub spans-hold : SpansHold
spans-hold ssa places memory args k r sound bytes fit run v w l e =
    let given = run-given places (take k ssa.units) (start_of memory args) r bytes run in
    let h = front-hold ssa (take k ssa.units) (drop k ssa.units) args given.more sound (take-append-drop k ssa.units) fit given.are v w (subst (λ ns. v < length ns) given.split l) e in
    (subst (λ ns. Holds w (span_at ssa v) (slice_index ns v)) (sym given.split) h).inside

get-below : (us : List SsaUnit) (j : ℕ) (u : SsaUnit) → slice_get us j ≡ Some u → j < length us
get-below [] j u e = absurd (cc)
get-below (x ∷ us) zero u e = omega arith
get-below (x ∷ us) (suc j) u e = let rest = get-below us j u e in omega arith

-- what has a width is a parameter or a unit
wide-below : (ssa : Ssa) (v w : ℕ) → value_bits ssa v ≡ Some w → v < arguments ssa + length ssa.units
wide-below ssa v w e = elim (cases_lt v (arguments ssa)) [
  | inl l ↦ omega arith
  | inr g ↦
      let past : nat_lt v (arguments ssa) ≡ false = le-ltb v (arguments ssa) g in
      let b = bound (unit_at ssa v) unit_bits w (sym (cond-false (nat_lt v (arguments ssa)) (width_at (integers ssa) v) (unit_at ssa v >>= unit_bits) past) ∙ e) in
      let l = get-below ssa.units (v - arguments ssa) b.0 (sym (cond-false (nat_lt v (arguments ssa)) None (slice_get ssa.units (v - arguments ssa)) past) ∙ b.1) in
      omega arith
]

pub spans-are_readable : SpansAreReadable
spans-are_readable ssa v w sound e =
    let a = some-arguments (integers ssa) in
    let m = some-given a.args ssa.units in
    let near : v < length (a.args ++ m.more) = (let l = wide-below ssa v w e in let x = arguments-long (integers ssa) a.args a.are in let y = given-long a.args ssa.units m.more m.are in let z = length-append a.args m.more in omega arith) in
    (front-hold ssa ssa.units [] a.args m.more sound (append-nil ssa.units) a.are m.are v w near e).readable
