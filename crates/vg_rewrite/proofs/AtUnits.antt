-- The number and the span of the value of a unit, by those of its operands.
use Rattle.std.proofs.Common.{◌≡◌, ℕ, zero, suc, ◌+◌, ◌<◌, List, [], ◌∷◌, ◌++◌, length, Some, refl, sym, ap, ◌∙◌, subst, arith, append_assoc}
use Rattle.std.specs.Prelude.{slice_get, slice_index, slice_index_or, if◌then◌else◌}
use Rattle.std.proofs.lemmas.List.{get_or_append_left, get_or_push, length_push}
use Rattle.vg_base.specs.declared.width.Width.{Width}
use Rattle.vg_base.specs.declared.width.Width.TheVariants.{W64}
use Rattle.vg_base.specs.Width.{bits_of}
use Rattle.vg_shapes.specs.declared.ssa_unit.Operands.{Operands}
use Rattle.vg_shapes.specs.declared.ssa_unit.Operator.{Operator}
use Rattle.vg_shapes.specs.declared.ssa_unit.Operator.TheVariants.{Two, Shift, Resize, Compare, Select}
use Rattle.vg_shapes.specs.declared.ssa_unit.SsaUnit.{SsaUnit}
use Rattle.vg_shapes.specs.declared.ssa_unit.SsaUnit.TheVariants.{Load, Store, Operation}
use Rattle.vg_shapes.specs.declared.wanted.Wanted.{Wanted}
use Rattle.vg_shapes.specs.declared.wanted.Wanted.TheVariants.{Value, Constant, Nothing}
use Rattle.vg_shapes.specs.RunUnits.{number_of, operation_result, result_of}
use Rattle.vg_shapes.specs.Sound.{IsEarlier, TakeEarlier, TakesEarlier}
use Rattle.vg_spans.specs.declared.span.Span.{Span}
use Rattle.vg_spans.specs.Span.{hull, is_signed, is_unsigned, readable, signed_span, unsigned_span}
use Rattle.vg_spans.specs.Spans.{operand_span, operation_span, read_operand, resize_span, shift_span, spans_behind, two_span, unit_span}
use Rattle.vg_spans.proofs.Given.{AreGiven}
use Rattle.vg_spans.proofs.Runs.{none}
use Rattle.vg_ssa.proofs.Meaning.{Gives}

-- ---- numbers

same-number : (a b : ℕ → ℕ) (n : ℕ) (x : Wanted) → ((v : ℕ) → v < n → a v ≡ b v) → IsEarlier n x → number_of a x ≡ number_of b x
same-number a b n (Value v) h l = h v l
same-number a b n (Constant w k) h l = refl
same-number a b n Nothing h l = refl

same-result : (a b : ℕ → ℕ) (n : ℕ) (op : Operator) (w k : ℕ) (xs : Operands) → ((v : ℕ) → v < n → a v ≡ b v) → TakesEarlier n (Operation op W64 k xs) → result_of a op w k xs ≡ result_of b op w k xs
same-result a b n op w k xs h l = λ i. operation_result op w k (same-number a b n xs.first h l.0 i) (same-number a b n xs.second h l.1 i) (same-number a b n xs.third h l.2 i)

-- an operation among units that give numbers has the number that it makes of those of its operands
pub operation-at : (numbers : List ℕ) (us : List SsaUnit) (more : List ℕ) (j : ℕ) (op : Operator) (w : Width) (k : ℕ) (xs : Operands) → AreGiven numbers us more → TakeEarlier (length numbers) us → slice_get us j ≡ Some (Operation op w k xs)
    → slice_index (numbers ++ more) (length numbers + j) ≡ result_of (slice_index (numbers ++ more)) op (bits_of w) k xs
operation-at numbers [] more j op w k xs g l e = absurd (cc)
operation-at numbers (u ∷ us) [] j op w k xs g l e = absurd g
operation-at numbers (u ∷ us) (n ∷ more) zero op w k xs g l e =
    let same : u ≡ Operation op w k xs = cc in
    let gives : n ≡ result_of (slice_index numbers) op (bits_of w) k xs = subst (λ v. Gives numbers v n) same g.0 in
    let takes : TakesEarlier (length numbers) (Operation op w k xs) = subst (TakesEarlier (length numbers)) same l.0 in
    let long = length_push numbers n in
    let end : length numbers + 0 ≡ length numbers = omega arith in
    let at : slice_index (numbers ++ n ∷ more) (length numbers + 0) ≡ n =
    ap (slice_index (numbers ++ n ∷ more)) end ∙ ap (λ l. slice_index l (length numbers)) (sym (append_assoc numbers (n ∷ []) more))
    ∙ get_or_append_left (numbers ++ n ∷ []) more 0 (length numbers) (omega arith) ∙ get_or_push numbers n 0 (length numbers) refl in
    at ∙ gives ∙ same-result (slice_index numbers) (slice_index (numbers ++ n ∷ more)) (length numbers) op (bits_of w) k xs (λ v h. sym (get_or_append_left numbers (n ∷ more) 0 v h)) takes
operation-at numbers (u ∷ us) (n ∷ more) (suc j) op w k xs g l e =
    let long = length_push numbers n in
    let past : length numbers + suc j ≡ length (numbers ++ n ∷ []) + j = omega arith in
    let all = append_assoc numbers (n ∷ []) more in
    let rest = operation-at (numbers ++ n ∷ []) us more j op w k xs g.1 (subst (λ m. TakeEarlier m us) (sym long) l.1) e in
    ap (slice_index (numbers ++ n ∷ more)) past ∙ subst (λ l. slice_index l (length (numbers ++ n ∷ []) + j) ≡ result_of (slice_index l) op (bits_of w) k xs) all rest

-- ---- spans

same-span : (a b : List Span) (n : ℕ) (x : Wanted) → ((v : ℕ) → v < n → slice_index_or a v none ≡ slice_index_or b v none) → IsEarlier n x → operand_span a x ≡ operand_span b x
same-span a b n (Value v) h l = h v l
same-span a b n (Constant w k) h l = refl
same-span a b n Nothing h l = refl

same-read : (a b : List Span) (n w : ℕ) (x : Wanted) → ((v : ℕ) → v < n → slice_index_or a v none ≡ slice_index_or b v none) → IsEarlier n x → read_operand w a x ≡ read_operand w b x
same-read a b n w (Value v) h l =
    λ i. record { plain = h v l i; signed = if is_signed w (h v l i) then h v l i else signed_span w; unsigned = if is_unsigned w (h v l i) then h v l i else unsigned_span w }
same-read a b n w (Constant m k) h l = refl
same-read a b n w Nothing h l = refl

same-operation : (a b : List Span) (n : ℕ) (op : Operator) (w : Width) (k : ℕ) (xs : Operands) → ((v : ℕ) → v < n → slice_index_or a v none ≡ slice_index_or b v none) → TakesEarlier n (Operation op w k xs)
    → operation_span a op (bits_of w) k xs ≡ operation_span b op (bits_of w) k xs
same-operation a b n (Two op) w k xs h l = λ i. two_span op (bits_of w) (same-read a b n (bits_of w) xs.first h l.0 i) (same-read a b n (bits_of w) xs.second h l.1 i)
same-operation a b n (Shift op) w k xs h l = ap (shift_span op (bits_of w) k) (same-read a b n (bits_of w) xs.first h l.0)
same-operation a b n (Resize op v) w k xs h l = ap (resize_span op (bits_of w)) (same-read a b n (bits_of v) xs.first h l.0)
same-operation a b n (Compare op) w k xs h l = refl
same-operation a b n Select w k xs h l = λ i. readable (bits_of w) (hull (same-span a b n xs.second h l.1 i) (same-span a b n xs.third h l.2 i))

same-unit : (a b : List Span) (n : ℕ) (u : SsaUnit) → ((v : ℕ) → v < n → slice_index_or a v none ≡ slice_index_or b v none) → TakesEarlier n u → unit_span a u ≡ unit_span b u
same-unit a b n (Load x w) h l = refl
same-unit a b n (Store x w y) h l = refl
same-unit a b n (Operation op w k xs) h l = same-operation a b n op w k xs h l

pub spans-front : (spans : List Span) (us : List SsaUnit) (v : ℕ) → v < length spans → slice_index_or (spans_behind spans us) v none ≡ slice_index_or spans v none
spans-front spans [] v l = refl
spans-front spans (u ∷ us) v l =
    let s = unit_span spans u in
    let long = length_push spans s in
    spans-front (spans ++ s ∷ []) us v (omega arith) ∙ get_or_append_left spans (s ∷ []) none v l

-- the span of a unit's value is made of those of all
pub span-of-unit : (spans : List Span) (us : List SsaUnit) (j : ℕ) (u : SsaUnit) → TakeEarlier (length spans) us → slice_get us j ≡ Some u
    → slice_index_or (spans_behind spans us) (length spans + j) none ≡ unit_span (spans_behind spans us) u
span-of-unit spans [] j u l e = absurd (cc)
span-of-unit spans (x ∷ us) zero u l e =
    let same : x ≡ u = cc in
    let s = unit_span spans x in
    let long = length_push spans s in
    let end : length spans + 0 ≡ length spans = omega arith in
    ap (λ v. slice_index_or (spans_behind spans (x ∷ us)) v none) end ∙ spans-front (spans ++ s ∷ []) us (length spans) (omega arith) ∙ get_or_push spans s none (length spans) refl
    ∙ same-unit spans (spans_behind spans (x ∷ us)) (length spans) x (λ v h. sym (spans-front spans (x ∷ us) v h)) l.0 ∙ ap (unit_span (spans_behind spans (x ∷ us))) same
span-of-unit spans (x ∷ us) (suc j) u l e =
    let s = unit_span spans x in
    let long = length_push spans s in
    let past : length spans + suc j ≡ length (spans ++ s ∷ []) + j = omega arith in
    ap (λ v. slice_index_or (spans_behind spans (x ∷ us)) v none) past ∙ span-of-unit (spans ++ s ∷ []) us j u (subst (λ m. TakeEarlier m us) (sym long) l.1) e
