-- How long the text of a program with valid lines can be.
use Rattle.std.proofs.Common.{◌≡◌, ℕ, zero, suc, cond, ◌+◌, ◌*◌, ◌<◌, ◌≤◌, ◌^◌, ◌==◌, ◌||◌, ℤ, pos, negsuc, Bool, true, false, List, [], ◌∷◌, ◌++◌, length, Option, Some, None, refl, sym, ap, subst, ◌∙◌, arith, lit<, map, ◌&&◌, length-append}
use Rattle.std.specs.Prelude.{slice_get, codes, nat_lt, IsSomeAnd, IsTrue, nat_le}
use Rattle.std.specs.List.{AllByRecursion, flat_map, list_all}
use Rattle.std.specs.Str.{bytes_eq}
use Rattle.std.specs.Fmt.{decimal}
use Rattle.std.proofs.lemmas.Bool.{ltb-true, eqb-true, leb-true, and_parts}
use Rattle.std.proofs.lemmas.Fmt.{length-decimal-le}
use Rattle.std.proofs.lemmas.Option.{slice_get_within}
use Rattle.std.specs.Option.{option_map}
use Rattle.vg_base.specs.declared.address.Address.{Address}
use Rattle.vg_base.specs.declared.width.Width.{Width}
use Rattle.vg_base.specs.declared.width.Width.TheVariants.{W8, W16, W32, W64}
use Rattle.vg_base.specs.Width.{bits_of}
use Rattle.vg_scalar.specs.declared.two_op.TwoOp.{TwoOp}
use Rattle.vg_scalar.specs.declared.two_op.TwoOp.TheVariants.{Add, Sub, Mul, And, Or, Xor, Smin, Smax, Umin, Umax}
use Rattle.vg_scalar.specs.declared.shift.Shift.{Shift as ShiftOp}
use Rattle.vg_scalar.specs.declared.shift.Shift.TheVariants.{Shl, Lshr, Ashr}
use Rattle.vg_scalar.specs.declared.resize.Resize.{Resize as ResizeOp}
use Rattle.vg_scalar.specs.declared.resize.Resize.TheVariants.{Sext, Zext, Trunc}
use Rattle.vg_scalar.specs.declared.comparison.Comparison.{Comparison}
use Rattle.vg_scalar.specs.declared.comparison.Comparison.TheVariants.{Eq, Slt, Ult}
use Rattle.vg_program.specs.declared.param.Param.{Param}
use Rattle.vg_program.specs.declared.signature.Signature.{Signature}
use Rattle.vg_program.specs.declared.param_kind.ParamKind.{ParamKind}
use Rattle.vg_program.specs.declared.param_kind.ParamKind.TheVariants.{Pointer, Integer}
use Rattle.vg_program.specs.declared.line.Line.{Line}
use Rattle.vg_program.specs.declared.line.Line.TheVariants.{Load, Store, Two, Shift, Resize, Compare, Select, VectorLoad, VectorStore, Constant, Insert, Extract, Call}
use Rattle.vg_program.specs.declared.vector_size.VectorSize.{VectorSize}
use Rattle.vg_program.specs.declared.vector_size.VectorSize.TheVariants.{B4, B8, B16, B32, B64}
use Rattle.vg_program.specs.declared.counts.Counts.{Counts}
use Rattle.vg_program.specs.declared.defined.Defined.{Defined}
use Rattle.vg_program.specs.declared.defined.Defined.TheVariants as defines
use Rattle.vg_program.specs.Before.{Before, nothing_before, counts, counted, with_defined}
use Rattle.vg_program.specs.Vectors.{bytes_of, register_of, is_register_size, constant_bits, hex_text}
use Rattle.vg_program.specs.declared.operand.Operand.{Operand}
use Rattle.vg_program.specs.declared.operand.Operand.TheVariants.{Register, Argument, Literal}
use Rattle.vg_program.specs.Params.{pointers, integers, kind_bits, name_of, is_pointer_kind, is_integer_kind, AreParams}
use Rattle.vg_base.specs.Offset.{IsOffset}
use Rattle.vg_program.specs.Valid.{width_of, IsLane, IsImm, header_of, IsCallOf, IsLine, AreLines}
use Rattle.vg_program.specs.Text.{type_text, kind_text, param_text, params_text, offset_text, address_text, vector_text, registers_text, imm_text, operand_text, two_text, shift_text, resize_text, comparison_text, word_text, pair_text, operands_text, left_text, line_text, lines_text, line_end, defined, signature_text, signature_of, body_text, text_of}
use Rattle.vg_pseudo.specs.declared.header.Header.{Header}
use Rattle.vg_pseudo.specs.declared.header.ImmRange.{ImmRange}
use Rattle.vg_pseudo.specs.declared.header.Param.{Param as Taken}
use Rattle.vg_text.specs.Byte.{is_letter, is_name, is_name_text}
use Rattle.vg_program.specs.Sizes.{TakeFew, BodiesAreShort, ShortProgramsFit}
use Rattle.vg_program.proofs.Steps.{found_is}

-- names of at most 64 bytes
abbrev pub AreShort : List Param → Type 0
AreShort ps = AllByRecursion (λ q. length q.name ≤ 64) ps

type_text-short : (w : Width) → length (type_text w) ≤ 3
type_text-short W8 = omega (arith, length-decimal-le 2 8 (omega arith) (lit< tt) (lit< tt))
type_text-short W16 = omega (arith, length-decimal-le 2 16 (omega arith) (lit< tt) (lit< tt))
type_text-short W32 = omega (arith, length-decimal-le 2 32 (omega arith) (lit< tt) (lit< tt))
type_text-short W64 = omega (arith, length-decimal-le 2 64 (omega arith) (lit< tt) (lit< tt))

kind_text-short : (k : ParamKind) → length (kind_text k) ≤ 3
kind_text-short Pointer = omega arith
kind_text-short (Integer w) = type_text-short w

name_of-short : (ps : List Param) (k : ℕ) → AreShort ps → length (name_of (slice_get ps k)) ≤ 64
name_of-short [] k all = omega arith
name_of-short (q ∷ ps) zero all = all.0
name_of-short (q ∷ ps) (suc k) all = name_of-short ps k all.1

pointers-short : (ps : List Param) → AreShort ps → AreShort (pointers ps)
pointers-short [] all = tt
pointers-short (q ∷ ps) all = by_kind (is_pointer_kind q.kind) (pointers-short ps all.1)
  where
    by_kind : (b : Bool) → AreShort (pointers ps) → AreShort (cond b (q ∷ pointers ps) (pointers ps))
    by_kind true rest = (all.0, rest)
    by_kind false rest = rest

offset_text-short : (z : ℤ) → IsOffset z → length (offset_text z) ≤ 11
offset_text-short (pos n) small = omega (arith, length-decimal-le 10 n (omega arith) (omega arith) (omega arith))
offset_text-short (negsuc n) small = omega (arith, length-decimal-le 10 (suc n) (omega arith) (omega arith) (omega arith))

pub address_text-short : (ps : List Param) (a : Address) → AreShort ps → IsOffset a.offset → length (address_text ps a) ≤ 75
address_text-short ps a all small =
    omega (arith, length-append (name_of (slice_get (pointers ps) a.pointer)) (offset_text a.offset), name_of-short (pointers ps) a.pointer (pointers-short ps all), offset_text-short a.offset small)

bits-short : (w : Width) → length (decimal (bits_of w)) ≤ 2
bits-short W8 = length-decimal-le 2 8 (omega arith) (lit< tt) (lit< tt)
bits-short W16 = length-decimal-le 2 16 (omega arith) (lit< tt) (lit< tt)
bits-short W32 = length-decimal-le 2 32 (omega arith) (lit< tt) (lit< tt)
bits-short W64 = length-decimal-le 2 64 (omega arith) (lit< tt) (lit< tt)

pub number-short : (k : ℕ) → k < 2 ^ 32 → length (decimal k) ≤ 10
number-short k small = length-decimal-le 10 k (omega arith) (omega arith) (omega arith)

-- a number of a scalar or a register
place-short : (k : ℕ) → k < 100000 → length (decimal k) ≤ 5
place-short k small = length-decimal-le 5 k (omega arith) (omega arith) (omega arith)

integers-short : (ps : List Param) → AreShort ps → AreShort (integers ps)
integers-short [] all = tt
integers-short (q ∷ ps) all = by_kind (is_integer_kind q.kind) (integers-short ps all.1)
  where
    by_kind : (b : Bool) → AreShort (integers ps) → AreShort (cond b (q ∷ integers ps) (integers ps))
    by_kind true rest = (all.0, rest)
    by_kind false rest = rest

literal-short : (w : Width) (n : ℕ) → n < 2 ^ bits_of w → length (decimal n) ≤ 20
literal-short W8 n small = length-decimal-le 20 n (omega arith) (omega arith) (omega arith)
literal-short W16 n small = length-decimal-le 20 n (omega arith) (omega arith) (omega arith)
literal-short W32 n small = length-decimal-le 20 n (omega arith) (omega arith) (omega arith)
literal-short W64 n small = length-decimal-le 20 n (omega arith) (omega arith) small

-- fewer than 100,000 of each kind, and instructions that take at most four registers
record IsFew (b : Before) : Type 0 where
  names : AreShort b.params
  none : TakeFew b.headers
  scalars : length b.scalars < 100000
  vectors : length b.vectors < 100000

-- an operand that stands before its line
operand-short : (b : Before) (v : Operand) (n : ℕ) → IsFew b → width_of b v ≡ Some n → length (operand_text b.params v) ≤ 64
operand-short b (Register k) n few e = omega (arith, place-short k (omega (arith, few.scalars, slice_get_within b.scalars k n e)))
operand-short b (Argument k) n few e = name_of-short (integers b.params) k (integers-short b.params few.names)
operand-short b (Literal w m) n few e = by (nat_lt m (2 ^ bits_of w)) refl e
  where
    by : (t : Bool) → nat_lt m (2 ^ bits_of w) ≡ t → cond t (Some (bits_of w)) None ≡ Some n → length (decimal m ++ type_text w) ≤ 64
    by true small e = omega (arith, length-append (decimal m) (type_text w), literal-short w m (ltb-true m (2 ^ bits_of w) small), type_text-short w)
    by false small e = absurd (cc)

-- a condition is a scalar that stands before its line
condition-short : (b : Before) (v : Operand) → IsFew b → width_of b v ≡ Some 1 → length (operand_text b.params v) ≤ 7
condition-short b (Register k) few e = omega (arith, place-short k (omega (arith, few.scalars, slice_get_within b.scalars k 1 e)))
condition-short b (Argument k) few e = absurd (wide b.params k e)
  where
    one_kind : (kind : ParamKind) → is_integer_kind kind ≡ true → kind_bits kind ≡ 1 → ⊥
    one_kind Pointer t e = absurd cc
    one_kind (Integer W8) t e = omega (arith, e)
    one_kind (Integer W16) t e = omega (arith, e)
    one_kind (Integer W32) t e = omega (arith, e)
    one_kind (Integer W64) t e = omega (arith, e)

    kept : (q : Param) (ps : List Param) (k : ℕ) (b : Bool) → is_integer_kind q.kind ≡ b → ((j : ℕ) → option_map (λ q. kind_bits q.kind) (slice_get (integers ps) j) ≡ Some 1 → ⊥)
        → option_map (λ q. kind_bits q.kind) (slice_get (cond b (q ∷ integers ps) (integers ps)) k) ≡ Some 1 → ⊥
    kept q ps zero true t others e = one_kind q.kind t (let one : kind_bits q.kind ≡ 1 = cc in one)
    kept q ps (suc k) true t others e = others k e
    kept q ps k false t others e = others k e

    wide : (ps : List Param) (k : ℕ) → option_map (λ q. kind_bits q.kind) (slice_get (integers ps) k) ≡ Some 1 → ⊥
    wide [] k e = cc
    wide (q ∷ ps) k e = kept q ps k (is_integer_kind q.kind) refl (λ j. wide ps j) e
condition-short b (Literal w m) few e = absurd (by w (nat_lt m (2 ^ bits_of w)) e)
  where
    by : (w : Width) (t : Bool) → cond t (Some (bits_of w)) None ≡ Some 1 → ⊥
    by W8 true e = cc
    by W16 true e = cc
    by W32 true e = cc
    by W64 true e = cc
    by w false e = cc

vector-short : (b : Before) (v n : ℕ) → IsFew b → slice_get b.vectors v ≡ Some n → length (vector_text v) ≤ 7
vector-short b v n few e = omega (arith, length-append (codes "%v") (decimal v), place-short v (omega (arith, few.vectors, slice_get_within b.vectors v n e)))

-- the words of the operations
two-short : (op : TwoOp) → length (two_text op) ≤ 4
two-short Add = omega arith
two-short Sub = omega arith
two-short Mul = omega arith
two-short And = omega arith
two-short Or = omega arith
two-short Xor = omega arith
two-short Smin = omega arith
two-short Smax = omega arith
two-short Umin = omega arith
two-short Umax = omega arith

shift-short : (op : ShiftOp) → length (shift_text op) ≤ 4
shift-short Shl = omega arith
shift-short Lshr = omega arith
shift-short Ashr = omega arith

resize-short : (op : ResizeOp) → length (resize_text op) ≤ 5
resize-short Sext = omega arith
resize-short Zext = omega arith
resize-short Trunc = omega arith

comparison-short : (op : Comparison) → length (comparison_text op) ≤ 3
comparison-short Eq = omega arith
comparison-short Slt = omega arith
comparison-short Ult = omega arith

word-short : (l : Line) → length (word_text l) ≤ 7
word-short (Load w a) = omega arith
word-short (Store w a v) = omega arith
word-short (Two op w l r) = omega (arith, two-short op)
word-short (Shift op w v n) = omega (arith, shift-short op)
word-short (Resize op w from v) = omega (arith, resize-short op)
word-short (Compare op w l r) = omega (arith, comparison-short op)
word-short (Select w c x y) = omega arith
word-short (VectorLoad z a) = omega arith
word-short (VectorStore z a v) = omega arith
word-short (Constant bs) = omega arith
word-short (Insert v bits n w x) = omega arith
word-short (Extract v n w) = omega arith
word-short (Call name vs imm bits cost) = omega arith

-- what stands before the word
left-short : (c : Counts) (w : Width) → c.scalars < 100000 → length (left_text c (defines.Scalar (bits_of w))) ≤ 14
left-short c w few = simp length-append (omega (arith, place-short c.scalars few, bits-short w))

left-bit-short : (c : Counts) → c.scalars < 100000 → length (left_text c (defines.Scalar 1)) ≤ 14
left-bit-short c few = simp length-append (omega (arith, place-short c.scalars few, length-decimal-le 2 1 (omega arith) (lit< tt) (lit< tt)))

left-vector-short : (c : Counts) (bits : ℕ) → c.vectors < 100000 → length (left_text c (defines.Vector bits)) ≤ 14
left-vector-short c bits few = simp length-append (omega (arith, place-short c.vectors few))

left-defined-short : (c : Counts) (l : Line) → c.scalars < 100000 → c.vectors < 100000 → length (left_text c (defined l)) ≤ 14
left-defined-short c (Load w a) few many = left-short c w few
left-defined-short c (Store w a v) few many = omega arith
left-defined-short c (Two op w l r) few many = left-short c w few
left-defined-short c (Shift op w v n) few many = left-short c w few
left-defined-short c (Resize op w from v) few many = left-short c w few
left-defined-short c (Compare op w l r) few many = left-bit-short c few
left-defined-short c (Select w o x y) few many = left-short c w few
left-defined-short c (VectorLoad z a) few many = left-vector-short c (register_of z) many
left-defined-short c (VectorStore z a v) few many = omega arith
left-defined-short c (Constant bs) few many = left-vector-short c (constant_bits (length bs)) many
left-defined-short c (Insert v bits n w x) few many = left-vector-short c bits many
left-defined-short c (Extract v n w) few many = left-short c w few
left-defined-short c (Call name vs imm bits cost) few many = left-vector-short c bits many

-- two operands
pair-short : (b : Before) (l r : Operand) (n : ℕ) → IsFew b → width_of b l ≡ Some n → width_of b r ≡ Some n → length (pair_text b.params l r) ≤ 129
pair-short b l r n few e f = simp length-append (omega (arith, operand-short b l n few e, operand-short b r n few f))

amount-small : (w : Width) (n : ℕ) → n < bits_of w → n < 2 ^ 32
amount-small W8 n h = omega (arith, h)
amount-small W16 n h = omega (arith, h)
amount-small W32 n h = omega (arith, h)
amount-small W64 n h = omega (arith, h)

size-short : (z : VectorSize) → length (decimal (bytes_of z)) ≤ 2
size-short B4 = length-decimal-le 2 4 (omega arith) (lit< tt) (lit< tt)
size-short B8 = length-decimal-le 2 8 (omega arith) (lit< tt) (lit< tt)
size-short B16 = length-decimal-le 2 16 (omega arith) (lit< tt) (lit< tt)
size-short B32 = length-decimal-le 2 32 (omega arith) (lit< tt) (lit< tt)
size-short B64 = length-decimal-le 2 64 (omega arith) (lit< tt) (lit< tt)

hex-short : (bs : List ℕ) → length (hex_text bs) ≡ 2 * length bs
unfolding hex_text
hex-short [] = refl
hex-short (x ∷ bs) = omega (arith, hex-short bs)

register-short : (n : ℕ) → is_register_size n ≡ true → n ≤ 64
register-short n e = by (n == 16) (n == 32) (n == 64) refl refl refl e
  where
    by : (x y z : Bool) → (n == 16) ≡ x → (n == 32) ≡ y → (n == 64) ≡ z → (x || (y || z)) ≡ true → n ≤ 64
    by true y z a b c e = omega (arith, eqb-true n 16 a)
    by false true z a b c e = omega (arith, eqb-true n 32 b)
    by false false true a b c e = omega (arith, eqb-true n 64 c)
    by false false false a b c e = absurd (cc)

extract-short : (b : Before) (v n : ℕ) (w : Width) (o : Option ℕ) → IsFew b → slice_get b.vectors v ≡ o → IsSomeAnd o (λ bits. IsLane bits w n) → length (vector_text v ++ codes " " ++ decimal n) ≤ 140
extract-short b v n w (Some bits) few e lane = simp length-append (omega (arith, vector-short b v bits few e, number-short n (omega (arith, lane.1))))
extract-short b v n w None few e lane = absurd lane

registers-short : (b : Before) (vs : List ℕ) (qs : List Taken) → IsFew b → map (λ v. slice_get b.vectors v) vs ≡ map (λ q. Some q.register) qs → length (registers_text vs) ≤ 8 * length qs
unfolding registers_text
registers-short b [] [] few e = omega arith
registers-short b [] (q ∷ qs) few e = omega arith
registers-short b (v ∷ vs) [] few e = absurd (cc)
registers-short b (v ∷ vs) (q ∷ qs) few e =
    let here : slice_get b.vectors v ≡ Some q.register = cc in
    let rest : map (λ v. slice_get b.vectors v) vs ≡ map (λ q. Some q.register) qs = cc in
    omega (arith, length-append (vector_text v) (registers_text vs), vector-short b v q.register few here, registers-short b vs qs few rest)

name-short : (name : List ℕ) → IsTrue (is_name_text name) → length name ≤ 64
name-short [] named = omega arith
name-short (c ∷ cs) named =
    let parts = and_parts (is_letter c) (list_all is_name cs && nat_le (length cs) 63) named in
    omega (arith, leb-true (length cs) 63 (and_parts (list_all is_name cs) (nat_le (length cs) 63) parts.1).1)

imm-short : (range : Option ImmRange) (imm : Option ℕ) → IsImm range imm → length (imm_text imm) ≤ 15
imm-short None None is = omega arith
imm-short None (Some k) is = absurd is
imm-short (Some range) None is = absurd is
imm-short (Some range) (Some k) is = omega (arith, number-short k (omega (arith, is.0)))

found-few : (headers : List Header) (name : List ℕ) (h : Header) → TakeFew headers → header_of headers name ≡ Some h → length h.params ≤ 4
found-few headers name h few e = (found_is (λ h. bytes_eq h.name name) (λ h. length h.params ≤ 4) headers h few e).1

called-short : (b : Before) (name vs : List ℕ) (imm : Option ℕ) (bits cost : ℕ) (o : Option Header) → IsFew b → IsTrue (is_name_text name) → header_of b.headers name ≡ o → IsSomeAnd o (λ h. IsCallOf b h vs imm bits cost) → length ((name ++ registers_text vs) ++ imm_text imm) ≤ 140
called-short b name vs imm bits cost None few named e is = absurd is
called-short b name vs imm bits cost (Some h) few named e is =
    omega (arith, length-append (name ++ registers_text vs) (imm_text imm), length-append name (registers_text vs), name-short name named, imm-short h.imm imm is.immediate, registers-short b vs h.params few is.passed, found-few b.headers name h few.none e)

call-short : (b : Before) (name vs : List ℕ) (imm : Option ℕ) (bits cost : ℕ) → IsFew b → IsLine b (Call name vs imm bits cost) → length (operands_text b.params (Call name vs imm bits cost)) ≤ 140
call-short b name vs imm bits cost few is = called-short b name vs imm bits cost (header_of b.headers name) few is.0 refl is.1

headers_with : (b : Before) (d : Defined) → (with_defined b d).headers ≡ b.headers
headers_with b defines.Nothing = refl
headers_with b (defines.Scalar bits) = refl
headers_with b (defines.Vector bits) = refl

-- what stands after the word of a valid line
operands-short : (b : Before) (l : Line) → IsFew b → IsLine b l → length (operands_text b.params l) ≤ 140
operands-short b (Load w a) few is = omega (arith, address_text-short b.params a few.names is.offset)
operands-short b (Store w a v) few is =
    simp length-append (omega (arith, name_of-short (pointers b.params) a.pointer (pointers-short b.params few.names), offset_text-short a.offset is.0.offset, operand-short b v (bits_of w) few is.1))
operands-short b (Two op w l r) few is = omega (arith, pair-short b l r (bits_of w) few is.0 is.1)
operands-short b (Shift op w v n) few is =
    simp length-append (omega (arith, operand-short b v (bits_of w) few is.0, number-short n (amount-small w n is.1)))
operands-short b (Resize op w from v) few is = omega (arith, operand-short b v (bits_of from) few is.0)
operands-short b (Compare op w l r) few is = omega (arith, pair-short b l r (bits_of w) few is.0 is.1)
operands-short b (Select w c x y) few is =
    simp length-append (omega (arith, condition-short b c few is.0, operand-short b x (bits_of w) few is.1, operand-short b y (bits_of w) few is.2))
operands-short b (VectorLoad z a) few is =
    simp length-append (omega (arith, size-short z, name_of-short (pointers b.params) a.pointer (pointers-short b.params few.names), offset_text-short a.offset is.offset))
operands-short b (VectorStore z a v) few is =
    simp length-append (omega (arith, size-short z, name_of-short (pointers b.params) a.pointer (pointers-short b.params few.names), offset_text-short a.offset is.0.offset, vector-short b v (register_of z) few is.1))
operands-short b (Constant bs) few is = omega (arith, hex-short bs, register-short (length bs) is.size)
operands-short b (Insert v bits n w x) few is =
    simp length-append (omega (arith, vector-short b v bits few is.0, number-short n (omega (arith, is.2.1)), operand-short b x (bits_of w) few is.1))
operands-short b (Extract v n w) few is = extract-short b v n w (slice_get b.vectors v) few refl is
operands-short b (Call name vs imm bits cost) few is = call-short b name vs imm bits cost few is

-- a valid line
line-short : (b : Before) (l : Line) → IsFew b → IsLine b l → length (line_text b.params (counts b) l) ≤ 162
line-short b l few is =
    simp length-append (omega (arith, left-defined-short (counts b) l few.scalars few.vectors, word-short l, operands-short b l few is))

-- one line more
line-more : (ps : List Param) (c : Counts) (l : Line) (ls : List Line) (n m : ℕ) → length (line_text ps c l) ≤ n → length (lines_text ps (counted c (defined l)) ls) ≤ m → length (lines_text ps c (l ∷ ls)) ≤ n + 1 + m
unfolding lines_text
line-more ps c l ls n m one rest =
    omega (arith, length-append (line_text ps c l ++ line_end) (lines_text ps (counted c (defined l)) ls), length-append (line_text ps c l) line_end)

-- so few that this many more lines define fewer than 100,000 of each kind
HasRoom : Before → ℕ → Type 0
HasRoom b room = (length b.scalars + room < 100000) × (length b.vectors + room < 100000)

-- what a line defines makes few more
record Behind (b : Before) (d : Defined) (room : ℕ) : Type 0 where
  params : (with_defined b d).params ≡ b.params
  counted_on : counts (with_defined b d) ≡ counted (counts b) d
  left : HasRoom (with_defined b d) room

behind : (b : Before) (d : Defined) (room : ℕ) → HasRoom b (suc room) → Behind b d room
unfolding HasRoom
behind b defines.Nothing room h = record { params = refl; counted_on = refl; left = (omega (arith, h.0), omega (arith, h.1)) }
behind b (defines.Scalar bits) room h =
    let one = length-append b.scalars (bits ∷ []) in
    record { params = refl; counted_on = ap (λ (k : ℕ). make k (length b.vectors)) one; left = (omega (arith, one, h.0), omega (arith, h.1)) }
  where
    make : ℕ → ℕ → Counts
    make s v = record { scalars = s; vectors = v }
behind b (defines.Vector bits) room h =
    let one = length-append b.vectors (bits ∷ []) in
    record { params = refl; counted_on = ap (λ (k : ℕ). make (length b.scalars) k) one; left = (omega (arith, h.0), omega (arith, one, h.1)) }
  where
    make : ℕ → ℕ → Counts
    make s v = record { scalars = s; vectors = v }

-- valid lines
lines-short : (b : Before) (ls : List Line) → AreShort b.params → TakeFew b.headers → HasRoom b (length ls) → AreLines b ls → length (lines_text b.params (counts b) ls) ≤ 163 * length ls
unfolding lines_text HasRoom
lines-short b [] all none few are = omega arith
lines-short b (l ∷ ls) all none few are =
    let next = with_defined b (defined l) in
    let m = behind b (defined l) (length ls) few in
    let small : IsFew b = record { names = all; none = none; scalars = omega (arith, few.0); vectors = omega (arith, few.1) } in
    let rest = lines-short next ls (subst (λ (ps : List Param). AreShort ps) (sym m.params) all) (subst (λ (hs : List Header). TakeFew hs) (sym (headers_with b (defined l))) none) m.left are.1 in
    let same : lines_text next.params (counts next) ls ≡ lines_text b.params (counted (counts b) (defined l)) ls = ap (λ (ps : List Param). lines_text ps (counts next) ls) m.params ∙ ap (λ (c : Counts). lines_text b.params c ls) m.counted_on in
    let moved = subst (λ (t : List ℕ). length t ≤ 163 * length ls) same rest in
    omega (arith, line-more b.params (counts b) l ls 162 (163 * length ls) (line-short b l small are.0) moved)

comma_params-short : (ps : List Param) → AreShort ps → length (flat_map (λ q. codes ", " ++ param_text q) ps) ≤ 80 * length ps
comma_params-short [] all = omega arith
comma_params-short (q ∷ ps) all =
    simp length-append (omega (arith, all.0, kind_text-short q.kind, comma_params-short ps all.1))

params-short : (ps : List Param) → AreShort ps → length (params_text ps) ≤ 80 * length ps
params-short [] all = omega arith
params-short (q ∷ ps) all =
    simp length-append (omega (arith, all.0, kind_text-short q.kind, comma_params-short ps all.1))

pub names-short : (ps : List Param) → AllByRecursion (λ q. IsTrue (is_name_text q.name)) ps → AreShort ps
names-short [] all = tt
names-short (q ∷ ps) all = (name-short q.name all.0, names-short ps all.1)

-- the name and the parameters
pub signature-short : (s : Signature) → IsTrue (is_name_text s.name) → AreParams s.params → length (signature_text s) ≤ 1346
signature-short s named proper =
    let all = names-short s.params proper.names in
    simp length-append (omega (arith, name-short s.name named, params-short s.params all, proper.few))

-- a law: the lines after the first
pub bodies_short : BodiesAreShort
unfolding HasRoom
bodies_short headers p few rules short =
    let all = names-short p.params rules.params.names in
    let lines = lines-short (nothing_before headers p.params) p.lines all few (omega (arith, short), omega (arith, short)) rules.lines in
    simp length-append (omega (arith, lines, number-short p.cost rules.small, number-short p.scalar (omega (arith, rules.scalar))))

-- a law: whole programs
pub short_fits : ShortProgramsFit
unfolding text_of
short_fits headers p few rules short =
    let front = signature-short (signature_of p) rules.name rules.params in
    let behind = bodies_short headers p few rules short in
    record { rules = rules; size = joined (signature_text (signature_of p)) (body_text p) front (omega (arith, behind, short)) }
  where
    joined : (s b : List ℕ) → length s ≤ 1346 → length b ≤ 2002982 → length ((codes "program " ++ s ++ line_end) ++ b) ≤ 4194304
    joined s b short few = simp length-append (omega (arith, short, few))
