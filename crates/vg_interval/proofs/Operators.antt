-- What is found of operators and of slices covers their values.
use Rattle.std.proofs.Common.{◌≡◌, ℕ, zero, suc, ◌+◌, ◌-◌, ◌*◌, ◌/◌, ◌%◌, ◌^◌, ◌<◌, ◌≤◌, refl, sym, ap, ◌∙◌, subst, arith, inl, inr, Bool, true, false, lit<, List, [], get_or}
use Rattle.std.specs.Prelude.{ℤ, pos, negsuc, ◌+ℤ◌, ◌*ℤ◌, ◌≤ℤ◌, ◌&&◌, not, int_lt, int_le, nat_lt, nat_le, if◌then◌else◌, Option, Some, None, Result, Ok, Err}
use Rattle.std.specs.Option.{option_map, option_map_or}
use Rattle.std.specs.Ordering.{int_eq}
use Rattle.std.proofs.lemmas.Int.{ints}
use Rattle.std.proofs.lemmas.Bool.{cases_lt, cases_Bool, and_parts, leb-true, ltb-true, lt-leb}
use Rattle.std.proofs.Math.Nat.{mod-eq_of_lt}
use Rattle.std.proofs.lemmas.Nat.{mod_below, pow_pos}
use Rattle.vg_base.proofs.Bind.{bind_ok, tested_ok, refused_ok}
use Rattle.vg_base.proofs.Signed.{residue-signed, residue_below, residue-mul}
use Rattle.vg_base.specs.Bind.{◌>>=◌}
use Rattle.vg_base.specs.Bits.{num, signed_at}
use Rattle.vg_base.specs.Number.{residue, floor_shift}
use Rattle.vg_base.specs.Width.{bits_of}
use Rattle.vg_base.specs.declared.width.Width.{Width}
use Rattle.vg_bits.specs.Range.{range}
use Rattle.vg_text.specs.declared.place.Place.{Place}
use Rattle.vg_pseudo.specs.declared.spot.Spot.{Spot}
use Rattle.vg_pseudo.specs.declared.operators.UnaryOp.{UnaryOp}
use Rattle.vg_pseudo.specs.declared.operators.UnaryOp.TheVariants.{Not, Negate, Absolute, Signed, SignExtend, ZeroExtend, Saturate, SaturateUnsigned, Truncate}
use Rattle.vg_pseudo.specs.declared.operators.BinaryOp.{BinaryOp}
use Rattle.vg_pseudo.specs.declared.operators.BinaryOp.TheVariants.{Or, Xor, And, Equal, NotEqual, Less, LessOrEqual, Greater, GreaterOrEqual, ShiftLeft, ShiftRight, Add, Subtract, Multiply, Minimum, Maximum}
use Rattle.vg_pseudo.specs.Whole.{natural, negative, shifted_left, unary_result, binary_result}
use Rattle.vg_pseudo.specs.Value.{Bits, read, count, unary_value}
use Rattle.vg_script.specs.Script.{Word, width_of, Low, at, held}
use Rattle.vg_script.specs.Script as script
use Rattle.vg_script.specs.Cells.{Cells, low_value, bits_read}
use Rattle.vg_script.specs.Formed.{Formed}
use Rattle.vg_terms.specs.declared.term.TwoOp.TheVariants as terms
use Rattle.vg_interval.specs.declared.span.Span.{Span}
use Rattle.vg_interval.specs.declared.fault.RangeFault.{RangeFault}
use Rattle.vg_interval.specs.declared.fault.RangeFault.TheVariants.{IndexOutside, TooWide, BadExtend}
use Rattle.vg_interval.specs.Interval.{between, fit, signed_span, unsigned_span, unary_span, binary_span, shifted_left_span}
use Rattle.vg_interval.specs.Words.{number, extended, unary_word, binary_word, comparison, left_by}
use Rattle.vg_interval.specs.Found.{Found, known, handed, bit, within, wide, loose, Operand, fixed, moving, span_of, word_of, slice_word, or_too_wide, operand}
use Rattle.vg_interval.specs.Found as found
use Rattle.vg_interval.specs.Judge.{bits_between, bits_of_element, slice_found, Index, settled, unsettled, ok_of, index_of, lies_inside, times, moving_slice, result_within, result_known, width_found, extended_slice, unary_of, unary_found, cut_loose, loose_word, unary_at, is_shift, is_comparison, shifted_by, shifted_along, shift_at, joined, binary_at, Count}
use Rattle.vg_interval.specs.Judge as judge
use Rattle.vg_interval.proofs.Intervals.{In, Fits, IsNatural, IsAmount, le_trans, le_self, fits-in, fit-some, unary-in, binary-in, within-127, mul-pos, signed-in, below-pow, shifted-in, right-in}
use Rattle.vg_interval.proofs.Ends.{unary-fits, binary-fits, shifted-fits, right-fits, fits_signed, fits_unsigned}
use Rattle.vg_interval.proofs.Words.{StandsFor, unary-stands, cut-unsigned, cut-signed, Says, comparison-tells, IsPlain, binary-stands, left_by-stands, right_by-stands, shift_left-stands, shift_right-stands, narrow}
use Rattle.vg_interval.proofs.Parts.{num-part}
use Rattle.vg_interval.proofs.Covers.{AllBits, IsSlice, IsConstantSlice, IsWithin, Covers, Holds, bits_at_low, bits_at, bits_small, operand-ok, holds-fits, holds-in, holds-stands, slice-stands}

-- ---- indices

-- what the accepted indices of a slice say
pub record IsPlace (all : ℕ) (h l : ℤ) (b : judge.Bits) : Type 0 where
  pub first : natural l ≡ b.low
  pub width : count l h ≡ b.width
  pub inside : b.low + b.width ≤ all
  pub some : 0 < b.width

counted : (h l : ℕ) → l ≤ h → count (pos l) (pos h) ≡ (h - l) + 1
counted h l le =
    let e : (pos h +ℤ negative (pos l)) +ℤ pos 1 ≡ pos ((h - l) + 1) = omega (arith, ints) in
    ap natural e

abbrev bits_ok_as : judge.Bits → Result judge.Bits RangeFault
bits_ok_as b = Ok b

same_bits : {a b : judge.Bits} → bits_ok_as a ≡ bits_ok_as b → a ≡ b
same_bits e = cc

pub between-ok : (place : Place) (all : ℕ) (h l : ℤ) (b : judge.Bits) → bits_between place all h l ≡ Ok b → IsPlace all h l b
between-ok place all (pos h) (pos l) b e =
    let p = tested_ok (nat_le l h && nat_lt h all) (bits_ok_as (record { low = l; width = (h - l) + 1 })) (IndexOutside place) e in
    let parts = and_parts (nat_le l h) (nat_lt h all) p.0 in
    let le = leb-true l h parts.0 in
    let lt = ltb-true h all parts.1 in
    subst (IsPlace all (pos h) (pos l)) (same_bits p.1)
    (record { first = refl; width = counted h l le; inside = omega arith; some = omega arith })
between-ok place all (pos h) (negsuc l) b e = absurd (cc)
between-ok place all (negsuc h) l b e = absurd (cc)

pub record IsElement (all size : ℕ) (k : ℤ) (b : judge.Bits) : Type 0 where
  pub first : natural k * size ≡ b.low
  pub width : size ≡ b.width
  pub inside : b.low + b.width ≤ all
  pub some : 0 < b.width

pub element-ok : (place : Place) (all size : ℕ) (k : ℤ) (b : judge.Bits) → bits_of_element place all size k ≡ Ok b → IsElement all size k b
element-ok place all size (pos k) b e =
    let p = tested_ok (nat_lt 0 size && nat_le (k * size + size) all) (bits_ok_as (record { low = k * size; width = size })) (IndexOutside place) e in
    let parts = and_parts (nat_lt 0 size) (nat_le (k * size + size) all) p.0 in
    subst (IsElement all size (pos k)) (same_bits p.1)
    (record { first = refl; width = refl; inside = leb-true (k * size + size) all parts.1; some = ltb-true 0 size parts.0 })
element-ok place all size (negsuc k) b e = absurd (cc)

-- a slice that was found, of a register that may be constant
pub slice_found-covers : (ws : List ℕ) (c : Cells) (g : Bool) (k : Option ℕ) (r : ℕ) (b : judge.Bits) → AllBits c.registers
    → ((n : ℕ) → k ≡ Some n → num (get_or c.registers r []) ≡ n) → 0 < b.width
    → Covers ws c (slice_found g k r b) (read g (bits_at_low c r (at b.low) b.width)) (Some (bits_at_low c r (at b.low) b.width))
slice_found-covers ws c g None r b cs same some = record {
  slice = record { formed = tt; some = some };
  value = refl;
  bits = refl;
}
slice_found-covers ws c g (Some n) r b cs same some =
    let x = get_or c.registers r [] in
    let e : num (range b.low b.width x) ≡ num x / 2 ^ b.low % 2 ^ b.width =
    num-part b.low b.width x (bits_at c.registers r cs) in
    let f : num (range b.low b.width x) ≡ n / 2 ^ b.low % 2 ^ b.width = e ∙ ap (λ v. v / 2 ^ b.low % 2 ^ b.width) (same n refl) in
    rw f (constant_slice g (n / 2 ^ b.low % 2 ^ b.width) b.width some (mod_below (n / 2 ^ b.low) (2 ^ b.width) (pow_pos b.width)))
  where
    constant_slice : (g : Bool) (v w : ℕ) → 0 < w → v < 2 ^ w
        → IsConstantSlice w (if g then signed_at w v else pos v) (read g (record { width = w; number = v })) (Some (record { width = w; number = v }))
    constant_slice true v w some h = record { same = refl; some = some; bits = ap (λ m. Some (record { width = w; number = m })) (sym (residue-signed w v h)) }
    constant_slice false v w some h = record { same = refl; some = some; bits = ap (λ m. Some (record { width = w; number = m })) (sym (mod-eq_of_lt h)) }

-- what an index says of its value
abbrev pub IndexIs : List ℕ → Cells → Index → ℤ → Type 0
IndexIs ws c (settled y) z = z ≡ y
IndexIs ws c (unsettled (Some a)) z = Holds ws c a z
IndexIs ws c (unsettled None) z = Unit {0}

abbrev index : Index → Result Index RangeFault
index i = Ok i

same_index : {i j : Index} → index i ≡ index j → i ≡ j
same_index e = cc

ok_of-is : (ws : List ℕ) (c : Cells) (a : Result Operand RangeFault) (z : ℤ) → ((x : Operand) → a ≡ Ok x → Holds ws c x z)
    → IndexIs ws c (unsettled (ok_of a)) z
ok_of-is ws c (Ok x) z h = h x refl
ok_of-is ws c (Err e) z h = tt

known_is : (ws : List ℕ) (c : Cells) (y : ℤ) (w : Option ℕ) (z : ℤ) (b : Option Bits) → Covers ws c (known y w) z b → z ≡ y
known_is ws c y None z b h = h.0
known_is ws c y (Some w) z b h = h.same

pub index-is : (ws : List ℕ) (c : Cells) (s : Spot) (f : Found) (z : ℤ) (b : Option Bits) (i : Index) → AllBits c.registers
    → index_of s f ≡ Ok i → Covers ws c f z b → IndexIs ws c i z
index-is ws c s (known y w) z b i cs e h = subst (λ v. IndexIs ws c v z) (same_index e) (known_is ws c y w z b h)
index-is ws c s (found.read g r l w) z b i cs e h =
    subst (λ v. IndexIs ws c v z) (same_index e) (ok_of-is ws c _ z (λ x p. operand-ok ws c s (found.read g r l w) z b x cs p h))
index-is ws c s (handed f r l w) z b i cs e h =
    subst (λ v. IndexIs ws c v z) (same_index e) (ok_of-is ws c _ z (λ x p. operand-ok ws c s (handed f r l w) z b x cs p h))
index-is ws c s (bit y) z b i cs e h =
    subst (λ v. IndexIs ws c v z) (same_index e) (ok_of-is ws c _ z (λ x p. operand-ok ws c s (bit y) z b x cs p h))
index-is ws c s (within j y) z b i cs e h =
    subst (λ v. IndexIs ws c v z) (same_index e) (ok_of-is ws c _ z (λ x p. operand-ok ws c s (within j y) z b x cs p h))
index-is ws c s (wide y) z b i cs e h =
    subst (λ v. IndexIs ws c v z) (same_index e) (ok_of-is ws c _ z (λ x p. operand-ok ws c s (wide y) z b x cs p h))
index-is ws c s (loose y) z b i cs e h = absurd (cc)

-- ---- slices whose place depends on data

times-natural : (k : ℤ) (size : ℕ) → 0 < size → pos 0 ≤ℤ (k *ℤ pos size) → (k *ℤ pos size ≡ pos (natural k * size)) × IsNatural k
times-natural (pos n) size h p = (refl, omega (arith, ints))
times-natural (negsuc n) zero h p = absurd (omega arith)
times-natural (negsuc n) (suc size) h p = absurd (negative-product n size p)
  where
    negative-product : (n m : ℕ) → pos 0 ≤ℤ (negsuc n *ℤ pos (suc m)) → ⊥
    negative-product n m p = omega (arith, ints)

times-le : (a x : ℤ) (n : ℕ) → a ≤ℤ x → (a *ℤ pos n) ≤ℤ (x *ℤ pos n)
times-le a x n p = mul-pos a x n p

moved_down : (a b x : ℤ) (w all : ℕ) → a ≤ℤ x → x ≤ℤ b → (b +ℤ pos w) ≤ℤ pos all → pos 0 ≤ℤ a → (pos 0 ≤ℤ x) × ((x +ℤ pos w) ≤ℤ pos all)
moved_down a b x w all p q r s = (omega (arith, ints), omega (arith, ints))

int_le-true : (a b : ℤ) → int_le a b ≡ true → a ≤ℤ b
int_le-true a b e = grind (arith, ints)

inside_of : (m w all : ℕ) → (pos m +ℤ pos w) ≤ℤ pos all → m + w ≤ all
inside_of m w all p = omega (arith, ints)

abbrev pub ok_found : Found → Result Found RangeFault
ok_found f = Ok f

pub same_found : {f g : Found} → ok_found f ≡ ok_found g → f ≡ g
same_found e = cc

same_width : {v w : ℕ} → Some v ≡ Some w → v ≡ w
same_width e = cc

signed-read : (w n : ℕ) → 0 < w → n < 2 ^ w → In (signed_span w) (signed_at w n)
signed-read w n some h = signed-in w n some h

pub moving_slice-covers : (ws : List ℕ) (c : Cells) (place : Place) (all : ℕ) (g : Bool) (r size width : ℕ) (k : ℤ) (a : Option Operand) (f : Found)
    → AllBits c.registers → all ≤ 2 ^ 127 → (0 < size → 0 < width) → IndexIs ws c (unsettled a) k
    → moving_slice place all g r size width a ≡ Ok f
    → IsNatural k × Covers ws c f (read g (record { width = width; number = bits_read c r (natural k * size) width }))
    (Some (record { width = width; number = bits_read c r (natural k * size) width }))
moving_slice-covers ws c place all g r size width k None f cs most some h e = absurd (cc)
moving_slice-covers ws c place all g r size width k (Some a) f cs most some h e =
    let low = held (script.two terms.Mul 128 (word_of a) (number (pos size))) in
    let p = tested_ok (nat_lt 0 size && lies_inside all width (times size (span_of a))) (ok_found (found.read g r low width)) (IndexOutside place) e in
    let parts = and_parts (nat_lt 0 size) (lies_inside all width (times size (span_of a))) p.0 in
    let ends = and_parts (int_le (pos 0) ((span_of a).least *ℤ pos size)) (int_le (((span_of a).greatest *ℤ pos size) +ℤ pos width) (pos all)) parts.1 in
    let inside = holds-in ws c a k h in
    let moved = moved_down _ _ _ width all (times-le _ _ size inside.0.above) (times-le _ _ size inside.0.below) (int_le-true _ _ ends.1) (int_le-true _ _ ends.0) in
    let t = times-natural k size (ltb-true 0 size parts.0) moved.0 in
    let m = natural k * size in
    let fits : m + width ≤ all = inside_of m width all (subst (λ v. (v +ℤ pos width) ≤ℤ pos all) t.0 moved.1) in
    let stands = holds-stands ws c a k h in
    let place_value : low_value c low ≡ m =
    ap (λ v. (v * residue 128 (pos size)) % 2 ^ 128) stands.bits ∙ sym (residue-mul 128 k (pos size)) ∙ ap (residue 128) t.0 ∙ mod-eq_of_lt (omega arith) in
    let s : found.read g r low width ≡ f = same_found p.1 in
    let word_formed : Formed (script.two terms.Mul 128 (word_of a) (number (pos size))) = ((lit< tt, omega arith), (stands.wide, refl), stands.formed, ((lit< tt, omega arith), residue_below 128 (pos size))) in (
      t.1,
      subst (λ v. Covers ws c v (read g (record { width = width; number = bits_read c r m width })) (Some (record { width = width; number = bits_read c r m width }))) s
          (record {
            slice = record { formed = (refl, word_formed); some = some (ltb-true 0 size parts.0) };
            value = ap (λ v. read g (record { width = width; number = bits_read c r v width })) (sym place_value);
            bits = ap (λ v. Some (record { width = width; number = bits_read c r v width })) (sym place_value);
          }),
    )

-- ---- results

abbrev pub Made : List ℕ → Cells → Found → ℤ → Type 0
Made ws c f z = Covers ws c f z None

pub known-result : (ws : List ℕ) (c : Cells) (s : Spot) (z : ℤ) (f : Found) → result_known s z ≡ Ok f → Made ws c f z
known-result ws c s z f e = fitted (fit z) refl e
  where
    fitted : (y : Option ℤ) → fit z ≡ y → or_too_wide s.inner (option_map (λ x. known x None) y) ≡ Ok f → Made ws c f z
    fitted (Some y) p q = subst (λ v. Made ws c v z) (same_found q) (sym (fit-some z y p).0, refl)
    fitted None p q = absurd (cc)

pub within-result : (ws : List ℕ) (c : Cells) (s : Spot) (i : Option Span) (x : Word) (z : ℤ) (f : Found) → result_within s i x ≡ Ok f
    → ((j : Span) → i ≡ Some j → IsWithin ws c j x z) → Made ws c f z
within-result ws c s (Some j) x z f e h = subst (λ v. Made ws c v z) (same_found e) (h j refl, refl)
within-result ws c s None x z f e h = absurd (cc)

-- ---- one operand

pub unary_of-covers : (ws : List ℕ) (c : Cells) (s : Spot) (op : UnaryOp) (a : Operand) (z : ℤ) (f : Found) → Holds ws c a z
    → unary_of s op a ≡ Ok f → Made ws c f (unary_result op z)
unary_of-covers ws c s op (fixed y) z f h e = rw h.0 (known-result ws c s (unary_result op y) f e)
unary_of-covers ws c s op (moving i x) z f h e =
    within-result ws c s (unary_span op i) (unary_word op x) (unary_result op z) f e (λ j p.
    let inside = unary-in op i j z h.inside p in
    let ends = unary-fits op i j h.ends p in
    record { inside = inside; ends = ends; stands = unary-stands op ws c x z (fits-in i z h.ends h.inside) (fits-in j _ ends inside) h.stands })

-- a slice that is read is at most so wide
abbrev Narrow : ℕ → Found → Type 0
Narrow n (found.read q r l w) = w ≤ n
Narrow n f = Unit {0}

again : (ws : List ℕ) (c : Cells) (g : Bool) (r : ℕ) (l : Low) (v : ℕ) → AllBits c.registers → v ≤ 128 → (g ≡ false → v ≤ 127) → IsSlice l v
    → IsWithin ws c (if g then signed_span v else unsigned_span v) (slice_word g r l v) (read g (bits_at_low c r l v))
again ws c true r l v cs m n s = record {
  inside = signed-read v _ s.some (bits_small c r _ v cs);
  ends = fits_signed v m;
  stands = slice-stands ws c true r l v cs s m;
}
again ws c false r l v cs m n s = record {
  inside = below-pow v _ (bits_small c r _ v cs);
  ends = fits_unsigned v (n refl);
  stands = slice-stands ws c false r l v cs s m;
}

-- a slice form read again, as signed or not
read_again : (ws : List ℕ) (c : Cells) (g : Bool) (f : Found) (w : ℕ) (z : ℤ) (b : Option Bits) → AllBits c.registers → Narrow 128 f → (g ≡ false → Narrow 127 f)
    → width_found f ≡ Some w → Covers ws c f z b → (v : Bits) × (b ≡ Some v) × Made ws c (judge.bits_read g f) (read g v)
read_again ws c g (known y None) w z b cs most less e h = absurd (cc)
read_again ws c g (known y (Some v)) w z b cs most less e h = (_, h.bits, (refl, refl))
read_again ws c g (found.read q r l v) w z b cs most less e h = (_, h.bits, (again ws c g r l v cs most less h.slice, refl))
read_again ws c g (handed f r l v) w z b cs most less e h = absurd (cc)
read_again ws c g (bit x) w z b cs most less e h = absurd (cc)
read_again ws c g (within i x) w z b cs most less e h = absurd (cc)
read_again ws c g (wide x) w z b cs most less e h = absurd (cc)
read_again ws c g (loose x) w z b cs most less e h = absurd (cc)

-- where a form has no bits, its function takes its number
no_bits : (op : UnaryOp) (b : Option Bits) (z : ℤ) → b ≡ None → unary_value op b z ≡ unary_result op z
no_bits op b z e = rw e (without_bits op z)
  where
    without_bits : (op : UnaryOp) (z : ℤ) → unary_value op None z ≡ unary_result op z
    without_bits Not z = refl
    without_bits Negate z = refl
    without_bits Absolute z = refl
    without_bits Signed z = refl
    without_bits (SignExtend w) z = refl
    without_bits (ZeroExtend w) z = refl
    without_bits (Saturate w) z = refl
    without_bits (SaturateUnsigned w) z = refl
    without_bits (Truncate w) z = refl

narrow_width : (n : Width) → bits_of n ≤ 127
narrow_width n = omega (arith, narrow n)

slice_result : (ws : List ℕ) (c : Cells) (g : Bool) (f h : Found) (w : ℕ) (z : ℤ) (b : Option Bits) (op : UnaryOp) → AllBits c.registers → Narrow 128 f
    → (g ≡ false → Narrow 127 f) → width_found f ≡ Some w → Covers ws c f z b → ((v : Bits) → unary_value op (Some v) z ≡ read g v)
    → judge.bits_read g f ≡ h → Made ws c h (unary_value op b z)
slice_result ws c g f h w z b op cs most less e k value p =
    let r = read_again ws c g f w z b cs most less e k in
    subst (λ v. Made ws c v (unary_value op b z)) p
    (subst (λ v. Made ws c (judge.bits_read g f) (unary_value op v z)) (sym r.1) (rw (value r.0) r.2))

extended_slice-ok : (s : Spot) (g : Bool) (to w : ℕ) (f h : Found) → extended_slice s g to w f ≡ Ok h → (w ≤ to) × (judge.bits_read g f ≡ h)
extended_slice-ok s g to w f h e =
    let p = tested_ok (nat_le w to) (ok_found (judge.bits_read g f)) (BadExtend s.inner) e in
    (leb-true w to p.0, same_found p.1)

-- what an operator is of a number that may be a slice form: its width tells
narrow-found : (n w : ℕ) (f : Found) → width_found f ≡ Some w → w ≤ n → Narrow n f
narrow-found n w (known y v) e h = tt
narrow-found n w (found.read g r l v) e h = subst (λ m. m ≤ n) (sym (same_width e)) h
narrow-found n w (handed f r l v) e h = tt
narrow-found n w (bit x) e h = tt
narrow-found n w (within i x) e h = tt
narrow-found n w (wide x) e h = tt
narrow-found n w (loose x) e h = tt

unary_slice : (ws : List ℕ) (c : Cells) (s : Spot) (op : UnaryOp) (f h : Found) (w : ℕ) (a : Operand) (z : ℤ) (b : Option Bits) → AllBits c.registers
    → Narrow 128 f → width_found f ≡ Some w → Covers ws c f z b → Holds ws c a z → unary_found s op f (Some w) a ≡ Ok h
    → Made ws c h (unary_value op b z)
unary_slice ws c s Signed f h w a z b cs most e k o p = slice_result ws c true f h w z b Signed cs most (λ q. absurd (cc)) e k (λ v. refl) (same_found p)
unary_slice ws c s (SignExtend n) f h w a z b cs most e k o p =
    let q = extended_slice-ok s true (bits_of n) w f h p in
    slice_result ws c true f h w z b (SignExtend n) cs most (λ r. absurd (cc)) e k (λ v. refl) q.1
unary_slice ws c s (ZeroExtend n) f h w a z b cs most e k o p =
    let q = extended_slice-ok s false (bits_of n) w f h p in
    slice_result ws c false f h w z b (ZeroExtend n) cs most (λ r. narrow-found 127 w f e (omega (arith, q.0, narrow_width n))) e k (λ v. refl) q.1
unary_slice ws c s Not f h w a z b cs most e k o p = unary_of-covers ws c s Not a z h o p
unary_slice ws c s Negate f h w a z b cs most e k o p = unary_of-covers ws c s Negate a z h o p
unary_slice ws c s Absolute f h w a z b cs most e k o p = unary_of-covers ws c s Absolute a z h o p
unary_slice ws c s (Saturate n) f h w a z b cs most e k o p = unary_of-covers ws c s (Saturate n) a z h o p
unary_slice ws c s (SaturateUnsigned n) f h w a z b cs most e k o p = unary_of-covers ws c s (SaturateUnsigned n) a z h o p
unary_slice ws c s (Truncate n) f h w a z b cs most e k o p = unary_of-covers ws c s (Truncate n) a z h o p

unary_plain : (ws : List ℕ) (c : Cells) (s : Spot) (op : UnaryOp) (f h : Found) (a : Operand) (z : ℤ) (b : Option Bits) → b ≡ None
    → Holds ws c a z → unary_found s op f None a ≡ Ok h → Made ws c h (unary_value op b z)
unary_plain ws c s op f h a z b e o p = rw (no_bits op b z e) (unary_of-covers ws c s op a z h o (same_op op p))
  where
    same_op : (op : UnaryOp) → unary_found s op f None a ≡ Ok h → unary_of s op a ≡ Ok h
    same_op Not p = p
    same_op Negate p = p
    same_op Absolute p = p
    same_op Signed p = p
    same_op (SignExtend n) p = p
    same_op (ZeroExtend n) p = p
    same_op (Saturate n) p = p
    same_op (SaturateUnsigned n) p = p
    same_op (Truncate n) p = p

none_ok : (p : Place) (a : Operand) → or_too_wide p None ≡ Ok a → ⊥
none_ok p a e = absurd (cc)

slice_operand : (s : Spot) (g : Bool) (r : ℕ) (l : Low) (w : ℕ) (a : Operand) → operand s (found.read g r l w) ≡ Ok a → w ≤ 128
slice_operand s g r l w a e = elim (cases_lt 128 w) [
  | inl t ↦ absurd (too_wide g t e)
  | inr t ↦ t
]
  where
    too_wide : (g : Bool) → 128 < w → operand s (found.read g r l w) ≡ Ok a → ⊥
    too_wide true t e = none_ok s.outer a (subst (λ b. or_too_wide s.outer (option_map_or (λ i. Some (moving i (slice_word true r l w))) (if b then Some (signed_span w) else None) None) ≡ Ok a) (lt-leb w 128 (omega arith)) e)
    too_wide false t e = none_ok s.outer a (subst (λ b. or_too_wide s.outer (option_map_or (λ i. Some (moving i (slice_word false r l w))) (if b then Some (unsigned_span w) else None) None) ≡ Ok a) (lt-leb w 127 (omega arith)) e)

-- a function or operator of one operand, by what is found of that
pub unary_at-covers : (ws : List ℕ) (c : Cells) (s : Spot) (op : UnaryOp) (t : Spot) (f h : Found) (z : ℤ) (b : Option Bits) → AllBits c.registers
    → Covers ws c f z b → unary_at s op t f ≡ Ok h → Made ws c h (unary_value op b z)
unary_at-covers ws c s op t (known y None) h z b cs k e =
    let a = bind_ok (operand t (known y None)) _ e in
    unary_plain ws c s op (known y None) h a.0 z b k.1 (operand-ok ws c t (known y None) z b a.0 cs a.1 k) a.2
unary_at-covers ws c s op t (known y (Some w)) h z b cs k e =
    let a = bind_ok (operand t (known y (Some w))) _ e in
    unary_slice ws c s op (known y (Some w)) h w a.0 z b cs tt refl k (operand-ok ws c t (known y (Some w)) z b a.0 cs a.1 k) a.2
unary_at-covers ws c s op t (found.read g r l w) h z b cs k e =
    let a = bind_ok (operand t (found.read g r l w)) _ e in
    unary_slice ws c s op (found.read g r l w) h w a.0 z b cs (slice_operand t g r l w a.0 a.1) refl k (operand-ok ws c t (found.read g r l w) z b a.0 cs a.1 k) a.2
unary_at-covers ws c s op t (handed f r l w) h z b cs k e =
    let a = bind_ok (operand t (handed f r l w)) _ e in
    unary_plain ws c s op (handed f r l w) h a.0 z b k.1 (operand-ok ws c t (handed f r l w) z b a.0 cs a.1 k) a.2
unary_at-covers ws c s op t (bit x) h z b cs k e =
    let a = moving (unsigned_span 1) (extended false 1 x) in
    unary_plain ws c s op (bit x) h a z b k.1 (operand-ok ws c t (bit x) z b a cs refl k) e
unary_at-covers ws c s op t (within i x) h z b cs k e =
    unary_plain ws c s op (within i x) h (moving i x) z b k.1 (operand-ok ws c t (within i x) z b (moving i x) cs refl k) e
unary_at-covers ws c s op t (wide x) h z b cs k e = absurd (cc)
unary_at-covers ws c s op t (loose x) h z b cs k e = rw (no_bits op b z k.1) (cut op k.0 e)
  where
    cut : (op : UnaryOp) → StandsFor ws c x z → unary_at s op t (loose x) ≡ Ok h → Made ws c h (unary_result op z)
    cut (SignExtend n) st e = subst (λ v. Made ws c v (unary_result (SignExtend n) z)) (same_found e) (
      record {
        inside = signed-read (bits_of n) _ (narrow n).0 (residue_below (bits_of n) z);
        ends = fits_signed (bits_of n) (omega (arith, narrow n));
        stands = cut-signed n ws c x z st;
      },
      refl,
    )
    cut (ZeroExtend n) st e = subst (λ v. Made ws c v (unary_result (ZeroExtend n) z)) (same_found e) (
      record {
        inside = below-pow (bits_of n) _ (residue_below (bits_of n) z);
        ends = fits_unsigned (bits_of n) (narrow_width n);
        stands = cut-unsigned n ws c x z st;
      },
      refl,
    )
    cut (Truncate n) st e = subst (λ v. Made ws c v (unary_result (Truncate n) z)) (same_found e) (
      record {
        inside = below-pow (bits_of n) _ (residue_below (bits_of n) z);
        ends = fits_unsigned (bits_of n) (narrow_width n);
        stands = cut-unsigned n ws c x z st;
      },
      refl,
    )
    cut Not st e = absurd (cc)
    cut Negate st e = absurd (cc)
    cut Absolute st e = absurd (cc)
    cut Signed st e = absurd (cc)
    cut (Saturate n) st e = absurd (cc)
    cut (SaturateUnsigned n) st e = absurd (cc)

-- ---- two operands

-- what a shift by a constant number of places makes
amount_alone : (n : ℕ) → In (between (pos n) (pos n)) (pos n)
amount_alone n = record { above = le_self _; below = le_self _ }

amount_natural : (n : ℕ) → IsNatural (pos n)
amount_natural n = omega (arith, ints)

pub shifted_by-covers : (ws : List ℕ) (c : Cells) (s : Spot) (op : BinaryOp) (n : ℕ) (a : Operand) (z : ℤ) (f : Found) → is_shift op ≡ true
    → Holds ws c a z → shifted_by s op n a ≡ Ok f → Made ws c f (binary_result op z (pos n))
shifted_by-covers ws c s ShiftLeft n (fixed y) z f i h e =
    let p = tested_ok (nat_le n 126) (result_known s (binary_result ShiftLeft y (pos n))) (TooWide s.inner) e in
    rw h.0 (known-result ws c s (shifted_left y n) f p.1)
shifted_by-covers ws c s ShiftLeft n (moving j x) z f i h e =
    let p = tested_ok (nat_le n 126) (result_within s (shifted_left_span j (between (pos n) (pos n))) (left_by n x)) (TooWide s.inner) e in
    let most : n ≤ 127 = omega (arith, leb-true n 126 p.0) in
    within-result ws c s (shifted_left_span j (between (pos n) (pos n))) (left_by n x) (shifted_left z n) f p.1 (λ k q. record {
      inside = rw (within-127 z n most) (shifted-in j (between (pos n) (pos n)) k z (pos n) (amount_natural n) h.inside (amount_alone n) q);
      ends = shifted-fits j (between (pos n) (pos n)) k q;
      stands = left_by-stands ws c x z n most h.stands;
    })
shifted_by-covers ws c s ShiftRight n (fixed y) z f i h e = rw h.0 (known-result ws c s (floor_shift y n) f e)
shifted_by-covers ws c s ShiftRight n (moving j x) z f i h e =
    subst (λ v. Made ws c v (floor_shift z n)) (same_found e) (
      record {
        inside = right-in j (between (pos n) (pos n)) z (pos n) h.ends (amount_natural n) h.inside (amount_alone n);
        ends = right-fits j (between (pos n) (pos n)) h.ends;
        stands = right_by-stands ws c x z n (fits-in j z h.ends h.inside) h.stands;
      },
      refl,
    )
shifted_by-covers ws c s Or n a z f i h e = absurd (cc)
shifted_by-covers ws c s Xor n a z f i h e = absurd (cc)
shifted_by-covers ws c s And n a z f i h e = absurd (cc)
shifted_by-covers ws c s Equal n a z f i h e = absurd (cc)
shifted_by-covers ws c s NotEqual n a z f i h e = absurd (cc)
shifted_by-covers ws c s Less n a z f i h e = absurd (cc)
shifted_by-covers ws c s LessOrEqual n a z f i h e = absurd (cc)
shifted_by-covers ws c s Greater n a z f i h e = absurd (cc)
shifted_by-covers ws c s GreaterOrEqual n a z f i h e = absurd (cc)
shifted_by-covers ws c s Add n a z f i h e = absurd (cc)
shifted_by-covers ws c s Subtract n a z f i h e = absurd (cc)
shifted_by-covers ws c s Multiply n a z f i h e = absurd (cc)
shifted_by-covers ws c s Minimum n a z f i h e = absurd (cc)
shifted_by-covers ws c s Maximum n a z f i h e = absurd (cc)

-- and by one that depends on data
along_left : (ws : List ℕ) (c : Cells) (a b : Operand) (y z : ℤ) (i : Option Span) → binary_span ShiftLeft (span_of a) (span_of b) ≡ i
    → IsNatural (span_of b).least → Holds ws c a y → Holds ws c b z
    → Made ws c (option_map_or (λ j. within j (binary_word ShiftLeft (word_of a) (word_of b))) i (loose (binary_word ShiftLeft (word_of a) (word_of b)))) (binary_result ShiftLeft y z)
along_left ws c a b y z (Some j) e m h k =
    let p = holds-in ws c a y h in
    let q = holds-in ws c b z k in (
      record {
        inside = binary-in ShiftLeft (span_of a) (span_of b) j y z p.1 q.1 m p.0 q.0 e;
        ends = binary-fits ShiftLeft (span_of a) (span_of b) j p.1 q.1 e;
        stands = shift_left-stands ws c _ _ y z (holds-fits ws c b z k) (le_trans _ _ _ m q.0.above) (holds-stands ws c a y h) (holds-stands ws c b z k);
      },
      refl,
    )
along_left ws c a b y z None e m h k =
    let q = holds-in ws c b z k in
    (shift_left-stands ws c _ _ y z (holds-fits ws c b z k) (le_trans _ _ _ m q.0.above) (holds-stands ws c a y h) (holds-stands ws c b z k), refl)

pub shifted_along-covers : (ws : List ℕ) (c : Cells) (op : BinaryOp) (a b : Operand) (y z : ℤ) → is_shift op ≡ true → IsNatural (span_of b).least
    → Holds ws c a y → Holds ws c b z → Made ws c (shifted_along op a b) (binary_result op y z)
shifted_along-covers ws c ShiftLeft a b y z i m h k = along_left ws c a b y z (binary_span ShiftLeft (span_of a) (span_of b)) refl m h k
shifted_along-covers ws c ShiftRight a b y z i m h k =
    let p = holds-in ws c a y h in
    let q = holds-in ws c b z k in (
      record {
        inside = right-in (span_of a) (span_of b) y z p.1 m p.0 q.0;
        ends = right-fits (span_of a) (span_of b) p.1;
        stands = shift_right-stands ws c _ _ y z (holds-fits ws c a y h) (holds-fits ws c b z k) (le_trans _ _ _ m q.0.above) (holds-stands ws c a y h) (holds-stands ws c b z k);
      },
      refl,
    )
shifted_along-covers ws c Or a b y z i m h k = absurd (cc)
shifted_along-covers ws c Xor a b y z i m h k = absurd (cc)
shifted_along-covers ws c And a b y z i m h k = absurd (cc)
shifted_along-covers ws c Equal a b y z i m h k = absurd (cc)
shifted_along-covers ws c NotEqual a b y z i m h k = absurd (cc)
shifted_along-covers ws c Less a b y z i m h k = absurd (cc)
shifted_along-covers ws c LessOrEqual a b y z i m h k = absurd (cc)
shifted_along-covers ws c Greater a b y z i m h k = absurd (cc)
shifted_along-covers ws c GreaterOrEqual a b y z i m h k = absurd (cc)
shifted_along-covers ws c Add a b y z i m h k = absurd (cc)
shifted_along-covers ws c Subtract a b y z i m h k = absurd (cc)
shifted_along-covers ws c Multiply a b y z i m h k = absurd (cc)
shifted_along-covers ws c Minimum a b y z i m h k = absurd (cc)
shifted_along-covers ws c Maximum a b y z i m h k = absurd (cc)

abbrev pub ok_pair : Found × Count → Result (Found × Count) RangeFault
ok_pair p = Ok p

pub same_pair : {p q : Found × Count} → ok_pair p ≡ ok_pair q → p ≡ q
same_pair e = cc

not_negative : (z : ℤ) → int_lt z (pos 0) ≡ false → IsNatural z
not_negative z e = grind (arith, ints)

pub shift_at-covers : (ws : List ℕ) (c : Cells) (s : Spot) (op : BinaryOp) (t : Spot) (a b : Operand) (y z : ℤ) (n m : Count) (f : Found)
    → is_shift op ≡ true → Holds ws c a y → Holds ws c b z → shift_at s op t a b n ≡ Ok (f, m) → Made ws c f (binary_result op y z)
shift_at-covers ws c s op t a (fixed (pos k)) y z n m f i h j e =
    let p = bind_ok (shifted_by s op k a) _ e in
    rw j.0 (subst (λ v. Made ws c v (binary_result op y (pos k))) (ap (λ q. q.0) (same_pair p.2)) (shifted_by-covers ws c s op k a y p.0 i h p.1))
shift_at-covers ws c s op t a (fixed (negsuc k)) y z n m f i h j e = absurd (cc)
shift_at-covers ws c s op t a (moving k x) y z n m f i h j e =
    let p = refused_ok (int_lt k.least (pos 0)) (ok_pair (shifted_along op a (moving k x), judge.dynamic n)) (TooWide t.outer) e in
    subst (λ v. Made ws c v (binary_result op y z)) (ap (λ q. q.0) (same_pair p.1)) (shifted_along-covers ws c op a (moving k x) y z i (not_negative _ p.0) h j)

-- ---- operators that are no shift

both_made : (ws : List ℕ) (c : Cells) (s : Spot) (op : BinaryOp) (a b : Operand) (y z : ℤ) (f : Found) → is_shift op ≡ false → Holds ws c a y → Holds ws c b z
    → (if is_comparison op then Ok (bit (comparison op (word_of a) (word_of b))) else result_within s (binary_span op (span_of a) (span_of b)) (binary_word op (word_of a) (word_of b))) ≡ Ok f
    → Made ws c f (binary_result op y z)
both_made ws c s op a b y z f i h k e = by_kind op i e
  where
    g : Fits y
    g = holds-fits ws c a y h

    g' : Fits z
    g' = holds-fits ws c b z k

    st : StandsFor ws c (word_of a) y
    st = holds-stands ws c a y h

    st' : StandsFor ws c (word_of b) z
    st' = holds-stands ws c b z k

    told : (op : BinaryOp) (v : Bool) → Says op y z v → bit (comparison op (word_of a) (word_of b)) ≡ f → Made ws c f (binary_result op y z)
    told op v q e =
        let t = comparison-tells op ws c (word_of a) (word_of b) y z v q g g' st st' in
        subst (λ v. Made ws c v (binary_result op y z)) e ((v, t.1, t.0), refl)

    counted_up : (op : BinaryOp) → IsPlain op → IsAmount op (span_of b) → result_within s (binary_span op (span_of a) (span_of b)) (binary_word op (word_of a) (word_of b)) ≡ Ok f
        → Made ws c f (binary_result op y z)
    counted_up op p m e =
        let u = holds-in ws c a y h in
        let v = holds-in ws c b z k in
        within-result ws c s (binary_span op (span_of a) (span_of b)) (binary_word op (word_of a) (word_of b)) (binary_result op y z) f e (λ j q. record {
          inside = binary-in op (span_of a) (span_of b) j y z u.1 v.1 m u.0 v.0 q;
          ends = binary-fits op (span_of a) (span_of b) j u.1 v.1 q;
          stands = binary-stands op ws c (word_of a) (word_of b) y z p g g' st st';
        })

    by_kind : (op : BinaryOp) → is_shift op ≡ false
        → (if is_comparison op then Ok (bit (comparison op (word_of a) (word_of b))) else result_within s (binary_span op (span_of a) (span_of b)) (binary_word op (word_of a) (word_of b))) ≡ Ok f
        → Made ws c f (binary_result op y z)
    by_kind Or i e = counted_up Or tt tt e
    by_kind Xor i e = counted_up Xor tt tt e
    by_kind And i e = counted_up And tt tt e
    by_kind Add i e = counted_up Add tt tt e
    by_kind Subtract i e = counted_up Subtract tt tt e
    by_kind Multiply i e = counted_up Multiply tt tt e
    by_kind Minimum i e = counted_up Minimum tt tt e
    by_kind Maximum i e = counted_up Maximum tt tt e
    by_kind Equal i e = told Equal (int_eq y z) refl (same_found e)
    by_kind NotEqual i e = told NotEqual (not (int_eq y z)) refl (same_found e)
    by_kind Less i e = told Less (int_lt y z) refl (same_found e)
    by_kind LessOrEqual i e = told LessOrEqual (not (int_lt z y)) refl (same_found e)
    by_kind Greater i e = told Greater (int_lt z y) refl (same_found e)
    by_kind GreaterOrEqual i e = told GreaterOrEqual (not (int_lt y z)) refl (same_found e)
    by_kind ShiftLeft i e = absurd (cc)
    by_kind ShiftRight i e = absurd (cc)

pub joined-covers : (ws : List ℕ) (c : Cells) (s : Spot) (op : BinaryOp) (a b : Operand) (y z : ℤ) (f : Found) → is_shift op ≡ false → Holds ws c a y → Holds ws c b z
    → joined s op a b ≡ Ok f → Made ws c f (binary_result op y z)
joined-covers ws c s op (fixed u) (fixed v) y z f i h k e = rw (h.0, k.0) (known-result ws c s (binary_result op u v) f e)
joined-covers ws c s op (fixed u) (moving j x) y z f i h k e = both_made ws c s op (fixed u) (moving j x) y z f i h k e
joined-covers ws c s op (moving j x) b y z f i h k e = both_made ws c s op (moving j x) b y z f i h k e

pub binary_at-covers : (ws : List ℕ) (c : Cells) (s : Spot) (op : BinaryOp) (t : Spot) (a b : Operand) (y z : ℤ) (n m : Count) (f : Found)
    → Holds ws c a y → Holds ws c b z → binary_at s op t a b n ≡ Ok (f, m) → Made ws c f (binary_result op y z)
binary_at-covers ws c s op t a b y z n m f h k e = elim (cases_Bool (is_shift op)) [
  | inl i ↦ shift_at-covers ws c s op t a b y z n m f i h k (subst (λ v. (if v then shift_at s op t a b n else (joined s op a b >>= λ f. Ok (f, n))) ≡ Ok (f, m)) i e)
  | inr i ↦
      let e' = subst (λ v. (if v then shift_at s op t a b n else (joined s op a b >>= λ f. Ok (f, n))) ≡ Ok (f, m)) i e in
      let p = bind_ok (joined s op a b) _ e' in
      subst (λ v. Made ws c v (binary_result op y z)) (ap (λ q. q.0) (same_pair p.2)) (joined-covers ws c s op a b y z p.0 i h k p.1)
]
