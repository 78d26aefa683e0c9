-- What is found of an expression but for its words: nothing that is refused, counted or known looks into a word.
use Rattle.std.proofs.Common.{◌≡◌, ℕ, refl, sym, ap, ◌∙◌, Bool, true, false, List, [], ◌∷◌}
use Rattle.std.specs.Prelude.{ℤ, pos, negsuc, int_lt, nat_le, if◌then◌else◌, Option, Some, None, Result, Ok, Err}
use Rattle.std.specs.Option.{option_map, option_map_or}
use Rattle.vg_base.specs.Bind.{◌>>=◌}
use Rattle.vg_text.specs.declared.place.Place.{Place}
use Rattle.vg_pseudo.specs.declared.spot.Spot.{Spot}
use Rattle.vg_pseudo.specs.declared.operators.UnaryOp.{UnaryOp}
use Rattle.vg_pseudo.specs.declared.operators.UnaryOp.TheVariants.{Signed, SignExtend, ZeroExtend, Truncate}
use Rattle.vg_pseudo.specs.declared.operators.BinaryOp.{BinaryOp}
use Rattle.vg_pseudo.specs.declared.operators.BinaryOp.TheVariants.{ShiftLeft}
use Rattle.vg_script.specs.Script.{Word, Low, at, Frame, frame}
use Rattle.vg_script.specs.Script as script
use Rattle.vg_interval.specs.declared.span.Span.{Span}
use Rattle.vg_interval.specs.declared.fault.RangeFault.{RangeFault}
use Rattle.vg_interval.specs.Interval.{slice_span, unary_span, binary_span, shifted_left_span, between}
use Rattle.vg_interval.specs.Found.{Found, known, read, handed, bit, within, wide, loose, Operand, fixed, moving, span_of, plain, or_too_wide, operand, Passed, computed, passed, answered}
use Rattle.vg_interval.specs.Found as found
use Rattle.vg_interval.specs.Judge.{Count, dynamic, Walk, Sight, Index, settled, unsettled, ok_of, index_of, moving_slice, slice_at, element_at, result_within, width_found, bits_read, unary_of, unary_found, cut_loose, unary_at, is_shift, is_comparison, shifted_by, shifted_along, shift_at, joined, binary_at}

-- ---- views of results

-- what went well, looked at in some way
abbrev pub seen : {A B E : Type 0} → (A → B) → Result A E → Result B E
seen view (Ok x) = Ok (view x)
seen view (Err e) = Err e

abbrev went_well : {A : Type 0} (E : Type 0) → A → Result A E
went_well E x = Ok x

same_ok : {A : Type 0} (E : Type 0) {x y : A} → went_well E x ≡ went_well E y → x ≡ y
same_ok E e = cc

-- steps that look the same, one after the other
pub steps_same : {A B C D E : Type 0} (view : A → C) (out : B → D) (r q : Result A E) (f g : A → Result B E) → seen view r ≡ seen view q
    → ((x y : A) → view x ≡ view y → seen out (f x) ≡ seen out (g y)) → seen out (r >>= f) ≡ seen out (q >>= g)
steps_same {E = E} view out (Ok x) (Ok y) f g e h = h x y (same_ok E e)
steps_same view out (Ok x) (Err d) f g e h = absurd (cc)
steps_same view out (Err d) (Ok y) f g e h = absurd (cc)
steps_same view out (Err d) (Err c) f g e h = cc

-- ---- without words

abbrev no_word : Word
no_word = script.variable 0

abbrev no_frame : Frame
no_frame = frame [] 0 script.nothing script.stop

abbrev pub bare : Found → Found
bare (known z w) = known z w
bare (read g r l w) = read g r (at 0) w
bare (handed f r l w) = handed no_frame r (at 0) w
bare (bit x) = bit no_word
bare (within i x) = within i no_word
bare (wide x) = wide no_word
bare (loose x) = loose no_word

abbrev pub bare_operand : Operand → Operand
bare_operand (fixed z) = fixed z
bare_operand (moving i x) = moving i no_word

abbrev pub bare_index : Index → Index
bare_index (settled z) = settled z
bare_index (unsettled o) = unsettled (option_map bare_operand o)

abbrev pub bare_passed : Passed → Passed
bare_passed (found.constant n) = found.constant n
bare_passed (computed x) = computed no_word
bare_passed (found.bits r l w) = found.bits r (at 0) w

abbrev pub all_bare : List Passed → List Passed
all_bare [] = []
all_bare (p ∷ ps) = bare_passed p ∷ all_bare ps

abbrev pub counted : {A B : Type 0} → (A → B) → A × Count → B × Count
counted view p = (view p.0, p.1)

-- ---- uses of what is found

operand-from : (place : Place) (o : Option Span) (x y : Word)
    → seen bare_operand (or_too_wide place (option_map_or (λ i. Some (moving i x)) o None))
    ≡ seen bare_operand (or_too_wide place (option_map_or (λ i. Some (moving i y)) o None))
operand-from place (Some i) x y = refl
operand-from place None x y = refl

operand-bare : (s : Spot) (f : Found) → seen bare_operand (operand s f) ≡ seen bare_operand (operand s (bare f))
operand-bare s (known z w) = refl
operand-bare s (read g r l w) = operand-from s.outer (slice_span g w) _ _
operand-bare s (handed f r l w) = operand-from s.outer (slice_span false w) _ _
operand-bare s (bit x) = refl
operand-bare s (within i x) = refl
operand-bare s (wide x) = refl
operand-bare s (loose x) = refl

pub operand-same : (s : Spot) (f g : Found) → bare f ≡ bare g → seen bare_operand (operand s f) ≡ seen bare_operand (operand s g)
operand-same s f g e = operand-bare s f ∙ ap (λ h. seen bare_operand (operand s h)) e ∙ sym (operand-bare s g)

passed-bare : (s : Spot) (f : Found) → seen bare_passed (passed s f) ≡ seen bare_passed (passed s (bare f))
passed-bare s (known z w) = refl
passed-bare s (read g r l w) = refl
passed-bare s (handed f r l w) = refl
passed-bare s (bit x) = refl
passed-bare s (within i x) = refl
passed-bare s (wide x) = refl
passed-bare s (loose x) = refl

pub passed-same : (s : Spot) (f g : Found) → bare f ≡ bare g → seen bare_passed (passed s f) ≡ seen bare_passed (passed s g)
passed-same s f g e = passed-bare s f ∙ ap (λ h. seen bare_passed (passed s h)) e ∙ sym (passed-bare s g)

ok_of-bare : (r : Result Operand RangeFault) → option_map bare_operand (ok_of r) ≡ ok_of (seen bare_operand r)
ok_of-bare (Ok a) = refl
ok_of-bare (Err e) = refl

abbrev unsettled_index : Option Operand → Result Index RangeFault
unsettled_index o = Ok (unsettled o)

index-from : (s : Spot) (f : Found)
    → unsettled_index (option_map bare_operand (ok_of (operand s f))) ≡ unsettled_index (option_map bare_operand (ok_of (operand s (bare f))))
index-from s f =
    ap unsettled_index (ok_of-bare (operand s f) ∙ ap ok_of (operand-bare s f) ∙ sym (ok_of-bare (operand s (bare f))))

index-bare : (s : Spot) (f : Found) → seen bare_index (index_of s f) ≡ seen bare_index (index_of s (bare f))
index-bare s (known z w) = refl
index-bare s (loose x) = refl
index-bare s (read g r l w) = index-from s (read g r l w)
index-bare s (handed f r l w) = index-from s (handed f r l w)
index-bare s (bit x) = refl
index-bare s (within i x) = refl
index-bare s (wide x) = refl

pub index-same : (s : Spot) (f g : Found) → bare f ≡ bare g → seen bare_index (index_of s f) ≡ seen bare_index (index_of s g)
index-same s f g e = index-bare s f ∙ ap (λ h. seen bare_index (index_of s h)) e ∙ sym (index-bare s g)

-- what a call gives, for all frames
answered-from : (o : Option Span) (x y : Word)
    → bare (option_map_or (λ i. within i x) o (wide x)) ≡ bare (option_map_or (λ i. within i y) o (wide y))
answered-from (Some i) x y = refl
answered-from None x y = refl

abbrev found_ok : Found → Result Found RangeFault
found_ok f = Ok f

answered-bare : (s : Spot) (p q : Frame) (f : Found) → seen bare (answered s p f) ≡ seen bare (answered s q (bare f))
answered-bare s p q (known z (Some w)) = refl
answered-bare s p q (known z None) = refl
answered-bare s p q (read g r l w) = refl
answered-bare s p q (handed f r l w) = ap found_ok (answered-from (slice_span false w) _ _)
answered-bare s p q (bit x) = refl
answered-bare s p q (within i x) = refl
answered-bare s p q (wide x) = refl
answered-bare s p q (loose x) = refl

pub answered-same : (s : Spot) (p q : Frame) (f g : Found) → bare f ≡ bare g → seen bare (answered s p f) ≡ seen bare (answered s q g)
answered-same s p q f g e = answered-bare s p q f ∙ ap (λ h. seen bare (answered s q h)) e ∙ sym (answered-bare s q q g)

pub plain-same : (a b : Operand) → bare_operand a ≡ bare_operand b → bare (plain a) ≡ bare (plain b)
plain-same a b e = unbare a ∙ ap (λ c. bare (plain c)) e ∙ sym (unbare b)
  where
    unbare : (a : Operand) → bare (plain a) ≡ bare (plain (bare_operand a))
    unbare (fixed z) = refl
    unbare (moving i x) = refl

span-bare : (a : Operand) → span_of a ≡ span_of (bare_operand a)
span-bare (fixed z) = refl
span-bare (moving i x) = refl

pub span-same : (a b : Operand) → bare_operand a ≡ bare_operand b → span_of a ≡ span_of b
span-same a b e = span-bare a ∙ ap span_of e ∙ sym (span-bare b)

-- ---- slices

-- tests that are the same, of what looks the same
tested : {A B E : Type 0} (view : A → B) (b : Bool) (x y : A) (d : E) → view x ≡ view y
    → seen view (if b then Ok x else Err d) ≡ seen view (if b then Ok y else Err d)
tested view true x y d e = ap Ok e
tested view false x y d e = refl

moving_slice-bare : (place : Place) (all : ℕ) (g : Bool) (r size width : ℕ) (o : Option Operand)
    → seen bare (moving_slice place all g r size width o) ≡ seen bare (moving_slice place all g r size width (option_map bare_operand o))
moving_slice-bare place all g r size width None = refl
moving_slice-bare place all g r size width (Some (fixed z)) = refl
moving_slice-bare place all g r size width (Some (moving i x)) = tested bare _ _ _ _ refl

abbrev pub sight_of : List ℕ → List (Option ℕ) → List ℤ → List Walk → Sight
sight_of ws cs ts calls = record { widths = ws; constants = cs; turns = ts; walks = calls }

abbrev pub view : Found × Count → Found × Count
view p = counted bare p

and_count : (r q : Result Found RangeFault) (c : Count) → seen bare r ≡ seen bare q
    → seen view (r >>= λ f. Ok (f, c)) ≡ seen view (q >>= λ f. Ok (f, c))
and_count r q c e = steps_same bare view r q _ _ e (λ x y h. ap (λ f. Ok (f, c)) h)

slice-bare : (ws : List ℕ) (cs : List (Option ℕ)) (ts : List ℤ) (va vb : List Walk) (place : Place) (g : Bool) (r : ℕ) (n : Option ℕ) (high low : Index) (c : Count)
    → seen view (slice_at (sight_of ws cs ts va) place g r n high low c)
    ≡ seen view (slice_at (sight_of ws cs ts vb) place g r n (bare_index high) (bare_index low) c)
slice-bare ws cs ts va vb place g r (Some n) (settled y) (settled z) c = refl
slice-bare ws cs ts va vb place g r (Some n) (unsettled y) (settled z) c = refl
slice-bare ws cs ts va vb place g r (Some n) (settled y) (unsettled z) c = and_count _ _ _ (moving_slice-bare place _ g r 1 _ z)
slice-bare ws cs ts va vb place g r (Some n) (unsettled y) (unsettled z) c = and_count _ _ _ (moving_slice-bare place _ g r 1 _ z)
slice-bare ws cs ts va vb place g r None (settled y) (settled z) c = refl
slice-bare ws cs ts va vb place g r None (settled y) (unsettled z) c = refl
slice-bare ws cs ts va vb place g r None (unsettled y) z c = refl

pub slice-same : (ws : List ℕ) (cs : List (Option ℕ)) (ts : List ℤ) (va vb : List Walk) (place : Place) (g : Bool) (r : ℕ) (n : Option ℕ) (h i l m : Index) (c : Count)
    → bare_index h ≡ bare_index i → bare_index l ≡ bare_index m
    → seen view (slice_at (sight_of ws cs ts va) place g r n h l c) ≡ seen view (slice_at (sight_of ws cs ts vb) place g r n i m c)
slice-same ws cs ts va vb place g r n h i l m c p q =
    slice-bare ws cs ts va vb place g r n h l c
    ∙ ap (λ j. seen view (slice_at (sight_of ws cs ts vb) place g r n j (bare_index l) c)) p
    ∙ ap (λ j. seen view (slice_at (sight_of ws cs ts vb) place g r n (bare_index i) j c)) q
    ∙ sym (slice-bare ws cs ts vb vb place g r n i m c)

element-bare : (ws : List ℕ) (cs : List (Option ℕ)) (ts : List ℤ) (va vb : List Walk) (place : Place) (g : Bool) (r size : ℕ) (k : Index) (c : Count)
    → seen view (element_at (sight_of ws cs ts va) place g r size k c) ≡ seen view (element_at (sight_of ws cs ts vb) place g r size (bare_index k) c)
element-bare ws cs ts va vb place g r size (settled k) c = refl
element-bare ws cs ts va vb place g r size (unsettled k) c = and_count _ _ _ (moving_slice-bare place _ g r size size k)

pub element-same : (ws : List ℕ) (cs : List (Option ℕ)) (ts : List ℤ) (va vb : List Walk) (place : Place) (g : Bool) (r size : ℕ) (k l : Index) (c : Count)
    → bare_index k ≡ bare_index l
    → seen view (element_at (sight_of ws cs ts va) place g r size k c) ≡ seen view (element_at (sight_of ws cs ts vb) place g r size l c)
element-same ws cs ts va vb place g r size k l c e =
    element-bare ws cs ts va vb place g r size k c
    ∙ ap (λ j. seen view (element_at (sight_of ws cs ts vb) place g r size j c)) e
    ∙ sym (element-bare ws cs ts vb vb place g r size l c)

-- ---- operators

within-from : (s : Spot) (o : Option Span) (x y : Word) → seen bare (result_within s o x) ≡ seen bare (result_within s o y)
within-from s (Some i) x y = refl
within-from s None x y = refl

unary_of-bare : (s : Spot) (op : UnaryOp) (a : Operand) → seen bare (unary_of s op a) ≡ seen bare (unary_of s op (bare_operand a))
unary_of-bare s op (fixed z) = refl
unary_of-bare s op (moving i x) = within-from s (unary_span op i) _ _

bits_read-bare : (g : Bool) (f : Found) → bare (bits_read g f) ≡ bare (bits_read g (bare f))
bits_read-bare g (known z (Some w)) = refl
bits_read-bare g (known z None) = refl
bits_read-bare g (read s r l w) = refl
bits_read-bare g (handed p r l w) = refl
bits_read-bare g (bit x) = refl
bits_read-bare g (within i x) = refl
bits_read-bare g (wide x) = refl
bits_read-bare g (loose x) = refl

width_found-bare : (f : Found) → width_found f ≡ width_found (bare f)
width_found-bare (known z w) = refl
width_found-bare (read s r l w) = refl
width_found-bare (handed p r l w) = refl
width_found-bare (bit x) = refl
width_found-bare (within i x) = refl
width_found-bare (wide x) = refl
width_found-bare (loose x) = refl

unary_found-bare : (s : Spot) (op : UnaryOp) (f : Found) (w : Option ℕ) (a : Operand)
    → seen bare (unary_found s op f w a) ≡ seen bare (unary_found s op (bare f) w (bare_operand a))
unary_found-bare s Signed f (Some w) a = ap found_ok (bits_read-bare true f)
unary_found-bare s (SignExtend n) f (Some w) a = tested bare _ _ _ _ (bits_read-bare true f)
unary_found-bare s (ZeroExtend n) f (Some w) a = tested bare _ _ _ _ (bits_read-bare false f)
unary_found-bare s op f w a = unary_of-bare s op a

abbrev taken_or : Option Found → Result Found RangeFault → Result Found RangeFault
taken_or o r = option_map_or (λ g. Ok g) o r

taken_or-bare : (o p : Option Found) (r q : Result Found RangeFault) → option_map bare o ≡ option_map bare p → seen bare r ≡ seen bare q
    → seen bare (taken_or o r) ≡ seen bare (taken_or p q)
taken_or-bare (Some x) (Some y) r q e h = cc
taken_or-bare (Some x) None r q e h = absurd (cc)
taken_or-bare None (Some y) r q e h = absurd (cc)
taken_or-bare None None r q e h = h

cut-bare : (op : UnaryOp) (x y : Word) → option_map bare (cut_loose op x) ≡ option_map bare (cut_loose op y)
cut-bare (SignExtend n) x y = refl
cut-bare (ZeroExtend n) x y = refl
cut-bare (Truncate n) x y = refl
cut-bare op x y = refl

-- an operator of what is no left shift that need not fit
settled-unary : (s : Spot) (op : UnaryOp) (t : Spot) (f : Found)
    → seen bare (operand t f >>= λ a. unary_found s op f (width_found f) a)
    ≡ seen bare (operand t (bare f) >>= λ a. unary_found s op (bare f) (width_found (bare f)) a)
settled-unary s op t f = steps_same bare_operand bare (operand t f) (operand t (bare f)) _ _ (operand-bare t f) (λ a b e.
    ap (λ w. seen bare (unary_found s op f w a)) (width_found-bare f)
    ∙ unary_found-bare s op f (width_found (bare f)) a
    ∙ ap (λ c. seen bare (unary_found s op (bare f) (width_found (bare f)) c)) e
    ∙ sym (again f b))
  where
    again : (f : Found) (b : Operand)
        → seen bare (unary_found s op (bare f) (width_found (bare f)) b)
        ≡ seen bare (unary_found s op (bare f) (width_found (bare f)) (bare_operand b))
    again f b = unary_found-bare s op (bare f) (width_found (bare f)) b ∙ ap (λ g. seen bare (unary_found s op g (width_found (bare f)) (bare_operand b))) (twice f)
      where
        twice : (f : Found) → bare (bare f) ≡ bare f
        twice (known z w) = refl
        twice (read s r l w) = refl
        twice (handed p r l w) = refl
        twice (bit x) = refl
        twice (within i x) = refl
        twice (wide x) = refl
        twice (loose x) = refl

unary_at-bare : (s : Spot) (op : UnaryOp) (t : Spot) (f : Found) → seen bare (unary_at s op t f) ≡ seen bare (unary_at s op t (bare f))
unary_at-bare s op t (loose x) = taken_or-bare (cut_loose op x) (cut_loose op no_word) _ _ (cut-bare op x no_word) refl
unary_at-bare s op t (known z w) = refl
unary_at-bare s op t (read g r l w) = settled-unary s op t (read g r l w)
unary_at-bare s op t (handed p r l w) = settled-unary s op t (handed p r l w)
unary_at-bare s op t (bit x) = settled-unary s op t (bit x)
unary_at-bare s op t (within i x) = settled-unary s op t (within i x)
unary_at-bare s op t (wide x) = settled-unary s op t (wide x)

pub unary-same : (s : Spot) (op : UnaryOp) (t : Spot) (f g : Found) → bare f ≡ bare g
    → seen bare (unary_at s op t f) ≡ seen bare (unary_at s op t g)
unary-same s op t f g e = unary_at-bare s op t f ∙ ap (λ h. seen bare (unary_at s op t h)) e ∙ sym (unary_at-bare s op t g)

shifted_by-bare : (s : Spot) (op : BinaryOp) (n : ℕ) (a : Operand) → seen bare (shifted_by s op n a) ≡ seen bare (shifted_by s op n (bare_operand a))
shifted_by-bare s ShiftLeft n (fixed z) = refl
shifted_by-bare s ShiftLeft n (moving i x) = chosen-if (nat_le n 126) _ _ _ (within-from s (shifted_left_span i (between (pos n) (pos n))) _ _)
  where
    chosen-if : (b : Bool) (r q d : Result Found RangeFault) → seen bare r ≡ seen bare q → seen bare (if b then r else d) ≡ seen bare (if b then q else d)
    chosen-if true r q d e = e
    chosen-if false r q d e = refl
shifted_by-bare s op n (fixed z) = refl
shifted_by-bare s op n (moving i x) = refl

along-from : (o : Option Span) (x y : Word)
    → bare (option_map_or (λ i. within i x) o (loose x)) ≡ bare (option_map_or (λ i. within i y) o (loose y))
along-from (Some i) x y = refl
along-from None x y = refl

along-bare : (op : BinaryOp) (a b : Operand) → bare (shifted_along op a b) ≡ bare (shifted_along op (bare_operand a) (bare_operand b))
along-bare ShiftLeft (fixed y) (fixed z) = refl
along-bare ShiftLeft (fixed y) (moving j z) = along-from (binary_span ShiftLeft (between y y) j) _ _
along-bare ShiftLeft (moving i y) (fixed z) = along-from (binary_span ShiftLeft i (between z z)) _ _
along-bare ShiftLeft (moving i y) (moving j z) = along-from (binary_span ShiftLeft i j) _ _
along-bare op (fixed y) (fixed z) = refl
along-bare op (fixed y) (moving j z) = refl
along-bare op (moving i y) (fixed z) = refl
along-bare op (moving i y) (moving j z) = refl

pub if-same : {A B E : Type 0} (view : A → B) (b : Bool) (r q p t : Result A E) → seen view r ≡ seen view q → seen view p ≡ seen view t
    → seen view (if b then r else p) ≡ seen view (if b then q else t)
if-same view true r q p t e h = e
if-same view false r q p t e h = h

abbrev with_count : Count → Found → Result (Found × Count) RangeFault
with_count c f = Ok (f, c)

shift-bare : (s : Spot) (op : BinaryOp) (t : Spot) (a b : Operand) (c : Count)
    → seen view (shift_at s op t a b c) ≡ seen view (shift_at s op t (bare_operand a) (bare_operand b) c)
shift-bare s op t a (fixed (pos n)) c = and_count _ _ c (shifted_by-bare s op n a)
shift-bare s op t a (fixed (negsuc n)) c = refl
shift-bare s op t a (moving i x) c =
    if-same view (int_lt i.least (pos 0)) _ _ _ _ refl (ap (with_count (dynamic c)) (along-bare op a (moving i x)))

joined-bare : (s : Spot) (op : BinaryOp) (a b : Operand) → seen bare (joined s op a b) ≡ seen bare (joined s op (bare_operand a) (bare_operand b))
joined-bare s op (fixed y) (fixed z) = refl
joined-bare s op (fixed y) (moving j z) = if-same bare (is_comparison op) _ _ _ _ refl (within-from s (binary_span op (between y y) j) _ _)
joined-bare s op (moving i y) (fixed z) = if-same bare (is_comparison op) _ _ _ _ refl (within-from s (binary_span op i (between z z)) _ _)
joined-bare s op (moving i y) (moving j z) = if-same bare (is_comparison op) _ _ _ _ refl (within-from s (binary_span op i j) _ _)

binary-bare : (s : Spot) (op : BinaryOp) (t : Spot) (a b : Operand) (c : Count)
    → seen view (binary_at s op t a b c) ≡ seen view (binary_at s op t (bare_operand a) (bare_operand b) c)
binary-bare s op t a b c =
    if-same view (is_shift op) _ _ _ _ (shift-bare s op t a b c) (and_count _ _ c (joined-bare s op a b))

pub binary-same : (s : Spot) (op : BinaryOp) (t : Spot) (a b x y : Operand) (c : Count) → bare_operand a ≡ bare_operand x → bare_operand b ≡ bare_operand y
    → seen view (binary_at s op t a b c) ≡ seen view (binary_at s op t x y c)
binary-same s op t a b x y c p q =
    binary-bare s op t a b c
    ∙ ap (λ j. seen view (binary_at s op t j (bare_operand b) c)) p
    ∙ ap (λ j. seen view (binary_at s op t (bare_operand x) j c)) q
    ∙ sym (binary-bare s op t x y c)
