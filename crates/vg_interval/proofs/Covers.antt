-- What is found of an expression covers its value: a constant is the value, an interval holds it and its word stands for it,
-- and a slice form has its bits.
use Rattle.std.proofs.Common.{◌≡◌, ℕ, zero, suc, ◌+◌, ◌-◌, ◌/◌, ◌%◌, ◌^◌, ◌<◌, ◌≤◌, refl, sym, ap, ◌∙◌, subst, arith, inl, inr, Bool, true, false, lit<, List, [], ◌∷◌, get_or, length}
use Rattle.std.specs.Prelude.{ℤ, min, pos, not, nat_eq, if◌then◌else◌, map, Option, Some, None, Result, Ok}
use Rattle.std.specs.Option.{option_map_or}
use Rattle.std.proofs.lemmas.Int.{ints}
use Rattle.std.proofs.lemmas.Bool.{cases_lt, cases_Bool, lt-ltb, le-ltb, lt-leb, le-leb, eqb-true, eqb-false}
use Rattle.std.proofs.lemmas.Nat.{pow_pos}
use Rattle.std.proofs.Math.Nat.{mod-eq_of_lt}
use Rattle.vg_base.proofs.Bind.{tested_ok}
use Rattle.std.specs.Ordering.{int_eq}
use Rattle.vg_pseudo.specs.Value as value
use Rattle.vg_base.proofs.LowBits.{below_wider, pow-le, low-low}
use Rattle.vg_base.proofs.Signed.{signed-within, residue-signed}
use Rattle.vg_base.specs.Bits.{num, signed_at}
use Rattle.vg_base.specs.Number.{residue, least_signed, greatest_signed}
use Rattle.vg_bits.specs.BitList.{IsBits}
use Rattle.vg_bits.proofs.BitLists.{num-range_below}
use Rattle.vg_terms.specs.Term.{OneFits}
use Rattle.vg_terms.specs.Value.{one_value}
use Rattle.vg_terms.specs.declared.term.OneOp.TheVariants.{Zext, Sext}
use Rattle.vg_text.specs.declared.place.Place.{Place}
use Rattle.vg_pseudo.specs.declared.spot.Spot.{Spot}
use Rattle.vg_pseudo.specs.Whole.{truth}
use Rattle.vg_pseudo.specs.Value.{State, Bits, read}
use Rattle.vg_script.specs.Script.{Word, width_of, Low, at, held, Frame, block}
use Rattle.vg_script.specs.Script as script
use Rattle.vg_script.specs.Cells.{Cells, word_value, low_value, behind, bits_read}
use Rattle.vg_script.specs.Formed.{Formed, LowFormed, FrameFormed}
use Rattle.vg_interval.specs.declared.span.Span.{Span}
use Rattle.vg_interval.specs.declared.fault.RangeFault.{RangeFault}
use Rattle.vg_interval.specs.declared.fault.RangeFault.TheVariants.{TooWide}
use Rattle.vg_interval.specs.Interval.{between, is_small, slice_span, signed_span, unsigned_span}
use Rattle.vg_interval.specs.Words.{extended}
use Rattle.vg_interval.specs.Found.{Found, known, handed, bit, within, wide, loose, Operand, fixed, moving, span_of, word_of, plain, slice_word, handed_word, or_too_wide, operand, condition, Passed, passed}
use Rattle.vg_interval.specs.Found as found
use Rattle.vg_interval.proofs.Intervals.{In, Fits, EndsFit, signed-range, below-pow, small-fits, le_self, fits-in, same_some}
use Rattle.vg_interval.proofs.Parts.{num-part}
use Rattle.vg_interval.proofs.Words.{StandsFor, Tells, number-stands, bit-stands, is_set-tells}

-- the cells of a script hold the registers, and the lowest 128 bits of each number variable
abbrev pub cells : State → Cells
cells s = record { registers = s.registers; variables = map (residue 128) s.numbers }

abbrev pub AllBits : List (List ℕ) → Type 0
AllBits [] = Unit {0}
AllBits (l ∷ ls) = IsBits l × AllBits ls

-- The cells of a body whose registers are declared with these widths: of each at least 512 bits are kept, or all of
-- them.
pub record AreCells (ws : List ℕ) (c : Cells) : Type 0 where
  pub kept : (r : ℕ) → min 512 (get_or ws r 0) ≤ length (get_or c.registers r [])
  pub bits : AllBits c.registers

abbrev pub bits_at_low : Cells → ℕ → Low → ℕ → Bits
bits_at_low c r l w = record { width = w; number = bits_read c r (low_value c l) w }

-- a slice of some bits
pub record IsSlice (l : Low) (w : ℕ) : Type 0 where
  pub formed : LowFormed l
  pub some : 0 < w

-- a slice that is read, and its value and bits
pub record IsRead (ws : List ℕ) (c : Cells) (g : Bool) (r : ℕ) (l : Low) (w : ℕ) (z : ℤ) (b : Option Bits) : Type 0 where
  pub slice : IsSlice l w
  pub value : z ≡ read g (bits_at_low c r l w)
  pub bits : b ≡ Some (bits_at_low c r l w)

-- a slice of what a call leaves, as a number
pub record IsHanded (ws : List ℕ) (c : Cells) (f : Frame) (r : ℕ) (l : Low) (w : ℕ) (z : ℤ) : Type 0 where
  pub frame : FrameFormed f
  pub left : AllBits (behind c f).registers
  pub slice : IsSlice l w
  pub value : z ≡ pos (bits_read (behind c f) r (low_value (behind c f) l) w)

-- a constant slice: its width, and the bits that its number has
pub record IsConstantSlice (w : ℕ) (y z : ℤ) (b : Option Bits) : Type 0 where
  pub same : z ≡ y
  pub some : 0 < w
  pub bits : b ≡ Some (record { width = w; number = residue w y })

pub record IsWithin (ws : List ℕ) (c : Cells) (i : Span) (x : Word) (z : ℤ) : Type 0 where
  pub inside : In i z
  pub ends : EndsFit i
  pub stands : StandsFor ws c x z

abbrev pub Covers : List ℕ → Cells → Found → ℤ → Option Bits → Type 0
Covers ws c (known y None) z b = (z ≡ y) × (b ≡ None)
Covers ws c (known y (Some w)) z b = IsConstantSlice w y z b
Covers ws c (found.read g r l w) z b = IsRead ws c g r l w z b
Covers ws c (handed f r l w) z b = IsHanded ws c f r l w z × (b ≡ None)
Covers ws c (bit x) z b = ((v : Bool) × (z ≡ truth v) × Tells ws c x v) × (b ≡ None)
Covers ws c (within i x) z b = IsWithin ws c i x z × (b ≡ None)
Covers ws c (wide x) z b = StandsFor ws c x z × (b ≡ None)
Covers ws c (loose x) z b = StandsFor ws c x z × (b ≡ None)

-- an operand: its value fits
abbrev pub Holds : List ℕ → Cells → Operand → ℤ → Type 0
Holds ws c (fixed y) z = (z ≡ y) × Fits z
Holds ws c (moving i x) z = IsWithin ws c i x z

-- ---- slices

pub bits_at : (ls : List (List ℕ)) (r : ℕ) → AllBits ls → IsBits (get_or ls r [])
bits_at [] r h = tt
bits_at (l ∷ ls) zero h = h.0
bits_at (l ∷ ls) (suc r) h = bits_at ls r h.1

pub bits_small : (c : Cells) (r low w : ℕ) → AllBits c.registers → bits_read c r low w < 2 ^ w
bits_small c r low w h = num-range_below low w (get_or c.registers r []) (bits_at c.registers r h)

pub none_some : {A : Type 0} (x : A) → None ≡ Some x → ⊥
none_some x e = absurd (cc)

read-in : (g : Bool) (w n : ℕ) (i : Span) → 0 < w → n < 2 ^ w → slice_span g w ≡ Some i → In i (read g (record { width = w; number = n }))
read-in true w n i some h e =
    elim (cases_lt 128 w) [
      | inl t ↦ absurd (none_some i (subst (λ b. (if b then Some (signed_span w) else None) ≡ Some i) (lt-leb w 128 t) e))
      | inr t ↦
          let s : signed_span w ≡ i = same_some _ _ (subst (λ b. (if b then Some (signed_span w) else None) ≡ Some i) (le-leb w 128 t) e) in
          subst (λ k. In k (signed_at w n)) s
          (subst (λ v. In (between (least_signed v) (greatest_signed v)) (signed_at w n)) (omega arith)
          (signed-range (w - 1) (signed_at w n) (signed-within w n some h)))
    ]
read-in false w n i some h e =
    elim (cases_lt 127 w) [
      | inl t ↦ absurd (none_some i (subst (λ b. (if b then Some (unsigned_span w) else None) ≡ Some i) (lt-leb w 127 t) e))
      | inr t ↦
          let s : unsigned_span w ≡ i = same_some _ _ (subst (λ b. (if b then Some (unsigned_span w) else None) ≡ Some i) (le-leb w 127 t) e) in
          subst (λ k. In k (pos n)) s (below-pow w n h)
    ]

narrow_slice : (g : Bool) (w : ℕ) (i : Span) → slice_span g w ≡ Some i → w ≤ 128
narrow_slice true w i e = elim (cases_lt 128 w) [
  | inl t ↦ absurd (none_some i (subst (λ b. (if b then Some (signed_span w) else None) ≡ Some i) (lt-leb w 128 t) e))
  | inr t ↦ t
]
narrow_slice false w i e = elim (cases_lt 127 w) [
  | inl t ↦ absurd (none_some i (subst (λ b. (if b then Some (unsigned_span w) else None) ≡ Some i) (lt-leb w 127 t) e))
  | inr t ↦ omega arith
]

fits_signed : (w : ℕ) → w ≤ 128 → EndsFit (signed_span w)
fits_signed w h =
    let p : 2 ^ (w - 1) ≤ 2 ^ 127 = pow-le (w - 1) 127 (omega arith) in
    record { first = record { small = omega (arith, pow_pos (w - 1)) }; last = record { small = omega (arith, pow_pos (w - 1)) } }

fits_unsigned : (w : ℕ) → w ≤ 127 → EndsFit (unsigned_span w)
fits_unsigned w h =
    let p : 2 ^ w ≤ 2 ^ 127 = pow-le w 127 h in
    record { first = record { small = lit< tt }; last = record { small = omega (arith, pow_pos w) } }

slice_span-fits : (g : Bool) (w : ℕ) (i : Span) → slice_span g w ≡ Some i → EndsFit i
slice_span-fits true w i e = elim (cases_lt 128 w) [
  | inl t ↦ absurd (none_some i (subst (λ b. (if b then Some (signed_span w) else None) ≡ Some i) (lt-leb w 128 t) e))
  | inr t ↦
      subst EndsFit (same_some _ _ (subst (λ b. (if b then Some (signed_span w) else None) ≡ Some i) (le-leb w 128 t) e)) (fits_signed w t)
]
slice_span-fits false w i e = elim (cases_lt 127 w) [
  | inl t ↦ absurd (none_some i (subst (λ b. (if b then Some (unsigned_span w) else None) ≡ Some i) (lt-leb w 127 t) e))
  | inr t ↦
      subst EndsFit (same_some _ _ (subst (λ b. (if b then Some (unsigned_span w) else None) ≡ Some i) (le-leb w 127 t) e)) (fits_unsigned w t)
]

whole : (g : Bool) (w n : ℕ) → w ≡ 128 → n < 2 ^ w → residue 128 (read g (record { width = w; number = n })) ≡ n
whole true w n e h = ap (λ v. residue 128 (signed_at v n)) e ∙ residue-signed 128 n (subst (λ v. n < 2 ^ v) e h)
whole false w n e h = mod-eq_of_lt (subst (λ v. n < 2 ^ v) e h)

longer : (g : Bool) (w v n : ℕ) → n < 2 ^ w → w ≤ 128 → v ≡ n
    → one_value (if g then Sext else Zext) 128 0 w v ≡ residue 128 (read g (record { width = w; number = n }))
longer true w v n h m e = ap (λ k. residue 128 (signed_at w k)) e
longer false w v n h m e = e ∙ sym (mod-eq_of_lt (below_wider n w 128 h m))

extends : (g : Bool) (w : ℕ) → w < 128 → OneFits (if g then Sext else Zext) 128 0 w
extends true w h = (h, refl)
extends false w h = (h, refl)

less_than : (w : ℕ) → w ≤ 128 → (w ≡ 128 → ⊥) → w < 128
less_than w m n = elim (cases_lt w 128) [ inl l ↦ l | inr g ↦ absurd (n (omega arith)) ]

-- a word of some bits at 128 bits
pub extended-stands : (ws : List ℕ) (c : Cells) (g : Bool) (x : Word) (w n : ℕ) → w ≤ 128 → width_of x ≡ w → word_value c x ≡ n
    → n < 2 ^ w → Formed x → StandsFor ws c (extended g w x) (read g (record { width = w; number = n }))
extended-stands ws c g x w n most long e h formed = elim (cases_Bool (nat_eq w 128)) [
  | inl t ↦ rw t (record { bits = e ∙ sym (whole g w n (eqb-true w 128 t) h); wide = long ∙ eqb-true w 128 t; formed = formed })
  | inr t ↦ rw t (record {
    bits = ap (λ m. one_value (if g then Sext else Zext) 128 0 m (word_value c x)) long ∙ longer g w _ n h most e;
    wide = refl;
    formed = ((lit< tt, omega arith), subst (OneFits (if g then Sext else Zext) 128 0) (sym long) (extends g w (less_than w most (eqb-false w 128 t))), formed);
  })
]

pub slice-stands : (ws : List ℕ) (c : Cells) (g : Bool) (r : ℕ) (l : Low) (w : ℕ) → AllBits c.registers → IsSlice l w → w ≤ 128
    → StandsFor ws c (slice_word g r l w) (read g (bits_at_low c r l w))
slice-stands ws c g r l w cs s most =
    extended-stands ws c g (script.slice r l w) w _ most refl refl (bits_small c r _ w cs) ((s.some, most), s.formed)

slice-within : (ws : List ℕ) (c : Cells) (g : Bool) (r : ℕ) (l : Low) (w : ℕ) (i : Span) → AllBits c.registers → IsSlice l w
    → slice_span g w ≡ Some i → IsWithin ws c i (slice_word g r l w) (read g (bits_at_low c r l w))
slice-within ws c g r l w i cs s e = record {
  inside = read-in g w _ i s.some (bits_small c r _ w cs) e;
  ends = slice_span-fits g w i e;
  stands = slice-stands ws c g r l w cs s (narrow_slice g w i e);
}

-- ---- what a call hands

pub block-stands : (ws vs : List ℕ) (c : Cells) (f : Frame) (x : Word) (z : ℤ) → FrameFormed f
    → StandsFor vs (behind c f) x z → StandsFor ws c (block f x) z
block-stands ws vs c f x z h s = record { bits = s.bits; wide = s.wide; formed = (h, s.formed) }

-- the low bits of a slice are a shorter one
pub fewer_bits : (c : Cells) (r low w v : ℕ) → AllBits c.registers → w ≤ v → bits_read c r low w ≡ bits_read c r low v % 2 ^ w
fewer_bits c r low w v cs h =
    let x = get_or c.registers r [] in
    let p = num-part low v x (bits_at c.registers r cs) in
    let q = num-part low w x (bits_at c.registers r cs) in
    q ∙ sym (ap (λ n. n % 2 ^ w) p ∙ low-low (num x / 2 ^ low) v w h)

pub handed-stands : (ws : List ℕ) (c : Cells) (f : Frame) (r : ℕ) (l : Low) (w : ℕ) (z : ℤ) → IsHanded ws c f r l w z
    → StandsFor ws c (handed_word f r l w) z
handed-stands ws c f r l w z h = elim (cases_lt w 128) [
  | inl t ↦ rw (lt-ltb w 128 t, h.value) (block-stands ws ws c f _ _ h.frame (slice-stands ws (behind c f) false r l w h.left h.slice (omega arith)))
  | inr t ↦ rw (le-ltb w 128 t, h.value) (record {
    bits = fewer_bits (behind c f) r _ 128 w h.left t;
    wide = refl;
    formed = (h.frame, ((lit< tt, omega arith), h.slice.formed));
  })
]

pub handed-within : (ws : List ℕ) (c : Cells) (f : Frame) (r : ℕ) (l : Low) (w : ℕ) (z : ℤ) (i : Span) → IsHanded ws c f r l w z
    → slice_span false w ≡ Some i → IsWithin ws c i (handed_word f r l w) z
handed-within ws c f r l w z i h e = record {
  inside = rw h.value (read-in false w _ i h.slice.some (bits_small (behind c f) r _ w h.left) e);
  ends = slice_span-fits false w i e;
  stands = handed-stands ws c f r l w z h;
}

-- ---- operands

pub truth-within : (ws : List ℕ) (c : Cells) (x : Word) (v : Bool) → Tells ws c x v → IsWithin ws c (unsigned_span 1) (extended false 1 x) (truth v)
truth-within ws c x v t = record { inside = small v; ends = fits_unsigned 1 (omega arith); stands = bit-stands ws c x v t }
  where
    small : (v : Bool) → In (unsigned_span 1) (truth v)
    small true = record { above = omega (arith, ints); below = omega (arith, ints) }
    small false = record { above = omega (arith, ints); below = omega (arith, ints) }

abbrev pub ok : {A : Type 0} → A → Result A RangeFault
ok a = Ok a

pub ok_same : {A : Type 0} {a b : A} → ok a ≡ ok b → a ≡ b
ok_same e = cc

pub moving-ok : (ws : List ℕ) (c : Cells) (i : Option Span) (x : Word) (z : ℤ) (a : Operand) (place : Place)
    → or_too_wide place (option_map_or (λ j. Some (moving j x)) i None) ≡ Ok a
    → ((j : Span) → i ≡ Some j → IsWithin ws c j x z) → Holds ws c a z
moving-ok ws c (Some j) x z a place h f = subst (λ v. Holds ws c v z) (ok_same h) (f j refl)
moving-ok ws c None x z a place h f = absurd (cc)

known_value : (ws : List ℕ) (c : Cells) (y : ℤ) (w : Option ℕ) (z : ℤ) (b : Option Bits) → Covers ws c (known y w) z b → z ≡ y
known_value ws c y None z b h = h.0
known_value ws c y (Some w) z b h = h.same

pub operand-ok : (ws : List ℕ) (c : Cells) (s : Spot) (f : Found) (z : ℤ) (b : Option Bits) (a : Operand) → AllBits c.registers
    → operand s f ≡ Ok a → Covers ws c f z b → Holds ws c a z
operand-ok ws c s (known y w) z b a cs e h =
    let p = tested_ok (is_small y) (ok (fixed y)) (TooWide s.outer) e in
    let same = known_value ws c y w z b h in
    subst (λ v. Holds ws c v z) (ok_same p.1) (same, subst Fits (sym same) (small-fits y p.0))
operand-ok ws c s (found.read g r l w) z b a cs e h =
    moving-ok ws c (slice_span g w) (slice_word g r l w) z a s.outer e
    (λ j k. subst (IsWithin ws c j (slice_word g r l w)) (sym h.value) (slice-within ws c g r l w j cs h.slice k))
operand-ok ws c s (handed f r l w) z b a cs e h =
    moving-ok ws c (slice_span false w) (handed_word f r l w) z a s.outer e
    (λ j k. handed-within ws c f r l w z j h.0 k)
operand-ok ws c s (bit x) z b a cs e h =
    subst (λ v. Holds ws c v z) (ok_same e)
    (subst (IsWithin ws c (unsigned_span 1) (extended false 1 x)) (sym h.0.1) (truth-within ws c x h.0.0 h.0.2))
operand-ok ws c s (within i x) z b a cs e h = subst (λ v. Holds ws c v z) (ok_same e) h.0
operand-ok ws c s (wide x) z b a cs e h = absurd (cc)
operand-ok ws c s (loose x) z b a cs e h = absurd (cc)

pub holds-fits : (ws : List ℕ) (c : Cells) (a : Operand) (z : ℤ) → Holds ws c a z → Fits z
holds-fits ws c (fixed y) z h = h.1
holds-fits ws c (moving i x) z h = fits-in i z h.ends h.inside

pub holds-in : (ws : List ℕ) (c : Cells) (a : Operand) (z : ℤ) → Holds ws c a z → In (span_of a) z × EndsFit (span_of a)
holds-in ws c (fixed y) z h =
    (rw h.0 (record { above = le_self y; below = le_self y }), let f = subst Fits h.0 h.1 in record { first = f; last = f })
holds-in ws c (moving i x) z h = (h.inside, h.ends)

pub holds-stands : (ws : List ℕ) (c : Cells) (a : Operand) (z : ℤ) → Holds ws c a z → StandsFor ws c (word_of a) z
holds-stands ws c (fixed y) z h = rw h.0 (number-stands ws c y)
holds-stands ws c (moving i x) z h = h.stands

pub plain-covers : (ws : List ℕ) (c : Cells) (a : Operand) (z : ℤ) → Holds ws c a z → Covers ws c (plain a) z None
plain-covers ws c (fixed y) z h = (h.0, refl)
plain-covers ws c (moving i x) z h = (h, refl)

truth_set : (v : Bool) → not (int_eq (truth v) (pos 0)) ≡ v
truth_set true = refl
truth_set false = refl

-- a condition tells whether the number is not 0
pub condition-tells : (ws : List ℕ) (c : Cells) (f : Found) (a : Operand) (z : ℤ) (b : Option Bits) → Covers ws c f z b → Holds ws c a z
    → Tells ws c (condition f a) (not (int_eq z (pos 0)))
condition-tells ws c (bit x) a z b h k = rw h.0.1 (subst (Tells ws c x) (sym (truth_set h.0.0)) h.0.2)
condition-tells ws c (known y w) a z b h k = is_set-tells ws c (word_of a) z (holds-fits ws c a z k) (holds-stands ws c a z k)
condition-tells ws c (found.read g r l w) a z b h k = is_set-tells ws c (word_of a) z (holds-fits ws c a z k) (holds-stands ws c a z k)
condition-tells ws c (handed f r l w) a z b h k = is_set-tells ws c (word_of a) z (holds-fits ws c a z k) (holds-stands ws c a z k)
condition-tells ws c (within i x) a z b h k = is_set-tells ws c (word_of a) z (holds-fits ws c a z k) (holds-stands ws c a z k)
condition-tells ws c (wide x) a z b h k = is_set-tells ws c (word_of a) z (holds-fits ws c a z k) (holds-stands ws c a z k)
condition-tells ws c (loose x) a z b h k = is_set-tells ws c (word_of a) z (holds-fits ws c a z k) (holds-stands ws c a z k)

-- ---- arguments

abbrev pub PassedIs : List ℕ → Cells → Passed → ℕ → Type 0
PassedIs ws c (found.constant n) m = m ≡ n
PassedIs ws c (found.computed x) m = (m ≡ word_value c x) × (width_of x ≡ 128) × Formed x
PassedIs ws c (found.bits r l w) m = (m ≡ bits_read c r (low_value c l) w) × LowFormed l

word_passed : (ws : List ℕ) (c : Cells) (x : Word) (z : ℤ) → StandsFor ws c x z → PassedIs ws c (found.computed x) (residue 128 z)
word_passed ws c x z s = (sym s.bits, s.wide, s.formed)

pub passed-is : (ws : List ℕ) (c : Cells) (s : Spot) (f : Found) (z : ℤ) (b : Option Bits) (p : Passed) → AllBits c.registers
    → passed s f ≡ Ok p → Covers ws c f z b → PassedIs ws c p (value.handed b z)
passed-is ws c s (known y None) z b p cs e h = subst (λ v. PassedIs ws c v (value.handed b z)) (ok_same e) (rw (h.1, h.0) refl)
passed-is ws c s (known y (Some w)) z b p cs e h = subst (λ v. PassedIs ws c v (value.handed b z)) (ok_same e) (rw h.bits refl)
passed-is ws c s (found.read g r l w) z b p cs e h =
    subst (λ v. PassedIs ws c v (value.handed b z)) (ok_same e) (rw h.bits (refl, h.slice.formed))
passed-is ws c s (handed f r l w) z b p cs e h =
    subst (λ v. PassedIs ws c v (value.handed b z)) (ok_same e) (rw h.1 (word_passed ws c _ z (handed-stands ws c f r l w z h.0)))
passed-is ws c s (bit x) z b p cs e h =
    subst (λ v. PassedIs ws c v (value.handed b z)) (ok_same e)
    (rw (h.1, h.0.1) (word_passed ws c _ (truth h.0.0) (bit-stands ws c x h.0.0 h.0.2)))
passed-is ws c s (within i x) z b p cs e h =
    subst (λ v. PassedIs ws c v (value.handed b z)) (ok_same e) (rw h.1 (word_passed ws c x z h.0.stands))
passed-is ws c s (wide x) z b p cs e h =
    subst (λ v. PassedIs ws c v (value.handed b z)) (ok_same e) (rw h.1 (word_passed ws c x z h.0))
passed-is ws c s (loose x) z b p cs e h = absurd (cc)
