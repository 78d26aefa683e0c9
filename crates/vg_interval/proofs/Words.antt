-- Words of 128 bits do what exact numbers do, where these fit.
use Rattle.std.proofs.Common.{◌≡◌, ℕ, zero, suc, ◌+◌, ◌-◌, ◌*◌, ◌/◌, ◌%◌, ◌^◌, ◌<◌, ◌≤◌, refl, sym, ap, ◌∙◌, subst, arith, inl, inr, Bool, true, false, lit<, List}
use Rattle.std.specs.Prelude.{ℤ, pos, negsuc, ◌*ℤ◌, not, bit_and, bit_or, bit_xor, int_lt, nat_lt, nat_eq, if◌then◌else◌, min}
use Rattle.std.specs.Ordering.{int_eq}
use Rattle.std.proofs.lemmas.Int.{ints}
use Rattle.std.proofs.lemmas.Bool.{cases_lt, cases_Bool, le-leb, lt-leb, lt-ltb, eqb-true, eq-eqb}
use Rattle.std.proofs.lemmas.Bool.Decides.{Decides-int_eq}
use Rattle.std.proofs.lemmas.Nat.{pow_pos, mod_below, mod-mul-add, div-add-mod', and_block, and_mod, or_mod, xor_mod, xor_lt, and_comm, or_comm, xor_comm, and-not, and_le_r, and_le_l, pow_below}
use Rattle.std.specs.Int.Bits.{or_add_and, xor_add_and}
use Rattle.std.proofs.Math.Nat.{mod-eq_of_lt}
use Rattle.vg_base.specs.Bits.{signed_at}
use Rattle.vg_base.specs.Number.{residue, floor_shift, least_signed, greatest_signed}
use Rattle.vg_base.specs.Width.{bits_of}
use Rattle.vg_base.specs.declared.width.Width.{Width}
use Rattle.vg_base.specs.declared.width.Width.TheVariants.{W8, W16, W32, W64}
use Rattle.vg_base.proofs.Signed.{residue-add, residue-mul, residue-low, signed-residue, residue_below}
use Rattle.vg_terms.specs.Value.{two_value}
use Rattle.vg_terms.specs.declared.term.TwoOp.TheVariants as terms
use Rattle.vg_terms.proofs.Shifts.{floor_shift-capped}
use Rattle.vg_pseudo.specs.declared.operators.UnaryOp.{UnaryOp}
use Rattle.vg_pseudo.specs.declared.operators.UnaryOp.TheVariants.{Not, Negate, Absolute, Signed, SignExtend, ZeroExtend, Saturate, SaturateUnsigned, Truncate}
use Rattle.vg_pseudo.specs.declared.operators.BinaryOp.{BinaryOp}
use Rattle.vg_pseudo.specs.declared.operators.BinaryOp.TheVariants.{Or, Xor, And, Equal, NotEqual, Less, LessOrEqual, Greater, GreaterOrEqual, ShiftLeft, ShiftRight, Add, Subtract, Multiply, Minimum, Maximum}
use Rattle.vg_pseudo.specs.Whole.{natural, negative, complement, lesser, greater, clamped, greatest_unsigned, both_bits, either_bits, unequal_bits, truth, shifted_left, unary_result, binary_result}
use Rattle.vg_script.specs.Script.{Word, width_of}
use Rattle.vg_script.specs.Cells.{Cells, word_value, absolute_value, left_value, right_value}
use Rattle.vg_script.specs.Formed.{Formed}
use Rattle.vg_interval.specs.Words.{number, extended, low_extended, clamped_word, unary_word, opposite, comparison, binary_word, left_by, right_by, is_set}
use Rattle.vg_interval.proofs.Intervals.{Fits, within-127, IsNatural}

signed-back : (z : ℤ) → Fits z → signed_at 128 (residue 128 z) ≡ z
signed-back z f = signed-residue 128 z (omega arith) f.small

-- ---- bits of numbers of either sign

-- what is left of a number's halves without those of another
halves_left : (p h k l r : ℕ) → r ≤ l → ((h + k) * p + l) - (h * p + r) ≡ k * p + (l - r)
halves_left p h k l r le = omega arith

without_parts : (w g l h r : ℕ) → l < 2 ^ w → r < 2 ^ w → ((h * 2 ^ w + r) - bit_and (g * 2 ^ w + l) (h * 2 ^ w + r)) % 2 ^ w ≡ r - bit_and l r
without_parts w g l h r small smaller =
    let split = and_block w g h l r small smaller in
    let low : bit_and l r ≤ r = and_le_r l r in
    let high : bit_and g h ≤ h = and_le_r g h in
    let e : bit_and g h + (h - bit_and g h) ≡ h = omega arith in
    let fits : r - bit_and l r < 2 ^ w = omega arith in
    let left = halves_left (2 ^ w) (bit_and g h) (h - bit_and g h) r (bit_and l r) low in
    let whole = subst (λ v. (v * 2 ^ w + r) - (bit_and g h * 2 ^ w + bit_and l r) ≡ (h - bit_and g h) * 2 ^ w + (r - bit_and l r)) e left in
    ap (λ v. (h * 2 ^ w + r - v) % 2 ^ w) split ∙ ap (λ v. v % 2 ^ w) whole ∙ mod-mul-add (h - bit_and g h) (2 ^ w) (r - bit_and l r) fits

without : (w a b : ℕ) → (b - bit_and a b) % 2 ^ w ≡ b % 2 ^ w - bit_and (a % 2 ^ w) (b % 2 ^ w)
without w a b =
    let parts = without_parts w (a / 2 ^ w) (a % 2 ^ w) (b / 2 ^ w) (b % 2 ^ w) (mod_below a (2 ^ w) (pow_pos w)) (mod_below b (2 ^ w) (pow_pos w)) in
    let first = subst (λ v. (b / 2 ^ w * 2 ^ w + b % 2 ^ w - bit_and v (b / 2 ^ w * 2 ^ w + b % 2 ^ w)) % 2 ^ w ≡ b % 2 ^ w - bit_and (a % 2 ^ w) (b % 2 ^ w)) (div-add-mod' a (2 ^ w)) parts in
    subst (λ v. (v - bit_and a v) % 2 ^ w ≡ b % 2 ^ w - bit_and (a % 2 ^ w) (b % 2 ^ w)) (div-add-mod' b (2 ^ w)) first

-- an operation on a number and the opposite of another, and on two opposites
and_opposite : (w a b : ℕ) → a < 2 ^ w → b < 2 ^ w → bit_and a (2 ^ w - 1 - b) ≡ a - bit_and b a
and_opposite w a b p q = omega (arith, and-not w b a q p, and_comm a (2 ^ w - 1 - b))

and_opposites : (w a b : ℕ) → a < 2 ^ w → b < 2 ^ w → bit_and (2 ^ w - 1 - a) (2 ^ w - 1 - b) ≡ 2 ^ w - 1 - bit_or a b
and_opposites w a b p q =
    let c : 2 ^ w - 1 - b < 2 ^ w = omega arith in
    omega (arith, and-not w a (2 ^ w - 1 - b) p c, and_opposite w a b p q, or_add_and a b, and_comm a b, and_le_r b a, and_le_l b a)

or_opposite : (w a b : ℕ) → a < 2 ^ w → b < 2 ^ w → bit_or a (2 ^ w - 1 - b) ≡ 2 ^ w - 1 - (b - bit_and a b)
or_opposite w a b p q =
    omega (arith, or_add_and a (2 ^ w - 1 - b), and-not w b a q p, and_comm a (2 ^ w - 1 - b), and_comm a b, and_le_r a b)

or_opposites : (w a b : ℕ) → a < 2 ^ w → b < 2 ^ w → bit_or (2 ^ w - 1 - a) (2 ^ w - 1 - b) ≡ 2 ^ w - 1 - bit_and a b
or_opposites w a b p q =
    let c : 2 ^ w - 1 - b < 2 ^ w = omega arith in
    omega (arith, or_add_and (2 ^ w - 1 - a) (2 ^ w - 1 - b), and-not w a (2 ^ w - 1 - b) p c, and-not w b a q p, and_comm a (2 ^ w - 1 - b), and_comm a b, and_le_r a b)

xor_opposite : (w a b : ℕ) → a < 2 ^ w → b < 2 ^ w → bit_xor a (2 ^ w - 1 - b) ≡ 2 ^ w - 1 - bit_xor a b
xor_opposite w a b p q =
    omega (arith, xor_add_and a (2 ^ w - 1 - b), and_opposite w a b p q, xor_add_and a b, and_comm a b, and_le_r b a, and_le_l b a, xor_lt w a b p q)

xor_opposites : (w a b : ℕ) → a < 2 ^ w → b < 2 ^ w → bit_xor (2 ^ w - 1 - a) (2 ^ w - 1 - b) ≡ bit_xor a b
xor_opposites w a b p q =
    let c : 2 ^ w - 1 - a < 2 ^ w = omega arith in
    omega (arith, xor_opposite w (2 ^ w - 1 - a) b c q, xor_comm (2 ^ w - 1 - a) b, xor_opposite w b a q p, xor_comm a b, xor_lt w a b p q)

low_small : (a w : ℕ) → a % 2 ^ w < 2 ^ w
low_small a w = mod_below a (2 ^ w) (pow_pos w)

pub residue-or : (w : ℕ) (x y : ℤ) → residue w (either_bits x y) ≡ bit_or (residue w x) (residue w y)
residue-or w (pos a) (pos b) = or_mod a b w
residue-or w (pos a) (negsuc b) =
    ap (λ v. 2 ^ w - 1 - v) (without w a b) ∙ sym (or_opposite w (a % 2 ^ w) (b % 2 ^ w) (low_small a w) (low_small b w))
residue-or w (negsuc a) (pos b) =
    ap (λ v. 2 ^ w - 1 - (a - v) % 2 ^ w) (and_comm a b) ∙ ap (λ v. 2 ^ w - 1 - v) (without w b a)
    ∙ sym (or_comm (2 ^ w - 1 - a % 2 ^ w) (b % 2 ^ w) ∙ or_opposite w (b % 2 ^ w) (a % 2 ^ w) (low_small b w) (low_small a w))
residue-or w (negsuc a) (negsuc b) =
    ap (λ v. 2 ^ w - 1 - v) (and_mod a b w) ∙ sym (or_opposites w (a % 2 ^ w) (b % 2 ^ w) (low_small a w) (low_small b w))

pub residue-and : (w : ℕ) (x y : ℤ) → residue w (both_bits x y) ≡ bit_and (residue w x) (residue w y)
residue-and w (pos a) (pos b) = and_mod a b w
residue-and w (pos a) (negsuc b) =
    ap (λ v. (a - v) % 2 ^ w) (and_comm a b) ∙ without w b a
    ∙ sym (and_opposite w (a % 2 ^ w) (b % 2 ^ w) (low_small a w) (low_small b w))
residue-and w (negsuc a) (pos b) =
    without w a b ∙ sym (and_comm (2 ^ w - 1 - a % 2 ^ w) (b % 2 ^ w) ∙ and_opposite w (b % 2 ^ w) (a % 2 ^ w) (low_small b w) (low_small a w))
residue-and w (negsuc a) (negsuc b) =
    ap (λ v. 2 ^ w - 1 - v) (or_mod a b w) ∙ sym (and_opposites w (a % 2 ^ w) (b % 2 ^ w) (low_small a w) (low_small b w))

pub residue-xor : (w : ℕ) (x y : ℤ) → residue w (unequal_bits x y) ≡ bit_xor (residue w x) (residue w y)
residue-xor w (pos a) (pos b) = xor_mod a b w
residue-xor w (pos a) (negsuc b) =
    ap (λ v. 2 ^ w - 1 - v) (xor_mod a b w) ∙ sym (xor_opposite w (a % 2 ^ w) (b % 2 ^ w) (low_small a w) (low_small b w))
residue-xor w (negsuc a) (pos b) =
    ap (λ v. 2 ^ w - 1 - v) (xor_mod a b w ∙ xor_comm (a % 2 ^ w) (b % 2 ^ w))
    ∙ sym (xor_comm (2 ^ w - 1 - a % 2 ^ w) (b % 2 ^ w) ∙ xor_opposite w (b % 2 ^ w) (a % 2 ^ w) (low_small b w) (low_small a w))
residue-xor w (negsuc a) (negsuc b) =
    xor_mod a b w ∙ sym (xor_opposites w (a % 2 ^ w) (b % 2 ^ w) (low_small a w) (low_small b w))

xor_zero : (n : ℕ) → bit_xor n 0 ≡ n
xor_zero n = omega (arith, xor_add_and n 0, and_le_r n 0)

complement-unequal : (z : ℤ) → complement z ≡ unequal_bits z (negsuc 0)
complement-unequal (pos n) = ap negsuc (sym (xor_zero n))
complement-unequal (negsuc n) = ap pos (sym (xor_zero n))

-- the other bits are those of an exclusive OR with ones
residue-not : (z : ℤ) → residue 128 (complement z) ≡ bit_xor (residue 128 z) (residue 128 (negsuc 0))
residue-not z = ap (residue 128) (complement-unequal z) ∙ residue-xor 128 z (negsuc 0)

-- ---- least and greatest, comparisons

-- a choice of two residues is the residue of the choice
chosen : (b : Bool) (x y : ℤ) → (if b then residue 128 x else residue 128 y) ≡ residue 128 (if b then x else y)
chosen true x y = refl
chosen false x y = refl

smax : (x y : ℤ) → Fits x → Fits y → two_value terms.Smax 128 128 (residue 128 x) (residue 128 y) ≡ residue 128 (greater x y)
smax x y f g =
    ap (λ v. if int_lt v (signed_at 128 (residue 128 y)) then residue 128 y else residue 128 x) (signed-back x f)
    ∙ ap (λ v. if int_lt x v then residue 128 y else residue 128 x) (signed-back y g)
    ∙ chosen (int_lt x y) y x

smin : (x y : ℤ) → Fits x → Fits y → two_value terms.Smin 128 128 (residue 128 x) (residue 128 y) ≡ residue 128 (lesser x y)
smin x y f g =
    ap (λ v. if int_lt v (signed_at 128 (residue 128 y)) then residue 128 x else residue 128 y) (signed-back x f)
    ∙ ap (λ v. if int_lt x v then residue 128 x else residue 128 y) (signed-back y g)
    ∙ chosen (int_lt x y) x y

fits_least : (n : Width) → Fits (least_signed (bits_of n))
fits_least W8 = record { small = lit< tt }
fits_least W16 = record { small = lit< tt }
fits_least W32 = record { small = lit< tt }
fits_least W64 = record { small = lit< tt }

fits_greatest : (n : Width) → Fits (greatest_signed (bits_of n))
fits_greatest W8 = record { small = lit< tt }
fits_greatest W16 = record { small = lit< tt }
fits_greatest W32 = record { small = lit< tt }
fits_greatest W64 = record { small = lit< tt }

fits_unsigned : (n : Width) → Fits (greatest_unsigned (bits_of n))
fits_unsigned W8 = record { small = lit< tt }
fits_unsigned W16 = record { small = lit< tt }
fits_unsigned W32 = record { small = lit< tt }
fits_unsigned W64 = record { small = lit< tt }

either_fits : (b : Bool) (x y : ℤ) → Fits x → Fits y → Fits (if b then x else y)
either_fits true x y f g = f
either_fits false x y f g = g

pub narrow : (n : Width) → (0 < bits_of n) × (bits_of n < 128)
narrow W8 = (lit< tt, lit< tt)
narrow W16 = (lit< tt, lit< tt)
narrow W32 = (lit< tt, lit< tt)
narrow W64 = (lit< tt, lit< tt)

-- ---- words that stand for numbers

-- a word stands for a number: it has 128 bits, the lowest of the number
pub record StandsFor (ws : List ℕ) (c : Cells) (x : Word) (z : ℤ) : Type 0 where
  pub bits : word_value c x ≡ residue 128 z
  pub wide : width_of x ≡ 128
  pub formed : Formed x

-- a word of one bit says whether something holds
pub record Tells (ws : List ℕ) (c : Cells) (x : Word) (b : Bool) : Type 0 where
  pub bit : word_value c x ≡ (if b then 1 else 0)
  pub wide : width_of x ≡ 1
  pub formed : Formed x

full : (0 < 128) × (128 ≤ 128)
full = (lit< tt, omega arith)

single : (0 < 1) × (1 ≤ 128)
single = (lit< tt, omega arith)

number_formed : (z : ℤ) → ((0 < 128) × (128 ≤ 128)) × (residue 128 z < 2 ^ 128)
number_formed z = (full, residue_below 128 z)

pub number-stands : (ws : List ℕ) (c : Cells) (z : ℤ) → StandsFor ws c (number z) z
number-stands ws c z = record { bits = refl; wide = refl; formed = number_formed z }

pub small_residue : (n : ℕ) → n < 2 ^ 128 → residue 128 (pos n) ≡ n
small_residue n h = mod-eq_of_lt h

told : (b : Bool) → (if b then 1 else 0) ≡ residue 128 (truth b)
told true = refl
told false = refl

-- a bit at 128 bits
pub bit-stands : (ws : List ℕ) (c : Cells) (x : Word) (b : Bool) → Tells ws c x b → StandsFor ws c (extended false 1 x) (truth b)
bit-stands ws c x b t = record {
  bits = t.bit ∙ told b;
  wide = refl;
  formed = (full, (subst (λ v. v < 128) (sym t.wide) (lit< tt), refl), t.formed);
}

clamp-stands : (ws : List ℕ) (c : Cells) (x : Word) (l g z : ℤ) → Fits l → Fits g → Fits z → StandsFor ws c x z
    → StandsFor ws c (clamped_word l g x) (clamped l g z)
clamp-stands ws c x l g z fl fg f s = record {
  bits =
      ap (λ v. two_value terms.Smin 128 128 (two_value terms.Smax 128 128 v (residue 128 l)) (residue 128 g)) s.bits
      ∙ ap (λ v. two_value terms.Smin 128 128 v (residue 128 g)) (smax z l f fl)
      ∙ smin (greater z l) g (either_fits (int_lt z l) l z fl f) fg;
  wide = refl;
  formed = (full, (refl, refl), (full, (s.wide, refl), s.formed, number_formed l), number_formed g);
}

not_whole : (n : Width) → nat_eq (bits_of n) 128 ≡ false
not_whole W8 = refl
not_whole W16 = refl
not_whole W32 = refl
not_whole W64 = refl

-- the low bits of a word, read as unsigned and as signed
low-unsigned : (n : Width) (ws : List ℕ) (c : Cells) (x : Word) (z : ℤ) → StandsFor ws c x z
    → StandsFor ws c (low_extended false (bits_of n) x) (pos (residue (bits_of n) z))
low-unsigned n ws c x z s =
    let low : bits_of n ≤ 128 = omega (arith, narrow n) in
    let less : 2 ^ bits_of n < 2 ^ 128 = pow_below (bits_of n) 128 (narrow n).1 in
    let small : residue (bits_of n) z < 2 ^ 128 = omega (arith, residue_below (bits_of n) z) in
    rw (not_whole n) (record {
      bits = ap (λ v. v % 2 ^ bits_of n) s.bits ∙ residue-low 128 (bits_of n) z low ∙ sym (small_residue (residue (bits_of n) z) small);
      wide = refl;
      formed = (full, ((narrow n).1, refl), (((narrow n).0, low), (subst (λ v. bits_of n < v) (sym s.wide) (narrow n).1, refl), s.formed));
    })

low-signed : (n : Width) (ws : List ℕ) (c : Cells) (x : Word) (z : ℤ) → StandsFor ws c x z
    → StandsFor ws c (low_extended true (bits_of n) x) (signed_at (bits_of n) (residue (bits_of n) z))
low-signed n ws c x z s =
    let low : bits_of n ≤ 128 = omega (arith, narrow n) in
    rw (not_whole n) (record {
      bits = ap (λ v. residue 128 (signed_at (bits_of n) (v % 2 ^ bits_of n))) s.bits
          ∙ ap (λ v. residue 128 (signed_at (bits_of n) v)) (residue-low 128 (bits_of n) z low);
      wide = refl;
      formed = (full, ((narrow n).1, refl), (((narrow n).0, low), (subst (λ v. bits_of n < v) (sym s.wide) (narrow n).1, refl), s.formed));
    })

-- the greater of a number and its opposite is its absolute value
absolute_greater : (z : ℤ) → greater z (negative z) ≡ (if int_lt z (pos 0) then negative z else z)
absolute_greater z = grind (arith, ints)

opposite_fits : (z : ℤ) → Fits (if int_lt z (pos 0) then negative z else z) → Fits z → Fits (negative z)
opposite_fits (pos zero) f g = record { small = lit< tt }
opposite_fits (pos (suc n)) f g =
    let e : negative (pos (suc n)) ≡ negsuc n = omega (arith, ints) in
    rw e (record { small = omega (arith, g.small) })
opposite_fits (negsuc n) f g = f

pub unary-stands : (op : UnaryOp) (ws : List ℕ) (c : Cells) (x : Word) (z : ℤ) → Fits z → Fits (unary_result op z) → StandsFor ws c x z
    → StandsFor ws c (unary_word op x) (unary_result op z)
unary-stands Not ws c x z f g s = record {
  bits = ap (λ v. bit_xor v (residue 128 (negsuc 0))) s.bits ∙ sym (residue-not z);
  wide = refl;
  formed = (full, (s.wide, refl), s.formed, number_formed (negsuc 0));
}
unary-stands Negate ws c x z f g s = record {
  bits = ap (λ v. (v * residue 128 (negsuc 0)) % 2 ^ 128) s.bits ∙ sym (residue-mul 128 z (negsuc 0));
  wide = refl;
  formed = (full, (s.wide, refl), s.formed, number_formed (negsuc 0));
}
unary-stands Absolute ws c x z f g s = record {
  bits =
      ap absolute_value s.bits
      ∙ ap (two_value terms.Smax 128 128 (residue 128 z)) (sym (residue-mul 128 z (negsuc 0)))
      ∙ smax z (negative z) f (opposite_fits z g f)
      ∙ ap (residue 128) (absolute_greater z);
  wide = refl;
  formed = (s.wide, s.formed);
}
unary-stands Signed ws c x z f g s = s
unary-stands (SignExtend w) ws c x z f g s = low-signed w ws c x z s
unary-stands (ZeroExtend w) ws c x z f g s = low-unsigned w ws c x z s
unary-stands (Saturate w) ws c x z f g s = clamp-stands ws c x _ _ z (fits_least w) (fits_greatest w) f s
unary-stands (SaturateUnsigned w) ws c x z f g s = clamp-stands ws c x _ _ z (record { small = lit< tt }) (fits_unsigned w) f s
unary-stands (Truncate w) ws c x z f g s = low-unsigned w ws c x z s

-- a left shift that need not fit, cut at once
pub cut-unsigned : (n : Width) (ws : List ℕ) (c : Cells) (x : Word) (z : ℤ) → StandsFor ws c x z
    → StandsFor ws c (low_extended false (bits_of n) x) (pos (residue (bits_of n) z))
cut-unsigned n ws c x z s = low-unsigned n ws c x z s

pub cut-signed : (n : Width) (ws : List ℕ) (c : Cells) (x : Word) (z : ℤ) → StandsFor ws c x z
    → StandsFor ws c (low_extended true (bits_of n) x) (signed_at (bits_of n) (residue (bits_of n) z))
cut-signed n ws c x z s = low-signed n ws c x z s

-- ---- comparisons

bool_same : (a b : Bool) → (a ≡ true → b ≡ true) → (b ≡ true → a ≡ true) → a ≡ b
bool_same true b p q = sym (p refl)
bool_same false true p q = q refl
bool_same false false p q = refl

pub same-residue : (a b : ℤ) → Fits a → Fits b → nat_eq (residue 128 a) (residue 128 b) ≡ int_eq a b
same-residue a b f g =
    bool_same (nat_eq (residue 128 a) (residue 128 b)) (int_eq a b)
    (λ t. (Decides-int_eq a b).1 (sym (signed-back a f) ∙ ap (signed_at 128) (eqb-true _ _ t) ∙ signed-back b g))
    (λ t. eq-eqb _ _ (ap (residue 128) ((Decides-int_eq a b).0 t)))

equal-tells : (ws : List ℕ) (c : Cells) (x y : Word) (a b : ℤ) → Fits a → Fits b → StandsFor ws c x a → StandsFor ws c y b
    → Tells ws c (comparison Equal x y) (int_eq a b)
equal-tells ws c x y a b f g s t = record {
  bit =
      ap (λ v. if nat_eq v (word_value c y) then 1 else 0) s.bits ∙ ap (λ v. if nat_eq (residue 128 a) v then 1 else 0) t.bits
      ∙ ap (λ v. if v then 1 else 0) (same-residue a b f g);
  wide = refl;
  formed = (single, (refl, s.wide ∙ sym t.wide), s.formed, t.formed);
}

less-tells : (ws : List ℕ) (c : Cells) (x y : Word) (a b : ℤ) → Fits a → Fits b → StandsFor ws c x a → StandsFor ws c y b
    → Tells ws c (comparison Less x y) (int_lt a b)
less-tells ws c x y a b f g s t = record {
  bit =
      ap (λ w. two_value terms.Slt 1 w (word_value c x) (word_value c y)) t.wide
      ∙ ap (λ v. two_value terms.Slt 1 128 v (word_value c y)) s.bits
      ∙ ap (λ v. two_value terms.Slt 1 128 (residue 128 a) v) t.bits
      ∙ ap (λ v. if int_lt v (signed_at 128 (residue 128 b)) then 1 else 0) (signed-back a f)
      ∙ ap (λ v. if int_lt a v then 1 else 0) (signed-back b g);
  wide = refl;
  formed = (single, (refl, s.wide ∙ sym t.wide), s.formed, t.formed);
}

xor_one : (b : Bool) → bit_xor (if b then 1 else 0) 1 ≡ (if not b then 1 else 0)
xor_one true = refl
xor_one false = refl

opposite-tells : (ws : List ℕ) (c : Cells) (x : Word) (b : Bool) → Tells ws c x b → Tells ws c (opposite x) (not b)
opposite-tells ws c x b t = record {
  bit = ap (λ v. bit_xor v 1) t.bit ∙ xor_one b;
  wide = refl;
  formed = (single, (t.wide, refl), t.formed, (single, lit< tt));
}

-- the comparisons, and what they say
abbrev pub Says : BinaryOp → ℤ → ℤ → Bool → Type 0
Says Equal a b v = v ≡ int_eq a b
Says NotEqual a b v = v ≡ not (int_eq a b)
Says Less a b v = v ≡ int_lt a b
Says LessOrEqual a b v = v ≡ not (int_lt b a)
Says Greater a b v = v ≡ int_lt b a
Says GreaterOrEqual a b v = v ≡ not (int_lt a b)
Says op a b v = ⊥

pub comparison-tells : (op : BinaryOp) (ws : List ℕ) (c : Cells) (x y : Word) (a b : ℤ) (v : Bool) → Says op a b v → Fits a → Fits b
    → StandsFor ws c x a → StandsFor ws c y b → Tells ws c (comparison op x y) v × (binary_result op a b ≡ truth v)
comparison-tells Equal ws c x y a b v e f g s t = (rw e (equal-tells ws c x y a b f g s t), ap truth (sym e))
comparison-tells NotEqual ws c x y a b v e f g s t =
    (rw e (opposite-tells ws c _ _ (equal-tells ws c x y a b f g s t)), ap truth (sym e))
comparison-tells Less ws c x y a b v e f g s t = (rw e (less-tells ws c x y a b f g s t), ap truth (sym e))
comparison-tells LessOrEqual ws c x y a b v e f g s t =
    (rw e (opposite-tells ws c _ _ (less-tells ws c y x b a g f t s)), ap truth (sym e))
comparison-tells Greater ws c x y a b v e f g s t = (rw e (less-tells ws c y x b a g f t s), ap truth (sym e))
comparison-tells GreaterOrEqual ws c x y a b v e f g s t =
    (rw e (opposite-tells ws c _ _ (less-tells ws c x y a b f g s t)), ap truth (sym e))
comparison-tells Or ws c x y a b v e f g s t = absurd e
comparison-tells Xor ws c x y a b v e f g s t = absurd e
comparison-tells And ws c x y a b v e f g s t = absurd e
comparison-tells ShiftLeft ws c x y a b v e f g s t = absurd e
comparison-tells ShiftRight ws c x y a b v e f g s t = absurd e
comparison-tells Add ws c x y a b v e f g s t = absurd e
comparison-tells Subtract ws c x y a b v e f g s t = absurd e
comparison-tells Multiply ws c x y a b v e f g s t = absurd e
comparison-tells Minimum ws c x y a b v e f g s t = absurd e
comparison-tells Maximum ws c x y a b v e f g s t = absurd e

-- ---- operators that are no comparison and no shift

abbrev pub IsPlain : BinaryOp → Type 0
IsPlain Or = Unit {0}
IsPlain Xor = Unit {0}
IsPlain And = Unit {0}
IsPlain Add = Unit {0}
IsPlain Subtract = Unit {0}
IsPlain Multiply = Unit {0}
IsPlain Minimum = Unit {0}
IsPlain Maximum = Unit {0}
IsPlain op = ⊥

pub binary-stands : (op : BinaryOp) (ws : List ℕ) (c : Cells) (x y : Word) (a b : ℤ) → IsPlain op → Fits a → Fits b
    → StandsFor ws c x a → StandsFor ws c y b → StandsFor ws c (binary_word op x y) (binary_result op a b)
binary-stands Or ws c x y a b i f g s t = record {
  bits = ap (λ v. bit_or v (word_value c y)) s.bits ∙ ap (λ v. bit_or (residue 128 a) v) t.bits ∙ sym (residue-or 128 a b);
  wide = refl;
  formed = (full, (s.wide, t.wide), s.formed, t.formed);
}
binary-stands Xor ws c x y a b i f g s t = record {
  bits = ap (λ v. bit_xor v (word_value c y)) s.bits ∙ ap (λ v. bit_xor (residue 128 a) v) t.bits ∙ sym (residue-xor 128 a b);
  wide = refl;
  formed = (full, (s.wide, t.wide), s.formed, t.formed);
}
binary-stands And ws c x y a b i f g s t = record {
  bits = ap (λ v. bit_and v (word_value c y)) s.bits ∙ ap (λ v. bit_and (residue 128 a) v) t.bits ∙ sym (residue-and 128 a b);
  wide = refl;
  formed = (full, (s.wide, t.wide), s.formed, t.formed);
}
binary-stands Add ws c x y a b i f g s t = record {
  bits = ap (λ v. (v + word_value c y) % 2 ^ 128) s.bits ∙ ap (λ v. (residue 128 a + v) % 2 ^ 128) t.bits ∙ sym (residue-add 128 a b);
  wide = refl;
  formed = (full, (s.wide, t.wide), s.formed, t.formed);
}
binary-stands Subtract ws c x y a b i f g s t = record {
  bits =
      ap (λ v. (v + (word_value c y * residue 128 (negsuc 0)) % 2 ^ 128) % 2 ^ 128) s.bits
      ∙ ap (λ v. (residue 128 a + (v * residue 128 (negsuc 0)) % 2 ^ 128) % 2 ^ 128) t.bits
      ∙ ap (λ v. (residue 128 a + v) % 2 ^ 128) (sym (residue-mul 128 b (negsuc 0)))
      ∙ sym (residue-add 128 a (negative b));
  wide = refl;
  formed = (full, (s.wide, refl), s.formed, (full, (t.wide, refl), t.formed, number_formed (negsuc 0)));
}
binary-stands Multiply ws c x y a b i f g s t = record {
  bits = ap (λ v. (v * word_value c y) % 2 ^ 128) s.bits ∙ ap (λ v. (residue 128 a * v) % 2 ^ 128) t.bits ∙ sym (residue-mul 128 a b);
  wide = refl;
  formed = (full, (s.wide, t.wide), s.formed, t.formed);
}
binary-stands Minimum ws c x y a b i f g s t = record {
  bits =
      ap (λ w. two_value terms.Smin 128 w (word_value c x) (word_value c y)) t.wide
      ∙ ap (λ v. two_value terms.Smin 128 128 v (word_value c y)) s.bits
      ∙ ap (two_value terms.Smin 128 128 (residue 128 a)) t.bits ∙ smin a b f g;
  wide = refl;
  formed = (full, (s.wide, t.wide), s.formed, t.formed);
}
binary-stands Maximum ws c x y a b i f g s t = record {
  bits =
      ap (λ w. two_value terms.Smax 128 w (word_value c x) (word_value c y)) t.wide
      ∙ ap (λ v. two_value terms.Smax 128 128 v (word_value c y)) s.bits
      ∙ ap (two_value terms.Smax 128 128 (residue 128 a)) t.bits ∙ smax a b f g;
  wide = refl;
  formed = (full, (s.wide, t.wide), s.formed, t.formed);
}
binary-stands Equal ws c x y a b i f g s t = absurd i
binary-stands NotEqual ws c x y a b i f g s t = absurd i
binary-stands Less ws c x y a b i f g s t = absurd i
binary-stands LessOrEqual ws c x y a b i f g s t = absurd i
binary-stands Greater ws c x y a b i f g s t = absurd i
binary-stands GreaterOrEqual ws c x y a b i f g s t = absurd i
binary-stands ShiftLeft ws c x y a b i f g s t = absurd i
binary-stands ShiftRight ws c x y a b i f g s t = absurd i

-- ---- shifts

power_small : (n : ℕ) → n ≤ 127 → 2 ^ n < 2 ^ 128
power_small n h = pow_below n 128 (omega arith)

left-residue : (a : ℤ) (n : ℕ) → n ≤ 127 → residue 128 (a *ℤ pos (2 ^ n)) ≡ (residue 128 a * 2 ^ n) % 2 ^ 128
left-residue a n h =
    residue-mul 128 a (pos (2 ^ n)) ∙ ap (λ v. (residue 128 a * v) % 2 ^ 128) (small_residue (2 ^ n) (power_small n h))

-- by a constant number of places
pub left_by-stands : (ws : List ℕ) (c : Cells) (x : Word) (a : ℤ) (n : ℕ) → n ≤ 127 → StandsFor ws c x a
    → StandsFor ws c (left_by n x) (shifted_left a n)
left_by-stands ws c x a n h s = rw (within-127 a n h) (record {
  bits = ap (λ v. (v * 2 ^ n) % 2 ^ 128) s.bits ∙ sym (left-residue a n h);
  wide = refl;
  formed = (full, (s.wide, refl), s.formed, (full, power_small n h));
})

pub right_by-stands : (ws : List ℕ) (c : Cells) (x : Word) (a : ℤ) (n : ℕ) → Fits a → StandsFor ws c x a
    → StandsFor ws c (right_by n x) (floor_shift a n)
right_by-stands ws c x a n f s = record {
  bits =
      ap (λ w. residue 128 (floor_shift (signed_at w (word_value c x)) (min n 127))) s.wide
      ∙ ap (λ v. residue 128 (floor_shift (signed_at 128 v) (min n 127))) s.bits
      ∙ ap (λ v. residue 128 (floor_shift v (min n 127))) (signed-back a f)
      ∙ ap (residue 128) (sym (floor_shift-capped a 127 n f.small));
  wide = refl;
  formed = (full, (s.wide, omega arith), s.formed);
}

-- a number that is not negative and fits is its own residue
amount-residue : (b : ℤ) → Fits b → IsNatural b → residue 128 b ≡ natural b
amount-residue (pos n) f m = small_residue n (omega (arith, f.small))
amount-residue (negsuc n) f m = absurd (omega (arith, ints))

left-value : (a : ℤ) (n : ℕ) → left_value (residue 128 a) n ≡ residue 128 (shifted_left a n)
left-value a n = elim (cases_lt 127 n) [
  | inl t ↦ rw (lt-leb n 127 t) refl
  | inr t ↦ rw (le-leb n 127 t) (sym (left-residue a n t))
]

-- by a number of places
pub shift_left-stands : (ws : List ℕ) (c : Cells) (x y : Word) (a b : ℤ) → Fits b → IsNatural b → StandsFor ws c x a → StandsFor ws c y b
    → StandsFor ws c (binary_word ShiftLeft x y) (binary_result ShiftLeft a b)
shift_left-stands ws c x y a b g m s t = record {
  bits = ap (λ v. left_value v (word_value c y)) s.bits
      ∙ ap (left_value (residue 128 a)) (t.bits ∙ amount-residue b g m) ∙ left-value a (natural b);
  wide = refl;
  formed = (s.wide, t.wide, s.formed, t.formed);
}

pub shift_right-stands : (ws : List ℕ) (c : Cells) (x y : Word) (a b : ℤ) → Fits a → Fits b → IsNatural b → StandsFor ws c x a → StandsFor ws c y b
    → StandsFor ws c (binary_word ShiftRight x y) (binary_result ShiftRight a b)
shift_right-stands ws c x y a b f g m s t = record {
  bits =
      ap (λ v. right_value v (word_value c y)) s.bits
      ∙ ap (right_value (residue 128 a)) (t.bits ∙ amount-residue b g m)
      ∙ ap (λ v. residue 128 (floor_shift v (min (natural b) 127))) (signed-back a f)
      ∙ ap (residue 128) (sym (floor_shift-capped a 127 (natural b) f.small));
  wide = refl;
  formed = (s.wide, t.wide, s.formed, t.formed);
}

-- ---- conditions

not_true : (b : Bool) → b ≡ false → b ≡ true → ⊥
not_true true e f = absurd (cc)
not_true false e f = absurd (cc)

abbrev one_if : Bool → ℕ
one_if b = if b then 1 else 0

some_bit : (n : ℕ) → (n ≡ 0 → ⊥) → one_if (nat_lt 0 n) ≡ 1
some_bit zero h = absurd (h refl)
some_bit (suc n) h = ap one_if (lt-ltb 0 (suc n) (omega arith))

is_set-bit : (z : ℤ) → Fits z → one_if (nat_lt 0 (residue 128 z)) ≡ one_if (not (int_eq z (pos 0)))
is_set-bit z f = elim (cases_Bool (int_eq z (pos 0))) [
  | inl t ↦ rw (t, (Decides-int_eq z (pos 0)).0 t) refl
  | inr t ↦ rw t (some_bit (residue 128 z) (λ e. not_true (int_eq z (pos 0)) t ((Decides-int_eq z (pos 0)).1 (sym (signed-back z f) ∙ ap (signed_at 128) e))))
]

pub is_set-tells : (ws : List ℕ) (c : Cells) (x : Word) (z : ℤ) → Fits z → StandsFor ws c x z → Tells ws c (is_set x) (not (int_eq z (pos 0)))
is_set-tells ws c x z f s = record {
  bit = ap (λ v. one_if (nat_lt 0 v)) s.bits ∙ is_set-bit z f;
  wide = refl;
  formed = (single, (refl, sym s.wide), (full, lit< tt), s.formed);
}
