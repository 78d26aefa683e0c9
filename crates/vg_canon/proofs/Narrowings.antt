-- What a rule for widths makes of a term over canonical children is canonical from the third level on.
use Rattle.std.proofs.Common.{◌≡◌, ℕ, suc, Bool, true, false, subst, inl, inr}
use Rattle.std.specs.Prelude.{Option, Some, None, nat_eq, nat_le, nat_lt, if◌then◌else◌}
use Rattle.std.specs.Option.{option_or}
use Rattle.std.proofs.lemmas.Bool.{cond_both}
use Rattle.vg_terms.specs.declared.known.Known.{Known}
use Rattle.vg_terms.specs.declared.term.OneOp.{OneOp}
use Rattle.vg_terms.specs.declared.term.OneOp.TheVariants.{Zext, Sext, Trunc, Lshr, Ashr}
use Rattle.vg_terms.specs.declared.term.TwoOp.{TwoOp}
use Rattle.vg_terms.specs.declared.term.TwoOp.TheVariants.{Add, Mul, And, Or, Xor, Cat}
use Rattle.vg_terms.specs.Known.{known}
use Rattle.vg_terms.specs.Resize.{low, low_two}
use Rattle.vg_terms.specs.Term.{Tree, constant, one, two, sel, width_of}
use Rattle.vg_rules_width.specs.Rules.{first_row, resized, shifted_zext, shifted_far, extended_operation, narrowed, low_of_pair, shifted_pair, truncate_truncate, truncate_extension, extend_extend, truncate_operation, truncate_selection, truncate_arithmetic_shift, truncate_logical_shift, shift_by_zero, shift_of_extension, shift_of_shift, narrow_product, narrow_extended_sum, sign_of_nonnegative, part_of_concatenation, zero_on_top}
use Rattle.vg_canon.specs.Canonical.{IsCanonical, HasCanonicalChildren}
use Rattle.vg_canon.specs.Walk.{CanonicalFrom}
use Rattle.vg_terms.proofs.Tables.{either}
use Rattle.vg_canon.proofs.Walks.{canonical-from}

-- what a row makes of a term over canonical children
abbrev pub IsShallow : (Tree → Option Tree) → Type 0
IsShallow row = (old new : Tree) → HasCanonicalChildren old → row old ≡ Some new → CanonicalFrom 3 new

-- a fact of what is given, with or without a test
pub given : (v new : Tree) → Some v ≡ Some new → CanonicalFrom 3 v → CanonicalFrom 3 new
given v new e h = subst (CanonicalFrom 3) (cc) h

pub given_if : (b : Bool) (v new : Tree) → (if b then Some v else None) ≡ Some new → CanonicalFrom 3 v → CanonicalFrom 3 new
given_if true v new e h = given v new e h
given_if false v new e h = absurd (cc)

pub given_either : (b c : Bool) (v u new : Tree) → (if b then Some v else if c then Some u else None) ≡ Some new → CanonicalFrom 3 v → CanonicalFrom 3 u → CanonicalFrom 3 new
given_either true c v u new e h g = given v new e h
given_either false c v u new e h g = given_if c u new e g

-- of two terms that are canonical from a level on, one is chosen
pub chosen_from : (n : ℕ) (b : Bool) (x y : Tree) → CanonicalFrom n x → CanonicalFrom n y → CanonicalFrom n (if b then x else y)
chosen_from n b x y h g = cond_both b x y (CanonicalFrom n) (λ _. h) (λ _. g)

-- low bits of a canonical term
pub low-from : (n m : ℕ) (x : Tree) → IsCanonical x → CanonicalFrom (suc n) (low m x)
low-from n m x c = chosen_from (suc n) (nat_eq (width_of x) m) x (one Trunc m 0 x) (canonical-from (suc n) x c) (canonical-from n x c)

truncate_truncate-shallow : IsShallow truncate_truncate
unfolding truncate_truncate
truncate_truncate-shallow (one Trunc n z (one Trunc m y x)) new h e = given (low n x) new e (low-from 2 n x h.1)
truncate_truncate-shallow _ new h e = absurd (cc)

resized-from : (op : OneOp) (n : ℕ) (x : Tree) → IsCanonical x → CanonicalFrom 3 (resized op n x)
resized-from op n x c = chosen_from 3 (nat_le n (width_of x)) (low n x) (one op n 0 x) (low-from 2 n x c) (canonical-from 2 x c)

truncate_extension-shallow : IsShallow truncate_extension
unfolding truncate_extension
truncate_extension-shallow (one Trunc n z (one Zext m y x)) new h e = given (resized Zext n x) new e (resized-from Zext n x h.1)
truncate_extension-shallow (one Trunc n z (one Sext m y x)) new h e = given (resized Sext n x) new e (resized-from Sext n x h.1)
truncate_extension-shallow _ new h e = absurd (cc)

extend_extend-shallow : IsShallow extend_extend
unfolding extend_extend
extend_extend-shallow (one Zext w z (one Zext m y x)) new h e = given (one Zext w 0 x) new e (canonical-from 2 x h.1)
extend_extend-shallow (one Sext w z (one Sext m y x)) new h e = given (one Sext w 0 x) new e (canonical-from 2 x h.1)
extend_extend-shallow (one Sext w z (one Zext m y x)) new h e = given (one Zext w 0 x) new e (canonical-from 2 x h.1)
extend_extend-shallow _ new h e = absurd (cc)

-- an operation on low bits
pub low_two-from : (n : ℕ) (op : TwoOp) (w m : ℕ) (x y : Tree) → IsCanonical x → IsCanonical y → CanonicalFrom (suc (suc n)) (low_two op w m x y)
low_two-from n op w m x y c d = (low-from n m x c, low-from n m y d)

truncate_operation-shallow : IsShallow truncate_operation
unfolding truncate_operation
truncate_operation-shallow (one Trunc n z (two Add m x y)) new h e = given _ new e (low_two-from 1 Add n n x y h.1 h.2)
truncate_operation-shallow (one Trunc n z (two Mul m x y)) new h e = given _ new e (low_two-from 1 Mul n n x y h.1 h.2)
truncate_operation-shallow (one Trunc n z (two And m x y)) new h e = given _ new e (low_two-from 1 And n n x y h.1 h.2)
truncate_operation-shallow (one Trunc n z (two Or m x y)) new h e = given _ new e (low_two-from 1 Or n n x y h.1 h.2)
truncate_operation-shallow (one Trunc n z (two Xor m x y)) new h e = given _ new e (low_two-from 1 Xor n n x y h.1 h.2)
truncate_operation-shallow _ new h e = absurd (cc)

truncate_selection-shallow : IsShallow truncate_selection
unfolding truncate_selection
truncate_selection-shallow (one Trunc n z (sel m c x y)) new h e =
    given (sel n c (low n x) (low n y)) new e (canonical-from 2 c h.1, low-from 1 n x h.2, low-from 1 n y h.3)
truncate_selection-shallow _ new h e = absurd (cc)

truncate_arithmetic_shift-shallow : IsShallow truncate_arithmetic_shift
unfolding truncate_arithmetic_shift
truncate_arithmetic_shift-shallow (one Trunc n z (one Ashr m k x)) new h e = given_if _ (one Trunc n 0 (one Lshr m k x)) new e (canonical-from 1 x h.1)
truncate_arithmetic_shift-shallow _ new h e = absurd (cc)

low_shift-from : (n m k : ℕ) (x : Tree) → IsCanonical x → CanonicalFrom 3 (low n (one Lshr m k (low m x)))
low_shift-from n m k x c =
    let t = one Lshr m k (low m x) in
    chosen_from 3 (nat_eq (width_of t) n) t (one Trunc n 0 t) (low-from 1 m x c) (low-from 0 m x c)

truncate_logical_shift-shallow : IsShallow truncate_logical_shift
unfolding truncate_logical_shift
truncate_logical_shift-shallow (one Trunc n z (one Lshr m k x)) new h e = given_if _ _ new e (low_shift-from n _ k x h.1)
truncate_logical_shift-shallow _ new h e = absurd (cc)

shift_by_zero-shallow : IsShallow shift_by_zero
unfolding shift_by_zero
shift_by_zero-shallow (one Lshr w k x) new h e = given_if _ x new e (canonical-from 3 x h)
shift_by_zero-shallow (one Ashr w k x) new h e = given_if _ x new e (canonical-from 3 x h)
shift_by_zero-shallow _ new h e = absurd (cc)

zext-from : (w k : ℕ) (x : Tree) → IsCanonical x → CanonicalFrom 3 (shifted_zext w k x)
zext-from w k x c = chosen_from 3 (nat_lt k (width_of x)) (one Zext w 0 (one Lshr (width_of x) k x)) (constant w 0) (canonical-from 1 x c) tt

shift_of_extension-shallow : IsShallow shift_of_extension
unfolding shift_of_extension
shift_of_extension-shallow (one Lshr w k (one Zext m y x)) new h e = given (shifted_zext w k x) new e (zext-from w k x h.1)
shift_of_extension-shallow (one Ashr w k (one Zext m y x)) new h e = given (shifted_zext w k x) new e (zext-from w k x h.1)
shift_of_extension-shallow (one Ashr w k (one Sext m y x)) new h e = given _ new e (canonical-from 1 x h.1)
shift_of_extension-shallow _ new h e = absurd (cc)

shift_of_shift-shallow : IsShallow shift_of_shift
unfolding shift_of_shift
shift_of_shift-shallow (one Lshr w k (one Lshr m j x)) new h e =
    given (shifted_far Lshr w _ x) new e (chosen_from 3 (nat_lt _ w) (one Lshr w _ x) (constant w 0) (canonical-from 2 x h.1) tt)
shift_of_shift-shallow (one Ashr w k (one Ashr m j x)) new h e = given _ new e (canonical-from 2 x h.1)
shift_of_shift-shallow _ new h e = absurd (cc)

narrowed-from : (k : Known) (w m : ℕ) (op : TwoOp) (x y new : Tree) → IsCanonical x → IsCanonical y → narrowed k w m op x y ≡ Some new → CanonicalFrom 3 new
narrowed-from k w m op x y new c d e =
    given_either (nat_lt k.unsigned w) (nat_lt k.signed w) (extended_operation Zext m op k.unsigned x y) (extended_operation Sext m op k.signed x y) new e (low_two-from 0 op k.unsigned k.unsigned x y c d) (low_two-from 0 op k.signed k.signed x y c d)

narrow_product-shallow : IsShallow narrow_product
unfolding narrow_product
narrow_product-shallow (two Mul w x y) new h e = narrowed-from (known (two Mul w x y)) w w Mul x y new h.0 h.1 e
narrow_product-shallow _ new h e = absurd (cc)

narrow_extended_sum-shallow : IsShallow narrow_extended_sum
unfolding narrow_extended_sum
narrow_extended_sum-shallow (one Sext m z (two Add w x y)) new h e = narrowed-from (known (two Add w x y)) w m Add x y new h.1 h.2 e
narrow_extended_sum-shallow (one Zext m z (two Add w x y)) new h e =
    let n = (known (two Add w x y)).unsigned in given_if (nat_lt n w) (extended_operation Zext m Add n x y) new e (low_two-from 0 Add n n x y h.1 h.2)
narrow_extended_sum-shallow _ new h e = absurd (cc)

sign_of_nonnegative-shallow : IsShallow sign_of_nonnegative
unfolding sign_of_nonnegative
sign_of_nonnegative-shallow (one Sext w z x) new h e = given_if _ (one Zext w 0 x) new e (canonical-from 2 x h)
sign_of_nonnegative-shallow _ new h e = absurd (cc)

pair-from : (n : ℕ) (h l : Tree) → IsCanonical h → IsCanonical l → CanonicalFrom 3 (low_of_pair n h l)
pair-from n h l c d = chosen_from 3 (nat_le n (width_of l)) (low n l) (two Cat n (low _ h) l) (low-from 2 n l d) (low-from 1 _ h c, canonical-from 2 l d)

part_of_concatenation-shallow : IsShallow part_of_concatenation
unfolding part_of_concatenation
part_of_concatenation-shallow (one Trunc n z (two Cat w h l)) new c e = given (low_of_pair n h l) new e (pair-from n h l c.1 c.2)
part_of_concatenation-shallow (one Lshr w k (two Cat m h l)) new c e =
    given_if _ (shifted_pair w k h l) new e (chosen_from 3 _ (one Zext w 0 h) (one Zext w 0 (one Lshr (width_of h) _ h)) (canonical-from 2 h c.1) (canonical-from 1 h c.1))
part_of_concatenation-shallow _ new c e = absurd (cc)

zero_on_top-shallow : IsShallow zero_on_top
unfolding zero_on_top
zero_on_top-shallow (two Cat w (constant m v) l) new h e = given_if _ (one Zext w 0 l) new e (canonical-from 2 l h.1)
zero_on_top-shallow _ new h e = absurd (cc)

-- a row, or what stands below it in the table
pub or_shallow : (row rest : Tree → Option Tree) → IsShallow row → IsShallow rest → (old new : Tree) → HasCanonicalChildren old → option_or (row old) (rest old) ≡ Some new → CanonicalFrom 3 new
or_shallow row rest a b old new h e = elim (either (row old) (rest old) new e) [ inl f ↦ a old new h f | inr f ↦ b old new h f ]

pub none-shallow : IsShallow (λ _. None)
none-shallow old new h e = absurd (cc)

pub width-shallow : IsShallow first_row
unfolding first_row
width-shallow =
    or_shallow truncate_truncate _ truncate_truncate-shallow
    (or_shallow truncate_extension _ truncate_extension-shallow
    (or_shallow extend_extend _ extend_extend-shallow
    (or_shallow truncate_operation _ truncate_operation-shallow
    (or_shallow truncate_selection _ truncate_selection-shallow
    (or_shallow truncate_arithmetic_shift _ truncate_arithmetic_shift-shallow
    (or_shallow truncate_logical_shift _ truncate_logical_shift-shallow
    (or_shallow shift_by_zero _ shift_by_zero-shallow
    (or_shallow shift_of_extension _ shift_of_extension-shallow
    (or_shallow shift_of_shift _ shift_of_shift-shallow
    (or_shallow narrow_product _ narrow_product-shallow
    (or_shallow narrow_extended_sum _ narrow_extended_sum-shallow
    (or_shallow sign_of_nonnegative _ sign_of_nonnegative-shallow
    (or_shallow part_of_concatenation _ part_of_concatenation-shallow
    (or_shallow zero_on_top _ zero_on_top-shallow none-shallow))))))))))))))
