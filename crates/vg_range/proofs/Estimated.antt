-- What is estimated is what is judged, but for the words that no script keeps.
use Rattle.std.proofs.Common.{◌≡◌, ℕ, refl, sym, ap, ◌∙◌, subst, Bool, true, false, List, inl, inr}
use Rattle.std.proofs.lemmas.Bool.{cases_Bool}
use Rattle.std.specs.Prelude.{ℤ, nat_le, not, if◌then◌else◌, Option, Some, None, Result, Ok, Err}
use Rattle.std.specs.Option.{option_map, option_map_or}
use Rattle.vg_base.specs.Bind.{◌>>=◌}
use Rattle.vg_text.specs.declared.place.Place.{Place}
use Rattle.vg_pseudo.specs.declared.spot.Spot.{Spot}
use Rattle.vg_pseudo.specs.declared.operators.BinaryOp.{BinaryOp}
use Rattle.vg_pseudo.specs.declared.operators.BinaryOp.TheVariants.{Equal, NotEqual, Less, LessOrEqual, Greater, GreaterOrEqual}
use Rattle.vg_pseudo.specs.Resolved.{Expr, binary, Target, Code}
use Rattle.vg_pseudo.specs.Whole.{binary_result}
use Rattle.vg_script.specs.Script.{Word, Script}
use Rattle.vg_interval.specs.declared.fault.RangeFault.{RangeFault}
use Rattle.vg_interval.specs.declared.span.Span.{Span}
use Rattle.vg_interval.specs.Interval.{between, fit, is_small, binary_span, slice_span, unsigned_span}
use Rattle.vg_interval.specs.Words.{binary_word, comparison}
use Rattle.vg_interval.specs.Found.{Found, known, read, handed, bit, within, wide, loose, Operand, fixed, moving, word_of, or_too_wide, operand}
use Rattle.vg_interval.specs.Judge.{Sight, KnownNumber, constant, varying, Count, result_known, result_within, is_shift, is_comparison, joined, binary_at, spot_of, judge}
use Rattle.vg_interval.specs.Views.{Condition, always, tested, condition_of, condition_at}
use Rattle.vg_range.specs.Estimates.{kept_found, estimate_of, kept_joined, joined_estimate, is_joined, condition_by, decided_at, way_behind, given_at, filled, estimate_filled, estimate_set}
use Rattle.vg_range.specs.Steps.{WayStep, way_at, way_by}
use Rattle.vg_range.specs.Seen.{number_set, tested_at}
use Rattle.vg_range.specs.Walk.{WalkContext, Goal, WalkState, Ways, at_count, beginning, judged, kept_of, put_word, stored, target_number, assigned, walk, with_script}

-- what is kept of what is found is what is kept of the operand that it is
from_span : (place : Place) (o : Option Span) (x : Word)
    → or_too_wide place (option_map (λ i. varying i) o)
    ≡ (or_too_wide place (option_map_or (λ i. Some (moving i x)) o None) >>= λ a. Ok (kept_of a))
from_span place (Some i) x = refl
from_span place None x = refl

kept_is : (s : Spot) (f : Found) → kept_found s f ≡ (operand s f >>= λ a. Ok (kept_of a))
kept_is s (known z w) = elim (cases_Bool (is_small z)) [
  | inl t ↦ rw t refl
  | inr t ↦ rw t refl
]
kept_is s (read g r l w) = from_span s.outer (slice_span g w) _
kept_is s (handed f r l w) = from_span s.outer (slice_span false w) _
kept_is s (bit y) = refl
kept_is s (within i y) = refl
kept_is s (wide y) = refl
kept_is s (loose y) = refl

-- ---- operators that are no shifts

abbrev counted_kept : Count → Result KnownNumber RangeFault → Result (KnownNumber × Count) RangeFault
counted_kept n r = r >>= λ k. Ok (k, n)

abbrev counted_found : Count → Result Found RangeFault → Result (Found × Count) RangeFault
counted_found n r = r >>= λ f. Ok (f, n)

within_kept : (s : Spot) (n : Count) (o : Option Span) (x : Word)
    → counted_kept n (or_too_wide s.inner (option_map (λ i. varying i) o)) ≡ estimate_of s (counted_found n (result_within s o x))
within_kept s n (Some i) x = refl
within_kept s n None x = refl

fixed_kept : (s : Spot) (n : Count) (z : ℤ)
    → counted_kept n (or_too_wide s.inner (option_map (λ x. constant x) (fit z))) ≡ estimate_of s (counted_found n (result_known s z))
unfolding fit
fixed_kept s n z = elim (cases_Bool (is_small z)) [
  | inl t ↦ rw (t, t) refl
  | inr t ↦ rw t refl
]

-- a comparison is one bit, whose interval is that of a comparison
mixed_kept : (s : Spot) (op : BinaryOp) (n : Count) (i j : Span) (x y : Word)
    → counted_kept n (or_too_wide s.inner (option_map (λ k. varying k) (binary_span op i j)))
    ≡ estimate_of s (counted_found n (if is_comparison op then Ok (bit (comparison op x y)) else result_within s (binary_span op i j) (binary_word op x y)))
mixed_kept s Equal n i j x y = refl
mixed_kept s NotEqual n i j x y = refl
mixed_kept s Less n i j x y = refl
mixed_kept s LessOrEqual n i j x y = refl
mixed_kept s Greater n i j x y = refl
mixed_kept s GreaterOrEqual n i j x y = refl
mixed_kept s op n i j x y = within_kept s n (binary_span op i j) (binary_word op x y)

joined_kept : (s : Spot) (op : BinaryOp) (n : Count) (a b : Operand)
    → counted_kept n (kept_joined s op (kept_of a) (kept_of b)) ≡ estimate_of s (counted_found n (joined s op a b))
joined_kept s op n (fixed y) (fixed z) = fixed_kept s n (binary_result op y z)
joined_kept s op n (fixed y) (moving j z) = mixed_kept s op n (between y y) j _ z
joined_kept s op n (moving i y) (fixed z) = mixed_kept s op n i (between z z) y _
joined_kept s op n (moving i y) (moving j z) = mixed_kept s op n i j y z

unshifted : (s : Spot) (op : BinaryOp) (t : Spot) (n : Count) (a b : Operand) → is_shift op ≡ false
    → counted_kept n (kept_joined s op (kept_of a) (kept_of b)) ≡ estimate_of s (binary_at s op t a b n)
unshifted s op t n a b h = rw h (joined_kept s op n a b)

abbrev joined_behind : Spot → BinaryOp → KnownNumber → Result (KnownNumber × Count) RangeFault → Result (KnownNumber × Count) RangeFault
joined_behind s op a second = second >>= λ b. counted_kept b.1 (kept_joined s op a b.0)

second_operand : (s : Spot) (op : BinaryOp) (t : Spot) (n : Count) (a : Operand) (o : Result Operand RangeFault) → is_shift op ≡ false
    → joined_behind s op (kept_of a) (counted_kept n (o >>= λ b. Ok (kept_of b)))
    ≡ estimate_of s (o >>= λ b. binary_at s op t a b n)
second_operand s op t n a (Ok b) h = unshifted s op t n a b h
second_operand s op t n a (Err e) h = refl

second_judged : (s : Spot) (op : BinaryOp) (t : Spot) (a : Operand) (r : Result (Found × Count) RangeFault) → is_shift op ≡ false
    → joined_behind s op (kept_of a) (estimate_of t r)
    ≡ estimate_of s (r >>= λ g. operand t g.0 >>= λ b. binary_at s op t a b g.1)
second_judged s op t a (Ok g) h = rw (kept_is t g.0) (second_operand s op t g.1 a (operand t g.0) h)
second_judged s op t a (Err e) h = refl

first_operand : (s : Spot) (op : BinaryOp) (t : Spot) (n : Count) (o : Result Operand RangeFault) (second : Count → Result (Found × Count) RangeFault) → is_shift op ≡ false
    → (counted_kept n (o >>= λ a. Ok (kept_of a)) >>= λ a. joined_behind s op a.0 (estimate_of t (second a.1)))
    ≡ estimate_of s (o >>= λ a. second n >>= λ g. operand t g.0 >>= λ b. binary_at s op t a b g.1)
first_operand s op t n (Ok a) second h = second_judged s op t a (second n) h
first_operand s op t n (Err e) second h = refl

first_judged : (s : Spot) (op : BinaryOp) (u t : Spot) (r : Result (Found × Count) RangeFault) (second : Count → Result (Found × Count) RangeFault) → is_shift op ≡ false
    → (estimate_of u r >>= λ a. joined_behind s op a.0 (estimate_of t (second a.1)))
    ≡ estimate_of s (r >>= λ f. operand u f.0 >>= λ a. second f.1 >>= λ g. operand t g.0 >>= λ b. binary_at s op t a b g.1)
first_judged s op u t (Ok f) second h = rw (kept_is u f.0) (first_operand s op t f.1 (operand u f.0) second h)
first_judged s op u t (Err e) second h = refl

pub joined_is : (s : Sight) (ks : List KnownNumber) (p : Spot) (op : BinaryOp) (x y : Expr) (c : Count) → is_shift op ≡ false
    → joined_estimate s ks p op x y c ≡ estimate_of p (judge s ks (binary p op x y) c)
joined_is s ks p op x y c h = first_judged p op (spot_of x) (spot_of y) (judge s ks x c) (judge s ks y) h

-- ---- conditions

-- what says the same but for a word that is not kept leads to the same way
way_by-same : (x : WalkContext) (body : Result WalkState RangeFault) (found : Ways) (f : Found) (a : Operand) (n : Count) → x.is_kept ≡ false
    → way_by x body found (condition_by (kept_of a)) n ≡ way_by x body found (condition_of f a) n
way_by-same x body found f (fixed z) n h = refl
way_by-same x body found f (moving i y) n h = rw h refl

way_operand : (x : WalkContext) (body : Code) (w : WalkState) (found : Ways) (f : Found) (n : Count) (o : Result Operand RangeFault) → x.is_kept ≡ false
    → way_behind x body w found (counted_kept n (o >>= λ a. Ok (kept_of a)) >>= λ k. Ok (condition_by k.0, k.1))
    ≡ way_behind x body w found ((o >>= λ a. Ok (condition_of f a)) >>= λ d. Ok (d, n))
way_operand x body w found f n (Ok a) h = way_by-same x (walk x body (beginning w n)) found f a n h
way_operand x body w found f n (Err e) h = refl

way_judged : (x : WalkContext) (body : Code) (w : WalkState) (found : Ways) (s : Spot) (r : Result (Found × Count) RangeFault) → x.is_kept ≡ false
    → way_behind x body w found (estimate_of s r >>= λ k. Ok (condition_by k.0, k.1)) ≡ way_behind x body w found (tested_at s r)
way_judged x body w found s (Ok f) h = rw (kept_is s f.0) (way_operand x body w found f.0 f.1 (operand s f.0) h)
way_judged x body w found s (Err e) h = refl

pub way_is : (x : WalkContext) (c : Expr) (body : Code) (w : WalkState) (found : Ways) (n : Count)
    → way_behind x body w found (decided_at x.is_kept (spot_of c) (judge x.sight w.numbers c n)) ≡ way_at x c body w found n
way_is x c body w found n = elim (cases_Bool x.is_kept) [
  | inl t ↦ rw t refl
  | inr t ↦ kept_not t
]
  where
    kept_not : x.is_kept ≡ false → way_behind x body w found (decided_at x.is_kept (spot_of c) (judge x.sight w.numbers c n)) ≡ way_at x c body w found n
    kept_not t = ap (λ b. way_behind x body w found (decided_at b (spot_of c) (judge x.sight w.numbers c n))) t ∙ way_judged x body w found (spot_of c) (judge x.sight w.numbers c n) t

-- ---- assignments

unwritten : (x : WalkContext) (s : Script) (w : WalkState) → x.is_kept ≡ false → with_script x s w ≡ w
unwritten x s w h = rw h refl

abbrev stand_ok : WalkState → Result WalkState RangeFault
stand_ok w = Ok w

set_operand : (x : WalkContext) (p : Spot) (t : Target) (w : WalkState) (f : Found) (n : Count) (o : Result Operand RangeFault) → x.is_kept ≡ false → operand p f ≡ o
    → assigned x p t None f (at_count w n) ≡ (counted_kept n (o >>= λ a. Ok (kept_of a)) >>= λ k. Ok (number_set (at_count w k.1) (target_number t) k.0))
set_operand x p t w f n (Ok a) h e = rw (e, h) refl
set_operand x p t w f n (Err d) h e = rw e refl

set_judged : (x : WalkContext) (p : Spot) (t : Target) (w : WalkState) (r : Result (Found × Count) RangeFault) → x.is_kept ≡ false
    → (r >>= λ f. assigned x p t None f.0 (at_count w f.1))
    ≡ (estimate_of p r >>= λ k. Ok (number_set (at_count w k.1) (target_number t) k.0))
set_judged x p t w (Ok f) h = rw (kept_is p f.0) (set_operand x p t w f.0 f.1 (operand p f.0) h refl)
set_judged x p t w (Err e) h = refl

pub set_is : (x : WalkContext) (t : Target) (e : Expr) (w : WalkState) → x.is_kept ≡ false
    → estimate_set x (target_number t) e w ≡ given_at x t None e w
set_is x t e w h = sym (set_judged x (spot_of e) t w (judged x w e) h)

-- what an operator that is no shift gives: a number that fits, with or without a word
abbrev is_plain : Found → Bool
is_plain (known z v) = is_small z
is_plain (bit y) = true
is_plain (within i y) = true
is_plain f = false

abbrev AllPlain : Result (Found × Count) RangeFault → Type 0
AllPlain r = (p : Found × Count) → r ≡ Ok p → is_plain p.0 ≡ true

behind_plain : {A : Type 0} (r : Result A RangeFault) (k : A → Result (Found × Count) RangeFault) → ((x : A) → AllPlain (k x)) → AllPlain (r >>= k)
behind_plain (Ok x) k h = h x
behind_plain (Err e) k h = λ p q. absurd (cc)

abbrev pair_ok : Found × Count → Result (Found × Count) RangeFault
pair_ok p = Ok p

same_pair : {p q : Found × Count} → pair_ok p ≡ pair_ok q → p ≡ q
same_pair e = cc

plain_ok : (f : Found) (n : Count) → is_plain f ≡ true → AllPlain (Ok (f, n))
plain_ok f n h = λ p e. subst (λ q. is_plain q.0 ≡ true) (same_pair e) h

within_plain : (s : Spot) (n : Count) (o : Option Span) (x : Word) → AllPlain (counted_found n (result_within s o x))
within_plain s n (Some i) x = plain_ok (within i x) n refl
within_plain s n None x = λ p e. absurd (cc)

known_plain : (s : Spot) (n : Count) (z : ℤ) → AllPlain (counted_found n (result_known s z))
unfolding fit
known_plain s n z = elim (cases_Bool (is_small z)) [
  | inl t ↦ rw t (plain_ok (known z None) n t)
  | inr t ↦ rw t (λ p e. absurd (cc))
]

either_plain : (b : Bool) (r q : Result Found RangeFault) (n : Count) → AllPlain (counted_found n r) → AllPlain (counted_found n q) → AllPlain (counted_found n (if b then r else q))
either_plain true r q n h k = h
either_plain false r q n h k = k

joined_plain : (s : Spot) (op : BinaryOp) (n : Count) (a b : Operand) → AllPlain (counted_found n (joined s op a b))
joined_plain s op n (fixed y) (fixed z) = known_plain s n (binary_result op y z)
joined_plain s op n (fixed y) (moving j z) = either_plain (is_comparison op) _ _ n (plain_ok (bit _) n refl) (within_plain s n (binary_span op (between y y) j) _)
joined_plain s op n (moving i y) (fixed z) = either_plain (is_comparison op) _ _ n (plain_ok (bit _) n refl) (within_plain s n (binary_span op i (between z z)) _)
joined_plain s op n (moving i y) (moving j z) = either_plain (is_comparison op) _ _ n (plain_ok (bit _) n refl) (within_plain s n (binary_span op i j) _)

binary_plain : (s : Spot) (op : BinaryOp) (t : Spot) (n : Count) (a b : Operand) → is_shift op ≡ false → AllPlain (binary_at s op t a b n)
binary_plain s op t n a b h = rw h (joined_plain s op n a b)

judged_plain : (s : Sight) (ks : List KnownNumber) (e : Expr) (c : Count) → is_joined e ≡ true → AllPlain (judge s ks e c)
judged_plain s ks (binary p op x y) c h =
    behind_plain (judge s ks x c) _ (λ f.
    behind_plain (operand (spot_of x) f.0) _ (λ a.
    behind_plain (judge s ks y f.1) _ (λ g.
    behind_plain (operand (spot_of y) g.0) _ (λ b. binary_plain p op (spot_of y) g.1 a b (no_shift op h)))))
  where
    no_shift : (op : BinaryOp) → not (is_shift op) ≡ true → is_shift op ≡ false
    no_shift op h = elim (cases_Bool (is_shift op)) [
      | inl t ↦ absurd (let q : not true ≡ true = subst (λ b. not b ≡ true) t h in cc)
      | inr t ↦ t
    ]
judged_plain s ks e c h = absurd (cc)

put_filled : (x : WalkContext) (p : Spot) (g : Goal) (i : Span) (y : Word) (w : WalkState) → x.is_kept ≡ false
    → (put_word p.outer g y >>= λ made. Ok (with_script x made w)) ≡ filled p.outer g (varying i) w
put_filled x p g i y w h = elim (cases_Bool (nat_le g.bits.width 128)) [
  | inl t ↦ rw (t, h) refl
  | inr t ↦ rw t refl
]

plain_filled : (x : WalkContext) (p : Spot) (t : Target) (g : Goal) (f : Found) (w : WalkState) → x.is_kept ≡ false → is_plain f ≡ true
    → assigned x p t (Some g) f w ≡ (kept_found p f >>= λ k. filled p.outer g k w)
plain_filled x p t g (known z v) w h e = rw (h, e) refl
plain_filled x p t g (bit y) w h e = put_filled x p g (unsigned_span 1) _ w h
plain_filled x p t g (within i y) w h e = put_filled x p g i y w h
plain_filled x p t g f w h e = absurd (cc)

filled_counted : (x : WalkContext) (p : Spot) (t : Target) (g : Goal) (f : Found) (w : WalkState) (n : Count) (o : Result KnownNumber RangeFault) → kept_found p f ≡ o
    → assigned x p t (Some g) f (at_count w n) ≡ (o >>= λ k. filled p.outer g k (at_count w n))
    → assigned x p t (Some g) f (at_count w n) ≡ (counted_kept n o >>= λ k. filled p.outer g k.0 (at_count w k.1))
filled_counted x p t g f w n (Ok k) e q = q
filled_counted x p t g f w n (Err d) e q = q

filled_judged : (x : WalkContext) (p : Spot) (t : Target) (g : Goal) (w : WalkState) (r : Result (Found × Count) RangeFault) → x.is_kept ≡ false → AllPlain r
    → (r >>= λ f. assigned x p t (Some g) f.0 (at_count w f.1))
    ≡ (estimate_of p r >>= λ k. filled p.outer g k.0 (at_count w k.1))
filled_judged x p t g w (Ok f) h all =
    filled_counted x p t g f.0 w f.1 (kept_found p f.0) refl (plain_filled x p t g f.0 (at_count w f.1) h (all f refl))
filled_judged x p t g w (Err e) h all = refl

pub filled_is : (x : WalkContext) (t : Target) (g : Goal) (e : Expr) (w : WalkState) → x.is_kept ≡ false → is_joined e ≡ true
    → estimate_filled x g e w ≡ given_at x t (Some g) e w
filled_is x t g e w h j =
    sym (filled_judged x (spot_of e) t g w (judged x w e) h (judged_plain x.sight w.numbers e w.count j))
