-- Constant expressions by their numbers.
use Rattle.std.proofs.Common.{◌≡◌, ℕ, refl, sym, ap, ◌∙◌, subst, Bool, true, false, List, inl, inr}
use Rattle.std.proofs.lemmas.Bool.{cases_Bool}
use Rattle.std.specs.Prelude.{ℤ, pos, negsuc, int_lt, IfSome, get_or, if◌then◌else◌, Option, Some, None, Result, Ok, Err}
use Rattle.std.specs.Option.{option_map}
use Rattle.vg_base.specs.Bind.{◌>>=◌}
use Rattle.vg_base.specs.Gives.{FailsBy}
use Rattle.vg_text.specs.declared.place.Place.{Place}
use Rattle.vg_pseudo.specs.declared.spot.Spot.{Spot}
use Rattle.vg_pseudo.specs.declared.operators.BinaryOp.{BinaryOp}
use Rattle.vg_pseudo.specs.declared.operators.BinaryOp.TheVariants.{ShiftRight}
use Rattle.vg_pseudo.specs.Resolved.{Expr, literal, counter, variable, binary, slice, element, front, Target}
use Rattle.vg_pseudo.specs.Whole.{binary_result}
use Rattle.vg_interval.specs.declared.fault.RangeFault.{RangeFault}
use Rattle.vg_interval.specs.declared.fault.RangeFault.TheVariants.{TooWide}
use Rattle.vg_interval.specs.Interval.{fit, is_small, slice_span, unsigned_span}
use Rattle.vg_interval.specs.declared.span.Span.{Span}
use Rattle.vg_interval.specs.Found.{Found, known, read, handed, bit, within, wide, loose, fixed, operand, or_too_wide}
use Rattle.vg_interval.specs.Judge.{Sight, KnownNumber, constant, varying, Count, Bits, settled, index_of, bits_of_element, slice_found, variable_found, slice_at, element_at, is_shift, result_known, binary_at, judge, spot_of}
use Rattle.vg_interval.specs.Views.{always, condition_at, seen}
use Rattle.vg_range.specs.Estimates.{estimate_of, decided_at, estimate_set, given_at, kept_found}
use Rattle.vg_range.specs.Folding.{IsElement, IsKnown, IsNumber, Makes, number_in}
use Rattle.vg_range.specs.Seen.{number_set}
use Rattle.vg_range.specs.Walk.{WalkContext, Goal, WalkState, at_count, assigned, constant_at, constant_index, judged}
use Rattle.vg_range.proofs.Lists.{seen_slice}

-- what is told of a number that fits
if_small : (P : ℤ → Type 0) (z : ℤ) → (is_small z ≡ true → P z) → IfSome (fit z) P
unfolding fit
if_small P z f = elim (cases_Bool (is_small z)) [
  | inl t ↦ rw t (f t)
  | inr t ↦ rw t tt
]

small_known : (z : ℤ) (w : Option ℕ) → is_small z ≡ true → IsKnown z (known z w)
small_known z w h = λ s. rw h refl

pub fit_known : (z : ℤ) (w : Option ℕ) → IfSome (fit z) (λ y. IsKnown y (known z w))
fit_known z w = if_small (λ y. IsKnown y (known z w)) z (small_known z w)

pub number_in_is : (f : Found) → IfSome (number_in f) (λ z. IsKnown z f)
number_in_is (known z w) = fit_known z w
number_in_is (read g r l w) = tt
number_in_is (handed f r l w) = tt
number_in_is (bit x) = tt
number_in_is (within i x) = tt
number_in_is (wide x) = tt
number_in_is (loose x) = tt

-- what an operator makes of two constants
made_small : (s : Spot) (c : Count) (z : ℤ) → is_small z ≡ true
    → estimate_of s (result_known s z >>= λ f. Ok (f, c)) ≡ Ok (constant z, c)
unfolding fit
made_small s c z h = rw (h, h) refl

pub right_made : (y z : ℤ) → int_lt z (pos 0) ≡ false
    → IfSome (fit (binary_result ShiftRight y z)) (λ x. Makes ShiftRight y z x)
right_made y (pos n) h =
    if_small (λ x. Makes ShiftRight y (pos n) x) (binary_result ShiftRight y (pos n)) (λ t s u c. made_small s c (binary_result ShiftRight y (pos n)) t)
right_made y (negsuc n) h = absurd (cc)

pub joined_made : (op : BinaryOp) (y z : ℤ) → is_shift op ≡ false
    → IfSome (fit (binary_result op y z)) (λ x. Makes op y z x)
joined_made op y z h =
    if_small (λ x. Makes op y z x) (binary_result op y z) (λ t s u c. rw h (made_small s c (binary_result op y z) t))

-- a constant is one however it is used
abbrev number_kept : Result (KnownNumber × Count) RangeFault → ℤ
number_kept (Ok (constant y, n)) = y
number_kept (Ok (varying i, n)) = pos 0
number_kept (Err e) = pos 0

abbrev count_kept : Count → Result (KnownNumber × Count) RangeFault → Count
count_kept c (Ok k) = k.1
count_kept c (Err e) = c

-- what is kept of a number and its counts, by whether it is small
abbrev kept_if : Spot → ℤ → Count → Bool → Result (KnownNumber × Count) RangeFault
kept_if s y n b = (if b then Ok (constant y) else Err (TooWide s.outer)) >>= λ k. Ok (k, n)

kept_small : (s : Spot) (y z : ℤ) (n c : Count) (b : Bool) → kept_if s y n b ≡ Ok (constant z, c) → b ≡ true
kept_small s y z n c true h = refl
kept_small s y z n c false h = absurd (cc)

kept_number : (s : Spot) (y z : ℤ) (n c : Count) (b : Bool) → kept_if s y n b ≡ Ok (constant z, c) → y ≡ z
kept_number s y z n c true h = ap number_kept h
kept_number s y z n c false h = absurd (cc)

kept_count : (s : Spot) (y z : ℤ) (n c : Count) (b : Bool) → kept_if s y n b ≡ Ok (constant z, c) → n ≡ c
kept_count s y z n c true h = ap (count_kept n) h
kept_count s y z n c false h = absurd (cc)

abbrev is_constant_kept : Result (KnownNumber × Count) RangeFault → Bool
is_constant_kept (Ok (constant y, n)) = true
is_constant_kept (Ok (varying i, n)) = false
is_constant_kept (Err e) = false

-- what moves is no constant
abbrev moved : Place → Option Span → Count → Result (KnownNumber × Count) RangeFault
moved p o n = or_too_wide p (option_map (λ i. varying i) o) >>= λ k. Ok (k, n)

moves : (p : Place) (o : Option Span) (z : ℤ) (n c : Count) → moved p o n ≡ Ok (constant z, c) → ⊥
moves p (Some i) z n c h = let q : false ≡ true = ap is_constant_kept h in cc
moves p None z n c h = cc

used : {X : Type 0} (s : Spot) (next : Found → Count → Result X RangeFault) (z : ℤ) (c : Count) (r : Result (Found × Count) RangeFault)
    → ((v : Option ℕ) → is_small z ≡ true → next (known z v) c ≡ next (known z None) c)
    → estimate_of s r ≡ Ok (constant z, c) → (r >>= λ f. next f.0 f.1) ≡ next (known z None) c
used s next z c (Err e) same h = absurd (cc)
used s next z c (Ok (known y v, n)) same h =
    let at : y ≡ z = kept_number s y z n c (is_small y) h in
    let counts : n ≡ c = kept_count s y z n c (is_small y) h in
    let small : is_small z ≡ true = subst (λ x. is_small x ≡ true) at (kept_small s y z n c (is_small y) h) in
    rw (at, counts) (same v small)
used s next z c (Ok (read g r l w, n)) same h = absurd (moves s.outer (slice_span g w) z n c h)
used s next z c (Ok (handed f r l w, n)) same h = absurd (moves s.outer (slice_span false w) z n c h)
used s next z c (Ok (bit x, n)) same h = absurd (moves s.outer (Some (unsigned_span 1)) z n c h)
used s next z c (Ok (within i x, n)) same h = absurd (moves s.outer (Some i) z n c h)
used s next z c (Ok (wide x, n)) same h = absurd (cc)
used s next z c (Ok (loose x, n)) same h = absurd (cc)

-- what is told to be a constant is small
small_if : (s : Spot) (r : Result (Found × Count) RangeFault) (z : ℤ) (c : Count) → estimate_of s r ≡ Ok (constant z, c) → is_small z ≡ true
small_if s (Err e) z c h = absurd (cc)
small_if s (Ok (known y v, n)) z c h =
    subst (λ x. is_small x ≡ true) (kept_number s y z n c (is_small y) h) (kept_small s y z n c (is_small y) h)
small_if s (Ok (read g r l w, n)) z c h = absurd (moves s.outer (slice_span g w) z n c h)
small_if s (Ok (handed f r l w, n)) z c h = absurd (moves s.outer (slice_span false w) z n c h)
small_if s (Ok (bit x, n)) z c h = absurd (moves s.outer (Some (unsigned_span 1)) z n c h)
small_if s (Ok (within i x, n)) z c h = absurd (moves s.outer (Some i) z n c h)
small_if s (Ok (wide x, n)) z c h = absurd (cc)
small_if s (Ok (loose x, n)) z c h = absurd (cc)

pub settled_at : (x : WalkContext) (w : WalkState) (e : Expr) (z : ℤ) → IsNumber x.sight w.numbers e z
    → constant_at x w e ≡ Ok (z, w)
settled_at x w e z h =
    used (spot_of e) (λ f n. index_of (spot_of e) f >>= λ i. constant_index (spot_of e).outer i >>= λ y. Ok (y, at_count w n))
    z w.count (judged x w e) (λ v t. refl) (h w.count)

pub element_is : (s : Sight) (ks : List KnownNumber) (p : Spot) (g : Bool) (r size : ℕ) (k : Expr) (z : ℤ) (c : Count) → IsNumber s ks k z
    → element_at s p.inner g r size (settled z) c ≡ judge s ks (element p g r size k) c
element_is s ks p g r size k z c h =
    sym (used (spot_of k) (λ f n. index_of (spot_of k) f >>= λ i. element_at s p.inner g r size i n) z c (judge s ks k c) (λ v t. refl) (h c))

pub slice_is : (s : Sight) (ks : List KnownNumber) (p : Spot) (g : Bool) (r : ℕ) (n : Option ℕ) (h l : Expr) (y z : ℤ) (c : Count)
    → IsNumber s ks h y → IsNumber s ks l z
    → slice_at s p.inner g r n (settled y) (settled z) c ≡ judge s ks (slice p g r n h l) c
slice_is s ks p g r n h l y z c f k = sym (first ∙ second)
  where
    after : Found → Count → Result (Found × Count) RangeFault
    after u m = index_of (spot_of h) u >>= λ high. judge s ks l m >>= λ v. index_of (spot_of l) v.0 >>= λ low. slice_at s p.inner g r n high low v.1

    first : judge s ks (slice p g r n h l) c ≡ after (known y None) c
    first = used (spot_of h) after y c (judge s ks h c) (λ v t. refl) (f c)

    second : after (known y None) c ≡ slice_at s p.inner g r n (settled y) (settled z) c
    second = used (spot_of l) (λ v m. index_of (spot_of l) v >>= λ low. slice_at s p.inner g r n (settled y) low m) z c (judge s ks l c) (λ v t. refl) (k c)

assigned_same : (x : WalkContext) (s : Spot) (t : Target) (g : Option Goal) (z : ℤ) (v : Option ℕ) (w : WalkState)
    → assigned x s t g (known z v) w ≡ assigned x s t g (known z None) w
assigned_same x s t None z v w = refl
assigned_same x s t (Some g) z v w = refl

pub given_is : (x : WalkContext) (t : Target) (g : Option Goal) (e : Expr) (w : WalkState) (z : ℤ) → IsNumber x.sight w.numbers e z
    → assigned x (spot_of e) t g (known z None) w ≡ given_at x t g e w
given_is x t g e w z h =
    sym (used (spot_of e) (λ f n. assigned x (spot_of e) t g f (at_count w n)) z w.count (judged x w e)
    (λ v u. assigned_same x (spot_of e) t g z v w) (h w.count))

pub number_is : (x : WalkContext) (k : ℕ) (e : Expr) (w : WalkState) (z : ℤ) → IsNumber x.sight w.numbers e z
    → estimate_set x k e w ≡ Ok (number_set w k (constant z))
number_is x k e w z h = rw (h w.count) refl

-- the parts of an expression
some_of : (P Q : ℤ → Type 0) (o : Option ℤ) → ((z : ℤ) → P z → Q z) → IfSome o P → IfSome o Q
some_of P Q (Some z) f h = f z h
some_of P Q None f h = tt

pub literal_is : (s : Sight) (ks : List KnownNumber) (p : Spot) (n : ℕ) → IfSome (fit (pos n)) (IsNumber s ks (literal p n))
literal_is s ks p n = if_small (IsNumber s ks (literal p n)) (pos n) (λ t c. rw t refl)

pub counter_is : (s : Sight) (ks : List KnownNumber) (p : Spot) (k : ℕ) (o : Option ℤ)
    → IfSome o (λ z. IsKnown z (known (get_or s.turns k (pos 0)) None)) → IfSome o (IsNumber s ks (counter p k))
counter_is s ks p k o h = some_of (λ z. IsKnown z (known (get_or s.turns k (pos 0)) None)) (IsNumber s ks (counter p k)) o (λ z e c. rw (e p) refl) h

pub variable_is : (s : Sight) (ks : List KnownNumber) (p : Spot) (k : ℕ) (o : Option ℤ)
    → IfSome o (λ z. IsKnown z (variable_found k (get_or ks k (constant (pos 0))))) → IfSome o (IsNumber s ks (variable p k))
variable_is s ks p k o h =
    some_of (λ z. IsKnown z (variable_found k (get_or ks k (constant (pos 0))))) (IsNumber s ks (variable p k)) o (λ z e c. rw (e p) refl) h

pub front_is : (s : Sight) (ks : List KnownNumber) (p : Spot) (g : Bool) (r size : ℕ) (o : Option ℤ)
    → IfSome o (IsElement s p g r size (pos 0)) → IfSome o (IsNumber s ks (front p g r size))
front_is s ks p g r size o h = some_of (IsElement s p g r size (pos 0)) (IsNumber s ks (front p g r size)) o (λ z e c. e c) h

pub part_is : (s : Sight) (ks : List KnownNumber) (p : Spot) (g : Bool) (r size : ℕ) (k : Expr) (z : ℤ) (o : Option ℤ) → IsNumber s ks k z
    → IfSome o (IsElement s p g r size z) → IfSome o (IsNumber s ks (element p g r size k))
part_is s ks p g r size k z o n h =
    some_of (IsElement s p g r size z) (IsNumber s ks (element p g r size k)) o
    (λ y e c. ap (estimate_of p) (sym (element_is s ks p g r size k z c n)) ∙ e c) h

pub bits_are : (s : Sight) (p : Spot) (g : Bool) (r size : ℕ) (k : ℤ) (b : Bits) (o : Option ℤ)
    → bits_of_element p.inner (get_or s.widths r 0) size k ≡ Ok b
    → IfSome o (λ z. IsKnown z (slice_found g (get_or s.constants r None) r b)) → IfSome o (IsElement s p g r size k)
bits_are s p g r size k b o e h =
    some_of (λ z. IsKnown z (slice_found g (get_or s.constants r None) r b)) (IsElement s p g r size k) o (λ z n c. rw (e, n p) refl) h

pub both_is : (s : Sight) (ks : List KnownNumber) (p : Spot) (op : BinaryOp) (x y : Expr) (a b : ℤ) (o : Option ℤ)
    → IsNumber s ks x a → IsNumber s ks y b → IfSome o (Makes op a b) → IfSome o (IsNumber s ks (binary p op x y))
both_is s ks p op x y a b o f g h = some_of (Makes op a b) (IsNumber s ks (binary p op x y)) o (λ z e c. ap (estimate_of p) (first c ∙ second c) ∙ e p (spot_of y) c) h
  where
    after : Found → Count → Result (Found × Count) RangeFault
    after u n = operand (spot_of x) u >>= λ v. judge s ks y n >>= λ w. operand (spot_of y) w.0 >>= λ t. binary_at p op (spot_of y) v t w.1

    first : (c : Count) → judge s ks (binary p op x y) c ≡ after (known a None) c
    first c = used (spot_of x) after a c (judge s ks x c) (λ v t. refl) (f c)

    small_of : (e : Expr) (z : ℤ) (c : Count) → estimate_of (spot_of e) (judge s ks e c) ≡ Ok (constant z, c) → is_small z ≡ true
    small_of e z c h = small_if (spot_of e) (judge s ks e c) z c h

    second : (c : Count) → after (known a None) c ≡ binary_at p op (spot_of y) (fixed a) (fixed b) c
    second c = rw (small_of x a c (f c)) (used (spot_of y) (λ w n. operand (spot_of y) w >>= λ t. binary_at p op (spot_of y) (fixed a) t n) b c (judge s ks y c) (λ v t. refl) (g c) ∙ rw (small_of y b c (g c)) refl)

pub decided_is : (s : Sight) (ks : List KnownNumber) (e : Expr) (z : ℤ) (c : Count) (kept : Bool) → IsNumber s ks e z
    → decided_at kept (spot_of e) (judge s ks e c) ≡ Ok (always z, c)
decided_is s ks e z c true h =
    used (spot_of e) (λ f n. condition_at (spot_of e) f >>= λ d. Ok (d, n)) z c (judge s ks e c) (λ v t. refl) (h c)
    ∙ rw (small_if (spot_of e) (judge s ks e c) z c (h c)) refl
decided_is s ks e z c false h = rw (h c) refl

-- what the slice by two constants fails by, where what is known of it is no operand
pub slice_fails : (s : Sight) (p : Spot) (g : Bool) (r : ℕ) (n : Option ℕ) (h l y z : ℤ) (c m : Count) (f : Found) (fault : Option RangeFault)
    → h ≡ y → l ≡ z → slice_at (seen s.widths s.constants) p.inner g r n (settled h) (settled l) c ≡ Ok (f, m)
    → FailsBy fault (kept_found p f) → FailsBy fault (estimate_of p (slice_at s p.inner g r n (settled y) (settled z) c))
slice_fails s p g r n h l y z c m f None eh el e k = tt
slice_fails s p g r n h l y z c m f (Some x) eh el e k = ap (estimate_of p) same ∙ rw k refl
  where
    same : slice_at s p.inner g r n (settled y) (settled z) c ≡ Ok (f, m)
    same =
        subst (λ v. slice_at s p.inner g r n (settled v) (settled z) c ≡ Ok (f, m)) eh
        (subst (λ v. slice_at s p.inner g r n (settled h) (settled v) c ≡ Ok (f, m)) el
        (sym (seen_slice s p.inner g r n (settled h) (settled l) c) ∙ e))
