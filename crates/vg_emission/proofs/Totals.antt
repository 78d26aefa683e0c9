-- Sums over units, and what plans count for them.
use Rattle.std.proofs.Common.{◌≡◌, ℕ, zero, suc, ◌+◌, ◌-◌, ◌<◌, ◌≤◌, Bool, true, false, List, [], ◌∷◌, ◌++◌, length, map, Option, Some, None, refl, sym, ap, subst, ◌∙◌, ◌⊎◌, inl, inr, arith}
use Rattle.std.specs.Prelude.{filter, nat_eq, nat_le, nat_lt, not, slice_get, sum_by, ◌==◌, ◌&&◌, ◌||◌, if◌then◌else◌}
use Rattle.std.specs.List.{flat_map, list_any}
use Rattle.std.specs.Option.{is_some}
use Rattle.std.proofs.lemmas.Bool.{cases_Bool, cond-false, cond-true, le-ltb, true≢false}
use Rattle.std.proofs.lemmas.List.Folds.{list_any-append}
use Rattle.std.proofs.lemmas.List.Sums.{sum_by-cons}
use Rattle.vg_plans.specs.World.{is_emitted, is_in, scalar_lines}
use Rattle.vg_plans.specs.World as world
use Rattle.vg_shapes.specs.declared.match_table.Match.{Match}
use Rattle.vg_shapes.specs.declared.pack.Pack.{Pack}
use Rattle.vg_shapes.specs.declared.ssa.Ssa.{Ssa}
use Rattle.vg_shapes.specs.Description.{Description}
use Rattle.vg_shapes.specs.Layout.{access_at}
use Rattle.vg_shapes.specs.Nodes.{is_packed, packed}
use Rattle.vg_shapes.specs.Order.{count_of, numbers_from, one_if}
use Rattle.vg_shapes.specs.Pack.{units_of}
use Rattle.vg_shapes.specs.Sound.{TakeEarlier}
use Rattle.vg_shapes.specs.Units.{arguments, is_unit, unit_at}
use Rattle.vg_kernel_plans.specs.Packing.{packing, used_by}
use Rattle.vg_order_laws.specs.Sequence.{in_order, put_in}
use Rattle.vg_order_laws.proofs.Sequences.{in_order-numbers}
use Rattle.vg_emission.specs.Program.{is_scalar, needed_behind}
use Rattle.vg_emission.proofs.Jobs.{get-there, unit-number}
use Rattle.vg_emission.proofs.Marks.{in-after, needed-keeps, needed-later, stands-in, units_below}
use Rattle.vg_order_laws.proofs.Plans.{found-stands}

abbrev pub total : {X : Type 0} → (X → ℕ) → List X → ℕ
total f [] = 0
total f (x ∷ xs) = f x + total f xs

pub total-sum : {X : Type 0} (f : X → ℕ) (xs : List X) → sum_by f xs ≡ total f xs
total-sum f [] = refl
total-sum f (x ∷ xs) = sum_by-cons f x xs ∙ ap (λ n. f x + n) (total-sum f xs)

pub total-append : {X : Type 0} (f : X → ℕ) (xs ys : List X) → total f (xs ++ ys) ≡ total f xs + total f ys
total-append f [] ys = omega arith
total-append f (x ∷ xs) ys = omega (arith, total-append f xs ys)

pub total-flat : {X : Type 0} (f : ℕ → ℕ) (g : X → List ℕ) (xs : List X) → total f (flat_map g xs) ≡ total (λ x. total f (g x)) xs
total-flat f g [] = refl
total-flat f g (x ∷ xs) = total-append f (g x) (flat_map g xs) ∙ ap (λ n. total f (g x) + n) (total-flat f g xs)

total-put_in : (f : ℕ → ℕ) (y : ℕ) (xs : List ℕ) → total f (put_in y xs) ≡ f y + total f xs
total-put_in f y [] = refl
total-put_in f y (x ∷ xs) =
    let Goal : List ℕ → Type 0 = λ l. total f l ≡ f y + (f x + total f xs) in
    elim (cases_Bool (nat_le y x)) [
      | inl t ↦ subst Goal (sym (cond-true (nat_le y x) (y ∷ (x ∷ xs)) (x ∷ put_in y xs) t)) refl
      | inr g ↦ subst Goal (sym (cond-false (nat_le y x) (y ∷ (x ∷ xs)) (x ∷ put_in y xs) g)) (let rest = total-put_in f y xs in omega arith)
    ]

total-in_order : (f : ℕ → ℕ) (xs : List ℕ) → total f (in_order xs) ≡ total f xs
total-in_order f [] = refl
total-in_order f (x ∷ xs) = total-put_in f x (in_order xs) ∙ ap (λ n. f x + n) (total-in_order f xs)

-- numbers that stand as often as those of a range have their sum
pub total-counted : (f : ℕ → ℕ) (xs : List ℕ) (first n : ℕ) → ((x : ℕ) → count_of x xs ≡ count_of x (numbers_from first n)) → total f xs ≡ total f (numbers_from first n)
total-counted f xs first n same = sym (total-in_order f xs) ∙ ap (total f) (in_order-numbers xs first n same)

-- ---- the units by falling and by rising number

numbers-end : (f : ℕ → ℕ) (first n : ℕ) → total f (numbers_from first (suc n)) ≡ total f (numbers_from first n) + f (first + n)
numbers-end f first zero = let here : first ≡ first + 0 = omega arith in let same = ap f here in omega arith
numbers-end f first (suc n) = let rest = numbers-end f (first + 1) n in let here : first + 1 + n ≡ first + suc n = omega arith in let same = ap f here in omega arith

some-unit : (o : Option Rattle.vg_shapes.specs.declared.ssa_unit.SsaUnit.SsaUnit) → is_some o ≡ true → (u : Rattle.vg_shapes.specs.declared.ssa_unit.SsaUnit.SsaUnit) × (o ≡ Some u)
some-unit None h = cc
some-unit (Some u) h = (u, refl)

none-below : (f : ℕ → ℕ) (ssa : Ssa) (n : ℕ) → n ≤ arguments ssa → total f (units_below ssa n) ≡ 0
none-below f ssa zero low = refl
none-below f ssa (suc n) low =
    let kept = units_below ssa n in
    elim (cases_Bool (is_unit ssa n)) [
      | inl t ↦ absurd (let u = some-unit (unit_at ssa n) t in let high = (unit-number ssa n u.0 u.1).0 in omega arith)
      | inr f' ↦ ap (total f) (cond-false (is_unit ssa n) (n ∷ kept) kept f') ∙ none-below f ssa n (omega arith)
    ]

pub unit-here : (ssa : Ssa) (n : ℕ) → n < length ssa.units → is_unit ssa (arguments ssa + n) ≡ true
unit-here ssa n low =
    let d : Rattle.vg_shapes.specs.declared.ssa_unit.SsaUnit.SsaUnit = Rattle.std.specs.Prelude.slice_index_or ssa.units n (Rattle.vg_shapes.specs.declared.ssa_unit.SsaUnit.TheVariants.Load (record { pointer = 0; offset = Rattle.std.proofs.Common.pos 0 }) Rattle.vg_base.specs.declared.width.Width.TheVariants.W8) in
    let same : arguments ssa + n - arguments ssa ≡ n = omega arith in
    ap is_some (cond-false _ _ _ (le-ltb (arguments ssa + n) (arguments ssa) (omega arith)) ∙ ap (slice_get ssa.units) same ∙ get-there ssa.units n d low)

below-total : (f : ℕ → ℕ) (ssa : Ssa) (n : ℕ) → n ≤ length ssa.units → total f (units_below ssa (arguments ssa + n)) ≡ total f (numbers_from (arguments ssa) n)
below-total f ssa zero low = let e : arguments ssa + 0 ≡ arguments ssa = omega arith in ap (λ k. total f (units_below ssa k)) e ∙ none-below f ssa (arguments ssa) (omega arith)
below-total f ssa (suc n) low =
    let e : arguments ssa + suc n ≡ suc (arguments ssa + n) = omega arith in
    let m = arguments ssa + n in
    let kept = units_below ssa m in
    ap (λ k. total f (units_below ssa k)) e
    ∙ ap (total f) (cond-true (is_unit ssa m) (m ∷ kept) kept (unit-here ssa n (omega arith)))
    ∙ ap (λ k. f m + k) (below-total f ssa n (omega arith))
    ∙ (let last = numbers-end f (arguments ssa) n in omega arith)

pub falling-total : (f : ℕ → ℕ) (ssa : Ssa) → total f (units_below ssa (arguments ssa + length ssa.units)) ≡ total f (numbers_from (arguments ssa) (length ssa.units))
falling-total f ssa = below-total f ssa (length ssa.units) (omega arith)

-- ---- what a plan counts for units

-- 1 for a unit that is emitted as a scalar, or taken out of the register of its pack
abbrev pub unit_price : Ssa → List Pack → List ℕ → ℕ → ℕ
unit_price ssa packs needed v = one_if ((not (is_packed packs v) && is_some (access_at ssa v)) || is_in v needed)

pub packed-same : (packs : List Pack) (v : ℕ) → list_any (λ p. is_in v (units_of p)) packs ≡ is_packed packs v
packed-same [] v = refl
packed-same (p ∷ packs) v = ap (λ b. is_in v (units_of p) || b) (packed-same packs v) ∙ sym (list_any-append (nat_eq v) (units_of p) (packed packs))

emitted-one : (p a c f : Bool) → (not p && (a || c)) ≡ true → (c ≡ true → f ≡ true) → one_if ((not p && a) || f) ≡ 1
emitted-one true a c f e h = absurd (true≢false (sym e))
emitted-one false true c f e h = refl
emitted-one false false true f e h = ap one_if (h refl)
emitted-one false false false f e h = absurd (true≢false (sym e))

left-out : (p a c f : Bool) (x : ℕ) → (not p && (a || c)) ≡ false → f ≡ c → (if p && c then 1 + x else x) ≡ one_if ((not p && a) || f) + x
left-out true a true f x e h = let one = ap one_if h in omega arith
left-out true a false f x e h = let one = ap one_if h in omega arith
left-out false true c f x e h = absurd (true≢false e)
left-out false false true f x e h = absurd (true≢false e)
left-out false false false f x e h = let one = ap one_if h in omega arith

same-bools : (a b : Bool) → (a ≡ true → b ≡ true) → (b ≡ true → a ≡ true) → a ≡ b
same-bools true true f g = refl
same-bools true false f g = sym (f refl)
same-bools false true f g = g refl
same-bools false false f g = refl

pub scalars-total : (ds : List Description) (matches : List Match) (ssa : Ssa) (deps : List (ℕ × ℕ)) (packs : List Pack) (n : ℕ) (needed : List ℕ) → TakeEarlier (arguments ssa) ssa.units
    → scalar_lines (packing ds matches ssa deps) packs needed (units_below ssa n) ≡ total (unit_price ssa packs (needed_behind ssa packs needed (units_below ssa n))) (units_below ssa n)
scalars-total ds matches ssa deps packs zero needed early = refl
scalars-total ds matches ssa deps packs (suc m) needed early =
    let w = packing ds matches ssa deps in
    let kept = units_below ssa m in
    let own = used_by (unit_at ssa m) in
    let p = is_packed packs m in
    let a = is_some (access_at ssa m) in
    let c = is_in m needed in
    let Goal : List ℕ → Type 0 = λ l. scalar_lines w packs needed l ≡ total (unit_price ssa packs (needed_behind ssa packs needed l)) l in
    let same : is_emitted w packs needed m ≡ is_scalar ssa packs needed m = ap (λ b. not b && (a || c)) (packed-same packs m) in
    let taken : (world.is_packed w packs m && c) ≡ (p && c) = ap (λ b. b && c) (packed-same packs m) in
    elim (cases_Bool (is_unit ssa m)) [
      | inr f ↦ subst Goal (sym (cond-false (is_unit ssa m) (m ∷ kept) kept f)) (scalars-total ds matches ssa deps packs m needed early)
      | inl t ↦ subst Goal (sym (cond-true (is_unit ssa m) (m ∷ kept) kept t))
          (elim (cases_Bool (is_scalar ssa packs needed m)) [
            | inl s ↦
                let more = own ++ needed in
                let last = needed_behind ssa packs more kept in
                let Count : List ℕ → Type 0 = λ l. 1 + scalar_lines w packs more kept ≡ unit_price ssa packs (needed_behind ssa packs l kept) m + total (unit_price ssa packs (needed_behind ssa packs l kept)) kept in
                let one : unit_price ssa packs last m ≡ 1 = emitted-one p a c (is_in m last) s (λ h. stands-in m last (needed-keeps ssa packs more kept m (in-after m own needed (found-stands m needed h)))) in
                let rest = scalars-total ds matches ssa deps packs m more early in
                let now : 1 + scalar_lines w packs more kept ≡ unit_price ssa packs last m + total (unit_price ssa packs last) kept = omega arith in
                cond-true (is_emitted w packs needed m) (1 + scalar_lines w packs more kept) _ (same ∙ s) ∙ subst Count (sym (cond-true (is_scalar ssa packs needed m) more needed s)) now
            | inr s ↦
                let last = needed_behind ssa packs needed kept in
                let Count : List ℕ → Type 0 = λ l. (if p && c then 1 + scalar_lines w packs needed kept else scalar_lines w packs needed kept) ≡ unit_price ssa packs (needed_behind ssa packs l kept) m + total (unit_price ssa packs (needed_behind ssa packs l kept)) kept in
                let stays : is_in m last ≡ c = same-bools (is_in m last) c
                (λ h. stands-in m needed (needed-later ssa packs m needed m early (omega arith) (found-stands m last h)))
                (λ h. stands-in m last (needed-keeps ssa packs needed kept m (found-stands m needed h))) in
                let rest = scalars-total ds matches ssa deps packs m needed early in
                let now : (if p && c then 1 + scalar_lines w packs needed kept else scalar_lines w packs needed kept) ≡ unit_price ssa packs last m + total (unit_price ssa packs last) kept =
                left-out p a c (is_in m last) (scalar_lines w packs needed kept) s stays ∙ ap (λ k. unit_price ssa packs last m + k) rest in
                cond-false (is_emitted w packs needed m) _ _ (same ∙ s) ∙ ap (λ b. if b then 1 + scalar_lines w packs needed kept else scalar_lines w packs needed kept) taken
                ∙ subst Count (sym (cond-false (is_scalar ssa packs needed m) (own ++ needed) needed s)) now
          ])
    ]
