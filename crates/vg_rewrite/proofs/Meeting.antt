-- How far behind an access the first one stands that may meet it.
use Rattle.std.proofs.Common.{◌≡◌, ℕ, zero, suc, ◌+◌, ◌-◌, ◌<◌, ◌≤◌, Bool, false, List, [], ◌∷◌, length, get_or, take, Option, Some, None, refl, sym, ◌∙◌, ap, inl, inr, arith}
use Rattle.std.specs.Prelude.{◌||◌, not, nat_lt, slice_get}
use Rattle.std.specs.List.{list_any, prefix_len, take_while}
use Rattle.std.proofs.lemmas.Bool.{cases_Bool, cases_lt, cond-false, cond-true, le-ltb, lt-ltb}
use Rattle.std.proofs.lemmas.List.{get_or_past}
use Rattle.std.proofs.lemmas.List.Folds.{length-prefix_len}
use Rattle.vg_base.specs.Trap.{◌>>=◌}
use Rattle.vg_rewrite.specs.Meetings.{reaches_from, reaches_of, units_apart}
use Rattle.vg_rewrite.specs.Marks.{numbers}
use Rattle.vg_rewrite.specs.Repeated.{meets_between}
use Rattle.vg_shapes.specs.declared.access.Access.{Access}
use Rattle.vg_shapes.specs.declared.ssa.Ssa.{Ssa}
use Rattle.vg_shapes.specs.declared.ssa_unit.SsaUnit.{SsaUnit}
use Rattle.vg_shapes.specs.Depends.{conflict_at, conflict_of}
use Rattle.vg_shapes.specs.Layout.{access_at, access_of, noalias_flags}
use Rattle.vg_shapes.specs.Order.{numbers_from}
use Rattle.vg_shapes.specs.Units.{arguments, unit_at}

-- ---- lists

pub counted : {X : Type 0} (p : X → Bool) (xs : List X) → length (take_while p xs) ≡ prefix_len p xs
counted p xs = length-prefix_len p xs

lt-suc : (a b : ℕ) → nat_lt (1 + a) (suc b) ≡ nat_lt a b
lt-suc a b = elim (cases_lt a b) [
  | inl l ↦ lt-ltb (1 + a) (suc b) (omega arith) ∙ sym (lt-ltb a b l)
  | inr g ↦ le-ltb (1 + a) (suc b) (omega arith) ∙ sym (le-ltb a b g)
]

-- some of the first elements passes exactly where fewer before it fail
any-prefix : {X : Type 0} (p : X → Bool) (xs : List X) (k : ℕ) → k ≤ length xs → list_any p (take k xs) ≡ nat_lt (prefix_len (λ x. not (p x)) xs) k
any-prefix p [] zero l = sym (le-ltb 0 0 (omega arith))
any-prefix p (x ∷ xs) zero l = sym (le-ltb (prefix_len (λ y. not (p y)) (x ∷ xs)) 0 (omega arith))
any-prefix p [] (suc k) l = absurd (omega arith)
any-prefix p (x ∷ xs) (suc k) l = elim (cases_Bool (p x)) [
  | inl e ↦
      let none : prefix_len (λ y. not (p y)) (x ∷ xs) ≡ 0 = cond-false (not (p x)) _ _ (ap not e) in
      ap (λ b. b || list_any p (take k xs)) e ∙ sym (ap (λ n. nat_lt n (suc k)) none ∙ lt-ltb 0 (suc k) (omega arith))
  | inr e ↦
      let one : prefix_len (λ y. not (p y)) (x ∷ xs) ≡ 1 + prefix_len (λ y. not (p y)) xs = cond-true (not (p x)) _ _ (ap not e) in
      ap (λ b. b || list_any p (take k xs)) e ∙ any-prefix p xs k (omega arith) ∙ sym (ap (λ n. nat_lt n (suc k)) one ∙ lt-suc (prefix_len (λ y. not (p y)) xs) k)
]

none-any : {X : Type 0} (p : X → Bool) (xs : List X) → ((x : X) → p x ≡ false) → list_any p xs ≡ false
none-any p [] h = refl
none-any p (x ∷ xs) h = ap (λ b. b || list_any p xs) (h x) ∙ none-any p xs h

-- ---- units

module _ (flags : List Bool) (f : ℕ → Option SsaUnit) where
  abbrev meets : Option Access → ℕ → Bool
  meets x s = conflict_of flags x (f s >>= access_of)

  -- the units from a number on
  abbrev Are : ℕ → List SsaUnit → Type 0
  Are n us = (m : ℕ) → slice_get us m ≡ f (n + m)

  behind : (n : ℕ) (u : SsaUnit) (us : List SsaUnit) → Are n (u ∷ us) → Are (n + 1) us
  behind n u us h m = h (suc m) ∙ ap f (let e : n + suc m ≡ n + 1 + m = omega arith in e)

  any-units : (x : Option Access) (n : ℕ) (us : List SsaUnit) (k : ℕ) → Are n us → k ≤ length us → list_any (meets x) (numbers_from n k) ≡ list_any (λ u. conflict_of flags x (access_of u)) (take k us)
  any-units x n [] zero h l = refl
  any-units x n (u ∷ us) zero h l = refl
  any-units x n [] (suc k) h l = absurd (omega arith)
  any-units x n (u ∷ us) (suc k) h l =
      let here : f n ≡ Some u = ap f (let e : n ≡ n + 0 = omega arith in e) ∙ sym (h 0) in
      λ i. conflict_of flags x (here i >>= access_of) || any-units x (n + 1) us k (behind n u us h) (omega arith) i

  apart-row : (x : Option Access) (n user : ℕ) (us : List SsaUnit) → Are (n + 1) us → n < user → user ≤ n + 1 + length us
      → list_any (meets x) (numbers_from (n + 1) (user - (n + 1))) ≡ nat_lt (units_apart flags x us) (user - (n + 1))
  apart-row None n user us h low l =
      none-any (meets None) (numbers_from (n + 1) (user - (n + 1))) (λ s. refl) ∙ sym (le-ltb (length us) (user - (n + 1)) (omega arith))
  apart-row (Some x) n user us h low l =
      let p = λ (u : SsaUnit). conflict_of flags (Some x) (access_of u) in
      let k = user - (n + 1) in
      any-units (Some x) (n + 1) us k h (omega arith) ∙ any-prefix p us k (omega arith)

  -- the same of a unit and those behind it
  reach-row : (n i user d : ℕ) (us : List SsaUnit) → Are n us → i < length us → user ≤ n + length us
      → list_any (meets (f (n + i) >>= access_of)) (numbers_from (n + i + 1) (user - (n + i + 1))) ≡ nat_lt (get_or (reaches_from flags us) i d) (user - (n + i + 1))
  reach-row n i user d [] h l e = absurd (omega arith)
  reach-row n zero user d (u ∷ us) h l e =
      let end : n + 0 ≡ n = omega arith in
      let here : (f (n + 0) >>= access_of) ≡ access_of u = ap (λ o. o >>= access_of) (sym (h 0)) in
      elim (cases_lt n user) [
        | inl a ↦
            (λ i. list_any (meets (here i)) (numbers_from (end i + 1) (user - (end i + 1))))
            ∙ apart-row (access_of u) n user us (behind n u us h) a (omega arith)
            ∙ ap (λ m. nat_lt (units_apart flags (access_of u) us) (user - (m + 1))) (sym end)
        | inr a ↦
            let none : user - (n + 0 + 1) ≡ 0 = omega arith in
            ap (λ k. list_any (meets (f (n + 0) >>= access_of)) (numbers_from (n + 0 + 1) k)) none
            ∙ sym (ap (nat_lt (units_apart flags (access_of u) us)) none ∙ le-ltb (units_apart flags (access_of u) us) 0 (omega arith))
      ]
  reach-row n (suc i) user d (u ∷ us) h l e =
      let past : n + suc i ≡ n + 1 + i = omega arith in
      (λ j. list_any (meets (f (past j) >>= access_of)) (numbers_from (past j + 1) (user - (past j + 1))))
      ∙ reach-row (n + 1) i user d us (behind n u us h) (omega arith) (omega arith)
      ∙ ap (λ m. nat_lt (get_or (reaches_from flags us) i d) (user - (m + 1))) (sym past)

pub reaches-long : (flags : List Bool) (us : List SsaUnit) → length (reaches_from flags us) ≡ length us
reaches-long flags [] = refl
reaches-long flags (u ∷ us) = ap suc (reaches-long flags us)

-- ---- numbers

unit-behind : (ssa : Ssa) (k : ℕ) → slice_get ssa.units k ≡ unit_at ssa (arguments ssa + k)
unit-behind ssa k =
    sym (cond-false _ _ _ (le-ltb (arguments ssa + k) (arguments ssa) (omega arith))
    ∙ ap (slice_get ssa.units) (let e : arguments ssa + k - arguments ssa ≡ k = omega arith in e))

meets-reach : (ssa : Ssa) (load user d : ℕ) → arguments ssa ≤ load → load < numbers ssa → user ≤ numbers ssa
    → meets_between ssa load user ≡ nat_lt (get_or (reaches_of ssa) (load - arguments ssa) d) (user - (load + 1))
meets-reach ssa load user d first inside few =
    let i = load - arguments ssa in
    let here : arguments ssa + i ≡ load = omega arith in
    ap (λ n. list_any (conflict_at ssa n) (numbers_from (n + 1) (user - (n + 1)))) (sym here)
    ∙ reach-row (noalias_flags ssa) (unit_at ssa) (arguments ssa) i user d ssa.units (unit-behind ssa) (omega arith) few
    ∙ ap (λ n. nat_lt (get_or (reaches_of ssa) i d) (user - (n + 1))) here

-- what is no unit meets nothing
no-access : (ssa : Ssa) (load : ℕ) (ns : List ℕ) → unit_at ssa load ≡ None → list_any (conflict_at ssa load) ns ≡ false
no-access ssa load ns e = none-any (conflict_at ssa load) ns (λ s. ap (λ o. conflict_of (noalias_flags ssa) (o >>= access_of) (access_at ssa s)) e)

pub meets-argument : (ssa : Ssa) (load user : ℕ) → load < arguments ssa → meets_between ssa load user ≡ false
meets-argument ssa load user l = no-access ssa load (numbers_from (load + 1) (user - (load + 1))) (cond-true _ _ _ (lt-ltb load (arguments ssa) l))

past-end : (us : List SsaUnit) (k : ℕ) → length us ≤ k → slice_get us k ≡ None
past-end [] k l = refl
past-end (u ∷ us) zero l = absurd (omega arith)
past-end (u ∷ us) (suc k) l = past-end us k (omega arith)

meets-past : (ssa : Ssa) (load user : ℕ) → numbers ssa ≤ load → meets_between ssa load user ≡ false
meets-past ssa load user l =
    no-access ssa load (numbers_from (load + 1) (user - (load + 1)))
    (cond-false _ _ _ (le-ltb load (arguments ssa) (omega arith)) ∙ past-end ssa.units (load - arguments ssa) (omega arith))

pub meets-found : (ssa : Ssa) (reaches : List ℕ) (load user d : ℕ) → reaches ≡ reaches_of ssa → arguments ssa ≤ load → user ≤ numbers ssa → user ≤ d
    → nat_lt (get_or reaches (load - arguments ssa) d) (user - (load + 1)) ≡ meets_between ssa load user
meets-found ssa reaches load user d e first few most =
    let i = load - arguments ssa in
    let long = reaches-long (noalias_flags ssa) ssa.units in
    ap (λ l. nat_lt (get_or l i d) (user - (load + 1))) e
    ∙ (elim (cases_lt load (numbers ssa)) [
      | inl l ↦ sym (meets-reach ssa load user d first l few)
      | inr g ↦
          ap (λ n. nat_lt n (user - (load + 1))) (get_or_past (reaches_of ssa) i d (omega arith)) ∙ le-ltb d (user - (load + 1)) (omega arith) ∙ sym (meets-past ssa load user g)
    ])
