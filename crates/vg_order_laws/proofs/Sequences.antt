-- Where each step commutes with each lesser one after it, the steps do what they do in rising order; and
-- a list with the numbers of a rising one, each as often, is that one in order.
use Rattle.std.proofs.Common.{◌≡◌, ◌≢◌, ℕ, zero, suc, ◌+◌, ◌<◌, ◌≤◌, Bool, true, false, List, [], ◌∷◌, ◌++◌, length, Option, Some, None, refl, sym, ap, subst, ◌∙◌, arith, inl, inr}
use Rattle.std.specs.Prelude.{nat_le, ◌==◌}
use Rattle.std.specs.List.{AllByRecursion}
use Rattle.std.proofs.lemmas.Bool.{cases_Bool, cond-true, cond-false, leb-true, leb-false, eq-eqb, eqb-true}
use Rattle.vg_base.specs.Trap.{◌>>=◌}
use Rattle.vg_shapes.specs.Order.{one_if, count_of, Stands, numbers_from}
use Rattle.vg_order_laws.specs.Sequence.{run_steps, Commute, put_in, in_order, MayBeSorted}

pub bind_same : {A B : Type 0} (o : Option A) (f g : A → Option B) → ((x : A) → f x ≡ g x) → (o >>= f) ≡ (o >>= g)
bind_same (Some x) f g h = h x
bind_same None f g h = refl

pub bind_twice : {A B C : Type 0} (o : Option A) (f : A → Option B) (g : B → Option C) → ((o >>= f) >>= g) ≡ (o >>= λ x. (f x >>= g))
bind_twice (Some x) f g = refl
bind_twice None f g = refl

-- ---- sorting

-- a step that commutes with each lesser one of a list may be put into it
run-put_in : {S : Type 0} (step : ℕ → S → Option S) (y : ℕ) (xs : List ℕ) → AllByRecursion (λ x. x < y → Commute step y x) xs → (s : S) → run_steps step (put_in y xs) s ≡ run_steps step (y ∷ xs) s
unfolding run_steps
run-put_in step y [] all s = refl
run-put_in step y (x ∷ xs) all s = elim (cases_Bool (nat_le y x)) [
  | inl t ↦ ap (λ l. run_steps step l s) (cond-true _ _ _ t)
  | inr f ↦ ap (λ l. run_steps step l s) (cond-false _ _ _ f)
      ∙ bind_same (step x s) _ _ (run-put_in step y xs all.1)
      ∙ sym (bind_twice (step x s) (step y) (run_steps step xs))
      ∙ ap (λ o. o >>= run_steps step xs) (sym (all.0 (leb-false y x f) s))
      ∙ bind_twice (step y s) (step x) (run_steps step xs)
]

put_in-all : (P : ℕ → Type 0) (y : ℕ) (xs : List ℕ) → P y → AllByRecursion P xs → AllByRecursion P (put_in y xs)
put_in-all P y [] p all = (p, tt)
put_in-all P y (x ∷ xs) p all = elim (cases_Bool (nat_le y x)) [
  | inl t ↦ subst (AllByRecursion P) (sym (cond-true _ _ _ t)) (p, all)
  | inr f ↦ subst (AllByRecursion P) (sym (cond-false _ _ _ f)) (all.0, put_in-all P y xs p all.1)
]

in_order-all : (P : ℕ → Type 0) (xs : List ℕ) → AllByRecursion P xs → AllByRecursion P (in_order xs)
in_order-all P [] all = tt
in_order-all P (x ∷ xs) all = put_in-all P x (in_order xs) all.0 (in_order-all P xs all.1)

pub run-in_order : {S : Type 0} (step : ℕ → S → Option S) (us : List ℕ) → MayBeSorted step us → (s : S) → run_steps step us s ≡ run_steps step (in_order us) s
unfolding run_steps
run-in_order step [] may s = refl
run-in_order step (y ∷ ys) may s =
    bind_same (step y s) _ _ (run-in_order step ys may.1)
    ∙ sym (run-put_in step y (in_order ys) (in_order-all (λ x. x < y → Commute step y x) ys may.0) s)

-- ---- counts

pub counts-itself : (x : ℕ) → one_if (x == x) ≡ 1
counts-itself x = ap one_if (eq-eqb x x refl)

pub count_of-append : (x : ℕ) (xs ys : List ℕ) → count_of x (xs ++ ys) ≡ count_of x xs + count_of x ys
count_of-append x [] ys = omega arith
count_of-append x (y ∷ xs) ys = omega (arith, count_of-append x xs ys)

count_of-put_in : (x y : ℕ) (xs : List ℕ) → count_of x (put_in y xs) ≡ one_if (x == y) + count_of x xs
count_of-put_in x y [] = refl
count_of-put_in x y (z ∷ xs) = elim (cases_Bool (nat_le y z)) [
  | inl t ↦ ap (count_of x) (cond-true _ _ _ t)
  | inr f ↦ ap (count_of x) (cond-false _ _ _ f) ∙ omega (arith, count_of-put_in x y xs)
]

count_of-in_order : (x : ℕ) (xs : List ℕ) → count_of x (in_order xs) ≡ count_of x xs
count_of-in_order x [] = refl
count_of-in_order x (y ∷ xs) = count_of-put_in x y (in_order xs) ∙ ap (λ n. one_if (x == y) + n) (count_of-in_order x xs)

-- what holds of each member, and of each number that stands in a list
pub standing-all : (P : ℕ → Type 0) (xs : List ℕ) → AllByRecursion P xs → (x : ℕ) → Stands x xs → P x
standing-all P [] all x s = absurd (omega arith)
standing-all P (y ∷ ys) all x s = elim (cases_Bool (x == y)) [
  | inl t ↦ subst P (sym (eqb-true _ _ t)) all.0
  | inr f ↦ standing-all P ys all.1 x (let none : one_if (x == y) ≡ 0 = ap one_if f in omega arith)
]

pub all-standing : (P : ℕ → Type 0) (xs : List ℕ) → ((x : ℕ) → Stands x xs → P x) → AllByRecursion P xs
all-standing P [] h = tt
all-standing P (y ∷ ys) h =
    (h y (let one = counts-itself y in omega arith), all-standing P ys (λ x s. h x (omega arith)))

-- ---- rising lists

-- each member is at most each one after it
abbrev pub Rises : List ℕ → Type 0
Rises [] = Unit {0}
Rises (x ∷ xs) = AllByRecursion (λ y. x ≤ y) xs × Rises xs

all-weaker : (P Q : ℕ → Type 0) (xs : List ℕ) → ((x : ℕ) → P x → Q x) → AllByRecursion P xs → AllByRecursion Q xs
all-weaker P Q [] h all = tt
all-weaker P Q (x ∷ xs) h all = (h x all.0, all-weaker P Q xs h all.1)

Rises-put_in : (y : ℕ) (xs : List ℕ) → Rises xs → Rises (put_in y xs)
Rises-put_in y [] r = (tt, tt)
Rises-put_in y (x ∷ xs) r = elim (cases_Bool (nat_le y x)) [
  | inl t ↦ subst Rises (sym (cond-true _ _ _ t)) ((leb-true y x t, all-weaker (λ z. x ≤ z) (λ z. y ≤ z) xs (λ z p. let first = leb-true y x t in omega arith) r.0), r)
  | inr f ↦ subst Rises (sym (cond-false _ _ _ f)) (put_in-all (λ z. x ≤ z) y xs (let later = leb-false y x f in omega arith) r.0, Rises-put_in y xs r.1)
]

Rises-in_order : (xs : List ℕ) → Rises (in_order xs)
Rises-in_order [] = tt
Rises-in_order (x ∷ xs) = Rises-put_in x (in_order xs) (Rises-in_order xs)

numbers_from-least : (first n : ℕ) → AllByRecursion (λ y. first ≤ y) (numbers_from first n)
numbers_from-least first zero = tt
numbers_from-least first (suc n) = (omega arith, all-weaker (λ y. first + 1 ≤ y) (λ y. first ≤ y) _ (λ y p. omega arith) (numbers_from-least (first + 1) n))

Rises-numbers_from : (first n : ℕ) → Rises (numbers_from first n)
Rises-numbers_from first zero = tt
Rises-numbers_from first (suc n) = (all-weaker (λ y. first + 1 ≤ y) (λ y. first ≤ y) _ (λ y p. omega arith) (numbers_from-least (first + 1) n), Rises-numbers_from (first + 1) n)

-- the first of a rising list is at most each number that stands in it
first-least : (y : ℕ) (ys : List ℕ) → Rises (y ∷ ys) → (x : ℕ) → Stands x (y ∷ ys) → y ≤ x
first-least y ys r x s = standing-all (λ z. y ≤ z) (y ∷ ys) (omega arith, r.0) x s

-- two rising lists in which each number stands as often are one list
one_rising : (xs ys : List ℕ) → Rises xs → Rises ys → ((x : ℕ) → count_of x xs ≡ count_of x ys) → xs ≡ ys
one_rising [] [] r q e = refl
one_rising [] (y ∷ ys) r q e = absurd (let k = e y in let one = counts-itself y in omega arith)
one_rising (x ∷ xs) [] r q e = absurd (let k = e x in let one = counts-itself x in omega arith)
one_rising (x ∷ xs) (y ∷ ys) r q e =
    let low : y ≤ x = first-least y ys q x (let k = e x in let one = counts-itself x in omega arith) in
    let high : x ≤ y = first-least x xs r y (let k = e y in let one = counts-itself y in omega arith) in
    let same : x ≡ y = omega arith in
    let rest : xs ≡ ys = one_rising xs ys r.1 q.1 (λ z. let k = e z in let here = ap (λ n. one_if (z == n)) same in omega arith) in
    ap (λ t. t ∷ xs) same ∙ ap (λ l. y ∷ l) rest

-- a list in which each number stands as often as in the numbers from the first on is those, in order
pub in_order-numbers : (xs : List ℕ) (first n : ℕ) → ((x : ℕ) → count_of x xs ≡ count_of x (numbers_from first n)) → in_order xs ≡ numbers_from first n
in_order-numbers xs first n e = one_rising (in_order xs) (numbers_from first n) (Rises-in_order xs) (Rises-numbers_from first n) (λ x. count_of-in_order x xs ∙ e x)

-- each of them stands once
pub count_of-earlier : (x first n : ℕ) → x < first → count_of x (numbers_from first n) ≡ 0
count_of-earlier x first zero h = refl
count_of-earlier x first (suc n) h =
    let none : one_if (x == first) ≡ 0 = elim (cases_Bool (x == first)) [ inl t ↦ absurd (let e = eqb-true x first t in omega arith) | inr f ↦ ap one_if f ] in
    omega (arith, count_of-earlier x (first + 1) n (omega arith))

pub count_of-numbers : (x first n : ℕ) → count_of x (numbers_from first n) < 2
count_of-numbers x first zero = omega arith
count_of-numbers x first (suc n) = elim (cases_Bool (x == first)) [
  | inl t ↦ let e = eqb-true x first t in let one : one_if (x == first) ≡ 1 = ap one_if t in omega (arith, count_of-earlier x (first + 1) n (omega arith))
  | inr f ↦ let none : one_if (x == first) ≡ 0 = ap one_if f in omega (arith, count_of-numbers x (first + 1) n)
]
