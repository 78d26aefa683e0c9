-- Leaves that clash, looked for after one another.
use Rattle.std.proofs.Common.{◌≡◌, ℕ, ◌+◌, ◌<◌, refl, sym, ap, ◌∙◌, subst, inl, inr, arith, suc, zero, Bool, true, false, List, [], ◌∷◌, ◌++◌, take, drop, length, get_or}
use Rattle.std.specs.Prelude.{◌||◌}
use Rattle.std.specs.List.{list_any}
use Rattle.std.proofs.lemmas.Bool.{cases_Bool}
use Rattle.std.proofs.lemmas.Bool.Decides.{nat_tests}
use Rattle.std.proofs.lemmas.List.Folds.{list_any-append}
use Rattle.vg_shapes.specs.declared.leaf.Leaf.{Leaf}
use Rattle.vg_shapes.specs.Leaves.{clash, same_leaf, some_clash}
use Rattle.vg_lanes.specs.Noted.{noted}

-- ---- two leaves

pub clash-self : (a : Leaf) → clash a a ≡ false
clash-self a = grind (arith, nat_tests)

pub clash-turned : (a b : Leaf) → clash a b ≡ clash b a
clash-turned a b = grind (arith, nat_tests)

made : ℕ → ℕ → ℕ → Leaf
made p l w = record { parameter = p; low = l; width = w }

same-parts : (a b : Leaf) → same_leaf a b ≡ true → (a.parameter ≡ b.parameter) × (a.low ≡ b.low) × (a.width ≡ b.width)
same-parts a b h = (grind (arith, nat_tests, h), grind (arith, nat_tests, h), grind (arith, nat_tests, h))

pub same-is : (a b : Leaf) → same_leaf a b ≡ true → a ≡ b
unfolding made
same-is a b h =
    let p = same-parts a b h in
    ap (λ n. made n a.low a.width) p.0 ∙ ap (λ n. made b.parameter n a.width) p.1 ∙ ap (made b.parameter b.low) p.2

-- ---- tests that hold of no member

abbrev Clear : (Leaf → Bool) → List Leaf → Type 0
Clear test [] = Unit {0}
Clear test (x ∷ xs) = (test x ≡ false) × Clear test xs

either-false : (a b : Bool) → (a || b) ≡ false → (a ≡ false) × (b ≡ false)
either-false false b h = (refl, h)
either-false true b h = absurd (cc)

pub clear-from : (test : Leaf → Bool) (xs : List Leaf) → list_any test xs ≡ false → Clear test xs
clear-from test [] h = tt
clear-from test (x ∷ xs) h = let p = either-false (test x) (list_any test xs) h in (p.0, clear-from test xs p.1)

pub clear-to : (test : Leaf → Bool) (xs : List Leaf) → Clear test xs → list_any test xs ≡ false
clear-to test [] h = refl
clear-to test (x ∷ xs) h = rw (h.0) (clear-to test xs h.1)

clear-push : (test : Leaf → Bool) (xs : List Leaf) (x : Leaf) → Clear test xs → test x ≡ false → Clear test (xs ++ x ∷ [])
clear-push test [] x h e = (e, tt)
clear-push test (y ∷ ys) x h e = (h.0, clear-push test ys x h.1 e)

-- no member of the second list clashes with one of the first, and none with x: so with x after the first
grow : (xs : List Leaf) (x : Leaf) (ys : List Leaf) → Clear (λ a. list_any (clash a) xs) ys → Clear (clash x) ys → Clear (λ a. list_any (clash a) (xs ++ x ∷ [])) ys
grow xs x [] h k = tt
grow xs x (y ∷ ys) h k =
    (clear-to (clash y) (xs ++ x ∷ []) (clear-push (clash y) xs x (clear-from (clash y) xs h.0) (clash-turned y x ∙ k.0)), grow xs x ys h.1 k.1)

-- ---- steps

pub none-push : (xs : List Leaf) (x : Leaf) → some_clash xs ≡ false → list_any (clash x) xs ≡ false → some_clash (xs ++ x ∷ []) ≡ false
none-push xs x h k =
    let own : list_any (clash x) (xs ++ x ∷ []) ≡ false = clear-to (clash x) (xs ++ x ∷ []) (clear-push (clash x) xs x (clear-from (clash x) xs k) (clash-self x)) in
    clear-to (λ a. list_any (clash a) (xs ++ x ∷ [])) (xs ++ x ∷ [])
    (clear-push (λ a. list_any (clash a) (xs ++ x ∷ [])) xs x (grow xs x xs (clear-from (λ a. list_any (clash a) xs) xs h) (clear-from (clash x) xs k)) own)

-- a test that holds of a member holds of one of the whole list
any-front : (test : Leaf → Bool) (xs ys : List Leaf) → list_any test xs ≡ true → list_any test (xs ++ ys) ≡ true
any-front test xs ys h = list_any-append test xs ys ∙ rw h refl

any-behind : (test : Leaf → Bool) (xs : List Leaf) (x : Leaf) (ys : List Leaf) → test x ≡ true → list_any test (xs ++ x ∷ ys) ≡ true
any-behind test [] x ys h = rw h refl
any-behind test (z ∷ zs) x ys h = elim (cases_Bool (test z)) [ inl t ↦ rw t refl | inr f ↦ rw f (any-behind test zs x ys h) ]

pub some-found : (xs : List Leaf) (x : Leaf) (ys : List Leaf) → list_any (clash x) xs ≡ true → some_clash (xs ++ x ∷ ys) ≡ true
some-found xs x ys h = any-behind (λ a. list_any (clash a) (xs ++ x ∷ ys)) xs x ys (any-front (clash x) xs (x ∷ ys) h)

-- ---- what is kept of the leaves so far: the different ones

abbrev pub SameTests : List Leaf → List Leaf → Type 0
SameTests xs ys = (test : Leaf → Bool) → list_any test xs ≡ list_any test ys

one-more : (test : Leaf → Bool) (xs : List Leaf) (x : Leaf) → list_any test (xs ++ x ∷ []) ≡ (list_any test xs || test x)
one-more test xs x = list_any-append test xs (x ∷ []) ∙ ap (λ b. list_any test xs || b) (elim (cases_Bool (test x)) [ inl t ↦ rw t refl | inr f ↦ rw f refl ])

pub tests-pushed : (xs ys : List Leaf) (x : Leaf) → SameTests xs ys → SameTests (xs ++ x ∷ []) (ys ++ x ∷ [])
tests-pushed xs ys x h test = one-more test xs x ∙ ap (λ b. b || test x) (h test) ∙ sym (one-more test ys x)

known-test : (xs : List Leaf) (x : Leaf) (test : Leaf → Bool) → list_any (same_leaf x) xs ≡ true → test x ≡ true → list_any test xs ≡ true
known-test [] x test h t = absurd (cc)
known-test (y ∷ ys) x test h t =
    elim (cases_Bool (same_leaf x y)) [
      | inl s ↦ (let u : test y ≡ true = subst (λ z. test z ≡ true) (same-is x y s) t in rw u refl)
      | inr f ↦ (let r = known-test ys x test (rw f at h) t in elim (cases_Bool (test y)) [ inl u ↦ rw u refl | inr g ↦ rw g r ])
    ]

absorbed : (a b : Bool) → (b ≡ true → a ≡ true) → (a || b) ≡ a
absorbed true b h = refl
absorbed false true h = sym (h refl)
absorbed false false h = refl

-- a leaf that is among those kept adds nothing
pub tests-known : (xs ys : List Leaf) (x : Leaf) → SameTests xs ys → list_any (same_leaf x) xs ≡ true → SameTests xs (ys ++ x ∷ [])
tests-known xs ys x h k test =
    sym (one-more test ys x ∙ ap (λ b. b || test x) (sym (h test)) ∙ absorbed (list_any test xs) (test x) (known-test xs x test k))

-- ---- at a place of a list

split-at : (ls : List Leaf) (i : ℕ) (d : Leaf) → i < length ls → ls ≡ take i ls ++ get_or ls i d ∷ drop (suc i) ls
split-at [] i d l = absurd (omega arith)
split-at (x ∷ xs) zero d l = refl
split-at (x ∷ xs) (suc i) d l = ap (λ (r : List Leaf). x ∷ r) (split-at xs i d (omega arith))

next-at : (ls : List Leaf) (i : ℕ) (d : Leaf) → i < length ls → take (suc i) ls ≡ take i ls ++ get_or ls i d ∷ []
next-at [] i d l = absurd (omega arith)
next-at (x ∷ xs) zero d l = refl
next-at (x ∷ xs) (suc i) d l = ap (λ (r : List Leaf). x ∷ r) (next-at xs i d (omega arith))

pub record Looked (kept front : List Leaf) : Type 0 where
  pub same : SameTests kept front
  pub none : some_clash front ≡ false

pub found-at : (ls kept : List Leaf) (i : ℕ) (d : Leaf) → i < length ls → Looked kept (take i ls) → list_any (clash (get_or ls i d)) kept ≡ true → some_clash ls ≡ true
found-at ls kept i d l k h =
    subst (λ r. some_clash r ≡ true) (sym (split-at ls i d l))
    (some-found (take i ls) (get_or ls i d) (drop (suc i) ls) (sym (k.same (clash (get_or ls i d))) ∙ h))

front-next : (ls : List Leaf) (i : ℕ) (d : Leaf) → i < length ls → take i ls ++ get_or ls i d ∷ [] ≡ take (i + 1) ls
front-next ls i d l = let n : suc i ≡ i + 1 = omega arith in sym (next-at ls i d l) ∙ ap (λ m. take m ls) n

pub noted-at : (ls kept : List Leaf) (i : ℕ) (d : Leaf) → i < length ls → Looked kept (take i ls) → list_any (clash (get_or ls i d)) kept ≡ false → Looked (noted kept (get_or ls i d)) (take (i + 1) ls)
noted-at ls kept i d l k h =
    let x = get_or ls i d in
    let clear = none-push (take i ls) x k.none (sym (k.same (clash x)) ∙ h) in
    subst (Looked (noted kept x)) (front-next ls i d l)
    (elim (cases_Bool (list_any (same_leaf x) kept)) [
      | inl t ↦ rw t record { same = tests-known kept (take i ls) x k.same t; none = clear }
      | inr f ↦ rw f record { same = tests-pushed kept (take i ls) x k.same; none = clear }
    ])
