-- Two lists of lanes in order, merged.
use Rattle.std.proofs.Common.{◌≡◌, ◌⊎◌, ◌==◌, ◌<◌, ℕ, true, List, [], ◌∷◌, length, refl, ap, ◌∙◌, inl, inr, arith}
use Rattle.std.specs.List.{AllByRecursion}
use Rattle.std.specs.declared.cmp.Ordering.{Ordering}
use Rattle.std.specs.declared.cmp.Ordering.TheVariants.{Less, Equal, Greater}
use Rattle.std.specs.Ordering.{match_ordering}
use Rattle.std.specs.Set.{merge_step, sorted_merge}
use Rattle.std.proofs.lemmas.Bool.{eqb-true}
use Rattle.std.proofs.lemmas.Bool.Decides.{nat_tests}
use Rattle.vg_match.specs.declared.lane_list.LaneAt.{LaneAt}
use Rattle.vg_match.specs.LaneList.{place_cmp}
use Rattle.vg_match.proofs.Lanes.{comes_before, Rising}
use Rattle.vg_match.proofs.Members.{all-weaker, Has}

by-order : (P : List LaneAt → Type 0) (k : Ordering) (xs ys zs : List LaneAt) → (k ≡ Less → P xs) → (k ≡ Equal → P ys) → (k ≡ Greater → P zs) → P (match_ordering k xs ys zs)
by-order P Less xs ys zs a b c = a refl
by-order P Equal xs ys zs a b c = b refl
by-order P Greater xs ys zs a b c = c refl

abbrev pub merged : List LaneAt → List LaneAt → List LaneAt
merged xs ys = sorted_merge place_cmp true xs ys

abbrev merged-behind : LaneAt → List LaneAt → List LaneAt → List LaneAt
merged-behind x xs ys = merge_step place_cmp true x xs (merged xs) ys

pub merged-alone : (xs : List LaneAt) → merged xs [] ≡ xs
merged-alone [] = refl
merged-alone (x ∷ xs) = refl

none-left : (xs : List LaneAt) → length xs < 1 → xs ≡ []
none-left [] l = refl
none-left (x ∷ xs) l = absurd (omega arith)

pub no-lanes : (xs : List LaneAt) → (length xs == 0) ≡ true → xs ≡ []
no-lanes xs e = none-left xs (let none = eqb-true (length xs) 0 e in omega arith)

-- ---- places

less-before : (x y : LaneAt) → place_cmp x y ≡ Less → comes_before x y ≡ true
less-before x y e = grind (arith, nat_tests, e)

greater-before : (x y : LaneAt) → place_cmp x y ≡ Greater → comes_before y x ≡ true
greater-before x y e = grind (arith, nat_tests, e)

equal-place : (x y : LaneAt) → place_cmp x y ≡ Equal → (x.description ≡ y.description) × (x.lane ≡ y.lane)
equal-place x y e = (grind (arith, nat_tests, e), grind (arith, nat_tests, e))

before-chain : (x y z : LaneAt) → comes_before x y ≡ true → comes_before y z ≡ true → comes_before x z ≡ true
before-chain x y z e f = grind (arith, nat_tests, e, f)

before-same : (x y z : LaneAt) → place_cmp x y ≡ Equal → comes_before y z ≡ true → comes_before x z ≡ true
before-same x y z e f = grind (arith, nat_tests, e, f)

-- ---- what holds of each

all-behind : (P : LaneAt → Type 0) (x : LaneAt) (xs ys : List LaneAt) → ((zs : List LaneAt) → AllByRecursion P zs → AllByRecursion P (merged xs zs)) → P x → AllByRecursion P xs → AllByRecursion P ys → AllByRecursion P (merged-behind x xs ys)
all-behind P x xs [] rest p a b = (p, a)
all-behind P x xs (y ∷ ys) rest p a b =
    by-order (AllByRecursion P) (place_cmp x y) _ _ _ (λ e. (p, rest (y ∷ ys) b)) (λ e. (p, rest ys b.1)) (λ e. (b.0, all-behind P x xs ys rest p a b.1))

pub all-merged : (P : LaneAt → Type 0) (xs ys : List LaneAt) → AllByRecursion P xs → AllByRecursion P ys → AllByRecursion P (merged xs ys)
all-merged P [] ys a b = b
all-merged P (x ∷ xs) ys a b = all-behind P x xs ys (λ zs h. all-merged P xs zs a.1 h) a.0 a.1 b

-- ---- order

abbrev Behind : LaneAt → List LaneAt → Type 0
Behind x ys = AllByRecursion (λ y. comes_before x y ≡ true) ys

still-behind : (x y : LaneAt) (ys : List LaneAt) → comes_before x y ≡ true → Behind y ys → Behind x ys
still-behind x y ys e h = all-weaker (λ (z : LaneAt). comes_before y z ≡ true) (λ (z : LaneAt). comes_before x z ≡ true) (λ z g. before-chain x y z e g) ys h

same-behind : (x y : LaneAt) (ys : List LaneAt) → place_cmp x y ≡ Equal → Behind y ys → Behind x ys
same-behind x y ys e h = all-weaker (λ (z : LaneAt). comes_before y z ≡ true) (λ (z : LaneAt). comes_before x z ≡ true) (λ z g. before-same x y z e g) ys h

rising-behind : (x : LaneAt) (xs ys : List LaneAt) → ((zs : List LaneAt) → Rising zs → Rising (merged xs zs)) → Behind x xs → Rising xs → Rising ys → Rising (merged-behind x xs ys)
rising-behind x xs [] rest b a r = (b, a)
rising-behind x xs (y ∷ ys) rest b a r =
    by-order Rising (place_cmp x y) _ _ _
    (λ e.
    let first : comes_before x y ≡ true = less-before x y e in
    (all-merged (λ (z : LaneAt). comes_before x z ≡ true) xs (y ∷ ys) b (first, still-behind x y ys first r.0), rest (y ∷ ys) r))
    (λ e. (all-merged (λ (z : LaneAt). comes_before x z ≡ true) xs ys b (same-behind x y ys e r.0), rest ys r.1))
    (λ e.
    let first : comes_before y x ≡ true = greater-before x y e in
    (all-merged (λ (z : LaneAt). comes_before y z ≡ true) (x ∷ xs) ys (first, still-behind y x xs first b) r.0, rising-behind x xs ys rest b a r.1))

pub rising-merged : (xs ys : List LaneAt) → Rising xs → Rising ys → Rising (merged xs ys)
rising-merged [] ys a b = b
rising-merged (x ∷ xs) ys a b = rising-behind x xs ys (λ zs h. rising-merged xs zs a.1 h) a.0 a.1 b

-- ---- members

-- a lane of this place
pub record Placed (d l : ℕ) (xs : List LaneAt) : Type 0 where
  pub place : LaneAt
  pub has : Has place xs
  pub description : place.description ≡ d
  pub lane : place.lane ≡ l

module _ (d l : ℕ) where
  abbrev IsThis : LaneAt → Type 0
  IsThis x = (x.description ≡ d) × (x.lane ≡ l)

  later : (x : LaneAt) (xs : List LaneAt) → Placed d l xs → Placed d l (x ∷ xs)
  later x xs p = record { place = p.place; has = inr p.has; description = p.description; lane = p.lane }

  first : (x : LaneAt) (xs : List LaneAt) → IsThis x → Placed d l (x ∷ xs)
  first x xs e = record { place = x; has = inl refl; description = e.0; lane = e.1 }

  -- it is the first, or stands after it
  front : (x : LaneAt) (xs : List LaneAt) → Placed d l (x ∷ xs) → IsThis x ⊎ Placed d l xs
  front x xs p = by p.place p.has p.description p.lane
    where
      by : (z : LaneAt) → Has z (x ∷ xs) → z.description ≡ d → z.lane ≡ l → IsThis x ⊎ Placed d l xs
      by z (inl s) e f = inl (ap (λ (y : LaneAt). y.description) s ∙ e, ap (λ (y : LaneAt). y.lane) s ∙ f)
      by z (inr h) e f = inr (record { place = z; has = h; description = e; lane = f })

  right-behind : (x : LaneAt) (xs ys : List LaneAt) → ((zs : List LaneAt) → Placed d l zs → Placed d l (merged xs zs)) → Placed d l ys → Placed d l (merged-behind x xs ys)
  right-behind x xs [] rest p = absurd p.has
  right-behind x xs (y ∷ ys) rest p =
      by-order (Placed d l) (place_cmp x y) _ _ _
      (λ e. later x (merged xs (y ∷ ys)) (rest (y ∷ ys) p))
      (λ e.
      let same = equal-place x y e in
      elim (front y ys p) [
        | inl t ↦ first x (merged xs ys) (same.0 ∙ t.0, same.1 ∙ t.1)
        | inr q ↦ later x (merged xs ys) (rest ys q)
      ])
      (λ e. elim (front y ys p) [
        | inl t ↦ first y (merged-behind x xs ys) t
        | inr q ↦ later y (merged-behind x xs ys) (right-behind x xs ys rest q)
      ])

  -- in the second list
  pub placed-right : (xs ys : List LaneAt) → Placed d l ys → Placed d l (merged xs ys)
  placed-right [] ys p = p
  placed-right (x ∷ xs) ys p = right-behind x xs ys (λ zs q. placed-right xs zs q) p

  left-behind : (x : LaneAt) (xs ys : List LaneAt) → ((zs : List LaneAt) → Placed d l xs → Placed d l (merged xs zs)) → Placed d l (x ∷ xs) → Placed d l (merged-behind x xs ys)
  left-behind x xs [] rest p = p
  left-behind x xs (y ∷ ys) rest p =
      by-order (Placed d l) (place_cmp x y) _ _ _
      (λ e. elim (front x xs p) [
        | inl t ↦ first x (merged xs (y ∷ ys)) t
        | inr q ↦ later x (merged xs (y ∷ ys)) (rest (y ∷ ys) q)
      ])
      (λ e. elim (front x xs p) [
        | inl t ↦ first x (merged xs ys) t
        | inr q ↦ later x (merged xs ys) (rest ys q)
      ])
      (λ e. later y (merged-behind x xs ys) (left-behind x xs ys rest p))

  -- in the first
  pub placed-left : (xs ys : List LaneAt) → Placed d l xs → Placed d l (merged xs ys)
  placed-left [] ys p = absurd p.has
  placed-left (x ∷ xs) ys p = left-behind x xs ys (λ zs q. placed-left xs zs q) p
