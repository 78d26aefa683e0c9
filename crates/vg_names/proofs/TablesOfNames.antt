-- Names in a table, each once, are found as in the list.
use Rattle.std.proofs.Common.{◌≡◌, ℕ, ◌+◌, ◌<◌, zero, suc, Bool, true, false, List, [], ◌∷◌, ◌++◌, map, length, get_or, Option, Some, None, refl, sym, ◌∙◌, ap, arith, true≢false, inl, inr}
use Rattle.std.specs.Prelude.{position}
use Rattle.std.specs.List.{list_any}
use Rattle.std.specs.Option.{option_map}
use Rattle.std.specs.Str.{bytes_eq}
use Rattle.std.proofs.lemmas.List.{map-append, length-append}
use Rattle.std.proofs.lemmas.Bool.{cases_lt}
use Rattle.indexmap.specs.IndexSet.{insert_key}
use Rattle.vg_pseudo.specs.Names.{first_place, has_name}
use Rattle.vg_names.specs.Distinct.{with_name, place_of, AreDistinct}
use Rattle.vg_names.proofs.Places.{position_is_place}
use Rattle.vg_pseudo.proofs.Taking.{text_is_itself}
use Rattle.vg_names.proofs.Texts.{turned}

-- two tests that agree
any_same : {A : Type 0} (p q : A → Bool) → ((x : A) → p x ≡ q x) → (xs : List A) → list_any p xs ≡ list_any q xs
any_same p q e [] = refl
any_same p q e (x ∷ xs) = rw (e x, any_same p q e xs) refl

first_same : {A : Type 0} (p q : A → Bool) → ((x : A) → p x ≡ q x) → (xs : List A) → first_place p xs ≡ first_place q xs
first_same p q e [] = refl
first_same p q e (x ∷ xs) = rw (e x, first_same p q e xs) refl

pub any_mapped : {A B : Type 0} (f : A → B) (p : B → Bool) (xs : List A) → list_any (λ x. p (f x)) xs ≡ list_any p (map f xs)
any_mapped f p [] = refl
any_mapped f p (x ∷ xs) = rw (any_mapped f p xs) refl

module _ {K : Type 0} (items : K → List ℕ) where
  -- a name is among them
  pub name_among : (n : List ℕ) (keys : List K) → list_any (λ k. bytes_eq n (items k)) keys ≡ has_name (map items keys) n
  name_among n keys =
      any_same (λ k. bytes_eq n (items k)) (λ k. bytes_eq (items k) n) (λ k. turned n (items k)) keys
      ∙ any_mapped items (λ m. bytes_eq m n) keys

  -- and where
  pub name_place : (n : List ℕ) (keys : List K) → position (λ k. bytes_eq n (items k)) keys ≡ place_of (map items keys) n
  name_place n keys =
      position_is_place items (λ m. bytes_eq n m) keys
      ∙ first_same (λ m. bytes_eq n m) (λ m. bytes_eq m n) (λ m. turned n m) (map items keys)

  -- one more
  pub name_added : (eq : K → K → Bool) → ((x y : K) → eq x y ≡ bytes_eq (items x) (items y)) → (key : K) (keys : List K)
      → map items (insert_key eq keys key) ≡ with_name (map items keys) (items key)
  name_added eq same key keys = by (has_name (map items keys) (items key)) refl
    where
      found : list_any (eq key) keys ≡ has_name (map items keys) (items key)
      found = any_same (eq key) (λ k. bytes_eq (items key) (items k)) (same key) keys ∙ name_among (items key) keys

      by : (b : Bool) → has_name (map items keys) (items key) ≡ b → map items (insert_key eq keys key) ≡ with_name (map items keys) (items key)
      by true e = rw (found, e) refl
      by false e = rw (found, e) (map-append items keys (key ∷ []))

-- ---- they stay distinct

first-left : (q : List ℕ → Bool) (xs ys : List (List ℕ)) (i : ℕ) → first_place q xs ≡ Some i → first_place q (xs ++ ys) ≡ Some i
first-left q [] ys i e = absurd (cc)
first-left q (x ∷ xs) ys i e = by (λ j. first-left q xs ys j) (q x) refl
  where
    moved : (o p : Option ℕ) → ((j : ℕ) → o ≡ Some j → p ≡ Some j) → option_map (λ (k : ℕ). k + 1) o ≡ Some i → option_map (λ (k : ℕ). k + 1) p ≡ Some i
    moved (Some j) p g h = rw (g j refl) h
    moved None p g h = absurd (cc)

    by : ((j : ℕ) → first_place q xs ≡ Some j → first_place q (xs ++ ys) ≡ Some j) → (b : Bool) → q x ≡ b → first_place q ((x ∷ xs) ++ ys) ≡ Some i
    by g true f = rw f (let h : first_place q (x ∷ xs) ≡ Some 0 = rw f refl in sym h ∙ e)
    by g false f = rw f (let h : first_place q (x ∷ xs) ≡ option_map (λ (k : ℕ). k + 1) (first_place q xs) = rw f refl in
        moved (first_place q xs) (first_place q (xs ++ ys)) g (sym h ∙ e))

first-last : (q : List ℕ → Bool) (xs : List (List ℕ)) (n : List ℕ) → list_any q xs ≡ false → q n ≡ true
    → first_place q (xs ++ n ∷ []) ≡ Some (length xs)
first-last q [] n none is = rw is refl
first-last q (x ∷ xs) n none is = by (λ h. first-last q xs n h is) (q x) refl
  where
    by : (list_any q xs ≡ false → first_place q (xs ++ n ∷ []) ≡ Some (length xs)) → (b : Bool) → q x ≡ b → first_place q ((x ∷ xs) ++ n ∷ []) ≡ Some (length (x ∷ xs))
    by g true f = absurd (true≢false (let h : list_any q (x ∷ xs) ≡ true = rw f refl in sym h ∙ none))
    by g false f = rw f (let h : list_any q (x ∷ xs) ≡ list_any q xs = rw f refl in
        rw (g (sym h ∙ none)) (ap Some (omega arith)))

get-left : (xs ys : List (List ℕ)) (i : ℕ) → i < length xs → get_or (xs ++ ys) i [] ≡ get_or xs i []
get-left [] ys i h = absurd (omega (arith, h))
get-left (x ∷ xs) ys zero h = refl
get-left (x ∷ xs) ys (suc i) h = get-left xs ys i (omega (arith, h))

get-last : (xs : List (List ℕ)) (n : List ℕ) → get_or (xs ++ n ∷ []) (length xs) [] ≡ n
get-last [] n = refl
get-last (x ∷ xs) n = get-last xs n

none_distinct : AreDistinct []
none_distinct i h = absurd (omega (arith, h))

one_more : (xs : List (List ℕ)) (n : List ℕ) → AreDistinct xs → has_name xs n ≡ false → AreDistinct (xs ++ n ∷ [])
one_more xs n d new i h =
    elim (cases_lt i (length xs)) as (λ _. place_of (xs ++ n ∷ []) (get_or (xs ++ n ∷ []) i []) ≡ Some i) [
      | inl below ↦ rw (get-left xs (n ∷ []) i below) (first-left (λ m. bytes_eq m (get_or xs i [])) xs (n ∷ []) i (d i below))
      | inr above ↦
          let at : i ≡ length xs = omega (arith, above, h, length-append xs (n ∷ [])) in
          rw at (rw (get-last xs n) (first-last (λ m. bytes_eq m n) xs n new (text_is_itself n)))
    ]

pub added_distinct : (xs : List (List ℕ)) (n : List ℕ) → AreDistinct xs → AreDistinct (with_name xs n)
added_distinct xs n d = by (has_name xs n) refl
  where
    by : (b : Bool) → has_name xs n ≡ b → AreDistinct (with_name xs n)
    by true e = rw e d
    by false e = rw e (one_more xs n d e)
