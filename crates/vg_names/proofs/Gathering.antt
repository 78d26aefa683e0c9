-- One assignment more changes what is gathered of its name alone.
use Rattle.std.proofs.Common.{◌≡◌, ℕ, ◌+◌, zero, suc, ◌<◌, Bool, true, false, List, [], ◌∷◌, ◌++◌, map, length, get_or, Option, Some, None, refl, sym, ◌∙◌, ap, arith, replicate, ◌&&◌, ◌≤◌, set}
use Rattle.std.specs.Prelude.{fold, filter, if◌then◌else◌}
use Rattle.std.specs.List.{list_all}
use Rattle.std.specs.Option.{option_map}
use Rattle.std.proofs.lemmas.List.{append-nil}
use Rattle.std.specs.Str.{bytes_eq}
use Rattle.vg_base.specs.declared.width.Width.{Width}
use Rattle.vg_base.specs.Width.{bits_of}
use Rattle.vg_pseudo.specs.Same.{same_width}
use Rattle.vg_pseudo.specs.Names.{Form, whole_element, other, Assignment}
use Rattle.vg_pseudo.specs.Resolve.{assigned_to, is_element, one_element}
use Rattle.vg_pseudo.proofs.Taking.{same_text}
use Rattle.vg_names.specs.declared.forms.Forms.TheVariants.{Unseen, Element, Mixed}
use Rattle.vg_names.specs.Distinct.{place_of, AreDistinct}
use Rattle.vg_names.specs.Gathered.{gathered, changed, changed_at, form_behind, with_form, span_of_forms}
use Rattle.vg_names.proofs.Texts.{turned}

-- ---- distinct names, from the first on

tail-place : (n m : List ℕ) (ns : List (List ℕ)) (i : ℕ) → place_of (n ∷ ns) m ≡ Some (suc i) → (bytes_eq n m ≡ false) × (place_of ns m ≡ Some i)
tail-place n m ns i e = by (bytes_eq n m) refl (place_of ns m) refl
  where
    moved : (o : Option ℕ) → option_map (λ (k : ℕ). k + 1) o ≡ Some (suc i) → o ≡ Some i
    moved None h = absurd (cc)
    moved (Some j) h = let same : j + 1 ≡ suc i = cc in ap Some (omega (arith, same))

    by : (b : Bool) → bytes_eq n m ≡ b → (o : Option ℕ) → place_of ns m ≡ o → (bytes_eq n m ≡ false) × (place_of ns m ≡ Some i)
    by true f o g =
        let h : place_of (n ∷ ns) m ≡ Some 0 = rw f refl in
        let bad : 0 ≡ suc i = cc in
        absurd (omega (arith, bad))
    by false f o g =
        let h : place_of (n ∷ ns) m ≡ option_map (λ (k : ℕ). k + 1) (place_of ns m) = rw f refl in
        (f, moved (place_of ns m) (sym h ∙ e))

distinct-tail : (n : List ℕ) (ns : List (List ℕ)) → AreDistinct (n ∷ ns) → AreDistinct ns
distinct-tail n ns d i h = (tail-place n (get_or ns i []) ns i (d (suc i) (omega (arith, h)))).1

distinct-head : (n : List ℕ) (ns : List (List ℕ)) → AreDistinct (n ∷ ns) → (i : ℕ) → i < length ns → bytes_eq n (get_or ns i []) ≡ false
distinct-head n ns d i h = (tail-place n (get_or ns i []) ns i (d (suc i) (omega (arith, h)))).0

module _ {S : Type 0} (m : List ℕ) (h : S → S) (g : List ℕ → S) where
  abbrev one : List ℕ → S
  one n = if bytes_eq m n then h (g n) else g n

  -- none of these is the name
  untouched : (ns : List (List ℕ)) → ((i : ℕ) → i < length ns → bytes_eq m (get_or ns i []) ≡ false) → map one ns ≡ map g ns
  untouched [] apart = refl
  untouched (n ∷ ns) apart =
      let first : bytes_eq m n ≡ false = apart 0 (omega arith) in
      rw (untouched ns (λ i l. apart (suc i) (omega (arith, l)))) (rw first refl)

  pub touched : (ns : List (List ℕ)) → AreDistinct ns → map one ns ≡ changed (place_of ns m) h (map g ns)
  touched [] d = refl
  touched (n ∷ ns) d = by (touched ns (distinct-tail n ns d)) (bytes_eq n m) refl
    where
      behind : (o : Option ℕ) → map one ns ≡ changed o h (map g ns) → g n ∷ map one ns ≡ changed (option_map (λ (k : ℕ). k + 1) o) h (map g (n ∷ ns))
      behind None e = ap (λ xs. g n ∷ xs) e
      behind (Some i) e =
          let next : i + 1 ≡ suc i = omega arith in
          rw next (ap (λ xs. g n ∷ xs) e)

      by : map one ns ≡ changed (place_of ns m) h (map g ns) → (b : Bool) → bytes_eq n m ≡ b → map one (n ∷ ns) ≡ changed (place_of (n ∷ ns) m) h (map g (n ∷ ns))
      by r true e =
          let here : bytes_eq m n ≡ true = turned m n ∙ e in
          let same : n ≡ m = same_text n m e in
          let rest : map one ns ≡ map g ns = untouched ns (λ i l. ap (λ t. bytes_eq t (get_or ns i [])) (sym same) ∙ distinct-head n ns d i l) in
          rw (e, here, rest) refl
      by r false e =
          let here : bytes_eq m n ≡ false = turned m n ∙ e in
          rw (e, here) (behind (place_of ns m) r)

module _ {S : Type 0} (f : S → Assignment → S) where
  fold-last : (s : S) (xs : List Assignment) (a : Assignment) → fold f s (xs ++ a ∷ []) ≡ f (fold f s xs) a
  fold-last s [] a = refl
  fold-last s (x ∷ xs) a = fold-last (f s x) xs a

  filter-last : (p : Assignment → Bool) (xs : List Assignment) (a : Assignment) → filter p (xs ++ a ∷ []) ≡ filter p xs ++ filter p (a ∷ [])
  filter-last p [] a = refl
  filter-last p (x ∷ xs) a = front (p x) (filter-last p xs a)
    where
      front : (b : Bool) → filter p (xs ++ a ∷ []) ≡ filter p xs ++ filter p (a ∷ [])
          → (if b then x ∷ filter p (xs ++ a ∷ []) else filter p (xs ++ a ∷ [])) ≡ (if b then x ∷ filter p xs else filter p xs) ++ filter p (a ∷ [])
      front true e = ap (λ ys. x ∷ ys) e
      front false e = e

  one-name : (s : S) (xs : List Assignment) (a : Assignment) (n : List ℕ)
      → fold f s (assigned_to n (xs ++ a ∷ [])) ≡ (if bytes_eq a.name n then f (fold f s (assigned_to n xs)) a else fold f s (assigned_to n xs))
  one-name s xs a n =
      ap (fold f s) (filter-last (λ x. bytes_eq x.name n) xs a) ∙ by (bytes_eq a.name n)
    where
      by : (b : Bool) → fold f s (assigned_to n xs ++ (if b then a ∷ [] else [])) ≡ (if b then f (fold f s (assigned_to n xs)) a else fold f s (assigned_to n xs))
      by true = fold-last s (assigned_to n xs) a
      by false = ap (fold f s) (append-nil (assigned_to n xs))

  -- each name by itself
  each : (s : S) (names : List (List ℕ)) (xs : List Assignment) (a : Assignment)
      → gathered f s names (xs ++ a ∷ []) ≡ map (λ n. if bytes_eq a.name n then f (fold f s (assigned_to n xs)) a else fold f s (assigned_to n xs)) names
  each s [] xs a = refl
  each s (n ∷ names) xs a = rw (one-name s xs a n, each s names xs a) refl

  pub gathered_more : (s : S) (names : List (List ℕ)) (xs : List Assignment) (a : Assignment) → AreDistinct names
      → gathered f s names (xs ++ a ∷ []) ≡ changed (place_of names a.name) (λ x. f x a) (gathered f s names xs)
  gathered_more s names xs a d = each s names xs a ∙ touched a.name (λ x. f x a) (λ n. fold f s (assigned_to n xs)) names d

pub gathered_none : {S : Type 0} (f : S → Assignment → S) (s : S) (names : List (List ℕ)) → gathered f s names [] ≡ replicate (length names) s
gathered_none f s [] = refl
gathered_none f s (n ∷ names) = ap (λ xs. s ∷ xs) (gathered_none f s names)

-- what is gathered of a name by its number
pub gathered_at : {S : Type 0} (f : S → Assignment → S) (s d : S) (names : List (List ℕ)) (xs : List Assignment) (i : ℕ) → i < length names
    → get_or (gathered f s names xs) i d ≡ fold f s (assigned_to (get_or names i []) xs)
gathered_at f s d [] xs i h = absurd (omega (arith, h))
gathered_at f s d (n ∷ names) xs zero h = refl
gathered_at f s d (n ∷ names) xs (suc i) h = gathered_at f s d names xs i (omega (arith, h))

-- ---- forms

abbrev forms_of : List Assignment → List Form
forms_of as' = map (λ a. a.form) as'

mixed-behind : (f : Form) → form_behind Mixed f ≡ Mixed
mixed-behind (whole_element w) = refl
mixed-behind other = refl

mixed-stays : (as' : List Assignment) → fold with_form Mixed as' ≡ Mixed
mixed-stays [] = refl
mixed-stays (a ∷ as') = ap (λ s. fold with_form s as') (mixed-behind a.form) ∙ mixed-stays as'

element-spans : (w : Width) (as' : List Assignment) → span_of_forms (fold with_form (Element w) as') ≡ (if list_all (is_element w) (forms_of as') then Some (bits_of w) else None)
element-spans w [] = refl
element-spans w (a ∷ as') = by (element-spans w as') a.form
  where
    test : span_of_forms (fold with_form (Element w) as') ≡ (if list_all (is_element w) (forms_of as') then Some (bits_of w) else None)
        → (b : Bool) → span_of_forms (fold with_form (if b then Element w else Mixed) as') ≡ (if b && list_all (is_element w) (forms_of as') then Some (bits_of w) else None)
    test e true = e
    test e false = ap span_of_forms (mixed-stays as')

    by : span_of_forms (fold with_form (Element w) as') ≡ (if list_all (is_element w) (forms_of as') then Some (bits_of w) else None)
        → (f : Form) → span_of_forms (fold with_form (form_behind (Element w) f) as') ≡ (if is_element w f && list_all (is_element w) (forms_of as') then Some (bits_of w) else None)
    by e (whole_element v) = test e (same_width w v)
    by e other = ap span_of_forms (mixed-stays as')

-- the one form of all assignments, gathered
pub forms_span : (as' : List Assignment) → span_of_forms (fold with_form Unseen as') ≡ one_element (forms_of as')
forms_span [] = refl
forms_span (a ∷ as') = by a.form
  where
    by : (f : Form) → span_of_forms (fold with_form (form_behind Unseen f) as') ≡ one_element (f ∷ forms_of as')
    by (whole_element w) = element-spans w as'
    by other = ap span_of_forms (mixed-stays as')

-- ---- writing at a place

pub set_changed : {S : Type 0} (g : S → S) (xs : List S) (i : ℕ) (d : S) → i < length xs → set xs i (g (get_or xs i d)) ≡ changed_at i g xs
set_changed g [] i d h = absurd (omega (arith, h))
set_changed g (x ∷ xs) zero d h = refl
set_changed g (x ∷ xs) (suc i) d h = ap (λ ys. x ∷ ys) (set_changed g xs i d (omega (arith, h)))

pub unchanged : {S : Type 0} (g : S → S) (xs : List S) (i : ℕ) → length xs ≤ i → xs ≡ changed_at i g xs
unchanged g [] i h = refl
unchanged g (x ∷ xs) zero h = absurd (omega (arith, h))
unchanged g (x ∷ xs) (suc i) h = ap (λ ys. x ∷ ys) (unchanged g xs i (omega (arith, h)))
