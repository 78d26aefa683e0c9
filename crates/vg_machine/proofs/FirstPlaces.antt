-- Where the first entry of each name stands.
use Rattle.std.proofs.Common.{◌≡◌, ℕ, zero, suc, ◌+◌, ◌<◌, Bool, true, false, List, [], ◌∷◌, ◌++◌, length, map, take, get_or, Option, Some, None, refl, sym, ◌∙◌, ap, subst, arith, true≢false}
use Rattle.std.specs.Prelude.{slice_get, if◌then◌else◌, ◌-◌, ◌≤◌}
use Rattle.std.specs.List.{find, position_from}
use Rattle.std.specs.Option.{is_some}
use Rattle.std.specs.Str.{bytes_eq}
use Rattle.std.specs.Map.{lookup}
use Rattle.vg_pseudo.proofs.Taking.{same_text, text_is_itself}
use Rattle.indexmap.specs.IndexMap.{insert_entry}
use Rattle.vg_catalog.specs.Entries.{Entry, name_of}
use Rattle.vg_catalog.specs.Headers.{first_of}
use Rattle.vg_catalog.specs.Called.{entry_named}
use Rattle.vg_machine.specs.FirstPlaces.{found, AreFirst, Notes, place_from}

-- a test of two texts may be turned
turned : (a b : List ℕ) → bytes_eq a b ≡ bytes_eq b a
turned a b = by (bytes_eq a b) refl (bytes_eq b a) refl
  where
    by : (x : Bool) → bytes_eq a b ≡ x → (y : Bool) → bytes_eq b a ≡ y → bytes_eq a b ≡ bytes_eq b a
    by true e true f = e ∙ sym f
    by false e false f = e ∙ sym f
    by true e false f = absurd (true≢false (sym (text_is_itself a) ∙ ap (λ (t : List ℕ). bytes_eq t a) (same_text a b e) ∙ f))
    by false e true f = absurd (true≢false (sym (text_is_itself b) ∙ ap (λ (t : List ℕ). bytes_eq t b) (same_text b a f) ∙ e))

-- ---- tables

first_none : (o : Option ℕ) → first_of o None ≡ o
first_none None = refl
first_none (Some n) = refl

first_some : (o d : Option ℕ) → is_some o ≡ true → first_of o d ≡ o
first_some None d e = absurd cc
first_some (Some n) d e = refl

module _ {K : Type 0} (items : K → List ℕ) where
  -- a key after the others
  lookup_last : (test : K → Bool) (es : List (K × ℕ)) (k : K) (v : ℕ) → lookup test (es ++ (k, v) ∷ []) ≡ first_of (lookup test es) (if test k then Some v else None)
  lookup_last test [] k v = by (test k) refl
    where
      by : (b : Bool) → test k ≡ b → lookup test ((k, v) ∷ []) ≡ first_of None (if test k then Some v else None)
      by true e = rw e refl
      by false e = rw e refl
  lookup_last test (x ∷ es) k v = by (test x.0) refl (lookup_last test es k v)
    where
      by : (b : Bool) → test x.0 ≡ b → lookup test (es ++ (k, v) ∷ []) ≡ first_of (lookup test es) (if test k then Some v else None)
          → lookup test ((x ∷ es) ++ (k, v) ∷ []) ≡ first_of (lookup test (x ∷ es)) (if test k then Some v else None)
      by true e g = rw e refl
      by false e g = rw e g

  -- a name that is found already
  pub notes_none : (es : List (K × ℕ)) (noted : List ℕ) (place : ℕ) → is_some (found items es noted) ≡ true → Notes items es es noted place
  notes_none es noted place there name = by (bytes_eq name noted) refl
    where
      by : (b : Bool) → bytes_eq name noted ≡ b → found items es name ≡ first_of (found items es name) (if bytes_eq name noted then Some place else None)
      by true e = sym (first_some (found items es name) (if bytes_eq name noted then Some place else None) (ap (λ (n : List ℕ). is_some (found items es n)) (same_text name noted e) ∙ there))
      by false e = rw e (sym (first_none (found items es name)))

  -- a key that is not found goes last
  insert_last : (eq : K → K → Bool) → ((x y : K) → eq x y ≡ bytes_eq (items x) (items y)) → (es : List (K × ℕ)) (key : K) (v : ℕ) → is_some (found items es (items key)) ≡ false → insert_entry eq es key v ≡ es ++ (key, v) ∷ []
  insert_last eq same [] key v none = refl
  insert_last eq same (x ∷ es) key v none = by (bytes_eq (items key) (items x.0)) refl (insert_last eq same es key v)
    where
      by : (b : Bool) → bytes_eq (items key) (items x.0) ≡ b → (is_some (found items es (items key)) ≡ false → insert_entry eq es key v ≡ es ++ (key, v) ∷ []) → insert_entry eq (x ∷ es) key v ≡ (x ∷ es) ++ (key, v) ∷ []
      by true e g = let is : true ≡ false = rw e at none in absurd (true≢false is)
      by false e g = let rest : is_some (found items es (items key)) ≡ false = rw e at none in rw (same key x.0, e) (ap (λ (t : List (K × ℕ)). x ∷ t) (g rest))

  -- a name that is not
  pub notes_new : (eq : K → K → Bool) → ((x y : K) → eq x y ≡ bytes_eq (items x) (items y)) → (es new : List (K × ℕ)) (key : K) (noted : List ℕ) (place : ℕ) → items key ≡ noted → is_some (found items es noted) ≡ false → new ≡ insert_entry eq es key place → Notes items es new noted place
  notes_new eq same es new key noted place named none grows name =
      let grown = grows ∙ insert_last eq same es key place (ap (λ (n : List ℕ). is_some (found items es n)) named ∙ none) in
      ap (λ (t : List (K × ℕ)). found items t name) grown
      ∙ lookup_last (λ k. bytes_eq name (items k)) es key place
      ∙ ap (λ (n : List ℕ). first_of (found items es name) (if bytes_eq name n then Some place else None)) named

  -- ---- entries, one after the other

  place_last : (k : ℕ) (es : List Entry) (e : Entry) (name : List ℕ) → place_from k (es ++ e ∷ []) name ≡ first_of (place_from k es name) (if bytes_eq name (name_of e) then Some (k + length es) else None)
  place_last k [] e name = by (bytes_eq name (name_of e)) refl
    where
      at : Some k ≡ Some (k + 0)
      at = ap Some (omega arith)

      by : (b : Bool) → bytes_eq name (name_of e) ≡ b → place_from k (e ∷ []) name ≡ first_of None (if bytes_eq name (name_of e) then Some (k + 0) else None)
      by true h = rw h at
      by false h = rw h refl
  place_last k (x ∷ es) e name = by (bytes_eq name (name_of x)) refl (place_last (k + 1) es e name ∙ ap (λ (n : ℕ). first_of (place_from (k + 1) es name) (if bytes_eq name (name_of e) then Some n else None)) (omega arith))
    where
      by : (b : Bool) → bytes_eq name (name_of x) ≡ b
          → place_from (k + 1) (es ++ e ∷ []) name ≡ first_of (place_from (k + 1) es name) (if bytes_eq name (name_of e) then Some (k + length (x ∷ es)) else None)
          → place_from k ((x ∷ es) ++ e ∷ []) name ≡ first_of (place_from k (x ∷ es) name) (if bytes_eq name (name_of e) then Some (k + length (x ∷ es)) else None)
      by true h g = rw h refl
      by false h g = rw h g

  pub first_none_yet : (table : List (K × ℕ)) → table ≡ [] → AreFirst items [] table
  first_none_yet table e name = ap (λ (t : List (K × ℕ)). found items t name) e

  pub first_more : (es : List Entry) (e : Entry) (before after : List (K × ℕ)) (noted : List ℕ) (place : ℕ) → AreFirst items es before → Notes items before after noted place → noted ≡ name_of e → place ≡ length es → AreFirst items (es ++ e ∷ []) after
  first_more es e before after noted place are notes named count name =
      notes name
      ∙ ap (λ (o : Option ℕ). first_of o (if bytes_eq name noted then Some place else None)) (are name)
      ∙ ap (λ (n : List ℕ). first_of (place_from 0 es name) (if bytes_eq name n then Some place else None)) named
      ∙ ap (λ (n : ℕ). first_of (place_from 0 es name) (if bytes_eq name (name_of e) then Some n else None)) (count ∙ omega arith)
      ∙ sym (place_last 0 es e name)

-- ---- the entry at a place

place_least : (k : ℕ) (es : List Entry) (name : List ℕ) (p : ℕ) → place_from k es name ≡ Some p → (k ≤ p) × (p < k + length es)
place_least k [] name p e = absurd cc
place_least k (x ∷ es) name p e = by (bytes_eq name (name_of x)) refl (place_least (k + 1) es name p)
  where
    by : (b : Bool) → bytes_eq name (name_of x) ≡ b → (place_from (k + 1) es name ≡ Some p → (k + 1 ≤ p) × (p < (k + 1) + length es)) → (k ≤ p) × (p < k + length (x ∷ es))
    by true h g = let is : Some k ≡ Some p = rw h at e in let same : k ≡ p = cc in (omega (arith, same), omega (arith, same))
    by false h g = let is : place_from (k + 1) es name ≡ Some p = rw h at e in let rest = g is in (omega (arith, rest.0), omega (arith, rest.1))

pub place_within : (es : List Entry) (name : List ℕ) (p : ℕ) → place_from 0 es name ≡ Some p → p < length es
place_within es name p e = let both = place_least 0 es name p e in omega (arith, both.1)

named_from : (k : ℕ) (es : List Entry) (name : List ℕ) (p : ℕ) → place_from k es name ≡ Some p → slice_get es (p - k) ≡ entry_named es name
named_from k [] name p e = absurd cc
named_from k (x ∷ es) name p e = by (bytes_eq name (name_of x)) refl (named_from (k + 1) es name p)
  where
    by : (b : Bool) → bytes_eq name (name_of x) ≡ b → (place_from (k + 1) es name ≡ Some p → slice_get es (p - (k + 1)) ≡ entry_named es name) → slice_get (x ∷ es) (p - k) ≡ entry_named (x ∷ es) name
    by true h g =
        let is : Some k ≡ Some p = rw h at e in
        let same : k ≡ p = cc in
        let none : p - k ≡ zero = omega (arith, same) in
        rw (turned (name_of x) name ∙ h) (ap (λ (n : ℕ). slice_get (x ∷ es) n) none)
    by false h g =
        let is : place_from (k + 1) es name ≡ Some p = rw h at e in
        let least = place_least (k + 1) es name p is in
        let step : p - k ≡ suc (p - (k + 1)) = omega (arith, least.0) in
        rw (turned (name_of x) name ∙ h) (ap (λ (n : ℕ). slice_get (x ∷ es) n) step ∙ g is)

pub named_at : (es : List Entry) (name : List ℕ) (p : ℕ) → place_from 0 es name ≡ Some p → slice_get es p ≡ entry_named es name
named_at es name p e = ap (λ (n : ℕ). slice_get es n) (omega arith) ∙ named_from 0 es name p e

-- one entry more
pub mapped_more : {A B : Type 0} (f : A → B) (xs : List A) (k : ℕ) (x : A) → k < length xs → x ≡ get_or xs k x → map f (take (k + 1) xs) ≡ map f (take k xs) ++ f x ∷ []
mapped_more f xs k x lt e = let next : k + 1 ≡ suc k = omega arith in ap (λ n. map f (take n xs)) next ∙ steps f xs k x lt e
  where
    steps : {A B : Type 0} (f : A → B) (xs : List A) (k : ℕ) (x : A) → k < length xs → x ≡ get_or xs k x → map f (take (suc k) xs) ≡ map f (take k xs) ++ f x ∷ []
    steps f [] k x lt e = absurd (omega (arith, lt))
    steps f (y ∷ xs) zero x lt e = ap (λ z. f z ∷ []) (sym e)
    steps f (y ∷ xs) (suc k) x lt e = ap (λ zs. f y ∷ zs) (steps f xs k x (omega (arith, lt)) e)

pub mapped_long : {A B : Type 0} (f : A → B) (xs : List A) (k : ℕ) → k < length xs → k ≡ length (map f (take k xs))
mapped_long f [] k lt = absurd (omega (arith, lt))
mapped_long f (y ∷ xs) zero lt = refl
mapped_long f (y ∷ xs) (suc k) lt = ap suc (mapped_long f xs k (omega (arith, lt)))
