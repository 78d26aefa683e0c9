-- Names in a table that keeps their order are found as in the list.
use Rattle.std.proofs.Common.{◌≡◌, ℕ, ◌+◌, Bool, true, false, List, [], ◌∷◌, ◌++◌, map, Option, Some, None, refl, sym, ◌∙◌, ap, true≢false}
use Rattle.std.specs.Str.{bytes_eq}
use Rattle.std.specs.List.{position, position_from}
use Rattle.std.proofs.lemmas.Iterator.Adapters.{position_from-zero}
use Rattle.std.specs.Map.{keys_of, lookup}
use Rattle.indexmap.specs.IndexMap.{insert_entry}
use Rattle.vg_kernel.specs.declared.given.Given.{Given}
use Rattle.vg_kernel.specs.declared.given.Given.TheVariants as given
use Rattle.vg_kernel.specs.declared.value_type.ValueType.{ValueType}
use Rattle.vg_kernel.specs.Names.{AssignedName, assigned_named}
use Rattle.vg_kernel.proofs.Scripts.{same_text, text_is_itself}

-- a test of two texts may be turned
turned : (a b : List ℕ) → bytes_eq a b ≡ bytes_eq b a
turned a b = by (bytes_eq a b) refl (bytes_eq b a) refl
  where
    by : (x : Bool) → bytes_eq a b ≡ x → (y : Bool) → bytes_eq b a ≡ y → bytes_eq a b ≡ bytes_eq b a
    by true e true f = e ∙ sym f
    by false e false f = e ∙ sym f
    by true e false f = absurd (true≢false (sym (text_is_itself a) ∙ ap (λ (t : List ℕ). bytes_eq t a) (same_text a b e) ∙ f))
    by false e true f = absurd (true≢false (sym (text_is_itself b) ∙ ap (λ (t : List ℕ). bytes_eq t b) (same_text b a f) ∙ e))

module _ {K : Type 0} (items : K → List ℕ) where
  -- the names of a table and what they name, in order
  abbrev pub listed : List (K × ValueType) → List AssignedName
  listed es = map (λ (e : K × ValueType). record { name = items e.0; value_type = e.1 }) es

  -- a key is this name
  abbrev pub is_named : List ℕ → K → Bool
  is_named name x = bytes_eq name (items x)

  -- what stands at a place
  abbrev pub given_at : Option ℕ → Option ValueType → Option Given
  given_at (Some i) (Some t) = Some (given.Assigned i t)
  given_at (Some i) None = None
  given_at None t = None

  -- the place of a name in the table is its number, and its value there is what it names
  pub found : (k : ℕ) (name : List ℕ) (es : List (K × ValueType))
      → assigned_named k (listed es) name ≡ given_at (position_from (is_named name) k (keys_of es)) (lookup (is_named name) es)
  unfolding assigned_named
  found k name [] = refl
  found k name (e ∷ es) = by (bytes_eq name (items e.0)) refl (found (k + 1) name es)
    where
      by : (b : Bool) → bytes_eq name (items e.0) ≡ b → assigned_named (k + 1) (listed es) name ≡ given_at (position_from (is_named name) (k + 1) (keys_of es)) (lookup (is_named name) es)
          → assigned_named k (listed (e ∷ es)) name ≡ given_at (position_from (is_named name) k (keys_of (e ∷ es))) (lookup (is_named name) (e ∷ es))
      by true f rest = rw (turned (items e.0) name, f) refl
      by false f rest = rw (turned (items e.0) name, f) rest

  -- a name that is found
  pub found_at : (name : List ℕ) (es : List (K × ValueType)) (i : ℕ) (t : ValueType) → Some i ≡ position (is_named name) (keys_of es) → Some t ≡ lookup (is_named name) es
      → Some (given.Assigned i t) ≡ assigned_named 0 (listed es) name
  found_at name es i t place type =
      let at : Some i ≡ position_from (is_named name) 0 (keys_of es) = place ∙ position_from-zero (is_named name) (keys_of es) in
      sym (found 0 name es ∙ ap (λ (o : Option ℕ). given_at o (lookup (is_named name) es)) (sym at) ∙ ap (given_at (Some i)) (sym type))

  -- a name that is not
  pub found_nowhere : (name : List ℕ) (es : List (K × ValueType)) → None ≡ position (is_named name) (keys_of es) → None ≡ assigned_named 0 (listed es) name
  found_nowhere name es place =
      let at : None ≡ position_from (is_named name) 0 (keys_of es) = place ∙ position_from-zero (is_named name) (keys_of es) in
      sym (found 0 name es ∙ ap (λ (o : Option ℕ). given_at o (lookup (is_named name) es)) (sym at))

  -- a new name goes last
  pub goes_last : (eq : K → K → Bool) → ((x y : K) → eq x y ≡ bytes_eq (items x) (items y)) → (k : ℕ) (key : K) (type : ValueType) (es : List (K × ValueType))
      → assigned_named k (listed es) (items key) ≡ None → listed (insert_entry eq es key type) ≡ listed es ++ record { name = items key; value_type = type } ∷ []
  unfolding assigned_named
  goes_last eq same k key type [] none = refl
  goes_last eq same k key type (e ∷ es) none = by (bytes_eq (items e.0) (items key)) refl (goes_last eq same (k + 1) key type es)
    where
      by : (b : Bool) → bytes_eq (items e.0) (items key) ≡ b
          → (assigned_named (k + 1) (listed es) (items key) ≡ None → listed (insert_entry eq es key type) ≡ listed es ++ record { name = items key; value_type = type } ∷ [])
          → listed (insert_entry eq (e ∷ es) key type) ≡ listed (e ∷ es) ++ record { name = items key; value_type = type } ∷ []
      by true f behind = let no : assigned_named k (listed (e ∷ es)) (items key) ≡ Some (given.Assigned k e.1) = rw f refl in cc
      by false f behind =
          let rest : assigned_named (k + 1) (listed es) (items key) ≡ None = rw f at none in
          let other : eq key e.0 ≡ false = same key e.0 ∙ turned (items key) (items e.0) ∙ f in
          rw other (ap (λ (xs : List AssignedName). record { name = items e.0; value_type = e.1 } ∷ xs) (behind rest))
