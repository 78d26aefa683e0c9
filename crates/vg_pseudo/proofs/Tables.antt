-- DEFINEs in a table that keeps their order are found as in the list.
use Rattle.std.proofs.Common.{◌≡◌, ℕ, Bool, true, false, List, [], ◌∷◌, map, refl, ap}
use Rattle.std.specs.Str.{bytes_eq}
use Rattle.std.specs.Map.{lookup}
use Rattle.indexmap.specs.IndexMap.{insert_entry}
use Rattle.vg_pseudo.specs.declared.definitions.Callee.{Callee}
use Rattle.vg_pseudo.specs.Definitions.{Known, callee_of, with_callee}

module _ {K : Type 0} (items : K → List ℕ) where
  -- the names of a table and what is known of them, in order
  abbrev pub listed : List (K × Callee) → List Known
  listed es = map (λ (e : K × Callee). record { name = items e.0; callee = e.1 }) es

  -- a key is this name
  abbrev pub is_named : List ℕ → K → Bool
  is_named name x = bytes_eq name (items x)

  -- a name is found
  pub callee_at : (name : List ℕ) (es : List (K × Callee)) → callee_of (listed es) name ≡ lookup (is_named name) es
  unfolding callee_of
  callee_at name [] = refl
  callee_at name (e ∷ es) = by (bytes_eq name (items e.0)) refl (callee_at name es)
    where
      by : (b : Bool) → bytes_eq name (items e.0) ≡ b → callee_of (listed es) name ≡ lookup (is_named name) es → callee_of (listed (e ∷ es)) name ≡ lookup (is_named name) (e ∷ es)
      by true f rest = rw f refl
      by false f rest = rw f rest

  -- a name is stored
  pub stored : (eq : K → K → Bool) → ((x y : K) → eq x y ≡ bytes_eq (items x) (items y)) → (key : K) (callee : Callee) (es : List (K × Callee)) → listed (insert_entry eq es key callee) ≡ with_callee (listed es) (items key) callee
  unfolding with_callee
  stored eq same key callee [] = refl
  stored eq same key callee (e ∷ es) = by (bytes_eq (items key) (items e.0)) refl (stored eq same key callee es)
    where
      by : (b : Bool) → bytes_eq (items key) (items e.0) ≡ b → listed (insert_entry eq es key callee) ≡ with_callee (listed es) (items key) callee → listed (insert_entry eq (e ∷ es) key callee) ≡ with_callee (listed (e ∷ es)) (items key) callee
      by true f rest = rw (same key e.0, f) refl
      by false f rest = rw (same key e.0, f) (ap (λ (ks : List Known). record { name = items e.0; callee = e.1 } ∷ ks) rest)
