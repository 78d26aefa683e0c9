-- Where the last of a name stands, in a table and among registers.
use Rattle.std.proofs.Common.{◌≡◌, ℕ, ◌+◌, zero, suc, Bool, true, false, ◌||◌, List, [], ◌∷◌, ◌++◌, map, length, get_or, Option, Some, None, refl, sym, ◌∙◌, ap, arith, slice_get, take, ◌<◌}
use Rattle.std.specs.Prelude.{if◌then◌else◌, filter}
use Rattle.std.specs.List.{list_any}
use Rattle.std.specs.Option.{option_map, is_some}
use Rattle.std.specs.Str.{bytes_eq}
use Rattle.std.specs.Map.{lookup}
use Rattle.indexmap.specs.IndexMap.{insert_entry}
use Rattle.vg_pseudo.specs.Names.{Register, last_register, last_function}
use Rattle.vg_names.specs.LastPlaces.{AreLast}
use Rattle.vg_pseudo.proofs.Taking.{same_text}
use Rattle.vg_names.proofs.Texts.{turned}

abbrev pub or_last : Bool → ℕ → Option ℕ → Option ℕ
or_last b k o = if b then Some k else o

-- one name more
last_more : (k : ℕ) (f : Option ℕ) (ms : List (List ℕ)) (m n : List ℕ)
    → last_function k f (ms ++ m ∷ []) n ≡ or_last (bytes_eq m n) (k + length ms) (last_function k f ms n)
last_more k f [] m n = ap (λ j. or_last (bytes_eq m n) j f) (omega arith)
last_more k f (x ∷ ms) m n =
    last_more (k + 1) (if bytes_eq x n then Some k else f) ms m n
    ∙ ap (λ j. or_last (bytes_eq m n) j (last_function (k + 1) (if bytes_eq x n then Some k else f) ms n)) (omega arith)

module _ {K : Type 0} (items : K → List ℕ) where
  -- what is found when this key is stored
  found_stored : (eq : K → K → Bool) → ((x y : K) → eq x y ≡ bytes_eq (items x) (items y)) → (key : K) (v : ℕ) (es : List (K × ℕ)) (n : List ℕ)
      → lookup (λ k. bytes_eq n (items k)) (insert_entry eq es key v) ≡ or_last (bytes_eq n (items key)) v (lookup (λ k. bytes_eq n (items k)) es)
  found_stored eq same key v [] n = by (bytes_eq n (items key)) refl
    where
      by : (b : Bool) → bytes_eq n (items key) ≡ b → lookup (λ k. bytes_eq n (items k)) ((key, v) ∷ []) ≡ or_last (bytes_eq n (items key)) v None
      by true e = rw e refl
      by false e = rw e refl
  found_stored eq same key v (x ∷ es) n = by (found_stored eq same key v es n) (bytes_eq (items key) (items x.0)) refl (bytes_eq n (items x.0)) refl
    where
      -- the name is as much this key as it is the one that stands there
      same_key : bytes_eq (items key) (items x.0) ≡ true → bytes_eq n (items key) ≡ bytes_eq n (items x.0)
      same_key e = ap (bytes_eq n) (same_text (items key) (items x.0) e)

      -- and where it is the one that stands there, it is not this key
      other_key : bytes_eq (items key) (items x.0) ≡ false → bytes_eq n (items x.0) ≡ true → bytes_eq n (items key) ≡ false
      other_key e f = ap (λ (t : List ℕ). bytes_eq t (items key)) (same_text n (items x.0) f) ∙ turned (items x.0) (items key) ∙ e

      by : lookup (λ k. bytes_eq n (items k)) (insert_entry eq es key v) ≡ or_last (bytes_eq n (items key)) v (lookup (λ k. bytes_eq n (items k)) es)
          → (b : Bool) → bytes_eq (items key) (items x.0) ≡ b → (d : Bool) → bytes_eq n (items x.0) ≡ d
          → lookup (λ k. bytes_eq n (items k)) (insert_entry eq (x ∷ es) key v) ≡ or_last (bytes_eq n (items key)) v (lookup (λ k. bytes_eq n (items k)) (x ∷ es))
      by g true e true f = rw (same_key e, same key x.0, e, f) refl
      by g true e false f = rw (same_key e, same key x.0, e, f) refl
      by g false e true f = rw (other_key e f, same key x.0, e, f) refl
      by g false e false f = rw (same key x.0, e, f) g

  -- a table of last places with this name stored at the end is one of one name more
  pub stays_last : (eq : K → K → Bool) → ((x y : K) → eq x y ≡ bytes_eq (items x) (items y)) → (key : K) (names : List (List ℕ)) (es : List (K × ℕ))
      → AreLast items names es → AreLast items (names ++ items key ∷ []) (insert_entry eq es key (length names))
  stays_last eq same key names es h n =
      found_stored eq same key (length names) es n
      ∙ ap (λ b. or_last b (length names) (lookup (λ k. bytes_eq n (items k)) es)) (turned n (items key))
      ∙ ap (or_last (bytes_eq (items key) n) (length names)) (h n)
      ∙ sym (last_more 0 None names (items key) n ∙ ap (λ j. or_last (bytes_eq (items key) n) j (last_function 0 None names n)) (omega arith))

-- ---- registers

-- a place, and the register that stands there
abbrev pub Stands : List Register → Option ℕ → Option (ℕ × Register) → Type 0
Stands all None None = Unit {0}
Stands all (Some i) (Some q) = (q.0 ≡ i) × (slice_get all i ≡ Some q.1)
Stands all _ _ = ⊥

-- the last of all from a place on are these
abbrev Follow : List Register → ℕ → List Register → Type 0
Follow all k rs = (j : ℕ) → slice_get rs j ≡ slice_get all (k + j)

kept-or : (b : Bool) (all : List Register) (k : ℕ) (r : Register) (f : Option ℕ) (g : Option (ℕ × Register)) → slice_get all k ≡ Some r → Stands all f g
    → Stands all (if b then Some k else f) (if b then Some (k, r) else g)
kept-or true all k r f g at h = (refl, at)
kept-or false all k r f g at h = h

last-stands : (all : List Register) (k : ℕ) (f : Option ℕ) (g : Option (ℕ × Register)) (rs : List Register) (n : List ℕ) → Follow all k rs → Stands all f g
    → Stands all (last_function k f (map (λ r. r.name) rs) n) (last_register k g rs n)
last-stands all k f g [] n follow h = h
last-stands all k f g (r ∷ rs) n follow h =
    let at : slice_get all k ≡ Some r = ap (slice_get all) (omega arith) ∙ sym (follow 0) in
    last-stands all (k + 1) (if bytes_eq r.name n then Some k else f) (if bytes_eq r.name n then Some (k, r) else g) rs n
    (λ j. follow (suc j) ∙ ap (slice_get all) (omega arith))
    (kept-or (bytes_eq r.name n) all k r f g at h)

pub stands_none : (all : List Register) (f : Option ℕ) (g : Option (ℕ × Register)) → Stands all f g → f ≡ None → g ≡ None
stands_none all None None h e = refl
stands_none all None (Some q) h e = absurd h
stands_none all (Some i) g h e = absurd (cc)

pub stands_some : (all : List Register) (f : Option ℕ) (g : Option (ℕ × Register)) (i : ℕ) → Stands all f g → f ≡ Some i
    → (r : Register) × (g ≡ Some (i, r)) × (slice_get all i ≡ Some r)
stands_some all None g i h e = absurd (cc)
stands_some all (Some k) None i h e = absurd h
stands_some all (Some k) (Some q) i h e =
    let same : k ≡ i = cc in
    (q.1, ap (λ j. Some (j, q.1)) (h.0 ∙ same), ap (slice_get all) (sym same) ∙ h.1)

pub last_stands : (all : List Register) (n : List ℕ) → Stands all (last_function 0 None (map (λ r. r.name) all) n) (last_register 0 None all n)
last_stands all n = last-stands all 0 None None all n (λ j. ap (slice_get all) (omega arith)) tt

or_step : (b : Bool) (k : ℕ) (f : Option ℕ) (x : Bool) → (is_some (if b then Some k else f) || x) ≡ (is_some f || (b || x))
or_step true k None x = refl
or_step true k (Some i) x = refl
or_step false k None x = refl
or_step false k (Some i) x = refl

-- a place is found where one has the name
any_last : (k : ℕ) (f : Option ℕ) (rs : List Register) (n : List ℕ)
    → is_some (last_function k f (map (λ r. r.name) rs) n) ≡ (is_some f || list_any (λ r. bytes_eq r.name n) rs)
any_last k None [] n = refl
any_last k (Some i) [] n = refl
any_last k f (r ∷ rs) n =
    any_last (k + 1) (if bytes_eq r.name n then Some k else f) rs n
    ∙ or_step (bytes_eq r.name n) k f (list_any (λ r. bytes_eq r.name n) rs)

pub any_is_last : (rs : List Register) (n : List ℕ) → is_some (last_function 0 None (map (λ r. r.name) rs) n) ≡ list_any (λ r. bytes_eq r.name n) rs
any_is_last rs n = any_last 0 None rs n

-- what stands at a place of a mapped list
pub mapped_at : {A B : Type 0} (f : A → B) (xs : List A) (i : ℕ) → slice_get (map f xs) i ≡ option_map f (slice_get xs i)
mapped_at f [] i = refl
mapped_at f (x ∷ xs) zero = refl
mapped_at f (x ∷ xs) (suc i) = mapped_at f xs i

-- one item more of those that pass, mapped
pub one_kept : {A B : Type 0} (f : A → B) (p : B → Bool) (xs : List A) (i : ℕ) (d : A) → i < length xs
    → filter p (map f (take (suc i) xs)) ≡ filter p (map f (take i xs)) ++ filter p (f (get_or xs i d) ∷ [])
one_kept f p [] i d h = absurd (omega (arith, h))
one_kept f p (x ∷ xs) zero d h = refl
one_kept f p (x ∷ xs) (suc i) d h = front (p (f x)) (one_kept f p xs i d (omega (arith, h)))
  where
    front : (b : Bool) → filter p (map f (take (suc i) xs)) ≡ filter p (map f (take i xs)) ++ filter p (f (get_or xs i d) ∷ [])
        → (if b then f x ∷ filter p (map f (take (suc i) xs)) else filter p (map f (take (suc i) xs)))
        ≡ (if b then f x ∷ filter p (map f (take i xs)) else filter p (map f (take i xs))) ++ filter p (f (get_or xs i d) ∷ [])
    front true g = ap (λ ys. f x ∷ ys) g
    front false g = g

-- one item more, mapped
pub one_more_mapped : {A B : Type 0} (f : A → B) (xs : List A) (i : ℕ) (x : A) → i < length xs → x ≡ get_or xs i x
    → map f (take (i + 1) xs) ≡ map f (take i xs) ++ f x ∷ []
one_more_mapped f xs i x h e = let next : i + 1 ≡ suc i = omega arith in ap (λ k. map f (take k xs)) next ∙ steps f xs i x h e
  where
    steps : {A B : Type 0} (f : A → B) (xs : List A) (i : ℕ) (x : A) → i < length xs → x ≡ get_or xs i x → map f (take (suc i) xs) ≡ map f (take i xs) ++ f x ∷ []
    steps f [] i x h e = absurd (omega (arith, h))
    steps f (y ∷ xs) zero x h e = ap (λ z. f z ∷ []) (sym e)
    steps f (y ∷ xs) (suc i) x h e = ap (λ zs. f y ∷ zs) (steps f xs i x (omega (arith, h)) e)
