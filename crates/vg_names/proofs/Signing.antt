-- What is gathered of the signs of locals is what is shown of them in so many steps.
use Rattle.std.proofs.Common.{◌≡◌, ℕ, ◌+◌, zero, suc, ◌<◌, Bool, true, false, ◌||◌, ◌&&◌, List, [], ◌∷◌, ◌++◌, map, length, get_or, replicate, Option, Some, None, refl, sym, ◌∙◌, ap, arith, true≢false}
use Rattle.std.specs.Prelude.{fold, filter, not, if◌then◌else◌}
use Rattle.std.specs.List.{list_any}
use Rattle.std.specs.Option.{option_map, option_map_or}
use Rattle.std.specs.Str.{bytes_eq}
use Rattle.vg_pseudo.specs.Tree.{Expression}
use Rattle.vg_pseudo.specs.Tree as tree
use Rattle.vg_pseudo.specs.Names.{Assignment, Register, has_name, distinct_behind}
use Rattle.vg_pseudo.specs.Signs.{Signs, gives_signed, keeps_sign, joins_signs, is_signed, is_signed_register, signed_in}
use Rattle.vg_pseudo.specs.Resolve.{assigned_to, locals_of}
use Rattle.vg_pseudo.proofs.Taking.{same_text}
use Rattle.vg_names.specs.Assigned.{is_local}
use Rattle.vg_names.specs.Distinct.{place_of, with_name}
use Rattle.vg_names.specs.Gathered.{whole_of, signs_of, with_sign, signed_next, signed_after}
use Rattle.vg_names.proofs.Gathering.{gathered_at}

-- ---- names and their places

place-moved : (o : Option ℕ) (i : ℕ) → option_map (λ (k : ℕ). k + 1) o ≡ Some i → (j : ℕ) × (o ≡ Some j) × (i ≡ suc j)
place-moved None i e = absurd (cc)
place-moved (Some j) i e = let same : j + 1 ≡ i = cc in (j, refl, omega (arith, same))

pub place_found : (names : List (List ℕ)) (n : List ℕ) (i : ℕ) → place_of names n ≡ Some i → (i < length names) × (get_or names i [] ≡ n)
place_found [] n i e = absurd (cc)
place_found (m ∷ names) n i e = by (λ j. place_found names n j) (bytes_eq m n) refl
  where
    by : ((j : ℕ) → place_of names n ≡ Some j → (j < length names) × (get_or names j [] ≡ n)) → (b : Bool) → bytes_eq m n ≡ b → (i < length (m ∷ names)) × (get_or (m ∷ names) i [] ≡ n)
    by g true f =
        let h : place_of (m ∷ names) n ≡ Some 0 = rw f refl in
        let zeroth : i ≡ 0 = sym (let same : Some 0 ≡ Some i = sym h ∙ e in cc) in
        rw zeroth (omega arith, same_text m n f)
    by g false f =
        let h : place_of (m ∷ names) n ≡ option_map (λ (k : ℕ). k + 1) (place_of names n) = rw f refl in
        let j = place-moved (place_of names n) i (sym h ∙ e) in
        let q = g j.0 j.1 in
        rw (j.2) (omega (arith, q.0), q.1)

nowhere : (names : List (List ℕ)) (n : List ℕ) → place_of names n ≡ None → has_name names n ≡ false
nowhere [] n e = refl
nowhere (m ∷ names) n e = by (nowhere names n) (bytes_eq m n) refl (place_of names n) refl
  where
    by : (place_of names n ≡ None → has_name names n ≡ false) → (b : Bool) → bytes_eq m n ≡ b → (o : Option ℕ) → place_of names n ≡ o → has_name (m ∷ names) n ≡ false
    by g true f o p = let h : place_of (m ∷ names) n ≡ Some 0 = rw f refl in absurd (cc)
    by g false f None p = rw f (g p)
    by g false f (Some j) p = let h : place_of (m ∷ names) n ≡ Some (j + 1) = rw (f, p) refl in absurd (cc)

or-assoc : (a b c : Bool) → ((a || b) || c) ≡ (a || (b || c))
or-assoc true b c = refl
or-assoc false b c = refl

any-append : {A : Type 0} (p : A → Bool) (xs ys : List A) → list_any p (xs ++ ys) ≡ (list_any p xs || list_any p ys)
any-append p [] ys = refl
any-append p (x ∷ xs) ys = ap (λ b. p x || b) (any-append p xs ys) ∙ sym (or-assoc (p x) (list_any p xs) (list_any p ys))

or-false : (a : Bool) → (a || false) ≡ a
or-false true = refl
or-false false = refl

-- one name more is among them, or was
with-one : (before : List (List ℕ)) (m n : List ℕ) → has_name (with_name before m) n ≡ (has_name before n || bytes_eq m n)
with-one before m n = by (has_name before m) refl (bytes_eq m n) refl
  where
    by : (b : Bool) → has_name before m ≡ b → (d : Bool) → bytes_eq m n ≡ d → has_name (with_name before m) n ≡ (has_name before n || bytes_eq m n)
    by true e true f =
        let there : has_name before n ≡ true = ap (has_name before) (sym (same_text m n f)) ∙ e in
        rw (e, there) refl
    by true e false f = rw (e, f) (sym (or-false (has_name before n)))
    by false e d f = rw e (any-append (λ x. bytes_eq x n) before (m ∷ []) ∙ ap (λ b. has_name before n || b) (or-false (bytes_eq m n)))

pub has-behind : (before ns : List (List ℕ)) (n : List ℕ) → has_name (distinct_behind before ns) n ≡ (has_name before n || has_name ns n)
has-behind before [] n = sym (or-false (has_name before n))
has-behind before (m ∷ ns) n =
    has-behind (with_name before m) ns n ∙ ap (λ b. b || has_name ns n) (with-one before m n) ∙ or-assoc (has_name before n) (bytes_eq m n) (has_name ns n)

-- ---- locals

abbrev names_in : List Assignment → List (List ℕ)
names_in as' = map (λ a. a.name) as'

any-of : (t : Assignment → Bool) (as' : List Assignment) (n : List ℕ) → has_name (names_in as') n ≡ false → list_any (λ a. bytes_eq a.name n && t a) as' ≡ false
any-of t [] n e = refl
any-of t (a ∷ as') n e = by (any-of t as' n) (bytes_eq a.name n) refl
  where
    by : (has_name (names_in as') n ≡ false → list_any (λ a. bytes_eq a.name n && t a) as' ≡ false) → (b : Bool) → bytes_eq a.name n ≡ b → list_any (λ a. bytes_eq a.name n && t a) (a ∷ as') ≡ false
    by g true f = absurd (true≢false (let h : has_name (names_in (a ∷ as')) n ≡ true = rw f refl in sym h ∙ e))
    by g false f = rw f (let h : has_name (names_in (a ∷ as')) n ≡ has_name (names_in as') n = rw f refl in g (sym h ∙ e))

-- each has a local's name
abbrev pub AllLocal : List Register → List Assignment → Type 0
AllLocal given [] = Unit {0}
AllLocal given (a ∷ as') = (is_local given a ≡ true) × AllLocal given as'

pub filtered_local : (given : List Register) (as' : List Assignment) → AllLocal given (filter (is_local given) as')
filtered_local given [] = tt
filtered_local given (a ∷ as') = by (is_local given a) refl (filtered_local given as')
  where
    by : (b : Bool) → is_local given a ≡ b → AllLocal given (filter (is_local given) as') → AllLocal given (filter (is_local given) (a ∷ as'))
    by true e h = rw e (e, h)
    by false e h = rw e h

abbrev pub Apart : List Register → List ℕ → Type 0
Apart given n = list_any (λ r. bytes_eq r.name n) given ≡ false

not-true : (b : Bool) → not b ≡ true → b ≡ false
not-true true e = sym e
not-true false e = refl

-- a name among them is a local's
local-apart : (given : List Register) (as' : List Assignment) (n : List ℕ) → AllLocal given as' → has_name (names_in as') n ≡ true → Apart given n
local-apart given [] n h e = absurd (true≢false (sym e))
local-apart given (a ∷ as') n h e = by (local-apart given as' n h.1) (bytes_eq a.name n) refl
  where
    by : (has_name (names_in as') n ≡ true → Apart given n) → (b : Bool) → bytes_eq a.name n ≡ b → Apart given n
    by g true f = ap (λ m. list_any (λ r. bytes_eq r.name m) given) (sym (same_text a.name n f)) ∙ not-true _ h.0
    by g false f = g (let k : has_name (names_in (a ∷ as')) n ≡ has_name (names_in as') n = rw f refl in sym k ∙ e)

apart-unsigned : (p : Register → Bool) (given : List Register) (n : List ℕ) → Apart given n → is_signed_register p given n ≡ false
apart-unsigned p [] n e = refl
apart-unsigned p (r ∷ rs) n e = by (apart-unsigned p rs n) (bytes_eq r.name n) refl
  where
    by : (Apart rs n → is_signed_register p rs n ≡ false) → (b : Bool) → bytes_eq r.name n ≡ b → is_signed_register p (r ∷ rs) n ≡ false
    by g true f = absurd (true≢false (let h : list_any (λ r. bytes_eq r.name n) (r ∷ rs) ≡ true = rw f refl in sym h ∙ e))
    by g false f = rw f (let h : list_any (λ r. bytes_eq r.name n) (r ∷ rs) ≡ list_any (λ r. bytes_eq r.name n) rs = rw f refl in g (sym h ∙ e))

found-has : (names : List (List ℕ)) (n : List ℕ) (i : ℕ) → place_of names n ≡ Some i → has_name names n ≡ true
found-has [] n i e = absurd (cc)
found-has (m ∷ names) n i e = by (λ j. found-has names n j) (bytes_eq m n) refl
  where
    by : ((j : ℕ) → place_of names n ≡ Some j → has_name names n ≡ true) → (b : Bool) → bytes_eq m n ≡ b → has_name (m ∷ names) n ≡ true
    by g true f = rw f refl
    by g false f =
        let h : place_of (m ∷ names) n ≡ option_map (λ (k : ℕ). k + 1) (place_of names n) = rw f refl in
        let j = place-moved (place_of names n) i (sym h ∙ e) in
        rw f (g j.0 j.1)

-- ---- signs

pub signs-same : (s t : Signs) → ((n : List ℕ) → s.slices n ≡ t.slices n) → ((n : List ℕ) → s.whole n ≡ t.whole n) → (ts : List (List ℕ)) (e : Expression) → is_signed s ts e ≡ is_signed t ts e
signs-same s t a b ts (tree.number at n) = refl
signs-same s t a b ts (tree.name at n) = ap (λ x. not (has_name ts n) && x) (b n)
signs-same s t a b ts (tree.slice at n h l) = ap (λ x. not (has_name ts n) && x) (a n)
signs-same s t a b ts (tree.bit at n k) = refl
signs-same s t a b ts (tree.element at n w k) = ap (λ x. not (has_name ts n) && x) (a n)
signs-same s t a b ts (tree.part at n w) = ap (λ x. not (has_name ts n) && x) (b n)
signs-same s t a b ts (tree.unary at op x) = ap (λ y. gives_signed op || (keeps_sign op && y)) (signs-same s t a b ts x)
signs-same s t a b ts (tree.binary at op x y) = ap (λ z. joins_signs op && (z || is_signed s ts y)) (signs-same s t a b ts x) ∙ ap (λ z. joins_signs op && (is_signed t ts x || z)) (signs-same s t a b ts y)
signs-same s t a b ts (tree.choice at c x y) = ap (λ z. z || is_signed s ts y) (signs-same s t a b ts x) ∙ ap (λ z. is_signed t ts x || z) (signs-same s t a b ts y)
signs-same s t a b ts (tree.call at n xs) = refl

-- some assignment to the name is signed
gathered-any : (t : Assignment → Bool) (b : Bool) (as' : List Assignment) (n : List ℕ)
    → fold (λ (x : Bool) (a : Assignment). x || t a) b (assigned_to n as') ≡ (b || list_any (λ a. bytes_eq a.name n && t a) as')
gathered-any t b [] n = sym (or-false b)
gathered-any t b (a ∷ as') n = by (λ d. gathered-any t d as' n) (bytes_eq a.name n)
  where
    by : ((d : Bool) → fold (λ (x : Bool) (a : Assignment). x || t a) d (assigned_to n as') ≡ (d || list_any (λ a. bytes_eq a.name n && t a) as'))
        → (c : Bool) → fold (λ (x : Bool) (a : Assignment). x || t a) b (if c then a ∷ assigned_to n as' else assigned_to n as')
        ≡ (b || ((c && t a) || list_any (λ a. bytes_eq a.name n && t a) as'))
    by g true = g (b || t a) ∙ or-assoc b (t a) (list_any (λ a. bytes_eq a.name n && t a) as')
    by g false = g b

pub any-same : {A : Type 0} (p q : A → Bool) → ((x : A) → p x ≡ q x) → (xs : List A) → list_any p xs ≡ list_any q xs
any-same p q e [] = refl
any-same p q e (x ∷ xs) = ap (λ b. b || list_any p xs) (e x) ∙ ap (λ b. q x || b) (any-same p q e xs)

none-yet : (i n : ℕ) → get_or (replicate n false) i false ≡ false
none-yet i zero = refl
none-yet zero (suc n) = refl
none-yet (suc i) (suc n) = none-yet i n

-- a local is not given
pub placed_apart : (given : List Register) (as' : List Assignment) → AllLocal given as' → (n : List ℕ) (i : ℕ) → place_of (locals_of as') n ≡ Some i → Apart given n
placed_apart given as' local n i e = local-apart given as' n local (sym (has-behind [] (names_in as') n) ∙ found-has (locals_of as') n i e)

-- and what is no local is not assigned
pub unplaced : (as' : List Assignment) (t : Assignment → Bool) (n : List ℕ) → place_of (locals_of as') n ≡ None → list_any (λ a. bytes_eq a.name n && t a) as' ≡ false
unplaced as' t n e = any-of t as' n (sym (has-behind [] (names_in as') n) ∙ nowhere (locals_of as') n e)

-- the names are those of locals, and whatever is assigned is among them
module _ (given : List Register) (names : List (List ℕ)) (as' : List Assignment) (placed-apart : (n : List ℕ) (i : ℕ) → place_of names n ≡ Some i → Apart given n)
    (unassigned : (t : Assignment → Bool) (n : List ℕ) → place_of names n ≡ None → list_any (λ a. bytes_eq a.name n && t a) as' ≡ false) where
  abbrev Known : ℕ → Type 0
  Known k = (n : List ℕ) → whole_of given names (signed_after given names as' k) n ≡ signed_in given as' k n

  first-known : Known zero
  first-known n = by (place_of names n) refl
    where
      by : (o : Option ℕ) → place_of names n ≡ o
          → option_map_or (λ i. get_or (replicate (length names) false) i false) o (is_signed_register (λ r. r.signed_whole) given n) ≡ is_signed_register (λ r. r.signed_whole) given n
      by None e = refl
      by (Some i) e = none-yet i (length names) ∙ sym (apart-unsigned (λ r. r.signed_whole) given n (placed-apart n i e))

  next-known : (k : ℕ) → Known k → Known (suc k)
  next-known k h n = by (place_of names n) refl
    where
      before : Signs
      before = signs_of given names (signed_after given names as' k)

      meant : Signs
      meant = record { slices = is_signed_register (λ r. r.signed_slices) given; whole = signed_in given as' k }

      tests : (a : Assignment) → (bytes_eq a.name n && is_signed before a.turns a.value) ≡ (bytes_eq a.name n && is_signed meant a.turns a.value)
      tests a = ap (λ b. bytes_eq a.name n && b) (signs-same before meant (λ m. refl) h a.turns a.value)

      by : (o : Option ℕ) → place_of names n ≡ o
          → option_map_or (λ i. get_or (signed_after given names as' (suc k)) i false) o (is_signed_register (λ r. r.signed_whole) given n) ≡ signed_in given as' (suc k) n
      by None e =
          sym (ap (λ b. is_signed_register (λ r. r.signed_whole) given n || b) (unassigned (λ a. is_signed meant a.turns a.value) n e)
          ∙ or-false (is_signed_register (λ r. r.signed_whole) given n))
      by (Some i) e =
          let at = place_found names n i e in
          gathered_at (with_sign before) false false names as' i at.0
          ∙ ap (λ m. fold (with_sign before) false (assigned_to m as')) at.1
          ∙ gathered-any (λ a. is_signed before a.turns a.value) false as' n
          ∙ any-same _ _ tests as'
          ∙ sym (ap (λ b. b || list_any (λ a. bytes_eq a.name n && is_signed meant a.turns a.value) as') (apart-unsigned (λ r. r.signed_whole) given n (placed-apart n i e)))

  known : (k : ℕ) → Known k
  known zero = first-known
  known (suc k) = next-known k (known k)

  -- of each local by its number
  pub signed_known : (k i : ℕ) → place_of names (get_or names i []) ≡ Some i
      → get_or (signed_after given names as' k) i false ≡ signed_in given as' k (get_or names i [])
  signed_known k i e =
      sym (ap (λ o. option_map_or (λ j. get_or (signed_after given names as' k) j false) o (is_signed_register (λ r. r.signed_whole) given (get_or names i []))) e)
      ∙ known k (get_or names i [])

-- ---- nothing changes any more

pub rests : (given : List Register) (names : List (List ℕ)) (as' : List Assignment) (k : ℕ) → signed_next given names as' (signed_after given names as' k) ≡ signed_after given names as' k
    → (j : ℕ) → signed_after given names as' (j + k) ≡ signed_after given names as' k
rests given names as' k e zero = ap (signed_after given names as') (omega arith)
rests given names as' k e (suc j) =
    let next : suc j + k ≡ suc (j + k) = omega arith in
    ap (signed_after given names as') next ∙ ap (signed_next given names as') (rests given names as' k e j) ∙ e
