-- The locals of a body, one after the other, are its registers and its number variables.
use Rattle.std.proofs.Common.{◌≡◌, ℕ, ◌+◌, zero, suc, ◌<◌, Bool, true, false, ◌||◌, ◌&&◌, List, [], ◌∷◌, ◌++◌, map, length, get_or, drop, Option, Some, None, refl, sym, ◌∙◌, ap, subst, arith, append_assoc, true≢false, Result, Ok, Err}
use Rattle.std.specs.Prelude.{fold, filter, not, if◌then◌else◌}
use Rattle.std.specs.List.{list_any}
use Rattle.std.specs.Result.{IfOk}
use Rattle.std.specs.Option.{option_map}
use Rattle.std.specs.Str.{bytes_eq}
use Rattle.std.proofs.lemmas.List.{append-nil, length-append}
use Rattle.vg_pseudo.specs.Tree.{Statements}
use Rattle.vg_pseudo.specs.Names.{Assignment, Register, has_name, first_place, distinct_behind}
use Rattle.vg_pseudo.specs.Signs.{is_signed, is_signed_register, signed_in}
use Rattle.vg_pseudo.specs.Resolve.{assigned_to, locals_of, local_assignments, register_assignments, number_locals, local_register, local_registers}
use Rattle.vg_names.specs.declared.forms.Forms.{Forms}
use Rattle.vg_names.specs.declared.forms.Forms.TheVariants.{Unseen}
use Rattle.vg_names.specs.Registers.{has_sign}
use Rattle.vg_names.specs.Bodies.{new_register, registers_of_local, with_variable, registers_from, variables_behind}
use Rattle.vg_names.specs.Distinct.{place_of, with_name, AreDistinct}
use Rattle.vg_names.specs.Gathered.{gathered, signed_after, with_form}
use Rattle.vg_names.proofs.Gathering.{gathered_at, forms_span}
use Rattle.vg_names.proofs.Signing.{AllLocal, filtered_local, placed_apart, unplaced, signed_known, signs-same, any-same}

-- what is left at a place
pub rest_at : {A : Type 0} (xs : List A) (i : ℕ) (d : A) → i < length xs → drop i xs ≡ get_or xs i d ∷ drop (i + 1) xs
rest_at xs i d h = steps xs i d h ∙ ap (λ k. get_or xs i d ∷ drop k xs) next
  where
    next : suc i ≡ i + 1
    next = omega arith

    steps : {A : Type 0} (xs : List A) (i : ℕ) (d : A) → i < length xs → drop i xs ≡ get_or xs i d ∷ drop (suc i) xs
    steps [] i d h = absurd (omega (arith, h))
    steps (x ∷ xs) zero d h = refl
    steps (x ∷ xs) (suc i) d h = steps xs i d (omega (arith, h))

pub mapped_item : {A B : Type 0} (f : A → B) (xs : List A) (i : ℕ) (x : A) (d : B) → i < length xs → x ≡ get_or xs i x → f x ≡ get_or (map f xs) i d
mapped_item f [] i x d h e = absurd (omega (arith, h))
mapped_item f (y ∷ xs) zero x d h e = ap f e
mapped_item f (y ∷ xs) (suc i) x d h e = mapped_item f xs i x d (omega (arith, h)) e

-- one local more is sorted
pub one_sorted : (marked : List (List ℕ)) (flags : List Bool) (forms : List Forms) (k : ℕ) (names : List (List ℕ)) (done after : List Register) (n : List ℕ)
    → k < length names → n ≡ get_or names k [] → after ≡ done ++ registers_of_local marked n (get_or flags k false) (get_or forms k Unseen)
    → after ++ registers_from marked flags forms (k + 1) (drop (k + 1) names) ≡ done ++ registers_from marked flags forms k (drop k names)
one_sorted marked flags forms k names done after n h is e =
    ap (λ xs. xs ++ registers_from marked flags forms (k + 1) (drop (k + 1) names)) e
    ∙ append_assoc done (registers_of_local marked n (get_or flags k false) (get_or forms k Unseen)) (registers_from marked flags forms (k + 1) (drop (k + 1) names))
    ∙ ap (λ m. done ++ registers_from marked flags forms k (m ∷ drop (k + 1) names)) is
    ∙ ap (λ xs. done ++ registers_from marked flags forms k xs) (sym (rest_at names k [] h))

pub one_variable : (marked : List (List ℕ)) (k : ℕ) (names : List (List ℕ)) (before after : List (List ℕ)) (n : List ℕ)
    → k < length names → n ≡ get_or names k [] → after ≡ with_variable marked before n
    → variables_behind marked after (drop (k + 1) names) ≡ variables_behind marked before (drop k names)
one_variable marked k names before after n h is e =
    ap (λ xs. variables_behind marked xs (drop (k + 1) names)) (e ∙ ap (with_variable marked before) is)
    ∙ ap (variables_behind marked before) (sym (rest_at names k [] h))

-- ---- registers

module _ (marked : List (List ℕ)) (flags : List Bool) (forms : List Forms) (h : List ℕ → Bool) (g : List ℕ → Forms) where
  abbrev Facts : ℕ → List (List ℕ) → Type 0
  Facts k ns = (i : ℕ) → i < length ns → (get_or flags (k + i) false ≡ h (get_or ns i [])) × (get_or forms (k + i) Unseen ≡ g (get_or ns i []))

  sorted : (k : ℕ) (ns : List (List ℕ)) → Facts k ns
      → registers_from marked flags forms k ns ≡ map (λ n. new_register n (h n) (g n)) (filter (has_name marked) ns)
  sorted k [] facts = refl
  sorted k (n ∷ ns) facts =
      by (has_name marked n)
      (sorted (k + 1) ns (λ i l.
      let next : (k + 1) + i ≡ k + suc i = omega arith in
      subst (λ j. (get_or flags j false ≡ h (get_or ns i [])) × (get_or forms j Unseen ≡ g (get_or ns i []))) (sym next) (facts (suc i) (omega (arith, l)))))
    where
      here : k ≡ k + 0
      here = omega arith

      flag : get_or flags k false ≡ h n
      flag = ap (λ j. get_or flags j false) here ∙ (facts 0 (omega arith)).0

      form : get_or forms k Unseen ≡ g n
      form = ap (λ j. get_or forms j Unseen) here ∙ (facts 0 (omega arith)).1

      by : (b : Bool) → registers_from marked flags forms (k + 1) ns ≡ map (λ n. new_register n (h n) (g n)) (filter (has_name marked) ns)
          → (if b then new_register n (get_or flags k false) (get_or forms k Unseen) ∷ [] else []) ++ registers_from marked flags forms (k + 1) ns
          ≡ map (λ n. new_register n (h n) (g n)) (if b then n ∷ filter (has_name marked) ns else filter (has_name marked) ns)
      by true e = ap (λ xs. new_register n (get_or flags k false) (get_or forms k Unseen) ∷ xs) e ∙ ap (λ r. r ∷ map (λ n. new_register n (h n) (g n)) (filter (has_name marked) ns))
          (ap (λ b. new_register n b (get_or forms k Unseen)) flag ∙ ap (new_register n (h n)) form)
      by false e = e

-- registers that have no sign do not count
kept-signed : (p : Register → Bool) → ((r : Register) → p r ≡ true → has_sign r ≡ true) → (given : List Register) (n : List ℕ)
    → is_signed_register p (filter has_sign given) n ≡ is_signed_register p given n
kept-signed p imp [] n = refl
kept-signed p imp (r ∷ rs) n = by (kept-signed p imp rs n) (has_sign r) refl (p r) refl
  where
    by : is_signed_register p (filter has_sign rs) n ≡ is_signed_register p rs n → (b : Bool) → has_sign r ≡ b → (d : Bool) → p r ≡ d
        → is_signed_register p (filter has_sign (r ∷ rs)) n ≡ is_signed_register p (r ∷ rs) n
    by e true s d q = rw s (ap (λ x. (bytes_eq r.name n && p r) || x) e)
    by e false s true q = absurd (true≢false (sym (imp r q) ∙ s))
    by e false s false q = rw (s, q) (e ∙ sym (ap (λ x. x || is_signed_register p rs n) (and-false (bytes_eq r.name n))))
      where
        and-false : (a : Bool) → (a && false) ≡ false
        and-false true = refl
        and-false false = refl

slices-count : (r : Register) → r.signed_slices ≡ true → has_sign r ≡ true
slices-count r e = ap (λ b. b || r.signed_whole) e

whole-counts : (r : Register) → r.signed_whole ≡ true → has_sign r ≡ true
whole-counts r e = ap (λ b. r.signed_slices || b) e ∙ or-true r.signed_slices
  where
    or-true : (a : Bool) → (a || true) ≡ true
    or-true true = refl
    or-true false = refl

signed-same : (given : List Register) (as' : List Assignment) (k : ℕ) (n : List ℕ) → signed_in (filter has_sign given) as' k n ≡ signed_in given as' k n
signed-same given as' zero n = kept-signed (λ r. r.signed_whole) whole-counts given n
signed-same given as' (suc k) n =
    ap (λ b. b || list_any (λ a. bytes_eq a.name n && is_signed (record { slices = is_signed_register (λ r. r.signed_slices) (filter has_sign given); whole = signed_in (filter has_sign given) as' k }) a.turns a.value) as')
    (kept-signed (λ r. r.signed_whole) whole-counts given n)
    ∙ ap (λ b. is_signed_register (λ r. r.signed_whole) given n || b)
    (any-same _ _ (λ a. ap (λ b. bytes_eq a.name n && b)
    (signs-same (record { slices = is_signed_register (λ r. r.signed_slices) (filter has_sign given); whole = signed_in (filter has_sign given) as' k })
    (record { slices = is_signed_register (λ r. r.signed_slices) given; whole = signed_in given as' k })
    (λ m. kept-signed (λ r. r.signed_slices) slices-count given m) (λ m. signed-same given as' k m) a.turns a.value)) as')

-- all that is asked of locals to the signed registers alone is that they are no given ones
local-kept : (given : List Register) (as' : List Assignment) → AllLocal given as' → AllLocal (filter has_sign given) as'
local-kept given [] h = tt
local-kept given (a ∷ as') h = (ap not (apart given (not-true _ h.0)), local-kept given as' h.1)
  where
    not-true : (b : Bool) → not b ≡ true → b ≡ false
    not-true true e = sym e
    not-true false e = refl

    apart : (rs : List Register) → list_any (λ r. bytes_eq r.name a.name) rs ≡ false → list_any (λ r. bytes_eq r.name a.name) (filter has_sign rs) ≡ false
    apart [] e = refl
    apart (r ∷ rs) e = by (apart rs) (bytes_eq r.name a.name) refl (has_sign r)
      where
        by : (list_any (λ r. bytes_eq r.name a.name) rs ≡ false → list_any (λ r. bytes_eq r.name a.name) (filter has_sign rs) ≡ false)
            → (b : Bool) → bytes_eq r.name a.name ≡ b → (d : Bool) → list_any (λ r. bytes_eq r.name a.name) (if d then r ∷ filter has_sign rs else filter has_sign rs) ≡ false
        by k true f d = absurd (true≢false (let q : list_any (λ r. bytes_eq r.name a.name) (r ∷ rs) ≡ true = rw f refl in sym q ∙ e))
        by k false f true = rw f (k (let q : list_any (λ r. bytes_eq r.name a.name) (r ∷ rs) ≡ list_any (λ r. bytes_eq r.name a.name) rs = rw f refl in sym q ∙ e))
        by k false f false = k (let q : list_any (λ r. bytes_eq r.name a.name) (r ∷ rs) ≡ list_any (λ r. bytes_eq r.name a.name) rs = rw f refl in sym q ∙ e)

-- what is left of views is seen of what is left
pub mapped_filter : {A B : Type 0} (f : A → B) (q : B → Bool) (xs : List A) → map f (filter (λ x. q (f x)) xs) ≡ filter q (map f xs)
mapped_filter f q [] = refl
mapped_filter f q (x ∷ xs) = by (q (f x)) (mapped_filter f q xs)
  where
    by : (b : Bool) → map f (filter (λ y. q (f y)) xs) ≡ filter q (map f xs)
        → map f (if b then x ∷ filter (λ y. q (f y)) xs else filter (λ y. q (f y)) xs) ≡ (if b then f x ∷ filter q (map f xs) else filter q (map f xs))
    by true e = ap (λ ys. f x ∷ ys) e
    by false e = e

-- none among them is none among fewer
any-kept : {A : Type 0} (p q : A → Bool) (xs : List A) → list_any p xs ≡ false → list_any p (filter q xs) ≡ false
any-kept p q [] e = refl
any-kept p q (x ∷ xs) e = by (any-kept p q xs) (p x) refl (q x)
  where
    by : (list_any p xs ≡ false → list_any p (filter q xs) ≡ false) → (b : Bool) → p x ≡ b → (d : Bool)
        → list_any p (if d then x ∷ filter q xs else filter q xs) ≡ false
    by k true f d = absurd (true≢false (let h : list_any p (x ∷ xs) ≡ true = rw f refl in sym h ∙ e))
    by k false f true = rw f (k (let h : list_any p (x ∷ xs) ≡ list_any p xs = rw f refl in sym h ∙ e))
    by k false f false = k (let h : list_any p (x ∷ xs) ≡ list_any p xs = rw f refl in sym h ∙ e)

-- the registers of a body are its own
pub registers_are : (given : List Register) (marked : List (List ℕ)) (body : Statements) (count : ℕ) → let all = local_assignments given body in
    let kept = register_assignments marked all in
    count ≡ length kept → AreDistinct (locals_of all)
    → registers_from marked (signed_after (filter has_sign given) (locals_of all) kept count) (gathered with_form Unseen (locals_of all) kept) 0 (locals_of all)
    ≡ local_registers given marked all
registers_are given marked body count e d =
    let all = local_assignments given body in
    let kept = register_assignments marked all in
    let names = locals_of all in
    let signed = filter has_sign given in
    sorted marked _ _ (λ n. signed_in given kept (length kept) n) (λ n. fold with_form Unseen (assigned_to n kept)) 0 names
    (λ i l.
    let zeroth : 0 + i ≡ i = omega arith in (
      ap (λ j. get_or (signed_after signed names kept count) j false) zeroth
          ∙ signed_known signed names kept (placed_apart signed all (local-kept given all (filtered_local given _)))
          (λ t n h. any-kept (λ a. bytes_eq a.name n && t a) (λ a. has_name marked a.name) all (unplaced all t n h)) count i (d i l)
          ∙ signed-same given kept count (get_or names i [])
          ∙ ap (λ k. signed_in given kept k (get_or names i [])) e,
      ap (λ j. get_or (gathered with_form Unseen names kept) j Unseen) zeroth
          ∙ gathered_at with_form Unseen Unseen names kept i l,
    ))
    ∙ spans (register_assignments marked (local_assignments given body)) (filter (has_name marked) names)
  where
    spans : (kept : List Assignment) (ns : List (List ℕ)) → map (λ n. new_register n (signed_in given kept (length kept) n) (fold with_form Unseen (assigned_to n kept))) ns
        ≡ map (local_register given kept) ns
    spans kept [] = refl
    spans kept (n ∷ ns) =
        ap (λ xs. new_register n (signed_in given kept (length kept) n) (fold with_form Unseen (assigned_to n kept)) ∷ xs) (spans kept ns)
        ∙ ap (λ o. record { name = n; width = 512; is_variable = true; signed_slices = false; signed_whole = signed_in given kept (length kept) n; span = o } ∷ map (local_register given kept) ns)
        (forms_span (assigned_to n kept))

-- ---- variables

variables-behind : (marked before ns : List (List ℕ)) → variables_behind marked before ns ≡ distinct_behind before (filter (λ n. not (has_name marked n)) ns)
variables-behind marked before [] = refl
variables-behind marked before (n ∷ ns) = by (λ bs. variables-behind marked bs ns) (has_name marked n)
  where
    by : ((bs : List (List ℕ)) → variables_behind marked bs ns ≡ distinct_behind bs (filter (λ n. not (has_name marked n)) ns))
        → (b : Bool) → variables_behind marked (if b then before else with_name before n) ns
        ≡ distinct_behind before (if not b then n ∷ filter (λ n. not (has_name marked n)) ns else filter (λ n. not (has_name marked n)) ns)
    by g true = g before
    by g false = g (with_name before n)

-- each is new after those before it
abbrev Fresh : List (List ℕ) → List (List ℕ) → Type 0
Fresh before [] = Unit {0}
Fresh before (n ∷ ns) = (has_name before n ≡ false) × Fresh (before ++ n ∷ []) ns

fresh-added : (before ns : List (List ℕ)) → Fresh before ns → distinct_behind before ns ≡ before ++ ns
fresh-added before [] h = sym (append-nil before)
fresh-added before (n ∷ ns) h =
    ap (λ b. distinct_behind (if b then before else before ++ n ∷ []) ns) h.0
    ∙ fresh-added (before ++ n ∷ []) ns h.1 ∙ append_assoc before (n ∷ []) ns

-- among fewer
abbrev Fewer : List (List ℕ) → List (List ℕ) → Type 0
Fewer less more = (m : List ℕ) → has_name more m ≡ false → has_name less m ≡ false

or-both : (a b c : Bool) → (a ≡ false → c ≡ false) → (a || b) ≡ false → (c || b) ≡ false
or-both true b c f e = absurd (true≢false e)
or-both false b c f e = ap (λ x. x || b) (f refl) ∙ e

or-first : (a b : Bool) → (a || b) ≡ false → a ≡ false
or-first true b e = e
or-first false b e = refl

any-append : (q : List ℕ → Bool) (xs ys : List (List ℕ)) → list_any q (xs ++ ys) ≡ (list_any q xs || list_any q ys)
any-append q [] ys = refl
any-append q (x ∷ xs) ys = by (q x) (any-append q xs ys)
  where
    by : (b : Bool) → list_any q (xs ++ ys) ≡ (list_any q xs || list_any q ys) → (b || list_any q (xs ++ ys)) ≡ ((b || list_any q xs) || list_any q ys)
    by true e = refl
    by false e = e

fresh-filtered : (p : List ℕ → Bool) (less more ns : List (List ℕ)) → Fewer less more → Fresh more ns → Fresh less (filter p ns)
fresh-filtered p less more [] f h = tt
fresh-filtered p less more (n ∷ ns) f h =
    by (p n)
    (fresh-filtered p (less ++ n ∷ []) (more ++ n ∷ []) ns
    (λ m e. any-append (λ x. bytes_eq x m) less (n ∷ []) ∙ or-both (has_name more m) (has_name (n ∷ []) m) (has_name less m) (f m) (sym (any-append (λ x. bytes_eq x m) more (n ∷ [])) ∙ e)) h.1)
    (fresh-filtered p less (more ++ n ∷ []) ns
    (λ m e. f m (or-first (has_name more m) (has_name (n ∷ []) m) (sym (any-append (λ x. bytes_eq x m) more (n ∷ [])) ∙ e))) h.1)
  where
    by : (b : Bool) → Fresh (less ++ n ∷ []) (filter p ns) → Fresh less (filter p ns) → Fresh less (if b then n ∷ filter p ns else filter p ns)
    by true k l = (f n h.0, k)
    by false k l = l

first-not : (q : List ℕ → Bool) (xs ys : List (List ℕ)) → first_place q (xs ++ ys) ≡ Some (length xs) → list_any q xs ≡ false
first-not q [] ys e = refl
first-not q (x ∷ xs) ys e = by (first-not q xs ys) (q x) refl
  where
    moved : (o : Option ℕ) → option_map (λ (k : ℕ). k + 1) o ≡ Some (suc (length xs)) → o ≡ Some (length xs)
    moved None h = absurd (cc)
    moved (Some j) h = let same : j + 1 ≡ suc (length xs) = cc in ap Some (omega (arith, same))

    by : (first_place q (xs ++ ys) ≡ Some (length xs) → list_any q xs ≡ false) → (b : Bool) → q x ≡ b → list_any q (x ∷ xs) ≡ false
    by g true f =
        let h : first_place q ((x ∷ xs) ++ ys) ≡ Some 0 = rw f refl in
        let bad : 0 ≡ suc (length xs) = cc in
        absurd (omega (arith, bad))
    by g false f =
        let h : first_place q ((x ∷ xs) ++ ys) ≡ option_map (λ (k : ℕ). k + 1) (first_place q (xs ++ ys)) = rw f refl in
        rw f (g (moved (first_place q (xs ++ ys)) (sym h ∙ e)))

get-seam : (xs ys : List (List ℕ)) (n : List ℕ) → get_or (xs ++ n ∷ ys) (length xs) [] ≡ n
get-seam [] ys n = refl
get-seam (x ∷ xs) ys n = get-seam xs ys n

distinct-fresh : (before ns : List (List ℕ)) → AreDistinct (before ++ ns) → Fresh before ns
distinct-fresh before [] d = tt
distinct-fresh before (n ∷ ns) d =
    let within : length before < length (before ++ n ∷ ns) = omega (arith, length-append before (n ∷ ns)) in
    let at : place_of (before ++ n ∷ ns) n ≡ Some (length before) =
    ap (λ m. place_of (before ++ n ∷ ns) m) (sym (get-seam before ns n)) ∙ d (length before) within in
    (first-not (λ m. bytes_eq m n) before (n ∷ ns) at, distinct-fresh (before ++ n ∷ []) ns (subst AreDistinct (sym (append_assoc before (n ∷ []) ns)) d))

pub variables_are : (marked : List (List ℕ)) (as' : List Assignment) → AreDistinct (locals_of as')
    → variables_behind marked [] (locals_of as') ≡ number_locals marked as'
variables_are marked as' d =
    variables-behind marked [] (locals_of as')
    ∙ fresh-added [] (number_locals marked as')
    (fresh-filtered (λ n. not (has_name marked n)) [] [] (locals_of as') (λ m e. e) (distinct-fresh [] (locals_of as') d))

-- ---- all together

pub registers_in_all : (given : List Register) (marked : List (List ℕ)) (body : Statements) (as' kept : List Assignment) (names : List (List ℕ)) (flags : List Bool) (forms : List Forms) (count : ℕ)
    (registers : List Register) → as' ≡ local_assignments given body → kept ≡ register_assignments marked as' → names ≡ locals_of as'
    → flags ≡ signed_after (filter has_sign given) names kept count → count ≡ length kept
    → forms ≡ gathered with_form Unseen names kept → AreDistinct names → registers ≡ given ++ registers_from marked flags forms 0 names
    → registers ≡ given ++ local_registers given marked (local_assignments given body)
registers_in_all given marked body as' kept names flags forms count registers ea ek en ef ec eg d er =
    let all = local_assignments given body in
    let signed = filter has_sign given in
    let ek' : kept ≡ register_assignments marked all = ek ∙ ap (register_assignments marked) ea in
    let en' : names ≡ locals_of all = en ∙ ap locals_of ea in
    let ef' : flags ≡ signed_after signed (locals_of all) (register_assignments marked all) count =
    ef ∙ ap (λ ns. signed_after signed ns kept count) en' ∙ ap (λ xs. signed_after signed (locals_of all) xs count) ek' in
    let eg' : forms ≡ gathered with_form Unseen (locals_of all) (register_assignments marked all) =
    eg ∙ ap (λ ns. gathered with_form Unseen ns kept) en' ∙ ap (gathered with_form Unseen (locals_of all)) ek' in
    er ∙ ap (λ xs. given ++ xs)
    (ap (λ fs. registers_from marked fs forms 0 names) ef'
    ∙ ap (λ fs. registers_from marked (signed_after signed (locals_of all) (register_assignments marked all) count) fs 0 names) eg'
    ∙ ap (registers_from marked (signed_after signed (locals_of all) (register_assignments marked all) count) (gathered with_form Unseen (locals_of all) (register_assignments marked all)) 0) en'
    ∙ registers_are given marked body count (ec ∙ ap length ek') (subst AreDistinct en' d))

pub variables_in_all : (given : List Register) (marked : List (List ℕ)) (body : Statements) (as' : List Assignment) (names variables : List (List ℕ))
    → as' ≡ local_assignments given body → names ≡ locals_of as' → AreDistinct names → variables ≡ variables_behind marked [] names
    → variables ≡ number_locals marked (local_assignments given body)
variables_in_all given marked body as' names variables ea en d ev =
    let en' : names ≡ locals_of (local_assignments given body) = en ∙ ap locals_of ea in
    ev ∙ ap (variables_behind marked []) en' ∙ variables_are marked (local_assignments given body) (subst AreDistinct en' d)

pub if_ok : {A E : Type 0} {P Q : A → Type 0} → ((b : A) → P b → Q b) → (r : Result A E) → IfOk r P → IfOk r Q
if_ok f (Ok x) h = f x h
if_ok f (Err e) h = h
