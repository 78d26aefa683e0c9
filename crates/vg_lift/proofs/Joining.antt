-- The joined bits are those of the way that the condition takes.
use Rattle.std.proofs.Common.{◌≡◌, ℕ, zero, suc, ◌+◌, ◌*◌, ◌/◌, ◌%◌, ◌^◌, ◌<◌, ◌≤◌, refl, sym, ap, ◌∙◌, subst, arith, inl, inr, Bool, true, false, lit<, List, [], ◌∷◌, ◌++◌, get_or, length, div-one, append-nil, append_assoc, add-one}
use Rattle.std.specs.Prelude.{◌&&◌, nat_eq, if◌then◌else◌, map, not}
use Rattle.std.proofs.lemmas.List.{map-append}
use Rattle.std.proofs.lemmas.Bool.{cases_Bool, and_parts, eqb-true, eqb-false, not-true, cases_eq}
use Rattle.std.proofs.lemmas.Nat.{shr-shr, pow_pos, mod_below}
use Rattle.std.proofs.Math.Nat.{mod-eq_of_lt}
use Rattle.vg_base.specs.Bits.{bits}
use Rattle.vg_bits.proofs.BitLists.{num-range_below, bits-concatenation}
use Rattle.vg_terms.specs.declared.value.Env.{Env}
use Rattle.vg_terms.specs.Term.{Tree, sel, WellFormed, width_of}
use Rattle.vg_terms.specs.Value.{value}
use Rattle.vg_terms.specs.Order.{is_same_term}
use Rattle.vg_terms.proofs.Orders.{same_term}
use Rattle.vg_lift.specs.Gather.{Bit, clear, input, of_term, Run, zeros, inputs, terms, start, size, longer, continues, whole, bits_from}
use Rattle.vg_lift.specs.Join.{is_same_bit, Open, shut, differ, closed, goes_on, opened, join_from, join}
use Rattle.vg_shapes.specs.Registers.{Reads, AllBits}
use Rattle.vg_lift.proofs.Stands.{bit_value, BitFormed, BitsFormed, bits_at}
use Rattle.vg_lift.proofs.Gathering.{run_value, RunFormed, start-formed, start-value, start-size, longer-size, longer-formed, longer-value, whole-value, whole-width, whole-formed, run-some}

-- ---- bits of a term

pub bits_from-value : (env : Env) (ps : List (List ℕ)) (t : Tree) (k n : ℕ) → map (bit_value env ps) (bits_from t k n) ≡ bits n (value env t / 2 ^ k)
unfolding bits
bits_from-value env ps t k zero = refl
bits_from-value env ps t k (suc n) =
    let e : value env t / 2 ^ k / 2 ≡ value env t / 2 ^ suc k = shr-shr (value env t) k 1 ∙ ap (λ m. value env t / 2 ^ m) (add-one k) in
    ap (λ l. value env t / 2 ^ k % 2 ∷ l) (bits_from-value env ps t (suc k) n ∙ ap (bits n) (sym e))

pub length-bits_from : (t : Tree) (k n : ℕ) → length (bits_from t k n) ≡ n
length-bits_from t k zero = refl
length-bits_from t k (suc n) = ap suc (length-bits_from t (suc k) n)

pub bits_from-formed : (ps : List (List ℕ)) (t : Tree) (k n : ℕ) → WellFormed t → k + n ≤ width_of t → BitsFormed ps (bits_from t k n)
bits_from-formed ps t k zero f h = tt
bits_from-formed ps t k (suc n) f h = ((f, omega arith), bits_from-formed ps t (suc k) n f (omega arith))

-- ---- bounds

pub bit_value-below : (env : Env) (ps : List (List ℕ)) (b : Bit) → AllBits ps → bit_value env ps b < 2
bit_value-below env ps clear h = lit< tt
bit_value-below env ps (input p i) h = num-range_below i 1 (get_or ps p []) (bits_at ps p h)
bit_value-below env ps (of_term t k) h = mod_below (value env t / 2 ^ k) (2 ^ 1) (pow_pos 1)

run_value-below : (env : Env) (ps : List (List ℕ)) (r : Run) → AllBits ps → run_value env ps r < 2 ^ size r
run_value-below env ps (zeros n) h = pow_pos n
run_value-below env ps (inputs p l n) h = num-range_below l n (get_or ps p []) (bits_at ps p h)
run_value-below env ps (terms t k n) h = mod_below (value env t / 2 ^ k) (2 ^ n) (pow_pos n)

same_bit : (x y : Bit) → is_same_bit x y ≡ true → x ≡ y
same_bit clear clear e = refl
same_bit clear (input q j) e = absurd (cc)
same_bit clear (of_term u j) e = absurd (cc)
same_bit (input p i) clear e = absurd (cc)
same_bit (input p i) (of_term u j) e = absurd (cc)
same_bit (input p i) (input q j) e =
    let parts = and_parts (nat_eq p q) (nat_eq i j) e in
    ap (λ v. input v i) (eqb-true p q parts.0) ∙ ap (input q) (eqb-true i j parts.1)
same_bit (of_term t k) clear e = absurd (cc)
same_bit (of_term t k) (input q j) e = absurd (cc)
same_bit (of_term t k) (of_term u j) e =
    let parts = and_parts (is_same_term t u) (nat_eq k j) e in
    ap (λ v. of_term v k) (same_term t u parts.0) ∙ ap (of_term u) (eqb-true k j parts.1)

-- ---- what is open

abbrev picked : {A : Type 0} → Bool → A → A → A
picked true a b = a
picked false a b = b

abbrev open_bits : Env → List (List ℕ) → Bool → Open → List ℕ
open_bits env ps t shut = []
open_bits env ps t (differ r q) = bits (size r) (picked t (run_value env ps r) (run_value env ps q))

-- the two runs have one size, at most that of the piece of 64 bits read so far
abbrev OpenFormed : List (List ℕ) → ℕ → Open → Type 0
OpenFormed ps i shut = Unit {0}
OpenFormed ps i (differ r q) = RunFormed ps r × RunFormed ps q × (size r ≡ size q) × ((j : ℕ) × (i ≡ suc j) × (size r ≤ suc (j % 64)))

picked-value : (env : Env) (c : Tree) (t : Bool) (w : ℕ) (x y : Tree) → nat_eq (value env c) 1 ≡ t → value env (sel w c x y) ≡ picked t (value env x) (value env y)
picked-value env c true w x y e = rw e refl
picked-value env c false w x y e = rw e refl

closed-value : (env : Env) (ps : List (List ℕ)) (c : Tree) (t : Bool) (i : ℕ) (o : Open) → nat_eq (value env c) 1 ≡ t → Reads env ps → OpenFormed ps i o
    → map (bit_value env ps) (closed c o) ≡ open_bits env ps t o
closed-value env ps c t i shut e reads f = refl
closed-value env ps c t i (differ r q) e reads f =
    bits_from-value env ps (sel (size r) c (whole r) (whole q)) 0 (size r)
    ∙ ap (bits (size r)) (div-one _)
    ∙ ap (bits (size r)) (picked-value env c t (size r) (whole r) (whole q) e)
    ∙ ap (λ v. bits (size r) (picked t v (value env (whole q)))) (whole-value env ps r reads f.0)
    ∙ ap (λ v. bits (size r) (picked t (run_value env ps r) v)) (whole-value env ps q reads f.1)

-- one more bit
appended : (n v b : ℕ) → v < 2 ^ n → b < 2 → bits (suc n) (v + 2 ^ n * b) ≡ bits n v ++ (b ∷ [])
unfolding bits
appended n v b h g =
    ap (λ m. bits m (v + 2 ^ n * b)) (sym (add-one n))
    ∙ ap (λ u. bits (n + 1) (u + 2 ^ n * b)) (sym (mod-eq_of_lt h))
    ∙ bits-concatenation n 1 v b ∙ ap (λ u. bits n v ++ (u ∷ [])) (mod-eq_of_lt g)

longer-picked : (env : Env) (ps : List (List ℕ)) (t : Bool) (r q : Run) (x y : Bit) → continues r x ≡ true → continues q y ≡ true → RunFormed ps r → RunFormed ps q → size r ≡ size q
    → picked t (run_value env ps (longer r)) (run_value env ps (longer q)) ≡ picked t (run_value env ps r) (run_value env ps q) + 2 ^ size r * picked t (bit_value env ps x) (bit_value env ps y)
longer-picked env ps true r q x y e f a b s = longer-value env ps r x e a
longer-picked env ps false r q x y e f a b s = longer-value env ps q y f b ∙ ap (λ n. run_value env ps q + 2 ^ n * bit_value env ps y) (sym s)

picked-below : (t : Bool) (a b n : ℕ) → a < n → b < n → picked t a b < n
picked-below true a b n p q = p
picked-below false a b n p q = q

goes : (o : Open) (i : ℕ) (x y : Bit) → goes_on o i x y ≡ true → (r : Run) × (q : Run) × (o ≡ differ r q) × (continues r x ≡ true) × (continues q y ≡ true) × (nat_eq (i % 64) 0 ≡ false)
goes shut i x y e = absurd (cc)
goes (differ r q) i x y e =
    let first = and_parts (continues r x) (continues q y && not (nat_eq (i % 64) 0)) e in
    let second = and_parts (continues q y) (not (nat_eq (i % 64) 0)) first.1 in
    (r, q, refl, first.0, second.0, not-true (nat_eq (i % 64) 0) second.1)

opened-value : (env : Env) (ps : List (List ℕ)) (t : Bool) (i : ℕ) (o : Open) (x y : Bit) → AllBits ps → goes_on o i x y ≡ true → OpenFormed ps i o
    → open_bits env ps t (opened o) ≡ open_bits env ps t o ++ (picked t (bit_value env ps x) (bit_value env ps y) ∷ [])
opened-value env ps t i shut x y h e f = absurd (cc)
opened-value env ps t i (differ r q) x y h e f =
    let g = goes (differ r q) i x y e in
    let first = and_parts (continues r x) (continues q y && not (nat_eq (i % 64) 0)) e in
    let second = and_parts (continues q y) (not (nat_eq (i % 64) 0)) first.1 in
    let fits : picked t (run_value env ps r) (run_value env ps q) < 2 ^ size r =
    picked-below t _ _ (2 ^ size r) (run_value-below env ps r h) (subst (λ n. run_value env ps q < 2 ^ n) (sym f.2) (run_value-below env ps q h)) in
    let less = picked-below t (bit_value env ps x) (bit_value env ps y) 2 (bit_value-below env ps x h) (bit_value-below env ps y h) in
    ap (λ n. bits n (picked t (run_value env ps (longer r)) (run_value env ps (longer q)))) (longer-size r)
    ∙ ap (bits (suc (size r))) (longer-picked env ps t r q x y first.0 second.0 f.0 f.1 f.2)
    ∙ appended (size r) (picked t (run_value env ps r) (run_value env ps q)) (picked t (bit_value env ps x) (bit_value env ps y)) fits less

room : (i j s s' : ℕ) → i ≡ suc j → (i % 64 ≡ 0 → ⊥) → s ≤ suc (j % 64) → s' ≡ suc s → s' ≤ suc (i % 64)
room i j s s' e n h g = elim (cases_eq (i % 64) 0) [ inl z ↦ absurd (n z) | inr k ↦ omega arith ]

opened-formed : (ps : List (List ℕ)) (i : ℕ) (o : Open) (x y : Bit) → goes_on o i x y ≡ true → BitFormed ps x → BitFormed ps y → OpenFormed ps i o → OpenFormed ps (suc i) (opened o)
opened-formed ps i shut x y e a b f = absurd (cc)
opened-formed ps i (differ r q) x y e a b f =
    let first = and_parts (continues r x) (continues q y && not (nat_eq (i % 64) 0)) e in
    let second = and_parts (continues q y) (not (nat_eq (i % 64) 0)) first.1 in
    let apart : (i % 64 ≡ 0 → ⊥) = eqb-false (i % 64) 0 (not-true (nat_eq (i % 64) 0) second.1) in (
      longer-formed ps r x first.0 f.0 a,
      longer-formed ps q y second.0 f.1 b,
      longer-size r ∙ ap suc f.2 ∙ sym (longer-size q),
      (i, refl, room i (f.3).0 (size r) (size (longer r)) (f.3).1 apart (f.3).2 (longer-size r)),
    )

opening-formed : (ps : List (List ℕ)) (i : ℕ) (x y : Bit) → BitFormed ps x → BitFormed ps y → OpenFormed ps (suc i) (differ (start x) (start y))
opening-formed ps i x y a b = (start-formed ps x a, start-formed ps y b, start-size x ∙ sym (start-size y), (i, refl, omega (arith, start-size x)))

opening-value : (env : Env) (ps : List (List ℕ)) (t : Bool) (x y : Bit) → AllBits ps → open_bits env ps t (differ (start x) (start y)) ≡ picked t (bit_value env ps x) (bit_value env ps y) ∷ []
unfolding bits
opening-value env ps t x y h =
    ap (λ n. bits n (picked t (run_value env ps (start x)) (run_value env ps (start y)))) (start-size x)
    ∙ ap (λ v. picked t v (run_value env ps (start y)) % 2 ∷ []) (start-value env ps x)
    ∙ ap (λ v. picked t (bit_value env ps x) v % 2 ∷ []) (start-value env ps y)
    ∙ ap (λ v. v ∷ []) (mod-eq_of_lt (picked-below t (bit_value env ps x) (bit_value env ps y) 2 (bit_value-below env ps x h) (bit_value-below env ps y h)))

-- ---- joining

split : (env : Env) (ps : List (List ℕ)) (t : Bool) (x y : Bit) (xs ys : List Bit)
    → map (bit_value env ps) (picked t (x ∷ xs) (y ∷ ys)) ≡ picked t (bit_value env ps x) (bit_value env ps y) ∷ map (bit_value env ps) (picked t xs ys)
split env ps true x y xs ys = refl
split env ps false x y xs ys = refl

picked_same : {A : Type 0} (t : Bool) (a : A) → picked t a a ≡ a
picked_same true a = refl
picked_same false a = refl

nothing_more : (t : Bool) (l : List ℕ) (f : Bit → ℕ) → l ≡ l ++ map f (picked t [] [])
nothing_more true l f = sym (append-nil l)
nothing_more false l f = sym (append-nil l)

join_from-value : (env : Env) (ps : List (List ℕ)) (c : Tree) (t : Bool) (o : Open) (i : ℕ) (xs ys : List Bit) → nat_eq (value env c) 1 ≡ t → Reads env ps → AllBits ps
    → BitsFormed ps xs → BitsFormed ps ys → length xs ≡ length ys → OpenFormed ps i o
    → map (bit_value env ps) (join_from c o i xs ys) ≡ open_bits env ps t o ++ map (bit_value env ps) (picked t xs ys)
join_from-value env ps c t o i [] [] e reads h a b l f = closed-value env ps c t i o e reads f ∙ nothing_more t (open_bits env ps t o) (bit_value env ps)
join_from-value env ps c t o i [] (y ∷ ys) e reads h a b l f = absurd (omega arith)
join_from-value env ps c t o i (x ∷ xs) [] e reads h a b l f = absurd (omega arith)
join_from-value env ps c t o i (x ∷ xs) (y ∷ ys) e reads h a b l f =
    let long : length xs ≡ length ys = omega arith in
    let this = picked t (bit_value env ps x) (bit_value env ps y) in
    let rest = map (bit_value env ps) (picked t xs ys) in
    let now = open_bits env ps t o in
    let stop = closed-value env ps c t i o e reads f in
    elim (cases_Bool (is_same_bit x y)) [
      | inl s ↦ rw s (
          map-append (bit_value env ps) (closed c o) (x ∷ join_from c shut (suc i) xs ys)
          ∙ ap (λ l. l ++ (bit_value env ps x ∷ map (bit_value env ps) (join_from c shut (suc i) xs ys))) stop
          ∙ ap (λ l. now ++ (bit_value env ps x ∷ l)) (join_from-value env ps c t shut (suc i) xs ys e reads h a.1 b.1 long tt)
          ∙ ap (λ v. now ++ (v ∷ rest)) (sym (picked_same t (bit_value env ps x)) ∙ ap (λ z. picked t (bit_value env ps x) (bit_value env ps z)) (same_bit x y s))
          ∙ ap (λ l. now ++ l) (sym (split env ps t x y xs ys)))
      | inr s ↦ rw s (elim (cases_Bool (goes_on o i x y)) [
        | inl g ↦ rw g (
            join_from-value env ps c t (opened o) (suc i) xs ys e reads h a.1 b.1 long (opened-formed ps i o x y g a.0 b.0 f)
            ∙ ap (λ l. l ++ rest) (opened-value env ps t i o x y h g f)
            ∙ append_assoc now (this ∷ []) rest
            ∙ ap (λ l. now ++ l) (sym (split env ps t x y xs ys)))
        | inr g ↦ rw g (
            map-append (bit_value env ps) (closed c o) (join_from c (differ (start x) (start y)) (suc i) xs ys)
            ∙ ap (λ l. l ++ map (bit_value env ps) (join_from c (differ (start x) (start y)) (suc i) xs ys)) stop
            ∙ ap (λ l. now ++ l) (join_from-value env ps c t (differ (start x) (start y)) (suc i) xs ys e reads h a.1 b.1 long (opening-formed ps i x y a.0 b.0))
            ∙ ap (λ l. now ++ (l ++ rest)) (opening-value env ps t x y h)
            ∙ ap (λ l. now ++ l) (sym (split env ps t x y xs ys)))
      ])
    ]

ways : (t : Bool) (f : Bit → ℕ) (xs ys : List Bit) → map f (picked t xs ys) ≡ (if t then map f xs else map f ys)
ways true f xs ys = refl
ways false f xs ys = refl

-- the joined bits are those of the first list where the condition is 1, else of the second
pub join-value : (env : Env) (ps : List (List ℕ)) (c : Tree) (xs ys : List Bit) → Reads env ps → AllBits ps → BitsFormed ps xs → BitsFormed ps ys → length xs ≡ length ys
    → map (bit_value env ps) (join c xs ys) ≡ (if nat_eq (value env c) 1 then map (bit_value env ps) xs else map (bit_value env ps) ys)
join-value env ps c xs ys reads h a b l = join_from-value env ps c (nat_eq (value env c) 1) shut 0 xs ys refl reads h a b l tt ∙ ways (nat_eq (value env c) 1) (bit_value env ps) xs ys

sel_formed : (ps : List (List ℕ)) (c : Tree) (i : ℕ) (r q : Run) → WellFormed c → width_of c ≡ 1 → OpenFormed ps i (differ r q) → WellFormed (sel (size r) c (whole r) (whole q))
sel_formed ps c i r q w e f =
    let small : size r ≤ 128 = omega (arith, (f.3).2) in
    ((run-some ps r f.0, small), (e, whole-width r, whole-width q ∙ sym f.2), w, whole-formed ps r f.0 small, whole-formed ps q f.1 (omega (arith, f.2)))

closed-formed : (ps : List (List ℕ)) (c : Tree) (i : ℕ) (o : Open) → WellFormed c → width_of c ≡ 1 → OpenFormed ps i o → BitsFormed ps (closed c o)
closed-formed ps c i shut w e f = tt
closed-formed ps c i (differ r q) w e f = bits_from-formed ps (sel (size r) c (whole r) (whole q)) 0 (size r) (sel_formed ps c i r q w e f) (omega arith)

pub BitsFormed-append : (ps : List (List ℕ)) (xs ys : List Bit) → BitsFormed ps xs → BitsFormed ps ys → BitsFormed ps (xs ++ ys)
BitsFormed-append ps [] ys f g = g
BitsFormed-append ps (x ∷ xs) ys f g = (f.0, BitsFormed-append ps xs ys f.1 g)

join_from-formed : (ps : List (List ℕ)) (c : Tree) (o : Open) (i : ℕ) (xs ys : List Bit) → WellFormed c → width_of c ≡ 1 → BitsFormed ps xs → BitsFormed ps ys → OpenFormed ps i o
    → BitsFormed ps (join_from c o i xs ys)
join_from-formed ps c o i [] ys w e a b f = closed-formed ps c i o w e f
join_from-formed ps c o i (x ∷ xs) [] w e a b f = closed-formed ps c i o w e f
join_from-formed ps c o i (x ∷ xs) (y ∷ ys) w e a b f = elim (cases_Bool (is_same_bit x y)) [
  | inl s ↦ rw s (BitsFormed-append ps _ _ (closed-formed ps c i o w e f) (a.0, join_from-formed ps c shut (suc i) xs ys w e a.1 b.1 tt))
  | inr s ↦ rw s (elim (cases_Bool (goes_on o i x y)) [
    | inl g ↦ rw g (join_from-formed ps c (opened o) (suc i) xs ys w e a.1 b.1 (opened-formed ps i o x y g a.0 b.0 f))
    | inr g ↦ rw g (BitsFormed-append ps _ _ (closed-formed ps c i o w e f) (join_from-formed ps c (differ (start x) (start y)) (suc i) xs ys w e a.1 b.1 (opening-formed ps i x y a.0 b.0)))
  ])
]

pub join-formed : (ps : List (List ℕ)) (c : Tree) (xs ys : List Bit) → WellFormed c → width_of c ≡ 1 → BitsFormed ps xs → BitsFormed ps ys → BitsFormed ps (join c xs ys)
join-formed ps c xs ys w e a b = join_from-formed ps c shut 0 xs ys w e a b tt
