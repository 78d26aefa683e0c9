-- The gathered term of bits is their number.
use Rattle.std.proofs.Common.{◌≡◌, ℕ, zero, suc, ◌+◌, ◌*◌, ◌/◌, ◌%◌, ◌^◌, ◌<◌, ◌≤◌, refl, sym, ap, ◌∙◌, subst, arith, inl, inr, true, lit<, List, [], ◌∷◌, get_or, length, div-one}
use Rattle.std.specs.Prelude.{nat_eq, map}
use Rattle.std.proofs.lemmas.Bool.{cases_Bool, and_parts, eqb-true}
use Rattle.std.proofs.lemmas.Nat.{mod-pow-add, shr-shr, pow_pos}
use Rattle.std.proofs.Math.Nat.{pow-suc}
use Rattle.vg_base.specs.Bits.{num}
use Rattle.vg_bits.specs.Range.{range}
use Rattle.vg_bits.proofs.BitLists.{num-range-append}
use Rattle.vg_terms.specs.declared.value.Env.{Env}
use Rattle.vg_terms.specs.Term.{Tree, WellFormed, width_of}
use Rattle.vg_terms.specs.Value.{value}
use Rattle.vg_terms.specs.Order.{is_same_term}
use Rattle.vg_terms.proofs.Orders.{same_term}
use Rattle.vg_terms.proofs.Soundness.{width_some}
use Rattle.vg_terms.proofs.Resizing.{low-width, low-value, low-formed}
use Rattle.vg_lift.specs.Gather.{Bit, clear, input, of_term, Run, zeros, inputs, terms, start, size, longer, continues, shifted, whole, gather_from, gather}
use Rattle.vg_shapes.specs.Registers.{Reads}
use Rattle.vg_lift.proofs.Stands.{bit_value, BitFormed, BitsFormed}

abbrev pub run_value : Env → List (List ℕ) → Run → ℕ
run_value env ps (zeros n) = 0
run_value env ps (inputs p l n) = num (range l n (get_or ps p []))
run_value env ps (terms t k n) = value env t / 2 ^ k % 2 ^ n

abbrev pub RunFormed : List (List ℕ) → Run → Type 0
RunFormed ps (zeros n) = 0 < n
RunFormed ps (inputs p l n) = (0 < n) × (l + n ≤ length (get_or ps p []))
RunFormed ps (terms t k n) = (0 < n) × WellFormed t × (k + n ≤ width_of t)

pub start-formed : (ps : List (List ℕ)) (b : Bit) → BitFormed ps b → RunFormed ps (start b)
start-formed ps clear h = lit< tt
start-formed ps (input p i) h = (lit< tt, omega arith)
start-formed ps (of_term t k) h = (lit< tt, h.0, omega (arith, h.1))

pub start-value : (env : Env) (ps : List (List ℕ)) (b : Bit) → run_value env ps (start b) ≡ bit_value env ps b
start-value env ps clear = refl
start-value env ps (input p i) = refl
start-value env ps (of_term t k) = refl

pub start-size : (b : Bit) → size (start b) ≡ 1
start-size clear = refl
start-size (input p i) = refl
start-size (of_term t k) = refl

pub longer-size : (r : Run) → size (longer r) ≡ suc (size r)
longer-size (zeros n) = refl
longer-size (inputs p l n) = refl
longer-size (terms t k n) = refl

pub longer-formed : (ps : List (List ℕ)) (r : Run) (b : Bit) → continues r b ≡ true → RunFormed ps r → BitFormed ps b → RunFormed ps (longer r)
longer-formed ps (zeros n) clear e r h = omega arith
longer-formed ps (zeros n) (input p i) e r h = absurd (cc)
longer-formed ps (zeros n) (of_term t k) e r h = absurd (cc)
longer-formed ps (inputs p l n) clear e r h = absurd (cc)
longer-formed ps (inputs p l n) (of_term t k) e r h = absurd (cc)
longer-formed ps (inputs p l n) (input q i) e r h =
    let parts = and_parts (nat_eq p q) (nat_eq i (l + n)) e in
    let same = eqb-true p q parts.0 in
    let next = eqb-true i (l + n) parts.1 in
    let h' : i < length (get_or ps p []) = subst (λ v. i < length (get_or ps v [])) (sym same) h in
    (omega arith, omega arith)
longer-formed ps (terms t k n) clear e r h = absurd (cc)
longer-formed ps (terms t k n) (input p i) e r h = absurd (cc)
longer-formed ps (terms t k n) (of_term u j) e r h =
    let parts = and_parts (is_same_term t u) (nat_eq j (k + n)) e in
    let same = same_term t u parts.0 in
    let next = eqb-true j (k + n) parts.1 in
    let h' : j < width_of t = subst (λ v. j < width_of v) (sym same) h.1 in
    (omega arith, r.1, omega arith)

one_more : (v k n : ℕ) → v / 2 ^ k % 2 ^ suc n ≡ v / 2 ^ k % 2 ^ n + 2 ^ n * (v / 2 ^ (k + n) % 2 ^ 1)
one_more v k n =
    let e = mod-pow-add (v / 2 ^ k) 1 n in
    let f : 1 + n ≡ suc n = omega arith in
    ap (λ m. v / 2 ^ k % 2 ^ m) (sym f) ∙ e ∙ ap (λ m. m % 2 ^ 1 * 2 ^ n + v / 2 ^ k % 2 ^ n) (shr-shr v k n) ∙ omega arith

pub longer-value : (env : Env) (ps : List (List ℕ)) (r : Run) (b : Bit) → continues r b ≡ true → RunFormed ps r
    → run_value env ps (longer r) ≡ run_value env ps r + 2 ^ size r * bit_value env ps b
longer-value env ps (zeros n) clear e r = omega arith
longer-value env ps (zeros n) (input p i) e r = absurd (cc)
longer-value env ps (zeros n) (of_term t k) e r = absurd (cc)
longer-value env ps (inputs p l n) clear e r = absurd (cc)
longer-value env ps (inputs p l n) (of_term t k) e r = absurd (cc)
longer-value env ps (inputs p l n) (input q i) e r =
    let parts = and_parts (nat_eq p q) (nat_eq i (l + n)) e in
    let same = eqb-true p q parts.0 in
    let next = eqb-true i (l + n) parts.1 in
    let f : n + 1 ≡ suc n = omega arith in
    ap (λ m. num (range l m (get_or ps p []))) (sym f) ∙ num-range-append l n 1 (get_or ps p []) r.1
    ∙ ap (λ j. num (range l n (get_or ps p [])) + 2 ^ n * num (range j 1 (get_or ps p []))) (sym next)
    ∙ ap (λ v. num (range l n (get_or ps p [])) + 2 ^ n * num (range i 1 (get_or ps v []))) same
longer-value env ps (terms t k n) clear e r = absurd (cc)
longer-value env ps (terms t k n) (input p i) e r = absurd (cc)
longer-value env ps (terms t k n) (of_term u j) e r =
    let parts = and_parts (is_same_term t u) (nat_eq j (k + n)) e in
    let same = same_term t u parts.0 in
    let next = eqb-true j (k + n) parts.1 in
    one_more (value env t) k n
    ∙ ap (λ m. value env t / 2 ^ k % 2 ^ n + 2 ^ n * (value env t / 2 ^ m % 2 ^ 1)) (sym next)
    ∙ ap (λ v. value env t / 2 ^ k % 2 ^ n + 2 ^ n * (value env v / 2 ^ j % 2 ^ 1)) same

-- ---- the term of a run

shifted-width : (k : ℕ) (t : Tree) → width_of (shifted k t) ≡ width_of t
shifted-width zero t = refl
shifted-width (suc k) t = refl

shifted-formed : (k : ℕ) (t : Tree) → k < width_of t → WellFormed t → WellFormed (shifted k t)
shifted-formed zero t h f = f
shifted-formed (suc k) t h f = (width_some t f, (refl, h), f)

shifted-value : (env : Env) (k : ℕ) (t : Tree) → value env (shifted k t) ≡ value env t / 2 ^ k
shifted-value env zero t = sym (div-one (value env t))
shifted-value env (suc k) t = refl

pub whole-width : (r : Run) → width_of (whole r) ≡ size r
whole-width (zeros n) = refl
whole-width (inputs p l n) = refl
whole-width (terms t k n) = low-width n (shifted k t)

pub whole-value : (env : Env) (ps : List (List ℕ)) (r : Run) → Reads env ps → RunFormed ps r → value env (whole r) ≡ run_value env ps r
whole-value env ps (zeros n) reads f = refl
whole-value env ps (inputs p l n) reads f = reads p l n
whole-value env ps (terms t k n) reads f =
    let inside : n ≤ width_of (shifted k t) = omega (arith, shifted-width k t) in
    low-value env n (shifted k t) inside (shifted-formed k t (omega arith) f.1) ∙ ap (λ v. v % 2 ^ n) (shifted-value env k t)

pub whole-formed : (ps : List (List ℕ)) (r : Run) → RunFormed ps r → size r ≤ 128 → WellFormed (whole r)
whole-formed ps (zeros n) f h = ((f, h), pow_pos n)
whole-formed ps (inputs p l n) f h = (f.0, h)
whole-formed ps (terms t k n) f h =
    low-formed n (shifted k t) f.0 (omega (arith, shifted-width k t, f.2)) (shifted-formed k t (omega arith) f.1)

-- ---- gathering

joined_more : (n a b c : ℕ) → a + 2 ^ n * b + 2 ^ suc n * c ≡ a + 2 ^ n * (b + 2 * c)
joined_more n a b c = ap (λ v. a + 2 ^ n * b + v * c) (pow-suc 2 n) ∙ omega arith

joined_above : (n m a b c v : ℕ) → m ≡ 1 → v ≡ b → (v + 2 ^ m * c) * 2 ^ n + a ≡ a + 2 ^ n * (b + 2 * c)
joined_above n m a b c v e f = ap (λ k. (v + 2 ^ k * c) * 2 ^ n + a) e ∙ ap (λ k. (k + 2 * c) * 2 ^ n + a) f ∙ omega arith

pub gather_from-value : (env : Env) (ps : List (List ℕ)) (r : Run) (bs : List Bit) → Reads env ps → RunFormed ps r → BitsFormed ps bs
    → value env (gather_from r bs) ≡ run_value env ps r + 2 ^ size r * num (map (bit_value env ps) bs)
unfolding num
gather_from-value env ps r [] reads f g = whole-value env ps r reads f ∙ omega arith
gather_from-value env ps r (b ∷ bs) reads f g = elim (cases_Bool (continues r b)) [
  | inl t ↦ rw t (
      gather_from-value env ps (longer r) bs reads (longer-formed ps r b t f g.0) g.1
      ∙ ap (λ n. run_value env ps (longer r) + 2 ^ n * num (map (bit_value env ps) bs)) (longer-size r)
      ∙ ap (λ v. v + 2 ^ suc (size r) * num (map (bit_value env ps) bs)) (longer-value env ps r b t f)
      ∙ joined_more (size r) (run_value env ps r) (bit_value env ps b) (num (map (bit_value env ps) bs)))
  | inr n ↦ rw n (
      ap (λ w. value env (gather_from (start b) bs) * 2 ^ w + value env (whole r)) (whole-width r)
      ∙ ap (λ v. value env (gather_from (start b) bs) * 2 ^ size r + v) (whole-value env ps r reads f)
      ∙ ap (λ v. v * 2 ^ size r + run_value env ps r) (gather_from-value env ps (start b) bs reads (start-formed ps b g.0) g.1)
      ∙ joined_above (size r) (size (start b)) (run_value env ps r) (bit_value env ps b) (num (map (bit_value env ps) bs)) (run_value env ps (start b)) (start-size b) (start-value env ps b))
]

-- the gathered term of bits is their number
pub gather-value : (env : Env) (ps : List (List ℕ)) (bs : List Bit) → Reads env ps → BitsFormed ps bs → value env (gather bs) ≡ num (map (bit_value env ps) bs)
unfolding num
gather-value env ps [] reads g = refl
gather-value env ps (b ∷ bs) reads g =
    gather_from-value env ps (start b) bs reads (start-formed ps b g.0) g.1
    ∙ ap (λ n. run_value env ps (start b) + 2 ^ n * num (map (bit_value env ps) bs)) (start-size b)
    ∙ ap (λ v. v + 2 * num (map (bit_value env ps) bs)) (start-value env ps b)

pub gather_from-width : (r : Run) (bs : List Bit) → width_of (gather_from r bs) ≡ size r + length bs
gather_from-width r [] = whole-width r ∙ omega arith
gather_from-width r (b ∷ bs) = elim (cases_Bool (continues r b)) [
  | inl t ↦ rw t (gather_from-width (longer r) bs ∙ ap (λ n. n + length bs) (longer-size r) ∙ omega arith)
  | inr n ↦ rw n refl
]

pub gather-width : (bs : List Bit) → width_of (gather bs) ≡ length bs
gather-width [] = refl
gather-width (b ∷ bs) = gather_from-width (start b) bs ∙ ap (λ n. n + length bs) (start-size b) ∙ omega arith

pub run-some : (ps : List (List ℕ)) (r : Run) → RunFormed ps r → 0 < size r
run-some ps (zeros n) f = f
run-some ps (inputs p l n) f = f.0
run-some ps (terms t k n) f = f.0

cat_fits : (w m n s k : ℕ) → w ≡ s + k → s ≡ 1 → m ≡ n → n + suc k ≡ w + m
cat_fits w m n s k e f g = omega arith

pub gather_from-formed : (ps : List (List ℕ)) (r : Run) (bs : List Bit) → RunFormed ps r → BitsFormed ps bs → size r + length bs ≤ 128 → WellFormed (gather_from r bs)
gather_from-formed ps r [] f g h = whole-formed ps r f (omega arith)
gather_from-formed ps r (b ∷ bs) f g h = elim (cases_Bool (continues r b)) [
  | inl t ↦ rw t (gather_from-formed ps (longer r) bs (longer-formed ps r b t f g.0) g.1 (omega (arith, longer-size r)))
  | inr n ↦ rw n (
    (omega arith, omega arith),
    cat_fits _ _ (size r) _ (length bs) (gather_from-width (start b) bs) (start-size b) (whole-width r),
    gather_from-formed ps (start b) bs (start-formed ps b g.0) g.1 (omega (arith, start-size b)),
    whole-formed ps r f (omega arith),
  )
]

pub gather-formed : (ps : List (List ℕ)) (bs : List Bit) → BitsFormed ps bs → 0 < length bs → length bs ≤ 128 → WellFormed (gather bs)
gather-formed ps [] g some h = absurd (omega arith)
gather-formed ps (b ∷ bs) g some h = gather_from-formed ps (start b) bs (start-formed ps b g.0) g.1 (omega (arith, start-size b))
