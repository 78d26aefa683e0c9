-- Where a run of units reaches a value, its term has its number.
use Rattle.std.proofs.Common.{◌≡◌, ℕ, zero, suc, ◌+◌, ◌*◌, ◌%◌, ◌^◌, ◌<◌, ◌≤◌, ◌⊎◌, Bool, true, false, List, [], ◌∷◌, ◌++◌, length, map, take, drop, Option, Some, None, refl, sym, ap, subst, ◌∙◌, arith, append_assoc, append-nil, inl, inr}
use Rattle.std.specs.Prelude.{ℤ, pos, negsuc, ◌&&◌, ◌||◌, nat_eq, nat_le, nat_lt, slice_index, slice_index_or, if◌then◌else◌}
use Rattle.std.proofs.lemmas.List.{get_or_push, length-take, length_push}
use Rattle.std.proofs.Math.Nat.{mod-eq_of_lt}
use Rattle.std.proofs.Math.Seq.{drop-append_seam}
use Rattle.vg_base.specs.Address.{place_of}
use Rattle.vg_base.specs.Bits.{number, bytes}
use Rattle.vg_base.specs.Memory.{loaded, stored}
use Rattle.vg_base.specs.Trap.{◌>>=◌}
use Rattle.vg_base.specs.declared.width.Width.{Width}
use Rattle.vg_base.specs.declared.width.Width.TheVariants.{W8, W16, W32, W64}
use Rattle.vg_base.specs.Width.{bits_of, size_of}
use Rattle.vg_base.proofs.LowBits.{pow-le}
use Rattle.vg_bits.specs.BitList.{IsBytes}
use Rattle.vg_bits.proofs.BitLists.{num_below}
use Rattle.vg_bits.proofs.ByteLists.{IsBits-bits_of_bytes, IsBytes-bytes, length-bits_of_bytes, num-bits_of_bytes}
use Rattle.vg_base.specs.Bits.{bits_of_bytes, num}
use Rattle.vg_scalar.specs.Scalar.{two_result, shift_result, resize_result, comparison_result, select_result}
use Rattle.vg_shapes.specs.declared.ssa_unit.Operands.{Operands}
use Rattle.vg_shapes.specs.declared.ssa_unit.Operator.{Operator}
use Rattle.vg_shapes.specs.declared.ssa_unit.Operator.TheVariants.{Two, Shift, Resize, Compare, Select}
use Rattle.vg_shapes.specs.declared.ssa_unit.SsaUnit.{SsaUnit}
use Rattle.vg_shapes.specs.declared.ssa_unit.SsaUnit.TheVariants.{Load, Store, Operation}
use Rattle.vg_shapes.specs.declared.wanted.Wanted.{Wanted}
use Rattle.vg_shapes.specs.declared.wanted.Wanted.TheVariants.{Value, Constant, Nothing}
use Rattle.vg_shapes.specs.RunUnits.{number_of, operation_result, Reached, reached, result_of, run_units, unit_run}
use Rattle.vg_shapes.specs.Sound.{cut_key, unit_bits}
use Rattle.vg_ssa.specs.Fitting.{IsTermOf}
use Rattle.vg_ssa.specs.declared.value_terms.Depth.{Depth}
use Rattle.vg_ssa.specs.ValueTerm.{cut_term, looks_in, no_term, operand_term, over_operands, terms_behind, unit_term, writes_bits}
use Rattle.vg_ssa.proofs.Environment.{ReadUnits}
use Rattle.vg_ssa.proofs.OperationTerms.{canonical-means}
use Rattle.vg_ssa.proofs.Terms.{cut-fit, Stand, stand-more, whole-fit}
use Rattle.vg_ssa.proofs.Typing.{behind, BitIn, NumberIn, OperationIn, UnitIn, UnitsIn}
use Rattle.vg_terms.specs.declared.value.Env.{Env}
use Rattle.vg_terms.specs.Term.{Tree, leaf, node_count, width_of}
use Rattle.vg_terms.specs.Value.{number_at, value}
use Rattle.vg_terms.proofs.Values.{value-below}

-- ---- bytes

bytes-both : (xs ys : List ℕ) → IsBytes xs → IsBytes ys → IsBytes (xs ++ ys)
bytes-both [] ys h g = g
bytes-both (x ∷ xs) ys h g = (h.0, bytes-both xs ys h.1 g)

bytes-take : (n : ℕ) (xs : List ℕ) → IsBytes xs → IsBytes (take n xs)
bytes-take zero xs h = tt
bytes-take (suc n) [] h = tt
bytes-take (suc n) (x ∷ xs) h = (h.0, bytes-take n xs h.1)

bytes-drop : (n : ℕ) (xs : List ℕ) → IsBytes xs → IsBytes (drop n xs)
bytes-drop zero xs h = h
bytes-drop (suc n) [] h = tt
bytes-drop (suc n) (x ∷ xs) h = bytes-drop n xs h.1

number-below : (bs : List ℕ) → IsBytes bs → number bs < 2 ^ (8 * length bs)
number-below bs h =
    let P : ℕ → Type 0 = λ n. n < 2 ^ (8 * length bs) in
    subst P (num-bits_of_bytes bs h) (subst (λ n. num (bits_of_bytes bs) < 2 ^ n) (length-bits_of_bytes bs) (num_below (bits_of_bytes bs) (IsBits-bits_of_bytes bs)))

eight-times : (w : Width) → 8 * size_of w ≡ bits_of w
eight-times W8 = refl
eight-times W16 = refl
eight-times W32 = refl
eight-times W64 = refl

tested : {A : Type 0} (b : Bool) (x y : A) → (if b then Some x else None) ≡ Some y → x ≡ y
tested true x y e = cc
tested false x y e = absurd (cc)

-- what a load reads is below 2 to its width
loaded-below : (memory : List ℕ) (at : ℤ) (w : Width) (read : List ℕ) → IsBytes memory → loaded memory at (size_of w) ≡ Some read → number read < 2 ^ bits_of w
loaded-below memory (pos at) w read h e =
    let same : take (size_of w) (drop at memory) ≡ read = tested (nat_le (at + size_of w) (length memory)) (take (size_of w) (drop at memory)) read e in
    let long : length read ≤ size_of w = omega (arith, length-take (size_of w) (drop at memory), ap length same) in
    let l = number-below read (subst IsBytes same (bytes-take (size_of w) (drop at memory) (bytes-drop at memory h))) in
    let m : 8 * length read ≤ bits_of w = omega (arith, eight-times w) in
    omega (arith, pow-le (8 * length read) (bits_of w) m)
loaded-below memory (negsuc n) w read h e = absurd (cc)

-- memory stays bytes
stored-bytes : (memory new : List ℕ) (at : ℤ) (after : List ℕ) → IsBytes memory → IsBytes new → stored memory at new ≡ Some after → IsBytes after
stored-bytes memory new (pos at) after h g e =
    let made = take at memory ++ new ++ drop (at + length new) memory in
    let same : made ≡ after = tested (nat_le (at + length new) (length memory)) made after e in
    subst IsBytes same (bytes-both (take at memory ++ new) (drop (at + length new) memory) (bytes-both (take at memory) new (bytes-take at memory h) g) (bytes-drop (at + length new) memory h))
stored-bytes memory new (negsuc n) after h g e = absurd (cc)

-- ---- steps

pub bound : {A B : Type 0} (o : Option A) (f : A → Option B) (y : B) → (o >>= f) ≡ Some y → (x : A) × (o ≡ Some x) × (f x ≡ Some y)
bound None f y e = absurd (cc)
bound (Some x) f y e = (x, refl, e)

-- the number that a unit gives
abbrev pub Gives : List ℕ → SsaUnit → ℕ → Type 0
Gives numbers (Load a w) n = n < 2 ^ bits_of w
Gives numbers (Store a w x) n = n ≡ 0
Gives numbers (Operation op w k xs) n = n ≡ result_of (slice_index numbers) op (bits_of w) k xs

pub record Step (r : Reached) (u : SsaUnit) (t : Reached) : Type 0 where
  pub given : ℕ
  pub numbers : t.numbers ≡ r.numbers ++ given ∷ []
  pub gives : Gives r.numbers u given
  pub memory : IsBytes t.memory

pub unit-step : (places : List ℕ) (u : SsaUnit) (r t : Reached) → IsBytes r.memory → unit_run places u r ≡ Some t → Step r u t
unit-step places (Load a w) r t h e =
    let b = bound (loaded r.memory (place_of places a) (size_of w)) (λ read. Some (reached r.memory r.numbers (number read))) t e in
    let same : reached r.memory r.numbers (number b.0) ≡ t = cc in
    subst (Step r (Load a w)) same (record { given = number b.0; numbers = refl; gives = loaded-below r.memory (place_of places a) w b.0 h b.1; memory = h })
unit-step places (Store a w x) r t h e =
    let new = bytes (size_of w) (number_of (slice_index r.numbers) x) in
    let b = bound (stored r.memory (place_of places a) new) (λ memory. Some (reached memory r.numbers 0)) t e in
    let same : reached b.0 r.numbers 0 ≡ t = cc in
    subst (Step r (Store a w x)) same (record { given = 0; numbers = refl; gives = refl; memory = stored-bytes r.memory new (place_of places a) b.0 h (IsBytes-bytes (size_of w) (number_of (slice_index r.numbers) x)) b.1 })
unit-step places (Operation op w k xs) r t h e =
    let n = result_of (slice_index r.numbers) op (bits_of w) k xs in
    let same : reached r.memory r.numbers n ≡ t = cc in
    subst (Step r (Operation op w k xs)) same (record { given = n; numbers = refl; gives = refl; memory = h })

-- the numbers of more units stand after those so far
pub record More (r : Reached) (us : List SsaUnit) (t : Reached) : Type 0 where
  pub more : List ℕ
  pub numbers : t.numbers ≡ r.numbers ++ more
  pub long : length more ≡ length us

pub run-more : (places : List ℕ) (us : List SsaUnit) (r t : Reached) → IsBytes r.memory → run_units places us r ≡ Some t → More r us t
unfolding run_units
run-more places [] r t h e = let same : r ≡ t = cc in subst (More r []) same (record { more = []; numbers = sym (append-nil r.numbers); long = refl })
run-more places (u ∷ us) r t h e =
    let b = bound (unit_run places u r) (run_units places us) t e in
    let s = unit-step places u r b.0 h b.1 in
    let m = run-more places us b.0 t s.memory b.2 in
    record {
      more = s.given ∷ m.more;
      numbers = m.numbers ∙ ap (λ l. l ++ m.more) s.numbers ∙ append_assoc r.numbers (s.given ∷ []) m.more;
      long = ap suc m.long;
    }

-- ---- what terms mean

-- each term has the number of its value, and the leaf of a value that may be cut stands for it
pub record Mean (env : Env) (first : ℕ) (bits : List (Option ℕ)) (terms : List Tree) (numbers : List ℕ) : Type 0 where
  pub long : length numbers ≡ length bits
  pub each : (v : ℕ) → value env (slice_index_or terms v no_term) ≡ slice_index numbers v
  pub cut : (v w : ℕ) → nat_lt v first ≡ false → slice_index_or bits v None ≡ Some w → number_at env.pairs (cut_key v) ≡ slice_index numbers v

whole-means : (env : Env) (first : ℕ) (bits : List (Option ℕ)) (terms : List Tree) (numbers : List ℕ) (x : Wanted) → Mean env first bits terms numbers → value env (operand_term terms x) ≡ number_of (slice_index numbers) x
whole-means env first bits terms numbers (Value v) m = m.each v
whole-means env first bits terms numbers (Constant w n) m = refl
whole-means env first bits terms numbers Nothing m = refl

-- a leaf that stands for the number of a term
pub leaf-means : (env : Env) (w v n : ℕ) (t : Tree) → IsTermOf w t → number_at env.pairs (cut_key v) ≡ n → value env t ≡ n → value env (leaf (width_of t) (cut_key v)) ≡ n
leaf-means env w v n t h e f = ap (λ m. m % 2 ^ width_of t) (e ∙ sym f) ∙ mod-eq_of_lt (value-below env t h.well_formed) ∙ f

cut-means : (env : Env) (b : Bool) (first : ℕ) (bits : List (Option ℕ)) (terms : List Tree) (numbers : List ℕ) (v w : ℕ) → Stand bits terms → Mean env first bits terms numbers → slice_index_or bits v None ≡ Some w
    → value env (cut_term b first terms (Value v)) ≡ slice_index numbers v
cut-means env b first bits terms numbers v w s m h = by (nat_lt v first) (b && nat_eq (width_of t) 1) refl refl
  where
    t : Tree
    t = slice_index_or terms v no_term

    by : (x y : Bool) → nat_lt v first ≡ x → (b && nat_eq (width_of t) 1) ≡ y → value env (cut_term b first terms (Value v)) ≡ slice_index numbers v
    by true y e f = ap (λ z. value env (if z || (b && nat_eq (width_of t) 1) then t else leaf (width_of t) (cut_key v))) e ∙ m.each v
    by false true e f = (λ i. value env (if e i || f i then t else leaf (width_of t) (cut_key v))) ∙ m.each v
    by false false e f =
        (λ i. value env (if e i || f i then t else leaf (width_of t) (cut_key v)))
        ∙ leaf-means env w v (slice_index numbers v) t (s.each v w h).1 (m.cut v w e h) (m.each v)

number-cut : (env : Env) (b : Bool) (first : ℕ) (bits : List (Option ℕ)) (terms : List Tree) (numbers : List ℕ) (w : Width) (x : Wanted) → Stand bits terms → Mean env first bits terms numbers → NumberIn bits w x
    → value env (cut_term b first terms x) ≡ number_of (slice_index numbers) x
number-cut env b first bits terms numbers w (Value v) s m h = cut-means env b first bits terms numbers v (bits_of w) s m h
number-cut env b first bits terms numbers w (Constant n k) s m h = refl
number-cut env b first bits terms numbers w Nothing s m h = refl

bit-cut : (env : Env) (b : Bool) (first : ℕ) (bits : List (Option ℕ)) (terms : List Tree) (numbers : List ℕ) (x : Wanted) → Stand bits terms → Mean env first bits terms numbers → BitIn bits x
    → value env (cut_term b first terms x) ≡ number_of (slice_index numbers) x
bit-cut env b first bits terms numbers (Value v) s m h = cut-means env b first bits terms numbers v 1 s m h
bit-cut env b first bits terms numbers (Constant n k) s m h = refl
bit-cut env b first bits terms numbers Nothing s m h = refl

-- the numbers of cut operands
cut-result : (env : Env) (b : Bool) (first : ℕ) (bits : List (Option ℕ)) (terms : List Tree) (numbers : List ℕ) (op : Operator) (w : Width) (k : ℕ) (xs : Operands) → Stand bits terms → Mean env first bits terms numbers → OperationIn bits op w k xs
    → operation_result op (bits_of w) k (value env (cut_term b first terms xs.first)) (value env (cut_term b first terms xs.second)) (value env (cut_term b first terms xs.third)) ≡ result_of (slice_index numbers) op (bits_of w) k xs
cut-result env b first bits terms numbers (Two op) w k xs s m h =
    λ i. two_result op (bits_of w) (number-cut env b first bits terms numbers w xs.first s m h.1 i) (number-cut env b first bits terms numbers w xs.second s m h.2 i)
cut-result env b first bits terms numbers (Shift op) w k xs s m h = ap (shift_result op (bits_of w) k) (number-cut env b first bits terms numbers w xs.first s m h.1)
cut-result env b first bits terms numbers (Resize op v) w k xs s m h = ap (resize_result op (bits_of w) (bits_of v)) (number-cut env b first bits terms numbers v xs.first s m h.2)
cut-result env b first bits terms numbers (Compare op) w k xs s m h =
    λ i. comparison_result op (bits_of w) (number-cut env b first bits terms numbers w xs.first s m h.1 i) (number-cut env b first bits terms numbers w xs.second s m h.2 i)
cut-result env b first bits terms numbers Select w k xs s m h =
    λ i. select_result (bit-cut env b first bits terms numbers xs.first s m h.1 i) (number-cut env b first bits terms numbers w xs.second s m h.2 i) (number-cut env b first bits terms numbers w xs.third s m h.3 i)

either-means : (env : Env) (b : Bool) (x y : Tree) (n : ℕ) → value env x ≡ n → value env y ≡ n → value env (if b then x else y) ≡ n
either-means env true x y n e f = e
either-means env false x y n e f = f

operation-number : (env : Env) (d : Depth) (first : ℕ) (bits : List (Option ℕ)) (terms : List Tree) (numbers : List ℕ) (op : Operator) (w : Width) (k : ℕ) (xs : Operands) → Stand bits terms → Mean env first bits terms numbers → OperationIn bits op w k xs
    → value env (unit_term d first terms (Operation op w k xs)) ≡ result_of (slice_index numbers) op (bits_of w) k xs
operation-number env d first bits terms numbers op w k xs s m h =
    let f = whole-means env first bits terms numbers in
    either-means env (looks_in d && nat_le (node_count (over_operands (operand_term terms) op (bits_of w) k xs)) 128)
    (over_operands (operand_term terms) op (bits_of w) k xs) (over_operands (cut_term (writes_bits d) first terms) op (bits_of w) k xs) (result_of (slice_index numbers) op (bits_of w) k xs)
    (canonical-means op env w k (operand_term terms xs.first) (operand_term terms xs.second) (operand_term terms xs.third) (whole-fit bits terms op w k xs s h)
    ∙ (λ i. operation_result op (bits_of w) k (f xs.first m i) (f xs.second m i) (f xs.third m i)))
    (canonical-means op env w k (cut_term (writes_bits d) first terms xs.first) (cut_term (writes_bits d) first terms xs.second) (cut_term (writes_bits d) first terms xs.third) (cut-fit (writes_bits d) first bits terms op w k xs s h)
    ∙ cut-result env (writes_bits d) first bits terms numbers op w k xs s m h)

-- ---- one unit more

abbrev Reads : Env → ℕ → SsaUnit → ℕ → Type 0
Reads env v u n = ReadUnits env.pairs v (u ∷ []) (n ∷ [])

unit-number : (env : Env) (d : Depth) (count first : ℕ) (bits : List (Option ℕ)) (terms : List Tree) (numbers : List ℕ) (u : SsaUnit) (n : ℕ) → Stand bits terms → Mean env first bits terms numbers → UnitIn count bits u → Gives numbers u n → Reads env (length terms) u n
    → value env (unit_term d first terms u) ≡ n
unit-number env d count first bits terms numbers (Load a w) n s m h g e = ap (λ k. k % 2 ^ bits_of w) e.0.0 ∙ mod-eq_of_lt g
unit-number env d count first bits terms numbers (Store a w x) n s m h g e = sym g
unit-number env d count first bits terms numbers (Operation op w k xs) n s m h g e = operation-number env d first bits terms numbers op w k xs s m h ∙ sym g

unit-cut : (env : Env) (u : SsaUnit) (v w n : ℕ) → unit_bits u ≡ Some w → Reads env v u n → number_at env.pairs (cut_key v) ≡ n
unit-cut env (Load a m) v w n e h = h.0.1
unit-cut env (Store a m x) v w n e h = absurd (cc)
unit-cut env (Operation op m k xs) v w n e h = h.0

-- a place in a longer list is one of the list, or the last
place : (bits : List (Option ℕ)) (b : Option ℕ) (v w : ℕ) → slice_index_or (bits ++ b ∷ []) v None ≡ Some w → ((v < length bits) × (slice_index_or bits v None ≡ Some w)) ⊎ ((v ≡ length bits) × (b ≡ Some w))
place [] b zero w e = inr (refl, e)
place [] b (suc v) w e = absurd (cc)
place (a ∷ bits) b zero w e = inl (omega arith, e)
place (a ∷ bits) b (suc v) w e = elim (place bits b v w e) [ inl h ↦ inl (omega (arith, h.0), h.1) | inr h ↦ inr (ap suc h.0, h.1) ]

each-more : (env : Env) (terms : List Tree) (numbers : List ℕ) (t : Tree) (n : ℕ) → length numbers ≡ length terms → ((v : ℕ) → value env (slice_index_or terms v no_term) ≡ slice_index numbers v) → value env t ≡ n
    → (v : ℕ) → value env (slice_index_or (terms ++ t ∷ []) v no_term) ≡ slice_index (numbers ++ n ∷ []) v
each-more env [] [] t n l h e zero = e
each-more env [] [] t n l h e (suc v) = refl
each-more env [] (m ∷ numbers) t n l h e v = absurd (omega arith)
each-more env (x ∷ terms) [] t n l h e v = absurd (omega arith)
each-more env (x ∷ terms) (m ∷ numbers) t n l h e zero = h 0
each-more env (x ∷ terms) (m ∷ numbers) t n l h e (suc v) = each-more env terms numbers t n (omega arith) (λ j. h (suc j)) e v

before : (numbers : List ℕ) (n v : ℕ) → v < length numbers → slice_index (numbers ++ n ∷ []) v ≡ slice_index numbers v
before [] n v l = absurd (omega arith)
before (m ∷ numbers) n zero l = refl
before (m ∷ numbers) n (suc v) l = before numbers n v (omega arith)

mean-more : (env : Env) (d : Depth) (count first : ℕ) (bits : List (Option ℕ)) (terms : List Tree) (numbers : List ℕ) (u : SsaUnit) (n : ℕ) → Stand bits terms → Mean env first bits terms numbers → UnitIn count bits u → Gives numbers u n → Reads env (length numbers) u n
    → Mean env first (bits ++ unit_bits u ∷ []) (terms ++ unit_term d first terms u ∷ []) (numbers ++ n ∷ [])
mean-more env d count first bits terms numbers u n s m h g e =
    let l : length numbers ≡ length terms = m.long ∙ sym s.long in
    record {
      long = (let a = length_push numbers n in let b = length_push bits (unit_bits u) in let c = m.long in omega arith);
      each = each-more env terms numbers (unit_term d first terms u) n l m.each (unit-number env d count first bits terms numbers u n s m h g (subst (λ k. Reads env k u n) l e));
      cut = λ v w c f. elim (place bits (unit_bits u) v w f) [
        | inl p ↦ m.cut v w c p.1 ∙ sym (before numbers n v (let q = m.long in omega (arith, p.0)))
        | inr p ↦ (
            let at : length numbers ≡ v = m.long ∙ sym p.0 in
            unit-cut env u v w n p.1 (subst (λ k. Reads env k u n) at e) ∙ sym (get_or_push numbers n 0 v at))
      ];
    }

-- ---- the run

pub run-means : (env : Env) (d : Depth) (count first : ℕ) (places : List ℕ) (us : List SsaUnit) (bits : List (Option ℕ)) (terms : List Tree) (r t : Reached) → Stand bits terms → Mean env first bits terms r.numbers → UnitsIn count bits us → IsBytes r.memory
    → run_units places us r ≡ Some t → ReadUnits env.pairs (length r.numbers) us (drop (length r.numbers) t.numbers)
    → Mean env first (behind bits us) (terms_behind d first terms us) t.numbers
unfolding run_units
run-means env d count first places [] bits terms r t s m h g e reads =
    let same : r ≡ t = cc in
    subst (λ l. Mean env first l terms t.numbers) (sym (append-nil bits)) (subst (λ (q : Reached). Mean env first bits terms q.numbers) same m)
run-means env d count first places (u ∷ us) bits terms r t s m h g e reads =
    let b = bound (unit_run places u r) (run_units places us) t e in
    let q = b.0 in
    let p = unit-step places u r q g b.1 in
    let rest = run-more places us q t p.memory b.2 in
    let all : t.numbers ≡ r.numbers ++ (p.given ∷ rest.more) = rest.numbers ∙ ap (λ l. l ++ rest.more) p.numbers ∙ append_assoc r.numbers (p.given ∷ []) rest.more in
    let here : drop (length r.numbers) t.numbers ≡ p.given ∷ rest.more = ap (drop (length r.numbers)) all ∙ drop-append_seam r.numbers (p.given ∷ rest.more) in
    let ahead : drop (length q.numbers) t.numbers ≡ rest.more = ap (drop (length q.numbers)) rest.numbers ∙ drop-append_seam q.numbers rest.more in
    let long : length q.numbers ≡ length r.numbers + 1 = ap length p.numbers ∙ length_push r.numbers p.given in
    let read = subst (ReadUnits env.pairs (length r.numbers) (u ∷ us)) here reads in
    let wider = bits ++ unit_bits u ∷ [] in
    let more = terms ++ unit_term d first terms u ∷ [] in
    let next : Mean env first wider more q.numbers =
    subst (Mean env first wider more) (sym p.numbers)
    (mean-more env d count first bits terms r.numbers u p.given s m h.0 p.gives (read.0, tt)) in
    let later : ReadUnits env.pairs (length q.numbers) us (drop (length q.numbers) t.numbers) =
    subst (λ n. ReadUnits env.pairs n us (drop (length q.numbers) t.numbers)) (sym long) (subst (ReadUnits env.pairs (length r.numbers + 1) us) (sym ahead) read.1) in
    subst (λ l. Mean env first l (terms_behind d first more us) t.numbers) (append_assoc bits (unit_bits u ∷ []) (map unit_bits us))
    (run-means env d count first places us wider more q t (stand-more d count first bits terms u s h.0) next h.1 p.memory b.2 later)
