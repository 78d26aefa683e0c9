-- The units of a kernel run as the kernel does. The invariant is `Meets`: the run of the units so far has the
-- memory of the run of the statements, what stands for each name has its number, and the arguments stand first.
use Rattle.std.proofs.Common.{◌≡◌, ℕ, zero, suc, ◌+◌, ◌<◌, ◌≤◌, List, [], ◌∷◌, ◌++◌, length, Option, Some, None, refl, sym, ap, subst, ◌∙◌, arith, append_assoc, append-nil}
use Rattle.std.specs.Prelude.{slice_get, slice_index, slice_index_or}
use Rattle.std.proofs.lemmas.List.{get_or_append_left, get_or_push, length-append, length_push}
use Rattle.vg_base.specs.Trap.{◌>>=◌}
use Rattle.vg_base.specs.declared.address.Address.{Address}
use Rattle.vg_base.specs.Address.{place_of}
use Rattle.vg_base.specs.Bits.{number, bytes}
use Rattle.vg_base.specs.Memory.{loaded, stored}
use Rattle.vg_base.specs.Width.{bits_of, size_of}
use Rattle.vg_base.specs.declared.width.Width.{Width}
use Rattle.vg_kernel.specs.declared.parameter.KParam.{KParam}
use Rattle.vg_kernel.specs.declared.value_type.ValueType.{ValueType}
use Rattle.vg_kernel.specs.Meaning.{Inputs, State, meaning, run, value}
use Rattle.vg_kernel.specs.Tree.{Expression, argument, assigned, literal, load, two, shift, resize, compare, select, Statement, assign, store, gives}
use Rattle.vg_kernel.specs.WellFormed.{AreStatements, integer_widths, IsExpression}
use Rattle.vg_scalar.specs.Scalar.{two_result, shift_result, resize_result, comparison_result, select_result}
use Rattle.vg_shapes.specs.declared.ssa_unit.Operands.{Operands}
use Rattle.vg_shapes.specs.declared.ssa_unit.Operator.{Operator}
use Rattle.vg_shapes.specs.declared.ssa_unit.Operator.TheVariants.{Two, Shift, Resize, Compare, Select}
use Rattle.vg_shapes.specs.declared.ssa_unit.SsaUnit.{SsaUnit}
use Rattle.vg_shapes.specs.declared.ssa_unit.SsaUnit.TheVariants.{Load, Store, Operation}
use Rattle.vg_shapes.specs.declared.wanted.Wanted.{Wanted}
use Rattle.vg_shapes.specs.declared.wanted.Wanted.TheVariants.{Value, Constant, Nothing}
use Rattle.vg_shapes.specs.RunUnits.{number_of, Reached, reached, result_of, run_units, start_of, unit_run}
use Rattle.vg_shapes.specs.Sound.{IsEarlier}
use Rattle.vg_ssa.specs.Laws.{UnitsRunAsKernels}
use Rattle.vg_ssa.specs.Numbering.{first_unit, numbered, operands, units_from}

-- ---- runs

chained : {A B C : Type 0} (o : Option A) (f : A → Option B) (g : B → Option C) (h : A → Option C) → ((x : A) → h x ≡ (f x >>= g)) → (o >>= h) ≡ ((o >>= f) >>= g)
chained None f g h e = refl
chained (Some x) f g h e = e x

run-append : (places : List ℕ) (us vs : List SsaUnit) (r : Reached) → run_units places (us ++ vs) r ≡ (run_units places us r >>= run_units places vs)
unfolding run_units
run-append places [] vs r = refl
run-append places (u ∷ us) vs r = chained (unit_run places u r) (run_units places us) (run_units places vs) (run_units places (us ++ vs)) (run-append places us vs)

run-one : (places : List ℕ) (u : SsaUnit) (r : Reached) → run_units places (u ∷ []) r ≡ unit_run places u r
unfolding run_units
run-one places u r = by (unit_run places u r)
  where
    by : (o : Option Reached) → (o >>= run_units places []) ≡ o
    by None = refl
    by (Some t) = refl

run-none : (places : List ℕ) (r : Reached) → run_units places [] r ≡ Some r
unfolding run_units
run-none places r = refl

-- ---- what a run of the units of an expression finds

-- the memory stays, and each unit gives a number
record Grown (r : Reached) (us : List SsaUnit) (t : Reached) : Type 0 where
  memory : t.memory ≡ r.memory
  more : List ℕ
  numbers : t.numbers ≡ r.numbers ++ more
  long : length more ≡ length us

-- run from r, these units trap, or find this number, for which this stands
abbrev Finds : List ℕ → Reached → List SsaUnit → Wanted → Option ℕ → Type 0
Finds places r us x None = run_units places us r ≡ None
Finds places r us x (Some v) =
    (t : Reached) × (run_units places us r ≡ Some t) × Grown r us t × (number_of (slice_index t.numbers) x ≡ v) × IsEarlier (length t.numbers) x

-- numbers that are there stay
number-stays : (numbers more : List ℕ) (x : Wanted) → IsEarlier (length numbers) x → number_of (slice_index (numbers ++ more)) x ≡ number_of (slice_index numbers) x
number-stays numbers more (Value v) h = get_or_append_left numbers more 0 v h
number-stays numbers more (Constant w n) h = refl
number-stays numbers more Nothing h = refl

pub earlier-stays : (m n : ℕ) (x : Wanted) → m ≤ n → IsEarlier m x → IsEarlier n x
earlier-stays m n (Value v) l h = omega arith
earlier-stays m n (Constant w k) l h = tt
earlier-stays m n Nothing l h = tt

grown-longer : (r : Reached) (us : List SsaUnit) (t : Reached) → Grown r us t → length t.numbers ≡ length r.numbers + length us
grown-longer r us t g = ap length g.numbers ∙ length-append r.numbers g.more ∙ ap (λ k. length r.numbers + k) g.long

grown-number : (r : Reached) (us : List SsaUnit) (t : Reached) (x : Wanted) (v : ℕ) → Grown r us t → IsEarlier (length r.numbers) x → number_of (slice_index r.numbers) x ≡ v → number_of (slice_index t.numbers) x ≡ v
grown-number r us t x v g early e = ap (λ l. number_of (slice_index l) x) g.numbers ∙ number-stays r.numbers g.more x early ∙ e

grown-twice : (r : Reached) (us : List SsaUnit) (t : Reached) (vs : List SsaUnit) (q : Reached) → Grown r us t → Grown t vs q → Grown r (us ++ vs) q
grown-twice r us t vs q g h = record {
  memory = h.memory ∙ g.memory;
  more = g.more ++ h.more;
  numbers = h.numbers ∙ ap (λ l. l ++ h.more) g.numbers ∙ append_assoc r.numbers g.more h.more;
  long = length-append g.more h.more ∙ (λ i. g.long i + h.long i) ∙ sym (length-append us vs);
}

-- what is found after other units
finds-behind : (places : List ℕ) (r : Reached) (us : List SsaUnit) (t : Reached) (vs : List SsaUnit) (y : Wanted) (o : Option ℕ) → run_units places us r ≡ Some t → Grown r us t → Finds places t vs y o → Finds places r (us ++ vs) y o
finds-behind places r us t vs y None e g f = run-append places us vs r ∙ ap (λ o. o >>= run_units places vs) e ∙ f
finds-behind places r us t vs y (Some v) e g f =
    (f.0, run-append places us vs r ∙ ap (λ o. o >>= run_units places vs) e ∙ f.1, grown-twice r us t vs f.0 g f.2, f.3, f.4)

-- one search, and another that goes on with its number
finds-then : (places : List ℕ) (r : Reached) (us : List SsaUnit) (x : Wanted) (o : Option ℕ) (f : ℕ → Option ℕ) (vs : List SsaUnit) (y : Wanted) → Finds places r us x o
    → ((v : ℕ) (t : Reached) → Grown r us t → number_of (slice_index t.numbers) x ≡ v → IsEarlier (length t.numbers) x → Finds places t vs y (f v))
    → Finds places r (us ++ vs) y (o >>= f)
finds-then places r us x None f vs y first next = run-append places us vs r ∙ ap (λ o. o >>= run_units places vs) first
finds-then places r us x (Some v) f vs y first next = finds-behind places r us first.0 vs y (f v) first.1 first.2 (next v first.0 first.2 first.3 first.4)

-- one unit that gives this number
finds-number : (places : List ℕ) (r : Reached) (u : SsaUnit) (n m : ℕ) → m ≡ length r.numbers → unit_run places u r ≡ Some (reached r.memory r.numbers n) → Finds places r (u ∷ []) (Value m) (Some n)
finds-number places r u n m long e = (
  reached r.memory r.numbers n,
  run-one places u r ∙ e,
  record { memory = refl; more = n ∷ []; numbers = refl; long = refl },
  get_or_push r.numbers n 0 m (sym long),
  (let more = length_push r.numbers n in omega arith),
)

finds-operation : (places : List ℕ) (r : Reached) (op : Operator) (w : Width) (k : ℕ) (xs : Operands) (v m : ℕ) → m ≡ length r.numbers → result_of (slice_index r.numbers) op (bits_of w) k xs ≡ v → Finds places r (Operation op w k xs ∷ []) (Value m) (Some v)
finds-operation places r op w k xs v m long e = finds-number places r (Operation op w k xs) v m long (ap (λ n. Some (reached r.memory r.numbers n)) e)

finds-load : (places : List ℕ) (r : Reached) (memory : List ℕ) (u : SsaUnit) (o : Option (List ℕ)) (m : ℕ) → m ≡ length r.numbers
    → unit_run places u r ≡ (o >>= λ read. Some (reached r.memory r.numbers (number read))) → Finds places r (u ∷ []) (Value m) (o >>= λ read. Some (number read))
finds-load places r memory u None m long e = run-one places u r ∙ e
finds-load places r memory u (Some read) m long e = finds-number places r u (number read) m long e

-- ---- the invariant

record Meets (a : ℕ) (i : Inputs) (s : State) (names : List Wanted) (r : Reached) : Type 0 where
  memory : r.memory ≡ s.memory
  args : (k : ℕ) → k < a → slice_index r.numbers k ≡ slice_index i.args k
  long : a ≤ length r.numbers
  count : length names ≡ length s.numbers
  named : (k : ℕ) → number_of (slice_index r.numbers) (slice_index_or names k Nothing) ≡ slice_index s.numbers k
  early : (k : ℕ) → IsEarlier (length r.numbers) (slice_index_or names k Nothing)

meets-more : (a : ℕ) (i : Inputs) (s : State) (names : List Wanted) (r : Reached) (us : List SsaUnit) (t : Reached) → Meets a i s names r → Grown r us t → Meets a i s names t
meets-more a i s names r us t m g =
    let longer = grown-longer r us t g in
    let low = m.long in
    record {
      memory = g.memory ∙ m.memory;
      args = λ k h. ap (λ l. slice_index l k) g.numbers ∙ get_or_append_left r.numbers g.more 0 k (omega arith) ∙ m.args k h;
      long = omega arith;
      count = m.count;
      named = λ k. grown-number r us t (slice_index_or names k Nothing) (slice_index s.numbers k) g (m.early k) (m.named k);
      early = λ k. earlier-stays (length r.numbers) (length t.numbers) (slice_index_or names k Nothing) (omega arith) (m.early k);
    }

pub get-below : {A : Type 0} (xs : List A) (k : ℕ) (x : A) → slice_get xs k ≡ Some x → k < length xs
get-below [] k x e = absurd (cc)
get-below (y ∷ ys) zero x e = omega arith
get-below (y ∷ ys) (suc k) x e = let rest = get-below ys k x e in omega arith

regroup : (places : List ℕ) (r : Reached) (us vs ws : List SsaUnit) (y : Wanted) (o : Option ℕ) → Finds places r (us ++ (vs ++ ws)) y o → Finds places r ((us ++ vs) ++ ws) y o
regroup places r us vs ws y o f = subst (λ l. Finds places r l y o) (sym (append_assoc us vs ws)) f

-- ---- expressions

finds : (params : List KParam) (given : List ValueType) (i : Inputs) (s : State) (names : List Wanted) (r : Reached) (n : ℕ) (e : Expression) → IsExpression params given e → Meets (length (integer_widths params)) i s names r → n ≡ length r.numbers
    → Finds i.places r (numbered n names e).units (numbered n names e).value (value i s e)
finds params given i s names r n (argument k w) good m long =
    let below = get-below (integer_widths params) k w good in
    let low = m.long in
    (r, run-none i.places r, record { memory = refl; more = []; numbers = sym (append-nil r.numbers); long = refl }, m.args k below, omega arith)
finds params given i s names r n (assigned k t) good m long =
    (r, run-none i.places r, record { memory = refl; more = []; numbers = sym (append-nil r.numbers); long = refl }, m.named k, m.early k)
finds params given i s names r n (literal w v) good m long =
    (r, run-none i.places r, record { memory = refl; more = []; numbers = sym (append-nil r.numbers); long = refl }, refl, tt)
finds params given i s names r n (load w a) good m long =
    finds-load i.places r s.memory (Load a w) (loaded s.memory (place_of i.places a) (size_of w)) (n + 0) (omega arith)
    (ap (λ l. loaded l (place_of i.places a) (size_of w) >>= λ read. Some (reached r.memory r.numbers (number read))) m.memory)
finds params given i s names r n (two op w x y) good m long =
    let p = numbered n names x in
    let q = numbered (n + length p.units) names y in
    let one = Operation (Two op) w 0 (operands p.value q.value Nothing) ∷ [] in
    let z = Value (n + length (p.units ++ q.units)) in
    regroup i.places r p.units q.units one z (value i s (two op w x y)) (finds-then i.places r p.units p.value (value i s x) (λ a. value i s y >>= λ b. Some (two_result op (bits_of w) a b)) (q.units ++ one) z (finds params given i s names r n x good.2 m long) (λ a t g e early.
    let longer = grown-longer r p.units t g in
    finds-then i.places t q.units q.value (value i s y) (λ b. Some (two_result op (bits_of w) a b)) one z (finds params given i s names t (n + length p.units) y good.3 (meets-more (length (integer_widths params)) i s names r p.units t m g) (omega arith)) (λ b u h f late.
    let last = grown-longer t q.units u h in
    let both = length-append p.units q.units in
    finds-operation i.places u (Two op) w 0 (operands p.value q.value Nothing) (two_result op (bits_of w) a b) (n + length (p.units ++ q.units)) (omega arith)
    (λ j. two_result op (bits_of w) (grown-number t q.units u p.value a h early e j) (f j)))))
finds params given i s names r n (shift op w k x) good m long =
    let p = numbered n names x in
    finds-then i.places r p.units p.value (value i s x) (λ a. Some (shift_result op (bits_of w) k a)) (Operation (Shift op) w k (operands p.value Nothing Nothing) ∷ []) (Value (n + length p.units)) (finds params given i s names r n x good.2 m long) (λ a t g e early.
    let longer = grown-longer r p.units t g in
    finds-operation i.places t (Shift op) w k (operands p.value Nothing Nothing) (shift_result op (bits_of w) k a) (n + length p.units) (omega arith) (ap (shift_result op (bits_of w) k) e))
finds params given i s names r n (resize op w v x) good m long =
    let p = numbered n names x in
    finds-then i.places r p.units p.value (value i s x) (λ a. Some (resize_result op (bits_of w) (bits_of v) a)) (Operation (Resize op v) w 0 (operands p.value Nothing Nothing) ∷ []) (Value (n + length p.units)) (finds params given i s names r n x good.2 m long) (λ a t g e early.
    let longer = grown-longer r p.units t g in
    finds-operation i.places t (Resize op v) w 0 (operands p.value Nothing Nothing) (resize_result op (bits_of w) (bits_of v) a) (n + length p.units) (omega arith) (ap (resize_result op (bits_of w) (bits_of v)) e))
finds params given i s names r n (compare op w x y) good m long =
    let p = numbered n names x in
    let q = numbered (n + length p.units) names y in
    let one = Operation (Compare op) w 0 (operands p.value q.value Nothing) ∷ [] in
    let z = Value (n + length (p.units ++ q.units)) in
    regroup i.places r p.units q.units one z (value i s (compare op w x y)) (finds-then i.places r p.units p.value (value i s x) (λ a. value i s y >>= λ b. Some (comparison_result op (bits_of w) a b)) (q.units ++ one) z (finds params given i s names r n x good.2 m long) (λ a t g e early.
    let longer = grown-longer r p.units t g in
    finds-then i.places t q.units q.value (value i s y) (λ b. Some (comparison_result op (bits_of w) a b)) one z (finds params given i s names t (n + length p.units) y good.3 (meets-more (length (integer_widths params)) i s names r p.units t m g) (omega arith)) (λ b u h f late.
    let last = grown-longer t q.units u h in
    let both = length-append p.units q.units in
    finds-operation i.places u (Compare op) w 0 (operands p.value q.value Nothing) (comparison_result op (bits_of w) a b) (n + length (p.units ++ q.units)) (omega arith)
    (λ j. comparison_result op (bits_of w) (grown-number t q.units u p.value a h early e j) (f j)))))
finds params given i s names r n (select w c x y) good m long =
    let o = numbered n names c in
    let p = numbered (n + length o.units) names x in
    let q = numbered (n + length (o.units ++ p.units)) names y in
    let one = Operation Select w 0 (operands o.value p.value q.value) ∷ [] in
    let number = n + length ((o.units ++ p.units) ++ q.units) in
    let z = Value number in
    let pointers = length (integer_widths params) in
    regroup i.places r (o.units ++ p.units) q.units one z (value i s (select w c x y))
    (regroup i.places r o.units p.units (q.units ++ one) z (value i s (select w c x y))
    (finds-then i.places r o.units o.value (value i s c) (λ d. value i s x >>= λ a. value i s y >>= λ b. Some (select_result d a b)) (p.units ++ (q.units ++ one)) z (finds params given i s names r n c good.3 m long) (λ d t g e early.
    let longer = grown-longer r o.units t g in
    let m1 = meets-more pointers i s names r o.units t m g in
    finds-then i.places t p.units p.value (value i s x) (λ a. value i s y >>= λ b. Some (select_result d a b)) (q.units ++ one) z (finds params given i s names t (n + length o.units) x good.4 m1 (omega arith)) (λ a u h f late.
    let second = grown-longer t p.units u h in
    let both = length-append o.units p.units in
    finds-then i.places u q.units q.value (value i s y) (λ b. Some (select_result d a b)) one z (finds params given i s names u (n + length (o.units ++ p.units)) y good.5 (meets-more pointers i s names t p.units u m1 h) (omega arith)) (λ b v l k last.
    let third = grown-longer u q.units v l in
    let all = length-append (o.units ++ p.units) q.units in
    let stays : IsEarlier (length u.numbers) o.value = earlier-stays (length t.numbers) (length u.numbers) o.value (omega arith) early in
    finds-operation i.places v Select w 0 (operands o.value p.value q.value) (select_result d a b) number (omega arith)
    (λ j. select_result (grown-number u q.units v o.value d l stays (grown-number t p.units u o.value d h early e) j) (grown-number u q.units v p.value a l late f j) (k j)))))))

-- ---- statements

-- a name more
named-more : (numbers : List ℕ) (names : List Wanted) (values : List ℕ) (x : Wanted) (v : ℕ) → length names ≡ length values
    → ((k : ℕ) → number_of (slice_index numbers) (slice_index_or names k Nothing) ≡ slice_index values k) → number_of (slice_index numbers) x ≡ v
    → (k : ℕ) → number_of (slice_index numbers) (slice_index_or (names ++ x ∷ []) k Nothing) ≡ slice_index (values ++ v ∷ []) k
named-more numbers [] [] x v long named e zero = e
named-more numbers [] [] x v long named e (suc k) = refl
named-more numbers [] (z ∷ values) x v long named e k = absurd (omega arith)
named-more numbers (y ∷ names) [] x v long named e k = absurd (omega arith)
named-more numbers (y ∷ names) (z ∷ values) x v long named e zero = named 0
named-more numbers (y ∷ names) (z ∷ values) x v long named e (suc k) = named-more numbers names values x v (omega arith) (λ j. named (suc j)) e k

pub early-more : (n : ℕ) (names : List Wanted) (x : Wanted) → ((k : ℕ) → IsEarlier n (slice_index_or names k Nothing)) → IsEarlier n x → (k : ℕ) → IsEarlier n (slice_index_or (names ++ x ∷ []) k Nothing)
early-more n [] x early e zero = e
early-more n [] x early e (suc k) = tt
early-more n (y ∷ names) x early e zero = early 0
early-more n (y ∷ names) x early e (suc k) = early-more n names x (λ j. early (suc j)) e k

abbrev memory_of : Option Reached → Option (List ℕ)
memory_of o = o >>= λ t. Some t.memory

abbrev left_of : Option State → Option (List ℕ)
left_of o = o >>= λ t. Some t.memory

-- a name is given to what an expression gives
assign-run : (a : ℕ) (i : Inputs) (s : State) (names : List Wanted) (r : Reached) (us : List SsaUnit) (x : Wanted) (o : Option ℕ) (rest : List SsaUnit) (ss : List Statement) → Meets a i s names r → Finds i.places r us x o
    → ((v : ℕ) (t : Reached) → Meets a i (record { memory = s.memory; numbers = s.numbers ++ v ∷ [] }) (names ++ x ∷ []) t → length t.numbers ≡ length r.numbers + length us → memory_of (run_units i.places rest t) ≡ left_of (run i ss (record { memory = s.memory; numbers = s.numbers ++ v ∷ [] })))
    → memory_of (run_units i.places us r >>= run_units i.places rest) ≡ left_of ((o >>= λ v. Some (record { memory = s.memory; numbers = s.numbers ++ v ∷ [] })) >>= run i ss)
assign-run a i s names r us x None rest ss m f next = ap (λ o. memory_of (o >>= run_units i.places rest)) f
assign-run a i s names r us x (Some v) rest ss m f next =
    let t = f.0 in
    let m1 = meets-more a i s names r us t m f.2 in
    ap (λ o. memory_of (o >>= run_units i.places rest)) f.1
    ∙ next v t (record {
      memory = m1.memory;
      args = m1.args;
      long = m1.long;
      count = length_push names x ∙ ap (λ k. k + 1) m1.count ∙ sym (length_push s.numbers v);
      named = named-more t.numbers names s.numbers x v m1.count m1.named f.3;
      early = early-more (length t.numbers) names x m1.early f.4;
    }) (grown-longer r us t f.2)

-- the memory that a store leaves
stored-run : (a : ℕ) (i : Inputs) (s : State) (names : List Wanted) (t : Reached) (u : SsaUnit) (o : Option (List ℕ)) (rest : List SsaUnit) (ss : List Statement) → Meets a i s names t
    → ((memory : List ℕ) (q : Reached) → Meets a i (record { memory = memory; numbers = s.numbers }) names q → length q.numbers ≡ length t.numbers + 1 → memory_of (run_units i.places rest q) ≡ left_of (run i ss (record { memory = memory; numbers = s.numbers })))
    → memory_of ((o >>= λ memory. Some (reached memory t.numbers 0)) >>= run_units i.places rest) ≡ left_of ((o >>= λ memory. Some (record { memory = memory; numbers = s.numbers })) >>= run i ss)
stored-run a i s names t u None rest ss m next = refl
stored-run a i s names t u (Some memory) rest ss m next =
    let before : Reached = record { memory = memory; numbers = t.numbers } in
    let begun : Meets a i (record { memory = memory; numbers = s.numbers }) names before = record { memory = refl; args = m.args; long = m.long; count = m.count; named = m.named; early = m.early } in
    let grown : Grown before (u ∷ []) (reached memory t.numbers 0) = record { memory = refl; more = 0 ∷ []; numbers = refl; long = refl } in
    next memory (reached memory t.numbers 0) (meets-more a i (record { memory = memory; numbers = s.numbers }) names before (u ∷ []) (reached memory t.numbers 0) begun grown) (length_push t.numbers 0)

-- what an expression gives is stored
store-run : (a : ℕ) (i : Inputs) (s : State) (names : List Wanted) (r : Reached) (us : List SsaUnit) (x : Wanted) (o : Option ℕ) (w : Width) (at : Address) (rest : List SsaUnit) (ss : List Statement) → Meets a i s names r → Finds i.places r us x o
    → ((memory : List ℕ) (q : Reached) → Meets a i (record { memory = memory; numbers = s.numbers }) names q → length q.numbers ≡ length r.numbers + length us + 1 → memory_of (run_units i.places rest q) ≡ left_of (run i ss (record { memory = memory; numbers = s.numbers })))
    → memory_of ((run_units i.places us r >>= run_units i.places (Store at w x ∷ [])) >>= run_units i.places rest)
    ≡ left_of ((o >>= λ v. stored s.memory (place_of i.places at) (bytes (size_of w) v) >>= λ memory. Some (record { memory = memory; numbers = s.numbers })) >>= run i ss)
store-run a i s names r us x None w at rest ss m f next = ap (λ o. memory_of ((o >>= run_units i.places (Store at w x ∷ [])) >>= run_units i.places rest)) f
store-run a i s names r us x (Some v) w at rest ss m f next =
    let t = f.0 in
    let m1 = meets-more a i s names r us t m f.2 in
    let longer = grown-longer r us t f.2 in
    ap (λ o. memory_of ((o >>= run_units i.places (Store at w x ∷ [])) >>= run_units i.places rest)) f.1
    ∙ ap (λ o. memory_of (o >>= run_units i.places rest)) (run-one i.places (Store at w x) t)
    ∙ (λ j. memory_of ((stored (m1.memory j) (place_of i.places at) (bytes (size_of w) (f.3 j)) >>= λ memory. Some (reached memory t.numbers 0)) >>= run_units i.places rest))
    ∙ stored-run a i s names t (Store at w x) (stored s.memory (place_of i.places at) (bytes (size_of w) v)) rest ss m1 (λ memory q n e. next memory q n (omega arith))

statements-run : (params : List KParam) (given : List ValueType) (i : Inputs) (ss : List Statement) (s : State) (names : List Wanted) (r : Reached) (n : ℕ) → AreStatements params given ss → Meets (length (integer_widths params)) i s names r → n ≡ length r.numbers
    → memory_of (run_units i.places (units_from n names ss) r) ≡ left_of (run i ss s)
unfolding run
statements-run params given i [] s names r n good m long = ap memory_of (run-none i.places r) ∙ ap Some m.memory
statements-run params given i (assign e ∷ ss) s names r n good m long =
    let p = numbered n names e in
    let rest = units_from (n + length p.units) (names ++ p.value ∷ []) ss in
    ap memory_of (run-append i.places p.units rest r)
    ∙ assign-run (length (integer_widths params)) i s names r p.units p.value (value i s e) rest ss m (finds params given i s names r n e good.0.0 m long) (λ v t met longer.
    statements-run params (given ++ gives (assign e)) i ss (record { memory = s.memory; numbers = s.numbers ++ v ∷ [] }) (names ++ p.value ∷ []) t (n + length p.units) good.1 met (omega arith))
statements-run params given i (store w at e ∷ ss) s names r n good m long =
    let p = numbered n names e in
    let rest = units_from (n + length p.units + 1) names ss in
    ap memory_of (run-append i.places (p.units ++ Store at w p.value ∷ []) rest r)
    ∙ ap (λ o. memory_of (o >>= run_units i.places rest)) (run-append i.places p.units (Store at w p.value ∷ []) r)
    ∙ store-run (length (integer_widths params)) i s names r p.units p.value (value i s e) w at rest ss m (finds params given i s names r n e good.0.1 m long) (λ memory q met longer.
    statements-run params (given ++ gives (store w at e)) i ss (record { memory = memory; numbers = s.numbers }) names q (n + length p.units + 1) good.1 met (omega arith))

pub units-run-as-kernels : UnitsRunAsKernels
unfolding meaning
units-run-as-kernels k memory places args good long =
    statements-run k.params [] (record { places = places; args = args }) k.statements (record { memory = memory; numbers = [] }) [] (start_of memory args) (first_unit k) good.each
    (record {
      memory = refl;
      args = λ j h. refl;
      long = omega arith;
      count = refl;
      named = λ j. refl;
      early = λ j. tt;
    }) (sym long)
