-- The statements of many turns do what the turns do, each with its places.
use Rattle.std.proofs.Common.{◌≡◌, ℕ, zero, suc, ◌+◌, ◌*◌, List, [], ◌∷◌, ◌++◌, length, map, Option, Some, None, refl, sym, ap, subst, ◌∙◌, arith, append_assoc, append-nil, length-append, get_or-append-add}
use Rattle.std.specs.Prelude.{slice_index, ℤ}
use Rattle.std.specs.List.{flat_map}
use Rattle.vg_base.specs.Trap.{◌>>=◌}
use Rattle.vg_base.specs.Bits.{number, bytes}
use Rattle.vg_base.specs.Memory.{loaded, stored}
use Rattle.vg_base.specs.Address.{place_of}
use Rattle.vg_base.specs.Width.{bits_of, size_of}
use Rattle.vg_scalar.specs.Scalar.{two_result, shift_result, resize_result, comparison_result, select_result}
use Rattle.vg_kernel.specs.Tree.{Expression, argument, assigned, literal, load, two, shift, resize, compare, select, Statement, assign, store, Tree, gives}
use Rattle.vg_kernel.specs.Meaning.{Inputs, State, value, after, run, meaning}
use Rattle.vg_loop_laws.specs.Loops.{Loop, places_at, turns, turn_of}
use Rattle.vg_loop_laws.specs.Unrolled.{moved, moved_address, moved_statement, names_given, turn_statements, unrolled_from, unrolled}
use Rattle.vg_loop_laws.specs.Laws.{UnrolledAreTurns}
use Rattle.vg_loop_laws.proofs.Turns.{bind_same, bind_twice, went_well}
use Rattle.vg_loop_laws.proofs.Places.{place-moved}

abbrev inputs : List ℕ → List ℕ → Inputs
inputs places args = record { places = places; args = args }

-- a state after names that were given before
abbrev with_names : List ℕ → State → State
with_names old s = record { memory = s.memory; numbers = old ++ s.numbers }

index-behind : (old new : List ℕ) (k : ℕ) → slice_index (old ++ new) (length old + k) ≡ slice_index new k
index-behind old new k = get_or-append-add old new k 0

-- an expression of a turn has the number that it has alone, at moved places
value-moved : (steps places args : List ℕ) (u : ℕ) (old : List ℕ) (s : State) → length places ≡ length steps → (e : Expression)
    → value (inputs places args) (with_names old s) (moved steps u (length old) e) ≡ value (inputs (places_at steps places u) args) s e
value-moved steps places args u old s long (argument k w) = refl
value-moved steps places args u old s long (assigned k t) = ap Some (index-behind old s.numbers k)
value-moved steps places args u old s long (literal w n) = refl
value-moved steps places args u old s long (load w a) =
    ap (λ (z : ℤ). loaded s.memory z (size_of w) >>= λ read. Some (number read)) (place-moved steps places u a long)
value-moved steps places args u old s long (two op w x y) =
    (λ i. value-moved steps places args u old s long x i >>= λ a. value-moved steps places args u old s long y i >>= λ b. Some (two_result op (bits_of w) a b))
value-moved steps places args u old s long (shift op w k x) =
    (λ i. value-moved steps places args u old s long x i >>= λ a. Some (shift_result op (bits_of w) k a))
value-moved steps places args u old s long (resize op w v x) =
    (λ i. value-moved steps places args u old s long x i >>= λ a. Some (resize_result op (bits_of w) (bits_of v) a))
value-moved steps places args u old s long (compare op w x y) =
    (λ i. value-moved steps places args u old s long x i >>= λ a. value-moved steps places args u old s long y i >>= λ b. Some (comparison_result op (bits_of w) a b))
value-moved steps places args u old s long (select w c x y) =
    (λ i. value-moved steps places args u old s long c i >>= λ t. value-moved steps places args u old s long x i >>= λ a. value-moved steps places args u old s long y i >>= λ b. Some (select_result t a b))

after-moved : (steps places args : List ℕ) (u : ℕ) (old : List ℕ) → length places ≡ length steps → (x : Statement) (s : State)
    → after (inputs places args) (moved_statement steps u (length old) x) (with_names old s) ≡ (after (inputs (places_at steps places u) args) x s >>= λ r. Some (with_names old r))
after-moved steps places args u old long (assign e) s =
    ap (λ o. o >>= λ n. Some (record { memory = s.memory; numbers = (old ++ s.numbers) ++ n ∷ [] })) (value-moved steps places args u old s long e)
    ∙ bind_same (value (inputs (places_at steps places u) args) s e) _ _ (λ n h. ap (λ (ns : List ℕ). Some (record { memory = s.memory; numbers = ns })) (append_assoc old s.numbers (n ∷ [])))
    ∙ sym (bind_twice (value (inputs (places_at steps places u) args) s e) (λ n. Some (record { memory = s.memory; numbers = s.numbers ++ n ∷ [] })) (λ r. Some (with_names old r)))
after-moved steps places args u old long (store w a e) s =
    (λ i. value-moved steps places args u old s long e i >>= λ n. stored s.memory (place-moved steps places u a long i) (bytes (size_of w) n) >>= λ memory. Some (record { memory = memory; numbers = old ++ s.numbers }))
    ∙ bind_same (value (inputs (places_at steps places u) args) s e) _ _ (λ n h. sym (bind_twice (stored s.memory (place_of (places_at steps places u) a) (bytes (size_of w) n)) (λ memory. Some (record { memory = memory; numbers = s.numbers })) (λ r. Some (with_names old r))))
    ∙ sym (bind_twice (value (inputs (places_at steps places u) args) s e) (λ n. stored s.memory (place_of (places_at steps places u) a) (bytes (size_of w) n) >>= λ memory. Some (record { memory = memory; numbers = s.numbers })) (λ r. Some (with_names old r)))

run-moved : (steps places args : List ℕ) (u : ℕ) (old : List ℕ) → length places ≡ length steps → (xs : List Statement) (s : State)
    → run (inputs places args) (map (moved_statement steps u (length old)) xs) (with_names old s) ≡ (run (inputs (places_at steps places u) args) xs s >>= λ r. Some (with_names old r))
unfolding run
run-moved steps places args u old long [] s = refl
run-moved steps places args u old long (x ∷ xs) s =
    let here = inputs (places_at steps places u) args in
    let others = map (moved_statement steps u (length old)) xs in
    ap (λ o. o >>= run (inputs places args) others) (after-moved steps places args u old long x s)
    ∙ bind_twice (after here x s) (λ r. Some (with_names old r)) (run (inputs places args) others)
    ∙ bind_same (after here x s) _ _ (λ r h. run-moved steps places args u old long xs r)
    ∙ sym (bind_twice (after here x s) (run here xs) (λ r. Some (with_names old r)))

run-append : (i : Inputs) (xs ys : List Statement) (s : State) → run i (xs ++ ys) s ≡ (run i xs s >>= run i ys)
unfolding run
run-append i [] ys s = refl
run-append i (x ∷ xs) ys s =
    bind_same (after i x s) _ _ (λ r h. run-append i xs ys r) ∙ sym (bind_twice (after i x s) (run i xs) (run i ys))

-- each name that is given has a number
after-names : (i : Inputs) (x : Statement) (s r : State) → after i x s ≡ Some r → length r.numbers ≡ length s.numbers + length (gives x)
after-names i (assign e) s r h =
    let w = went_well (value i s e) _ r h in
    let same : record { memory = s.memory; numbers = s.numbers ++ w.0 ∷ [] } ≡ r = (let some = w.2 in cc) in
    subst (λ (q : State). length q.numbers ≡ length s.numbers + 1) same (length-append s.numbers (w.0 ∷ []))
after-names i (store w a e) s r h =
    let v = went_well (value i s e) _ r h in
    let m = went_well (stored s.memory (place_of i.places a) (bytes (size_of w) v.0)) _ r v.2 in
    let same : record { memory = m.0; numbers = s.numbers } ≡ r = (let some = m.2 in cc) in
    subst (λ (q : State). length q.numbers ≡ length s.numbers + 0) same (omega arith)

run-names : (i : Inputs) (xs : List Statement) (s r : State) → run i xs s ≡ Some r → length r.numbers ≡ length s.numbers + names_given xs
unfolding run
run-names i [] s r h = let same : s ≡ r = cc in subst (λ (q : State). length q.numbers ≡ length s.numbers + 0) same (omega arith)
run-names i (x ∷ xs) s r h =
    let w = went_well (after i x s) (run i xs) r h in
    let a = after-names i x s w.0 w.1 in
    let b = run-names i xs w.0 r w.2 in
    let long = length-append (gives x) (flat_map gives xs) in
    omega (arith, a, b, long)

abbrev memory_of : State → Option (List ℕ)
memory_of s = Some s.memory

abbrev start : List ℕ → State
start memory = record { memory = memory; numbers = [] }

unrolled-turns : (steps places args : List ℕ) (ss : List Statement) → length places ≡ length steps → (turn : ℕ → List ℕ → Option (List ℕ))
    → ((t : ℕ) (m : List ℕ) → (run (inputs (places_at steps places t) args) ss (start m) >>= memory_of) ≡ turn t m)
    → (n u : ℕ) (old m : List ℕ) → length old ≡ u * names_given ss
    → (run (inputs places args) (unrolled_from steps ss n u) (record { memory = m; numbers = old }) >>= memory_of) ≡ turns turn n u m
unfolding unrolled_from turns run
unrolled-turns steps places args ss long turn is zero u old m given = refl
unrolled-turns steps places args ss long turn is (suc n) u old m given =
    let i = inputs places args in
    let here = inputs (places_at steps places u) args in
    let rest = unrolled_from steps ss n (u + 1) in
    ap (λ (ns : List ℕ). run i (turn_statements steps ss u ++ rest) (record { memory = m; numbers = ns }) >>= memory_of) (sym (append-nil old))
    ∙ ap (λ o. o >>= memory_of) (run-append i (turn_statements steps ss u) rest (with_names old (start m)))
    ∙ ap (λ (k : ℕ). (run i (map (moved_statement steps u k) ss) (with_names old (start m)) >>= run i rest) >>= memory_of) (sym given)
    ∙ ap (λ o. (o >>= run i rest) >>= memory_of) (run-moved steps places args u old long ss (start m))
    ∙ ap (λ o. o >>= memory_of) (bind_twice (run here ss (start m)) (λ r. Some (with_names old r)) (run i rest))
    ∙ bind_twice (run here ss (start m)) (λ r. run i rest (with_names old r)) memory_of
    ∙ bind_same (run here ss (start m)) _ _ (λ r h.
    let names = run-names here ss (start m) r h in
    unrolled-turns steps places args ss long turn is n (u + 1) (old ++ r.numbers) r.memory
    (let joined = length-append old r.numbers in omega (arith, joined, given, names)))
    ∙ sym (bind_twice (run here ss (start m)) memory_of (turns turn n (u + 1)))
    ∙ ap (λ o. o >>= turns turn n (u + 1)) (is u m)

pub unrolled-are-turns : UnrolledAreTurns
unfolding meaning
unrolled-are-turns l n memory places args long =
    unrolled-turns l.steps places args l.kernel.statements long (turn_of (meaning l.kernel) l.steps places args) (λ t m. refl) n 0 [] memory (omega arith)
