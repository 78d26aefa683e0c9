-- A store that moves on from turn to turn leaves the memory after as many turns as it has bytes.
use Rattle.std.proofs.Common.{◌≡◌, ℕ, zero, suc, ◌+◌, ◌*◌, ◌<◌, ◌≤◌, ℤ, pos, negsuc, Bool, true, false, List, [], ◌∷◌, ◌++◌, length, take, drop, Option, Some, None, refl, sym, ap, ◌∙◌, inl, inr, arith}
use Rattle.std.specs.Prelude.{nat_le, slice_index, ◌+ℤ◌, ◌||◌}
use Rattle.std.proofs.lemmas.Bool.{cases_Bool, leb-true, ltb-true}
use Rattle.std.proofs.lemmas.Int.{ints}
use Rattle.std.proofs.lemmas.List.{length-append, length-take-le, length-drop}
use Rattle.vg_base.specs.declared.address.Address.{Address}
use Rattle.vg_base.specs.declared.width.Width.{Width}
use Rattle.vg_base.specs.declared.width.Width.TheVariants.{W8, W16, W32, W64}
use Rattle.vg_base.specs.Trap.{◌>>=◌}
use Rattle.vg_base.specs.Address.{place_of}
use Rattle.vg_base.specs.Bits.{bytes}
use Rattle.vg_base.specs.Memory.{stored}
use Rattle.vg_base.specs.Width.{size_of}
use Rattle.vg_bits.proofs.ByteLists.{length-bytes}
use Rattle.vg_kernel.specs.Meaning.{Inputs, State, value, after, run, meaning}
use Rattle.vg_kernel.specs.Tree.{Expression, Statement, assign, store, Tree}
use Rattle.vg_loop_laws.specs.Loops.{places_at, turns, turn_of, turns_asked}
use Rattle.vg_loop_laws.proofs.Places.{index-at}
use Rattle.vg_loop_laws.proofs.Turns.{went_well, turns-plus, turns-keep}
use Rattle.vg_loops.specs.Reader.{moves, stores_moving}
use Rattle.vg_turn_laws.specs.Laws.{LoopsEndWithinMemory}

-- ---- one store

-- what is stored lies inside, and the memory stays as long as it was
record Inside (memory left new : List ℕ) (a : ℤ) : Type 0 where
  at : ℕ
  is : a ≡ pos at
  within : at + length new ≤ length memory
  long : length left ≡ length memory

stored-inside : (m : List ℕ) (a : ℤ) (new r : List ℕ) → stored m a new ≡ Some r → Inside m r new a
stored-inside m (negsuc a) new r e = absurd (cc)
stored-inside m (pos a) new r e = elim (cases_Bool (nat_le (a + length new) (length m))) [
  | inl inside ↦
      let fits = leb-true (a + length new) (length m) inside in
      let joined = (take a m ++ new) ++ drop (a + length new) m in
      let same : joined ≡ r = (let some : Some joined ≡ Some r = rw inside at e in cc) in
      record { at = a; is = refl; within = fits; long = ap length (sym same) ∙ as_long fits }
  | inr outside ↦ absurd (let none : nothing ≡ Some r = rw outside at e in cc)
]
  where
    nothing : Option (List ℕ)
    nothing = None

    as_long : a + length new ≤ length m → length ((take a m ++ new) ++ drop (a + length new) m) ≡ length m
    as_long fits =
        rw (length-append (take a m ++ new) (drop (a + length new) m), length-append (take a m) new, length-take-le a m (omega (arith, fits)), length-drop (a + length new) m) (omega (arith, fits))

-- ---- statements

after-long : (i : Inputs) (x : Statement) (s r : State) → after i x s ≡ Some r → length r.memory ≡ length s.memory
after-long i (assign e) s r h =
    let w = went_well (value i s e) _ r h in
    let same : record { memory = s.memory; numbers = s.numbers ++ w.0 ∷ [] } ≡ r = (let some = w.2 in cc) in
    ap (λ (q : State). length q.memory) (sym same)
after-long i (store w a e) s r h =
    let v = went_well (value i s e) _ r h in
    let m = went_well (stored s.memory (place_of i.places a) (bytes (size_of w) v.0)) _ r v.2 in
    let same : record { memory = m.0; numbers = s.numbers } ≡ r = (let some = m.2 in cc) in
    ap (λ (q : State). length q.memory) (sym same)
    ∙ (stored-inside s.memory (place_of i.places a) (bytes (size_of w) v.0) m.0 m.1).long

run-long : (i : Inputs) (xs : List Statement) (s r : State) → run i xs s ≡ Some r → length r.memory ≡ length s.memory
unfolding run
run-long i [] s r h = let same : s ≡ r = cc in ap (λ (q : State). length q.memory) (sym same)
run-long i (x ∷ xs) s r h =
    let w = went_well (after i x s) (run i xs) r h in
    run-long i xs w.0 r w.2 ∙ after-long i x s w.0 w.1

meaning-long : (k : Tree) (memory places args r : List ℕ) → meaning k memory places args ≡ Some r → length r ≡ length memory
unfolding meaning
meaning-long k memory places args r h =
    let i : Inputs = record { places = places; args = args } in
    let s : State = record { memory = memory; numbers = [] } in
    let w = went_well (run i k.statements s) _ r h in
    let same : w.0.memory ≡ r = (let some = w.2 in cc) in
    ap length (sym same) ∙ run-long i k.statements s w.0 w.1

-- ---- the store that moves

-- among these statements stands a store through a pointer that moves
record Moving (steps : List ℕ) (xs : List Statement) : Type 0 where
  front : List Statement
  width : Width
  address : Address
  from : Expression
  back : List Statement
  all : xs ≡ front ++ store width address from ∷ back
  moves_on : 0 < slice_index steps address.pointer

moving : (steps : List ℕ) (xs : List Statement) → stores_moving steps xs ≡ true → Moving steps xs
moving steps [] e = absurd (cc)
moving steps (x ∷ xs) e = by (moves steps x) refl (λ more. moving steps xs more)
  where
    further : Moving steps xs → Moving steps (x ∷ xs)
    further m = record {
      front = x ∷ m.front;
      width = m.width;
      address = m.address;
      from = m.from;
      back = m.back;
      all = ap (λ (ys : List Statement). x ∷ ys) m.all;
      moves_on = m.moves_on;
    }

    behind : (a b : Bool) → (a || b) ≡ true → a ≡ false → b ≡ true
    behind true b e f = absurd (cc)
    behind false b e f = e

    this : (y : Statement) → x ≡ y → moves steps y ≡ true → Moving steps (x ∷ xs)
    this (assign from) same t = absurd (cc)
    this (store width address from) same t = record {
      front = [];
      width = width;
      address = address;
      from = from;
      back = xs;
      all = ap (λ (y : Statement). y ∷ xs) same;
      moves_on = ltb-true 0 (slice_index steps address.pointer) t;
    }

    by : (b : Bool) → moves steps x ≡ b → (stores_moving steps xs ≡ true → Moving steps xs) → Moving steps (x ∷ xs)
    by true is rest = this x refl is
    by false is rest = further (rest (behind (moves steps x) (stores_moving steps xs) e is))

-- where it ran, it stored inside
record StoredAt (i : Inputs) (a : Address) (long : ℕ) : Type 0 where
  at : ℕ
  is : place_of i.places a ≡ pos at
  within : at + 1 ≤ long

some-size : (w : Width) → 1 ≤ size_of w
some-size W8 = omega arith
some-size W16 = omega arith
some-size W32 = omega arith
some-size W64 = omega arith

store-inside : (i : Inputs) (front back : List Statement) (w : Width) (a : Address) (e : Expression) (s r : State) → run i (front ++ store w a e ∷ back) s ≡ Some r → StoredAt i a (length s.memory)
unfolding run
store-inside i [] back w a e s r h =
    let first = went_well (after i (store w a e) s) (run i back) r h in
    let v = went_well (value i s e) _ first.0 first.1 in
    let m = went_well (stored s.memory (place_of i.places a) (bytes (size_of w) v.0)) _ first.0 v.2 in
    let inside = stored-inside s.memory (place_of i.places a) (bytes (size_of w) v.0) m.0 m.1 in
    record { at = inside.at; is = inside.is; within = omega (arith, inside.within, length-bytes (size_of w) v.0, some-size w) }
store-inside i (x ∷ front) back w a e s r h =
    let first = went_well (after i x s) (run i (front ++ store w a e ∷ back)) r h in
    let found = store-inside i front back w a e first.0 r first.2 in
    record { at = found.at; is = found.is; within = omega (arith, found.within, after-long i x s first.0 first.1) }

turn-inside : (k : Tree) (steps memory places args r : List ℕ) (m : Moving steps k.statements) → meaning k memory places args ≡ Some r → StoredAt (record { places = places; args = args }) m.address (length memory)
unfolding meaning
turn-inside k steps memory places args r m h =
    let i : Inputs = record { places = places; args = args } in
    let s : State = record { memory = memory; numbers = [] } in
    let w = went_well (run i k.statements s) _ r h in
    let ran : run i (m.front ++ store m.width m.address m.from ∷ m.back) s ≡ Some w.0 = ap (λ (xs : List Statement). run i xs s) (sym m.all) ∙ w.1 in
    store-inside i m.front m.back m.width m.address m.from s w.0 ran

-- ---- all turns

-- the last turn, and the memory before it
record Last (f : ℕ → List ℕ → Option (List ℕ)) (n : ℕ) (memory : List ℕ) : Type 0 where
  before : List ℕ
  long : length before ≡ length memory
  left : List ℕ
  is : f n before ≡ Some left

last-turn : (f : ℕ → List ℕ → Option (List ℕ)) → ((t : ℕ) (m r : List ℕ) → f t m ≡ Some r → length r ≡ length m) → (n : ℕ) (memory r : List ℕ) → turns f (suc n) 0 memory ≡ Some r → Last f n memory
unfolding turns
last-turn f keeps n memory r e =
    let one : suc n ≡ n + 1 = omega arith in
    let split : (turns f n 0 memory >>= turns f 1 (0 + n)) ≡ Some r = sym (turns-plus f n 1 0 memory) ∙ ap (λ (k : ℕ). turns f k 0 memory) (sym one) ∙ e in
    let w = went_well (turns f n 0 memory) (turns f 1 (0 + n)) r split in
    let number : 0 + n ≡ n = omega arith in
    let last = went_well (f (0 + n) w.0) (turns f 0 ((0 + n) + 1)) r w.2 in
    record {
      before = w.0;
      long = turns-keep (λ m. length m ≡ length memory) f (λ t m q good is. keeps t m q is ∙ good) n 0 memory w.0 refl w.1;
      left = last.0;
      is = ap (λ (k : ℕ). f k w.0) (sym number) ∙ last.1;
    }

first-turn : (f : ℕ → List ℕ → Option (List ℕ)) (n : ℕ) (memory r : List ℕ) → turns f (suc n) 0 memory ≡ Some r → (left : List ℕ) × (f 0 memory ≡ Some left)
unfolding turns
first-turn f n memory r e = let w = went_well (f 0 memory) (turns f n (0 + 1)) r e in (w.0, w.1)

-- a number that grows by at least one in each turn and stays inside
inside : (p o : ℤ) (first last n step long : ℕ) → (p +ℤ pos (0 * step)) +ℤ o ≡ pos first → (p +ℤ pos (n * step)) +ℤ o ≡ pos last → 1 ≤ step → last + 1 ≤ long → suc n ≤ long
inside p o first last n step long low high some within =
    let grown : last ≡ first + n * step = grind (arith, ints) in
    let scaled : n * 1 ≤ n * step = le-times n 1 step some in
    omega (arith, grown, scaled, within)
  where
    le-times : (n a b : ℕ) → a ≤ b → n * a ≤ n * b
    le-times zero a b less = omega arith
    le-times (suc n) a b less = let more = le-times n a b less in omega (arith, more, less)

pub loops-end-within-memory : LoopsEndWithinMemory
loops-end-within-memory l memory places args left is few e = by (turns_asked l.times args) e
  where
    turn : ℕ → List ℕ → Option (List ℕ)
    turn = turn_of (meaning l.kernel) l.steps places args

    m : Moving l.steps l.kernel.statements
    m = moving l.steps l.kernel.statements is.moving

    keeps : (t : ℕ) (b r : List ℕ) → turn t b ≡ Some r → length r ≡ length b
    keeps t b r h = meaning-long l.kernel b (places_at l.steps places t) args r h

    at-turn : (t : ℕ) → place_of (places_at l.steps places t) m.address ≡ ((pos (slice_index places m.address.pointer) +ℤ pos (t * slice_index l.steps m.address.pointer)) +ℤ m.address.offset)
    at-turn t = ap (λ (p : ℕ). pos p +ℤ m.address.offset) (index-at l.steps places t m.address.pointer few)

    by : (n : ℕ) → turns turn n 0 memory ≡ Some left → n ≤ length memory
    by zero e = omega arith
    by (suc n) e =
        let first = first-turn turn n memory left e in
        let last = last-turn turn keeps n memory left e in
        let low = turn-inside l.kernel l.steps memory (places_at l.steps places 0) args first.0 m first.1 in
        let high = turn-inside l.kernel l.steps last.before (places_at l.steps places n) args last.left m last.is in
        inside (pos (slice_index places m.address.pointer)) m.address.offset low.at high.at n (slice_index l.steps m.address.pointer) (length memory)
        (sym (at-turn 0) ∙ low.is) (sym (at-turn n) ∙ high.is) m.moves_on (omega (arith, high.within, last.long))
