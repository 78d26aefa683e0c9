-- A kernel runs to its end on a memory in which all its accesses lie.
use Rattle.std.proofs.Common.{◌≡◌, ℕ, zero, suc, ◌+◌, ◌/◌, ◌≤◌, ℤ, pos, true, List, [], ◌∷◌, ◌++◌, length, take, drop, Option, Some, None, flat_map, IsSome, IsSomeAnd, refl, sym, ap, ◌∙◌, arith, le-leb, length-append, length-drop}
use Rattle.std.specs.List.{AllByRecursion}
use Rattle.std.proofs.lemmas.List.{length-take-le}
use Rattle.vg_base.specs.Trap.{◌>>=◌}
use Rattle.vg_base.specs.Address.{place_of}
use Rattle.vg_base.specs.Bits.{bytes}
use Rattle.vg_base.specs.Memory.{loaded, stored}
use Rattle.vg_base.specs.Width.{size_of}
use Rattle.vg_kernel.specs.Layout.{Access, reads_of, statement_accesses, accesses}
use Rattle.vg_kernel.specs.Meaning.{Inputs, State, value, after, run, meaning}
use Rattle.vg_kernel.specs.Tree.{Expression, argument, assigned, literal, load, two, shift, resize, compare, select, Statement, assign, store, Tree}

-- the bytes of an access lie in a memory of so many bytes
pub record Lies (places : List ℕ) (long : ℕ) (x : Access) : Type 0 where
  pub at : ℕ
  pub begins : place_of places x.address ≡ pos at
  pub ends : at + x.size ≤ long

-- ---- what holds of each member of two lists

pub joined : {X : Type 0} (P : X → Type 0) (xs ys : List X) → AllByRecursion P xs → AllByRecursion P ys → AllByRecursion P (xs ++ ys)
joined P [] ys a b = b
joined P (x ∷ xs) ys a b = (a.0, joined P xs ys a.1 b)

parted : {X : Type 0} (P : X → Type 0) (xs ys : List X) → AllByRecursion P (xs ++ ys) → AllByRecursion P xs × AllByRecursion P ys
parted P [] ys h = (tt, h)
parted P (x ∷ xs) ys h = let rest = parted P xs ys h.1 in ((h.0, rest.0), rest.1)

-- ---- one step after another

keeps_then : {A B : Type 0} (P : A → Type 0) (Q : B → Type 0) (o : Option A) (f : A → Option B) → IsSomeAnd o P → ((x : A) → P x → IsSomeAnd (f x) Q) → IsSomeAnd (o >>= f) Q
keeps_then P Q None f h next = absurd h
keeps_then P Q (Some x) f h next = next x h

-- it does not trap
abbrev Ends : {A : Type 0} → Option A → Type 0
Ends o = IsSomeAnd o (λ x. Unit {0})

is_some-ends : {A : Type 0} (o : Option A) → Ends o → IsSome o
is_some-ends None h = absurd h
is_some-ends (Some x) h = refl

-- ---- accesses

load-ends : (memory : List ℕ) (z : ℤ) (size at : ℕ) (f : List ℕ → ℕ) → z ≡ pos at → at + size ≤ length memory → Ends (loaded memory z size >>= λ read. Some (f read))
load-ends memory z size at f begins fits = rw (begins, le-leb (at + size) (length memory) fits) tt

length-bytes : (k n : ℕ) → length (bytes k n) ≡ k
unfolding bytes
length-bytes zero n = refl
length-bytes (suc k) n = ap suc (length-bytes k (n / 256))

length-stored : (at : ℕ) (new memory : List ℕ) → at + length new ≤ length memory → length (take at memory ++ new ++ drop (at + length new) memory) ≡ length memory
length-stored at new memory fits =
    omega (arith, fits, length-append (take at memory ++ new) (drop (at + length new) memory), length-append (take at memory) new, length-take-le at memory (omega (arith, fits)), length-drop (at + length new) memory)

store-keeps : (memory : List ℕ) (z : ℤ) (new : List ℕ) (at : ℕ) → z ≡ pos at → at + length new ≤ length memory → IsSomeAnd (stored memory z new) (λ left. length left ≡ length memory)
store-keeps memory z new at begins fits = rw (begins, le-leb (at + length new) (length memory) fits) (length-stored at new memory fits)

-- ---- a kernel

value-ends : (i : Inputs) (s : State) (e : Expression) → AllByRecursion (Lies i.places (length s.memory)) (reads_of e) → Ends (value i s e)
value-ends i s (argument k w) h = tt
value-ends i s (assigned k t) h = tt
value-ends i s (literal w n) h = tt
value-ends i s (load w a) h = load-ends s.memory (place_of i.places a) (size_of w) h.0.at _ h.0.begins h.0.ends
value-ends i s (two op w x y) h =
    let parts = parted (Lies i.places (length s.memory)) (reads_of x) (reads_of y) h in
    keeps_then _ _ (value i s x) _ (value-ends i s x parts.0) (λ a _. keeps_then _ _ (value i s y) _ (value-ends i s y parts.1) (λ b _. tt))
value-ends i s (shift op w k x) h = keeps_then _ _ (value i s x) _ (value-ends i s x h) (λ a _. tt)
value-ends i s (resize op w v x) h = keeps_then _ _ (value i s x) _ (value-ends i s x h) (λ a _. tt)
value-ends i s (compare op w x y) h =
    let parts = parted (Lies i.places (length s.memory)) (reads_of x) (reads_of y) h in
    keeps_then _ _ (value i s x) _ (value-ends i s x parts.0) (λ a _. keeps_then _ _ (value i s y) _ (value-ends i s y parts.1) (λ b _. tt))
value-ends i s (select w c x y) h =
    let parts = parted (Lies i.places (length s.memory)) (reads_of c) (reads_of x ++ reads_of y) h in
    let both = parted (Lies i.places (length s.memory)) (reads_of x) (reads_of y) parts.1 in
    keeps_then _ _ (value i s c) _ (value-ends i s c parts.0)
    (λ t _. keeps_then _ _ (value i s x) _ (value-ends i s x both.0) (λ a _. keeps_then _ _ (value i s y) _ (value-ends i s y both.1) (λ b _. tt)))

-- a statement ends, and the memory stays as long as it was
statement-keeps : (i : Inputs) (s : State) (x : Statement) → AllByRecursion (Lies i.places (length s.memory)) (statement_accesses x) → IsSomeAnd (after i x s) (λ t. length t.memory ≡ length s.memory)
statement-keeps i s (assign e) h = keeps_then _ _ (value i s e) _ (value-ends i s e h) (λ n _. refl)
statement-keeps i s (store w a e) h =
    let parts = parted (Lies i.places (length s.memory)) (reads_of e) (record { address = a; size = size_of w; writes = true } ∷ []) h in
    keeps_then _ _ (value i s e) _ (value-ends i s e parts.0) (λ n _.
    keeps_then _ _ (stored s.memory (place_of i.places a) (bytes (size_of w) n)) _
    (store-keeps s.memory (place_of i.places a) (bytes (size_of w) n) parts.1.0.at parts.1.0.begins (rw (length-bytes (size_of w) n) parts.1.0.ends)) (λ left same. same))

run-ends : (i : Inputs) (ss : List Statement) (s : State) (long : ℕ) → long ≡ length s.memory → AllByRecursion (Lies i.places long) (flat_map statement_accesses ss) → Ends (run i ss s)
unfolding run
run-ends i [] s long e h = tt
run-ends i (x ∷ xs) s long e h =
    let parts = parted (Lies i.places long) (statement_accesses x) (flat_map statement_accesses xs) h in
    keeps_then _ _ (after i x s) (run i xs) (statement-keeps i s x (rw (sym e) parts.0)) (λ t same. run-ends i xs t long (e ∙ sym same) parts.1)

pub meaning-ends : (k : Tree) (memory places args : List ℕ) → AllByRecursion (Lies places (length memory)) (accesses k) → IsSome (meaning k memory places args)
unfolding meaning
meaning-ends k memory places args h =
    let i : Inputs = record { places = places; args = args } in
    let s : State = record { memory = memory; numbers = [] } in
    is_some-ends _ (keeps_then _ _ (run i k.statements s) _ (run-ends i k.statements s (length memory) refl h) (λ t _. tt))
