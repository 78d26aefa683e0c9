-- What a kernel leaves of bytes are bytes.
use Rattle.std.proofs.Common.{◌≡◌, ℕ, zero, suc, ◌+◌, ◌/◌, ◌%◌, ◌^◌, ◌<◌, ℤ, pos, negsuc, List, [], ◌∷◌, ◌++◌, length, take, drop, Option, Some, None, refl, subst, inl, inr, arith}
use Rattle.std.specs.Prelude.{nat_le}
use Rattle.std.proofs.lemmas.Bool.{cases_Bool, cond-true, cond-false}
use Rattle.std.proofs.lemmas.List.Elements.{All-nil, All-cons, All-append, All-take, All-drop}
use Rattle.vg_base.specs.Trap.{◌>>=◌}
use Rattle.vg_base.specs.Bits.{bytes}
use Rattle.vg_base.specs.Memory.{stored}
use Rattle.vg_base.specs.Address.{place_of}
use Rattle.vg_base.specs.Width.{size_of}
use Rattle.vg_kernel.specs.Tree.{Statement, assign, store, Tree}
use Rattle.vg_kernel.specs.Meaning.{Inputs, State, value, after, run, meaning}
use Rattle.vg_loop_laws.specs.Inputs.{AreBytes}
use Rattle.vg_loop_laws.proofs.Turns.{went_well}

bytes-are : (k n : ℕ) → AreBytes (bytes k n)
unfolding bytes
bytes-are zero n = All-nil (λ b. b < 2 ^ 8)
bytes-are (suc k) n = All-cons (λ b. b < 2 ^ 8) (n % 256) (bytes k (n / 256)) (omega arith) (bytes-are k (n / 256))

stored-keeps : (m : List ℕ) (a : ℤ) (new r : List ℕ) → AreBytes m → AreBytes new → stored m a new ≡ Some r → AreBytes r
stored-keeps m (negsuc a) new r are fresh e = absurd (cc)
stored-keeps m (pos a) new r are fresh e = elim (cases_Bool (nat_le (a + length new) (length m))) [
  | inl inside ↦
      let joined = (take a m ++ new) ++ drop (a + length new) m in
      let same : joined ≡ r = (let some : Some joined ≡ Some r = rw inside at e in cc) in
      subst AreBytes same (All-append (λ b. b < 2 ^ 8) (take a m ++ new) (drop (a + length new) m) (All-append (λ b. b < 2 ^ 8) (take a m) new (All-take (λ b. b < 2 ^ 8) a m are) fresh) (All-drop (λ b. b < 2 ^ 8) (a + length new) m are))
  | inr outside ↦ absurd (let none : nothing ≡ Some r = rw outside at e in cc)
]
  where
    nothing : Option (List ℕ)
    nothing = None

after-keeps : (i : Inputs) (x : Statement) (s r : State) → AreBytes s.memory → after i x s ≡ Some r → AreBytes r.memory
after-keeps i (assign e) s r are h =
    let w = went_well (value i s e) _ r h in
    let same : record { memory = s.memory; numbers = s.numbers ++ w.0 ∷ [] } ≡ r = (let some = w.2 in cc) in
    subst (λ (q : State). AreBytes q.memory) same are
after-keeps i (store w a e) s r are h =
    let v = went_well (value i s e) _ r h in
    let m = went_well (stored s.memory (place_of i.places a) (bytes (size_of w) v.0)) _ r v.2 in
    let same : record { memory = m.0; numbers = s.numbers } ≡ r = (let some = m.2 in cc) in
    subst (λ (q : State). AreBytes q.memory) same (stored-keeps s.memory (place_of i.places a) (bytes (size_of w) v.0) m.0 are (bytes-are (size_of w) v.0) m.1)

run-keeps : (i : Inputs) (xs : List Statement) (s r : State) → AreBytes s.memory → run i xs s ≡ Some r → AreBytes r.memory
unfolding run
run-keeps i [] s r are h = let same : s ≡ r = cc in subst (λ (q : State). AreBytes q.memory) same are
run-keeps i (x ∷ xs) s r are h =
    let w = went_well (after i x s) (run i xs) r h in
    run-keeps i xs w.0 r (after-keeps i x s w.0 are w.1) w.2

pub meaning-keeps : (k : Tree) (memory places args r : List ℕ) → AreBytes memory → meaning k memory places args ≡ Some r → AreBytes r
unfolding meaning
meaning-keeps k memory places args r are h =
    let w = went_well (run (record { places = places; args = args }) k.statements (record { memory = memory; numbers = [] })) _ r h in
    let same : w.0.memory ≡ r = (let some = w.2 in cc) in
    subst AreBytes same (run-keeps _ k.statements _ w.0 are w.1)
