-- A run of units that is done is the steps of its events.
use Rattle.std.proofs.Common.{◌≡◌, ℕ, zero, suc, ◌+◌, ◌<◌, ℤ, pos, negsuc, Bool, true, false, List, [], ◌∷◌, ◌++◌, length, map, take, drop, Some, None, refl, sym, ap, subst, ◌∙◌, inl, inr, arith, append_assoc, length-append}
use Rattle.std.specs.Prelude.{nat_le, slice_index}
use Rattle.std.proofs.lemmas.Bool.{cases_Bool, leb-true, leb-false}
use Rattle.std.proofs.lemmas.List.{get_or_append_left, get_or_push, length_push}
use Rattle.vg_base.specs.declared.address.Address.{Address}
use Rattle.vg_base.specs.declared.width.Width.{Width}
use Rattle.vg_base.specs.declared.width.Width.TheVariants.{W8, W16, W32, W64}
use Rattle.vg_base.specs.Address.{place_of}
use Rattle.vg_base.specs.Bits.{bytes, number}
use Rattle.vg_base.specs.Memory.{loaded, stored}
use Rattle.vg_base.specs.Trap.{◌>>=◌}
use Rattle.vg_base.specs.Width.{bits_of, size_of}
use Rattle.vg_bits.specs.BitList.{IsBytes}
use Rattle.vg_bits.specs.Range.{replaced}
use Rattle.vg_bits.proofs.ByteLists.{bytes-number, IsBytes-bytes, length-bytes}
use Rattle.vg_shapes.specs.declared.ssa_unit.SsaUnit.{SsaUnit}
use Rattle.vg_shapes.specs.declared.ssa_unit.SsaUnit.TheVariants.{Load, Store, Operation}
use Rattle.vg_shapes.specs.declared.wanted.Wanted.{Wanted}
use Rattle.vg_shapes.specs.declared.wanted.Wanted.TheVariants.{Value, Constant, Nothing}
use Rattle.vg_shapes.specs.Layout.{access_of}
use Rattle.vg_shapes.specs.Order.{numbers_from}
use Rattle.vg_shapes.specs.RunUnits.{number_of, Reached, reached, result_of, run_units, unit_run}
use Rattle.vg_shapes.specs.Sound.{IsEarlier, TakeEarlier, TakesEarlier}
use Rattle.vg_order_laws.specs.Sequence.{run_steps}
use Rattle.vg_order_laws.proofs.Accesses.{stored-inside, stored-outside}
use Rattle.vg_order_laws.proofs.Runs.{more-numbers, went_well}
use Rattle.vg_events.specs.Events.{Label, labels_from, labels_in, unit_labels}
use Rattle.vg_events.specs.Laws.{RunsAreEvents}
use Rattle.vg_events.specs.Steps.{all_bytes, chain, event_step, unit_bytes}
use Rattle.vg_events.proofs.Chains.{was-inside}
use Rattle.vg_events.proofs.Ranks.{length-labels}
use Rattle.vg_events.proofs.Steps.{bytes-numbers, labelled-numbers, loaded-as-chain, loaded-length, numbers_from-append, run_steps-append, steps-chain, stored-as-chain}

pub some-bytes : (w : Width) → 0 < size_of w
some-bytes W8 = omega arith
some-bytes W16 = omega arith
some-bytes W32 = omega arith
some-bytes W64 = omega arith

-- ---- bytes stay bytes

pub IsBytes-append : (xs ys : List ℕ) → IsBytes xs → IsBytes ys → IsBytes (xs ++ ys)
IsBytes-append [] ys p q = q
IsBytes-append (x ∷ xs) ys p q = (p.0, IsBytes-append xs ys p.1 q)

IsBytes-take : (n : ℕ) (l : List ℕ) → IsBytes l → IsBytes (take n l)
IsBytes-take zero l p = tt
IsBytes-take (suc n) [] p = tt
IsBytes-take (suc n) (x ∷ l) p = (p.0, IsBytes-take n l p.1)

IsBytes-drop : (n : ℕ) (l : List ℕ) → IsBytes l → IsBytes (drop n l)
IsBytes-drop zero l p = p
IsBytes-drop (suc n) [] p = tt
IsBytes-drop (suc n) (x ∷ l) p = IsBytes-drop n l p.1

pub loaded-bytes : (m : List ℕ) (at : ℤ) (n : ℕ) (bs : List ℕ) → IsBytes m → loaded m at n ≡ Some bs → IsBytes bs
loaded-bytes m (negsuc a) n bs are e = absurd (cc)
loaded-bytes m (pos a) n bs are e = subst IsBytes (sym (was-inside m a n bs e).1) (IsBytes-take n (drop a m) (IsBytes-drop a m are))

stored-bytes : (m : List ℕ) (at : ℤ) (bs t : List ℕ) → IsBytes m → IsBytes bs → stored m at bs ≡ Some t → IsBytes t
stored-bytes m (negsuc a) bs t are new e = absurd (cc)
stored-bytes m (pos a) bs t are new e = elim (cases_Bool (nat_le (a + length bs) (length m))) [
  | inl y ↦
      let same : replaced a bs m ≡ t = (let k : Some (replaced a bs m) ≡ Some t = sym (stored-inside m a bs (leb-true _ _ y)) ∙ e in cc) in
      subst IsBytes same (IsBytes-append (take a m) (bs ++ drop (a + length bs) m) (IsBytes-take a m are) (IsBytes-append bs (drop (a + length bs) m) new (IsBytes-drop (a + length bs) m are)))
  | inr n ↦ absurd (let none : None ≡ Some t = sym (stored-outside m a bs (leb-false _ _ n)) ∙ e in cc)
]

-- ---- one unit of a run

-- what one unit does: its number, and a memory of bytes
pub record Did (u : SsaUnit) (r t : Reached) : Type 0 where
  pub given : ℕ
  pub numbers : t.numbers ≡ r.numbers ++ given ∷ []
  pub are : IsBytes t.memory

pub one-unit : (places : List ℕ) (u : SsaUnit) (r t : Reached) → IsBytes r.memory → unit_run places u r ≡ Some t → Did u r t
one-unit places (Load a w) r t are e =
    let went = went_well (loaded r.memory (place_of places a) (size_of w)) _ e in
    let same : reached r.memory r.numbers (number went.0) ≡ t = (let k : Some (reached r.memory r.numbers (number went.0)) ≡ Some t = went.2 in cc) in
    record { given = number went.0; numbers = ap (λ (q : Reached). q.numbers) (sym same); are = subst (λ (q : Reached). IsBytes q.memory) same are }
one-unit places (Store a w x) r t are e =
    let new = bytes (size_of w) (number_of (slice_index r.numbers) x) in
    let went = went_well (stored r.memory (place_of places a) new) _ e in
    let same : reached went.0 r.numbers 0 ≡ t = (let k : Some (reached went.0 r.numbers 0) ≡ Some t = went.2 in cc) in
    record { given = 0; numbers = ap (λ (q : Reached). q.numbers) (sym same); are = subst (λ (q : Reached). IsBytes q.memory) same (stored-bytes r.memory (place_of places a) new went.0 are (IsBytes-bytes (size_of w) (number_of (slice_index r.numbers) x)) went.1) }
one-unit places (Operation op w k xs) r t are e =
    let n = result_of (slice_index r.numbers) op (bits_of w) k xs in
    let same : reached r.memory r.numbers n ≡ t = (let k : Some (reached r.memory r.numbers n) ≡ Some t = e in cc) in
    record { given = n; numbers = ap (λ (q : Reached). q.numbers) (sym same); are = subst (λ (q : Reached). IsBytes q.memory) same are }

earlier-number : (numbers more : List ℕ) (x : Wanted) → IsEarlier (length numbers) x → number_of (slice_index numbers) x ≡ number_of (slice_index (numbers ++ more)) x
earlier-number numbers more (Value v) h = sym (get_or_append_left numbers more 0 v h)
earlier-number numbers more (Constant w n) h = refl
earlier-number numbers more Nothing h = refl

-- the chain of the bytes of a unit, where the values have the numbers of the whole run
abbrev Chained : List ℕ → (ℕ → ℕ) → ℕ → SsaUnit → List ℕ → List ℕ → Type 0
Chained places numbers v (Load a w) m t = chain false (place_of places a) (bytes (size_of w) (numbers v)) m ≡ Some t
Chained places numbers v (Store a w x) m t = chain true (place_of places a) (bytes (size_of w) (number_of numbers x)) m ≡ Some t
Chained places numbers v (Operation op w k xs) m t = m ≡ t

unit-chained : (places : List ℕ) (u : SsaUnit) (r t : Reached) (more all : List ℕ) → TakesEarlier (length r.numbers) u → IsBytes r.memory → unit_run places u r ≡ Some t → all ≡ t.numbers ++ more → Chained places (slice_index all) (length r.numbers) u r.memory t.memory
unit-chained places (Load a w) r t more all is are e whole =
    let at = place_of places a in
    let n = size_of w in
    let went = went_well (loaded r.memory at n) _ e in
    let same : reached r.memory r.numbers (number went.0) ≡ t = (let k : Some (reached r.memory r.numbers (number went.0)) ≡ Some t = went.2 in cc) in
    let long = loaded-length r.memory at n went.0 went.1 in
    let v = length r.numbers in
    let given : slice_index all v ≡ number went.0 =
    ap (λ l. slice_index l v) (whole ∙ ap (λ (q : Reached). q.numbers ++ more) (sym same)) ∙ get_or_append_left (r.numbers ++ number went.0 ∷ []) more 0 v (let l = length_push r.numbers (number went.0) in omega arith) ∙ get_or_push r.numbers (number went.0) 0 v refl in
    let read : bytes n (slice_index all v) ≡ went.0 = (λ i. bytes (sym long i) (given i)) ∙ bytes-number went.0 (loaded-bytes r.memory at n went.0 are went.1) in
    ap (λ l. chain false at l r.memory) read ∙ loaded-as-chain at went.0 r.memory (omega (arith, long, some-bytes w)) (ap (loaded r.memory at) long ∙ went.1) ∙ ap (λ (q : Reached). Some q.memory) same
unit-chained places (Store a w x) r t more all is are e whole =
    let at = place_of places a in
    let n = size_of w in
    let new = bytes n (number_of (slice_index r.numbers) x) in
    let went = went_well (stored r.memory at new) _ e in
    let same : reached went.0 r.numbers 0 ≡ t = (let k : Some (reached went.0 r.numbers 0) ≡ Some t = went.2 in cc) in
    let grown : all ≡ r.numbers ++ (0 ∷ more) = whole ∙ ap (λ (q : Reached). q.numbers ++ more) (sym same) ∙ append_assoc r.numbers (0 ∷ []) more in
    let wanted : number_of (slice_index all) x ≡ number_of (slice_index r.numbers) x = ap (λ l. number_of (slice_index l) x) grown ∙ sym (earlier-number r.numbers (0 ∷ more) x is) in
    ap (λ k. chain true at (bytes n k) r.memory) wanted ∙ stored-as-chain at new r.memory (omega (arith, length-bytes n (number_of (slice_index r.numbers) x), some-bytes w)) ∙ went.1 ∙ ap (λ (q : Reached). Some q.memory) same
unit-chained places (Operation op w k xs) r t more all is are e whole =
    let n = result_of (slice_index r.numbers) op (bits_of w) k xs in
    (let k : Some (reached r.memory r.numbers n) ≡ Some t = e in let same : reached r.memory r.numbers n ≡ t = cc in ap (λ (q : Reached). q.memory) same)

-- events of one kind, from the chain
chain-steps : (places : List ℕ) (ls before rest : List Label) (all done more : List ℕ) (w : Bool) (a : Address) (n : ℕ) (bs m t : List ℕ) → ls ≡ before ++ (labels_from w a n ++ rest) → all ≡ done ++ (bs ++ more) → length done ≡ length before → length bs ≡ n → chain w (place_of places a) bs m ≡ Some t
    → run_steps (event_step places ls (slice_index all)) (numbers_from (length before) n) m ≡ Some t
chain-steps places ls before rest all done more w a n bs m t e whole long size chained =
    let first = length before in
    let mine : map (slice_index all) (numbers_from first n) ≡ bs = ap (λ k. map (slice_index all) (numbers_from first k)) (sym size) ∙ bytes-numbers all done bs more first whole long in
    steps-chain places ls (slice_index all) w a (numbers_from first n) (labelled-numbers ls before rest w a n first e refl) m
    ∙ ap (λ l. chain w (place_of places a) l m) mine ∙ chained

-- how many events a unit has
abbrev pub event_count : SsaUnit → ℕ
event_count (Load a w) = size_of w
event_count (Store a w x) = size_of w
event_count (Operation op w k xs) = 0

pub length-unit_labels : (u : SsaUnit) → length (labels_in (access_of u)) ≡ event_count u
length-unit_labels (Load a w) = length-labels false a (size_of w)
length-unit_labels (Store a w x) = length-labels true a (size_of w)
length-unit_labels (Operation op w k xs) = refl

pub length-unit_bytes : (numbers : ℕ → ℕ) (v : ℕ) (u : SsaUnit) → length (unit_bytes numbers v u) ≡ event_count u
length-unit_bytes numbers v (Load a w) = length-bytes (size_of w) (numbers v)
length-unit_bytes numbers v (Store a w x) = length-bytes (size_of w) (number_of numbers x)
length-unit_bytes numbers v (Operation op w k xs) = refl

unit-steps : (places : List ℕ) (ls before rest : List Label) (all done more : List ℕ) (numbers : ℕ → ℕ) (v : ℕ) (u : SsaUnit) (m t : List ℕ) → ls ≡ before ++ (labels_in (access_of u) ++ rest) → all ≡ done ++ (unit_bytes numbers v u ++ more) → length done ≡ length before → Chained places numbers v u m t
    → run_steps (event_step places ls (slice_index all)) (numbers_from (length before) (event_count u)) m ≡ Some t
unfolding run_steps
unit-steps places ls before rest all done more numbers v (Load a w) m t e whole long c = chain-steps places ls before rest all done more false a (size_of w) (bytes (size_of w) (numbers v)) m t e whole long (length-bytes (size_of w) (numbers v)) c
unit-steps places ls before rest all done more numbers v (Store a w x) m t e whole long c = chain-steps places ls before rest all done more true a (size_of w) (bytes (size_of w) (number_of numbers x)) m t e whole long (length-bytes (size_of w) (number_of numbers x)) c
unit-steps places ls before rest all done more numbers v (Operation op w k xs) m t e whole long c = ap Some c

pub units-steps : (places : List ℕ) (ls before : List Label) (all done : List ℕ) (us : List SsaUnit) (r t : Reached) → TakeEarlier (length r.numbers) us → IsBytes r.memory → ls ≡ before ++ unit_labels us → all ≡ done ++ all_bytes (slice_index t.numbers) (length r.numbers) us → length done ≡ length before → run_units places us r ≡ Some t
    → run_steps (event_step places ls (slice_index all)) (numbers_from (length before) (length (unit_labels us))) r.memory ≡ Some t.memory
unfolding run_units run_steps
units-steps places ls before all done [] r t units are e whole long run = (let same : r ≡ t = cc in ap (λ (q : Reached). Some q.memory) same)
units-steps places ls before all done (u ∷ us) r t units are e whole long run =
    let went = went_well (unit_run places u r) (run_units places us) run in
    let mid = went.0 in
    let one = one-unit places u r mid are went.1 in
    let more = more-numbers places us mid t went.2 in
    let v = length r.numbers in
    let numbers = slice_index t.numbers in
    let step = event_step places ls (slice_index all) in
    let next : length mid.numbers ≡ v + 1 = ap length one.numbers ∙ length_push r.numbers one.given in
    let chained = unit-chained places u r mid more.0 t.numbers units.0 are went.1 more.1 in
    let own = labels_in (access_of u) in
    let first = unit-steps places ls before (unit_labels us) all done (all_bytes numbers (v + 1) us) numbers v u r.memory mid.memory e whole long chained in
    let n = event_count u in
    let size : length (own ++ unit_labels us) ≡ n + length (unit_labels us) = length-append own (unit_labels us) ∙ ap (λ k. k + length (unit_labels us)) (length-unit_labels u) in
    let at : length (before ++ own) ≡ length before + n = length-append before own ∙ ap (λ k. length before + k) (length-unit_labels u) in
    let there : length (done ++ unit_bytes numbers v u) ≡ length (before ++ own) =
    length-append done (unit_bytes numbers v u) ∙ (λ i. long i + length-unit_bytes numbers v u i) ∙ sym at in
    let rest = units-steps places ls (before ++ own) all (done ++ unit_bytes numbers v u) us mid t (subst (λ k. TakeEarlier k us) (sym next) units.1) one.are
    (e ∙ sym (append_assoc before own (unit_labels us)))
    (whole ∙ sym (append_assoc done (unit_bytes numbers v u) (all_bytes numbers (v + 1) us)) ∙ ap (λ k. (done ++ unit_bytes numbers v u) ++ all_bytes numbers k us) (sym next))
    there went.2 in
    ap (λ k. run_steps step (numbers_from (length before) k) r.memory) size
    ∙ ap (λ l. run_steps step l r.memory) (numbers_from-append (length before) n (length (unit_labels us)))
    ∙ run_steps-append step (numbers_from (length before) n) (numbers_from (length before + n) (length (unit_labels us))) r.memory
    ∙ ap (λ q. q >>= run_steps step (numbers_from (length before + n) (length (unit_labels us)))) first
    ∙ subst (λ k. run_steps step (numbers_from k (length (unit_labels us))) mid.memory ≡ Some t.memory) at rest

pub runs-are-events : RunsAreEvents
runs-are-events places memory args us t are early run =
    units-steps places (unit_labels us) [] (all_bytes (slice_index t.numbers) (length args) us) [] us (record { memory = memory; numbers = args }) t early are refl refl refl run
