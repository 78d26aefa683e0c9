-- In each run in a layout that respects noalias, a load reads what its first load read.
use Rattle.std.proofs.Common.{◌≡◌, ℕ, ◌+◌, ℤ, pos, negsuc, ◌⊎◌, inl, inr, Bool, true, false, List, [], ◌∷◌, ◌++◌, length, Option, Some, None, refl, sym, ap, subst, ◌∙◌, arith, append_assoc}
use Rattle.std.specs.Prelude.{nat_eq, nat_le, slice_index, ◌+ℤ◌, ◌≤ℤ◌, ◌&&◌, ◌||◌, not}
use Rattle.std.specs.List.{cons_option, filter_map, list_any}
use Rattle.std.specs.Ordering.{int_eq}
use Rattle.std.proofs.lemmas.Int.{ints}
use Rattle.std.proofs.lemmas.Bool.{cases_Bool, cond-true, cond-false, eqb-true, leb-true, leb-false}
use Rattle.std.proofs.lemmas.Bool.Decides.{Decides-int_eq}
use Rattle.std.proofs.lemmas.List.{get_or_append_left, get_or_push, length_push}
use Rattle.vg_base.specs.declared.address.Address.{Address}
use Rattle.vg_base.specs.declared.width.Width.{Width}
use Rattle.vg_base.specs.Address.{place_of}
use Rattle.vg_base.specs.Bits.{bytes, number}
use Rattle.vg_base.specs.Memory.{loaded, stored}
use Rattle.vg_base.specs.Trap.{◌>>=◌}
use Rattle.vg_base.specs.Width.{bits_of, size_of}
use Rattle.vg_base.proofs.SameWidth.{width-tested}
use Rattle.vg_bits.specs.Range.{replaced}
use Rattle.vg_bits.proofs.ByteLists.{length-bytes}
use Rattle.vg_bits.proofs.Ranges.{length-replaced, range-replaced_beside}
use Rattle.vg_shapes.specs.declared.access.Access.{Access}
use Rattle.vg_shapes.specs.declared.ssa.Ssa.{Ssa}
use Rattle.vg_shapes.specs.declared.ssa_unit.SsaUnit.{SsaUnit}
use Rattle.vg_shapes.specs.declared.ssa_unit.SsaUnit.TheVariants.{Load, Store, Operation}
use Rattle.vg_shapes.specs.Depends.{conflict}
use Rattle.vg_shapes.specs.Layout.{access_at, access_of, noalias_flags, Respects}
use Rattle.vg_shapes.specs.RunUnits.{number_of, Reached, reached, result_of, run_units, unit_run}
use Rattle.vg_shapes.specs.Units.{arguments, unit_at}
use Rattle.vg_shapes.proofs.Apart.{access-listed, no-conflict-apart}
use Rattle.vg_order_laws.proofs.Accesses.{Apart, loaded-inside, loaded-outside, NatApart, stored-inside, stored-outside}
use Rattle.vg_order_laws.proofs.Runs.{more-numbers, unit-there, went_well}
use Rattle.vg_known.proofs.Terms.{gave}
use Rattle.vg_known.specs.FirstLoads.{are_quiet, first_in, is_load, read_of}

-- ---- a store apart keeps what a load reads

store-keeps : (m : List ℕ) (at : ℤ) (n : ℕ) (there : ℤ) (bs t : List ℕ) → Apart at n there (length bs) → stored m there bs ≡ Some t → loaded t at n ≡ loaded m at n
store-keeps m at n (negsuc b) bs t apart e = absurd (cc)
store-keeps m (negsuc a) n (pos b) bs t apart e = refl
store-keeps m (pos a) n (pos b) bs t apart e = elim (cases_Bool (nat_le (b + length bs) (length m))) [
  | inl y ↦
      let h = leb-true _ _ y in
      let same : replaced b bs m ≡ t = (let k : Some (replaced b bs m) ≡ Some t = sym (stored-inside m b bs h) ∙ e in cc) in
      let long = length-replaced b bs m h in
      let beside : NatApart a n b (length bs) = nat-apart a n b (length bs) apart in
      ap (λ s. loaded s (pos a) n) (sym same)
      ∙ elim (cases_Bool (nat_le (a + n) (length m))) [
        | inl x ↦
            let g = leb-true _ _ x in
            loaded-inside (replaced b bs m) a n (omega (arith, long, g)) ∙ ap Some (range-replaced_beside a n b bs m h g beside) ∙ sym (loaded-inside m a n g)
        | inr x ↦
            let g = leb-false _ _ x in
            loaded-outside (replaced b bs m) a n (omega (arith, long, g)) ∙ sym (loaded-outside m a n g)
      ]
  | inr y ↦ absurd (let none : None ≡ Some t = sym (stored-outside m b bs (leb-false _ _ y)) ∙ e in cc)
]
  where
    nat-apart : (a n b k : ℕ) → Apart (pos a) n (pos b) k → NatApart a n b k
    nat-apart a n b k (inl h) = inl (omega (arith, ints, h))
    nat-apart a n b k (inr h) = inr (omega (arith, ints, h))

-- ---- quiet units keep it

and-parts : (a b : Bool) → (a && b) ≡ true → (a ≡ true) × (b ≡ true)
and-parts true b h = (refl, h)
and-parts false b h = absurd (cc)

neither : (a b : Bool) → not (a || b) ≡ true → (a ≡ false) × (not b ≡ true)
neither true b h = absurd (cc)
neither false b h = (refl, h)

quiet-parts : (flags : List Bool) (x : Access) (u : SsaUnit) (us : List SsaUnit) → are_quiet flags x (u ∷ us) ≡ true → ((y : Access) → access_of u ≡ Some y → conflict flags y x ≡ false) × (are_quiet flags x us ≡ true)
quiet-parts flags x u us h = by (access_of u) refl h
  where
    by : (o : Option Access) → access_of u ≡ o → not (list_any (λ y. conflict flags y x) (cons_option o (filter_map access_of us))) ≡ true → ((y : Access) → access_of u ≡ Some y → conflict flags y x ≡ false) × (are_quiet flags x us ≡ true)
    by None e g = (λ y f. absurd (let none : None ≡ Some y = sym e ∙ f in cc), g)
    by (Some z) e g =
        let parts = neither (conflict flags z x) (list_any (λ y. conflict flags y x) (filter_map access_of us)) g in
        (λ y f. (let same : z ≡ y = (let k : Some z ≡ Some y = sym e ∙ f in cc) in ap (λ q. conflict flags q x) (sym same) ∙ parts.0), parts.1)

-- of a unit that does not conflict with a load
unit-keeps : (ssa : Ssa) (places : List ℕ) (a : Address) (w : Width) (u : SsaUnit) (v x : ℕ) (r t : Reached) → Respects ssa places → access_at ssa x ≡ Some (read_of a w) → unit_at ssa v ≡ Some u → ((y : Access) → access_of u ≡ Some y → conflict (noalias_flags ssa) y (read_of a w) ≡ false)
    → unit_run places u r ≡ Some t → loaded t.memory (place_of places a) (size_of w) ≡ loaded r.memory (place_of places a) (size_of w)
unit-keeps ssa places a w (Load b m) v x r t respects own there free e =
    let went = went_well (loaded r.memory (place_of places b) (size_of m)) _ e in
    let same : reached r.memory r.numbers (number went.0) ≡ t = (let k : Some (reached r.memory r.numbers (number went.0)) ≡ Some t = went.2 in cc) in
    ap (λ (q : Reached). loaded q.memory (place_of places a) (size_of w)) (sym same)
unit-keeps ssa places a w (Store b m y) v x r t respects own there free e =
    let new = bytes (size_of m) (number_of (slice_index r.numbers) y) in
    let z : Access = record { address = b; size = size_of m; writes = true } in
    let went = went_well (stored r.memory (place_of places b) new) _ e in
    let same : reached went.0 r.numbers 0 ≡ t = (let k : Some (reached went.0 r.numbers 0) ≡ Some t = went.2 in cc) in
    let stands : access_at ssa v ≡ Some z = ap (λ (o : Option SsaUnit). o >>= access_of) there in
    let apart = no-conflict-apart ssa places z (read_of a w) respects (access-listed ssa v z stands) (access-listed ssa x (read_of a w) own) (free z refl) refl in
    ap (λ (q : Reached). loaded q.memory (place_of places a) (size_of w)) (sym same)
    ∙ store-keeps r.memory (place_of places a) (size_of w) (place_of places b) new went.0 (subst (λ k. Apart (place_of places a) (size_of w) (place_of places b) k) (sym (length-bytes (size_of m) (number_of (slice_index r.numbers) y))) (turned (place_of places b) (size_of m) (place_of places a) (size_of w) apart)) went.1
  where
    turned : (p : ℤ) (n : ℕ) (q : ℤ) (k : ℕ) → ((p +ℤ pos n) ≤ℤ q) ⊎ ((q +ℤ pos k) ≤ℤ p) → Apart q k p n
    turned p n q k (inl h) = inr h
    turned p n q k (inr h) = inl h
unit-keeps ssa places a w (Operation op m k xs) v x r t respects own there free e =
    let n = result_of (slice_index r.numbers) op (bits_of m) k xs in
    let same : reached r.memory r.numbers n ≡ t = (let q : Some (reached r.memory r.numbers n) ≡ Some t = e in cc) in
    ap (λ (q : Reached). loaded q.memory (place_of places a) (size_of w)) (sym same)

quiet-keeps : (ssa : Ssa) (places : List ℕ) (a : Address) (w : Width) (done us rest : List SsaUnit) (x : ℕ) (r t : Reached) → Respects ssa places → access_at ssa x ≡ Some (read_of a w) → ssa.units ≡ done ++ (us ++ rest) → are_quiet (noalias_flags ssa) (read_of a w) us ≡ true
    → run_units places us r ≡ Some t → loaded t.memory (place_of places a) (size_of w) ≡ loaded r.memory (place_of places a) (size_of w)
unfolding run_units
quiet-keeps ssa places a w done [] rest x r t respects own whole quiet run = (let same : r ≡ t = cc in ap (λ (q : Reached). loaded q.memory (place_of places a) (size_of w)) (sym same))
quiet-keeps ssa places a w done (u ∷ us) rest x r t respects own whole quiet run =
    let went = went_well (unit_run places u r) (run_units places us) run in
    let parts = quiet-parts (noalias_flags ssa) (read_of a w) u us quiet in
    let there = unit-there ssa done u (us ++ rest) (arguments ssa + length done) whole refl in
    quiet-keeps ssa places a w (done ++ u ∷ []) us rest x went.0 t respects own (whole ∙ sym (append_assoc done (u ∷ []) (us ++ rest))) parts.1 went.2
    ∙ unit-keeps ssa places a w u (arguments ssa + length done) x r went.0 respects own there parts.0 went.1

-- ---- the first load as a function

pub record IsBehind (flags : List Bool) (first m : ℕ) (done : List SsaUnit) (a : Address) (w : Width) : Type 0 where
  pub before : List SsaUnit
  pub between : List SsaUnit
  pub whole : done ≡ before ++ Load a w ∷ between
  pub at : m ≡ first + length before
  pub quiet : are_quiet flags (read_of a w) between ≡ true

that-load : (a : Address) (w : Width) (u : SsaUnit) → is_load a w u ≡ true → u ≡ Load a w
that-load a w (Load b v) h =
    let one = and-parts (nat_eq (bits_of w) (bits_of v)) (nat_eq a.pointer b.pointer && int_eq a.offset b.offset) h in
    let two = and-parts (nat_eq a.pointer b.pointer) (int_eq a.offset b.offset) one.1 in
    let width = width-tested w v one.0 in
    let pointer = eqb-true a.pointer b.pointer two.0 in
    let offset = (Decides-int_eq a.offset b.offset).0 two.1 in
    (λ i. Load (record { pointer = sym pointer i; offset = sym offset i }) (sym width i))
that-load a w (Store b v x) h = absurd (cc)
that-load a w (Operation op v k xs) h = absurd (cc)

pub found : (flags : List Bool) (a : Address) (w : Width) (first k m : ℕ) (before us : List SsaUnit) → first + length before ≡ k → first_in flags a w k us ≡ Some m → IsBehind flags first m (before ++ us) a w
found flags a w first k m before [] long e = absurd (cc)
found flags a w first k m before (u ∷ us) long e = elim (cases_Bool (is_load a w u && are_quiet flags (read_of a w) us)) [
  | inl t ↦
      let both = and-parts (is_load a w u) (are_quiet flags (read_of a w) us) t in
      let same : k ≡ m = (let s : Some k ≡ Some m = sym (cond-true _ _ _ t) ∙ e in cc) in
      record { before = before; between = us; whole = ap (λ q. before ++ q ∷ us) (that-load a w u both.0); at = sym same ∙ sym long; quiet = both.1 }
  | inr f ↦
      subst (λ l. IsBehind flags first m l a w) (append_assoc before (u ∷ []) us)
      (found flags a w first (k + 1) m (before ++ u ∷ []) us (let l = length_push before u in omega arith) (sym (cond-false _ _ _ f) ∙ e))
]

-- ---- both read the same

pub run-both : (places : List ℕ) (us vs : List SsaUnit) (r t : Reached) → run_units places (us ++ vs) r ≡ Some t → (q : Reached) × (run_units places us r ≡ Some q) × (run_units places vs q ≡ Some t)
unfolding run_units
run-both places [] vs r t e = (r, refl, e)
run-both places (u ∷ us) vs r t e =
    let went = went_well (unit_run places u r) (run_units places (us ++ vs)) e in
    let rest = run-both places us vs went.0 t went.2 in
    (rest.0, ap (λ o. o >>= run_units places us) went.1 ∙ rest.1, rest.2)

-- what a load read
pub record Read (places : List ℕ) (a : Address) (w : Width) (r t : Reached) : Type 0 where
  pub read : List ℕ
  pub there : loaded r.memory (place_of places a) (size_of w) ≡ Some read
  pub memory : t.memory ≡ r.memory
  pub numbers : t.numbers ≡ r.numbers ++ number read ∷ []

pub load-reads : (places : List ℕ) (a : Address) (w : Width) (r t : Reached) → unit_run places (Load a w) r ≡ Some t → Read places a w r t
load-reads places a w r t e =
    let went = went_well (loaded r.memory (place_of places a) (size_of w)) _ e in
    let same : reached r.memory r.numbers (number went.0) ≡ t = (let k : Some (reached r.memory r.numbers (number went.0)) ≡ Some t = went.2 in cc) in
    record { read = went.0; there = went.1; memory = ap (λ (q : Reached). q.memory) (sym same); numbers = ap (λ (q : Reached). q.numbers) (sym same) }

pub number-there : (numbers more : List ℕ) (n : ℕ) (all : List ℕ) → all ≡ (numbers ++ n ∷ []) ++ more → slice_index all (length numbers) ≡ n
number-there numbers more n all e =
    ap (λ l. slice_index l (length numbers)) e ∙ get_or_append_left (numbers ++ n ∷ []) more 0 (length numbers) (let l = length_push numbers n in omega arith) ∙ get_or_push numbers n 0 (length numbers) refl

run-long : (places : List ℕ) (us : List SsaUnit) (r t : Reached) → run_units places us r ≡ Some t → length t.numbers ≡ length r.numbers + length us
unfolding run_units
run-long places [] r t e = (let same : r ≡ t = cc in ap (λ (q : Reached). length q.numbers) (sym same) ∙ omega arith)
run-long places (u ∷ us) r t e =
    let went = went_well (unit_run places u r) (run_units places us) e in
    let one = gave places u r went.0 went.1 in
    run-long places us went.0 t went.2 ∙ ap (λ l. length l + length us) one.numbers ∙ (let l = length_push r.numbers one.given in omega arith)

-- a load and the first load of its class have one number
pub first-reads : (ssa : Ssa) (places : List ℕ) (a : Address) (w : Width) (m : ℕ) (done us : List SsaUnit) (b r t : Reached) → Respects ssa places → ssa.units ≡ done ++ Load a w ∷ us → length b.numbers ≡ arguments ssa
    → IsBehind (noalias_flags ssa) (arguments ssa) m done a w → run_units places done b ≡ Some r → run_units places (Load a w ∷ us) r ≡ Some t → slice_index t.numbers m ≡ slice_index t.numbers (length r.numbers)
unfolding run_units
first-reads ssa places a w m done us b r t respects whole long behind before run =
    let split = run-both places behind.before (Load a w ∷ behind.between) b r (ap (λ l. run_units places l b) (sym behind.whole) ∙ before) in
    let start = split.0 in
    let first = went_well (unit_run places (Load a w) start) (run_units places behind.between) split.2 in
    let one = load-reads places a w start first.0 first.1 in
    let second = went_well (unit_run places (Load a w) r) (run_units places us) run in
    let two = load-reads places a w r second.0 second.1 in
    let here : ssa.units ≡ (behind.before ++ Load a w ∷ []) ++ (behind.between ++ Load a w ∷ us) =
    whole ∙ ap (λ l. l ++ Load a w ∷ us) behind.whole ∙ append_assoc behind.before (Load a w ∷ behind.between) (Load a w ∷ us) ∙ sym (append_assoc behind.before (Load a w ∷ []) (behind.between ++ Load a w ∷ us)) in
    let own : access_at ssa (arguments ssa + length done) ≡ Some (read_of a w) = ap (λ (o : Option SsaUnit). o >>= access_of) (unit-there ssa done (Load a w) us (arguments ssa + length done) whole refl) in
    let kept = quiet-keeps ssa places a w (behind.before ++ Load a w ∷ []) behind.between (Load a w ∷ us) (arguments ssa + length done) first.0 r respects own here behind.quiet first.2 in
    let reads : two.read ≡ one.read = (let e : Some two.read ≡ Some one.read = sym two.there ∙ kept ∙ ap (λ k. loaded k (place_of places a) (size_of w)) one.memory ∙ one.there in cc) in
    let grown = more-numbers places behind.between first.0 r first.2 in
    let more = more-numbers places us second.0 t second.2 in
    let last : t.numbers ≡ (r.numbers ++ number two.read ∷ []) ++ more.0 = more.1 ∙ ap (λ l. l ++ more.0) two.numbers in
    let early : t.numbers ≡ (start.numbers ++ number one.read ∷ []) ++ (grown.0 ++ (number two.read ∷ more.0)) =
    last ∙ append_assoc r.numbers (number two.read ∷ []) more.0 ∙ ap (λ l. l ++ (number two.read ∷ more.0)) (grown.1 ∙ ap (λ l. l ++ grown.0) one.numbers) ∙ append_assoc (start.numbers ++ number one.read ∷ []) grown.0 (number two.read ∷ more.0) in
    let at : m ≡ length start.numbers = behind.at ∙ (let l = run-long places behind.before b start split.1 in omega arith) in
    ap (slice_index t.numbers) at ∙ number-there start.numbers (grown.0 ++ (number two.read ∷ more.0)) (number one.read) t.numbers early
    ∙ ap number (sym reads) ∙ sym (number-there r.numbers more.0 (number two.read) t.numbers last)
