-- A run of the repeated units beside one of the given units: each operand that is taken has the
-- number of the value that it stands for.
use Rattle.std.proofs.Common.{◌≡◌, ℕ, zero, suc, ◌+◌, ◌-◌, ◌<◌, ◌≤◌, ◌⊎◌, Bool, true, false, List, [], ◌∷◌, ◌++◌, length, map, Option, Some, None, refl, sym, ap, ◌∙◌, subst, arith, append_assoc, append-nil, inl, inr}
use Rattle.std.specs.Prelude.{nat_eq, slice_get, slice_index, slice_index_or}
use Rattle.std.proofs.lemmas.Bool.{cases_Bool, cases_lt, cond-false, cond-true, eq-eqb, eqb-true, le-ltb, or_left, or_right, true≢false}
use Rattle.std.proofs.lemmas.List.{get_or_append_left, get_or_push, length-append, length-map, length_push}
use Rattle.vg_base.specs.Address.{place_of}
use Rattle.vg_base.specs.Bits.{bytes, number}
use Rattle.vg_base.specs.Memory.{loaded, stored}
use Rattle.vg_base.specs.Trap.{◌>>=◌}
use Rattle.vg_base.specs.declared.address.Address.{Address}
use Rattle.vg_base.specs.declared.width.Width.{Width}
use Rattle.vg_base.specs.Width.{bits_of, size_of}
use Rattle.vg_rewrite.specs.Repeated.{anew, is_free, is_needed, load_stays, next_number, put_unit, read_anew, repeat_by, repeat_other, repeat_units, repeated_units, Repeating, source_by, source_of, stand_as, stand_source, stood, take_operand, take_source, Taken, takes, unit_or, with_first}
use Rattle.vg_rewrite.specs.Running.{memory_behind}
use Rattle.vg_rewrite.proofs.Known.{Known, known-step, Reads, some-same}
use Rattle.vg_rewrite.proofs.SourceFacts.{ExtensionAt, free-apart, InUnits, load-source, needed-stays, none-stays, source-at, source-inside, source-stays, SourceAt, stays, stays_by, takes-it, unit-inside, use-needs}
use Rattle.vg_scalar.specs.Scalar.{resize_result}
use Rattle.vg_shapes.specs.declared.ssa.Ssa.{Ssa}
use Rattle.vg_shapes.specs.declared.ssa_unit.Operands.{Operands}
use Rattle.vg_shapes.specs.declared.ssa_unit.Operator.{Operator}
use Rattle.vg_shapes.specs.declared.ssa_unit.Operator.TheVariants.{Resize}
use Rattle.vg_shapes.specs.declared.ssa_unit.SsaUnit.{SsaUnit}
use Rattle.vg_shapes.specs.declared.ssa_unit.SsaUnit.TheVariants.{Load, Store, Operation}
use Rattle.vg_shapes.specs.declared.wanted.Wanted.{Wanted}
use Rattle.vg_shapes.specs.declared.wanted.Wanted.TheVariants.{Value, Constant, Nothing}
use Rattle.vg_shapes.specs.Depends.{conflict_at}
use Rattle.vg_shapes.specs.Layout.{Respects}
use Rattle.vg_shapes.specs.Order.{numbers_from}
use Rattle.vg_shapes.specs.RunUnits.{number_of, operation_result, Reached, reached, result_of, run_units, start_of, unit_run}
use Rattle.vg_shapes.specs.Sound.{IsEarlier, TakeEarlier, TakesEarlier}
use Rattle.vg_shapes.specs.Units.{arguments, is_value, unit_at, uses_value}
use Rattle.vg_ssa.proofs.Meaning.{bound}

-- ---- one unit more

pub run-push : (places : List ℕ) (us : List SsaUnit) (u : SsaUnit) (s r t : Reached) → run_units places us s ≡ Some r → unit_run places u r ≡ Some t → run_units places (us ++ u ∷ []) s ≡ Some t
unfolding run_units
run-push places [] u s r t e f =
    let same : s ≡ r = cc in
    ap (λ o. o >>= run_units places []) (ap (unit_run places u) same ∙ f)
run-push places (x ∷ us) u s r t e f =
    let b = bound (unit_run places x s) (run_units places us) r e in
    ap (λ o. o >>= run_units places (us ++ u ∷ [])) b.1 ∙ run-push places us u b.0 r t b.2 f

-- the units so far reach this
record Ran (places : List ℕ) (start : Reached) (g : Repeating) (r : Reached) : Type 0 where
  run : run_units places g.units start ≡ Some r
  long : length r.numbers ≡ g.first + length g.units

put-ran : (places : List ℕ) (start : Reached) (g : Repeating) (r : Reached) (u : SsaUnit) (m : List ℕ) (n : ℕ) → Ran places start g r → unit_run places u r ≡ Some (reached m r.numbers n) → Ran places start (put_unit u g) (reached m r.numbers n)
put-ran places start g r u m n h e = record {
  run = run-push places g.units u start r (reached m r.numbers n) h.run e;
  long = (let a = length_push r.numbers n in let b = length_push g.units u in let c = h.long in omega arith);
}

-- an operand stands for a number
abbrev pub Has : List ℕ → Wanted → ℕ → Type 0
Has numbers x n = IsEarlier (length numbers) x × (number_of (slice_index numbers) x ≡ n)

has-next : (places : List ℕ) (start : Reached) (g : Repeating) (r : Reached) (n : ℕ) → Ran places start g r → Has (r.numbers ++ n ∷ []) (next_number g) n
has-next places start g r n h = ((let a = length_push r.numbers n in let c = h.long in omega arith), get_or_push r.numbers n 0 (g.first + length g.units) h.long)

pub has-more : (numbers more : List ℕ) (x : Wanted) (n : ℕ) → Has numbers x n → Has (numbers ++ more) x n
has-more numbers more (Value v) n h = ((let a = length-append numbers more in let b = h.0 in omega arith), get_or_append_left numbers more 0 v h.0 ∙ h.1)
has-more numbers more (Constant w k) n h = h
has-more numbers more Nothing n h = h

-- ---- what stands

-- what stands for each value where it stood has its number
abbrev AreStanding : Ssa → ℕ → List Wanted → List ℕ → List ℕ → Type 0
AreStanding ssa v stands numbers given = (x : ℕ) → x < v → stays ssa x ≡ true → Has numbers (slice_index_or stands x Nothing) (slice_index given x)

record Ready (ssa : Ssa) (places : List ℕ) (start : Reached) (v : ℕ) (g : Repeating) (r given : Reached) : Type 0 where
  ran : Ran places start g r
  memory : r.memory ≡ given.memory
  long : length g.stands ≡ v
  standing : AreStanding ssa v g.stands r.numbers given.numbers

-- an operand that is taken stands for a number, behind more units
record Took (places : List ℕ) (start : Reached) (g : Repeating) (r : Reached) (t : Taken) (n : ℕ) : Type 0 where
  after : Reached
  more : List ℕ
  ran : Ran places start t.after after
  numbers : after.numbers ≡ r.numbers ++ more
  memory : after.memory ≡ r.memory
  stands : t.after.stands ≡ g.stands
  value : Has after.numbers t.value n

ready-after : (ssa : Ssa) (places : List ℕ) (start : Reached) (v : ℕ) (g : Repeating) (r given : Reached) (t : Taken) (n : ℕ) → Ready ssa places start v g r given → (h : Took places start g r t n) → Ready ssa places start v t.after h.after given
ready-after ssa places start v g r given t n ready h = record {
  ran = h.ran;
  memory = h.memory ∙ ready.memory;
  long = ap length h.stands ∙ ready.long;
  standing = λ x low s.
      let P : List Wanted → Type 0 = λ l. Has h.after.numbers (slice_index_or l x Nothing) (slice_index given.numbers x) in
      subst P (sym h.stands)
      (subst (λ l. Has l (slice_index_or g.stands x Nothing) (slice_index given.numbers x)) (sym h.numbers) (has-more r.numbers h.more (slice_index_or g.stands x Nothing) (slice_index given.numbers x) (ready.standing x low s)));
}

-- a unit behind an operand that was taken
took-unit : (places : List ℕ) (start : Reached) (g : Repeating) (r : Reached) (t : Taken) (n k : ℕ) (u : SsaUnit) → (h : Took places start g r t n) → unit_run places u h.after ≡ Some (reached h.after.memory h.after.numbers k)
    → Took places start g r (anew u t.after) k
took-unit places start g r t n k u h e = record {
  after = reached h.after.memory h.after.numbers k;
  more = h.more ++ k ∷ [];
  ran = put-ran places start t.after h.after u h.after.memory k h.ran e;
  numbers = ap (λ l. l ++ k ∷ []) h.numbers ∙ append_assoc r.numbers h.more (k ∷ []);
  memory = h.memory;
  stands = h.stands;
  value = has-next places start t.after h.after k h.ran;
}

-- nothing is taken anew
took-standing : (places : List ℕ) (start : Reached) (g : Repeating) (r : Reached) (x : Wanted) (n : ℕ) → Ran places start g r → Has r.numbers x n → Took places start g r (record { after = g; value = x }) n
took-standing places start g r x n ran has = record {
  after = r;
  more = [];
  ran = ran;
  numbers = sym (append-nil r.numbers);
  memory = refl;
  stands = refl;
  value = has;
}

-- a load of its own reads the number again
took-load : (places : List ℕ) (start : Reached) (g : Repeating) (r : Reached) (a : Address) (w : Width) (n : ℕ) → Ran places start g r → Reads places r.memory a w n → Took places start g r (anew (Load a w) g) n
unfolding took-standing
took-load places start g r a w n ran reads =
    took-unit places start g r (record { after = g; value = Nothing }) 0 n (Load a w) (took-standing places start g r Nothing 0 ran (tt, refl))
    (ap (λ o. o >>= λ read. Some (reached r.memory r.numbers (number read))) reads.loaded_is ∙ ap (λ k. Some (reached r.memory r.numbers k)) reads.number_is)

-- and an extension behind it
took-extension : (places : List ℕ) (start : Reached) (g : Repeating) (r : Reached) (t : Taken) (n k : ℕ) (ssa : Ssa) (e l : ℕ) (x : ExtensionAt ssa e l) → Took places start g r t n → k ≡ resize_result x.op (bits_of x.width) (bits_of x.from) n
    → Took places start g r (anew (with_first t.value (unit_or (unit_at ssa e))) t.after) k
took-extension places start g r t n k ssa e l x h is =
    let P : Option SsaUnit → Type 0 = λ o. Took places start g r (anew (with_first t.value (unit_or o)) t.after) k in
    subst P (sym x.unit)
    (took-unit places start g r t n k (with_first t.value (Operation (Resize x.op x.from) x.width x.amount x.operands)) h
    (ap (λ j. Some (reached h.after.memory h.after.numbers j)) (ap (resize_result x.op (bits_of x.width) (bits_of x.from)) h.value.1 ∙ sym is)))

-- ---- operands

-- the unit of a number takes this operand
abbrev pub IsTaken : Ssa → ℕ → Wanted → Type 0
IsTaken ssa v (Value x) = takes ssa v x ≡ true
IsTaken ssa v (Constant w n) = Unit {0}
IsTaken ssa v Nothing = Unit {0}

pub taken : (ssa : Ssa) (v : ℕ) (u : SsaUnit) (x : Wanted) → unit_at ssa v ≡ Some u → source_of ssa v ≡ None → ((y : ℕ) → is_value y x ≡ true → uses_value y u ≡ true) → IsTaken ssa v x
taken ssa v u (Value y) is none uses = takes-it ssa v y u is none (uses y (eq-eqb y y refl))
taken ssa v u (Constant w n) is none uses = tt
taken ssa v u Nothing is none uses = tt

module _ (ssa : Ssa) (places : List ℕ) (start : Reached) (v : ℕ) (unit : SsaUnit) (given : Reached) (is : unit_at ssa v ≡ Some unit) (known : Known ssa places v given.memory given.numbers) where
  inside : InUnits ssa v
  inside = unit-inside ssa v unit is

  took-anew : (g : Repeating) (r : Reached) (x l : ℕ) → x < v → l < v → Ran places start g r → r.memory ≡ given.memory → SourceAt ssa x l → ((s : ℕ) → l < s → s < v → conflict_at ssa l s ≡ false)
      → Took places start g r (read_anew ssa x l g) (slice_index given.numbers x)
  took-anew g r x l low before ran memory source apart = elim (cases_Bool (nat_eq x l)) [
    | inl c ↦
        let same : x ≡ l = eqb-true x l c in
        let P : Taken → Type 0 = λ t. Took places start g r t (slice_index given.numbers x) in
        subst P (sym (cond-true (nat_eq x l) read _ c)) (subst (λ y. Took places start g r read (slice_index given.numbers y)) (sym same) first)
    | inr c ↦
        let e = source.extends c in
        let P : Taken → Type 0 = λ t. Took places start g r t (slice_index given.numbers x) in
        subst P (sym (cond-false (nat_eq x l) read _ c)) (took-extension places start g r read (slice_index given.numbers l) (slice_index given.numbers x) ssa x l e first (known.extensions x l low e).1)
  ]
    where
      read : Taken
      read = anew (unit_or (unit_at ssa l)) g

      first : Took places start g r read (slice_index given.numbers l)
      first =
          let h = source.load in
          let P : Option SsaUnit → Type 0 = λ o. Took places start g r (anew (unit_or o) g) (slice_index given.numbers l) in
          subst P (sym h.unit)
          (took-load places start g r h.address h.width (slice_index given.numbers l) ran (subst (λ m. Reads places m h.address h.width (slice_index given.numbers l)) (sym memory) (known.loads l before h apart)))

  -- the load stands before its extension
  source-before : (x l : ℕ) → x < v → SourceAt ssa x l → l < v
  source-before x l low source = elim (cases_Bool (nat_eq x l)) [
    | inl c ↦ (let same = eqb-true x l c in omega arith)
    | inr c ↦ (let less = (known.extensions x l low (source.extends c)).0 in omega arith)
  ]

  took-source : (g : Repeating) (r : Reached) (x : ℕ) (o : Option ℕ) → x < v → Ready ssa places start v g r given → source_of ssa x ≡ o → takes ssa v x ≡ true
      → Took places start g r (take_source ssa v x o g) (slice_index given.numbers x)
  took-source g r x None low ready e uses = took-standing places start g r _ (slice_index given.numbers x) ready.ran (ready.standing x low (none-stays ssa x e))
  took-source g r x (Some l) low ready e uses =
      let P : Taken → Type 0 = λ t. Took places start g r t (slice_index given.numbers x) in
      elim (cases_Bool (is_free ssa v x)) [
        | inl c ↦
            let source = source-at ssa x l e in
            subst P (sym (cond-true (is_free ssa v x) (read_anew ssa x l g) (stood g x) c))
            (took-anew g r x l low (source-before x l low source) ready.ran ready.memory source (free-apart ssa v x l e c))
        | inr c ↦
            subst P (sym (cond-false (is_free ssa v x) (read_anew ssa x l g) (stood g x) c))
            (took-standing places start g r _ (slice_index given.numbers x) ready.ran (ready.standing x low (stayed c)))
      ]
    where
      stayed : is_free ssa v x ≡ false → stays ssa x ≡ true
      stayed c = needed-stays ssa x l (source-inside ssa x l e) e (use-needs ssa v x inside uses c)

  took-operand : (g : Repeating) (r : Reached) (x : Wanted) → IsEarlier v x → Ready ssa places start v g r given → IsTaken ssa v x → Took places start g r (take_operand ssa v x g) (number_of (slice_index given.numbers) x)
  took-operand g r (Value x) low ready uses = took-source g r x (source_of ssa x) low ready refl uses
  took-operand g r (Constant w n) low ready uses = took-standing places start g r (Constant w n) n ready.ran (tt, refl)
  took-operand g r Nothing low ready uses = took-standing places start g r Nothing 0 ready.ran (tt, refl)

-- ---- one unit more

-- the state behind the unit of a number
record Stepped (ssa : Ssa) (places : List ℕ) (start : Reached) (v : ℕ) (g : Repeating) (given : Reached) : Type 0 where
  after : Reached
  ready : Ready ssa places start (v + 1) g after given

ready-more : (ssa : Ssa) (places : List ℕ) (start : Reached) (v : ℕ) (g h : Repeating) (r t given : Reached) (x : Wanted) (m more : List ℕ) (n : ℕ) → Ready ssa places start v g r given → length given.numbers ≡ v
    → Ran places start h t → t.memory ≡ m → t.numbers ≡ r.numbers ++ more → h.stands ≡ g.stands ++ x ∷ [] → (stays ssa v ≡ true → Has t.numbers x n)
    → Ready ssa places start (v + 1) h t (reached m given.numbers n)
ready-more ssa places start v g h r t given x m more n ready long ran memory numbers stands has = record {
  ran = ran;
  memory = memory;
  long = ap length stands ∙ length_push g.stands x ∙ ap (λ k. k + 1) ready.long;
  standing = λ y low s. (
      let P : List Wanted → Type 0 = λ l. Has t.numbers (slice_index_or l y Nothing) (slice_index (given.numbers ++ n ∷ []) y) in
      subst P (sym stands) (by y low s (cases_lt y v)));
}
  where
    by : (y : ℕ) → y < v + 1 → stays ssa y ≡ true → (y < v) ⊎ (v ≤ y) → Has t.numbers (slice_index_or (g.stands ++ x ∷ []) y Nothing) (slice_index (given.numbers ++ n ∷ []) y)
    by y low s (inl less) =
        let kept = ready.long in
        let old : Has t.numbers (slice_index_or g.stands y Nothing) (slice_index given.numbers y) =
        subst (λ l. Has l (slice_index_or g.stands y Nothing) (slice_index given.numbers y)) (sym numbers) (has-more r.numbers more (slice_index_or g.stands y Nothing) (slice_index given.numbers y) (ready.standing y less s)) in
        subst (λ k. Has t.numbers k (slice_index (given.numbers ++ n ∷ []) y)) (sym (get_or_append_left g.stands (x ∷ []) Nothing y (omega arith)))
        (subst (Has t.numbers (slice_index_or g.stands y Nothing)) (sym (get_or_append_left given.numbers (n ∷ []) 0 y (omega arith))) old)
    by y low s (inr more_than) =
        let same : v ≡ y = omega arith in
        let P : ℕ → Type 0 = λ k. Has t.numbers (slice_index_or (g.stands ++ x ∷ []) k Nothing) (slice_index (given.numbers ++ n ∷ []) k) in
        let now : Has t.numbers x n = has (subst (λ k. stays ssa k ≡ true) (sym same) s) in
        subst P same
        (subst (λ k. Has t.numbers k (slice_index (given.numbers ++ n ∷ []) v)) (sym (get_or_push g.stands x Nothing v ready.long))
        (subst (Has t.numbers x) (sym (get_or_push given.numbers n 0 v long)) now))

-- a load or an extension where it stays
step-source : (ssa : Ssa) (places : List ℕ) (start : Reached) (v : ℕ) (g : Repeating) (r given : Reached) (u : SsaUnit) (n : ℕ) (b : Bool) → Ready ssa places start v g r given → length given.numbers ≡ v → stays ssa v ≡ b
    → (b ≡ true → unit_run places u r ≡ Some (reached r.memory r.numbers n)) → Stepped ssa places start v (stand_source b u g) (reached given.memory given.numbers n)
step-source ssa places start v g r given u n true ready long s run = record {
  after = reached r.memory r.numbers n;
  ready =
      ready-more ssa places start v g (stand_as (next_number g) (put_unit u g)) r (reached r.memory r.numbers n) given (next_number g) given.memory (n ∷ []) n ready long (also (put-ran places start g r u r.memory n ready.ran (run refl))) ready.memory refl refl
      (λ q. has-next places start g r n ready.ran);
}
  where
    also : Ran places start (put_unit u g) (reached r.memory r.numbers n) → Ran places start (stand_as (next_number g) (put_unit u g)) (reached r.memory r.numbers n)
    also h = record { run = h.run; long = h.long }
step-source ssa places start v g r given u n false ready long s run = record {
  after = r;
  ready = ready-more ssa places start v g (stand_as Nothing g) r r given Nothing given.memory [] n ready long (record { run = ready.ran.run; long = ready.ran.long }) ready.memory (sym (append-nil r.numbers)) refl (λ q. absurd (true≢false (sym q ∙ s)));
}

module _ (ssa : Ssa) (places : List ℕ) (start : Reached) (v : ℕ) (g : Repeating) (r given t : Reached) (ready : Ready ssa places start v g r given) (known : Known ssa places v given.memory given.numbers) where
  step-load : (a : Address) (w : Width) → unit_at ssa v ≡ Some (Load a w) → unit_run places (Load a w) given ≡ Some t → Stepped ssa places start v (repeat_by ssa v (Load a w) (source_of ssa v) g) t
  step-load a w is run =
      let b = bound (loaded given.memory (place_of places a) (size_of w)) (λ read. Some (reached given.memory given.numbers (number read))) t run in
      let same : reached given.memory given.numbers (number b.0) ≡ t = some-same (reached given.memory given.numbers (number b.0)) t b.2 in
      let here : source_of ssa v ≡ Some v = load-source ssa v (record { address = a; width = w; unit = is }) in
      let own = eq-eqb v v refl in
      let stay : stays ssa v ≡ load_stays ssa v = ap (stays_by ssa v) here ∙ cond-true (nat_eq v v) (load_stays ssa v) (is_needed ssa v) own in
      let made : repeat_by ssa v (Load a w) (source_of ssa v) g ≡ stand_source (load_stays ssa v) (Load a w) g =
      ap (λ o. repeat_by ssa v (Load a w) o g) here ∙ cond-true (nat_eq v v) (repeat_other ssa v (Load a w) g) _ own in
      subst (Stepped ssa places start v (repeat_by ssa v (Load a w) (source_of ssa v) g)) same
      (subst (λ h. Stepped ssa places start v h (reached given.memory given.numbers (number b.0))) (sym made)
      (step-source ssa places start v g r given (Load a w) (number b.0) (load_stays ssa v) ready known.long stay
      (λ q. ap (λ o. o >>= λ read. Some (reached r.memory r.numbers (number read))) (ap (λ m. loaded m (place_of places a) (size_of w)) ready.memory ∙ b.1))))

  step-extension : (u : SsaUnit) (l : ℕ) → unit_at ssa v ≡ Some u → source_of ssa v ≡ Some l → nat_eq v l ≡ false → TakesEarlier v u → unit_run places u given ≡ Some t → Stepped ssa places start v (repeat_by ssa v u (Some l) g) t
  step-extension u l is source other takes run =
      let h = (source-at ssa v l source).extends other in
      let shape : Operation (Resize h.op h.from) h.width h.amount h.operands ≡ u = some-same (Operation (Resize h.op h.from) h.width h.amount h.operands) u (sym h.unit ∙ is) in
      let P : SsaUnit → Type 0 = λ x. TakesEarlier v x → unit_run places x given ≡ Some t → Stepped ssa places start v (repeat_by ssa v x (Some l) g) t in
      subst P shape (as-extension h) takes run
    where
      as-extension : (h : ExtensionAt ssa v l) → TakesEarlier v (Operation (Resize h.op h.from) h.width h.amount h.operands) → unit_run places (Operation (Resize h.op h.from) h.width h.amount h.operands) given ≡ Some t
          → Stepped ssa places start v (repeat_by ssa v (Operation (Resize h.op h.from) h.width h.amount h.operands) (Some l) g) t
      as-extension h earlier runs =
          let x = Operation (Resize h.op h.from) h.width h.amount h.operands in
          let n = resize_result h.op (bits_of h.width) (bits_of h.from) (number_of (slice_index given.numbers) h.operands.first) in
          let same : reached given.memory given.numbers n ≡ t = some-same (reached given.memory given.numbers n) t runs in
          let stay : stays ssa v ≡ is_needed ssa v = ap (stays_by ssa v) source ∙ cond-false (nat_eq v l) (load_stays ssa v) (is_needed ssa v) other in
          let new = with_first (slice_index_or g.stands l Nothing) x in
          let made : repeat_by ssa v x (Some l) g ≡ stand_source (is_needed ssa v) new g = cond-false (nat_eq v l) (repeat_other ssa v x g) _ other in
          let inside = unit-inside ssa v x h.unit in
          subst (Stepped ssa places start v (repeat_by ssa v x (Some l) g)) same
          (subst (λ q. Stepped ssa places start v q (reached given.memory given.numbers n)) (sym made)
          (step-source ssa places start v g r given new n (is_needed ssa v) ready known.long stay
          (λ need.
          let before : l < v = subst (IsEarlier v) h.first earlier.0 in
          let has = ready.standing l before (source-stays ssa v l inside source need) in
          ap (λ k. Some (reached r.memory r.numbers (resize_result h.op (bits_of h.width) (bits_of h.from) k))) (has.1 ∙ sym (ap (number_of (slice_index given.numbers)) h.first)))))

  step-operation : (op : Operator) (w : Width) (k : ℕ) (xs : Operands) → unit_at ssa v ≡ Some (Operation op w k xs) → source_of ssa v ≡ None → TakesEarlier v (Operation op w k xs) → unit_run places (Operation op w k xs) given ≡ Some t
      → Stepped ssa places start v (repeat_by ssa v (Operation op w k xs) None g) t
  step-operation op w k xs is none takes run =
      let u = Operation op w k xs in
      let n = result_of (slice_index given.numbers) op (bits_of w) k xs in
      let same : reached given.memory given.numbers n ≡ t = some-same (reached given.memory given.numbers n) t run in
      let a = take_operand ssa v xs.first g in
      let ha = took-operand ssa places start v u given is known g r xs.first takes.0 ready
      (taken ssa v u xs.first is none (λ y e. or_left (is_value y xs.first) _ e)) in
      let ra = ready-after ssa places start v g r given a (number_of (slice_index given.numbers) xs.first) ready ha in
      let b = take_operand ssa v xs.second a.after in
      let hb = took-operand ssa places start v u given is known a.after ha.after xs.second takes.1 ra
      (taken ssa v u xs.second is none (λ y e. or_right (is_value y xs.first) _ (or_left (is_value y xs.second) _ e))) in
      let rb = ready-after ssa places start v a.after ha.after given b (number_of (slice_index given.numbers) xs.second) ra hb in
      let c = take_operand ssa v xs.third b.after in
      let hc = took-operand ssa places start v u given is known b.after hb.after xs.third takes.2 rb
      (taken ssa v u xs.third is none (λ y e. or_right (is_value y xs.first) _ (or_right (is_value y xs.second) _ e))) in
      let rc = ready-after ssa places start v b.after hb.after given c (number_of (slice_index given.numbers) xs.third) rb hc in
      let second = carried b.after hb.after c (number_of (slice_index given.numbers) xs.third) hc b.value (number_of (slice_index given.numbers) xs.second) hb.value in
      let first = carried b.after hb.after c (number_of (slice_index given.numbers) xs.third) hc a.value (number_of (slice_index given.numbers) xs.first)
      (carried a.after ha.after b (number_of (slice_index given.numbers) xs.second) hb a.value (number_of (slice_index given.numbers) xs.first) ha.value) in
      let new = Operation op w k (record { first = a.value; second = b.value; third = c.value }) in
      let runs : unit_run places new hc.after ≡ Some (reached hc.after.memory hc.after.numbers n) =
      λ i. Some (reached hc.after.memory hc.after.numbers (operation_result op (bits_of w) k (first.1 i) (second.1 i) (hc.value.1 i))) in
      let put = put-ran places start c.after hc.after new hc.after.memory n hc.ran runs in
      subst (Stepped ssa places start v (repeat_by ssa v u None g)) same
      (record {
        after = reached hc.after.memory hc.after.numbers n;
        ready =
            ready-more ssa places start v c.after (stand_as (next_number c.after) (put_unit new c.after)) hc.after (reached hc.after.memory hc.after.numbers n) given (next_number c.after) given.memory (n ∷ []) n rc known.long
            (record { run = put.run; long = put.long }) rc.memory refl refl (λ q. has-next places start c.after hc.after n hc.ran);
      })
    where
      carried : (g : Repeating) (r : Reached) (x : Taken) (m : ℕ) → (h : Took places start g r x m) → (y : Wanted) (j : ℕ) → Has r.numbers y j → Has h.after.numbers y j
      carried g r x m h y j has = subst (λ l. Has l y j) (sym h.numbers) (has-more r.numbers h.more y j has)

  step-store : (a : Address) (w : Width) (x : Wanted) → unit_at ssa v ≡ Some (Store a w x) → source_of ssa v ≡ None → TakesEarlier v (Store a w x) → unit_run places (Store a w x) given ≡ Some t
      → Stepped ssa places start v (repeat_by ssa v (Store a w x) None g) t
  step-store a w x is none takes run =
      let u = Store a w x in
      let wrote = bytes (size_of w) (number_of (slice_index given.numbers) x) in
      let b = bound (stored given.memory (place_of places a) wrote) (λ memory. Some (reached memory given.numbers 0)) t run in
      let same : reached b.0 given.numbers 0 ≡ t = some-same (reached b.0 given.numbers 0) t b.2 in
      let c = take_operand ssa v x g in
      let hc = took-operand ssa places start v u given is known g r x takes ready (taken ssa v u x is none (λ y e. e)) in
      let rc = ready-after ssa places start v g r given c (number_of (slice_index given.numbers) x) ready hc in
      let new = Store a w c.value in
      let runs : unit_run places new hc.after ≡ Some (reached b.0 hc.after.numbers 0) =
      (λ i. stored (rc.memory i) (place_of places a) (bytes (size_of w) (hc.value.1 i)) >>= λ memory. Some (reached memory hc.after.numbers 0)) ∙ ap (λ o. o >>= λ memory. Some (reached memory hc.after.numbers 0)) b.1 in
      let put = put-ran places start c.after hc.after new b.0 0 hc.ran runs in
      subst (Stepped ssa places start v (repeat_by ssa v u None g)) same
      (record {
        after = reached b.0 hc.after.numbers 0;
        ready =
            ready-more ssa places start v c.after (stand_as Nothing (put_unit new c.after)) hc.after (reached b.0 hc.after.numbers 0) given Nothing b.0 (0 ∷ []) 0 rc known.long
            (record { run = put.run; long = put.long }) refl refl refl (λ q. (tt, refl));
      })

  step : (u : SsaUnit) → unit_at ssa v ≡ Some u → TakesEarlier v u → unit_run places u given ≡ Some t → Stepped ssa places start v (repeat_by ssa v u (source_of ssa v) g) t
  step (Load a w) is takes run = step-load a w is run
  step (Store a w x) is takes run =
      let none : source_of ssa v ≡ None = ap (λ o. o >>= source_by ssa v) is in
      subst (λ o. Stepped ssa places start v (repeat_by ssa v (Store a w x) o g) t) (sym none) (step-store a w x is none takes run)
  step (Operation op w k xs) is takes run = by (source_of ssa v) refl
    where
      u : SsaUnit
      u = Operation op w k xs

      by : (o : Option ℕ) → source_of ssa v ≡ o → Stepped ssa places start v (repeat_by ssa v u o g) t
      by None e = step-operation op w k xs is e takes run
      by (Some l) e = elim (cases_Bool (nat_eq v l)) [
        | inr c ↦ step-extension u l is e c takes run
        | inl c ↦
            let h = (source-at ssa v l e).load in
            let no : Some (Load h.address h.width) ≡ Some (Operation op w k xs) = sym h.unit ∙ ap (unit_at ssa) (sym (eqb-true v l c)) ∙ is in
            absurd (cc)
      ]

-- ---- all units

-- the units from a number on
abbrev pub AreFrom : Ssa → ℕ → List SsaUnit → Type 0
AreFrom ssa v us = (j : ℕ) → slice_get us j ≡ unit_at ssa (v + j)

pub from-next : (ssa : Ssa) (v : ℕ) (u : SsaUnit) (us : List SsaUnit) → AreFrom ssa v (u ∷ us) → AreFrom ssa (v + 1) us
from-next ssa v u us h j = h (suc j) ∙ ap (unit_at ssa) (let e : v + suc j ≡ v + 1 + j = omega arith in e)

pub from-here : (ssa : Ssa) (v : ℕ) (u : SsaUnit) (us : List SsaUnit) → AreFrom ssa v (u ∷ us) → unit_at ssa v ≡ Some u
from-here ssa v u us h = ap (unit_at ssa) (let e : v ≡ v + 0 = omega arith in e) ∙ sym (h 0)

pub all-from : (ssa : Ssa) → AreFrom ssa (arguments ssa) ssa.units
all-from ssa j =
    sym (cond-false _ _ _ (le-ltb (arguments ssa + j) (arguments ssa) (omega arith))
    ∙ ap (slice_get ssa.units) (let e : arguments ssa + j - arguments ssa ≡ j = omega arith in e))

record RunTo (places : List ℕ) (start : Reached) (us : List SsaUnit) (memory : List ℕ) : Type 0 where
  after : Reached
  run : run_units places us start ≡ Some after
  memory_is : after.memory ≡ memory

follow : (ssa : Ssa) (places : List ℕ) (start : Reached) (us : List SsaUnit) (v : ℕ) (g : Repeating) (r given t : Reached) → Respects ssa places → AreFrom ssa v us → TakeEarlier v us → Ready ssa places start v g r given
    → Known ssa places v given.memory given.numbers → run_units places us given ≡ Some t → RunTo places start (repeat_units ssa v us g).units t.memory
unfolding run_units
follow ssa places start [] v g r given t respects from takes ready known run =
    let same : given ≡ t = cc in
    record { after = r; run = ready.ran.run; memory_is = ready.memory ∙ ap (λ (q : Reached). q.memory) same }
follow ssa places start (u ∷ us) v g r given t respects from takes ready known run =
    let b = bound (unit_run places u given) (run_units places us) t run in
    let is = from-here ssa v u us from in
    let one = step ssa places start v g r given b.0 ready known u is takes.0 b.1 in
    follow ssa places start us (v + 1) (repeat_by ssa v u (source_of ssa v) g) one.after b.0 t respects (from-next ssa v u us from) takes.1 one.ready (known-step ssa places v u given b.0 respects is takes.0 known b.1) b.2

-- ---- what stands before the first unit

pub numbers-long : (first n : ℕ) → length (numbers_from first n) ≡ n
numbers-long first zero = refl
numbers-long first (suc n) = ap suc (numbers-long (first + 1) n)

pub number-at : (first n x : ℕ) → x < n → slice_index_or (map Value (numbers_from first n)) x Nothing ≡ Value (first + x)
number-at first zero x l = absurd (omega arith)
number-at first (suc n) zero l = ap Value (let e : first ≡ first + 0 = omega arith in e)
number-at first (suc n) (suc x) l = number-at (first + 1) n x (omega arith) ∙ ap Value (let e : first + 1 + x ≡ first + suc x = omega arith in e)

abbrev pub begun : Ssa → Repeating
begun ssa = record { first = arguments ssa; units = []; stands = map Value (numbers_from 0 (arguments ssa)) }

ready-begun : (ssa : Ssa) (places memory args : List ℕ) → length args ≡ arguments ssa → Ready ssa places (start_of memory args) (arguments ssa) (begun ssa) (start_of memory args) (start_of memory args)
unfolding run_units
ready-begun ssa places memory args long = record {
  ran = record { run = refl; long = (let e : length args ≡ arguments ssa + 0 = omega arith in e) };
  memory = refl;
  long = length-map (numbers_from 0 (arguments ssa)) Value ∙ numbers-long 0 (arguments ssa);
  standing = λ x low s. subst (λ y. Has args y (slice_index args x)) (sym (number-at 0 (arguments ssa) x low)) ((let e : 0 + x < length args = omega arith in e), ap (slice_index args) (let e : 0 + x ≡ x = omega arith in e));
}

known-begun : (ssa : Ssa) (places memory args : List ℕ) → length args ≡ arguments ssa → Known ssa places (arguments ssa) memory args
known-begun ssa places memory args long = record {
  long = long;
  loads = λ l low h apart. absurd (let inside = unit-inside ssa l (Load h.address h.width) h.unit in let a = inside.low in omega arith);
  extensions = λ e l low h. absurd (let inside = unit-inside ssa e (Operation (Resize h.op h.from) h.width h.amount h.operands) h.unit in let a = inside.low in omega arith);
}

-- a run of the given units that does not trap
pub repeated-run : (ssa : Ssa) (places memory args : List ℕ) (t : Reached) → Respects ssa places → TakeEarlier (arguments ssa) ssa.units → length args ≡ arguments ssa → run_units places ssa.units (start_of memory args) ≡ Some t
    → memory_behind places (repeated_units ssa) memory args ≡ Some t.memory
repeated-run ssa places memory args t respects takes long run =
    let to = follow ssa places (start_of memory args) ssa.units (arguments ssa) (begun ssa) (start_of memory args) (start_of memory args) t respects (all-from ssa) takes (ready-begun ssa places memory args long) (known-begun ssa places memory args long) run in
    ap (λ o. o >>= λ r. Some r.memory) to.run ∙ ap Some to.memory_is
