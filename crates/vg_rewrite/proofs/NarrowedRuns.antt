-- A run of the narrowed units beside one of the given units.
use Rattle.std.proofs.Common.{◌≡◌, ℕ, ◌+◌, ◌-◌, ◌<◌, ◌≤◌, ◌⊎◌, true, false, List, [], ◌∷◌, ◌++◌, length, take, drop, Option, Some, None, refl, sym, ap, ◌∙◌, subst, arith, append_assoc, append-nil, inl, inr}
use Rattle.std.specs.Prelude.{slice_index, slice_index_or}
use Rattle.std.proofs.lemmas.Bool.{cases_Bool, cases_lt, cond-false, cond-true, true≢false}
use Rattle.std.proofs.lemmas.List.{get_or_append_left, get_or_push, length-append, length_push, length-set, take-append-drop}
use Rattle.vg_base.specs.Address.{place_of}
use Rattle.vg_base.specs.Bits.{bytes, number}
use Rattle.vg_base.specs.Memory.{loaded, stored}
use Rattle.vg_base.specs.Trap.{◌>>=◌}
use Rattle.vg_base.specs.declared.address.Address.{Address}
use Rattle.vg_base.specs.declared.width.Width.{Width}
use Rattle.vg_base.specs.declared.width.Width.TheVariants.{W8, W16, W32, W64}
use Rattle.vg_base.specs.Width.{bits_of, size_of}
use Rattle.vg_bits.specs.BitList.{IsBytes}
use Rattle.vg_rewrite.specs.declared.asked.Asked.{Asked}
use Rattle.vg_rewrite.specs.declared.form.Form.{Form}
use Rattle.vg_rewrite.specs.Form.{narrow_form, operation_form, own_form, value_form}
use Rattle.vg_rewrite.specs.Laws.{form_number, number_by}
use Rattle.vg_rewrite.specs.Narrowed.{and_made, asked_at, asked_of, have, made_at, make_form, make_operation, make_unit, make_value, Narrowing, next_value, no_value, nowhere, put, record_bit, stand}
use Rattle.vg_rewrite.proofs.Closing.{Allowed, asked-closed, Asks, Before, Closed, FormedIn, Less, Marks, operation-allowed, value-allowed}
use Rattle.vg_rewrite.proofs.Demands.{Allows, AllowsBit, FormAt, form-both, IsBitIn, IsIn, parts-at}
use Rattle.vg_rewrite.proofs.FormsHold.{operand-stands, value-stands}
use Rattle.vg_rewrite.proofs.FormsMade.{form-made, FormedAs, has-next, have-has, put-ran, recorded-bit, State}
use Rattle.vg_rewrite.proofs.Known.{some-same}
use Rattle.vg_rewrite.proofs.Reaching.{bit-forms-hold, forms-hold, reaches, unit-is, unit-span-at, unit-takes, unit-width}
use Rattle.vg_rewrite.proofs.Rereading.{Has, has-more}
use Rattle.vg_rewrite.proofs.ValuesMade.{Behind, Below, itself-parts, operation-owns, some-own, state-added, state-fewer, value-made, value-owns}
use Rattle.vg_rewrite.proofs.Words.{form-over, operation-over, OperandsOver, PartsOver}
use Rattle.vg_scalar.specs.declared.comparison.Comparison.{Comparison}
use Rattle.vg_shapes.specs.declared.ssa.Ssa.{Ssa}
use Rattle.vg_shapes.specs.declared.ssa_unit.Operands.{Operands}
use Rattle.vg_shapes.specs.declared.ssa_unit.Operator.{Operator}
use Rattle.vg_shapes.specs.declared.ssa_unit.Operator.TheVariants.{Two, Shift, Resize, Compare, Select}
use Rattle.vg_shapes.specs.declared.ssa_unit.SsaUnit.{SsaUnit}
use Rattle.vg_shapes.specs.declared.ssa_unit.SsaUnit.TheVariants.{Load, Store, Operation}
use Rattle.vg_shapes.specs.declared.wanted.Wanted.{Wanted}
use Rattle.vg_shapes.specs.declared.wanted.Wanted.TheVariants.{Value, Constant, Nothing}
use Rattle.vg_shapes.specs.RunUnits.{number_of, Reached, reached, result_of, run_units, start_of, unit_run}
use Rattle.vg_shapes.specs.Sound.{AreArguments, IsBit, IsEarlier, IsNumber, IsOperation, IsSound, IsUnit, TakeEarlier, TakesEarlier, unit_bits, value_bits}
use Rattle.vg_shapes.specs.Units.{arguments, integers, unit_at}
use Rattle.vg_spans.specs.Laws.{span_at}
use Rattle.vg_spans.specs.Span.{signed_span}
use Rattle.vg_spans.specs.Spans.{spans_of}
use Rattle.vg_spans.proofs.Given.{Given, run-given}
use Rattle.vg_spans.proofs.Holding.{Holds}
use Rattle.vg_spans.proofs.Runs.{arguments-long, front-hold}
use Rattle.vg_ssa.specs.OfUnits.{widths_of}
use Rattle.vg_ssa.proofs.Meaning.{bound, run-more}
use Rattle.vg_ssa.proofs.Soundness.{widths-many}

-- ---- values that have a width, and bits

abbrev pub IsWide : Ssa → ℕ → Type 0
IsWide ssa y = (own : Width) × (value_bits ssa y ≡ Some (bits_of own))

abbrev pub IsFlag : Ssa → ℕ → Type 0
IsFlag ssa y = value_bits ssa y ≡ Some 1

-- the same of an operand
abbrev WideOperand : Ssa → Wanted → Type 0
WideOperand ssa (Value y) = IsWide ssa y
WideOperand ssa (Constant w n) = Unit {0}
WideOperand ssa Nothing = Unit {0}

abbrev FlagOperand : Ssa → Wanted → Type 0
FlagOperand ssa (Value y) = IsFlag ssa y
FlagOperand ssa (Constant w n) = Unit {0}
FlagOperand ssa Nothing = Unit {0}

number-wide : (ssa : Ssa) (w : Width) (x : Wanted) → IsNumber ssa w x → WideOperand ssa x
number-wide ssa w (Value y) h = (w, h)
number-wide ssa w (Constant m n) h = tt
number-wide ssa w Nothing h = tt

bit-flag : (ssa : Ssa) (x : Wanted) → IsBit ssa x → FlagOperand ssa x
bit-flag ssa (Value y) h = h
bit-flag ssa (Constant m n) h = tt
bit-flag ssa Nothing h = tt

nothing-wide : (ssa : Ssa) (x : Wanted) → x ≡ Nothing → WideOperand ssa x
nothing-wide ssa x e = subst (WideOperand ssa) (sym e) tt

operands-wide : (ssa : Ssa) (op : Operator) (w : Width) (k : ℕ) (xs : Operands) → IsOperation ssa op w k xs → OperandsOver (WideOperand ssa) (FlagOperand ssa) op xs
operands-wide ssa (Two op) w k xs h = (number-wide ssa w xs.first h.1, number-wide ssa w xs.second h.2, nothing-wide ssa xs.third h.3)
operands-wide ssa (Shift op) w k xs h = (number-wide ssa w xs.first h.1, nothing-wide ssa xs.second h.2, nothing-wide ssa xs.third h.3)
operands-wide ssa (Resize op v) w k xs h = (number-wide ssa v xs.first h.2, nothing-wide ssa xs.second h.3, nothing-wide ssa xs.third h.4)
operands-wide ssa (Compare op) w k xs h = (number-wide ssa w xs.first h.1, number-wide ssa w xs.second h.2, nothing-wide ssa xs.third h.3)
operands-wide ssa Select w k xs h = (bit-flag ssa xs.first h.1, number-wide ssa w xs.second h.2, number-wide ssa w xs.third h.3)

pub never-flag : (w : Width) → Some (bits_of w) ≡ Some 1 → ⊥
never-flag W8 e = absurd (let n : 8 ≡ 1 = some-same 8 1 e in omega arith)
never-flag W16 e = absurd (let n : 16 ≡ 1 = some-same 16 1 e in omega arith)
never-flag W32 e = absurd (let n : 32 ≡ 1 = some-same 32 1 e in omega arith)
never-flag W64 e = absurd (let n : 64 ≡ 1 = some-same 64 1 e in omega arith)

-- ---- forms that have to stand before a value

module _ (ssa : Ssa) where
  asked : List Asked
  asked = asked_of ssa

  -- those of earlier values that are asked for
  abbrev pub Forms : ℕ → ℕ → Width → Type 0
  Forms v y t = (y < v) × Asks (asked_of ssa) y t × IsWide ssa y

  abbrev pub Flags : ℕ → ℕ → Type 0
  Flags v y = (y < v) × ((asked_at (asked_of ssa) y).bit ≡ true) × IsFlag ssa y

  -- what is allowed, asked for and has a width
  allowed-form : (v : ℕ) (at : Width → Type 0) (t : Width) (x : Wanted) → Allows (Marks v at) t x → IsIn (asked_of ssa) t x → WideOperand ssa x
      → Allows (λ y u. Forms v y u ⊎ ((y ≡ v) × Asks (asked_of ssa) v u × at u)) t x
  allowed-form v at t (Value y) (inl less) i w = inl (less, i, w)
  allowed-form v at t (Value y) (inr same) i w = inr (same.0, subst (λ k. Asks (asked_of ssa) k t) same.0 i, same.1)
  allowed-form v at t (Constant m n) a i w = tt
  allowed-form v at t Nothing a i w = tt

  allowed-flag : (v : ℕ) (x : Wanted) → AllowsBit (Before v) x → IsBitIn (asked_of ssa) x → FlagOperand ssa x → AllowsBit (Flags v) x
  allowed-flag v (Value y) less i w = (less, i, w)
  allowed-flag v (Constant m n) a i w = tt
  allowed-flag v Nothing a i w = tt

  all-parts : (v : ℕ) (at : Width → Type 0) (w : Width) (f : Form) → Allowed v at w f → FormedIn (asked_of ssa) w f → PartsOver (WideOperand ssa) (FlagOperand ssa) f
      → FormAt (Allows (λ y u. Forms v y u ⊎ ((y ≡ v) × Asks (asked_of ssa) v u × at u))) (AllowsBit (Flags v)) w f
  all-parts v at w f a i t =
      let both = form-both (Allows (Marks v at)) (IsIn (asked_of ssa)) (λ u x. Allows (Marks v at) u x × IsIn (asked_of ssa) u x) (AllowsBit (Before v)) (IsBitIn (asked_of ssa)) (λ x. AllowsBit (Before v) x × IsBitIn (asked_of ssa) x)
      (λ u x p q. (p, q)) (λ x p q. (p, q)) w f a i in
      form-both (λ u x. Allows (Marks v at) u x × IsIn (asked_of ssa) u x) (λ u x. WideOperand ssa x) (Allows (λ y u. Forms v y u ⊎ ((y ≡ v) × Asks (asked_of ssa) v u × at u)))
      (λ x. AllowsBit (Before v) x × IsBitIn (asked_of ssa) x) (FlagOperand ssa) (AllowsBit (Flags v)) (λ u x p q. allowed-form v at u x p.0 p.1 q) (λ x p q. allowed-flag v x p.0 p.1 q) w f both (parts-at (WideOperand ssa) (FlagOperand ssa) w f t)

  -- of an operation that gives an integer
  pub value-parts : (v : ℕ) (op : Operator) (own : Width) (k : ℕ) (xs : Operands) → TakesEarlier v (Operation op own k xs) → IsOperation ssa op own k xs → IsWide ssa v
      → ((w : Width) → Asks (asked_of ssa) v w → FormedIn (asked_of ssa) w (value_form (spans_of ssa) v (Some (Operation op own k xs)) own w))
      → (w : Width) → Asks (asked_of ssa) v w → FormAt (Allows (Below (asked_of ssa) v (Forms v) (bits_of w))) (AllowsBit (Flags v)) w (value_form (spans_of ssa) v (Some (Operation op own k xs)) own w)
  value-parts v op own k xs takes is wide closed w asks =
      all-parts v (Less w) w (value_form (spans_of ssa) v (Some (Operation op own k xs)) own w) (value-allowed (spans_of ssa) v op own k xs w takes) (closed w asks)
      (form-over (WideOperand ssa) (FlagOperand ssa) (spans_of ssa) v (Some (Operation op own k xs)) own w wide tt (operands-wide ssa op own k xs is))

  -- of a comparison
  pub comparison-parts : (v : ℕ) (op : Comparison) (own : Width) (k : ℕ) (xs : Operands) → TakesEarlier v (Operation (Compare op) own k xs) → IsOperation ssa (Compare op) own k xs
      → FormedIn (asked_of ssa) W8 (operation_form (spans_of ssa) (Compare op) own k xs W8) → FormAt (Allows (Forms v)) (AllowsBit (Flags v)) W8 (operation_form (spans_of ssa) (Compare op) own k xs W8)
  comparison-parts v op own k xs takes is formed =
      let f = operation_form (spans_of ssa) (Compare op) own k xs W8 in
      let all = all-parts v (λ u. ⊥) W8 f (operation-allowed v (λ u. ⊥) (spans_of ssa) (Compare op) own k xs W8 takes) formed
      (operation-over (WideOperand ssa) (FlagOperand ssa) (spans_of ssa) (Compare op) own k xs W8 (operands-wide ssa (Compare op) own k xs is)) in
      let N : ℕ → Width → Type 0 = λ y u. Forms v y u ⊎ ((y ≡ v) × Asks (asked_of ssa) v u × ⊥) in
      form-both (Allows N) (Allows N) (Allows (Forms v)) (AllowsBit (Flags v)) (AllowsBit (Flags v)) (AllowsBit (Flags v)) (λ u x p q. one u x p) (λ x p q. p) W8 f all all
    where
      one : (u : Width) (x : Wanted) → Allows (λ y t. Forms v y t ⊎ ((y ≡ v) × Asks (asked_of ssa) v t × ⊥)) u x → Allows (Forms v) u x
      one u (Value y) (inl h) = h
      one u (Value y) (inr h) = absurd (h.2)
      one u (Constant m n) h = tt
      one u Nothing h = tt

-- ---- one unit more

pub all-taken : (us : List SsaUnit) → take (length us) us ≡ us
all-taken [] = refl
all-taken (u ∷ us) = ap (λ l. u ∷ l) (all-taken us)

pub made-here : (w : Width) (x : Wanted) → made_at (and_made w x nowhere) w ≡ x
made-here W8 x = refl
made-here W16 x = refl
made-here W32 x = refl
made-here W64 x = refl

bits-few : (w : Width) → bits_of w < 128
bits-few W8 = omega arith
bits-few W16 = omega arith
bits-few W32 = omega arith
bits-few W64 = omega arith

-- a state of the narrowed units beside one of the given units
pub record Beside (ssa : Ssa) (places : List ℕ) (start : Reached) (all : List ℕ) (v : ℕ) (g : Narrowing) (r c : Reached) : Type 0 where
  pub state : State ssa places start all (Forms ssa v) (Flags ssa v) g r
  pub memory : r.memory ≡ c.memory
  pub long : length g.made ≡ v

pub record Stepped (ssa : Ssa) (places : List ℕ) (start : Reached) (all : List ℕ) (v : ℕ) (g : Narrowing) (r c : Reached) : Type 0 where
  pub after : Reached
  pub more : List ℕ
  pub beside : Beside ssa places start all v g after c
  pub numbers : after.numbers ≡ r.numbers ++ more

-- the value of a number stands at its own width
abbrev pub WithOwn : Ssa → ℕ → Width → ℕ → Width → Type 0
WithOwn ssa v own y t = Forms ssa v y t ⊎ ((y ≡ v) × (t ≡ own))

pub flags-before : (ssa : Ssa) (v : ℕ) (own : Width) → value_bits ssa v ≡ Some (bits_of own) → (y : ℕ) → Flags ssa (v + 1) y → Flags ssa v y
flags-before ssa v own e y h = by (cases_lt y v) h
  where
    by : (y < v) ⊎ (v ≤ y) → Flags ssa (v + 1) y → Flags ssa v y
    by (inl less) h = (less, h.1, h.2)
    by (inr more) h =
        let low = h.0 in
        let same : v ≡ y = omega arith in
        absurd (never-flag own (sym e ∙ ap (value_bits ssa) same ∙ h.2))

pub forms-before : (ssa : Ssa) (v : ℕ) (D : ℕ → Width → Type 0) → ((y : ℕ) (t : Width) → Forms ssa v y t → D y t) → (y : ℕ) (t : Width) → Forms ssa (v + 1) y t → Below (asked_of ssa) v D 128 y t
forms-before ssa v D f y t h = by (cases_lt y v) h
  where
    by : (y < v) ⊎ (v ≤ y) → Forms ssa (v + 1) y t → Below (asked_of ssa) v D 128 y t
    by (inl less) h = inl (f y t (less, h.1, h.2))
    by (inr more) h =
        let low = h.0 in
        let same : y ≡ v = omega arith in
        inr (same, subst (λ k. Asks (asked_of ssa) k t) same h.1, bits-few t)

-- a value without forms: a store or a comparison
pub none-before : (ssa : Ssa) (v : ℕ) → (IsWide ssa v → ⊥) → (y : ℕ) (t : Width) → Forms ssa (v + 1) y t → Forms ssa v y t
none-before ssa v never y t h = by (cases_lt y v) h
  where
    by : (y < v) ⊎ (v ≤ y) → Forms ssa (v + 1) y t → Forms ssa v y t
    by (inl less) h = (less, h.1, h.2)
    by (inr more) h = absurd (let low = h.0 in let same : y ≡ v = omega arith in never (subst (IsWide ssa) same h.2))

-- all forms of one value are made
pub stepped : (ssa : Ssa) (places : List ℕ) (start : Reached) (all : List ℕ) (v : ℕ) (own : Width) (D : ℕ → Width → Type 0) (r q c : Reached) (m : List ℕ) (g : Narrowing) → value_bits ssa v ≡ Some (bits_of own) → ((y : ℕ) (t : Width) → Forms ssa v y t → D y t)
    → Behind ssa places start all (Below (asked_of ssa) v D 128) (Flags ssa v) (v + 1) q g → q.memory ≡ c.memory → q.numbers ≡ r.numbers ++ m → Stepped ssa places start all (v + 1) g r c
stepped ssa places start all v own D r q c m g e f h memory numbers = record {
  after = h.after;
  more = m ++ h.more;
  beside = record {
    state = state-fewer ssa places start all (Below (asked_of ssa) v D 128) (Forms ssa (v + 1)) (Flags ssa v) (Flags ssa (v + 1)) g h.after h.state (forms-before ssa v D f) (flags-before ssa v own e);
    memory = h.memory ∙ memory;
    long = h.long_is;
  };
  numbers = h.numbers ∙ ap (λ l. l ++ h.more) numbers ∙ append_assoc r.numbers m h.more;
}

module _ (ssa : Ssa) (sound : IsSound ssa) (places memory args : List ℕ) (are_bytes : IsBytes memory) (fit : AreArguments (integers ssa) args) (t : Reached) (run : run_units places ssa.units (start_of memory args) ≡ Some t) where
  taken : run_units places (take (length ssa.units) ssa.units) (start_of memory args) ≡ Some t
  taken = ap (λ us. run_units places us (start_of memory args)) (all-taken ssa.units) ∙ run

  pub given : Given args (take (length ssa.units) ssa.units) t.numbers
  given = run-given places (take (length ssa.units) ssa.units) (start_of memory args) t are_bytes taken

  holds : (x m : ℕ) → x < length t.numbers → value_bits ssa x ≡ Some m → Holds m (span_at ssa x) (slice_index t.numbers x)
  holds =
      let g = given in
      let P : List ℕ → Type 0 = λ ns. (x m : ℕ) → x < length ns → value_bits ssa x ≡ Some m → Holds m (span_at ssa x) (slice_index ns x) in
      subst P (sym g.split) (λ x m l e. front-hold ssa (take (length ssa.units) ssa.units) (drop (length ssa.units) ssa.units) args g.more sound (take-append-drop (length ssa.units) ssa.units) fit g.are x m l e)

  pub all-long : length t.numbers ≡ arguments ssa + length ssa.units
  all-long =
      let m = run-more places ssa.units (start_of memory args) t are_bytes run in
      let a = length-append args m.more in
      let b = m.long in
      let c = arguments-long (integers ssa) args fit in
      ap length m.numbers ∙ (let e : length (args ++ m.more) ≡ arguments ssa + length ssa.units = omega arith in e)

  -- the number at a value's own width
  own-number : (v : ℕ) (own : Width) → v < length t.numbers → value_bits ssa v ≡ Some (bits_of own) → form_number ssa t.numbers (bits_of own) (Value v) ≡ slice_index t.numbers v
  own-number v own l e = (value-stands ssa t.numbers holds v (bits_of own) l e).residue

  operand-number : (v : ℕ) (w : Width) (x : Wanted) → v ≤ length t.numbers → IsEarlier v x → IsNumber ssa w x → form_number ssa t.numbers (bits_of w) x ≡ number_of (slice_index t.numbers) x
  operand-number v w x l b h = (operand-stands ssa t.numbers holds v w x l b h).residue

  value-number : (v : ℕ) (own w : Width) (u : Option SsaUnit) → v < length t.numbers → value_bits ssa v ≡ Some (bits_of own) → unit_at ssa v ≡ u
      → number_by ssa t.numbers v w (value_form (spans_of ssa) v u own w) ≡ form_number ssa t.numbers (bits_of w) (Value v)
  value-number v own w u l e is =
      let P : Option SsaUnit → Type 0 = λ o. number_by ssa t.numbers v w (value_form (spans_of ssa) v o own w) ≡ form_number ssa t.numbers (bits_of w) (Value v) in
      subst P is (forms-hold ssa places memory args (length ssa.units) t sound are_bytes fit taken v own w l e)

  -- of a unit
  bits-of-unit : (v : ℕ) (u : SsaUnit) → unit_at ssa v ≡ Some u → value_bits ssa v ≡ unit_bits u
  bits-of-unit v u is = let g = given in unit-width ssa sound args fit (length ssa.units) g.more g.are v u (reaches ssa v u is) is

  unit-rule : (v : ℕ) (u : SsaUnit) → unit_at ssa v ≡ Some u → IsUnit ssa u
  unit-rule v u is = let g = given in unit-is ssa sound args fit (length ssa.units) g.more g.are v u (reaches ssa v u is)

  unit-earlier : (v : ℕ) (u : SsaUnit) → unit_at ssa v ≡ Some u → TakesEarlier v u
  unit-earlier v u is = let g = given in unit-takes ssa sound args fit (length ssa.units) g.more g.are v u (reaches ssa v u is)

  load-span : (v : ℕ) (a : Address) (w : Width) → unit_at ssa v ≡ Some (Load a w) → span_at ssa v ≡ signed_span (bits_of w)
  load-span v a w is = let g = given in unit-span-at ssa sound args fit (length ssa.units) g.more g.are v (Load a w) (reaches ssa v (Load a w) is)

  unit-closed : (v : ℕ) (u : SsaUnit) → unit_at ssa v ≡ Some u → Closed (spans_of ssa) (asked_of ssa) v u
  unit-closed v u is =
      let r = reaches ssa v u is in
      let same : length (widths_of ssa.params) ≡ arguments ssa = widths-many ssa.params in
      let at : length (widths_of ssa.params) + (v - arguments ssa) ≡ v = (let n = r.number in omega arith) in
      subst (λ n. Closed (spans_of ssa) (asked_of ssa) n u) at
      (asked-closed (spans_of ssa) (widths_of ssa.params) ssa.units (subst (λ n. TakeEarlier n ssa.units) (sym same) sound.earlier) (v - arguments ssa) u r.at)

  -- ---- a value that stands itself

  pub step-own : (v : ℕ) (own : Width) (u : Option SsaUnit) (value : Wanted) (g : Narrowing) (r q c d : Reached) (m : List ℕ) → v < length t.numbers → unit_at ssa v ≡ u → ((w : Width) → narrow_form (spans_of ssa) v u own w ≡ own_form v own w)
      → value_bits ssa v ≡ Some (bits_of own) → span_at ssa v ≡ signed_span (bits_of own) → length g.made ≡ v → State ssa places (start_of memory args) t.numbers (Forms ssa v) (Flags ssa v) g q → Has q.numbers value (slice_index t.numbers v)
      → q.memory ≡ d.memory → q.numbers ≡ r.numbers ++ m → Stepped ssa places (start_of memory args) t.numbers (v + 1) (make_value (spans_of ssa) (asked_of ssa) v u value own (stand own value g)) r d
  step-own v own u value g r q c d m inside is narrow e span long state has same_memory numbers =
      let start = start_of memory args in
      let D = WithOwn ssa v own in
      let s = and_made own value nowhere in
      let added = state-added ssa places start t.numbers (Forms ssa v) D (Flags ssa v) g q s state (λ y w h. (let l = h.0 in omega arith)) (λ y h. (let l = h.0 in omega arith)) split in
      let made = value-made ssa places start t.numbers (asked_of ssa) (spans_of ssa) v u value own D (Flags ssa v) (v + 1) q (omega arith) (λ w. value-number v own w u inside e is)
      (λ w asks. itself-parts (Below (asked_of ssa) v D (bits_of w)) (Flags ssa v) (spans_of ssa) v u own w span (narrow w) (inl (inr (refl, refl))))
      (λ w. some-own q.numbers value (slice_index t.numbers v) (value_form (spans_of ssa) v u own w) has)
      (stand own value g) added (length_push g.made s ∙ ap (λ k. k + 1) long) in
      stepped ssa places start t.numbers v own D r q d m (make_value (spans_of ssa) (asked_of ssa) v u value own (stand own value g)) e (λ y w h. inl h) made same_memory numbers
    where
      split : (y : ℕ) (w : Width) → WithOwn ssa v own y w → Forms ssa v y w ⊎ ((y ≡ length g.made) × Has q.numbers (made_at (and_made own value nowhere) w) (form_number ssa t.numbers (bits_of w) (Value y)))
      split y w (inl h) = inl h
      split y w (inr h) =
          let stands : Has q.numbers (made_at (and_made own value nowhere) own) (form_number ssa t.numbers (bits_of own) (Value v)) =
          subst (λ x. Has q.numbers x (form_number ssa t.numbers (bits_of own) (Value v))) (sym (made-here own value)) (subst (Has q.numbers value) (sym (own-number v own inside e)) has) in
          let P : Width → Type 0 = λ u. Has q.numbers (made_at (and_made own value nowhere) u) (form_number ssa t.numbers (bits_of u) (Value v)) in
          let Q : ℕ → Type 0 = λ k. Has q.numbers (made_at (and_made own value nowhere) w) (form_number ssa t.numbers (bits_of w) (Value k)) in
          inr (h.0 ∙ sym long, subst Q (sym h.0) (subst P (sym h.1) stands))

  -- ---- units

  number-here : (v n : ℕ) (numbers rest : List ℕ) → length numbers ≡ v → t.numbers ≡ (numbers ++ n ∷ []) ++ rest → slice_index t.numbers v ≡ n
  number-here v n numbers rest long e =
      ap (λ l. slice_index l v) e ∙ get_or_append_left (numbers ++ n ∷ []) rest 0 v (let a = length_push numbers n in omega arith) ∙ get_or_push numbers n 0 v long

  number-before : (v : ℕ) (x : Wanted) (numbers rest : List ℕ) → length numbers ≡ v → t.numbers ≡ numbers ++ rest → IsEarlier v x → number_of (slice_index t.numbers) x ≡ number_of (slice_index numbers) x
  number-before v (Value y) numbers rest long e l = ap (λ m. slice_index m y) e ∙ get_or_append_left numbers rest 0 y (omega arith)
  number-before v (Constant w k) numbers rest long e l = refl
  number-before v Nothing numbers rest long e l = refl

  state-put : (v : ℕ) (g : Narrowing) (r : Reached) (u : SsaUnit) (m : List ℕ) (n : ℕ) → State ssa places (start_of memory args) t.numbers (Forms ssa v) (Flags ssa v) g r → unit_run places u r ≡ Some (reached m r.numbers n)
      → State ssa places (start_of memory args) t.numbers (Forms ssa v) (Flags ssa v) (put u g) (reached m r.numbers n)
  state-put v g r u m n state runs = record {
    ran = put-ran places (start_of memory args) g r u m n state.ran runs;
    made = λ y w h. has-more r.numbers (n ∷ []) (made_at (slice_index_or g.made y nowhere) w) (form_number ssa t.numbers (bits_of w) (Value y)) (state.made y w h);
    bits = λ y h. has-more r.numbers (n ∷ []) (slice_index_or g.made y nowhere).bit (slice_index t.numbers y) (state.bits y h);
  }

  -- a value without forms so far
  state-none : (v : ℕ) (g : Narrowing) (r : Reached) → State ssa places (start_of memory args) t.numbers (Forms ssa v) (Flags ssa v) g r → length g.made ≡ v → State ssa places (start_of memory args) t.numbers (Forms ssa v) (Flags ssa v) (no_value g) r
  state-none v g r state long =
      state-added ssa places (start_of memory args) t.numbers (Forms ssa v) (Forms ssa v) (Flags ssa v) g r nowhere state (λ y w h. (let l = h.0 in omega arith)) (λ y h. (let l = h.0 in omega arith)) (λ y w h. inl h)

  step-load : (v : ℕ) (a : Address) (w : Width) (g : Narrowing) (r c d : Reached) (rest : List ℕ) → v < length t.numbers → unit_at ssa v ≡ Some (Load a w) → Beside ssa places (start_of memory args) t.numbers v g r c → length c.numbers ≡ v
      → unit_run places (Load a w) c ≡ Some d → t.numbers ≡ d.numbers ++ rest → Stepped ssa places (start_of memory args) t.numbers (v + 1) (make_unit (spans_of ssa) (asked_of ssa) v (Load a w) g) r d
  step-load v a w g r c d rest inside is beside long runs split =
      let b = bound (loaded c.memory (place_of places a) (size_of w)) (λ read. Some (reached c.memory c.numbers (number read))) d runs in
      let n = number b.0 in
      let same : reached c.memory c.numbers n ≡ d = some-same (reached c.memory c.numbers n) d b.2 in
      let here : slice_index t.numbers v ≡ n = number-here v n c.numbers rest long (split ∙ ap (λ (q : Reached). q.numbers ++ rest) (sym same)) in
      let q = reached r.memory r.numbers n in
      let again : unit_run places (Load a w) r ≡ Some q = ap (λ o. o >>= λ read. Some (reached r.memory r.numbers (number read))) (ap (λ m. loaded m (place_of places a) (size_of w)) beside.memory ∙ b.1) in
      let has : Has q.numbers (next_value g) (slice_index t.numbers v) = subst (Has q.numbers (next_value g)) (sym here) (has-next places (start_of memory args) g r n beside.state.ran) in
      step-own v w (Some (Load a w)) (next_value g) (put (Load a w) g) r q c d (n ∷ []) inside is (λ u. refl) (bits-of-unit v (Load a w) is) (load-span v a w is) beside.long (state-put v g r (Load a w) r.memory n beside.state again) has
      (beside.memory ∙ ap (λ (x : Reached). x.memory) same) refl

  store-allows : (v : ℕ) (w : Width) (x : Wanted) → IsEarlier v x → IsIn (asked_of ssa) w x → IsNumber ssa w x → Allows (Forms ssa v) w x
  store-allows v w (Value y) l i h = (l, i, (w, h))
  store-allows v w (Constant m n) l i h = tt
  store-allows v w Nothing l i h = tt

  step-store : (v : ℕ) (a : Address) (w : Width) (x : Wanted) (g : Narrowing) (r c d : Reached) (rest : List ℕ) → v < length t.numbers → unit_at ssa v ≡ Some (Store a w x) → Beside ssa places (start_of memory args) t.numbers v g r c → length c.numbers ≡ v
      → unit_run places (Store a w x) c ≡ Some d → t.numbers ≡ d.numbers ++ rest → Stepped ssa places (start_of memory args) t.numbers (v + 1) (make_unit (spans_of ssa) (asked_of ssa) v (Store a w x) g) r d
  step-store v a w x g r c d rest inside is beside long runs split =
      let start = start_of memory args in
      let wrote = bytes (size_of w) (number_of (slice_index c.numbers) x) in
      let b = bound (stored c.memory (place_of places a) wrote) (λ m. Some (reached m c.numbers 0)) d runs in
      let same : reached b.0 c.numbers 0 ≡ d = some-same (reached b.0 c.numbers 0) d b.2 in
      let takes = unit-earlier v (Store a w x) is in
      let rule = unit-rule v (Store a w x) is in
      let has = have-has ssa places start t.numbers (Forms ssa v) (Flags ssa v) g r beside.state w x (store-allows v w x takes (unit-closed v (Store a w x) is) rule.1) in
      let whole : t.numbers ≡ c.numbers ++ (0 ∷ rest) = split ∙ ap (λ (q : Reached). q.numbers ++ rest) (sym same) ∙ append_assoc c.numbers (0 ∷ []) rest in
      let value : number_of (slice_index r.numbers) (have g w x) ≡ number_of (slice_index c.numbers) x =
      has.1 ∙ operand-number v w x (omega arith) takes rule.1 ∙ number-before v x c.numbers (0 ∷ rest) long whole takes in
      let q = reached b.0 r.numbers 0 in
      let again : unit_run places (Store a w (have g w x)) r ≡ Some q =
      (λ i. stored (beside.memory i) (place_of places a) (bytes (size_of w) (value i)) >>= λ m. Some (reached m r.numbers 0)) ∙ ap (λ o. o >>= λ m. Some (reached m r.numbers 0)) b.1 in
      let g1 = put (Store a w (have g w x)) g in
      let put_state = state-put v g r (Store a w (have g w x)) b.0 0 beside.state again in
      let none = bits-of-unit v (Store a w x) is in
      record {
        after = q;
        more = 0 ∷ [];
        beside = record {
          state = state-fewer ssa places start t.numbers (Forms ssa v) (Forms ssa (v + 1)) (Flags ssa v) (Flags ssa (v + 1)) (no_value g1) q (state-none v g1 q put_state beside.long)
              (none-before ssa v (λ h. never-some (bits_of h.0) (sym none ∙ h.1))) (λ y h. no-flag y none h (cases_lt y v));
          memory = ap (λ (z : Reached). z.memory) same;
          long = length_push g.made nowhere ∙ ap (λ k. k + 1) beside.long;
        };
        numbers = refl;
      }
    where
      never-some : (n : ℕ) → None ≡ Some n → ⊥
      never-some n e = absurd (cc)

      no-flag : (y : ℕ) → value_bits ssa v ≡ None → Flags ssa (v + 1) y → (y < v) ⊎ (v ≤ y) → Flags ssa v y
      no-flag y none h (inl less) = (less, h.1, h.2)
      no-flag y none h (inr more) = absurd (let low = h.0 in let same : v ≡ y = omega arith in never-some 1 (sym none ∙ ap (value_bits ssa) same ∙ h.2))

  -- an operation that gives an integer
  step-value : (v : ℕ) (op : Operator) (own : Width) (k : ℕ) (xs : Operands) (g : Narrowing) (r c d : Reached) → v < length t.numbers → unit_at ssa v ≡ Some (Operation op own k xs) → Beside ssa places (start_of memory args) t.numbers v g r c → c.memory ≡ d.memory
      → value_bits ssa v ≡ Some (bits_of own) → ((w : Width) → Asks (asked_of ssa) v w → FormedIn (asked_of ssa) w (value_form (spans_of ssa) v (Some (Operation op own k xs)) own w))
      → Stepped ssa places (start_of memory args) t.numbers (v + 1) (make_value (spans_of ssa) (asked_of ssa) v (Some (Operation op own k xs)) Nothing own (no_value g)) r d
  step-value v op own k xs g r c d inside is beside same e closed =
      let start = start_of memory args in
      let u = Operation op own k xs in
      let made = value-made ssa places start t.numbers (asked_of ssa) (spans_of ssa) v (Some u) Nothing own (Forms ssa v) (Flags ssa v) (v + 1) r (omega arith) (λ w. value-number v own w (Some u) inside e is)
      (value-parts ssa v op own k xs (unit-earlier v u is) (unit-rule v u is) (own, e) closed)
      (λ w. value-owns (spans_of ssa) v op own k xs r.numbers Nothing (slice_index t.numbers v) w) (no_value g) (state-none v g r beside.state beside.long) (length_push g.made nowhere ∙ ap (λ j. j + 1) beside.long) in
      stepped ssa places start t.numbers v own (Forms ssa v) r r d [] (make_value (spans_of ssa) (asked_of ssa) v (Some u) Nothing own (no_value g)) e (λ y w h. h) made (beside.memory ∙ same) (sym (append-nil r.numbers))

  step-comparison : (v : ℕ) (op : Comparison) (own : Width) (k : ℕ) (xs : Operands) (g : Narrowing) (r c d : Reached) → v < length t.numbers → unit_at ssa v ≡ Some (Operation (Compare op) own k xs) → Beside ssa places (start_of memory args) t.numbers v g r c → c.memory ≡ d.memory
      → Stepped ssa places (start_of memory args) t.numbers (v + 1) (make_operation (spans_of ssa) (asked_of ssa) v (Compare op) own k xs g) r d
  step-comparison v op own k xs g r c d inside is beside same = elim (cases_Bool (asked_at (asked_of ssa) v).bit) [
    | inl e ↦
        let h = formed e in
        subst (λ x. Stepped ssa places start t.numbers (v + 1) x r d) (sym (cond-true (asked_at (asked_of ssa) v).bit (record_bit v (make_form (no_value g) Nothing W8 f)) (no_value g) e)) (record {
          after = h.after;
          more = h.more;
          beside = record {
            state = state-fewer ssa places start t.numbers (Forms ssa v) (Forms ssa (v + 1)) (Flags ssa (v + 1)) (Flags ssa (v + 1)) (record_bit v (make_form (no_value g) Nothing W8 f)) h.after
                (recorded-bit ssa places start t.numbers (Forms ssa v) (Forms ssa v) (Flags ssa v) (Flags ssa (v + 1)) (no_value g) r none v (make_form (no_value g) Nothing W8 f) h (let l = longer in omega arith) (λ y z. or-here y z (cases_lt y v)))
                (none-before ssa v narrow) (λ y z. z);
            memory = h.memory ∙ beside.memory ∙ same;
            long = length-set (make_form (no_value g) Nothing W8 f).after.made v _ ∙ ap length h.made ∙ longer;
          };
          numbers = h.numbers;
        })
    | inr e ↦
        subst (λ x. Stepped ssa places start t.numbers (v + 1) x r d) (sym (cond-false (asked_at (asked_of ssa) v).bit (record_bit v (make_form (no_value g) Nothing W8 f)) (no_value g) e)) (record {
          after = r;
          more = [];
          beside = record {
            state = state-fewer ssa places start t.numbers (Forms ssa v) (Forms ssa (v + 1)) (Flags ssa v) (Flags ssa (v + 1)) (no_value g) r none (none-before ssa v narrow) (λ y z. unasked-flag e y z (cases_lt y v));
            memory = beside.memory ∙ same;
            long = longer;
          };
          numbers = sym (append-nil r.numbers);
        })
  ]
    where
      start : Reached
      start = start_of memory args

      f : Form
      f = operation_form (spans_of ssa) (Compare op) own k xs W8

      none : State ssa places (start_of memory args) t.numbers (Forms ssa v) (Flags ssa v) (no_value g) r
      none = state-none v g r beside.state beside.long

      longer : length (no_value g).made ≡ v + 1
      longer = length_push g.made nowhere ∙ ap (λ j. j + 1) beside.long

      narrow : IsWide ssa v → ⊥
      narrow h = never-flag h.0 (sym h.1 ∙ bits-of-unit v (Operation (Compare op) own k xs) is)

      formed : (asked_at (asked_of ssa) v).bit ≡ true → FormedAs places (start_of memory args) (no_value g) r (make_form (no_value g) Nothing W8 (operation_form (spans_of ssa) (Compare op) own k xs W8)) (slice_index t.numbers v)
      formed e =
          let u = Operation (Compare op) own k xs in
          subst (FormedAs places start (no_value g) r (make_form (no_value g) Nothing W8 f)) (bit-forms-hold ssa places memory args (length ssa.units) t sound are_bytes fit taken v op own W8 k xs inside is)
          (form-made ssa places start t.numbers (Forms ssa v) (Flags ssa v) (no_value g) r none v Nothing W8 f (comparison-parts ssa v op own k xs (unit-earlier v u is) (unit-rule v u is) (unit-closed v u is e))
          (operation-owns (spans_of ssa) (Compare op) own k xs r.numbers Nothing (slice_index t.numbers v) W8))

      or-here : (y : ℕ) → Flags ssa (v + 1) y → (y < v) ⊎ (v ≤ y) → Flags ssa v y ⊎ (y ≡ v)
      or-here y z (inl less) = inl (less, z.1, z.2)
      or-here y z (inr more) = inr (let low = z.0 in omega arith)

      unasked-flag : (asked_at (asked_of ssa) v).bit ≡ false → (y : ℕ) → Flags ssa (v + 1) y → (y < v) ⊎ (v ≤ y) → Flags ssa v y
      unasked-flag e y z (inl less) = (less, z.1, z.2)
      unasked-flag e y z (inr more) = absurd (let low = z.0 in let here : y ≡ v = omega arith in true≢false (sym z.1 ∙ ap (λ n. (asked_at (asked_of ssa) n).bit) here ∙ e))

  step-operation : (v : ℕ) (op : Operator) (own : Width) (k : ℕ) (xs : Operands) (g : Narrowing) (r c d : Reached) → v < length t.numbers → unit_at ssa v ≡ Some (Operation op own k xs) → Beside ssa places (start_of memory args) t.numbers v g r c → c.memory ≡ d.memory
      → Stepped ssa places (start_of memory args) t.numbers (v + 1) (make_operation (spans_of ssa) (asked_of ssa) v op own k xs g) r d
  step-operation v (Two op) own k xs g r c d inside is beside same = step-value v (Two op) own k xs g r c d inside is beside same (bits-of-unit v (Operation (Two op) own k xs) is) (unit-closed v (Operation (Two op) own k xs) is)
  step-operation v (Shift op) own k xs g r c d inside is beside same = step-value v (Shift op) own k xs g r c d inside is beside same (bits-of-unit v (Operation (Shift op) own k xs) is) (unit-closed v (Operation (Shift op) own k xs) is)
  step-operation v (Resize op from) own k xs g r c d inside is beside same =
      step-value v (Resize op from) own k xs g r c d inside is beside same (bits-of-unit v (Operation (Resize op from) own k xs) is) (unit-closed v (Operation (Resize op from) own k xs) is)
  step-operation v (Compare op) own k xs g r c d inside is beside same = step-comparison v op own k xs g r c d inside is beside same
  step-operation v Select own k xs g r c d inside is beside same = step-value v Select own k xs g r c d inside is beside same (bits-of-unit v (Operation Select own k xs) is) (unit-closed v (Operation Select own k xs) is)

  pub step : (v : ℕ) (u : SsaUnit) (g : Narrowing) (r c d : Reached) (rest : List ℕ) → v < length t.numbers → unit_at ssa v ≡ Some u → Beside ssa places (start_of memory args) t.numbers v g r c → length c.numbers ≡ v
      → unit_run places u c ≡ Some d → t.numbers ≡ d.numbers ++ rest → Stepped ssa places (start_of memory args) t.numbers (v + 1) (make_unit (spans_of ssa) (asked_of ssa) v u g) r d
  step v (Load a w) g r c d rest inside is beside long runs split = step-load v a w g r c d rest inside is beside long runs split
  step v (Store a w x) g r c d rest inside is beside long runs split = step-store v a w x g r c d rest inside is beside long runs split
  step v (Operation op own k xs) g r c d rest inside is beside long runs split =
      let same : reached c.memory c.numbers (result_of (slice_index c.numbers) op (bits_of own) k xs) ≡ d = some-same _ d runs in
      step-operation v op own k xs g r c d inside is beside (ap (λ (q : Reached). q.memory) same)
