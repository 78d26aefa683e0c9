-- Repeated units take earlier values of the widths that they want.
use Rattle.std.proofs.Common.{◌≡◌, ℕ, ◌+◌, ◌-◌, ◌<◌, ◌≤◌, ◌⊎◌, Bool, true, false, List, [], ◌∷◌, ◌++◌, length, map, Option, Some, None, refl, sym, ap, ◌∙◌, subst, arith, append_assoc, append-nil, inl, inr}
use Rattle.std.specs.Prelude.{filter, nat_eq, nat_lt, slice_get, slice_index_or, if◌then◌else◌}
use Rattle.std.specs.Option.{option_map}
use Rattle.std.proofs.lemmas.Bool.{cases_Bool, cases_lt, cond-false, cond-true, eq-eqb, eqb-true, or_left, or_right, true≢false}
use Rattle.std.proofs.lemmas.List.{get_or_append_left, get_or_push, length-append, length-map, length_push}
use Rattle.std.proofs.lemmas.List.Elements.{filter-append}
use Rattle.vg_base.specs.Trap.{◌>>=◌}
use Rattle.vg_base.specs.declared.address.Address.{Address}
use Rattle.vg_base.specs.declared.width.Width.{Width}
use Rattle.vg_base.specs.Width.{bits_of}
use Rattle.vg_rewrite.specs.Repeated.{anew, is_free, is_needed, load_stays, next_number, put_unit, read_anew, repeat_by, repeat_other, repeat_units, repeated_units, Repeating, source_by, source_of, stand_as, stand_source, stood, take_operand, take_source, Taken, takes, unit_or, with_first}
use Rattle.vg_rewrite.specs.Renumbering.{AreTyped}
use Rattle.vg_rewrite.proofs.Known.{some-same}
use Rattle.vg_rewrite.proofs.Reaching.{all-at, earlier-at, reaches}
use Rattle.vg_rewrite.proofs.Rereading.{all-from, AreFrom, begun, from-here, from-next, IsTaken, number-at, numbers-long, taken}
use Rattle.vg_rewrite.proofs.SourceFacts.{ExtensionAt, InUnits, load-source, LoadAt, needed-stays, none-stays, source-at, source-inside, source-stays, SourceAt, stays as is_standing, stays_by, unit-inside, use-needs}
use Rattle.vg_shapes.specs.declared.ssa.Ssa.{Ssa}
use Rattle.vg_shapes.specs.declared.ssa_unit.Operands.{Operands}
use Rattle.vg_shapes.specs.declared.ssa_unit.Operator.{Operator}
use Rattle.vg_shapes.specs.declared.ssa_unit.Operator.TheVariants.{Two, Shift, Resize, Compare, Select}
use Rattle.vg_shapes.specs.declared.ssa_unit.SsaUnit.{SsaUnit}
use Rattle.vg_shapes.specs.declared.ssa_unit.SsaUnit.TheVariants.{Load, Store, Operation}
use Rattle.vg_shapes.specs.declared.wanted.Wanted.{Wanted}
use Rattle.vg_shapes.specs.declared.wanted.Wanted.TheVariants.{Value, Constant, Nothing}
use Rattle.vg_shapes.specs.Order.{numbers_from}
use Rattle.vg_shapes.specs.Sound.{IsBit, IsEarlier, IsNumber, IsOperation, IsSound, is_store, IsUnit, kind_bits, pointers, TakesEarlier, unit_bits, value_bits}
use Rattle.vg_shapes.specs.Units.{arguments, integers, is_value, unit_at}
use Rattle.vg_ssa.proofs.Soundness.{value-at, widths}
use Rattle.vg_ssa.proofs.Typing.{behind, behind-both, behind-long, bit-stays, BitIn, number-stays, NumberIn, OperationIn, stays, UnitIn, units-both, UnitsIn}

-- ---- what is known of a unit

pub sound-typed : (ssa : Ssa) → IsSound ssa → AreTyped ssa
sound-typed ssa sound = record { units = sound.units; earlier = sound.earlier }

pub unit-typed : (ssa : Ssa) (v : ℕ) (u : SsaUnit) → AreTyped ssa → unit_at ssa v ≡ Some u → IsUnit ssa u
unit-typed ssa v u are_typed is = let r = reaches ssa v u is in all-at (IsUnit ssa) ssa.units (v - arguments ssa) u are_typed.units r.at

pub unit-takes_earlier : (ssa : Ssa) (v : ℕ) (u : SsaUnit) → AreTyped ssa → unit_at ssa v ≡ Some u → TakesEarlier v u
unit-takes_earlier ssa v u are_typed is = let r = reaches ssa v u is in subst (λ m. TakesEarlier m u) r.number (earlier-at (arguments ssa) ssa.units (v - arguments ssa) u are_typed.earlier r.at)

pub bits-at : (ssa : Ssa) (v : ℕ) (u : SsaUnit) → unit_at ssa v ≡ Some u → value_bits ssa v ≡ unit_bits u
bits-at ssa v u is =
    let r = reaches ssa v u is in
    cond-false (nat_lt v (arguments ssa)) (option_map (λ p. kind_bits p.kind) (slice_get (integers ssa) v)) (unit_at ssa v >>= unit_bits) r.past ∙ ap (λ o. o >>= unit_bits) is

-- ---- the widths of values so far

abbrev pub Stores : List SsaUnit → ℕ
Stores us = length (filter is_store us)

-- the value has this width
abbrev HasBits : List (Option ℕ) → Wanted → ℕ → Type 0
HasBits bits (Value y) n = slice_index_or bits y None ≡ Some n
HasBits bits (Constant w k) n = ⊥
HasBits bits Nothing n = ⊥

has-more : (bits more : List (Option ℕ)) (x : Wanted) (n : ℕ) → HasBits bits x n → HasBits (bits ++ more) x n
has-more bits more (Value y) n h = stays bits more y n h
has-more bits more (Constant w k) n h = absurd h
has-more bits more Nothing n h = absurd h

has-number : (bits : List (Option ℕ)) (x : Wanted) (w : Width) → HasBits bits x (bits_of w) → NumberIn bits w x
has-number bits (Value y) w h = h
has-number bits (Constant m k) w h = absurd h
has-number bits Nothing w h = absurd h

has-bit : (bits : List (Option ℕ)) (x : Wanted) → HasBits bits x 1 → BitIn bits x
has-bit bits (Value y) h = h
has-bit bits (Constant m k) h = absurd h
has-bit bits Nothing h = absurd h

record Typed (count : ℕ) (bits : List (Option ℕ)) (g : Repeating) : Type 0 where
  units : UnitsIn count bits g.units
  long : length bits ≡ g.first

abbrev SoFar : List (Option ℕ) → Repeating → List (Option ℕ)
SoFar bits g = behind bits g.units

so-far-put : (bits : List (Option ℕ)) (g : Repeating) (u : SsaUnit) → SoFar bits (put_unit u g) ≡ SoFar bits g ++ unit_bits u ∷ []
so-far-put bits g u = behind-both bits g.units (u ∷ [])

put-typed : (count : ℕ) (bits : List (Option ℕ)) (g : Repeating) (u : SsaUnit) → Typed count bits g → UnitIn count (SoFar bits g) u → Typed count bits (put_unit u g)
put-typed count bits g u h one = record { units = units-both count bits g.units (u ∷ []) h.units (one, tt); long = h.long }

has-next : (count : ℕ) (bits : List (Option ℕ)) (g : Repeating) (u : SsaUnit) (n : ℕ) → Typed count bits g → unit_bits u ≡ Some n → HasBits (SoFar bits (put_unit u g)) (next_number g) n
has-next count bits g u n h e =
    ap (λ l. slice_index_or l (g.first + length g.units) None) (so-far-put bits g u)
    ∙ get_or_push (SoFar bits g) (unit_bits u) None (g.first + length g.units) (behind-long bits g.units ∙ ap (λ k. k + length g.units) h.long) ∙ e

-- ---- what stands

abbrev AreStanding : Ssa → ℕ → List Wanted → List (Option ℕ) → Type 0
AreStanding ssa v stands bits = (x n : ℕ) → x < v → is_standing ssa x ≡ true → value_bits ssa x ≡ Some n → HasBits bits (slice_index_or stands x Nothing) n

record Ready (ssa : Ssa) (count : ℕ) (bits : List (Option ℕ)) (v : ℕ) (g : Repeating) : Type 0 where
  typed : Typed count bits g
  long : length g.stands ≡ v
  standing : AreStanding ssa v g.stands (SoFar bits g)

-- units after others, with no store among them
record Grown (count : ℕ) (bits : List (Option ℕ)) (g h : Repeating) : Type 0 where
  typed : Typed count bits h
  more : List (Option ℕ)
  so_far : SoFar bits h ≡ SoFar bits g ++ more
  stands : h.stands ≡ g.stands
  stores : Stores h.units ≡ Stores g.units

grown-none : (count : ℕ) (bits : List (Option ℕ)) (g : Repeating) → Typed count bits g → Grown count bits g g
grown-none count bits g h = record { typed = h; more = []; so_far = sym (append-nil (SoFar bits g)); stands = refl; stores = refl }

pub no-store : (us : List SsaUnit) (u : SsaUnit) → is_store u ≡ false → Stores (us ++ u ∷ []) ≡ Stores us
no-store us u e =
    ap length (filter-append is_store us (u ∷ []) ∙ ap (λ b. filter is_store us ++ (if b then u ∷ [] else [])) e ∙ append-nil (filter is_store us))

grown-put : (count : ℕ) (bits : List (Option ℕ)) (g h : Repeating) (u : SsaUnit) → Grown count bits g h → UnitIn count (SoFar bits h) u → is_store u ≡ false → Grown count bits g (put_unit u h)
grown-put count bits g h u k one e = record {
  typed = put-typed count bits h u k.typed one;
  more = k.more ++ unit_bits u ∷ [];
  so_far = so-far-put bits h u ∙ ap (λ l. l ++ unit_bits u ∷ []) k.so_far ∙ append_assoc (SoFar bits g) k.more (unit_bits u ∷ []);
  stands = k.stands;
  stores = no-store h.units u e ∙ k.stores;
}

ready-grown : (ssa : Ssa) (count : ℕ) (bits : List (Option ℕ)) (v : ℕ) (g h : Repeating) → Ready ssa count bits v g → Grown count bits g h → Ready ssa count bits v h
ready-grown ssa count bits v g h ready k = record {
  typed = k.typed;
  long = ap length k.stands ∙ ready.long;
  standing = λ x n low s e.
      let P : List Wanted → Type 0 = λ l. HasBits (SoFar bits h) (slice_index_or l x Nothing) n in
      subst P (sym k.stands) (subst (λ l. HasBits l (slice_index_or g.stands x Nothing) n) (sym k.so_far) (has-more (SoFar bits g) k.more (slice_index_or g.stands x Nothing) n (ready.standing x n low s e)));
}

has-grown : (count : ℕ) (bits : List (Option ℕ)) (g h : Repeating) (x : Wanted) (n : ℕ) → Grown count bits g h → HasBits (SoFar bits g) x n → HasBits (SoFar bits h) x n
has-grown count bits g h x n k has = subst (λ l. HasBits l x n) (sym k.so_far) (has-more (SoFar bits g) k.more x n has)

-- ---- what an operand is: nothing, a bit, or a number of a width

abbrev GivenAs : Ssa → Option (Option Width) → Wanted → Type 0
GivenAs ssa None x = x ≡ Nothing
GivenAs ssa (Some None) x = IsBit ssa x
GivenAs ssa (Some (Some w)) x = IsNumber ssa w x

abbrev pub InAs : List (Option ℕ) → Option (Option Width) → Wanted → Type 0
InAs bits None x = x ≡ Nothing
InAs bits (Some None) x = BitIn bits x
InAs bits (Some (Some w)) x = NumberIn bits w x

abbrev pub first_kind : Operator → Width → Option (Option Width)
first_kind (Two op) w = Some (Some w)
first_kind (Shift op) w = Some (Some w)
first_kind (Resize op v) w = Some (Some v)
first_kind (Compare op) w = Some (Some w)
first_kind Select w = Some None

abbrev pub second_kind : Operator → Width → Option (Option Width)
second_kind (Two op) w = Some (Some w)
second_kind (Shift op) w = None
second_kind (Resize op v) w = None
second_kind (Compare op) w = Some (Some w)
second_kind Select w = Some (Some w)

abbrev pub third_kind : Operator → Width → Option (Option Width)
third_kind (Two op) w = None
third_kind (Shift op) w = None
third_kind (Resize op v) w = None
third_kind (Compare op) w = None
third_kind Select w = Some (Some w)

given-first : (ssa : Ssa) (op : Operator) (w : Width) (k : ℕ) (xs : Operands) → IsOperation ssa op w k xs → GivenAs ssa (first_kind op w) xs.first
given-first ssa (Two op) w k xs h = h.1
given-first ssa (Shift op) w k xs h = h.1
given-first ssa (Resize op v) w k xs h = h.2
given-first ssa (Compare op) w k xs h = h.1
given-first ssa Select w k xs h = h.1

given-second : (ssa : Ssa) (op : Operator) (w : Width) (k : ℕ) (xs : Operands) → IsOperation ssa op w k xs → GivenAs ssa (second_kind op w) xs.second
given-second ssa (Two op) w k xs h = h.2
given-second ssa (Shift op) w k xs h = h.2
given-second ssa (Resize op v) w k xs h = h.3
given-second ssa (Compare op) w k xs h = h.2
given-second ssa Select w k xs h = h.2

given-third : (ssa : Ssa) (op : Operator) (w : Width) (k : ℕ) (xs : Operands) → IsOperation ssa op w k xs → GivenAs ssa (third_kind op w) xs.third
given-third ssa (Two op) w k xs h = h.3
given-third ssa (Shift op) w k xs h = h.3
given-third ssa (Resize op v) w k xs h = h.4
given-third ssa (Compare op) w k xs h = h.3
given-third ssa Select w k xs h = h.3

-- the same operation of other operands
operation-typed : (ssa : Ssa) (bits : List (Option ℕ)) (op : Operator) (w : Width) (k : ℕ) (xs ys : Operands) → IsOperation ssa op w k xs → InAs bits (first_kind op w) ys.first → InAs bits (second_kind op w) ys.second → InAs bits (third_kind op w) ys.third → OperationIn bits op w k ys
operation-typed ssa bits (Two op) w k xs ys h x y z = (h.0, x, y, z)
operation-typed ssa bits (Shift op) w k xs ys h x y z = (h.0, x, y, z)
operation-typed ssa bits (Resize op v) w k xs ys h x y z = (h.0, h.1, x, y, z)
operation-typed ssa bits (Compare op) w k xs ys h x y z = (h.0, x, y, z)
operation-typed ssa bits Select w k xs ys h x y z = (h.0, x, y, z)

pub in-more : (bits more : List (Option ℕ)) (k : Option (Option Width)) (x : Wanted) → InAs bits k x → InAs (bits ++ more) k x
in-more bits more None x h = h
in-more bits more (Some None) x h = bit-stays bits more x h
in-more bits more (Some (Some w)) x h = number-stays bits more w x h

in-grown : (count : ℕ) (bits : List (Option ℕ)) (g h : Repeating) (k : Option (Option Width)) (x : Wanted) → Grown count bits g h → InAs (SoFar bits g) k x → InAs (SoFar bits h) k x
in-grown count bits g h k x grown i = subst (λ l. InAs l k x) (sym grown.so_far) (in-more (SoFar bits g) grown.more k x i)

pub one-store : (us : List SsaUnit) (u : SsaUnit) → is_store u ≡ true → Stores (us ++ u ∷ []) ≡ Stores us + 1
one-store us u e = ap length (filter-append is_store us (u ∷ []) ∙ ap (λ b. filter is_store us ++ (if b then u ∷ [] else [])) e) ∙ length_push (filter is_store us) u

-- an operand that is taken
abbrev TookAs : ℕ → List (Option ℕ) → Repeating → Taken → Option (Option Width) → Type 0
TookAs count bits g t k = Grown count bits g t.after × InAs (SoFar bits t.after) k t.value

record Took (count : ℕ) (bits : List (Option ℕ)) (g : Repeating) (t : Taken) (n : ℕ) : Type 0 where
  grown : Grown count bits g t.after
  value : HasBits (SoFar bits t.after) t.value n

module _ (ssa : Ssa) (are_typed : AreTyped ssa) (bits : List (Option ℕ)) where
  abbrev pointer_count : ℕ
  pointer_count = length (pointers ssa)

  -- a load of its own
  took-load : (g : Repeating) (l n : ℕ) → Typed pointer_count bits g → LoadAt ssa l → value_bits ssa l ≡ Some n → Took pointer_count bits g (anew (unit_or (unit_at ssa l)) g) n
  took-load g l n typed h e =
      let u = Load h.address h.width in
      let P : Option SsaUnit → Type 0 = λ o. Took pointer_count bits g (anew (unit_or o) g) n in
      subst P (sym h.unit) (record {
        grown = grown-put pointer_count bits g g u (grown-none pointer_count bits g typed) (unit-typed ssa l u are_typed h.unit) refl;
        value = has-next pointer_count bits g u n typed (sym (bits-at ssa l u h.unit) ∙ e);
      })

  took-extension : (g : Repeating) (t : Taken) (x l m n : ℕ) → (h : ExtensionAt ssa x l) → Took pointer_count bits g t m → value_bits ssa l ≡ Some m → value_bits ssa x ≡ Some n
      → Took pointer_count bits g (anew (with_first t.value (unit_or (unit_at ssa x))) t.after) n
  took-extension g t x l m n h k e f =
      let xs = h.operands in
      let u = Operation (Resize h.op h.from) h.width h.amount xs in
      let new = Operation (Resize h.op h.from) h.width h.amount (record { first = t.value; second = xs.second; third = xs.third }) in
      let rule = unit-typed ssa x u are_typed h.unit in
      let from : value_bits ssa l ≡ Some (bits_of h.from) = subst (IsNumber ssa h.from) h.first rule.2 in
      let same : m ≡ bits_of h.from = some-same m (bits_of h.from) (sym e ∙ from) in
      let first : NumberIn (SoFar bits t.after) h.from t.value = has-number (SoFar bits t.after) t.value h.from (subst (HasBits (SoFar bits t.after) t.value) same k.value) in
      let P : Option SsaUnit → Type 0 = λ o. Took pointer_count bits g (anew (with_first t.value (unit_or o)) t.after) n in
      subst P (sym h.unit) (record {
        grown = grown-put pointer_count bits g t.after new k.grown (rule.0, rule.1, first, rule.3, rule.4) refl;
        value = has-next pointer_count bits t.after new n k.grown.typed (sym (bits-at ssa x u h.unit) ∙ f);
      })

  load-bits : (l : ℕ) (h : LoadAt ssa l) → value_bits ssa l ≡ Some (bits_of h.width)
  load-bits l h = bits-at ssa l (Load h.address h.width) h.unit

  took-anew : (g : Repeating) (x l n : ℕ) → Typed pointer_count bits g → SourceAt ssa x l → value_bits ssa x ≡ Some n → Took pointer_count bits g (read_anew ssa x l g) n
  took-anew g x l n typed source e = elim (cases_Bool (nat_eq x l)) [
    | inl c ↦ subst (λ t. Took pointer_count bits g t n) (sym (cond-true (nat_eq x l) (anew (unit_or (unit_at ssa l)) g) _ c)) (took-load g l n typed source.load (ap (value_bits ssa) (sym (eqb-true x l c)) ∙ e))
    | inr c ↦
        let read = anew (unit_or (unit_at ssa l)) g in
        let m = bits_of source.load.width in
        let own = load-bits l source.load in
        subst (λ t. Took pointer_count bits g t n) (sym (cond-false (nat_eq x l) read _ c)) (took-extension g read x l m n (source.extends c) (took-load g l m typed source.load own) own e)
  ]

  took-source : (v : ℕ) (g : Repeating) (x n : ℕ) (o : Option ℕ) → InUnits ssa v → x < v → Ready ssa pointer_count bits v g → source_of ssa x ≡ o → takes ssa v x ≡ true → value_bits ssa x ≡ Some n → Took pointer_count bits g (take_source ssa v x o g) n
  took-source v g x n None inside low ready e uses f = record { grown = grown-none pointer_count bits g ready.typed; value = ready.standing x n low (none-stays ssa x e) f }
  took-source v g x n (Some l) inside low ready e uses f = elim (cases_Bool (is_free ssa v x)) [
    | inl c ↦ subst (λ t. Took pointer_count bits g t n) (sym (cond-true (is_free ssa v x) (read_anew ssa x l g) (stood g x) c)) (took-anew g x l n ready.typed (source-at ssa x l e) f)
    | inr c ↦
        let stand = needed-stays ssa x l (source-inside ssa x l e) e (use-needs ssa v x inside uses c) in
        subst (λ t. Took pointer_count bits g t n) (sym (cond-false (is_free ssa v x) (read_anew ssa x l g) (stood g x) c)) (record { grown = grown-none pointer_count bits g ready.typed; value = ready.standing x n low stand f })
  ]

  -- ---- operands

  took-number : (v : ℕ) (g : Repeating) (w : Width) (x : Wanted) → InUnits ssa v → IsEarlier v x → Ready ssa pointer_count bits v g → IsTaken ssa v x → IsNumber ssa w x → TookAs pointer_count bits g (take_operand ssa v x g) (Some (Some w))
  took-number v g w (Value x) inside low ready uses h =
      let k = took-source v g x (bits_of w) (source_of ssa x) inside low ready refl uses h in
      (k.grown, has-number (SoFar bits (take_operand ssa v (Value x) g).after) (take_operand ssa v (Value x) g).value w k.value)
  took-number v g w (Constant m n) inside low ready uses h = (grown-none pointer_count bits g ready.typed, h)
  took-number v g w Nothing inside low ready uses h = absurd h

  took-bit : (v : ℕ) (g : Repeating) (x : Wanted) → InUnits ssa v → IsEarlier v x → Ready ssa pointer_count bits v g → IsTaken ssa v x → IsBit ssa x → TookAs pointer_count bits g (take_operand ssa v x g) (Some None)
  took-bit v g (Value x) inside low ready uses h =
      let k = took-source v g x 1 (source_of ssa x) inside low ready refl uses h in
      (k.grown, has-bit (SoFar bits (take_operand ssa v (Value x) g).after) (take_operand ssa v (Value x) g).value k.value)
  took-bit v g (Constant m n) inside low ready uses h = absurd h
  took-bit v g Nothing inside low ready uses h = absurd h

  took-operand : (v : ℕ) (g : Repeating) (k : Option (Option Width)) (x : Wanted) → InUnits ssa v → IsEarlier v x → Ready ssa pointer_count bits v g → IsTaken ssa v x → GivenAs ssa k x → TookAs pointer_count bits g (take_operand ssa v x g) k
  took-operand v g None x inside low ready uses h =
      subst (λ y. TookAs pointer_count bits g (take_operand ssa v y g) None) (sym h) (grown-none pointer_count bits g ready.typed, refl)
  took-operand v g (Some None) x inside low ready uses h = took-bit v g x inside low ready uses h
  took-operand v g (Some (Some w)) x inside low ready uses h = took-number v g w x inside low ready uses h

  -- ---- one unit more

  ready-more : (v : ℕ) (g h : Repeating) (x : Wanted) (more : List (Option ℕ)) → Ready ssa pointer_count bits v g → Typed pointer_count bits h → SoFar bits h ≡ SoFar bits g ++ more → h.stands ≡ g.stands ++ x ∷ []
      → ((n : ℕ) → is_standing ssa v ≡ true → value_bits ssa v ≡ Some n → HasBits (SoFar bits h) x n) → Ready ssa pointer_count bits (v + 1) h
  ready-more v g h x more ready typed so_far stands has = record {
    typed = typed;
    long = ap length stands ∙ length_push g.stands x ∙ ap (λ k. k + 1) ready.long;
    standing = λ y n low s e. (
        let P : List Wanted → Type 0 = λ l. HasBits (SoFar bits h) (slice_index_or l y Nothing) n in
        subst P (sym stands) (by y n low s e (cases_lt y v)));
  }
    where
      by : (y n : ℕ) → y < v + 1 → is_standing ssa y ≡ true → value_bits ssa y ≡ Some n → (y < v) ⊎ (v ≤ y) → HasBits (SoFar bits h) (slice_index_or (g.stands ++ x ∷ []) y Nothing) n
      by y n low s e (inl less) =
          let kept = ready.long in
          let old : HasBits (SoFar bits h) (slice_index_or g.stands y Nothing) n =
          subst (λ l. HasBits l (slice_index_or g.stands y Nothing) n) (sym so_far) (has-more (SoFar bits g) more (slice_index_or g.stands y Nothing) n (ready.standing y n less s e)) in
          subst (λ k. HasBits (SoFar bits h) k n) (sym (get_or_append_left g.stands (x ∷ []) Nothing y (omega arith))) old
      by y n low s e (inr more_than) =
          let same : v ≡ y = omega arith in
          let now : HasBits (SoFar bits h) x n = has n (subst (λ k. is_standing ssa k ≡ true) (sym same) s) (ap (value_bits ssa) same ∙ e) in
          subst (λ k. HasBits (SoFar bits h) k n) (sym (get_or_push g.stands x Nothing y (ready.long ∙ same))) now

  -- ready behind the unit of a number, with the stores counted
  abbrev Behind : ℕ → SsaUnit → Repeating → Repeating → Type 0
  Behind v u g h = Ready ssa pointer_count bits (v + 1) h × (Stores h.units ≡ Stores (g.units ++ u ∷ []))

  step-source : (v : ℕ) (given : SsaUnit) (g : Repeating) (u : SsaUnit) (b : Bool) → Ready ssa pointer_count bits v g → is_standing ssa v ≡ b → (b ≡ true → UnitIn pointer_count (SoFar bits g) u) → value_bits ssa v ≡ unit_bits u → is_store u ≡ false → is_store given ≡ false
      → Behind v given g (stand_source b u g)
  step-source v given g u true ready s one same plain other =
      let typed = put-typed pointer_count bits g u ready.typed (one refl) in (
        ready-more v g (stand_as (next_number g) (put_unit u g)) (next_number g) (unit_bits u ∷ []) ready (record { units = typed.units; long = typed.long }) (so-far-put bits g u) refl
            (λ n q e. has-next pointer_count bits g u n ready.typed (sym same ∙ e)),
        no-store g.units u plain ∙ sym (no-store g.units given other),
      )
  step-source v given g u false ready s one same plain other = (
    ready-more v g (stand_as Nothing g) Nothing [] ready (record { units = ready.typed.units; long = ready.typed.long }) (sym (append-nil (SoFar bits g))) refl (λ n q e. absurd (true≢false (sym q ∙ s))),
    sym (no-store g.units given other),
  )

  step-load : (v : ℕ) (g : Repeating) (a : Address) (w : Width) → Ready ssa pointer_count bits v g → unit_at ssa v ≡ Some (Load a w) → Behind v (Load a w) g (repeat_by ssa v (Load a w) (source_of ssa v) g)
  step-load v g a w ready is =
      let here : source_of ssa v ≡ Some v = load-source ssa v (record { address = a; width = w; unit = is }) in
      let own = eq-eqb v v refl in
      let stay : is_standing ssa v ≡ load_stays ssa v = ap (stays_by ssa v) here ∙ cond-true (nat_eq v v) (load_stays ssa v) (is_needed ssa v) own in
      let made : repeat_by ssa v (Load a w) (source_of ssa v) g ≡ stand_source (load_stays ssa v) (Load a w) g =
      ap (λ o. repeat_by ssa v (Load a w) o g) here ∙ cond-true (nat_eq v v) (repeat_other ssa v (Load a w) g) _ own in
      subst (Behind v (Load a w) g) (sym made) (step-source v (Load a w) g (Load a w) (load_stays ssa v) ready stay (λ q. unit-typed ssa v (Load a w) are_typed is) (bits-at ssa v (Load a w) is) refl refl)

  step-extension : (v : ℕ) (g : Repeating) (u : SsaUnit) (l : ℕ) → Ready ssa pointer_count bits v g → unit_at ssa v ≡ Some u → source_of ssa v ≡ Some l → nat_eq v l ≡ false → Behind v u g (repeat_by ssa v u (Some l) g)
  step-extension v g u l ready is source other =
      let h = (source-at ssa v l source).extends other in
      let shape : Operation (Resize h.op h.from) h.width h.amount h.operands ≡ u = some-same (Operation (Resize h.op h.from) h.width h.amount h.operands) u (sym h.unit ∙ is) in
      let P : SsaUnit → Type 0 = λ x. Behind v x g (repeat_by ssa v x (Some l) g) in
      subst P shape (as-extension h)
    where
      as-extension : (h : ExtensionAt ssa v l) → Behind v (Operation (Resize h.op h.from) h.width h.amount h.operands) g (repeat_by ssa v (Operation (Resize h.op h.from) h.width h.amount h.operands) (Some l) g)
      as-extension h =
          let x = Operation (Resize h.op h.from) h.width h.amount h.operands in
          let stay : is_standing ssa v ≡ is_needed ssa v = ap (stays_by ssa v) source ∙ cond-false (nat_eq v l) (load_stays ssa v) (is_needed ssa v) other in
          let new = with_first (slice_index_or g.stands l Nothing) x in
          let made : repeat_by ssa v x (Some l) g ≡ stand_source (is_needed ssa v) new g = cond-false (nat_eq v l) (repeat_other ssa v x g) _ other in
          let inside = unit-inside ssa v x h.unit in
          let rule = unit-typed ssa v x are_typed h.unit in
          let earlier = unit-takes_earlier ssa v x are_typed h.unit in
          let from : value_bits ssa l ≡ Some (bits_of h.from) = subst (IsNumber ssa h.from) h.first rule.2 in
          let before : l < v = subst (IsEarlier v) h.first earlier.0 in
          subst (Behind v x g) (sym made)
          (step-source v x g new (is_needed ssa v) ready stay
          (λ need. (rule.0, rule.1, has-number (SoFar bits g) (slice_index_or g.stands l Nothing) h.from (ready.standing l (bits_of h.from) before (source-stays ssa v l inside source need) from), rule.3, rule.4))
          (bits-at ssa v x h.unit) refl refl)

  step-operation : (v : ℕ) (g : Repeating) (op : Operator) (w : Width) (k : ℕ) (xs : Operands) → Ready ssa pointer_count bits v g → unit_at ssa v ≡ Some (Operation op w k xs) → source_of ssa v ≡ None → Behind v (Operation op w k xs) g (repeat_by ssa v (Operation op w k xs) None g)
  step-operation v g op w k xs ready is none =
      let u = Operation op w k xs in
      let inside = unit-inside ssa v u is in
      let takes = unit-takes_earlier ssa v u are_typed is in
      let rule = unit-typed ssa v u are_typed is in
      let a = take_operand ssa v xs.first g in
      let ha = took-operand v g (first_kind op w) xs.first inside takes.0 ready (taken ssa v u xs.first is none (λ y e. or_left (is_value y xs.first) _ e)) (given-first ssa op w k xs rule) in
      let ra = ready-grown ssa pointer_count bits v g a.after ready ha.0 in
      let b = take_operand ssa v xs.second a.after in
      let hb = took-operand v a.after (second_kind op w) xs.second inside takes.1 ra (taken ssa v u xs.second is none (λ y e. or_right (is_value y xs.first) _ (or_left (is_value y xs.second) _ e))) (given-second ssa op w k xs rule) in
      let rb = ready-grown ssa pointer_count bits v a.after b.after ra hb.0 in
      let c = take_operand ssa v xs.third b.after in
      let hc = took-operand v b.after (third_kind op w) xs.third inside takes.2 rb (taken ssa v u xs.third is none (λ y e. or_right (is_value y xs.first) _ (or_right (is_value y xs.second) _ e))) (given-third ssa op w k xs rule) in
      let rc = ready-grown ssa pointer_count bits v b.after c.after rb hc.0 in
      let second = in-grown pointer_count bits b.after c.after (second_kind op w) b.value hc.0 hb.1 in
      let first = in-grown pointer_count bits b.after c.after (first_kind op w) a.value hc.0 (in-grown pointer_count bits a.after b.after (first_kind op w) a.value hb.0 ha.1) in
      let ys : Operands = record { first = a.value; second = b.value; third = c.value } in
      let new = Operation op w k ys in
      let typed = put-typed pointer_count bits c.after new rc.typed (operation-typed ssa (SoFar bits c.after) op w k xs ys rule first second hc.1) in (
        ready-more v c.after (stand_as (next_number c.after) (put_unit new c.after)) (next_number c.after) (unit_bits new ∷ []) rc (record { units = typed.units; long = typed.long }) (so-far-put bits c.after new) refl
            (λ n q e. has-next pointer_count bits c.after new n rc.typed (sym (bits-at ssa v u is) ∙ e)),
        no-store c.after.units new refl ∙ hc.0.stores ∙ hb.0.stores ∙ ha.0.stores ∙ sym (no-store g.units u refl),
      )

  step-store : (v : ℕ) (g : Repeating) (a : Address) (w : Width) (x : Wanted) → Ready ssa pointer_count bits v g → unit_at ssa v ≡ Some (Store a w x) → source_of ssa v ≡ None → Behind v (Store a w x) g (repeat_by ssa v (Store a w x) None g)
  step-store v g a w x ready is none =
      let u = Store a w x in
      let inside = unit-inside ssa v u is in
      let rule = unit-typed ssa v u are_typed is in
      let c = take_operand ssa v x g in
      let hc = took-number v g w x inside (unit-takes_earlier ssa v u are_typed is) ready (taken ssa v u x is none (λ y e. e)) rule.1 in
      let rc = ready-grown ssa pointer_count bits v g c.after ready hc.0 in
      let new = Store a w c.value in
      let typed = put-typed pointer_count bits c.after new rc.typed (rule.0, hc.1) in (
        ready-more v c.after (stand_as Nothing (put_unit new c.after)) Nothing (None ∷ []) rc (record { units = typed.units; long = typed.long }) (so-far-put bits c.after new) refl
            (λ n q e. absurd (let no : None ≡ Some n = sym (bits-at ssa v u is) ∙ e in cc)),
        one-store c.after.units new refl ∙ ap (λ k. k + 1) hc.0.stores ∙ sym (one-store g.units u refl),
      )

  step : (v : ℕ) (g : Repeating) (u : SsaUnit) → Ready ssa pointer_count bits v g → unit_at ssa v ≡ Some u → Behind v u g (repeat_by ssa v u (source_of ssa v) g)
  step v g (Load a w) ready is = step-load v g a w ready is
  step v g (Store a w x) ready is =
      let none : source_of ssa v ≡ None = ap (λ o. o >>= source_by ssa v) is in
      subst (λ o. Behind v (Store a w x) g (repeat_by ssa v (Store a w x) o g)) (sym none) (step-store v g a w x ready is none)
  step v g (Operation op w k xs) ready is = by (source_of ssa v) refl
    where
      u : SsaUnit
      u = Operation op w k xs

      by : (o : Option ℕ) → source_of ssa v ≡ o → Behind v (Operation op w k xs) g (repeat_by ssa v (Operation op w k xs) o g)
      by None e = step-operation v g op w k xs ready is e
      by (Some l) e = elim (cases_Bool (nat_eq v l)) [
        | inr c ↦ step-extension v g u l ready is e c
        | inl c ↦
            let h = (source-at ssa v l e).load in
            let no : Some (Load h.address h.width) ≡ Some (Operation op w k xs) = sym h.unit ∙ ap (unit_at ssa) (sym (eqb-true v l c)) ∙ is in
            absurd (cc)
      ]

  follow : (v : ℕ) (us : List SsaUnit) (g : Repeating) → AreFrom ssa v us → Ready ssa pointer_count bits v g → Typed pointer_count bits (repeat_units ssa v us g) × (Stores (repeat_units ssa v us g).units ≡ Stores g.units + Stores us)
  follow v [] g from ready = (ready.typed, (let e : Stores g.units ≡ Stores g.units + 0 = omega arith in e))
  follow v (u ∷ us) g from ready =
      let one = step v g u ready (from-here ssa v u us from) in
      let rest = follow (v + 1) us (repeat_by ssa v u (source_of ssa v) g) (from-next ssa v u us from) one.0 in
      let a = ap length (filter-append is_store g.units (u ∷ [])) ∙ length-append (filter is_store g.units) (filter is_store (u ∷ [])) in
      let b = ap length (filter-append is_store (u ∷ []) us) ∙ length-append (filter is_store (u ∷ [])) (filter is_store us) in
      (rest.0, rest.1 ∙ ap (λ k. k + Stores us) (one.1 ∙ a) ∙ (let e : Stores g.units + length (filter is_store (u ∷ [])) + Stores us ≡ Stores g.units + Stores (u ∷ us) = omega arith in e))

-- ---- what stands before the first unit

pub argument-bits : (ssa : Ssa) (v : ℕ) → v < arguments ssa → value_bits ssa v ≡ slice_index_or (widths (integers ssa)) v None
argument-bits ssa v l =
    let long = length-map (integers ssa) (λ p. Some (kind_bits p.kind)) in
    value-at (integers ssa) ssa.units v ∙ get_or_append_left (widths (integers ssa)) (map unit_bits ssa.units) None v (omega arith)

ready-begun : (ssa : Ssa) → Ready ssa (length (pointers ssa)) (widths (integers ssa)) (arguments ssa) (begun ssa)
ready-begun ssa = record {
  typed = record { units = tt; long = length-map (integers ssa) (λ p. Some (kind_bits p.kind)) };
  long = length-map (numbers_from 0 (arguments ssa)) Value ∙ numbers-long 0 (arguments ssa);
  standing = λ x n low s e.
      let P : Wanted → Type 0 = λ y. HasBits (widths (integers ssa) ++ []) y n in
      let zero_more : 0 + x ≡ x = omega arith in
      subst P (sym (number-at 0 (arguments ssa) x low ∙ ap Value zero_more)) (ap (λ l. slice_index_or l x None) (append-nil (widths (integers ssa))) ∙ sym (argument-bits ssa x low) ∙ e);
}

-- repeated units have operands of the widths that they want, and as many stores as the given ones
pub repeated-typed : (ssa : Ssa) → AreTyped ssa → UnitsIn (length (pointers ssa)) (widths (integers ssa)) (repeated_units ssa) × (Stores (repeated_units ssa) ≡ Stores ssa.units)
repeated-typed ssa are_typed =
    let all = follow ssa are_typed (widths (integers ssa)) (arguments ssa) ssa.units (begun ssa) (all-from ssa) (ready-begun ssa) in
    (all.0.units, all.1 ∙ (let e : 0 + Stores ssa.units ≡ Stores ssa.units = omega arith in e))
