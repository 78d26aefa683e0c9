-- The operands of the units of a kernel have the widths that the units want.
use Rattle.std.proofs.Common.{◌≡◌, ℕ, zero, suc, ◌+◌, List, [], ◌∷◌, ◌++◌, length, map, Option, Some, None, refl, sym, ap, subst, ◌∙◌, arith, append-nil}
use Rattle.std.specs.Prelude.{IsTrue, slice_get, slice_index_or}
use Rattle.std.proofs.lemmas.Bool.{ltb-true}
use Rattle.std.proofs.lemmas.List.{get_or_push, length_push}
use Rattle.vg_base.specs.declared.width.Width.{Width}
use Rattle.vg_base.specs.Width.{bits_of}
use Rattle.vg_kernel.specs.declared.parameter.KParam.{KParam}
use Rattle.vg_kernel.specs.declared.value_type.ValueType.{ValueType}
use Rattle.vg_kernel.specs.declared.value_type.ValueType.TheVariants.{Bit, Integer}
use Rattle.vg_kernel.specs.Nodes.{is_resize}
use Rattle.vg_kernel.specs.Tree.{Expression, argument, assigned, literal, load, two, shift, resize, compare, select, Statement, assign, store, gives, type_of}
use Rattle.vg_kernel.specs.WellFormed.{AreStatements, integer_widths, IsExpression, pointers}
use Rattle.vg_scalar.specs.declared.resize.Resize.{Resize}
use Rattle.vg_scalar.specs.declared.resize.Resize.TheVariants.{Sext, Zext, Trunc}
use Rattle.vg_shapes.specs.declared.ssa_unit.Operator.TheVariants.{Two, Shift, Resize as ToWidth, Compare, Select}
use Rattle.vg_shapes.specs.declared.ssa_unit.SsaUnit.{SsaUnit}
use Rattle.vg_shapes.specs.declared.ssa_unit.SsaUnit.TheVariants.{Load, Store, Operation}
use Rattle.vg_shapes.specs.declared.wanted.Wanted.{Wanted}
use Rattle.vg_shapes.specs.declared.wanted.Wanted.TheVariants.{Value, Nothing}
use Rattle.vg_shapes.specs.Sound.{IsChange, unit_bits}
use Rattle.vg_ssa.specs.Numbering.{Numbered, numbered, operands, units_from}
use Rattle.vg_ssa.proofs.Typing.{behind, behind-both, behind-long, bit-stays, BitIn, number-stays, NumberIn, stays, UnitIn, units-both, UnitsIn}

-- ---- expressions

abbrev pub TypedIn : List (Option ℕ) → ValueType → Wanted → Type 0
TypedIn bits Bit x = BitIn bits x
TypedIn bits (Integer w) x = NumberIn bits w x

typed-stays : (bits more : List (Option ℕ)) (t : ValueType) (x : Wanted) → TypedIn bits t x → TypedIn (bits ++ more) t x
typed-stays bits more Bit x h = bit-stays bits more x h
typed-stays bits more (Integer w) x h = number-stays bits more w x h

-- what an expression of this type is numbered as, after values of these widths
record TypedAs (count : ℕ) (bits : List (Option ℕ)) (p : Numbered) (t : ValueType) : Type 0 where
  units : UnitsIn count bits p.units
  value : TypedIn (behind bits p.units) t p.value

abbrev type_bits : ValueType → ℕ
type_bits Bit = 1
type_bits (Integer w) = bits_of w

value-typed : (bits : List (Option ℕ)) (t : ValueType) (v : ℕ) → slice_index_or bits v None ≡ Some (type_bits t) → TypedIn bits t (Value v)
value-typed bits Bit v e = e
value-typed bits (Integer w) v e = e

-- one unit after others
typed-one : (count n : ℕ) (bits : List (Option ℕ)) (us : List SsaUnit) (u : SsaUnit) (t : ValueType) → n ≡ length bits → UnitsIn count bits us → UnitIn count (behind bits us) u → unit_bits u ≡ Some (type_bits t)
    → TypedAs count bits (record { units = us ++ u ∷ []; value = Value (n + length us) }) t
typed-one count n bits us u t long h g e = record {
  units = units-both count bits us (u ∷ []) h (g, tt);
  value = value-typed (behind bits (us ++ u ∷ [])) t (n + length us)
      (ap (λ l. slice_index_or l (n + length us) None) (behind-both bits us (u ∷ []))
      ∙ get_or_push (behind bits us) (unit_bits u) None (n + length us) (let l = behind-long bits us in omega arith)
      ∙ e);
}

-- two integers of one width
record Both (count : ℕ) (bits : List (Option ℕ)) (us : List SsaUnit) (w : Width) (x y : Wanted) : Type 0 where
  units : UnitsIn count bits us
  first : NumberIn (behind bits us) w x
  second : NumberIn (behind bits us) w y

both : (count : ℕ) (bits : List (Option ℕ)) (p q : Numbered) (w : Width) → TypedAs count bits p (Integer w) → TypedAs count (behind bits p.units) q (Integer w) → Both count bits (p.units ++ q.units) w p.value q.value
both count bits p q w h g =
    let e = behind-both bits p.units q.units in
    record {
      units = units-both count bits p.units q.units h.units g.units;
      first = subst (λ l. NumberIn l w p.value) (sym e) (number-stays (behind bits p.units) (map unit_bits q.units) w p.value h.value);
      second = subst (λ l. NumberIn l w q.value) (sym e) g.value;
    }

-- what stands for parameters and names
pub record Held (params : List KParam) (given : List ValueType) (names : List Wanted) (bits : List (Option ℕ)) : Type 0 where
  pub args : (k : ℕ) (w : Width) → slice_get (integer_widths params) k ≡ Some w → slice_index_or bits k None ≡ Some (bits_of w)
  pub count : length names ≡ length given
  pub named : (k : ℕ) (t : ValueType) → slice_get given k ≡ Some t → TypedIn bits t (slice_index_or names k Nothing)

held-more : (params : List KParam) (given : List ValueType) (names : List Wanted) (bits more : List (Option ℕ)) → Held params given names bits → Held params given names (bits ++ more)
held-more params given names bits more h = record {
  args = λ k w e. stays bits more k (bits_of w) (h.args k w e);
  count = h.count;
  named = λ k t e. typed-stays bits more t (slice_index_or names k Nothing) (h.named k t e);
}

change : (op : Resize) (w v : Width) → IsTrue (is_resize op w v) → IsChange op w v
change Sext w v e = ltb-true (bits_of v) (bits_of w) e
change Zext w v e = ltb-true (bits_of v) (bits_of w) e
change Trunc w v e = ltb-true (bits_of w) (bits_of v) e

typed : (params : List KParam) (given : List ValueType) (names : List Wanted) (n : ℕ) (bits : List (Option ℕ)) (e : Expression) → IsExpression params given e → Held params given names bits → n ≡ length bits
    → TypedAs (length (pointers params)) bits (numbered n names e) (type_of e)
typed params given names n bits (argument k w) good held long = record { units = tt; value = stays bits [] k (bits_of w) (held.args k w good) }
typed params given names n bits (assigned k t) good held long = record { units = tt; value = typed-stays bits [] t (slice_index_or names k Nothing) (held.named k t good) }
typed params given names n bits (literal w v) good held long = record { units = tt; value = (refl, good) }
typed params given names n bits (load w a) good held long = typed-one (length (pointers params)) n bits [] (Load a w) (Integer w) long tt good refl
typed params given names n bits (two op w x y) good held long =
    let c = length (pointers params) in
    let p = numbered n names x in
    let q = numbered (n + length p.units) names y in
    let l = behind-long bits p.units in
    let first = subst (TypedAs c bits p) good.0 (typed params given names n bits x good.2 held long) in
    let second = subst (TypedAs c (behind bits p.units) q) good.1 (typed params given names (n + length p.units) (behind bits p.units) y good.3 (held-more params given names bits (map unit_bits p.units) held) (omega arith)) in
    let pair = both c bits p q w first second in
    typed-one c n bits (p.units ++ q.units) (Operation (Two op) w 0 (operands p.value q.value Nothing)) (Integer w) long pair.units (refl, pair.first, pair.second, refl) refl
typed params given names n bits (shift op w k x) good held long =
    let c = length (pointers params) in
    let p = numbered n names x in
    let first = subst (TypedAs c bits p) good.0 (typed params given names n bits x good.2 held long) in
    typed-one c n bits p.units (Operation (Shift op) w k (operands p.value Nothing Nothing)) (Integer w) long first.units (good.1, first.value, refl, refl) refl
typed params given names n bits (resize op w v x) good held long =
    let c = length (pointers params) in
    let p = numbered n names x in
    let first = subst (TypedAs c bits p) good.0 (typed params given names n bits x good.2 held long) in
    typed-one c n bits p.units (Operation (ToWidth op v) w 0 (operands p.value Nothing Nothing)) (Integer w) long first.units (refl, change op w v good.1, first.value, refl, refl) refl
typed params given names n bits (compare op w x y) good held long =
    let c = length (pointers params) in
    let p = numbered n names x in
    let q = numbered (n + length p.units) names y in
    let l = behind-long bits p.units in
    let first = subst (TypedAs c bits p) good.0 (typed params given names n bits x good.2 held long) in
    let second = subst (TypedAs c (behind bits p.units) q) good.1 (typed params given names (n + length p.units) (behind bits p.units) y good.3 (held-more params given names bits (map unit_bits p.units) held) (omega arith)) in
    let pair = both c bits p q w first second in
    typed-one c n bits (p.units ++ q.units) (Operation (Compare op) w 0 (operands p.value q.value Nothing)) Bit long pair.units (refl, pair.first, pair.second, refl) refl
typed params given names n bits (select w o x y) good held long =
    let c = length (pointers params) in
    let r = numbered n names o in
    let p = numbered (n + length r.units) names x in
    let front = r.units ++ p.units in
    let q = numbered (n + length front) names y in
    let l = behind-long bits r.units in
    let m = behind-long bits front in
    let e = behind-both bits r.units p.units in
    let f = behind-both bits front q.units in
    let held1 = held-more params given names bits (map unit_bits r.units) held in
    let held2 = held-more params given names bits (map unit_bits front) held in
    let bit = subst (TypedAs c bits r) good.0 (typed params given names n bits o good.3 held long) in
    let first = subst (TypedAs c (behind bits r.units) p) good.1 (typed params given names (n + length r.units) (behind bits r.units) x good.4 held1 (omega arith)) in
    let second = subst (TypedAs c (behind bits front) q) good.2 (typed params given names (n + length front) (behind bits front) y good.5 held2 (omega arith)) in
    let bit1 = subst (λ t. BitIn t r.value) (sym e) (bit-stays (behind bits r.units) (map unit_bits p.units) r.value bit.value) in
    let first1 = subst (λ t. NumberIn t w p.value) (sym e) first.value in
    typed-one c n bits (front ++ q.units) (Operation Select w 0 (operands r.value p.value q.value)) (Integer w) long
    (units-both c bits front q.units (units-both c bits r.units p.units bit.units first.units) second.units) (
      refl,
      subst (λ t. BitIn t r.value) (sym f) (bit-stays (behind bits front) (map unit_bits q.units) r.value bit1),
      subst (λ t. NumberIn t w p.value) (sym f) (number-stays (behind bits front) (map unit_bits q.units) w p.value first1),
      subst (λ t. NumberIn t w q.value) (sym f) second.value,
    ) refl

-- ---- statements

named-more : (bits : List (Option ℕ)) (given : List ValueType) (names : List Wanted) (t : ValueType) (x : Wanted) → length names ≡ length given
    → ((k : ℕ) (u : ValueType) → slice_get given k ≡ Some u → TypedIn bits u (slice_index_or names k Nothing)) → TypedIn bits t x
    → (k : ℕ) (u : ValueType) → slice_get (given ++ t ∷ []) k ≡ Some u → TypedIn bits u (slice_index_or (names ++ x ∷ []) k Nothing)
named-more bits [] [] t x c h g zero u e = let same : t ≡ u = cc in subst (λ s. TypedIn bits s x) same g
named-more bits [] [] t x c h g (suc k) u e = absurd (cc)
named-more bits [] (y ∷ names) t x c h g k u e = absurd (omega arith)
named-more bits (s ∷ given) [] t x c h g k u e = absurd (omega arith)
named-more bits (s ∷ given) (y ∷ names) t x c h g zero u e = h 0 u e
named-more bits (s ∷ given) (y ∷ names) t x c h g (suc k) u e =
    named-more bits given names t x (omega arith) (λ j. h (suc j)) g k u e

held-named : (params : List KParam) (given : List ValueType) (names : List Wanted) (bits : List (Option ℕ)) (t : ValueType) (x : Wanted) → Held params given names bits → TypedIn bits t x → Held params (given ++ t ∷ []) (names ++ x ∷ []) bits
held-named params given names bits t x h g = record {
  args = h.args;
  count = (let a = length_push names x in let b = length_push given t in let c = h.count in omega arith);
  named = named-more bits given names t x h.count h.named g;
}

pub statements-typed : (params : List KParam) (given : List ValueType) (names : List Wanted) (n : ℕ) (bits : List (Option ℕ)) (ss : List Statement) → AreStatements params given ss → Held params given names bits → n ≡ length bits
    → UnitsIn (length (pointers params)) bits (units_from n names ss)
statements-typed params given names n bits [] good held long = tt
statements-typed params given names n bits (assign e ∷ ss) good held long =
    let p = numbered n names e in
    let l = behind-long bits p.units in
    let first = typed params given names n bits e good.0.0 held long in
    units-both (length (pointers params)) bits p.units (units_from (n + length p.units) (names ++ p.value ∷ []) ss) first.units
    (statements-typed params (given ++ gives (assign e)) (names ++ p.value ∷ []) (n + length p.units) (behind bits p.units) ss good.1
    (held-named params given names (behind bits p.units) (type_of e) p.value (held-more params given names bits (map unit_bits p.units) held) first.value) (omega arith))
statements-typed params given names n bits (store w a e ∷ ss) good held long =
    let c = length (pointers params) in
    let p = numbered n names e in
    let one = Store a w p.value ∷ [] in
    let l = behind-long bits (p.units ++ one) in
    let m = length_push p.units (Store a w p.value) in
    let first = subst (TypedAs c bits p) good.0.3 (typed params given names n bits e good.0.1 held long) in
    let rest : AreStatements params given ss = subst (λ g. AreStatements params g ss) (append-nil given) good.1 in
    units-both c bits (p.units ++ one) (units_from (n + length p.units + 1) names ss)
    (units-both c bits p.units one first.units ((good.0.0, first.value), tt))
    (statements-typed params given names (n + length p.units + 1) (behind bits (p.units ++ one)) ss rest (held-more params given names bits (map unit_bits (p.units ++ one)) held) (omega arith))
