-- Units that take values of the widths that they want can be numbered.
use Rattle.std.proofs.Common.{◌≡◌, ℕ, List, [], ◌∷◌, ◌++◌, length, map, Option, Some, None, sym, ap, ◌∙◌, subst, arith, append_assoc}
use Rattle.std.specs.Prelude.{filter, not, slice_index_or}
use Rattle.std.specs.List.{AllByRecursion}
use Rattle.std.proofs.lemmas.Bool.{leb-true}
use Rattle.std.proofs.lemmas.List.{length-map, length_push}
use Rattle.vg_base.specs.declared.width.Width.{Width}
use Rattle.vg_base.specs.Width.{bits_of}
use Rattle.vg_rewrite.specs.Renumbering.{AreTyped, CanBeRenumbered}
use Rattle.vg_rewrite.specs.Rewritten.{over}
use Rattle.vg_shapes.specs.declared.ssa.Ssa.{Ssa}
use Rattle.vg_shapes.specs.declared.ssa_unit.Operands.{Operands}
use Rattle.vg_shapes.specs.declared.ssa_unit.Operator.{Operator}
use Rattle.vg_shapes.specs.declared.ssa_unit.Operator.TheVariants.{Two, Shift, Resize, Compare, Select}
use Rattle.vg_shapes.specs.declared.ssa_unit.SsaUnit.{SsaUnit}
use Rattle.vg_shapes.specs.declared.ssa_unit.SsaUnit.TheVariants.{Load, Store, Operation}
use Rattle.vg_shapes.specs.declared.wanted.Wanted.{Wanted}
use Rattle.vg_shapes.specs.declared.wanted.Wanted.TheVariants.{Value, Constant, Nothing}
use Rattle.vg_shapes.specs.Sound.{IsBit, IsEarlier, IsNumber, IsOperation, IsSound, is_store, IsUnit, kind_bits, pointers, TakeEarlier, TakesEarlier, unit_bits, value_bits}
use Rattle.vg_shapes.specs.Units.{integers}
use Rattle.vg_ssa.proofs.Soundness.{some-below, value-at, widths}
use Rattle.vg_ssa.proofs.Typing.{behind, BitIn, bit-stays, NumberIn, number-stays, OperationIn, UnitIn, UnitsIn}

-- ---- earlier values

number-earlier : (bits : List (Option ℕ)) (w : Width) (x : Wanted) → NumberIn bits w x → IsEarlier (length bits) x
number-earlier bits w (Value v) h = some-below bits v (bits_of w) h
number-earlier bits w (Constant m k) h = tt
number-earlier bits w Nothing h = tt

bit-earlier : (bits : List (Option ℕ)) (x : Wanted) → BitIn bits x → IsEarlier (length bits) x
bit-earlier bits (Value v) h = some-below bits v 1 h
bit-earlier bits (Constant m k) h = tt
bit-earlier bits Nothing h = tt

nothing-earlier : (n : ℕ) (x : Wanted) → x ≡ Nothing → IsEarlier n x
nothing-earlier n x e = subst (IsEarlier n) (sym e) tt

unit-earlier : (count : ℕ) (bits : List (Option ℕ)) (u : SsaUnit) → UnitIn count bits u → TakesEarlier (length bits) u
unit-earlier count bits (Load a w) h = tt
unit-earlier count bits (Store a w x) h = number-earlier bits w x h.1
unit-earlier count bits (Operation (Two op) w k xs) h = (number-earlier bits w xs.first h.1, number-earlier bits w xs.second h.2, nothing-earlier (length bits) xs.third h.3)
unit-earlier count bits (Operation (Shift op) w k xs) h = (number-earlier bits w xs.first h.1, nothing-earlier (length bits) xs.second h.2, nothing-earlier (length bits) xs.third h.3)
unit-earlier count bits (Operation (Resize op v) w k xs) h = (number-earlier bits v xs.first h.2, nothing-earlier (length bits) xs.second h.3, nothing-earlier (length bits) xs.third h.4)
unit-earlier count bits (Operation (Compare op) w k xs) h = (number-earlier bits w xs.first h.1, number-earlier bits w xs.second h.2, nothing-earlier (length bits) xs.third h.3)
unit-earlier count bits (Operation Select w k xs) h = (bit-earlier bits xs.first h.1, number-earlier bits w xs.second h.2, number-earlier bits w xs.third h.3)

pub units-earlier : (count : ℕ) (bits : List (Option ℕ)) (us : List SsaUnit) → UnitsIn count bits us → TakeEarlier (length bits) us
units-earlier count bits [] h = tt
units-earlier count bits (u ∷ us) h = (unit-earlier count bits u h.0, subst (λ n. TakeEarlier n us) (length_push bits (unit_bits u)) (units-earlier count (bits ++ unit_bits u ∷ []) us h.1))

-- ---- the rules on units

number-is : (ssa : Ssa) (bits : List (Option ℕ)) (w : Width) (x : Wanted) → ((v : ℕ) → value_bits ssa v ≡ slice_index_or bits v None) → NumberIn bits w x → IsNumber ssa w x
number-is ssa bits w (Value v) same h = same v ∙ h
number-is ssa bits w (Constant m k) same h = h
number-is ssa bits w Nothing same h = h

bit-is : (ssa : Ssa) (bits : List (Option ℕ)) (x : Wanted) → ((v : ℕ) → value_bits ssa v ≡ slice_index_or bits v None) → BitIn bits x → IsBit ssa x
bit-is ssa bits (Value v) same h = same v ∙ h
bit-is ssa bits (Constant m k) same h = h
bit-is ssa bits Nothing same h = h

module _ (ssa : Ssa) (bits more : List (Option ℕ)) (same : (v : ℕ) → value_bits ssa v ≡ slice_index_or (bits ++ more) v None) where
  number : (w : Width) (x : Wanted) → NumberIn bits w x → IsNumber ssa w x
  number w x h = number-is ssa (bits ++ more) w x same (number-stays bits more w x h)

  operation-is : (op : Operator) (w : Width) (k : ℕ) (xs : Operands) → OperationIn bits op w k xs → IsOperation ssa op w k xs
  operation-is (Two op) w k xs h = (h.0, number w xs.first h.1, number w xs.second h.2, h.3)
  operation-is (Shift op) w k xs h = (h.0, number w xs.first h.1, h.2, h.3)
  operation-is (Resize op v) w k xs h = (h.0, h.1, number v xs.first h.2, h.3, h.4)
  operation-is (Compare op) w k xs h = (h.0, number w xs.first h.1, number w xs.second h.2, h.3)
  operation-is Select w k xs h = (h.0, bit-is ssa (bits ++ more) xs.first same (bit-stays bits more xs.first h.1), number w xs.second h.2, number w xs.third h.3)

  unit-is : (u : SsaUnit) → UnitIn (length (pointers ssa)) bits u → IsUnit ssa u
  unit-is (Load a w) h = h
  unit-is (Store a w x) h = (h.0, number w x h.1)
  unit-is (Operation op w k xs) h = operation-is op w k xs h

units-are : (ssa : Ssa) (bits : List (Option ℕ)) (us : List SsaUnit) → ((v : ℕ) → value_bits ssa v ≡ slice_index_or (behind bits us) v None) → UnitsIn (length (pointers ssa)) bits us → AllByRecursion (IsUnit ssa) us
units-are ssa bits [] same h = tt
units-are ssa bits (u ∷ us) same h = (
  unit-is ssa bits (map unit_bits (u ∷ us)) same u h.0,
  units-are ssa (bits ++ unit_bits u ∷ []) us (λ v. same v ∙ ap (λ l. slice_index_or l v None) (sym (append_assoc bits (unit_bits u ∷ []) (map unit_bits us)))) h.1,
)

-- so are the values of these units
pub over-typed : (ssa : Ssa) (us : List SsaUnit) → UnitsIn (length (pointers ssa)) (widths (integers ssa)) us
    → AreTyped (over ssa us)
over-typed ssa us typed = record {
  units = units-are (over ssa us) (widths (integers ssa)) us (value-at (integers ssa) us) typed;
  earlier = subst (λ n. TakeEarlier n us) (length-map (integers ssa) (λ p. Some (kind_bits p.kind)))
      (units-earlier (length (pointers ssa)) (widths (integers ssa)) us typed);
}

pub can-be : (ssa : Ssa) (us : List SsaUnit) → IsSound ssa → UnitsIn (length (pointers ssa)) (widths (integers ssa)) us → length (filter is_store us) ≡ length (filter is_store ssa.units) → CanBeRenumbered ssa us
can-be ssa us sound typed stores few = record {
  name = sound.name;
  names = sound.names;
  distinct = sound.distinct;
  params = sound.params;
  stores = (let most = sound.stores in omega arith);
  uses = leb-true (length (filter (λ u. not (is_store u)) us)) 8192 few;
  units = (over-typed ssa us typed).units;
  earlier = (over-typed ssa us typed).earlier;
}
