-- When operands of units have the widths that the units want.
use Rattle.std.proofs.Common.{◌≡◌, ℕ, zero, suc, ◌+◌, ◌<◌, ◌^◌, List, [], ◌∷◌, ◌++◌, length, map, Option, Some, None, sym, ap, subst, ◌∙◌, append_assoc, append-nil}
use Rattle.std.specs.Prelude.{slice_index_or}
use Rattle.std.proofs.lemmas.List.{length-append, length-map, map-append}
use Rattle.vg_base.specs.Offset.{IsAddress}
use Rattle.vg_base.specs.declared.width.Width.{Width}
use Rattle.vg_base.specs.Width.{bits_of}
use Rattle.vg_shapes.specs.declared.ssa_unit.Operands.{Operands}
use Rattle.vg_shapes.specs.declared.ssa_unit.Operator.{Operator}
use Rattle.vg_shapes.specs.declared.ssa_unit.Operator.TheVariants.{Two, Shift, Resize as ToWidth, Compare, Select}
use Rattle.vg_shapes.specs.declared.ssa_unit.SsaUnit.{SsaUnit}
use Rattle.vg_shapes.specs.declared.ssa_unit.SsaUnit.TheVariants.{Load, Store, Operation}
use Rattle.vg_shapes.specs.declared.wanted.Wanted.{Wanted}
use Rattle.vg_shapes.specs.declared.wanted.Wanted.TheVariants.{Value, Constant, Nothing}
use Rattle.vg_shapes.specs.Sound.{IsChange, unit_bits}

-- ---- what is asked, where the values so far have these widths; a store has none

abbrev pub NumberIn : List (Option ℕ) → Width → Wanted → Type 0
NumberIn bits w (Value v) = slice_index_or bits v None ≡ Some (bits_of w)
NumberIn bits w (Constant m k) = (m ≡ bits_of w) × (k < 2 ^ m)
NumberIn bits w Nothing = ⊥

abbrev pub BitIn : List (Option ℕ) → Wanted → Type 0
BitIn bits (Value v) = slice_index_or bits v None ≡ Some 1
BitIn bits (Constant m k) = ⊥
BitIn bits Nothing = ⊥

abbrev pub OperationIn : List (Option ℕ) → Operator → Width → ℕ → Operands → Type 0
OperationIn bits (Two op) w k xs = (k ≡ 0) × NumberIn bits w xs.first × NumberIn bits w xs.second × (xs.third ≡ Nothing)
OperationIn bits (Shift op) w k xs = (k < bits_of w) × NumberIn bits w xs.first × (xs.second ≡ Nothing) × (xs.third ≡ Nothing)
OperationIn bits (ToWidth op v) w k xs = (k ≡ 0) × IsChange op w v × NumberIn bits v xs.first × (xs.second ≡ Nothing) × (xs.third ≡ Nothing)
OperationIn bits (Compare op) w k xs = (k ≡ 0) × NumberIn bits w xs.first × NumberIn bits w xs.second × (xs.third ≡ Nothing)
OperationIn bits Select w k xs = (k ≡ 0) × BitIn bits xs.first × NumberIn bits w xs.second × NumberIn bits w xs.third

abbrev pub UnitIn : ℕ → List (Option ℕ) → SsaUnit → Type 0
UnitIn count bits (Load a w) = IsAddress count a
UnitIn count bits (Store a w x) = IsAddress count a × NumberIn bits w x
UnitIn count bits (Operation op w k xs) = OperationIn bits op w k xs

abbrev pub UnitsIn : ℕ → List (Option ℕ) → List SsaUnit → Type 0
UnitsIn count bits [] = Unit {0}
UnitsIn count bits (u ∷ us) = UnitIn count bits u × UnitsIn count (bits ++ unit_bits u ∷ []) us

-- ---- more values

pub stays : (bits more : List (Option ℕ)) (v w : ℕ) → slice_index_or bits v None ≡ Some w → slice_index_or (bits ++ more) v None ≡ Some w
stays [] more v w e = absurd (cc)
stays (b ∷ bits) more zero w e = e
stays (b ∷ bits) more (suc v) w e = stays bits more v w e

pub number-stays : (bits more : List (Option ℕ)) (w : Width) (x : Wanted) → NumberIn bits w x → NumberIn (bits ++ more) w x
number-stays bits more w (Value v) h = stays bits more v (bits_of w) h
number-stays bits more w (Constant m k) h = h
number-stays bits more w Nothing h = h

pub bit-stays : (bits more : List (Option ℕ)) (x : Wanted) → BitIn bits x → BitIn (bits ++ more) x
bit-stays bits more (Value v) h = stays bits more v 1 h
bit-stays bits more (Constant m k) h = h
bit-stays bits more Nothing h = h

-- the widths after units
abbrev pub behind : List (Option ℕ) → List SsaUnit → List (Option ℕ)
behind bits us = bits ++ map unit_bits us

pub behind-both : (bits : List (Option ℕ)) (us vs : List SsaUnit) → behind bits (us ++ vs) ≡ behind (behind bits us) vs
behind-both bits us vs = ap (λ l. bits ++ l) (map-append unit_bits us vs) ∙ sym (append_assoc bits (map unit_bits us) (map unit_bits vs))

pub behind-long : (bits : List (Option ℕ)) (us : List SsaUnit) → length (behind bits us) ≡ length bits + length us
behind-long bits us = length-append bits (map unit_bits us) ∙ ap (λ n. length bits + n) (length-map us unit_bits)

pub units-both : (count : ℕ) (bits : List (Option ℕ)) (us vs : List SsaUnit) → UnitsIn count bits us → UnitsIn count (behind bits us) vs → UnitsIn count bits (us ++ vs)
units-both count bits [] vs h g = subst (λ l. UnitsIn count l vs) (append-nil bits) g
units-both count bits (u ∷ us) vs h g =
    (h.0, units-both count (bits ++ unit_bits u ∷ []) us vs h.1 (subst (λ l. UnitsIn count l vs) (sym (append_assoc bits (unit_bits u ∷ []) (map unit_bits us))) g))
