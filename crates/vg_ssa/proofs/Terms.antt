-- The terms of the values of typed units: each has the width of its value, and each operation can take those of its operands.
use Rattle.std.proofs.Common.{◌≡◌, ℕ, zero, suc, ◌+◌, ◌<◌, ◌^◌, Bool, true, false, List, [], ◌∷◌, ◌++◌, length, map, Option, Some, None, refl, sym, subst, ◌∙◌, arith, append_assoc, append-nil}
use Rattle.std.specs.Prelude.{◌&&◌, ◌||◌, nat_eq, nat_le, nat_lt, slice_index_or, if◌then◌else◌}
use Rattle.std.proofs.lemmas.List.{length_push}
use Rattle.vg_base.specs.declared.width.Width.{Width}
use Rattle.vg_base.specs.Width.{bits_of}
use Rattle.vg_canon.proofs.Steps.{leaf-finished, constant-finished}
use Rattle.vg_shapes.specs.declared.ssa_unit.Operands.{Operands}
use Rattle.vg_shapes.specs.declared.ssa_unit.Operator.{Operator}
use Rattle.vg_shapes.specs.declared.ssa_unit.Operator.TheVariants.{Two, Shift, Resize, Compare, Select}
use Rattle.vg_shapes.specs.declared.ssa_unit.SsaUnit.{SsaUnit}
use Rattle.vg_shapes.specs.declared.ssa_unit.SsaUnit.TheVariants.{Load, Store, Operation}
use Rattle.vg_shapes.specs.declared.wanted.Wanted.{Wanted}
use Rattle.vg_shapes.specs.declared.wanted.Wanted.TheVariants.{Value, Constant, Nothing}
use Rattle.vg_shapes.specs.Sound.{AreUnitTerms, cut_key, IsUnitTerm, load_key, result_bits, unit_bits}
use Rattle.vg_ssa.specs.Fitting.{Fit, IsTermOf, UnitFits, UnitsFit}
use Rattle.vg_ssa.specs.declared.value_terms.Depth.{Depth}
use Rattle.vg_ssa.specs.ValueTerm.{cut_term, looks_in, no_term, operand_term, over_operands, terms_behind, unit_term, writes_bits}
use Rattle.vg_ssa.proofs.OperationTerms.{bits-width, canonical-term}
use Rattle.vg_ssa.proofs.Typing.{behind, BitIn, NumberIn, OperationIn, UnitIn, UnitsIn}
use Rattle.vg_terms.specs.declared.term.LeafKey.{LeafKey}
use Rattle.vg_terms.specs.Term.{Tree, constant, IsWidth, leaf, node_count, width_of}

-- ---- lists of terms

-- the terms of units after those so far
abbrev pub terms_after : Depth → ℕ → List Tree → List SsaUnit → List Tree
terms_after d first terms [] = []
terms_after d first terms (u ∷ us) = unit_term d first terms u ∷ terms_after d first (terms ++ unit_term d first terms u ∷ []) us

pub terms-behind : (d : Depth) (first : ℕ) (terms : List Tree) (us : List SsaUnit) → terms_behind d first terms us ≡ terms ++ terms_after d first terms us
terms-behind d first terms [] = sym (append-nil terms)
terms-behind d first terms (u ∷ us) =
    let t = unit_term d first terms u in
    terms-behind d first (terms ++ t ∷ []) us ∙ append_assoc terms (t ∷ []) (terms_after d first (terms ++ t ∷ []) us)

pub terms-both : (d : Depth) (first : ℕ) (terms : List Tree) (us vs : List SsaUnit) → terms_behind d first terms (us ++ vs) ≡ terms_behind d first (terms_behind d first terms us) vs
terms-both d first terms [] vs = refl
terms-both d first terms (u ∷ us) vs = terms-both d first (terms ++ unit_term d first terms u ∷ []) us vs

pub terms-long : (d : Depth) (first : ℕ) (terms : List Tree) (us : List SsaUnit) → length (terms_behind d first terms us) ≡ length terms + length us
terms-long d first terms [] = (let e : length terms ≡ length terms + 0 = omega arith in e)
terms-long d first terms (u ∷ us) =
    let rest = terms-long d first (terms ++ unit_term d first terms u ∷ []) us in
    let one = length_push terms (unit_term d first terms u) in
    rest ∙ (let e : length (terms ++ unit_term d first terms u ∷ []) + length us ≡ length terms + suc (length us) = omega arith in e)

-- ---- the terms that stand

-- each value with a width has a canonical term of it
pub record Stand (bits : List (Option ℕ)) (terms : List Tree) : Type 0 where
  pub long : length terms ≡ length bits
  pub each : (v w : ℕ) → slice_index_or bits v None ≡ Some w → IsWidth w × IsTermOf w (slice_index_or terms v no_term)

pub leaf-term : (w : ℕ) (key : LeafKey) → IsWidth w → IsTermOf w (leaf w key)
leaf-term w key h = record { well_formed = h; width = refl; is_canonical = leaf-finished w key h }

pub constant-term : (w n : ℕ) → IsWidth w → n < 2 ^ w → IsTermOf w (constant w n)
constant-term w n h l = record { well_formed = (h, l); width = refl; is_canonical = constant-finished w n (h, l) }

number-term : (bits : List (Option ℕ)) (terms : List Tree) (w : Width) (x : Wanted) → Stand bits terms → NumberIn bits w x → IsTermOf (bits_of w) (operand_term terms x)
number-term bits terms w (Value v) s h = (s.each v (bits_of w) h).1
number-term bits terms w (Constant m k) s h = subst (λ n. IsTermOf n (constant m k)) h.0 (constant-term m k (subst IsWidth (sym h.0) (bits-width w)) h.1)
number-term bits terms w Nothing s h = absurd h

bit-term : (bits : List (Option ℕ)) (terms : List Tree) (x : Wanted) → Stand bits terms → BitIn bits x → IsTermOf 1 (operand_term terms x)
bit-term bits terms (Value v) s h = (s.each v 1 h).1
bit-term bits terms (Constant m k) s h = absurd h
bit-term bits terms Nothing s h = absurd h

-- a value that is cut, or not
cut-either : (b : Bool) (w v : ℕ) (t : Tree) → IsWidth w → IsTermOf w t → IsTermOf w (if b then t else leaf (width_of t) (cut_key v))
cut-either true w v t h s = s
cut-either false w v t h s = subst (λ n. IsTermOf w (leaf n (cut_key v))) (sym s.width) (leaf-term w (cut_key v) h)

number-cut : (b : Bool) (first : ℕ) (bits : List (Option ℕ)) (terms : List Tree) (w : Width) (x : Wanted) → Stand bits terms → NumberIn bits w x → IsTermOf (bits_of w) (cut_term b first terms x)
number-cut b first bits terms w (Value v) s h = let e = s.each v (bits_of w) h in cut-either (nat_lt v first || (b && nat_eq (width_of (slice_index_or terms v no_term)) 1)) (bits_of w) v (slice_index_or terms v no_term) e.0 e.1
number-cut b first bits terms w (Constant m k) s h = number-term bits terms w (Constant m k) s h
number-cut b first bits terms w Nothing s h = absurd h

bit-cut : (b : Bool) (first : ℕ) (bits : List (Option ℕ)) (terms : List Tree) (x : Wanted) → Stand bits terms → BitIn bits x → IsTermOf 1 (cut_term b first terms x)
bit-cut b first bits terms (Value v) s h = let e = s.each v 1 h in cut-either (nat_lt v first || (b && nat_eq (width_of (slice_index_or terms v no_term)) 1)) 1 v (slice_index_or terms v no_term) e.0 e.1
bit-cut b first bits terms (Constant m k) s h = absurd h
bit-cut b first bits terms Nothing s h = absurd h

pub whole-fit : (bits : List (Option ℕ)) (terms : List Tree) (op : Operator) (w : Width) (k : ℕ) (xs : Operands) → Stand bits terms → OperationIn bits op w k xs → Fit (operand_term terms) op w k xs
whole-fit bits terms (Two op) w k xs s h = (number-term bits terms w xs.first s h.1, number-term bits terms w xs.second s h.2)
whole-fit bits terms (Shift op) w k xs s h = (h.0, number-term bits terms w xs.first s h.1)
whole-fit bits terms (Resize op v) w k xs s h = (h.1, number-term bits terms v xs.first s h.2)
whole-fit bits terms (Compare op) w k xs s h = (number-term bits terms w xs.first s h.1, number-term bits terms w xs.second s h.2)
whole-fit bits terms Select w k xs s h = (bit-term bits terms xs.first s h.1, number-term bits terms w xs.second s h.2, number-term bits terms w xs.third s h.3)

pub cut-fit : (b : Bool) (first : ℕ) (bits : List (Option ℕ)) (terms : List Tree) (op : Operator) (w : Width) (k : ℕ) (xs : Operands) → Stand bits terms → OperationIn bits op w k xs → Fit (cut_term b first terms) op w k xs
cut-fit b first bits terms (Two op) w k xs s h = (number-cut b first bits terms w xs.first s h.1, number-cut b first bits terms w xs.second s h.2)
cut-fit b first bits terms (Shift op) w k xs s h = (h.0, number-cut b first bits terms w xs.first s h.1)
cut-fit b first bits terms (Resize op v) w k xs s h = (h.1, number-cut b first bits terms v xs.first s h.2)
cut-fit b first bits terms (Compare op) w k xs s h = (number-cut b first bits terms w xs.first s h.1, number-cut b first bits terms w xs.second s h.2)
cut-fit b first bits terms Select w k xs s h = (bit-cut b first bits terms xs.first s h.1, number-cut b first bits terms w xs.second s h.2, number-cut b first bits terms w xs.third s h.3)

fits : (d : Depth) (count first : ℕ) (bits : List (Option ℕ)) (terms : List Tree) (u : SsaUnit) → Stand bits terms → UnitIn count bits u → UnitFits d first terms u
fits d count first bits terms (Load a w) s h = tt
fits d count first bits terms (Store a w x) s h = tt
fits d count first bits terms (Operation op w k xs) s h = (whole-fit bits terms op w k xs s h, cut-fit (writes_bits d) first bits terms op w k xs s h)

-- ---- the term of one unit

result-width : (op : Operator) (w : Width) → IsWidth (result_bits op w)
result-width (Two op) w = bits-width w
result-width (Shift op) w = bits-width w
result-width (Resize op v) w = bits-width w
result-width (Compare op) w = (omega arith, omega arith)
result-width Select w = bits-width w

either-term : (b : Bool) (w : ℕ) (x y : Tree) → IsTermOf w x → IsTermOf w y → IsTermOf w (if b then x else y)
either-term true w x y h g = h
either-term false w x y h g = g

-- the operation over whole operands, or cut ones
pub operation-term : (d : Depth) (first : ℕ) (terms : List Tree) (op : Operator) (w : Width) (k : ℕ) (xs : Operands) → UnitFits d first terms (Operation op w k xs)
    → IsTermOf (result_bits op w) (unit_term d first terms (Operation op w k xs))
operation-term d first terms op w k xs h =
    either-term (looks_in d && nat_le (node_count (over_operands (operand_term terms) op (bits_of w) k xs)) 128) (result_bits op w)
    (over_operands (operand_term terms) op (bits_of w) k xs) (over_operands (cut_term (writes_bits d) first terms) op (bits_of w) k xs)
    (canonical-term op w k (operand_term terms xs.first) (operand_term terms xs.second) (operand_term terms xs.third) h.0)
    (canonical-term op w k (cut_term (writes_bits d) first terms xs.first) (cut_term (writes_bits d) first terms xs.second) (cut_term (writes_bits d) first terms xs.third) h.1)

unit-width : (d : Depth) (first : ℕ) (terms : List Tree) (u : SsaUnit) (w : ℕ) → UnitFits d first terms u → unit_bits u ≡ Some w → IsWidth w × IsTermOf w (unit_term d first terms u)
unit-width d first terms (Load a v) w h e =
    let same : bits_of v ≡ w = cc in
    let P : ℕ → Type 0 = λ n. IsWidth n × IsTermOf n (unit_term d first terms (Load a v)) in
    subst P same (bits-width v, leaf-term (bits_of v) (load_key a (length terms)) (bits-width v))
unit-width d first terms (Store a v x) w h e = absurd (cc)
unit-width d first terms (Operation op v k xs) w h e =
    let same : result_bits op v ≡ w = cc in
    let P : ℕ → Type 0 = λ n. IsWidth n × IsTermOf n (unit_term d first terms (Operation op v k xs)) in
    subst P same (result-width op v, operation-term d first terms op v k xs h)

each-more : (bits : List (Option ℕ)) (terms : List Tree) (b : Option ℕ) (t : Tree) → length terms ≡ length bits
    → ((v w : ℕ) → slice_index_or bits v None ≡ Some w → IsWidth w × IsTermOf w (slice_index_or terms v no_term))
    → ((w : ℕ) → b ≡ Some w → IsWidth w × IsTermOf w t)
    → (v w : ℕ) → slice_index_or (bits ++ b ∷ []) v None ≡ Some w → IsWidth w × IsTermOf w (slice_index_or (terms ++ t ∷ []) v no_term)
each-more [] [] b t l h g zero w e = g w e
each-more [] [] b t l h g (suc v) w e = absurd (cc)
each-more [] (x ∷ terms) b t l h g v w e = absurd (omega arith)
each-more (a ∷ bits) [] b t l h g v w e = absurd (omega arith)
each-more (a ∷ bits) (x ∷ terms) b t l h g zero w e = h 0 w e
each-more (a ∷ bits) (x ∷ terms) b t l h g (suc v) w e = each-more bits terms b t (omega arith) (λ j. h (suc j)) g v w e

pub stand-more : (d : Depth) (count first : ℕ) (bits : List (Option ℕ)) (terms : List Tree) (u : SsaUnit) → Stand bits terms → UnitIn count bits u → Stand (bits ++ unit_bits u ∷ []) (terms ++ unit_term d first terms u ∷ [])
stand-more d count first bits terms u s h =
    let fit = fits d count first bits terms u s h in
    record {
      long = (let a = length_push bits (unit_bits u) in let b = length_push terms (unit_term d first terms u) in let c = s.long in omega arith);
      each = each-more bits terms (unit_bits u) (unit_term d first terms u) s.long s.each (λ w e. unit-width d first terms u w fit e);
    }

-- ---- all units

pub units-fit : (d : Depth) (count first : ℕ) (bits : List (Option ℕ)) (terms : List Tree) (us : List SsaUnit) → Stand bits terms → UnitsIn count bits us → UnitsFit d first terms us
units-fit d count first bits terms [] s h = tt
units-fit d count first bits terms (u ∷ us) s h =
    (fits d count first bits terms u s h.0, units-fit d count first (bits ++ unit_bits u ∷ []) (terms ++ unit_term d first terms u ∷ []) us (stand-more d count first bits terms u s h.0) h.1)

-- all of them stand
pub stand-behind : (d : Depth) (count first : ℕ) (bits : List (Option ℕ)) (terms : List Tree) (us : List SsaUnit) → Stand bits terms → UnitsIn count bits us → Stand (behind bits us) (terms_behind d first terms us)
stand-behind d count first bits terms [] s h = subst (λ l. Stand l terms) (sym (append-nil bits)) s
stand-behind d count first bits terms (u ∷ us) s h =
    subst (λ l. Stand l (terms_behind d first terms (u ∷ us))) (append_assoc bits (unit_bits u ∷ []) (map unit_bits us))
    (stand-behind d count first (bits ++ unit_bits u ∷ []) (terms ++ unit_term d first terms u ∷ []) us (stand-more d count first bits terms u s h.0) h.1)

is-unit-term : (d : Depth) (first : ℕ) (terms : List Tree) (u : SsaUnit) → UnitFits d first terms u → IsUnitTerm (length terms) u (unit_term d first terms u)
is-unit-term d first terms (Load a w) h = refl
is-unit-term d first terms (Store a w x) h = refl
is-unit-term d first terms (Operation op w k xs) h = let t = operation-term d first terms op w k xs h in (t.well_formed, t.width)

pub unit-terms : (d : Depth) (first : ℕ) (terms : List Tree) (us : List SsaUnit) → UnitsFit d first terms us → AreUnitTerms (length terms) us (terms_after d first terms us)
unit-terms d first terms [] h = refl
unit-terms d first terms (u ∷ us) h =
    let t = unit_term d first terms u in
    (is-unit-term d first terms u h.0, subst (λ n. AreUnitTerms n us (terms_after d first (terms ++ t ∷ []) us)) (length_push terms t) (unit-terms d first (terms ++ t ∷ []) us h.1))
