-- The operators on bits of numbers of 128 signed bits, and shifts of them.
use Rattle.std.proofs.Common.{◌≡◌, ℕ, ◌%◌, ◌<◌, ◌^◌, sym, arith, to_z, of_z}
use Rattle.std.specs.Prelude.{ℤ, pos, negsuc, FitsSigned, bit_and, bit_or, bit_xor, min}
use Rattle.std.specs.Int.{w128}
use Rattle.std.proofs.Math.Nat.{mod-eq_of_lt}
use Rattle.std.proofs.lemmas.Int.{to_z-of_z}
use Rattle.vg_base.specs.Number.{residue, floor_shift}
use Rattle.vg_terms.proofs.Shifts.{floor_shift-capped}
use Rattle.vg_pseudo.specs.Whole.{both_bits, either_bits, unequal_bits}
use Rattle.vg_interval.proofs.Fitting.{fits_range}
use Rattle.vg_interval.proofs.Intervals.{Fits, both-magnitude, either-magnitude, unequal-magnitude}
use Rattle.vg_interval.proofs.Words.{residue-and, residue-or, residue-xor}

of_residue : (x : ℤ) → Fits x → of_z w128 x ≡ residue 128 x
of_residue (pos n) f = let s : n < 2 ^ 128 = omega (arith, f.small) in sym (mod-eq_of_lt s)
of_residue (negsuc n) f =
    let s : n < 2 ^ 128 = omega (arith, f.small) in
    let e : n % 2 ^ 128 ≡ n = mod-eq_of_lt s in
    rw e (omega arith)

signed_fits : (x : ℤ) → Fits x → FitsSigned w128 x
signed_fits (pos n) f = record { sfits = f.small }
signed_fits (negsuc n) f = record { sfits = f.small }

-- an operator of bits that is one of residues
on_bits : (f : ℕ → ℕ → ℕ) (g : ℤ → ℤ → ℤ) (x y : ℤ) → FitsSigned w128 x → FitsSigned w128 y → Fits (g x y)
    → residue 128 (g x y) ≡ f (residue 128 x) (residue 128 y) → to_z w128 (f (of_z w128 x) (of_z w128 y)) ≡ g x y
on_bits f g x y p q fits e =
    rw (of_residue x (fits_range x p), of_residue y (fits_range y q), sym e, sym (of_residue (g x y) fits))
    (to_z-of_z w128 (g x y) (signed_fits (g x y) fits))

pub either_is : (x y : ℤ) → FitsSigned w128 x → FitsSigned w128 y → to_z w128 (bit_or (of_z w128 x) (of_z w128 y)) ≡ either_bits x y
either_is x y p q =
    on_bits bit_or either_bits x y p q
    (record { small = either-magnitude x y 127 (fits_range x p).small (fits_range y q).small }) (residue-or 128 x y)

pub unequal_is : (x y : ℤ) → FitsSigned w128 x → FitsSigned w128 y → to_z w128 (bit_xor (of_z w128 x) (of_z w128 y)) ≡ unequal_bits x y
unequal_is x y p q =
    on_bits bit_xor unequal_bits x y p q
    (record { small = unequal-magnitude x y 127 (fits_range x p).small (fits_range y q).small }) (residue-xor 128 x y)

pub both_is : (x y : ℤ) → FitsSigned w128 x → FitsSigned w128 y → to_z w128 (bit_and (of_z w128 x) (of_z w128 y)) ≡ both_bits x y
both_is x y p q =
    on_bits bit_and both_bits x y p q
    (record { small = both-magnitude x y 127 (fits_range x p).small (fits_range y q).small }) (residue-and 128 x y)

-- by more than 127 places a number of 128 signed bits is shifted as by 127
pub capped : (x : ℤ) (n : ℕ) → FitsSigned w128 x → floor_shift x (min n 127) ≡ floor_shift x n
capped x n p = sym (floor_shift-capped x 127 n (fits_range x p).small)
