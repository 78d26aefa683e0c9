-- What lifted bits stand for, in an environment that reads each leaf from the bits of a parameter.
use Rattle.std.proofs.Common.{◌≡◌, ℕ, zero, suc, ◌/◌, ◌%◌, ◌^◌, ◌<◌, List, [], ◌∷◌, length, get_or}
use Rattle.vg_base.specs.Bits.{num}
use Rattle.vg_bits.specs.BitList.{IsBits}
use Rattle.vg_bits.specs.Range.{range}
use Rattle.vg_terms.specs.declared.value.Env.{Env}
use Rattle.vg_terms.specs.Term.{Tree, WellFormed, width_of}
use Rattle.vg_terms.specs.Value.{value}
use Rattle.vg_shapes.specs.Registers.{AllBits}
use Rattle.vg_lift.specs.Gather.{Bit, clear, input, of_term}

abbrev pub bit_value : Env → List (List ℕ) → Bit → ℕ
bit_value env ps clear = 0
bit_value env ps (input p i) = num (range i 1 (get_or ps p []))
bit_value env ps (of_term t k) = value env t / 2 ^ k % 2 ^ 1

abbrev pub BitFormed : List (List ℕ) → Bit → Type 0
BitFormed ps clear = Unit {0}
BitFormed ps (input p i) = i < length (get_or ps p [])
BitFormed ps (of_term t k) = WellFormed t × (k < width_of t)

abbrev pub BitsFormed : List (List ℕ) → List Bit → Type 0
BitsFormed ps [] = Unit {0}
BitsFormed ps (b ∷ bs) = BitFormed ps b × BitsFormed ps bs

abbrev pub RegistersFormed : List (List ℕ) → List (List Bit) → Type 0
RegistersFormed ps [] = Unit {0}
RegistersFormed ps (l ∷ ls) = BitsFormed ps l × RegistersFormed ps ls

abbrev pub VariablesFormed : List Tree → Type 0
VariablesFormed [] = Unit {0}
VariablesFormed (t ∷ ts) = (WellFormed t × (width_of t ≡ 128)) × VariablesFormed ts

pub bits_at : (ls : List (List ℕ)) (r : ℕ) → AllBits ls → IsBits (get_or ls r [])
bits_at [] r h = tt
bits_at (l ∷ ls) zero h = h.0
bits_at (l ∷ ls) (suc r) h = bits_at ls r h.1
