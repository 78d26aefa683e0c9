-- What the leaves of lane terms read of the registers that an instruction is given.
use Rattle.std.specs.Prelude.{◌≡◌, ℕ, ◌+◌, ◌%◌, ◌^◌, ◌≤◌, pos, List, [], ◌∷◌, ◌++◌, get_or}
use Rattle.vg_base.specs.Bits.{num}
use Rattle.vg_bits.specs.BitList.{IsBits}
use Rattle.vg_bits.specs.Range.{range}
use Rattle.vg_terms.specs.declared.term.LeafKey.{LeafKey}
use Rattle.vg_terms.specs.declared.value.Env.{Env}
use Rattle.vg_terms.specs.Term.{Tree, leaf, constant, one, two, sel}
use Rattle.vg_terms.specs.Value.{number_at}

-- the key of the bits of a parameter from a bit on, however many they are
abbrev pub bits_key : ℕ → ℕ → LeafKey
bits_key parameter low = record { kind = 0; first = parameter; second = pos low; third = 0 }

-- for each bit from this one on, which is the first of the list, the number of all bits from there
abbrev pub reading_from : ℕ → ℕ → List ℕ → List (LeafKey × ℕ)
reading_from parameter low [] = []
reading_from parameter low (b ∷ bs) =
    (bits_key parameter low, num (b ∷ bs)) ∷ reading_from parameter (low + 1) bs

-- the same for each bit of each register, which are those of the parameters from this one on
abbrev pub readings_from : ℕ → List (List ℕ) → List (LeafKey × ℕ)
readings_from parameter [] = []
readings_from parameter (reg ∷ regs) =
    reading_from parameter 0 reg ++ readings_from (parameter + 1) regs

-- The environment that reads leaves from the bits of registers. The value of a leaf is cut to its
-- width, so one pair a bit serves every width.
abbrev pub env_of : List (List ℕ) → Env
env_of regs = record { pairs = readings_from 0 regs }

-- each member is a list of bits
abbrev pub AllBits : List (List ℕ) → Type 0
AllBits [] = Unit {0}
AllBits (reg ∷ regs) = IsBits reg × AllBits regs

-- the environment reads each leaf of bits of a parameter from these registers
abbrev pub Reads : Env → List (List ℕ) → Type 0
Reads env regs =
    (parameter low width : ℕ) → number_at env.pairs (bits_key parameter low) % 2 ^ width
    ≡ num (range low width (get_or regs parameter []))

abbrev pub LeavesRead : Type 0
LeavesRead = (regs : List (List ℕ)) → AllBits regs → Reads (env_of regs) regs

-- each leaf of a term is bits inside a parameter, where these are the widths of the parameters
abbrev pub LeavesInside : List ℕ → Tree → Type 0
LeavesInside ws (leaf w k) =
    (parameter : ℕ) × (low : ℕ) × (k ≡ bits_key parameter low) × (low + w ≤ get_or ws parameter 0)
LeavesInside ws (constant w v) = Unit {0}
LeavesInside ws (one op w k x) = LeavesInside ws x
LeavesInside ws (two op w x y) = LeavesInside ws x × LeavesInside ws y
LeavesInside ws (sel w c x y) = LeavesInside ws c × LeavesInside ws x × LeavesInside ws y
