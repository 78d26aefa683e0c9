-- Bits of terms, and the term that gathers them.
use Rattle.std.specs.Prelude.{ℕ, zero, suc, ◌+◌, Bool, true, false, ◌&&◌, nat_eq, if◌then◌else◌, List, [], ◌∷◌, length}
use Rattle.vg_terms.specs.declared.term.OneOp.TheVariants.{Lshr}
use Rattle.vg_terms.specs.declared.term.TwoOp.TheVariants.{Cat}
use Rattle.vg_terms.specs.Term.{Tree, leaf, constant, one, two, width_of}
use Rattle.vg_terms.specs.Resize.{low}
use Rattle.vg_terms.specs.Order.{is_same_term}
use Rattle.vg_shapes.specs.Registers.{bits_key}

-- 0, a bit of a parameter, or a bit of a term
pub data Bit : Type 0 where
  clear : Bit
  input : ℕ → ℕ → Bit
  of_term : Tree → ℕ → Bit

-- so many zero bits, so many bits of a parameter from a bit on, or so many bits of a term from a
-- bit on; the number of the bits is the last
pub data Run : Type 0 where
  zeros : ℕ → Run
  inputs : ℕ → ℕ → ℕ → Run
  terms : Tree → ℕ → ℕ → Run

abbrev pub start : Bit → Run
start clear = zeros 1
start (input p i) = inputs p i 1
start (of_term t k) = terms t k 1

abbrev pub size : Run → ℕ
size (zeros n) = n
size (inputs p l n) = n
size (terms t k n) = n

abbrev pub longer : Run → Run
longer (zeros n) = zeros (suc n)
longer (inputs p l n) = inputs p l (suc n)
longer (terms t k n) = terms t k (suc n)

-- the bit is the next one of the run
abbrev pub continues : Run → Bit → Bool
continues (zeros n) clear = true
continues (inputs p l n) (input q i) = nat_eq p q && nat_eq i (l + n)
continues (terms t k n) (of_term u j) = is_same_term t u && nat_eq j (k + n)
continues _ _ = false

-- the term without its k lowest bits, at its width
abbrev pub shifted : ℕ → Tree → Tree
shifted zero t = t
shifted (suc k) t = one Lshr (width_of t) (suc k) t

-- the term of a run
abbrev pub whole : Run → Tree
whole (zeros n) = constant n 0
whole (inputs p l n) = leaf n (bits_key p l)
whole (terms t k n) = low n (shifted k t)

-- the term of a run with these bits above it: the run as long as they go on with it, and above it
-- what is gathered of the rest
abbrev pub gather_from : Run → List Bit → Tree
gather_from r [] = whole r
gather_from r (b ∷ bs) =
    if continues r b then gather_from (longer r) bs
    else two Cat (size r + suc (length bs)) (gather_from (start b) bs) (whole r)

-- the term of bits, the lowest first
abbrev pub gather : List Bit → Tree
gather [] = constant 0 0
gather (b ∷ bs) = gather_from (start b) bs

-- n bits of a term from bit k on
abbrev pub bits_from : Tree → ℕ → ℕ → List Bit
bits_from t k zero = []
bits_from t k (suc n) = of_term t k ∷ bits_from t (suc k) n

-- n bits of a parameter from bit k on
abbrev pub inputs_from : ℕ → ℕ → ℕ → List Bit
inputs_from p k zero = []
inputs_from p k (suc n) = input p k ∷ inputs_from p (suc k) n
