-- Bits and runs over the nodes of a pool, without the numbers of the nodes.
use Rattle.std.specs.Prelude.{◌≡◌, ℕ, zero, suc, ◌%◌, ◌+◌, ◌<◌, ◌≤◌, List, [], ◌∷◌, length}
use Rattle.vg_terms.specs.Term.{width_of}
use Rattle.vg_pool.specs.declared.content.Content.{Content}
use Rattle.vg_pool.specs.Pool.{tree_at}
use Rattle.vg_lift.specs.Gather.{clear, input, of_term, zeros, inputs, terms}
use Rattle.vg_lift.specs.Gather as pure
use Rattle.vg_lift.specs.Join.{shut, differ}
use Rattle.vg_lift.specs.Join as pure_join
use Rattle.vg_lift.specs.declared.join.Open.{Open}
use Rattle.vg_lift.specs.declared.join.Open.TheVariants.{Shut, Differ}
use Rattle.vg_lift.specs.declared.bit.Bit.{Bit}
use Rattle.vg_lift.specs.declared.bit.Bit.TheVariants.{Clear, Input, OfTerm}
use Rattle.vg_lift.specs.declared.run.Run.{Run}
use Rattle.vg_lift.specs.declared.run.Run.TheVariants.{Zeros, Inputs, Terms}

abbrev pub bit_of : List Content → Bit → pure.Bit
bit_of pool Clear = clear
bit_of pool (Input p k) = input p k
bit_of pool (OfTerm node w k) = of_term (tree_at pool node) k

abbrev pub bits_of : List Content → List Bit → List pure.Bit
bits_of pool [] = []
bits_of pool (b ∷ bs) = bit_of pool b ∷ bits_of pool bs

abbrev pub run_of : List Content → Run → pure.Run
run_of pool (Zeros n) = zeros n
run_of pool (Inputs p l n) = inputs p l n
run_of pool (Terms node w k n) = terms (tree_at pool node) k n

-- the node is one of the pool, of this width
pub record IsNode (pool : List Content) (node width : ℕ) : Type 0 where
  pub within : node < length pool
  pub wide : width_of (tree_at pool node) ≡ width

-- the bit is one of a node of the pool, whose width it tells
abbrev pub BitFits : List Content → Bit → Type 0
BitFits pool Clear = Unit {0}
BitFits pool (Input p k) = Unit {0}
BitFits pool (OfTerm node w k) = IsNode pool node w × (k < w)

abbrev pub BitsFit : List Content → List Bit → Type 0
BitsFit pool [] = Unit {0}
BitsFit pool (b ∷ bs) = BitFits pool b × BitsFit pool bs

abbrev pub RunFits : List Content → Run → Type 0
RunFits pool (Zeros n) = 0 < n
RunFits pool (Inputs p l n) = 0 < n
RunFits pool (Terms node w k n) = (0 < n) × IsNode pool node w × (k + n ≤ w)

-- how many bits a run has
abbrev pub run_size : Run → ℕ
run_size (Zeros n) = n
run_size (Inputs p l n) = n
run_size (Terms node w k n) = n

-- n bits of a node of a width from bit k on
abbrev pub node_bits : ℕ → ℕ → ℕ → ℕ → List Bit
node_bits node w k zero = []
node_bits node w k (suc n) = OfTerm node w k ∷ node_bits node w (suc k) n

abbrev pub open_of : List Content → Open → pure_join.Open
open_of pool Shut = shut
open_of pool (Differ r q) = differ (run_of pool r) (run_of pool q)

-- two runs of as many bits, at most 64
abbrev pub OpenFits : List Content → Open → Type 0
OpenFits pool Shut = Unit {0}
OpenFits pool (Differ r q) =
    RunFits pool r × RunFits pool q × (run_size r ≡ run_size q) × (run_size r ≤ 64)

-- before this place an open range has at most the bits since the last multiple of 64
abbrev pub OpenFew : ℕ → Open → Type 0
OpenFew place Shut = Unit {0}
OpenFew place (Differ r q) =
    (before : ℕ) × (place ≡ suc before) × (run_size r ≤ suc (before % 64))
