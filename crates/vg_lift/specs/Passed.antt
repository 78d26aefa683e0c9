-- What registers are given, without the numbers of the nodes.
use Rattle.std.specs.Prelude.{ℕ, List, [], ◌∷◌, replicate}
use Rattle.vg_pool.specs.declared.content.Content.{Content}
use Rattle.vg_lift.specs.Gather.{Bit, clear}
use Rattle.vg_lift.specs.LaneTerm as pure
use Rattle.vg_lift.specs.Views.{BitsFit, bits_of}
use Rattle.vg_lift.specs.declared.passed.Passed.{Passed}
use Rattle.vg_lift.specs.declared.passed.Passed.TheVariants.{Bits, Number, Parameter}

abbrev pub passed_of : List Content → Passed → pure.Passed
passed_of pool (Bits bs) = pure.of_bits (bits_of pool bs)
passed_of pool (Number n) = pure.of_number n
passed_of pool (Parameter p) = pure.of_parameter p

abbrev pub all_passed : List Content → List Passed → List pure.Passed
all_passed pool [] = []
all_passed pool (p ∷ ps) = passed_of pool p ∷ all_passed pool ps

abbrev pub PassedFits : List Content → Passed → Type 0
PassedFits pool (Bits bs) = BitsFit pool bs
PassedFits pool (Number n) = Unit {0}
PassedFits pool (Parameter p) = Unit {0}

abbrev pub AllPassedFit : List Content → List Passed → Type 0
AllPassedFit pool [] = Unit {0}
AllPassedFit pool (p ∷ ps) = PassedFits pool p × AllPassedFit pool ps

-- the bits of a register of a width that is the first of those that are given these
abbrev pub first_bits : ℕ → List pure.Passed → List Bit
first_bits w [] = replicate w clear
first_bits w (p ∷ ps) = pure.bits_passed w p
