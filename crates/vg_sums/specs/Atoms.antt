-- The kinds of atoms: their fields, and which of them are only ever 0 or 1.
use Rattle.std.specs.Prelude.{ℕ, ℤ, pos, Bool, true, false}
use Rattle.vg_terms.specs.declared.term.LeafKey.{LeafKey}
use Rattle.vg_terms.specs.Order.{two_tag}
use Rattle.vg_sums.specs.declared.kind.Kind.{Kind}
use Rattle.vg_sums.specs.declared.kind.Kind.TheVariants.{Leaf, Floor, Positive, Negative, Zero, Bitwise}

abbrev pub kind_tag : Kind → ℕ
kind_tag (Leaf w k) = 0
kind_tag (Floor k) = 1
kind_tag Positive = 2
kind_tag Negative = 3
kind_tag Zero = 4
kind_tag (Bitwise op w) = two_tag op

-- the width or the places, else 0
abbrev pub amount_of : Kind → ℕ
amount_of (Leaf w k) = w
amount_of (Floor k) = k
amount_of Positive = 0
amount_of Negative = 0
amount_of Zero = 0
amount_of (Bitwise op w) = w

abbrev pub no_key : LeafKey
no_key = record { kind = 0; first = 0; second = pos 0; third = 0 }

abbrev pub key_of : Kind → LeafKey
key_of (Leaf w k) = k
key_of (Floor k) = no_key
key_of Positive = no_key
key_of Negative = no_key
key_of Zero = no_key
key_of (Bitwise op w) = no_key

abbrev pub is_truth : Kind → Bool
is_truth (Leaf w k) = false
is_truth (Floor k) = false
is_truth Positive = false
is_truth Negative = true
is_truth Zero = true
is_truth (Bitwise op w) = false
