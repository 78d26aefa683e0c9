-- Numbers added to the bytes of a number.
use Rattle.std.specs.Prelude.{◌≡◌, ℕ, ◌+◌, ◌*◌, ◌/◌, ◌%◌, ◌^◌, List, [], ◌∷◌, length}
use Rattle.vg_base.specs.Bits.{bytes}
use Rattle.vg_gather.specs.declared.constant_bytes.Rest.{Rest}

-- what is still to be added from a byte on
abbrev pub amount : Rest → ℕ
amount r = r.carry + r.digits * 2 ^ r.shift

-- bytes with a number added, the lowest byte first; what is past the last byte is lost
abbrev pub added : ℕ → List ℕ → List ℕ
added n [] = []
added n (b ∷ bs) = (b + n) % 256 ∷ added ((b + n) / 256) bs

-- what were the lowest bytes of a number are those of the number with this one added
pub record Adds (m : ℕ) (old new : List ℕ) : Type 0 where
  pub long : length new ≡ length old
  pub sum : (n : ℕ) → old ≡ bytes (length old) n → new ≡ bytes (length old) (n + m)
