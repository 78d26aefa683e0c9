-- What an address of a kernel or a program may be.
use Rattle.std.specs.Prelude.{ℕ, ◌<◌, ◌^◌, ℤ, pos, negsuc}
use Rattle.vg_base.specs.declared.address.Address.{Address}

-- the numbers of 32 bits with a sign
abbrev pub IsOffset : ℤ → Type 0
IsOffset (pos n) = n < 2 ^ 31
IsOffset (negsuc n) = n < 2 ^ 31

-- one of so many pointers, and such an offset
pub record IsAddress (pointers : ℕ) (a : Address) : Type 0 where
  pub pointer : a.pointer < pointers
  pub offset : IsOffset a.offset
