-- A width below the double of another is below that one, or is it.
use Rattle.std.proofs.Common.{◌≡◌, ◌<◌, ◌⊎◌, refl, arith, inl, inr}
use Rattle.vg_base.specs.declared.width.Width.{Width}
use Rattle.vg_base.specs.declared.width.Width.TheVariants.{W8, W16, W32, W64}
use Rattle.vg_base.specs.Width.{bits_of}

pub up-to_8 : (t : Width) → bits_of t < 16 → (bits_of t < 8) ⊎ (t ≡ W8)
up-to_8 W8 h = inr refl
up-to_8 W16 h = absurd (omega arith)
up-to_8 W32 h = absurd (omega arith)
up-to_8 W64 h = absurd (omega arith)

pub up-to_16 : (t : Width) → bits_of t < 32 → (bits_of t < 16) ⊎ (t ≡ W16)
up-to_16 W8 h = inl (omega arith)
up-to_16 W16 h = inr refl
up-to_16 W32 h = absurd (omega arith)
up-to_16 W64 h = absurd (omega arith)

pub up-to_32 : (t : Width) → bits_of t < 64 → (bits_of t < 32) ⊎ (t ≡ W32)
up-to_32 W8 h = inl (omega arith)
up-to_32 W16 h = inl (omega arith)
up-to_32 W32 h = inr refl
up-to_32 W64 h = absurd (omega arith)

pub up-to_64 : (t : Width) → (bits_of t < 64) ⊎ (t ≡ W64)
up-to_64 W8 = inl (omega arith)
up-to_64 W16 = inl (omega arith)
up-to_64 W32 = inl (omega arith)
up-to_64 W64 = inr refl
