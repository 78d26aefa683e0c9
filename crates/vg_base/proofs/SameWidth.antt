-- Widths of integers: each is told by its bits.
use Rattle.std.proofs.Common.{◌≡◌, true, refl, arith}
use Rattle.std.specs.Prelude.{nat_eq}
use Rattle.std.proofs.lemmas.Bool.{eqb-true}
use Rattle.vg_base.specs.declared.width.Width.{Width}
use Rattle.vg_base.specs.declared.width.Width.TheVariants.{W8, W16, W32, W64}
use Rattle.vg_base.specs.Width.{bits_of}

-- widths of as many bits are the same
pub width-same : (w v : Width) → bits_of w ≡ bits_of v → w ≡ v
width-same W8 W8 e = refl
width-same W8 W16 e = absurd (omega arith)
width-same W8 W32 e = absurd (omega arith)
width-same W8 W64 e = absurd (omega arith)
width-same W16 W8 e = absurd (omega arith)
width-same W16 W16 e = refl
width-same W16 W32 e = absurd (omega arith)
width-same W16 W64 e = absurd (omega arith)
width-same W32 W8 e = absurd (omega arith)
width-same W32 W16 e = absurd (omega arith)
width-same W32 W32 e = refl
width-same W32 W64 e = absurd (omega arith)
width-same W64 W8 e = absurd (omega arith)
width-same W64 W16 e = absurd (omega arith)
width-same W64 W32 e = absurd (omega arith)
width-same W64 W64 e = refl

-- widths whose bits a test finds equal are the same
pub width-tested : (w v : Width) → nat_eq (bits_of w) (bits_of v) ≡ true → w ≡ v
width-tested w v e = width-same w v (eqb-true (bits_of w) (bits_of v) e)
