-- What the uses of an expression ask, where its form leaves one case.
use Rattle.std.proofs.Common.{◌≡◌, refl}
use Rattle.std.specs.Prelude.{ℕ, Bool, Option, Some, None, Result, Ok, Err}
use Rattle.vg_base.specs.Bind.{◌>>=◌}
use Rattle.vg_base.specs.declared.width.Width.{Width}
use Rattle.vg_pseudo.specs.declared.spot.Spot.{Spot}
use Rattle.vg_pseudo.specs.declared.operators.UnaryOp.{UnaryOp}
use Rattle.vg_pseudo.specs.declared.operators.UnaryOp.TheVariants.{Not, Negate, Absolute, Signed, SignExtend, ZeroExtend, Saturate, SaturateUnsigned, Truncate}
use Rattle.vg_interval.specs.declared.fault.RangeFault.{RangeFault}
use Rattle.vg_interval.specs.Found.{Found, Operand, operand}
use Rattle.vg_text.specs.declared.place.Place.{Place}
use Rattle.vg_interval.specs.Views.{seen, unary_of_number}
use Rattle.vg_interval.specs.Judge.{Count, Index, settled, unsettled, Sight, slice_at, element_at, loose_word, unary_at, unary_found, unary_of, width_found}

no_width : (s : Spot) (op : UnaryOp) (f : Found) (a : Operand) → unary_found s op f None a ≡ unary_of s op a
no_width s Not f a = refl
no_width s Negate f a = refl
no_width s Absolute f a = refl
no_width s Signed f a = refl
no_width s (SignExtend n) f a = refl
no_width s (ZeroExtend n) f a = refl
no_width s (Saturate n) f a = refl
no_width s (SaturateUnsigned n) f a = refl
no_width s (Truncate n) f a = refl

without_width : (s : Spot) (op : UnaryOp) (f : Found) (r : Result Operand RangeFault)
    → (r >>= λ a. unary_found s op f None a) ≡ (r >>= λ a. unary_of s op a)
without_width s op f (Ok a) = no_width s op f a
without_width s op f (Err e) = refl

pub plain_unary : (s : Spot) (op : UnaryOp) (t : Spot) (f : Found) → width_found f ≡ None → loose_word f ≡ None
    → unary_at s op t f ≡ unary_of_number s op t f
plain_unary s op t f e h = rw (e, h) (without_width s op f (operand t f))

-- a slice sees of an instance the widths and the constants alone
pub slice_seen : (s : Sight) (p : Place) (g : Bool) (r : ℕ) (n : Option ℕ) (h l : Index) (c : Count)
    → slice_at s p g r n h l c ≡ slice_at (seen s.widths s.constants) p g r n h l c
slice_seen s p g r (Some n) h (settled l) c = refl
slice_seen s p g r (Some n) h (unsettled l) c = refl
slice_seen s p g r None (settled h) (settled l) c = refl
slice_seen s p g r None (settled h) (unsettled l) c = refl
slice_seen s p g r None (unsettled h) l c = refl

pub element_seen : (s : Sight) (p : Place) (g : Bool) (r size : ℕ) (k : Index) (c : Count)
    → element_at s p g r size k c ≡ element_at (seen s.widths s.constants) p g r size k c
element_seen s p g r size (settled k) c = refl
element_seen s p g r size (unsettled k) c = refl

pub other_op : (s : Spot) (op : UnaryOp) (f : Found) (w : Option ℕ) (a : Operand) → (op ≡ Signed → ⊥)
    → ((n : Width) → op ≡ SignExtend n → ⊥) → ((n : Width) → op ≡ ZeroExtend n → ⊥)
    → unary_found s op f w a ≡ unary_of s op a
other_op s Not f (Some w) a p q r = refl
other_op s Negate f (Some w) a p q r = refl
other_op s Absolute f (Some w) a p q r = refl
other_op s Signed f (Some w) a p q r = absurd (p refl)
other_op s (SignExtend n) f (Some w) a p q r = absurd (q n refl)
other_op s (ZeroExtend n) f (Some w) a p q r = absurd (r n refl)
other_op s (Saturate n) f (Some w) a p q r = refl
other_op s (SaturateUnsigned n) f (Some w) a p q r = refl
other_op s (Truncate n) f (Some w) a p q r = refl
other_op s op f None a p q r = no_width s op f a
