-- The order of labels.
use Rattle.std.proofs.Common.{◌≡◌, Bool, true, false, refl, arith}
use Rattle.std.proofs.lemmas.Int.{ints}
use Rattle.std.proofs.lemmas.Bool.Decides.{nat_tests}
use Rattle.vg_base.specs.declared.address.Address.{Address}
use Rattle.vg_paired.specs.ByteLabels.{is_below}
use Rattle.vg_events.specs.Events.{Label}
use Rattle.vg_known.specs.Labels.{is_before}

below-itself : (a : Address) → is_below a a ≡ false
below-itself a = grind (arith, ints, nat_tests)

below-along : (a b c : Address) → is_below a b ≡ true → is_below b c ≡ true → is_below a c ≡ true
below-along a b c h k = grind (arith, ints, nat_tests)

below-or : (a b : Address) → is_below a b ≡ false → is_below b a ≡ false → (a.pointer ≡ b.pointer) × (a.offset ≡ b.offset)
below-or a b h k = grind (arith, ints, nat_tests)

abbrev with_writes : Bool → Address → Label
with_writes w a = record { writes = w; address = a }

pub before-itself : (l : Label) → is_before l l ≡ false
before-itself l = itself l.writes l.address
  where
    itself : (w : Bool) (a : Address) → is_before (with_writes w a) (with_writes w a) ≡ false
    itself true a = below-itself a
    itself false a = below-itself a

pub before-along : (l m n : Label) → is_before l m ≡ true → is_before m n ≡ true → is_before l n ≡ true
before-along l m n h k = along l.writes m.writes n.writes l.address m.address n.address h k
  where
    along : (u v w : Bool) (a b c : Address) → is_before (with_writes u a) (with_writes v b) ≡ true
        → is_before (with_writes v b) (with_writes w c) ≡ true
        → is_before (with_writes u a) (with_writes w c) ≡ true
    along true true true a b c h k = below-along a b c h k
    along true true false a b c h k = absurd (cc)
    along true false w a b c h k = absurd (cc)
    along false true true a b c h k = refl
    along false true false a b c h k = absurd (cc)
    along false false true a b c h k = refl
    along false false false a b c h k = below-along a b c h k

-- two labels of which neither comes before the other are one
pub neither-before : (l m : Label) → is_before l m ≡ false → is_before m l ≡ false → l ≡ m
neither-before l m h k = neither l.writes m.writes l.address m.address h k
  where
    one : (w : Bool) (a b : Address) → is_below a b ≡ false → is_below b a ≡ false → with_writes w a ≡ with_writes w b
    one w a b h k = let e = below-or a b h k in (λ i. record { writes = w; address = record { pointer = e.0 i; offset = e.1 i } })

    neither : (u v : Bool) (a b : Address) → is_before (with_writes u a) (with_writes v b) ≡ false
        → is_before (with_writes v b) (with_writes u a) ≡ false → with_writes u a ≡ with_writes v b
    neither true true a b h k = one true a b h k
    neither true false a b h k = absurd (cc)
    neither false true a b h k = absurd (cc)
    neither false false a b h k = one false a b h k
