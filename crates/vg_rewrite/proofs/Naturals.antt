-- Natural widths.
use Rattle.std.proofs.Common.{◌≡◌, ◌≤◌, true, false, refl, sym, subst, arith, inl, inr}
use Rattle.std.proofs.lemmas.Bool.{cases_Bool, cond-true, cond-false}
use Rattle.vg_base.specs.declared.width.Width.{Width}
use Rattle.vg_base.specs.declared.width.Width.TheVariants.{W8, W16, W32, W64}
use Rattle.vg_base.specs.Width.{bits_of}
use Rattle.vg_rewrite.specs.Choice.{is_enough, natural_width}
use Rattle.vg_spans.specs.declared.span.Span.{Span}

own-enough : (own : Width) (s : Span) → is_enough own s own ≡ true
own-enough W8 s = refl
own-enough W16 s = refl
own-enough W32 s = refl
own-enough W64 s = refl

record Least (own : Width) (s : Span) (t : Width) : Type 0 where
  enough : is_enough own s t ≡ true
  least : (u : Width) → is_enough own s u ≡ true → bits_of t ≤ bits_of u

natural : (own : Width) (s : Span) → Least own s (natural_width own s)
natural own s = elim (cases_Bool (is_enough own s W8)) [
  | inl a ↦ subst (Least own s) (sym (cond-true (is_enough own s W8) W8 _ a)) (record { enough = a; least = λ u e. eight u })
  | inr a ↦ subst (Least own s) (sym (cond-false (is_enough own s W8) W8 _ a)) (elim (cases_Bool (is_enough own s W16)) [
    | inl b ↦ subst (Least own s) (sym (cond-true (is_enough own s W16) W16 _ b)) (record { enough = b; least = λ u e. sixteen u e a })
    | inr b ↦ subst (Least own s) (sym (cond-false (is_enough own s W16) W16 _ b)) (elim (cases_Bool (is_enough own s W32)) [
      | inl c ↦ subst (Least own s) (sym (cond-true (is_enough own s W32) W32 _ c)) (record { enough = c; least = λ u e. most u e a b })
      | inr c ↦ subst (Least own s) (sym (cond-false (is_enough own s W32) W32 _ c)) (record { enough = last own a b c; least = λ u e. all u e a b c })
    ])
  ])
]
  where
    eight : (u : Width) → 8 ≤ bits_of u
    eight W8 = omega arith
    eight W16 = omega arith
    eight W32 = omega arith
    eight W64 = omega arith

    sixteen : (u : Width) → is_enough own s u ≡ true → is_enough own s W8 ≡ false → 16 ≤ bits_of u
    sixteen W8 e a = absurd (cc)
    sixteen W16 e a = omega arith
    sixteen W32 e a = omega arith
    sixteen W64 e a = omega arith

    most : (u : Width) → is_enough own s u ≡ true → is_enough own s W8 ≡ false → is_enough own s W16 ≡ false → 32 ≤ bits_of u
    most W8 e a b = absurd (cc)
    most W16 e a b = absurd (cc)
    most W32 e a b = omega arith
    most W64 e a b = omega arith

    all : (u : Width) → is_enough own s u ≡ true → is_enough own s W8 ≡ false → is_enough own s W16 ≡ false → is_enough own s W32 ≡ false → 64 ≤ bits_of u
    all W8 e a b c = absurd (cc)
    all W16 e a b c = absurd (cc)
    all W32 e a b c = absurd (cc)
    all W64 e a b c = omega arith

    last : (own : Width) → is_enough own s W8 ≡ false → is_enough own s W16 ≡ false → is_enough own s W32 ≡ false → is_enough own s W64 ≡ true
    last W8 a b c = absurd (cc)
    last W16 a b c = absurd (cc)
    last W32 a b c = absurd (cc)
    last W64 a b c = refl

pub natural-least : (own : Width) (s : Span) (u : Width) → is_enough own s u ≡ true → bits_of (natural_width own s) ≤ bits_of u
natural-least own s u e = (natural own s).least u e

pub natural-most : (own : Width) (s : Span) → bits_of (natural_width own s) ≤ bits_of own
natural-most own s = (natural own s).least own (own-enough own s)

pub natural-enough : (own : Width) (s : Span) → is_enough own s (natural_width own s) ≡ true
natural-enough own s = (natural own s).enough
