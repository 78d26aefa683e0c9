-- Registers of 128, 256 or 512 bits are those of a text.
use Rattle.std.proofs.Common.{◌≡◌, ℕ, ◌^◌, ◌≤◌, Bool, true, false, List, [], ◌∷◌, refl, arith}
use Rattle.std.specs.Prelude.{◌==◌, ◌||◌}
use Rattle.std.proofs.lemmas.Bool.{eqb-true}
use Rattle.vg_pseudo.specs.declared.header.Header.{Header}
use Rattle.vg_pseudo.specs.declared.header.Param.{Param}
use Rattle.vg_pseudo.specs.Tree.{Operation}
use Rattle.vg_names.specs.Written.{AreRegisters, IsWritten}
use Rattle.vg_names.specs.Reading.{HasNumbersOfTexts, is_register, AllNarrow, IsNarrow, NarrowAreWritten}

one-of : (a b c : Bool) (w : ℕ) → (a ≡ true → w ≤ 512) → (b ≡ true → w ≤ 512) → (c ≡ true → w ≤ 512) → (a || b || c) ≡ true → w ≤ 512
one-of true b c w p q r e = p refl
one-of false true c w p q r e = q refl
one-of false false true w p q r e = r refl
one-of false false false w p q r e = absurd (cc)

narrow-small : (w : ℕ) → is_register w ≡ true → w ≤ 2 ^ 127
narrow-small w h =
    let few : w ≤ 512 = one-of (w == 128) (w == 256) (w == 512) w
    (λ e. omega (arith, eqb-true w 128 e)) (λ e. omega (arith, eqb-true w 256 e)) (λ e. omega (arith, eqb-true w 512 e)) h in
    omega (arith, few)

params-small : (ps : List Param) → AllNarrow ps → AreRegisters ps
params-small [] h = tt
params-small (p ∷ ps) h = (narrow-small p.register h.0, params-small ps h.1)

entry-written : (h : Header) (o : Operation) → IsNarrow h → HasNumbersOfTexts o → IsWritten h o
entry-written h o narrow numbers = record {
  params = params-small h.params narrow.params;
  register = narrow-small h.register narrow.register;
  defines = numbers.defines;
  body = numbers.body;
}

pub narrow-are-written : NarrowAreWritten
narrow-are-written = record {
  params = λ h n. params-small h.params n.params;
  register = λ h n. narrow-small h.register n.register;
  entries = entry-written;
}
