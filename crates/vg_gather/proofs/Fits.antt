-- The register that a recipe gives is as wide as its operand's.
use Rattle.std.proofs.Common.{◌≡◌, ℕ, ◌/◌, ◌<◌, true, List, [], ◌∷◌, refl, sym, ap, subst, ◌∙◌, inl, inr}
use Rattle.std.specs.Prelude.{nat_eq}
use Rattle.std.specs.List.{AllByRecursion, list_any}
use Rattle.std.proofs.lemmas.Bool.{eqb-true, or_cases}
use Rattle.vg_bits.specs.BitList.{IsBytes}
use Rattle.vg_bits.proofs.ByteLists.{IsBytes-bytes, length-bytes}
use Rattle.vg_program.specs.Vectors.{constant_bits, is_register_size}
use Rattle.vg_kernel_plans.specs.Held.{register_of}
use Rattle.vg_kernel_plans.proofs.SameTests.{both-true}
use Rattle.vg_emission.specs.Emission.{constant_bytes, constants_of}
use Rattle.vg_gather.specs.Laws.{ConstantsFit, HoldersFit}

are-bytes : (bs : List ℕ) → IsBytes bs → AllByRecursion (λ x. x < 256) bs
are-bytes [] h = tt
are-bytes (b ∷ bs) h = (h.0, are-bytes bs h.1)

-- the register of an operand
record IsRegister (n : ℕ) : Type 0 where
  size : is_register_size (n / 8) ≡ true
  bits : constant_bits (n / 8) ≡ n

is-register : (n : ℕ) → list_any (nat_eq n) (128 ∷ 256 ∷ 512 ∷ []) ≡ true → IsRegister n
is-register n h = elim (or_cases (nat_eq n 128) _ h) [
  | inl t ↦ at 128 t (record { size = refl; bits = refl })
  | inr a ↦ elim (or_cases (nat_eq n 256) _ a) [
    | inl t ↦ at 256 t (record { size = refl; bits = refl })
    | inr b ↦ elim (or_cases (nat_eq n 512) _ b) [
      | inl t ↦ at 512 t (record { size = refl; bits = refl })
      | inr c ↦ absurd (cc)
    ]
  ]
]
  where
    at : (m : ℕ) → nat_eq n m ≡ true → IsRegister m → IsRegister n
    at m t g = subst IsRegister (sym (eqb-true n m t)) g

pub constants-fit : ConstantsFit
constants-fit ssa o is =
    let r = is-register o.register is.register in
    let long = length-bytes (o.register / 8) (constants_of o.slots) in (
      record {
        size = ap is_register_size long ∙ r.size;
        bytes = are-bytes (constant_bytes o) (IsBytes-bytes (o.register / 8) (constants_of o.slots));
      },
      ap constant_bits long ∙ r.bits,
    )

pub holders-fit : HoldersFit
holders-fit ds ssa p o held =
    eqb-true (register_of ds ssa p) o.register (both-true (nat_eq (register_of ds ssa p) o.register) _ held).0
