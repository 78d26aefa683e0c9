-- The widths and sizes of loads and stores that stand beside each other in memory.
use Rattle.std.proofs.Common.{◌≡◌, ℕ, ◌*◌, ◌/◌, ◌≤◌, true, List, ◌∷◌, length, refl, sym, ap, subst, ◌∙◌, inl, inr, arith, lit≤}
use Rattle.std.specs.Prelude.{nat_eq}
use Rattle.std.proofs.lemmas.Bool.{or_cases, eqb-true}
use Rattle.vg_base.specs.declared.address.Address.{Address}
use Rattle.vg_base.specs.declared.width.Width.{Width}
use Rattle.vg_base.specs.declared.width.Width.TheVariants.{W8, W16, W32, W64}
use Rattle.vg_base.specs.Width.{bits_of, size_of}
use Rattle.vg_program.specs.declared.vector_size.VectorSize.{VectorSize}
use Rattle.vg_program.specs.Vectors.{bytes_of, register_of}
use Rattle.vg_shapes.specs.declared.ssa.Ssa.{Ssa}
use Rattle.vg_shapes.specs.declared.wanted.Wanted.{Wanted}
use Rattle.vg_shapes.specs.Pack.{AreLoads, AreStores, is_pack_size}
use Rattle.vg_kernel_plans.specs.Taken.{first_width, register_of_bytes, unit_width}
use Rattle.vg_emission.specs.Emission.{address_of, first_address, joint_size, size_for, width_for}

pub eight : (w : Width) → bits_of w ≡ 8 * size_of w
eight W8 = refl
eight W16 = refl
eight W32 = refl
eight W64 = refl

pub width-again : (w : Width) → width_for (bits_of w) ≡ w
width-again W8 = refl
width-again W16 = refl
width-again W32 = refl
width-again W64 = refl

-- a size has so many bytes, which fit into its register
pub record HasSize (z : VectorSize) (n : ℕ) : Type 0 where
  pub bytes : bytes_of z ≡ n
  pub register : register_of z ≡ register_of_bytes n
  pub room : 8 * n ≤ register_of_bytes n

pub size-is : (n : ℕ) → is_pack_size n ≡ true → HasSize (size_for n) n
size-is n h = elim (or_cases (nat_eq n 4) _ h) [
  | inl t ↦ at 4 t (record { bytes = refl; register = refl; room = lit≤ tt })
  | inr a ↦ elim (or_cases (nat_eq n 8) _ a) [
    | inl t ↦ at 8 t (record { bytes = refl; register = refl; room = lit≤ tt })
    | inr b ↦ elim (or_cases (nat_eq n 16) _ b) [
      | inl t ↦ at 16 t (record { bytes = refl; register = refl; room = lit≤ tt })
      | inr c ↦ elim (or_cases (nat_eq n 32) _ c) [
        | inl t ↦ at 32 t (record { bytes = refl; register = refl; room = lit≤ tt })
        | inr d ↦ elim (or_cases (nat_eq n 64) _ d) [
          | inl t ↦ at 64 t (record { bytes = refl; register = refl; room = lit≤ tt })
          | inr e ↦ absurd (cc)
        ]
      ]
    ]
  ]
]
  where
    at : (m : ℕ) → nat_eq n m ≡ true → HasSize (size_for m) m → HasSize (size_for n) n
    at m t g = subst (λ k. HasSize (size_for k) k) (sym (eqb-true n m t)) g

in_bytes : (w : Width) (n : ℕ) → n * bits_of w / 8 ≡ n * size_of w
in_bytes W8 n = omega arith
in_bytes W16 n = omega arith
in_bytes W32 n = omega arith
in_bytes W64 n = omega arith

-- ---- loads

pub loads-width : (ssa : Ssa) (w : Width) (a : Address) (u : ℕ) (us : List ℕ) → AreLoads ssa w a (u ∷ us) → first_width ssa (u ∷ us) ≡ bits_of w
loads-width ssa w a u us are = ap unit_width are.0

pub loads-address : (ssa : Ssa) (w : Width) (a : Address) (u : ℕ) (us : List ℕ) → AreLoads ssa w a (u ∷ us) → first_address ssa (u ∷ us) ≡ a
loads-address ssa w a u us are = ap address_of are.0

joint-size : (ssa : Ssa) (w : Width) (us : List ℕ) → first_width ssa us ≡ bits_of w → is_pack_size (length us * size_of w) ≡ true
    → HasSize (joint_size ssa us) (length us * size_of w)
joint-size ssa w us e h =
    let same : length us * first_width ssa us / 8 ≡ length us * size_of w = ap (λ b. length us * b / 8) e ∙ in_bytes w (length us) in
    subst (λ n. HasSize (size_for n) (length us * size_of w)) (sym same) (size-is (length us * size_of w) h)

pub loads-size : (ssa : Ssa) (w : Width) (a : Address) (u : ℕ) (us : List ℕ) → AreLoads ssa w a (u ∷ us) → is_pack_size (length (u ∷ us) * size_of w) ≡ true
    → HasSize (joint_size ssa (u ∷ us)) (length (u ∷ us) * size_of w)
loads-size ssa w a u us are h = joint-size ssa w (u ∷ us) (loads-width ssa w a u us are) h

pub register-bytes : (ssa : Ssa) (w : Width) (us : List ℕ) → first_width ssa us ≡ bits_of w → register_of_bytes (length us * first_width ssa us / 8) ≡ register_of_bytes (length us * size_of w)
register-bytes ssa w us e = ap register_of_bytes (ap (λ b. length us * b / 8) e ∙ in_bytes w (length us))

-- ---- stores

pub stores-width : (ssa : Ssa) (w : Width) (a : Address) (u : ℕ) (us : List ℕ) (x : Wanted) (xs : List Wanted) → AreStores ssa w a (u ∷ us) (x ∷ xs) → first_width ssa (u ∷ us) ≡ bits_of w
stores-width ssa w a u us x xs are = ap unit_width are.0

pub stores-address : (ssa : Ssa) (w : Width) (a : Address) (u : ℕ) (us : List ℕ) (x : Wanted) (xs : List Wanted) → AreStores ssa w a (u ∷ us) (x ∷ xs) → first_address ssa (u ∷ us) ≡ a
stores-address ssa w a u us x xs are = ap address_of are.0

pub stores-size : (ssa : Ssa) (w : Width) (a : Address) (u : ℕ) (us : List ℕ) (x : Wanted) (xs : List Wanted) → AreStores ssa w a (u ∷ us) (x ∷ xs) → is_pack_size (length (u ∷ us) * size_of w) ≡ true
    → HasSize (joint_size ssa (u ∷ us)) (length (u ∷ us) * size_of w)
stores-size ssa w a u us x xs are h = joint-size ssa w (u ∷ us) (stores-width ssa w a u us x xs are) h
