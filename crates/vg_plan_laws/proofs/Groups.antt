-- The operands of store groups are sound.
use Rattle.std.proofs.Common.{◌≡◌, ℕ, suc, ◌+◌, ◌*◌, ◌%◌, ◌^◌, ◌<◌, ◌≤◌, true, List, [], ◌∷◌, length, map, refl, sym, ap, subst, ◌∙◌, inl, inr, arith}
use Rattle.std.specs.Prelude.{nat_eq, IsTrue}
use Rattle.std.specs.List.{list_any}
use Rattle.std.proofs.Math.Nat.{add-mod_right}
use Rattle.std.proofs.lemmas.Bool.{eqb-true, or_cases}
use Rattle.vg_base.specs.declared.address.Address.{Address}
use Rattle.vg_base.specs.declared.width.Width.{Width}
use Rattle.vg_base.specs.declared.width.Width.TheVariants.{W8, W16, W32, W64}
use Rattle.vg_base.specs.Width.{bits_of, size_of}
use Rattle.vg_shapes.specs.declared.ssa.Ssa.{Ssa}
use Rattle.vg_shapes.specs.declared.ssa_unit.SsaUnit.TheVariants.{Store}
use Rattle.vg_shapes.specs.declared.wanted.Wanted.{Wanted}
use Rattle.vg_shapes.specs.declared.wanted.Wanted.TheVariants.{Value, Constant, Nothing}
use Rattle.vg_shapes.specs.Operands.{AreSlots, IsOperand, MayBeWanted}
use Rattle.vg_shapes.specs.Pack.{AreStores, behind, is_pack_size, IsStoreGroup}
use Rattle.vg_shapes.specs.Sound.{IsNumber, IsSound}
use Rattle.vg_shapes.specs.Units.{unit_at}
use Rattle.vg_kernel_plans.specs.Taken.{first_width, group_operand, register_for, register_of_bytes, slots_from, stored, unit_width}
use Rattle.vg_plan_relations.proofs.Loading.{bytes-same}
use Rattle.vg_plan_laws.proofs.Terms.{unit-is}

-- the width of the register of so many bytes
record IsRegister (n : ℕ) : Type 0 where
  wide : IsTrue (list_any (nat_eq (register_of_bytes n)) (128 ∷ 256 ∷ 512 ∷ []))
  inside : n * 8 ≤ register_of_bytes n

is-register : (n : ℕ) → is_pack_size n ≡ true → IsRegister n
is-register n h = elim (or_cases (nat_eq n 4) _ h) [
  | inl t ↦ at 4 t (record { wide = refl; inside = omega arith })
  | inr a ↦ elim (or_cases (nat_eq n 8) _ a) [
    | inl t ↦ at 8 t (record { wide = refl; inside = omega arith })
    | inr b ↦ elim (or_cases (nat_eq n 16) _ b) [
      | inl t ↦ at 16 t (record { wide = refl; inside = omega arith })
      | inr c ↦ elim (or_cases (nat_eq n 32) _ c) [
        | inl t ↦ at 32 t (record { wide = refl; inside = omega arith })
        | inr d ↦ elim (or_cases (nat_eq n 64) _ d) [
          | inl t ↦ at 64 t (record { wide = refl; inside = omega arith })
          | inr e ↦ absurd (cc)
        ]
      ]
    ]
  ]
]
  where
    at : (m : ℕ) → nat_eq n m ≡ true → IsRegister m → IsRegister n
    at m t g = subst IsRegister (sym (eqb-true n m t)) g

width-listed : (w : Width) → IsTrue (list_any (nat_eq (bits_of w)) (8 ∷ 16 ∷ 32 ∷ 64 ∷ []))
width-listed W8 = refl
width-listed W16 = refl
width-listed W32 = refl
width-listed W64 = refl

bits-same : (n : ℕ) (w : Width) → n * bits_of w ≡ n * size_of w * 8
bits-same n W8 = omega arith
bits-same n W16 = omega arith
bits-same n W32 = omega arith
bits-same n W64 = omega arith

number-may : (ssa : Ssa) (w : Width) (x : Wanted) → IsNumber ssa w x → MayBeWanted ssa (bits_of w) x
number-may ssa w (Value v) is = is
number-may ssa w (Constant m n) is = (is.0, subst (λ k. n < 2 ^ k) is.0 is.1)
number-may ssa w Nothing is = absurd is

store-slots : (ssa : Ssa) (w : Width) (a : Address) (us : List ℕ) (xs : List Wanted)
    (low register : ℕ) → IsSound ssa → AreStores ssa w a us xs
    → low % bits_of w ≡ 0 → low + length us * bits_of w ≤ register
    → AreSlots ssa register low (slots_from low (bits_of w) (map (λ v. stored (unit_at ssa v)) us))
store-slots ssa w a [] xs low register sound are even inside = tt
store-slots ssa w a (u ∷ us) [] low register sound are even inside = absurd are
store-slots ssa w a (u ∷ us) (x ∷ xs) low register sound are even inside =
    let wide = bits_of w in
    let one : suc (length us) * wide ≡ wide + length us * wide = grind arith in
    let unit = unit-is ssa u (Store a w x) sound.units are.0 in
    let wants : MayBeWanted ssa wide (stored (unit_at ssa u)) =
    subst (λ o. MayBeWanted ssa wide (stored o)) (sym are.0) (number-may ssa w x unit.1) in (
      (let start : low ≤ low = omega arith in start),
      record { width = width-listed w; aligned = even; inside = omega arith; wanted = wants },
      store-slots ssa w (behind a (size_of w)) us xs (low + wide) register sound are.1
          (add-mod_right low wide ∙ even) (omega arith),
    )

first-of : (ssa : Ssa) (w : Width) (a : Address) (us : List ℕ) (xs : List Wanted)
    → AreStores ssa w a us xs → 2 ≤ length us → first_width ssa us ≡ bits_of w
first-of ssa w a [] xs are many = absurd (omega arith)
first-of ssa w a (u ∷ us) [] are many = absurd are
first-of ssa w a (u ∷ us) (x ∷ xs) are many = ap unit_width are.0

pub group-sound : (ssa : Ssa) (us : List ℕ) → IsSound ssa → IsStoreGroup ssa us
    → IsOperand ssa (group_operand ssa us)
group-sound ssa us sound group =
    let w = group.0 in
    let first = first-of ssa w group.1 us group.2 group.4 group.6 in
    let own = is-register (length us * size_of w) group.7 in
    let made : register_for us (bits_of w) ≡ register_of_bytes (length us * size_of w) =
    ap register_of_bytes (bytes-same (length us) w) in
    let fits = own.inside in
    let long = bits-same (length us) w in
    let Goal : ℕ → Type 0 =
    λ n. IsOperand ssa (record {
      register = register_for us n;
      slots = slots_from 0 n
          (map (λ v. stored (unit_at ssa v)) us);
    }) in
    subst Goal (sym first) (record {
      register =
          subst (λ n. IsTrue (list_any (nat_eq n) (128 ∷ 256 ∷ 512 ∷ []))) (sym made) own.wide;
      slots =
          store-slots ssa w group.1 us group.2 0 (register_for us (bits_of w)) sound group.4
          (none w) (omega arith);
    })
  where
    none : (w : Width) → 0 % bits_of w ≡ 0
    none W8 = refl
    none W16 = refl
    none W32 = refl
    none W64 = refl
