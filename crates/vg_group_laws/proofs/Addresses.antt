-- Addresses further on and nearer.
use Rattle.std.proofs.Common.{◌≡◌, ℕ, zero, suc, ◌+◌, ℤ, pos, refl, sym, ◌∙◌, ap}
use Rattle.std.specs.Prelude.{◌+ℤ◌, ◌-ℤ◌}
use Rattle.std.proofs.Math.IntN.{+ℤ_assoc, +ℤ_comm, +ℤ_idr, +ℤ_invr, +ℤ-neg_ℤ_cancel, -ℤ-+ℤ_cancel, pos-+ℤ-pos}
use Rattle.vg_base.specs.declared.address.Address.{Address}
use Rattle.vg_base.specs.declared.width.Width.{Width}
use Rattle.vg_base.specs.declared.width.Width.TheVariants.{W8, W16, W32, W64}
use Rattle.vg_base.specs.Width.{size_of}
use Rattle.vg_kernel_plans.specs.Groups.{ahead}
use Rattle.vg_shapes.specs.Pack.{behind}

abbrev made : ℕ → ℤ → Address
made p x = record { pointer = p; offset = x }

pub behind-none : (a : Address) → behind a 0 ≡ a
behind-none a = ap (made a.pointer) (+ℤ_idr a.offset)

pub behind-behind : (a : Address) (m n : ℕ) → behind (behind a m) n ≡ behind a (m + n)
behind-behind a m n =
    ap (made a.pointer) (+ℤ_assoc a.offset (pos m) (pos n) ∙ ap (λ k. a.offset +ℤ k) (pos-+ℤ-pos m n))

pub behind-ahead : (a : Address) (n : ℕ) → behind (ahead a n) n ≡ a
behind-ahead a n = ap (made a.pointer) (-ℤ-+ℤ_cancel a.offset (pos n))

pub ahead-behind : (a : Address) (n : ℕ) → ahead (behind a n) n ≡ a
ahead-behind a n = ap (made a.pointer) (+ℤ-neg_ℤ_cancel a.offset (pos n))

-- no address is behind itself
pub not-behind : (a : Address) (n : ℕ) → a ≡ behind a (suc n) → ⊥
not-behind a n e =
    let o : a.offset ≡ a.offset +ℤ pos (suc n) = ap (λ (b : Address). b.offset) e in
    let z : pos (suc n) ≡ pos zero =
    sym (+ℤ-neg_ℤ_cancel (pos (suc n)) a.offset)
    ∙ ap (λ k. k -ℤ a.offset) (+ℤ_comm (pos (suc n)) a.offset ∙ sym o) ∙ +ℤ_invr a.offset
    in
    absurd (cc)

-- a width has some bytes
pub size-some : (w : Width) → (n : ℕ) × (size_of w ≡ suc n)
size-some W8 = (0, refl)
size-some W16 = (1, refl)
size-some W32 = (3, refl)
size-some W64 = (7, refl)
