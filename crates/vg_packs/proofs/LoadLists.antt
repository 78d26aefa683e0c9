-- Loads beside each other, one after the other.
use Rattle.std.proofs.Common.{◌≡◌, ℕ, ◌+◌, ◌<◌, ◌≤◌, Bool, true, false, List, ℤ, pos, ◌+ℤ◌, drop, get_or, length, sym, ◌∙◌, ap}
use Rattle.std.specs.Prelude.{Option}
use Rattle.std.proofs.lemmas.List.{drop_all, drop_more}
use Rattle.std.proofs.Math.IntN.{+ℤ_assoc, +ℤ_comm, +ℤ_idl, pos-+ℤ-pos}
use Rattle.vg_base.specs.declared.address.Address.{Address}
use Rattle.vg_base.specs.declared.width.Width.{Width}
use Rattle.vg_base.specs.Width.{size_of}
use Rattle.vg_kernel_plans.specs.Producers.{are_loads, loads_from}
use Rattle.vg_shapes.specs.declared.ssa.Ssa.{Ssa}
use Rattle.vg_shapes.specs.declared.ssa_unit.SsaUnit.{SsaUnit}
use Rattle.vg_shapes.specs.Pack.{behind}
use Rattle.vg_shapes.specs.Units.{unit_at}
use Rattle.vg_packs.proofs.LaneLists.{off, on}

pub behind-none : (a : Address) → behind a 0 ≡ a
behind-none a =
    let made : ℤ → Address = λ z. record { pointer = a.pointer; offset = z } in
    ap made (+ℤ_comm a.offset (pos 0) ∙ +ℤ_idl a.offset)

behind-twice : (a : Address) (m n : ℕ) → behind (behind a m) n ≡ behind a (m + n)
behind-twice a m n =
    let made : ℤ → Address = λ z. record { pointer = a.pointer; offset = z } in
    ap made (+ℤ_assoc a.offset (pos m) (pos n) ∙ ap (λ z. a.offset +ℤ z) (pos-+ℤ-pos m n))

pub loads-begin : (ssa : Ssa) (a : Address) (w : Width) (us : List ℕ) → are_loads ssa (behind a 0) w us ≡ are_loads ssa a w us
loads-begin ssa a w us = ap (λ b. are_loads ssa b w us) (behind-none a)

pub loads-off : (ssa : Ssa) (a : Address) (bytes : ℕ) (w : Width) (us : List ℕ) (k : ℕ) (u : Option SsaUnit) (b whole : Bool)
    → k < length us → u ≡ unit_at ssa (get_or us k 0) → b ≡ loads_from (behind a bytes) w u → b ≡ false
    → are_loads ssa (behind a bytes) w (drop k us) ≡ whole → false ≡ whole
loads-off ssa a bytes w us k u b whole l e g f h =
    sym (off (loads_from (behind a bytes) w (unit_at ssa (get_or us k 0))) _ (ap (loads_from (behind a bytes) w) (sym e) ∙ sym g ∙ f))
    ∙ ap (are_loads ssa (behind a bytes) w) (sym (drop_more us k 0 l))
    ∙ h

pub loads-on : (ssa : Ssa) (a : Address) (bytes next : ℕ) (w : Width) (us : List ℕ) (k : ℕ) (u : Option SsaUnit) (b whole : Bool)
    → k < length us → u ≡ unit_at ssa (get_or us k 0) → b ≡ loads_from (behind a bytes) w u → b ≡ true
    → next ≡ bytes + size_of w
    → are_loads ssa (behind a bytes) w (drop k us) ≡ whole → are_loads ssa (behind a next) w (drop (k + 1) us) ≡ whole
loads-on ssa a bytes next w us k u b whole l e g t n h =
    ap (λ c. are_loads ssa c w (drop (k + 1) us)) (ap (behind a) n ∙ sym (behind-twice a bytes (size_of w)))
    ∙ sym (on (loads_from (behind a bytes) w (unit_at ssa (get_or us k 0))) _ (ap (loads_from (behind a bytes) w) (sym e) ∙ sym g ∙ t))
    ∙ ap (are_loads ssa (behind a bytes) w) (sym (drop_more us k 0 l))
    ∙ h

pub loads-end : (ssa : Ssa) (a : Address) (w : Width) (us : List ℕ) (k : ℕ) (whole : Bool) → length us ≤ k
    → are_loads ssa a w (drop k us) ≡ whole → true ≡ whole
loads-end ssa a w us k whole l h = ap (are_loads ssa a w) (sym (drop_all k us l)) ∙ h
