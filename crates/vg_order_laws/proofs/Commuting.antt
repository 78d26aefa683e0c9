-- Units whose accesses do not conflict do the same in either order.
use Rattle.std.proofs.Common.{◌≡◌, ℕ, ◌+◌, ◌≤◌, pos, Bool, true, false, List, length, Option, Some, None, refl, sym, ap, ◌∙◌, ◌⊎◌, inl, inr}
use Rattle.std.specs.Prelude.{◌||◌}
use Rattle.vg_base.specs.Trap.{◌>>=◌}
use Rattle.vg_base.specs.Bits.{bytes}
use Rattle.vg_base.specs.declared.address.Address.{Address}
use Rattle.vg_base.specs.Address.{place_of}
use Rattle.vg_base.specs.declared.width.Width.{Width}
use Rattle.vg_base.specs.Width.{bits_of, size_of}
use Rattle.vg_bits.proofs.ByteLists.{length-bytes}
use Rattle.vg_shapes.specs.declared.access.Access.{Access}
use Rattle.vg_shapes.specs.declared.ssa.Ssa.{Ssa}
use Rattle.vg_shapes.specs.declared.ssa_unit.SsaUnit.{SsaUnit}
use Rattle.vg_shapes.specs.declared.ssa_unit.SsaUnit.TheVariants.{Load, Store, Operation}
use Rattle.vg_shapes.specs.Depends.{conflict_at, conflict_of}
use Rattle.vg_shapes.specs.Layout.{access_at, access_of, AreApart, noalias_flags, Respects}
use Rattle.vg_shapes.specs.RunUnits.{number_of}
use Rattle.vg_shapes.specs.Units.{unit_at}
use Rattle.vg_shapes.proofs.Apart.{access-listed, no-conflict-apart}
use Rattle.vg_order_laws.specs.Laws.{UnitsCommute}
use Rattle.vg_order_laws.specs.Steps.{seen, work_step, step_of, unit_step}
use Rattle.vg_order_laws.proofs.Accesses.{Apart, stores-commute, seen-store-commute, seen-commute}

bind_some : {A : Type 0} (o : Option A) → (o >>= λ x. Some x) ≡ o
bind_some (Some x) = refl
bind_some None = refl

-- the accesses of two units are apart where one of them writes
abbrev UnitsApart : List ℕ → SsaUnit → SsaUnit → Type 0
UnitsApart places u v = (x y : Access) → access_of u ≡ Some x → access_of v ≡ Some y → (x.writes || y.writes) ≡ true → AreApart places x y

at_size : (places : List ℕ) (a : Address) (n : ℕ) (b : Address) (w : Width) (k : ℕ) → Apart (place_of places a) n (place_of places b) (size_of w) → Apart (place_of places a) n (place_of places b) (length (bytes (size_of w) k))
at_size places a n b w k h = rw (length-bytes (size_of w) k) h

works-commute : (places : List ℕ) (numbers : ℕ → ℕ) (i j : ℕ) (u v : SsaUnit) → UnitsApart places u v → (m : List ℕ) → (work_step places numbers i u m >>= work_step places numbers j v) ≡ (work_step places numbers j v m >>= work_step places numbers i u)
works-commute places numbers i j (Operation op w k xs) v apart m = sym (bind_some (work_step places numbers j v m))
works-commute places numbers i j (Load a w) (Operation op v k xs) apart m = bind_some (work_step places numbers i (Load a w) m)
works-commute places numbers i j (Store a w z) (Operation op v k xs) apart m = bind_some (work_step places numbers i (Store a w z) m)
works-commute places numbers i j (Load a w) (Load b v) apart m = seen-commute m (place_of places a) (size_of w) (numbers i) (place_of places b) (size_of v) (numbers j)
works-commute places numbers i j (Load a w) (Store b v z) apart m =
    seen-store-commute m (place_of places a) (size_of w) (numbers i) (place_of places b) (bytes (size_of v) (number_of numbers z)) (at_size places a (size_of w) b v (number_of numbers z) (apart _ _ refl refl refl))
works-commute places numbers i j (Store a w z) (Load b v) apart m =
    sym (seen-store-commute m (place_of places b) (size_of v) (numbers j) (place_of places a) (bytes (size_of w) (number_of numbers z)) (at_size places b (size_of v) a w (number_of numbers z) (turned (apart _ _ refl refl refl))))
  where
    turned : Apart (place_of places a) (size_of w) (place_of places b) (size_of v) → Apart (place_of places b) (size_of v) (place_of places a) (size_of w)
    turned (inl h) = inr h
    turned (inr h) = inl h
works-commute places numbers i j (Store a w z) (Store b v y) apart m =
    stores-commute m (place_of places a) (bytes (size_of w) (number_of numbers z)) (place_of places b) (bytes (size_of v) (number_of numbers y))
    (rw (length-bytes (size_of w) (number_of numbers z), length-bytes (size_of v) (number_of numbers y)) (apart _ _ refl refl refl))

pub units-commute : UnitsCommute
units-commute ssa places numbers x y respects h m = by (unit_at ssa x) (unit_at ssa y) refl refl
  where
    by : (u v : Option SsaUnit) → unit_at ssa x ≡ u → unit_at ssa y ≡ v → (step_of v places numbers y m >>= step_of u places numbers x) ≡ (step_of u places numbers x m >>= step_of v places numbers y)
    by None v a b = bind_some (step_of v places numbers y m)
    by (Some u) None a b = sym (bind_some (work_step places numbers x u m))
    by (Some u) (Some v) a b = sym (works-commute places numbers x y u v (λ p q e g writes.
        let first : access_at ssa x ≡ Some p = ap (λ o. o >>= access_of) a ∙ e in
        let second : access_at ssa y ≡ Some q = ap (λ o. o >>= access_of) b ∙ g in
        no-conflict-apart ssa places p q respects (access-listed ssa x p first) (access-listed ssa y q second)
        (ap (λ o. conflict_of (noalias_flags ssa) o (Some q)) (sym first) ∙ ap (conflict_of (noalias_flags ssa) (access_at ssa x)) (sym second) ∙ h) writes) m)
