-- Independent accesses are apart.
use Rattle.std.proofs.Common.{◌≡◌, ℕ, ◌<◌, Bool, true, false, List, Option, Some, None, refl, sym, ◌∙◌, inl, inr, arith}
use Rattle.std.specs.Prelude.{nat_lt, not, ◌&&◌, ◌||◌}
use Rattle.std.specs.Option.{is_some}
use Rattle.std.proofs.lemmas.Bool.{cases_lt, lt-ltb}
use Rattle.vg_base.specs.Trap.{◌>>=◌}
use Rattle.vg_shapes.specs.declared.access.Access.{Access}
use Rattle.vg_shapes.specs.declared.ssa.Ssa.{Ssa}
use Rattle.vg_shapes.specs.declared.ssa_unit.SsaUnit.{SsaUnit}
use Rattle.vg_shapes.specs.DepList.{is_listed}
use Rattle.vg_shapes.specs.Depends.{conflict_at, conflict_of, depends_on, uses_at}
use Rattle.vg_shapes.specs.Layout.{access_at, access_of, AreApart, noalias_flags, Respects}
use Rattle.vg_shapes.specs.Units.{is_unit, unit_at}
use Rattle.vg_shapes.proofs.Apart.{access-listed, no-conflict-apart}
use Rattle.vg_deps.specs.Independent.{are_independent, KeepApart}

both-false : (a b : Bool) → not (a || b) ≡ true → (a ≡ false) × (b ≡ false)
both-false false false e = (refl, refl)
both-false false true e = absurd (cc)
both-false true b e = absurd (cc)

last-false : (a lt b c : Bool) → a ≡ true → lt ≡ true → (a && (lt && (b || c))) ≡ false → c ≡ false
last-false true true false c e f g = g
last-false true true true c e f g = absurd (cc)
last-false true false b c e f g = absurd (cc)
last-false false lt b c e f g = absurd (cc)

-- what has an access is a unit
accessed-unit : (o : Option SsaUnit) (x : Access) → (o >>= access_of) ≡ Some x → is_some o ≡ true
accessed-unit None x e = absurd (cc)
accessed-unit (Some u) x e = refl

later-apart : (ssa : Ssa) (places : List ℕ) (a b : ℕ) (x y : Access) → Respects ssa places → a < b → access_at ssa a ≡ Some x → access_at ssa b ≡ Some y → (x.writes || y.writes) ≡ true → depends_on ssa b a ≡ false → AreApart places x y
later-apart ssa places a b x y respects below e g writes none =
    let free : conflict_at ssa a b ≡ false = last-false (is_unit ssa a) (nat_lt a b) (uses_at ssa b a) (conflict_at ssa a b) (accessed-unit (unit_at ssa a) x e) (lt-ltb a b below) none in
    no-conflict-apart ssa places x y respects (access-listed ssa a x e) (access-listed ssa b y g)
    (sym (λ i. conflict_of (noalias_flags ssa) (e i) (g i)) ∙ free) writes

either-turned : (a b : Bool) → (a || b) ≡ true → (b || a) ≡ true
either-turned true true e = refl
either-turned true false e = refl
either-turned false true e = refl
either-turned false false e = absurd (cc)

pub turned : (places : List ℕ) (x y : Access) → AreApart places y x → AreApart places x y
turned places x y (inl h) = inr h
turned places x y (inr h) = inl h

pub independent-apart : (deps : List (ℕ × ℕ)) (a b : ℕ) → KeepApart deps a b (are_independent deps a b)
independent-apart deps a b ssa places x y lists respects other e g writes independent =
    let none = both-false (is_listed deps a b) (is_listed deps b a) independent in
    elim (cases_lt a b) [
      | inl below ↦ later-apart ssa places a b x y respects below e g writes (sym (lists b a) ∙ none.1)
      | inr above ↦ turned places x y (later-apart ssa places b a y x respects (omega arith) g e (either-turned x.writes y.writes writes) (sym (lists a b) ∙ none.0))
    ]
