-- What marks of units tell of an operand's values.
use Rattle.std.proofs.Common.{◌≡◌, ℕ, zero, suc, ◌<◌, ◌≤◌, Bool, true, false, List, [], ◌∷◌, ◌++◌, length, get_or, refl, sym, ◌∙◌, ap, subst, inl, inr, arith, append-nil}
use Rattle.std.specs.Prelude.{◌&&◌, ◌||◌, nat_lt, nat_eq}
use Rattle.std.specs.List.{flat_map, list_all, list_any}
use Rattle.std.proofs.lemmas.Bool.{cases_Bool}
use Rattle.std.proofs.lemmas.Bool.Decides.{nat_tests}
use Rattle.std.proofs.lemmas.Grind.{flat_map-append}
use Rattle.std.proofs.lemmas.List.Folds.{list_any-append}
use Rattle.vg_plans.specs.World.{is_in}
use Rattle.vg_shapes.specs.declared.operand.Operand.{Operand}
use Rattle.vg_shapes.specs.declared.operand.Slot.{Slot}
use Rattle.vg_shapes.specs.declared.pack.Pack.{Pack}
use Rattle.vg_shapes.specs.declared.wanted.Wanted.{Wanted}
use Rattle.vg_shapes.specs.declared.wanted.Wanted.TheVariants.{Value, Constant, Nothing}
use Rattle.vg_shapes.specs.Pack.{units_of}
use Rattle.vg_cost.specs.Marks.{Has, Marked}
use Rattle.vg_cost.specs.Places.{are_met, is_met}
use Rattle.vg_cost.specs.Taken.{is_one_of, is_touched}
use Rattle.vg_cost.specs.Touch.{MarkUnits, may_be_given, may_be_all_given, may_be_marked, may_use_marked}
use Rattle.vg_cost.proofs.LineSteps.{packed_by}

inside : (marks : List Bool) (v : ℕ) → v < length marks → get_or marks v true ≡ get_or marks v false
inside [] v h = absurd (omega arith)
inside (m ∷ marks) zero h = refl
inside (m ∷ marks) (suc v) h = inside marks v (omega arith)

past : (marks : List Bool) (v : ℕ) → length marks ≤ v → get_or marks v true ≡ true
past [] v h = refl
past (m ∷ marks) zero h = absurd (omega arith)
past (m ∷ marks) (suc v) h = past marks v (omega arith)

differ : (b : Bool) → b ≡ true → b ≡ false → ⊥
differ true t f = absurd (cc)
differ false t f = absurd (cc)

not-marked : (list : List ℕ) (marks : List Bool) (v : ℕ) → Has (length marks) list marks → get_or marks v true ≡ false
    → is_in v list ≡ false
not-marked list marks v h f = elim (cases_Bool (nat_lt v (length marks))) [
  | inl t ↦
      let lt : v < length marks = grind (arith, nat_tests, t) in
      sym (h.each v lt) ∙ sym (inside marks v lt) ∙ f
  | inr g ↦
      let le : length marks ≤ v = grind (arith, nat_tests, g) in
      absurd (differ _ (past marks v le) f)
]

neither : (a b : Bool) → a || b ≡ false → (a ≡ false) × (b ≡ false)
neither true b e = absurd (cc)
neither false b e = (refl, e)

one-not : (p : Pack) (own : List Bool) (x : Wanted) → Has (length own) (units_of p) own → may_be_marked own x ≡ false
    → is_one_of p x ≡ false
one-not p own (Value v) h f = not-marked (units_of p) own v h f
one-not p own (Constant w n) h f = refl
one-not p own Nothing h f = refl

none-not : (p : Pack) (own : List Bool) (ss : List Slot) → Has (length own) (units_of p) own
    → list_any (λ s. may_be_marked own s.wanted) ss ≡ false → list_any (λ s. is_one_of p s.wanted) ss ≡ false
none-not p own [] h f = refl
none-not p own (s ∷ ss) h f =
    let k = neither (may_be_marked own s.wanted) (list_any (λ s. may_be_marked own s.wanted) ss) f in
    rw (one-not p own s.wanted h k.0) (none-not p own ss h k.1)

-- a pack of whose units none may be an operand's value has none of its values
pub untouched : (p : Pack) (own : List Bool) (o : Operand) → Has (length own) (units_of p) own
    → may_use_marked own o ≡ false → is_touched p o ≡ false
untouched p own o h f = none-not p own o.slots h f

had-not : (plan : List Pack) (marks : List Bool) (x : Wanted) → MarkUnits plan marks → may_be_given marks x ≡ false
    → is_met plan x ≡ false
had-not plan marks (Value v) h f = sym (packed_by v plan) ∙ not-marked (flat_map units_of plan) marks v h f
had-not plan marks (Constant w n) h f = absurd (differ true refl f)
had-not plan marks Nothing h f = absurd (differ true refl f)

right-false : (a b : Bool) → b ≡ false → a && b ≡ false
right-false true b e = e
right-false false b e = refl

all-not : (plan : List Pack) (marks : List Bool) (ss : List Slot) → MarkUnits plan marks
    → list_all (λ s. may_be_given marks s.wanted) ss ≡ false → list_all (λ s. is_met plan s.wanted) ss ≡ false
all-not plan marks [] h f = absurd (differ true refl f)
all-not plan marks (s ∷ ss) h f = elim (cases_Bool (may_be_given marks s.wanted)) [
  | inl t ↦ right-false (is_met plan s.wanted) _ (all-not plan marks ss h (rw t at f))
  | inr g ↦ rw (had-not plan marks s.wanted h g) refl
]

-- where not all values of an operand may be units of the plan, one is not
pub unmet_by : (plan : List Pack) (marks : List Bool) (o : Operand) → MarkUnits plan marks → may_be_all_given marks o ≡ false
    → are_met plan o ≡ false
unmet_by plan marks o h f = all-not plan marks o.slots h f

or-turn : (a b c : Bool) → a || (b || c) ≡ b || (a || c)
or-turn true true c = refl
or-turn true false c = refl
or-turn false b c = refl

-- what one of a list or the one after it passes
pub any_behind : {X : Type 0} (test : X → Bool) (xs : List X) (x : X)
    → test x || list_any test xs ≡ list_any test (xs ++ x ∷ [])
any_behind test [] x = refl
any_behind test (y ∷ xs) x =
    or-turn (test x) (test y) (list_any test xs) ∙ ap (λ b. test y || b) (any_behind test xs x)

units-push : (plan : List Pack) (p : Pack) → flat_map units_of plan ++ units_of p ≡ flat_map units_of (plan ++ p ∷ [])
units-push plan p =
    ap (λ l. flat_map units_of plan ++ l) (sym (append-nil (units_of p))) ∙ sym (flat_map-append units_of plan (p ∷ []))

or-flip : (a b : Bool) → a || b ≡ b || a
or-flip true true = refl
or-flip true false = refl
or-flip false true = refl
or-flip false false = refl

-- the marks of a plan and of a pack after it
pub marked_longer : (count : ℕ) (plan : List Pack) (p : Pack) (marks longer : List Bool)
    → Has count (flat_map units_of plan) marks → Marked (units_of p) marks longer
    → Has count (flat_map units_of (plan ++ p ∷ [])) longer
marked_longer count plan p marks longer h m =
    subst (λ l. Has count l longer) (units-push plan p) record {
      long = m.long ∙ h.long;
      each = λ v lt.
          let in_marks : v < length marks = let l = h.long in omega arith in
          m.each v in_marks ∙ ap (λ b. is_in v (units_of p) || b) (h.each v lt)
          ∙ or-flip (is_in v (units_of p)) (is_in v (flat_map units_of plan))
          ∙ sym (list_any-append (nat_eq v) (flat_map units_of plan) (units_of p));
    }

pub own_count : (list : List ℕ) (count : ℕ) (marks : List Bool) → Has count list marks → Has (length marks) list marks
own_count list count marks h = subst (λ n. Has n list marks) (sym h.long) h
