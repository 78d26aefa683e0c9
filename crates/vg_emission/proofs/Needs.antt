-- What nodes of a plan need stands in registers, where what is needed is marked.
use Rattle.std.proofs.Common.{◌≡◌, ℕ, zero, suc, ◌+◌, ◌-◌, ◌<◌, ◌≤◌, true, false, List, [], ◌∷◌, length, map, Option, Some, None, refl, sym, ap, subst, ◌∙◌, ◌⊎◌, inl, inr, arith, lit<}
use Rattle.std.specs.Prelude.{filter, filter_map, nat_eq, slice_get, ◌==◌}
use Rattle.std.specs.List.{AllByRecursion, cons_option, list_any}
use Rattle.std.specs.Option.{is_some}
use Rattle.std.proofs.lemmas.Bool.{cases_Bool, cases_lt, cond-false, cond-true, eqb-true, eq-eqb, le-ltb, or_cases}
use Rattle.vg_base.specs.declared.width.Width.{Width}
use Rattle.vg_base.specs.Trap.{◌>>=◌}
use Rattle.vg_base.specs.Width.{bits_of}
use Rattle.vg_plans.specs.Members.{Has}
use Rattle.vg_shapes.specs.declared.match_table.Match.{Match}
use Rattle.vg_shapes.specs.declared.operand.Slot.{Slot}
use Rattle.vg_shapes.specs.declared.order.Node.{Node}
use Rattle.vg_shapes.specs.declared.order.Node.TheVariants.{PackAt, UnitAt}
use Rattle.vg_shapes.specs.declared.ssa.Ssa.{Ssa}
use Rattle.vg_shapes.specs.declared.ssa_unit.Operands.{Operands}
use Rattle.vg_shapes.specs.declared.ssa_unit.Operator.{Operator}
use Rattle.vg_shapes.specs.declared.ssa_unit.Operator.TheVariants.{Two, Shift, Resize, Compare, Select}
use Rattle.vg_shapes.specs.declared.ssa_unit.SsaUnit.{SsaUnit}
use Rattle.vg_shapes.specs.declared.ssa_unit.SsaUnit.TheVariants.{Load, Store, Operation}
use Rattle.vg_shapes.specs.declared.wanted.Wanted.{Wanted}
use Rattle.vg_shapes.specs.declared.wanted.Wanted.TheVariants.{Value, Constant, Nothing}
use Rattle.vg_shapes.specs.Layout.{access_at, access_of}
use Rattle.vg_shapes.specs.Nodes.{is_packed}
use Rattle.vg_shapes.specs.Operands.{AreSlots, IsSlot, MayBeWanted}
use Rattle.vg_shapes.specs.Order.{one_if, Stands as In}
use Rattle.vg_shapes.specs.Sound.{IsBit, IsNumber, IsOperation, IsUnit, value_bits}
use Rattle.vg_shapes.specs.Units.{arguments, unit_at}
use Rattle.vg_kernel_plans.specs.declared.recipe.Recipe.{Recipe}
use Rattle.vg_kernel_plans.specs.declared.recipe.Recipe.TheVariants as recipe
use Rattle.vg_kernel_plans.specs.Packing.{used_by}
use Rattle.vg_kernel_plans.specs.Taken.{operands_of}
use Rattle.vg_kernel_plans.specs.Wants.{value_of, wanted_values, wants_value}
use Rattle.vg_emission.specs.Emission.{Job, operand_at, pack_at, recipe_at, takes_at, width_for}
use Rattle.vg_emission.specs.Planned.{IsPlanned, TakesGiven}
use Rattle.vg_emission.specs.Program.{has_value}
use Rattle.vg_emission.proofs.Jobs.{IsNode}
use Rattle.vg_emission.proofs.Placing.{IsLaneSlot}
use Rattle.vg_emission.proofs.Readiness.{Is, NodeNeeds, OperandNeeds, RecipeNeeds, SlotsNeeded, TakenNeeded, WorkNeeds}
use Rattle.vg_emission.proofs.Uses.{unit-in-list}

-- The parts of a job go together: packs name their operands, and what is needed is what inserts and scalars use.
pub record IsJob (j : Job) (matches : List Match) : Type 0 where
  pub takes : (k : ℕ) → k < length j.packs → map (operand_at j) (takes_at j k) ≡ operands_of j.descriptions matches j.ssa (pack_at j k)
  pub below : (k : ℕ) → k < length j.packs → AllByRecursion (λ o. o < length j.operands) (takes_at j k)
  pub valued : (v : ℕ) → j.needed v ≡ true → has_value j.ssa v ≡ true
  pub inserted : (o x : ℕ) → o < length j.operands → recipe_at j o ≡ recipe.Inserts → In x (wanted_values (operand_at j o)) → has_value j.ssa x ≡ true → j.needed x ≡ true
  pub used : (v x : ℕ) → is_packed j.packs v ≡ false → (is_some (access_at j.ssa v) ≡ true) ⊎ (j.needed v ≡ true) → In x (used_by (unit_at j.ssa v)) → has_value j.ssa x ≡ true → j.needed x ≡ true

-- ---- values that have a width

pub width-known : (ssa : Ssa) (v w : ℕ) → value_bits ssa v ≡ Some w → (v < arguments ssa) ⊎ ((arguments ssa ≤ v) × (has_value ssa v ≡ true))
width-known ssa v w e = elim (cases_lt v (arguments ssa)) [
  | inl below ↦ inl below
  | inr above ↦ inr (above, ap is_some (sym (cond-false _ _ _ (le-ltb v (arguments ssa) above)) ∙ e))
]

-- a value that is wanted has a width
abbrev pub HasBits : Ssa → Wanted → Type 0
HasBits ssa y = (z : ℕ) → y ≡ Value z → (w : ℕ) × (value_bits ssa z ≡ Some w)

pub number-bits : (ssa : Ssa) (w : Width) (y : Wanted) → IsNumber ssa w y → HasBits ssa y
number-bits ssa w (Value v) is z e = (bits_of w, (let same : v ≡ z = cc in ap (value_bits ssa) (sym same) ∙ is))
number-bits ssa w (Constant m k) is z e = cc
number-bits ssa w Nothing is z e = absurd is

bit-bits : (ssa : Ssa) (y : Wanted) → IsBit ssa y → HasBits ssa y
bit-bits ssa (Value v) is z e = (1, (let same : v ≡ z = cc in ap (value_bits ssa) (sym same) ∙ is))
bit-bits ssa (Constant m k) is z e = absurd is
bit-bits ssa Nothing is z e = absurd is

no-bits : (ssa : Ssa) (y : Wanted) → y ≡ Nothing → HasBits ssa y
no-bits ssa y none z e = cc

wanted-bits : (ssa : Ssa) (w : ℕ) (y : Wanted) → MayBeWanted ssa w y → HasBits ssa y
wanted-bits ssa w (Value v) is z e = (w, (let same : v ≡ z = cc in ap (value_bits ssa) (sym same) ∙ is))
wanted-bits ssa w (Constant m k) is z e = cc
wanted-bits ssa w Nothing is z e = cc

-- what has a width and is marked where it has a value is needed
needed-where : (j : Job) (y : Wanted) → HasBits j.ssa y → ((z : ℕ) → y ≡ Value z → has_value j.ssa z ≡ true → j.needed z ≡ true) → TakenNeeded j y
needed-where j (Constant w n) bits marked = tt
needed-where j Nothing bits marked = tt
needed-where j (Value z) bits marked =
    let b = bits z refl in
    elim (width-known j.ssa z b.0 b.1) [ inl below ↦ inl below | inr above ↦ inr (above.0, marked z refl above.1) ]

-- ---- units outside packs

unit-in : (P : SsaUnit → Type 0) (us : List SsaUnit) (k : ℕ) (u : SsaUnit) → AllByRecursion P us → slice_get us k ≡ Some u → P u
unit-in P [] k u all e = cc
unit-in P (x ∷ us) zero u all e = let same : x ≡ u = cc in subst P same all.0
unit-in P (x ∷ us) (suc k) u all e = unit-in P us k u all.1 e

pub unit-is : (ssa : Ssa) (v : ℕ) (u : SsaUnit) → AllByRecursion (IsUnit ssa) ssa.units → unit_at ssa v ≡ Some u → IsUnit ssa u
unit-is ssa v u all e = unit-in (IsUnit ssa) ssa.units (v - arguments ssa) u all (unit-in-list ssa v u e)

value-used : (ys : List Wanted) (y : Wanted) (z : ℕ) → Has y ys → y ≡ Value z → In z (filter_map value_of ys)
value-used [] y z has e = absurd has
value-used (x ∷ ys) y z (inl here) e = subst (λ q. In z (cons_option (value_of q) (filter_map value_of ys))) (sym (here ∙ e)) (let one : one_if (z == z) ≡ 1 = ap one_if (eq-eqb z z refl) in omega arith)
value-used (x ∷ ys) y z (inr there) e = more x (value-used ys y z there e)
  where
    more : (w : Wanted) → In z (filter_map value_of ys) → In z (cons_option (value_of w) (filter_map value_of ys))
    more (Value v) h = omega arith
    more (Constant w n) h = h
    more Nothing h = h

pub record OperandBits (ssa : Ssa) (xs : Operands) : Type 0 where
  pub first : HasBits ssa xs.first
  pub second : HasBits ssa xs.second
  pub third : HasBits ssa xs.third

pub operation-bits : (ssa : Ssa) (op : Operator) (w : Width) (k : ℕ) (xs : Operands) → IsOperation ssa op w k xs → OperandBits ssa xs
operation-bits ssa (Two op) w k xs is = record { first = number-bits ssa w xs.first is.1; second = number-bits ssa w xs.second is.2; third = no-bits ssa xs.third is.3 }
operation-bits ssa (Shift op) w k xs is = record { first = number-bits ssa w xs.first is.1; second = no-bits ssa xs.second is.2; third = no-bits ssa xs.third is.3 }
operation-bits ssa (Resize op v) w k xs is = record { first = number-bits ssa v xs.first is.2; second = no-bits ssa xs.second is.3; third = no-bits ssa xs.third is.4 }
operation-bits ssa (Compare op) w k xs is = record { first = number-bits ssa w xs.first is.1; second = number-bits ssa w xs.second is.2; third = no-bits ssa xs.third is.3 }
operation-bits ssa Select w k xs is = record { first = bit-bits ssa xs.first is.1; second = number-bits ssa w xs.second is.2; third = number-bits ssa w xs.third is.3 }

unit-needs : (j : Job) (matches : List Match) (v : ℕ) → AllByRecursion (IsUnit j.ssa) j.ssa.units → IsJob j matches → is_packed j.packs v ≡ false → WorkNeeds j v (unit_at j.ssa v)
unit-needs j matches v units job outside = by (unit_at j.ssa v) refl
  where
    marked : (o : Option SsaUnit) (ys : List Wanted) (y : Wanted) → unit_at j.ssa v ≡ o → used_by o ≡ filter_map value_of ys → Has y ys → (is_some (access_at j.ssa v) ≡ true) ⊎ (j.needed v ≡ true) → (z : ℕ) → y ≡ Value z → has_value j.ssa z ≡ true → j.needed z ≡ true
    marked o ys y e same has emitted z is value = job.used v z outside emitted (subst (In z) (sym (ap used_by e ∙ same)) (value-used ys y z has is)) value

    by : (o : Option SsaUnit) → unit_at j.ssa v ≡ o → WorkNeeds j v o
    by None e = tt
    by (Some (Load a w)) e = tt
    by (Some (Store a w x)) e =
        let is = unit-is j.ssa v (Store a w x) units e in
        needed-where j x (number-bits j.ssa w x is.1) (marked (Some (Store a w x)) (x ∷ []) x e refl (inl refl) (inl (ap (λ o. is_some (o >>= access_of)) e)))
    by (Some (Operation op w k xs)) e = λ n.
        let bits = operation-bits j.ssa op w k xs (unit-is j.ssa v (Operation op w k xs) units e) in
        let ys = xs.first ∷ (xs.second ∷ (xs.third ∷ [])) in (
          needed-where j xs.first bits.first (marked (Some (Operation op w k xs)) ys xs.first e refl (inl refl) (inr n)),
          needed-where j xs.second bits.second (marked (Some (Operation op w k xs)) ys xs.second e refl (inr (inl refl)) (inr n)),
          needed-where j xs.third bits.third (marked (Some (Operation op w k xs)) ys xs.third e refl (inr (inr (inl refl))) (inr n)),
        )

-- ---- operands of packs

pub lane-width : (n : ℕ) → list_any (nat_eq n) (8 ∷ 16 ∷ 32 ∷ 64 ∷ []) ≡ true → (bits_of (width_for n) ≡ n) × (0 < n)
lane-width n h = elim (or_cases (nat_eq n 8) _ h) [
  | inl t ↦ at 8 t (refl, lit< tt)
  | inr a ↦ elim (or_cases (nat_eq n 16) _ a) [
    | inl t ↦ at 16 t (refl, lit< tt)
    | inr b ↦ elim (or_cases (nat_eq n 32) _ b) [
      | inl t ↦ at 32 t (refl, lit< tt)
      | inr c ↦ elim (or_cases (nat_eq n 64) _ c) [
        | inl t ↦ at 64 t (refl, lit< tt)
        | inr d ↦ absurd (cc)
      ]
    ]
  ]
]
  where
    at : (m : ℕ) → nat_eq n m ≡ true → (bits_of (width_for m) ≡ m) × (0 < m) → (bits_of (width_for n) ≡ n) × (0 < n)
    at m t g = subst (λ k. (bits_of (width_for k) ≡ k) × (0 < k)) (sym (eqb-true n m t)) g

lane-slot : (ssa : Ssa) (register : ℕ) (s : Slot) → IsSlot ssa register s → IsLaneSlot s
lane-slot ssa register s is =
    let w = lane-width s.width is.width in
    (w.0, (let p = w.1 in let a = is.aligned in omega arith))

is-value : (y : Wanted) (x : ℕ) → Is y x → y ≡ Value x
is-value (Value v) x h = ap Value h
is-value (Constant w n) x h = absurd h
is-value Nothing x h = absurd h

slots-needed : (j : Job) (wants : List ℕ) (register low : ℕ) (ss : List Slot) → AreSlots j.ssa register low ss → ((x : ℕ) → In x (filter_map (λ s. value_of s.wanted) ss) → In x wants)
    → ((x : ℕ) → In x wants → has_value j.ssa x ≡ true → j.needed x ≡ true) → SlotsNeeded j wants (filter (λ s. wants_value s.wanted) ss)
slots-needed j wants register low [] are inside marked = tt
slots-needed j wants register low (s ∷ ss) are inside marked =
    let Goal : List Slot → Type 0 = λ l. SlotsNeeded j wants l in
    let kept = filter (λ s. wants_value s.wanted) ss in
    let rest = slots-needed j wants register (s.low + s.width) ss are.2 (λ x h. inside x (later s.wanted x h)) marked in
    let here : (x : ℕ) → s.wanted ≡ Value x → In x wants = λ x e. inside x (first s.wanted x e) in
    elim (cases_Bool (wants_value s.wanted)) [
      | inr f ↦ subst Goal (sym (cond-false _ (s ∷ kept) kept f)) rest
      | inl t ↦ subst Goal (sym (cond-true _ (s ∷ kept) kept t))
          ((needed-where j s.wanted (wanted-bits j.ssa s.width s.wanted are.1.wanted) (λ z e value. marked z (here z e) value), (λ x i. here x (is-value s.wanted x i)), lane-slot j.ssa register s are.1), rest)
    ]
  where
    later : (y : Wanted) (x : ℕ) → In x (filter_map (λ t. value_of t.wanted) ss) → In x (cons_option (value_of y) (filter_map (λ t. value_of t.wanted) ss))
    later (Value v) x h = omega arith
    later (Constant w n) x h = h
    later Nothing x h = h

    first : (y : Wanted) (x : ℕ) → y ≡ Value x → In x (cons_option (value_of y) (filter_map (λ t. value_of t.wanted) ss))
    first y x e = subst (λ q. In x (cons_option (value_of q) (filter_map (λ t. value_of t.wanted) ss))) (sym e) (let one : one_if (x == x) ≡ 1 = ap one_if (eq-eqb x x refl) in omega arith)

operand-needs : (j : Job) (matches : List Match) (o : ℕ) → IsJob j matches → IsPlanned j → o < length j.operands → OperandNeeds j o
operand-needs j matches o job planned low = by (recipe_at j o) refl (planned.recipes o low)
  where
    by : (way : Recipe) → recipe_at j o ≡ way → TakesGiven j (operand_at j o) way → RecipeNeeds j (operand_at j o) way
    by (recipe.Reuse k) e given = given
    by (recipe.Constant bs) e given = tt
    by (recipe.Shuffle x ks) e given = given
    by recipe.Inserts e given = slots-needed j (wanted_values (operand_at j o)) (operand_at j o).register 0 (operand_at j o).slots given.slots (λ x h. h) (λ x h value. job.inserted o x low e h value)

all-need : (j : Job) (matches : List Match) (os : List ℕ) → IsJob j matches → IsPlanned j → AllByRecursion (λ o. o < length j.operands) os → AllByRecursion (OperandNeeds j) os
all-need j matches [] job planned low = tt
all-need j matches (o ∷ os) job planned low = (operand-needs j matches o job planned low.0, all-need j matches os job planned low.1)

pub node-needs : (j : Job) (matches : List Match) (n : Node) → IsJob j matches → IsPlanned j → IsNode j n → NodeNeeds j n
node-needs j matches (PackAt k) job planned is = (is, all-need j matches (takes_at j k) job planned (job.below k is))
node-needs j matches (UnitAt v) job planned is = unit-needs j matches v planned.sound.units job is
