-- What emitted programs cost for the packs and units of a plan is what the plan counts for them.
use Rattle.std.proofs.Common.{◌≡◌, ℕ, zero, suc, ◌+◌, ◌<◌, true, false, List, [], ◌∷◌, ◌++◌, length, Option, Some, None, refl, sym, ap, subst, ◌∙◌, inl, inr, arith}
use Rattle.std.specs.Prelude.{filter_map, not, slice_index_or, ◌==◌, ◌&&◌, ◌||◌}
use Rattle.std.specs.List.{AllByRecursion, cons_option}
use Rattle.std.specs.Option.{is_some}
use Rattle.std.proofs.lemmas.Bool.{cases_Bool, cases_lt, cond-false, cond-true, eqb-true, true≢false}
use Rattle.vg_base.specs.Trap.{◌>>=◌}
use Rattle.vg_plans.specs.Members.{Has}
use Rattle.vg_plans.specs.World.{is_in}
use Rattle.vg_shapes.specs.declared.match_table.Match.{Match}
use Rattle.vg_shapes.specs.declared.operand.Operand.{Operand}
use Rattle.vg_shapes.specs.declared.operand.Slot.{Slot}
use Rattle.vg_shapes.specs.declared.pack.Pack.{Pack}
use Rattle.vg_shapes.specs.declared.pack.Pack.TheVariants.{Stores, Loads, Call}
use Rattle.vg_shapes.specs.declared.ssa.Ssa.{Ssa}
use Rattle.vg_shapes.specs.declared.ssa_unit.SsaUnit.{SsaUnit}
use Rattle.vg_shapes.specs.declared.ssa_unit.SsaUnit.TheVariants.{Load, Store, Operation}
use Rattle.vg_shapes.specs.declared.wanted.Wanted.{Wanted}
use Rattle.vg_shapes.specs.declared.wanted.Wanted.TheVariants.{Value, Constant, Nothing}
use Rattle.vg_shapes.specs.Description.{Description}
use Rattle.vg_shapes.specs.Layout.{access_at, access_of}
use Rattle.vg_shapes.specs.Nodes.{is_packed, packed}
use Rattle.vg_shapes.specs.Operands.{AreSlots, IsOperand, IsSlot}
use Rattle.vg_shapes.specs.Order.{count_of, numbers_from, one_if, Stands as In}
use Rattle.vg_shapes.specs.Pack.{units_of}
use Rattle.vg_shapes.specs.Sound.{IsUnit, value_bits}
use Rattle.vg_shapes.specs.Units.{arguments, is_unit, unit_at}
use Rattle.vg_kernel_plans.specs.declared.recipe.Recipe.{Recipe}
use Rattle.vg_kernel_plans.specs.declared.recipe.Recipe.TheVariants as recipe
use Rattle.vg_kernel_plans.specs.Packing.{falling_units, used_by}
use Rattle.vg_kernel_plans.specs.Wants.{value_of, wanted_values}
use Rattle.vg_order_laws.specs.Steps.{unit_numbers}
use Rattle.vg_order_laws.proofs.Sequences.{count_of-append}
use Rattle.vg_emission.specs.Emission.{Job, pack_at}
use Rattle.vg_emission.specs.Planned.{IsPlanned, values_of}
use Rattle.vg_emission.specs.Program.{all_inserted, has_value, inserted_by, is_scalar, job_of, needed_behind, operands_in}
use Rattle.vg_emission.proofs.Costs.{needed_in, work_cost}
use Rattle.vg_emission.proofs.Jobs.{calls-at, each, get-there, given-valued, IsNode, kind-at, order-nodes, some-valued, stands-found, units-given, unit-number, valued-some}
use Rattle.vg_emission.proofs.Needs.{HasBits, number-bits, operation-bits, unit-is, width-known}
use Rattle.vg_emission.proofs.PlanCosts.{has-stands, total-each}
use Rattle.vg_emission.proofs.Readiness.{Valued, values-loads}
use Rattle.vg_order_laws.proofs.Plans.{found-stands}
use Rattle.vg_emission.proofs.Totals.{falling-total, scalars-total, total, total-append, total-counted, total-flat, total-sum, unit_price}
use Rattle.vg_emission.proofs.Uses.{wanted-slot}

-- ---- what is needed has a value, where it is a unit

-- a unit of this number has a value
abbrev pub UnitValued : Ssa → ℕ → Type 0
UnitValued ssa x = is_unit ssa x ≡ true → Valued (unit_at ssa x)

some-unit : (o : Option SsaUnit) → is_some o ≡ true → (u : SsaUnit) × (o ≡ Some u)
some-unit None h = cc
some-unit (Some u) h = (u, refl)

bits-valued : (ssa : Ssa) (x w : ℕ) → value_bits ssa x ≡ Some w → UnitValued ssa x
bits-valued ssa x w e unit = elim (width-known ssa x w e) [
  | inl below ↦ absurd (let u = some-unit (unit_at ssa x) unit in let high = (unit-number ssa x u.0 u.1).0 in omega arith)
  | inr above ↦ valued-some (unit_at ssa x) above.1
]

values-member : (ys : List Wanted) (x : ℕ) → In x (filter_map value_of ys) → (y : Wanted) × Has y ys × (y ≡ Value x)
values-member [] x h = absurd (omega arith)
values-member (y ∷ ys) x h = by y refl (values-member ys x) h
  where
    later : (z : Wanted) × Has z ys × (z ≡ Value x) → (z : Wanted) × Has z (y ∷ ys) × (z ≡ Value x)
    later f = (f.0, inr f.1, f.2)

    by : (w : Wanted) → y ≡ w → (In x (filter_map value_of ys) → (z : Wanted) × Has z ys × (z ≡ Value x)) → In x (cons_option (value_of w) (filter_map value_of ys)) → (z : Wanted) × Has z (y ∷ ys) × (z ≡ Value x)
    by (Constant w n) e rest g = later (rest g)
    by Nothing e rest g = later (rest g)
    by (Value v) e rest g = elim (cases_Bool (x == v)) [
      | inl t ↦ (y, inl refl, e ∙ ap Value (sym (eqb-true x v t)))
      | inr f ↦ later (rest (let none : one_if (x == v) ≡ 0 = ap one_if f in omega arith))
    ]

pub used-valued : (ssa : Ssa) (v x : ℕ) → AllByRecursion (IsUnit ssa) ssa.units → In x (used_by (unit_at ssa v)) → UnitValued ssa x
used-valued ssa v x units h = by (unit_at ssa v) refl h
  where
    from : (y : Wanted) → HasBits ssa y → y ≡ Value x → UnitValued ssa x
    from y bits e = let b = bits x e in bits-valued ssa x b.0 b.1

    by : (o : Option SsaUnit) → unit_at ssa v ≡ o → In x (used_by o) → UnitValued ssa x
    by None e g = absurd (omega arith)
    by (Some (Load a w)) e g = absurd (omega arith)
    by (Some (Store a w y)) e g =
        let m = values-member (y ∷ []) x g in
        let is = unit-is ssa v (Store a w y) units e in
        elim m.1 [ inl here ↦ from y (number-bits ssa w y is.1) (here ∙ m.2) | inr none ↦ absurd none ]
    by (Some (Operation op w k ys)) e g =
        let m = values-member (ys.first ∷ (ys.second ∷ (ys.third ∷ []))) x g in
        let bits = operation-bits ssa op w k ys (unit-is ssa v (Operation op w k ys) units e) in
        elim m.1 [
          | inl here ↦ from ys.first bits.first (here ∙ m.2)
          | inr more ↦ elim more [
            | inl here ↦ from ys.second bits.second (here ∙ m.2)
            | inr last ↦ elim last [ inl here ↦ from ys.third bits.third (here ∙ m.2) | inr none ↦ absurd none ]
          ]
        ]

slot-is : (ssa : Ssa) (r low : ℕ) (ss : List Slot) (s : Slot) → AreSlots ssa r low ss → Has s ss → IsSlot ssa r s
slot-is ssa r low [] s are has = absurd has
slot-is ssa r low (t ∷ ss) s are (inl e) = subst (IsSlot ssa r) e are.1
slot-is ssa r low (t ∷ ss) s are (inr more) = slot-is ssa r (t.low + t.width) ss s are.2 more

pub wanted-valued : (ssa : Ssa) (o : Operand) (x : ℕ) → IsOperand ssa o → In x (wanted_values o) → UnitValued ssa x
wanted-valued ssa o x is h =
    let s = wanted-slot o.slots x h in
    let slot = slot-is ssa o.register 0 o.slots s.0 is.slots s.1 in
    bits-valued ssa x s.0.width (subst (Rattle.vg_shapes.specs.Operands.MayBeWanted ssa s.0.width) s.2 slot.wanted)

pub inserted-member : (rs : List Recipe) (os : List Operand) (x : ℕ) (d : Operand) → In x (all_inserted rs os) → (o : ℕ) × (o < length os) × (slice_index_or rs o (recipe.Constant []) ≡ recipe.Inserts) × In x (wanted_values (slice_index_or os o d))
inserted-member [] os x d h = absurd (omega arith)
inserted-member (r ∷ rs) [] x d h = absurd (omega arith)
inserted-member (r ∷ rs) (q ∷ os) x d h = by r refl (inserted-member rs os x d) (let split = count_of-append x (inserted_by r q) (all_inserted rs os) in h)
  where
    later : (o : ℕ) × (o < length os) × (slice_index_or rs o (recipe.Constant []) ≡ recipe.Inserts) × In x (wanted_values (slice_index_or os o d)) → (o : ℕ) × (o < length (q ∷ os)) × (slice_index_or (r ∷ rs) o (recipe.Constant []) ≡ recipe.Inserts) × In x (wanted_values (slice_index_or (q ∷ os) o d))
    later f = (suc f.0, (let low = f.1 in omega arith), f.2, f.3)

    by : (way : Recipe) → r ≡ way → (In x (all_inserted rs os) → (o : ℕ) × (o < length os) × (slice_index_or rs o (recipe.Constant []) ≡ recipe.Inserts) × In x (wanted_values (slice_index_or os o d)))
        → In x (inserted_by way q ++ all_inserted rs os) → (o : ℕ) × (o < length (q ∷ os)) × (slice_index_or (r ∷ rs) o (recipe.Constant []) ≡ recipe.Inserts) × In x (wanted_values (slice_index_or (q ∷ os) o d))
    by (recipe.Reuse k) e rest g = later (rest g)
    by (recipe.Constant bs) e rest g = later (rest g)
    by (recipe.Shuffle k ks) e rest g = later (rest g)
    by recipe.Inserts e rest g = elim (cases_lt 0 (count_of x (wanted_values q))) [
      | inl here ↦ (0, omega arith, e, here)
      | inr none ↦ later (rest (let split = count_of-append x (wanted_values q) (all_inserted rs os) in omega arith))
    ]

pub needed-all : (P : ℕ → Type 0) (ssa : Ssa) (packs : List Pack) (needed vs : List ℕ) → ((x : ℕ) → In x needed → P x) → ((v x : ℕ) → In x (used_by (unit_at ssa v)) → P x) → (x : ℕ) → In x (needed_behind ssa packs needed vs) → P x
needed-all P ssa packs needed [] start used x h = start x h
needed-all P ssa packs needed (v ∷ vs) start used x h =
    let own = used_by (unit_at ssa v) in
    elim (cases_Bool (is_scalar ssa packs needed v)) [
      | inl t ↦ needed-all P ssa packs (own ++ needed) vs (λ y g. elim (cases_lt 0 (count_of y own)) [ inl a ↦ used v y a | inr z ↦ start y (let split = count_of-append y own needed in omega arith) ]) used x
          (subst (λ l. In x (needed_behind ssa packs l vs)) (cond-true (is_scalar ssa packs needed v) (own ++ needed) needed t) h)
      | inr f ↦ needed-all P ssa packs needed vs start used x (subst (λ l. In x (needed_behind ssa packs l vs)) (cond-false (is_scalar ssa packs needed v) (own ++ needed) needed f) h)
    ]

-- ---- prices

value-price : (ssa : Ssa) (last : List ℕ) (v : ℕ) → Valued (unit_at ssa v) → one_if (has_value ssa v && is_in v last) ≡ one_if (is_in v last)
value-price ssa last v h = ap (λ b. one_if (b && is_in v last)) (some-valued (unit_at ssa v) h)

packed-price : (ssa : Ssa) (packs : List Pack) (last : List ℕ) (v : ℕ) → is_packed packs v ≡ true → unit_price ssa packs last v ≡ one_if (is_in v last)
packed-price ssa packs last v h = ap (λ b. one_if ((not b && is_some (access_at ssa v)) || is_in v last)) h

in-packed : (packs : List Pack) (p : Pack) (x : ℕ) → Has p packs → In x (units_of p) → In x (packed packs)
in-packed [] p x has h = absurd has
in-packed (q ∷ packs) p x (inl e) h = let split = count_of-append x (units_of q) (packed packs) in let here = ap (λ r. count_of x (units_of r)) e in omega arith
in-packed (q ∷ packs) p x (inr more) h = let split = count_of-append x (units_of q) (packed packs) in let rest = in-packed packs p x more h in omega arith

found-packed : (packs : List Pack) (x : ℕ) → In x (packed packs) → is_packed packs x ≡ true
found-packed packs x h = elim (cases_Bool (is_packed packs x)) [
  | inl t ↦ t
  | inr f ↦ absurd (let none = stands-found x (packed packs) f in omega arith)
]

needed-total : (j : Job) (last : List ℕ) (vs : List ℕ) → ((v : ℕ) → Has v vs → one_if (j.needed v) ≡ one_if (is_in v last)) → needed_in j vs ≡ total (λ v. one_if (is_in v last)) vs
needed-total j last [] same = refl
needed-total j last (v ∷ vs) same = λ i. same v (inl refl) i + needed-total j last vs (λ x h. same x (inr h)) i

total-none : (f : ℕ → ℕ) (vs : List ℕ) → ((v : ℕ) → Has v vs → f v ≡ 0) → total f vs ≡ 0
total-none f [] none = refl
total-none f (v ∷ vs) none = let a = none v (inl refl) in let b = total-none f vs (λ x h. none x (inr h)) in omega arith

-- what is taken out of the register of a pack
pub pack-price : (ds : List Description) (matches : List Match) (ssa : Ssa) (packs : List Pack) (recipes : List Recipe) (k : ℕ) → let j = job_of ds matches ssa packs recipes in
    let last = needed_behind ssa packs (all_inserted recipes (operands_in ds matches ssa packs)) (falling_units ssa) in
    IsPlanned j → ((x : ℕ) → In x last → UnitValued ssa x) → k < length packs → Has (pack_at j k) packs → needed_in j (values_of (pack_at j k)) ≡ total (unit_price ssa packs last) (units_of (pack_at j k))
pack-price ds matches ssa packs recipes k planned valued low has = by (pack_at (job_of ds matches ssa packs recipes) k) refl
  where
    last : List ℕ
    last = needed_behind ssa packs (all_inserted recipes (operands_in ds matches ssa packs)) (falling_units ssa)

    priced : (v : ℕ) → In v (units_of (pack_at (job_of ds matches ssa packs recipes) k)) → unit_price ssa packs last v ≡ one_if (is_in v last)
    priced v h = packed-price ssa packs last v (found-packed packs v (in-packed packs _ v has h))

    given : (v : ℕ) → In v (values_of (pack_at (job_of ds matches ssa packs recipes) k)) → one_if (has_value ssa v && is_in v last) ≡ one_if (is_in v last)
    given v h = value-price ssa last v (given-valued (job_of ds matches ssa packs recipes) k v planned.packs planned.kinds h)

    same : (us : List ℕ) → us ≡ values_of (pack_at (job_of ds matches ssa packs recipes) k) → us ≡ units_of (pack_at (job_of ds matches ssa packs recipes) k) → needed_in (job_of ds matches ssa packs recipes) us ≡ total (unit_price ssa packs last) us
    same us e g = needed-total (job_of ds matches ssa packs recipes) last us (λ v h. given v (subst (In v) e (has-stands v us h)))
        ∙ total-each (λ v. one_if (is_in v last)) (unit_price ssa packs last) us (λ v h. sym (priced v (subst (In v) g (has-stands v us h))))

    none : (us : List ℕ) → Stores us ≡ pack_at (job_of ds matches ssa packs recipes) k → (v : ℕ) → Has v us → unit_price ssa packs last v ≡ 0
    none us e v h =
        let stands : In v (units_of (pack_at (job_of ds matches ssa packs recipes) k)) = subst (λ p. In v (units_of p)) e (has-stands v us h) in
        priced v stands ∙ elim (cases_Bool (is_in v last)) [
          | inr f ↦ ap one_if f
          | inl t ↦ absurd (let unit = Rattle.vg_emission.proofs.Jobs.packed-unit ssa packs k v planned.packs stands in
              let value = valued v (found-stands v last t) unit in
              let given_too = units-given (job_of ds matches ssa packs recipes) k v planned.kinds value stands in
              let empty : In v (values_of (Stores us)) = subst (λ p. In v (values_of p)) (sym e) given_too in omega arith)
        ]

    by : (p : Pack) → p ≡ pack_at (job_of ds matches ssa packs recipes) k → needed_in (job_of ds matches ssa packs recipes) (values_of p) ≡ total (unit_price ssa packs last) (units_of p)
    by (Stores us) e = sym (total-none (unit_price ssa packs last) us (none us e))
    by (Loads us) e = ap (needed_in (job_of ds matches ssa packs recipes)) (values-loads us) ∙ same us (sym (values-loads us) ∙ ap values_of e) (ap units_of e)
    by (Call c lanes) e = same (units_of (Call c lanes)) (ap values_of e) (ap units_of e)

-- a unit outside packs
pub outside-price : (j : Job) (packs : List Pack) (last : List ℕ) (v : ℕ) → ((x : ℕ) → j.needed x ≡ (has_value j.ssa x && is_in x last)) → is_packed packs v ≡ false → is_unit j.ssa v ≡ true → work_cost j v (unit_at j.ssa v) ≡ unit_price j.ssa packs last v
outside-price j packs last v marks outside unit = by (unit_at j.ssa v) refl
  where
    open_price : unit_price j.ssa packs last v ≡ one_if (is_some (access_at j.ssa v) || is_in v last)
    open_price = ap (λ b. one_if ((not b && is_some (access_at j.ssa v)) || is_in v last)) outside

    by : (o : Option SsaUnit) → unit_at j.ssa v ≡ o → work_cost j v o ≡ unit_price j.ssa packs last v
    by None e = absurd (true≢false (sym unit ∙ ap is_some e))
    by (Some (Load a w)) e = sym (open_price ∙ ap (λ o. one_if (is_some (o >>= access_of) || is_in v last)) e)
    by (Some (Store a w x)) e = sym (open_price ∙ ap (λ o. one_if (is_some (o >>= access_of) || is_in v last)) e)
    by (Some (Operation op w k xs)) e =
        ap one_if (marks v) ∙ value-price j.ssa last v (subst Valued (sym e) tt)
        ∙ sym (open_price ∙ ap (λ o. one_if (is_some (o >>= access_of) || is_in v last)) e)

-- a number of a unit
pub unit-of-number : (ssa : Ssa) (v : ℕ) → Has v (unit_numbers ssa) → is_unit ssa v ≡ true
unit-of-number ssa v has = by (arguments ssa) (length ssa.units) 0 has (let e : arguments ssa ≡ arguments ssa + 0 = omega arith in e) (let e : length ssa.units ≡ 0 + length ssa.units = omega arith in e)
  where
    by : (first n k : ℕ) → Has v (numbers_from first n) → first ≡ arguments ssa + k → length ssa.units ≡ k + n → is_unit ssa v ≡ true
    by first zero k h e l = absurd h
    by first (suc n) k (inl here) e l = subst (λ x. is_unit ssa x ≡ true) (sym e ∙ here) (Rattle.vg_emission.proofs.Totals.unit-here ssa k (omega arith))
    by first (suc n) k (inr more) e l = by (first + 1) n (k + 1) more (omega arith) (omega arith)
