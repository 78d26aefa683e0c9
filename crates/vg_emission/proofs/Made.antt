-- The job that is made of packs and recipes goes together.
use Rattle.std.proofs.Common.{◌≡◌, ℕ, zero, suc, ◌+◌, ◌<◌, ◌≤◌, true, List, [], ◌∷◌, ◌++◌, length, map, Option, Some, None, refl, sym, ap, subst, ◌∙◌, ◌⊎◌, inl, inr, arith}
use Rattle.std.specs.Prelude.{filter, nat_lt, not, slice_index_or, ◌==◌, flat_map}
use Rattle.std.specs.List.{AllByRecursion}
use Rattle.std.specs.List.Sorted.{IsPermutation}
use Rattle.std.specs.Option.{is_some}
use Rattle.std.proofs.lemmas.Bool.{and_from, cases_Bool, cases_lt, cond-false, cond-true, eq-eqb, ltb-true, true≢false}
use Rattle.std.proofs.lemmas.List.Sorted.{IsPermutation-refl}
use Rattle.vg_base.specs.Trap.{◌>>=◌}
use Rattle.vg_plans.specs.Levels.{distinct}
use Rattle.vg_plans.specs.Members.{Has}
use Rattle.vg_plans.specs.World.{is_in}
use Rattle.vg_plans.proofs.Lists.{has-flat_map, stays}
use Rattle.vg_shapes.specs.declared.match_table.Match.{Match}
use Rattle.vg_shapes.specs.declared.operand.Operand.{Operand}
use Rattle.vg_shapes.specs.declared.order.Node.{Node}
use Rattle.vg_shapes.specs.declared.order.Node.TheVariants.{UnitAt}
use Rattle.vg_shapes.specs.declared.pack.Pack.{Pack}
use Rattle.vg_shapes.specs.declared.pack.Pack.TheVariants.{Stores}
use Rattle.vg_shapes.specs.declared.ssa.Ssa.{Ssa}
use Rattle.vg_shapes.specs.declared.ssa_unit.SsaUnit.{SsaUnit}
use Rattle.vg_shapes.specs.Description.{Description}
use Rattle.vg_shapes.specs.Layout.{access_at, access_of}
use Rattle.vg_shapes.specs.Nodes.{IsOrder, is_packed, node_depends, units_at}
use Rattle.vg_shapes.specs.Order.{all_units, count_of, Follows, numbers_from, one_if, Stands as In}
use Rattle.vg_shapes.specs.Sound.{TakeEarlier}
use Rattle.vg_shapes.specs.Units.{arguments, is_unit, unit_at}
use Rattle.vg_kernel_plans.specs.declared.recipe.Recipe.{Recipe}
use Rattle.vg_kernel_plans.specs.Packing.{falling_units}
use Rattle.vg_kernel_plans.specs.SameAs.{same_operand}
use Rattle.vg_kernel_plans.specs.Taken.{operands_of}
use Rattle.vg_kernel_plans.proofs.SameTests.{both-true, operand-is, operand-itself}
use Rattle.vg_order_laws.proofs.Legal.{all_units-push}
use Rattle.vg_order_laws.proofs.Sequences.{count_of-append}
use Rattle.vg_emission.specs.Emission.{operand_at, pack_at, takes_at}
use Rattle.vg_emission.specs.Program.{all_inserted, has_value, job_of, needed_behind, number_in, operands_in, ordered}
use Rattle.vg_emission.proofs.Jobs.{unit-number}
use Rattle.vg_emission.proofs.Marks.{inserted-in, needed-keeps, stands-in, used-needed}
use Rattle.vg_emission.proofs.Needs.{IsJob}
use Rattle.vg_order_laws.proofs.Plans.{found-stands}

-- ---- operands by their numbers

number-right : (xs : List Operand) (o d : Operand) → Has o xs → (number_in xs o < length xs) × (slice_index_or xs (number_in xs o) d ≡ o)
number-right [] o d has = absurd has
number-right (x ∷ xs) o d has =
    let Goal : ℕ → Type 0 = λ n. (n < length (x ∷ xs)) × (slice_index_or (x ∷ xs) n d ≡ o) in
    elim (cases_Bool (same_operand x o)) [
      | inl t ↦ subst Goal (sym (cond-true _ 0 (suc (number_in xs o)) t)) (omega arith, operand-is x o t)
      | inr f ↦ subst Goal (sym (cond-false _ 0 (suc (number_in xs o)) f))
          (elim has [
            | inl e ↦ absurd (true≢false (sym (subst (λ y. same_operand x y ≡ true) e (operand-itself x)) ∙ f))
            | inr more ↦ (let rest = number-right xs o d more in (let low = rest.0 in omega arith, rest.1))
          ])
    ]

numbers-right : (os : List Operand) (d : Operand) (xs : List Operand) → ((o : Operand) → Has o xs → Has o os) → map (λ n. slice_index_or os n d) (map (number_in os) xs) ≡ xs
numbers-right os d [] inside = refl
numbers-right os d (x ∷ xs) inside = λ i. (number-right os x d (inside x (inl refl))).1 i ∷ numbers-right os d xs (λ o h. inside o (inr h)) i

numbers-low : (os : List Operand) (d : Operand) (xs : List Operand) → ((o : Operand) → Has o xs → Has o os) → AllByRecursion (λ n. n < length os) (map (number_in os) xs)
numbers-low os d [] inside = tt
numbers-low os d (x ∷ xs) inside = ((number-right os x d (inside x (inl refl))).0, numbers-low os d xs (λ o h. inside o (inr h)))

mapped-at : {A B : Type 0} (f : A → B) (xs : List A) (k : ℕ) (d : B) (e : A) → k < length xs → slice_index_or (map f xs) k d ≡ f (slice_index_or xs k e)
mapped-at f [] k d e low = absurd (omega arith)
mapped-at f (x ∷ xs) zero d e low = refl
mapped-at f (x ∷ xs) (suc k) d e low = mapped-at f xs k d e (omega arith)

has-at : {A : Type 0} (xs : List A) (k : ℕ) (d : A) → k < length xs → Has (slice_index_or xs k d) xs
has-at [] k d low = absurd (omega arith)
has-at (x ∷ xs) zero d low = inl refl
has-at (x ∷ xs) (suc k) d low = inr (has-at xs k d (omega arith))

distinct-has : (xs : List Operand) (o : Operand) → Has o xs → Has o (distinct same_operand xs)
distinct-has xs o has =
    let x = stays same_operand operand-itself o [] xs has in
    elim x.1 [
      | inl none ↦ absurd none
      | inr there ↦ subst (λ y. Has y (distinct same_operand xs)) (sym (operand-is o x.0 x.2)) there
    ]

-- ---- the job

unit-some : (o : Option SsaUnit) → is_some (o >>= access_of) ≡ true → is_some o ≡ true
unit-some None h = cc
unit-some (Some u) h = refl

value-some : (o : Option SsaUnit) → is_some (o >>= Rattle.vg_shapes.specs.Sound.unit_bits) ≡ true → is_some o ≡ true
value-some None h = cc
value-some (Some u) h = refl

some-unit : (o : Option SsaUnit) → is_some o ≡ true → (u : SsaUnit) × (o ≡ Some u)
some-unit None h = cc
some-unit (Some u) h = (u, refl)

pub job-made : (ds : List Description) (matches : List Match) (ssa : Ssa) (packs : List Pack) (recipes : List Recipe) → TakeEarlier (arguments ssa) ssa.units → IsJob (job_of ds matches ssa packs recipes) matches
job-made ds matches ssa packs recipes early =
    let j = job_of ds matches ssa packs recipes in
    let os = operands_in ds matches ssa packs in
    let start = all_inserted recipes os in
    let needed = needed_behind ssa packs start (falling_units ssa) in
    let none : Operand = record { register = 0; slots = [] } in
    let inside : (k : ℕ) → k < length packs → (o : Operand) → Has o (operands_of ds matches ssa (pack_at j k)) → Has o os =
    λ k low o has. distinct-has (flat_map (operands_of ds matches ssa) packs) o (has-flat_map (operands_of ds matches ssa) (pack_at j k) o packs (has-at packs k (Stores []) low) has) in
    let taken : (k : ℕ) → k < length packs → takes_at j k ≡ map (number_in os) (operands_of ds matches ssa (pack_at j k)) =
    λ k low. mapped-at (λ p. map (number_in os) (operands_of ds matches ssa p)) packs k [] (Stores []) low in
    record {
      takes = λ k low. ap (map (operand_at j)) (taken k low) ∙ numbers-right os none (operands_of ds matches ssa (pack_at j k)) (inside k low);
      below = λ k low. subst (AllByRecursion (λ n. n < length os)) (sym (taken k low)) (numbers-low os none (operands_of ds matches ssa (pack_at j k)) (inside k low));
      valued = λ v h. (both-true (has_value ssa v) (is_in v needed) h).0;
      inserted = λ o x low e h value. and_from (has_value ssa x) (is_in x needed) value (stands-in x needed (needed-keeps ssa packs start (falling_units ssa) x (inserted-in recipes os o x none low e h)));
      used = λ v x outside emitted h value.
          let unit : is_unit ssa v ≡ true = elim emitted [
            | inl a ↦ unit-some (unit_at ssa v) a
            | inr n ↦ value-some (unit_at ssa v) (both-true (has_value ssa v) (is_in v needed) n).0
          ] in
          let u = some-unit (unit_at ssa v) unit in
          let low = (unit-number ssa v u.0 u.1).1 in
          let now : (is_some (access_at ssa v) ≡ true) ⊎ In v needed = elim emitted [
            | inl a ↦ inl a
            | inr n ↦ inr (found-stands v needed (both-true (has_value ssa v) (is_in v needed) n).1)
          ] in
          and_from (has_value ssa x) (is_in x needed) value (stands-in x needed (used-needed ssa packs (arguments ssa + length ssa.units) start v x early low unit outside now h));
    }

-- ---- without packs the order of numbers is legal

filter-all : (vs : List ℕ) → filter (λ v. not (is_packed [] v)) vs ≡ vs
filter-all [] = refl
filter-all (v ∷ vs) = ap (λ l. v ∷ l) (filter-all vs)

-- after the units below a number the others may stand by rising number
numbers-follow : (ssa : Ssa) (matches : List Match) (first n : ℕ) (done : List Node) → ((y : ℕ) → arguments ssa ≤ y → y < first → In y (all_units (units_at []) done)) → Follows (node_depends ssa matches []) (units_at []) done (map UnitAt (numbers_from first n))
numbers-follow ssa matches first zero done before = tt
numbers-follow ssa matches first (suc n) done before = (
  (λ x d. let unit = both-true (is_unit ssa x) _ d in let low = both-true (nat_lt x first) _ unit.1 in let u = some-unit (unit_at ssa x) unit.0 in
      before x (unit-number ssa x u.0 u.1).0 (ltb-true x first low.0)),
  numbers-follow ssa matches (first + 1) n (done ++ UnitAt first ∷ []) (λ y high below.
      let split = ap (count_of y) (all_units-push (units_at []) done (UnitAt first)) ∙ count_of-append y (all_units (units_at []) done) (first ∷ []) in
      elim (cases_lt y first) [
        | inl less ↦ (let there = before y high less in omega arith)
        | inr more ↦ (let same : y ≡ first = omega arith in let one : one_if (y == first) ≡ 1 = ap one_if (eq-eqb y first same) in omega arith)
      ]),
)

pub number-order : (ssa : Ssa) (matches : List Match) → IsOrder ssa matches [] (map UnitAt (numbers_from (arguments ssa) (length ssa.units)))
number-order ssa matches = record {
  once = subst (λ l. IsPermutation (map UnitAt l) (map UnitAt (numbers_from (arguments ssa) (length ssa.units)))) (sym (filter-all (numbers_from (arguments ssa) (length ssa.units)))) (IsPermutation-refl (map UnitAt (numbers_from (arguments ssa) (length ssa.units))));
  follows = numbers-follow ssa matches (arguments ssa) (length ssa.units) [] (λ y high low. absurd (omega arith));
}

pub ordered-legal : (ssa : Ssa) (matches : List Match) (packs : List Pack) (order : List Node) → IsOrder ssa matches packs order → IsOrder ssa matches packs (ordered ssa packs order)
ordered-legal ssa matches [] order is = number-order ssa matches
ordered-legal ssa matches (p ∷ packs) order is = is
