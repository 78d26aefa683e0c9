-- Emitted programs cost what their packs cost as a plan.
use Rattle.std.proofs.Common.{◌≡◌, ℕ, ◌+◌, ◌<◌, Bool, true, false, List, [], ◌++◌, length, map, Option, None, refl, sym, ap, subst, ◌∙◌, arith}
use Rattle.std.specs.Prelude.{filter, not, slice_index_or, sum_by, flat_map}
use Rattle.std.specs.List.{AllByRecursion}
use Rattle.std.proofs.lemmas.List.{length-replicate}
use Rattle.std.proofs.lemmas.List.Sorted.{sum_by-IsPermutation}
use Rattle.vg_plans.specs.Members.{Has}
use Rattle.vg_plans.specs.World.{inserted, recipe_cost, scalar_lines}
use Rattle.vg_plans.proofs.Members.{from-filter}
use Rattle.vg_shapes.specs.declared.match_table.Match.{Match}
use Rattle.vg_shapes.specs.declared.operand.Operand.{Operand}
use Rattle.vg_shapes.specs.declared.order.Node.{Node}
use Rattle.vg_shapes.specs.declared.order.Node.TheVariants.{PackAt, UnitAt}
use Rattle.vg_shapes.specs.declared.pack.Pack.{Pack}
use Rattle.vg_shapes.specs.declared.pack.Pack.TheVariants.{Stores}
use Rattle.vg_shapes.specs.declared.ssa.Ssa.{Ssa}
use Rattle.vg_shapes.specs.Description.{Description}
use Rattle.vg_shapes.specs.Nodes.{IsOrder, is_packed, nodes, packed}
use Rattle.vg_shapes.specs.Order.{numbers_from}
use Rattle.vg_shapes.specs.Pack.{units_of}
use Rattle.vg_shapes.specs.Units.{arguments, unit_at}
use Rattle.vg_kernel_plans.specs.declared.recipe.Recipe.{Recipe}
use Rattle.vg_kernel_plans.specs.Packing.{falling_units, packing, price_of}
use Rattle.vg_order_laws.specs.Steps.{unit_numbers}
use Rattle.vg_emission.specs.Costs.{EmittedCostsThePlan}
use Rattle.vg_emission.specs.Emission.{Job, emitted, operand_at, pack_at, recipe_at}
use Rattle.vg_emission.specs.Planned.{IsPlanned, TakesGiven, values_of}
use Rattle.vg_emission.specs.Program.{all_inserted, begin, job_of, needed_behind, operands_in, ordered}
use Rattle.vg_emission.proofs.Built.{long-built}
use Rattle.vg_emission.proofs.Costs.{built_cost, emitted-costs, last_draft, lines-cost-sum, lines_cost, needed_in, node_cost, nodes_cost, pack_cost, TakesBelow, work_cost}
use Rattle.vg_emission.proofs.Jobs.{each, IsNode, order-nodes}
use Rattle.vg_emission.proofs.Made.{job-made, ordered-legal}
use Rattle.vg_emission.proofs.PlanCosts.{built-total, has-index, inserted-same, nodes-total, nothing-built, operand-built, packs-total, total-both, total-each, units-total}
use Rattle.vg_emission.proofs.PlanPrices.{inserted-member, needed-all, outside-price, pack-price, unit-of-number, UnitValued, used-valued, wanted-valued}
use Rattle.vg_emission.proofs.Standing.{packed-outside}
use Rattle.vg_emission.proofs.Totals.{falling-total, scalars-total, total, total-append, total-counted, total-flat, total-sum, unit_price}

-- what is needed after all units has values
last-valued : (ds : List Description) (matches : List Match) (ssa : Ssa) (packs : List Pack) (recipes : List Recipe) → IsPlanned (job_of ds matches ssa packs recipes) → (x : ℕ) → Rattle.vg_shapes.specs.Order.Stands x (needed_behind ssa packs (all_inserted recipes (operands_in ds matches ssa packs)) (falling_units ssa)) → UnitValued ssa x
last-valued ds matches ssa packs recipes planned x h =
    let os = operands_in ds matches ssa packs in
    let d : Operand = record { register = 0; slots = [] } in
    needed-all (UnitValued ssa) ssa packs (all_inserted recipes os) (falling_units ssa)
    (λ y g. let m = inserted-member recipes os y d g in
    wanted-valued ssa (slice_index_or os m.0 d) y (subst (TakesGiven (job_of ds matches ssa packs recipes) (slice_index_or os m.0 d)) m.2 (planned.recipes m.0 m.1)) m.3)
    (λ v y g. used-valued ssa v y planned.sound.units g) x h

-- the nodes cost what the plan counts for its packs and units
nodes-cost : (ds : List Description) (matches : List Match) (ssa : Ssa) (deps : List (ℕ × ℕ)) (packs : List Pack) (recipes : List Recipe) (order : List Node) → let j = job_of ds matches ssa packs recipes in
    IsPlanned j → IsOrder ssa matches packs order → nodes_cost j order ≡ sum_by (price_of ds) packs + scalar_lines (packing ds matches ssa deps) packs (all_inserted recipes (operands_in ds matches ssa packs)) (falling_units ssa)
nodes-cost ds matches ssa deps packs recipes order planned is =
    let j = job_of ds matches ssa packs recipes in
    let start = all_inserted recipes (operands_in ds matches ssa packs) in
    let last = needed_behind ssa packs start (falling_units ssa) in
    let g = unit_price ssa packs last in
    let outside = filter (λ v. not (is_packed packs v)) (unit_numbers ssa) in
    let valued = last-valued ds matches ssa packs recipes planned in
    let by_nodes : nodes_cost j order ≡ total (node_cost j) (nodes ssa packs) =
    nodes-total j order ∙ sym (total-sum (node_cost j) order) ∙ sum_by-IsPermutation (node_cost j) (nodes ssa packs) order is.once ∙ total-sum (node_cost j) (nodes ssa packs) in
    let split : total (node_cost j) (nodes ssa packs) ≡ total (pack_cost j) packs + total (λ v. work_cost j v (unit_at ssa v)) outside =
    total-append (node_cost j) (map PackAt (numbers_from 0 (length packs))) (map UnitAt outside)
    ∙ (λ i. packs-total j [] packs refl i + units-total j outside i) in
    let taken : total (λ p. needed_in j (values_of p)) packs ≡ total (λ p. total g (units_of p)) packs =
    total-each (λ p. needed_in j (values_of p)) (λ p. total g (units_of p)) packs (λ p has.
    let k = has-index p (Stores []) packs has in
    subst (λ q. needed_in j (values_of q) ≡ total g (units_of q)) k.2 (pack-price ds matches ssa packs recipes k.0 planned valued k.1 (subst (λ q. Has q packs) (sym k.2) has))) in
    let packs_are : total (pack_cost j) packs ≡ total (price_of ds) packs + total g (packed packs) =
    total-both (price_of ds) (λ p. needed_in j (values_of p)) packs ∙ ap (λ n. total (price_of ds) packs + n) (taken ∙ sym (total-flat g units_of packs)) in
    let units_are : total (λ v. work_cost j v (unit_at ssa v)) outside ≡ total g outside =
    total-each (λ v. work_cost j v (unit_at ssa v)) g outside (λ v has.
    let own = from-filter (λ v. not (is_packed packs v)) v (unit_numbers ssa) has in
    outside-price j packs last v (λ x. refl) (not-packed (is_packed packs v) own.1) (unit-of-number ssa v own.0)) in
    let all : total g (packed packs ++ outside) ≡ total g (numbers_from (arguments ssa) (length ssa.units)) =
    total-counted g (packed packs ++ outside) (arguments ssa) (length ssa.units) (packed-outside ssa matches packs order planned.packs is) in
    let joined = total-append g (packed packs) outside in
    let falling = falling-total g ssa in
    let counted = scalars-total ds matches ssa deps packs (arguments ssa + length ssa.units) start planned.sound.earlier in
    let prices = total-sum (price_of ds) packs in
    omega (arith, by_nodes, split, packs_are, units_are, all, joined, falling, counted, prices)
  where
    not-packed : (b : Bool) → not b ≡ true → b ≡ false
    not-packed true h = cc
    not-packed false h = refl

pub emitted-costs-the-plan : EmittedCostsThePlan
emitted-costs-the-plan ds matches ssa deps packs recipes given planned given_legal counted =
    let order = ordered ssa packs given in
    let is = ordered-legal ssa matches packs given given_legal in
    let j = job_of ds matches ssa packs recipes in
    let w = packing ds matches ssa deps in
    let job = job-made ds matches ssa packs recipes planned.sound.earlier in
    let os = operands_in ds matches ssa packs in
    let d : Operand = record { register = 0; slots = [] } in
    let none : Option ℕ = None in
    let long = length-replicate (length os) none in
    let below : AllByRecursion (TakesBelow j (length (begin j).built)) order = each (IsNode j) (TakesBelow j (length (begin j).built)) order
    (λ n h. takes n h) (order-nodes j matches order is) in
    let lines = emitted-costs j (begin j) order below in
    let start = nothing-built j 0 (length os) in
    let built : built_cost j 0 (last_draft j (begin j) order).built ≡ total (recipe_cost w packs) os =
    built-total j (recipe_cost w packs) d 0 (last_draft j (begin j) order).built os (long-built j (begin j) order ∙ long)
    (λ o low. operand-built ds matches ssa packs recipes order o is (let l = long-built j (begin j) order in omega (arith, l, long)))
    (λ o low. let same : 0 + o ≡ o = omega arith in ap (Rattle.vg_emission.proofs.Costs.own_cost j) same ∙ counted.cost o low) in
    let recipes_are = total-sum (recipe_cost w packs) os in
    let nodes_are = nodes-cost ds matches ssa deps packs recipes order planned is in
    let inserts : all_inserted recipes os ≡ flat_map (inserted w packs) os = inserted-same (inserted w packs) d recipes os counted.each counted.inserts in
    let scalars = ap (λ l. scalar_lines w packs l (falling_units ssa)) inserts in
    let sum = lines-cost-sum (emitted j (begin j) order) in
    omega (arith, lines, start, built, recipes_are, nodes_are, scalars, sum)
  where
    takes : (n : Node) → IsNode (job_of ds matches ssa packs recipes) n → TakesBelow (job_of ds matches ssa packs recipes) (length (begin (job_of ds matches ssa packs recipes)).built) n
    takes (PackAt k) h =
        let none : Option ℕ = None in
        subst (λ m. AllByRecursion (λ o. o < m) (Rattle.vg_emission.specs.Emission.takes_at (job_of ds matches ssa packs recipes) k)) (sym (length-replicate (length (operands_in ds matches ssa packs)) none)) ((job-made ds matches ssa packs recipes planned.sound.earlier).below k h)
    takes (UnitAt v) h = tt
