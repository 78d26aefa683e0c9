-- The lines of an order cost what its nodes cost, and once the recipe of each operand that is brought into a register.
use Rattle.std.proofs.Common.{◌≡◌, ℕ, zero, suc, ◌+◌, ◌<◌, Bool, true, false, List, [], ◌∷◌, ◌++◌, length, Option, Some, None, refl, sym, ap, subst, ◌∙◌, inl, inr, arith}
use Rattle.std.specs.Prelude.{filter, filter_map, slice_get, slice_index_or, slice_set, sum_by, unwrap_or}
use Rattle.std.specs.List.{AllByRecursion, cons_option}
use Rattle.std.specs.Option.{option_map_or}
use Rattle.std.proofs.lemmas.Bool.{cases_Bool, cond-true, cond-false}
use Rattle.std.proofs.lemmas.List.{length-set}
use Rattle.std.proofs.lemmas.List.Sums.{sum_by-cons}
use Rattle.vg_base.specs.declared.width.Width.{Width}
use Rattle.vg_program.specs.declared.line.Line.{Line}
use Rattle.vg_program.specs.Cost.{line_cost}
use Rattle.vg_shapes.specs.declared.operand.Slot.{Slot}
use Rattle.vg_shapes.specs.declared.order.Node.{Node}
use Rattle.vg_shapes.specs.declared.order.Node.TheVariants.{PackAt, UnitAt}
use Rattle.vg_shapes.specs.declared.pack.Pack.{Pack}
use Rattle.vg_shapes.specs.declared.pack.Pack.TheVariants.{Stores, Loads, Call}
use Rattle.vg_shapes.specs.declared.ssa_unit.Operator.{Operator}
use Rattle.vg_shapes.specs.declared.ssa_unit.Operator.TheVariants.{Two, Shift, Resize, Compare, Select}
use Rattle.vg_shapes.specs.declared.ssa_unit.SsaUnit.{SsaUnit}
use Rattle.vg_shapes.specs.declared.ssa_unit.SsaUnit.TheVariants.{Load, Store, Operation}
use Rattle.vg_shapes.specs.declared.wanted.Wanted.{Wanted}
use Rattle.vg_shapes.specs.declared.wanted.Wanted.TheVariants.{Value, Constant, Nothing}
use Rattle.vg_shapes.specs.Description.{Description}
use Rattle.vg_shapes.specs.Operands.{lanes_of}
use Rattle.vg_shapes.specs.Order.{one_if}
use Rattle.vg_shapes.specs.Units.{unit_at}
use Rattle.vg_kernel_plans.specs.declared.recipe.Recipe.{Recipe}
use Rattle.vg_kernel_plans.specs.declared.recipe.Recipe.TheVariants as recipe
use Rattle.vg_kernel_plans.specs.Held.{lane_width_of}
use Rattle.vg_kernel_plans.specs.Packing.{price_of}
use Rattle.vg_kernel_plans.specs.Wants.{value_of, wants_value}
use Rattle.vg_emission.specs.Draft.{Draft, Made, found, with_name}
use Rattle.vg_emission.specs.Costs.{cost_of_recipe}
use Rattle.vg_emission.specs.Emission.{Job, build, build_all, emitted, extracts, inserts, no_description, node_lines, number_for, operand_at, operation_line, pack_at, pack_line, pack_lines, place, place_once, recipe_at, takes_at, unit_lines, value_slots, width_for, with_pack}
use Rattle.vg_emission.specs.Planned.{values_of}

abbrev pub lines_cost : List Line → ℕ
lines_cost [] = 0
lines_cost (l ∷ ls) = line_cost l + lines_cost ls

pub lines-cost-sum : (ls : List Line) → sum_by line_cost ls ≡ lines_cost ls
lines-cost-sum [] = refl
lines-cost-sum (l ∷ ls) = sum_by-cons line_cost l ls ∙ ap (λ n. line_cost l + n) (lines-cost-sum ls)

pub lines_cost-append : (ls ms : List Line) → lines_cost (ls ++ ms) ≡ lines_cost ls + lines_cost ms
lines_cost-append [] ms = omega arith
lines_cost-append (l ∷ ls) ms = omega (arith, lines_cost-append ls ms)

-- the cost of the recipe of an operand
abbrev pub own_cost : Job → ℕ → ℕ
own_cost j o = cost_of_recipe j.descriptions (operand_at j o) (recipe_at j o)

-- the recipes of the operands that stand in registers, from this one on
abbrev pub built_cost : Job → ℕ → List (Option ℕ) → ℕ
built_cost j k [] = 0
built_cost j k (None ∷ bs) = built_cost j (k + 1) bs
built_cost j k (Some r ∷ bs) = own_cost j k + built_cost j (k + 1) bs

built_cost-set : (j : Job) (k : ℕ) (bs : List (Option ℕ)) (o r : ℕ) → o < length bs → found bs o ≡ None → built_cost j k (slice_set bs o (Some r)) ≡ built_cost j k bs + own_cost j (k + o)
built_cost-set j k [] o r h e = absurd (omega arith)
built_cost-set j k (None ∷ bs) zero r h e = let at : k ≡ k + 0 = omega arith in let same = ap (own_cost j) at in omega arith
built_cost-set j k (Some x ∷ bs) zero r h e = cc
built_cost-set j k (None ∷ bs) (suc o) r h e = let at : k + 1 + o ≡ k + suc o = omega arith in let same = ap (own_cost j) at in omega (arith, built_cost-set j (k + 1) bs o r (omega arith) e)
built_cost-set j k (Some x ∷ bs) (suc o) r h e = let at : k + 1 + o ≡ k + suc o = omega arith in let same = ap (own_cost j) at in omega (arith, built_cost-set j (k + 1) bs o r (omega arith) e)

inserts-cost : (j : Job) (d : Draft) (b r : ℕ) (xs : List Slot) → lines_cost (inserts j d b r xs) ≡ length xs
inserts-cost j d b r [] = refl
inserts-cost j d b r (x ∷ xs) = omega (arith, inserts-cost j d b (r + 1) xs)

-- a slot that wants a value wants one
slots-wanted : (ss : List Slot) → length (filter (λ s. wants_value s.wanted) ss) ≡ length (filter_map (λ s. value_of s.wanted) ss)
slots-wanted [] = refl
slots-wanted (s ∷ ss) =
    let kept = filter (λ s. wants_value s.wanted) ss in
    by s.wanted (wants_value s.wanted) refl (slots-wanted ss)
    (λ t. cond-true (wants_value s.wanted) (s ∷ kept) kept t) (λ f. cond-false (wants_value s.wanted) (s ∷ kept) kept f)
  where
    rest : List Slot
    rest = filter (λ s. wants_value s.wanted) ss

    whole : List Slot
    whole = filter (λ s. wants_value s.wanted) (s ∷ ss)

    by : (y : Wanted) (b : Bool) → wants_value y ≡ b → length (filter (λ s. wants_value s.wanted) ss) ≡ length (filter_map (λ s. value_of s.wanted) ss)
        → (wants_value y ≡ true → whole ≡ s ∷ rest) → (wants_value y ≡ false → whole ≡ rest) → length whole ≡ length (cons_option (value_of y) (filter_map (λ s. value_of s.wanted) ss))
    by (Value v) b e same keep leave = ap length (keep refl) ∙ ap suc same
    by (Constant w n) b e same keep leave = ap length (leave refl) ∙ same
    by Nothing b e same keep leave = ap length (leave refl) ∙ same

-- the lines of a recipe cost its cost, and the operand then stands in a register
recipe-costs : (j : Job) (d : Draft) (o : ℕ) (way : Recipe) → recipe_at j o ≡ way → o < length d.built → found d.built o ≡ None
    → (lines_cost (place j d o way).lines + built_cost j 0 d.built ≡ built_cost j 0 (place j d o way).draft.built) × (length (place j d o way).draft.built ≡ length d.built)
recipe-costs j d o way e h none = (by way e, long way)
  where
    long : (way : Recipe) → length (place j d o way).draft.built ≡ length d.built
    long (recipe.Reuse k) = length-set d.built o _
    long (recipe.Constant bs) = length-set d.built o _
    long (recipe.Shuffle x ks) = length-set d.built o _
    long recipe.Inserts = length-set d.built o _

    by : (way : Recipe) → recipe_at j o ≡ way → lines_cost (place j d o way).lines + built_cost j 0 d.built ≡ built_cost j 0 (place j d o way).draft.built
    by (recipe.Reuse k) e = let s = built_cost-set j 0 d.built o (unwrap_or (found d.held k) 0) h none in let at : 0 + o ≡ o = omega arith in let same = ap (own_cost j) at ∙ ap (cost_of_recipe j.descriptions (operand_at j o)) e in omega arith
    by (recipe.Constant bs) e = let s = built_cost-set j 0 d.built o d.vectors h none in let at : 0 + o ≡ o = omega arith in let same = ap (own_cost j) at ∙ ap (cost_of_recipe j.descriptions (operand_at j o)) e in omega arith
    by (recipe.Shuffle x ks) e = let s = built_cost-set j 0 d.built o d.vectors h none in let at : 0 + o ≡ o = omega arith in let same = ap (own_cost j) at ∙ ap (cost_of_recipe j.descriptions (operand_at j o)) e in omega arith
    by recipe.Inserts e =
        let xs = value_slots (operand_at j o) in
        let s = built_cost-set j 0 d.built o (d.vectors + length xs) h none in
        let at : 0 + o ≡ o = omega arith in
        let same = ap (own_cost j) at ∙ ap (cost_of_recipe j.descriptions (operand_at j o)) e in
        let c = inserts-cost j d (operand_at j o).register d.vectors xs in
        let l = slots-wanted (operand_at j o).slots in omega arith

build-costs : (j : Job) (d : Draft) (o : ℕ) → o < length d.built → (lines_cost (build j d o).lines + built_cost j 0 d.built ≡ built_cost j 0 (build j d o).draft.built) × (length (build j d o).draft.built ≡ length d.built)
build-costs j d o h = by (found d.built o) refl
  where
    by : (q : Option ℕ) → found d.built o ≡ q → (lines_cost (place_once j d o q).lines + built_cost j 0 d.built ≡ built_cost j 0 (place_once j d o q).draft.built) × (length (place_once j d o q).draft.built ≡ length d.built)
    by None e = recipe-costs j d o (recipe_at j o) refl h e
    by (Some r) e = (omega arith, refl)

abbrev pub AllBelow : ℕ → List ℕ → Type 0
AllBelow n os = AllByRecursion (λ o. o < n) os

builds-cost : (j : Job) (d : Draft) (os : List ℕ) → AllBelow (length d.built) os → (lines_cost (build_all j d os).lines + built_cost j 0 d.built ≡ built_cost j 0 (build_all j d os).draft.built) × (length (build_all j d os).draft.built ≡ length d.built)
builds-cost j d [] h = (omega arith, refl)
builds-cost j d (o ∷ os) h =
    let one = build-costs j d o h.0 in
    let e = (build j d o).draft in
    let rest = builds-cost j e os (subst (λ n. AllBelow n os) (sym one.1) h.1) in
    let both = lines_cost-append (build j d o).lines (build_all j e os).lines in
    let a = one.0 in let b = rest.0 in
    (omega arith, rest.1 ∙ one.1)

abbrev pub needed_in : Job → List ℕ → ℕ
needed_in j [] = 0
needed_in j (v ∷ vs) = one_if (j.needed v) + needed_in j vs

extracts-cost : (j : Job) (d : Draft) (r : ℕ) (w : Width) (n : ℕ) (us : List (Option ℕ)) → (lines_cost (extracts j d r w n us).lines ≡ needed_in j (filter_map (λ u. u) us)) × ((extracts j d r w n us).draft.built ≡ d.built)
extracts-cost j d r w n [] = (refl, refl)
extracts-cost j d r w n (None ∷ us) = extracts-cost j d r w (n + 1) us
extracts-cost j d r w n (Some v ∷ us) =
    let Goal : Made → Type 0 = λ made. (lines_cost made.lines ≡ one_if (j.needed v) + needed_in j (filter_map (λ u. u) us)) × (made.draft.built ≡ d.built) in
    elim (cases_Bool (j.needed v)) [
      | inl t ↦ subst Goal (sym (cond-true _ _ _ t)) (let rest = extracts-cost j (with_name d v) r w (n + 1) us in let a = rest.0 in let one = ap one_if t in (omega arith, rest.1))
      | inr f ↦ subst Goal (sym (cond-false _ _ _ f)) (let rest = extracts-cost j d r w (n + 1) us in let a = rest.0 in let one = ap one_if f in (omega arith, rest.1))
    ]

-- a unit outside packs
abbrev pub work_cost : Job → ℕ → Option SsaUnit → ℕ
work_cost j v None = 0
work_cost j v (Some (Load a w)) = 1
work_cost j v (Some (Store a w x)) = 1
work_cost j v (Some (Operation op w k xs)) = one_if (j.needed v)

operation-cost : (op : Operator) (w : Width) (k : ℕ) (x y z : Rattle.vg_program.specs.declared.operand.Operand.Operand) → line_cost (operation_line op w k x y z) ≡ 1
operation-cost (Two op) w k x y z = refl
operation-cost (Shift op) w k x y z = refl
operation-cost (Resize op from) w k x y z = refl
operation-cost (Compare op) w k x y z = refl
operation-cost Select w k x y z = refl

work-costs : (j : Job) (d : Draft) (v : ℕ) (o : Option SsaUnit) → (lines_cost (unit_lines j d v o).lines ≡ work_cost j v o) × ((unit_lines j d v o).draft.built ≡ d.built)
work-costs j d v None = (refl, refl)
work-costs j d v (Some (Load a w)) = (refl, refl)
work-costs j d v (Some (Store a w x)) = (refl, refl)
work-costs j d v (Some (Operation op w k xs)) =
    let Goal : Made → Type 0 = λ made. (lines_cost made.lines ≡ one_if (j.needed v)) × (made.draft.built ≡ d.built) in
    elim (cases_Bool (j.needed v)) [
      | inl t ↦ subst Goal (sym (cond-true _ _ _ t)) (let one = ap one_if t in let c = operation-cost op w k (number_for j d xs.first) (number_for j d xs.second) (number_for j d xs.third) in omega arith, refl)
      | inr f ↦ subst Goal (sym (cond-false _ _ _ f)) (sym (ap one_if f), refl)
    ]

call-price : (ds : List Description) (e : ℕ) → (slice_index_or ds e no_description).cost ≡ option_map_or (λ (d : Description). d.cost) (slice_get ds e) 0
call-price [] e = refl
call-price (d ∷ ds) zero = refl
call-price (d ∷ ds) (suc e) = call-price ds e

line-price : (j : Job) (p : Pack) (rs : List ℕ) → line_cost (pack_line j p rs) ≡ price_of j.descriptions p
line-price j (Stores us) rs = refl
line-price j (Loads us) rs = refl
line-price j (Call e lanes) rs = call-price j.descriptions e

with-pack-built : (d : Draft) (k : ℕ) (p : Pack) → (with_pack d k p).built ≡ d.built
with-pack-built d k (Stores us) = refl
with-pack-built d k (Loads us) = refl
with-pack-built d k (Call e lanes) = refl

-- a pack with what is taken out of it, without its operands
abbrev pub pack_cost : Job → Pack → ℕ
pack_cost j p = price_of j.descriptions p + needed_in j (values_of p)

pack-costs : (j : Job) (d : Draft) (k : ℕ) (p : Pack) → AllBelow (length d.built) (takes_at j k)
    → (lines_cost (pack_lines j d k p).lines + built_cost j 0 d.built ≡ pack_cost j p + built_cost j 0 (pack_lines j d k p).draft.built) × (length (pack_lines j d k p).draft.built ≡ length d.built)
pack-costs j d k p h =
    let x = builds-cost j d (takes_at j k) h in let a = x.0 in
    let made = build_all j d (takes_at j k) in
    let f = made.draft in
    let w = width_for (lane_width_of j.descriptions j.ssa p) in
    let e = extracts-cost j (with_pack f k p) f.vectors w 0 (lanes_of p) in let b = e.0 in
    let l = line-price j p made.registers in
    let both = lines_cost-append made.lines (pack_line j p made.registers ∷ (extracts j (with_pack f k p) f.vectors w 0 (lanes_of p)).lines) in
    let built = e.1 ∙ with-pack-built f k p in
    let same = ap (built_cost j 0) built in
    (omega arith, ap length built ∙ x.1)

abbrev pub node_cost : Job → Node → ℕ
node_cost j (PackAt k) = pack_cost j (pack_at j k)
node_cost j (UnitAt v) = work_cost j v (unit_at j.ssa v)

abbrev pub nodes_cost : Job → List Node → ℕ
nodes_cost j [] = 0
nodes_cost j (n ∷ ns) = node_cost j n + nodes_cost j ns

-- the draft after all nodes
abbrev pub last_draft : Job → Draft → List Node → Draft
last_draft j d [] = d
last_draft j d (n ∷ ns) = last_draft j (node_lines j d n).draft ns

-- the operands of a node are those of the job
abbrev pub TakesBelow : Job → ℕ → Node → Type 0
TakesBelow j n (PackAt k) = AllBelow n (takes_at j k)
TakesBelow j n (UnitAt v) = Unit {0}

pub node-costs : (j : Job) (d : Draft) (n : Node) → TakesBelow j (length d.built) n
    → (lines_cost (node_lines j d n).lines + built_cost j 0 d.built ≡ node_cost j n + built_cost j 0 (node_lines j d n).draft.built) × (length (node_lines j d n).draft.built ≡ length d.built)
node-costs j d (PackAt k) h = pack-costs j d k (pack_at j k) h
node-costs j d (UnitAt v) h = let x = work-costs j d v (unit_at j.ssa v) in let a = x.0 in let b = ap (built_cost j 0) x.1 in (omega arith, ap length x.1)

-- the lines of an order cost its nodes and the recipes of the operands that they bring into registers
pub emitted-costs : (j : Job) (d : Draft) (order : List Node) → AllByRecursion (TakesBelow j (length d.built)) order → lines_cost (emitted j d order) + built_cost j 0 d.built ≡ nodes_cost j order + built_cost j 0 (last_draft j d order).built
emitted-costs j d [] h = refl
emitted-costs j d (n ∷ ns) h =
    let e = (node_lines j d n).draft in
    let one = node-costs j d n h.0 in let a = one.0 in
    let rest = emitted-costs j e ns (subst (λ m. AllByRecursion (TakesBelow j m) ns) (sym one.1) h.1) in
    let both = lines_cost-append (node_lines j d n).lines (emitted j e ns) in
    omega arith
