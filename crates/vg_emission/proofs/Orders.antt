-- The lines of any legal order leave the memory that the units leave in the order of their numbers, or trap where they do.
use Rattle.std.proofs.Common.{◌≡◌, ℕ, zero, suc, ◌+◌, ◌-◌, ◌*◌, ◌/◌, ◌<◌, ◌≤◌, Bool, true, false, List, [], ◌∷◌, ◌++◌, length, map, replicate, Option, Some, None, refl, sym, ap, subst, ◌∙◌, ◌⊎◌, inl, inr, arith, get_or}
use Rattle.std.specs.Prelude.{slice_get, slice_index, ◌&&◌, ◌==◌}
use Rattle.std.specs.List.{AllByRecursion, flat_map, list_all}
use Rattle.std.specs.Option.{is_some}
use Rattle.std.proofs.lemmas.Bool.{cases_Bool, eq-eqb}
use Rattle.std.proofs.lemmas.List.{get_or_append_left, length-replicate}
use Rattle.vg_base.specs.declared.address.Address.{Address}
use Rattle.vg_base.specs.declared.width.Width.{Width}
use Rattle.vg_base.specs.Trap.{◌>>=◌}
use Rattle.vg_base.specs.Width.{bits_of, size_of}
use Rattle.vg_base.specs.Bits.{num}
use Rattle.vg_bits.specs.BitList.{IsBytes}
use Rattle.vg_bits.specs.Range.{range}
use Rattle.vg_program.specs.declared.program.Program.{Program}
use Rattle.vg_program.specs.Accesses as program
use Rattle.vg_program.specs.Meaning.{begun, Inputs, Instructions, meaning, run, State}
use Rattle.vg_program.proofs.TrapLaws.{traps_outside}
use Rattle.vg_shapes.specs.declared.match_table.Match.{Match}
use Rattle.vg_shapes.specs.declared.operand.Operand.{Operand}
use Rattle.vg_shapes.specs.declared.order.Node.{Node}
use Rattle.vg_shapes.specs.declared.pack.Pack.{Pack}
use Rattle.vg_shapes.specs.declared.pack.Pack.TheVariants.{Stores, Loads, Call}
use Rattle.vg_shapes.specs.declared.ssa.Ssa.{Ssa}
use Rattle.vg_shapes.specs.declared.ssa.SsaParam.{SsaParam}
use Rattle.vg_shapes.specs.declared.ssa_unit.SsaUnit.{SsaUnit}
use Rattle.vg_shapes.specs.declared.ssa_unit.SsaUnit.TheVariants.{Store}
use Rattle.vg_shapes.specs.declared.wanted.Wanted.{Wanted}
use Rattle.vg_shapes.specs.declared.wanted.Wanted.TheVariants.{Value, Constant, Nothing}
use Rattle.vg_shapes.specs.Layout.{Respects}
use Rattle.vg_shapes.specs.Nodes.{CallsOperations, IsOrder, node_depends}
use Rattle.vg_shapes.specs.Order.{numbers_from, one_if, Stands as In}
use Rattle.vg_shapes.specs.Pack.{AreStores}
use Rattle.vg_shapes.specs.RunUnits.{number_of, Reached, run_units, start_of}
use Rattle.vg_shapes.specs.Sound.{AreArguments, IsNumber, IsUnit}
use Rattle.vg_shapes.specs.Units.{arguments, integers, unit_at}
use Rattle.vg_kernel_plans.specs.Taken.{first_width, group_operand, operands_of, slots_from, stored}
use Rattle.vg_kernel_plans.specs.Wants.{slot}
use Rattle.vg_order_laws.specs.Sequence.{run_steps}
use Rattle.vg_order_laws.specs.Steps.{HasNumber, HaveNumbers, stays_inside, unit_numbers, unit_step}
use Rattle.vg_order_laws.proofs.Plans.{plan-orders-run}
use Rattle.vg_order_laws.proofs.Runs.{more-numbers, runs-are-steps, unit-there}
use Rattle.vg_order_laws.proofs.Traps.{runs-trap-outside}
use Rattle.vg_emission.specs.Draft.{found}
use Rattle.vg_emission.specs.Emission.{Job, emitted, operand_at, pack_at, takes_at}
use Rattle.vg_emission.specs.Planned.{IsPack, IsPlanned}
use Rattle.vg_emission.specs.Program.{begin}
use Rattle.vg_emission.specs.Promises.{Fills, KeepPromises, SlotHas}
use Rattle.vg_emission.proofs.Jobs.{all-units-same, calls-at, each, follows-same, get-there, given-valued, holder-low, IsNode, kind-at, only-in, order-nodes, pack-sides, units-given, unit-number, valued-some, valued-unit}
use Rattle.vg_emission.proofs.Memories.{Lanes}
use Rattle.vg_emission.proofs.Needs.{IsJob, lane-width, node-needs, unit-is}
use Rattle.vg_emission.proofs.Placing.{AllRight, ArgumentsHave}
use Rattle.vg_emission.proofs.Programs.{IsFounded, KindRight, node_units, nodes-run, NodesReady, StoresRight}
use Rattle.vg_emission.proofs.Readiness.{AreValued, Needs, NodeNeeds, nodes-ready, Ran, Valued}
use Rattle.vg_emission.proofs.Registers.{Stands}
use Rattle.vg_emission.proofs.Sizes.{eight, register-bytes, size-is, stores-width}
use Rattle.vg_emission.proofs.Standing.{stands-in-order}
use Rattle.vg_emission.proofs.Traps.{emitted-outside}
use Rattle.vg_emission.proofs.Uses.{node-uses-depend, unit-in-list}

-- ---- before the first line nothing stands anywhere

pub found-blank : (n v r : ℕ) → found (replicate n None) v ≡ Some r → ⊥
found-blank zero v r e = cc
found-blank (suc n) zero r e = cc
found-blank (suc n) (suc v) r e = found-blank n v r e

pub stands-begin : (j : Job) (numbers : ℕ → ℕ) (memory : List ℕ) → Stands j numbers (begin j) (begun memory)
stands-begin j numbers memory = record {
  scalars = refl;
  vectors = refl;
  names = λ v r e. absurd (found-blank (arguments j.ssa + length j.ssa.units) v r e);
  held = λ k r e. absurd (found-blank (length j.packs) k r e);
  built = λ o r e. absurd (found-blank (length j.operands) o r e);
}

-- ---- nodes are ready

pub order-ready : (j : Job) (matches : List Match) (order : List Node) → IsJob j matches → IsPlanned j → IsOrder j.ssa matches j.packs order → NodesReady j (begin j) order
order-ready j matches order job planned is =
    let nodes = order-nodes j matches order is in
    let none : Option ℕ = None in
    let values = length-replicate (arguments j.ssa + length j.ssa.units) none in
    let packs = length-replicate (length j.packs) none in
    let valued : AreValued j = record {
      needed = λ v h. valued-some (unit_at j.ssa v) (job.valued v h);
      given = λ k x h. given-valued j k x planned.packs planned.kinds h;
    } in
    let needs : Needs j (length (begin j).names) (length (begin j).held) = record {
      values = λ v h. let own = valued.needed v h in let u = valued-unit (unit_at j.ssa v) own in let number = unit-number j.ssa v u.0 u.1 in (own, omega arith);
      packs = λ k h. let low = holder-low j k h in omega arith;
      units = λ k v valued h. units-given j k v planned.kinds valued h;
    } in
    let ran : Ran j (begin j) [] = record { named = λ v h n. absurd (omega arith); held = λ k h g. absurd h } in
    nodes-ready j (node_depends j.ssa matches j.packs) (begin j) [] order valued
    (λ n x need own uses. node-uses-depend j matches n x planned.sound.earlier (λ k e. let low = (subst (NodeNeeds j) e need).0 in (low, job.takes k low)) own uses)
    (follows-same j (node_depends j.ssa matches j.packs) [] order is.follows) needs
    (each (IsNode j) (NodeNeeds j) order (λ n h. node-needs j matches n job planned h) nodes) tt
    (each (IsNode j) (Rattle.vg_emission.proofs.Readiness.OnlyIn j) order (λ n h. only-in j n planned.packs h) nodes) ran

-- ---- store groups

-- what the stores of a group store
stores-store : (ssa : Ssa) (w : Width) (a : Address) (us : List ℕ) (xs : List Wanted) → AreStores ssa w a us xs → map (λ v. stored (unit_at ssa v)) us ≡ xs
stores-store ssa w a [] xs are = sym are
stores-store ssa w a (u ∷ us) [] are = absurd are
stores-store ssa w a (u ∷ us) (x ∷ xs) are = λ i. ap stored are.0 i ∷ stores-store ssa w (Rattle.vg_shapes.specs.Pack.behind a (size_of w)) us xs are.1 i

stores-long : (ssa : Ssa) (w : Width) (a : Address) (us : List ℕ) (xs : List Wanted) → AreStores ssa w a us xs → length us ≡ length xs
stores-long ssa w a [] xs are = ap length (sym are)
stores-long ssa w a (u ∷ us) [] are = absurd are
stores-long ssa w a (u ∷ us) (x ∷ xs) are = ap suc (stores-long ssa w (Rattle.vg_shapes.specs.Pack.behind a (size_of w)) us xs are.1)

stores-numbers : (ssa : Ssa) (w : Width) (a : Address) (us : List ℕ) (xs : List Wanted) → AllByRecursion (IsUnit ssa) ssa.units → AreStores ssa w a us xs → AllByRecursion (IsNumber ssa w) xs
stores-numbers ssa w a [] xs units are = subst (AllByRecursion (IsNumber ssa w)) (sym are) tt
stores-numbers ssa w a (u ∷ us) [] units are = absurd are
stores-numbers ssa w a (u ∷ us) (x ∷ xs) units are = ((unit-is ssa u (Store a w x) units are.0).1, stores-numbers ssa w (Rattle.vg_shapes.specs.Pack.behind a (size_of w)) us xs units are.1)

slots-lanes : (ssa : Ssa) (width : Width) (numbers : ℕ → ℕ) (reg : List ℕ) (low w : ℕ) (xs : List Wanted) → AllByRecursion (IsNumber ssa width) xs → AllByRecursion (SlotHas numbers reg) (slots_from low w xs) → Lanes reg low w (map (number_of numbers) xs)
slots-lanes ssa width numbers reg low w [] are has = tt
slots-lanes ssa width numbers reg low w (x ∷ xs) are has = (by x are.0 has.0, slots-lanes ssa width numbers reg (low + w) w xs are.1 has.1)
  where
    by : (y : Wanted) → IsNumber ssa width y → SlotHas numbers reg (slot low w y) → num (range low w reg) ≡ number_of numbers y
    by (Value v) is h = h
    by (Constant m n) is h = h
    by Nothing is h = absurd is

one-taken : (j : Job) (os : List ℕ) (g : Operand) → map (operand_at j) os ≡ g ∷ [] → (o : ℕ) × (os ≡ o ∷ []) × (operand_at j o ≡ g)
one-taken j [] g e = cc
one-taken j (o ∷ []) g e = (o, refl, cc)
one-taken j (o ∷ p ∷ os) g e = cc

stores-right : (j : Job) (matches : List Match) (numbers : ℕ → ℕ) (k : ℕ) (us : List ℕ) → IsJob j matches → AllByRecursion (IsUnit j.ssa) j.ssa.units → k < length j.packs → pack_at j k ≡ Stores us → IsPack j.descriptions j.ssa (Stores us) → StoresRight j numbers k us
stores-right j matches numbers k [] job units low here is = absurd (let two = is.6 in omega arith)
stores-right j matches numbers k (u ∷ us) job units low here is =
    let all = u ∷ us in
    let w = is.0 in
    let xs = is.2 in
    let taken = one-taken j (takes_at j k) (group_operand j.ssa all) (job.takes k low ∙ ap (operands_of j.descriptions matches j.ssa) here) in
    let store = stores-store j.ssa w is.1 all xs is.4 in
    let wide = stores-first j.ssa w is.1 u us xs is.4 in
    let n = length all * size_of w in
    let sized = size-is n is.7 in
    let bytes = register-bytes j.ssa w all wide in
    record {
      width = w;
      address = is.1;
      wants = xs;
      operand = taken.0;
      are = is.4;
      some = omega arith;
      size = is.7;
      same = stores-long j.ssa w is.1 all xs is.4;
      takes = taken.1;
      lanes = λ reg fills.
          let own : Fills numbers (group_operand j.ssa all) reg = subst (λ o. Fills numbers o reg) taken.2 fills in
          let a = own.long in
          let b = sized.room in
          let slots : AllByRecursion (SlotHas numbers reg) (slots_from 0 (8 * size_of w) xs) =
          subst (λ z. AllByRecursion (SlotHas numbers reg) (slots_from 0 z xs)) (wide ∙ eight w)
          (subst (λ l. AllByRecursion (SlotHas numbers reg) (slots_from 0 (first_width j.ssa all) l)) store own.slots) in
          (omega arith, slots-lanes j.ssa w numbers reg 0 (8 * size_of w) xs (stores-numbers j.ssa w is.1 all xs units is.4) slots);
    }
  where
    stores-first : (ssa : Ssa) (w : Width) (a : Address) (u : ℕ) (us : List ℕ) (xs : List Wanted) → AreStores ssa w a (u ∷ us) xs → first_width ssa (u ∷ us) ≡ bits_of w
    stores-first ssa w a u us [] are = absurd are
    stores-first ssa w a u us (x ∷ xs) are = stores-width ssa w a u us x xs are

-- ---- what is true where the values have the numbers of a run

kind-right : (j : Job) (matches : List Match) (c : Instructions) (numbers : ℕ → ℕ) (k : ℕ) (p : Pack) → IsJob j matches → AllByRecursion (IsUnit j.ssa) j.ssa.units → KeepPromises j c numbers → k < length j.packs → pack_at j k ≡ p → IsPack j.descriptions j.ssa p → CallsOperations j.ssa p → KindRight j c numbers k p
kind-right j matches c numbers k (Stores us) job units keeps low here is calls = stores-right j matches numbers k us job units low here is
kind-right j matches c numbers k (Loads us) job units keeps low here is calls = record { width = is.0; address = is.1; are = is.2; some = (let two = is.3 in omega arith); size = is.4 }
kind-right j matches c numbers k (Call e lanes) job units keeps low here is calls = record {
  wide = (lane-width _ is.1).0;
  operations = calls;
  holds = keeps.calls k e lanes (get-there j.packs k (Stores []) low ∙ ap Some here);
}

all-right : (j : Job) (c : Instructions) (numbers : ℕ → ℕ) (os : List ℕ) → KeepPromises j c numbers → AllByRecursion (λ o. o < length j.operands) os → AllRight j c numbers os
all-right j c numbers [] keeps low = tt
all-right j c numbers (o ∷ os) keeps low = (keeps.recipes o low.0, all-right j c numbers os keeps low.1)

numbers-at : (numbers : ℕ → ℕ) (first : ℕ) (us : List SsaUnit) (k : ℕ) (u : SsaUnit) → HaveNumbers numbers first us → slice_get us k ≡ Some u → HasNumber numbers (first + k) u
numbers-at numbers first [] k u have e = cc
numbers-at numbers first (x ∷ us) zero u have e =
    let same : x ≡ u = cc in
    let here : first ≡ first + 0 = omega arith in
    subst (λ n. HasNumber numbers n u) here (subst (HasNumber numbers first) same have.0)
numbers-at numbers first (x ∷ us) (suc k) u have e =
    let next : first + 1 + k ≡ first + suc k = omega arith in
    subst (λ n. HasNumber numbers n u) next (numbers-at numbers (first + 1) us k u have.1 e)

number-at : (ssa : Ssa) (numbers : ℕ → ℕ) (v : ℕ) (u : SsaUnit) → HaveNumbers numbers (arguments ssa) ssa.units → unit_at ssa v ≡ Some u → HasNumber numbers v u
number-at ssa numbers v u have e =
    let low = (unit-number ssa v u e).0 in
    let same : arguments ssa + (v - arguments ssa) ≡ v = omega arith in
    subst (λ n. HasNumber numbers n u) same (numbers-at numbers (arguments ssa) ssa.units (v - arguments ssa) u have (unit-in-list ssa v u e))

pub founded : (j : Job) (matches : List Match) (c : Instructions) (numbers : ℕ → ℕ) (i : Inputs) → IsJob j matches → IsPlanned j → KeepPromises j c numbers → ArgumentsHave j numbers i → HaveNumbers numbers (arguments j.ssa) j.ssa.units → IsFounded j c numbers i
founded j matches c numbers i job planned keeps args have = record {
  arguments = args;
  works = λ v u e. number-at j.ssa numbers v u have e;
  recipes = λ k low. all-right j c numbers (takes_at j k) keeps (job.below k low);
  packs = λ k low. kind-right j matches c numbers k (pack_at j k) job planned.sound.units keeps low refl (kind-at j k planned.kinds low) (calls-at j k planned.packs low);
}

-- ---- the law

pub arguments-long : (ps : List SsaParam) (ns : List ℕ) → AreArguments ps ns → length ns ≡ length ps
arguments-long [] ns are = ap length are
arguments-long (p ∷ ps) [] are = absurd are
arguments-long (p ∷ ps) (n ∷ ns) are = ap suc (arguments-long ps ns are.1)

-- some unit leaves the memory
some-outside : (ssa : Ssa) (places : List ℕ) (long : ℕ) (done us : List SsaUnit) → ssa.units ≡ done ++ us → list_all (stays_inside places long) us ≡ false
    → (k : ℕ) × (u : SsaUnit) × (k < length us) × (unit_at ssa (arguments ssa + length done + k) ≡ Some u) × (stays_inside places long u ≡ false)
some-outside ssa places long done [] e h = cc
some-outside ssa places long done (u ∷ us) e h = elim (cases_Bool (stays_inside places long u)) [
  | inr f ↦ (0, u, omega arith, unit-there ssa done u us (arguments ssa + length done + 0) e (omega arith), f)
  | inl t ↦
      let later : list_all (stays_inside places long) us ≡ false = sym (ap (λ b. b && list_all (stays_inside places long) us) t) ∙ h in
      let x = some-outside ssa places long (done ++ u ∷ []) us (e ∙ sym (Rattle.std.proofs.Common.append_assoc done (u ∷ []) us)) later in (
        suc x.0,
        x.1,
        (let below = x.2 in omega arith),
        (let same : arguments ssa + length (done ++ u ∷ []) + x.0 ≡ arguments ssa + length done + suc x.0 = (let l = Rattle.std.proofs.lemmas.List.length_push done u in omega arith) in subst (λ n. unit_at ssa n ≡ Some x.1) same x.3),
        x.4,
      )
]

-- a number of a range stands in it
stands-in-numbers : (first n k : ℕ) → k < n → In (first + k) (numbers_from first n)
stands-in-numbers first zero k h = absurd (omega arith)
stands-in-numbers first (suc n) zero h =
    let here : first + 0 ≡ first = omega arith in
    let one : one_if ((first + 0) == first) ≡ 1 = ap one_if (eq-eqb _ _ here) in
    omega arith
stands-in-numbers first (suc n) (suc k) h =
    let next : first + suc k ≡ first + 1 + k = omega arith in
    let rest : In (first + suc k) (numbers_from (first + 1) n) = subst (λ x. In x (numbers_from (first + 1) n)) (sym next) (stands-in-numbers (first + 1) n k (omega arith)) in
    omega arith

abbrev pub left : State → Option (List ℕ)
left s = Some s.memory

abbrev pub reached_left : Reached → Option (List ℕ)
reached_left r = Some r.memory

-- a program whose lines these are traps where a line leaves the memory
lines-trap : (c : Instructions) (p : Program) (memory places args : List ℕ) → list_all (program.stays_inside places (length memory)) p.lines ≡ false → meaning c p memory places args ≡ None
lines-trap c p memory places args h = by (meaning c p memory places args) (traps_outside c p memory places args ∙ h)
  where
    by : (o : Option (List ℕ)) → is_some o ≡ false → o ≡ None
    by None e = refl
    by (Some m) e = cc

pub order-means : (j : Job) (matches : List Match) (c : Instructions) (p : Program) (order : List Node) (memory places args : List ℕ)
    → p.lines ≡ emitted j (begin j) order → IsJob j matches → IsPlanned j → IsOrder j.ssa matches j.packs order
    → ((r : Reached) → run_units places j.ssa.units (start_of memory args) ≡ Some r → KeepPromises j c (slice_index r.numbers))
    → Respects j.ssa places → IsBytes memory → AreArguments (integers j.ssa) args
    → meaning c p memory places args ≡ (run_units places j.ssa.units (start_of memory args) >>= reached_left)
unfolding meaning
order-means j matches c p order memory places args lines job planned is keeps respects are arguments_are = by (run_units places j.ssa.units (start_of memory args)) refl
  where
    i : Inputs
    i = record { places = places; args = args }

    long : length args ≡ arguments j.ssa
    long = arguments-long (integers j.ssa) args arguments_are

    by : (o : Option Reached) → run_units places j.ssa.units (start_of memory args) ≡ o → meaning c p memory places args ≡ (o >>= reached_left)
    by (Some r) e =
        let numbers : ℕ → ℕ = slice_index r.numbers in
        let more = more-numbers places j.ssa.units (start_of memory args) r e in
        let known = runs-are-steps j.ssa places (start_of memory args) r long planned.sound.earlier e in
        let in_order = plan-orders-run j.ssa places numbers matches j.packs order respects planned.packs is memory ∙ known.0 in
        let by_nodes : run_steps (unit_step j.ssa places numbers) (flat_map (node_units j) order) memory ≡ Some r.memory =
        ap (λ l. run_steps (unit_step j.ssa places numbers) l memory) (sym (all-units-same j order)) ∙ in_order in
        let have : (v : ℕ) → v < arguments j.ssa → slice_index args v ≡ numbers v =
        λ v low. sym (ap (λ (l : List ℕ). get_or l v 0) more.1 ∙ get_or_append_left args more.0 0 v (omega (arith, long))) in
        let inputs : Inputs = record { places = places; args = args } in
        let all = founded j matches c numbers inputs job planned (keeps r e) have known.1 in
        let ran = nodes-run j numbers c inputs (begin j) (begun memory) order r.memory all are (stands-begin j numbers memory) (order-ready j matches order job planned is) by_nodes in
        ap (λ l. run c inputs l (begun memory) >>= left) lines ∙ ap (λ o. o >>= left) ran.1 ∙ ap Some ran.2
    by None e =
        let outside : list_all (stays_inside places (length memory)) j.ssa.units ≡ false = sym (runs-trap-outside places j.ssa.units (start_of memory args)) ∙ ap is_some e in
        let x = some-outside j.ssa places (length memory) [] j.ssa.units refl outside in
        let v = arguments j.ssa + 0 + x.0 in
        let same : arguments j.ssa + x.0 ≡ v = omega arith in
        let there : In v (unit_numbers j.ssa) = subst (λ n. In n (unit_numbers j.ssa)) same (stands-in-numbers (arguments j.ssa) (length j.ssa.units) x.0 x.2) in
        let stands = stands-in-order j.ssa matches j.packs order v is there in
        let leaves = emitted-outside j places (length memory) (begin j) order v x.1
        (λ k low. pack-sides j.descriptions j.ssa (pack_at j k) (kind-at j k planned.kinds low) (calls-at j k planned.packs low))
        (subst (In v) (all-units-same j order) stands) x.3 x.4 in
        lines-trap c p memory places args (ap (list_all (program.stays_inside places (length memory))) lines ∙ leaves)
