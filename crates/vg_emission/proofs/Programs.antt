-- The lines of nodes in an order leave the memory that their units leave.
use Rattle.std.proofs.Common.{◌≡◌, ℕ, ◌+◌, ◌*◌, ◌<◌, ◌≤◌, ℤ, pos, negsuc, true, List, [], ◌∷◌, ◌++◌, length, map, take, drop, Option, Some, None, refl, sym, ap, subst, ◌∙◌, arith}
use Rattle.std.specs.List.{AllByRecursion, flat_map}
use Rattle.vg_base.specs.Trap.{◌>>=◌}
use Rattle.vg_base.specs.Bits.{bytes}
use Rattle.vg_base.specs.Memory.{stored}
use Rattle.vg_base.specs.declared.address.Address.{Address}
use Rattle.vg_base.specs.Address.{place_of}
use Rattle.vg_base.specs.declared.width.Width.{Width}
use Rattle.vg_base.specs.Width.{bits_of, size_of}
use Rattle.vg_bits.specs.BitList.{IsBytes}
use Rattle.vg_bits.specs.Range.{replaced}
use Rattle.vg_bits.proofs.ByteLists.{IsBytes-bytes}
use Rattle.vg_program.specs.Meaning.{State, Instructions, Inputs, run}
use Rattle.vg_shapes.specs.declared.order.Node.{Node}
use Rattle.vg_shapes.specs.declared.order.Node.TheVariants.{PackAt, UnitAt}
use Rattle.vg_shapes.specs.declared.pack.Pack.{Pack}
use Rattle.vg_shapes.specs.declared.pack.Pack.TheVariants.{Stores, Loads, Call}
use Rattle.vg_shapes.specs.declared.ssa.Ssa.{Ssa}
use Rattle.vg_shapes.specs.declared.ssa_unit.SsaUnit.{SsaUnit}
use Rattle.vg_shapes.specs.declared.ssa_unit.SsaUnit.TheVariants.{Load, Store, Operation}
use Rattle.vg_shapes.specs.declared.wanted.Wanted.{Wanted}
use Rattle.vg_shapes.specs.Layout.{access_at, access_of}
use Rattle.vg_shapes.specs.Pack.{AreLoads, AreStores, is_pack_size, units_of}
use Rattle.vg_shapes.specs.RunUnits.{number_of}
use Rattle.vg_shapes.specs.Units.{unit_at}
use Rattle.vg_kernel_plans.specs.Held.{lane_width_of}
use Rattle.vg_order_laws.specs.Sequence.{run_steps}
use Rattle.vg_order_laws.specs.Steps.{HasNumber, step_of, unit_step}
use Rattle.vg_order_laws.proofs.Runs.{went_well}
use Rattle.vg_order_laws.proofs.Sequences.{bind_same, bind_twice}
use Rattle.vg_emission.specs.Draft.{Draft}
use Rattle.vg_emission.specs.Emission.{Job, emitted, node_lines, operand_at, pack_at, pack_lines, takes_at, unit_lines, width_for}
use Rattle.vg_emission.specs.Promises.{CallHolds, Fills}
use Rattle.vg_emission.proofs.Memories.{IsBytes-append, IsBytes-drop, IsBytes-take, Lanes, stored-some}
use Rattle.vg_emission.proofs.Nodes.{call-pack-runs, loads-pack-runs, Moves, moves-nowhere, seen-loaded, stores-pack-runs, work-runs, WorkReady}
use Rattle.vg_emission.proofs.Placing.{AllReady, AllRight, ArgumentsHave, run-joined}
use Rattle.vg_emission.proofs.Registers.{Stands}

pub run_steps-append : {S : Type 0} (step : ℕ → S → Option S) (us vs : List ℕ) (s : S) → run_steps step (us ++ vs) s ≡ (run_steps step us s >>= run_steps step vs)
unfolding run_steps
run_steps-append step [] vs s = refl
run_steps-append step (u ∷ us) vs s = bind_same (step u s) _ _ (run_steps-append step us vs) ∙ sym (bind_twice (step u s) (run_steps step us) (run_steps step vs))

-- ---- memory stays a list of bytes

IsBytes-replaced : (low : ℕ) (new m : List ℕ) → IsBytes new → IsBytes m → IsBytes (replaced low new m)
IsBytes-replaced low new m p q = IsBytes-append (take low m) (new ++ drop (low + length new) m) (IsBytes-take low m q) (IsBytes-append new (drop (low + length new) m) p (IsBytes-drop (low + length new) m q))

stored-bytes : (m : List ℕ) (z : ℤ) (new after : List ℕ) → IsBytes new → IsBytes m → stored m z new ≡ Some after → IsBytes after
stored-bytes m (pos a) new after p q e = subst IsBytes (sym (stored-some m a new after e).1) (IsBytes-replaced a new m p q)
stored-bytes m (negsuc a) new after p q e = cc

step-bytes : (ssa : Ssa) (places : List ℕ) (numbers : ℕ → ℕ) (v : ℕ) (m after : List ℕ) → IsBytes m → unit_step ssa places numbers v m ≡ Some after → IsBytes after
step-bytes ssa places numbers v m after are e = by (unit_at ssa v) e
  where
    by : (o : Option SsaUnit) → step_of o places numbers v m ≡ Some after → IsBytes after
    by None g = subst IsBytes (let same : m ≡ after = cc in same) are
    by (Some (Load a w)) g = let x = seen-loaded m (place_of places a) (size_of w) (numbers v) after g in subst IsBytes (sym x.3) are
    by (Some (Store a w x)) g = stored-bytes m (place_of places a) (bytes (size_of w) (number_of numbers x)) after (IsBytes-bytes (size_of w) (number_of numbers x)) are g
    by (Some (Operation op w k xs)) g = subst IsBytes (let same : m ≡ after = cc in same) are

steps-bytes : (ssa : Ssa) (places : List ℕ) (numbers : ℕ → ℕ) (us : List ℕ) (m after : List ℕ) → IsBytes m → run_steps (unit_step ssa places numbers) us m ≡ Some after → IsBytes after
unfolding run_steps
steps-bytes ssa places numbers [] m after are e = subst IsBytes (let same : m ≡ after = cc in same) are
steps-bytes ssa places numbers (u ∷ us) m after are e =
    let went = went_well (unit_step ssa places numbers u m) (run_steps (unit_step ssa places numbers) us) e in
    steps-bytes ssa places numbers us went.0 after (step-bytes ssa places numbers u m went.0 are went.1) went.2

-- ---- what is true of a pack where the values have these numbers

pub record StoresRight (j : Job) (numbers : ℕ → ℕ) (k : ℕ) (us : List ℕ) : Type 0 where
  pub width : Width
  pub address : Address
  pub wants : List Wanted
  pub operand : ℕ
  pub are : AreStores j.ssa width address us wants
  pub some : 0 < length us
  pub size : is_pack_size (length us * size_of width) ≡ true
  pub same : length us ≡ length wants
  pub takes : takes_at j k ≡ operand ∷ []
  pub lanes : (reg : List ℕ) → Fills numbers (operand_at j operand) reg → (8 * (length us * size_of width) ≤ length reg) × Lanes reg 0 (8 * size_of width) (map (number_of numbers) wants)

pub record LoadsRight (j : Job) (us : List ℕ) : Type 0 where
  pub width : Width
  pub address : Address
  pub are : AreLoads j.ssa width address us
  pub some : 0 < length us
  pub size : is_pack_size (length us * size_of width) ≡ true

pub record CallRight (j : Job) (c : Instructions) (numbers : ℕ → ℕ) (k e : ℕ) (lanes : List (Option ℕ)) : Type 0 where
  pub wide : bits_of (width_for (lane_width_of j.descriptions j.ssa (Call e lanes))) ≡ lane_width_of j.descriptions j.ssa (Call e lanes)
  pub operations : AllByRecursion (λ v. access_at j.ssa v ≡ None) (units_of (Call e lanes))
  pub holds : CallHolds j c numbers (takes_at j k) e lanes

abbrev pub KindRight : Job → Instructions → (ℕ → ℕ) → ℕ → Pack → Type 0
KindRight j c numbers k (Stores us) = StoresRight j numbers k us
KindRight j c numbers k (Loads us) = LoadsRight j us
KindRight j c numbers k (Call e lanes) = CallRight j c numbers k e lanes

pub record IsFounded (j : Job) (c : Instructions) (numbers : ℕ → ℕ) (i : Inputs) : Type 0 where
  pub arguments : ArgumentsHave j numbers i
  pub works : (v : ℕ) (u : SsaUnit) → unit_at j.ssa v ≡ Some u → HasNumber numbers v u
  pub recipes : (k : ℕ) → k < length j.packs → AllRight j c numbers (takes_at j k)
  pub packs : (k : ℕ) → k < length j.packs → KindRight j c numbers k (pack_at j k)

-- what has to have run before a node
abbrev pub UnitReady : Job → Draft → ℕ → Option SsaUnit → Type 0
UnitReady j d v None = Unit {0}
UnitReady j d v (Some u) = WorkReady j d v u

abbrev pub NodeReady : Job → Draft → Node → Type 0
NodeReady j d (PackAt k) = (k < length j.packs) × AllReady j d (takes_at j k)
NodeReady j d (UnitAt v) = UnitReady j d v (unit_at j.ssa v)

abbrev pub NodesReady : Job → Draft → List Node → Type 0
NodesReady j d [] = Unit {0}
NodesReady j d (n ∷ ns) = NodeReady j d n × NodesReady j (node_lines j d n).draft ns

-- the units of a node
abbrev pub node_units : Job → Node → List ℕ
node_units j (PackAt k) = units_of (pack_at j k)
node_units j (UnitAt v) = v ∷ []

-- ---- a node

-- a unit without an access leaves memory
no-access : (places : List ℕ) (numbers : ℕ → ℕ) (v : ℕ) (m : List ℕ) (o : Option SsaUnit) → (o >>= access_of) ≡ None → step_of o places numbers v m ≡ Some m
no-access places numbers v m None h = refl
no-access places numbers v m (Some (Load a w)) h = cc
no-access places numbers v m (Some (Store a w x)) h = cc
no-access places numbers v m (Some (Operation op w k xs)) h = refl

operations-run : (ssa : Ssa) (places : List ℕ) (numbers : ℕ → ℕ) (us : List ℕ) (m after : List ℕ) → AllByRecursion (λ v. access_at ssa v ≡ None) us → run_steps (unit_step ssa places numbers) us m ≡ Some after → m ≡ after
unfolding run_steps
operations-run ssa places numbers [] m after ops e = cc
operations-run ssa places numbers (u ∷ us) m after ops e =
    let nothing : unit_step ssa places numbers u m ≡ Some m = no-access places numbers u m (unit_at ssa u) ops.0 in
    operations-run ssa places numbers us m after ops.1 (ap (λ o. o >>= run_steps (unit_step ssa places numbers) us) (sym nothing) ∙ e)

unit-runs : (j : Job) (numbers : ℕ → ℕ) (c : Instructions) (i : Inputs) (d : Draft) (s : State) (v : ℕ) (after : List ℕ) → IsFounded j c numbers i → Stands j numbers d s → UnitReady j d v (unit_at j.ssa v)
    → unit_step j.ssa i.places numbers v s.memory ≡ Some after → (t : State) × Moves j numbers c i s (unit_lines j d v (unit_at j.ssa v)).lines (unit_lines j d v (unit_at j.ssa v)).draft after t
unit-runs j numbers c i d s v after all h ready e = by (unit_at j.ssa v) refl ready e
  where
    by : (o : Option SsaUnit) → unit_at j.ssa v ≡ o → UnitReady j d v o → step_of o i.places numbers v s.memory ≡ Some after → (t : State) × Moves j numbers c i s (unit_lines j d v o).lines (unit_lines j d v o).draft after t
    by None g r f = (s, moves-nowhere j numbers c i d s after h (let same : s.memory ≡ after = cc in same))
    by (Some u) g r f = work-runs j numbers c i d s v u after all.arguments h (all.works v u g) r f

pack-runs : (j : Job) (numbers : ℕ → ℕ) (c : Instructions) (i : Inputs) (d : Draft) (s : State) (k : ℕ) (p : Pack) (after : List ℕ) → pack_at j k ≡ p → IsFounded j c numbers i → k < length j.packs → IsBytes s.memory → Stands j numbers d s → KindRight j c numbers k p → AllReady j d (takes_at j k)
    → run_steps (unit_step j.ssa i.places numbers) (units_of p) s.memory ≡ Some after → (t : State) × Moves j numbers c i s (pack_lines j d k p).lines (pack_lines j d k p).draft after t
pack-runs j numbers c i d s k (Loads []) after here all low are h right ready e = absurd (let some = right.some in omega arith)
pack-runs j numbers c i d s k (Loads (u ∷ us)) after here all low are h right ready e = loads-pack-runs j numbers c i d s k right.width right.address u us after all.arguments h are here right.are right.size (all.recipes k low) ready e
pack-runs j numbers c i d s k (Stores []) after here all low are h right ready e = absurd (let some = right.some in omega arith)
pack-runs j numbers c i d s k (Stores (u ∷ us)) after here all low are h right ready e = by right.wants right.same right.are right.lanes
  where
    by : (xs : List Wanted) → length (u ∷ us) ≡ length xs → AreStores j.ssa right.width right.address (u ∷ us) xs
        → ((reg : List ℕ) → Fills numbers (operand_at j right.operand) reg → (8 * (length (u ∷ us) * size_of right.width) ≤ length reg) × Lanes reg 0 (8 * size_of right.width) (map (number_of numbers) xs))
        → (t : State) × Moves j numbers c i s (pack_lines j d k (Stores (u ∷ us))).lines (pack_lines j d k (Stores (u ∷ us))).draft after t
    by [] same side lanes = absurd side
    by (x ∷ xs) same side lanes = stores-pack-runs j numbers c i d s k right.width right.address u us right.operand x xs after all.arguments h side right.size (let one : length us ≡ length xs = omega arith in one) right.takes (all.recipes k low) ready lanes e
pack-runs j numbers c i d s k (Call e us) after here all low are h right ready f =
    let same = operations-run j.ssa i.places numbers (units_of (Call e us)) s.memory after right.operations f in
    let moved = call-pack-runs j numbers c i d s k e us all.arguments h here (all.recipes k low) ready right.wide right.holds in
    (moved.0, record { runs = moved.1.runs; stands = moved.1.stands; memory = moved.1.memory ∙ same })

pub node-runs : (j : Job) (numbers : ℕ → ℕ) (c : Instructions) (i : Inputs) (d : Draft) (s : State) (n : Node) (after : List ℕ) → IsFounded j c numbers i → IsBytes s.memory → Stands j numbers d s → NodeReady j d n
    → run_steps (unit_step j.ssa i.places numbers) (node_units j n) s.memory ≡ Some after → (t : State) × Moves j numbers c i s (node_lines j d n).lines (node_lines j d n).draft after t
unfolding run_steps
node-runs j numbers c i d s (PackAt k) after all are h ready e = pack-runs j numbers c i d s k (pack_at j k) after refl all ready.0 are h (all.packs k ready.0) ready.1 e
node-runs j numbers c i d s (UnitAt v) after all are h ready e =
    let went = went_well (unit_step j.ssa i.places numbers v s.memory) (λ m. Some m) e in
    unit-runs j numbers c i d s v after all h ready (went.1 ∙ went.2)

-- ---- all nodes

pub nodes-run : (j : Job) (numbers : ℕ → ℕ) (c : Instructions) (i : Inputs) (d : Draft) (s : State) (order : List Node) (after : List ℕ) → IsFounded j c numbers i → IsBytes s.memory → Stands j numbers d s → NodesReady j d order
    → run_steps (unit_step j.ssa i.places numbers) (flat_map (node_units j) order) s.memory ≡ Some after
    → (t : State) × (run c i (emitted j d order) s ≡ Some t) × (t.memory ≡ after)
unfolding run run_steps
nodes-run j numbers c i d s [] after all are h ready e = (s, refl, (let same : s.memory ≡ after = cc in same))
nodes-run j numbers c i d s (n ∷ ns) after all are h ready e =
    let step = unit_step j.ssa i.places numbers in
    let front = node_units j n in
    let back = flat_map (node_units j) ns in
    let went = went_well (run_steps step front s.memory) (run_steps step back) (sym (run_steps-append step front back s.memory) ∙ e) in
    let one = node-runs j numbers c i d s n went.0 all are h ready.0 went.1 in
    let t = one.0 in
    let moved = one.1 in
    let made = node_lines j d n in
    let bytes_still = subst IsBytes (sym moved.memory) (steps-bytes j.ssa i.places numbers front s.memory went.0 are went.1) in
    let rest = nodes-run j numbers c i made.draft t ns after all bytes_still moved.stands ready.1 (ap (run_steps step back) moved.memory ∙ went.2) in
    (rest.0, run-joined c i made.lines (emitted j made.draft ns) s t rest.0 moved.runs rest.1, rest.2)
