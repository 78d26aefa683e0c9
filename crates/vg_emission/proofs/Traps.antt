-- A line of an order leaves the memory where a unit does.
use Rattle.std.proofs.Common.{◌≡◌, ℕ, zero, suc, ◌+◌, ◌*◌, ◌<◌, ◌≤◌, ℤ, pos, negsuc, true, false, List, [], ◌∷◌, ◌++◌, length, Some, None, refl, sym, ap, subst, ◌∙◌, inl, inr, arith}
use Rattle.std.specs.Prelude.{nat_le, ◌&&◌, ◌==◌, ◌+ℤ◌}
use Rattle.std.specs.List.{AllByRecursion, list_all}
use Rattle.std.proofs.lemmas.Bool.{and_left, and_right, cases_Bool, cases_lt, eqb-true, leb-false, lt-leb, true≢false}
use Rattle.std.proofs.lemmas.List.Folds.{list_all-append}
use Rattle.std.proofs.lemmas.Int.{ints}
use Rattle.vg_base.specs.declared.address.Address.{Address}
use Rattle.vg_base.specs.Address.{place_of}
use Rattle.vg_base.specs.declared.width.Width.{Width}
use Rattle.vg_base.specs.Trap.{◌>>=◌}
use Rattle.vg_base.specs.Width.{size_of}
use Rattle.vg_program.specs.declared.line.Line.{Line}
use Rattle.vg_program.specs.declared.line.Line.TheVariants as line
use Rattle.vg_program.specs.Accesses as program
use Rattle.vg_program.specs.Vectors.{bytes_of}
use Rattle.vg_shapes.specs.declared.order.Node.{Node}
use Rattle.vg_shapes.specs.declared.order.Node.TheVariants.{PackAt, UnitAt}
use Rattle.vg_shapes.specs.declared.pack.Pack.{Pack}
use Rattle.vg_shapes.specs.declared.pack.Pack.TheVariants.{Stores, Loads, Call}
use Rattle.vg_shapes.specs.declared.ssa.Ssa.{Ssa}
use Rattle.vg_shapes.specs.declared.ssa_unit.SsaUnit.{SsaUnit}
use Rattle.vg_shapes.specs.declared.ssa_unit.SsaUnit.TheVariants.{Load, Store, Operation}
use Rattle.vg_shapes.specs.declared.wanted.Wanted.{Wanted}
use Rattle.vg_shapes.specs.Layout.{access_at, access_of}
use Rattle.vg_shapes.specs.Order.{all_units, count_of, one_if, Stands as In}
use Rattle.vg_shapes.specs.Pack.{AreLoads, AreStores, behind, is_pack_size, units_of}
use Rattle.vg_shapes.specs.Units.{unit_at}
use Rattle.vg_shapes.specs.Operands.{lanes_of}
use Rattle.vg_kernel_plans.specs.Held.{lane_width_of}
use Rattle.vg_order_laws.specs.Steps.{is_inside, stays_inside}
use Rattle.vg_order_laws.proofs.Sequences.{count_of-append}
use Rattle.vg_emission.specs.Draft.{Draft}
use Rattle.vg_emission.specs.Emission.{Job, build_all, emitted, extracts, first_address, joint_size, node_lines, number_for, pack_at, pack_line, pack_lines, takes_at, unit_lines, width_for, with_pack}
use Rattle.vg_emission.proofs.Memories.{place_behind}
use Rattle.vg_emission.proofs.Programs.{node_units}
use Rattle.vg_emission.proofs.Sizes.{loads-address, loads-size, stores-address, stores-size}

-- what is inside is told alike of units and of lines
inside-same : (long : ℕ) (z : ℤ) (n : ℕ) → program.is_inside long z n ≡ is_inside long z n
inside-same long (pos at) n = refl
inside-same long (negsuc at) n = refl

-- one of the lines leaves the memory
abbrev pub Leaves : List ℕ → ℕ → List Line → Type 0
Leaves places long ls = list_all (program.stays_inside places long) ls ≡ false

leaves-before : (places : List ℕ) (long : ℕ) (ls ms : List Line) → Leaves places long ls → Leaves places long (ls ++ ms)
leaves-before places long ls ms h = list_all-append (program.stays_inside places long) ls ms ∙ and_left _ _ h

leaves-after : (places : List ℕ) (long : ℕ) (ls ms : List Line) → Leaves places long ms → Leaves places long (ls ++ ms)
leaves-after places long ls ms h = list_all-append (program.stays_inside places long) ls ms ∙ and_right _ _ h

leaves-first : (places : List ℕ) (long : ℕ) (l : Line) (ls : List Line) → program.stays_inside places long l ≡ false → Leaves places long (l ∷ ls)
leaves-first places long l ls h = and_left _ _ h

outside-more : (a b : ℕ) → b < a → nat_le a b ≡ false
outside-more a b h = lt-leb a b h

-- where a part of an access is outside, so is the whole
part-outside : (places : List ℕ) (long : ℕ) (a : Address) (skip size whole : ℕ) → skip + size ≤ whole → is_inside long (place_of places (behind a skip)) size ≡ false → is_inside long (place_of places a) whole ≡ false
part-outside places long a skip size whole fits h = by (place_of places a) refl
  where
    by : (z : ℤ) → place_of places a ≡ z → is_inside long z whole ≡ false
    by (negsuc n) e = refl
    by (pos n) e =
        let there : is_inside long (pos (n + skip)) size ≡ false = ap (λ q. is_inside long q size) (sym (place_behind places a n skip e)) ∙ h in
        let out = leb-false _ _ there in
        outside-more (n + whole) long (omega arith)

behind-twice : (a : Address) (m n : ℕ) → behind (behind a m) n ≡ behind a (m + n)
behind-twice a m n = let e : (behind (behind a m) n).offset ≡ (behind a (m + n)).offset = omega (arith, ints) in ap (λ (z : ℤ). let b : Address = record { pointer = a.pointer; offset = z } in b) e

at_start : (a : Address) → behind a 0 ≡ a
at_start a = let e : (behind a 0).offset ≡ a.offset = omega (arith, ints) in ap (λ (z : ℤ). let b : Address = record { pointer = a.pointer; offset = z } in b) e

loads-outside : (ssa : Ssa) (places : List ℕ) (long : ℕ) (w : Width) (a : Address) (skip whole : ℕ) (us : List ℕ) (v : ℕ) (u : SsaUnit) → AreLoads ssa w (behind a skip) us → skip + length us * size_of w ≤ whole → In v us → unit_at ssa v ≡ Some u → stays_inside places long u ≡ false → is_inside long (place_of places a) whole ≡ false
loads-outside ssa places long w a skip whole [] v u are fits h e out = absurd (omega arith)
loads-outside ssa places long w a skip whole (x ∷ us) v u are fits h e out = elim (cases_Bool (v == x)) [
  | inl t ↦
      let same = eqb-true v x t in
      let same_unit : Some u ≡ Some (Load (behind a skip) w) = sym e ∙ ap (unit_at ssa) same ∙ are.0 in
      let one : u ≡ Load (behind a skip) w = cc in
      part-outside places long a skip (size_of w) whole (omega arith) (ap (stays_inside places long) (sym one) ∙ out)
  | inr f ↦ loads-outside ssa places long w a (skip + size_of w) whole us v u (subst (λ b. AreLoads ssa w b us) (behind-twice a skip (size_of w)) are.1) (omega arith) (let none : one_if (v == x) ≡ 0 = ap one_if f in omega arith) e out
]

stores-outside : (ssa : Ssa) (places : List ℕ) (long : ℕ) (w : Width) (a : Address) (skip whole : ℕ) (us : List ℕ) (xs : List Wanted) (v : ℕ) (u : SsaUnit) → AreStores ssa w (behind a skip) us xs → skip + length us * size_of w ≤ whole → In v us → unit_at ssa v ≡ Some u → stays_inside places long u ≡ false → is_inside long (place_of places a) whole ≡ false
stores-outside ssa places long w a skip whole [] xs v u are fits h e out = absurd (omega arith)
stores-outside ssa places long w a skip whole (x ∷ us) [] v u are fits h e out = absurd are
stores-outside ssa places long w a skip whole (x ∷ us) (y ∷ ys) v u are fits h e out = elim (cases_Bool (v == x)) [
  | inl t ↦
      let same = eqb-true v x t in
      let same_unit : Some u ≡ Some (Store (behind a skip) w y) = sym e ∙ ap (unit_at ssa) same ∙ are.0 in
      let one : u ≡ Store (behind a skip) w y = cc in
      part-outside places long a skip (size_of w) whole (omega arith) (ap (stays_inside places long) (sym one) ∙ out)
  | inr f ↦ stores-outside ssa places long w a (skip + size_of w) whole us ys v u (subst (λ b. AreStores ssa w b us ys) (behind-twice a skip (size_of w)) are.1) (omega arith) (let none : one_if (v == x) ≡ 0 = ap one_if f in omega arith) e out
]

-- ---- nodes

-- what is true of a pack whatever the numbers are
abbrev pub PackSides : Ssa → Pack → Type 0
PackSides ssa (Loads us) = (w : Width) × (a : Address) × AreLoads ssa w a us × (is_pack_size (length us * size_of w) ≡ true)
PackSides ssa (Stores us) = (w : Width) × (a : Address) × (xs : List Wanted) × AreStores ssa w a us xs × (is_pack_size (length us * size_of w) ≡ true)
PackSides ssa (Call e lanes) = AllByRecursion (λ v. access_at ssa v ≡ None) (units_of (Call e lanes))

-- a unit that stays nowhere has an access
none-inside : (places : List ℕ) (long : ℕ) (u : SsaUnit) → access_of u ≡ None → stays_inside places long u ≡ true
none-inside places long (Load a w) h = cc
none-inside places long (Store a w x) h = cc
none-inside places long (Operation op w k xs) h = refl

operations-inside : (ssa : Ssa) (places : List ℕ) (long : ℕ) (us : List ℕ) (v : ℕ) (u : SsaUnit) → AllByRecursion (λ x. access_at ssa x ≡ None) us → In v us → unit_at ssa v ≡ Some u → stays_inside places long u ≡ true
operations-inside ssa places long [] v u all h e = absurd (omega arith)
operations-inside ssa places long (x ∷ us) v u all h e = elim (cases_Bool (v == x)) [
  | inl t ↦
      let here : unit_at ssa x ≡ Some u = ap (unit_at ssa) (sym (eqb-true v x t)) ∙ e in
      none-inside places long u (ap (λ o. o >>= access_of) (sym here) ∙ all.0)
  | inr f ↦ operations-inside ssa places long us v u all.1 (let none : one_if (v == x) ≡ 0 = ap one_if f in omega arith) e
]

pack-outside : (j : Job) (places : List ℕ) (long : ℕ) (d : Draft) (k : ℕ) (p : Pack) (v : ℕ) (u : SsaUnit) → PackSides j.ssa p → In v (units_of p) → unit_at j.ssa v ≡ Some u → stays_inside places long u ≡ false → Leaves places long (pack_lines j d k p).lines
pack-outside j places long d k (Loads []) v u sides h e out = absurd (omega arith)
pack-outside j places long d k (Loads (x ∷ us)) v u sides h e out =
    let all = x ∷ us in
    let n = bytes_of (joint_size j.ssa all) in
    let size = (loads-size j.ssa sides.0 sides.1 x us sides.2 sides.3).bytes in
    let outside : is_inside long (place_of places sides.1) n ≡ false = loads-outside j.ssa places long sides.0 sides.1 0 n all v u (subst (λ b. AreLoads j.ssa sides.0 b all) (sym (at_start sides.1)) sides.2) (omega arith) h e out in
    let made = build_all j d (takes_at j k) in
    let l = pack_line j (Loads all) made.registers in
    let rest = (extracts j (with_pack made.draft k (Loads all)) made.draft.vectors (width_for (lane_width_of j.descriptions j.ssa (Loads all))) 0 (lanes_of (Loads all))).lines in
    leaves-after places long made.lines (l ∷ rest) (leaves-first places long l rest
    (inside-same long (place_of places (first_address j.ssa all)) n ∙ ap (λ b. is_inside long (place_of places b) n) (loads-address j.ssa sides.0 sides.1 x us sides.2) ∙ outside))
pack-outside j places long d k (Stores []) v u sides h e out = absurd (omega arith)
pack-outside j places long d k (Stores (x ∷ us)) v u sides h e out = by sides.2 sides.3
  where
    by : (xs : List Wanted) → AreStores j.ssa sides.0 sides.1 (x ∷ us) xs → Leaves places long (pack_lines j d k (Stores (x ∷ us))).lines
    by [] are = absurd are
    by (y ∷ ys) are =
        let n = bytes_of (joint_size j.ssa (x ∷ us)) in
        let size = (stores-size j.ssa sides.0 sides.1 x us y ys are sides.4).bytes in
        let outside : is_inside long (place_of places sides.1) n ≡ false = stores-outside j.ssa places long sides.0 sides.1 0 n (x ∷ us) (y ∷ ys) v u (subst (λ b. AreStores j.ssa sides.0 b (x ∷ us) (y ∷ ys)) (sym (at_start sides.1)) are) (omega arith) h e out in
        let l = pack_line j (Stores (x ∷ us)) (build_all j d (takes_at j k)).registers in
        leaves-after places long (build_all j d (takes_at j k)).lines (l ∷ []) (leaves-first places long l []
        (inside-same long (place_of places (first_address j.ssa (x ∷ us))) n ∙ ap (λ b. is_inside long (place_of places b) n) (stores-address j.ssa sides.0 sides.1 x us y ys are) ∙ outside))
pack-outside j places long d k (Call c lanes) v u sides h e out = absurd (true≢false (sym (operations-inside j.ssa places long (units_of (Call c lanes)) v u sides h e) ∙ out))

work-outside : (j : Job) (places : List ℕ) (long : ℕ) (d : Draft) (v : ℕ) (u : SsaUnit) → stays_inside places long u ≡ false → Leaves places long (unit_lines j d v (Some u)).lines
work-outside j places long d v (Load a w) out = leaves-first places long (line.Load w a) [] (inside-same long (place_of places a) (size_of w) ∙ out)
work-outside j places long d v (Store a w x) out = leaves-first places long (line.Store w a (number_for j d x)) [] (inside-same long (place_of places a) (size_of w) ∙ out)
work-outside j places long d v (Operation op w k xs) out = absurd (true≢false out)

node-outside : (j : Job) (places : List ℕ) (long : ℕ) (d : Draft) (n : Node) (v : ℕ) (u : SsaUnit) → ((k : ℕ) → k < length j.packs → PackSides j.ssa (pack_at j k)) → (In v (node_units j n) → (k : ℕ) → n ≡ PackAt k → k < length j.packs) → In v (node_units j n) → unit_at j.ssa v ≡ Some u → stays_inside places long u ≡ false
    → Leaves places long (node_lines j d n).lines
node-outside j places long d (PackAt k) v u sides low is e out = pack-outside j places long d k (pack_at j k) v u (sides k (low is k refl)) is e out
node-outside j places long d (UnitAt x) v u sides low is e out = elim (cases_Bool (v == x)) [
  | inr f ↦ absurd (let none : one_if (v == x) ≡ 0 = ap one_if f in omega arith)
  | inl t ↦
      let here : unit_at j.ssa x ≡ Some u = ap (unit_at j.ssa) (sym (eqb-true v x t)) ∙ e in
      ap (λ o. list_all (program.stays_inside places long) (unit_lines j d x o).lines) here ∙ work-outside j places long d x u out
]

-- a pack that has a unit is one of the job's
pub in-range : (j : Job) (v : ℕ) (n : Node) → In v (node_units j n) → (k : ℕ) → n ≡ PackAt k → k < length j.packs
in-range j v n is k e = low j.packs k (subst (λ m. In v (node_units j m)) e is)
  where
    low : (packs : List Pack) (k : ℕ) → In v (units_of (Rattle.std.specs.Prelude.slice_index_or packs k (Stores []))) → k < length packs
    low [] k h = absurd (omega arith)
    low (p ∷ packs) zero h = omega arith
    low (p ∷ packs) (suc k) h = let rest = low packs k h in omega arith

-- the lines of an order leave the memory where a unit does
pub emitted-outside : (j : Job) (places : List ℕ) (long : ℕ) (d : Draft) (order : List Node) (v : ℕ) (u : SsaUnit) → ((k : ℕ) → k < length j.packs → PackSides j.ssa (pack_at j k))
    → In v (all_units (node_units j) order) → unit_at j.ssa v ≡ Some u → stays_inside places long u ≡ false → Leaves places long (emitted j d order)
emitted-outside j places long d [] v u sides is e out = absurd (omega arith)
emitted-outside j places long d (n ∷ ns) v u sides is e out =
    let made = node_lines j d n in
    let split = count_of-append v (node_units j n) (all_units (node_units j) ns) in
    elim (cases_lt 0 (count_of v (node_units j n))) [
      | inl here ↦ leaves-before places long made.lines (emitted j made.draft ns) (node-outside j places long d n v u sides (in-range j v n) here e out)
      | inr none ↦ leaves-after places long made.lines (emitted j made.draft ns) (emitted-outside j places long made.draft ns v u sides (omega arith) e out)
    ]
