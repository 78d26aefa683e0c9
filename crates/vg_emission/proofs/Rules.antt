-- Emitted programs keep the rules on programs.
use Rattle.std.proofs.Common.{◌≡◌, ℕ, ◌+◌, ◌*◌, ◌<◌, ◌≤◌, Bool, List, [], ◌∷◌, length, map, Some, refl, sym, ap, subst, ◌∙◌, inl, inr, arith}
use Rattle.std.specs.Prelude.{filter, not, slice_get, slice_index, IsTrue}
use Rattle.std.specs.List.{AllByRecursion, IsDistinct}
use Rattle.std.specs.Str.{bytes_eq}
use Rattle.std.proofs.lemmas.Bool.{cases_Bool, cond-true, cond-false}
use Rattle.std.proofs.lemmas.List.{length-map}
use Rattle.vg_base.specs.Offset.{IsAddress}
use Rattle.vg_base.specs.Width.{bits_of, size_of}
use Rattle.vg_pseudo.specs.declared.header.Header.{Header}
use Rattle.vg_program.specs.declared.line.Line.TheVariants as line
use Rattle.vg_program.specs.declared.param.Param.{Param}
use Rattle.vg_program.specs.Before.{Before, nothing_before}
use Rattle.vg_program.specs.Valid.{AreLines}
use Rattle.vg_program.specs.Vectors as vectors
use Rattle.vg_shapes.specs.declared.match_table.Match.{Match}
use Rattle.vg_shapes.specs.declared.operand.Operand.{Operand}
use Rattle.vg_shapes.specs.declared.order.Node.{Node}
use Rattle.vg_shapes.specs.declared.order.Node.TheVariants.{PackAt, UnitAt}
use Rattle.vg_shapes.specs.declared.pack.Pack.{Pack}
use Rattle.vg_shapes.specs.declared.pack.Pack.TheVariants.{Stores, Loads, Call}
use Rattle.vg_shapes.specs.declared.ssa.SsaParam.{SsaParam}
use Rattle.vg_shapes.specs.declared.ssa_unit.SsaUnit.{SsaUnit}
use Rattle.vg_shapes.specs.declared.ssa_unit.SsaUnit.TheVariants.{Load, Store}
use Rattle.vg_shapes.specs.declared.wanted.Wanted.{Wanted}
use Rattle.vg_shapes.specs.Operands.{lanes_of}
use Rattle.vg_shapes.specs.Pack.{AreStores, bounds_from}
use Rattle.vg_shapes.specs.Sound.{IsSound, IsUnit, is_store}
use Rattle.vg_shapes.specs.Units.{unit_at}
use Rattle.vg_kernel_plans.specs.Held.{lane_width_of, register_of}
use Rattle.vg_kernel_plans.specs.Taken.{group_operand, operands_of, params_of}
use Rattle.vg_emission.specs.Draft.{Draft}
use Rattle.vg_emission.specs.Emission.{Job, build_all, call_of, description_at, emitted, first_address, joint_size, no_description, node_lines, operand_at, pack_at, pack_lines, takes_at, width_for}
use Rattle.vg_emission.specs.Fit.{AreFit, EmittedKeepsRules, HasHeader, LaneFits}
use Rattle.vg_emission.specs.Planned.{IsPack, IsPlanned}
use Rattle.vg_emission.specs.Program.{begin, job_of, ordered, param_of}
use Rattle.vg_emission.proofs.Jobs.{get-there, kind-at, listed}
use Rattle.vg_emission.proofs.Keeping.{address-fits, few-units, holder-types, loads-fit, pack-most, params-at, register-at, taken-registers, work-types}
use Rattle.vg_emission.proofs.Made.{job-made, ordered-legal}
use Rattle.vg_emission.proofs.Needs.{IsJob, lane-width, unit-is}
use Rattle.vg_emission.proofs.Orders.{found-blank, order-ready}
use Rattle.vg_emission.proofs.Placing.{AllReady}
use Rattle.vg_emission.proofs.Programs.{NodeReady, NodesReady}
use Rattle.vg_emission.proofs.Sizes.{loads-address, loads-size, loads-width, register-bytes, stores-address, stores-size, stores-width, width-again}
use Rattle.vg_emission.proofs.Validity.{builds-types, call-fits}
use Rattle.vg_emission.proofs.Widths.{Typed, Types, types-then}

first-wide : (vs : List ℕ) (rs : List ℕ) (w : ℕ) (ws : List ℕ) → map (λ v. slice_get vs v) rs ≡ Some w ∷ map Some ws → slice_get vs (slice_index rs 0) ≡ Some w
first-wide vs [] w ws e = cc
first-wide vs (r ∷ rs) w ws e = cc

pack-types : (j : Job) (matches : List Match) (headers : List Header) (d : Draft) (b : Before) (k : ℕ) (p : Pack) → AreFit j headers → IsPlanned j → IsJob j matches → b.headers ≡ headers → k < length j.packs → pack_at j k ≡ p → IsPack j.descriptions j.ssa p → Typed j d b → AllReady j d (takes_at j k)
    → (after : Before) × Types j b (pack_lines j d k p).lines (pack_lines j d k p).draft after
pack-types j matches headers d b k (Loads []) fit planned job same low here is h ready = absurd (let two = is.3 in omega arith)
pack-types j matches headers d b k (Loads (u ∷ us)) fit planned job same low here is h ready =
    let all = u ∷ us in
    let placed = builds-types j headers d b (takes_at j k) fit planned (job.below k low) same h ready in
    let b1 = placed.0 in
    let made = build_all j d (takes_at j k) in
    let z = joint_size j.ssa all in
    let size = loads-size j.ssa is.0 is.1 u us is.2 is.4 in
    let w = vectors.register_of z in
    let wide = loads-width j.ssa is.0 is.1 u us is.2 in
    let unit = unit-is j.ssa u (Load is.1 is.0) planned.sound.units is.2.0 in
    let address = address-fits j made.draft b1 (first_address j.ssa all) placed.1.types.typed (subst (IsAddress (length (Rattle.vg_shapes.specs.Sound.pointers j.ssa))) (sym (loads-address j.ssa is.0 is.1 u us is.2)) unit) in
    let lane : bits_of (width_for (lane_width_of j.descriptions j.ssa (Loads all))) ≡ bits_of is.0 = ap (λ n. bits_of (width_for n)) wide ∙ ap bits_of (width-again is.0) in
    let few = few-units is.0 (length all) (pack-most (length all * size_of is.0) is.4) in
    let long = length-map all (λ (v : ℕ). Some v) in
    let inside : length all * bits_of is.0 ≤ w = (let a = size.register in let c = size.room in let f = few.1 in omega arith) in
    holder-types j d b b1 k w (Loads all) (line.VectorLoad z (first_address j.ssa all)) placed.1 (λ rest x. (address, x))
    (size.register ∙ sym (register-bytes j.ssa is.0 all wide) ∙ ap (register_of j.descriptions j.ssa) (sym here))
    (subst (λ n. length (lanes_of (Loads all)) * n ≤ w) (sym lane) (subst (λ n. n * bits_of is.0 ≤ w) (sym long) inside))
    (let f = few.0 in omega arith)
    (subst (λ n. AllByRecursion (LaneFits j.ssa n) (map Some all)) (sym lane) (loads-fit j.ssa is.0 is.1 all is.2))
pack-types j matches headers d b k (Call e lanes) fit planned job same low here is h ready =
    let placed = builds-types j headers d b (takes_at j k) fit planned (job.below k low) same h ready in
    let b1 = placed.0 in
    let made = build_all j d (takes_at j k) in
    let desc = description_at j e in
    let lane = (lane-width _ is.1).0 in
    let own = fit.calls k e lanes (get-there j.packs k (Stores []) low ∙ ap Some here) in
    let has = listed (HasHeader headers) j.descriptions e no_description fit.described is.0 in
    let taken : map (λ (o : Operand). o.register) (map (operand_at j) (takes_at j k)) ≡ desc.params =
    ap (map (λ (o : Operand). o.register)) (job.takes k low ∙ ap (operands_of j.descriptions matches j.ssa) here)
    ∙ taken-registers (bounds_from matches e 0 lanes) 0 (params_of j.descriptions e) ∙ params-at j.descriptions e in
    let ok = call-fits headers b1 desc made.registers (placed.1.types.headers ∙ same) has (placed.1.wide ∙ ap (map Some) taken) in
    let wide = register-at j.descriptions e in
    holder-types j d b b1 k desc.register (Call e lanes) (call_of desc made.registers) placed.1 (λ rest x. (ok, x))
    (wide ∙ ap (register_of j.descriptions j.ssa) (sym here))
    (subst (λ n. length lanes * n ≤ desc.register) (sym lane) (subst (λ n. length lanes * lane_width_of j.descriptions j.ssa (Call e lanes) ≤ n) (sym wide) own.inside))
    own.few
    (subst (λ n. AllByRecursion (LaneFits j.ssa n) lanes) (sym lane) own.widths)
pack-types j matches headers d b k (Stores []) fit planned job same low here is h ready = absurd (let two = is.6 in omega arith)
pack-types j matches headers d b k (Stores (u ∷ us)) fit planned job same low here is h ready = by is.2 is.4
  where
    by : (xs : List Wanted) → AreStores j.ssa is.0 is.1 (u ∷ us) xs → (after : Before) × Types j b (pack_lines j d k (Stores (u ∷ us))).lines (pack_lines j d k (Stores (u ∷ us))).draft after
    by [] are = absurd are
    by (x ∷ xs) are =
        let all = u ∷ us in
        let placed = builds-types j headers d b (takes_at j k) fit planned (job.below k low) same h ready in
        let b1 = placed.0 in
        let made = build_all j d (takes_at j k) in
        let z = joint_size j.ssa all in
        let size = stores-size j.ssa is.0 is.1 u us x xs are is.7 in
        let wide = stores-width j.ssa is.0 is.1 u us x xs are in
        let unit = unit-is j.ssa u (Store is.1 is.0 x) planned.sound.units are.0 in
        let address = address-fits j made.draft b1 (first_address j.ssa all) placed.1.types.typed (subst (IsAddress (length (Rattle.vg_shapes.specs.Sound.pointers j.ssa))) (sym (stores-address j.ssa is.0 is.1 u us x xs are)) unit.0) in
        let taken : map (λ (o : Operand). o.register) (map (operand_at j) (takes_at j k)) ≡ (group_operand j.ssa all).register ∷ [] =
        ap (map (λ (o : Operand). o.register)) (job.takes k low ∙ ap (operands_of j.descriptions matches j.ssa) here) in
        let register : slice_get b1.vectors (slice_index made.registers 0) ≡ Some (vectors.register_of z) =
        first-wide b1.vectors made.registers (group_operand j.ssa all).register [] (placed.1.wide ∙ ap (map Some) taken) ∙ ap Some (register-bytes j.ssa is.0 all wide ∙ sym size.register) in
        let l = line.VectorStore z (first_address j.ssa all) (slice_index made.registers 0) in
        (b1, types-then j b b1 b1 made.lines (l ∷ []) made.draft made.draft placed.1.types (record { fit = λ rest y. ((address, register), y); typed = placed.1.types.typed; grown = λ m y g. g; headers = refl }))

node-types : (j : Job) (matches : List Match) (headers : List Header) (d : Draft) (b : Before) (n : Node) → AreFit j headers → IsPlanned j → IsJob j matches → b.headers ≡ headers → Typed j d b → NodeReady j d n → (after : Before) × Types j b (node_lines j d n).lines (node_lines j d n).draft after
node-types j matches headers d b (PackAt k) fit planned job same h ready = pack-types j matches headers d b k (pack_at j k) fit planned job same ready.0 refl (kind-at j k planned.kinds ready.0) h ready.1
node-types j matches headers d b (UnitAt v) fit planned job same h ready = work-types j d b v (unit_at j.ssa v) planned.sound.units refl h ready

lines-keep : (j : Job) (matches : List Match) (headers : List Header) (d : Draft) (b : Before) (order : List Node) → AreFit j headers → IsPlanned j → IsJob j matches → b.headers ≡ headers → Typed j d b → NodesReady j d order → AreLines b (emitted j d order)
lines-keep j matches headers d b [] fit planned job same h ready = tt
lines-keep j matches headers d b (n ∷ ns) fit planned job same h ready =
    let one = node-types j matches headers d b n fit planned job same h ready.0 in
    one.1.fit (emitted j (node_lines j d n).draft ns) (lines-keep j matches headers (node_lines j d n).draft one.0 ns fit planned job (one.1.headers ∙ same) one.1.typed ready.1)

-- ---- the program

names-same : (ps : List SsaParam) → map (λ (q : Param). q.name) (map param_of ps) ≡ map (λ (p : SsaParam). p.name) ps
names-same [] = refl
names-same (p ∷ ps) = ap (λ l. p.name ∷ l) (names-same ps)

names-are : (ps : List SsaParam) → AllByRecursion (λ (p : SsaParam). IsTrue (Rattle.vg_text.specs.Byte.is_name_text p.name)) ps → AllByRecursion (λ (q : Param). IsTrue (Rattle.vg_text.specs.Byte.is_name_text q.name)) (map param_of ps)
names-are [] all = tt
names-are (p ∷ ps) all = (all.0, names-are ps all.1)

split-count : (test : SsaUnit → Bool) (us : List SsaUnit) → length us ≡ length (filter test us) + length (filter (λ u. not (test u)) us)
split-count test [] = refl
split-count test (u ∷ us) =
    let rest = split-count test us in
    let kept = filter test us in
    let others = filter (λ u. not (test u)) us in
    elim (cases_Bool (test u)) [
      | inl t ↦
          let a = ap length (cond-true (test u) (u ∷ kept) kept t) in
          let b = ap length (cond-false (not (test u)) (u ∷ others) others (ap not t)) in omega arith
      | inr f ↦
          let a = ap length (cond-false (test u) (u ∷ kept) kept f) in
          let b = ap length (cond-true (not (test u)) (u ∷ others) others (ap not f)) in omega arith
    ]

pub emitted-keeps-rules : EmittedKeepsRules
emitted-keeps-rules headers ds matches ssa packs recipes given planned legal fit small =
    let j = job_of ds matches ssa packs recipes in
    let order = ordered ssa packs given in
    let is = ordered-legal ssa matches packs given legal in
    let job = job-made ds matches ssa packs recipes planned.sound.earlier in
    let s = planned.sound in
    let start : Typed j (begin j) (nothing_before headers (map param_of ssa.params)) = record {
      params = refl;
      scalars = refl;
      vectors = refl;
      names = λ v r w e wide. absurd (found-blank _ v r e);
      held = λ k r e. absurd (found-blank _ k r e);
      built = λ o r e. absurd (found-blank _ o r e);
    } in
    record {
      name = s.name;
      params = record { few = (let l = length-map ssa.params param_of in let m = s.params in omega arith); names = names-are ssa.params s.names; distinct = subst (IsDistinct bytes_eq) (sym (names-same ssa.params)) s.distinct };
      lines = lines-keep j matches headers (begin j) (nothing_before headers (map param_of ssa.params)) order fit planned job refl start (order-ready j matches order job planned is);
      cost = refl;
      small = small;
      scalar = (let c = split-count is_store ssa.units in let a = s.stores in let u = s.uses in omega arith);
    }
