-- The lines of a node do to memory what its units do one after the other, where the loads of these read their numbers.
use Rattle.std.proofs.Common.{◌≡◌, ℕ, zero, suc, ◌+◌, ◌-◌, ◌*◌, ◌≤◌, ℤ, pos, negsuc, true, cond, List, [], ◌∷◌, ◌++◌, length, map, take, replicate, Option, Some, None, refl, sym, ap, subst, ◌∙◌, inl, inr, arith, length-append}
use Rattle.std.specs.Prelude.{nat_eq, slice_index}
use Rattle.std.proofs.lemmas.Bool.{cases_Bool, cond-true, cond-false, eqb-true}
use Rattle.std.proofs.lemmas.List.{length-map, length-replicate}
use Rattle.vg_bits.proofs.Ranges.{length-range}
use Rattle.vg_base.specs.Trap.{◌>>=◌}
use Rattle.vg_base.specs.Bits.{number, bytes, num, bits_of_bytes}
use Rattle.vg_base.specs.Memory.{loaded, stored}
use Rattle.vg_base.specs.declared.address.Address.{Address}
use Rattle.vg_base.specs.Address.{place_of}
use Rattle.vg_base.specs.declared.width.Width.{Width}
use Rattle.vg_base.specs.Width.{bits_of, size_of}
use Rattle.vg_bits.specs.BitList.{IsBits, IsBytes}
use Rattle.vg_bits.specs.Range.{range}
use Rattle.vg_bits.proofs.ByteLists.{IsBits-bits_of_bytes, length-bits_of_bytes}
use Rattle.vg_bits.proofs.BitLists.{IsBits-append}
use Rattle.vg_program.specs.declared.line.Line.{Line}
use Rattle.vg_program.specs.declared.line.Line.TheVariants as line
use Rattle.vg_program.specs.declared.operand.Operand.{Operand as Number}
use Rattle.vg_program.specs.Meaning.{State, Instructions, Inputs, operand_number, with_scalar, with_vector, with_memory, register_bits, widened, step, run}
use Rattle.vg_program.specs.Vectors as vectors
use Rattle.vg_shapes.specs.declared.pack.Pack.{Pack}
use Rattle.vg_shapes.specs.declared.pack.Pack.TheVariants.{Stores, Loads, Call}
use Rattle.vg_shapes.specs.declared.ssa.Ssa.{Ssa}
use Rattle.vg_shapes.specs.declared.ssa_unit.Operands.{Operands}
use Rattle.vg_shapes.specs.declared.ssa_unit.Operator.{Operator}
use Rattle.vg_shapes.specs.declared.ssa_unit.Operator.TheVariants.{Two, Shift, Resize, Compare, Select}
use Rattle.vg_shapes.specs.declared.ssa_unit.SsaUnit.{SsaUnit}
use Rattle.vg_shapes.specs.declared.ssa_unit.SsaUnit.TheVariants.{Load, Store, Operation}
use Rattle.vg_shapes.specs.declared.wanted.Wanted.{Wanted}
use Rattle.vg_shapes.specs.Operands.{lanes_of}
use Rattle.vg_shapes.specs.Pack.{AreLoads, AreStores, is_pack_size}
use Rattle.vg_shapes.specs.RunUnits.{number_of, operation_result}
use Rattle.vg_kernel_plans.specs.Held.{lane_width_of}
use Rattle.vg_order_laws.specs.Sequence.{run_steps}
use Rattle.vg_order_laws.specs.Steps.{HasNumber, seen, step_of, unit_step, work_step}
use Rattle.vg_order_laws.proofs.Accesses.{loaded-inside, stored-inside}
use Rattle.vg_order_laws.proofs.Runs.{went_well}
use Rattle.vg_emission.specs.Draft.{Draft, Made, with_name, with_held}
use Rattle.vg_emission.specs.Emission.{Job, build_all, description_at, extracts, first_address, joint_size, number_for, operand_at, operation_line, pack_at, pack_line, pack_lines, takes_at, unit_lines, width_for}
use Rattle.vg_emission.specs.Promises.{AllFill, answer, CallHolds, Fills, Holds, LanesHave}
use Rattle.vg_emission.proofs.Memories.{joined, Lanes, lanes-bytes, loads-run, stand_within, stand-lanes, StandAt, stored-some, stores-run}
use Rattle.vg_emission.proofs.Placing.{AllBuilt, all-have_bits, AllHave, AllReady, AllRight, ArgumentsHave, builds-run, extracts-run, Known, number-has, run-joined}
use Rattle.vg_emission.proofs.Registers.{Has, Has-last, Stands, Stands-held, Stands-memory, Stands-name}
use Rattle.vg_emission.proofs.Sizes.{eight, loads-address, loads-size, loads-width, register-bytes, stores-address, stores-size, width-again}

-- the lines lead to a state that has what the draft says, with this memory
pub record Moves (j : Job) (numbers : ℕ → ℕ) (c : Instructions) (i : Inputs) (s : State) (ls : List Line) (d : Draft) (m : List ℕ) (t : State) : Type 0 where
  pub runs : run c i ls s ≡ Some t
  pub stands : Stands j numbers d t
  pub memory : t.memory ≡ m

pub moves-nowhere : (j : Job) (numbers : ℕ → ℕ) (c : Instructions) (i : Inputs) (d : Draft) (s : State) (m : List ℕ) → Stands j numbers d s → s.memory ≡ m → Moves j numbers c i s [] d m s
unfolding run
moves-nowhere j numbers c i d s m h e = record { runs = refl; stands = h; memory = e }

one-line : (j : Job) (numbers : ℕ → ℕ) (c : Instructions) (i : Inputs) (d : Draft) (s t : State) (l : Line) → step c i l s ≡ Some t → Stands j numbers d t → Moves j numbers c i s (l ∷ []) d t.memory t
unfolding run
one-line j numbers c i d s t l e h = record { runs = ap (λ o. o >>= run c i []) e; stands = h; memory = refl }

-- ---- units outside packs

-- the operands of an operation are known
pub record AllKnown (j : Job) (d : Draft) (xs : Operands) : Type 0 where
  pub first : Known j d xs.first
  pub second : Known j d xs.second
  pub third : Known j d xs.third

abbrev pub WorkReady : Job → Draft → ℕ → SsaUnit → Type 0
WorkReady j d v (Load a w) = Unit {0}
WorkReady j d v (Store a w x) = Known j d x
WorkReady j d v (Operation op w k xs) = j.needed v ≡ true → AllKnown j d xs

-- what a load that went well read
pub seen-loaded : (m : List ℕ) (z : ℤ) (n v : ℕ) (after : List ℕ) → seen m z n v ≡ Some after → (read : List ℕ) × (loaded m z n ≡ Some read) × (number read ≡ v) × (after ≡ m)
seen-loaded m z n v after e =
    let went = went_well (loaded m z n) (λ read. cond (nat_eq (number read) v) (Some m) None) e in
    elim (cases_Bool (nat_eq (number went.0) v)) [
      | inl t ↦ (went.0, went.1, eqb-true _ _ t, (let kept : Some m ≡ Some after = sym (cond-true _ _ _ t) ∙ went.2 in cc))
      | inr f ↦ absurd (let none : None ≡ Some after = sym (cond-false _ _ _ f) ∙ went.2 in cc)
    ]

-- the line of an operation makes what the operation makes
operation-step : (c : Instructions) (i : Inputs) (s : State) (op : Operator) (w : Width) (k : ℕ) (x y z : Number) → step c i (operation_line op w k x y z) s
    ≡ Some (with_scalar s (operation_result op (bits_of w) k (operand_number i s.scalars x) (operand_number i s.scalars y) (operand_number i s.scalars z)))
operation-step c i s (Two op) w k x y z = refl
operation-step c i s (Shift op) w k x y z = refl
operation-step c i s (Resize op from) w k x y z = refl
operation-step c i s (Compare op) w k x y z = refl
operation-step c i s Select w k x y z = refl

pub work-runs : (j : Job) (numbers : ℕ → ℕ) (c : Instructions) (i : Inputs) (d : Draft) (s : State) (v : ℕ) (u : SsaUnit) (after : List ℕ) → ArgumentsHave j numbers i → Stands j numbers d s → HasNumber numbers v u → WorkReady j d v u
    → work_step i.places numbers v u s.memory ≡ Some after → (t : State) × Moves j numbers c i s (unit_lines j d v (Some u)).lines (unit_lines j d v (Some u)).draft after t
work-runs j numbers c i d s v (Load a w) after args h right ready e =
    let x = seen-loaded s.memory (place_of i.places a) (size_of w) (numbers v) after e in
    let t = with_scalar s (numbers v) in
    let first : step c i (line.Load w a) s ≡ Some t = ap (λ o. o >>= λ read. Some (with_scalar s (number read))) x.1 ∙ ap (λ n. Some (with_scalar s n)) x.2 in
    let moved = one-line j numbers c i (with_name d v) s t (line.Load w a) first (Stands-name j numbers d s v h) in
    (t, record { runs = moved.runs; stands = moved.stands; memory = sym x.3 })
work-runs j numbers c i d s v (Store a w x) after args h right ready e =
    let t = with_memory s after in
    let first : step c i (line.Store w a (number_for j d x)) s ≡ Some t =
    ap (λ n. stored s.memory (place_of i.places a) (bytes (size_of w) n) >>= λ m. Some (with_memory s m)) (number-has j numbers i d s x args h ready) ∙ ap (λ o. o >>= λ m. Some (with_memory s m)) e in
    (t, one-line j numbers c i d s t (line.Store w a (number_for j d x)) first (Stands-memory j numbers d s after h))
work-runs j numbers c i d s v (Operation op w k xs) after args h right ready e =
    let same : s.memory ≡ after = (let g : Some s.memory ≡ Some after = e in cc) in
    let Goal : Made → Type 0 = λ made. (t : State) × Moves j numbers c i s made.lines made.draft after t in
    elim (cases_Bool (j.needed v)) [
      | inr f ↦ subst Goal (sym (cond-false _ _ _ f)) (s, moves-nowhere j numbers c i d s after h same)
      | inl b ↦ subst Goal (sym (cond-true _ _ _ b))
          (let known = ready b in
          let t = with_scalar s (numbers v) in
          let x = number-has j numbers i d s xs.first args h known.first in
          let y = number-has j numbers i d s xs.second args h known.second in
          let z = number-has j numbers i d s xs.third args h known.third in
          let l = operation_line op w k (number_for j d xs.first) (number_for j d xs.second) (number_for j d xs.third) in
          let first : step c i l s ≡ Some t =
          operation-step c i s op w k (number_for j d xs.first) (number_for j d xs.second) (number_for j d xs.third)
          ∙ (λ q. Some (with_scalar s (operation_result op (bits_of w) k (x q) (y q) (z q))))
          ∙ ap (λ n. Some (with_scalar s n)) (sym right) in
          let moved = one-line j numbers c i (with_name d v) s t l first (Stands-name j numbers d s v h) in
          (t, record { runs = moved.runs; stands = moved.stands; memory = same }))
    ]

-- ---- packs that give a register

-- operands are built, a line gives a register that holds the pack, and values are taken out of it
pub holder-runs : (j : Job) (numbers : ℕ → ℕ) (c : Instructions) (i : Inputs) (d : Draft) (s s1 : State) (k : ℕ) (p : Pack) (l : Line) (reg : List ℕ) → pack_at j k ≡ p
    → AllBuilt j numbers c i s (takes_at j k) (build_all j d (takes_at j k)) s1 → step c i l s1 ≡ Some (with_vector s1 reg)
    → Holds j.descriptions j.ssa numbers p reg → bits_of (width_for (lane_width_of j.descriptions j.ssa p)) ≡ lane_width_of j.descriptions j.ssa p
    → let made = build_all j d (takes_at j k) in
    let rest = extracts j (with_held made.draft k) made.draft.vectors (width_for (lane_width_of j.descriptions j.ssa p)) 0 (lanes_of p) in
    (t : State) × Moves j numbers c i s (made.lines ++ l ∷ rest.lines) rest.draft s.memory t
unfolding run
holder-runs j numbers c i d s s1 k p l reg here b steps holds wide =
    let made = build_all j d (takes_at j k) in
    let d1 = made.draft in
    let w = width_for (lane_width_of j.descriptions j.ssa p) in
    let t1 = with_vector s1 reg in
    let stands = Stands-held j numbers d1 s1 k reg b.leads.stands (subst (λ q. Holds j.descriptions j.ssa numbers q reg) (sym here) holds) in
    let rest = extracts-run j numbers c i (with_held d1 k) t1 d1.vectors reg w 0 (lanes_of p) stands (Has-last s1.vectors d1.vectors reg b.leads.stands.vectors)
    (subst (λ n. LanesHave numbers n 0 (lanes_of p) reg) (sym wide) holds.lanes) in
    let ls = (extracts j (with_held d1 k) d1.vectors w 0 (lanes_of p)).lines in (
      rest.0,
      record {
        runs = run-joined c i made.lines (l ∷ ls) s s1 rest.0 b.leads.runs (ap (λ o. o >>= run c i ls) steps ∙ rest.1.runs);
        stands = rest.1.stands;
        memory = rest.1.memory ∙ b.leads.memory;
      },
    )

-- lanes from a bit on as lanes by their numbers
lanes-by-number : (numbers : ℕ → ℕ) (reg : List ℕ) (w n : ℕ) (us : List ℕ) → Lanes reg (n * w) w (map numbers us) → LanesHave numbers w n (map Some us) reg
lanes-by-number numbers reg w n [] h = tt
lanes-by-number numbers reg w n (u ∷ us) h =
    let next : n * w + w ≡ (n + 1) * w = omega arith in
    (h.0, lanes-by-number numbers reg w (n + 1) us (subst (λ low. Lanes reg low w (map numbers us)) next h.1))

IsBits-zeros : (n : ℕ) → IsBits (replicate n 0)
IsBits-zeros zero = tt
IsBits-zeros (suc n) = (omega arith, IsBits-zeros n)

-- where a first access goes well its place is an index
seen-placed : (m : List ℕ) (z : ℤ) (n v : ℕ) (after : List ℕ) → seen m z n v ≡ Some after → (at : ℕ) × (z ≡ pos at)
seen-placed m (pos a) n v after e = (a, refl)
seen-placed m (negsuc a) n v after e = cc

stored-placed : (m : List ℕ) (z : ℤ) (new after : List ℕ) → stored m z new ≡ Some after → (at : ℕ) × (z ≡ pos at) × (at ≤ length m)
stored-placed m (pos a) new after e = (a, refl, (let h = (stored-some m a new after e).0 in omega arith))
stored-placed m (negsuc a) new after e = cc

-- what a vector load gives
record Loaded (ssa : Ssa) (places : List ℕ) (numbers : ℕ → ℕ) (w : Width) (a : Address) (n r : ℕ) (us m after : List ℕ) : Type 0 where
  read : List ℕ
  loads : loaded m (place_of places a) n ≡ Some read
  long : length (widened r read) ≡ r
  bits : IsBits (widened r read)
  lanes : LanesHave numbers (bits_of w) 0 (map Some us) (widened r read)
  memory : after ≡ m

loads-joined : (ssa : Ssa) (places : List ℕ) (numbers : ℕ → ℕ) (w : Width) (a : Address) (n r u : ℕ) (us m after : List ℕ) → IsBytes m → n ≡ length (u ∷ us) * size_of w → 8 * n ≤ r → AreLoads ssa w a (u ∷ us)
    → run_steps (unit_step ssa places numbers) (u ∷ us) m ≡ Some after → Loaded ssa places numbers w a n r (u ∷ us) m after
unfolding run_steps
loads-joined ssa places numbers w a n r u us m after are size room side e =
    let all = u ∷ us in
    let went = went_well (unit_step ssa places numbers u m) (run_steps (unit_step ssa places numbers) us) e in
    let first : seen m (place_of places a) (size_of w) (numbers u) ≡ Some went.0 = sym (ap (λ o. step_of o places numbers u m) side.0) ∙ went.1 in
    let place = seen-placed m (place_of places a) (size_of w) (numbers u) went.0 first in
    let at = place.0 in
    let ran = loads-run ssa places numbers w a at all m after side place.1 e in
    let low : at ≤ length m = (let one = ran.1.0 in omega arith) in
    let long : length (map numbers all) ≡ length all = length-map all numbers in
    let within = stand_within m at (size_of w) (map numbers all) low ran.1 in
    let whole : size_of w * length (map numbers all) ≡ n = ap (λ c. size_of w * c) long ∙ (let swap : size_of w * length all ≡ length all * size_of w = omega arith in swap) ∙ sym size in
    let inside : at + n ≤ length m = omega (arith, whole) in
    let read = range at n m in
    let read_long = length-range at n m inside in
    let zeros : List ℕ = replicate (r - 8 * length read) 0 in
    let reg : List ℕ = bits_of_bytes read ++ zeros in
    let start : at ≡ at + 0 = omega arith in
    let lanes = stand-lanes m at (size_of w) 0 n (map numbers all) zeros are inside (omega (arith, whole)) (subst (λ b. StandAt m b (size_of w) (map numbers all)) start ran.1) in
    let bits_are : 8 * size_of w ≡ bits_of w = sym (eight w) in
    let none : 0 ≡ 0 * bits_of w = omega arith in
    record {
      read = read;
      loads = ap (λ z. loaded m z n) place.1 ∙ loaded-inside m at n inside;
      long = length-append (bits_of_bytes read) zeros ∙ (let a = length-bits_of_bytes read in let zero : ℕ = 0 in let b = length-replicate (r - 8 * length read) zero in omega arith);
      bits = IsBits-append (bits_of_bytes read) zeros (IsBits-bits_of_bytes read) (IsBits-zeros (r - 8 * length read));
      lanes = lanes-by-number numbers reg (bits_of w) 0 all (subst (λ low. Lanes reg low (bits_of w) (map numbers all)) none (subst (λ b. Lanes reg 0 b (map numbers all)) bits_are lanes));
      memory = ran.0;
    }

pub loads-pack-runs : (j : Job) (numbers : ℕ → ℕ) (c : Instructions) (i : Inputs) (d : Draft) (s : State) (k : ℕ) (w : Width) (a : Address) (u : ℕ) (us : List ℕ) (after : List ℕ) → ArgumentsHave j numbers i → Stands j numbers d s → IsBytes s.memory
    → pack_at j k ≡ Loads (u ∷ us) → AreLoads j.ssa w a (u ∷ us) → is_pack_size (length (u ∷ us) * size_of w) ≡ true → AllRight j c numbers (takes_at j k) → AllReady j d (takes_at j k)
    → run_steps (unit_step j.ssa i.places numbers) (u ∷ us) s.memory ≡ Some after
    → (t : State) × Moves j numbers c i s (pack_lines j d k (Loads (u ∷ us))).lines (pack_lines j d k (Loads (u ∷ us))).draft after t
loads-pack-runs j numbers c i d s k w a u us after args h are here side size right ready e =
    let all = u ∷ us in
    let made = builds-run j numbers c i d s (takes_at j k) args h right ready in
    let s1 = made.0 in
    let b = made.1 in
    let z = joint_size j.ssa all in
    let has = loads-size j.ssa w a u us side size in
    let r = vectors.register_of z in
    let wide = loads-width j.ssa w a u us side in
    let room : 8 * vectors.bytes_of z ≤ r = (let x = has.bytes in let y = has.register in let q = has.room in omega arith) in
    let got = loads-joined j.ssa i.places numbers w a (vectors.bytes_of z) r u us s.memory after are has.bytes room side e in
    let reg = widened r got.read in
    let first : step c i (line.VectorLoad z (first_address j.ssa all)) s1 ≡ Some (with_vector s1 reg) =
    ap (λ q. loaded s1.memory (place_of i.places q) (vectors.bytes_of z) >>= λ read. Some (with_vector s1 (widened r read))) (loads-address j.ssa w a u us side)
    ∙ ap (λ q. loaded q (place_of i.places a) (vectors.bytes_of z) >>= λ read. Some (with_vector s1 (widened r read))) b.leads.memory
    ∙ ap (λ o. o >>= λ read. Some (with_vector s1 (widened r read))) got.loads in
    let holds : Holds j.descriptions j.ssa numbers (Loads all) reg = record {
      long = got.long ∙ has.register ∙ sym (register-bytes j.ssa w all wide);
      bits = got.bits;
      lanes = subst (λ n. LanesHave numbers n 0 (map Some all) reg) (sym wide) got.lanes;
    } in
    let ran = holder-runs j numbers c i d s s1 k (Loads all) (line.VectorLoad z (first_address j.ssa all)) reg here b first holds (ap (λ n. bits_of (width_for n)) wide ∙ ap bits_of (width-again w) ∙ sym wide) in
    (ran.0, record { runs = ran.1.runs; stands = ran.1.stands; memory = ran.1.memory ∙ sym got.memory })

pub call-pack-runs : (j : Job) (numbers : ℕ → ℕ) (c : Instructions) (i : Inputs) (d : Draft) (s : State) (k e : ℕ) (us : List (Option ℕ)) → ArgumentsHave j numbers i → Stands j numbers d s → pack_at j k ≡ Call e us
    → AllRight j c numbers (takes_at j k) → AllReady j d (takes_at j k) → bits_of (width_for (lane_width_of j.descriptions j.ssa (Call e us))) ≡ lane_width_of j.descriptions j.ssa (Call e us)
    → CallHolds j c numbers (takes_at j k) e us
    → (t : State) × Moves j numbers c i s (pack_lines j d k (Call e us)).lines (pack_lines j d k (Call e us)).draft s.memory t
call-pack-runs j numbers c i d s k e us args h here right ready wide means =
    let made = builds-run j numbers c i d s (takes_at j k) args h right ready in
    let s1 = made.0 in
    let b = made.1 in
    let desc = description_at j e in
    let registers = (build_all j d (takes_at j k)).registers in
    let reg = answer c desc b.regs in
    let first : step c i (pack_line j (Call e us) registers) s1 ≡ Some (with_vector s1 reg) = ap (λ rs. Some (with_vector s1 (c desc.name rs desc.imm))) (all-have_bits s1.vectors registers b.regs b.have) in
    holder-runs j numbers c i d s s1 k (Call e us) (pack_line j (Call e us) registers) reg here b first (means b.regs b.fill) wide

-- ---- store groups

-- where a group takes one operand, its register is the first
first-register : (j : Job) (numbers : ℕ → ℕ) (c : Instructions) (i : Inputs) (d : Draft) (s s1 : State) (os : List ℕ) (o : ℕ) → os ≡ o ∷ [] → (b : AllBuilt j numbers c i s os (build_all j d os) s1)
    → (reg : List ℕ) × Has s1.vectors (slice_index (build_all j d os).registers 0) reg × Fills numbers (operand_at j o) reg
first-register j numbers c i d s s1 os o e b = by (subst (λ q. AllBuilt j numbers c i s q (build_all j d q) s1) e b)
  where
    after : (rs : List (List ℕ)) (k : ℕ) → AllHave s1.vectors (k ∷ []) rs → AllFill j numbers (o ∷ []) rs → (reg : List ℕ) × Has s1.vectors k reg × Fills numbers (operand_at j o) reg
    after [] k have fill = absurd have
    after (r ∷ rs) k have fill = (r, have.0, fill.0)

    by : AllBuilt j numbers c i s (o ∷ []) (build_all j d (o ∷ [])) s1 → (reg : List ℕ) × Has s1.vectors (slice_index (build_all j d os).registers 0) reg × Fills numbers (operand_at j o) reg
    by g = subst (λ q. (reg : List ℕ) × Has s1.vectors (slice_index (build_all j d q).registers 0) reg × Fills numbers (operand_at j o) reg) (sym e) (after g.regs _ g.have g.fill)

pub stores-pack-runs : (j : Job) (numbers : ℕ → ℕ) (c : Instructions) (i : Inputs) (d : Draft) (s : State) (k : ℕ) (w : Width) (a : Address) (u : ℕ) (us : List ℕ) (o : ℕ) (x : Wanted) (xs : List Wanted) (after : List ℕ) → ArgumentsHave j numbers i → Stands j numbers d s
    → AreStores j.ssa w a (u ∷ us) (x ∷ xs) → is_pack_size (length (u ∷ us) * size_of w) ≡ true → length us ≡ length xs → takes_at j k ≡ o ∷ []
    → AllRight j c numbers (takes_at j k) → AllReady j d (takes_at j k)
    → ((reg : List ℕ) → Fills numbers (operand_at j o) reg → (8 * (length (u ∷ us) * size_of w) ≤ length reg) × Lanes reg 0 (8 * size_of w) (map (number_of numbers) (x ∷ xs)))
    → run_steps (unit_step j.ssa i.places numbers) (u ∷ us) s.memory ≡ Some after
    → (t : State) × Moves j numbers c i s (pack_lines j d k (Stores (u ∷ us))).lines (pack_lines j d k (Stores (u ∷ us))).draft after t
unfolding run run_steps
stores-pack-runs j numbers c i d s k w a u us o x xs after args h side size same_length one right ready lanes_of_it e =
    let m = s.memory in
    let all = u ∷ us in
    let wants = x ∷ xs in
    let z = joint_size j.ssa all in
    let n = vectors.bytes_of z in
    let sized = stores-size j.ssa w a u us x xs side size in
    let values_of = map (number_of numbers) wants in
    let made = builds-run j numbers c i d s (takes_at j k) args h right ready in
    let s1 = made.0 in
    let b = made.1 in
    let built = build_all j d (takes_at j k) in
    let found = first-register j numbers c i d s s1 (takes_at j k) o one b in
    let reg = found.0 in
    let went = went_well (unit_step j.ssa i.places numbers u m) (run_steps (unit_step j.ssa i.places numbers) us) e in
    let first : stored m (place_of i.places a) (bytes (size_of w) (number_of numbers x)) ≡ Some went.0 = sym (ap (λ q. step_of q i.places numbers u m) side.0) ∙ went.1 in
    let place = stored-placed m (place_of i.places a) (bytes (size_of w) (number_of numbers x)) went.0 first in
    let at = place.0 in
    let ran = stores-run j.ssa i.places numbers w a at all wants m after side place.1 place.2 e in
    let lanes = lanes_of_it reg found.2 in
    let counts : length values_of ≡ length wants = length-map wants (number_of numbers) in
    let count : size_of w * length values_of ≡ n = ap (λ q. size_of w * q) (counts ∙ ap suc (sym same_length)) ∙ (let swap : size_of w * length all ≡ length all * size_of w = omega arith in swap) ∙ sym sized.bytes in
    let fits : 8 * n ≤ length reg = (let q = sized.bytes in let l = lanes.0 in omega arith) in
    let bytes_are : bytes n (num (take (8 * n) reg)) ≡ joined (size_of w) values_of = lanes-bytes reg (size_of w) n values_of found.2.bits count fits lanes.1 in
    let r = slice_index built.registers 0 in
    let t = with_memory s1 after in
    let inside = stored-inside m at (joined (size_of w) values_of) ran.0 ∙ ap Some (sym ran.1) in
    let l = line.VectorStore z (first_address j.ssa all) r in
    let step_is : step c i l s1 ≡ Some t =
    ap (λ q. stored s1.memory (place_of i.places q) (bytes n (num (take (8 * n) (register_bits s1.vectors r)))) >>= λ q. Some (with_memory s1 q)) (stores-address j.ssa w a u us x xs side)
    ∙ ap (λ v. stored s1.memory (place_of i.places a) (bytes n (num (take (8 * n) v))) >>= λ q. Some (with_memory s1 q)) (found.1.1 [])
    ∙ ap (λ q. stored s1.memory (place_of i.places a) q >>= λ q. Some (with_memory s1 q)) bytes_are
    ∙ ap (λ z. stored s1.memory z (joined (size_of w) values_of) >>= λ q. Some (with_memory s1 q)) place.1
    ∙ ap (λ q. stored q (pos at) (joined (size_of w) values_of) >>= λ q. Some (with_memory s1 q)) b.leads.memory
    ∙ ap (λ q. q >>= λ q. Some (with_memory s1 q)) inside in
    (t, record { runs = run-joined c i built.lines (l ∷ []) s s1 t b.leads.runs (ap (λ q. q >>= run c i []) step_is); stands = Stands-memory j numbers built.draft s1 after b.leads.stands; memory = refl })
