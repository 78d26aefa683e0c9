-- Emitted programs keep the rules on programs.
use Rattle.std.proofs.Common.{◌≡◌, ℕ, zero, suc, ◌+◌, ◌*◌, ◌^◌, ◌<◌, ◌≤◌, true, List, [], ◌∷◌, ◌++◌, length, map, Option, Some, None, refl, sym, ap, subst, ◌∙◌, inl, inr, arith}
use Rattle.std.specs.Prelude.{filter, nat_eq, not, slice_get, slice_index_or}
use Rattle.std.specs.List.{AllByRecursion}
use Rattle.std.specs.Option.{option_map_or}
use Rattle.std.proofs.lemmas.Bool.{cases_Bool, cond-true, cond-false, eqb-true, le-ltb, or_cases}
use Rattle.vg_base.specs.declared.address.Address.{Address}
use Rattle.vg_base.specs.declared.width.Width.{Width}
use Rattle.vg_base.specs.declared.width.Width.TheVariants.{W8, W16, W32, W64}
use Rattle.vg_base.specs.Offset.{IsAddress}
use Rattle.vg_base.specs.Trap.{◌>>=◌}
use Rattle.vg_base.specs.Width.{bits_of, size_of}
use Rattle.vg_scalar.specs.declared.resize.Resize.{Resize as Change}
use Rattle.vg_scalar.specs.declared.resize.Resize.TheVariants.{Sext, Zext, Trunc}
use Rattle.vg_program.specs.declared.line.Line.{Line}
use Rattle.vg_program.specs.declared.param.Param.{Param}
use Rattle.vg_program.specs.Before.{Before}
use Rattle.vg_program.specs.Params as params
use Rattle.vg_program.specs.Valid.{AreLines, Resizes}
use Rattle.vg_shapes.specs.declared.match_table.Bound.{Bound}
use Rattle.vg_shapes.specs.declared.operand.Operand.{Operand}
use Rattle.vg_shapes.specs.declared.pack.Pack.{Pack}
use Rattle.vg_shapes.specs.declared.ssa.Ssa.{Ssa}
use Rattle.vg_shapes.specs.declared.ssa.SsaParam.{SsaParam}
use Rattle.vg_shapes.specs.declared.ssa.SsaParamKind.{SsaParamKind}
use Rattle.vg_shapes.specs.declared.ssa.SsaParamKind.TheVariants.{Pointer, Integer}
use Rattle.vg_shapes.specs.declared.ssa_unit.Operands.{Operands}
use Rattle.vg_shapes.specs.declared.ssa_unit.Operator.{Operator}
use Rattle.vg_shapes.specs.declared.ssa_unit.Operator.TheVariants.{Two, Shift, Resize, Compare, Select}
use Rattle.vg_shapes.specs.declared.ssa_unit.SsaUnit.{SsaUnit}
use Rattle.vg_shapes.specs.declared.ssa_unit.SsaUnit.TheVariants.{Load, Store, Operation}
use Rattle.vg_shapes.specs.declared.wanted.Wanted.{Wanted}
use Rattle.vg_shapes.specs.declared.wanted.Wanted.TheVariants.{Value, Constant, Nothing}
use Rattle.vg_shapes.specs.Description.{Description}
use Rattle.vg_shapes.specs.Operands.{lanes_of}
use Rattle.vg_shapes.specs.Pack.{AreLoads, AreStores, is_pack_size}
use Rattle.vg_shapes.specs.Sound.{IsBit, IsChange, IsNumber, IsOperation, IsUnit, pointers, result_bits, unit_bits, value_bits}
use Rattle.vg_shapes.specs.Units.{arguments, is_integer, unit_at}
use Rattle.vg_kernel_plans.specs.Held.{lane_width_of, register_of}
use Rattle.vg_kernel_plans.specs.Taken.{operands_from, params_of}
use Rattle.vg_emission.specs.Draft.{Draft, Made, with_held}
use Rattle.vg_emission.specs.Emission.{Job, build_all, extracts, no_description, number_for, operation_line, pack_at, takes_at, unit_lines, width_for}
use Rattle.vg_emission.specs.Fit.{LaneFits}
use Rattle.vg_emission.specs.Program.{kind_of, param_of}
use Rattle.vg_emission.proofs.Jobs.{unit-number}
use Rattle.vg_emission.proofs.Needs.{unit-is}
use Rattle.vg_emission.proofs.Nodes.{WorkReady}
use Rattle.vg_emission.proofs.Programs.{UnitReady}
use Rattle.vg_emission.proofs.Sizes.{width-again}
use Rattle.vg_emission.proofs.Validity.{AllPlaced}
use Rattle.vg_emission.proofs.Widths.{extracts-types, get-more, IsWide, more_scalar, more_vector, number-wide, Typed, typed-held, typed-name, Types, types-nothing, types-then}

-- ---- the parameters of the program

pointers-long : (ps : List SsaParam) → length (params.pointers (map param_of ps)) ≡ length (filter (λ (p : SsaParam). not (is_integer p.kind)) ps)
pointers-long [] = refl
pointers-long (p ∷ ps) = by p.kind refl (pointers-long ps)
  where
    tail : List Param
    tail = params.pointers (map param_of ps)

    own : List SsaParam
    own = filter (λ (p : SsaParam). not (is_integer p.kind)) ps

    by : (k : SsaParamKind) → p.kind ≡ k → length (params.pointers (map param_of ps)) ≡ length (filter (λ (p : SsaParam). not (is_integer p.kind)) ps) → length (params.pointers (map param_of (p ∷ ps))) ≡ length (filter (λ (p : SsaParam). not (is_integer p.kind)) (p ∷ ps))
    by (Pointer n) e rest = ap length (cond-true (params.is_pointer_kind (kind_of p.kind)) (param_of p ∷ tail) tail (ap (λ k. params.is_pointer_kind (kind_of k)) e)) ∙ ap suc rest ∙ ap length (sym (cond-true (not (is_integer p.kind)) (p ∷ own) own (ap (λ k. not (is_integer k)) e)))
    by (Integer w) e rest = ap length (cond-false (params.is_pointer_kind (kind_of p.kind)) (param_of p ∷ tail) tail (ap (λ k. params.is_pointer_kind (kind_of k)) e)) ∙ rest ∙ ap length (sym (cond-false (not (is_integer p.kind)) (p ∷ own) own (ap (λ k. not (is_integer k)) e)))

pub address-fits : (j : Job) (d : Draft) (b : Before) (a : Address) → Typed j d b → IsAddress (length (pointers j.ssa)) a → IsAddress (length (params.pointers b.params)) a
address-fits j d b a h is = subst (λ n. IsAddress n a) (sym (ap (λ l. length (params.pointers l)) h.params ∙ pointers-long j.ssa.params)) is

-- ---- units outside packs

pub unit-width : (ssa : Ssa) (v : ℕ) (u : SsaUnit) → unit_at ssa v ≡ Some u → value_bits ssa v ≡ unit_bits u
unit-width ssa v u e = cond-false _ _ _ (le-ltb v (arguments ssa) (unit-number ssa v u e).0) ∙ ap (λ o. o >>= unit_bits) e

number-is-wide : (ssa : Ssa) (w : Width) (x : Wanted) → IsNumber ssa w x → IsWide ssa (bits_of w) x
number-is-wide ssa w (Value v) is = is
number-is-wide ssa w (Constant m n) is = (is.0, subst (λ k. n < 2 ^ k) is.0 is.1, ap (λ k. bits_of (width_for k)) is.0 ∙ ap bits_of (width-again w) ∙ sym is.0)
number-is-wide ssa w Nothing is = absurd is

bit-is-wide : (ssa : Ssa) (x : Wanted) → IsBit ssa x → IsWide ssa 1 x
bit-is-wide ssa (Value v) is = is
bit-is-wide ssa (Constant m n) is = absurd is
bit-is-wide ssa Nothing is = absurd is

changes : (op : Change) (w v : Width) → IsChange op w v → Resizes op v w
changes Sext w v is = is
changes Zext w v is = is
changes Trunc w v is = is

operation-fits : (j : Job) (d : Draft) (b : Before) (op : Operator) (w : Width) (k : ℕ) (xs : Operands) → Typed j d b → IsOperation j.ssa op w k xs → Rattle.vg_emission.proofs.Nodes.AllKnown j d xs
    → (rest : List Line) → AreLines (more_scalar b (result_bits op w)) rest → AreLines b (operation_line op w k (number_for j d xs.first) (number_for j d xs.second) (number_for j d xs.third) ∷ rest)
operation-fits j d b (Two op) w k xs h is known rest x =
    ((number-wide j d b xs.first (bits_of w) h known.first (number-is-wide j.ssa w xs.first is.1), number-wide j d b xs.second (bits_of w) h known.second (number-is-wide j.ssa w xs.second is.2)), x)
operation-fits j d b (Shift op) w k xs h is known rest x = ((number-wide j d b xs.first (bits_of w) h known.first (number-is-wide j.ssa w xs.first is.1), is.0), x)
operation-fits j d b (Resize op v) w k xs h is known rest x = ((number-wide j d b xs.first (bits_of v) h known.first (number-is-wide j.ssa v xs.first is.2), changes op w v is.1), x)
operation-fits j d b (Compare op) w k xs h is known rest x =
    ((number-wide j d b xs.first (bits_of w) h known.first (number-is-wide j.ssa w xs.first is.1), number-wide j d b xs.second (bits_of w) h known.second (number-is-wide j.ssa w xs.second is.2)), x)
operation-fits j d b Select w k xs h is known rest x =
    ((number-wide j d b xs.first 1 h known.first (bit-is-wide j.ssa xs.first is.1), number-wide j d b xs.second (bits_of w) h known.second (number-is-wide j.ssa w xs.second is.2), number-wide j d b xs.third (bits_of w) h known.third (number-is-wide j.ssa w xs.third is.3)), x)

pub work-types : (j : Job) (d : Draft) (b : Before) (v : ℕ) (o : Option SsaUnit) → AllByRecursion (IsUnit j.ssa) j.ssa.units → unit_at j.ssa v ≡ o → Typed j d b → UnitReady j d v o → (after : Before) × Types j b (unit_lines j d v o).lines (unit_lines j d v o).draft after
work-types j d b v None units e h ready = (b, types-nothing j b d h)
work-types j d b v (Some (Load a w)) units e h ready =
    let is = unit-is j.ssa v (Load a w) units e in
    let c = more_scalar b (bits_of w) in
    (c, record { fit = λ rest x. (address-fits j d b a h is, x); typed = typed-name j d b v (bits_of w) h (unit-width j.ssa v (Load a w) e); grown = λ k x g. g; headers = refl })
work-types j d b v (Some (Store a w x)) units e h ready =
    let is = unit-is j.ssa v (Store a w x) units e in
    (b, record { fit = λ rest y. ((address-fits j d b a h is.0, number-wide j d b x (bits_of w) h ready (number-is-wide j.ssa w x is.1)), y); typed = h; grown = λ k x g. g; headers = refl })
work-types j d b v (Some (Operation op w k xs)) units e h ready =
    let is = unit-is j.ssa v (Operation op w k xs) units e in
    let Goal : Made → Type 0 = λ made. (after : Before) × Types j b made.lines made.draft after in
    elim (cases_Bool (j.needed v)) [
      | inr f ↦ subst Goal (sym (cond-false _ _ _ f)) (b, types-nothing j b d h)
      | inl t ↦ subst Goal (sym (cond-true _ _ _ t))
          (let c = more_scalar b (result_bits op w) in
          (c, record { fit = λ rest x. operation-fits j d b op w k xs h is (ready t) rest x; typed = typed-name j d b v (result_bits op w) h (unit-width j.ssa v (Operation op w k xs) e); grown = λ k x g. g; headers = refl }))
    ]

-- ---- packs

pub loads-fit : (ssa : Ssa) (w : Width) (a : Address) (us : List ℕ) → AreLoads ssa w a us → AllByRecursion (LaneFits ssa (bits_of w)) (map Some us)
loads-fit ssa w a [] are = tt
loads-fit ssa w a (u ∷ us) are = (unit-width ssa u (Load a w) are.0, loads-fit ssa w (Rattle.vg_shapes.specs.Pack.behind a (size_of w)) us are.1)

pub pack-most : (n : ℕ) → is_pack_size n ≡ true → n ≤ 64
pack-most n h = elim (or_cases (nat_eq n 4) _ h) [
  | inl t ↦ (let e = eqb-true n 4 t in omega arith)
  | inr a ↦ elim (or_cases (nat_eq n 8) _ a) [
    | inl t ↦ (let e = eqb-true n 8 t in omega arith)
    | inr b ↦ elim (or_cases (nat_eq n 16) _ b) [
      | inl t ↦ (let e = eqb-true n 16 t in omega arith)
      | inr c ↦ elim (or_cases (nat_eq n 32) _ c) [
        | inl t ↦ (let e = eqb-true n 32 t in omega arith)
        | inr d ↦ elim (or_cases (nat_eq n 64) _ d) [
          | inl t ↦ (let e = eqb-true n 64 t in omega arith)
          | inr e ↦ absurd (cc)
        ]
      ]
    ]
  ]
]

pub few-units : (w : Width) (n : ℕ) → n * size_of w ≤ 64 → (n ≤ 64) × (n * bits_of w ≤ 8 * (n * size_of w))
few-units W8 n h = (omega arith, omega arith)
few-units W16 n h = (omega arith, omega arith)
few-units W32 n h = (omega arith, omega arith)
few-units W64 n h = (omega arith, omega arith)

-- a pack that gives a register: operands, the line, and what is taken out
pub holder-types : (j : Job) (d : Draft) (b b1 : Before) (k w : ℕ) (p : Pack) (l : Line) → let made = build_all j d (takes_at j k) in
    AllPlaced j b (takes_at j k) made.lines made.draft made.registers b1 → ((rest : List Line) → AreLines (more_vector b1 w) rest → AreLines b1 (l ∷ rest))
    → w ≡ register_of j.descriptions j.ssa (pack_at j k) → length (lanes_of p) * bits_of (width_for (lane_width_of j.descriptions j.ssa p)) ≤ w → length (lanes_of p) ≤ 64
    → AllByRecursion (LaneFits j.ssa (bits_of (width_for (lane_width_of j.descriptions j.ssa p)))) (lanes_of p)
    → let rest = extracts j (with_held made.draft k) made.draft.vectors (width_for (lane_width_of j.descriptions j.ssa p)) 0 (lanes_of p) in
    (after : Before) × Types j b (made.lines ++ l ∷ rest.lines) rest.draft after
holder-types j d b b1 k w p l placed fit wide inside few fits =
    let made = build_all j d (takes_at j k) in
    let f = made.draft in
    let width = width_for (lane_width_of j.descriptions j.ssa p) in
    let c = more_vector b1 w in
    let typed = typed-held j f b1 k w placed.types.typed wide in
    let there : slice_get c.vectors f.vectors ≡ Some w = Rattle.vg_emission.proofs.Widths.get-last b1.vectors f.vectors w placed.types.typed.vectors in
    let n : 0 + length (lanes_of p) ≡ length (lanes_of p) = omega arith in
    let rest = extracts-types j (with_held f k) c f.vectors width 0 w (lanes_of p) typed there (subst (λ m. m * bits_of width ≤ w) (sym n) inside) (omega arith) fits in
    let ls = (extracts j (with_held f k) f.vectors width 0 (lanes_of p)).lines in
    let next : Types j b1 (l ∷ ls) (extracts j (with_held f k) f.vectors width 0 (lanes_of p)).draft rest.0 = record {
      fit = λ others x. fit (ls ++ others) (rest.1.fit others x);
      typed = rest.1.typed;
      grown = λ m x g. rest.1.grown m x (get-more b1.vectors (w ∷ []) m x g);
      headers = rest.1.headers;
    } in
    (rest.0, types-then j b b1 rest.0 made.lines (l ∷ ls) f (extracts j (with_held f k) f.vectors width 0 (lanes_of p)).draft placed.types next)

pub taken-registers : (bounds : List Bound) (k : ℕ) (ps : List ℕ) → map (λ (o : Operand). o.register) (operands_from bounds k ps) ≡ ps
taken-registers bounds k [] = refl
taken-registers bounds k (p ∷ ps) = ap (λ l. p ∷ l) (taken-registers bounds (suc k) ps)

pub params-at : (ds : List Description) (e : ℕ) → params_of ds e ≡ (slice_index_or ds e no_description).params
params-at [] e = refl
params-at (d ∷ ds) zero = refl
params-at (d ∷ ds) (suc e) = params-at ds e

pub register-at : (ds : List Description) (e : ℕ) → (slice_index_or ds e no_description).register ≡ option_map_or (λ (d : Description). d.register) (slice_get ds e) 0
register-at [] e = refl
register-at (d ∷ ds) zero = refl
register-at (d ∷ ds) (suc e) = register-at ds e
