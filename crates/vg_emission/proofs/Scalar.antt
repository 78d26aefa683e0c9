-- What is emitted for no packs is the scalar program.
use Rattle.std.proofs.Common.{◌≡◌, ℕ, zero, suc, ◌+◌, ◌<◌, ◌≤◌, Bool, true, List, [], ◌∷◌, ◌++◌, length, map, replicate, Option, Some, None, refl, sym, ap, ◌∙◌, inl, inr, arith, append_assoc, length-append}
use Rattle.std.specs.Prelude.{◌&&◌, nat_lt, slice_index_or, slice_set, sum_by, unwrap_or, if◌then◌else◌}
use Rattle.std.specs.Option.{is_some}
use Rattle.std.proofs.lemmas.Bool.{cases_Bool, cases_lt, cond-true, cond-false, le-ltb, lt-ltb}
use Rattle.std.proofs.lemmas.List.{get_or_append_left, get_or_push, length_push}
use Rattle.vg_base.specs.Trap.{◌>>=◌}
use Rattle.vg_program.specs.declared.line.Line.TheVariants as line
use Rattle.vg_program.specs.declared.operand.Operand.{Operand as Number}
use Rattle.vg_program.specs.declared.operand.Operand.TheVariants.{Register, Argument}
use Rattle.vg_program.specs.Cost.{line_cost}
use Rattle.vg_shapes.specs.declared.order.Node.TheVariants.{UnitAt}
use Rattle.vg_shapes.specs.declared.ssa_unit.SsaUnit.{SsaUnit}
use Rattle.vg_shapes.specs.declared.ssa_unit.SsaUnit.TheVariants.{Load, Store, Operation}
use Rattle.vg_shapes.specs.declared.wanted.Wanted.{Wanted}
use Rattle.vg_shapes.specs.declared.wanted.Wanted.TheVariants.{Value, Constant, Nothing}
use Rattle.vg_shapes.specs.Order.{numbers_from}
use Rattle.vg_shapes.specs.Sound.{unit_bits}
use Rattle.vg_shapes.specs.Units.{arguments}
use Rattle.vg_order_laws.proofs.Runs.{unit-there}
use Rattle.vg_emission.specs.Draft.{Draft, found, Made, with_name}
use Rattle.vg_emission.specs.Emission.{emitted, Job, number_for, operation_line, unit_lines}
use Rattle.vg_emission.specs.Program.{begin, has_value, job_of, lines_of, param_of}
use Rattle.vg_emission.specs.Scalar.{argument_names, is_needed, lines_of_units, NoPacksAreScalar, scalar_lines, scalar_operand}

-- what a draft names is what stands for each value
abbrev Stand : Job → Draft → List Number → Type 0
Stand j d names = (v : ℕ) → number_for j d (Value v) ≡ slice_index_or names v (Register 0)

operand-same : (j : Job) (d : Draft) (names : List Number) (x : Wanted) → Stand j d names → number_for j d x ≡ scalar_operand names x
operand-same j d names (Value v) h = h v
operand-same j d names (Constant w n) h = refl
operand-same j d names Nothing h = refl

past-end : {A : Type 0} (xs : List A) (v : ℕ) (d : A) → length xs ≤ v → slice_index_or xs v d ≡ d
past-end [] v d h = refl
past-end (x ∷ xs) zero d h = absurd (omega arith)
past-end (x ∷ xs) (suc v) d h = past-end xs v d (omega arith)

pushed-same : {A : Type 0} (xs : List A) (d : A) (v : ℕ) → slice_index_or (xs ++ d ∷ []) v d ≡ slice_index_or xs v d
pushed-same [] d zero = refl
pushed-same [] d (suc v) = refl
pushed-same (x ∷ xs) d zero = refl
pushed-same (x ∷ xs) d (suc v) = pushed-same xs d v

set-there : {A : Type 0} (xs : List A) (v : ℕ) (x d : A) → v < length xs → slice_index_or (slice_set xs v x) v d ≡ x
set-there [] v x d h = absurd (omega arith)
set-there (y ∷ xs) zero x d h = refl
set-there (y ∷ xs) (suc v) x d h = set-there xs v x d (omega arith)

set-other : {A : Type 0} (xs : List A) (v w : ℕ) (x d : A) → (v ≡ w → ⊥) → slice_index_or (slice_set xs v x) w d ≡ slice_index_or xs w d
set-other [] v w x d h = refl
set-other (y ∷ xs) zero zero x d h = absurd (h refl)
set-other (y ∷ xs) zero (suc w) x d h = refl
set-other (y ∷ xs) (suc v) zero x d h = refl
set-other (y ∷ xs) (suc v) (suc w) x d h = set-other xs v w x d (λ e. h (ap suc e))

set-long : {A : Type 0} (xs : List A) (v : ℕ) (x : A) → length (slice_set xs v x) ≡ length xs
set-long [] v x = refl
set-long (y ∷ xs) zero x = refl
set-long (y ∷ xs) (suc v) x = ap suc (set-long xs v x)

-- nothing more stands for a value that no line gives
stand-none : (j : Job) (d : Draft) (names : List Number) → Stand j d names → Stand j d (names ++ Register 0 ∷ [])
stand-none j d names h v = h v ∙ sym (pushed-same names (Register 0) v)

-- and the next scalar for one that the next line gives
stand-more : (j : Job) (d : Draft) (names : List Number) (k : ℕ) → Stand j d names → d.scalars ≡ k → arguments j.ssa ≤ length names → length names < length d.names → Stand j (with_name d (length names)) (names ++ Register k ∷ [])
stand-more j d names k h scalars low high v = elim (cases_lt v (length names)) [
  | inl less ↦
      let other : found (slice_set d.names (length names) (Some d.scalars)) v ≡ found d.names v = set-other d.names (length names) v (Some d.scalars) None (λ e. absurd (omega (arith, e))) in
      ap (λ (o : Option ℕ). if nat_lt v (arguments j.ssa) then Argument v else Register (unwrap_or o 0)) other
      ∙ h v ∙ sym (get_or_append_left names (Register k ∷ []) (Register 0) v less)
  | inr above ↦ elim (cases_lt (length names) v) [
    | inl past ↦
        let other : found (slice_set d.names (length names) (Some d.scalars)) v ≡ found d.names v = set-other d.names (length names) v (Some d.scalars) None (λ e. absurd (omega (arith, e))) in
        ap (λ (o : Option ℕ). if nat_lt v (arguments j.ssa) then Argument v else Register (unwrap_or o 0)) other
        ∙ h v ∙ past-end names v (Register 0) (omega arith) ∙ sym (past-end (names ++ Register k ∷ []) v (Register 0) (let l = length_push names (Register k) in omega arith))
    | inr most ↦
        let is : v ≡ length names = omega arith in
        let there : found (slice_set d.names (length names) (Some d.scalars)) v ≡ Some k = ap (found (slice_set d.names (length names) (Some d.scalars))) is ∙ set-there d.names (length names) (Some d.scalars) None high ∙ ap Some scalars in
        cond-false _ _ _ (le-ltb v (arguments j.ssa) (omega arith))
        ∙ ap (λ (o : Option ℕ). Register (unwrap_or o 0)) there
        ∙ sym (get_or_push names (Register k) (Register 0) v (sym is))
  ]
]

-- the lines of the first of units, and those of the others
first-unit : (j : Job) (d : Draft) (done : List SsaUnit) (u : SsaUnit) (us : List SsaUnit) (v : ℕ) → j.ssa.units ≡ done ++ u ∷ us → v ≡ arguments j.ssa + length done
    → emitted j d (map UnitAt (numbers_from v (suc (length us)))) ≡ (unit_lines j d v (Some u)).lines ++ emitted j (unit_lines j d v (Some u)).draft (map UnitAt (numbers_from (v + 1) (length us)))
first-unit j d done u us v whole long =
    ap (λ o. (unit_lines j d v o).lines ++ emitted j (unit_lines j d v o).draft (map UnitAt (numbers_from (v + 1) (length us)))) (unit-there j.ssa done u us v whole long)

-- what a walk over units keeps
pub record Walked (j : Job) (d : Draft) (k : ℕ) (names : List Number) (done us : List SsaUnit) : Type 0 where
  pub whole : j.ssa.units ≡ done ++ us
  pub long : length names ≡ arguments j.ssa + length done
  pub scalars : d.scalars ≡ k
  pub room : length d.names ≡ arguments j.ssa + length j.ssa.units
  pub stand : Stand j d names

walked-none : (j : Job) (d : Draft) (k : ℕ) (names : List Number) (done : List SsaUnit) (u : SsaUnit) (us : List SsaUnit) → Walked j d k names done (u ∷ us) → Walked j d k (names ++ Register 0 ∷ []) (done ++ u ∷ []) us
walked-none j d k names done u us h = record {
  whole = h.whole ∙ sym (append_assoc done (u ∷ []) us);
  long = (let a = length_push names (Register 0) in let b = length_push done u in let c = h.long in omega arith);
  scalars = h.scalars;
  room = h.room;
  stand = stand-none j d names h.stand;
}

walked-more : (j : Job) (d : Draft) (k : ℕ) (names : List Number) (done : List SsaUnit) (u : SsaUnit) (us : List SsaUnit) → Walked j d k names done (u ∷ us) → Walked j (with_name d (length names)) (k + 1) (names ++ Register k ∷ []) (done ++ u ∷ []) us
walked-more j d k names done u us h =
    let size : length j.ssa.units ≡ length done + suc (length us) = ap length h.whole ∙ length-append done (u ∷ us) in
    let long = h.long in
    let room = h.room in
    record {
      whole = h.whole ∙ sym (append_assoc done (u ∷ []) us);
      long = (let a = length_push names (Register k) in let b = length_push done u in omega arith);
      scalars = ap (λ n. n + 1) h.scalars;
      room = set-long d.names (length names) (Some d.scalars) ∙ h.room;
      stand = stand-more j d names k h.stand h.scalars (omega arith) (omega arith);
    }

next-number : (names : List Number) (x : Number) → length names + 1 ≡ length (names ++ x ∷ [])
next-number names x = let a = length_push names x in omega arith

scalar-from : (j : Job) (needed : ℕ → Bool) → ((v : ℕ) → (has_value j.ssa v ≡ true) → j.needed v ≡ needed v) → (d : Draft) (k : ℕ) (names : List Number) (done us : List SsaUnit) → Walked j d k names done us
    → emitted j d (map UnitAt (numbers_from (length names) (length us))) ≡ scalar_lines needed k names us
scalar-from j needed marks d k names done [] h = refl
scalar-from j needed marks d k names done (Load a w ∷ us) h =
    first-unit j d done (Load a w) us (length names) h.whole h.long
    ∙ ap (λ n. line.Load w a ∷ emitted j (with_name d (length names)) (map UnitAt (numbers_from n (length us)))) (next-number names (Register k))
    ∙ ap (λ l. line.Load w a ∷ l) (scalar-from j needed marks (with_name d (length names)) (k + 1) (names ++ Register k ∷ []) (done ++ Load a w ∷ []) us (walked-more j d k names done (Load a w) us h))
scalar-from j needed marks d k names done (Store a w x ∷ us) h =
    first-unit j d done (Store a w x) us (length names) h.whole h.long
    ∙ ap (λ n. line.Store w a (number_for j d x) ∷ emitted j d (map UnitAt (numbers_from n (length us)))) (next-number names (Register 0))
    ∙ (λ i. line.Store w a (operand-same j d names x h.stand i) ∷ scalar-from j needed marks d k (names ++ Register 0 ∷ []) (done ++ Store a w x ∷ []) us (walked-none j d k names done (Store a w x) us h) i)
scalar-from j needed marks d k names done (Operation op w n xs ∷ us) h =
    let v = length names in
    let u = Operation op w n xs in
    let valued : has_value j.ssa v ≡ true = ap (λ (o : Option SsaUnit). is_some (o >>= unit_bits)) (unit-there j.ssa done u us v h.whole h.long) in
    let mark = marks v valued in
    let same : operation_line op w n (number_for j d xs.first) (number_for j d xs.second) (number_for j d xs.third) ≡ operation_line op w n (scalar_operand names xs.first) (scalar_operand names xs.second) (scalar_operand names xs.third) =
    (λ i. operation_line op w n (operand-same j d names xs.first h.stand i) (operand-same j d names xs.second h.stand i) (operand-same j d names xs.third h.stand i)) in
    first-unit j d done u us v h.whole h.long
    ∙ elim (cases_Bool (needed v)) [
      | inl t ↦
          let made : unit_lines j d v (Some u) ≡ record { lines = operation_line op w n (number_for j d xs.first) (number_for j d xs.second) (number_for j d xs.third) ∷ []; draft = with_name d v } = cond-true _ _ _ (mark ∙ t) in
          ap (λ (m : Made). m.lines ++ emitted j m.draft (map UnitAt (numbers_from (v + 1) (length us)))) made
          ∙ ap (λ m. operation_line op w n (number_for j d xs.first) (number_for j d xs.second) (number_for j d xs.third) ∷ emitted j (with_name d v) (map UnitAt (numbers_from m (length us)))) (next-number names (Register k))
          ∙ (λ i. same i ∷ scalar-from j needed marks (with_name d v) (k + 1) (names ++ Register k ∷ []) (done ++ u ∷ []) us (walked-more j d k names done u us h) i)
          ∙ sym (cond-true _ _ _ t)
      | inr f ↦
          let made : unit_lines j d v (Some u) ≡ record { lines = []; draft = d } = cond-false _ _ _ (mark ∙ f) in
          ap (λ (m : Made). m.lines ++ emitted j m.draft (map UnitAt (numbers_from (v + 1) (length us)))) made
          ∙ ap (λ m. emitted j d (map UnitAt (numbers_from m (length us)))) (next-number names (Register 0))
          ∙ scalar-from j needed marks d k (names ++ Register 0 ∷ []) (done ++ u ∷ []) us (walked-none j d k names done u us h)
          ∙ sym (cond-false _ _ _ f)
    ]

-- ---- the beginning

length-names : (k n : ℕ) → length (argument_names k n) ≡ n
length-names k zero = refl
length-names k (suc n) = ap suc (length-names (k + 1) n)

name-at : (k n v : ℕ) → v < n → slice_index_or (argument_names k n) v (Register 0) ≡ Argument (k + v)
name-at k zero v h = absurd (omega arith)
name-at k (suc n) zero h = (let e : k ≡ k + 0 = omega arith in ap Argument e)
name-at k (suc n) (suc v) h = name-at (k + 1) n v (omega arith) ∙ (let e : k + 1 + v ≡ k + suc v = omega arith in ap Argument e)

replicate-at : {A : Type 0} (n v : ℕ) (x : A) → slice_index_or (replicate n x) v x ≡ x
replicate-at zero v x = refl
replicate-at (suc n) zero x = refl
replicate-at (suc n) (suc v) x = replicate-at n v x

length-replicate : {A : Type 0} (n : ℕ) (x : A) → length (replicate n x) ≡ n
length-replicate zero x = refl
length-replicate (suc n) x = ap suc (length-replicate n x)

stand-begin : (j : Job) → Stand j (begin j) (argument_names 0 (arguments j.ssa))
stand-begin j v = elim (cases_lt v (arguments j.ssa)) [
  | inl less ↦ cond-true _ _ _ (lt-ltb v (arguments j.ssa) less) ∙ sym (name-at 0 (arguments j.ssa) v less ∙ (let e : 0 + v ≡ v = omega arith in ap Argument e))
  | inr above ↦
      cond-false _ _ _ (le-ltb v (arguments j.ssa) above)
      ∙ ap (λ (o : Option ℕ). Register (unwrap_or o 0)) (replicate-at (arguments j.ssa + length j.ssa.units) v None)
      ∙ sym (past-end (argument_names 0 (arguments j.ssa)) v (Register 0) (let l = length-names 0 (arguments j.ssa) in omega arith))
]

pub no-packs-are-scalar : NoPacksAreScalar
no-packs-are-scalar ds matches ssa order =
    let j = job_of ds matches ssa [] [] in
    let a = arguments ssa in
    let names = argument_names 0 a in
    let begun : Walked j (begin j) 0 names [] ssa.units = record {
      whole = refl;
      long = length-names 0 a ∙ omega arith;
      scalars = refl;
      room = length-replicate (a + length ssa.units) None;
      stand = stand-begin j;
    } in
    let lines : lines_of j (map UnitAt (numbers_from a (length ssa.units))) ≡ lines_of_units ssa =
    ap (λ n. emitted j (begin j) (map UnitAt (numbers_from n (length ssa.units)))) (sym (length-names 0 a))
    ∙ scalar-from j (is_needed ssa) (λ v h. ap (λ b. b && is_needed ssa v) h) (begin j) 0 names [] ssa.units begun in
    (λ i. record { name = ssa.name; params = map param_of ssa.params; lines = lines i; cost = sum_by line_cost (lines i); scalar = length ssa.units })
