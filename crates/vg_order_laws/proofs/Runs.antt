-- A run of the units in the order of their numbers, by what they do to memory where all numbers are known.
use Rattle.std.proofs.Common.{◌≡◌, ℕ, zero, suc, ◌+◌, ◌-◌, ◌<◌, ◌≤◌, Bool, true, false, cond, List, [], ◌∷◌, ◌++◌, length, Option, Some, None, refl, sym, ap, subst, ◌∙◌, arith, append-nil, append_assoc, get_or}
use Rattle.std.specs.Prelude.{slice_index, slice_get, nat_lt, nat_eq}
use Rattle.std.proofs.lemmas.Bool.{cond-true, cond-false, eq-eqb, le-ltb}
use Rattle.std.proofs.lemmas.List.{get_or_append_left, get_or_push, length_push}
use Rattle.vg_base.specs.Trap.{◌>>=◌}
use Rattle.vg_base.specs.Bits.{number, bytes}
use Rattle.vg_base.specs.Memory.{loaded, stored}
use Rattle.vg_base.specs.Address.{place_of}
use Rattle.vg_base.specs.Width.{bits_of, size_of}
use Rattle.vg_shapes.specs.declared.ssa.Ssa.{Ssa}
use Rattle.vg_shapes.specs.declared.ssa_unit.Operands.{Operands}
use Rattle.vg_shapes.specs.declared.ssa_unit.Operator.{Operator}
use Rattle.vg_shapes.specs.declared.ssa_unit.SsaUnit.{SsaUnit}
use Rattle.vg_shapes.specs.declared.ssa_unit.SsaUnit.TheVariants.{Load, Store, Operation}
use Rattle.vg_shapes.specs.declared.wanted.Wanted.{Wanted}
use Rattle.vg_shapes.specs.declared.wanted.Wanted.TheVariants.{Value, Constant, Nothing}
use Rattle.vg_shapes.specs.Order.{numbers_from}
use Rattle.vg_shapes.specs.RunUnits.{number_of, operation_result, result_of, Reached, reached, unit_run, run_units}
use Rattle.vg_shapes.specs.Sound.{IsEarlier, TakesEarlier, TakeEarlier}
use Rattle.vg_shapes.specs.Units.{arguments, unit_at}
use Rattle.vg_order_laws.specs.Laws.{RunsAreSteps}
use Rattle.vg_order_laws.specs.Sequence.{run_steps}
use Rattle.vg_order_laws.specs.Steps.{seen, work_step, step_of, unit_step, HasNumber, HaveNumbers}

pub went_well : {A B : Type 0} (o : Option A) (f : A → Option B) {y : B} → (o >>= f) ≡ Some y → (x : A) × (o ≡ Some x) × (f x ≡ Some y)
went_well (Some x) f e = (x, refl, e)
went_well None f e = cc

-- a unit gives one number more
one-more : (places : List ℕ) (u : SsaUnit) (r t : Reached) → unit_run places u r ≡ Some t → (n : ℕ) × (t.numbers ≡ r.numbers ++ n ∷ [])
one-more places (Load a w) r t e = let went = went_well (loaded r.memory (place_of places a) (size_of w)) _ e in (number went.0, (let same : Some (reached r.memory r.numbers (number went.0)) ≡ Some t = went.2 in cc))
one-more places (Store a w x) r t e = let went = went_well (stored r.memory (place_of places a) (bytes (size_of w) (number_of (slice_index r.numbers) x))) _ e in (0, (let same : Some (reached went.0 r.numbers 0) ≡ Some t = went.2 in cc))
one-more places (Operation op w k xs) r t e = (result_of (slice_index r.numbers) op (bits_of w) k xs, (let same : Some (reached r.memory r.numbers (result_of (slice_index r.numbers) op (bits_of w) k xs)) ≡ Some t = e in cc))

-- numbers that were given stay
pub more-numbers : (places : List ℕ) (us : List SsaUnit) (r t : Reached) → run_units places us r ≡ Some t → (more : List ℕ) × (t.numbers ≡ r.numbers ++ more)
unfolding run_units
more-numbers places [] r t e = ([], (let same : r ≡ t = cc in ap (λ (q : Reached). q.numbers) (sym same) ∙ sym (append-nil r.numbers)))
more-numbers places (u ∷ us) r t e =
    let went = went_well (unit_run places u r) (run_units places us) e in
    let one = one-more places u r went.0 went.1 in
    let rest = more-numbers places us went.0 t went.2 in
    (one.0 ∷ rest.0, rest.1 ∙ ap (λ l. l ++ rest.0) one.1 ∙ append_assoc r.numbers (one.0 ∷ []) rest.0)

earlier-number : (numbers more : List ℕ) (x : Wanted) → IsEarlier (length numbers) x → number_of (slice_index numbers) x ≡ number_of (slice_index (numbers ++ more)) x
earlier-number numbers more (Value v) h = sym (get_or_append_left numbers more 0 v h)
earlier-number numbers more (Constant w n) h = refl
earlier-number numbers more Nothing h = refl

-- what a unit does in a run is what it does where the numbers are those of the whole run
unit-known : (places : List ℕ) (u : SsaUnit) (r t : Reached) (more : List ℕ) → TakesEarlier (length r.numbers) u → unit_run places u r ≡ Some t
    → let numbers = slice_index (t.numbers ++ more) in (work_step places numbers (length r.numbers) u r.memory ≡ Some t.memory) × HasNumber numbers (length r.numbers) u
unit-known places (Load a w) r t more early e =
    let went = went_well (loaded r.memory (place_of places a) (size_of w)) _ e in
    let same : reached r.memory r.numbers (number went.0) ≡ t = (let k : Some (reached r.memory r.numbers (number went.0)) ≡ Some t = went.2 in cc) in
    let n = length r.numbers in
    let is : slice_index (t.numbers ++ more) n ≡ number went.0 =
    ap (λ (q : Reached). slice_index (q.numbers ++ more) n) (sym same) ∙ get_or_append_left (r.numbers ++ number went.0 ∷ []) more 0 n (let l = length_push r.numbers (number went.0) in omega arith) ∙ get_or_push r.numbers (number went.0) 0 n refl in (
      ap (λ o. o >>= λ read. cond (nat_eq (number read) (slice_index (t.numbers ++ more) n)) (Some r.memory) None) went.1
          ∙ cond-true _ _ _ (eq-eqb _ _ (sym is)) ∙ ap (λ (q : Reached). Some q.memory) same,
      tt,
    )
unit-known places (Store a w x) r t more early e =
    let new = bytes (size_of w) (number_of (slice_index r.numbers) x) in
    let went = went_well (stored r.memory (place_of places a) new) _ e in
    let same : reached went.0 r.numbers 0 ≡ t = (let k : Some (reached went.0 r.numbers 0) ≡ Some t = went.2 in cc) in
    let grown : t.numbers ++ more ≡ r.numbers ++ (0 ∷ more) = ap (λ (q : Reached). q.numbers ++ more) (sym same) ∙ append_assoc r.numbers (0 ∷ []) more in
    let is : number_of (slice_index (t.numbers ++ more)) x ≡ number_of (slice_index r.numbers) x = ap (λ l. number_of (slice_index l) x) grown ∙ sym (earlier-number r.numbers (0 ∷ more) x early) in
    (ap (λ n. stored r.memory (place_of places a) (bytes (size_of w) n)) is ∙ went.1 ∙ ap (λ (q : Reached). Some q.memory) same, tt)
unit-known places (Operation op w k xs) r t more early e =
    let n = result_of (slice_index r.numbers) op (bits_of w) k xs in
    let same : reached r.memory r.numbers n ≡ t = (let s : Some (reached r.memory r.numbers n) ≡ Some t = e in cc) in
    let at = length r.numbers in
    let grown : t.numbers ++ more ≡ r.numbers ++ (n ∷ more) = ap (λ (q : Reached). q.numbers ++ more) (sym same) ∙ append_assoc r.numbers (n ∷ []) more in
    let is : slice_index (t.numbers ++ more) at ≡ n =
    ap (λ (q : Reached). slice_index (q.numbers ++ more) at) (sym same) ∙ get_or_append_left (r.numbers ++ n ∷ []) more 0 at (let l = length_push r.numbers n in omega arith) ∙ get_or_push r.numbers n 0 at refl in
    let stays : (x : Wanted) → IsEarlier at x → number_of (slice_index r.numbers) x ≡ number_of (slice_index (t.numbers ++ more)) x =
    λ x h. earlier-number r.numbers (n ∷ more) x h ∙ ap (λ l. number_of (slice_index l) x) (sym grown) in
    (ap (λ (q : Reached). Some q.memory) same, is ∙ (λ j. operation_result op (bits_of w) k (stays xs.first early.0 j) (stays xs.second early.1 j) (stays xs.third early.2 j)))

-- the unit with a number
pub unit-there : (ssa : Ssa) (done : List SsaUnit) (u : SsaUnit) (us : List SsaUnit) (n : ℕ) → ssa.units ≡ done ++ u ∷ us → n ≡ arguments ssa + length done → unit_at ssa n ≡ Some u
unit-there ssa done u us n e g =
    cond-false _ _ _ (le-ltb n (arguments ssa) (omega arith))
    ∙ ap (λ k. slice_get ssa.units k) (let k : n - arguments ssa ≡ length done = omega arith in k)
    ∙ ap (λ l. slice_get l (length done)) e ∙ at_seam done u us
  where
    at_seam : (done : List SsaUnit) (u : SsaUnit) (us : List SsaUnit) → slice_get (done ++ u ∷ us) (length done) ≡ Some u
    at_seam [] u us = refl
    at_seam (d ∷ done) u us = at_seam done u us

-- a run of the last units that is done
pub known-run : (ssa : Ssa) (places : List ℕ) (done us : List SsaUnit) (r t : Reached) → ssa.units ≡ done ++ us → length r.numbers ≡ arguments ssa + length done → TakeEarlier (length r.numbers) us → run_units places us r ≡ Some t
    → (run_steps (unit_step ssa places (slice_index t.numbers)) (numbers_from (length r.numbers) (length us)) r.memory ≡ Some t.memory) × HaveNumbers (slice_index t.numbers) (length r.numbers) us
unfolding run_units run_steps
known-run ssa places done [] r t e g early run = (let same : r ≡ t = cc in ap (λ (q : Reached). Some q.memory) same, tt)
known-run ssa places done (u ∷ us) r t e g early run =
    let went = went_well (unit_run places u r) (run_units places us) run in
    let mid = went.0 in
    let one = one-more places u r mid went.1 in
    let more = more-numbers places us mid t went.2 in
    let known = unit-known places u r mid more.0 early.0 went.1 in
    let n = length r.numbers in
    let next : length mid.numbers ≡ n + 1 = ap length one.1 ∙ length_push r.numbers one.0 in
    let rest = known-run ssa places (done ++ u ∷ []) us mid t (e ∙ sym (append_assoc done (u ∷ []) us)) (let l = length_push done u in omega arith) (subst (λ k. TakeEarlier k us) (sym next) early.1) went.2 in
    let there = unit-there ssa done u us n e g in
    let all = slice_index t.numbers in
    let first : unit_step ssa places all n r.memory ≡ Some mid.memory =
    ap (λ o. step_of o places all n r.memory) there ∙ ap (λ l. work_step places (slice_index l) n u r.memory) more.1 ∙ known.0 in (
      ap (λ o. o >>= run_steps (unit_step ssa places all) (numbers_from (n + 1) (length us))) first
          ∙ subst (λ k. run_steps (unit_step ssa places all) (numbers_from k (length us)) mid.memory ≡ Some t.memory) next rest.0,
      (subst (λ l. HasNumber (slice_index l) n u) (sym more.1) known.1, subst (λ k. HaveNumbers all k us) next rest.1),
    )

pub runs-are-steps : RunsAreSteps
runs-are-steps ssa places r t long early run =
    let known = known-run ssa places [] ssa.units r t refl (let l : length r.numbers ≡ arguments ssa + 0 = omega arith in l) (subst (λ n. TakeEarlier n ssa.units) (sym long) early) run in (
      subst (λ n. run_steps (unit_step ssa places (slice_index t.numbers)) (numbers_from n (length ssa.units)) r.memory ≡ Some t.memory) long known.0,
      subst (λ n. HaveNumbers (slice_index t.numbers) n ssa.units) long known.1,
    )
