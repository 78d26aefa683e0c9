-- The narrowed units run as the given ones do.
use Rattle.std.proofs.Common.{◌≡◌, ℕ, suc, ◌+◌, ◌<◌, Bool, true, false, List, [], ◌∷◌, ◌++◌, length, Option, Some, None, refl, sym, ap, ◌∙◌, subst, arith, append_assoc, append-nil}
use Rattle.std.specs.Prelude.{◌&&◌, slice_get, slice_index}
use Rattle.std.specs.List.{cons_option, list_all}
use Rattle.std.specs.Option.{is_some, option_map_or}
use Rattle.std.proofs.lemmas.Bool.{true≢false}
use Rattle.std.proofs.lemmas.List.{get_or_append_left, length-append, length_push}
use Rattle.vg_base.specs.Address.{place_of}
use Rattle.vg_base.specs.Trap.{◌>>=◌}
use Rattle.vg_base.specs.declared.width.Width.{Width}
use Rattle.vg_bits.specs.BitList.{IsBytes}
use Rattle.vg_order_laws.specs.Steps.{is_inside, stays_inside}
use Rattle.vg_order_laws.proofs.Traps.{runs-trap-outside}
use Rattle.vg_rewrite.specs.Narrowed.{asked_of, make_param, make_params, make_unit, make_units, Narrowing, narrowed_units}
use Rattle.vg_rewrite.specs.Running.{memory_behind, NarrowedUnitsRunAlike}
use Rattle.vg_rewrite.proofs.NarrowedAccesses.{accessed, narrowed-accesses}
use Rattle.vg_rewrite.proofs.NarrowedRuns.{all-long, Beside, given, step, step-own, Stepped}
use Rattle.vg_rewrite.proofs.Parameters.{is-parameter}
use Rattle.vg_rewrite.proofs.Rereading.{all-from, AreFrom, from-here, from-next, Has}
use Rattle.vg_shapes.specs.declared.access.Access.{Access}
use Rattle.vg_shapes.specs.declared.ssa.Ssa.{Ssa}
use Rattle.vg_shapes.specs.declared.ssa_unit.SsaUnit.{SsaUnit}
use Rattle.vg_shapes.specs.declared.wanted.Wanted.TheVariants.{Value}
use Rattle.vg_shapes.specs.Layout.{access_of}
use Rattle.vg_shapes.specs.RunUnits.{Reached, run_units, start_of, unit_run}
use Rattle.vg_shapes.specs.Sound.{AreArguments, IsSound}
use Rattle.vg_shapes.specs.Units.{arguments, integers}
use Rattle.vg_spans.specs.Spans.{spans_of}
use Rattle.vg_spans.proofs.Runs.{arguments-long}
use Rattle.vg_ssa.specs.OfUnits.{widths_of}
use Rattle.vg_ssa.proofs.Meaning.{bound, run-more, unit-step}
use Rattle.vg_ssa.proofs.Soundness.{widths-many}

record RunTo (places : List ℕ) (start : Reached) (us : List SsaUnit) (memory : List ℕ) : Type 0 where
  after : Reached
  run : run_units places us start ≡ Some after
  memory_is : after.memory ≡ memory

module _ (ssa : Ssa) (sound : IsSound ssa) (places memory args : List ℕ) (are_bytes : IsBytes memory) (fit : AreArguments (integers ssa) args) (t : Reached) (run : run_units places ssa.units (start_of memory args) ≡ Some t) where
  -- ---- units

  follow : (v : ℕ) (us : List SsaUnit) (g : Narrowing) (r c : Reached) → AreFrom ssa v us → v + length us ≡ length t.numbers → Beside ssa places (start_of memory args) t.numbers v g r c → length c.numbers ≡ v → IsBytes c.memory
      → run_units places us c ≡ Some t → RunTo places (start_of memory args) (make_units (spans_of ssa) (asked_of ssa) v us g).units t.memory
  unfolding run_units
  follow v [] g r c from all beside long are runs =
      let same : c ≡ t = cc in
      record { after = r; run = beside.state.ran.run; memory_is = beside.memory ∙ ap (λ (q : Reached). q.memory) same }
  follow v (u ∷ us) g r c from all beside long are runs =
      let b = bound (unit_run places u c) (run_units places us) t runs in
      let s = unit-step places u c b.0 are b.1 in
      let m = run-more places us b.0 t s.memory b.2 in
      let one = step ssa sound places memory args are_bytes fit t run v u g r c b.0 m.more (omega arith) (from-here ssa v u us from) beside long b.1 m.numbers in
      follow (v + 1) us (make_unit (spans_of ssa) (asked_of ssa) v u g) one.after b.0 (from-next ssa v u us from) (omega arith) one.beside (ap length s.numbers ∙ length_push c.numbers s.given ∙ ap (λ k. k + 1) long) s.memory b.2

  -- ---- parameters

  argument-number : (v : ℕ) (more : List ℕ) → v < length args → slice_index (args ++ more) v ≡ slice_index t.numbers v
  argument-number v more l =
      let g = given ssa sound places memory args are_bytes fit t run in
      get_or_append_left args more 0 v l ∙ sym (get_or_append_left args g.more 0 v l) ∙ ap (λ ns. slice_index ns v) (sym g.split)

  param-has : (v : ℕ) (r : Reached) (more : List ℕ) → r.numbers ≡ args ++ more → v < length args → Has r.numbers (Value v) (slice_index t.numbers v)
  param-has v r more e l = ((let a = ap length e in let b = length-append args more in omega arith), ap (λ ns. slice_index ns v) e ∙ argument-number v more l)

  params : (v : ℕ) (ws : List Width) (g : Narrowing) (r : Reached) (more : List ℕ) → ((j : ℕ) (w : Width) → slice_get ws j ≡ Some w → slice_get (widths_of ssa.params) (v + j) ≡ Some w)
      → Beside ssa places (start_of memory args) t.numbers v g r (start_of memory args) → r.numbers ≡ args ++ more
      → Stepped ssa places (start_of memory args) t.numbers (v + length ws) (make_params (spans_of ssa) (asked_of ssa) v ws g) r (start_of memory args)
  params v [] g r more at beside numbers =
      let same : v ≡ v + 0 = omega arith in
      record { after = r; more = []; beside = subst (λ n. Beside ssa places (start_of memory args) t.numbers n g r (start_of memory args)) same beside; numbers = sym (append-nil r.numbers) }
  params v (w ∷ ws) g r more at beside numbers =
      let start = start_of memory args in
      let here : v + 0 ≡ v = omega arith in
      let p = is-parameter ssa v w (ap (slice_get (widths_of ssa.params)) (sym here) ∙ at 0 w refl) in
      let long = all-long ssa sound places memory args are_bytes fit t run in
      let many = arguments-long (integers ssa) args fit in
      let inside = p.inside in
      let one = step-own ssa sound places memory args are_bytes fit t run v w None (Value v) g r r start start [] (omega arith) p.unit (λ u. refl) p.bits p.spans beside.long beside.state (param-has v r more numbers (omega arith)) beside.memory (sym (append-nil r.numbers)) in
      let next : v + 1 + length ws ≡ v + length (w ∷ ws) = omega arith in
      let rest = params (v + 1) ws (make_param (spans_of ssa) (asked_of ssa) v w g) one.after (more ++ one.more) (λ j u e. (let past : v + 1 + j ≡ v + suc j = omega arith in ap (slice_get (widths_of ssa.params)) past ∙ at (suc j) u e)) one.beside
      (one.numbers ∙ ap (λ l. l ++ one.more) numbers ∙ append_assoc args more one.more) in
      let P : ℕ → Type 0 = λ n. Stepped ssa places start t.numbers n (make_params (spans_of ssa) (asked_of ssa) v (w ∷ ws) g) r start in
      subst P next (record { after = rest.after; more = one.more ++ rest.more; beside = rest.beside; numbers = rest.numbers ∙ ap (λ l. l ++ rest.more) one.numbers ∙ append_assoc r.numbers one.more rest.more })

  beside-begun : Beside ssa places (start_of memory args) t.numbers 0 (record { first = length (widths_of ssa.params); units = []; made = [] }) (start_of memory args) (start_of memory args)
  unfolding run_units
  beside-begun = record {
    state = record {
      ran = record { run = refl; long = (let a = widths-many ssa.params in let b = arguments-long (integers ssa) args fit in let e : length args ≡ length (widths_of ssa.params) + 0 = omega arith in e) };
      made = λ y w h. absurd (let l = h.0 in omega arith);
      bits = λ y h. absurd (let l = h.0 in omega arith);
    };
    memory = refl;
    long = refl;
  }

  pub narrowed-run : memory_behind places (narrowed_units ssa) memory args ≡ Some t.memory
  narrowed-run =
      let start = start_of memory args in
      let ws = widths_of ssa.params in
      let g : Narrowing = record { first = length ws; units = []; made = [] } in
      let same : length ws ≡ arguments ssa = widths-many ssa.params in
      let many = arguments-long (integers ssa) args fit in
      let ready = params 0 ws g start [] (λ j w e. (let past : j ≡ 0 + j = omega arith in ap (slice_get ws) (sym past) ∙ e)) beside-begun (sym (append-nil args)) in
      let zero_more : 0 + length ws ≡ length ws = omega arith in
      let all = all-long ssa sound places memory args are_bytes fit t run in
      let to = follow (length ws) ssa.units (make_params (spans_of ssa) (asked_of ssa) 0 ws g) ready.after start (subst (λ n. AreFrom ssa n ssa.units) (sym same) (all-from ssa)) (omega arith)
      (subst (λ n. Beside ssa places start t.numbers n (make_params (spans_of ssa) (asked_of ssa) 0 ws g) ready.after start) zero_more ready.beside) (many ∙ sym same) are_bytes run in
      ap (λ o. o >>= λ r. Some r.memory) to.run ∙ ap Some to.memory_is

-- ---- traps

abbrev inside : List ℕ → ℕ → Access → Bool
inside places long a = is_inside long (place_of places a.address) a.size

inside-one : (places : List ℕ) (long : ℕ) (o : Option Access) (b : Bool) (xs : List Access) → b ≡ list_all (inside places long) xs → (option_map_or (inside places long) o true && b) ≡ list_all (inside places long) (cons_option o xs)
inside-one places long None b xs e = e
inside-one places long (Some a) b xs e = ap (λ c. inside places long a && c) e

inside-all : (places : List ℕ) (long : ℕ) (us : List SsaUnit) → list_all (stays_inside places long) us ≡ list_all (inside places long) (accessed us)
inside-all places long [] = refl
inside-all places long (u ∷ us) = inside-one places long (access_of u) (list_all (stays_inside places long) us) (accessed us) (inside-all places long us)

none-some : {A : Type 0} (o : Option A) → is_some o ≡ false → o ≡ None
none-some None e = refl
none-some (Some x) e = absurd (true≢false e)

narrowed-traps : (ssa : Ssa) (places memory args : List ℕ) → run_units places ssa.units (start_of memory args) ≡ None → run_units places (narrowed_units ssa) (start_of memory args) ≡ None
narrowed-traps ssa places memory args trap =
    let start = start_of memory args in
    none-some (run_units places (narrowed_units ssa) start)
    (runs-trap-outside places (narrowed_units ssa) start ∙ inside-all places (length memory) (narrowed_units ssa)
    ∙ ap (list_all (inside places (length memory))) (narrowed-accesses ssa)
    ∙ sym (inside-all places (length memory) ssa.units) ∙ sym (runs-trap-outside places ssa.units start) ∙ ap is_some trap)

pub narrowed-units_run_alike : NarrowedUnitsRunAlike
narrowed-units_run_alike ssa places memory args sound are_bytes fit = by (run_units places ssa.units (start_of memory args)) refl
  where
    by : (o : Option Reached) → run_units places ssa.units (start_of memory args) ≡ o → memory_behind places (narrowed_units ssa) memory args ≡ memory_behind places ssa.units memory args
    by None e = ap (λ o. o >>= λ r. Some r.memory) (narrowed-traps ssa places memory args e ∙ sym e)
    by (Some t) e = narrowed-run ssa sound places memory args are_bytes fit t e ∙ sym (ap (λ o. o >>= λ r. Some r.memory) e)
