-- Calls hold their packs: the lanes of what they give have the numbers of the values that they fit.
use Rattle.std.proofs.Common.{◌≡◌, ℕ, ◌+◌, List, [], ◌∷◌, length, map, take, sym, ap, subst, ◌∙◌, arith}
use Rattle.std.specs.Prelude.{slice_index}
use Rattle.std.specs.Option.{option_map_or}
use Rattle.vg_plans.proofs.Lists.{take-whole}
use Rattle.vg_shapes.specs.declared.pack.Pack.TheVariants.{Call, Stores}
use Rattle.vg_shapes.specs.declared.ssa.Ssa.{Ssa}
use Rattle.vg_shapes.specs.declared.ssa_unit.SsaUnit.{SsaUnit}
use Rattle.vg_shapes.specs.Description.{Description}
use Rattle.vg_shapes.specs.Pack.{bounds_from}
use Rattle.vg_shapes.specs.RunUnits.{Reached, run_units, start_of}
use Rattle.vg_shapes.specs.Sound.{IsSound}
use Rattle.vg_shapes.specs.Units.{arguments, integers}
use Rattle.vg_match.specs.Laws.{TermsHave}
use Rattle.vg_match.proofs.Laws.{reached-have}
use Rattle.vg_kernel_plans.specs.Taken.{operands_from, operands_of}
use Rattle.vg_emission.specs.Emission.{Job, no_description, operand_at, pack_at, takes_at}
use Rattle.vg_emission.specs.Laws.{IsRun}
use Rattle.vg_emission.specs.Program.{job_of}
use Rattle.vg_emission.specs.Promises.{AllFill, answer, Holds, LanesHave}
use Rattle.vg_emission.specs.Truth.{Answers, IsCallable, IsTrueOf}
use Rattle.vg_emission.proofs.Jobs.{get-is, get-some}
use Rattle.vg_emission.proofs.Made.{job-made}
use Rattle.vg_emission.proofs.Orders.{arguments-long}
use Rattle.vg_plan_laws.specs.Laws.{CallsHold, RunsStayInWidths}
use Rattle.vg_plan_laws.proofs.Filled.{all-get, filled-registers, FillEach, lanes-have}
use Rattle.vg_plan_laws.proofs.Terms.{run-long, term-low, value-fits, value-term}

-- ---- runs

-- what a run gives: a number for each value, which its term has
record IsGiven (ssa : Ssa) (numbers : List ℕ) : Type 0 where
  long : length numbers ≡ arguments ssa + length ssa.units
  have : TermsHave ssa numbers

given : (ssa : Ssa) (places memory args : List ℕ) (last : Reached) → IsSound ssa
    → IsRun ssa places memory args last → IsGiven ssa last.numbers
given ssa places memory args last sound run =
    let whole : take (length ssa.units) ssa.units ≡ ssa.units =
    take-whole (length ssa.units) ssa.units (omega arith) in
    let started = arguments-long (integers ssa) args run.arguments in
    record {
      long =
          run-long places ssa.units (start_of memory args) last run.runs ∙ ap
          (λ n. n + length ssa.units) started;
      have = reached-have ssa places memory args (length ssa.units) last sound run.bytes run.arguments
          (ap (λ (us : List SsaUnit). run_units places us (start_of memory args)) whole ∙ run.runs);
    }

pub runs-stay : RunsStayInWidths
runs-stay ssa places memory args last sound run v w wide =
    let g = given ssa places memory args last sound run in
    let t = value-term ssa v w sound wide in
    let low = term-low ssa v t.0 sound t.1 in
    let long = g.long in
    value-fits _ ssa v w (slice_index last.numbers v) t.0 sound t.1 t.2
    ((g.have).terms v t.0 (omega arith) t.1)

-- ---- calls

fill-each : (j : Job) (numbers : ℕ → ℕ) (os : List ℕ) (rs : List (List ℕ)) → AllFill j numbers os rs
    → FillEach numbers (map (operand_at j) os) rs
fill-each j numbers [] rs h = h
fill-each j numbers (o ∷ os) [] h = absurd h
fill-each j numbers (o ∷ os) (r ∷ rs) h = (h.0, fill-each j numbers os rs h.1)

pub calls-hold : CallsHold
calls-hold called ds matches ssa packs recipes places memory args last known true run k e lanes at
    call rs fill =
    let j = job_of ds matches ssa packs recipes in
    let numbers = slice_index last.numbers in
    let x = call.entry in
    let bounds = bounds_from matches e 0 lanes in
    let g = given ssa places memory args last known.sound run in
    let described = all-get IsCallable ds e x known.described call.there in
    let own : pack_at j k ≡ Call e lanes = get-is packs k (Call e lanes) (Stores []) at in
    let takes : map (operand_at j) (takes_at j k) ≡ operands_from bounds 0 x.params =
    (job-made ds matches ssa packs recipes (known.sound).earlier).takes k
    (get-some packs k (Call e lanes) at)
    ∙ ap (operands_of ds matches ssa) own
    ∙ ap (λ o. operands_from bounds 0
    (option_map_or (λ (d : Description). d.params) o [])) call.there
    in
    let each : FillEach numbers (operands_from bounds 0 x.params) rs =
    subst (λ os. FillEach numbers os rs) takes (fill-each j numbers (takes_at j k) rs fill) in
    let answers : Answers x rs (answer called x rs) =
    all-get (IsTrueOf called) ds e x true call.there rs
    (filled-registers numbers bounds 0 x.params rs each) in
    let have =
    lanes-have ds matches ssa last.numbers e x bounds rs
    (answer called x rs) known.sound known.matched g.have g.long call.there described.packable each
    answers 0 lanes call.matched (λ b h. h) in
    let same = get-is ds e x no_description call.there in
    subst (λ d. Holds ds ssa numbers (Call e lanes) (answer called d rs)) (sym same) (record {
      long =
          answers.long ∙ sym (ap
          (λ o. option_map_or (λ (d : Description). d.register) o 0) call.there);
      bits = answers.bits;
      lanes =
          subst (λ w. LanesHave numbers w 0 lanes (answer called x rs))
          (sym (ap (λ o. option_map_or (λ (d : Description). d.lane_width) o 0) call.there)) have;
    })
