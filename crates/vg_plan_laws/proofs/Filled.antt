-- What registers that fill the operands of a call have: the number of each leaf that its lanes
-- bind.
use Rattle.std.proofs.Common.{◌≡◌, ℕ, zero, suc, ◌+◌, ◌<◌, true, List, [], ◌∷◌, length, Option, Some, None, refl, sym, ap, subst, ◌∙◌, arith, get_or}
use Rattle.std.specs.Prelude.{is_some, slice_get, slice_index}
use Rattle.std.specs.List.{AllByRecursion}
use Rattle.std.specs.Option.{option_map_or}
use Rattle.std.proofs.lemmas.Option.{none-some}
use Rattle.vg_base.specs.Bits.{num}
use Rattle.vg_bits.specs.Range.{range}
use Rattle.vg_plans.specs.Members.{Has}
use Rattle.vg_plans.proofs.Lists.{has-append_left, has-append_right}
use Rattle.vg_terms.specs.declared.term.LeafKey.{LeafKey}
use Rattle.vg_terms.specs.declared.value.Env.{Env}
use Rattle.vg_terms.specs.Term.{Tree, leaf, constant, one, two, sel, WellFormed}
use Rattle.vg_terms.specs.Value.{value}
use Rattle.vg_shapes.specs.declared.match_table.Bound.{Bound}
use Rattle.vg_shapes.specs.declared.match_table.Match.{Match}
use Rattle.vg_shapes.specs.declared.operand.Operand.{Operand}
use Rattle.vg_shapes.specs.declared.ssa.Ssa.{Ssa}
use Rattle.vg_shapes.specs.declared.wanted.Wanted.{Wanted}
use Rattle.vg_shapes.specs.declared.wanted.Wanted.TheVariants.{Value, Constant, Nothing}
use Rattle.vg_shapes.specs.Description.{Description, IsLane, IsPackable}
use Rattle.vg_shapes.specs.Fits.{EachLeaf, FitsWide, wanted_for}
use Rattle.vg_shapes.specs.Leaves.{bit_number}
use Rattle.vg_shapes.specs.Matches.{AreMatches, lane_at}
use Rattle.vg_shapes.specs.Pack.{bounds_from, match_at}
use Rattle.vg_shapes.specs.Registers.{bits_key, env_of}
use Rattle.vg_shapes.specs.RunUnits.{number_of}
use Rattle.vg_shapes.specs.Sound.{IsSound}
use Rattle.vg_shapes.specs.Units.{arguments}
use Rattle.vg_match.specs.Laws.{HasNumber, TermsHave}
use Rattle.vg_match.proofs.Laws.{lanes-have-numbers}
use Rattle.vg_kernel_plans.specs.Producers.{are_matched}
use Rattle.vg_kernel_plans.specs.Taken.{operands_from, slot_of, slots_of}
use Rattle.vg_kernel_plans.specs.Wants.{is_wanted}
use Rattle.vg_kernel_plans.proofs.SameTests.{both-true}
use Rattle.vg_emission.specs.Promises.{Fills, IsWanted, LanesHave, SlotHas}
use Rattle.vg_emission.specs.Truth.{Answers, AreRegisters, LanesMean}
use Rattle.vg_program.specs.Meaning.{lane_number}
use Rattle.vg_plan_relations.proofs.Agreeing.{slot-there}
use Rattle.vg_plan_relations.proofs.Fitting.{found-fit, lane-term, param-there}
use Rattle.vg_plan_relations.proofs.Lists.{all-has, get-has}
use Rattle.vg_plan_laws.proofs.Fitted.{each-both, each-inside, each-wanted, entry-of, fitted, IsInside}
use Rattle.vg_shapes.proofs.ValueTerms.{unit-above}

pub all-get : {X : Type 0} (P : X → Type 0) (xs : List X) (k : ℕ) (x : X) → AllByRecursion P xs
    → slice_get xs k ≡ Some x → P x
all-get P xs k x all e = all-has P xs x all (get-has xs k x e)

-- ---- registers that fill operands, one for each

abbrev pub FillEach : (ℕ → ℕ) → List Operand → List (List ℕ) → Type 0
FillEach numbers [] registers = registers ≡ []
FillEach numbers (o ∷ os) [] = ⊥
FillEach numbers (o ∷ os) (r ∷ rs) = Fills numbers o r × FillEach numbers os rs

pub filled-registers : (numbers : ℕ → ℕ) (bounds : List Bound) (k : ℕ) (ps : List ℕ)
    (rs : List (List ℕ))
    → FillEach numbers (operands_from bounds k ps) rs → AreRegisters ps rs
filled-registers numbers bounds k [] rs h =
    subst (AreRegisters []) (sym h) (record { bits = tt; long = refl })
filled-registers numbers bounds k (p ∷ ps) [] h = absurd h
filled-registers numbers bounds k (p ∷ ps) (r ∷ rs) h =
    let rest = filled-registers numbers bounds (suc k) ps rs h.1 in
    record { bits = ((h.0).bits, rest.bits); long = λ i. (h.0).long i ∷ rest.long i }

-- the register of a parameter has what an entry of the parameter wants
filled-entry : (numbers : ℕ → ℕ) (bounds : List Bound) (k : ℕ) (ps : List ℕ) (rs : List (List ℕ))
    (b : Bound) (i : ℕ)
    → FillEach numbers (operands_from bounds k ps) rs → Has b bounds → i < length ps
    → b.key.first ≡ k + i
    → SlotHas numbers (get_or rs i []) (slot_of b)
filled-entry numbers bounds k [] rs b i h has low e = absurd (omega arith)
filled-entry numbers bounds k (p ∷ ps) [] b i h has low e = absurd h
filled-entry numbers bounds k (p ∷ ps) (r ∷ rs) b zero h has low e =
    all-has (SlotHas numbers r) (slots_of bounds k) (slot_of b) (h.0).slots
    (slot-there bounds b k has (let here : b.key.first ≡ k = omega arith in here))
filled-entry numbers bounds k (p ∷ ps) (r ∷ rs) b (suc i) h has low e =
    filled-entry numbers bounds (suc k) ps rs b i h.1 has (omega arith)
    (let next : b.key.first ≡ suc k + i = omega arith in next)

-- what is wanted has its number
pub wanted-number : (numbers : ℕ → ℕ) (x : Wanted) (n : ℕ) → is_wanted x ≡ true
    → IsWanted numbers x n → n ≡ number_of numbers x
wanted-number numbers (Value v) n t h = h
wanted-number numbers (Constant w c) n t h = h
wanted-number numbers Nothing n t h = absurd (cc)

each-some : (t : Tree) → WellFormed t → EachLeaf (λ w k. 0 < w) t
each-some (leaf w k) h = h.0
each-some (constant w n) h = tt
each-some (one op w k x) h = each-some x h.2
each-some (two op w x y) h = (each-some x h.2, each-some y h.3)
each-some (sel w c x y) h = (each-some c h.2, each-some x h.3, each-some y h.4)

-- ---- the lanes of a call

module _ (numbers : List ℕ) (bounds : List Bound) (ps : List ℕ) (rs : List (List ℕ))
    (fill : FillEach (slice_index numbers) (operands_from bounds 0 ps) rs) where
  leaf-number : (bound : List Bound) → ((b : Bound) → Has b bound → Has b bounds)
      → (w : ℕ) (k : LeafKey)
      → 0 < w → IsInside ps w k → is_wanted (wanted_for bound w k) ≡ true
      → HasNumber rs numbers bound w k
  leaf-number bound into w k some inside wanted =
      let parameter = inside.0 in
      let low = inside.1 in
      let register = get_or rs parameter [] in
      let entry = entry-of bound w k wanted in
      let b = entry.0 in
      let key : b.key ≡ bits_key parameter low = entry.3 ∙ inside.2 in
      let fits = inside.3 in
      let there = param-there ps parameter (omega arith) in
      let of : b.key.first ≡ 0 + parameter =
      ap (λ (l : LeafKey). l.first) key ∙
      (let start : parameter ≡ 0 + parameter = omega arith in start) in
      let has =
      filled-entry (slice_index numbers) bounds 0 ps rs b parameter fill
      (into b entry.1) there of in
      let at : low ≡ bit_number b.key.second =
      ap (λ (l : LeafKey). bit_number l.second) (sym key) in
      let solid : is_wanted b.wanted ≡ true = ap is_wanted entry.4 ∙ wanted in (
        parameter,
        low,
        inside.2,
        (λ i. num (range (at i) (sym entry.2 i) register))
            ∙ wanted-number (slice_index numbers) b.wanted _ solid has
            ∙ ap (number_of (slice_index numbers)) entry.4,
      )

  -- a lane has the number of the value that it fits
  lane-number-is : (ssa : Ssa) (x : Description) (t : Tree) (v : ℕ) (bound : List Bound)
      → TermsHave ssa numbers → v < length numbers
      → ((b : Bound) → Has b bound → Has b bounds) → IsLane ps x.lane_width t → FitsWide ssa t v bound
      → value (env_of rs) t ≡ slice_index numbers v
  lane-number-is ssa x t v bound have low into lane f =
      let both =
      each-both (λ w k. 0 < w) (IsInside ps) (λ w k. (0 < w) × IsInside ps w k)
      (λ w k p q. (p, q)) t (each-some t lane.formed) (each-inside ps t lane.inside) in
      let all =
      each-both (λ w k. (0 < w) × IsInside ps w k)
      (λ w k. is_wanted (wanted_for bound w k) ≡ true) (HasNumber rs numbers bound)
      (λ w k p q. leaf-number bound into w k p.0 p.1 q) t both (each-wanted ssa t v bound f) in
      lanes-have-numbers ssa numbers t v bound rs have low f
      (filled-registers (slice_index numbers) bounds 0 ps rs fill).bits all

-- the lanes of an answer have the values of their terms
lanes-mean : (env : Env) (w n k : ℕ) (ts : List Tree) (register : List ℕ) (t : Tree)
    → LanesMean env w n ts register → slice_get ts k ≡ Some t
    → lane_number w (n + k) register ≡ value env t
lanes-mean env w n k [] register t h e = absurd (none-some t e)
lanes-mean env w n zero (s ∷ ts) register t h e =
    let same : s ≡ t = cc in
    let here : n + 0 ≡ n = omega arith in
    ap (λ m. lane_number w m register) here ∙ h.0 ∙ ap (value env) same
lanes-mean env w n (suc k) (s ∷ ts) register t h e =
    let next : n + suc k ≡ n + 1 + k = omega arith in
    ap (λ m. lane_number w m register) next ∙ lanes-mean env w (n + 1) k ts register t h.1 e

pub lane-mean : (env : Env) (w k : ℕ) (ts : List Tree) (register : List ℕ) (t : Tree)
    → LanesMean env w 0 ts register → slice_get ts k ≡ Some t
    → lane_number w k register ≡ value env t
lane-mean env w k ts register t h e =
    let start : k ≡ 0 + k = omega arith in
    ap (λ m. lane_number w m register) start ∙ lanes-mean env w 0 k ts register t h e

module _ (ds : List Description) (matches : List Match) (ssa : Ssa) (numbers : List ℕ) (d : ℕ)
    (x : Description) (bounds : List Bound) (rs : List (List ℕ)) (register : List ℕ)
    (sound : IsSound ssa) (are : AreMatches ds ssa matches) (have : TermsHave ssa numbers)
    (long : length numbers ≡ arguments ssa + length ssa.units)
    (there : slice_get ds d ≡ Some x) (packable : IsPackable x)
    (fill : FillEach (slice_index numbers) (operands_from bounds 0 x.params) rs)
    (answers : Answers x rs register) where
  lane-has : (lane v : ℕ) (m : Match) (t : Tree) → match_at matches d lane v ≡ Some m
      → lane_at ds d lane ≡ Some t → FitsWide ssa t v m.bound
      → ((b : Bound) → Has b m.bound → Has b bounds)
      → lane_number x.lane_width lane register ≡ slice_index numbers v
  lane-has lane v m t e at f into =
      let own = lane-term ds d lane x t there at in
      let low = (unit-above ssa v _ (fitted ssa t v m.bound sound f).at).1 in
      lane-mean (env_of rs) x.lane_width lane x.lanes register t answers.lanes own
      ∙ lane-number-is numbers bounds x.params rs fill ssa x t v m.bound have (omega arith) into
      (all-get (IsLane x.params x.lane_width) x.lanes lane t packable.lanes own) f

  pub lanes-have : (n : ℕ) (lanes : List (Option ℕ)) → are_matched matches d n lanes ≡ true
      → ((b : Bound) → Has b (bounds_from matches d n lanes) → Has b bounds)
      → LanesHave (slice_index numbers) x.lane_width n lanes register
  lanes-have n [] t into = tt
  lanes-have n (None ∷ lanes) t into =
      let next : suc n ≡ n + 1 = omega arith in
      lanes-have (n + 1) lanes (subst (λ k. are_matched matches d k lanes ≡ true) next t) into
  lanes-have n (Some v ∷ lanes) t into =
      let next : suc n ≡ n + 1 = omega arith in
      let b =
      both-true (is_some (match_at matches d n v)) (are_matched matches d (suc n) lanes) t in
      let f = found-fit ds matches ssa d n v are b.0 in
      let own = option_map_or (λ (m : Match). m.bound) (match_at matches d n v) [] in
      let rest = bounds_from matches d (n + 1) lanes in (
        lane-has n v f.found f.term f.is f.lane f.fits
            (λ c h. into c (has-append_left c own rest
            (subst (λ o. Has c (option_map_or (λ (m : Match). m.bound) o [])) (sym f.is) h))),
        lanes-have (n + 1) lanes (subst (λ k. are_matched matches d k lanes ≡ true) next b.1)
            (λ c h. into c (has-append_right c own rest h)),
      )
