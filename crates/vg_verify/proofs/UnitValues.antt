-- The stores of a kernel, one unit after the other, as the definition takes them by their numbers.
use Rattle.std.proofs.Common.{◌≡◌, ℕ, suc, ◌+◌, ◌-◌, Bool, false, List, [], ◌∷◌, ◌++◌, length, map, Option, Some, refl, sym, ap, ◌∙◌, subst, arith}
use Rattle.std.specs.Prelude.{slice_get, slice_index_or}
use Rattle.std.specs.Option.{option_or}
use Rattle.std.proofs.lemmas.Bool.{cond-false, le-ltb}
use Rattle.vg_base.specs.Trap.{◌>>=◌}
use Rattle.vg_base.specs.Width.{bits_of}
use Rattle.vg_base.specs.declared.address.Address.{Address}
use Rattle.vg_base.specs.declared.width.Width.{Width}
use Rattle.vg_terms.specs.Term.{Tree}
use Rattle.vg_lift.specs.Gather.{Bit, bits_from}
use Rattle.vg_shapes.specs.declared.ssa.Ssa.{Ssa}
use Rattle.vg_shapes.specs.declared.ssa_unit.SsaUnit.{SsaUnit}
use Rattle.vg_shapes.specs.declared.wanted.Wanted.{Wanted}
use Rattle.vg_shapes.specs.declared.ssa_unit.SsaUnit.TheVariants.{Load, Store, Operation}
use Rattle.vg_shapes.specs.Layout.{access_of}
use Rattle.vg_shapes.specs.Order.{numbers_from}
use Rattle.vg_shapes.specs.Units.{arguments, unit_at}
use Rattle.vg_events.specs.UnitOrder.{spans, unit_events}
use Rattle.vg_ssa.specs.ValueTerm.{operand_term}
use Rattle.vg_known.specs.Cuts.{gathered}
use Rattle.vg_known.specs.Difference.{Difference, Equality, first_of, own_term, Sides, value_by}
use Rattle.vg_known.specs.Kernels.{bits_at}
use Rattle.vg_known.specs.Known.{event_bits}
use Rattle.vg_forms.specs.declared.run.Run.{Run}
use Rattle.vg_verify.specs.Finding.{HasFirst}
use Rattle.vg_verify.specs.Values.{compared, event_count, first_value, put_from, told, told_by, unit_value, values_from}
use Rattle.vg_verify.specs.Views.{pairs_in}
use Rattle.vg_verify.proofs.Finding.{same_bits}

-- ---- by the numbers of units

unit-behind : (ssa : Ssa) (k : ℕ) → unit_at ssa (arguments ssa + k) ≡ slice_get ssa.units k
unit-behind ssa k =
    cond-false _ _ _ (le-ltb (arguments ssa + k) (arguments ssa) (omega arith))
    ∙ ap (slice_get ssa.units) (let e : arguments ssa + k - arguments ssa ≡ k = omega arith in e)

abbrev all-spans : Ssa → List (List ℕ)
all-spans ssa = spans 0 (map access_of ssa.units)

events-behind : (ssa : Ssa) (k : ℕ) → unit_events ssa (arguments ssa + k) ≡ slice_index_or (all-spans ssa) k []
events-behind ssa k =
    let e : arguments ssa + k - arguments ssa ≡ k = omega arith in
    ap (λ n. slice_index_or (all-spans ssa) n []) e

-- these units stand at a place of a kernel, and the first of their events has this number
record Stand (ssa : Ssa) (n f : ℕ) (us : List SsaUnit) : Type 0 where
  units : (k : ℕ) → slice_get ssa.units (n + k) ≡ slice_get us k
  events : (k : ℕ) → slice_index_or (all-spans ssa) (n + k) [] ≡ slice_index_or (spans f (map access_of us)) k []

stand-next : (ssa : Ssa) (n f : ℕ) (u : SsaUnit) (us : List SsaUnit) → Stand ssa n f (u ∷ us) → Stand ssa (n + 1) (f + event_count u) us
stand-next ssa n f u us s = record {
  units = λ k.
      let e : n + 1 + k ≡ n + suc k = omega arith in
      ap (λ (m : ℕ). slice_get ssa.units m) e ∙ s.units (suc k);
  events = λ k.
      let e : n + 1 + k ≡ n + suc k = omega arith in
      ap (λ (m : ℕ). slice_index_or (all-spans ssa) m []) e ∙ s.events (suc k);
}

value-here : (equal : Equality) (s : Sides) (ssa : Ssa) (n f : ℕ) (u : SsaUnit) (us : List SsaUnit)
    → Stand ssa n f (u ∷ us) → unit_value equal s (arguments ssa + n) f u ≡ value_by equal s ssa (arguments ssa + n)
value-here equal s ssa n f u us st =
    let v = arguments ssa + n in
    let e : n + 0 ≡ n = omega arith in
    let unit : unit_at ssa v ≡ Some u = unit-behind ssa n ∙ ap (λ (m : ℕ). slice_get ssa.units m) (sym e) ∙ st.units 0 in
    let events : unit_events ssa v ≡ numbers_from f (event_count u) =
    events-behind ssa n ∙ ap (λ (m : ℕ). slice_index_or (all-spans ssa) m []) (sym e) ∙ st.events 0 in
    ap (λ es. own_term s u >>= λ own. told_by equal s v own (put_from s es)) (sym events)
    ∙ ap (λ o. (o >>= own_term s) >>= λ own. told_by equal s v own (put_from s (unit_events ssa v))) (sym unit)

values-are : (equal : Equality) (s : Sides) (ssa : Ssa) (n f : ℕ) (us : List SsaUnit) → Stand ssa n f us
    → values_from equal s (arguments ssa + n) f us ≡ first_of
    (map (value_by equal s ssa) (numbers_from (arguments ssa + n) (length us)))
values-are equal s ssa n f [] st = refl
values-are equal s ssa n f (u ∷ us) st =
    let a = arguments ssa in
    let e : a + n + 1 ≡ a + (n + 1) = omega arith in
    let behind = values-are equal s ssa (n + 1) (f + event_count u) us (stand-next ssa n f u us st) in
    ap (λ o. option_or o (values_from equal s (a + n + 1) (f + event_count u) us)) (value-here equal s ssa n f u us st)
    ∙ ap (λ (m : ℕ). option_or (value_by equal s ssa (a + n)) (values_from equal s m (f + event_count u) us)) e
    ∙ ap (option_or (value_by equal s ssa (a + n))) behind
    ∙ ap (λ (m : ℕ). option_or (value_by equal s ssa (a + n))
    (first_of (map (value_by equal s ssa) (numbers_from m (length us))))) (sym e)

values-first : (equal : Equality) (s : Sides) (ssa : Ssa) → values_from equal s (arguments ssa) 0 ssa.units ≡
    first_value equal s ssa
values-first equal s ssa =
    let e : arguments ssa + 0 ≡ arguments ssa = omega arith in
    let start : Stand ssa 0 0 ssa.units = record {
      units = λ k. let f : 0 + k ≡ k = omega arith in ap (λ (m : ℕ). slice_get ssa.units m) f;
      events = λ k. let f : 0 + k ≡ k = omega arith in ap (λ (m : ℕ). slice_index_or (all-spans ssa) m []) f;
    } in
    ap (λ (m : ℕ). values_from equal s m 0 ssa.units) (sym e) ∙ values-are equal s ssa 0 0 ssa.units start
    ∙ ap (λ (m : ℕ). first_of (map (value_by equal s ssa) (numbers_from m (length ssa.units)))) e

-- ---- where the bits of events are found

events-same : (f g : ℕ → List Bit) → ((e : ℕ) → f e ≡ g e) → (es : List ℕ) → event_bits f es ≡ event_bits g es
events-same f g same [] = refl
events-same f g same (e ∷ es) = ap (λ x. x ++ event_bits f es) (same e) ∙ ap (λ x. g e ++ x) (events-same f g same es)

-- a unit needs no more than the terms, the terms that were met, and where the bits of events are found
value-same : (equal : Equality) (s : Sides) (puts : List (ℕ × List Bit))
    → ((e : ℕ) → bits_at puts e ≡ bits_at s.known.puts e) → (v f : ℕ) (u : SsaUnit)
    → unit_value equal (compared s.terms s.known.met puts) v f u ≡ unit_value equal s v f u
value-same equal s puts same v f (Load a w) = refl
value-same equal s puts same v f (Operation op w k xs) = refl
value-same equal s puts same v f (Store a w x) =
    let es = numbers_from f (event_count (Store a w x)) in
    ap (λ bs. own_term s (Store a w x) >>= λ own. told_by equal s v own (gathered s.known.met bs))
    (events-same (bits_at puts) (bits_at s.known.puts) same es)

values-same : (equal : Equality) (s : Sides) (puts : List (ℕ × List Bit))
    → ((e : ℕ) → bits_at puts e ≡ bits_at s.known.puts e) → (v f : ℕ) (us : List SsaUnit)
    → values_from equal (compared s.terms s.known.met puts) v f us ≡ values_from equal s v f us
values-same equal s puts same v f [] = refl
values-same equal s puts same v f (u ∷ us) =
    ap (λ o. option_or o (values_from equal (compared s.terms s.known.met puts) (v + 1) (f + event_count u) us))
    (value-same equal s puts same v f u)
    ∙ ap (option_or (unit_value equal s v f u)) (values-same equal s puts same (v + 1) (f + event_count u) us)

-- what is found unit by unit is the least store that differs
pub all_values : (equal : Equality) (s : Sides) (ssa : Ssa) (table : List (ℕ × List Run)) (puts : List (ℕ × List Bit))
    (terms met : List Tree) (number : ℕ) (units : List SsaUnit) (found : Option Difference)
    → puts ≡ s.known.puts → terms ≡ s.terms → met ≡ s.known.met → number ≡ arguments ssa → units ≡ ssa.units
    → HasFirst table puts
    → found ≡ values_from equal (compared terms met (pairs_in table)) number 0 units → found ≡ first_value equal s ssa
all_values equal s ssa table puts terms met number units found stored named kept first all has is =
    let here : HasFirst table s.known.puts = subst (HasFirst table) stored has in
    is
    ∙ (λ i. values_from equal (compared (named i) (kept i) (pairs_in table)) (first i) 0 (all i))
    ∙ values-same equal s (pairs_in table) (same_bits table s.known.puts here) (arguments ssa) 0 ssa.units
    ∙ values-first equal s ssa

-- ---- one store

-- a store whose two terms were made, and held against each other, is told as it stands in the kernel
pub store_value : (equal : Equality) (terms met : List Tree) (puts : List (ℕ × List Bit)) (v f : ℕ) (u : SsaUnit)
    (a : Address) (w : Width) (x : Wanted) (own put : Tree) (before now : List Tree) (n : ℕ)
    (same : Bool) (found : Option Difference)
    → u ≡ Store a w x → own ≡ gathered met (bits_from (operand_term terms x) 0 (bits_of w)) → before ≡ met
    → now ≡ before → n ≡ event_count u
    → put ≡ gathered before (event_bits (bits_at puts) (numbers_from f n)) → same ≡ equal now own put
    → found ≡ told same v own put
    → found ≡ unit_value equal (compared terms met puts) v f u
store_value equal terms met puts v f u a w x own put before now n same found is made kept still count stored alike
    tells =
    let many : n ≡ event_count (Store a w x) = count ∙ ap event_count is in
    let s = compared terms met puts in
    tells
    ∙ (λ i. told ((alike ∙ (λ j. equal ((still ∙ kept) j) own put)) i) v own put)
    ∙ ap (told_by equal s v own) (stored ∙ ap (λ m. gathered m (event_bits (bits_at puts) (numbers_from f n))) kept)
    ∙ ap (λ (k : ℕ). told_by equal s v own (gathered met (event_bits (bits_at puts) (numbers_from f k)))) many
    ∙ ap (λ o. told_by equal s v o (gathered met
    (event_bits (bits_at puts) (numbers_from f (event_count (Store a w x)))))) made
    ∙ sym (ap (unit_value equal s v f) is)
