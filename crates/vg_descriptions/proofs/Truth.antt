-- The descriptions of instances are true of what their entries mean.
use Rattle.std.proofs.Common.{◌≡◌, ℕ, ◌+◌, ◌*◌, ◌≤◌, Bool, true, false, List, [], ◌∷◌, ◌++◌, length, map, refl, sym, ap, ◌∙◌, subst, arith}
use Rattle.std.specs.Prelude.{Option, Some, None, Result, Ok, Err, IfSome, IsSomeAnd, nat_le}
use Rattle.std.specs.List.{AllByRecursion, list_any}
use Rattle.std.specs.Option.{option_map_or}
use Rattle.std.proofs.lemmas.Bool.{and_parts}
use Rattle.std.proofs.lemmas.Bool.Decides.{nat_tests}
use Rattle.vg_base.specs.Bits.{bits, num}
use Rattle.vg_base.proofs.Bits.{length-bits}
use Rattle.vg_bits.specs.BitList.{IsBits}
use Rattle.vg_bits.proofs.BitLists.{IsBits-bits, num-range-bits}
use Rattle.vg_terms.specs.Term.{Tree}
use Rattle.vg_terms.specs.Value.{value}
use Rattle.vg_canon.specs.Canonical.{canonical}
use Rattle.vg_canon.proofs.Forms.{canonical-settled}
use Rattle.vg_program.specs.Meaning.{lane_number}
use Rattle.vg_program.specs.Valid.{IsImm}
use Rattle.vg_pseudo.specs.declared.header.Header.{Header}
use Rattle.vg_pseudo.specs.declared.header.ImmRange.{ImmRange}
use Rattle.vg_pseudo.specs.declared.header.Param.{Param}
use Rattle.vg_pseudo.specs.Tree.{Operation}
use Rattle.vg_pseudo.specs.Resolved.{Resolved}
use Rattle.vg_pseudo.specs.Resolve.{NameFault, resolve}
use Rattle.vg_range.specs.Immediates.{has_instance, immediate_of}
use Rattle.vg_range.specs.Unrolled.{meant, meant_by}
use Rattle.vg_shapes.specs.Description.{Description, IsPackable}
use Rattle.vg_shapes.specs.Lane.{Lane, known, big, dynamic}
use Rattle.vg_shapes.specs.Registers.{AllBits, env_of}
use Rattle.vg_lift.specs.Instances.{HasInstance, IsLaneOf, MeanLanes, registers}
use Rattle.vg_lanes.specs.declared.cause.Cause.{Cause}
use Rattle.vg_lanes.specs.Described.{packable, by_cause, canonical_lane, cause_of, described, description, immediate, is_big, is_dynamic, terms_of}
use Rattle.vg_catalog.specs.Called.{answer_of, called_by, entry_named, headers_of}
use Rattle.vg_catalog.specs.Entries.{Entry, name_of}
use Rattle.vg_emission.specs.Fit.{HasHeader, IsCalled}
use Rattle.vg_emission.specs.Truth.{Answers, AreRegisters, IsCallable, IsRegisterWidth, IsTrueOf, LanesMean}
use Rattle.vg_descriptions.specs.Descriptions.{IsNumbered, IsOf}
use Rattle.vg_descriptions.specs.Proper.{IsProper}
use Rattle.vg_descriptions.proofs.Bits.{num-part}
use Rattle.vg_descriptions.proofs.Entries.{header-named}
use Rattle.vg_descriptions.proofs.Runs.{meaning-bits}

meant-bits : (r : Result Resolved NameFault) (given : List ℕ) → IsBits (meant_by r given)
meant-bits (Ok r) given = meaning-bits r given
meant-bits (Err fault) given = tt

-- what an entry means for registers and an immediate
abbrev left : Header → Operation → ℕ → List (List ℕ) → List ℕ
left h o imm regs = meant h o (map num regs ++ imm ∷ [])

lane-value : (h : Header) (o : Operation) (imm lane : ℕ) (t : Tree) (regs : List (List ℕ))
    → IsLaneOf h o imm lane t → AllBits regs → map length regs ≡ registers h
    → lane * h.lane_width + h.lane_width ≤ h.register
    → lane_number h.lane_width lane (bits h.register (num (left h o imm regs))) ≡ value (env_of regs) (canonical t)
lane-value h o imm lane t regs is all e fits =
    num-range-bits (lane * h.lane_width) h.lane_width h.register (num (left h o imm regs)) fits
    ∙ sym (num-part (lane * h.lane_width) h.lane_width (left h o imm regs) (meant-bits (resolve h o) _))
    ∙ sym (is.means regs all e)
    ∙ sym ((canonical-settled t is.is_lane.formed).keeps.value (env_of regs))

-- lanes that all have terms
lanes-mean : (h : Header) (o : Operation) (imm n : ℕ) (ls : List Lane) (regs : List (List ℕ))
    → MeanLanes h o imm n ls → list_any is_dynamic (map canonical_lane ls) ≡ false
    → list_any is_big (map canonical_lane ls) ≡ false → AllBits regs → map length regs ≡ registers h
    → (n + length ls) * h.lane_width ≤ h.register
    → LanesMean (env_of regs) h.lane_width n (terms_of (map canonical_lane ls)) (bits h.register (num (left h o imm regs)))
lanes-mean h o imm n [] regs m d b all e fits = tt
lanes-mean h o imm n (known t ∷ ls) regs m d b all e fits =
    let inside : n * h.lane_width + h.lane_width ≤ h.register = omega (arith, fits, more) in
    let behind : (n + 1 + length ls) * h.lane_width ≤ h.register = omega (arith, fits) in
    (lane-value h o imm n t regs m.0 all e inside, lanes-mean h o imm (n + 1) ls regs m.1 d b all e behind)
  where
    more : (n + (1 + length ls)) * h.lane_width ≡ n * h.lane_width + h.lane_width + length ls * h.lane_width
    more = omega arith
lanes-mean h o imm n (big ∷ ls) regs m d b all e fits = absurd (cc)
lanes-mean h o imm n (dynamic ∷ ls) regs m d b all e fits = absurd (cc)

-- ---- causes

-- no lane depends on data, and none is too large
pub record AllKnown (lanes : List Lane) : Type 0 where
  pub static : list_any is_dynamic lanes ≡ false
  pub small : list_any is_big lanes ≡ false

all-known : (lanes : List Lane) → cause_of lanes ≡ None → AllKnown lanes
all-known lanes e = by (list_any is_dynamic lanes) (list_any is_big lanes) refl refl e
  where
    by : (d b : Bool) → list_any is_dynamic lanes ≡ d → list_any is_big lanes ≡ b → cause_of lanes ≡ None → AllKnown lanes
    by false false d b e = record { static = d; small = b }
    by true b d _ e = absurd (let f = rw d at e in cc)
    by false true d b e = absurd (let f = rw (d, b) at e in cc)

-- a description is that of lanes without a cause
record IsPacked (h : Header) (imm : ℕ) (forms : List Lane) (d : Description) : Type 0 where
  pub known : AllKnown forms
  pub same : description h imm forms ≡ d

packed : (h : Header) (imm : ℕ) (forms : List Lane) (d : Description) → by_cause h imm forms (cause_of forms) ≡ packable d
    → IsPacked h imm forms d
packed h imm forms d e = by (cause_of forms) refl e
  where
    by : (c : Option Cause) → cause_of forms ≡ c → by_cause h imm forms c ≡ packable d → IsPacked h imm forms d
    by None c e = record { known = all-known forms c; same = cc }
    by (Some cause) c e = absurd (cc)

-- ---- calls

-- what an entry gives is what its description says
answers : (h : Header) (o : Operation) (imm : ℕ) (ls : List Lane) (regs : List (List ℕ)) → MeanLanes h o imm 0 ls
    → length ls * h.lane_width ≡ h.register → AllKnown (map canonical_lane ls) → AreRegisters (registers h) regs
    → Answers (description h imm (map canonical_lane ls)) regs (bits h.register (num (left h o imm regs)))
answers h o imm ls regs m e k are = record {
  long = length-bits h.register _;
  bits = IsBits-bits h.register _;
  lanes = lanes-mean h o imm 0 ls regs m k.static k.small are.bits are.long (omega (arith, e));
}

called : (entries : List Entry) (e : Entry) (regs : List (List ℕ)) (imm : ℕ) → entry_named entries (name_of e) ≡ Some e
    → IsNumbered e.header imm
    → called_by entries (name_of e) regs (immediate e.header.imm imm)
    ≡ bits e.header.register (num (left e.header e.operation imm regs))
called entries e regs imm named at =
    ap (λ found. option_map_or (λ x. answer_of x regs (immediate e.header.imm imm)) found []) named
    ∙ ap (λ n. bits e.header.register (num (meant e.header e.operation (map num regs ++ n ∷ [])))) at

pub is-true : (entries : List Entry) (e : Entry) (imm : ℕ) (ls : List Lane) → entry_named entries (name_of e) ≡ Some e
    → IsNumbered e.header imm → MeanLanes e.header e.operation imm 0 ls
    → length ls * e.header.lane_width ≡ e.header.register → AllKnown (map canonical_lane ls)
    → IsTrueOf (called_by entries) (description e.header imm (map canonical_lane ls))
is-true entries e imm ls named at m fill all =
    λ regs are. subst (Answers (description e.header imm (map canonical_lane ls)) regs)
    (sym (called entries e regs imm named at))
    (answers e.header e.operation imm ls regs m fill all are)

-- ---- what else is known of a description

widths-of : (ps : List Param) → AllByRecursion (λ q. IsRegisterWidth q.register) ps → AllByRecursion IsRegisterWidth (map (λ p. p.register) ps)
widths-of [] h = tt
widths-of (p ∷ ps) h = (h.0, widths-of ps h.1)

is-callable : (h : Header) (imm : ℕ) (forms : List Lane) → IsProper h → IsPackable (description h imm forms) → IsCallable (description h imm forms)
is-callable h imm forms proper kept = record {
  packable = kept;
  lane = proper.lane;
  register = proper.register;
  params = widths-of h.params proper.params;
}

is-imm : (r : Option ImmRange) (imm : ℕ) → IfSome r (λ r. r.hi ≤ 255) → has_instance r (immediate_of r imm) ≡ true → IsImm r (immediate r imm)
is-imm None imm byte has = tt
is-imm (Some r) imm byte has =
    let parts = and_parts (nat_le r.lo imm) (nat_le imm r.hi) has in
    let low : r.lo ≤ imm = grind (arith, nat_tests, parts.0) in
    let high : imm ≤ r.hi = grind (arith, nat_tests, parts.1) in
    (omega (arith, high, byte), low, high)

is-called : (h : Header) (imm : ℕ) (forms : List Lane) → IsProper h → HasInstance h imm → IsCalled (description h imm forms) h
is-called h imm forms proper has = record {
  params = refl;
  immediate = is-imm h.imm imm proper.byte has;
  register = refl;
  cost = refl;
}

has-header : (entries : List Entry) (e : Entry) (imm : ℕ) (forms : List Lane) → entry_named entries (name_of e) ≡ Some e
    → IsProper e.header → HasInstance e.header imm → HasHeader (headers_of entries) (description e.header imm forms)
has-header entries e imm forms named proper has =
    (proper.name, subst (λ o. IsSomeAnd o (IsCalled (description e.header imm forms))) (sym (header-named entries (name_of e) e named)) (is-called e.header imm forms proper has))

pub is-of : (entries : List Entry) (e : Entry) (imm : ℕ) (ls : List Lane) (d : Description)
    → entry_named entries (name_of e) ≡ Some e → IsProper e.header → HasInstance e.header imm → IsNumbered e.header imm
    → MeanLanes e.header e.operation imm 0 ls → length ls * e.header.lane_width ≡ e.header.register
    → described e.header imm ls ≡ packable d → IsPackable d → IsOf entries d
is-of entries e imm ls d named proper has at m fill is kept =
    let forms = map canonical_lane ls in
    let p = packed e.header imm forms d is in
    subst (IsOf entries) p.same (record {
      is_true = is-true entries e imm ls named at m fill p.known;
      callable = is-callable e.header imm forms proper (subst IsPackable (sym p.same) kept);
      header = has-header entries e imm forms named proper has;
    })
