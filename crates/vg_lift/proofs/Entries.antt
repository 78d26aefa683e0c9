-- The instances of accepted entries: the widths of their registers, and what the terms of their
-- lanes mean.
use Rattle.std.proofs.Common.{◌≡◌, ℕ, zero, suc, ◌+◌, ◌*◌, ◌<◌, ◌≤◌, refl, sym, ap, ◌∙◌, subst, arith, true, false, List, [], ◌∷◌, ◌++◌, length, get_or, take}
use Rattle.std.specs.Prelude.{map, Option, Some, None, Result, Ok, Err}
use Rattle.std.proofs.Math.Logic.{∥∥₁_elim}
use Rattle.std.proofs.Props.{props}
use Rattle.std.proofs.lemmas.List.{length-map}
use Rattle.vg_base.specs.Bits.{bits, num}
use Rattle.vg_base.proofs.Bind.{bind_ok}
use Rattle.vg_base.proofs.Bits.{length-bits}
use Rattle.vg_bits.proofs.BitLists.{IsBits-bits}
use Rattle.vg_bits.specs.Range.{range}
use Rattle.vg_terms.specs.Order.{is_same_term}
use Rattle.vg_terms.proofs.Orders.{same_term, same_term-means}
use Rattle.vg_terms.specs.Term.{Tree}
use Rattle.vg_shapes.specs.Registers.{AllBits, LeavesInside}
use Rattle.vg_pseudo.specs.declared.header.Header.{Header}
use Rattle.vg_pseudo.specs.declared.header.Param.{Param}
use Rattle.vg_pseudo.specs.declared.header.ImmRange.{ImmRange}
use Rattle.vg_pseudo.specs.Tree.{Operation}
use Rattle.vg_pseudo.specs.Names.{bracketed_in, Register}
use Rattle.vg_pseudo.specs.Resolved.{Resolved}
use Rattle.vg_pseudo.specs.Resolve.{NameFault, functions_of, code_of, local_assignments, local_registers, param_register, imm_registers, result_register, operand_registers, operation_scope, resolve}
use Rattle.vg_script.specs.Formed.{ScriptFormed}
use Rattle.vg_script.specs.Views.{Whole}
use Rattle.vg_interval.specs.declared.fault.RangeFault.{RangeFault}
use Rattle.vg_range.specs.Acceptance.{named}
use Rattle.vg_range.specs.Immediates.{immediate_of}
use Rattle.vg_range.specs.Unrolled.{IsGiven, left_by, meant, unrolled, whole_from}
use Rattle.vg_range.specs.Walk.{WalkState, instance_at}
use Rattle.vg_range_laws.specs.Static.{IsStatic}
use Rattle.vg_range_laws.proofs.Instances.{instances-are-static}
use Rattle.vg_lift.specs.Instances.{InResult, IsLaneOf, is_dynamic_in, registers, term_in}
use Rattle.vg_lift.specs.LaneTerm.{lane_term}
use Rattle.vg_lift.specs.Means.{AreParameters}
use Rattle.vg_lift.specs.Means as law
use Rattle.vg_lift.proofs.Inside.{leaves-are-parameters}
use Rattle.vg_lift.proofs.Lanes.{lane-terms-mean-their-lanes}
use Rattle.vg_lift.proofs.StaticOnce.{static_once}

-- ---- the registers of an instance

abbrev resolved_ok : Resolved → Result Resolved NameFault
resolved_ok r = Ok r

abbrev named_ok : Resolved → Result Resolved RangeFault
named_ok r = Ok r

abbrev whole_ok : Whole → Result Whole RangeFault
whole_ok i = Ok i

same_resolved : {a b : Resolved} → resolved_ok a ≡ resolved_ok b → a ≡ b
same_resolved e = cc

same_whole : {a b : Whole} → whole_ok a ≡ whole_ok b → a ≡ b
same_whole e = cc

named_is : (x : Result Resolved NameFault) (r : Resolved) → named x ≡ named_ok r → x ≡ resolved_ok r
named_is (Ok q) r e = cc
named_is (Err f) r e = absurd (cc)

-- the first registers are the parameters
first_widths : (ps : List Param) (others : List Register) → take (length ps) (map (λ r. r.width) (map param_register ps ++ others)) ≡ map (λ p. p.register) ps
first_widths [] others = refl
first_widths (p ∷ ps) others = ap (λ l. p.register ∷ l) (first_widths ps others)

width_behind : (xs : List Register) (y : Register) (zs : List Register) → get_or (map (λ r. r.width) ((xs ++ y ∷ []) ++ zs)) (length xs) 0 ≡ y.width
width_behind [] y zs = refl
width_behind (x ∷ xs) y zs = width_behind xs y zs

in_front : (xs ys : List Register) (y : Register) (zs : List Register) → ((xs ++ ys) ++ y ∷ []) ++ zs ≡ xs ++ ((ys ++ y ∷ []) ++ zs)
in_front [] ys y zs = refl
in_front (x ∷ xs) ys y zs = ap (λ l. x ∷ l) (in_front xs ys y zs)

-- what is known of the registers
record Registered (h : Header) (i : Whole) : Type 0 where
  params : take (length h.params) i.widths ≡ registers h
  result : get_or i.widths i.result 0 ≡ h.register

stands : (h : Header) (o : Operation) (imm : Option ℕ) (i : Whole) → unrolled h o imm ≡ whole_ok i → Registered h i
stands h o imm i e =
    let p = bind_ok (named (resolve h o)) _ e in
    let q = bind_ok (instance_at true p.0 imm) (λ (w : WalkState). whole_ok (whole_from p.0 w)) p.2 in
    let same : whole_from p.0 q.0 ≡ i = same_whole q.2 in
    let r = named_is (resolve h o) p.0 p.1 in
    let fs = bind_ok (functions_of [] o.defines) _ r in
    let c = bind_ok (code_of (operation_scope h o) o.body) _ fs.2 in
    let is = same_resolved c.2 in
    let given = operand_registers h ++ result_register h ∷ [] in
    let named_there = local_assignments given o.body in
    let locals = local_registers given (bracketed_in [] o.body) named_there in
    subst (Registered h) same (record {
      params = ap (λ (s : Resolved). take (length h.params) s.body.widths) (sym is)
          ∙ ap (λ (l : List Register). take (length h.params) (map (λ s. s.width) l)) (in_front (map param_register h.params) (imm_registers h.imm) (result_register h) locals)
          ∙ first_widths h.params ((imm_registers h.imm ++ result_register h ∷ []) ++ locals);
      result = ap (λ (s : Resolved). get_or s.body.widths s.result 0) (sym is)
          ∙ width_behind (operand_registers h) (result_register h) locals;
    })

-- ---- where it is only known that there is an instance

pub params_there : (h : Header) (o : Operation) (imm : Option ℕ) (i : Whole) → ∥ unrolled h o imm ≡ Ok i ∥₁ → take (length h.params) i.widths ≡ registers h
params_there h o imm i there = ∥∥₁_elim there (hlevel props) (λ e. (stands h o imm i e).params)

pub result_there : (h : Header) (o : Operation) (imm : Option ℕ) (i : Whole) → ∥ unrolled h o imm ≡ Ok i ∥₁ → get_or i.widths i.result 0 ≡ h.register
result_there h o imm i there = ∥∥₁_elim there (hlevel props) (λ e. (stands h o imm i e).result)

pub static_there : (h : Header) (o : Operation) (imm : Option ℕ) (i : Whole) → ∥ unrolled h o imm ≡ Ok i ∥₁ → i.is_dynamic ≡ false → IsStatic i.script
static_there h o imm i there off = ∥∥₁_elim there (static_once i.script) (λ e. instances-are-static h o imm i e off)

pub dynamic_there : (h : Header) (o : Operation) (imm : Option ℕ) (i : Whole) → ∥ unrolled h o imm ≡ Ok i ∥₁ → is_dynamic_in (unrolled h o imm) ≡ i.is_dynamic
dynamic_there h o imm i there = ∥∥₁_elim there (hlevel props) (λ e. ap is_dynamic_in e)

is_itself : (t : Tree) → is_same_term t t ≡ true
is_itself t = (same_term-means t t).1 refl

pub term_there : (h : Header) (o : Operation) (imm : Option ℕ) (i : Whole) (n number width lane : ℕ) → ∥ unrolled h o imm ≡ Ok i ∥₁
    → lane_term i n number width lane ≡ term_in (unrolled h o imm) n number width lane
term_there h o imm i n number width lane there =
    let t = lane_term i n number width lane in
    same_term t (term_in (unrolled h o imm) n number width lane)
    (∥∥₁_elim there (hlevel props) (λ e. ap (λ x. is_same_term t (term_in x n number width lane)) e ∙ is_itself t))

-- ---- what the terms mean

taken_at : (ws : List ℕ) (n p : ℕ) → p < n → get_or (take n ws) p 0 ≡ get_or ws p 0
taken_at ws zero p h = absurd (omega arith)
taken_at [] (suc n) p h = refl
taken_at (w ∷ ws) (suc n) zero h = refl
taken_at (w ∷ ws) (suc n) (suc p) h = taken_at ws n p (omega arith)

length_at : (regs : List (List ℕ)) (p : ℕ) → get_or (map length regs) p 0 ≡ length (get_or regs p [])
length_at [] p = refl
length_at (r ∷ regs) zero = refl
length_at (r ∷ regs) (suc p) = length_at regs p

count_of : (h : Header) (regs : List (List ℕ)) → map length regs ≡ registers h → length regs ≡ length h.params
count_of h regs e = sym (length-map regs length) ∙ ap (λ (l : List ℕ). length l) e ∙ length-map h.params (λ (p : Param). p.register)

are_parameters : (h : Header) (i : Whole) (regs : List (List ℕ)) → take (length h.params) i.widths ≡ registers h → AllBits regs → map length regs ≡ registers h → AreParameters i regs
are_parameters h i regs params all e = record {
  bits = all;
  widths = λ p less _.
      sym (taken_at i.widths (length h.params) p (omega (arith, count_of h regs e, less)))
      ∙ ap (λ l. get_or l p 0) (params ∙ sym e)
      ∙ length_at regs p;
}

behind_numbers : (regs : List (List ℕ)) (n imm : ℕ) → length regs ≡ n → get_or (map num regs ++ imm ∷ []) n 0 ≡ imm
behind_numbers [] zero imm e = refl
behind_numbers [] (suc n) imm e = absurd (omega (arith, e))
behind_numbers (r ∷ regs) zero imm e = absurd (omega (arith, e))
behind_numbers (r ∷ regs) (suc n) imm e = behind_numbers regs n imm (omega (arith, e))

is_given : (h : Header) (r : Option ImmRange) (imm : ℕ) (given : List ℕ) → get_or given (length h.params) 0 ≡ imm → IsGiven h (immediate_of r imm) given
is_given h None imm given e = tt
is_given h (Some r) imm given e = e

-- registers of zeros
zeros : List ℕ → List (List ℕ)
zeros [] = []
zeros (w ∷ ws) = bits w 0 ∷ zeros ws

zeros_bits : (ws : List ℕ) → AllBits (zeros ws)
unfolding zeros
zeros_bits [] = tt
zeros_bits (w ∷ ws) = (IsBits-bits w 0, zeros_bits ws)

zeros_long : (ws : List ℕ) → map length (zeros ws) ≡ ws
unfolding zeros
zeros_long [] = refl
zeros_long (w ∷ ws) = ap (λ n. n ∷ map length (zeros ws)) (length-bits w 0) ∙ ap (λ l. w ∷ l) (zeros_long ws)

-- what is known of an instance
pub record Instanced (h : Header) (o : Operation) (imm : ℕ) (i : Whole) : Type 0 where
  pub params : take (length h.params) i.widths ≡ registers h
  pub result : get_or i.widths i.result 0 ≡ h.register
  pub formed : ScriptFormed i.widths i.script
  pub static : IsStatic i.script
  pub means : (given : List ℕ) → IsGiven h (immediate_of h.imm imm) given → left_by i given ≡ meant h o given

-- a lane of an instance, for these registers
lane_means : (h : Header) (o : Operation) (imm : ℕ) (i : Whole) (lane : ℕ) → Instanced h o imm i → InResult h lane
    → (regs : List (List ℕ)) → AllBits regs → map length regs ≡ registers h
    → law.MeansLane (lane_term i (length h.params) imm h.lane_width lane) h.lane_width regs
    (num (range (lane * h.lane_width) h.lane_width (meant h o (map num regs ++ imm ∷ []))))
lane_means h o imm i lane known at regs all e =
    let w = h.lane_width in
    let given = map num regs ++ imm ∷ [] in
    let inside : lane * w + w ≤ get_or i.widths i.result 0 = subst (λ n. lane * w + w ≤ n) (sym known.result) at.inside in
    let means = lane-terms-mean-their-lanes i known.formed known.static regs imm (are_parameters h i regs known.params all e) w lane at.width inside in
    let same : left_by i given ≡ meant h o given = known.means given (is_given h h.imm imm given (behind_numbers regs (length h.params) imm (count_of h regs e))) in
    subst (λ n. law.MeansLane (lane_term i n imm w lane) w regs (num (range (lane * w) w (meant h o given)))) (count_of h regs e)
    (subst (λ l. law.MeansLane (lane_term i (length regs) imm w lane) w regs (num (range (lane * w) w l))) same means)

pub lane_is : (h : Header) (o : Operation) (imm : ℕ) (i : Whole) (lane : ℕ) → Instanced h o imm i → InResult h lane
    → IsLaneOf h o imm lane (lane_term i (length h.params) imm h.lane_width lane)
lane_is h o imm i lane known at =
    let t = lane_term i (length h.params) imm h.lane_width lane in
    let ws = registers h in
    let first = lane_means h o imm i lane known at (zeros ws) (zeros_bits ws) (zeros_long ws) in
    record {
      is_lane = record {
        formed = first.formed;
        wide = first.wide;
        inside = subst (λ l. LeavesInside l t) known.params (leaves-are-parameters i (length h.params) imm h.lane_width lane);
      };
      means = λ regs all e. (lane_means h o imm i lane known at regs all e).means;
    }
