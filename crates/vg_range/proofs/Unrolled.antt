-- Accepted entries are written out: each of their instances is accepted with its script, and the script means what the
-- entry means.
use Rattle.std.proofs.Common.{◌≡◌, ℕ, zero, inl, inr, suc, ◌+◌, ◌-◌, ◌<◌, ◌≤◌, ◌&&◌, refl, sym, ap, ◌∙◌, subst, arith, Bool, true, false, List, [], ◌∷◌, ◌++◌, length, get_or, map, take, replicate, Option, Some, None, Result, Ok, Err}
use Rattle.std.specs.Prelude.{nat_le}
use Rattle.std.proofs.Math.Logic.{∥∥₁_elim, ∥∥₁_map}
use Rattle.std.proofs.Props.{props}
use Rattle.vg_script.proofs.Unique.{script_formed_once}
use Rattle.std.proofs.lemmas.Bool.{cases_lt, leb-true}
use Rattle.std.proofs.lemmas.Option.{none-some, same_Some}
use Rattle.vg_base.specs.Bits.{bits, num}
use Rattle.vg_base.proofs.Bind.{bind_ok}
use Rattle.vg_base.proofs.Bits.{num-bits}
use Rattle.vg_base.specs.Gives.{FailsBy}
use Rattle.vg_pseudo.specs.declared.header.Header.{Header}
use Rattle.vg_pseudo.specs.declared.header.ImmRange.{ImmRange}
use Rattle.vg_pseudo.specs.declared.header.Param.{Param}
use Rattle.vg_pseudo.specs.Tree.{Operation}
use Rattle.vg_pseudo.specs.Names.{Register}
use Rattle.vg_pseudo.specs.Resolved.{Resolved}
use Rattle.vg_pseudo.specs.Resolve.{NameFault, resolve, functions_of, code_of, operation_scope, param_register, imm_registers, result_register}
use Rattle.vg_script.specs.Cells.{entered}
use Rattle.vg_interval.specs.declared.fault.RangeFault.{RangeFault}
use Rattle.vg_interval.specs.declared.fault.RangeFault.TheVariants.{UnknownName, IndexOutside, DynamicIndex, TooWide, TooLong, BadExtend, BareRegister, Memory}
use Rattle.vg_interval.specs.Views.{told}
use Rattle.vg_range.specs.Acceptance.{checked, judged, judged_from, named}
use Rattle.vg_range.specs.Immediates.{has_instance, IsByte}
use Rattle.vg_range.specs.Meant.{HasImmediate, ScriptMeans}
use Rattle.vg_range.specs.Unrolled.{whole_from, unrolled, is_memory, meant_by, IsGiven, MeansEntry, IsFormedEntry}
use Rattle.vg_range.specs.Walk.{WalkState, imm_constant, instance_at}
use Rattle.vg_names.specs.Written.{IsWritten, ResolvedAreProper}
use Rattle.vg_range.proofs.Calls.{instances-mean}
use Rattle.vg_range.proofs.Instances.{accepted-are-written}

-- ---- an accepted entry

-- the resolved operation of an accepted entry, and that its instances are accepted
pub record Accepts (h : Header) (o : Operation) (r : Resolved) : Type 0 where
  pub resolves : resolve h o ≡ Ok r
  pub judges : judged h.imm r ≡ Ok r

abbrev judged_ok : Resolved → Result Resolved RangeFault
judged_ok r = Ok r

same_judged : {r q : Resolved} → judged_ok r ≡ judged_ok q → r ≡ q
same_judged e = cc

judged_is : (n : ℕ) (r q : Resolved) (imm : ℕ) → judged_from r imm n ≡ Ok q → r ≡ q
unfolding judged_from
judged_is zero r q imm e = same_judged e
judged_is (suc n) r q imm e =
    let w = bind_ok (instance_at false r (Some imm)) (λ w. judged_from r (imm + 1) n) e in
    judged_is n r q (imm + 1) w.2

judged_same : (i : Option ImmRange) (r q : Resolved) → judged i r ≡ Ok q → r ≡ q
judged_same None r q e =
    let w = bind_ok (instance_at false r None) (λ w. Ok r) e in same_judged w.2
judged_same (Some i) r q e = judged_is ((i.hi - i.lo) + 1) r q i.lo e

resolves_of : (x : Result Resolved NameFault) (r : Resolved) → named x ≡ Ok r → x ≡ Ok r
resolves_of (Ok q) r e = cc
resolves_of (Err f) r e = absurd (cc)

pub accepts : (h : Header) (o : Operation) (r : Resolved) → checked h o ≡ Ok r → Accepts h o r
unfolding checked
accepts h o r e =
    let q = bind_ok (named (resolve h o)) (judged h.imm) e in
    let same = judged_same h.imm q.0 r q.2 in
    record {
      resolves = resolves_of (resolve h o) r (q.1 ∙ ap Ok same);
      judges = subst (λ p. judged h.imm p ≡ Ok r) same q.2;
    }

-- ---- its instances

judged_each : (n : ℕ) (r q : Resolved) (lo imm : ℕ) → judged_from r lo n ≡ Ok q → lo ≤ imm → imm < lo + n
    → (w : WalkState) × (instance_at false r (Some imm) ≡ Ok w)
unfolding judged_from
judged_each zero r q lo imm e low high = absurd (omega (arith, low, high))
judged_each (suc n) r q lo imm e low high =
    let w = bind_ok (instance_at false r (Some lo)) (λ w. judged_from r (lo + 1) n) e in
    elim (cases_lt lo imm) [
      | inr here ↦
          let same : lo ≡ imm = omega (arith, low, here) in
          (w.0, subst (λ k. instance_at false r (Some k) ≡ Ok w.0) same w.1)
      | inl above ↦ judged_each n r q (lo + 1) imm w.2 (omega (arith, above)) (omega (arith, high))
    ]

both_true : (a b : Bool) → (a && b) ≡ true → (a ≡ true) × (b ≡ true)
both_true true true e = (refl, refl)
both_true true false e = absurd (cc)
both_true false b e = absurd (cc)

instance_judged : (i : Option ImmRange) (imm : Option ℕ) (r q : Resolved) → judged i r ≡ Ok q → has_instance i imm ≡ true
    → (w : WalkState) × (instance_at false r imm ≡ Ok w)
instance_judged None None r q e h =
    let w = bind_ok (instance_at false r None) (λ w. Ok r) e in (w.0, w.1)
instance_judged None (Some n) r q e h = absurd (cc)
instance_judged (Some i) None r q e h = absurd (cc)
instance_judged (Some i) (Some n) r q e h =
    let p = both_true (nat_le i.lo n) (nat_le n i.hi) h in
    let low = leb-true i.lo n p.0 in
    let high = leb-true n i.hi p.1 in
    judged_each ((i.hi - i.lo) + 1) r q i.lo n e low (omega (arith, low, high))

pub instance_written : (h : Header) (o : Operation) (r : Resolved) (imm : Option ℕ) → checked h o ≡ Ok r → has_instance h.imm imm ≡ true
    → (w : WalkState) × (instance_at true r imm ≡ Ok w)
instance_written h o r imm e has =
    let w = instance_judged h.imm imm r r (accepts h o r e).judges has in
    let v = (accepted-are-written r imm).0.accepted w.0 w.1 in
    (v.0, v.1)

-- where an instance is accepted only want of memory is left
told_none : (fault : RangeFault) (w : WalkState) (x : Result WalkState RangeFault) → x ≡ Ok w → FailsBy (told fault) x → is_memory fault ≡ true
told_none (UnknownName p) w x e f = absurd (cc)
told_none (IndexOutside p) w x e f = absurd (cc)
told_none (DynamicIndex p) w x e f = absurd (cc)
told_none (TooWide p) w x e f = absurd (cc)
told_none (TooLong p) w x e f = absurd (cc)
told_none (BadExtend p) w x e f = absurd (cc)
told_none (BareRegister p) w x e f = absurd (cc)
told_none (Memory a) w x e f = refl

pub only_memory : (h : Header) (o : Operation) (r : Resolved) (imm : Option ℕ) (fault : RangeFault)
    → checked h o ≡ Ok r → has_instance h.imm imm ≡ true → FailsBy (told fault) (instance_at true r imm) → is_memory fault ≡ true
only_memory h o r imm fault e has f =
    let w = instance_written h o r imm e has in told_none fault w.0 (instance_at true r imm) w.1 f

pub unrolled_is : (h : Header) (o : Operation) (r : Resolved) (imm : Option ℕ) (w : WalkState) → checked h o ≡ Ok r → instance_at true r imm ≡ Ok w
    → unrolled h o imm ≡ Ok (whole_from r w)
unrolled_is h o r imm w e is = rw ((accepts h o r e).resolves, is) refl

-- ---- the immediate

abbrev no_number : Option ℕ
no_number = None

none_at : (p : ℕ) (ws : List ℕ) (k : ℕ) → get_or (imm_constant p None ws) k None ≡ no_number
none_at p [] k = refl
none_at zero (w ∷ ws) zero = refl
none_at zero (w ∷ ws) (suc k) = none_at zero ws k
none_at (suc zero) (w ∷ ws) zero = refl
none_at (suc zero) (w ∷ ws) (suc k) = none_at zero ws k
none_at (suc (suc p)) (w ∷ ws) zero = refl
none_at (suc (suc p)) (w ∷ ws) (suc k) = none_at (suc p) ws k

imm_at : (p n : ℕ) (ws : List ℕ) (k m : ℕ) → get_or (imm_constant (suc p) (Some n) ws) k None ≡ Some m
    → (k ≡ p) × (m ≡ n) × k < length ws
imm_at p n [] k m e = absurd (cc)
imm_at zero n (w ∷ ws) zero m e = (refl, sym (same_Some _ _ e), omega arith)
imm_at zero n (w ∷ ws) (suc k) m e = absurd (none-some m (sym (none_at zero ws k) ∙ e))
imm_at (suc p) n (w ∷ ws) zero m e = absurd (cc)
imm_at (suc p) n (w ∷ ws) (suc k) m e =
    let a = imm_at p n ws k m e in (ap suc a.0, a.1, omega (arith, a.2))

entered_at : (ws ns : List ℕ) (k : ℕ) → k < length ws → get_or (entered ws ns) k [] ≡ bits (get_or ws k 0) (get_or ns k 0)
entered_at [] ns k h = absurd (omega (arith, h))
entered_at (w ∷ ws) [] zero h = refl
entered_at (w ∷ ws) [] (suc k) h = entered_at ws [] k (omega (arith, h))
entered_at (w ∷ ws) (n ∷ ns) zero h = refl
entered_at (w ∷ ws) (n ∷ ns) (suc k) h = entered_at ws ns k (omega (arith, h))

taken_at : (p : ℕ) (ns : List ℕ) → get_or (take (suc p) ns) p 0 ≡ get_or ns p 0
taken_at p [] = refl
taken_at zero (n ∷ ns) = refl
taken_at (suc p) (n ∷ ns) = taken_at p ns

operands_with : (ps : List Param) (i : Register) → length (map param_register ps ++ i ∷ []) ≡ suc (length ps)
operands_with [] i = refl
operands_with (p ∷ ps) i = ap suc (operands_with ps i)

abbrev widths : List Register → List ℕ
widths rs = map (λ r. r.width) rs

width_behind : (ps : List Param) (i d : Register) (rest : List Register)
    → get_or (widths (((map param_register ps ++ i ∷ []) ++ d ∷ []) ++ rest)) (length ps) 0 ≡ i.width
width_behind [] i d rest = refl
width_behind (p ∷ ps) i d rest = width_behind ps i d rest

byte_given : (ws ns : List ℕ) (k n : ℕ) → k < length ws → get_or ws k 0 ≡ 8 → get_or ns k 0 ≡ n → n < 256
    → num (get_or (entered ws ns) k []) ≡ n
byte_given ws ns k n h w e small =
    ap num (entered_at ws ns k h ∙ ap (λ (v : ℕ). bits v (get_or ns k 0)) w ∙ ap (bits 8) e)
    ∙ num-bits 8 n ∙ omega (arith, small)

abbrev IsGivenAt : List Param → Option ℕ → List ℕ → Type 0
IsGivenAt ps None given = Unit {0}
IsGivenAt ps (Some n) given = get_or given (length ps) 0 ≡ n

given_at : (h : Header) (imm : Option ℕ) (given : List ℕ) → IsGiven h imm given → IsGivenAt h.params imm given
given_at h None given is = tt
given_at h (Some n) given is = is

laid : (ps : List Param) (i : Option ImmRange) (d : Register) (rest : List Register) (imm : Option ℕ) (given : List ℕ)
    → has_instance i imm ≡ true → IsByte imm → IsGivenAt ps imm given
    → (k n : ℕ) → get_or (imm_constant (length (map param_register ps ++ imm_registers i)) imm (widths (((map param_register ps ++ imm_registers i) ++ d ∷ []) ++ rest))) k None ≡ Some n
    → num (get_or (entered (widths (((map param_register ps ++ imm_registers i) ++ d ∷ []) ++ rest)) (take (length (map param_register ps ++ imm_registers i)) given)) k []) ≡ n
laid ps None d rest None given has small is k n e =
    absurd (none-some n (sym (none_at (length (map param_register ps ++ [])) (widths (((map param_register ps ++ []) ++ d ∷ []) ++ rest)) k) ∙ e))
laid ps None d rest (Some m) given has small is k n e = absurd (cc)
laid ps (Some i) d rest None given has small is k n e = absurd (cc)
laid ps (Some i) d rest (Some m) given has small is k n e =
    let x : Register = get_or (imm_registers (Some i)) 0 d in
    let c = length (map param_register ps ++ x ∷ []) in
    let ws = widths (((map param_register ps ++ x ∷ []) ++ d ∷ []) ++ rest) in
    let a = imm_at (length ps) m ws k n (subst (λ v. get_or (imm_constant v (Some m) ws) k None ≡ Some n) (operands_with ps x) e) in
    byte_given ws (take c given) k n a.2
    (ap (λ (v : ℕ). get_or ws v 0) a.0 ∙ width_behind ps x d rest)
    (ap (λ (v : ℕ). get_or (take v given) k 0) (operands_with ps x)
    ∙ ap (λ (v : ℕ). get_or (take (suc (length ps)) given) v 0) a.0
    ∙ taken_at (length ps) given ∙ is ∙ sym a.1)
    (subst (λ (v : ℕ). v < 256) (sym a.1) small)

abbrev resolved_ok : Resolved → Result Resolved NameFault
resolved_ok r = Ok r

same_resolved : {a b : Resolved} → resolved_ok a ≡ resolved_ok b → a ≡ b
same_resolved e = cc

has_immediate : (h : Header) (o : Operation) (r : Resolved) (imm : Option ℕ) (given : List ℕ) → resolve h o ≡ Ok r
    → has_instance h.imm imm ≡ true → IsByte imm → IsGiven h imm given → HasImmediate r imm given
has_immediate h o r imm given e has small is =
    let fs = bind_ok (functions_of [] o.defines) _ e in
    let c = bind_ok (code_of (operation_scope h o) o.body) _ fs.2 in
    subst (λ q. HasImmediate q imm given) (same_resolved c.2)
    (laid h.params h.imm (result_register h) _ imm given has small (given_at h imm given is))

-- ---- what an instance is

entry_means : ResolvedAreProper → (h : Header) (o : Operation) (r : Resolved) (imm : Option ℕ) (w : WalkState) → checked h o ≡ Ok r → has_instance h.imm imm ≡ true
    → IsByte imm → instance_at true r imm ≡ Ok w → IsWritten h o → (given : List ℕ) → IsGiven h imm given → ScriptMeans r w given
entry_means proper h o r imm w e has small is written given says =
    let resolves = (accepts h o r e).resolves in
    instances-mean r (proper h o r written resolves) imm w is given (has_immediate h o r imm given resolves has small says)

pub means_entry : ResolvedAreProper → (h : Header) (o : Operation) (r : Resolved) (imm : Option ℕ) (w : WalkState) → checked h o ≡ Ok r → has_instance h.imm imm ≡ true
    → IsByte imm → instance_at true r imm ≡ Ok w → MeansEntry h o imm (whole_from r w)
means_entry proper h o r imm w e has small is written given says =
    (entry_means proper h o r imm w e has small is written given says).leaves
    ∙ ap (λ x. meant_by x given) (sym (accepts h o r e).resolves)

-- numbers that give this immediate
abbrev some_given : Header → Option ℕ → List ℕ
some_given h None = []
some_given h (Some n) = replicate (length h.params) 0 ++ n ∷ []

at_last : (p n : ℕ) → get_or (replicate p 0 ++ n ∷ []) p 0 ≡ n
at_last zero n = refl
at_last (suc p) n = at_last p n

some_is_given : (h : Header) (imm : Option ℕ) → IsGiven h imm (some_given h imm)
some_is_given h None = tt
some_is_given h (Some n) = at_last (length h.params) n

pub formed_entry : ResolvedAreProper → (h : Header) (o : Operation) (r : Resolved) (imm : Option ℕ) (w : WalkState) → checked h o ≡ Ok r → has_instance h.imm imm ≡ true
    → IsByte imm → instance_at true r imm ≡ Ok w → IsFormedEntry h o (whole_from r w)
formed_entry proper h o r imm w e has small is written =
    (entry_means proper h o r imm w e has small is written (some_given h imm) (some_is_given h imm)).formed

-- ---- where it is only known that the entry is accepted

pub only_memory_there : (h : Header) (o : Operation) (r : Resolved) (imm : Option ℕ) (fault : RangeFault)
    → ∥ checked h o ≡ Ok r ∥₁ → has_instance h.imm imm ≡ true → FailsBy (told fault) (instance_at true r imm) → is_memory fault ≡ true
only_memory_there h o r imm fault there has f = ∥∥₁_elim there (hlevel props) (λ e. only_memory h o r imm fault e has f)

pub unrolled_there : (h : Header) (o : Operation) (r : Resolved) (imm : Option ℕ) (w : WalkState) → ∥ checked h o ≡ Ok r ∥₁ → instance_at true r imm ≡ Ok w
    → ∥ unrolled h o imm ≡ Ok (whole_from r w) ∥₁
unrolled_there h o r imm w there is = ∥∥₁_map there (λ e. unrolled_is h o r imm w e is)

pub means_there : ResolvedAreProper → (h : Header) (o : Operation) (r : Resolved) (imm : Option ℕ) (w : WalkState) → ∥ checked h o ≡ Ok r ∥₁ → has_instance h.imm imm ≡ true
    → IsByte imm → instance_at true r imm ≡ Ok w → MeansEntry h o imm (whole_from r w)
means_there proper h o r imm w there has small is written given says =
    ∥∥₁_elim there (hlevel props) (λ e. means_entry proper h o r imm w e has small is written given says)

pub formed_there : ResolvedAreProper → (h : Header) (o : Operation) (r : Resolved) (imm : Option ℕ) (w : WalkState) → ∥ checked h o ≡ Ok r ∥₁ → has_instance h.imm imm ≡ true
    → IsByte imm → instance_at true r imm ≡ Ok w → IsFormedEntry h o (whole_from r w)
formed_there proper h o r imm w there has small is written =
    ∥∥₁_elim there (script_formed_once r.body.widths w.script) (λ e. formed_entry proper h o r imm w e has small is written)
