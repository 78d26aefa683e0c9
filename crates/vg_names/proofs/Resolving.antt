-- Operations that names are resolved in are proper.
use Rattle.std.proofs.Common.{◌≡◌, ℕ, suc, ◌+◌, ◌^◌, ◌≤◌, refl, sym, ap, subst, arith, Bool, true, false, List, [], ◌∷◌, ◌++◌, length}
use Rattle.std.specs.Prelude.{map, Option, Some, None, Result, Ok, if◌then◌else◌}
use Rattle.std.specs.Option.{option_map, option_map_or}
use Rattle.std.specs.Str.{bytes_eq}
use Rattle.vg_base.proofs.Bind.{bind_ok, tested_ok}
use Rattle.vg_text.specs.declared.place.Place.{Place}
use Rattle.vg_pseudo.specs.declared.header.Header.{Header}
use Rattle.vg_pseudo.specs.declared.header.Param.{Param}
use Rattle.vg_pseudo.specs.declared.header.ImmRange.{ImmRange}
use Rattle.vg_pseudo.specs.declared.operation.DefineParam.{DefineParam}
use Rattle.vg_pseudo.specs.Tree.{Expression, Statements, Define, Operation}
use Rattle.vg_pseudo.specs.Tree as tree
use Rattle.vg_pseudo.specs.Names.{bracketed_in, Assignment, Register, Scope, a_register, last_register, meaning_of, named}
use Rattle.vg_pseudo.specs.Resolved.{Target, whole, Code, Function, Resolved}
use Rattle.vg_pseudo.specs.Resolve.{NameFault, unknown_name, bare_register, assigned_register, assigned_name, target_of, inside, code_of, local_register, scope_of, body_in, define_register, define_scope, function_of, functions_of, param_register, imm_registers, result_register, operand_registers, operation_scope, resolve}
use Rattle.vg_pseudo.specs.Resolve as resolving
use Rattle.vg_names.specs.Proper.{WritesPast, IsProperCode, AllSmall, IsProperBody, AreProper, IsProper}
use Rattle.vg_names.specs.Written.{AreWritten, IsHigh, AreHigh, AreDefined, AreRegisters, ResolvedAreProper}

-- ---- which registers may be assigned

-- a register that may be assigned is none of the first so many
abbrev pub Past : ℕ → ℕ → Register → Type 0
Past n k r = r.is_variable ≡ true → n ≤ k

abbrev AllPast : ℕ → ℕ → List Register → Type 0
AllPast n k [] = Unit {0}
AllPast n k (r ∷ rs) = Past n k r × AllPast n (k + 1) rs

abbrev FoundPast : ℕ → Option (ℕ × Register) → Type 0
FoundPast n (Some q) = Past n q.0 q.1
FoundPast n None = Unit {0}

found_past : (n : ℕ) (b : Bool) (q : ℕ × Register) (f : Option (ℕ × Register)) → Past n q.0 q.1 → FoundPast n f → FoundPast n (if b then Some q else f)
found_past n true q f p h = p
found_past n false q f p h = h

last-past : (n k : ℕ) (f : Option (ℕ × Register)) (rs : List Register) (name : List ℕ) → FoundPast n f → AllPast n k rs → FoundPast n (last_register k f rs name)
last-past n k f [] name p h = p
last-past n k f (r ∷ rs) name p h =
    last-past n (k + 1) (if bytes_eq r.name name then Some (k, r) else f) rs name (found_past n (bytes_eq r.name name) (k, r) f h.0 p) h.1

all-behind : (n k : ℕ) (rs : List Register) → n ≤ k → AllPast n k rs
all-behind n k [] h = tt
all-behind n k (r ∷ rs) h = ((λ e. h), all-behind n (k + 1) rs (omega arith))

abbrev AllFixed : List Register → Type 0
AllFixed [] = Unit {0}
AllFixed (r ∷ rs) = (r.is_variable ≡ false) × AllFixed rs

not_both : (b : Bool) (n k : ℕ) → b ≡ false → b ≡ true → n ≤ k
not_both true n k e f = absurd (cc)
not_both false n k e f = absurd (cc)

first-fixed : (given rest : List Register) (k : ℕ) → AllFixed given → AllPast (k + length given) k (given ++ rest)
first-fixed [] rest k h = all-behind (k + 0) k rest (omega arith)
first-fixed (g ∷ given) rest k h =
    let e : (k + 1) + length given ≡ k + suc (length given) = omega arith in
    (not_both g.is_variable (k + suc (length given)) k h.0, subst (λ n. AllPast n (k + 1) (given ++ rest)) e (first-fixed given rest (k + 1) h.1))

-- ---- targets

abbrev pub reg_ok : ℕ × Register → Result (ℕ × Register) NameFault
reg_ok q = Ok q

same_reg : {a b : ℕ × Register} → reg_ok a ≡ reg_ok b → a ≡ b
same_reg e = cc

assigned-past : (n : ℕ) (place : Place) (a c : Option ℕ) (b : Option (ℕ × Register)) (q : ℕ × Register) → FoundPast n b
    → assigned_register place (meaning_of a b c) ≡ Ok q → n ≤ q.0
assigned-past n place (Some k) c b q h e = absurd (cc)
assigned-past n place None c (Some r) q h e =
    let p = tested_ok r.1.is_variable (reg_ok (r.0, r.1)) (unknown_name place) e in
    let s : r.0 ≡ q.0 = ap (λ v. v.0) (same_reg p.1) in
    subst (λ v. n ≤ v) s (h p.0)
assigned-past n place None (Some k) None q h e = absurd (cc)
assigned-past n place None None None q h e = absurd (cc)

abbrev target_ok : Target → Result Target NameFault
target_ok t = Ok t

same_target : {a b : Target} → target_ok a ≡ target_ok b → a ≡ b
same_target e = cc

span_past : (n : ℕ) (place : Place) (k : ℕ) (o : Option ℕ) (t : Target) → n ≤ k → resolving.or_fault (bare_register place) (option_map (whole k) o) ≡ Ok t → WritesPast n t
span_past n place k (Some w) t h e = subst (WritesPast n) (same_target e) h
span_past n place k None t h e = absurd (cc)

name-past : (n : ℕ) (place : Place) (a c : Option ℕ) (b : Option (ℕ × Register)) (t : Target) → FoundPast n b
    → assigned_name place (meaning_of a b c) ≡ Ok t → WritesPast n t
name-past n place (Some k) c b t h e = absurd (cc)
name-past n place None c (Some r) t h e =
    let q = bind_ok (assigned_register place (a_register r.0 r.1)) _ e in
    span_past n place q.0.0 q.0.1.span t (assigned-past n place None c (Some r) q.0 h q.1) q.2
name-past n place None (Some k) None t h e = subst (WritesPast n) (same_target e) tt
name-past n place None None None t h e = absurd (cc)

-- a scope whose first registers are not assigned
abbrev pub Spared : ℕ → Scope → Type 0
Spared n s = AllPast n 0 s.registers

scope_found : (n : ℕ) (s : Scope) (name : List ℕ) → Spared n s → FoundPast n (last_register 0 None s.registers name)
scope_found n s name h = last-past n 0 None s.registers name tt h

target-past : (n : ℕ) (s : Scope) (place : Place) (e : Expression) (t : Target) → Spared n s → target_of s place e ≡ Ok t → WritesPast n t
target-past n s place (tree.name at m) t h e = name-past n place _ _ _ t (scope_found n s m h) e
target-past n s place (tree.slice at m x y) t h e =
    let r = bind_ok (assigned_register place (named s m)) _ e in
    let a = bind_ok (resolving.resolved s x) _ r.2 in
    let b = bind_ok (resolving.resolved s y) _ a.2 in
    subst (WritesPast n) (same_target b.2) (assigned-past n place _ _ _ r.0 (scope_found n s m h) r.1)
target-past n s place (tree.bit at m k) t h e =
    let r = bind_ok (assigned_register place (named s m)) _ e in
    let a = bind_ok (resolving.resolved s k) _ r.2 in
    subst (WritesPast n) (same_target a.2) (assigned-past n place _ _ _ r.0 (scope_found n s m h) r.1)
target-past n s place (tree.element at m w k) t h e =
    let r = bind_ok (assigned_register place (named s m)) _ e in
    let a = bind_ok (resolving.resolved s k) _ r.2 in
    subst (WritesPast n) (same_target a.2) (assigned-past n place _ _ _ r.0 (scope_found n s m h) r.1)
target-past n s place (tree.part at m w) t h e =
    let r = bind_ok (assigned_register place (named s m)) _ e in
    subst (WritesPast n) (same_target r.2) (assigned-past n place _ _ _ r.0 (scope_found n s m h) r.1)
target-past n s place (tree.number at k) t h e = absurd (cc)
target-past n s place (tree.unary at op x) t h e = absurd (cc)
target-past n s place (tree.binary at op x y) t h e = absurd (cc)
target-past n s place (tree.choice at c x y) t h e = absurd (cc)
target-past n s place (tree.call at m xs) t h e = absurd (cc)

-- ---- statements

abbrev code_ok : Code → Result Code NameFault
code_ok c = Ok c

same_code : {a b : Code} → code_ok a ≡ code_ok b → a ≡ b
same_code e = cc

code-proper : (c : Statements) (n : ℕ) (s : Scope) (d : Code) → Spared n s → AreWritten c → code_of s c ≡ Ok d → IsProperCode n d
code-proper tree.stop n s d h w e = subst (IsProperCode n) (same_code e) tt
code-proper (tree.assign p t x rest) n s d h w e =
    let a = bind_ok (target_of s p t) _ e in
    let b = bind_ok (resolving.resolved s x) _ a.2 in
    let c = bind_ok (code_of s rest) _ b.2 in
    subst (IsProperCode n) (same_code c.2) (target-past n s p t a.0 h a.1, code-proper rest n s c.0 h w c.1)
code-proper (tree.above p m l x rest) n s d h w e =
    let r = bind_ok (assigned_register p (named s m)) _ e in
    let a = bind_ok (resolving.resolved s l) _ r.2 in
    let b = bind_ok (resolving.resolved s x) _ a.2 in
    let c = bind_ok (code_of s rest) _ b.2 in
    subst (IsProperCode n) (same_code c.2) (code-proper rest n s c.0 h w c.1)
code-proper (tree.repeat p m x y body rest) n s d h w e =
    let a = bind_ok (resolving.resolved s x) _ e in
    let b = bind_ok (resolving.resolved s y) _ a.2 in
    let i = bind_ok (code_of (inside s m) body) _ b.2 in
    let c = bind_ok (code_of s rest) _ i.2 in
    subst (IsProperCode n) (same_code c.2) (code-proper body n (inside s m) i.0 h w.0 i.1, code-proper rest n s c.0 h w.1 c.1)
code-proper (tree.choose ways rest) n s d h w e =
    let i = bind_ok (code_of s ways) _ e in
    let c = bind_ok (code_of s rest) _ i.2 in
    subst (IsProperCode n) (same_code c.2) (code-proper ways n s i.0 h w.0 i.1, code-proper rest n s c.0 h w.1 c.1)
code-proper (tree.way x body ways) n s d h w e =
    let a = bind_ok (resolving.resolved s x) _ e in
    let i = bind_ok (code_of s body) _ a.2 in
    let c = bind_ok (code_of s ways) _ i.2 in
    subst (IsProperCode n) (same_code c.2) (code-proper body n s i.0 h w.0 i.1, code-proper ways n s c.0 h w.1 c.1)
code-proper (tree.last body) n s d h w e =
    let i = bind_ok (code_of s body) _ e in
    subst (IsProperCode n) (same_code i.2) (code-proper body n s i.0 h w i.1)
code-proper (tree.pick x arms rest) n s d h w e =
    let a = bind_ok (resolving.resolved s x) _ e in
    let i = bind_ok (code_of s arms) _ a.2 in
    let c = bind_ok (code_of s rest) _ i.2 in
    subst (IsProperCode n) (same_code c.2) (code-proper arms n s i.0 h w.0 i.1, code-proper rest n s c.0 h w.1 c.1)
code-proper (tree.arm m body arms) n s d h w e =
    let i = bind_ok (code_of s body) _ e in
    let c = bind_ok (code_of s arms) _ i.2 in
    subst (IsProperCode n) (same_code c.2) (w.0, code-proper body n s i.0 h w.1 i.1, code-proper arms n s c.0 h w.2 c.1)

-- ---- scopes

abbrev SmallRegisters : List Register → Type 0
SmallRegisters [] = Unit {0}
SmallRegisters (r ∷ rs) = (r.width ≤ 2 ^ 127) × SmallRegisters rs

small-widths : (rs : List Register) → SmallRegisters rs → AllSmall (map (λ r. r.width) rs)
small-widths [] h = tt
small-widths (r ∷ rs) h = (h.0, small-widths rs h.1)

small-append : (rs qs : List Register) → SmallRegisters rs → SmallRegisters qs → SmallRegisters (rs ++ qs)
small-append [] qs h p = p
small-append (r ∷ rs) qs h p = (h.0, small-append rs qs h.1 p)

locals-small : (given : List Register) (as' : List Assignment) (names : List (List ℕ)) → SmallRegisters (map (local_register given as') names)
locals-small given as' [] = tt
locals-small given as' (n ∷ ns) = (omega arith, locals-small given as' ns)

fixed-append : (rs qs : List Register) → AllFixed rs → AllFixed qs → AllFixed (rs ++ qs)
fixed-append [] qs h p = p
fixed-append (r ∷ rs) qs h p = (h.0, fixed-append rs qs h.1 p)

defines-fixed : (ps : List DefineParam) → AllFixed (map define_register ps)
defines-fixed [] = tt
defines-fixed (p ∷ ps) = (refl, defines-fixed ps)

defines-small : (ps : List DefineParam) → AreHigh ps → SmallRegisters (map define_register ps)
defines-small [] h = tt
defines-small (p ∷ ps) h = (high p.high h.0, defines-small ps h.1)
  where
    high : (o : Option ℕ) → IsHigh o → option_map_or (λ h. h + 1) o 512 ≤ 2 ^ 127
    high (Some x) h = omega arith
    high None h = omega arith

length-defines : (ps : List DefineParam) → length (map define_register ps) ≡ length ps
length-defines [] = refl
length-defines (p ∷ ps) = ap suc (length-defines ps)

abbrev function_ok : Function → Result Function NameFault
function_ok f = Ok f

same_function : {a b : Function} → function_ok a ≡ function_ok b → a ≡ b
same_function e = cc

zero_plus : (n : ℕ) → 0 + n ≡ n
zero_plus n = omega arith

fixed-first : (given rest : List Register) → AllFixed given → AllPast (length given) 0 (given ++ rest)
fixed-first given rest h = subst (λ n. AllPast n 0 (given ++ rest)) (zero_plus (length given)) (first-fixed given rest 0 h)

scope-spared : (given : List Register) (marked fs : List (List ℕ)) (body : Statements) → AllFixed given → Spared (length given) (scope_of given marked fs body)
scope-spared given marked fs body h = fixed-first given _ h

scope-small : (given : List Register) (marked fs : List (List ℕ)) (body : Statements) → SmallRegisters given
    → AllSmall (map (λ r. r.width) (scope_of given marked fs body).registers)
scope-small given marked fs body h = small-widths _ (small-append given _ h (locals-small given _ _))

function-proper : (before : List (List ℕ)) (d : Define) (f : Function) → AreHigh d.params → AreWritten d.body → function_of before d ≡ Ok f → IsProperBody f.body
function-proper before d f high written e =
    let c = bind_ok (code_of (define_scope before d) d.body) _ e in
    let a = bind_ok (resolving.resolved (define_scope before d) d.answer) _ c.2 in
    let spared = subst (λ n. Spared n (define_scope before d)) (length-defines d.params) (scope-spared (map define_register d.params) _ before d.body (defines-fixed d.params)) in
    subst (λ g. IsProperBody g.body) (same_function a.2) (record {
      small = scope-small (map define_register d.params) _ before d.body (defines-small d.params high);
      code = code-proper d.body (length d.params) (define_scope before d) c.0 spared written c.1;
    })

abbrev functions_ok : List Function → Result (List Function) NameFault
functions_ok fs = Ok fs

same_functions : {a b : List Function} → functions_ok a ≡ functions_ok b → a ≡ b
same_functions e = cc

functions-proper : (before : List (List ℕ)) (ds : List Define) (fs : List Function) → AreDefined ds → functions_of before ds ≡ Ok fs → AreProper fs
functions-proper before [] fs h e = subst AreProper (same_functions e) tt
functions-proper before (d ∷ ds) fs h e =
    let a = bind_ok (function_of before d) _ e in
    let b = bind_ok (functions_of (before ++ d.name ∷ []) ds) _ a.2 in
    subst AreProper (same_functions b.2) (function-proper before d a.0 h.0.0 h.0.1 a.1, functions-proper (before ++ d.name ∷ []) ds b.0 h.1 b.1)

params-fixed : (ps : List Param) → AllFixed (map param_register ps)
params-fixed [] = tt
params-fixed (p ∷ ps) = (refl, params-fixed ps)

params-small : (ps : List Param) → AreRegisters ps → SmallRegisters (map param_register ps)
params-small [] h = tt
params-small (p ∷ ps) h = (h.0, params-small ps h.1)

imm-fixed : (i : Option ImmRange) → AllFixed (imm_registers i)
imm-fixed None = tt
imm-fixed (Some i) = (refl, tt)

imm-small : (i : Option ImmRange) → SmallRegisters (imm_registers i)
imm-small None = tt
imm-small (Some i) = (omega arith, tt)

abbrev resolved_ok : Resolved → Result Resolved NameFault
resolved_ok r = Ok r

same_resolved : {a b : Resolved} → resolved_ok a ≡ resolved_ok b → a ≡ b
same_resolved e = cc

operation-spared : (h : Header) (o : Operation) → Spared (length (operand_registers h)) (operation_scope h o)
operation-spared h o = subst (AllPast (length (operand_registers h)) 0) (sym (append-three (operand_registers h) (result_register h) _))
    (fixed-first (operand_registers h) _ (fixed-append _ _ (params-fixed h.params) (imm-fixed h.imm)))
  where
    append-three : (xs : List Register) (y : Register) (zs : List Register) → (xs ++ y ∷ []) ++ zs ≡ xs ++ (y ∷ zs)
    append-three [] y zs = refl
    append-three (x ∷ xs) y zs = ap (λ v. x ∷ v) (append-three xs y zs)

-- the operation of an entry that a text can say, its names resolved, is proper
pub resolved-proper : ResolvedAreProper
resolved-proper h o r w e =
    let fs = bind_ok (functions_of [] o.defines) _ e in
    let c = bind_ok (code_of (operation_scope h o) o.body) _ fs.2 in
    subst IsProper (same_resolved c.2) (record {
      functions = functions-proper [] o.defines fs.0 w.defines fs.1;
      body = record {
        small = scope-small (operand_registers h ++ result_register h ∷ []) (bracketed_in [] o.body) (map (λ d. d.name) o.defines) o.body
            (small-append (operand_registers h) _ (small-append _ _ (params-small h.params w.params) (imm-small h.imm)) (w.register, tt));
        code = code-proper o.body (length (operand_registers h)) (operation_scope h o) c.0 (operation-spared h o) w.body c.1;
      };
      result = refl;
    })
