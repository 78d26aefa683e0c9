-- DEFINEs and operations are resolved one part after the other.
use Rattle.std.proofs.Common.{◌≡◌, ℕ, Bool, List, [], ◌∷◌, ◌++◌, map, length, Result, Ok, Err, refl, sym, ◌∙◌, ap, subst, Option, append_assoc}
use Rattle.std.specs.Prelude.{filter, not, if◌then◌else◌}
use Rattle.std.proofs.lemmas.List.{append-nil}
use Rattle.vg_base.specs.Bind.{◌>>=◌}
use Rattle.vg_base.specs.Gives.{FailsBy}
use Rattle.vg_base.proofs.Gives.{fails_bind}
use Rattle.vg_pseudo.specs.declared.header.Header.{Header}
use Rattle.vg_pseudo.specs.Tree.{Statements, Define, Operation}
use Rattle.vg_pseudo.specs.Names.{Register, Scope, has_name, distinct_behind, bracketed_in}
use Rattle.vg_pseudo.specs.Resolved.{Function, Resolved, Body, Code}
use Rattle.vg_pseudo.specs.Resolve.{NameFault, code_of, resolved, define_scope, function_of, functions_of, operand_registers, result_register, operation_scope, resolve, scope_of, body_in, local_assignments, register_assignments, register_locals, number_locals, local_register, local_registers, locals_of}
use Rattle.vg_names.specs.Pieces.{body_over, function_over}
use Rattle.vg_names.specs.Scopes.{scope_over}
use Rattle.vg_names.proofs.Signing.{has-behind}

filter-same : {A : Type 0} (p q : A → Bool) → ((x : A) → p x ≡ q x) → (xs : List A) → filter p xs ≡ filter q xs
filter-same p q e [] = refl
filter-same p q e (x ∷ xs) =
    ap (λ b. if b then x ∷ filter p xs else filter p xs) (e x)
    ∙ ap (λ ys. if q x then x ∷ ys else ys) (filter-same p q e xs)

-- which names are marked is all that counts of marks
pub registers_marked : (given : List Register) (marks : List (List ℕ)) (body : Statements)
    → given ++ local_registers given (distinct_behind [] marks) (local_assignments given body) ≡ (scope_of given marks [] body).registers
registers_marked given marks body =
    let all = local_assignments given body in
    let found = distinct_behind [] marks in
    ap (λ ns. given ++ map (local_register given (register_assignments found all)) ns)
    (filter-same (has_name found) (has_name marks) (has-behind [] marks) (locals_of all))
    ∙ ap (λ as'. given ++ map (local_register given as') (register_locals marks all))
    (filter-same (λ a. has_name found a.name) (λ a. has_name marks a.name) (λ a. has-behind [] marks a.name) all)

pub variables_marked : (given : List Register) (marks : List (List ℕ)) (body : Statements)
    → number_locals (distinct_behind [] marks) (local_assignments given body) ≡ (scope_of given marks [] body).variables
variables_marked given marks body =
    filter-same (λ n. not (has_name (distinct_behind [] marks) n)) (λ n. not (has_name marks n)) (λ n. ap not (has-behind [] marks n)) (locals_of (local_assignments given body))

-- a scope by its parts
pub same_scope : (given : List Register) (marks : List (List ℕ)) (functions : List (List ℕ)) (body : Statements) (registers : List Register) (variables : List (List ℕ))
    → registers ≡ (scope_of given marks [] body).registers → variables ≡ (scope_of given marks [] body).variables
    → scope_over registers variables functions ≡ scope_of given marks functions body
same_scope given marks functions body registers variables e f =
    ap (λ rs. scope_over rs variables functions) e ∙ ap (λ vs. scope_over (scope_of given marks [] body).registers vs functions) f

-- a body whose code gave this, and what stands after it
abbrev body_from : ℕ → Scope → Result Code NameFault → Result Body NameFault
body_from n s r = r >>= λ code. Ok (body_in n s code)

abbrev answered : Scope → Define → Result Body NameFault → Result Function NameFault
answered s d r = r >>= λ body. resolved s d.answer >>= λ answer. Ok (record { body = body; answer = answer })

abbrev function_from : Scope → Define → Result Code NameFault → Result Function NameFault
function_from s d r = r >>= λ code. resolved s d.answer >>= λ answer. Ok (record { body = body_in (length d.params) s code; answer = answer })

one-bind : (s : Scope) (d : Define) (r : Result Code NameFault) → answered s d (body_from (length d.params) s r) ≡ function_from s d r
one-bind s d (Ok code) = refl
one-bind s d (Err e) = refl

-- a DEFINE over its scope
pub function_is : (before : List (List ℕ)) (d : Define) → function_over (define_scope before d) d ≡ function_of before d
function_is before d = one-bind (define_scope before d) d (code_of (define_scope before d) d.body)

-- an operation by its DEFINEs and its body
abbrev operation_from : ℕ → Result (List Function) NameFault → Result Body NameFault → Result Resolved NameFault
operation_from n r q = r >>= λ functions. q >>= λ body. Ok (record { functions = functions; body = body; result = n })

abbrev operation_code : ℕ → Scope → Result (List Function) NameFault → Result Code NameFault → Result Resolved NameFault
operation_code n s r q = r >>= λ functions. q >>= λ code. Ok (record { functions = functions; body = body_in n s code; result = n })

two-binds : (n : ℕ) (s : Scope) (r : Result (List Function) NameFault) (q : Result Code NameFault) → operation_from n r (body_from n s q) ≡ operation_code n s r q
two-binds n s (Ok functions) (Ok code) = refl
two-binds n s (Ok functions) (Err e) = refl
two-binds n s (Err e) q = refl

pub resolve_is : (h : Header) (o : Operation)
    → operation_from (length (operand_registers h)) (functions_of [] o.defines) (body_over (length (operand_registers h)) (operation_scope h o) o.body) ≡ resolve h o
resolve_is h o = two-binds (length (operand_registers h)) (operation_scope h o) (functions_of [] o.defines) (code_of (operation_scope h o) o.body)

pub resolve_done : (h : Header) (o : Operation) (fs : List Function) (b : Body)
    → functions_of [] o.defines ≡ Ok fs → body_over (length (operand_registers h)) (operation_scope h o) o.body ≡ Ok b
    → resolve h o ≡ Ok (record { functions = fs; body = b; result = length (operand_registers h) })
resolve_done h o fs b e f =
    sym (resolve_is h o)
    ∙ ap (λ r. operation_from (length (operand_registers h)) r (body_over (length (operand_registers h)) (operation_scope h o) o.body)) e
    ∙ ap (operation_from (length (operand_registers h)) (Ok fs)) f

pub resolve_fails : (h : Header) (o : Operation) (fs : List Function) (fault : Option NameFault)
    → functions_of [] o.defines ≡ Ok fs → FailsBy fault (body_over (length (operand_registers h)) (operation_scope h o) o.body)
    → FailsBy fault (resolve h o)
resolve_fails h o fs fault e f =
    subst (FailsBy fault)
    (ap (λ r. operation_from (length (operand_registers h)) r (body_over (length (operand_registers h)) (operation_scope h o) o.body)) (sym e) ∙ resolve_is h o)
    (fails_bind fault (body_over (length (operand_registers h)) (operation_scope h o) o.body) _ f)

-- ---- names

pub names_registers : (given g : List Register) (marks m : List (List ℕ)) (body : Statements) (registers : List Register) → g ≡ given → m ≡ distinct_behind [] marks
    → registers ≡ g ++ local_registers g m (local_assignments g body)
    → registers ≡ (scope_of given marks [] body).registers
names_registers given g marks m body registers eg em e =
    e ∙ ap (λ xs. xs ++ local_registers xs m (local_assignments xs body)) eg
    ∙ ap (λ ns. given ++ local_registers given ns (local_assignments given body)) em
    ∙ registers_marked given marks body

pub names_variables : (given g : List Register) (marks m : List (List ℕ)) (body : Statements) (variables : List (List ℕ)) → g ≡ given → m ≡ distinct_behind [] marks
    → variables ≡ number_locals m (local_assignments g body) → variables ≡ (scope_of given marks [] body).variables
names_variables given g marks m body variables eg em e =
    e ∙ ap (λ xs. number_locals m (local_assignments xs body)) eg ∙ ap (λ ns. number_locals ns (local_assignments given body)) em
    ∙ variables_marked given marks body

-- ---- DEFINEs in a list

-- those that are done, and what the others give
abbrev pub listed : List Function → Result (List Function) NameFault
listed fs = Ok fs

abbrev pub functions_done : List Function → Result (List Function) NameFault → Result (List Function) NameFault
functions_done done r = r >>= λ rest. Ok (done ++ rest)

pub one_done : (done : List Function) (f : Function) (names : List (List ℕ)) (d : Define) (ds : List Define) → function_of names d ≡ Ok f
    → functions_done (done ++ f ∷ []) (functions_of (names ++ d.name ∷ []) ds) ≡ functions_done done (functions_of names (d ∷ ds))
one_done done f names d ds e = joined (functions_of (names ++ d.name ∷ []) ds) ∙ ap (λ r. functions_done done (r >>= λ first. functions_of (names ++ d.name ∷ []) ds >>= λ rest. listed (first ∷ rest))) (sym e)
  where
    joined : (r : Result (List Function) NameFault) → functions_done (done ++ f ∷ []) r ≡ functions_done done (r >>= λ rest. listed (f ∷ rest))
    joined (Ok rest) = ap listed (append_assoc done (f ∷ []) rest)
    joined (Err e) = refl

pub none_left : (done : List Function) → functions_done done (listed []) ≡ listed done
none_left done = ap listed (append-nil done)

-- a DEFINE that cannot be resolved
pub one_fails : (done : List Function) (names : List (List ℕ)) (d : Define) (ds : List Define) (fault : Option NameFault) → FailsBy fault (function_of names d)
    → FailsBy fault (functions_done done (functions_of names (d ∷ ds)))
one_fails done names d ds fault h = fails_bind fault (functions_of names (d ∷ ds)) _ (fails_bind fault (function_of names d) _ h)

-- the body of an operation, whose operands and DEFINEs are these
pub body_of_operation : (h : Header) (o : Operation) (operands : List Register) (names : List (List ℕ)) (P : Result Body NameFault → Type 0)
    → operands ≡ operand_registers h → names ≡ map (λ d. d.name) o.defines
    → P (body_over (length operands) (scope_of (operands ++ result_register h ∷ []) (bracketed_in [] o.body) names o.body) o.body)
    → P (body_over (length (operand_registers h)) (operation_scope h o) o.body)
body_of_operation h o operands names P e f p =
    subst (λ ns. P (body_over (length (operand_registers h)) (scope_of (operand_registers h ++ result_register h ∷ []) (bracketed_in [] o.body) ns o.body) o.body)) f
    (subst (λ rs. P (body_over (length rs) (scope_of (rs ++ result_register h ∷ []) (bracketed_in [] o.body) names o.body) o.body)) e p)
