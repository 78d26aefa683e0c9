-- What the names of a body mean. A body is the statements of the operation, or those of a DEFINE
-- with its RETURN. Inside a FOR its variable hides whatever else has its name.
use Rattle.std.specs.Prelude.{ℕ, ◌+◌, Bool, List, [], ◌∷◌, ◌++◌, Option, Some, None, if◌then◌else◌}
use Rattle.std.specs.List.{list_any}
use Rattle.std.specs.Option.{option_map}
use Rattle.std.specs.Str.{bytes_eq}
use Rattle.vg_base.specs.declared.width.Width.{Width}
use Rattle.vg_pseudo.specs.Tree.{Expression, number, name, slice, bit, element, part, unary, binary, choice, call, Arguments, end, more, Statements, stop, assign, above, repeat, choose, way, last, pick, arm}

abbrev pub has_name : List (List ℕ) → List ℕ → Bool
has_name names n = list_any (λ m. bytes_eq m n) names

-- the place of the first that has it
abbrev pub first_place : {A : Type 0} → (A → Bool) → List A → Option ℕ
first_place is [] = None
first_place is (x ∷ xs) = if is x then Some 0 else option_map (λ k. k + 1) (first_place is xs)

-- the names in their order, each once
abbrev pub distinct_behind : List (List ℕ) → List (List ℕ) → List (List ℕ)
distinct_behind before [] = before
distinct_behind before (n ∷ ns) =
    distinct_behind (if has_name before n then before else before ++ n ∷ []) ns

-- A form of a name as the target of an assignment: an element without an index, or another.
pub data Form : Type 0 where
  whole_element : Width → Form
  other : Form

-- an assignment to a name: its form, the variables of the FORs around it, and its right side
pub record Assignment : Type 0 where
  pub name : List ℕ
  pub form : Form
  pub turns : List (List ℕ)
  pub value : Expression

-- an assignment to a name, where no FOR around it hides the name
abbrev pub unhidden : List (List ℕ) → List ℕ → Form → Expression → List Assignment
unhidden ts n form e =
    if has_name ts n then [] else record { name = n; form = form; turns = ts; value = e } ∷ []

abbrev pub target_assigned : List (List ℕ) → Expression → Expression → List Assignment
target_assigned ts (name at n) e = unhidden ts n other e
target_assigned ts (slice at n h l) e = unhidden ts n other e
target_assigned ts (bit at n k) e = unhidden ts n other e
target_assigned ts (element at n w k) e = unhidden ts n other e
target_assigned ts (part at n w) e = unhidden ts n (whole_element w) e
target_assigned ts _ e = []

-- the assignments of statements in the order of the text, also those that never run
abbrev pub assignments : List (List ℕ) → Statements → List Assignment
assignments ts stop = []
assignments ts (assign at t e rest) = target_assigned ts t e ++ assignments ts rest
assignments ts (above at n l e rest) = unhidden ts n other e ++ assignments ts rest
assignments ts (repeat at n a b body rest) = assignments (n ∷ ts) body ++ assignments ts rest
assignments ts (choose ways rest) = assignments ts ways ++ assignments ts rest
assignments ts (way c body ways) = assignments ts body ++ assignments ts ways
assignments ts (last body) = assignments ts body
assignments ts (pick e arms rest) = assignments ts arms ++ assignments ts rest
assignments ts (arm n body arms) = assignments ts body ++ assignments ts arms

abbrev pub seen_name : List (List ℕ) → List ℕ → List (List ℕ)
seen_name ts n = if has_name ts n then [] else n ∷ []

-- the names that stand in an expression with brackets or with an element
abbrev mutual
  pub bracketed : List (List ℕ) → Expression → List (List ℕ)
  bracketed ts (number at n) = []
  bracketed ts (name at n) = []
  bracketed ts (slice at n h l) = seen_name ts n ++ bracketed ts h ++ bracketed ts l
  bracketed ts (bit at n k) = seen_name ts n ++ bracketed ts k
  bracketed ts (element at n w k) = seen_name ts n ++ bracketed ts k
  bracketed ts (part at n w) = seen_name ts n
  bracketed ts (unary at op x) = bracketed ts x
  bracketed ts (binary at op x y) = bracketed ts x ++ bracketed ts y
  bracketed ts (choice at c x y) = bracketed ts c ++ bracketed ts x ++ bracketed ts y
  bracketed ts (call at n xs) = all_bracketed ts xs

  pub all_bracketed : List (List ℕ) → Arguments → List (List ℕ)
  all_bracketed ts end = []
  all_bracketed ts (more x xs) = bracketed ts x ++ all_bracketed ts xs

-- and in statements
abbrev pub bracketed_in : List (List ℕ) → Statements → List (List ℕ)
bracketed_in ts stop = []
bracketed_in ts (assign at t e rest) = bracketed ts t ++ bracketed ts e ++ bracketed_in ts rest
bracketed_in ts (above at n l e rest) =
    seen_name ts n ++ bracketed ts l ++ bracketed ts e ++ bracketed_in ts rest
bracketed_in ts (repeat at n a b body rest) =
    bracketed ts a ++ bracketed ts b ++ bracketed_in (n ∷ ts) body ++ bracketed_in ts rest
bracketed_in ts (choose ways rest) = bracketed_in ts ways ++ bracketed_in ts rest
bracketed_in ts (way c body ways) = bracketed ts c ++ bracketed_in ts body ++ bracketed_in ts ways
bracketed_in ts (last body) = bracketed_in ts body
bracketed_in ts (pick e arms rest) =
    bracketed ts e ++ bracketed_in ts arms ++ bracketed_in ts rest
bracketed_in ts (arm n body arms) = bracketed_in ts body ++ bracketed_in ts arms

-- A register of a body: how many bits it has, whether it may be assigned, whether its slices and
-- elements are read as signed, whether its bare name and `name.elem` are, and how many bits its
-- bare name means, if any.
pub record Register : Type 0 where
  pub name : List ℕ
  pub width : ℕ
  pub is_variable : Bool
  pub signed_slices : Bool
  pub signed_whole : Bool
  pub span : Option ℕ

-- What names mean at a place of a body: the registers and the number variables of the body, the
-- variables of the FORs around the place, innermost first, and the DEFINEs that stand before.
pub record Scope : Type 0 where
  pub registers : List Register
  pub variables : List (List ℕ)
  pub turns : List (List ℕ)
  pub functions : List (List ℕ)

pub data Meaning : Type 0 where
  a_turn : ℕ → Meaning
  a_register : ℕ → Register → Meaning
  a_variable : ℕ → Meaning
  nothing : Meaning

-- the last register of this name, with its number, after so many: of two parameters of one name
-- the later one is meant
abbrev pub last_register : ℕ → Option (ℕ × Register) → List Register → List ℕ
    → Option (ℕ × Register)
last_register k found [] n = found
last_register k found (r ∷ rs) n =
    last_register (k + 1) (if bytes_eq r.name n then Some (k, r) else found) rs n

-- the place of the last DEFINE of this name, after so many
abbrev pub last_function : ℕ → Option ℕ → List (List ℕ) → List ℕ → Option ℕ
last_function k found [] n = found
last_function k found (m ∷ ms) n =
    last_function (k + 1) (if bytes_eq m n then Some k else found) ms n

-- what a name means by what it is among the FORs, the registers and the number variables
abbrev pub meaning_of : Option ℕ → Option (ℕ × Register) → Option ℕ → Meaning
meaning_of (Some k) r v = a_turn k
meaning_of None (Some r) v = a_register r.0 r.1
meaning_of None None (Some k) = a_variable k
meaning_of None None None = nothing

abbrev pub named : Scope → List ℕ → Meaning
named s n =
    meaning_of (first_place (λ m. bytes_eq m n) s.turns) (last_register 0 None s.registers n)
    (first_place (λ m. bytes_eq m n) s.variables)
