-- Assignments of the code, as the definition of names speaks of them; and how they are found along a list of
-- statements.
use Rattle.std.specs.Prelude.{ℕ, Bool, List, [], ◌∷◌, map, not, Option, Some, None}
use Rattle.std.specs.List.{list_any}
use Rattle.std.specs.Str.{bytes_eq}
use Rattle.vg_pseudo.specs.Tree.{Statements, expression_of, stop, assign, above, repeat, choose, way, last, pick, arm}
use Rattle.vg_pseudo.specs.Names.{Form, whole_element, other, Assignment, Register, assignments, target_assigned, unhidden}
use Rattle.vg_names.specs.declared.assignments.Form as written
use Rattle.vg_names.specs.declared.assignments.Form.TheVariants as form
use Rattle.vg_names.specs.declared.assignments.Assignment as code

abbrev pub form_view : written.Form → Form
form_view (form.WholeElement w) = whole_element w
form_view form.Other = other

abbrev pub assignment_view : code.Assignment → Assignment
assignment_view a = record {
  name = a.name.now;
  form = form_view a.form;
  turns = map (λ t. t.now) a.turns.items;
  value = expression_of a.value.now;
}

-- the assignments of the first statement of a list, or of a way or an arm that stands there
abbrev pub first_assigned : List (List ℕ) → Statements → List Assignment
first_assigned ts stop = []
first_assigned ts (assign at t e rest) = target_assigned ts t e
first_assigned ts (above at n l e rest) = unhidden ts n other e
first_assigned ts (repeat at n a b body rest) = assignments (n ∷ ts) body
first_assigned ts (choose ways rest) = assignments ts ways
first_assigned ts (way c body ways) = assignments ts body
first_assigned ts (last body) = []
first_assigned ts (pick e arms rest) = assignments ts arms
first_assigned ts (arm n body arms) = assignments ts body

-- what stands after it
abbrev pub behind_first : Statements → Option Statements
behind_first stop = None
behind_first (assign at t e rest) = Some rest
behind_first (above at n l e rest) = Some rest
behind_first (repeat at n a b body rest) = Some rest
behind_first (choose ways rest) = Some rest
behind_first (way c body ways) = Some ways
behind_first (last body) = Some body
behind_first (pick e arms rest) = Some rest
behind_first (arm n body arms) = Some arms

-- the assignments of what is left, if anything is
abbrev pub assigned_behind : List (List ℕ) → Option Statements → List Assignment
assigned_behind ts None = []
assigned_behind ts (Some s) = assignments ts s

-- an assignment to none of the registers that a body is given
abbrev pub is_local : List Register → Assignment → Bool
is_local given a = not (list_any (λ r. bytes_eq r.name a.name) given)
