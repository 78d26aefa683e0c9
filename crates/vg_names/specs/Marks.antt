-- Names that stand with brackets or with an element, gathered one after the other.
use Rattle.std.specs.Prelude.{ℕ, List, ◌∷◌, if◌then◌else◌}
use Rattle.vg_pseudo.specs.Tree.{Expression, number, name, slice, bit, element, part, unary, binary, choice, call, Arguments, end, more, Statements, stop, assign, above, repeat, choose, way, last, pick, arm}
use Rattle.vg_pseudo.specs.Names.{has_name}
use Rattle.vg_names.specs.Distinct.{with_name}

-- after these names
abbrev pub with_seen : List (List ℕ) → List ℕ → List (List ℕ) → List (List ℕ)
with_seen ts n before = if has_name ts n then before else with_name before n

abbrev mutual
  pub marked : List (List ℕ) → Expression → List (List ℕ) → List (List ℕ)
  marked ts (number at n) before = before
  marked ts (name at n) before = before
  marked ts (slice at n h l) before = marked ts l (marked ts h (with_seen ts n before))
  marked ts (bit at n k) before = marked ts k (with_seen ts n before)
  marked ts (element at n w k) before = marked ts k (with_seen ts n before)
  marked ts (part at n w) before = with_seen ts n before
  marked ts (unary at op x) before = marked ts x before
  marked ts (binary at op x y) before = marked ts y (marked ts x before)
  marked ts (choice at c x y) before = marked ts y (marked ts x (marked ts c before))
  marked ts (call at n xs) before = all_marked ts xs before

  pub all_marked : List (List ℕ) → Arguments → List (List ℕ) → List (List ℕ)
  all_marked ts end before = before
  all_marked ts (more x xs) before = all_marked ts xs (marked ts x before)

-- and in statements
abbrev pub marked_in : List (List ℕ) → Statements → List (List ℕ) → List (List ℕ)
marked_in ts stop before = before
marked_in ts (assign at t e rest) before = marked_in ts rest (marked ts e (marked ts t before))
marked_in ts (above at n l e rest) before =
    marked_in ts rest (marked ts e (marked ts l (with_seen ts n before)))
marked_in ts (repeat at n a b body rest) before =
    marked_in ts rest (marked_in (n ∷ ts) body (marked ts b (marked ts a before)))
marked_in ts (choose ways rest) before = marked_in ts rest (marked_in ts ways before)
marked_in ts (way c body ways) before = marked_in ts ways (marked_in ts body (marked ts c before))
marked_in ts (last body) before = marked_in ts body before
marked_in ts (pick e arms rest) before = marked_in ts rest (marked_in ts arms (marked ts e before))
marked_in ts (arm n body arms) before = marked_in ts arms (marked_in ts body before)

-- of the first statement of a list, or of a way or an arm that stands there
abbrev pub first_marked : List (List ℕ) → Statements → List (List ℕ) → List (List ℕ)
first_marked ts stop before = before
first_marked ts (assign at t e rest) before = marked ts e (marked ts t before)
first_marked ts (above at n l e rest) before = marked ts e (marked ts l (with_seen ts n before))
first_marked ts (repeat at n a b body rest) before =
    marked_in (n ∷ ts) body (marked ts b (marked ts a before))
first_marked ts (choose ways rest) before = marked_in ts ways before
first_marked ts (way c body ways) before = marked_in ts body (marked ts c before)
first_marked ts (last body) before = before
first_marked ts (pick e arms rest) before = marked_in ts arms (marked ts e before)
first_marked ts (arm n body arms) before = marked_in ts body before
