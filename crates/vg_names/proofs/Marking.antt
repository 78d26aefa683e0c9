-- Names gathered one after the other are the names that stand in the text, each once.
use Rattle.std.proofs.Common.{◌≡◌, List, ℕ, [], ◌∷◌, ◌++◌, Bool, true, false, Option, Some, None, refl, sym, ◌∙◌, ap}
use Rattle.std.specs.Prelude.{if◌then◌else◌}
use Rattle.vg_pseudo.specs.Tree.{Statements}
use Rattle.vg_pseudo.specs.Tree as tree
use Rattle.vg_pseudo.specs.Names.{assignments, has_name, distinct_behind, seen_name, bracketed, all_bracketed, bracketed_in}
use Rattle.vg_names.specs.Assigned.{first_assigned, behind_first, assigned_behind}
use Rattle.vg_names.specs.Distinct.{with_name}
use Rattle.vg_names.specs.Marks.{with_seen, marked, all_marked, marked_in, first_marked}

-- names after names
pub behind_both : (before ms ns : List (List ℕ)) → distinct_behind before (ms ++ ns) ≡ distinct_behind (distinct_behind before ms) ns
behind_both before [] ns = refl
behind_both before (m ∷ ms) ns = behind_both (with_name before m) ms ns

seen-one : (ts : List (List ℕ)) (n : List ℕ) (before : List (List ℕ)) → with_seen ts n before ≡ distinct_behind before (seen_name ts n)
seen-one ts n before = by (has_name ts n)
  where
    by : (b : Bool) → (if b then before else with_name before n) ≡ distinct_behind before (if b then [] else n ∷ [])
    by true = refl
    by false = refl

two-behind : (before : List (List ℕ)) (a b : List (List ℕ)) (x y : List (List ℕ) → List (List ℕ))
    → ((bs : List (List ℕ)) → x bs ≡ distinct_behind bs a) → ((bs : List (List ℕ)) → y bs ≡ distinct_behind bs b)
    → y (x before) ≡ distinct_behind before (a ++ b)
two-behind before a b x y e f = f (x before) ∙ ap (λ bs. distinct_behind bs b) (e before) ∙ sym (behind_both before a b)

three-behind : (before : List (List ℕ)) (a b c : List (List ℕ)) (x y z : List (List ℕ) → List (List ℕ))
    → ((bs : List (List ℕ)) → x bs ≡ distinct_behind bs a) → ((bs : List (List ℕ)) → y bs ≡ distinct_behind bs b) → ((bs : List (List ℕ)) → z bs ≡ distinct_behind bs c)
    → z (y (x before)) ≡ distinct_behind before (a ++ b ++ c)
three-behind before a b c x y z e f g = two-behind before (a ++ b) c (λ bs. y (x bs)) z (λ bs. two-behind bs a b x y e f) g

four-behind : (before : List (List ℕ)) (a b c d : List (List ℕ)) (x y z u : List (List ℕ) → List (List ℕ))
    → ((bs : List (List ℕ)) → x bs ≡ distinct_behind bs a) → ((bs : List (List ℕ)) → y bs ≡ distinct_behind bs b) → ((bs : List (List ℕ)) → z bs ≡ distinct_behind bs c)
    → ((bs : List (List ℕ)) → u bs ≡ distinct_behind bs d)
    → u (z (y (x before))) ≡ distinct_behind before (a ++ b ++ c ++ d)
four-behind before a b c d x y z u e f g h = two-behind before (a ++ b ++ c) d (λ bs. z (y (x bs))) u (λ bs. three-behind bs a b c x y z e f g) h

mutual
  pub marked_is : (ts : List (List ℕ)) (e : tree.Expression) (before : List (List ℕ)) → marked ts e before ≡ distinct_behind before (bracketed ts e)
  marked_is ts (tree.number at n) before = refl
  marked_is ts (tree.name at n) before = refl
  marked_is ts (tree.slice at n h l) before =
      three-behind before (seen_name ts n) (bracketed ts h) (bracketed ts l) (with_seen ts n) (marked ts h) (marked ts l) (seen-one ts n) (marked_is ts h) (marked_is ts l)
  marked_is ts (tree.bit at n k) before = two-behind before (seen_name ts n) (bracketed ts k) (with_seen ts n) (marked ts k) (seen-one ts n) (marked_is ts k)
  marked_is ts (tree.element at n w k) before = two-behind before (seen_name ts n) (bracketed ts k) (with_seen ts n) (marked ts k) (seen-one ts n) (marked_is ts k)
  marked_is ts (tree.part at n w) before = seen-one ts n before
  marked_is ts (tree.unary at op x) before = marked_is ts x before
  marked_is ts (tree.binary at op x y) before = two-behind before (bracketed ts x) (bracketed ts y) (marked ts x) (marked ts y) (marked_is ts x) (marked_is ts y)
  marked_is ts (tree.choice at c x y) before =
      three-behind before (bracketed ts c) (bracketed ts x) (bracketed ts y) (marked ts c) (marked ts x) (marked ts y) (marked_is ts c) (marked_is ts x) (marked_is ts y)
  marked_is ts (tree.call at n xs) before = all_marked_is ts xs before

  all_marked_is : (ts : List (List ℕ)) (xs : tree.Arguments) (before : List (List ℕ)) → all_marked ts xs before ≡ distinct_behind before (all_bracketed ts xs)
  all_marked_is ts tree.end before = refl
  all_marked_is ts (tree.more x xs) before = two-behind before (bracketed ts x) (all_bracketed ts xs) (marked ts x) (all_marked ts xs) (marked_is ts x) (all_marked_is ts xs)

pub marked_in_is : (ts : List (List ℕ)) (s : Statements) (before : List (List ℕ)) → marked_in ts s before ≡ distinct_behind before (bracketed_in ts s)
marked_in_is ts tree.stop before = refl
marked_in_is ts (tree.assign at t e rest) before =
    three-behind before (bracketed ts t) (bracketed ts e) (bracketed_in ts rest) (marked ts t) (marked ts e) (marked_in ts rest) (marked_is ts t) (marked_is ts e) (marked_in_is ts rest)
marked_in_is ts (tree.above at n l e rest) before =
    four-behind before (seen_name ts n) (bracketed ts l) (bracketed ts e) (bracketed_in ts rest) (with_seen ts n) (marked ts l) (marked ts e) (marked_in ts rest)
    (seen-one ts n) (marked_is ts l) (marked_is ts e) (marked_in_is ts rest)
marked_in_is ts (tree.repeat at n a b body rest) before =
    four-behind before (bracketed ts a) (bracketed ts b) (bracketed_in (n ∷ ts) body) (bracketed_in ts rest) (marked ts a) (marked ts b) (marked_in (n ∷ ts) body) (marked_in ts rest)
    (marked_is ts a) (marked_is ts b) (marked_in_is (n ∷ ts) body) (marked_in_is ts rest)
marked_in_is ts (tree.choose ways rest) before = two-behind before (bracketed_in ts ways) (bracketed_in ts rest) (marked_in ts ways) (marked_in ts rest) (marked_in_is ts ways) (marked_in_is ts rest)
marked_in_is ts (tree.way c body ways) before =
    three-behind before (bracketed ts c) (bracketed_in ts body) (bracketed_in ts ways) (marked ts c) (marked_in ts body) (marked_in ts ways) (marked_is ts c) (marked_in_is ts body) (marked_in_is ts ways)
marked_in_is ts (tree.last body) before = marked_in_is ts body before
marked_in_is ts (tree.pick e arms rest) before =
    three-behind before (bracketed ts e) (bracketed_in ts arms) (bracketed_in ts rest) (marked ts e) (marked_in ts arms) (marked_in ts rest) (marked_is ts e) (marked_in_is ts arms) (marked_in_is ts rest)
marked_in_is ts (tree.arm n body arms) before = two-behind before (bracketed_in ts body) (bracketed_in ts arms) (marked_in ts body) (marked_in ts arms) (marked_in_is ts body) (marked_in_is ts arms)

-- ---- along a list of statements

abbrev pub marked_behind : List (List ℕ) → Option Statements → List (List ℕ) → List (List ℕ)
marked_behind ts None before = before
marked_behind ts (Some s) before = marked_in ts s before

pub marks_step : (ts : List (List ℕ)) (s : Statements) (before : List (List ℕ)) → marked_in ts s before ≡ marked_behind ts (behind_first s) (first_marked ts s before)
marks_step ts tree.stop before = refl
marks_step ts (tree.assign at t e rest) before = refl
marks_step ts (tree.above at n l e rest) before = refl
marks_step ts (tree.repeat at n a b body rest) before = refl
marks_step ts (tree.choose ways rest) before = refl
marks_step ts (tree.way c body ways) before = refl
marks_step ts (tree.last body) before = refl
marks_step ts (tree.pick e arms rest) before = refl
marks_step ts (tree.arm n body arms) before = refl

pub assignments_step : (ts : List (List ℕ)) (s : Statements) → assignments ts s ≡ first_assigned ts s ++ assigned_behind ts (behind_first s)
assignments_step ts tree.stop = refl
assignments_step ts (tree.assign at t e rest) = refl
assignments_step ts (tree.above at n l e rest) = refl
assignments_step ts (tree.repeat at n a b body rest) = refl
assignments_step ts (tree.choose ways rest) = refl
assignments_step ts (tree.way c body ways) = refl
assignments_step ts (tree.last body) = refl
assignments_step ts (tree.pick e arms rest) = refl
assignments_step ts (tree.arm n body arms) = refl
