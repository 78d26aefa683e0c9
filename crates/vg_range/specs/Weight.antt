-- How much there is to judge: what calls and bodies come to an end by.
use Rattle.std.specs.Prelude.{ℕ, ◌+◌, List, [], ◌∷◌}
use Rattle.vg_pseudo.specs.Resolved.{Expr, literal, counter, variable, slice, element, front, unary, binary, choice, call, Arguments, end, more, Target, bits, lane, whole, number, Code, stop, assign, skip, repeat, choose, way, last, pick, arm, Function}

abbrev mutual
  pub weight : Expr → ℕ
  weight (literal p n) = 1
  weight (counter p k) = 1
  weight (variable p k) = 1
  weight (slice p g r n h l) = 1 + weight h + weight l
  weight (element p g r size k) = 1 + weight k
  weight (front p g r w) = 1
  weight (unary p op x) = 1 + weight x
  weight (binary p op x y) = 1 + weight x + weight y
  weight (choice p c x y) = 1 + weight c + weight x + weight y
  weight (call p f xs) = 1 + list_weight xs

  pub list_weight : Arguments → ℕ
  list_weight end = 1
  list_weight (more x xs) = 1 + weight x + list_weight xs

abbrev pub target_weight : Target → ℕ
target_weight (bits r h l) = 1 + weight h + weight l
target_weight (lane r size k) = 1 + weight k
target_weight (whole r w) = 1
target_weight (number k) = 1

abbrev pub code_weight : Code → ℕ
code_weight stop = 1
code_weight (assign p t e rest) = 1 + target_weight t + weight e + code_weight rest
code_weight (skip p rest) = 1 + code_weight rest
code_weight (repeat p a b body rest) = 1 + weight a + weight b + code_weight body + code_weight rest
code_weight (choose ways rest) = 1 + code_weight ways + code_weight rest
code_weight (way c body ways) = 1 + weight c + code_weight body + code_weight ways
code_weight (last body) = 1 + code_weight body
code_weight (pick e arms rest) = 1 + weight e + code_weight arms + code_weight rest
code_weight (arm n body arms) = 1 + code_weight body + code_weight arms

-- of DEFINEs, those that a call may reach
abbrev pub all_weight : List Function → ℕ
all_weight [] = 0
all_weight (f ∷ fs) = 1 + code_weight f.body.code + weight f.answer + all_weight fs
