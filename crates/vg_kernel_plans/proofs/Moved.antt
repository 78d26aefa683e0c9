-- A test of all members of a list that a function made.
use Rattle.std.proofs.Common.{◌≡◌, Bool, List, [], ◌∷◌, map, refl, ap}
use Rattle.std.specs.Prelude.{◌&&◌}
use Rattle.std.specs.List.{list_all}
use Rattle.vg_terms.specs.declared.term.Term.{Term}
use Rattle.vg_terms.specs.Term.{tree}
use Rattle.vg_kernel_plans.specs.Shuffles.{is_moved}

pub all-mapped : {X Y : Type 0} (test : Y → Bool) (f : X → Y) (xs : List X)
    → list_all (λ x. test (f x)) xs ≡ list_all test (map f xs)
all-mapped test f [] = refl
all-mapped test f (x ∷ xs) = ap (λ b. test (f x) && b) (all-mapped test f xs)

-- the lanes of a description, as the code has them
pub all_moved : (lanes : List Term) → list_all (λ t. is_moved (tree t)) lanes ≡ list_all is_moved (map tree lanes)
all_moved lanes = all-mapped is_moved tree lanes
