-- What the plain plan of a kernel leaves: nothing. And plans that are completed end because nothing is left to try.
use Rattle.std.specs.Prelude.{◌≡◌, ◌*◌, ◌≤◌, ℕ, List, [], flat_map, length}
use Rattle.std.specs.List.{AllByRecursion}
use Rattle.vg_plans.specs.Completed.{careful_plan, chosen_fed, completed, produced}
use Rattle.vg_plans.specs.Members.{Has}
use Rattle.vg_plans.specs.PlainPlan.{plain_plan, with_groups}
use Rattle.vg_shapes.specs.declared.match_table.Match.{Match}
use Rattle.vg_shapes.specs.declared.operand.Operand.{Operand}
use Rattle.vg_shapes.specs.declared.pack.Pack.{Pack}
use Rattle.vg_shapes.specs.declared.ssa.Ssa.{Ssa}
use Rattle.vg_shapes.specs.Description.{Description}
use Rattle.vg_shapes.specs.Matches.{AreMatches}
use Rattle.vg_shapes.specs.Sound.{IsSound}
use Rattle.vg_kernel_plans.specs.Completed.{aligned_plain_of, careful_of, chosen_fed_of, completed_of, turns_of}
use Rattle.vg_kernel_plans.specs.Fed.{IsPlanBy, fed_aligned, packing_by}
use Rattle.vg_kernel_plans.specs.Groups.{store_groups}
use Rattle.vg_kernel_plans.specs.Packing.{packing, plain_of, sizes_of}
use Rattle.vg_kernel_plans.specs.Taken.{operands_of}
use Rattle.vg_plain_laws.specs.Walk.{IsTried, WalksTo}

-- instances of at most four parameters
abbrev pub TakeFew : List Description → Type 0
TakeFew ds = AllByRecursion (λ d. length d.params ≤ 4) ds

-- the store groups that can be had, with which the plain plan starts
abbrev pub started : List Description → List Match → Ssa → List (ℕ × ℕ) → List Pack
started ds matches ssa deps = with_groups (packing ds matches ssa deps) [] (store_groups ssa)

-- The plain plan ends because nothing is left to try, never because its turns are used up: it is
-- that of the walk to its end, more turns give the same, and each operand of its packs is there, is
-- constant, is produced, or had no producer that could join.
pub record LeavesNothing
    (ds : List Description) (matches : List Match) (ssa : Ssa) (deps : List (ℕ × ℕ))
    : Type 0 where
  pub walked : WalksTo (packing ds matches ssa deps) (started ds matches ssa deps)
      (flat_map (operands_of ds matches ssa) (started ds matches ssa deps)) (plain_of ds matches ssa deps)
  pub stays : (turns : ℕ) → 2 * length ssa.units ≤ turns
      → plain_plan (packing ds matches ssa deps) turns ≡ plain_of ds matches ssa deps
  pub tried : (p : Pack) (o : Operand) → Has p (plain_of ds matches ssa deps) → Has o (operands_of ds matches ssa p)
      → IsTried (packing ds matches ssa deps) (plain_of ds matches ssa deps) o

-- so for each sound kernel and all matches of instances of at most four parameters
abbrev pub PlainPlansLeaveNothing : Type 0
PlainPlansLeaveNothing =
    (ds : List Description) (matches : List Match) (ssa : Ssa) (deps : List (ℕ × ℕ)) →
    IsSound ssa → AreMatches ds ssa matches → TakeFew ds →
    LeavesNothing ds matches ssa deps

-- With aligned store groups and load groups that feed, no plan ends because its turns are used up: what the
-- packs of a plan take is produced by the walk to its end, and with more turns the plain plan, each
-- plan that is completed, the careful plan and the plan that is chosen beside them are the same.
pub record EndInTime
    (ds : List Description) (matches : List Match) (ssa : Ssa) (deps : List (ℕ × ℕ))
    : Type 0 where
  pub plain : (turns : ℕ) → turns_of ssa ≤ turns
      → plain_plan (packing_by fed_aligned ds matches ssa deps) turns ≡ aligned_plain_of ds matches ssa deps
  pub walked : (plan : List Pack) → IsPlanBy fed_aligned ds matches ssa deps plan
      → WalksTo (packing_by fed_aligned ds matches ssa deps) plan (flat_map (operands_of ds matches ssa) plan)
      (produced (packing_by fed_aligned ds matches ssa deps) (turns_of ssa) plan)
  pub completed : (plan : List Pack) (turns : ℕ) → IsPlanBy fed_aligned ds matches ssa deps plan
      → turns_of ssa ≤ turns
      → completed (packing_by fed_aligned ds matches ssa deps) turns plan ≡ completed_of ds matches ssa deps plan
  pub careful : (turns : ℕ) → turns_of ssa ≤ turns
      → careful_plan (packing_by fed_aligned ds matches ssa deps) turns ≡ careful_of ds matches ssa deps
  pub chosen : (width turns : ℕ) → turns_of ssa ≤ turns
      → chosen_fed (packing_by fed_aligned ds matches ssa deps) turns width (sizes_of ssa)
      ≡ chosen_fed_of ds matches ssa deps width

-- so for each sound kernel and all matches of instances of at most four parameters
abbrev pub CompletedPlansEndInTime : Type 0
CompletedPlansEndInTime =
    (ds : List Description) (matches : List Match) (ssa : Ssa) (deps : List (ℕ × ℕ)) →
    IsSound ssa → AreMatches ds ssa matches → TakeFew ds → EndInTime ds matches ssa deps
