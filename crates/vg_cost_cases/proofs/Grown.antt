-- Plans that grow where no unit depends on another.
use Rattle.std.proofs.Common.{◌≡◌, ℕ, ◌<◌, true, List, [], ◌∷◌, ◌++◌, subst}
use Rattle.std.specs.Prelude.{not}
use Rattle.std.specs.List.{list_any}
use Rattle.vg_plans.specs.Crowded.{IsPlan, empty, more}
use Rattle.vg_plans.specs.Members.{Has}
use Rattle.vg_plans.specs.World.{follows, has_no_cycle, is_packed, stays_plan, tried}
use Rattle.vg_plans.proofs.Members.{from-filter}
use Rattle.vg_shapes.specs.declared.match_table.Match.{Match}
use Rattle.vg_shapes.specs.declared.pack.Pack.{Pack}
use Rattle.vg_shapes.specs.declared.ssa.Ssa.{Ssa}
use Rattle.vg_shapes.specs.DepList.{is_listed}
use Rattle.vg_shapes.specs.Pack.{units_of}
use Rattle.vg_kernel_plans.specs.Laws.{IsPlanFor}
use Rattle.vg_kernel_plans.specs.Packing.{packing}
use Rattle.vg_kernel_plans.proofs.SameTests.{both-true}
use Rattle.vg_packs.specs.Walk.{IsFree, NameEarlier}
use Rattle.vg_packs.proofs.Free.{free-first}

earlier-none : (deps : List (ℕ × ℕ)) → deps ≡ [] → NameEarlier deps
earlier-none deps e later earlier t =
    absurd (let u : is_listed [] later earlier ≡ true = subst (λ d. is_listed d later earlier ≡ true) e t in cc)

pub free-none : (matches : List Match) (ssa : Ssa) (deps : List (ℕ × ℕ)) (plan : List Pack) → deps ≡ [] → [] ≡ plan
    → IsFree matches ssa deps plan
free-none matches ssa deps plan e p = subst (IsFree matches ssa deps) p (free-first matches ssa deps (earlier-none deps e))

pub plan-none : (matches : List Match) (ssa : Ssa) (deps : List (ℕ × ℕ)) (plan : List Pack) → [] ≡ plan
    → IsPlanFor [] matches ssa deps plan
plan-none matches ssa deps plan p = subst (IsPlanFor [] matches ssa deps) p empty

module _ (matches : List Match) (ssa : Ssa) (deps : List (ℕ × ℕ)) (plan : List Pack) (p : Pack)
    (h : Has p (follows (packing [] matches ssa deps) plan)) where
  pub plan-more : IsPlanFor [] matches ssa deps plan → IsPlanFor [] matches ssa deps (plan ++ p ∷ [])
  plan-more m = more plan p m h

  pub free-more : IsFree matches ssa deps (plan ++ p ∷ [])
  free-more =
      let w = packing [] matches ssa deps in
      let t = (from-filter (stays_plan w plan) p (tried w plan) h).1 in
      (both-true (not (list_any (is_packed w plan) (units_of p))) (has_no_cycle w (plan ++ p ∷ [])) t).1
