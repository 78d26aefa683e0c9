-- The plan of two loads that are stored in each other's place is fed.
use Rattle.std.proofs.Common.{◌≡◌, ℕ, zero, suc, ◌*◌, [], ◌∷◌, Some, refl, sym, ap, subst, inl, inr, arith}
use Rattle.vg_plans.specs.Crowded.{IsPlan, empty, more}
use Rattle.vg_plans.specs.Members.{Has}
use Rattle.vg_plans.specs.World.{follows}
use Rattle.vg_shapes.specs.declared.operand.Operand.{Operand}
use Rattle.vg_shapes.specs.declared.operand.Slot.{Slot}
use Rattle.vg_shapes.specs.declared.pack.Pack.{Pack}
use Rattle.vg_shapes.specs.declared.pack.Pack.TheVariants.{Loads, Stores}
use Rattle.vg_shapes.specs.declared.wanted.Wanted.TheVariants.{Value}
use Rattle.vg_shapes.specs.Depends.{dependences}
use Rattle.vg_shapes.specs.Matches.{AreMatches}
use Rattle.vg_kernel_plans.specs.Fed.{IsFedPlanFor, fed, packing_by}
use Rattle.vg_kernel_plans.specs.Taken.{group_operand, operands_of}
use Rattle.vg_kernel_plans.specs.Wants.{slot}
use Rattle.vg_plan_relations.specs.Produces.{HasLane, IsLaneSlot, Produces}
use Rattle.vg_plan_relations.specs.SwappedLoads.{SwappedLoadsAreFed, swapped, swapped_plan}
use Rattle.vg_plan_relations.proofs.Planning.{grown-by}

swapped-grown : IsFedPlanFor [] [] swapped (dependences swapped) swapped_plan
swapped-grown =
    let ways = follows (packing_by fed [] [] swapped (dependences swapped)) in
    let stores : IsPlan ways (Stores (2 ∷ 3 ∷ []) ∷ []) = more [] (Stores (2 ∷ 3 ∷ [])) empty (inl refl) in
    more (Stores (2 ∷ 3 ∷ []) ∷ []) (Loads (0 ∷ 1 ∷ [])) stores (inl refl)

none-matched : AreMatches [] swapped []
none-matched = record {
  right = tt;
  whole = λ d lane v t bound e f. absurd (cc);
  cut = λ d lane v t bound e f. absurd (cc);
  turned = λ d lane v t bound e f. absurd (cc);
}

-- the first slot of the stores wants the second load, which is not the first lane
no-lane : IsLaneSlot [] swapped (Loads (0 ∷ 1 ∷ [])) (slot 0 32 (Value 1)) → ⊥
no-lane k = by k.0 k.1 k.2 (ap (λ (s : Slot). s.low) k.3) (ap (λ (s : Slot). s.wanted) k.3)
  where
    by : (i v : ℕ) → HasLane (Some 0 ∷ Some 1 ∷ []) i v → 0 ≡ i * 32 → Value 1 ≡ Value v → ⊥
    by zero v at low wants =
        let first : 0 ≡ v = cc in
        let second : 1 ≡ v = cc in
        absurd (omega (arith, first, second))
    by (suc i) v at low wants = absurd (omega (arith, low))

not-produced : (p q : Pack) (o : Operand) → Stores (2 ∷ 3 ∷ []) ≡ q → Has o (operands_of [] [] swapped q)
    → Produces [] [] swapped (Loads (0 ∷ 1 ∷ [])) o → ⊥
not-produced p q o same h is =
    let own : Has o (group_operand swapped (2 ∷ 3 ∷ []) ∷ []) =
    subst (λ x. Has o (operands_of [] [] swapped x)) (sym same) h in
    elim own [
      | inl e ↦
          let made : Produces [] [] swapped (Loads (0 ∷ 1 ∷ [])) (group_operand swapped (2 ∷ 3 ∷ [])) =
          subst (Produces [] [] swapped (Loads (0 ∷ 1 ∷ []))) (sym e) is in
          no-lane (made.wanted (slot 0 32 (Value 1)) (inl refl) refl)
      | inr n ↦ absurd n
    ]

pub swapped-loads : SwappedLoadsAreFed
swapped-loads = record {
  fed = grown-by fed [] [] swapped tt none-matched swapped_plan swapped-grown;
  alone = λ is. elim (is.made (Stores (2 ∷ 3 ∷ []) ∷ []) [] (Loads (0 ∷ 1 ∷ [])) refl) [
    | inl g ↦ g
    | inr k ↦ elim k.2 [
      | inl e ↦ not-produced (Loads (0 ∷ 1 ∷ [])) k.0 k.1 e k.3 k.4
      | inr n ↦ absurd n
    ]
  ];
}
