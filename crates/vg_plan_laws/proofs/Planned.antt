-- Lines can be emitted from a plan: its packs are packs of the kernel, its operands are sound, and
-- its recipes take what stands in registers.
use Rattle.std.proofs.Common.{◌≡◌, true, List, [], ◌∷◌, sym, ap, subst}
use Rattle.std.specs.Prelude.{flat_map}
use Rattle.std.specs.List.{AllByRecursion, list_all}
use Rattle.std.specs.Option.{option_map_or}
use Rattle.vg_plans.specs.Levels.{distinct}
use Rattle.vg_plans.specs.Members.{Every}
use Rattle.vg_plans.proofs.Lists.{every-distinct, every-flat_map}
use Rattle.vg_shapes.specs.declared.match_table.Match.{Match}
use Rattle.vg_shapes.specs.declared.operand.Operand.{Operand}
use Rattle.vg_shapes.specs.declared.pack.Pack.{Pack}
use Rattle.vg_shapes.specs.declared.pack.Pack.TheVariants.{Stores, Loads, Call}
use Rattle.vg_shapes.specs.declared.ssa.Ssa.{Ssa}
use Rattle.vg_shapes.specs.Description.{Description, IsPackable}
use Rattle.vg_shapes.specs.Operands.{IsOperand}
use Rattle.vg_shapes.specs.Pack.{bounds_from}
use Rattle.vg_kernel_plans.specs.SameAs.{same_operand}
use Rattle.vg_kernel_plans.specs.Producers.{agree}
use Rattle.vg_kernel_plans.specs.Taken.{operands_from, operands_of}
use Rattle.vg_emission.specs.Planned.{IsLaneWidth, IsPack}
use Rattle.vg_emission.proofs.Jobs.{get-some}
use Rattle.vg_gather.proofs.Jobs.{plans-take-given}
use Rattle.vg_emission.specs.Truth.{IsCallable}
use Rattle.vg_plan_laws.specs.Laws.{AreKnown, OperandsAreSound, PacksAreRight, PlansAreMade, PlansArePlanned}
use Rattle.vg_plan_laws.specs.Made.{IsMade}
use Rattle.vg_plan_laws.proofs.Filled.{all-get}
use Rattle.vg_plan_laws.proofs.Groups.{group-sound}
use Rattle.vg_plan_laws.proofs.Made.{IsSingle, plan-made}
use Rattle.vg_plan_laws.proofs.Packs.{all-each, plan-packs}
use Rattle.vg_plan_laws.proofs.Slots.{call-operands, good-entries}

pub plans-are-made : PlansAreMade
plans-are-made ds matches ssa deps plan is =
    all-each (IsSingle ds matches ssa) (IsMade ds matches ssa) (λ p s. s.made) plan
    (plan-made ds matches ssa deps plan is)

-- ---- packs

is-pack : (ds : List Description) (matches : List Match) (ssa : Ssa) (p : Pack)
    → AllByRecursion IsCallable ds → IsMade ds matches ssa p → IsPack ds ssa p
is-pack ds matches ssa (Stores us) described made = made
is-pack ds matches ssa (Loads us) described made = made
is-pack ds matches ssa (Call d lanes) described made = (
  get-some ds d made.entry made.there,
  subst IsLaneWidth (sym
      (ap (λ o. option_map_or (λ (e : Description). e.lane_width) o 0) made.there))
      (all-get IsCallable ds d made.entry described made.there).lane,
)

pub packs-are-right : PacksAreRight
packs-are-right ds matches ssa deps plan known is = (
  plan-packs ds matches ssa deps plan known.sound known.matched is,
  all-each (IsSingle ds matches ssa) (IsPack ds ssa)
      (λ p s. is-pack ds matches ssa p known.described s.made) plan
      (plan-made ds matches ssa deps plan is),
)

-- ---- operands

pack-operands : (ds : List Description) (matches : List Match) (ssa : Ssa) (p : Pack)
    → AreKnown ds matches ssa → IsMade ds matches ssa p
    → Every (IsOperand ssa) (operands_of ds matches ssa p)
pack-operands ds matches ssa (Stores us) known made = (group-sound ssa us known.sound made, tt)
pack-operands ds matches ssa (Loads us) known made = tt
pack-operands ds matches ssa (Call d lanes) known made =
    let x = made.entry in
    let own = all-get IsCallable ds d x known.described made.there in
    let bounds = bounds_from matches d 0 lanes in
    let params = ap (λ o. option_map_or (λ (e : Description). e.params) o []) made.there in
    subst (λ ps. Every (IsOperand ssa) (operands_from bounds 0 ps)) (sym params)
    (call-operands ssa x bounds own.packable own.params
    (λ b h. good-entries ds matches ssa d x known.sound known.matched made.there own.packable 0
    lanes b made.matched h)
    (subst (λ ps. list_all (λ (o : Operand). agree o.slots) (operands_from bounds 0 ps)
    ≡ true) params made.agreed))

all-of : {X : Type 0} (P : X → Type 0) (xs : List X) → Every P xs → AllByRecursion P xs
all-of P [] h = tt
all-of P (x ∷ xs) h = (h.0, all-of P xs h.1)

pub operands-are-sound : OperandsAreSound
operands-are-sound ds matches ssa deps plan known is =
    all-of (IsOperand ssa) (distinct same_operand (flat_map (operands_of ds matches ssa) plan))
    (every-distinct (IsOperand ssa) same_operand [] (flat_map (operands_of ds matches ssa) plan)
    (every-flat_map (IsSingle ds matches ssa) (IsOperand ssa) (operands_of ds matches ssa) plan
    (λ p s. pack-operands ds matches ssa p known s.made) (plan-made ds matches ssa deps plan is)))

-- ---- recipes

packable : (ds : List Description) → AllByRecursion IsCallable ds → AllByRecursion IsPackable ds
packable [] h = tt
packable (d ∷ ds) h = ((h.0).packable, packable ds h.1)

pub plans-are-planned : PlansArePlanned
plans-are-planned ds matches ssa deps plan known is =
    let right = packs-are-right ds matches ssa deps plan known is in
    record {
      sound = known.sound;
      packs = right.0;
      kinds = right.1;
      recipes =
          plans-take-given ds matches ssa plan (packable ds known.described)
          (operands-are-sound ds matches ssa deps plan known is);
    }
