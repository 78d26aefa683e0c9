-- Each plan by packs, units and nodes can be emitted, also where load groups feed operands, and its
-- program is right.
use Rattle.std.proofs.Common.{◌<◌, ◌^◌, List, [], ◌∷◌, subst, arith}
use Rattle.std.specs.List.{AllByRecursion}
use Rattle.vg_program.specs.Cost.{cost_of}
use Rattle.vg_program.specs.Valid.{KeepsRules}
use Rattle.vg_program.proofs.TextSizes.{short_fits}
use Rattle.vg_pseudo.specs.declared.header.Header.{Header}
use Rattle.vg_shapes.specs.declared.match_table.Match.{Match}
use Rattle.vg_shapes.specs.declared.pack.Pack.{Pack}
use Rattle.vg_shapes.specs.declared.ssa.Ssa.{Ssa}
use Rattle.vg_shapes.specs.Depends.{dependences}
use Rattle.vg_shapes.specs.Description.{Description, IsPackable}
use Rattle.vg_kernel_plans.specs.Fed.{IsFedPlanFor, fed}
use Rattle.vg_emission.specs.Fit.{HasHeader}
use Rattle.vg_emission.specs.Truth.{IsCallable}
use Rattle.vg_gather.specs.Recipes.{planned_program}
use Rattle.vg_plan_laws.specs.Laws.{AreKnown}
use Rattle.vg_plan_laws.proofs.Chosen.{kernels-are-small}
use Rattle.vg_plan_laws.proofs.Keeping.{plans-keep}
use Rattle.vg_plan_laws.proofs.Planned.{plans-are-planned}
use Rattle.vg_plan_laws.proofs.Programs.{plans-are-fit, programs-call, programs-cost, programs-keep-rules, programs-mean}
use Rattle.vg_plan_relations.specs.Plans.{IsFedPlanByNodes}
use Rattle.vg_plan_relations.proofs.Planning.{plans-by-nodes-by}
use Rattle.vg_emit_laws.specs.Laws.{EmittedProgramsAreRight, PlansCanBeEmitted}
use Rattle.vg_emit_laws.proofs.Lines.{program-lines}
use Rattle.vg_emit_laws.proofs.Near.{matches-are-near, packs-are-short}

packable : (ds : List Description) → AllByRecursion IsCallable ds → AllByRecursion IsPackable ds
packable [] all = tt
packable (d ∷ ds) all = (all.0.packable, packable ds all.1)

-- it grows from the empty plan, by the list of all dependences
grows : (ds : List Description) (matches : List Match) (ssa : Ssa) (plan : List Pack) → AreKnown ds matches ssa
    → IsFedPlanByNodes ds matches ssa plan → IsFedPlanFor ds matches ssa (dependences ssa) plan
grows ds matches ssa plan known is = (plans-by-nodes-by fed ds matches ssa plan (packable ds known.described)
    known.matched).1 is

pub plans-can-be-emitted : PlansCanBeEmitted
plans-can-be-emitted ds matches ssa plan known is =
    let deps = dependences ssa in
    let grown = grows ds matches ssa plan known is in
    record {
      sound = known.sound;
      short = packs-are-short ds matches ssa deps plan known grown;
      near = matches-are-near ds matches ssa known;
      planned = plans-are-planned ds matches ssa deps plan known grown;
      keeps = λ called true. plans-keep called ds matches ssa deps plan known true grown;
      fit = λ headers have. plans-are-fit headers ds matches ssa deps plan known have grown;
    }

pub emitted-programs-are-right : EmittedProgramsAreRight
emitted-programs-are-right ds matches ssa plan order known is legal =
    let deps = dependences ssa in
    let p = planned_program ds matches ssa plan order in
    let grown = grows ds matches ssa plan known is in
    let costs = programs-cost ds matches ssa deps plan order known grown legal in
    let rules : (headers : List Header) → AllByRecursion (HasHeader headers) ds → cost_of p < 2 ^ 32
    → KeepsRules headers p =
    λ headers have small. programs-keep-rules headers ds matches ssa deps plan order known have grown legal
    (subst (λ n. n < 2 ^ 32) costs small) in
    record {
      means = λ called true. programs-mean called ds matches ssa deps plan order known true grown legal;
      cost = costs;
      calls = λ headers have. programs-call headers ds matches ssa deps plan order known have grown legal;
      rules = rules;
      valid = λ headers have few some cheap.
          let small = kernels-are-small ssa known.sound in
          let kept = rules headers have (omega (arith, cheap, small)) in
          let lines = program-lines headers p some kept in
          short_fits headers p few kept (omega (arith, lines, cheap, small));
    }
