use Rattle.std.proofs.Common.{◌≡◌, ◌+◌, ◌*◌, ◌/◌, ◌%◌, ◌≤◌, List, refl, sym, subst, arith}
use Rattle.vg_loop_laws.specs.Loops.{places_at, turns, both_meaning}
use Rattle.vg_loop_laws.specs.Inputs.{StayNear}
use Rattle.vg_memory.specs.Outcome.{Leaves}
use Rattle.vg_loops.proofs.Steps.{near-on}
use Rattle.vg_loop_laws.proofs.Looped.{blocks-fit}
use Rattle.vg_loops.proofs.Both.{near-less, both-is}
use Rattle.vg_loops.proofs.running.run_both.Goals as goal

pub run_turns-requires-clause-near : goal.run_turns-requires-clause-near
run_turns-requires-clause-near g c =
    let whole = blocks-fit c.args.size c.args.count in
    near-less c.args.steps.now c.args.places.now (c.args.size * (c.args.count / c.args.size)) c.args.count (omega (arith, whole)) c.requires.near

pub run_turns-requires-2-clause-near : goal.run_turns-requires-2-clause-near
run_turns-requires-2-clause-near g c =
    let whole = blocks-fit c.args.size c.args.count in
    subst (StayNear c.args.steps.now (1 * (c.args.count % c.args.size))) (sym (c.in-Done.ensures.places refl))
    (near-on c.args.steps.now c.args.places.now (c.args.size * (c.args.count / c.args.size)) (1 * (c.args.count % c.args.size)) c.args.count (omega (arith, whole)) c.requires.long c.requires.near)

pub returns-clause-outcome : goal.returns-clause-outcome
returns-clause-outcome g c =
    subst (Leaves c.run_turns-2.result c.run_turns-2.new.memory)
    (both-is c.args.size c.args.count c.args.steps.now (g.B.Turn.means c.args.block.now) (g.R.Turn.means c.args.rest.now) c.args.memory.now c.args.places.now c.run_turns.new.places c.args.args.now c.run_turns.new.memory c.in-Done.ensures.outcome (c.in-Done.ensures.places refl))
    c.run_turns-2.ensures.outcome
