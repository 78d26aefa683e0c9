use Rattle.std.proofs.Common.{◌≡◌, ◌+◌, ◌-◌, ◌*◌, ◌≤◌, ◌<◌, ℕ, List, length, sym, ap, subst, ◌∙◌, arith, refl, mul-le-mul_left}
use Rattle.vg_loop_laws.specs.Loops.{places_at, turns, block_of}
use Rattle.vg_loop_laws.specs.Inputs.{StayNear}
use Rattle.vg_loop_laws.proofs.Places.{at-at, length-at}
use Rattle.vg_loops.proofs.Steps.{unmoved, turns-none, trapped, went_on, near-on}
use Rattle.vg_loops.proofs.running.run_turns.Goals as goal

pub turns-init : goal.turns-init
turns-init g c =
    let none : c.args.size * (c.args.count - c.args.count) ≡ 0 = (let zero : c.args.count - c.args.count ≡ 0 = omega arith in ap (λ (k : ℕ). c.args.size * k) zero ∙ omega arith) in
    record {
      room = omega arith;
      long = c.requires.long;
      here = sym (ap (places_at c.args.steps.now c.args.places.now) none ∙ unmoved c.args.steps.now c.args.places.now);
      same = refl;
      kept = refl;
      ready = c.requires.ready;
      size = refl;
      rest = ap (λ (k : ℕ). turns (block_of c.args.size (g.T.Turn.means c.args.runner.now) c.args.steps.now c.args.places.now c.args.args.now) c.args.count k c.args.memory.now) (let zero : c.args.count - c.args.count ≡ 0 = omega arith in zero);
    }

pub returns-in-Trap-clause-outcome : goal.returns-in-Trap-clause-outcome
returns-in-Trap-clause-outcome g c =
    sym c.turns.invariant.rest
    ∙ trapped (g.T.Turn.means c.args.runner.now) (g.T.Turn.means c.turns.runner) c.args.size c.args.steps.now c.args.places.now c.args.args.now c.turns.places c.turns.left (c.args.count - c.turns.left) c.turns.memory
    c.turns.invariant.same c.turns.invariant.here c.turns-test.true c.in-Trap.ensures.outcome

pub move_places-requires : goal.move_places-requires
move_places-requires g c =
    let done = c.args.count - c.turns.left in
    let some = c.turns-test.true in
    let room = c.turns.invariant.room in
    let up : done + 1 ≤ c.args.count = omega (arith, some, room) in
    let scaled : c.args.size * (done + 1) ≤ c.args.size * c.args.count = mul-le-mul_left c.args.size up in
    let split : c.args.size * (done + 1) ≡ c.args.size * done + c.args.size = omega arith in
    subst (StayNear c.args.steps.now c.args.size) (sym c.turns.invariant.here)
    (near-on c.args.steps.now c.args.places.now (c.args.size * done) c.args.size (c.args.size * c.args.count) (omega (arith, scaled, split)) c.requires.long c.requires.near)

pub turns-preserved : goal.turns-preserved
turns-preserved g c =
    let done = c.args.count - c.turns.left in
    let some = c.turns-test.true in
    let room = c.turns.invariant.room in
    let next : c.args.count - (c.turns.left - 1) ≡ done + 1 = omega (arith, some, room) in
    let moved : c.args.size * done + c.args.size ≡ c.args.size * (c.args.count - (c.turns.left - 1)) = (let split : c.args.size * (done + 1) ≡ c.args.size * done + c.args.size = omega arith in sym split ∙ ap (λ (k : ℕ). c.args.size * k) (sym next)) in
    let block = block_of c.args.size (g.T.Turn.means c.args.runner.now) c.args.steps.now c.args.places.now c.args.args.now in
    record {
      room = omega (arith, room);
      long = ap length c.move_places.ensures ∙ length-at c.args.steps.now c.turns.places c.args.size c.turns.invariant.long;
      here = c.move_places.ensures ∙ ap (λ (ps : List ℕ). places_at c.args.steps.now ps c.args.size) c.turns.invariant.here
          ∙ at-at c.args.steps.now c.args.places.now (c.args.size * done) c.args.size ∙ ap (places_at c.args.steps.now c.args.places.now) moved;
      same = c.in-Done.ensures.same ∙ c.turns.invariant.same;
      kept = c.in-Done.ensures.kept ∙ c.turns.invariant.kept;
      ready = c.in-Done.ensures.ready;
      size = c.in-Done.ensures.size ∙ c.turns.invariant.size;
      rest = ap (λ (k : ℕ). turns block (c.turns.left - 1) k c.run.new.memory) next
          ∙ sym (went_on (g.T.Turn.means c.args.runner.now) (g.T.Turn.means c.turns.runner) c.args.size c.args.steps.now c.args.places.now c.args.args.now c.turns.places c.turns.left done c.turns.memory c.run.new.memory
          c.turns.invariant.same c.turns.invariant.here some c.in-Done.ensures.outcome)
          ∙ c.turns.invariant.rest;
    }

pub returns-clause-outcome : goal.returns-clause-outcome
returns-clause-outcome g c =
    sym c.turns.invariant.rest ∙ turns-none _ c.turns.left (c.args.count - c.turns.left) c.turns.memory (let none = c.turns-test.false in omega (arith, none))
