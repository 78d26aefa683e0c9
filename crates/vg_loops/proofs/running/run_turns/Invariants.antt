-- the places have moved by the turns that were run, and the turns that are left do from here what
-- all were to do
use Rattle.std.proofs.Common.{◌≡◌, ◌*◌, ◌-◌, ◌≤◌, length}
use Rattle.vg_loop_laws.specs.Loops.{places_at, turns, block_of}
use Rattle.vg_loops.proofs.running.run_turns.Given as goal

abbrev pub invariant-turns : goal.invariant-turns
invariant-turns g l =
    let means = g.T.Turn.means in
    let block = block_of l.size (means l.fn.runner) l.steps l.fn.places l.args in
    record {
      room : l.left ≤ l.fn.count;
      long : length l.places ≡ length l.steps;
      here : l.places ≡ places_at l.steps l.fn.places (l.size * (l.fn.count - l.left));
      same : means l.runner ≡ means l.fn.runner;
      kept : g.T.Turn.keeps l.runner ≡ g.T.Turn.keeps l.fn.runner;
      ready : g.T.Turn.is_ready l.runner;
      size : length l.memory ≡ length l.fn.memory;
      rest : turns block l.left (l.fn.count - l.left) l.memory ≡ turns block l.fn.count 0 l.fn.memory;
    }

abbrev pub decreases-turns : goal.decreases-turns
decreases-turns g l = l.left
