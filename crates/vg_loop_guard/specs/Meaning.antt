-- What a guarded loop does.
use Rattle.std.specs.Prelude.{List, if◌then◌else◌}
use Rattle.vg_program.specs.Meaning.{Instructions, meaning}
use Rattle.vg_guard.specs.declared.check.Check.{Check}
use Rattle.vg_guard.specs.Checks.{all_hold}
use Rattle.vg_guard.specs.Guarded.{guarded_meaning}
use Rattle.vg_guarded_loop.specs.declared.guarded_loop.GuardedLoop.{GuardedLoop}
use Rattle.vg_loop_laws.specs.Loops.{Run, blocks_meaning}

-- the first of two where all checks hold at the places, else the second
abbrev pub run_chosen : List Check → Run → Run → Run
run_chosen checks fast slow memory places args =
    if all_hold places checks then fast memory places args else slow memory places args

-- the memory that a guarded loop leaves: each block does what the guarded program means at the places
-- that the pointers have reached, and then come the turns that are left over
abbrev pub guarded_loop_meaning : Instructions → GuardedLoop → Run
guarded_loop_meaning called l =
    blocks_meaning l.times l.turns l.steps (guarded_meaning called l.block) (meaning called l.rest)
