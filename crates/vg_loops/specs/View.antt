-- The loop that a value of the code holds.
use Rattle.vg_kernel.specs.Tree.{tree_of}
use Rattle.vg_loops.specs.declared.counted.Loop.{Loop}
use Rattle.vg_loop_laws.specs.Loops as laws

abbrev pub loop_of : Loop → laws.Loop
loop_of l = record { kernel = tree_of l.kernel; times = l.times; steps = l.steps }
