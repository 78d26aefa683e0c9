-- what is left, before what is chained, is the whole
use Rattle.std.proofs.Common.{◌≡◌, map, vec_len}
use Rattle.vg_pseudo.specs.Statements.{chained}
use Rattle.vg_pseudo.specs.Views.{block_of}
use Rattle.vg_pseudo.proofs.blocks.chained.Given as goal

abbrev pub invariant-chain : goal.invariant-chain
invariant-chain l = chained (map block_of l.left.items) (block_of l.behind) ≡ chained (map block_of l.fn.blocks.items) (block_of l.initial.behind)

abbrev pub decreases-chain : goal.decreases-chain
decreases-chain l = vec_len l.left
