-- the lines that are left, taken off what is left, are those of the whole
use Rattle.std.proofs.Common.{◌≡◌, length}
use Rattle.vg_catalog.specs.Comments.{lines_behind}
use Rattle.vg_catalog.proofs.comments.lines_behind.Given as goal

abbrev pub invariant-bytes : goal.invariant-bytes
invariant-bytes l = lines_behind l.left l.rest ≡ lines_behind l.count l.text

abbrev pub decreases-bytes : goal.decreases-bytes
decreases-bytes l = length l.rest
