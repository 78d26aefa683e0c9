-- no comment began so far
use Rattle.std.proofs.Common.{◌≡◌, length}
use Rattle.vg_catalog.specs.Comments.{has_comment}
use Rattle.vg_catalog.proofs.comments.has_comment.Given as goal

abbrev pub invariant-bytes : goal.invariant-bytes
invariant-bytes l = has_comment l.rest ≡ has_comment l.text

abbrev pub decreases-bytes : goal.decreases-bytes
decreases-bytes l = length l.rest
