-- what is said of what is left, with what is then free to stand, is said of all words
use Rattle.std.proofs.Common.{◌≡◌, length}
use Rattle.vg_request.specs.Parts.{parts_of}
use Rattle.vg_request.specs.Readable.{are_options, may_follow}
use Rattle.vg_request.proofs.reading.are_options.Given as goal

abbrev pub invariant-parts : goal.invariant-parts
invariant-parts l = may_follow l.free (parts_of l.left) ≡ are_options l.guard_free l.words

-- less is left
abbrev pub decreases-parts : goal.decreases-parts
decreases-parts l = length l.left
