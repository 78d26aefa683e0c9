-- the set with the extensions that are left is the set of all
use Rattle.std.proofs.Common.{◌≡◌, length}
use Rattle.vg_catalog.specs.Extensions.{bits_in}
use Rattle.vg_request.specs.Options.{with_named}
use Rattle.vg_request.specs.Texts.{texts_of}
use Rattle.vg_request.proofs.options.named.Given as goal

abbrev pub invariant-names : goal.invariant-names
invariant-names l = with_named (bits_in l.set) (texts_of l.left) ≡ with_named 0 (texts_of l.names)

-- less is left
abbrev pub decreases-names : goal.decreases-names
decreases-names l = length l.left
