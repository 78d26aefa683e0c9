use Rattle.std.proofs.Common.{rules, ◌≡◌, refl}
use Rattle.vg_request.proofs.Cuts.{no_parts_left}
use Rattle.vg_request.proofs.reading.are_options.Goals as goal

pub returns : goal.returns
returns c = no_parts_left c.args.words.now c.parts.left.now c.parts.free _ (search rules) c.parts.invariant
