use Rattle.vg_names.proofs.Narrow.{narrow-are-written}
use Rattle.vg_names.proofs.law.narrow_headers_are_written.Goals as goal

pub returns : goal.returns
returns c = narrow-are-written
