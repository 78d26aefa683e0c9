use Rattle.vg_entry_lanes.proofs.Headers.{file-headers-have-lanes}
use Rattle.vg_entry_lanes.proofs.law.file_headers_have_lanes.Goals as goal

pub returns : goal.returns
returns c = file-headers-have-lanes
