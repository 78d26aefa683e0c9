use Rattle.std.proofs.Common.{◌<◌, ◌∙◌, length, arith}
use Rattle.std.proofs.lemmas.List.{length-set}
use Rattle.vg_memory.proofs.ByteLaws.{written_more}
use Rattle.vg_memory.proofs.bytes.write_number.Goals as goal

pub bytes-preserved : goal.bytes-preserved
bytes-preserved c =
    let inside : c.bytes.byte-index < length c.bytes.to = omega arith in
    simp length-set (written_more c.bytes.to c.bytes.byte-index c.bytes.rest inside ∙ c.bytes.invariant)
