use Rattle.vg_text.proofs.Printed.{decimal_value-decimal}
use Rattle.vg_text.proofs.number.decimal_reads_what_is_printed.Goals as goal

pub returns : goal.returns
returns c = decimal_value-decimal
