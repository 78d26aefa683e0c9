use Rattle.std.proofs.Common.{◌≡◌, take}
use Rattle.vg_pseudo.specs.Instance.{kept_widths}
use Rattle.vg_range.proofs.calling.kept_widths.Given as goal

abbrev pub invariant-widths : goal.invariant-widths
invariant-widths l = l.kept.items ≡ kept_widths (take l.width-index l.widths)
