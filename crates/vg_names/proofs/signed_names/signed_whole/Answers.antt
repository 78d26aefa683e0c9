use Rattle.std.proofs.Common.{◌∙◌, ◌&&◌}
use Rattle.std.specs.Str.{bytes_eq}
use Rattle.vg_names.specs.Registers.{register_view}
use Rattle.vg_names.proofs.TablesOfNames.{any_mapped}
use Rattle.vg_names.proofs.signed_names.signed_whole.Goals as goal

pub returns : goal.returns
returns c = c.is_any_signed_whole.ensures ∙ any_mapped (λ r. register_view r.now) (λ r. bytes_eq r.name c.args.name.now && r.signed_whole) c.args.given.now
