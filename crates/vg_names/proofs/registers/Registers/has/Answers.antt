use Rattle.std.proofs.Common.{◌∙◌, ap, map, None}
use Rattle.std.specs.Option.{is_some}
use Rattle.vg_pseudo.specs.Names.{last_function}
use Rattle.vg_names.specs.Registers.{register_view}
use Rattle.vg_names.proofs.LastOfNames.{any_is_last}
use Rattle.vg_names.proofs.registers.Registers.has.Goals as goal

pub returns : goal.returns
returns c =
    rw (← c.self.view_is)
    (c.is_some.ensures ∙ ap is_some c.last.ensures ∙ ap (λ ns. is_some (last_function 0 None ns c.args.name.now)) c.self.invariant
    ∙ any_is_last (map register_view c.self.inside.all.items) c.args.name.now)
