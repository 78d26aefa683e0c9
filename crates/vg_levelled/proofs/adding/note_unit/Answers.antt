use Rattle.std.proofs.Common.{◌∙◌, Option, OnOk, subst, sym}
use Rattle.vg_shapes.specs.declared.access.Access.{Access}
use Rattle.vg_events.specs.Events.{labels_in}
use Rattle.vg_levelled.specs.Adding.{FindsMissing}
use Rattle.vg_levelled.proofs.adding.note_unit.Goals as goal

pub returns-in-Some : goal.returns-in-Some
returns-in-Some c =
    subst
    (λ (x : Option Access). OnOk c.note_access.result (FindsMissing c.args.sides.now c.note_access.new.sides
    (labels_in x) c.args.found.now.items c.note_access.new.found.items))
    (sym c.in-Some.is ∙ c.access.ensures) c.note_access.ensures
