use Rattle.std.proofs.Common.{◌≡◌, map, take}
use Rattle.vg_names.specs.declared.forms.Forms.TheVariants.{Unseen}
use Rattle.vg_names.specs.Assigned.{assignment_view}
use Rattle.vg_names.specs.Gathered.{gathered, with_form}
use Rattle.vg_names.proofs.locals.forms_of.Given as goal

abbrev pub invariant-assignments : goal.invariant-assignments
invariant-assignments l = l.forms.items ≡ gathered with_form Unseen l.names (map assignment_view (take l.assignment-index l.assignments))
