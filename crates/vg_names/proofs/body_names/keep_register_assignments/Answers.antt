use Rattle.std.proofs.Common.{◌∙◌, ap, map}
use Rattle.vg_pseudo.specs.Names.{has_name}
use Rattle.vg_names.specs.Assigned.{assignment_view}
use Rattle.vg_names.proofs.SortingLocals.{mapped_filter}
use Rattle.vg_names.proofs.body_names.keep_register_assignments.Goals as goal

pub returns : goal.returns
returns c =
    ap (map assignment_view) c.keep_marked.ensures
    ∙ mapped_filter assignment_view (λ a. has_name c.args.marked.now a.name) c.args.assignments.now.items
