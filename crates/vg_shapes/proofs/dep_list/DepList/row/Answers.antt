use Rattle.std.proofs.Common.{◌≡◌, [], ap, sym, ◌∙◌, get_or}
use Rattle.vg_shapes.specs.DepList.{row_of}
use Rattle.vg_shapes.proofs.Pairs.{row_of-rows}
use Rattle.vg_shapes.proofs.dep_list.DepList.row.Goals as goal

pub returns : goal.returns
returns c =
    c.row_at.ensures ∙ ap (λ rows. get_or rows c.args.unit []) c.as_slice.ensures
    ∙ sym (row_of-rows c.self.inside.rows c.args.unit) ∙ ap (λ deps. row_of deps c.args.unit) c.self.view_is
