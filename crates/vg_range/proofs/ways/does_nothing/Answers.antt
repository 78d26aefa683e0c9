use Rattle.std.proofs.Common.{◌∙◌, refl, sym, ap}
use Rattle.std.specs.Prelude.{◌&&◌}
use Rattle.std.specs.List.{list_all}
use Rattle.vg_script.specs.Views.{script_of}
use Rattle.vg_range.specs.Steps.{way_view}
use Rattle.vg_range.specs.Walk.{is_empty}
use Rattle.vg_range.proofs.WaysLeft.{nothing_is}
use Rattle.vg_range.proofs.ways.does_nothing.Goals as goal

pub returns-then-is_empty : goal.returns-then-is_empty
returns-then-is_empty c =
    let ws = c.args.ways.now in
    c.all_empty.ensures
    ∙ ap (λ b. b && list_all (λ w. is_empty (script_of w.body)) ws) (sym c.if-is_empty.true ∙ c.is_empty.ensures)
    ∙ nothing_is way_view (λ w. is_empty (script_of w.body)) (λ w. refl) ws (script_of c.args.last.now)

pub returns-else-is_empty : goal.returns-else-is_empty
returns-else-is_empty c =
    let ws = c.args.ways.now in
    c.if-is_empty.false
    ∙ ap (λ b. b && list_all (λ w. is_empty (script_of w.body)) ws) (sym c.if-is_empty.false ∙ c.is_empty.ensures)
    ∙ nothing_is way_view (λ w. is_empty (script_of w.body)) (λ w. refl) ws (script_of c.args.last.now)
