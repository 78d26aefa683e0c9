use Rattle.std.proofs.Common.{◌∙◌, ◌++◌, ◌∷◌, [], ap}
use Rattle.vg_beam.specs.PackTable.{pack_at}
use Rattle.vg_beam.specs.BeamPlan.{plan_of}
use Rattle.vg_beam.proofs.priced_plan.plan_of.Goals as goal

pub returns : goal.returns
returns c =
    c.from_vec.ensures ∙ c.in_ok-push.ensures.items
    ∙ ap (λ l. l ++ c.in_ok-last.last ∷ []) (c.in_ok-packs.ensures ∙ c.packs.ensures)
    ∙ ap (λ q. plan_of c.kept_at-parent.result.now ++ q ∷ []) (c.in_ok-last.ensures ∙ c.pack.ensures)
    ∙ ap (λ l. l ++ pack_at c.args.pack_table.now.packs.items c.args.candidate.pack ∷ []) c.kept_at-parent.ensures.plan
