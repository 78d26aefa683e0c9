use Rattle.std.proofs.Common.{[], ◌∷◌, ◌++◌, ◌∙◌, ap, append_assoc, replicate, Option, subst, sym}
use Rattle.vg_shapes.specs.declared.access.Access.{Access}
use Rattle.vg_events.specs.Events.{labels_in}
use Rattle.vg_paired.specs.Tallies.{Adds}
use Rattle.vg_levelled.proofs.Units.{copies-turn, replicate-push}
use Rattle.vg_levelled.proofs.adding.push_copies.Goals as goal

pub copies-preserved : goal.copies-preserved
copies-preserved c = (
  c.in_ok-push.ensures.items ∙ ap (λ l. l ++ c.args.unit ∷ []) c.copies.invariant.0
      ∙ append_assoc c.args.units.now.items (replicate c.copies.copy c.args.unit) (c.args.unit ∷ [])
      ∙ ap (λ l. c.args.units.now.items ++ l) (sym (replicate-push c.copies.copy c.args.unit)),
  copies-turn c.args.kernel.now c.copies.kernel c.add_any.new.self c.copies.copy c.args.unit c.copies.invariant.1
      (subst (λ (x : Option Access). Adds c.copies.kernel c.add_any.new.self (labels_in x)) c.access.ensures
      c.in_ok-add_any.ensures),
)
