use Rattle.std.proofs.Common.{[], ◌∷◌, ◌++◌, ◌∙◌, sym}
use Rattle.vg_levelled.proofs.Bytes.{met-push}
use Rattle.vg_levelled.proofs.met.met_pointers.Goals as goal

pub pointers-preserved : goal.pointers-preserved
pointers-preserved c =
    c.in_ok-push.ensures.items ∙ (λ i. c.pointers.invariant i ++ c.is_met.ensures i ∷ [])
    ∙ sym (met-push c.args.flags.now c.args.units.now c.pointers.pointer)
