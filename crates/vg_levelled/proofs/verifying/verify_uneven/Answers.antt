use Rattle.std.proofs.Common.{◌≡◌, false, subst}
use Rattle.std.specs.Option.{is_some}
use Rattle.std.proofs.lemmas.Result.{IfOk-weaker}
use Rattle.vg_catalog.specs.Catalogs.{entries_in}
use Rattle.vg_events.specs.Events.{kernel_labels}
use Rattle.vg_events.specs.Lines.{line_labels}
use Rattle.vg_known.specs.Difference.{uneven_label}
use Rattle.vg_levelled.specs.Found.{IsAdded}
use Rattle.vg_levelled.specs.Levelled.{added, fits}
use Rattle.vg_levelled.proofs.Verified.{all-told, and-none, as-they-are, too-many}
use Rattle.vg_levelled.proofs.verifying.verify_uneven.Goals as goal

pub returns-in-None : goal.returns-in-None
returns-in-None c =
    let entries = entries_in c.args.catalog.now in
    let ssa = c.args.ssa.now in
    let p = c.args.program in
    let no : fits ssa p (added ssa p) ≡ false = too-many ssa p
    (subst (IsAdded ssa p) c.in-None.is c.in_ok-loads_to_add.ensures) in
    IfOk-weaker c.verify.result _ _
    (λ v t. as-they-are entries ssa p v
    (and-none (is_some (uneven_label (kernel_labels ssa) (line_labels p.lines))) (fits ssa p (added ssa p)) no) t)
    (all-told entries ssa p c.verify.result c.verify.ensures.exact c.verify.ensures.same c.verify.ensures.head)
