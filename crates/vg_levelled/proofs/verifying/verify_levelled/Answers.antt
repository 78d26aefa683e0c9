use Rattle.std.proofs.Common.{◌≡◌, false, ◌∙◌, ap, sym}
use Rattle.std.specs.Prelude.{◌&&◌}
use Rattle.std.specs.Option.{is_some, option_map}
use Rattle.std.proofs.lemmas.Result.{IfOk-weaker}
use Rattle.vg_catalog.specs.Catalogs.{entries_in}
use Rattle.vg_events.specs.Events.{kernel_labels}
use Rattle.vg_events.specs.Lines.{line_labels}
use Rattle.vg_known.specs.Difference.{uneven_label}
use Rattle.vg_paired.specs.Found.{access_of}
use Rattle.vg_levelled.specs.Levelled.{added, fits}
use Rattle.vg_levelled.proofs.Verified.{all-told, as-they-are}
use Rattle.vg_levelled.proofs.verifying.verify_levelled.Goals as goal

pub returns-in-None : goal.returns-in-None
returns-in-None c =
    let entries = entries_in c.args.catalog.now in
    let ssa = c.args.ssa.now in
    let p = c.args.program in
    let even : is_some (uneven_label (kernel_labels ssa) (line_labels p.lines)) ≡ false = ap is_some
    (sym c.in_ok-uneven_label.ensures ∙ ap (option_map access_of) c.in-None.is) in
    IfOk-weaker c.verify.result _ _ (λ v t. as-they-are entries ssa p v (ap (λ b. b && fits ssa p (added ssa p)) even)
    t)
    (all-told entries ssa p c.verify.result c.verify.ensures.exact c.verify.ensures.same c.verify.ensures.head)
