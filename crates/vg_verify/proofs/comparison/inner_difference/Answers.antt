use Rattle.std.proofs.Common.{◌≡◌}
use Rattle.std.specs.Option.{option_map}
use Rattle.std.proofs.lemmas.Result.{IfOk-weaker}
use Rattle.vg_catalog.specs.Catalogs.{entries_in}
use Rattle.vg_known.specs.WiderDifference.{equality}
use Rattle.vg_verify.specs.Verdicts.{difference_of, event_difference, inner_difference}
use Rattle.vg_verify.proofs.Verdicts.{inner_events}
use Rattle.vg_verify.proofs.comparison.inner_difference.Goals as goal

pub returns : goal.returns
returns c =
    IfOk-weaker c.event_difference.result
    (λ found. option_map difference_of found ≡ event_difference (equality c.args.more) c.in_ok-called.called
    c.args.ssa.now c.args.program.now)
    (λ found. option_map difference_of found ≡ inner_difference (equality c.args.more) (entries_in c.args.catalog.now)
    c.args.ssa.now c.args.program.now)
    (λ found e. inner_events (equality c.args.more) c.in_ok-called.called (entries_in c.args.catalog.now)
    c.args.ssa.now c.args.program.now c.in_ok-line.field-0 (option_map difference_of found)
    c.in_ok-called.ensures.entries c.in_ok-line.ensures c.in-None.is e)
    c.event_difference.ensures
