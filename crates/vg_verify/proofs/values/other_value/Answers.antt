use Rattle.std.proofs.Common.{◌∙◌, ap}
use Rattle.std.specs.Option.{option_map}
use Rattle.vg_known.specs.WiderDifference.{equality}
use Rattle.vg_verify.specs.Values.{first_value}
use Rattle.vg_verify.specs.Verdicts.{difference_of}
use Rattle.vg_verify.specs.Views.{pairs_in, sides_in}
use Rattle.vg_verify.proofs.UnitValues.{all_values}
use Rattle.vg_verify.proofs.values.other_value.Goals as goal

pub returns : goal.returns
returns c =
    all_values (equality c.new-comparer.result.more) (sides_in c.args.sides) c.args.ssa.now
    c.in_ok-stored.stored.table.entries
    (pairs_in c.deref.result.now) c.deref-2.result.now c.new-comparer.result.maker.classes c.arguments.result
    c.as_slice-units.result.now
    (option_map difference_of c.in_ok-found.found) (ap pairs_in c.deref.ensures.value) c.deref-2.ensures.value
    c.new-comparer.ensures.classes
    c.arguments.ensures c.as_slice-units.ensures c.in_ok-stored.ensures c.in_ok-found.ensures
    ∙ ap (λ m. first_value (equality m) (sides_in c.args.sides) c.args.ssa.now) c.new-comparer.ensures.with_more
