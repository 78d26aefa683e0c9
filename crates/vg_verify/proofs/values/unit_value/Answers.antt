use Rattle.std.specs.Option.{option_map}
use Rattle.vg_known.specs.WiderDifference.{equality}
use Rattle.vg_verify.specs.Verdicts.{difference_of}
use Rattle.vg_verify.specs.Views.{pairs_in}
use Rattle.vg_verify.proofs.UnitValues.{store_value}
use Rattle.vg_verify.proofs.values.unit_value.Goals as goal

pub returns-in_ok-same-in-Store-clause-found : goal.returns-in_ok-same-in-Store-clause-found
returns-in_ok-same-in-Store-clause-found c =
    store_value (equality c.args.comparer.now.more) c.args.terms.now c.args.comparer.now.maker.classes
    (pairs_in c.args.stored.now.table.entries)
    c.args.number c.args.first c.args.unit.now _ _ _ c.in_ok-own-in-Store.own c.in_ok-put-in-Store.put
    c.own_term.new.maker.classes c.put_term.new.maker.classes
    c.event_count.result c.in_ok-same-in-Store.same (option_map difference_of c.told.result) c.in-Store.is
    c.in_ok-own-in-Store.ensures.form
    c.in_ok-own-in-Store.ensures.classes c.in_ok-put-in-Store.ensures.classes c.event_count.ensures
    c.in_ok-put-in-Store.ensures.form
    c.in_ok-same-in-Store.ensures.is c.told.ensures
