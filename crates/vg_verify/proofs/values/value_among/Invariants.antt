use Rattle.vg_known.specs.WiderDifference.{equality}
use Rattle.vg_verify.specs.Values.{compared, Compared, values_from}
use Rattle.vg_verify.specs.Views.{pairs_in}
use Rattle.vg_verify.proofs.values.value_among.Given as goal

abbrev pub invariant-units : goal.invariant-units
invariant-units l =
    Compared l.initial.comparer l.comparer l.fn.terms (pairs_in l.fn.stored.table.entries) l.fn.units l.place l.own
    l.first
    (values_from (equality l.initial.comparer.more)
    (compared l.fn.terms l.initial.comparer.maker.classes (pairs_in l.fn.stored.table.entries)) l.fn.number 0
    l.fn.units)
