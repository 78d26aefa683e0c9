use Rattle.std.proofs.Common.{sym, subst, ap, ◌∙◌}
use Rattle.std.specs.Prelude.{nat_eq, nat_le, filter}
use Rattle.vg_shapes.specs.declared.match_table.Match.{Match}
use Rattle.vg_shapes.specs.MatchTable.{IsTable}
use Rattle.vg_shapes.proofs.MatchTables.{table-filter, filter-twice, value-between}
use Rattle.vg_shapes.proofs.match_table.MatchTable.at.Goals as goal

pub not_above-requires : goal.not_above-requires
not_above-requires c =
    subst IsTable (sym c.not_below.ensures)
    (table-filter (λ (m : Match). nat_le c.args.value m.value) c.as_slice.result.now (subst IsTable (sym c.as_slice.ensures.value) c.as_slice.ensures.order))

pub returns : goal.returns
returns c =
    let low = λ (m : Match). nat_le c.args.value m.value in
    let high = λ (m : Match). nat_le m.value c.args.value in
    let same = λ (m : Match). nat_eq m.value c.args.value in
    c.not_above.ensures ∙ ap (filter high) c.not_below.ensures
    ∙ filter-twice high low same (value-between c.args.value) c.as_slice.result.now
    ∙ ap (filter same) c.as_slice.ensures.value
