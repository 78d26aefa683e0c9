use Rattle.std.proofs.Common.{rules}
use Rattle.std.proofs.lemmas.List.Sorted.{IsPartitionPoint-from_clause}
use Rattle.vg_shapes.specs.MatchTable.{stands_before}
use Rattle.vg_shapes.proofs.MatchTables.{before-both, splits}
use Rattle.vg_shapes.proofs.match_table.place_of.Goals as goal

pub returns-clause-splits : goal.returns-clause-splits
returns-clause-splits c =
    let before = stands_before c.args.description c.args.lane c.args.value in
    IsPartitionPoint-from_clause before c.args.matches.now c.partition_point.result c.partition_point.ensures.partitioned
    (splits before (before-both c.args.description c.args.lane c.args.value) c.args.matches.now c.requires)
    (λ a r f called. search rules)
