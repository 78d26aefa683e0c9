use Rattle.std.proofs.Common.{◌≡◌, ℕ, true, rules, arith}
use Rattle.std.specs.Prelude.{nat_le}
use Rattle.std.proofs.lemmas.Bool.Decides.{nat_tests}
use Rattle.std.proofs.lemmas.List.Sorted.{IsPartitionPoint-from_clause}
use Rattle.vg_shapes.specs.declared.match_table.Match.{Match}
use Rattle.vg_shapes.specs.MatchTable.{stands_before}
use Rattle.vg_shapes.proofs.MatchTables.{before-value, splits, front-kept}
use Rattle.vg_shapes.proofs.match_table.not_above.Goals as goal

stays-above : (v : ℕ) (m n : Match) → stands_before n.description n.lane n.value m ≡ true → nat_le n.value v ≡ true → nat_le m.value v ≡ true
stays-above v m n h g = let e = before-value m n h in grind (arith, nat_tests, e, g)

pub returns : goal.returns
returns c =
    let few = λ (m : Match). nat_le m.value c.args.value in
    let split = IsPartitionPoint-from_clause few c.args.matches.now c.partition_point-place.result c.partition_point-place.ensures.partitioned (splits few (stays-above c.args.value) c.args.matches.now c.requires) (λ a r f called. search rules) in
    front-kept few c.args.matches.now c.partition_point-place.result split.0 split.1 c.partition_point-place.ensures.bound
