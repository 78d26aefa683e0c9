use Rattle.std.proofs.Common.{◌≡◌, ℕ, true, false, rules, arith}
use Rattle.std.specs.Prelude.{nat_le, nat_lt}
use Rattle.std.proofs.lemmas.Bool.Decides.{nat_tests}
use Rattle.std.proofs.lemmas.List.Sorted.{IsPartitionPoint-from_clause}
use Rattle.vg_shapes.specs.declared.match_table.Match.{Match}
use Rattle.vg_shapes.specs.MatchTable.{stands_before}
use Rattle.vg_shapes.proofs.MatchTables.{before-value, splits, behind-kept}
use Rattle.vg_shapes.proofs.match_table.not_below.Goals as goal

stays-below : (v : ℕ) (m n : Match) → stands_before n.description n.lane n.value m ≡ true → nat_lt n.value v ≡ true → nat_lt m.value v ≡ true
stays-below v m n h g = let e = before-value m n h in grind (arith, nat_tests, e, g)

other-true : (v n : ℕ) → nat_lt n v ≡ false → nat_le v n ≡ true
other-true v n h = grind (arith, nat_tests, h)

other-false : (v n : ℕ) → nat_lt n v ≡ true → nat_le v n ≡ false
other-false v n h = grind (arith, nat_tests, h)

pub returns : goal.returns
returns c =
    let small = λ (m : Match). nat_lt m.value c.args.value in
    let split = IsPartitionPoint-from_clause small c.args.matches.now c.partition_point-place.result c.partition_point-place.ensures.partitioned (splits small (stays-below c.args.value) c.args.matches.now c.requires) (λ a r f called. search rules) in
    behind-kept (λ (m : Match). nat_le c.args.value m.value) c.args.matches.now c.partition_point-place.result
    (λ k d l b. other-false c.args.value _ (split.0 k d l b)) (λ k d l b. other-true c.args.value _ (split.1 k d l b)) c.partition_point-place.ensures.bound
