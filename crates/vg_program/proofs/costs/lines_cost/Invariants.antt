use Rattle.std.proofs.Common.{◌≡◌, ◌≤◌, ◌-◌, ◌*◌, ◌^◌, min, sum_by, take}
use Rattle.vg_program.specs.Cost.{line_cost}
use Rattle.vg_program.proofs.costs.lines_cost.Given as goal

abbrev pub invariant-lines : goal.invariant-lines
invariant-lines l = record {
  sum : l.total ≡ min (sum_by line_cost (take l.line-index l.lines)) (2 ^ 64 - 1);
  few : sum_by line_cost (take l.line-index l.lines) ≤ 2 ^ 32 * l.line-index;
}
