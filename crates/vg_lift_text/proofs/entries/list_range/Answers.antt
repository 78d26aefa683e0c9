use Rattle.std.proofs.Common.{◌++◌, ◌∙◌, ap, arith}
use Rattle.std.specs.List.{flat_map}
use Rattle.vg_range.specs.Checks.{header_in, operation_in}
use Rattle.vg_shapes.specs.Order.{numbers_from}
use Rattle.vg_lift_text.specs.Listed.{lines_of}
use Rattle.vg_entry_lanes.proofs.Ranges.{lines-more}
use Rattle.vg_lift_text.proofs.entries.list_range.Goals as goal

pub immediates-preserved : goal.immediates-preserved
immediates-preserved c = record {
  lines = lines-more (lines_of (header_in c.args.entry.now) (operation_in c.args.entry.now)) _ _ _ c.args.first c.immediates.imm
      c.immediates.auto.imm c.immediates.invariant.lines c.in_ok-list_lanes.ensures;
  within = omega (arith, c.immediates-test.true);
}

pub returns : goal.returns
returns c =
    c.immediates.invariant.lines
    ∙ ap (λ n. c.args.to.now.items ++ flat_map (lines_of (header_in c.args.entry.now) (operation_in c.args.entry.now)) (numbers_from c.args.first n))
    (omega (arith, c.immediates.auto.imm, c.immediates.invariant.within, c.immediates-test.false))
