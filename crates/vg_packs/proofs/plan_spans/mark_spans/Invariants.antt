use Rattle.std.proofs.Common.{◌≡◌, length, take}
use Rattle.vg_packs.specs.Floor.{MarksSpans}
use Rattle.vg_packs.proofs.plan_spans.mark_spans.Given as goal

abbrev pub invariant-packs : goal.invariant-packs
invariant-packs l = record {
  long : length l.spanned ≡ length l.fn.spanned;
  spans : MarksSpans l.table l.ssa l.deps (take l.pack-index l.plan) l.spanned;
}
