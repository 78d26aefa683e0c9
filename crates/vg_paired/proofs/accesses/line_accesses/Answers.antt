use Rattle.std.proofs.Common.{ap, map, ◌∙◌}
use Rattle.std.proofs.lemmas.List.{take_all}
use Rattle.vg_events.specs.Lines.{line_access}
use Rattle.vg_paired.proofs.Counts.{map-grow}
use Rattle.vg_paired.proofs.accesses.line_accesses.Goals as goal

pub lines-preserved : goal.lines-preserved
lines-preserved c =
    map-grow line_access c.lines.accesses.items c.push.new.self.items c.args.lines.now c.lines.line-index _ c.line_access.result c.lines-test.true
    c.lines.invariant (c.line_access.ensures ∙ ap line_access c.line-item.is) c.in_ok-push.ensures.items

pub returns : goal.returns
returns c = c.lines.invariant ∙ ap (map line_access) (take_all c.lines.line-index c.args.lines.now c.lines-test.false)
