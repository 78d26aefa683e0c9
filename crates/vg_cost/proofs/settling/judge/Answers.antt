use Rattle.std.proofs.Common.{◌∙◌, [], None, Some, refl, sym}
use Rattle.vg_cost.proofs.Moving.{moves_none}
use Rattle.vg_cost.proofs.Settled.{judged-lines, judged-moves}
use Rattle.vg_cost.proofs.settling.judge.Goals as goal

pub returns-in-None : goal.returns-in-None
returns-in-None c =
    let e = sym c.unit_of.ensures ∙ c.in-None.is in
    let counts = c.args.counts.now in
    let changed = c.args.changed.now in
    record {
      counts = judged-moves c.args.change.now counts counts changed changed c.args.number c.args.lines c.args.lines None e
          (moves_none [] counts changed);
      lines = judged-lines c.args.change.now counts counts changed changed c.args.number c.args.lines c.args.lines None e (λ h. refl);
    }

pub returns-in_ok-next-in-Some-clause-counts : goal.returns-in_ok-next-in-Some-clause-counts
returns-in_ok-next-in-Some-clause-counts c =
    judged-moves c.args.change.now c.args.counts.now c.judge_unit.new.counts c.args.changed.now c.judge_unit.new.changed c.args.number
    c.args.lines c.in_ok-next-in-Some.next (Some c.in-Some.unit) (sym c.unit_of.ensures ∙ c.in-Some.is) c.in_ok-next-in-Some.ensures.counts

pub returns-in_ok-next-in-Some-clause-lines : goal.returns-in_ok-next-in-Some-clause-lines
returns-in_ok-next-in-Some-clause-lines c =
    judged-lines c.args.change.now c.args.counts.now c.judge_unit.new.counts c.args.changed.now c.judge_unit.new.changed c.args.number
    c.args.lines c.in_ok-next-in-Some.next (Some c.in-Some.unit) (sym c.unit_of.ensures ∙ c.in-Some.is) c.in_ok-next-in-Some.ensures.lines
