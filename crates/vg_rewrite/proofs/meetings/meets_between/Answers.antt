use Rattle.std.proofs.Common.{◌-◌, ◌^◌, ◌∙◌, ap, sym, arith}
use Rattle.std.specs.Prelude.{nat_lt, get_or}
use Rattle.vg_rewrite.proofs.Meeting.{meets-argument, meets-found}
use Rattle.vg_rewrite.proofs.meetings.meets_between.Goals as goal

pub returns-then-load-first : goal.returns-then-load-first
returns-then-load-first c =
    sym (meets-argument c.args.ssa.now c.args.load c.args.user (let below = c.if-load-first.true in let first = c.arguments-first.ensures in omega arith))

pub returns : goal.returns
returns c =
    let first = c.arguments-first.ensures in
    let reach = c.reach_at.ensures ∙ ap (λ f. get_or c.args.reaches.now (c.args.load - f) (2 ^ 64 - 1)) first in
    (λ i. nat_lt (reach i) (c.numbers_between.ensures i))
    ∙ meets-found c.args.ssa.now c.args.reaches.now c.args.load c.args.user (2 ^ 64 - 1) c.requires.reaches (let past = c.if-load-first.false in omega arith) c.requires.user (let fits = c.ranges.user.fits in omega arith)
