use Rattle.std.proofs.Common.{◌≤◌, ◌<◌, ◌∙◌, ◌||◌, length, ap, arith, set}
use Rattle.vg_names.proofs.Gathering.{set_changed, unchanged}
use Rattle.vg_names.proofs.locals.note_sign.Goals as goal

pub returns-then-local-count : goal.returns-then-local-count
returns-then-local-count c =
    let items = c.args.flags.now.items in
    let below : c.in-Some.local < length items = omega (arith, c.if-local-count.true, ap length c.as_slice-count.ensures.value) in
    rw (c.in-Some.is) (ap (λ b. set items c.in-Some.local (b || c.args.is_signed)) c.index.ensures ∙ set_changed (λ b. b || c.args.is_signed) items c.in-Some.local c.index.result.now below)

pub returns-else-local-count : goal.returns-else-local-count
returns-else-local-count c =
    let items = c.args.flags.now.items in
    let past : length items ≤ c.in-Some.local = omega (arith, c.if-local-count.false, ap length c.as_slice-count.ensures.value) in
    rw (c.in-Some.is) (unchanged (λ b. b || c.args.is_signed) items c.in-Some.local past)
