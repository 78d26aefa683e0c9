use Rattle.std.proofs.Common.{◌*◌, ◌/◌, ◌∙◌, ap, length}
use Rattle.vg_packs.proofs.Ahead.{no-bytes}
use Rattle.vg_packs.proofs.aligned.are_aligned.Goals as goal

pub returns-then-bytes-eq0 : goal.returns-then-bytes-eq0
returns-then-bytes-eq0 c =
    no-bytes c.args.ssa.now c.args.links.now c.args.units.now (length c.args.units.now * c.from.result / 8) c.requires
    (ap (λ n. length c.args.units.now * n / 8) (c.from.ensures ∙ c.first_width.ensures)) c.if-bytes-eq0.true
