use Rattle.std.proofs.Common.{ℕ, ◌-◌, ◌∙◌, sym}
use Rattle.std.specs.Prelude.{max}
use Rattle.vg_events.specs.Events.{Label}
use Rattle.vg_paired.specs.Tallies.{count_in}
use Rattle.vg_levelled.proofs.Bytes.{labelled, most-turn}
use Rattle.vg_levelled.proofs.sides.Sides.most_lacking.Goals as goal

pub bytes-preserved : goal.bytes-preserved
bytes-preserved c =
    let k = count_in c.args.self.now.kernel in
    let p = count_in c.args.self.now.program in
    c.max-most.ensures
    ∙ (λ i. max ((c.lacking.ensures ∙ labelled (λ l. p l - k l) c.args.access.writes c.args.access.address c.bytes.byte
    c.of.result c.of.ensures) i) (c.bytes.invariant i))
    ∙ sym (most-turn k p c.args.access.writes c.args.access.address c.bytes.byte)
