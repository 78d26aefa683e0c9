use Rattle.std.proofs.Common.{◌≡◌, ℕ, ◌+◌, ◌-◌, ◌∙◌, ap, arith, replicate, length}
use Rattle.std.proofs.lemmas.List.{length-replicate}
use Rattle.vg_base.specs.Bits.{bits_of_bytes}
use Rattle.vg_bits.specs.Range.{range, replaced}
use Rattle.vg_bits.proofs.Ranges.{length-range}
use Rattle.vg_bits.proofs.ByteLists.{length-bits_of_bytes}
use Rattle.vg_pmean.proofs.Numbers.{replaced_both}
use Rattle.vg_pmean.proofs.pieces.put_padded.Goals as goal

pub returns : goal.returns
returns c =
    let old = bits_of_bytes c.args.bytes.now in
    let source = bits_of_bytes c.args.from.now in
    let moved = range c.args.start c.args.count source in
    let behind = replicate (c.args.width - c.args.count) 0 in
    let size : length moved ≡ c.args.count =
    length-range c.args.start c.args.count source (omega (arith, length-bits_of_bytes c.args.from.now)) in
    c.repeat.ensures
    ∙ ap (λ l. replaced (c.args.at + c.args.count) behind l) c.copy.ensures
    ∙ (λ i. replaced (c.args.at + c.args.count) behind (replaced (c.new.ensures i) (range (c.new-2.ensures i) c.args.count source) old))
    ∙ replaced_both old moved behind c.args.at (c.args.at + c.args.count) (omega (arith, size))
    (omega (arith, size, length-replicate {A = ℕ} (c.args.width - c.args.count) 0, length-bits_of_bytes c.args.bytes.now))
