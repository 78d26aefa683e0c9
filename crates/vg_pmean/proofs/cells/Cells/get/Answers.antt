use Rattle.std.proofs.Common.{◌≡◌, ℕ, ◌+◌, ◌*◌, ◌∙◌, ◌<◌, ◌≤◌, ◌^◌, [], arith, length, subst}
use Rattle.vg_base.specs.Bits.{num, bits_of_bytes}
use Rattle.vg_bits.specs.Range.{range}
use Rattle.vg_bits.proofs.ByteLists.{IsBits-bits_of_bytes}
use Rattle.vg_bits.proofs.BitLists.{num-range_below}
use Rattle.std.proofs.Common.{List, get_or}
use Rattle.std.proofs.Math.Nat.{pow-le-pow_right}
use Rattle.vg_pmean.specs.Extent.{total, widths_of, bits_at, registers_in}
use Rattle.vg_pmean.proofs.Holding.{read_here}
use Rattle.vg_pmean.proofs.cells.Cells.get.Goals as goal

pub source-part-requires-clause-small : goal.source-part-requires-clause-small
source-part-requires-clause-small c = rw c.deref.ensures.value (omega (arith, c.self.invariant.small, c.self.invariant.within))

pub returns-clause-is : goal.returns-clause-is
returns-clause-is c =
    let es = c.self.inside.places.items in
    c.read.ensures
    ∙ (λ i. num (range (c.new.ensures i) c.source-part.result.width (bits_of_bytes (c.deref-2.ensures.value i))))
    ∙ read_here c.self.inside.room es c.self.inside.bytes _ c.self.inside.variables.items _ _ c.self.invariant c.args.self.now c.self.view_is c.args.register c.args.low c.args.width c.source-part.result
    (subst (λ l. (v : List ℕ) → total (widths_of l) ≤ length v → bits_at v c.source-part.result ≡ range c.args.low c.args.width (get_or (registers_in v l) c.args.register [])) c.deref.ensures.value c.source-part.ensures.is)

pub returns-clause-below : goal.returns-clause-below
returns-clause-below c =
    let bytes = c.deref-2.result.now in
    let at = 8 * c.new.result.byte + c.new.result.bit in
    let less : num (range at c.source-part.result.width (bits_of_bytes bytes)) < 2 ^ c.source-part.result.width =
    num-range_below at c.source-part.result.width (bits_of_bytes bytes) (IsBits-bits_of_bytes bytes) in
    let more : 2 ^ c.source-part.result.width ≤ 2 ^ c.args.width = pow-le-pow_right {n = 2} (omega arith) c.source-part.ensures.most in
    omega (arith, c.read.ensures, less, more)
