use Rattle.std.proofs.Common.{◌≡◌, ◌+◌, ◌*◌, ◌∙◌, ap, arith, length}
use Rattle.vg_base.specs.Bits.{bits, bits_of_bytes}
use Rattle.vg_base.proofs.Bits.{length-bits}
use Rattle.vg_bits.specs.Range.{replaced}
use Rattle.vg_pmean.specs.Extent.{place_in}
use Rattle.vg_pmean.specs.Held.{widths_in}
use Rattle.vg_pmean.proofs.Entering.{written_widths}
use Rattle.vg_pmean.proofs.Holding.{fits_here, written_here}
use Rattle.vg_pmean.proofs.cells.Cells.put.Goals as goal

pub target-to-requires-clause-inside : goal.target-to-requires-clause-inside
target-to-requires-clause-inside c =
    let in_place = fits_here c.self.inside.room c.self.inside.places.items c.self.inside.bytes _ c.self.inside.variables.items _ _ c.self.invariant c.args.self.now c.self.view_is c.args.register c.args.low c.args.width c.requires.inside in
    rw c.deref.ensures.value in_place

pub returns-clause-is : goal.returns-clause-is
returns-clause-is c =
    let es = c.self.inside.places.items in
    let low = c.args.low in
    let new = bits c.args.width c.args.value in
    let size : length new ≡ c.args.width = length-bits c.args.width c.args.value in
    let to : 8 * c.new.result.byte + c.new.result.bit ≡ (place_in es c.args.register).start + low =
    c.new.ensures ∙ ap (λ e. e.start) c.target-to.ensures.is ∙ ap (λ l. (place_in l c.args.register).start + low) c.deref.ensures.value in
    let wide : c.target-to.result.width ≡ c.args.width = ap (λ e. e.width) c.target-to.ensures.is in
    written_here c.self.inside.room es c.self.inside.bytes _ c.self.inside.variables.items _ _ c.self.invariant c.args.self.now c.self.view_is c.args.register low new c.write.new.bytes
    (omega (arith, size, c.requires.inside))
    (c.write.ensures ∙ (λ i. replaced (to i) (bits (wide i) c.args.value) (bits_of_bytes (c.deref_mut.ensures.value i))))

pub returns-clause-widths : goal.returns-clause-widths
returns-clause-widths c =
    let new = bits c.args.width c.args.value in
    let size : length new ≡ c.args.width = length-bits c.args.width c.args.value in
    ap (λ h. widths_in h.cells) (returns-clause-is c) ∙ written_widths c.args.self.now.cells c.args.register c.args.low new (omega (arith, size, c.requires.inside))
