use Rattle.std.proofs.Common.{◌≡◌, ℕ, ◌+◌, ◌-◌, ◌∙◌, ◌++◌, sym, ap, arith, replicate, length}
use Rattle.vg_base.specs.Bits.{bits, num, bits_of_bytes}
use Rattle.vg_base.proofs.Bits.{length-bits}
use Rattle.vg_bits.specs.Range.{range, replaced}
use Rattle.vg_bits.proofs.ByteLists.{length-bits_of_bytes, IsBits-bits_of_bytes}
use Rattle.vg_pmean.specs.Extent.{place_in}
use Rattle.vg_pmean.proofs.Holding.{width_here, written_here}
use Rattle.std.proofs.Common.{refl}
use Rattle.std.specs.Prelude.{min}
use Rattle.vg_pmean.specs.Held.{held}
use Rattle.vg_pmean.proofs.Laying.{ends}
use Rattle.vg_pmean.proofs.Entering.{whole_written}
use Rattle.vg_pmean.proofs.Holding.{cut, padded_bits}
use Rattle.vg_pmean.proofs.cells.Cells.enter_bytes.Goals as goal

pub put_padded-requires-clause-inside : goal.put_padded-requires-clause-inside
put_padded-requires-clause-inside c =
    let place = c.place_of-to.ensures ∙ ap (λ l. place_in l c.args.register) c.deref.ensures.value in
    omega (
      arith,
      ap (λ e. e.start) place,
      ap (λ e. e.width) place,
      ends c.self.inside.places.items 0 c.args.register c.self.invariant.laid,
      c.self.invariant.within,
      c.self.invariant.bytes_hold,
      ap (λ l. length l) c.deref_mut.ensures.value,
    )

pub put_padded-requires-clause-small : goal.put_padded-requires-clause-small
put_padded-requires-clause-small c =
    let place = c.place_of-to.ensures ∙ ap (λ l. place_in l c.args.register) c.deref.ensures.value in
    omega (
      arith,
      ap (λ e. e.start) place,
      ap (λ e. e.width) place,
      ends c.self.inside.places.items 0 c.args.register c.self.invariant.laid,
      c.self.invariant.within,
      c.self.invariant.small,
    )

pub returns : goal.returns
returns c =
    let es = c.self.inside.places.items in
    let at = place_in es c.args.register in
    let source = bits_of_bytes c.args.bytes.now in
    let count = c.min-count.result in
    let old = bits_of_bytes c.self.inside.bytes.items in
    let place : c.place_of-to.result ≡ at = c.place_of-to.ensures ∙ ap (λ l. place_in l c.args.register) c.deref.ensures.value in
    let start = ap (λ e. e.start) place in
    let wide : c.place_of-to.result.width ≡ at.width = ap (λ e. e.width) place in
    let few : count ≡ min (length source) at.width =
    omega (
      arith,
      c.min-count.ensures,
      c.saturating_mul.ensures,
      wide,
      length-bits_of_bytes c.args.bytes.now,
      ends es 0 c.args.register c.self.invariant.laid,
      c.self.invariant.within,
      c.self.invariant.small,
    ) in
    let new = bits at.width (num source) in
    let size : length new ≡ at.width = length-bits at.width (num source) in
    let here = width_here c.self.inside.room es c.self.inside.bytes _ c.self.inside.variables.items _ _ c.self.invariant c.args.self.now c.self.view_is c.args.register in
    let front : at.start ≡ at.start + 0 = omega arith in
    written_here c.self.inside.room es c.self.inside.bytes _ c.self.inside.variables.items _ _ c.self.invariant c.args.self.now c.self.view_is c.args.register 0 new c.put_padded.new.bytes
    (omega (arith, size, here))
    (c.put_padded.ensures
    ∙ (λ i. replaced (start i) (range 0 count source ++ replicate (wide i - count) 0) (bits_of_bytes (c.deref_mut.ensures.value i)))
    ∙ ap (λ l. replaced at.start l old) (cut at.width count source few ∙ sym (padded_bits at.width source (IsBits-bits_of_bytes c.args.bytes.now)))
    ∙ ap (λ (n : ℕ). replaced n new old) front)
    ∙ ap (λ d. held d c.args.self.now.room) (whole_written c.args.self.now.cells c.args.register at.width (num source) (num source) (sym here) refl)
