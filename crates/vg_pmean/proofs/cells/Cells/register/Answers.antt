use Rattle.std.proofs.Common.{◌≡◌, ℕ, ◌+◌, ◌-◌, ◌*◌, ◌∙◌, ◌++◌, ◌≤◌, [], sym, ap, arith, replicate, length}
use Rattle.vg_base.specs.Bits.{bits, num, bits_of_bytes}
use Rattle.vg_bits.specs.Range.{range, replaced}
use Rattle.vg_bits.proofs.ByteLists.{length-bits_of_bytes}
use Rattle.std.proofs.Common.{get_or}
use Rattle.vg_pmean.specs.Extent.{place_in, registers_in}
use Rattle.std.proofs.Common.{take, drop}
use Rattle.vg_bits.proofs.Ranges.{length-range}
use Rattle.std.specs.Prelude.{min}
use Rattle.vg_pmean.proofs.Laying.{ends, register_at, take-both}
use Rattle.vg_pmean.proofs.Holding.{in_zeros, padded_bits, register_bits}
use Rattle.vg_pmean.proofs.cells.Cells.register.Goals as goal

pub copy-requires-clause-from_inside : goal.copy-requires-clause-from_inside
copy-requires-clause-from_inside g c =
    let place = c.place_of-from.ensures ∙ ap (λ l. place_in l c.args.register) c.deref.ensures.value in
    omega (
      arith,
      c.new-2.ensures,
      c.min-count.ensures,
      ap (λ e. e.start) place,
      ap (λ e. e.width) place,
      ends c.self.inside.places.items 0 c.args.register c.self.invariant.laid,
      c.self.invariant.within,
      c.self.invariant.bytes_hold,
      ap (λ l. length l) c.deref-2.ensures.value,
    )

pub returns : goal.returns
returns g c =
    let es = c.self.inside.places.items in
    let at = place_in es c.args.register in
    let source = bits_of_bytes c.self.inside.bytes.items in
    let reg = get_or (registers_in source es) c.args.register [] in
    let count = c.min-count.result in
    let all : ℕ = 8 * g.row.B in
    let old = bits_of_bytes c.zero-result.result.bytes in
    let moved = range at.start count source in
    let place : c.place_of-from.result ≡ at = c.place_of-from.ensures ∙ ap (λ l. place_in l c.args.register) c.deref.ensures.value in
    let start = ap (λ e. e.start) place in
    let wide : c.place_of-from.result.width ≡ at.width = ap (λ e. e.width) place in
    let inside : at.start + at.width ≤ length source =
    omega (arith, ends es 0 c.args.register c.self.invariant.laid, c.self.invariant.within, c.self.invariant.bytes_hold, length-bits_of_bytes c.self.inside.bytes.items) in
    let few : count ≡ min all at.width =
    omega (arith, c.min-count.ensures, c.saturating_mul.ensures, wide, ends es 0 c.args.register c.self.invariant.laid, c.self.invariant.within, c.self.invariant.small) in
    let is : reg ≡ range at.start at.width source = register_at source es c.args.register in
    let same : moved ≡ take all reg =
    ap (λ (n : ℕ). take n (drop at.start source)) few
    ∙ sym (take-both all at.width (drop at.start source))
    ∙ ap (λ l. take all l) (sym is) in
    let left : all - length moved ≡ all - length reg =
    omega (arith, few, length-range at.start count source (omega (arith, few, inside)), ap (λ l. length l) is, length-range at.start at.width source inside) in
    c.copy.ensures
    ∙ (λ i. replaced (c.new.ensures i) (range ((c.new-2.ensures ∙ start) i) count (bits_of_bytes (c.deref-2.ensures.value i))) old)
    ∙ in_zeros moved old all c.zero-result.ensures
    ∙ (λ i. same i ++ replicate (left i) 0)
    ∙ sym (padded_bits all reg (register_bits c.self.inside.bytes.items es c.args.register))
    ∙ ap (λ h. bits all (num (get_or h.cells.registers c.args.register []))) c.self.view_is
