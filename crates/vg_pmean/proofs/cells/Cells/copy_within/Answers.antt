use Rattle.std.proofs.Common.{◌≡◌, ◌+◌, ◌-◌, ◌∙◌, ◌++◌, ◌≤◌, [], sym, ap, arith, replicate, length}
use Rattle.vg_base.specs.Bits.{bits, num, bits_of_bytes}
use Rattle.vg_base.proofs.Bits.{length-bits}
use Rattle.vg_bits.specs.Range.{range, replaced}
use Rattle.vg_bits.proofs.ByteLists.{length-bits_of_bytes}
use Rattle.std.proofs.Common.{get_or}
use Rattle.std.specs.Prelude.{min}
use Rattle.vg_bits.proofs.Ranges.{length-range}
use Rattle.vg_pmean.specs.Extent.{total, widths_of, place_in, bits_at, registers_in}
use Rattle.vg_pmean.specs.Held.{widths_in}
use Rattle.vg_pmean.proofs.Entering.{written_widths}
use Rattle.vg_pmean.proofs.Holding.{fits_here, written_here}
use Rattle.std.proofs.lemmas.List.{with_items_is}
use Rattle.vg_script.specs.Cells.{bits_read}
use Rattle.vg_pmean.proofs.Holding.{padded_part, register_bits, same_length, spared}
use Rattle.vg_pmean.proofs.cells.Cells.copy_within.Goals as goal

pub target-to-requires-clause-inside : goal.target-to-requires-clause-inside
target-to-requires-clause-inside c =
    let in_place = fits_here c.self.inside.room c.self.inside.places.items c.self.inside.bytes _ c.self.inside.variables.items _ _ c.self.invariant c.args.self.now c.self.view_is c.args.register c.args.low c.args.width c.requires in
    rw c.deref.ensures.value in_place

pub returns-clause-is : goal.returns-clause-is
returns-clause-is c =
    let es = c.self.inside.places.items in
    let low = c.args.low in
    let width = c.args.width in
    let part = c.source-part.result in
    let source = bits_of_bytes c.self.inside.bytes.items in
    let old = bits_of_bytes c.self.inside.spare.items in
    let reg = get_or (registers_in source es) c.args.from [] in
    let value = num (range c.args.from_low width reg) in
    let to : c.target-to.result.start ≡ (place_in es c.args.register).start + low =
    ap (λ e. e.start) c.target-to.ensures.is ∙ ap (λ l. (place_in l c.args.register).start + low) c.deref.ensures.value in
    let wide : c.target-to.result.width ≡ width = ap (λ e. e.width) c.target-to.ensures.is in
    let inside : total (widths_of es) ≤ length source =
    omega (arith, c.self.invariant.within, c.self.invariant.bytes_hold, length-bits_of_bytes c.self.inside.bytes.items) in
    let spare : total (widths_of es) ≤ length old =
    omega (arith, c.self.invariant.within, c.self.invariant.spare_holds, length-bits_of_bytes c.self.inside.spare.items) in
    let laid = ap (λ l. total (widths_of l)) c.deref-2.ensures.value in
    let fits = c.source-part.ensures.within in
    let same : min width width ≡ width = omega arith in
    let is : bits_at source part ≡ range c.args.from_low (min width width) reg =
    c.source-part.ensures.is source (omega (arith, laid, inside))
    ∙ (λ i. range c.args.from_low (sym same i) (get_or (registers_in source (c.deref-2.ensures.value i)) c.args.from [])) in
    let size : length (bits_at source part) ≡ part.width =
    length-range part.start part.width source (omega (arith, fits, laid, inside)) in
    let padded : bits_at source part ++ replicate (width - part.width) 0 ≡ bits width value =
    padded_part width c.args.from_low width part.width reg (bits_at source part) (register_bits c.self.inside.bytes.items es c.args.from) is size in
    let moved : bits_of_bytes c.copy.new.to ≡ replaced 0 (bits_at source part) old =
    c.copy.ensures ∙ (λ i. replaced (c.new.ensures i) (range (c.new-2.ensures i) part.width (bits_of_bytes (c.deref-3.ensures.value i))) (bits_of_bytes (c.deref_mut.ensures.value i))) in
    let whole : length c.copy.new.to ≡ length c.self.inside.spare.items =
    same_length c.copy.new.to c.self.inside.spare.items (bits_at source part) 0 moved (omega (arith, size, fits, laid, spare, length-bits_of_bytes c.self.inside.spare.items)) in
    let again : range 0 part.width (bits_of_bytes c.deref-4.result.now) ≡ bits_at source part =
    ap (λ l. range 0 part.width (bits_of_bytes l)) (c.deref-4.ensures.value ∙ with_items_is c.self.inside.spare c.copy.new.to (omega (arith, whole, c.self.inside.spare.ok.0)))
    ∙ spared source old (bits_of_bytes c.copy.new.to) part.start part.width moved (omega (arith, fits, laid, inside)) (omega (arith, fits, laid, spare)) in
    let told : bits width value ≡ bits width (bits_read c.args.self.now.cells c.args.from c.args.from_low width) =
    ap (λ h. bits width (bits_read h.cells c.args.from c.args.from_low width)) c.self.view_is in
    let new = bits width (bits_read c.args.self.now.cells c.args.from c.args.from_low width) in
    let long : length new ≡ width = length-bits width (bits_read c.args.self.now.cells c.args.from c.args.from_low width) in
    written_here c.self.inside.room es c.self.inside.bytes _ c.self.inside.variables.items _ _ c.self.invariant c.args.self.now c.self.view_is c.args.register low new c.put_padded.new.bytes
    (omega (arith, long, c.requires))
    (c.put_padded.ensures
    ∙ (λ i. replaced (to i) (again i ++ replicate (wide i - part.width) 0) (bits_of_bytes (c.deref_mut-2.ensures.value i)))
    ∙ ap (λ l. replaced ((place_in es c.args.register).start + low) l (bits_of_bytes c.self.inside.bytes.items)) (padded ∙ told))

pub returns-clause-widths : goal.returns-clause-widths
returns-clause-widths c =
    let new = bits c.args.width (bits_read c.args.self.now.cells c.args.from c.args.from_low c.args.width) in
    let size : length new ≡ c.args.width = length-bits c.args.width (bits_read c.args.self.now.cells c.args.from c.args.from_low c.args.width) in
    ap (λ h. widths_in h.cells) (returns-clause-is c) ∙ written_widths c.args.self.now.cells c.args.register c.args.low new (omega (arith, size, c.requires))
