use Rattle.std.proofs.Common.{◌≡◌, ℕ, ◌*◌, ◌∙◌, ◌≤◌, ap, arith, replicate, length}
use Rattle.vg_pmean.specs.Extent.{total}
use Rattle.std.proofs.Common.{drop, length-append, length-drop}
use Rattle.std.proofs.lemmas.List.{length-replicate}
use Rattle.std.specs.Vec.{with_items}
use Rattle.std.proofs.lemmas.List.{with_items_is}
use Rattle.vg_pmean.specs.Held.{held}
use Rattle.vg_pmean.proofs.Holding.{begun}
use Rattle.vg_pmean.proofs.cells.Cells.enter.Goals as goal

pub returns : goal.returns
returns c =
    let es = c.lay-end.new.places.items in
    let n = c.div_ceil.result in
    let fits : total c.args.widths.now ≤ 8 * n = omega (arith, c.div_ceil.ensures, c.lay-end.ensures.end) in
    let size : length c.clear-2.new.bytes ≡ c.self.inside.bytes.len =
    omega (
      arith,
      ap (λ l. length l) c.clear-2.ensures,
      length-append (replicate n 0) (drop n c.deref_mut.result.now),
      length-replicate {A = ℕ} n 0,
      length-drop n c.deref_mut.result.now,
      c.deref_mut.ensures.len,
      c.deref_mut.ensures.value,
      c.div_ceil.ensures,
      c.lay-end.ensures.end,
      c.requires.bits,
      c.self.invariant.bytes_hold,
      ap (λ h. h.room.bits) c.self.view_is,
      ap (λ l. length l) c.deref_mut.ensures.value,
    ) in
    let zeros = with_items_is c.self.inside.bytes c.clear-2.new.bytes size ∙ c.clear-2.ensures in
    (λ i. held (record {
      registers = begun es c.args.widths.now (with_items c.self.inside.bytes c.clear-2.new.bytes).items _ n c.lay-end.ensures.laid c.lay-end.ensures.widths zeros fits i;
      variables = c.begin.ensures.zeros i;
    }) (ap (λ h. h.room) c.self.view_is i))
