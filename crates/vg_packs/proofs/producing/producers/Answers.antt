use Rattle.std.proofs.Common.{◌∙◌, map, sym}
use Rattle.vg_shapes.specs.Description.{description_of}
use Rattle.vg_packs.proofs.Making.{none-produced}
use Rattle.vg_packs.proofs.producing.producers.Goals as goal

pub returns-then-not-can_be_packed : goal.returns-then-not-can_be_packed
returns-then-not-can_be_packed c =
    c.new-packs.ensures.items
    ∙ sym (
    none-produced (map description_of c.args.descriptions.now) c.args.table.now c.args.ssa.now c.args.operand.now
    c.as_slice-slots.result.now c.as_slice-values.result.now c.can_be_packed.result
    (c.as_slice-slots.ensures.value ∙ c.in_ok-slots.ensures) (c.as_slice-values.ensures.value ∙ c.in_ok-values.ensures)
    c.can_be_packed.ensures c.if-not-can_be_packed.true)
