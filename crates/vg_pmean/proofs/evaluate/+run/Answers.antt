use Rattle.std.proofs.Common.{◌≡◌, [], length, sym, ap, ◌∙◌, arith, subst, replicate}
use Rattle.vg_script.specs.Cells.{after, entered, numbers_given}
use Rattle.vg_script.specs.Formed.{ScriptFormed}
use Rattle.vg_script.specs.Views.{given_of, script_of}
use Rattle.vg_pmean.specs.Held.{Alike, filled, held, widths_in}
use Rattle.vg_pmean.specs.FrameRoom.{Suffices, given_room, script_room, no_room}
use Rattle.vg_pmean.proofs.Entering.{filled_past, filled_entered, filled_widths, entered_widths, entered_length, suffices_given, suffices_script}
use Rattle.vg_pmean.proofs.evaluate.+run.Goals as goal

pub call-enter_given-requires : goal.call-enter_given-requires
call-enter_given-requires t c =
    let frame = c.args.frame.now in
    let count : length c.enter.new.self.cells.registers ≡ length c.as_slice-2.result.now =
    ap (λ h. length h.cells.registers) c.enter.ensures ∙ entered_length c.as_slice.result.now [] ∙ ap (λ l. length l) (c.as_slice.ensures ∙ sym c.as_slice-2.ensures) in
    let enough = suffices_given frame.widths frame.variables (given_room (given_of frame.given)) (script_room (script_of frame.script)) no_room c.args.own.now.room (length c.args.free.now) c.requires.room in
    (omega (arith, c.decreases), (c.requires.formed.0, (enough, (c.requires.alike, count))))

pub call-run-requires : goal.call-run-requires
call-run-requires t c =
    let frame = c.args.frame.now in
    let ns = numbers_given c.args.own.now.cells (given_of frame.given) in
    let widths : widths_in c.enter_given.new.cells.cells ≡ frame.widths =
    ap (λ h. widths_in h.cells) c.enter_given.ensures.is
    ∙ filled_widths ns 0 c.enter.new.self.cells
    ∙ ap (λ h. widths_in h.cells) c.enter.ensures
    ∙ entered_widths c.as_slice.result.now []
    ∙ c.as_slice.ensures in
    let room : c.enter_given.new.cells.room ≡ c.args.own.now.room =
    ap (λ h. h.room) c.enter_given.ensures.is ∙ ap (λ h. h.room) c.enter.ensures ∙ c.requires.same in
    let enough = suffices_script frame.widths frame.variables (given_room (given_of frame.given)) (script_room (script_of frame.script)) no_room c.args.own.now.room (length c.args.free.now) c.requires.room in (
      omega (arith, c.decreases),
      (
        subst (λ ws. ScriptFormed ws (script_of frame.script)) (sym widths) c.requires.formed.1,
        (
          subst (λ n. Suffices (script_room (script_of frame.script)) c.enter_given.new.cells.room n) (sym c.enter_given.ensures.count)
              (subst (λ r. Suffices (script_room (script_of frame.script)) r (length c.args.free.now)) (sym room) enough),
          subst (λ r. Alike r c.enter_given.new.free) (sym room) c.enter_given.ensures.kept,
        ),
      ),
    )

pub call-returns-clause-is : goal.call-returns-clause-is
call-returns-clause-is t c =
    let frame = c.args.frame.now in
    let ns = numbers_given c.args.own.now.cells (given_of frame.given) in
    let s = script_of frame.script in
    let vs = replicate frame.variables 0 in
    ap (λ h. h.cells) c.run.ensures.is
    ∙ ap (λ h. after s h.cells) c.enter_given.ensures.is
    ∙ ap (λ h. after s (filled 0 ns h.cells)) c.enter.ensures
    ∙ ap (λ d. after s d) (filled_entered c.as_slice.result.now ns vs)
    ∙ ap (λ ws. after s (record { registers = entered ws ns; variables = vs })) c.as_slice.ensures

pub call-returns-clause-widths : goal.call-returns-clause-widths
call-returns-clause-widths t c =
    let frame = c.args.frame.now in
    let ns = numbers_given c.args.own.now.cells (given_of frame.given) in
    c.run.ensures.widths
    ∙ ap (λ h. widths_in h.cells) c.enter_given.ensures.is
    ∙ filled_widths ns 0 c.enter.new.self.cells
    ∙ ap (λ h. widths_in h.cells) c.enter.ensures
    ∙ entered_widths c.as_slice.result.now []
    ∙ c.as_slice.ensures

pub enter_given-returns-clause-is : goal.enter_given-returns-clause-is
enter_given-returns-clause-is t c =
    let ns = numbers_given c.args.own.now.cells (given_of c.registers.left.now) in
    let stop : filled c.registers.register ns c.registers.cells.cells ≡ c.registers.cells.cells =
    filled_past ns c.registers.register c.registers.cells.cells (omega (arith, c.registers.invariant.registers)) in
    (λ i. held ((sym stop ∙ c.registers.invariant.is) i) (c.registers.invariant.room i))
