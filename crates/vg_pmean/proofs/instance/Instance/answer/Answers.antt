use Rattle.std.proofs.Common.{◌≡◌, ◌*◌, [], sym, ap, ◌∙◌, subst, get_or, take, replicate}
use Rattle.vg_base.specs.Bits.{bits, num}
use Rattle.vg_script.specs.Cells.{after, entered}
use Rattle.vg_script.specs.Formed.{ScriptFormed}
use Rattle.vg_script.specs.Views.{script_of}
use Rattle.vg_pmean.specs.Applied.{given}
use Rattle.vg_pmean.specs.Held.{filled, widths_in}
use Rattle.vg_pmean.proofs.Entering.{filled_entered, filled_widths, entered_widths}
use Rattle.vg_pmean.proofs.instance.Instance.answer.Goals as goal

pub run-requires-clause-formed : goal.run-requires-clause-formed
run-requires-clause-formed g c =
    let whole = c.args.self.now.whole in
    let ns = take whole.parameters (given c.args.params.now c.args.imm) in
    let widths : widths_in c.enter_params.new.cells.cells ≡ whole.widths =
    ap (λ h. widths_in h.cells) c.enter_params.ensures
    ∙ filled_widths ns 0 c.enter.new.self.cells
    ∙ ap (λ h. widths_in h.cells) c.enter.ensures
    ∙ entered_widths c.as_slice.result.now []
    ∙ c.as_slice.ensures in
    subst (λ ws. ScriptFormed ws (script_of whole.script)) (sym widths) c.args.self.now.ready.formed

pub returns-clause-bits : goal.returns-clause-bits
returns-clause-bits g c =
    let whole = c.args.self.now.whole in
    let s = script_of whole.script in
    let ns = take whole.parameters (given c.args.params.now c.args.imm) in
    let vs = replicate whole.variables 0 in
    let left =
    ap (λ h. h.cells) c.run.ensures.is
    ∙ ap (λ h. after s h.cells) c.enter_params.ensures
    ∙ ap (λ h. after s (filled 0 ns h.cells)) c.enter.ensures
    ∙ ap (λ d. after s d) (filled_entered c.as_slice.result.now ns vs)
    ∙ ap (λ ws. after s (record { registers = entered ws ns; variables = vs })) c.as_slice.ensures in
    c.register.ensures ∙ ap (λ d. bits (8 * g.row.B) (num (get_or d.registers whole.result []))) left
