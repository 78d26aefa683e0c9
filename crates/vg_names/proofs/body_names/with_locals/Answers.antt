use Rattle.std.proofs.Common.{◌≡◌, ◌∙◌, ◌<◌, ◌++◌, [], ap, length, arith, ◌+◌, false, get_or}
use Rattle.std.specs.Prelude.{vec_items}
use Rattle.std.proofs.lemmas.List.{length-map}
use Rattle.vg_names.specs.Bodies.{registers_of_local}
use Rattle.vg_names.specs.declared.forms.Forms.TheVariants.{Unseen}
use Rattle.vg_names.proofs.SortingLocals.{one_sorted, one_variable, mapped_item}
use Rattle.vg_names.proofs.body_names.with_locals.Goals as goal

pub locals-preserved : goal.locals-preserved
locals-preserved c =
    let k = c.locals.local-index in
    let names = c.args.locals.now in
    let items = c.as_slice-local-items.result.now in
    let n = c.as_slice.result.now in
    let below : k < length names = omega (arith, c.locals-test.true, length-map items vec_items, ap length c.as_slice-local-items.ensures) in
    let is : n ≡ get_or names k [] =
    c.as_slice.ensures.value ∙ mapped_item vec_items items k c.local-item.result [] c.locals-test.true c.local-item.is ∙ ap (λ xs. get_or xs k []) c.as_slice-local-items.ensures in
    let made : c.in_ok-names.names.registers ≡ c.locals.names.registers ++ registers_of_local c.args.marked.now n (get_or c.args.flags.now k false) (get_or c.args.forms.now k Unseen) =
    c.in_ok-names.ensures.registers
    ∙ ap (λ b. c.locals.names.registers ++ registers_of_local c.args.marked.now n b c.forms_at-form.result) (c.flag_at-is_signed.ensures ∙ ap (λ j. get_or c.args.flags.now j false) c.locals.invariant.number)
    ∙ ap (λ f. c.locals.names.registers ++ registers_of_local c.args.marked.now n (get_or c.args.flags.now k false) f) (c.forms_at-form.ensures ∙ ap (λ j. get_or c.args.forms.now j Unseen) c.locals.invariant.number) in
    record {
      number = ap (λ j. j + 1) c.locals.invariant.number;
      registers = one_sorted c.args.marked.now c.args.flags.now c.args.forms.now k names c.locals.names.registers _ n below is made ∙ c.locals.invariant.registers;
      variables = one_variable c.args.marked.now k names c.locals.names.variables _ n below is c.in_ok-names.ensures.variables ∙ c.locals.invariant.variables;
    }
