use Rattle.std.proofs.Common.{◌≡◌, ◌∙◌, [], ap, sym, map, length, Result, Ok}
use Rattle.vg_base.specs.Gives.{FailsBy}
use Rattle.vg_pseudo.specs.Tree.{define_of, operation_of}
use Rattle.vg_pseudo.specs.Resolve.{NameFault, functions_of}
use Rattle.vg_pseudo.specs.Resolved.{Resolved}
use Rattle.vg_names.specs.Naming.{told}
use Rattle.vg_names.specs.Views.{body_of, function_view}
use Rattle.vg_names.proofs.ResolvingAll.{resolve_done, resolve_fails, body_of_operation}
use Rattle.vg_names.proofs.operation.resolve.Goals as goal

abbrev found : Resolved → Result Resolved NameFault
found r = Ok r

pub returns : goal.returns
returns c =
    let h = c.args.header.now in
    let o = operation_of c.args.operation.now in
    let fs = map function_view c.in_ok-functions.field-0.functions.items in
    let b = body_of c.in-Ok.body in
    let ef : functions_of [] o.defines ≡ Ok fs = ap (λ ds. functions_of [] (map define_of ds)) (sym c.as_slice.ensures) ∙ c.in_ok-functions.ensures.functions in
    let en = c.in_ok-functions.ensures.names ∙ ap (λ ds. map (λ d. d.name) (map define_of ds)) c.as_slice.ensures in
    record {
      exact =
          resolve_done h o fs b ef (body_of_operation h o c.in_ok-operands.operands c.in_ok-functions.field-0.names (λ r. r ≡ Ok b) c.in_ok-operands.ensures en c.in-Ok.ensures)
          ∙ ap (λ n. found (record { functions = fs; body = b; result = n })) (ap length (sym c.in_ok-operands.ensures) ∙ sym c.count-result.ensures)
          ∙ ap (λ gs. found (record { functions = map function_view gs; body = b; result = c.count-result.result })) (sym c.from_vec.ensures);
    }

pub returns-in-Err : goal.returns-in-Err
returns-in-Err c =
    let h = c.args.header.now in
    let o = operation_of c.args.operation.now in
    let fs = map function_view c.in_ok-functions.field-0.functions.items in
    let ef : functions_of [] o.defines ≡ Ok fs = ap (λ ds. functions_of [] (map define_of ds)) (sym c.as_slice.ensures) ∙ c.in_ok-functions.ensures.functions in
    let en = c.in_ok-functions.ensures.names ∙ ap (λ ds. map (λ d. d.name) (map define_of ds)) c.as_slice.ensures in
    record {
      exact = resolve_fails h o fs (told c.in-Err.fault) ef
          (body_of_operation h o c.in_ok-operands.operands c.in_ok-functions.field-0.names (FailsBy (told c.in-Err.fault)) c.in_ok-operands.ensures en c.in-Err.ensures);
    }
