use Rattle.std.proofs.Common.{◌≡◌, ◌++◌, ◌∷◌, [], ◌∙◌, ap, sym, map, take, filter, suc, arith, ◌+◌}
use Rattle.vg_names.specs.Registers.{register_view, has_sign}
use Rattle.vg_names.proofs.LastOfNames.{one_kept}
use Rattle.vg_names.proofs.registers.signed_of.Goals as goal

pub registers-preserved : goal.registers-preserved
registers-preserved c =
    let next : c.registers.register-index + 1 ≡ suc c.registers.register-index = omega arith in
    rw next
    (c.in_ok-signed.ensures
    ∙ ap (λ ys. ys ++ filter has_sign (register_view c.register-item.result ∷ [])) c.registers.invariant
    ∙ sym (one_kept register_view has_sign c.args.all.now c.registers.register-index _ c.registers-test.true
    ∙ ap (λ r. filter has_sign (map register_view (take c.registers.register-index c.args.all.now)) ++ filter has_sign (register_view r ∷ [])) (sym c.register-item.is)))
