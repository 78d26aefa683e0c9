-- What is compiled of a kernel with guards is one.
use Rattle.std.proofs.Common.{◌≡◌, ◌∙◌, sym}
use Rattle.vg_compile.proofs.OneProgram.{one-program}
use Rattle.vg_guard.specs.Noalias.{all_noalias}
use Rattle.vg_guard.specs.OneGuarded.{OneGuardedIsCompiled}

pub one-guarded : OneGuardedIsCompiled
one-guarded entries set k width more g h x y =
    let checks : g.checks ≡ h.checks = x.checks ∙ sym y.checks in
    let fast : g.fast ≡ h.fast = one-program entries set (all_noalias k) width more g.fast h.fast x.fast y.fast in
    let slow : g.slow ≡ h.slow = one-program entries set k width more g.slow h.slow x.slow y.slow in
    λ i. record { checks = checks i; fast = fast i; slow = slow i }
