use Rattle.std.proofs.Common.{ap, subst, sym}
use Rattle.std.specs.Prelude.{not}
use Rattle.vg_deps.specs.Independent.{KeepApart}
use Rattle.vg_deps.proofs.Apart.{independent-apart}
use Rattle.vg_deps.proofs.independence.independent.Goals as goal

pub returns-clause-apart : goal.returns-clause-apart
returns-clause-apart c =
    subst (λ r. KeepApart c.args.deps.now c.args.a c.args.b r) (sym (ap not c.one_depends.ensures))
    (independent-apart c.args.deps.now c.args.a c.args.b)
