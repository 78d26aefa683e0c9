use Rattle.std.proofs.Common.{sym, subst}
use Rattle.vg_terms.specs.Known.{IsKnown}
use Rattle.vg_terms.specs.Term.{tree, width_of}
use Rattle.vg_terms.specs.Value.{value}
use Rattle.vg_terms.proofs.term.Term.known.Goals as goal
use Rattle.vg_terms.proofs.Soundness.{known-holds}

pub returns-clause-holds : goal.returns-clause-holds
returns-clause-holds c env =
    subst (λ k. IsKnown (width_of (tree c.args.self.now)) (value env (tree c.args.self.now)) k) (sym c.widths_of-known.ensures.is) (known-holds env (tree c.args.self.now) c.requires)
