use Rattle.std.proofs.Common.{◌↔◌, subst, sym}
use Rattle.std.specs.Prelude.{IsTrue}
use Rattle.vg_terms.specs.Term.{tree, WellFormed}
use Rattle.vg_terms.proofs.term.Term.is_well_formed.Goals as goal
use Rattle.vg_terms.proofs.Forms.{well_formed_tells}

pub returns : goal.returns
returns c =
    subst (λ b. IsTrue b ↔ WellFormed (tree c.args.self.now)) (sym c.is_formed.ensures) (well_formed_tells (tree c.args.self.now))
