use Rattle.std.proofs.Common.{length, sym, ap, ◌∙◌}
use Rattle.std.proofs.lemmas.List.{length-map}
use Rattle.vg_ssa.specs.OfUnits.{widths_of}
use Rattle.vg_ssa.proofs.Soundness.{arguments-long}
use Rattle.vg_terms.specs.Term.{tree}
use Rattle.vg_ssa.proofs.value_terms.ValueTerms.new.Goals as goal

pub returns-clause-first : goal.returns-clause-first
returns-clause-first c =
    let ws = widths_of c.args.params.now in
    let terms = c.in_ok-terms.ensures in
    c.len.ensures ∙ c.in_ok-terms.terms.ok.0 ∙ sym (length-map c.in_ok-terms.terms.items tree) ∙ ap length terms ∙ arguments-long 0 ws
