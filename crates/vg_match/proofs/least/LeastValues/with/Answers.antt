use Rattle.std.proofs.Common.{ap, map, ◌∙◌}
use Rattle.std.specs.Prelude.{find}
use Rattle.std.specs.Option.{option_map}
use Rattle.vg_terms.specs.Term.{tree}
use Rattle.vg_match.specs.declared.least.ValueTerm.{ValueTerm}
use Rattle.vg_match.specs.Least.{has_term}
use Rattle.vg_match.proofs.Sorted.{least-first}
use Rattle.vg_match.proofs.least.LeastValues.with.Goals as goal

pub returns : goal.returns
returns c =
    c.first_with.ensures
    ∙ ap (λ xs. option_map (λ (x : ValueTerm). x.value) (find (has_term (tree c.args.t.now)) xs)) c.as_slice.ensures.value
    ∙ least-first (map tree c.args.self.now.terms.now) c.args.self.now.sorted.items (record { term = c.args.t; value = 0 }) c.requires
