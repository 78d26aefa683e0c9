use Rattle.std.proofs.Common.{rules, sym, ◌∙◌}
use Rattle.std.specs.List.Sorted.{ties}
use Rattle.std.proofs.lemmas.List.Elements.{filter_agree}
use Rattle.std.proofs.lemmas.List.Sorted.{answers_always}
use Rattle.vg_terms.specs.Term.{tree}
use Rattle.vg_match.specs.Least.{has_term, is_before}
use Rattle.vg_match.proofs.Sorted.{before-orders, same-term}
use Rattle.vg_match.proofs.least.sorted_values.Goals as goal

pub returns : goal.returns
returns c = record {
  order = c.in_ok-sort_by.ensures.sorted is_before before-orders (answers_always _ _ _ (λ f a r g called. search rules));
  values = c.in_ok-values.values.items;
  all = c.in_ok-values.ensures;
  groups = λ x.
      filter_agree (has_term (tree x.term.now)) (ties is_before x) (same-term x) _
      ∙ c.in_ok-sort_by.ensures.stable is_before before-orders (answers_always _ _ _ (λ f a r g called. search rules)) x
      ∙ sym (filter_agree (has_term (tree x.term.now)) (ties is_before x) (same-term x) _);
}
