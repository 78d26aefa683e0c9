use Rattle.std.proofs.Common.{◌≡◌, ℕ, List, ◌++◌, ap, ◌∙◌, append_assoc}
use Rattle.std.specs.Prelude.{codes}
use Rattle.vg_program.specs.Text.{line_end}
use Rattle.vg_guard.specs.declared.span.Span.{Span}
use Rattle.vg_guard.specs.Guarded.{first_span, span_text}
use Rattle.vg_guard.proofs.printing.put_check.Goals as goal

-- five pieces, one after the other
appended : (old a b first one gap two end : List ℕ) → first ≡ old ++ codes "check disjoint " → one ≡ first ++ a → gap ≡ one ++ codes " " → two ≡ gap ++ b → end ≡ two ++ line_end
    → end ≡ old ++ (codes "check disjoint " ++ a ++ codes " " ++ b ++ line_end)
appended old a b first one gap two end p q r s t =
    t ∙ ap (λ x. x ++ line_end) (s ∙ ap (λ x. x ++ b) (r ∙ ap (λ x. x ++ codes " ") (q ∙ ap (λ x. x ++ a) p)))
    ∙ joined old (codes "check disjoint ") a (codes " ") b line_end
  where
    joined : (o u a v b w : List ℕ) → ((((o ++ u) ++ a) ++ v) ++ b) ++ w ≡ o ++ ((((u ++ a) ++ v) ++ b) ++ w)
    joined o u a v b w = simp append_assoc

pub returns : goal.returns
returns c =
    let ps = c.args.params.now in
    let old = c.args.to.now.items in
    appended old (span_text ps c.first_span-first.result) (span_text ps c.second_span-second.result) _ _ _ _ _
    c.in_ok-extend_from_slice.ensures.items c.in_ok-put_span.ensures c.in_ok-extend_from_slice-2.ensures.items c.in_ok-put_span-2.ensures c.in_ok-extend_from_slice-3.ensures.items
    ∙ ap (λ (s : Span). old ++ (codes "check disjoint " ++ span_text ps s ++ codes " " ++ span_text ps c.second_span-second.result ++ line_end)) c.first_span-first.ensures
    ∙ ap (λ (s : Span). old ++ (codes "check disjoint " ++ span_text ps (first_span c.args.check) ++ codes " " ++ span_text ps s ++ line_end)) c.second_span-second.ensures
