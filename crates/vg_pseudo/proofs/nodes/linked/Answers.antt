use Rattle.std.proofs.Common.{◌≤◌, Some, vec_len, sym, ◌∙◌, ap, map, Ok, arith}
use Rattle.std.proofs.lemmas.List.Elements.{All-pop}
use Rattle.vg_pseudo.specs.declared.parts.Part as code_part
use Rattle.vg_pseudo.specs.Views.{part_of, linked_of}
use Rattle.vg_pseudo.specs.Expressions.{linked}
use Rattle.vg_pseudo.proofs.Taking.{ok_once}
use Rattle.vg_pseudo.proofs.Linking.{linked-nothing, linked-step, emptied}
use Rattle.vg_pseudo.proofs.nodes.linked.Goals as goal

pub parts-preserved : goal.parts-preserved
parts-preserved c =
    let both = All-pop (λ (p : code_part.Part). p.depth ≤ c.args.room) c.parts.left.items c.pop.new.self.items (Some c.in-Some.part) c.in-Some.ensures.items c.parts.invariant.shallow in
    let one = ok_once _ _ c.in-Ok.ensures.node in
    record {
      node = ap (linked (map part_of c.pop.new.self.items)) (sym one) ∙ sym (linked-step c.parts.left.items c.pop.new.self.items c.in-Some.part (linked_of c.parts.behind) c.in-Some.ensures.items) ∙ c.parts.invariant.node;
      shallow = both.0;
      deep = omega (arith, c.in-Ok.ensures.deep, both.1, c.parts.invariant.deep);
    }

pub returns-clause-node : goal.returns-clause-node
returns-clause-node c = ap Ok (sym c.parts.invariant.node ∙ linked-nothing c.parts.left.items (linked_of c.parts.behind) (emptied c.parts.left.items c.pop.new.self.items (vec_len c.parts.left) c.in_default.ensures.items c.in_default.ensures.rest c.in_default.ensures.cases.0))
