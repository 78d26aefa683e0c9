use Rattle.std.proofs.Common.{sym, ◌∙◌, ap, map}
use Rattle.vg_names.specs.Naming.{list_behind}
use Rattle.vg_names.specs.Views.{expr_of, list_of}
use Rattle.vg_names.proofs.Listing.{list_last}
use Rattle.vg_names.proofs.expressions.linked.Goals as goal

pub arguments-preserved : goal.arguments-preserved
arguments-preserved c =
    rw (c.in_ok-new.ensures.ok, c.in_ok-new-2.ensures.ok)
    (sym (list_last expr_of c.pop.new.self.items c.in-Some.argument (list_of c.arguments.list))
    ∙ ap (λ d. list_behind (map expr_of d) (list_of c.arguments.list)) (sym c.in-Some.ensures.items)
    ∙ c.arguments.invariant)
