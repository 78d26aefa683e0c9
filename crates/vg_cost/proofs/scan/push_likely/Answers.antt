use Rattle.std.proofs.Common.{◌∙◌, ◌++◌, ap, map, sym}
use Rattle.std.proofs.lemmas.List.{append-nil}
use Rattle.vg_shapes.specs.Description.{description_of}
use Rattle.vg_cost.proofs.Stood.{none_had_of}
use Rattle.vg_cost.proofs.scan.push_likely.Goals as goal

pub returns : goal.returns
returns c =
    let costs = c.args.costs.now.items in
    sym (ap (λ l. costs ++ l)
    (none_had_of (map description_of c.args.descriptions.now) c.args.ssa.now c.args.packs.now c.args.places.now
    c.args.operand.now (description_of c.args.description.now) (record { long = c.requires.long; each = c.requires.each })
    (sym c.may_have.ensures ∙ c.if-may_have.false))
    ∙ append-nil costs)
