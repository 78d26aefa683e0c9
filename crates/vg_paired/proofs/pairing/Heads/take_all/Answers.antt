use Rattle.std.proofs.Common.{List, Option, subst}
use Rattle.std.proofs.lemmas.List.{take_all}
use Rattle.vg_shapes.specs.declared.access.Access.{Access}
use Rattle.vg_paired.specs.Heads.{PairsAll}
use Rattle.vg_paired.proofs.Heads.{all-begin, all-turn}
use Rattle.vg_paired.proofs.pairing.Heads.take_all.Goals as goal

pub accesses-init : goal.accesses-init
accesses-init c ls done a = (c.new-pairs.ensures.items, (all-begin c.args.self.now ls done a).1)

pub accesses-preserved : goal.accesses-preserved
accesses-preserved c =
    all-turn c.args.self.now c.accesses.self c.take_any.new.self c.args.accesses.now c.accesses.access-index _ c.in_ok-events.events c.accesses.pairs.items
    c.push.new.self.items c.accesses-test.true c.accesses.invariant c.in_ok-events.ensures c.in_ok-push.ensures.items

pub returns : goal.returns
returns c =
    subst (λ (xs : List (Option Access)). PairsAll c.args.self.now c.accesses.self xs c.accesses.pairs.items)
    (take_all c.accesses.access-index c.args.accesses.now c.accesses-test.false) c.accesses.invariant
