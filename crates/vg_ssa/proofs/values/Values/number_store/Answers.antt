use Rattle.std.proofs.Common.{[], ◌∷◌}
use Rattle.vg_kernel.specs.Tree.{expression_of}
use Rattle.vg_shapes.specs.declared.ssa_unit.SsaUnit.TheVariants.{Store}
use Rattle.vg_ssa.specs.Built.{built, numbered_in}
use Rattle.vg_ssa.proofs.Building.{can-push, pushed, take-front}
use Rattle.vg_ssa.proofs.values.Values.number_store.Goals as goal

pub number-requires : goal.number-requires
number-requires c =
    let b = built c.args.self.now in
    let p = numbered_in b (expression_of c.args.stored.now) in
    take-front b p.units (Store c.args.address c.args.width p.value ∷ []) c.requires

pub push-requires : goal.push-requires
push-requires c =
    let b = built c.args.self.now in
    let p = numbered_in b (expression_of c.args.stored.now) in
    let g = c.in_ok-value.ensures in
    can-push b (built c.number.new.self) p.units (Store c.args.address c.args.width p.value) (Store c.args.address c.args.width c.in_ok-value.value) g.built (λ i. Store c.args.address c.args.width (g.value i)) c.requires

pub returns : goal.returns
returns c =
    let b = built c.args.self.now in
    let p = numbered_in b (expression_of c.args.stored.now) in
    let g = c.in_ok-value.ensures in
    (pushed b (built c.number.new.self) (built c.push.new.self) p.units (Store c.args.address c.args.width p.value) (Store c.args.address c.args.width c.in_ok-value.value) c.in_ok-_none._none g.built
    (λ i. Store c.args.address c.args.width (g.value i)) c.in_ok-_none.ensures.built c.in_ok-_none.ensures.value).built
