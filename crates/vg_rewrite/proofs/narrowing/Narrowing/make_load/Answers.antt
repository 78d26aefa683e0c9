use Rattle.std.proofs.Common.{◌≡◌, OnOk, Some, ◌∙◌, subst}
use Rattle.vg_rewrite.specs.Making.{narrowing}
use Rattle.vg_rewrite.specs.Narrowed.{and_made, make_value, next_value, nowhere, put, stand, with_standing}
use Rattle.vg_shapes.specs.declared.ssa_unit.SsaUnit.TheVariants.{Load}
use Rattle.vg_rewrite.proofs.narrowing.Narrowing.make_load.Goals as goal

pub returns-clause-is : goal.returns-clause-is
returns-clause-is c =
    let g = narrowing c.args.self.now in
    let w = c.args.width in
    let u = Load c.args.address w in
    let own : c.in_ok-own.own ≡ next_value g = c.in_ok-own.ensures.value in
    let behind : narrowing c.put.new.self ≡ put u g = c.in_ok-own.ensures.is in
    let made : c.and_at.result ≡ and_made w (next_value g) nowhere = c.and_at.ensures ∙ (λ i. and_made w (own i) (c.none.ensures i)) in
    let stood : narrowing c.stand.new.self ≡ stand w (next_value g) (put u g) = c.in_ok-stand.ensures.is ∙ (λ i. with_standing (made i) (behind i)) in
    let one =
    subst (λ x. OnOk c.make_value.result (narrowing c.make_value.new.self ≡ make_value c.args.spans.now c.args.all.now c.args.value (Some u) x w (narrowing c.stand.new.self))) own c.make_value.ensures.is in
    subst (λ h. OnOk c.make_value.result (narrowing c.make_value.new.self ≡ make_value c.args.spans.now c.args.all.now c.args.value (Some u) (next_value g) w h)) stood one
