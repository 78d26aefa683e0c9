use Rattle.std.proofs.Common.{◌≡◌, OnOk, None, ◌∙◌, ap, subst}
use Rattle.vg_rewrite.specs.Making.{narrowing}
use Rattle.vg_rewrite.specs.Narrowed.{and_made, make_value, nowhere, stand, with_standing}
use Rattle.vg_shapes.specs.declared.wanted.Wanted.TheVariants.{Value}
use Rattle.vg_rewrite.proofs.narrowing.Narrowing.make_param.Goals as goal

pub returns-clause-is : goal.returns-clause-is
returns-clause-is c =
    let g = narrowing c.args.self.now in
    let own = Value c.args.value in
    let made : c.and_at.result ≡ and_made c.args.width own nowhere = c.and_at.ensures ∙ ap (and_made c.args.width own) c.none.ensures in
    let stood : narrowing c.stand.new.self ≡ stand c.args.width own g = c.in_ok-stand.ensures.is ∙ ap (λ s. with_standing s g) made in
    subst (λ h. OnOk c.make_value.result (narrowing c.make_value.new.self ≡ make_value c.args.spans.now c.args.all.now c.args.value None own c.args.width h)) stood c.make_value.ensures.is
