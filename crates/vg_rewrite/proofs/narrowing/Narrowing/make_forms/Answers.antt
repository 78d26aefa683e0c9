use Rattle.std.proofs.Common.{◌≡◌, OnOk, ◌∙◌, ap, subst}
use Rattle.vg_rewrite.specs.Making.{narrowing}
use Rattle.vg_rewrite.specs.Narrowed.{make_value, no_value, with_standing}
use Rattle.vg_shapes.specs.declared.wanted.Wanted.TheVariants.{Nothing}
use Rattle.vg_rewrite.proofs.narrowing.Narrowing.make_forms.Goals as goal

pub returns-clause-is : goal.returns-clause-is
returns-clause-is c =
    let g = narrowing c.args.self.now in
    let x = c.args.source in
    let stood : narrowing c.stand.new.self ≡ no_value g = c.in_ok-stand.ensures.is ∙ ap (λ s. with_standing s g) c.none.ensures in
    subst (λ h. OnOk c.make_value.result (narrowing c.make_value.new.self ≡ make_value c.args.spans.now c.args.all.now x.value x.unit Nothing x.width h)) stood c.make_value.ensures.is
