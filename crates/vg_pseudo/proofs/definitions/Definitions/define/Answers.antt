use Rattle.std.proofs.Common.{refl, ap, ◌∙◌}
use Rattle.std.specs.Prelude.{vec_items, List}
use Rattle.vg_pseudo.specs.Definitions.{Known}
use Rattle.vg_pseudo.proofs.Tables.{listed, stored}
use Rattle.vg_pseudo.proofs.definitions.Definitions.define.Goals as goal

pub returns : goal.returns
returns c =
    let entries = c.self.inside.callees.entries in
    let kept = stored vec_items _ (λ x y. refl) c.in_ok-name.name c.args.callee entries in
    record { ok = rw (← c.in_ok-name.ensures.items, ← c.self.view_is) (ap (λ (ks : List Known). record { known = ks; inside = c.self.inside.is_inside }) (ap (listed vec_items) c.in_ok-insert.ensures.entries ∙ kept)) }
