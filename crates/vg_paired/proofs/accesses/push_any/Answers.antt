use Rattle.std.proofs.Common.{◌≡◌, ◌++◌, Option, OnOk, ap, append-nil, map, subst, sym, ◌∙◌}
use Rattle.vg_shapes.specs.declared.access.Access.{Access}
use Rattle.vg_paired.specs.ByteLabels.{label_of}
use Rattle.vg_events.specs.Events.{labels_in}
use Rattle.vg_paired.proofs.accesses.push_any.Goals as goal

pub returns-in-Some : goal.returns-in-Some
returns-in-Some c =
    subst (λ (x : Option Access). OnOk c.push_labels.result (map label_of c.push_labels.new.all.items ≡ map label_of c.args.all.now.items ++ labels_in x)) (sym c.in-Some.is) c.push_labels.ensures

pub returns-in-None : goal.returns-in-None
returns-in-None c =
    sym (ap (λ (x : Option Access). map label_of c.args.all.now.items ++ labels_in x) c.in-None.is ∙ append-nil (map label_of c.args.all.now.items))
