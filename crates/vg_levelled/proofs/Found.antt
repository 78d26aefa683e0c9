-- What is found to be added is what the definition adds.
use Rattle.std.proofs.Common.{◌≡◌, List, [], ◌∷◌, ◌++◌, map, Some, sym, ap, subst, ◌∙◌}
use Rattle.vg_program.specs.declared.program.Program.{Program}
use Rattle.vg_shapes.specs.declared.ssa.Ssa.{Ssa}
use Rattle.vg_shapes.specs.declared.ssa_unit.SsaUnit.{SsaUnit}
use Rattle.vg_shapes.specs.Layout.{noalias_flags}
use Rattle.vg_events.specs.Events.{kernel_labels, Label, unit_labels}
use Rattle.vg_events.specs.Lines.{line_labels}
use Rattle.vg_paired.specs.declared.byte_label.ByteLabel.{ByteLabel}
use Rattle.vg_paired.specs.ByteLabels.{label_of}
use Rattle.vg_levelled.specs.declared.sides.Sides.{Sides}
use Rattle.vg_levelled.specs.Adding.{FindsMissing, FindsUnits}
use Rattle.vg_levelled.specs.Found.{HasSides}
use Rattle.vg_levelled.specs.Levelled.{Added, added, added_units, met_pointers, missing}
use Rattle.vg_levelled.proofs.Units.{units-append}

pub added-are : (ssa : Ssa) (p : Program) (a b z : Sides) (us units slice : List SsaUnit) (loads : List ByteLabel)
    → HasSides ssa p a → us ≡ ssa.units
    → FindsUnits a b us (Some units) → slice ≡ units → FindsMissing b z (unit_labels us ++ unit_labels slice) [] loads →
    record { units = units; loads = map label_of loads } ≡ added ssa p
added-are ssa p a b z us units slice loads has own finds same misses =
    let ks = kernel_labels ssa in
    let ps = line_labels p.lines in
    let met = met_pointers (noalias_flags ssa) ssa.units in
    let f = finds ks ps has.counted in
    let u : units ≡ added_units met ks ps ssa.units = f.0 ∙ (λ i. added_units (has.met i) ks ps (own i)) in
    let g = misses (ks ++ unit_labels units) ps f.1 in
    let here : unit_labels us ++ unit_labels slice ≡ unit_labels (ssa.units ++ added_units met ks ps ssa.units) =
    (λ i. unit_labels (own i) ++ unit_labels (same i)) ∙ sym (units-append ssa.units units)
    ∙ ap (λ l. unit_labels (ssa.units ++ l)) u in
    let kernel : ks ++ unit_labels units ≡ unit_labels (ssa.units ++ added_units met ks ps ssa.units) =
    sym (units-append ssa.units units) ∙ ap (λ l. unit_labels (ssa.units ++ l)) u in
    let l : map label_of loads ≡ (added ssa p).loads =
    g.0 ∙ (λ i. missing ((ap (λ m. m.items) f.2 ∙ has.met) i) (kernel i) ps (here i)) in
    (λ i. record { units = u i; loads = l i })
