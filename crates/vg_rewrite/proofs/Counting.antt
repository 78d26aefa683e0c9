-- How many values there are.
use Rattle.std.proofs.Common.{◌≡◌, ◌<◌, ◌≤◌, ◌^◌, List, length, refl, ap, arith}
use Rattle.std.specs.Prelude.{not}
use Rattle.std.proofs.lemmas.List.Filters.{length-filter_both}
use Rattle.vg_rewrite.specs.Marks.{numbers}
use Rattle.vg_rewrite.specs.Rewritten.{over}
use Rattle.vg_shapes.specs.declared.ssa.Ssa.{Ssa}
use Rattle.vg_shapes.specs.declared.ssa_unit.SsaUnit.{SsaUnit}
use Rattle.vg_shapes.specs.Sound.{IsSound, is_store}
use Rattle.vg_shapes.specs.Units.{arguments}
use Rattle.vg_ssa.specs.OfUnits.{widths_of}
use Rattle.vg_ssa.proofs.Enough.{widths-most}
use Rattle.vg_ssa.proofs.Soundness.{widths-many}

pub few-numbers : (ssa : Ssa) → IsSound ssa → numbers ssa ≤ 12304
few-numbers ssa sound =
    let both = length-filter_both is_store (λ u. not (is_store u)) (λ u. refl) ssa.units in
    let stores = sound.stores in
    let uses = sound.uses in
    let params = sound.params in
    let same : length (widths_of ssa.params) ≡ arguments ssa = widths-many ssa.params in
    let less = widths-most ssa.params in
    omega arith

-- with fewer than 2^17 units in the place of its own
pub few-between : (ssa : Ssa) (us : List SsaUnit) (new : Ssa) → IsSound ssa → new ≡ over ssa us → length us < 2 ^ 17
    → numbers new < 2 ^ 20
few-between ssa us new sound is few =
    let all = few-numbers ssa sound in
    let same : numbers new ≡ numbers (over ssa us) = ap numbers is in
    omega (arith, same, all, few)
