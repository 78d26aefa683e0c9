use Rattle.std.proofs.Common.{[], ◌∙◌, ap, arith, length, map, refl, subst, sym}
use Rattle.std.specs.Prelude.{false, get_or}
use Rattle.std.proofs.lemmas.List.{length-replicate}
use Rattle.vg_shapes.specs.Description.{description_of}
use Rattle.vg_cost.specs.Marks.{Has}
use Rattle.vg_cost.proofs.Growing.{stands-empty}
use Rattle.vg_cost.proofs.Marking.{has_marked, marked_none}
use Rattle.vg_cost.proofs.Settled.{at_same}
use Rattle.vg_cost.proofs.running.Running.new.Goals as goal

pub needs_from-requires : goal.needs_from-requires
needs_from-requires c =
    ap length c.in_ok-inserted.ensures ∙ length-replicate c.in_ok-end.end 0
    ∙ sym (ap length (c.as_slice.ensures.value ∙ c.in_ok-marks.ensures) ∙ length-replicate c.in_ok-end.end false)

pub returns-clause-stands : goal.returns-clause-stands
returns-clause-stands c =
    let clear = c.as_slice.ensures.value ∙ c.in_ok-marks.ensures in
    let long = ap length clear ∙ length-replicate c.in_ok-end.end false in
    stands-empty (map description_of c.args.descriptions.now) c.args.table.now c.args.ssa.now
    record {
      packs = c.new-2.result;
      taken = c.new-3.result;
      shuffles = c.in_ok-shuffles.shuffles;
      needs = c.in_ok-needs.needs;
      price = 0;
      cost = c.in_ok-needs.needs.lines;
    }
    c.as_slice.result.now c.new-2.ensures.items c.new-3.ensures.items c.in_ok-shuffles.ensures refl
    (subst (λ n. Has n [] c.as_slice.result.now) c.in_ok-end.ensures
    (has_marked c.in_ok-end.end [] c.as_slice.result.now c.as_slice.result.now clear (marked_none c.as_slice.result.now)))
    (c.in_ok-needs.ensures []
    (λ v l. ap (λ xs. get_or xs v 0) c.in_ok-inserted.ensures ∙ at_same c.in_ok-end.end v 0 0 (omega (arith, l, long))))
    refl
