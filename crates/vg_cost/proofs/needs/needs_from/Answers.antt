use Rattle.std.proofs.Common.{◌∙◌, true, ap, arith, length, refl, subst, sym}
use Rattle.std.specs.Prelude.{get_or}
use Rattle.std.proofs.lemmas.List.{length-replicate, with_items_is}
use Rattle.vg_cost.specs.declared.change.Change.{Change}
use Rattle.vg_cost.specs.Needs.{AreNeeds}
use Rattle.vg_cost.proofs.Settled.{from-nothing, stands-all}
use Rattle.vg_cost.proofs.needs.needs_from.Goals as goal

pub settle-requires : goal.settle-requires
settle-requires c =
    let n = length c.args.marks.now in
    let packed = c.as_slice-before.ensures.value ∙ c.in_ok-packed.ensures in
    let none = c.as_slice-unneeded.ensures.value ∙ c.in_ok-none.ensures in
    let marked = c.as_mut_slice-marked.ensures.value ∙ c.in_ok-changed.ensures in
    let change : Change = record {
      ssa = c.args.ssa;
      first = c.arguments-first.result;
      packed = c.as_slice-before.result;
      counts = c.as_slice-unneeded.result;
      longer = c.args.marks;
    } in
    record {
      first = c.arguments-first.ensures;
      fits = record {
        packed = ap length packed ∙ length-replicate n true;
        before = ap length none ∙ length-replicate n 0;
        counted = ap length c.as_mut_slice-counted.ensures.value ∙ c.requires;
        marked = ap length marked ∙ length-replicate n true;
      };
      stands = stands-all change c.as_mut_slice-counted.result.now c.as_mut_slice-marked.result.now n marked refl;
    }

pub returns : goal.returns
returns c = λ values each.
    let change : Change = record {
      ssa = c.args.ssa;
      first = c.arguments-first.result;
      packed = c.as_slice-before.result;
      counts = c.as_slice-unneeded.result;
      longer = c.args.marks;
    } in
    let is = c.in_ok-lines.ensures values (from-nothing change values c.as_mut_slice-counted.result.now
    (c.as_slice-before.ensures.value ∙ c.in_ok-packed.ensures)
    (c.as_slice-unneeded.ensures.value ∙ c.in_ok-none.ensures)
    (λ v l. ap (λ xs. get_or xs v 0) c.as_mut_slice-counted.ensures.value ∙ each v l)) in
    let long = is.long in
    let given = c.requires in
    subst (λ l. AreNeeds c.args.ssa.now c.args.marks.now values l c.in_ok-lines.lines)
    (sym (with_items_is c.args.inserted c.settle.new.counts (omega (arith, long, given, c.args.inserted.ok.0)))) is
