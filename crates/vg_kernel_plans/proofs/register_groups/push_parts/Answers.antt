use Rattle.std.proofs.Common.{◌+◌, ◌++◌, arith, drop, length, refl, take}
use Rattle.vg_shapes.specs.declared.pack.Pack.TheVariants.{Loads}
use Rattle.vg_kernel_plans.specs.LoadGroups.{cut_from}
use Rattle.vg_kernel_plans.proofs.Parts.{cut-ends, cut-goes, cut-stops, part-fits}
use Rattle.vg_kernel_plans.proofs.register_groups.push_parts.Goals as goal

pub push_part-requires : goal.push_part-requires
push_part-requires c =
    let fits = part-fits c.args.register c.args.width _ c.in-Some.size c.largest_part.result c.largest_part.ensures c.in-Some.is in
    omega (arith, fits, c.places-count.ensures, c.parts.invariant.inside)

pub parts-preserved : goal.parts-preserved
parts-preserved c =
    let fits = part-fits c.args.register c.args.width _ c.in-Some.size c.largest_part.result c.largest_part.ensures c.in-Some.is in
    record {
      parts =
          cut-goes c.args.register c.args.width c.args.units.now c.parts.from (c.parts.from + c.places-count.result) c.places-count.result c.in-Some.size c.parts.turns
          c.largest_part.result (Loads (take c.places-count.result (drop c.parts.from c.args.units.now))) c.parts.groups.items c.push_part.new.groups.items
          (c.args.groups.now.items ++ cut_from c.args.register c.args.width (length c.args.units.now) c.args.units.now)
          c.parts-test.true c.largest_part.ensures c.in-Some.is c.places-count.ensures refl c.in_ok-push_part-in-Some.ensures refl c.parts.invariant.parts;
      inside = omega (arith, fits, c.places-count.ensures, c.parts.invariant.inside);
    }

pub returns-in-None : goal.returns-in-None
returns-in-None c =
    cut-stops c.args.register c.args.width c.args.units.now c.parts.from c.parts.turns c.largest_part.result c.parts.groups.items
    (c.args.groups.now.items ++ cut_from c.args.register c.args.width (length c.args.units.now) c.args.units.now)
    c.largest_part.ensures c.in-None.is c.parts.invariant.parts

pub returns : goal.returns
returns c =
    cut-ends c.args.register c.args.width c.args.units.now c.parts.from c.parts.turns c.parts.groups.items
    (c.args.groups.now.items ++ cut_from c.args.register c.args.width (length c.args.units.now) c.args.units.now)
    c.parts-test.false c.parts.invariant.parts
