use Rattle.std.proofs.Common.{◌≡◌, ◌∙◌, ap, arith, false, sym}
use Rattle.std.specs.Prelude.{nat_eq}
use Rattle.std.proofs.lemmas.Bool.Decides.{nat_tests}
use Rattle.vg_kernel_plans.specs.LoadTable.{part_or}
use Rattle.vg_kernel_plans.proofs.Parts.{part-128, part-256, part-512, part-none}
use Rattle.vg_kernel_plans.proofs.register_groups.largest_part.Goals as goal

pub returns-then-wide : goal.returns-then-wide
returns-then-wide c =
    c.part_or-whole.ensures ∙ sym (part-512 c.args.register c.args.width c.args.left (grind (arith, nat_tests, c.if-wide.true)))

pub returns-then-half : goal.returns-then-half
returns-then-half c =
    c.part_or-part.ensures ∙ sym (part-256 c.args.register c.args.width c.args.left (grind (arith, nat_tests, c.if-half.true)))

pub returns-then-narrow : goal.returns-then-narrow
returns-then-narrow c =
    c.part_or-sixteen.ensures ∙ ap (part_or c.args.width c.args.left 16) (c.part_or-eight.ensures ∙ ap (part_or c.args.width c.args.left 8) c.part_or-four.ensures)
    ∙ sym (part-128 c.args.register c.args.width c.args.left (grind (arith, nat_tests, c.if-narrow.true)))

pub returns : goal.returns
returns c =
    let wide : nat_eq c.args.register 512 ≡ false = grind (arith, nat_tests, c.if-wide.false) in
    let half : nat_eq c.args.register 256 ≡ false = grind (arith, nat_tests, c.if-half.false) in
    let narrow : nat_eq c.args.register 128 ≡ false = grind (arith, nat_tests, c.if-narrow.false) in
    sym (part-none c.args.register c.args.width c.args.left wide half narrow)
