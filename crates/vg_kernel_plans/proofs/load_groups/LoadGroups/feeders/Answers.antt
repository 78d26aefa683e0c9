use Rattle.std.proofs.Common.{◌≡◌, arith, false}
use Rattle.std.specs.Prelude.{nat_eq}
use Rattle.std.proofs.lemmas.Bool.Decides.{nat_tests}
use Rattle.vg_kernel_plans.proofs.Tables.{feeds-128, feeds-256, feeds-512, feeds-none}
use Rattle.vg_kernel_plans.proofs.load_groups.LoadGroups.feeders.Goals as goal

pub returns-then-wide : goal.returns-then-wide
returns-then-wide c =
    feeds-512 c.args.self.now c.args.operand.now c.in_ok-values.values.items c.as_slice-values.result.now c.in_ok-found.found.items
    (grind (arith, nat_tests, c.if-wide.true)) c.in_ok-values.ensures c.as_slice-values.ensures.value c.in_ok-found.ensures

pub returns-then-half : goal.returns-then-half
returns-then-half c =
    feeds-256 c.args.self.now c.args.operand.now c.in_ok-values.values.items c.as_slice-values.result.now c.in_ok-found-2.found.items
    (grind (arith, nat_tests, c.if-half.true)) c.in_ok-values.ensures c.as_slice-values.ensures.value c.in_ok-found-2.ensures

pub returns-then-narrow : goal.returns-then-narrow
returns-then-narrow c =
    feeds-128 c.args.self.now c.args.operand.now c.in_ok-values.values.items c.as_slice-values.result.now c.in_ok-found-3.found.items
    (grind (arith, nat_tests, c.if-narrow.true)) c.in_ok-values.ensures c.as_slice-values.ensures.value c.in_ok-found-3.ensures

pub returns : goal.returns
returns c =
    let wide : nat_eq c.args.operand.now.register 512 ≡ false = grind (arith, nat_tests, c.if-wide.false) in
    let half : nat_eq c.args.operand.now.register 256 ≡ false = grind (arith, nat_tests, c.if-half.false) in
    let narrow : nat_eq c.args.operand.now.register 128 ≡ false = grind (arith, nat_tests, c.if-narrow.false) in
    feeds-none c.args.self.now c.args.operand.now c.new.result.items wide half narrow c.new.ensures.items
