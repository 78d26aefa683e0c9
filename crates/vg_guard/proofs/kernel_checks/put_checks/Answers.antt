use Rattle.std.proofs.Common.{◌≡◌, ◌++◌, sym, ap, ◌∙◌, arith}
use Rattle.std.specs.List.{filter_map}
use Rattle.vg_kernel.specs.Tree.{tree_of}
use Rattle.vg_guard.specs.Checks.{check_of}
use Rattle.vg_guard.proofs.Numbers.{left_from, with_end}
use Rattle.vg_guard.proofs.kernel_checks.put_checks.Goals as goal

pub returns : goal.returns
returns c =
    let k = tree_of c.args.kernel.now in
    let last : c.seconds.second ≡ c.args.count = omega arith in
    sym (with_end k c.args.count c.args.first c.seconds.to.items)
    ∙ ap (λ i. c.seconds.to.items ++ filter_map (check_of k c.args.first) (left_from c.args.count i)) (sym last)
    ∙ c.seconds.invariant
