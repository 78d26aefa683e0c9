use Rattle.std.proofs.Common.{◌≡◌, ◌++◌, sym, ap, ◌∙◌, arith}
use Rattle.std.specs.List.{flat_map}
use Rattle.vg_kernel.specs.Tree.{tree_of}
use Rattle.vg_guard.specs.Checks.{checks_with}
use Rattle.vg_guard.proofs.Numbers.{left_from, all_end}
use Rattle.vg_guard.proofs.kernel_checks.checks_of.Goals as goal

pub returns : goal.returns
returns c =
    let k = tree_of c.args.kernel.now in
    let n = c.count_of_pointers-count.result in
    let last : c.firsts.first ≡ n = omega arith in
    sym (all_end k n c.firsts.checks.items)
    ∙ ap (λ i. c.firsts.checks.items ++ flat_map (checks_with k n) (left_from n i)) (sym last)
    ∙ c.firsts.invariant
