use Rattle.std.proofs.Common.{◌-◌, ◌^◌, arith}
use Rattle.vg_sums.specs.Sums.{polynomial, size}
use Rattle.vg_sums.proofs.Sizes.{counted-same, size-some}
use Rattle.vg_sums.proofs.products.are_small.Goals as goal

pub returns : goal.returns
returns c =
    let p = polynomial c.args.p.now in
    let q = polynomial c.args.q.now in
    rw (c.saturating_mul.ensures, c.size.ensures, c.size-2.ensures)
    (counted-same (size p) (size q) (2 ^ 64 - 1) (size-some p) (size-some q) (omega arith))
