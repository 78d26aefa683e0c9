use Rattle.std.proofs.Common.{◌≡◌, ◌+◌, ◌∷◌, ◌++◌, [], subst, ap, arith}
use Rattle.vg_pmean.specs.Extent.{IsLaid, total, widths_of}
use Rattle.vg_pmean.proofs.Laying.{laid_more, widths_more}
use Rattle.vg_pmean.proofs.cells.lay_one.Goals as goal

pub returns-clause-laid : goal.returns-clause-laid
returns-clause-laid c =
    let es = c.args.places.now.items in
    let end : 0 + total (widths_of es) ≡ c.args.end = omega (arith, c.requires.end) in
    rw c.push_reserved.ensures.items
    (subst (λ n. IsLaid 0 (es ++ record { start = n; width = c.args.width } ∷ [])) end (laid_more es 0 c.args.width c.requires.laid))

pub returns-clause-end : goal.returns-clause-end
returns-clause-end c =
    let es = c.args.places.now.items in
    let all = ap (λ l. total (widths_of l)) c.push_reserved.ensures.items in
    omega (arith, all, c.requires.end, widths_more es c.args.end c.args.width)
