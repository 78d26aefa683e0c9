use Rattle.std.proofs.Common.{◌≡◌, ◌∙◌, sym, ap, Some}
use Rattle.vg_catalog.specs.Catalogs.{entries_in}
use Rattle.vg_kernel.specs.Tree.{tree_of}
use Rattle.vg_known.specs.Difference.{difference_by}
use Rattle.vg_known.specs.WiderDifference.{equality}
use Rattle.vg_check.specs.Told.{difference_text}
use Rattle.vg_verify.specs.Verdicts.{difference_of, verdict_of}
use Rattle.vg_check.proofs.Numbered.{told_numbered, means_kernel}
use Rattle.vg_check.proofs.comparing.compare.Goals as goal

pub returns-in-Same-clause-means : goal.returns-in-Same-clause-means
returns-in-Same-clause-means c = λ _.
    let entries = entries_in c.args.catalog.now in
    let ssa = c.in_ok-ssa.ssa in
    let program = c.args.program.now in
    means_kernel entries (tree_of c.args.kernel.now) ssa program c.in_ok-ssa.ensures.exact c.in_ok-ssa.ensures.stands_for
    (c.in_ok-verdict.ensures.head c.in-Same.is)
    (c.in_ok-verdict.ensures.same c.in-Same.is c.requires.rules)

pub returns-clause-exact : goal.returns-clause-exact
returns-clause-exact c =
    let entries = entries_in c.args.catalog.now in
    let ssa = c.in_ok-ssa.ssa in
    let program = c.args.program.now in
    let found = difference_of c.in-Differs.difference in
    let some : Some found ≡ difference_by (equality c.args.more) entries ssa program = sym (ap verdict_of c.in-Differs.is) ∙ c.in_ok-verdict.ensures.exact in
    let spelled : c.from_vec.result ≡ difference_text program.params found = cc (c.from_vec.ensures, c.in_ok-text-in-Differs.ensures, c.as_slice.ensures) in
    ap Some spelled ∙ told_numbered entries (tree_of c.args.kernel.now) ssa program c.args.more (Some found) c.in_ok-ssa.ensures.exact some
