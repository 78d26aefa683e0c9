use Rattle.std.proofs.Common.{◌≡◌, ◌^◌, ◌-◌, ap, ◌∙◌}
use Rattle.std.proofs.lemmas.Result.{IfOk-weaker}
use Rattle.vg_base.proofs.LowBits.{ones_of}
use Rattle.vg_canon.specs.Canonical.{canonical}
use Rattle.vg_terms.specs.declared.term.TwoOp.TheVariants.{Mul}
use Rattle.vg_terms.specs.Term.{constant, tree, two}
use Rattle.vg_ssa.proofs.Differences.{constant-canonical, negative-settled, product-formed, sum-formed, sum-same}
use Rattle.vg_ssa.proofs.OperationTerms.{ones-below}
use Rattle.vg_ssa.proofs.operations.difference.Goals as goal

pub settled_two-requires-clause-well_formed : goal.settled_two-requires-clause-well_formed
settled_two-requires-clause-well_formed c =
    let w = c.args.width in
    let e : tree c.make_const-ones.result ≡ constant w (2 ^ w - 1) = c.make_const-ones.ensures ∙ ap (constant w) (ones_of w c.requires.width.1) in
    product-formed w (2 ^ w - 1) (tree c.args.y) (tree c.make_const-ones.result) c.requires.width c.requires.second (ones-below w) e

pub settled_two-requires-clause-second : goal.settled_two-requires-clause-second
settled_two-requires-clause-second c =
    let w = c.args.width in
    let e : tree c.make_const-ones.result ≡ constant w (2 ^ w - 1) = c.make_const-ones.ensures ∙ ap (constant w) (ones_of w c.requires.width.1) in
    constant-canonical w (2 ^ w - 1) (tree c.make_const-ones.result) c.requires.width (ones-below w) e

pub settled_two-requires-2-clause-well_formed : goal.settled_two-requires-2-clause-well_formed
settled_two-requires-2-clause-well_formed c =
    let w = c.args.width in
    let e : tree c.make_const-ones.result ≡ constant w (2 ^ w - 1) = c.make_const-ones.ensures ∙ ap (constant w) (ones_of w c.requires.width.1) in
    let n = tree c.in_ok-negative.negative in
    sum-formed w (tree c.args.x) n c.requires.width c.requires.first
    (negative-settled w (tree c.args.y) n c.requires.width c.requires.second (c.in_ok-negative.ensures ∙ ap (λ t. canonical (two Mul w (tree c.args.y) t)) e))

pub settled_two-requires-2-clause-second : goal.settled_two-requires-2-clause-second
settled_two-requires-2-clause-second c =
    let w = c.args.width in
    let e : tree c.make_const-ones.result ≡ constant w (2 ^ w - 1) = c.make_const-ones.ensures ∙ ap (constant w) (ones_of w c.requires.width.1) in
    let n = tree c.in_ok-negative.negative in
    (negative-settled w (tree c.args.y) n c.requires.width c.requires.second (c.in_ok-negative.ensures ∙ ap (λ t. canonical (two Mul w (tree c.args.y) t)) e)).is_canonical

pub returns : goal.returns
returns c =
    let w = c.args.width in
    let e : tree c.make_const-ones.result ≡ constant w (2 ^ w - 1) = c.make_const-ones.ensures ∙ ap (constant w) (ones_of w c.requires.width.1) in
    let n = tree c.in_ok-negative.negative in
    let same = sum-same w (tree c.args.x) (tree c.args.y) n c.requires.width c.requires.first c.requires.second (c.in_ok-negative.ensures ∙ ap (λ t. canonical (two Mul w (tree c.args.y) t)) e) in
    IfOk-weaker c.settled_two-2.result _ _ (λ t f. f ∙ same) c.settled_two-2.ensures
