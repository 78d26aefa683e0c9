use Rattle.std.proofs.Common.{◌≡◌, ◌^◌, ap, ◌∙◌, arith}
use Rattle.std.proofs.lemmas.Nat.{one_shl}
use Rattle.std.proofs.Math.Pow.{pow-lt}
use Rattle.vg_terms.specs.Term.{constant, tree}
use Rattle.vg_ssa.proofs.Differences.{constant-canonical, product-formed}
use Rattle.vg_ssa.proofs.operations.shift.Goals as goal

pub settled_two-requires-clause-well_formed : goal.settled_two-requires-clause-well_formed
settled_two-requires-clause-well_formed c =
    let w = c.args.width in
    let e : tree c.make_const-power.result ≡ constant w (2 ^ c.args.amount) = c.make_const-power.ensures ∙ ap (constant w) (one_shl c.args.amount 128 (omega (arith, c.requires.width.1, c.requires.amount))) in
    product-formed w (2 ^ c.args.amount) (tree c.args.x) (tree c.make_const-power.result) c.requires.width c.requires.operand (pow-lt c.requires.amount) e

pub settled_two-requires-clause-second : goal.settled_two-requires-clause-second
settled_two-requires-clause-second c =
    let w = c.args.width in
    let e : tree c.make_const-power.result ≡ constant w (2 ^ c.args.amount) = c.make_const-power.ensures ∙ ap (constant w) (one_shl c.args.amount 128 (omega (arith, c.requires.width.1, c.requires.amount))) in
    constant-canonical w (2 ^ c.args.amount) (tree c.make_const-power.result) c.requires.width (pow-lt c.requires.amount) e
