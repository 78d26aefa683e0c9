-- One step at the root of a term.
use Rattle.std.specs.Prelude.{◌≡◌, ℕ, Bool, true, false, not, ◌&&◌, Some, None, nat_le}
use Rattle.vg_terms.specs.declared.term.TwoOp.{TwoOp}
use Rattle.vg_terms.specs.declared.term.TwoOp.TheVariants.{Add, And, Or, Xor}
use Rattle.vg_terms.specs.Chain.{makes_chains, same_op, opens, not_after}
use Rattle.vg_terms.specs.Known.{known}
use Rattle.vg_terms.specs.Term.{Tree, two, tree}
use Rattle.vg_terms.specs.Root.{is_constant}
use Rattle.vg_canon.specs.declared.step.Step.{Step}
use Rattle.vg_canon.specs.declared.step.Step.TheVariants.{Rewritten, Finished}
use Rattle.vg_canon.specs.Canonical.{first_rule}
use Rattle.vg_canon.specs.Walk.{CanonicalBeyond}

-- the first rule that applies was taken, or none applies and the term is as it was
abbrev pub Stepped : Tree → Step → Type 0
Stepped old (Rewritten new walk) = (first_rule old ≡ Some (tree new)) × CanonicalBeyond walk (tree new)
Stepped old (Finished t) = (first_rule old ≡ None) × (tree t ≡ old)

-- the last term of an operation of width w leaves none of its bits known: where the operation counts known
-- widths, it needs all w bits
abbrev pub fills : TwoOp → ℕ → Tree → Bool
fills Add w y = true
fills And w y = true
fills Or w y = true
fills Xor w y = true
fills op w y = nat_le w (known y).unsigned && nat_le w (known y).signed

-- a part after a chain that ends with a part not after it: it is no constant, and leaves no bits known
abbrev pub is_at_rest : Tree → Bool
is_at_rest (two op w (two o v a b) y) =
    makes_chains op && (same_op op o && (not (is_constant y) && (not (opens op y) && (not_after b y && fills op w y))))
is_at_rest _ = false
