-- The measure that every rule lowers: weight, and where that stays, disorder.
use Rattle.std.specs.Prelude.{◌≡◌, ℕ, ◌+◌, ◌*◌, ◌<◌, ◌≤◌, ◌⊎◌, if◌then◌else◌}
use Rattle.vg_terms.specs.declared.term.OneOp.{OneOp}
use Rattle.vg_terms.specs.declared.term.OneOp.TheVariants.{Zext, Sext, Trunc, Lshr, Ashr}
use Rattle.vg_terms.specs.declared.term.TwoOp.{TwoOp}
use Rattle.vg_terms.specs.declared.term.TwoOp.TheVariants.{Eq, Slt, Ult}
use Rattle.vg_terms.specs.Term.{Tree, leaf, constant, one, two, sel, width_of}
use Rattle.vg_terms.specs.Chain.{is_disordered}

-- of an operation of width w
abbrev pub one_weight : OneOp → ℕ → ℕ
one_weight Zext w = 1
one_weight Sext w = 2
one_weight Trunc w = 1
one_weight Lshr w = 8 * w
one_weight Ashr w = 8 * w + 1

-- of an operation of width w on terms of width m: a comparison counts the width that it compares
abbrev pub two_weight : TwoOp → ℕ → ℕ → ℕ
two_weight Eq w m = 8 * m
two_weight Slt w m = 8 * m
two_weight Ult w m = 8 * m
two_weight _ w m = 8 * w

abbrev pub weight : Tree → ℕ
weight (leaf w k) = 1
weight (constant w v) = 1
weight (one op w k x) = one_weight op w + weight x
weight (two op w x y) = two_weight op w (width_of x) + weight x + weight y
weight (sel w c x y) = 8 * w + weight c + weight x + weight y

-- 1 for a term that can be put in order
abbrev pub own_disorder : Tree → ℕ
own_disorder t = if is_disordered t then 1 else 0

-- the number of subterms that can be put in order, the term among them
abbrev pub disorder : Tree → ℕ
disorder (leaf w k) = 0
disorder (constant w v) = 0
disorder (one op w k x) = disorder x
disorder (two op w x y) = own_disorder (two op w x y) + (disorder x + disorder y)
disorder (sel w c x y) = disorder c + (disorder x + disorder y)

-- the new term has less weight, or the same weight and less disorder
abbrev pub Falls : Tree → Tree → Type 0
Falls old new = (weight new < weight old) ⊎ ((weight new ≡ weight old) × (disorder new < disorder old))

-- the new term has no more weight, and where it has the same no more disorder
abbrev pub NotAbove : Tree → Tree → Type 0
NotAbove old new = (weight new < weight old) ⊎ ((weight new ≡ weight old) × (disorder new ≤ disorder old))

-- the new term is the old one, or its measure is less
abbrev pub Settles : Tree → Tree → Type 0
Settles old new = (new ≡ old) ⊎ Falls old new

-- the pair as one number, for a recursion: disorder is never above weight
abbrev pub measure : Tree → ℕ
measure t = weight t * weight t + disorder t
