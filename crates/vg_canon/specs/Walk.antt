-- How much of a term has to be walked, where the rest is known to be canonical.
use Rattle.std.specs.Prelude.{◌≡◌, ℕ, zero, suc, ◌-◌, ◌⊎◌, Bool, true, false, not, nat_eq}
use Rattle.vg_terms.specs.Chain.{same_op, opens}
use Rattle.vg_terms.specs.Term.{Tree, leaf, constant, one, two, sel}
use Rattle.vg_terms.specs.declared.term.TwoOp.{TwoOp}
use Rattle.vg_canon.specs.declared.walk.Walk.{Walk}
use Rattle.vg_canon.specs.declared.walk.Walk.TheVariants.{Whole, Chain, Levels}
use Rattle.vg_canon.specs.Canonical.{IsCanonical}

-- a chain, nested to the left, over canonical parts; or a canonical term
abbrev pub OverCanonical : TwoOp → Tree → Type 0
OverCanonical op (two o w x y) =
    IsCanonical (two o w x y) ⊎ ((same_op op o ≡ true) × OverCanonical op x × IsCanonical y)
OverCanonical op (leaf w k) = IsCanonical (leaf w k)
OverCanonical op (constant w v) = IsCanonical (constant w v)
OverCanonical op (one o w k x) = IsCanonical (one o w k x)
OverCanonical op (sel w c x y) = IsCanonical (sel w c x y)

-- what lies so many levels below the root is canonical
abbrev pub CanonicalFrom : ℕ → Tree → Type 0
CanonicalFrom zero t = IsCanonical t
CanonicalFrom (suc n) (leaf w k) = Unit {0}
CanonicalFrom (suc n) (constant w v) = Unit {0}
CanonicalFrom (suc n) (one op w k x) = CanonicalFrom n x
CanonicalFrom (suc n) (two op w x y) = CanonicalFrom n x × CanonicalFrom n y
CanonicalFrom (suc n) (sel w c x y) = CanonicalFrom n c × CanonicalFrom n x × CanonicalFrom n y

-- what the walk leaves out is canonical
abbrev pub CanonicalBeyond : Walk → Tree → Type 0
CanonicalBeyond Whole t = Unit {0}
CanonicalBeyond (Chain op) t = OverCanonical op t
CanonicalBeyond (Levels n) t = CanonicalFrom n t

-- the walk leaves out the whole term
abbrev pub ends_at : Walk → Tree → Bool
ends_at Whole t = false
ends_at (Chain op) t = not (opens op t)
ends_at (Levels n) t = nat_eq n 0

-- the walk of the first child of an operation on two terms, and of other children
abbrev pub first_walk : Walk → Walk
first_walk Whole = Whole
first_walk (Chain op) = Chain op
first_walk (Levels n) = Levels (n - 1)

abbrev pub other_walk : Walk → Walk
other_walk Whole = Whole
other_walk (Chain op) = Levels 0
other_walk (Levels n) = Levels (n - 1)

-- of what a rule for sums makes of a term over canonical children
abbrev pub walk_of_sum : Tree → Walk
walk_of_sum (two op w x y) = Chain op
walk_of_sum (leaf w k) = Levels 0
walk_of_sum (constant w v) = Levels 0
walk_of_sum (one op w k x) = Levels 0
walk_of_sum (sel w c x y) = Levels 0
