-- Chains: an operation whose order and grouping do not matter, over a list of parts.
use Rattle.std.specs.Prelude.{◌≡◌, ℕ, ◌-◌, ◌^◌, Bool, true, false, List, [], ◌∷◌, ◌++◌, nat_eq, not, ◌&&◌, if◌then◌else◌}
use Rattle.std.specs.declared.cmp.Ordering.TheVariants.{Greater}
use Rattle.std.specs.Ordering.{is_gt}
use Rattle.vg_terms.specs.declared.term.TwoOp.{TwoOp}
use Rattle.vg_terms.specs.declared.term.TwoOp.TheVariants.{Mul, And, Smin, Smax, Umin, Eq, Slt, Ult, Cat}
use Rattle.vg_terms.specs.Term.{Tree, leaf, constant, one, two, sel}
use Rattle.vg_terms.specs.Order.{two_tag, order}

-- the operations that make chains
abbrev pub makes_chains : TwoOp → Bool
makes_chains Eq = false
makes_chains Slt = false
makes_chains Ult = false
makes_chains Cat = false
makes_chains _ = true

-- the constant that changes nothing beside another number of w bits
abbrev pub neutral : TwoOp → ℕ → ℕ
neutral Mul w = 1
neutral And w = 2 ^ w - 1
neutral Smin w = 2 ^ (w - 1) - 1
neutral Smax w = 2 ^ (w - 1)
neutral Umin w = 2 ^ w - 1
neutral _ w = 0

abbrev pub same_op : TwoOp → TwoOp → Bool
same_op o p = nat_eq (two_tag o) (two_tag p)

-- the term is an operation of this kind, so it is no part of a chain of them but opened
abbrev pub opens : TwoOp → Tree → Bool
opens op (two o w x y) = same_op op o
opens op _ = false

-- what is left when all operations of the kind are opened, left before right
abbrev pub parts : TwoOp → Tree → List Tree
parts op (two o w x y) = if same_op op o then parts op x ++ parts op y else two o w x y ∷ []
parts op (leaf w k) = leaf w k ∷ []
parts op (constant w v) = constant w v ∷ []
parts op (one o w k x) = one o w k x ∷ []
parts op (sel w c x y) = sel w c x y ∷ []

-- a first part and the others, nested to the left
abbrev pub chain : TwoOp → ℕ → Tree → List Tree → Tree
chain op w first [] = first
chain op w first (p ∷ ps) = chain op w (two op w first p) ps

abbrev pub not_after : Tree → Tree → Bool
not_after x y = not (is_gt (order x y))

-- no part is after the next
abbrev pub rising_from : Tree → List Tree → Bool
rising_from p [] = true
rising_from p (q ∷ ps) = not_after p q && rising_from q ps

abbrev pub rising : List Tree → Bool
rising [] = true
rising (p ∷ ps) = rising_from p ps

-- a part put where it belongs in a rising list
abbrev pub put_in : Tree → List Tree → List Tree
put_in p [] = p ∷ []
put_in p (q ∷ ps) = if not_after p q then p ∷ (q ∷ ps) else q ∷ put_in p ps

-- the rising list of the parts
abbrev pub sorted : List Tree → List Tree
sorted [] = []
sorted (p ∷ ps) = put_in p (sorted ps)

-- the chain of a list of parts, which is not empty
abbrev pub chain_of : TwoOp → ℕ → List Tree → Tree
chain_of op w [] = constant w 0
chain_of op w (p ∷ ps) = chain op w p ps

-- x is one part, or the chain of its parts in rising order, and its last part is not after y
abbrev pub leads_to : TwoOp → Tree → Tree → Bool
leads_to op (two o w a b) y =
    if same_op op o then not_after b y && (not (opens op b) && leads_to op a b) else not_after (two o w a b) y
leads_to op (leaf w k) y = not_after (leaf w k) y
leads_to op (constant w v) y = not_after (constant w v) y
leads_to op (one o w k x) y = not_after (one o w k x) y
leads_to op (sel w c x x') y = not_after (sel w c x x') y

-- the operation over x and y is the chain of its parts in rising order
abbrev pub in_order : TwoOp → Tree → Tree → Bool
in_order op x y = not (opens op y) && leads_to op x y

-- the operation over x and y can be put in order: a chain that is not in order, or equal sides the
-- wrong way round
abbrev pub disordered : TwoOp → Tree → Tree → Bool
disordered Eq x y = is_gt (order x y)
disordered Slt x y = false
disordered Ult x y = false
disordered Cat x y = false
disordered op x y = not (in_order op x y)

abbrev pub is_disordered : Tree → Bool
is_disordered (two op w x y) = disordered op x y
is_disordered _ = false

-- the term is not the chain of its parts in rising order, or it is an equality of a term and a lesser one
abbrev pub CanBeSorted : Tree → Type 0
CanBeSorted (two Eq w x y) = order x y ≡ Greater
CanBeSorted (two Slt w x y) = ⊥
CanBeSorted (two Ult w x y) = ⊥
CanBeSorted (two Cat w x y) = ⊥
CanBeSorted (two op w x y) = chain_of op w (sorted (parts op (two op w x y))) ≡ two op w x y → ⊥
CanBeSorted _ = ⊥
