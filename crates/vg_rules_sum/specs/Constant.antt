-- Terms over constants, the constants that decide an operation, and operations on one term twice.
use Rattle.std.specs.Prelude.{ℕ, ◌-◌, ◌^◌, Bool, true, false, ◌&&◌, [], Option, Some, None, nat_eq}
use Rattle.vg_terms.specs.declared.term.TwoOp.{TwoOp}
use Rattle.vg_terms.specs.declared.term.TwoOp.TheVariants.{Mul, And, Or, Xor, Smin, Smax, Umin, Umax}
use Rattle.vg_terms.specs.declared.value.Env.{Env}
use Rattle.vg_terms.specs.Chain.{makes_chains, neutral}
use Rattle.vg_terms.specs.Root.{is_constant}
use Rattle.vg_terms.specs.Term.{Tree, constant, one, two, sel, width_of}
use Rattle.vg_terms.specs.Value.{value}

-- the term has children, and all of them are constants
abbrev pub is_over_constants : Tree → Bool
is_over_constants (one op w k x) = is_constant x
is_over_constants (two op w x y) = is_constant x && is_constant y
is_over_constants (sel w c x y) = is_constant c && (is_constant x && is_constant y)
is_over_constants _ = false

-- an environment that names no leaf
abbrev pub nothing : Env
nothing = record { pairs = [] }

-- the value of a term without leaves, as a constant
abbrev pub folded : Tree → Tree
folded t = constant (width_of t) (value nothing t)

abbrev pub is_neutral : TwoOp → ℕ → ℕ → Bool
is_neutral op w v = makes_chains op && nat_eq (neutral op w) v

-- the constant that is the result beside whatever number of w bits
abbrev pub absorbing : TwoOp → ℕ → Option ℕ
absorbing Mul w = Some 0
absorbing And w = Some 0
absorbing Or w = Some (2 ^ w - 1)
absorbing Smin w = Some (2 ^ (w - 1))
absorbing Smax w = Some (2 ^ (w - 1) - 1)
absorbing Umin w = Some 0
absorbing Umax w = Some (2 ^ w - 1)
absorbing _ w = None

abbrev pub is_number : Option ℕ → ℕ → Bool
is_number (Some a) v = nat_eq a v
is_number None v = false

abbrev pub is_absorbing : TwoOp → ℕ → ℕ → Bool
is_absorbing op w v = is_number (absorbing op w) v

-- the operations that give, of one number twice, that number or 0
abbrev pub is_known_twice : TwoOp → Bool
is_known_twice And = true
is_known_twice Or = true
is_known_twice Xor = true
is_known_twice Smin = true
is_known_twice Smax = true
is_known_twice Umin = true
is_known_twice Umax = true
is_known_twice _ = false

-- such an operation of width w on a term twice: 0 under Xor, else the term
abbrev pub twice : TwoOp → ℕ → Tree → Tree
twice Xor w x = constant w 0
twice _ w x = x
