-- One part more after a chain that is in order.
use Rattle.std.specs.Prelude.{ℕ, Bool, false, not, ◌&&◌, if◌then◌else◌}
use Rattle.vg_terms.specs.declared.term.TwoOp.{TwoOp}
use Rattle.vg_terms.specs.Chain.{makes_chains, same_op, opens, not_after, is_disordered}
use Rattle.vg_terms.specs.Term.{Tree, leaf, constant, one, two, sel}

-- the operation over two parts, the lesser first
abbrev pub in_turn : TwoOp → ℕ → Tree → Tree → Tree
in_turn op w x y = if not_after x y then two op w x y else two op w y x

-- the operation over a chain and a part, which goes before each part that it is not after
abbrev pub joined : TwoOp → ℕ → Tree → Tree → Tree
joined op w (two o v a b) y =
    if same_op op o then
    (if not_after b y then two op w (two o v a b) y else two op w (joined o v a y) b)
    else in_turn op w (two o v a b) y
joined op w (leaf v k) y = in_turn op w (leaf v k) y
joined op w (constant v n) y = in_turn op w (constant v n) y
joined op w (one o v k x) y = in_turn op w (one o v k x) y
joined op w (sel v c a b) y = in_turn op w (sel v c a b) y

-- a chain with its last part put in among those before it
abbrev pub last_put_in : Tree → Tree
last_put_in (two op w x y) = joined op w x y
last_put_in t = t

-- the term is a chain whose parts before the last are in order
abbrev pub is_in_order_but_last : Tree → Bool
is_in_order_but_last (two op w x y) = makes_chains op && (not (opens op y) && not (is_disordered x))
is_in_order_but_last _ = false
