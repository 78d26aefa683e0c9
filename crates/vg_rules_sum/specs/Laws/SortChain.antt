-- Putting a chain or an equality in order.
use Rattle.std.proofs.Common.{◌≡◌, ℕ, true, refl}
use Rattle.vg_terms.specs.declared.term.TwoOp.{TwoOp}
use Rattle.vg_terms.specs.declared.term.TwoOp.TheVariants.{Add, Mul, And, Or, Xor, Smin, Smax, Umin, Umax, Eq, Slt, Ult, Cat}
use Rattle.vg_terms.specs.Chain.{makes_chains, parts, sorted, chain_of, is_disordered}
use Rattle.vg_terms.specs.Term.{Tree, leaf, constant, one, two, sel, WellFormed}
use Rattle.vg_terms.proofs.SortChain.{sorted-keeps, sorted-falls, equality-keeps, equality-falls}
use Rattle.vg_rules_sum.specs.Rules.{put_in_order, sort_chain}
use Rattle.vg_terms.specs.Table.{Promises, IsSound}
use Rattle.vg_terms.proofs.Tables.{given_if}

chain-promises : (op : TwoOp) (w : ℕ) (x y : Tree) → makes_chains op ≡ true → WellFormed (two op w x y) →
    is_disordered (two op w x y) ≡ true → Promises (two op w x y) (chain_of op w (sorted (parts op (two op w x y))))
chain-promises op w x y c g d =
    record { keeps = sorted-keeps op w (two op w x y) c g.0.0 g refl; falls = sorted-falls op w x y c g d }

in_order-promises : (t : Tree) → WellFormed t → is_disordered t ≡ true → Promises t (put_in_order t)
in_order-promises (two Add w x y) g d = chain-promises Add w x y refl g d
in_order-promises (two Mul w x y) g d = chain-promises Mul w x y refl g d
in_order-promises (two And w x y) g d = chain-promises And w x y refl g d
in_order-promises (two Or w x y) g d = chain-promises Or w x y refl g d
in_order-promises (two Xor w x y) g d = chain-promises Xor w x y refl g d
in_order-promises (two Smin w x y) g d = chain-promises Smin w x y refl g d
in_order-promises (two Smax w x y) g d = chain-promises Smax w x y refl g d
in_order-promises (two Umin w x y) g d = chain-promises Umin w x y refl g d
in_order-promises (two Umax w x y) g d = chain-promises Umax w x y refl g d
in_order-promises (two Eq w x y) g d = record { keeps = equality-keeps w x y g; falls = equality-falls w x y g d }
in_order-promises (two Slt w x y) g d = absurd (cc)
in_order-promises (two Ult w x y) g d = absurd (cc)
in_order-promises (two Cat w x y) g d = absurd (cc)
in_order-promises (leaf w k) g d = absurd (cc)
in_order-promises (constant w v) g d = absurd (cc)
in_order-promises (one op w k x) g d = absurd (cc)
in_order-promises (sel w c x y) g d = absurd (cc)

pub sort_chain-sound : IsSound sort_chain
unfolding sort_chain
sort_chain-sound old new g e =
    given_if (is_disordered old) old (put_in_order old) new (in_order-promises old g) e
