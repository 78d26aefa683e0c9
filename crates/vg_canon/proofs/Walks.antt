-- Walks: what they leave out stays so in the children, and where a walk ends the term is canonical.
use Rattle.std.proofs.Common.{◌≡◌, ℕ, zero, suc, ◌-◌, ◌<◌, true, false, subst, arith, inl, inr}
use Rattle.std.proofs.lemmas.Bool.{eqb-true, not-true}
use Rattle.vg_terms.specs.Chain.{opens}
use Rattle.vg_terms.specs.Measure.{measure}
use Rattle.vg_terms.specs.Term.{Tree, leaf, constant, one, two, sel, WellFormed}
use Rattle.vg_terms.proofs.Measures.{measure-falls, falls_to_child, falls_to_first, falls_to_second, falls_to_condition, falls_to_then, falls_to_else}
use Rattle.vg_terms.specs.declared.term.OneOp.{OneOp}
use Rattle.vg_terms.specs.declared.term.TwoOp.{TwoOp}
use Rattle.vg_canon.specs.declared.walk.Walk.{Walk}
use Rattle.vg_canon.specs.declared.walk.Walk.TheVariants.{Whole, Chain, Levels}
use Rattle.vg_canon.specs.Canonical.{IsCanonical}
use Rattle.vg_canon.specs.Walk.{OverCanonical, CanonicalFrom, CanonicalBeyond, ends_at, first_walk, other_walk}

-- a canonical term is one whatever is walked
pub canonical-over : (op : TwoOp) (t : Tree) → IsCanonical t → OverCanonical op t
canonical-over op (leaf w k) c = c
canonical-over op (constant w v) c = c
canonical-over op (one o w k x) c = c
canonical-over op (two o w x y) c = inl c
canonical-over op (sel w d x y) c = c

pub canonical-from : (n : ℕ) (t : Tree) → IsCanonical t → CanonicalFrom n t
canonical-from zero t c = c
canonical-from (suc n) (leaf w k) c = tt
canonical-from (suc n) (constant w v) c = tt
canonical-from (suc n) (one o w k x) c = canonical-from n x c.1
canonical-from (suc n) (two o w x y) c = (canonical-from n x c.1, canonical-from n y c.2)
canonical-from (suc n) (sel w d x y) c = (canonical-from n d c.1, canonical-from n x c.2, canonical-from n y c.3)

pub canonical-beyond : (walk : Walk) (t : Tree) → IsCanonical t → CanonicalBeyond walk t
canonical-beyond Whole t c = tt
canonical-beyond (Chain op) t c = canonical-over op t c
canonical-beyond (Levels n) t c = canonical-from n t c

-- where the walk ends
pub chain-ends : (op : TwoOp) (t : Tree) → opens op t ≡ false → OverCanonical op t → IsCanonical t
chain-ends op (leaf w k) e h = h
chain-ends op (constant w v) e h = h
chain-ends op (one o w k x) e h = h
chain-ends op (two o w x y) e h = elim h [ inl c ↦ c | inr p ↦ absurd (let s = p.0 in cc) ]
chain-ends op (sel w c x y) e h = h

pub walk-ends : (walk : Walk) (t : Tree) → ends_at walk t ≡ true → CanonicalBeyond walk t → IsCanonical t
walk-ends Whole t e h = absurd (cc)
walk-ends (Chain op) t e h = chain-ends op t (not-true (opens op t) e) h
walk-ends (Levels n) t e h = subst (λ m. CanonicalFrom m t) (eqb-true n 0 e) h

less : (n : ℕ) → suc n - 1 ≡ n
less n = omega arith

-- of the child of an operation on one term
walk-child : (walk : Walk) (op : OneOp) (w k : ℕ) (x : Tree) → CanonicalBeyond walk (one op w k x) → CanonicalBeyond (other_walk walk) x
walk-child Whole op w k x h = tt
walk-child (Chain o) op w k x h = h.1
walk-child (Levels zero) op w k x h = h.1
walk-child (Levels (suc n)) op w k x h = rw (less n) h

-- of the children of an operation on two terms
chain-first : (op o : TwoOp) (w : ℕ) (x y : Tree) → OverCanonical op (two o w x y) → OverCanonical op x × IsCanonical y
chain-first op o w x y h = elim h [ inl c ↦ (canonical-over op x c.1, c.2) | inr p ↦ (p.1, p.2) ]

walk-pair : (walk : Walk) (op : TwoOp) (w : ℕ) (x y : Tree) → CanonicalBeyond walk (two op w x y) → CanonicalBeyond (first_walk walk) x × CanonicalBeyond (other_walk walk) y
walk-pair Whole op w x y h = (tt, tt)
walk-pair (Chain o) op w x y h = chain-first o op w x y h
walk-pair (Levels zero) op w x y h = (h.1, h.2)
walk-pair (Levels (suc n)) op w x y h = rw (less n) h

-- of the children of a selection
walk-sel : (walk : Walk) (w : ℕ) (c x y : Tree) → CanonicalBeyond walk (sel w c x y) → CanonicalBeyond (other_walk walk) c × CanonicalBeyond (other_walk walk) x × CanonicalBeyond (other_walk walk) y
walk-sel Whole w c x y h = (tt, tt, tt)
walk-sel (Chain o) w c x y h = (h.1, h.2, h.3)
walk-sel (Levels zero) w c x y h = (h.1, h.2, h.3)
walk-sel (Levels (suc n)) w c x y h = rw (less n) h

-- what the walk of a child asks for
pub record Child (walk : Walk) (t x : Tree) : Type 0 where
  pub below : measure x < measure t
  pub well_formed : WellFormed x
  pub beyond : CanonicalBeyond walk x

pub child-one : (walk next : Walk) (t : Tree) (op : OneOp) (w k : ℕ) (x : Tree) → next ≡ other_walk walk → t ≡ one op w k x → WellFormed t → CanonicalBeyond walk t → Child next t x
child-one walk next t op w k x n e g h =
    let f = subst WellFormed e g in
    rw (n, e) record { below = measure-falls (one op w k x) x (falls_to_child op w k x f.0.0); well_formed = f.2; beyond = walk-child walk op w k x (subst (CanonicalBeyond walk) e h) }

pub child-first : (walk next : Walk) (t : Tree) (op : TwoOp) (w : ℕ) (x y : Tree) → next ≡ first_walk walk → t ≡ two op w x y → WellFormed t → CanonicalBeyond walk t → Child next t x
child-first walk next t op w x y n e g h =
    let f = subst WellFormed e g in
    rw (n, e) record { below = measure-falls (two op w x y) x (falls_to_first op w x y); well_formed = f.2; beyond = (walk-pair walk op w x y (subst (CanonicalBeyond walk) e h)).0 }

pub child-second : (walk next : Walk) (t : Tree) (op : TwoOp) (w : ℕ) (x y : Tree) → next ≡ other_walk walk → t ≡ two op w x y → WellFormed t → CanonicalBeyond walk t → Child next t y
child-second walk next t op w x y n e g h =
    let f = subst WellFormed e g in
    rw (n, e) record { below = measure-falls (two op w x y) y (falls_to_second op w x y); well_formed = f.3; beyond = (walk-pair walk op w x y (subst (CanonicalBeyond walk) e h)).1 }

pub child-condition : (walk next : Walk) (t : Tree) (w : ℕ) (c x y : Tree) → next ≡ other_walk walk → t ≡ sel w c x y → WellFormed t → CanonicalBeyond walk t → Child next t c
child-condition walk next t w c x y n e g h =
    let f = subst WellFormed e g in
    rw (n, e) record { below = measure-falls (sel w c x y) c (falls_to_condition w c x y); well_formed = f.2; beyond = (walk-sel walk w c x y (subst (CanonicalBeyond walk) e h)).0 }

pub child-then : (walk next : Walk) (t : Tree) (w : ℕ) (c x y : Tree) → next ≡ other_walk walk → t ≡ sel w c x y → WellFormed t → CanonicalBeyond walk t → Child next t x
child-then walk next t w c x y n e g h =
    let f = subst WellFormed e g in
    rw (n, e) record { below = measure-falls (sel w c x y) x (falls_to_then w c x y); well_formed = f.3; beyond = (walk-sel walk w c x y (subst (CanonicalBeyond walk) e h)).1 }

pub child-else : (walk next : Walk) (t : Tree) (w : ℕ) (c x y : Tree) → next ≡ other_walk walk → t ≡ sel w c x y → WellFormed t → CanonicalBeyond walk t → Child next t y
child-else walk next t w c x y n e g h =
    let f = subst WellFormed e g in
    rw (n, e) record { below = measure-falls (sel w c x y) y (falls_to_else w c x y); well_formed = f.4; beyond = (walk-sel walk w c x y (subst (CanonicalBeyond walk) e h)).2 }
