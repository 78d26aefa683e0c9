-- Contents are compared as values.
use Rattle.std.proofs.Common.{◌≡◌, Bool, true, refl, ap, IsTrue, rules}
use Rattle.vg_pool.specs.Hashed.{hashed}
use denote.Enum.Bare.{same_true, sameb}
use Rattle.vg_terms.specs.declared.term.OneOp.{OneOp}
use Rattle.vg_terms.specs.declared.term.OneOp.TheVariants.{Zext, Sext, Trunc, Lshr, Ashr}
use Rattle.vg_terms.specs.declared.term.TwoOp.{TwoOp}
use Rattle.vg_terms.specs.declared.term.TwoOp.TheVariants.{Add, Mul, And, Or, Xor, Smin, Smax, Umin, Umax, Eq, Slt, Ult, Cat}
use Rattle.vg_terms.specs.contracts.term.OneOp.{the_type as one_type}
use Rattle.vg_terms.specs.contracts.term.TwoOp.{the_type as two_type}
use Rattle.vg_pool.specs.declared.content.Content.{Content}
use Rattle.vg_pool.specs.declared.content.Content.TheVariants.{Leaf, Const, One, Two, Sel}
use Rattle.vg_pool.specs.contracts.content.ContentPartialEq.TheImpl.{eq-value}

abbrev pub eq : Content → Content → Bool
eq = (eq-value).it

own_one : (op : OneOp) → sameb one_type op op ≡ true
own_one Zext = refl
own_one Sext = refl
own_one Trunc = refl
own_one Lshr = refl
own_one Ashr = refl

own_two : (op : TwoOp) → sameb two_type op op ≡ true
own_two Add = refl
own_two Mul = refl
own_two And = refl
own_two Or = refl
own_two Xor = refl
own_two Smin = refl
own_two Smax = refl
own_two Umin = refl
own_two Umax = refl
own_two Eq = refl
own_two Slt = refl
own_two Ult = refl
own_two Cat = refl

same_one : (op oq : OneOp) → sameb one_type op oq ≡ true → op ≡ oq
same_one op oq h = same_true one_type (search rules) op oq h

same_two : (op oq : TwoOp) → sameb two_type op oq ≡ true → op ≡ oq
same_two op oq h = same_true two_type (search rules) op oq h

pub own : (d : Content) → eq d d ≡ true
own (Leaf w k) = search rules
own (Const w v) = search rules
own (One op w k x) = let e = own_one op in rw e (search rules)
own (Two op w x y) = let e = own_two op in rw e (search rules)
own (Sel w c x y) = search rules

pub same : (d e : Content) → eq d e ≡ true → d ≡ e
same (Leaf w k) (Leaf v l) h = search rules
same (Const w k) (Const v l) h = search rules
same (One op w k x) (One oq v l y) h =
    search (rules, same_one)
same (Two op w x y) (Two oq v s t) h = search (rules, same_two)
same (Sel w c x y) (Sel v b s t) h = search rules
same (Leaf w k) _ h = absurd (cc)
same (Const w v) _ h = absurd (cc)
same (One op w k x) _ h = absurd (cc)
same (Two op w x y) _ h = absurd (cc)
same (Sel w c x y) _ h = absurd (cc)

-- equal contents give a hash the same
pub alike : (d e : Content) → IsTrue (eq d e) → hashed d ≡ hashed e
alike d e h = ap hashed (same d e h)
