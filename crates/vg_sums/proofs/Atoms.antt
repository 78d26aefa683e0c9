-- Atoms that compare as equal are one, and sums too.
use Rattle.std.proofs.Common.{◌≡◌, ℕ, refl, sym, ap, ◌∙◌, subst, true, false, Bool}
use Rattle.std.specs.Prelude.{ℤ, if◌then◌else◌, nat_eq}
use Rattle.std.specs.declared.cmp.Ordering.{Ordering}
use Rattle.std.specs.declared.cmp.Ordering.TheVariants.{Less, Equal, Greater}
use Rattle.std.specs.Ordering.{is_eq, int_cmp, nat_cmp, ordering_then}
use Rattle.std.proofs.lemmas.Cmp.{int_ranked}
use Rattle.vg_terms.specs.declared.term.LeafKey.{LeafKey}
use Rattle.vg_terms.specs.declared.term.TwoOp.{TwoOp}
use Rattle.vg_terms.specs.declared.term.TwoOp.TheVariants.{Add, Mul, And, Or, Xor, Smin, Smax, Umin, Umax, Eq, Slt, Ult, Cat}
use Rattle.vg_terms.specs.Order.{leaf_cmp, two_tag}
use Rattle.vg_terms.specs.Term.{Tree, leaf, constant, one, two, sel}
use Rattle.vg_terms.proofs.Orders.{nat_cmp-equal, same_from_walks, then-equal}
use Rattle.vg_sums.specs.declared.kind.Kind.{Kind}
use Rattle.vg_sums.specs.declared.kind.Kind.TheVariants.{Leaf, Floor, Positive, Negative, Zero, Bitwise}
use Rattle.vg_sums.specs.Atoms.{amount_of, key_of, kind_tag, no_key}
use Rattle.vg_sums.specs.Order.{atom_cmp, kind_cmp, sum_cmp}
use Rattle.vg_sums.specs.Sums.{Polynomial, number, plus}

-- an operation on two terms by its tag
abbrev two_of : ℕ → TwoOp
two_of n =
    if nat_eq n 6 then Add else if nat_eq n 7 then Mul else if nat_eq n 8 then And else if nat_eq n 9 then Or else if nat_eq n 10 then Xor
    else if nat_eq n 11 then Smin else if nat_eq n 12 then Smax else if nat_eq n 13 then Umin else if nat_eq n 14 then Umax
    else if nat_eq n 15 then Eq else if nat_eq n 16 then Slt else if nat_eq n 17 then Ult else Cat

-- a kind by its tag, its amount and its key
abbrev kind_by : ℕ → ℕ → LeafKey → Kind
kind_by n w k =
    if nat_eq n 0 then Leaf w k else if nat_eq n 1 then Floor w else if nat_eq n 2 then Positive
    else if nat_eq n 3 then Negative else if nat_eq n 4 then Zero else Bitwise (two_of n) w

kind_by-fields : (k : Kind) → kind_by (kind_tag k) (amount_of k) (key_of k) ≡ k
kind_by-fields (Leaf w k) = refl
kind_by-fields (Floor k) = refl
kind_by-fields Positive = refl
kind_by-fields Negative = refl
kind_by-fields Zero = refl
kind_by-fields (Bitwise Add w) = refl
kind_by-fields (Bitwise Mul w) = refl
kind_by-fields (Bitwise And w) = refl
kind_by-fields (Bitwise Or w) = refl
kind_by-fields (Bitwise Xor w) = refl
kind_by-fields (Bitwise Smin w) = refl
kind_by-fields (Bitwise Smax w) = refl
kind_by-fields (Bitwise Umin w) = refl
kind_by-fields (Bitwise Umax w) = refl
kind_by-fields (Bitwise Eq w) = refl
kind_by-fields (Bitwise Slt w) = refl
kind_by-fields (Bitwise Ult w) = refl
kind_by-fields (Bitwise Cat w) = refl

abbrev key_in : Tree → LeafKey
key_in (leaf w k) = k
key_in (constant w v) = no_key
key_in (one op w k x) = no_key
key_in (two op w x y) = no_key
key_in (sel w c x y) = no_key

leaf_cmp-same : (k l : LeafKey) → leaf_cmp k l ≡ Equal → k ≡ l
leaf_cmp-same k l e = ap key_in (same_from_walks (leaf 1 k) (leaf 1 l) refl e)

pub kind_cmp-same : (k l : Kind) → kind_cmp k l ≡ Equal → k ≡ l
kind_cmp-same k l e =
    let p = then-equal (nat_cmp (kind_tag k) (kind_tag l)) _ e in
    let q = then-equal (nat_cmp (amount_of k) (amount_of l)) _ p.1 in
    let tags = nat_cmp-equal (kind_tag k) (kind_tag l) p.0 in
    let amounts = nat_cmp-equal (amount_of k) (amount_of l) q.0 in
    let keys = leaf_cmp-same (key_of k) (key_of l) q.1 in
    sym (kind_by-fields k) ∙ ap (λ n. kind_by n (amount_of k) (key_of k)) tags ∙ ap (λ n. kind_by (kind_tag l) n (key_of k)) amounts
    ∙ ap (λ n. kind_by (kind_tag l) (amount_of l) n) keys ∙ kind_by-fields l

int_cmp-same : (x y : ℤ) → int_cmp x y ≡ Equal → x ≡ y
int_cmp-same x y e = int_ranked x y Equal (sym e)

pub sum_cmp-same : (p q : Polynomial) → sum_cmp p q ≡ Equal → p ≡ q
sum_cmp-same (number x) (number y) e = ap number (int_cmp-same x y e)
sum_cmp-same (number x) (plus l j g s) e = absurd (cc)
sum_cmp-same (plus k i f r) (number y) e = absurd (cc)
sum_cmp-same (plus k i f r) (plus l j g s) e =
    let a = then-equal (kind_cmp k l) _ e in
    let b = then-equal (sum_cmp i j) _ a.1 in
    let c = then-equal (sum_cmp f g) _ b.1 in
    cc (kind_cmp-same k l a.0, sum_cmp-same i j b.0, sum_cmp-same f g c.0, sum_cmp-same r s c.1)

is_eq-same : (o : Ordering) → is_eq o ≡ true → o ≡ Equal
is_eq-same Less e = absurd (cc)
is_eq-same Equal e = refl
is_eq-same Greater e = absurd (cc)

-- what a test of the order finds to be one atom is one
pub atom_cmp-same : (k l : Kind) (i j : Polynomial) → is_eq (atom_cmp k i l j) ≡ true → (k ≡ l) × (i ≡ j)
atom_cmp-same k l i j e =
    let p = then-equal (kind_cmp k l) (sum_cmp i j) (is_eq-same (atom_cmp k i l j) e) in
    (kind_cmp-same k l p.0, sum_cmp-same i j p.1)
