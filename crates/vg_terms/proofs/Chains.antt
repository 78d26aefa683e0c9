-- Chains of terms: what sorting the parts of a chain keeps, and that it puts the term in order.
use Rattle.std.proofs.Common.{◌≡◌, ℕ, ◌+◌, ◌*◌, ◌^◌, ◌<◌, true, false, List, [], ◌∷◌, ◌++◌, refl, sym, ap, ◌∙◌, subst, arith, inl, inr}
use Rattle.std.specs.Prelude.{not}
use Rattle.std.proofs.lemmas.Bool.{cases_Bool, cond-true, cond-false, eqb-true, eq-eqb}
use Rattle.vg_terms.specs.declared.term.TwoOp.{TwoOp}
use Rattle.vg_terms.specs.declared.term.TwoOp.TheVariants.{Add, Mul, And, Or, Xor, Smin, Smax, Umin, Umax, Eq, Slt, Ult, Cat}
use Rattle.vg_terms.specs.declared.value.Env.{Env}
use Rattle.vg_terms.specs.Term.{Tree, leaf, constant, one, two, sel, width_of, IsWidth, TwoFits, WellFormed}
use Rattle.vg_terms.specs.Value.{two_value, value}
use Rattle.vg_terms.specs.Order.{two_tag}
use Rattle.vg_terms.specs.Chain.{makes_chains, neutral, same_op, opens, parts, chain, not_after, put_in, sorted, in_order, disordered}
use Rattle.vg_terms.specs.Measure.{two_weight}
use Rattle.vg_terms.proofs.Orders.{two_tag-same}
use Rattle.vg_terms.proofs.Values.{value-below}
use Rattle.vg_terms.proofs.Sorting.{total_by}
use Rattle.vg_terms.proofs.Totals.{IsChainOp, chain_op}

pub same_op-same : (o p : TwoOp) → same_op o p ≡ true → o ≡ p
same_op-same o p h = two_tag-same o p (eqb-true (two_tag o) (two_tag p) h)

pub same_op-itself : (o : TwoOp) → same_op o o ≡ true
same_op-itself o = eq-eqb (two_tag o) (two_tag o) refl

-- an operation of chains has the width of its terms
pub chain_fits : (op : TwoOp) (w m n : ℕ) → makes_chains op ≡ true → TwoFits op w m n → (m ≡ w) × (n ≡ w)
chain_fits Add w m n t f = f
chain_fits Mul w m n t f = f
chain_fits And w m n t f = f
chain_fits Or w m n t f = f
chain_fits Xor w m n t f = f
chain_fits Smin w m n t f = f
chain_fits Smax w m n t f = f
chain_fits Umin w m n t f = f
chain_fits Umax w m n t f = f
chain_fits Eq w m n t f = absurd (cc)
chain_fits Slt w m n t f = absurd (cc)
chain_fits Ult w m n t f = absurd (cc)
chain_fits Cat w m n t f = absurd (cc)

pub fits_chain : (op : TwoOp) (w m n : ℕ) → makes_chains op ≡ true → m ≡ w → n ≡ w → TwoFits op w m n
fits_chain Add w m n t d e = (d, e)
fits_chain Mul w m n t d e = (d, e)
fits_chain And w m n t d e = (d, e)
fits_chain Or w m n t d e = (d, e)
fits_chain Xor w m n t d e = (d, e)
fits_chain Smin w m n t d e = (d, e)
fits_chain Smax w m n t d e = (d, e)
fits_chain Umin w m n t d e = (d, e)
fits_chain Umax w m n t d e = (d, e)
fits_chain Eq w m n t d e = absurd (cc)
fits_chain Slt w m n t d e = absurd (cc)
fits_chain Ult w m n t d e = absurd (cc)
fits_chain Cat w m n t d e = absurd (cc)

pub chain_weight : (op : TwoOp) (w m : ℕ) → makes_chains op ≡ true → two_weight op w m ≡ 8 * w
chain_weight Add w m t = refl
chain_weight Mul w m t = refl
chain_weight And w m t = refl
chain_weight Or w m t = refl
chain_weight Xor w m t = refl
chain_weight Smin w m t = refl
chain_weight Smax w m t = refl
chain_weight Umin w m t = refl
chain_weight Umax w m t = refl
chain_weight Eq w m t = absurd (cc)
chain_weight Slt w m t = absurd (cc)
chain_weight Ult w m t = absurd (cc)
chain_weight Cat w m t = absurd (cc)

pub disordered-chain : (op : TwoOp) (x y : Tree) → makes_chains op ≡ true → disordered op x y ≡ not (in_order op x y)
disordered-chain Add x y t = refl
disordered-chain Mul x y t = refl
disordered-chain And x y t = refl
disordered-chain Or x y t = refl
disordered-chain Xor x y t = refl
disordered-chain Smin x y t = refl
disordered-chain Smax x y t = refl
disordered-chain Umin x y t = refl
disordered-chain Umax x y t = refl
disordered-chain Eq x y t = absurd (cc)
disordered-chain Slt x y t = absurd (cc)
disordered-chain Ult x y t = absurd (cc)
disordered-chain Cat x y t = absurd (cc)

-- the parts of an operation of the kind, and of another term
pub parts-opened : (op o : TwoOp) (w : ℕ) (x y : Tree) → same_op op o ≡ true → parts op (two o w x y) ≡ parts op x ++ parts op y
parts-opened op o w x y h = cond-true _ _ _ h

pub parts-closed : (op : TwoOp) (t : Tree) → opens op t ≡ false → parts op t ≡ t ∷ []
parts-closed op (leaf w k) h = refl
parts-closed op (constant w v) h = refl
parts-closed op (one o w k x) h = refl
parts-closed op (two o w x y) h = cond-false _ _ _ h
parts-closed op (sel w c x y) h = refl

-- a fact of each part
abbrev pub AllParts : (Tree → Type 0) → List Tree → Type 0
AllParts P [] = Unit {0}
AllParts P (p ∷ ps) = P p × AllParts P ps

pub all-append : (P : Tree → Type 0) (ps qs : List Tree) → AllParts P ps → AllParts P qs → AllParts P (ps ++ qs)
all-append P [] qs h g = g
all-append P (p ∷ ps) qs h g = (h.0, all-append P ps qs h.1 g)

pub all-put_in : (P : Tree → Type 0) (p : Tree) (ps : List Tree) → P p → AllParts P ps → AllParts P (put_in p ps)
all-put_in P p [] h g = (h, tt)
all-put_in P p (q ∷ ps) h g =
    elim (cases_Bool (not_after p q)) [
      | inl t ↦ subst (AllParts P) (sym (cond-true (not_after p q) (p ∷ (q ∷ ps)) (q ∷ put_in p ps) t)) (h, g)
      | inr f ↦ subst (AllParts P) (sym (cond-false (not_after p q) (p ∷ (q ∷ ps)) (q ∷ put_in p ps) f)) (g.0, all-put_in P p ps h g.1)
    ]

pub all-sorted : (P : Tree → Type 0) (ps : List Tree) → AllParts P ps → AllParts P (sorted ps)
all-sorted P [] h = tt
all-sorted P (p ∷ ps) h = all-put_in P p (sorted ps) h.0 (all-sorted P ps h.1)

-- a well-formed part of width w
abbrev pub IsPart : ℕ → Tree → Type 0
IsPart w t = WellFormed t × (width_of t ≡ w)

pub parts-all : (op : TwoOp) (w : ℕ) (t : Tree) → makes_chains op ≡ true → WellFormed t → width_of t ≡ w → AllParts (IsPart w) (parts op t)
parts-all op w (leaf v k) c h e = ((h, e), tt)
parts-all op w (constant v n) c h e = ((h, e), tt)
parts-all op w (one o v k x) c h e = ((h, e), tt)
parts-all op w (two o v x y) c h e =
    elim (cases_Bool (same_op op o)) [
      | inl t ↦ (
          let fits = chain_fits o v (width_of x) (width_of y) (subst (λ p. makes_chains p ≡ true) (same_op-same op o t) c) h.1 in
          subst (AllParts (IsPart w)) (sym (parts-opened op o v x y t)) (all-append (IsPart w) (parts op x) (parts op y) (parts-all op w x c h.2 (fits.0 ∙ e)) (parts-all op w y c h.3 (fits.1 ∙ e))))
      | inr f ↦ subst (AllParts (IsPart w)) (sym (parts-closed op (two o v x y) f)) ((h, e), tt)
    ]
parts-all op w (sel v c' x y) c h e = ((h, e), tt)

-- no part is opened further
pub parts_closed-all : (op : TwoOp) (t : Tree) → AllParts (λ p. opens op p ≡ false) (parts op t)
parts_closed-all op (leaf v k) = (refl, tt)
parts_closed-all op (constant v n) = (refl, tt)
parts_closed-all op (one o v k x) = (refl, tt)
parts_closed-all op (two o v x y) =
    elim (cases_Bool (same_op op o)) [
      | inl t ↦ subst (AllParts (λ p. opens op p ≡ false)) (sym (parts-opened op o v x y t)) (all-append (λ p. opens op p ≡ false) (parts op x) (parts op y) (parts_closed-all op x) (parts_closed-all op y))
      | inr f ↦ subst (AllParts (λ p. opens op p ≡ false)) (sym (parts-closed op (two o v x y) f)) (f, tt)
    ]
parts_closed-all op (sel v c x y) = (refl, tt)

pub total_by-append : (f : Tree → ℕ) (ps qs : List Tree) → total_by f (ps ++ qs) ≡ total_by f ps + total_by f qs
total_by-append f [] qs = omega arith
total_by-append f (p ∷ ps) qs = omega (arith, total_by-append f ps qs)

pub width_range : (t : Tree) → WellFormed t → IsWidth (width_of t)
width_range (leaf w k) h = h
width_range (constant w v) h = h.0
width_range (one op w k x) h = h.0
width_range (two op w x y) h = h.0
width_range (sel w c x y) h = h.0

-- there is a part
pub parts_some : (op : TwoOp) (t : Tree) → 0 < total_by (λ _. 1) (parts op t)
parts_some op (leaf v k) = omega arith
parts_some op (constant v n) = omega arith
parts_some op (one o v k x) = omega arith
parts_some op (two o v x y) =
    elim (cases_Bool (same_op op o)) [
      | inl t ↦ subst (λ l. 0 < total_by (λ _. 1) l) (sym (parts-opened op o v x y t)) (omega (arith, total_by-append (λ _. 1) (parts op x) (parts op y), parts_some op x))
      | inr f ↦ subst (λ l. 0 < total_by (λ _. 1) l) (sym (parts-closed op (two o v x y) f)) (omega arith)
    ]
parts_some op (sel v c x y) = omega arith

-- the operation over the values of a list of parts
abbrev pub whole : (ℕ → ℕ → ℕ) → ℕ → Env → List Tree → ℕ
whole f e env [] = e
whole f e env (p ∷ ps) = f (value env p) (whole f e env ps)

module _ (op : TwoOp) (w : ℕ) (h : 0 < w) (c : makes_chains op ≡ true) (env : Env) where
  abbrev pub f : ℕ → ℕ → ℕ
  f = two_value op w w

  abbrev pub all : List Tree → ℕ
  all = whole f (neutral op w) env

  laws : IsChainOp f (2 ^ w) (neutral op w)
  laws = chain_op op w h c

  part_below : (p : Tree) → IsPart w p → value env p < 2 ^ w
  part_below p q = subst (λ v. value env p < 2 ^ v) q.1 (value-below env p q.0)

  all_below : (ps : List Tree) → AllParts (IsPart w) ps → all ps < 2 ^ w
  all_below [] a = laws.within
  all_below (p ∷ ps) a = laws.closed (value env p) (all ps) (part_below p a.0) (all_below ps a.1)

  all-append_values : (ps qs : List Tree) → AllParts (IsPart w) ps → AllParts (IsPart w) qs → all (ps ++ qs) ≡ f (all ps) (all qs)
  all-append_values [] qs a b = sym (laws.neutral (all qs) (all_below qs b))
  all-append_values (p ∷ ps) qs a b =
      ap (f (value env p)) (all-append_values ps qs a.1 b) ∙ sym (laws.assoc (value env p) (all ps) (all qs) (part_below p a.0) (all_below ps a.1) (all_below qs b))

  all-put : (p : Tree) (ps : List Tree) → IsPart w p → AllParts (IsPart w) ps → all (put_in p ps) ≡ f (value env p) (all ps)
  all-put p [] a b = refl
  all-put p (q ∷ ps) a b =
      let vp = part_below p a in
      let vq = part_below q b.0 in
      let vs = all_below ps b.1 in
      elim (cases_Bool (not_after p q)) [
        | inl t ↦ ap all (cond-true (not_after p q) (p ∷ (q ∷ ps)) (q ∷ put_in p ps) t)
        | inr e ↦ ap all (cond-false (not_after p q) (p ∷ (q ∷ ps)) (q ∷ put_in p ps) e) ∙ ap (f (value env q)) (all-put p ps a b.1)
            ∙ sym (laws.assoc (value env q) (value env p) (all ps) vq vp vs) ∙ ap (λ v. f v (all ps)) (laws.comm (value env q) (value env p) vq vp)
            ∙ laws.assoc (value env p) (value env q) (all ps) vp vq vs
      ]

  pub all-sorted_values : (ps : List Tree) → AllParts (IsPart w) ps → all (sorted ps) ≡ all ps
  all-sorted_values [] a = refl
  all-sorted_values (p ∷ ps) a =
      all-put p (sorted ps) a.0 (all-sorted (IsPart w) ps a.1) ∙ ap (f (value env p)) (all-sorted_values ps a.1)

  all-single : (p : Tree) → IsPart w p → all (p ∷ []) ≡ value env p
  all-single p a = laws.comm (value env p) (neutral op w) (part_below p a) laws.within ∙ laws.neutral (value env p) (part_below p a)

  -- the value of a term is that of its parts
  pub value-parts : (t : Tree) → WellFormed t → width_of t ≡ w → all (parts op t) ≡ value env t
  value-parts (leaf v k) g e = all-single (leaf v k) (g, e)
  value-parts (constant v n) g e = all-single (constant v n) (g, e)
  value-parts (one o v k x) g e = all-single (one o v k x) (g, e)
  value-parts (two o v x y) g e =
      elim (cases_Bool (same_op op o)) [
        | inl t ↦ (
            let same = same_op-same op o t in
            let fits = chain_fits o v (width_of x) (width_of y) (subst (λ p. makes_chains p ≡ true) same c) g.1 in
            let px = parts-all op w x c g.2 (fits.0 ∙ e) in
            let py = parts-all op w y c g.3 (fits.1 ∙ e) in
            ap all (parts-opened op o v x y t) ∙ all-append_values (parts op x) (parts op y) px py
            ∙ ap (λ n. f n (all (parts op y))) (value-parts x g.2 (fits.0 ∙ e)) ∙ ap (f (value env x)) (value-parts y g.3 (fits.1 ∙ e))
            ∙ ap (λ p. two_value p w w (value env x) (value env y)) same
            ∙ ap (λ n. two_value o n w (value env x) (value env y)) (sym e)
            ∙ ap (λ n. two_value o v n (value env x) (value env y)) (sym (fits.1 ∙ e)))
        | inr d ↦ ap all (parts-closed op (two o v x y) d) ∙ all-single (two o v x y) (g, e)
      ]
  value-parts (sel v d x y) g e = all-single (sel v d x y) (g, e)

  -- a chain of parts is a part, and its value that of its parts
  pub value-chain : (first : Tree) (ps : List Tree) → IsPart w first → AllParts (IsPart w) ps → IsPart w (chain op w first ps) × (value env (chain op w first ps) ≡ f (value env first) (all ps))
  value-chain first [] a b = (a, sym (laws.comm (value env first) (neutral op w) (part_below first a) laws.within ∙ laws.neutral (value env first) (part_below first a)))
  value-chain first (p ∷ ps) a b =
      let width : IsWidth w = subst IsWidth a.1 (width_range first a.0) in
      let joined : IsPart w (two op w first p) = ((width, fits_chain op w (width_of first) (width_of p) c a.1 b.0.1, a.0, b.0.0), refl) in
      let rest = value-chain (two op w first p) ps joined b.1 in
      (rest.0, rest.1 ∙ ap (λ n. f n (all ps)) (ap (λ n. two_value op w n (value env first) (value env p)) b.0.1) ∙ laws.assoc (value env first) (value env p) (all ps) (part_below first a) (part_below p b.0) (all_below ps b.1))
