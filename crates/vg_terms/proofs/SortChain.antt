-- Putting a chain in order: it keeps the value and the weight and lowers the disorder, and a chain is in
-- order exactly where it is the chain of its parts in rising order.
use Rattle.std.proofs.Common.{◌≡◌, ℕ, ◌+◌, ◌*◌, ◌<◌, ◌≤◌, ◌↔◌, Bool, true, false, List, [], ◌∷◌, ◌++◌, refl, sym, ap, ◌∙◌, subst, arith, inl, inr}
use Rattle.std.specs.Prelude.{not, ◌&&◌, if◌then◌else◌, nat_eq}
use Rattle.std.specs.declared.cmp.Ordering.{Ordering}
use Rattle.std.specs.declared.cmp.Ordering.TheVariants.{Less, Equal, Greater}
use Rattle.std.specs.Ordering.{is_gt, ordering_reverse}
use Rattle.std.proofs.lemmas.Bool.{cases_Bool, cond-true, cond-false, and_parts, and_from, not-true, not-false, not_from_true, not_from_false, eqb-true, eq-eqb}
use Rattle.vg_terms.specs.declared.term.TwoOp.{TwoOp}
use Rattle.vg_terms.specs.declared.term.TwoOp.TheVariants.{Add, Mul, And, Or, Xor, Smin, Smax, Umin, Umax, Eq, Slt, Ult, Cat}
use Rattle.vg_terms.specs.declared.value.Env.{Env}
use Rattle.vg_terms.specs.Term.{Tree, leaf, constant, one, two, sel, width_of, WellFormed}
use Rattle.vg_terms.specs.Value.{two_value, value}
use Rattle.vg_terms.specs.Order.{order}
use Rattle.vg_terms.specs.Chain.{makes_chains, neutral, same_op, opens, parts, chain, chain_of, not_after, rising_from, rising, sorted, leads_to, in_order, is_disordered, CanBeSorted}
use Rattle.vg_terms.specs.Measure.{two_weight, weight, own_disorder, disorder, Falls}
use Rattle.vg_terms.specs.Rule.{Keeps}
use Rattle.vg_terms.proofs.Orders.{order_total}
use Rattle.vg_terms.proofs.Measures.{own_none}
use Rattle.vg_terms.proofs.Sorting.{total_by, total_by-sorted, rising-sorted, sorted-rising}
use Rattle.vg_terms.proofs.Chains.{same_op-same, chain_fits, chain_weight, disordered-chain, parts-opened, parts-closed, AllParts, all-sorted, IsPart, parts-all, parts_closed-all, total_by-append, parts_some, whole, all-sorted_values, value-parts, value-chain}

-- a list with a first term
pub split : (l : List Tree) → 0 < total_by (λ _. 1) l → (p : Tree) × (ps : List Tree) × (l ≡ p ∷ ps)
split [] h = absurd (omega (arith, h))
split (p ∷ ps) h = (p, ps, refl)

-- the sorted parts of a term, which are some
pub sorted_split : (op : TwoOp) (t : Tree) → (p : Tree) × (ps : List Tree) × (sorted (parts op t) ≡ p ∷ ps)
sorted_split op t = split (sorted (parts op t)) (omega (arith, total_by-sorted (λ _. 1) (parts op t), parts_some op t))

-- the chain of the sorted parts of a term is well-formed, and has its width and value
pub sorted-keeps : (op : TwoOp) (w : ℕ) (t : Tree) → makes_chains op ≡ true → 0 < w → WellFormed t → width_of t ≡ w → Keeps t (chain_of op w (sorted (parts op t)))
sorted-keeps op w t c h g e =
    let s = sorted_split op t in
    let a = all-sorted (IsPart w) (parts op t) (parts-all op w t c g e) in
    let b = subst (AllParts (IsPart w)) s.2 a in
    let r = chain op w s.0 s.1 in
    let is : chain_of op w (sorted (parts op t)) ≡ r = ap (chain_of op w) s.2 in
    let made = λ (env : Env). value-chain op w h c env s.0 s.1 b.0 b.1 in
    let v : (env : Env) → value env r ≡ value env t = λ env.
    (made env).1 ∙ ap (whole (two_value op w w) (neutral op w) env) (sym s.2) ∙ all-sorted_values op w h c env (parts op t) (parts-all op w t c g e) ∙ value-parts op w h c env t g e in
    let none : Env = record { pairs = [] } in
    subst (Keeps t) (sym is) (record { well_formed = (made none).0.0; width = (made none).0.1 ∙ sym e; value = v })

-- the weight of a chain, and of a term by its parts
weight-chain : (op : TwoOp) (w : ℕ) (first : Tree) (ps : List Tree) → makes_chains op ≡ true → weight (chain op w first ps) ≡ weight first + total_by (λ p. 8 * w + weight p) ps
weight-chain op w first [] c = omega arith
weight-chain op w first (p ∷ ps) c = omega (arith, weight-chain op w (two op w first p) ps c, chain_weight op w (width_of first) c)

weight-parts : (op : TwoOp) (w : ℕ) (t : Tree) → makes_chains op ≡ true → WellFormed t → width_of t ≡ w → 8 * w + weight t ≡ total_by (λ p. 8 * w + weight p) (parts op t)
weight-parts op w (leaf v k) c g e = omega arith
weight-parts op w (constant v n) c g e = omega arith
weight-parts op w (one o v k x) c g e = omega arith
weight-parts op w (two o v x y) c g e =
    let count = λ (p : Tree). 8 * w + weight p in
    elim (cases_Bool (same_op op o)) [
      | inl t ↦ (
          let same = same_op-same op o t in
          let chains = subst (λ p. makes_chains p ≡ true) same c in
          let fits = chain_fits o v (width_of x) (width_of y) chains g.1 in
          let px = weight-parts op w x c g.2 (fits.0 ∙ e) in
          let py = weight-parts op w y c g.3 (fits.1 ∙ e) in
          let own : two_weight o v (width_of x) ≡ 8 * w = chain_weight o v (width_of x) chains ∙ ap (λ n. 8 * n) e in
          subst (λ l. 8 * w + weight (two o v x y) ≡ total_by count l) (sym (parts-opened op o v x y t)) (omega (arith, own, px, py, total_by-append count (parts op x) (parts op y))))
      | inr f ↦ subst (λ l. 8 * w + weight (two o v x y) ≡ total_by count l) (sym (parts-closed op (two o v x y) f)) (omega arith)
    ]
weight-parts op w (sel v d x y) c g e = omega arith

pub sorted-weight : (op : TwoOp) (w : ℕ) (t : Tree) → makes_chains op ≡ true → WellFormed t → width_of t ≡ w → weight (chain_of op w (sorted (parts op t))) ≡ weight t
sorted-weight op w t c g e =
    let s = sorted_split op t in
    let count = λ (p : Tree). 8 * w + weight p in
    let is : weight (chain_of op w (sorted (parts op t))) ≡ weight (chain op w s.0 s.1) = ap (λ l. weight (chain_of op w l)) s.2 in
    let sum : total_by count (s.0 ∷ s.1) ≡ total_by count (parts op t) = ap (total_by count) (sym s.2) ∙ total_by-sorted count (parts op t) in
    omega (arith, is, sum, weight-chain op w s.0 s.1 c, weight-parts op w t c g e)

-- the parts have no more disorder than the term
disorder-parts : (op : TwoOp) (t : Tree) → total_by disorder (parts op t) ≤ disorder t
disorder-parts op (leaf v k) = omega arith
disorder-parts op (constant v n) = omega arith
disorder-parts op (one o v k x) = omega arith
disorder-parts op (two o v x y) =
    elim (cases_Bool (same_op op o)) [
      | inl t ↦ subst (λ l. total_by disorder l ≤ disorder (two o v x y)) (sym (parts-opened op o v x y t)) (omega (arith, disorder-parts op x, disorder-parts op y, total_by-append disorder (parts op x) (parts op y)))
      | inr f ↦ subst (λ l. total_by disorder l ≤ disorder (two o v x y)) (sym (parts-closed op (two o v x y) f)) (omega arith)
    ]
disorder-parts op (sel v c x y) = omega arith

leads_to-closed : (op : TwoOp) (x y : Tree) → opens op x ≡ false → leads_to op x y ≡ not_after x y
leads_to-closed op (leaf v k) y h = refl
leads_to-closed op (constant v n) y h = refl
leads_to-closed op (one o v k x) y h = refl
leads_to-closed op (two o v a b) y h = cond-false _ _ _ h
leads_to-closed op (sel v c a b) y h = refl

leads_to-opened : (op o : TwoOp) (w : ℕ) (a b y : Tree) → same_op op o ≡ true → leads_to op (two o w a b) y ≡ not_after b y && (not (opens op b) && leads_to op a b)
leads_to-opened op o w a b y h = cond-true _ _ _ h

-- what leads to a part that is not after the next leads on to it
leads_on : (op : TwoOp) (w : ℕ) (x q r : Tree) → leads_to op x q ≡ true → opens op q ≡ false → not_after q r ≡ true → leads_to op (two op w x q) r ≡ true
leads_on op w x q r h g n =
    leads_to-opened op op w x q r (eq-eqb _ _ refl) ∙ and_from _ _ n (and_from _ _ (not_from_false (opens op q) g) h)

own-in_order : (op : TwoOp) (w : ℕ) (x q : Tree) → makes_chains op ≡ true → leads_to op x q ≡ true → opens op q ≡ false → is_disordered (two op w x q) ≡ false
own-in_order op w x q c h g =
    disordered-chain op x q c ∙ not_from_true _ (and_from _ _ (not_from_false (opens op q) g) h)

abbrev Closed : TwoOp → List Tree → Type 0
Closed op = AllParts (λ p. opens op p ≡ false)

-- a chain of rising parts has the disorder of its parts alone, and is in order at its root
disorder-chain : (op : TwoOp) (w : ℕ) (x q : Tree) (ps : List Tree) → makes_chains op ≡ true → leads_to op x q ≡ true → rising_from q ps ≡ true → Closed op (q ∷ ps) → (disorder (chain op w x (q ∷ ps)) ≡ disorder x + total_by disorder (q ∷ ps)) × (is_disordered (chain op w x (q ∷ ps)) ≡ false)
disorder-chain op w x q [] c h g a =
    let own = own-in_order op w x q c h a.0 in
    (omega (arith, own_none (two op w x q) own), own)
disorder-chain op w x q (r ∷ ps) c h g a =
    let up = and_parts (not_after q r) (rising_from r ps) g in
    let own = own-in_order op w x q c h a.0 in
    let rest = disorder-chain op w (two op w x q) r ps c (leads_on op w x q r h a.0 up.0) up.1 a.1 in
    (omega (arith, own_none (two op w x q) own, rest.0), rest.1)

disorder-rising : (op : TwoOp) (w : ℕ) (p : Tree) (ps : List Tree) → makes_chains op ≡ true → rising_from p ps ≡ true → Closed op (p ∷ ps) → disorder (chain op w p ps) ≡ total_by disorder (p ∷ ps)
disorder-rising op w p [] c g a = omega arith
disorder-rising op w p (q ∷ ps) c g a =
    let up = and_parts (not_after p q) (rising_from q ps) g in
    (disorder-chain op w p q ps c (leads_to-closed op p q a.0 ∙ up.0) up.1 a.1).0

pub sorted-disorder : (op : TwoOp) (w : ℕ) (t : Tree) → makes_chains op ≡ true → disorder (chain_of op w (sorted (parts op t))) ≡ total_by disorder (parts op t)
sorted-disorder op w t c =
    let s = sorted_split op t in
    let up = subst (λ l. rising l ≡ true) s.2 (rising-sorted (parts op t)) in
    let closed = subst (Closed op) s.2 (all-sorted (λ p. opens op p ≡ false) (parts op t) (parts_closed-all op t)) in
    ap (λ l. disorder (chain_of op w l)) s.2 ∙ disorder-rising op w s.0 s.1 c up closed ∙ ap (total_by disorder) (sym s.2) ∙ total_by-sorted disorder (parts op t)

-- putting a disordered chain in order lowers the measure
pub sorted-falls : (op : TwoOp) (w : ℕ) (x y : Tree) → makes_chains op ≡ true → WellFormed (two op w x y) → is_disordered (two op w x y) ≡ true → Falls (two op w x y) (chain_of op w (sorted (parts op (two op w x y))))
sorted-falls op w x y c g d =
    let t = two op w x y in
    let itself : same_op op op ≡ true = eq-eqb _ _ refl in
    let own : own_disorder t ≡ 1 = cond-true _ _ _ d in
    let sum : total_by disorder (parts op t) ≡ total_by disorder (parts op x) + total_by disorder (parts op y) = ap (total_by disorder) (parts-opened op op w x y itself) ∙ total_by-append disorder (parts op x) (parts op y) in
    inr (sorted-weight op w t c g refl, omega (arith, sorted-disorder op w t c, sum, own, disorder-parts op x, disorder-parts op y))

-- and it is in order then
two_parts_least : (op : TwoOp) (w : ℕ) (x y : Tree) → 1 < total_by (λ _. 1) (sorted (parts op (two op w x y)))
two_parts_least op w x y =
    let t = two op w x y in
    let opened = ap (total_by (λ _. 1)) (parts-opened op op w x y (eq-eqb _ _ refl)) in
    omega (arith, total_by-sorted (λ _. 1) (parts op t), opened, total_by-append (λ _. 1) (parts op x) (parts op y), parts_some op x, parts_some op y)

in_order-chain : (op : TwoOp) (w : ℕ) (l : List Tree) → makes_chains op ≡ true → rising l ≡ true → Closed op l → 1 < total_by (λ _. 1) l → is_disordered (chain_of op w l) ≡ false
in_order-chain op w [] c g a n = absurd (omega (arith, n))
in_order-chain op w (p ∷ []) c g a n = absurd (omega (arith, n))
in_order-chain op w (p ∷ (q ∷ ps)) c g a n =
    let up = and_parts (not_after p q) (rising_from q ps) g in
    (disorder-chain op w p q ps c (leads_to-closed op p q a.0 ∙ up.0) up.1 a.1).1

pub sorted-in_order : (op : TwoOp) (w : ℕ) (x y : Tree) → makes_chains op ≡ true → is_disordered (chain_of op w (sorted (parts op (two op w x y)))) ≡ false
sorted-in_order op w x y c =
    in_order-chain op w (sorted (parts op (two op w x y))) c (rising-sorted (parts op (two op w x y))) (all-sorted (λ p. opens op p ≡ false) (parts op (two op w x y)) (parts_closed-all op (two op w x y))) (two_parts_least op w x y)

-- one more part after a chain, and after a rising list
chain-snoc : (op : TwoOp) (w : ℕ) (first : Tree) (ps : List Tree) (y : Tree) → chain op w first (ps ++ y ∷ []) ≡ two op w (chain op w first ps) y
chain-snoc op w first [] y = refl
chain-snoc op w first (p ∷ ps) y = chain-snoc op w (two op w first p) ps y

chain_of-snoc : (op : TwoOp) (w : ℕ) (ps : List Tree) (b y : Tree) → chain_of op w ((ps ++ b ∷ []) ++ y ∷ []) ≡ two op w (chain_of op w (ps ++ b ∷ [])) y
chain_of-snoc op w [] b y = refl
chain_of-snoc op w (p ∷ ps) b y = chain-snoc op w p (ps ++ b ∷ []) y

rising_from-snoc : (p : Tree) (ps : List Tree) (b y : Tree) → rising_from p (ps ++ b ∷ []) ≡ true → not_after b y ≡ true → rising_from p ((ps ++ b ∷ []) ++ y ∷ []) ≡ true
rising_from-snoc p [] b y h g = and_from _ _ (and_parts (not_after p b) true h).0 (and_from _ _ g refl)
rising_from-snoc p (q ∷ ps) b y h g =
    let up = and_parts (not_after p q) (rising_from q (ps ++ b ∷ [])) h in
    and_from _ _ up.0 (rising_from-snoc q ps b y up.1 g)

rising-snoc : (ps : List Tree) (b y : Tree) → rising (ps ++ b ∷ []) ≡ true → not_after b y ≡ true → rising ((ps ++ b ∷ []) ++ y ∷ []) ≡ true
rising-snoc [] b y h g = and_from _ _ g refl
rising-snoc (p ∷ ps) b y h g = rising_from-snoc p ps b y h g

-- x leads to y: with y after them its parts rise, and their chain is the operation over x and y
record Leads (op : TwoOp) (w : ℕ) (x y : Tree) : Type 0 where
  is_chain : chain_of op w (parts op x ++ y ∷ []) ≡ two op w x y
  rises : rising (parts op x ++ y ∷ []) ≡ true

leads_single : (op : TwoOp) (w : ℕ) (x y : Tree) → opens op x ≡ false → not_after x y ≡ true → Leads op w x y
leads_single op w x y f h =
    let single = parts-closed op x f in
    record {
      is_chain = ap (λ l. chain_of op w (l ++ y ∷ [])) single;
      rises = ap (λ l. rising (l ++ y ∷ [])) single ∙ and_from _ _ h refl;
    }

leads : (op : TwoOp) (w : ℕ) (x y : Tree) → makes_chains op ≡ true → WellFormed x → width_of x ≡ w → leads_to op x y ≡ true → Leads op w x y
leads op w (leaf v k) y c g e h = leads_single op w (leaf v k) y refl h
leads op w (constant v n) y c g e h = leads_single op w (constant v n) y refl h
leads op w (one o v k x) y c g e h = leads_single op w (one o v k x) y refl h
leads op w (two o v a b) y c g e h =
    elim (cases_Bool (same_op op o)) [
      | inl t ↦ (
          let same = same_op-same op o t in
          let fits = chain_fits o v (width_of a) (width_of b) (subst (λ p. makes_chains p ≡ true) same c) g.1 in
          let up = and_parts (not_after b y) _ (sym (leads_to-opened op o v a b y t) ∙ h) in
          let below = and_parts (not (opens op b)) (leads_to op a b) up.1 in
          let inner = leads op w a b c g.2 (fits.0 ∙ e) below.1 in
          let flat : parts op (two o v a b) ≡ parts op a ++ b ∷ [] = parts-opened op o v a b t ∙ ap (λ l. parts op a ++ l) (parts-closed op b (not-true (opens op b) below.0)) in
          record {
            is_chain = ap (λ l. chain_of op w (l ++ y ∷ [])) flat ∙ chain_of-snoc op w (parts op a) b y ∙ ap (λ s. two op w s y) (inner.is_chain ∙ ap (λ n. two op n a b) (sym e) ∙ ap (λ p. two p v a b) same);
            rises = ap (λ l. rising (l ++ y ∷ [])) flat ∙ rising-snoc (parts op a) b y inner.rises up.0;
          })
      | inr f ↦ leads_single op w (two o v a b) y f (sym (leads_to-closed op (two o v a b) y f) ∙ h)
    ]
leads op w (sel v d a b) y c g e h = leads_single op w (sel v d a b) y refl h

-- a chain is in order exactly where it is the chain of its parts in rising order
pub in_order-sorted : (op : TwoOp) (w : ℕ) (x y : Tree) → makes_chains op ≡ true → WellFormed (two op w x y) → is_disordered (two op w x y) ≡ false → chain_of op w (sorted (parts op (two op w x y))) ≡ two op w x y
in_order-sorted op w x y c g d =
    let fits = chain_fits op w (width_of x) (width_of y) c g.1 in
    let up = and_parts (not (opens op y)) (leads_to op x y) (not-false (in_order op x y) (sym (disordered-chain op x y c) ∙ d)) in
    let l = leads op w x y c g.2 fits.0 up.1 in
    let flat : parts op (two op w x y) ≡ parts op x ++ y ∷ [] = parts-opened op op w x y (eq-eqb _ _ refl) ∙ ap (λ k. parts op x ++ k) (parts-closed op y (not-true (opens op y) up.0)) in
    ap (λ k. chain_of op w (sorted k)) flat ∙ ap (chain_of op w) (sorted-rising (parts op x ++ y ∷ []) l.rises) ∙ l.is_chain

pub disordered-sorted : (op : TwoOp) (w : ℕ) (x y : Tree) → makes_chains op ≡ true → WellFormed (two op w x y) → (is_disordered (two op w x y) ≡ true) ↔ (chain_of op w (sorted (parts op (two op w x y))) ≡ two op w x y → ⊥)
disordered-sorted op w x y c g = (
  (λ d e. let still : is_disordered (two op w x y) ≡ false = ap is_disordered (sym e) ∙ sorted-in_order op w x y c in absurd (cc)),
  λ h. elim (cases_Bool (is_disordered (two op w x y))) [ inl t ↦ t | inr f ↦ absurd (h (in_order-sorted op w x y c g f)) ],
)

-- equal sides the right way round
turned_once : (o p : Ordering) → o ≡ ordering_reverse p → is_gt o ≡ true → is_gt p ≡ false
turned_once o Less e h = refl
turned_once o Equal e h = refl
turned_once o Greater e h = absurd (let k : is_gt o ≡ false = ap is_gt e in cc)

test_comm : (a b : ℕ) → nat_eq a b ≡ nat_eq b a
test_comm a b =
    elim (cases_Bool (nat_eq a b)) [ inl t ↦ t ∙ sym (eq-eqb b a (sym (eqb-true a b t))) | inr f ↦ elim (cases_Bool (nat_eq b a)) [ inl t ↦ absurd (let k = eq-eqb a b (sym (eqb-true b a t)) in cc) | inr g ↦ f ∙ sym g ] ]

pub equality-keeps : (w : ℕ) (x y : Tree) → WellFormed (two Eq w x y) → Keeps (two Eq w x y) (two Eq w y x)
equality-keeps w x y g = record {
  well_formed = (g.0, (g.1.0, sym g.1.1), g.3, g.2);
  width = refl;
  value = λ env. ap (λ t. if t then 1 else 0) (test_comm (value env y) (value env x));
}

pub equality-falls : (w : ℕ) (x y : Tree) → WellFormed (two Eq w x y) → is_disordered (two Eq w x y) ≡ true → Falls (two Eq w x y) (two Eq w y x)
equality-falls w x y g d =
    let back : is_disordered (two Eq w y x) ≡ false = turned_once (order x y) (order y x) (order_total.antisymm x y) d in
    let own : own_disorder (two Eq w x y) ≡ 1 = cond-true _ _ _ d in
    let same : 8 * width_of y ≡ 8 * width_of x = ap (λ n. 8 * n) (sym g.1.1) in
    inr (omega (arith, same), omega (arith, own, own_none (two Eq w y x) back))

greater-test : (o : Ordering) → (is_gt o ≡ true) ↔ (o ≡ Greater)
greater-test Less = ((λ e. absurd (cc)), λ e. absurd (cc))
greater-test Equal = ((λ e. absurd (cc)), λ e. absurd (cc))
greater-test Greater = ((λ e. refl), λ e. refl)

never : (b : Bool) → b ≡ false → (b ≡ true) ↔ ⊥
never b h = ((λ e. absurd (cc)), λ e. absurd e)

-- the test is what it says, of well-formed terms
pub can_be_sorted : (t : Tree) → WellFormed t → (is_disordered t ≡ true) ↔ CanBeSorted t
can_be_sorted (leaf w k) g = never false refl
can_be_sorted (constant w v) g = never false refl
can_be_sorted (one op w k x) g = never false refl
can_be_sorted (two Add w x y) g = disordered-sorted Add w x y refl g
can_be_sorted (two Mul w x y) g = disordered-sorted Mul w x y refl g
can_be_sorted (two And w x y) g = disordered-sorted And w x y refl g
can_be_sorted (two Or w x y) g = disordered-sorted Or w x y refl g
can_be_sorted (two Xor w x y) g = disordered-sorted Xor w x y refl g
can_be_sorted (two Smin w x y) g = disordered-sorted Smin w x y refl g
can_be_sorted (two Smax w x y) g = disordered-sorted Smax w x y refl g
can_be_sorted (two Umin w x y) g = disordered-sorted Umin w x y refl g
can_be_sorted (two Umax w x y) g = disordered-sorted Umax w x y refl g
can_be_sorted (two Eq w x y) g = greater-test (order x y)
can_be_sorted (two Slt w x y) g = never false refl
can_be_sorted (two Ult w x y) g = never false refl
can_be_sorted (two Cat w x y) g = never false refl
can_be_sorted (sel w c x y) g = never false refl
