-- The measure: as one number for recursions, of children, and of a term whose children were rewritten.
use Rattle.std.proofs.Common.{◌≡◌, ℕ, suc, ◌+◌, ◌-◌, ◌*◌, ◌<◌, ◌≤◌, ◌⊎◌, true, false, ap, ◌∙◌, arith, inl, inr}
use Rattle.std.proofs.lemmas.Bool.{cond_both, cases_Bool, cond-false}
use Rattle.vg_terms.specs.declared.term.OneOp.{OneOp}
use Rattle.vg_terms.specs.declared.term.OneOp.TheVariants.{Zext, Sext, Trunc, Lshr, Ashr}
use Rattle.vg_terms.specs.declared.term.TwoOp.{TwoOp}
use Rattle.vg_terms.specs.Term.{Tree, leaf, constant, one, two, sel, width_of}
use Rattle.vg_terms.specs.Chain.{is_disordered}
use Rattle.vg_terms.specs.Measure.{one_weight, two_weight, weight, own_disorder, disorder, Falls, measure, NotAbove, Settles}

pub own_most : (t : Tree) → own_disorder t ≤ 1
own_most t = cond_both (is_disordered t) 1 0 (λ n. n ≤ 1) (λ _. omega arith) (λ _. omega arith)

pub own_none : (t : Tree) → is_disordered t ≡ false → own_disorder t ≡ 0
own_none t h = cond-false (is_disordered t) 1 0 h

pub disorder-below : (t : Tree) → disorder t < weight t
disorder-below (leaf w k) = omega arith
disorder-below (constant w v) = omega arith
disorder-below (one op w k x) = omega (arith, disorder-below x)
disorder-below (two op w x y) = omega (arith, own_most (two op w x y), disorder-below x, disorder-below y)
disorder-below (sel w c x y) = omega (arith, disorder-below c, disorder-below x, disorder-below y)

-- a square with less than its root after it
squares : (v w d e : ℕ) → v < w → d < v → v * v + d < w * w + e
squares v w d e h l =
    let k = w - suc v in
    let e' : suc v + k ≡ w = omega arith in
    let s : v * v + d < (suc v + k) * (suc v + k) = omega arith in
    let r : (suc v + k) * (suc v + k) ≡ w * w = ap (λ n. n * n) e' in
    omega arith

pub measure-falls : (t r : Tree) → Falls t r → measure r < measure t
measure-falls t r h =
    elim h [ inl l ↦ squares (weight r) (weight t) (disorder r) (disorder t) l (disorder-below r) | inr p ↦ (let e : weight r * weight r ≡ weight t * weight t = ap (λ n. n * n) p.0 in omega (arith, p.1)) ]

pub falls_trans : (s t r : Tree) → Falls s t → Falls t r → Falls s r
falls_trans s t r h g = elim h [ inl l ↦ elim g [ inl m ↦ inl (omega arith) | inr q ↦ inl (omega (arith, q.0)) ] | inr p ↦ elim g [ inl m ↦ inl (omega (arith, p.0)) | inr q ↦ inr (q.0 ∙ p.0, omega (arith, p.1, q.1)) ] ]

-- a term that is not above, and then falls
pub falls_after : (s t r : Tree) → NotAbove s t → Falls t r → Falls s r
falls_after s t r h g = elim h [ inl l ↦ elim g [ inl m ↦ inl (omega arith) | inr q ↦ inl (omega (arith, q.0)) ] | inr p ↦ elim g [ inl m ↦ inl (omega (arith, p.0)) | inr q ↦ inr (q.0 ∙ p.0, omega (arith, p.1, q.1)) ] ]

pub not_above : (s t : Tree) → Settles s t → NotAbove s t
not_above s t h = elim h [ inl e ↦ inr (ap weight e, omega (arith, ap disorder e)) | inr f ↦ elim f [ inl l ↦ inl l | inr p ↦ inr (p.0, omega (arith, p.1)) ] ]

-- children are lighter
pub one_weight_some : (op : OneOp) (w : ℕ) → 0 < w → 0 < one_weight op w
one_weight_some Zext w h = omega arith
one_weight_some Sext w h = omega arith
one_weight_some Trunc w h = omega arith
one_weight_some Lshr w h = omega arith
one_weight_some Ashr w h = omega arith

pub weight_some : (t : Tree) → 0 < weight t
weight_some t = omega (arith, disorder-below t)

pub falls_to_child : (op : OneOp) (w k : ℕ) (x : Tree) → 0 < w → Falls (one op w k x) x
falls_to_child op w k x h = inl (omega (arith, one_weight_some op w h))

pub falls_to_first : (op : TwoOp) (w : ℕ) (x y : Tree) → Falls (two op w x y) x
falls_to_first op w x y = inl (omega (arith, weight_some y))

pub falls_to_second : (op : TwoOp) (w : ℕ) (x y : Tree) → Falls (two op w x y) y
falls_to_second op w x y = inl (omega (arith, weight_some x))

pub falls_to_condition : (w : ℕ) (c x y : Tree) → Falls (sel w c x y) c
falls_to_condition w c x y = inl (omega (arith, weight_some x))

pub falls_to_then : (w : ℕ) (c x y : Tree) → Falls (sel w c x y) x
falls_to_then w c x y = inl (omega (arith, weight_some y))

pub falls_to_else : (w : ℕ) (c x y : Tree) → Falls (sel w c x y) y
falls_to_else w c x y = inl (omega (arith, weight_some x))

-- rebuilt over a child that settled, an operation on one term settled
pub settles_one : (op : OneOp) (w k : ℕ) (x x' : Tree) → Settles x x' → Settles (one op w k x) (one op w k x')
settles_one op w k x x' h =
    elim h [ inl e ↦ inl (ap (one op w k) e) | inr f ↦ inr (elim f [ inl l ↦ inl (omega arith) | inr p ↦ inr (ap (λ n. one_weight op w + n) p.0, p.1) ]) ]

-- two or three terms that settled: all are the same, or their weights and disorders fell together
abbrev Sum : ℕ → ℕ → ℕ → ℕ → Type 0
Sum w w' d d' = (w' < w) ⊎ ((w' ≡ w) × (d' < d))

pub settled_pair : (x x' y y' : Tree) → Settles x x' → Settles y y' → ((x' ≡ x) × (y' ≡ y)) ⊎ Sum (weight x + weight y) (weight x' + weight y') (disorder x + disorder y) (disorder x' + disorder y')
settled_pair x x' y y' h g =
    elim h [
      | inl e ↦ elim g [ inl f ↦ inl (e, f) | inr q ↦ inr (elim q [ inl m ↦ inl (omega (arith, ap weight e)) | inr m ↦ inr (omega (arith, ap weight e, m.0), omega (arith, ap disorder e, m.1)) ]) ]
      | inr p ↦ inr (elim (not_above y y' g) [
        | inl m ↦ elim p [ inl l ↦ inl (omega arith) | inr l ↦ inl (omega (arith, l.0)) ]
        | inr m ↦ elim p [ inl l ↦ inl (omega (arith, m.0)) | inr l ↦ inr (omega (arith, l.0, m.0), omega (arith, l.1, m.1)) ]
      ])
    ]

pub settles_sel : (w : ℕ) (c c' x x' y y' : Tree) → Settles c c' → Settles x x' → Settles y y' → Settles (sel w c x y) (sel w c' x' y')
settles_sel w c c' x x' y y' hc hx hy =
    elim (settled_pair x x' y y' hx hy) [
      | inl e ↦ elim hc [ inl d ↦ inl (ap (λ t. sel w t x' y') d ∙ ap (λ t. sel w c t y') e.0 ∙ ap (sel w c x) e.1) | inr f ↦ inr (elim f [ inl l ↦ inl (omega (arith, ap weight e.0, ap weight e.1)) | inr l ↦ inr (omega (arith, l.0, ap weight e.0, ap weight e.1), omega (arith, l.1, ap disorder e.0, ap disorder e.1)) ]) ]
      | inr s ↦ inr (elim (not_above c c' hc) [
        | inl l ↦ elim s [ inl m ↦ inl (omega arith) | inr m ↦ inl (omega (arith, m.0)) ]
        | inr l ↦ elim s [ inl m ↦ inl (omega (arith, l.0)) | inr m ↦ inr (omega (arith, l.0, m.0), omega (arith, l.1, m.1)) ]
      ])
    ]

-- rebuilt over children that settled, an operation on two terms settled, or it is not above and can be put in order
pub settles_two : (op : TwoOp) (w : ℕ) (x x' y y' : Tree) → width_of x' ≡ width_of x → Settles x x' → Settles y y' → Settles (two op w x y) (two op w x' y') ⊎ ((is_disordered (two op w x' y') ≡ true) × NotAbove (two op w x y) (two op w x' y'))
settles_two op w x x' y y' e hx hy =
    let own : two_weight op w (width_of x') ≡ two_weight op w (width_of x) = ap (two_weight op w) e in
    elim (settled_pair x x' y y' hx hy) [
      | inl same ↦ inl (inl (ap (λ t. two op w t y') same.0 ∙ ap (two op w x) same.1))
      | inr s ↦ elim s [
        | inl l ↦ inl (inr (inl (omega arith)))
        | inr l ↦ elim (cases_Bool (is_disordered (two op w x' y'))) [
          | inl t ↦ inr (t, inr (omega (arith, l.0), omega (arith, l.1, own_most (two op w x' y'))))
          | inr f ↦ inl (inr (inr (omega (arith, l.0), omega (arith, l.1, own_none (two op w x' y') f))))
        ]
      ]
    ]
