-- The canonical form: as many rounds as the measure are enough, and what it keeps.
use Rattle.std.proofs.Common.{◌≡◌, ℕ, zero, suc, ◌<◌, ◌≤◌, ◌*◌, refl, sym, ap, ◌∙◌, arith, inl, inr}
use Rattle.std.specs.Prelude.{Some, None, Result, IfOk}
use Rattle.std.specs.declared.alloc.AllocError.{AllocError}
use Rattle.std.specs.Option.{option_map_or}
use Rattle.std.proofs.lemmas.Result.{IfOk-weaker}
use Rattle.vg_terms.specs.declared.term.Term.{Term}
use Rattle.vg_terms.specs.Measure.{Falls, NotAbove, Settles, measure, weight}
use Rattle.vg_terms.specs.Term.{Tree, leaf, constant, one, two, sel, tree, WellFormed}
use Rattle.vg_terms.proofs.Measures.{measure-falls, falls_trans, falls_after}
use Rattle.vg_canon.specs.Canonical.{first_rule, over_children, at_root, canonical_within, canonical, IsCanonical, HasCanonicalChildren, Settled}
use Rattle.vg_canon.proofs.Steps.{rule-sound, disordered-rule, either_rule}
use Rattle.vg_canon.proofs.Children.{Rebuilt, rebuilt, rebuilt-not_above, keeps-on, SettlesBelow, children-same}

-- what stands at the root
pub root-some : (f : Tree → Tree) (t new : Tree) → first_rule t ≡ Some new → at_root f t ≡ f new
root-some f t new e = ap (λ o. option_map_or f o t) e

pub root-none : (f : Tree → Tree) (t : Tree) → first_rule t ≡ None → at_root f t ≡ t
root-none f t e = ap (λ o. option_map_or f o t) e

whole-canonical : (t : Tree) → HasCanonicalChildren t → first_rule t ≡ None → IsCanonical t
whole-canonical (leaf w k) h e = e
whole-canonical (constant w v) h e = e
whole-canonical (one op w k x) h e = (e, h)
whole-canonical (two op w x y) h e = (e, h.0, h.1)
whole-canonical (sel w c x y) h e = (e, h.0, h.1, h.2)

settles_on : (s t r : Tree) → Falls s t → Settles t r → Settles s r
settles_on s t r h g = elim g [ inl e ↦ inr (rw e h) | inr f ↦ inr (falls_trans s t r h f) ]

root-settled : (f : Tree → Tree) (old new : Tree) → Rebuilt old new → SettlesBelow f old → Settled old (at_root f new)
root-settled f old new r below =
    elim (either_rule (first_rule new)) [
      | inl p ↦ (
          let made = rule-sound new p.0 r.keeps.well_formed p.1 in
          let falls = falls_after old new p.0 (rebuilt-not_above old new r) made.falls in
          let rest = below p.0 made.keeps.well_formed (measure-falls old p.0 falls) in
          rw (root-some f new p.0 p.1) record {
            keeps = keeps-on old p.0 (f p.0) (keeps-on old new p.0 r.keeps made.keeps) rest.keeps;
            settles = settles_on old p.0 (f p.0) falls rest.settles;
            is_canonical = rest.is_canonical;
          })
      | inr e ↦ rw (root-none f new e) record {
        keeps = r.keeps;
        settles = elim r.settles [ inl s ↦ s | inr d ↦ absurd (disordered-rule new d.0 e) ];
        is_canonical = whole-canonical new r.children e;
      }
    ]

within-settled : (n : ℕ) (t : Tree) → WellFormed t → measure t < n → Settled t (canonical_within n t)
unfolding canonical_within
within-settled zero t g l = absurd (omega arith)
within-settled (suc n) t g l =
    let f = canonical_within n in
    let below : SettlesBelow f t = λ s h m. within-settled n s h (omega arith) in
    root-settled f t (over_children f t) (rebuilt f t g below) below

-- the canonical form keeps what a rule keeps, settles, and is canonical
pub canonical-settled : (t : Tree) → WellFormed t → Settled t (canonical t)
unfolding canonical
canonical-settled t g = within-settled (suc (measure t)) t g (omega arith)

-- with as many rounds as the measure, what is done below and after a rule may be whatever agrees with it
round : (n : ℕ) (h : Tree → Tree) (t : Tree) → WellFormed t → measure t ≤ n → ((s : Tree) → WellFormed s → measure s < measure t → canonical_within n s ≡ h s) → canonical_within (suc n) t ≡ at_root h (over_children h t)
unfolding canonical_within
round n h t g l same =
    let f = canonical_within n in
    let r = rebuilt f t g (λ s k m. within-settled n s k (omega arith)) in
    let new = over_children f t in
    let ahead : at_root f new ≡ at_root h new =
    elim (either_rule (first_rule new)) [
      | inl p ↦ (
          let made = rule-sound new p.0 r.keeps.well_formed p.1 in
          let falls = falls_after t new p.0 (rebuilt-not_above t new r) made.falls in
          root-some f new p.0 p.1 ∙ same p.0 made.keeps.well_formed (measure-falls t p.0 falls) ∙ sym (root-some h new p.0 p.1))
      | inr e ↦ root-none f new e ∙ sym (root-none h new e)
    ] in
    ahead ∙ ap (at_root h) (children-same f h t g same)

-- more rounds change nothing
pub more_rounds : (n m : ℕ) (t : Tree) → WellFormed t → measure t < n → measure t < m → canonical_within n t ≡ canonical_within m t
unfolding canonical_within
more_rounds zero m t g l k = absurd (omega arith)
more_rounds (suc n) zero t g l k = absurd (omega arith)
more_rounds (suc n) (suc m) t g l k = round n (canonical_within m) t g (omega arith) (λ s h d. more_rounds n m s h (omega arith) (omega arith))

-- the canonical form of a term: of that of its children, and then of what the first rule gives at the root
pub canonical-is : (t : Tree) → WellFormed t → canonical t ≡ at_root canonical (over_children canonical t)
unfolding canonical
canonical-is t g = round (measure t) canonical t g (omega arith) (λ s h d. more_rounds (measure t) (suc (measure s)) s h d (omega arith))

-- a canonical term is its own canonical form
within-same : (n : ℕ) (t : Tree) → IsCanonical t → canonical_within n t ≡ t
unfolding canonical_within
within-same zero t c = refl
within-same (suc n) (leaf w k) c = root-none (canonical_within n) (leaf w k) c
within-same (suc n) (constant w v) c = root-none (canonical_within n) (constant w v) c
within-same (suc n) (one op w k x) c = rw (within-same n x c.1) (root-none (canonical_within n) (one op w k x) c.0)
within-same (suc n) (two op w x y) c = rw (within-same n x c.1, within-same n y c.2) (root-none (canonical_within n) (two op w x y) c.0)
within-same (suc n) (sel w c' x y) c = rw (within-same n c' c.1, within-same n x c.2, within-same n y c.3) (root-none (canonical_within n) (sel w c' x y) c.0)

pub canonical-same : (t : Tree) → IsCanonical t → canonical t ≡ t
unfolding canonical
canonical-same t c = within-same (suc (measure t)) t c

children-stay : (t : Tree) → HasCanonicalChildren t → over_children canonical t ≡ t
children-stay (leaf w k) h = refl
children-stay (constant w v) h = refl
children-stay (one op w k x) h = ap (one op w k) (canonical-same x h)
children-stay (two op w x y) h = rw (canonical-same x h.0, canonical-same y h.1) refl
children-stay (sel w c x y) h = rw (canonical-same c h.0, canonical-same x h.1, canonical-same y h.2) refl

-- over canonical children it is made at the root
canonical-root : (t : Tree) → WellFormed t → HasCanonicalChildren t → canonical t ≡ at_root canonical t
canonical-root t g h = canonical-is t g ∙ ap (at_root canonical) (children-stay t h)

pub canonical-rewritten : (t new : Tree) → WellFormed t → HasCanonicalChildren t → first_rule t ≡ Some new → canonical t ≡ canonical new
canonical-rewritten t new g h e = canonical-root t g h ∙ root-some canonical t new e

pub canonical-finished : (t : Tree) → WellFormed t → HasCanonicalChildren t → first_rule t ≡ None → canonical t ≡ t
canonical-finished t g h e = canonical-root t g h ∙ root-none canonical t e

-- the term over the canonical forms of its children, which has the same canonical form
pub canonical-rebuilt : (t : Tree) → WellFormed t → Rebuilt t (over_children canonical t)
canonical-rebuilt t g = rebuilt canonical t g (λ s h m. canonical-settled s h)

pub canonical-children : (t : Tree) → WellFormed t → canonical (over_children canonical t) ≡ canonical t
canonical-children t g =
    let r = canonical-rebuilt t g in
    canonical-root (over_children canonical t) r.keeps.well_formed r.children ∙ sym (canonical-is t g)

measure-not_above : (s t : Tree) → NotAbove s t → measure t ≤ measure s
measure-not_above s t h =
    elim h [
      | inl l ↦ (let f : measure t < measure s = measure-falls s t (inl l) in omega arith)
      | inr p ↦ (let e : weight t * weight t ≡ weight s * weight s = ap (λ n. n * n) p.0 in omega (arith, p.1))
    ]

pub children-measure : (t : Tree) → WellFormed t → measure (over_children canonical t) ≤ measure t
children-measure t g = measure-not_above t (over_children canonical t) (rebuilt-not_above t (over_children canonical t) (canonical-rebuilt t g))

pub rewritten-measure : (t new : Tree) → WellFormed t → first_rule t ≡ Some new → measure new < measure t
rewritten-measure t new g e = measure-falls t new (rule-sound t new g e).falls

-- of a call's result
pub settled : (t : Tree) (r : Result Term AllocError) → IfOk r (λ x. tree x ≡ canonical t) → WellFormed t → IfOk r (λ x. Settled t (tree x))
settled t r h g = IfOk-weaker r _ _ (λ x e. rw e (canonical-settled t g)) h
