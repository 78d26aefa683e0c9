-- A chain over canonical parts, whose first child was made canonical.
use Rattle.std.proofs.Common.{◌≡◌, ℕ, ◌≤◌, true, false, sym, ap, ◌∙◌, subst, inl, inr}
use Rattle.vg_terms.specs.declared.term.TwoOp.{TwoOp}
use Rattle.vg_terms.specs.Chain.{opens}
use Rattle.vg_terms.specs.Measure.{measure}
use Rattle.vg_terms.specs.Term.{Tree, leaf, constant, one, two, sel, WellFormed}
use Rattle.vg_canon.specs.declared.walk.Walk.TheVariants.{Chain}
use Rattle.vg_canon.specs.Canonical.{IsCanonical, HasCanonicalChildren, over_children, canonical}
use Rattle.vg_canon.specs.Step.{is_at_rest}
use Rattle.vg_canon.specs.Walk.{OverCanonical}
use Rattle.vg_canon.proofs.AtRest.{at_rest-none}
use Rattle.vg_canon.proofs.Forms.{canonical-same, canonical-finished, canonical-rebuilt, canonical-children, children-measure}
use Rattle.vg_canon.proofs.Walks.{chain-ends}

-- the second child is canonical
second-canonical : (op o : TwoOp) (w : ℕ) (x y : Tree) → OverCanonical op (two o w x y) → IsCanonical y
second-canonical op o w x y h = elim h [ inl c ↦ c.2 | inr p ↦ p.2 ]

pub over-first : (op o : TwoOp) (w : ℕ) (x y z t : Tree) → t ≡ two o w x y → OverCanonical op t → z ≡ canonical x → two o w z y ≡ over_children canonical t
over-first op o w x y z t e h c =
    rw e (ap (λ s. two o w s y) c ∙ ap (two o w (canonical x)) (sym (canonical-same y (second-canonical op o w x y (subst (OverCanonical op) e h)))))

-- a term that is no operation of the chain is canonical
pub closed-same : (op : TwoOp) (t : Tree) → opens op t ≡ false → OverCanonical op t → t ≡ canonical t
closed-same op t c h = sym (canonical-same t (chain-ends op t c h))

-- the term over canonical children
pub record IsOver (t new : Tree) : Type 0 where
  pub well_formed : WellFormed new
  pub children : HasCanonicalChildren new
  pub not_above : measure new ≤ measure t
  pub same : canonical new ≡ canonical t

pub is-over : (t new : Tree) → WellFormed t → new ≡ over_children canonical t → IsOver t new
is-over t new g e =
    let r = canonical-rebuilt t g in
    rw e record { well_formed = r.keeps.well_formed; children = r.children; not_above = children-measure t g; same = canonical-children t g }

pub rest-same : (t new : Tree) → IsOver t new → is_at_rest new ≡ true → new ≡ canonical t
rest-same t new o h = sym (canonical-finished new o.well_formed o.children (at_rest-none new h o.children)) ∙ o.same
