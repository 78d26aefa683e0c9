-- A term over children that were rewritten.
use Rattle.std.proofs.Common.{◌≡◌, ℕ, ◌<◌, ◌⊎◌, true, refl, sym, ap, ◌∙◌, subst, inl, inr}
use Rattle.vg_terms.specs.declared.term.OneOp.{OneOp}
use Rattle.vg_terms.specs.declared.term.TwoOp.{TwoOp}
use Rattle.vg_terms.specs.Chain.{is_disordered}
use Rattle.vg_terms.specs.Measure.{NotAbove, Settles, measure}
use Rattle.vg_terms.specs.Rule.{Keeps}
use Rattle.vg_terms.specs.Term.{Tree, leaf, constant, one, two, sel, width_of, WellFormed, OneFits, TwoFits}
use Rattle.vg_terms.specs.Value.{value, one_value, two_value}
use Rattle.vg_terms.proofs.Measures.{measure-falls, not_above, falls_to_child, falls_to_first, falls_to_second, falls_to_condition, falls_to_then, falls_to_else, settles_one, settles_two, settles_sel}
use Rattle.vg_canon.specs.Canonical.{over_children, HasCanonicalChildren, Settled}

-- a term and the one over the canonical forms of its children: it may be out of order where it was not
pub record Rebuilt (old new : Tree) : Type 0 where
  pub keeps : Keeps old new
  pub settles : Settles old new ⊎ ((is_disordered new ≡ true) × NotAbove old new)
  pub children : HasCanonicalChildren new

pub rebuilt-not_above : (old new : Tree) → Rebuilt old new → NotAbove old new
rebuilt-not_above old new r = elim r.settles [ inl s ↦ not_above old new s | inr p ↦ p.1 ]

pub keeps-same : (t : Tree) → WellFormed t → Keeps t t
keeps-same t g = record { well_formed = g; width = refl; value = λ env. refl }

pub keeps-on : (s t r : Tree) → Keeps s t → Keeps t r → Keeps s r
keeps-on s t r h g = record { well_formed = g.well_formed; width = g.width ∙ h.width; value = λ env. g.value env ∙ h.value env }

keeps_one : (op : OneOp) (w k : ℕ) (x x' : Tree) → WellFormed (one op w k x) → Keeps x x' → Keeps (one op w k x) (one op w k x')
keeps_one op w k x x' g h = record {
  well_formed = (g.0, subst (OneFits op w k) (sym h.width) g.1, h.well_formed);
  width = refl;
  value = λ env. ap (λ m. one_value op w k m (value env x')) h.width ∙ ap (one_value op w k (width_of x)) (h.value env);
}

keeps_two : (op : TwoOp) (w : ℕ) (x x' y y' : Tree) → WellFormed (two op w x y) → Keeps x x' → Keeps y y' → Keeps (two op w x y) (two op w x' y')
keeps_two op w x x' y y' g h i = record {
  well_formed = (g.0, subst (λ m. TwoFits op w m (width_of y')) (sym h.width) (subst (TwoFits op w (width_of x)) (sym i.width) g.1), h.well_formed, i.well_formed);
  width = refl;
  value = λ env. ap (λ m. two_value op w m (value env x') (value env y')) i.width ∙ ap (λ v. two_value op w (width_of y) v (value env y')) (h.value env) ∙ ap (two_value op w (width_of y) (value env x)) (i.value env);
}

keeps_sel : (w : ℕ) (c c' x x' y y' : Tree) → WellFormed (sel w c x y) → Keeps c c' → Keeps x x' → Keeps y y' → Keeps (sel w c x y) (sel w c' x' y')
keeps_sel w c c' x x' y y' g j h i = record {
  well_formed = (g.0, (j.width ∙ g.1.0, h.width ∙ g.1.1, i.width ∙ g.1.2), j.well_formed, h.well_formed, i.well_formed);
  width = refl;
  value = λ env. rw (j.value env, h.value env, i.value env) refl;
}

-- f makes terms of lesser measure than t canonical
abbrev pub SettlesBelow : (Tree → Tree) → Tree → Type 0
SettlesBelow f t = (s : Tree) → WellFormed s → measure s < measure t → Settled s (f s)

pub rebuilt : (f : Tree → Tree) (t : Tree) → WellFormed t → SettlesBelow f t → Rebuilt t (over_children f t)
rebuilt f (leaf w k) g below = record { keeps = keeps-same (leaf w k) g; settles = inl (inl refl); children = tt }
rebuilt f (constant w v) g below = record { keeps = keeps-same (constant w v) g; settles = inl (inl refl); children = tt }
rebuilt f (one op w k x) g below =
    let s = below x g.2 (measure-falls (one op w k x) x (falls_to_child op w k x g.0.0)) in
    record { keeps = keeps_one op w k x (f x) g s.keeps; settles = inl (settles_one op w k x (f x) s.settles); children = s.is_canonical }
rebuilt f (two op w x y) g below =
    let s = below x g.2 (measure-falls (two op w x y) x (falls_to_first op w x y)) in
    let r = below y g.3 (measure-falls (two op w x y) y (falls_to_second op w x y)) in
    record {
      keeps = keeps_two op w x (f x) y (f y) g s.keeps r.keeps;
      settles = settles_two op w x (f x) y (f y) s.keeps.width s.settles r.settles;
      children = (s.is_canonical, r.is_canonical);
    }
rebuilt f (sel w c x y) g below =
    let q = below c g.2 (measure-falls (sel w c x y) c (falls_to_condition w c x y)) in
    let s = below x g.3 (measure-falls (sel w c x y) x (falls_to_then w c x y)) in
    let r = below y g.4 (measure-falls (sel w c x y) y (falls_to_else w c x y)) in
    record {
      keeps = keeps_sel w c (f c) x (f x) y (f y) g q.keeps s.keeps r.keeps;
      settles = inl (settles_sel w c (f c) x (f x) y (f y) q.settles s.settles r.settles);
      children = (q.is_canonical, s.is_canonical, r.is_canonical);
    }

-- two functions that are alike below t make the same of its children
pub children-same : (f h : Tree → Tree) (t : Tree) → WellFormed t → ((s : Tree) → WellFormed s → measure s < measure t → f s ≡ h s) → over_children f t ≡ over_children h t
children-same f h (leaf w k) g e = refl
children-same f h (constant w v) g e = refl
children-same f h (one op w k x) g e = ap (one op w k) (e x g.2 (measure-falls (one op w k x) x (falls_to_child op w k x g.0.0)))
children-same f h (two op w x y) g e =
    ap (λ s. two op w s (f y)) (e x g.2 (measure-falls (two op w x y) x (falls_to_first op w x y))) ∙ ap (two op w (h x)) (e y g.3 (measure-falls (two op w x y) y (falls_to_second op w x y)))
children-same f h (sel w c x y) g e =
    ap (λ s. sel w s (f x) (f y)) (e c g.2 (measure-falls (sel w c x y) c (falls_to_condition w c x y))) ∙ ap (λ s. sel w (h c) s (f y)) (e x g.3 (measure-falls (sel w c x y) x (falls_to_then w c x y))) ∙ ap (sel w (h c) (h x)) (e y g.4 (measure-falls (sel w c x y) y (falls_to_else w c x y)))
