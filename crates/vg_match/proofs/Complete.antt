-- Where the leaves of the term of a lane can be replaced, it fits.
use Rattle.std.proofs.Common.{◌≡◌, ℕ, ◌⊎◌, false, List, [], ◌∷◌, ◌++◌, Some, refl, sym, ap, ◌∙◌, inl, inr}
use Rattle.std.specs.Prelude.{◌&&◌, nat_eq}
use Rattle.std.specs.Option.{option_and_then}
use Rattle.std.proofs.lemmas.Bool.{cases_Bool, and_from, eq-eqb, cond-true}
use Rattle.vg_terms.specs.declared.term.LeafKey.{LeafKey}
use Rattle.vg_terms.specs.declared.term.OneOp.{OneOp}
use Rattle.vg_terms.specs.declared.term.TwoOp.{TwoOp}
use Rattle.vg_terms.specs.Order.{is_same_term, one_tag, two_tag}
use Rattle.vg_terms.specs.Term.{Tree, leaf, constant, one, two, sel, width_of}
use Rattle.vg_terms.proofs.Orders.{same_term-means}
use Rattle.vg_shapes.specs.declared.match_table.Bound.{Bound}
use Rattle.vg_shapes.specs.declared.wanted.Wanted.TheVariants.{Nothing}
use Rattle.vg_shapes.specs.Fits.{EachLeaf, replaced, wanted_for}
use Rattle.vg_shapes.specs.Wanted.{same_wanted}
use Rattle.vg_shapes.proofs.SameWanted.{wanted-itself}
use Rattle.vg_match.specs.Fit.{bind, fit, standing}
use Rattle.vg_match.proofs.Binding.{behind, bind-again, bind-new, entry}

module _ (terms : List Tree) (v : ℕ) (by : ℕ → LeafKey → Tree) where
  -- each leaf that is bound is bound to what stands for its term
  abbrev pub Agrees : List Bound → Type 0
  Agrees bound = (w : ℕ) (k : LeafKey) → (wanted_for bound w k ≡ Nothing) ⊎ (wanted_for bound w k ≡ standing terms v (by w k))

  -- something stands for the term of a leaf, which has its width
  abbrev pub MayStand : ℕ → LeafKey → Type 0
  MayStand w k = (width_of (by w k) ≡ w) × (same_wanted (standing terms v (by w k)) Nothing ≡ false)

  pub record FitsFrom (p : Tree) (bound : List Bound) : Type 0 where
    pub after : List Bound
    pub is : fit terms v p (replaced by p) bound ≡ Some after
    pub agrees : Agrees after

  fit-leaf : (w : ℕ) (k : LeafKey) (t : Tree) (bound : List Bound) → width_of t ≡ w → fit terms v (leaf w k) t bound ≡ bind w k (standing terms v t) bound
  unfolding fit
  fit-leaf w k t bound e = cond-true (nat_eq (width_of t) w) _ _ (eq-eqb (width_of t) w e)

  fit-constant : (w n : ℕ) (bound : List Bound) → fit terms v (constant w n) (constant w n) bound ≡ Some bound
  unfolding fit
  fit-constant w n bound = cond-true (is_same_term (constant w n) (constant w n)) _ _ ((same_term-means (constant w n) (constant w n)).1 refl)

  fit-one : (op : OneOp) (w k : ℕ) (x y : Tree) (bound : List Bound) → fit terms v (one op w k x) (one op w k y) bound ≡ fit terms v x y bound
  unfolding fit
  fit-one op w k x y bound =
      cond-true (nat_eq (one_tag op) (one_tag op) && (nat_eq w w && nat_eq k k)) _ _
      (and_from _ _ (eq-eqb (one_tag op) (one_tag op) refl) (and_from _ _ (eq-eqb w w refl) (eq-eqb k k refl)))

  fit-two : (op : TwoOp) (w : ℕ) (a b c d : Tree) (bound : List Bound) → fit terms v (two op w a b) (two op w c d) bound ≡ option_and_then (fit terms v b d) (fit terms v a c bound)
  unfolding fit
  fit-two op w a b c d bound =
      cond-true (nat_eq (two_tag op) (two_tag op) && nat_eq w w) _ _ (and_from _ _ (eq-eqb (two_tag op) (two_tag op) refl) (eq-eqb w w refl))

  fit-sel : (w : ℕ) (p a b q c d : Tree) (bound : List Bound) → fit terms v (sel w p a b) (sel w q c d) bound ≡ option_and_then (λ more. option_and_then (fit terms v b d) (fit terms v a c more)) (fit terms v p q bound)
  unfolding fit
  fit-sel w p a b q c d bound = cond-true (nat_eq w w) _ _ (eq-eqb w w refl)

  leaf-fits : (w : ℕ) (k : LeafKey) (bound : List Bound) → Agrees bound → MayStand w k → FitsFrom (leaf w k) bound
  leaf-fits w k bound a m =
      let x = standing terms v (by w k) in
      let start = fit-leaf w k (by w k) bound m.0 in
      elim (cases_Bool (same_wanted (wanted_for bound w k) Nothing)) [
        | inl t ↦ record {
          after = bound ++ entry w k x ∷ [];
          is = start ∙ bind-new w k x bound m.1 t;
          agrees = λ u l. elim (behind bound (entry w k x) u l) [
            | inl h ↦ elim (a u l) [ inl n ↦ inl (h ∙ n) | inr s ↦ inr (h ∙ s) ]
            | inr h ↦ inr (h.2 ∙ (λ i. standing terms v (by (sym h.0 i) (sym h.1 i))))
          ];
        }
        | inr f ↦ record {
          after = bound;
          is = start ∙ bind-again w k x bound m.1 f (elim (a w k) [
            | inl n ↦ absurd (let h : same_wanted Nothing Nothing ≡ false = sym (ap (λ y. same_wanted y Nothing) n) ∙ f in cc)
            | inr s ↦ ap (λ y. same_wanted y x) s ∙ wanted-itself x
          ]);
          agrees = a;
        }
      ]

  pub fits : (p : Tree) (bound : List Bound) → Agrees bound → EachLeaf MayStand p → FitsFrom p bound
  fits (leaf w k) bound a m = leaf-fits w k bound a m
  fits (constant w n) bound a m = record { after = bound; is = fit-constant w n bound; agrees = a }
  fits (one op w k x) bound a m =
      let f = fits x bound a m in
      record { after = f.after; is = fit-one op w k x (replaced by x) bound ∙ f.is; agrees = f.agrees }
  fits (two op w x y) bound a m =
      let f = fits x bound a m.0 in
      let g = fits y f.after f.agrees m.1 in
      record {
        after = g.after;
        is = fit-two op w x y (replaced by x) (replaced by y) bound ∙ ap (option_and_then (fit terms v y (replaced by y))) f.is ∙ g.is;
        agrees = g.agrees;
      }
  fits (sel w c x y) bound a m =
      let e = fits c bound a m.0 in
      let f = fits x e.after e.agrees m.1 in
      let g = fits y f.after f.agrees m.2 in
      record {
        after = g.after;
        is = fit-sel w c x y (replaced by c) (replaced by x) (replaced by y) bound
            ∙ ap (option_and_then (λ more. option_and_then (fit terms v y (replaced by y)) (fit terms v x (replaced by x) more))) e.is
            ∙ ap (option_and_then (fit terms v y (replaced by y))) f.is ∙ g.is;
        agrees = g.agrees;
      }
