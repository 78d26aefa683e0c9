-- Whole terms stay in a pool that grows.
use Rattle.std.proofs.Common.{◌≡◌, ℕ, ◌+◌, ◌<◌, Bool, true, false, List, [], ◌∷◌, ◌++◌, length, map, take, get_or, Option, Some, None, inl, inr, refl, sym, ap, subst, ◌∙◌, arith}
use Rattle.std.specs.Prelude.{◌&&◌, ◌||◌, if◌then◌else◌, nat_eq, slice_get}
use Rattle.std.specs.List.{AllByRecursion}
use Rattle.std.proofs.lemmas.Bool.{cases_Bool, cond-true, cond-false, eqb-true}
use Rattle.std.proofs.lemmas.List.{take_more}
use Rattle.vg_terms.specs.declared.term.LeafKey.{LeafKey}
use Rattle.vg_terms.specs.Order.{is_same_term}
use Rattle.vg_terms.specs.Term.{Tree, leaf, constant, one, two, sel, width_of}
use Rattle.vg_terms.proofs.Orders.{same_term, same_term-means}
use Rattle.vg_sums.specs.Same.{have_same_sum}
use Rattle.vg_canon.specs.Canonical.{canonical}
use Rattle.vg_pool.specs.declared.content.Content.{Content}
use Rattle.vg_pool.specs.Pool.{IsPool, Keeps, StandsFor, tree_at}
use Rattle.vg_known.specs.WiderDifference.{equal_forms, equal_wholes, is_class, is_small, small_whole, whole, whole_leaf, whole_or, wholes_behind, wholes_of}
use Rattle.vg_forms.specs.declared.wholes.Whole.{Whole}
use Rattle.vg_forms.specs.Wholes.{AreWholes, trees_in}

pub trees-kept : (p q : List Content) (ws : List Whole) → Keeps p q → AreWholes p ws → trees_in q ws ≡ trees_in p ws
trees-kept p q [] keeps are = refl
trees-kept p q (w ∷ ws) keeps are = (λ i. keeps.trees w.node are.0.0 i ∷ trees-kept p q ws keeps are.1 i)

pub wholes-kept : (p q : List Content) (ws : List Whole) → Keeps p q → AreWholes p ws → AreWholes q ws
wholes-kept p q [] keeps are = tt
wholes-kept p q (w ∷ ws) keeps are = (
  (
    let long = keeps.nodes in let inside = are.0.0 in omega arith,
    ap width_of (keeps.trees w.node are.0.0)
        ∙ are.0.1,
  ),
  wholes-kept p q ws keeps are.1,
)

-- a node that was made in an older pool
pub node-kept : (p q : List Content) (n : ℕ) (t : Tree) → Keeps p q → StandsFor p n t → tree_at q n ≡ t
node-kept p q n t keeps stands = keeps.trees n stands.within ∙ stands.is

-- by wholes of an older pool
pub later : (p q r : List Content) (ws : List Whole) (n : ℕ) (t : Tree) → AreWholes p ws → Keeps p q
    → StandsFor r n (whole (trees_in q ws) t) → tree_at r n ≡ whole (trees_in p ws) t
later p q r ws n t are keeps stands = stands.is ∙ ap (λ l. whole l t) (trees-kept p q ws keeps are)

pub keeps-twice : (p q r : List Content) → Keeps p q → Keeps q r → Keeps p r
keeps-twice p q r f g = record {
  nodes = (let a = f.nodes in let b = g.nodes in omega arith);
  trees = λ n h. g.trees n (let a = f.nodes in omega arith) ∙ f.trees n h;
}

-- ---- widths

whole_or-width : (t : Tree) (o : Option Tree) → width_of (whole_or t o) ≡ width_of t
whole_or-width t None = refl
whole_or-width t (Some u) = elim (cases_Bool (nat_eq (width_of u) (width_of t))) [
  | inl e ↦ ap width_of (cond-true _ _ _ e) ∙ eqb-true (width_of u) (width_of t) e
  | inr f ↦ ap width_of (cond-false _ _ _ f)
]

pub whole-width : (wholes : List Tree) (t : Tree) → width_of (whole wholes t) ≡ width_of t
whole-width wholes (leaf w k) = elim (cases_Bool (is_class k)) [
  | inl e ↦ ap width_of (cond-true _ _ _ e) ∙ whole_or-width (leaf w k) (slice_get wholes k.first)
  | inr f ↦ ap width_of (cond-false _ _ _ f)
]
whole-width wholes (constant w v) = refl
whole-width wholes (one op w k x) = refl
whole-width wholes (two op w x y) = refl
whole-width wholes (sel w c x y) = refl

pub at-width : (p : List Content) (n : ℕ) (wholes : List Tree) (t : Tree) → tree_at p n ≡ whole wholes t
    → width_of (tree_at p n) ≡ width_of t
at-width p n wholes t is = ap width_of is ∙ whole-width wholes t

-- ---- terms that count as equal

pub same-nodes : (t u : Tree) → t ≡ u → true ≡ equal_forms t u
same-nodes t u e = ap (λ b. b ||
    (is_small t && is_small u && (is_same_term (canonical t) (canonical u) || have_same_sum t u)))
    (sym ((same_term-means t u).1 e))

-- other nodes have other terms
pub other-nodes : (p : List Content) (x y : ℕ) → IsPool p → x < length p → y < length p → (x ≡ y → ⊥)
    → is_same_term (tree_at p x) (tree_at p y) ≡ false
other-nodes p x y is inside there other = elim (cases_Bool (is_same_term (tree_at p x) (tree_at p y))) [
  | inl t ↦ absurd (other (is.one_node x y inside there (same_term (tree_at p x) (tree_at p y) t)))
  | inr f ↦ f
]

pub by-forms : (t u : Tree) → is_same_term t u ≡ false
    → equal_forms t u ≡ (is_small t && is_small u && (is_same_term (canonical t) (canonical u) || have_same_sum t u))
by-forms t u f = ap (λ b. b || (is_small t && is_small u &&
    (is_same_term (canonical t) (canonical u) || have_same_sum t u))) f

pub not-small : (t u : Tree) (b : Bool) → is_same_term t u ≡ false → b ≡ (is_small t && is_small u) → b ≡ false
    → false ≡ equal_forms t u
not-small t u b apart is none =
    sym (by-forms t u apart ∙ ap (λ x. x && (is_same_term (canonical t) (canonical u) || have_same_sum t u))
    (sym is ∙ none))

pub both-small : (t u : Tree) (b : Bool) → is_same_term t u ≡ false → b ≡ (is_small t && is_small u) → b ≡ true →
    (is_same_term (canonical t) (canonical u) || have_same_sum t u) ≡ equal_forms t u
both-small t u b apart is some =
    sym (by-forms t u apart ∙ ap (λ x. x && (is_same_term (canonical t) (canonical u) || have_same_sum t u))
    (sym is ∙ some))

pub trees-push : (p : List Content) (ws : List Whole) (w : Whole) → trees_in p (ws ++ w ∷ []) ≡ trees_in p ws ++
    tree_at p w.node ∷ []
trees-push p [] w = refl
trees-push p (x ∷ ws) w = ap (λ l. tree_at p x.node ∷ l) (trees-push p ws w)

pub wholes-push : (p : List Content) (ws : List Whole) (w : Whole) → AreWholes p ws → w.node < length p
    → width_of (tree_at p w.node) ≡ w.width → AreWholes p (ws ++ w ∷ [])
wholes-push p [] w are inside wide = ((inside, wide), tt)
wholes-push p (x ∷ ws) w are inside wide = (are.0, wholes-push p ws w are.1 inside wide)

pub small_whole-width : (wholes : List Tree) (t : Tree) → width_of (small_whole wholes t) ≡ width_of t
small_whole-width wholes t = elim (cases_Bool (is_small (whole wholes t))) [
  | inl e ↦ ap width_of (cond-true _ _ _ e) ∙ whole-width wholes t
  | inr f ↦ ap width_of (cond-false _ _ _ f)
]

-- a term more, by a grown pool
pub pushed : (p q : List Content) (ws : List Whole) (w : Whole) (t : Tree) → AreWholes p ws → Keeps p q
    → StandsFor q w.node (small_whole (trees_in p ws) t) →
    trees_in q (ws ++ w ∷ []) ≡ trees_in p ws ++ small_whole (trees_in p ws) t ∷ []
pushed p q ws w t are keeps stands = trees-push q ws w ∙ (λ i. trees-kept p q ws keeps are i ++ stands.is i ∷ [])

pub pushed-are : (p q : List Content) (ws : List Whole) (w : Whole) (t : Tree) → AreWholes p ws → Keeps p q
    → StandsFor q w.node (small_whole (trees_in p ws) t) → w.width ≡ width_of t →
    AreWholes q (ws ++ w ∷ [])
pushed-are p q ws w t are keeps stands wide =
    wholes-push q ws w (wholes-kept p q ws keeps are) stands.within
    (ap width_of stands.is ∙ small_whole-width (trees_in p ws) t ∙ sym wide)

-- two terms by their nodes
pub by-nodes : (p q r : List Content) (ws : List Whole) (x y : ℕ) (t u : Tree) → AreWholes p ws → Keeps p q → Keeps q r
    → StandsFor q x (small_whole (trees_in p ws) t) →
    StandsFor r y (small_whole (trees_in q ws) u) → equal_forms (tree_at r x) (tree_at r y) ≡ equal_wholes
    (trees_in p ws) t u
by-nodes p q r ws x y t u are first second left right =
    (λ i. equal_forms ((second.trees x left.within ∙ left.is) i)
    ((right.is ∙ ap (λ l. small_whole l u) (trees-kept p q ws first are)) i))

-- ---- one class more

behind-push : (wholes ts : List Tree) (t : Tree) → wholes_behind wholes (ts ++ t ∷ []) ≡ wholes_behind wholes ts ++
    small_whole (wholes_behind wholes ts) t ∷ []
behind-push wholes [] t = refl
behind-push wholes (x ∷ ts) t = behind-push (wholes ++ small_whole wholes x ∷ []) ts t

pub wholes-turn : (ts old new : List Tree) (i : ℕ) (d : Tree) → i < length ts → old ≡ wholes_of (take i ts)
    → new ≡ old ++ small_whole old (get_or ts i d) ∷ [] → new ≡ wholes_of (take (i + 1) ts)
wholes-turn ts old new i d inside before grown =
    grown ∙ ap (λ l. l ++ small_whole l (get_or ts i d) ∷ []) before ∙ sym (behind-push [] (take i ts) (get_or ts i d))
    ∙ ap wholes_of (sym (take_more ts i d inside))
