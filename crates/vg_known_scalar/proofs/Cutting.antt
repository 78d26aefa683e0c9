-- A term that was met is cut the same by every longer table; all bits of a leaf gather to the leaf.
use Rattle.std.proofs.Common.{◌≡◌, ℕ, zero, suc, ◌+◌, ◌<◌, ◌⊎◌, Bool, true, false, cond, List, [], ◌∷◌, ◌++◌, length, Some, refl, sym, ap, ◌∙◌, inl, inr, arith}
use Rattle.std.specs.Prelude.{nat_lt, not, position, ◌||◌, ◌&&◌}
use Rattle.std.specs.List.{list_any, position_or_len}
use Rattle.std.proofs.lemmas.Bool.{cases_Bool, cond-true, cond-false, eq-eqb, lt-ltb}
use Rattle.vg_scalar.specs.declared.two_op.TwoOp.{TwoOp}
use Rattle.vg_scalar.specs.declared.shift.Shift.{Shift}
use Rattle.vg_scalar.specs.declared.resize.Resize.{Resize}
use Rattle.vg_scalar.specs.declared.comparison.Comparison.{Comparison}
use Rattle.vg_base.specs.declared.width.Width.{Width}
use Rattle.vg_terms.specs.declared.term.LeafKey.{LeafKey}
use Rattle.vg_terms.specs.Order.{is_same_term}
use Rattle.vg_terms.specs.Resize.{low}
use Rattle.vg_terms.specs.Term.{Tree, leaf, sel, IsWidth, width_of}
use Rattle.vg_terms.proofs.Orders.{same_term-means}
use Rattle.vg_canon.specs.Canonical.{canonical, canonical_within}
use Rattle.vg_canon.proofs.Forms.{root-none}
use Rattle.vg_canon.proofs.Steps.{leaf-finished}
use Rattle.vg_shapes.specs.declared.ssa_unit.Operator.TheVariants as operator
use Rattle.vg_ssa.specs.ValueTerm.{comparison_term, no_term, resize_term, shift_term, two_term}
use Rattle.vg_lift.specs.Gather.{bits_from, continues, gather, gather_from, of_term, terms}
use Rattle.vg_known.specs.Cuts.{built, computed, cut, cut_bits, gathered, is_atom, leaf_for, met_with, small_or}
use Rattle.vg_known.proofs.Walk.{Grows}

-- ---- terms that were met

abbrev pub IsMet : List Tree → Tree → Type 0
IsMet met t = list_any (is_same_term t) met ≡ true

pub term-itself : (t : Tree) → is_same_term t t ≡ true
term-itself t = (same_term-means t t).1 refl

any-more : {A : Type 0} (p : A → Bool) (xs ys : List A) → list_any p xs ≡ true → list_any p (xs ++ ys) ≡ true
any-more p [] ys h = absurd (cc)
any-more p (x ∷ xs) ys h = elim (cases_Bool (p x)) [
  | inl t ↦ ap (λ b. b || list_any p (xs ++ ys)) t
  | inr f ↦ ap (λ b. b || list_any p (xs ++ ys)) f ∙ any-more p xs ys (sym (ap (λ b. b || list_any p xs) f) ∙ h)
]

any-last : {A : Type 0} (p : A → Bool) (xs : List A) (x : A) → p x ≡ true → list_any p (xs ++ x ∷ []) ≡ true
any-last p [] x h = ap (λ b. b || false) h
any-last p (y ∷ xs) x h = elim (cases_Bool (p y)) [
  | inl t ↦ ap (λ b. b || list_any p (xs ++ x ∷ [])) t
  | inr f ↦ ap (λ b. b || list_any p (xs ++ x ∷ [])) f ∙ any-last p xs x h
]

pub met-more : (met all : List Tree) (t : Tree) → Grows met all → IsMet met t → IsMet all t
met-more met all t grows h = ap (list_any (is_same_term t)) grows.1 ∙ any-more (is_same_term t) met grows.0 h

pub met-itself : (met : List Tree) (t : Tree) → IsMet (met_with met t) t
met-itself met t = elim (cases_Bool (list_any (is_same_term t) met)) [
  | inl y ↦ ap (list_any (is_same_term t)) (cond-true _ _ _ y) ∙ y
  | inr n ↦ ap (list_any (is_same_term t)) (cond-false _ _ _ n) ∙ any-last (is_same_term t) met t (term-itself t)
]

-- one that was met is not met once more
pub met-stays : (met : List Tree) (t : Tree) → IsMet met t → met_with met t ≡ met
met-stays met t h = cond-true _ _ _ h

-- ---- cut terms

place-same : {A : Type 0} (p : A → Bool) (xs ys : List A) → list_any p xs ≡ true → position_or_len p (xs ++ ys) ≡ position_or_len p xs
place-same p [] ys h = absurd (cc)
place-same p (x ∷ xs) ys h = elim (cases_Bool (p x)) [
  | inl t ↦ ap (λ b. cond (not b) (1 + position_or_len p (xs ++ ys)) 0) t ∙ sym (ap (λ b. cond (not b) (1 + position_or_len p xs) 0) t)
  | inr f ↦
      ap (λ b. cond (not b) (1 + position_or_len p (xs ++ ys)) 0) f
      ∙ ap (λ n. 1 + n) (place-same p xs ys (sym (ap (λ b. b || list_any p xs) f) ∙ h))
      ∙ sym (ap (λ b. cond (not b) (1 + position_or_len p xs) 0) f)
]

place-inside : {A : Type 0} (p : A → Bool) (xs : List A) → list_any p xs ≡ true → position_or_len p xs < length xs
place-inside p [] h = absurd (cc)
place-inside p (x ∷ xs) h = elim (cases_Bool (p x)) [
  | inl t ↦ (let at : position_or_len p (x ∷ xs) ≡ 0 = ap (λ b. cond (not b) (1 + position_or_len p xs) 0) t in omega arith)
  | inr f ↦
      let rest = place-inside p xs (sym (ap (λ b. b || list_any p xs) f) ∙ h) in
      (let at : position_or_len p (x ∷ xs) ≡ 1 + position_or_len p xs = ap (λ b. cond (not b) (1 + position_or_len p xs) 0) f in omega arith)
]

found-at : {A : Type 0} (p : A → Bool) (xs : List A) → list_any p xs ≡ true → position p xs ≡ Some (position_or_len p xs)
found-at p xs h = (let some : nat_lt (position_or_len p xs) (length xs) ≡ true = lt-ltb _ _ (place-inside p xs h) in cond-true _ _ _ some)

position-same : {A : Type 0} (p : A → Bool) (xs ys : List A) → list_any p xs ≡ true → position p (xs ++ ys) ≡ position p xs
position-same p xs ys h = found-at p (xs ++ ys) (any-more p xs ys h) ∙ ap Some (place-same p xs ys h) ∙ sym (found-at p xs h)

-- a leaf or a constant, or a term that was met
abbrev pub HasClass : List Tree → Tree → Type 0
HasClass met t = (is_atom t ≡ true) ⊎ IsMet met t

pub cut-stays : (met all : List Tree) (t : Tree) → Grows met all → HasClass met t → cut met t ≡ cut all t
cut-stays met all t grows (inl atom) = cond-true _ _ _ atom ∙ sym (cond-true _ _ _ atom)
cut-stays met all t grows (inr h) = elim (cases_Bool (is_atom t)) [
  | inl y ↦ cond-true _ _ _ y ∙ sym (cond-true _ _ _ y)
  | inr n ↦
      cond-false _ _ _ n ∙ ap (leaf_for t) (sym (ap (position (is_same_term t)) grows.1 ∙ position-same (is_same_term t) met grows.0 h))
      ∙ sym (cond-false _ _ _ n)
]

-- ---- operations

pub two-stays : (met all : List Tree) (op : TwoOp) (w k : ℕ) (x y z : Tree) → cut met x ≡ cut all x → cut met y ≡ cut all y → computed met (operator.Two op) w k x y z ≡ computed all (operator.Two op) w 0 x y no_term
two-stays met all op w k x y z ex ey = (λ i. built (two_term op w x y) (two_term op w (ex i) (ey i)))

pub shift-stays : (met all : List Tree) (op : Shift) (w k : ℕ) (x y z : Tree) → cut met x ≡ cut all x → computed met (operator.Shift op) w k x y z ≡ computed all (operator.Shift op) w k x no_term no_term
shift-stays met all op w k x y z ex = (λ i. built (shift_term op w k x) (shift_term op w k (ex i)))

pub resize-stays : (met all : List Tree) (op : Resize) (v : Width) (w k : ℕ) (x y z : Tree) → cut met x ≡ cut all x → computed met (operator.Resize op v) w k x y z ≡ computed all (operator.Resize op v) w 0 x no_term no_term
resize-stays met all op v w k x y z ex = (λ i. built (resize_term op w x) (resize_term op w (ex i)))

pub compare-stays : (met all : List Tree) (op : Comparison) (w k : ℕ) (x y z : Tree) → cut met x ≡ cut all x → cut met y ≡ cut all y → computed met (operator.Compare op) w k x y z ≡ computed all (operator.Compare op) w 0 x y no_term
compare-stays met all op w k x y z ex ey = (λ i. built (comparison_term op x y) (comparison_term op (ex i) (ey i)))

pub select-stays : (met all : List Tree) (w k : ℕ) (x y z : Tree) → cut met x ≡ cut all x → cut met y ≡ cut all y → cut met z ≡ cut all z → computed met operator.Select w k x y z ≡ computed all operator.Select w 0 x y z
select-stays met all w k x y z ex ey ez = (λ i. built (sel w x y z) (sel w (ex i) (ey i) (ez i)))

-- ---- leaves

within-leaf : (n w : ℕ) (key : LeafKey) → IsWidth w → canonical_within (suc n) (leaf w key) ≡ leaf w key
unfolding canonical_within
within-leaf n w key wide = root-none (canonical_within n) (leaf w key) (leaf-finished w key wide)

leaf-canonical : (w : ℕ) (key : LeafKey) → IsWidth w → canonical (leaf w key) ≡ leaf w key
unfolding canonical
leaf-canonical w key wide = within-leaf _ w key wide

-- bits of one term that follow each other are one run
run-on : (t : Tree) (k m : ℕ) → gather_from (terms t 0 k) (bits_from t k m) ≡ low (k + m) t
run-on t k zero = ap (λ n. low n t) (let e : k ≡ k + 0 = omega arith in e)
run-on t k (suc m) =
    let goes : continues (terms t 0 k) (of_term t k) ≡ true = (λ i. term-itself t i && eq-eqb k (0 + k) (let e : k ≡ 0 + k = omega arith in e) i) in
    cond-true _ _ _ goes ∙ run-on t (suc k) m ∙ ap (λ n. low n t) (let e : suc k + m ≡ k + suc m = omega arith in e)

gather-all : (t : Tree) (n : ℕ) → 0 < n → width_of t ≡ n → gather (bits_from t 0 n) ≡ t
gather-all t zero some wide = absurd (omega arith)
gather-all t (suc m) some wide =
    run-on t 1 m ∙ ap (λ n. low n t) (let e : 1 + m ≡ suc m = omega arith in e) ∙ cond-true _ _ _ (eq-eqb (width_of t) (suc m) wide)

pub gathered-leaf : (met : List Tree) (w : ℕ) (key : LeafKey) → IsWidth w → gathered met (bits_from (leaf w key) 0 w) ≡ leaf w key
gathered-leaf met w key wide =
    let parts = gather (cut_bits met (bits_from (leaf w key) 0 w)) in
    ap (λ t. built t parts) (gather-all (leaf w key) w wide.0 refl)
    ∙ ap (λ t. small_or t (canonical parts)) (leaf-canonical w key wide)
