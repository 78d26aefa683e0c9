-- The values of terms that are made of known ones, cut or not.
use Rattle.std.proofs.Common.{◌≡◌, ℕ, ◌/◌, ◌%◌, ◌^◌, ◌<◌, ◌≤◌, List, [], ◌∷◌, length, map, get_or, Option, Some, None, refl, sym, ap, subst, ◌∙◌, inl, inr, arith}
use Rattle.std.specs.Prelude.{nat_le, position}
use Rattle.std.proofs.lemmas.Bool.{cases_Bool, cond-true, cond-false}
use Rattle.std.proofs.lemmas.List.{length-map}
use Rattle.std.proofs.lemmas.List.Quantifiers.{position-Some}
use Rattle.vg_base.specs.Bits.{num}
use Rattle.vg_base.specs.declared.width.Width.{Width}
use Rattle.vg_base.specs.Width.{bits_of}
use Rattle.vg_terms.specs.declared.value.Env.{Env}
use Rattle.vg_terms.specs.Order.{is_same_term}
use Rattle.vg_terms.specs.Term.{Tree, leaf, constant, one, two, sel, IsWidth, node_count, width_of, WellFormed}
use Rattle.vg_terms.specs.Value.{value}
use Rattle.vg_terms.proofs.Orders.{same_term}
use Rattle.vg_canon.specs.Canonical.{canonical}
use Rattle.vg_canon.proofs.Forms.{canonical-settled}
use Rattle.vg_shapes.specs.declared.ssa_unit.Operator.{Operator}
use Rattle.vg_shapes.specs.declared.ssa_unit.Operator.TheVariants as operator
use Rattle.vg_shapes.specs.Registers.{Reads}
use Rattle.vg_shapes.specs.RunUnits.{operation_result}
use Rattle.vg_shapes.specs.Sound.{cut_key, result_bits}
use Rattle.vg_ssa.specs.Fitting.{IsTermOf, OperandsFit}
use Rattle.vg_ssa.specs.ValueTerm.{no_term, operation_term}
use Rattle.vg_ssa.proofs.OperationTerms.{canonical-term, operation-formed, operation-means}
use Rattle.vg_ssa.proofs.Terms.{leaf-term}
use Rattle.vg_lift.specs.Gather.{Bit, clear, input, of_term, gather}
use Rattle.vg_lift.proofs.Gathering.{gather-formed, gather-value, gather-width}
use Rattle.vg_lift.proofs.Stands.{BitFormed, BitsFormed, bit_value}
use Rattle.vg_known.specs.Classes.{ClassesMean}
use Rattle.vg_known.specs.Cuts.{built, computed, cut, cut_bit, cut_bits, gathered, is_atom, leaf_for, small_or}

-- the bits that bits of terms have in an environment
abbrev pub image : Env → List Bit → List ℕ
image env bs = map (bit_value env []) bs

-- what is known of a term: it is canonical, of this width, and has this number
pub record Means (env : Env) (w n : ℕ) (t : Tree) : Type 0 where
  pub is : IsTermOf w t
  pub means : value env t ≡ n

-- before it is canonical
pub record Made (env : Env) (w n : ℕ) (t : Tree) : Type 0 where
  pub formed : WellFormed t
  pub wide : width_of t ≡ w
  pub means : value env t ≡ n

-- ---- canonical forms

canonical-means : (env : Env) (w n : ℕ) (t : Tree) → Made env w n t → Means env w n (canonical t)
canonical-means env w n t h =
    let s = canonical-settled t h.formed in
    record {
      is = record { well_formed = s.keeps.well_formed; width = s.keeps.width ∙ h.wide; is_canonical = s.is_canonical };
      means = s.keeps.value env ∙ h.means;
    }

small_or-means : (env : Env) (w n : ℕ) (t u : Tree) → Means env w n t → Means env w n u → Means env w n (small_or t u)
small_or-means env w n t u h g = elim (cases_Bool (nat_le (node_count t) 128)) [
  | inl y ↦ subst (Means env w n) (sym (cond-true _ _ _ y)) h
  | inr f ↦ subst (Means env w n) (sym (cond-false _ _ _ f)) g
]

pub built-means : (env : Env) (w n : ℕ) (t u : Tree) → Made env w n t → Made env w n u → Means env w n (built t u)
built-means env w n t u h g = elim (cases_Bool (nat_le (node_count t) 4096)) [
  | inl y ↦ subst (Means env w n) (sym (cond-true _ _ _ y)) (small_or-means env w n (canonical t) (canonical u) (canonical-means env w n t h) (canonical-means env w n u g))
  | inr f ↦ subst (Means env w n) (sym (cond-false _ _ _ f)) (canonical-means env w n u g)
]

-- ---- cut terms

-- a term and what stands for it
pub record Cut (env : Env) (t u : Tree) : Type 0 where
  pub formed : WellFormed u
  pub wide : width_of u ≡ width_of t
  pub means : value env u ≡ value env t

term-width : (t : Tree) → WellFormed t → IsWidth (width_of t)
term-width (leaf w k) h = h
term-width (constant w v) h = h.0
term-width (one op w k x) h = h.0
term-width (two op w x y) h = h.0
term-width (sel w c x y) h = h.0

leaf_for-cut : (env : Env) (met : List Tree) (t : Tree) (o : Option ℕ) → ClassesMean env met → WellFormed t → position (is_same_term t) met ≡ o → Cut env t (leaf_for t o)
leaf_for-cut env met t None classes formed e = record { formed = formed; wide = refl; means = refl }
leaf_for-cut env met t (Some c) classes formed e =
    let found = position-Some (is_same_term t) met c no_term e in
    let same : t ≡ get_or met c no_term = same_term t (get_or met c no_term) found.1 in
    record {
      formed = term-width t formed;
      wide = refl;
      means =
          ap (λ u. value env (leaf (width_of u) (cut_key c))) same
          ∙ classes c found.0 (subst WellFormed same formed)
          ∙ ap (value env) (sym same);
    }

pub cut-keeps : (env : Env) (met : List Tree) (t : Tree) → ClassesMean env met → WellFormed t → Cut env t (cut met t)
cut-keeps env met t classes formed = elim (cases_Bool (is_atom t)) [
  | inl y ↦ subst (Cut env t) (sym (cond-true _ _ _ y)) (record { formed = formed; wide = refl; means = refl })
  | inr f ↦ subst (Cut env t) (sym (cond-false _ _ _ f)) (leaf_for-cut env met t (position (is_same_term t) met) classes formed refl)
]

leaf_for-term : (w : ℕ) (t : Tree) (o : Option ℕ) → IsTermOf w t → IsTermOf w (leaf_for t o)
leaf_for-term w t None h = h
leaf_for-term w t (Some c) h = subst (λ m. IsTermOf w (leaf m (cut_key c))) (sym h.width) (leaf-term w (cut_key c) (subst IsWidth h.width (term-width t h.well_formed)))

pub cut-term : (w : ℕ) (met : List Tree) (t : Tree) → IsTermOf w t → IsTermOf w (cut met t)
cut-term w met t h = elim (cases_Bool (is_atom t)) [
  | inl y ↦ subst (IsTermOf w) (sym (cond-true _ _ _ y)) h
  | inr f ↦ subst (IsTermOf w) (sym (cond-false _ _ _ f)) (leaf_for-term w t (position (is_same_term t) met) h)
]

-- ---- bits

cut_bit-formed : (env : Env) (met : List Tree) (b : Bit) → ClassesMean env met → BitFormed [] b → BitFormed [] (cut_bit met b)
cut_bit-formed env met clear classes h = tt
cut_bit-formed env met (input p i) classes h = h
cut_bit-formed env met (of_term t k) classes h =
    let c = cut-keeps env met t classes h.0 in
    (c.formed, subst (λ w. k < w) (sym c.wide) h.1)

cut_bit-value : (env : Env) (met : List Tree) (b : Bit) → ClassesMean env met → BitFormed [] b → bit_value env [] (cut_bit met b) ≡ bit_value env [] b
cut_bit-value env met clear classes h = refl
cut_bit-value env met (input p i) classes h = refl
cut_bit-value env met (of_term t k) classes h = ap (λ v. v / 2 ^ k % 2 ^ 1) (cut-keeps env met t classes h.0).means

pub cut_bits-formed : (env : Env) (met : List Tree) (bs : List Bit) → ClassesMean env met → BitsFormed [] bs → BitsFormed [] (cut_bits met bs)
cut_bits-formed env met [] classes h = tt
cut_bits-formed env met (b ∷ bs) classes h = (cut_bit-formed env met b classes h.0, cut_bits-formed env met bs classes h.1)

pub cut_bits-image : (env : Env) (met : List Tree) (bs : List Bit) → ClassesMean env met → BitsFormed [] bs → image env (cut_bits met bs) ≡ image env bs
cut_bits-image env met [] classes h = refl
cut_bits-image env met (b ∷ bs) classes h = (λ i. cut_bit-value env met b classes h.0 i ∷ cut_bits-image env met bs classes h.1 i)

pub gather-made : (env : Env) (bs : List Bit) → Reads env [] → BitsFormed [] bs → 0 < length bs → length bs ≤ 128 → Made env (length bs) (num (image env bs)) (gather bs)
gather-made env bs reads formed some few = record {
  formed = gather-formed [] bs formed some few;
  wide = gather-width bs;
  means = gather-value env [] bs reads formed;
}

pub gathered-means : (env : Env) (met : List Tree) (bs : List Bit) → Reads env [] → ClassesMean env met → BitsFormed [] bs → 0 < length bs → length bs ≤ 128 → Means env (length bs) (num (image env bs)) (gathered met bs)
gathered-means env met bs reads classes formed some few =
    let long : length (cut_bits met bs) ≡ length bs = length-map bs (cut_bit met) in
    let parts = gather-made env (cut_bits met bs) reads (cut_bits-formed env met bs classes formed) (omega arith) (omega arith) in
    built-means env (length bs) (num (image env bs)) (gather bs) (gather (cut_bits met bs)) (gather-made env bs reads formed some few)
    (record { formed = parts.formed; wide = parts.wide ∙ long; means = parts.means ∙ ap num (cut_bits-image env met bs classes formed) })

-- ---- operations

operation-made : (env : Env) (op : Operator) (w : Width) (k : ℕ) (x y z : Tree) → OperandsFit op w k x y z → Made env (result_bits op w) (operation_result op (bits_of w) k (value env x) (value env y) (value env z)) (operation_term op (bits_of w) k x y z)
operation-made env op w k x y z fit = record {
  formed = operation-formed op w k x y z fit;
  wide = sym (canonical-settled (operation_term op (bits_of w) k x y z) (operation-formed op w k x y z fit)).keeps.width ∙ (canonical-term op w k x y z fit).width;
  means = operation-means op env w k x y z fit;
}

cut-fit : (op : Operator) (w : Width) (k : ℕ) (met : List Tree) (x y z : Tree) → OperandsFit op w k x y z → OperandsFit op w k (cut met x) (cut met y) (cut met z)
cut-fit (operator.Two op) w k met x y z h = (cut-term (bits_of w) met x h.0, cut-term (bits_of w) met y h.1)
cut-fit (operator.Shift op) w k met x y z h = (h.0, cut-term (bits_of w) met x h.1)
cut-fit (operator.Resize op v) w k met x y z h = (h.0, cut-term (bits_of v) met x h.1)
cut-fit (operator.Compare op) w k met x y z h = (cut-term (bits_of w) met x h.0, cut-term (bits_of w) met y h.1)
cut-fit operator.Select w k met x y z h = (cut-term 1 met x h.0, cut-term (bits_of w) met y h.1, cut-term (bits_of w) met z h.2)

-- an operation looks at those operands alone whose terms fit
same-result : (env : Env) (op : Operator) (w : Width) (k : ℕ) (met : List Tree) (x y z : Tree) → ClassesMean env met → OperandsFit op w k x y z →
    operation_result op (bits_of w) k (value env (cut met x)) (value env (cut met y)) (value env (cut met z)) ≡ operation_result op (bits_of w) k (value env x) (value env y) (value env z)
same-result env (operator.Two op) w k met x y z c h = (λ i. operation_result (operator.Two op) (bits_of w) k ((cut-keeps env met x c h.0.well_formed).means i) ((cut-keeps env met y c h.1.well_formed).means i) 0)
same-result env (operator.Shift op) w k met x y z c h = (λ i. operation_result (operator.Shift op) (bits_of w) k ((cut-keeps env met x c h.1.well_formed).means i) 0 0)
same-result env (operator.Resize op v) w k met x y z c h = (λ i. operation_result (operator.Resize op v) (bits_of w) k ((cut-keeps env met x c h.1.well_formed).means i) 0 0)
same-result env (operator.Compare op) w k met x y z c h = (λ i. operation_result (operator.Compare op) (bits_of w) k ((cut-keeps env met x c h.0.well_formed).means i) ((cut-keeps env met y c h.1.well_formed).means i) 0)
same-result env operator.Select w k met x y z c h =
    (λ i. operation_result operator.Select (bits_of w) k ((cut-keeps env met x c h.0.well_formed).means i) ((cut-keeps env met y c h.1.well_formed).means i) ((cut-keeps env met z c h.2.well_formed).means i))

pub computed-means : (env : Env) (met : List Tree) (op : Operator) (w : Width) (k : ℕ) (x y z : Tree) → ClassesMean env met → OperandsFit op w k x y z
    → Means env (result_bits op w) (operation_result op (bits_of w) k (value env x) (value env y) (value env z)) (computed met op (bits_of w) k x y z)
computed-means env met op w k x y z classes fit =
    let whole = operation-made env op w k x y z fit in
    let parts = operation-made env op w k (cut met x) (cut met y) (cut met z) (cut-fit op w k met x y z fit) in
    built-means env (result_bits op w) (operation_result op (bits_of w) k (value env x) (value env y) (value env z)) (operation_term op (bits_of w) k x y z) (operation_term op (bits_of w) k (cut met x) (cut met y) (cut met z)) whole
    (record { formed = parts.formed; wide = parts.wide; means = parts.means ∙ same-result env op w k met x y z classes fit })
