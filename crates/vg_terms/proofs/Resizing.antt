-- The low bits of a term: well-formed, of that width and value, and at most one heavier.
use Rattle.std.proofs.Common.{◌≡◌, ℕ, ◌+◌, ◌%◌, ◌^◌, ◌<◌, ◌≤◌, refl, sym, ap, ◌∙◌, subst, arith, inl, inr}
use Rattle.std.specs.Prelude.{nat_eq}
use Rattle.std.proofs.lemmas.Bool.{cases_Bool, eqb-true, eqb-false, eq-eqb, cond-true, cond-false, cond_both}
use Rattle.vg_terms.specs.declared.term.OneOp.TheVariants.{Trunc}
use Rattle.vg_terms.specs.declared.term.TwoOp.{TwoOp}
use Rattle.vg_terms.specs.declared.value.Env.{Env}
use Rattle.vg_terms.specs.Term.{Tree, one, width_of, IsWidth, TwoFits, WellFormed}
use Rattle.vg_terms.specs.Value.{two_value, value}
use Rattle.vg_terms.specs.Measure.{two_weight, weight}
use Rattle.vg_terms.specs.Resize.{low, low_two}
use Rattle.vg_base.proofs.LowBits.{low-below}
use Rattle.vg_terms.proofs.Values.{value-below}
use Rattle.vg_terms.proofs.Soundness.{width_some}

-- of a term of n bits, and of one of more
pub low-same : (n : ℕ) (x : Tree) → width_of x ≡ n → low n x ≡ x
low-same n x e = cond-true _ _ _ (eq-eqb (width_of x) n e)

pub low-less : (n : ℕ) (x : Tree) → n < width_of x → low n x ≡ one Trunc n 0 x
low-less n x h =
    elim (cases_Bool (nat_eq (width_of x) n)) [ inl t ↦ absurd (omega (arith, eqb-true (width_of x) n t)) | inr f ↦ cond-false _ _ _ f ]

-- a property of the term itself, and of its truncation
either_low : (P : Tree → Type 0) (n : ℕ) (x : Tree) → n ≤ width_of x → (width_of x ≡ n → P x) → (n < width_of x → P (one Trunc n 0 x)) → P (low n x)
either_low P n x l p q =
    cond_both (nat_eq (width_of x) n) x (one Trunc n 0 x) P (λ t. p (eqb-true (width_of x) n t)) (λ f. q (let d = eqb-false (width_of x) n f in omega arith))

pub low-width : (n : ℕ) (x : Tree) → width_of (low n x) ≡ n
low-width n x = cond_both (nat_eq (width_of x) n) x (one Trunc n 0 x) (λ t. width_of t ≡ n) (λ t. eqb-true (width_of x) n t) (λ _. refl)

pub low-formed : (n : ℕ) (x : Tree) → 0 < n → n ≤ width_of x → WellFormed x → WellFormed (low n x)
low-formed n x h l f =
    let w = width_some x f in
    either_low WellFormed n x l (λ _. f) (λ s. ((h, omega (arith, w.1)), (s, refl), f))

pub low-value : (env : Env) (n : ℕ) (x : Tree) → n ≤ width_of x → WellFormed x → value env (low n x) ≡ value env x % 2 ^ n
low-value env n x l f =
    either_low (λ t. value env t ≡ value env x % 2 ^ n) n x l (λ e. let m : width_of x ≤ n = omega arith in sym (low-below (value env x) (width_of x) n (value-below env x f) m)) (λ _. refl)

pub low-weight : (n : ℕ) (x : Tree) → weight (low n x) ≤ weight x + 1
low-weight n x = cond_both (nat_eq (width_of x) n) x (one Trunc n 0 x) (λ t. weight t ≤ weight x + 1) (λ _. omega arith) (λ _. omega arith)

-- an operation of width w on the low n bits of two terms
pub low_two-formed : (op : TwoOp) (w n : ℕ) (x y : Tree) → IsWidth w → TwoFits op w n n → 0 < n → n ≤ width_of x → n ≤ width_of y → WellFormed x → WellFormed y → WellFormed (low_two op w n x y)
low_two-formed op w n x y i f h l m fx fy =
    let first = subst (λ k. TwoFits op w k n) (sym (low-width n x)) f in
    let both = subst (λ k. TwoFits op w (width_of (low n x)) k) (sym (low-width n y)) first in
    (i, both, low-formed n x h l fx, low-formed n y h m fy)

pub low_two-value : (env : Env) (op : TwoOp) (w n : ℕ) (x y : Tree) → n ≤ width_of x → n ≤ width_of y → WellFormed x → WellFormed y → value env (low_two op w n x y) ≡ two_value op w n (value env x % 2 ^ n) (value env y % 2 ^ n)
low_two-value env op w n x y l m fx fy =
    ap (λ k. two_value op w k (value env (low n x)) (value env (low n y))) (low-width n y) ∙ ap (λ v. two_value op w n v (value env (low n y))) (low-value env n x l fx) ∙ ap (two_value op w n (value env x % 2 ^ n)) (low-value env n y m fy)

pub low_two-weight : (op : TwoOp) (w n : ℕ) (x y : Tree) → weight (low_two op w n x y) ≤ two_weight op w n + (weight x + weight y + 2)
low_two-weight op w n x y =
    let own : two_weight op w (width_of (low n x)) ≡ two_weight op w n = ap (two_weight op w) (low-width n x) in
    omega (arith, low-weight n x, low-weight n y)
