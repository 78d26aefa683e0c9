-- Terms stretched to a width: their value.
use Rattle.std.proofs.Common.{◌≡◌, ℕ, ◌+◌, ◌-◌, ◌^◌, ◌<◌, ◌≤◌, Bool, true, false, refl, sym, subst, arith}
use Rattle.std.specs.Prelude.{nat_eq, if◌then◌else◌}
use Rattle.std.proofs.lemmas.Bool.{eqb-true, eqb-false, cond_both}
use Rattle.vg_base.specs.Bits.{signed_at}
use Rattle.vg_terms.specs.declared.term.OneOp.{OneOp}
use Rattle.vg_terms.specs.declared.term.OneOp.TheVariants.{Zext, Sext, Trunc, Lshr, Ashr}
use Rattle.vg_terms.specs.declared.value.Env.{Env}
use Rattle.vg_terms.specs.Measure.{one_weight, weight}
use Rattle.vg_terms.specs.Term.{Tree, constant, one, width_of, IsWidth, OneFits, WellFormed}
use Rattle.vg_base.specs.Number.{residue}
use Rattle.vg_terms.specs.Value.{one_value, value}
use Rattle.vg_base.proofs.Signed.{residue-signed, extend-extend}
use Rattle.vg_terms.proofs.Soundness.{width_some}
use Rattle.vg_terms.proofs.Values.{value-below}
use Rattle.vg_base.proofs.LowBits.{below_wider, extend-low}
use Rattle.vg_rules_choice.specs.Rules.{extended, stretch, widened}

abbrev pub is_extension : OneOp → Bool
is_extension Zext = true
is_extension Sext = true
is_extension _ = false

pub extension_fits : (ext : OneOp) (w n : ℕ) → is_extension ext ≡ true → n < w → OneFits ext w 0 n
extension_fits Zext w n t h = (h, refl)
extension_fits Sext w n t h = (h, refl)
extension_fits Trunc w n t h = absurd (cc)
extension_fits Lshr w n t h = absurd (cc)
extension_fits Ashr w n t h = absurd (cc)

extension_weight : (ext : OneOp) (w : ℕ) → is_extension ext ≡ true → one_weight ext w ≤ 2
extension_weight Zext w t = omega arith
extension_weight Sext w t = omega arith
extension_weight Trunc w t = absurd (cc)
extension_weight Lshr w t = absurd (cc)
extension_weight Ashr w t = absurd (cc)

-- to the width that a number has already
extension_same : (ext : OneOp) (w v : ℕ) → is_extension ext ≡ true → v < 2 ^ w → v ≡ one_value ext w 0 w v
extension_same Zext w v t h = refl
extension_same Sext w v t h = sym (residue-signed w v h)
extension_same Trunc w v t h = absurd (cc)
extension_same Lshr w v t h = absurd (cc)
extension_same Ashr w v t h = absurd (cc)

by_zeros : (env : Env) (w : ℕ) (p : Tree) → value env (extended Zext w p) ≡ value env p
by_zeros env w (constant n v) = refl
by_zeros env w (one Zext n k x) = refl
by_zeros env w (one Sext n k x) = refl
by_zeros env w _ = refl

by_sign : (env : Env) (w : ℕ) (p : Tree) → WellFormed p → width_of p < w →
    value env (extended Sext w p) ≡ residue w (signed_at (width_of p) (value env p))
by_sign env w (one Zext n k x) f h =
    let less : width_of x ≤ n - 1 = omega (arith, f.1.0) in
    sym (extend-low w n (value env x) (below_wider (value env x) (width_of x) (n - 1) (value-below env x f.2) less) h)
by_sign env w (one Sext n k x) f h =
    sym (extend-extend w n (width_of x) (value env x) (width_some x f.2).0 f.1.0 (value-below env x f.2))
by_sign env w (constant n v) f h = refl
by_sign env w _ f h = refl

extended-value : (env : Env) (ext : OneOp) (w : ℕ) (p : Tree) → is_extension ext ≡ true → WellFormed p →
    width_of p < w → value env (extended ext w p) ≡ one_value ext w 0 (width_of p) (value env p)
extended-value env Zext w p t f h = by_zeros env w p
extended-value env Sext w p t f h = by_sign env w p f h
extended-value env Trunc w p t f h = absurd (cc)
extended-value env Lshr w p t f h = absurd (cc)
extended-value env Ashr w p t f h = absurd (cc)

-- a property of the term itself where it has w bits, and of its extension where it has fewer
either_wide : (P : Tree → Type 0) (w : ℕ) (p q : Tree) → width_of p ≤ w → (width_of p ≡ w → P p) →
    (width_of p < w → P q) → P (if nat_eq (width_of p) w then p else q)
either_wide P w p q l same less =
    cond_both (nat_eq (width_of p) w) p q P (λ t. same (eqb-true (width_of p) w t)) (λ f. less (let d = eqb-false (width_of p) w f in omega arith))

itself-value : (env : Env) (ext : OneOp) (w : ℕ) (p : Tree) → is_extension ext ≡ true → WellFormed p →
    width_of p ≡ w → value env p ≡ one_value ext w 0 (width_of p) (value env p)
itself-value env ext w p t f e =
    subst (λ k. value env p ≡ one_value ext k 0 (width_of p) (value env p)) e (extension_same ext (width_of p) (value env p) t (value-below env p f))

-- the stretch of a term has its number, extended
pub stretch-value : (env : Env) (ext : OneOp) (w : ℕ) (p : Tree) → is_extension ext ≡ true → WellFormed p →
    width_of p ≤ w → value env (stretch ext w p) ≡ one_value ext w 0 (width_of p) (value env p)
stretch-value env ext w p t f l =
    either_wide (λ s. value env s ≡ one_value ext w 0 (width_of p) (value env p)) w p (extended ext w p) l (itself-value env ext w p t f) (extended-value env ext w p t f)

pub widened-value : (env : Env) (ext : OneOp) (w : ℕ) (p : Tree) → is_extension ext ≡ true → WellFormed p →
    width_of p ≤ w → value env (widened ext w p) ≡ one_value ext w 0 (width_of p) (value env p)
widened-value env ext w p t f l =
    either_wide (λ s. value env s ≡ one_value ext w 0 (width_of p) (value env p)) w p (one ext w 0 p) l (itself-value env ext w p t f) (λ _. refl)

pub widened-formed : (ext : OneOp) (w : ℕ) (p : Tree) → is_extension ext ≡ true → IsWidth w → WellFormed p →
    width_of p ≤ w → WellFormed (widened ext w p)
widened-formed ext w p t i f l =
    either_wide WellFormed w p (one ext w 0 p) l (λ _. f) (λ h. (i, extension_fits ext w (width_of p) t h, f))

pub widened-width : (ext : OneOp) (w : ℕ) (p : Tree) → width_of p ≤ w → width_of (widened ext w p) ≡ w
widened-width ext w p l = either_wide (λ s. width_of s ≡ w) w p (one ext w 0 p) l (λ e. e) (λ _. refl)

pub widened-weight : (ext : OneOp) (w : ℕ) (p : Tree) → is_extension ext ≡ true → width_of p ≤ w →
    weight (widened ext w p) ≤ weight p + 2
widened-weight ext w p t l =
    either_wide (λ s. weight s ≤ weight p + 2) w p (one ext w 0 p) l (λ _. omega arith) (λ _. omega (arith, extension_weight ext w t))
