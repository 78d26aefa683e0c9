-- Operations over constants, and a difference, whose second operand is made canonical first.
use Rattle.std.proofs.Common.{◌≡◌, ℕ, ◌-◌, ◌^◌, ◌<◌, refl, sym, ap, subst, ◌∙◌}
use Rattle.vg_canon.specs.Canonical.{at_root, canonical, IsCanonical}
use Rattle.vg_canon.proofs.Forms.{canonical-is, canonical-same, canonical-settled}
use Rattle.vg_canon.proofs.Steps.{constant-finished}
use Rattle.vg_ssa.specs.Fitting.{IsTermOf}
use Rattle.vg_ssa.proofs.OperationTerms.{ones-below}
use Rattle.vg_terms.specs.declared.term.TwoOp.TheVariants.{Add, Mul}
use Rattle.vg_terms.specs.Term.{Tree, constant, IsWidth, two, WellFormed}

pub constant-canonical : (w n : ℕ) (t : Tree) → IsWidth w → n < 2 ^ w → t ≡ constant w n → IsCanonical t
constant-canonical w n t h l e = subst IsCanonical (sym e) (constant-finished w n (h, l))

pub product-formed : (w n : ℕ) (x t : Tree) → IsWidth w → IsTermOf w x → n < 2 ^ w → t ≡ constant w n → WellFormed (two Mul w x t)
product-formed w n x t h hx l e = subst (λ c. WellFormed (two Mul w x c)) (sym e) (h, (hx.width, refl), hx.well_formed, (h, l))

-- a number times -1
abbrev pub negative : ℕ → Tree → Tree
negative w y = two Mul w y (constant w (2 ^ w - 1))

pub negative-settled : (w : ℕ) (y n : Tree) → IsWidth w → IsTermOf w y → n ≡ canonical (negative w y) → IsTermOf w n
negative-settled w y n h hy e =
    let settled = canonical-settled (negative w y) (product-formed w (2 ^ w - 1) y (constant w (2 ^ w - 1)) h hy (ones-below w) refl) in
    subst (IsTermOf w) (sym e) (record { well_formed = settled.keeps.well_formed; width = settled.keeps.width; is_canonical = settled.is_canonical })

pub sum-formed : (w : ℕ) (x n : Tree) → IsWidth w → IsTermOf w x → IsTermOf w n → WellFormed (two Add w x n)
sum-formed w x n h hx hn = (h, (hx.width, hn.width), hx.well_formed, hn.well_formed)

pub sum-same : (w : ℕ) (x y n : Tree) → IsWidth w → IsTermOf w x → IsTermOf w y → n ≡ canonical (negative w y) → canonical (two Add w x n) ≡ canonical (two Add w x (negative w y))
sum-same w x y n h hx hy e =
    let hn = negative-settled w y n h hy e in
    let inner = product-formed w (2 ^ w - 1) y (constant w (2 ^ w - 1)) h hy (ones-below w) refl in
    let same : canonical n ≡ canonical (negative w y) = canonical-same n hn.is_canonical ∙ e in
    canonical-is (two Add w x n) (sum-formed w x n h hx hn)
    ∙ ap (λ c. at_root canonical (two Add w (canonical x) c)) same
    ∙ sym (canonical-is (two Add w x (negative w y)) (h, (hx.width, refl), hx.well_formed, inner))
