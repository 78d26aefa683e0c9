-- Immediates one after the other.
use Rattle.std.proofs.Common.{◌≡◌, ℕ, zero, suc, ◌+◌, ◌-◌, ◌<◌, ◌≤◌, List, [], ◌∷◌, ◌++◌, true, refl, sym, ◌∙◌, ap, subst, arith}
use Rattle.std.specs.Prelude.{Option, Some, None, nat_le, ◌&&◌}
use Rattle.std.specs.List.{flat_map}
use Rattle.std.proofs.lemmas.Bool.Decides.{nat_tests}
use Rattle.std.proofs.lemmas.List.{append_assoc}
use Rattle.vg_pseudo.specs.declared.header.Header.{Header}
use Rattle.vg_pseudo.specs.declared.header.ImmRange.{ImmRange}
use Rattle.vg_shapes.specs.Order.{numbers_from}
use Rattle.vg_lift.specs.Instances.{HasInstance}

numbers-more : (first n : ℕ) → numbers_from first (n + 1) ≡ numbers_from first n ++ (first + n) ∷ []
numbers-more first zero = ap (λ x. x ∷ []) (omega arith)
numbers-more first (suc n) =
    let e : suc n + 1 ≡ suc (n + 1) = omega arith in
    let f : first + 1 + n ≡ first + suc n = omega arith in
    ap (numbers_from first) e ∙ ap (λ xs. first ∷ xs) (numbers-more (first + 1) n)
    ∙ ap (λ x. first ∷ (numbers_from (first + 1) n ++ x ∷ [])) f

append-nil : {X : Type 0} (ys : List X) → ys ++ [] ≡ ys
append-nil [] = refl
append-nil (y ∷ ys) = ap (λ zs. y ∷ zs) (append-nil ys)

flat-more : {X : Type 0} (f : ℕ → List X) (xs : List ℕ) (x : ℕ) → flat_map f (xs ++ x ∷ []) ≡ flat_map f xs ++ f x
flat-more f [] x = append-nil (f x)
flat-more f (y ∷ xs) x = ap (λ zs. f y ++ zs) (flat-more f xs x) ∙ sym (append_assoc (f y) (flat_map f xs) (f x))

-- what is listed for the immediates before this one, and for it
pub lines-more : {X : Type 0} (f : ℕ → List X) (before now more : List X) (first imm : ℕ) → first ≤ imm
    → now ≡ before ++ flat_map f (numbers_from first (imm - first)) → more ≡ now ++ f imm
    → more ≡ before ++ flat_map f (numbers_from first (imm + 1 - first))
lines-more f before now more first imm low e m =
    let n = imm - first in
    let g : imm + 1 - first ≡ n + 1 = omega (arith, low) in
    let h : first + n ≡ imm = omega (arith, low) in
    m ∙ ap (λ xs. xs ++ f imm) e ∙ append_assoc before (flat_map f (numbers_from first n)) (f imm)
    ∙ ap (λ xs. before ++ xs)
    (ap (λ x. flat_map f (numbers_from first n) ++ f x) (sym h) ∙ sym (flat-more f (numbers_from first n) (first + n))
    ∙ ap (flat_map f) (sym (numbers-more first n) ∙ ap (numbers_from first) (sym g)))

pub in-range : (h : Header) (range : ImmRange) (imm : ℕ) → h.imm ≡ Some range → range.lo ≤ imm → imm < range.hi + 1
    → HasInstance h imm
in-range h range imm e low high = rw e (let a : nat_le range.lo imm ≡ true = grind (arith, nat_tests, low) in let b : nat_le imm range.hi ≡ true = grind (arith, nat_tests, high) in rw (a, b) refl)

pub none-has : (h : Header) (imm : ℕ) → h.imm ≡ None → HasInstance h imm
none-has h imm e = rw e refl
