-- What names of parameters stand for.
use Rattle.std.proofs.Common.{◌≡◌, ℕ, suc, ◌+◌, ◌<◌, ◌≤◌, List, [], ◌∷◌, length, Option, Some, None, inl, inr, refl, sym, ap, ◌∙◌, arith}
use Rattle.std.specs.Prelude.{if◌then◌else◌}
use Rattle.std.specs.Str.{bytes_eq}
use Rattle.vg_base.proofs.Bind.{either_way}
use Rattle.vg_kernel.specs.declared.given.Given.{Given}
use Rattle.vg_kernel.specs.declared.given.Given.TheVariants as given
use Rattle.vg_kernel.specs.declared.parameter.KParam.{KParam}
use Rattle.vg_kernel.specs.declared.parameter.KParamKind.{KParamKind}
use Rattle.vg_kernel.specs.declared.parameter.KParamKind.TheVariants.{Pointer, Integer}
use Rattle.vg_kernel.specs.Names.{parameter_named, assigned_named, given_of, given_as, names_of, is_pointer}
use Rattle.vg_kernel.specs.Script.{Words}
use Rattle.vg_kernel.specs.WellFormed.{pointers}
use Rattle.vg_kernel.specs.Words.{first_of}
use Rattle.vg_loop_grammar.specs.Grammar.{WrittenStep, IsStep, AreMoreSteps, AreSteps}
use Rattle.vg_loop_grammar.proofs.StepLists.{AllKnown}

-- where no statement has given a name, names are those of parameters
pub given-params : (ps : List KParam) (name : List ℕ) → given_as (names_of ps) name ≡ parameter_named 0 0 ps name
unfolding assigned_named
given-params ps name = alone (parameter_named 0 0 ps name)
  where
    alone : (o : Option Given) → first_of o None ≡ o
    alone None = refl
    alone (Some g) = refl

-- a pointer that is named is one of them
pointer-known : (n m : ℕ) (ps : List KParam) (name : List ℕ) (k : ℕ) → parameter_named n m ps name ≡ Some (given.Pointer k) → k < n + length (pointers ps)
unfolding parameter_named
pointer-known n m [] name k e = absurd (cc)
pointer-known n m (p ∷ ps) name k e =
    by p.kind refl (λ f. pointer-known (n + 1) m ps name k f) (λ f. pointer-known n (m + 1) ps name k f)
  where
    by : (q : KParamKind) → p.kind ≡ q
        → (parameter_named (n + 1) m ps name ≡ Some (given.Pointer k) → k < (n + 1) + length (pointers ps))
        → (parameter_named n (m + 1) ps name ≡ Some (given.Pointer k) → k < n + length (pointers ps))
        → k < n + length (pointers (p ∷ ps))
    by (Pointer noalias) f behind beside =
        let same : length (pointers (p ∷ ps)) ≡ suc (length (pointers ps)) = rw f refl in
        elim (either_way (bytes_eq p.name name) (Some (given_of p.kind n m)) _ e) [
          | inl here ↦
              let found : Some (given.Pointer n) ≡ Some (given.Pointer k) = sym (ap (λ (q : KParamKind). Some (given_of q n m)) f) ∙ here.1 in
              let number : n ≡ k = cc in
              omega (arith, number, same)
          | inr more ↦
              let next : parameter_named (n + 1) m ps name ≡ Some (given.Pointer k) =
              ap (λ (q : KParamKind). if is_pointer q then parameter_named (n + 1) m ps name else parameter_named n (m + 1) ps name) (sym f) ∙ more.1 in
              let less = behind next in
              omega (arith, less, same)
        ]
    by (Integer v) f behind beside =
        let same : length (pointers (p ∷ ps)) ≡ length (pointers ps) = rw f refl in
        elim (either_way (bytes_eq p.name name) (Some (given_of p.kind n m)) _ e) [
          | inl here ↦ absurd (let found : Some (given.Argument m v) ≡ Some (given.Pointer k) = sym (ap (λ (q : KParamKind). Some (given_of q n m)) f) ∙ here.1 in cc)
          | inr more ↦
              let next : parameter_named n (m + 1) ps name ≡ Some (given.Pointer k) =
              ap (λ (q : KParamKind). if is_pointer q then parameter_named (n + 1) m ps name else parameter_named n (m + 1) ps name) (sym f) ∙ more.1 in
              let less = beside next in
              omega (arith, less, same)
        ]

step-known : (params : List KParam) (words : Words) (s : WrittenStep) → IsStep params words s → (s.pointer < length (pointers params)) × (1 ≤ s.bytes)
step-known params words s (name, number, pointer, value, some, few, same) =
    let less = pointer-known 0 0 params name.bytes s.pointer (sym (given-params params name.bytes) ∙ pointer.1) in
    (omega (arith, less), some)

more-known : (params : List KParam) (words : Words) (ss : List WrittenStep) → AreMoreSteps params words ss → AllKnown (length (pointers params)) ss
more-known params words [] are = tt
more-known params words (s ∷ ss) (comma, front, rest, is, one, others, same) = (step-known params front s one, more-known params rest ss others)

-- steps are those of pointers, each by some bytes
pub steps-known : (params : List KParam) (words : Words) (ss : List WrittenStep) → AreSteps params words ss → AllKnown (length (pointers params)) ss
steps-known params words [] are = absurd are
steps-known params words (s ∷ ss) (front, rest, one, others, same) = (step-known params front s one, more-known params rest ss others)

-- pointers are some of the parameters
pub pointers-few : (ps : List KParam) → length (pointers ps) ≤ length ps
pointers-few [] = omega arith
pointers-few (p ∷ ps) = by p.kind refl (pointers-few ps)
  where
    by : (q : KParamKind) → p.kind ≡ q → length (pointers ps) ≤ length ps → length (pointers (p ∷ ps)) ≤ suc (length ps)
    by (Pointer noalias) f few = let same : length (pointers (p ∷ ps)) ≡ suc (length (pointers ps)) = rw f refl in omega (arith, few, same)
    by (Integer v) f few = let same : length (pointers (p ∷ ps)) ≡ length (pointers ps) = rw f refl in omega (arith, few, same)
