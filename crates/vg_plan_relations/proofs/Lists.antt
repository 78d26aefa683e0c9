-- Members of lists: what holds of all of them, where they stand, and lists that have none twice.
use Rattle.std.proofs.Common.{◌≡◌, ℕ, zero, suc, Bool, true, false, List, [], ◌∷◌, Some, subst, inl, inr}
use Rattle.std.specs.Prelude.{slice_get}
use Rattle.std.specs.List.{AllByRecursion, list_all}
use Rattle.vg_plans.specs.Members.{AllDiffer, Has}
use Rattle.vg_plans.proofs.Lists.{every-has}
use Rattle.vg_plans.proofs.Members.{Unique}
use Rattle.vg_kernel_plans.proofs.SameTests.{both-true}

pub all-has : {X : Type 0} (P : X → Type 0) (xs : List X) (x : X) → AllByRecursion P xs → Has x xs → P x
all-has P [] x a h = absurd h
all-has P (y ∷ xs) x a h = elim h [ inl e ↦ subst P e a.0 | inr k ↦ all-has P xs x a.1 k ]

pub all-true : {X : Type 0} (test : X → Bool) (xs : List X) (x : X) → list_all test xs ≡ true → Has x xs → test x ≡ true
all-true test [] x t h = absurd h
all-true test (y ∷ xs) x t h =
    let b = both-true (test y) (list_all test xs) t in
    elim h [ inl e ↦ subst (λ z. test z ≡ true) e b.0 | inr k ↦ all-true test xs x b.1 k ]

pub get-has : {X : Type 0} (xs : List X) (k : ℕ) (x : X) → slice_get xs k ≡ Some x → Has x xs
get-has [] k x e = absurd (cc)
get-has (y ∷ xs) zero x e = inl (cc)
get-has (y ∷ xs) (suc k) x e = inr (get-has xs k x e)

-- where each is the same as itself, none of a list of which no two are the same stands in it twice
pub differ-unique : {X : Type 0} (same : X → X → Bool) → ((x : X) → same x x ≡ true) → (xs : List X) → AllDiffer same xs → Unique xs
differ-unique same itself [] d = tt
differ-unique same itself (x ∷ xs) d = (
  (λ h. let f : same x x ≡ false = every-has (λ y. same x y ≡ false) x xs d.0 h in let t = itself x in absurd (cc)),
  differ-unique same itself xs d.1,
)
