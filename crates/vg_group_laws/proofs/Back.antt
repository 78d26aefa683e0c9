-- Back along places that are taken, each right ahead of the one before: this ends at one place.
use Rattle.std.proofs.Common.{◌≡◌, ℕ, zero, suc, ◌+◌, ◌*◌, ◌<◌, refl, sym, ◌∙◌, ap, subst, inl, inr, arith}
use Rattle.std.specs.Prelude.{nat_eq}
use Rattle.std.proofs.lemmas.Bool.{cases_Bool}
use Rattle.std.proofs.lemmas.Bool.Decides.{nat_tests}
use Rattle.std.proofs.Math.Nat.{suc-mul}
use Rattle.vg_base.specs.declared.address.Address.{Address}
use Rattle.vg_group_laws.proofs.Addresses.{behind-ahead, behind-behind, behind-none}
use Rattle.vg_kernel_plans.specs.Groups.{ahead}
use Rattle.vg_shapes.specs.Pack.{behind}

-- from a place so many places of a size back to another, the places ahead of the first all taken
pub data Back (Taken : Address → Type 0) (s : ℕ) : ℕ → Address → Address → Type 0 where
  here : (a : Address) → Back Taken s zero a a
  more : (n : ℕ) (b a : Address) → Taken (ahead b s) → Back Taken s n (ahead b s) a → Back Taken s (suc n) b a

-- where nothing is taken right ahead, going back has ended
pub one-start : (Taken : Address → Type 0) (s n m : ℕ) (b a c : Address) → Back Taken s n b a → Back Taken s m b c
    → (Taken (ahead a s) → ⊥) → (Taken (ahead c s) → ⊥) → (a ≡ c) × (n ≡ m)
one-start Taken s _ m _ _ c (here a) k none_a none_c = from_here m c k none_a
  where
    from_here : (m : ℕ) (c : Address) → Back Taken s m a c → (Taken (ahead a s) → ⊥) → (a ≡ c) × (zero ≡ m)
    from_here _ _ (here _) none = (refl, refl)
    from_here _ c (more _ _ _ l q) none = absurd (none l)
one-start Taken s _ m _ _ c (more n b a l q) k none_a none_c = from_more m c k none_c (λ m. one-start Taken s n m (ahead b s) a c q)
  where
    from_more : (m : ℕ) (c : Address) → Back Taken s m b c → (Taken (ahead c s) → ⊥)
        → ((m : ℕ) → Back Taken s m (ahead b s) c → (Taken (ahead a s) → ⊥) → (Taken (ahead c s) → ⊥) → (a ≡ c) × (n ≡ m)) → (a ≡ c) × (suc n ≡ m)
    from_more _ _ (here _) none rest = absurd (none l)
    from_more _ c (more m _ _ j r) none rest = let k = rest m r none_a none in (k.0, ap suc k.1)

-- so many places of a size on
abbrev pub on : ℕ → ℕ → Address → Address
on s zero a = a
on s (suc n) a = behind (on s n a) s

pub back-place : (Taken : Address → Type 0) (s n : ℕ) (b a : Address) → Back Taken s n b a → b ≡ on s n a
back-place Taken s _ _ _ (here a) = refl
back-place Taken s _ _ _ (more n b a l q) = sym (behind-ahead b s) ∙ ap (λ c. behind c s) (back-place Taken s n (ahead b s) a q)

-- the places up to the first are taken
pub back-taken : (Taken : Address → Type 0) (s n j : ℕ) (b a : Address) → Back Taken s n b a → j < n → Taken (on s j a)
back-taken Taken s _ j _ _ (here a) l = absurd (omega (arith, l))
back-taken Taken s _ j _ _ (more n b a t q) l = elim (cases_Bool (nat_eq n j)) [
  | inl e ↦
      let same : n ≡ j = grind (arith, nat_tests, e) in
      subst (λ k. Taken (on s k a)) same (subst Taken (back-place Taken s n (ahead b s) a q) t)
  | inr f ↦ back-taken Taken s n j (ahead b s) a q (grind (arith, nat_tests, f, l))
]

pub on-is : (s n : ℕ) (a : Address) → on s n a ≡ behind a (n * s)
on-is s zero a = let z : 0 ≡ 0 * s = omega arith in sym (behind-none a) ∙ ap (behind a) z
on-is s (suc n) a =
    let z : n * s + s ≡ suc n * s = sym (suc-mul n s) in
    ap (λ c. behind c s) (on-is s n a) ∙ behind-behind a (n * s) s ∙ ap (behind a) z
