-- Accesses that do not conflict are apart in each layout that respects noalias.
use Rattle.std.proofs.Common.{◌≡◌, ◌≢◌, ℕ, zero, suc, ◌+◌, ◌-◌, ◌<◌, ◌≤◌, ℤ, pos, negsuc, Bool, true, false, List, [], ◌∷◌, Option, Some, None, refl, sym, ap, subst, ◌∙◌, ◌⊎◌, inl, inr, arith}
use Rattle.std.specs.Prelude.{nat_eq, nat_lt, int_lt, slice_index, slice_get, Contains, ◌+ℤ◌, ◌≤ℤ◌, ◌||◌, ◌&&◌, not}
use Rattle.std.specs.List.{filter_map, cons_option}
use Rattle.std.proofs.lemmas.Int.{ints}
use Rattle.std.proofs.lemmas.Bool.{cases_Bool, cond-true, cond-false, eqb-true, eqb-false, and_cases, not-false, true≢false}
use Rattle.vg_base.specs.Trap.{◌>>=◌}
use Rattle.vg_base.specs.Address.{place_of}
use Rattle.vg_shapes.specs.declared.access.Access.{Access}
use Rattle.vg_shapes.specs.declared.ssa.Ssa.{Ssa}
use Rattle.vg_shapes.specs.declared.ssa_unit.SsaUnit.{SsaUnit}
use Rattle.vg_shapes.specs.Depends.{conflict, overlap}
use Rattle.vg_shapes.specs.Layout.{access_at, access_of, accesses, AreApart, noalias_flags, Respects}
use Rattle.vg_shapes.specs.Units.{arguments, unit_at}

offsets_apart : (p : ℕ) (a : ℤ) (n : ℕ) (b : ℤ) (k : ℕ) → int_lt a (b +ℤ pos k) ≡ false → ((pos p +ℤ b) +ℤ pos k) ≤ℤ (pos p +ℤ a)
offsets_apart p a n b k h = grind (arith, ints)

-- through one pointer, whatever its place
one-pointer : (places : List ℕ) (x y : Access) → x.address.pointer ≡ y.address.pointer → overlap x y ≡ false → AreApart places x y
one-pointer places x y same h = elim (and_cases _ _ h) [
  | inl f ↦ inr (subst (λ (p : ℕ). ((place_of places y.address) +ℤ pos y.size) ≤ℤ (pos p +ℤ x.address.offset)) (ap (slice_index places) (sym same)) (offsets_apart (slice_index places y.address.pointer) x.address.offset x.size y.address.offset y.size f))
  | inr f ↦ inl (subst (λ (p : ℕ). ((place_of places x.address) +ℤ pos x.size) ≤ℤ (pos p +ℤ y.address.offset)) (ap (slice_index places) same) (offsets_apart (slice_index places x.address.pointer) y.address.offset y.size x.address.offset x.size f))
]

pub no-conflict-apart : (ssa : Ssa) (places : List ℕ) (x y : Access) → Respects ssa places → Contains (accesses ssa) x → Contains (accesses ssa) y → conflict (noalias_flags ssa) x y ≡ false → (x.writes || y.writes) ≡ true → AreApart places x y
no-conflict-apart ssa places x y respects cx cy h writes = elim (and_cases _ _ h) [
  | inl f ↦ absurd (true≢false (sym writes ∙ f))
  | inr f ↦ elim (cases_Bool (nat_eq x.address.pointer y.address.pointer)) [
    | inl t ↦ one-pointer places x y (eqb-true _ _ t) (sym (cond-true _ _ _ t) ∙ f)
    | inr g ↦ respects x y cx cy (eqb-false _ _ g, not-false _ (sym (cond-false _ _ _ g) ∙ f), writes)
  ]
]

-- ---- the access of a unit is one of the accesses

longer : (o : Option Access) (xs : List Access) (x : Access) → Contains xs x → Contains (cons_option o xs) x
longer None xs x h = h
longer (Some y) xs x h = (suc h.0, (let below = h.1 in omega arith), h.2)

listed : (us : List SsaUnit) (k : ℕ) (u : SsaUnit) (x : Access) → slice_get us k ≡ Some u → access_of u ≡ Some x → Contains (filter_map access_of us) x
listed [] k u x e a = absurd (cc)
listed (first ∷ us) zero u x e a =
    let same : first ≡ u = cc in
    subst (λ o. Contains (cons_option o (filter_map access_of us)) x) (sym (ap access_of same ∙ a)) (0, omega arith, refl)
listed (first ∷ us) (suc k) u x e a = longer (access_of first) (filter_map access_of us) x (listed us k u x e a)

pub access-listed : (ssa : Ssa) (v : ℕ) (x : Access) → access_at ssa v ≡ Some x → Contains (accesses ssa) x
access-listed ssa v x e = by (unit_at ssa v) refl e
  where
    by : (o : Option SsaUnit) → unit_at ssa v ≡ o → (o >>= access_of) ≡ Some x → Contains (accesses ssa) x
    by None g h = absurd (cc)
    by (Some u) g h = elim (cases_Bool (nat_lt v (arguments ssa))) [
      | inl t ↦ absurd (let none : unit_at ssa v ≡ None = cond-true _ _ _ t in cc)
      | inr f ↦ listed ssa.units (v - arguments ssa) u x (sym (cond-false _ _ _ f) ∙ g) h
    ]
