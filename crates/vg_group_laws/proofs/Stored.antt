-- The stores of a rank: what stands at a place of the list of stores there.
use Rattle.std.proofs.Common.{◌≡◌, ℕ, zero, suc, ◌+◌, ◌≤◌, Bool, true, false, List, ◌∷◌, length, refl, sym, ◌∙◌, ap, subst, inl, inr, arith}
use Rattle.std.specs.Prelude.{◌&&◌, filter, nat_lt, Option, Some, None, slice_get}
use Rattle.std.proofs.lemmas.Bool.{cases_Bool}
use Rattle.std.proofs.lemmas.Bool.Decides.{nat_tests}
use Rattle.vg_base.specs.declared.address.Address.{Address}
use Rattle.vg_base.specs.declared.width.Width.{Width}
use Rattle.vg_group_laws.specs.Tiles.{IsStoreOf}
use Rattle.vg_group_laws.proofs.Listed.{made, number-has, own-place, unit-bounds}
use Rattle.vg_group_laws.proofs.Unrepeated.{get-has}
use Rattle.vg_kernel_plans.specs.Groups.{stores_at, unit_numbers}
use Rattle.vg_kernel_plans.proofs.LoadPacks.{at-place}
use Rattle.vg_plans.specs.Members.{Has}
use Rattle.vg_plans.proofs.Members.{from-filter}
use Rattle.vg_shapes.specs.declared.ssa.Ssa.{Ssa}
use Rattle.vg_shapes.specs.declared.ssa_unit.SsaUnit.{SsaUnit}
use Rattle.vg_shapes.specs.declared.ssa_unit.SsaUnit.TheVariants.{Load, Store, Operation}
use Rattle.vg_shapes.specs.declared.wanted.Wanted.{Wanted}
use Rattle.vg_shapes.specs.Order.{numbers_from}
use Rattle.vg_shapes.specs.Pack.{stores_before, stores_to}
use Rattle.vg_shapes.specs.Units.{arguments, unit_at}

-- ---- numbers that pass a test

pub number-from : (u f n : ℕ) → Has u (numbers_from f n) → f ≤ u
number-from u f zero h = absurd h
number-from u f (suc n) h = elim h [
  | inl e ↦ omega (arith, e)
  | inr r ↦ let k = number-from u (f + 1) n r in omega (arith, k)
]

none-below : (test : ℕ → Bool) (v f n : ℕ) → v ≤ f → length (filter (λ u. nat_lt u v && test u) (numbers_from f n)) ≡ 0
none-below test v f zero l = refl
none-below test v f (suc n) l =
    let t : nat_lt f v ≡ false = grind (arith, nat_tests, l) in
    rw t (none-below test v (f + 1) n (omega (arith, l)))

-- the one at a place of those that pass has as many below it that do
below-kept : (test : ℕ → Bool) (f n r v : ℕ) → slice_get (filter test (numbers_from f n)) r ≡ Some v
    → length (filter (λ u. nat_lt u v && test u) (numbers_from f n)) ≡ r
below-kept test f zero r v e = absurd (cc)
below-kept test f (suc n) r v e = elim (cases_Bool (test f)) [
  | inl t ↦ by_place r (rw t at e) t (λ q k. below-kept test (f + 1) n q v k)
  | inr g ↦
      let k : slice_get (filter test (numbers_from (f + 1) n)) r ≡ Some v = rw g at e in
      let l = above r k in
      let b : nat_lt f v ≡ true = grind (arith, nat_tests, l) in
      rw (b, g) (below-kept test (f + 1) n r v k)
]
  where
    above : (r : ℕ) → slice_get (filter test (numbers_from (f + 1) n)) r ≡ Some v → f + 1 ≤ v
    above r k =
        number-from v (f + 1) n (from-filter test v (numbers_from (f + 1) n) (get-has v (filter test (numbers_from (f + 1) n)) r k)).0

    some-same : (a b : ℕ) → Some a ≡ Some b → a ≡ b
    some-same a b e = cc

    by_place : (r : ℕ) → slice_get (f ∷ filter test (numbers_from (f + 1) n)) r ≡ Some v → test f ≡ true
        → ((q : ℕ) → slice_get (filter test (numbers_from (f + 1) n)) q ≡ Some v → length (filter (λ u. nat_lt u v && test u) (numbers_from (f + 1) n)) ≡ q)
        → length (filter (λ u. nat_lt u v && test u) (numbers_from f (suc n))) ≡ r
    by_place zero k t rest = none-below test v f (suc n) (let s = some-same f v k in omega (arith, s))
    by_place (suc r) k t rest =
        let l = above r k in
        let b : nat_lt f v ≡ true = grind (arith, nat_tests, l) in
        rw (b, t) (ap suc (rest r k))

-- a number that passes stands after those below it that do
kept-at : (test : ℕ → Bool) (f n v : ℕ) → Has v (numbers_from f n) → test v ≡ true
    → slice_get (filter test (numbers_from f n)) (length (filter (λ u. nat_lt u v && test u) (numbers_from f n))) ≡ Some v
kept-at test f zero v h t = absurd h
kept-at test f (suc n) v h t = elim h [
  | inl e ↦
      let own : test f ≡ true = ap test e ∙ t in
      ap (slice_get (filter test (numbers_from f (suc n)))) (none-below test v f (suc n) (omega (arith, e))) ∙ kept-front (numbers_from (f + 1) n) own ∙ ap Some e
  | inr k ↦
      let l = number-from v (f + 1) n k in
      let b : nat_lt f v ≡ true = grind (arith, nat_tests, l) in
      let rest = kept-at test (f + 1) n v k t in
      rw b (elim (cases_Bool (test f)) [ inl s ↦ rw s rest | inr g ↦ rw g rest ])
]
  where
    kept-front : (xs : List ℕ) → test f ≡ true → slice_get (filter test (f ∷ xs)) 0 ≡ Some f
    kept-front xs t = rw t refl

-- ---- stores

to-store : (a : Address) (w : Width) (u : Option SsaUnit) → stores_to a w u ≡ true → (x : Wanted) × (u ≡ Some (Store a w x))
to-store a w None t = absurd (cc)
to-store a w (Some (Load b v)) t = absurd (cc)
to-store a w (Some (Operation op v k xs)) t = absurd (cc)
to-store a w (Some (Store b v x)) t =
    let p = at-place a w (made 0 b v) t in
    (x, ap (λ c. Some (Store c v x)) p.0 ∙ ap (λ y. Some (Store a y x)) p.1)

pub store-of : (ssa : Ssa) (a : Address) (w : Width) (rank v : ℕ) → slice_get (stores_at ssa a w) rank ≡ Some v → IsStoreOf ssa a w rank v
store-of ssa a w rank v e =
    let k = from-filter (λ u. stores_to a w (unit_at ssa u)) v (unit_numbers ssa) (get-has v (stores_at ssa a w) rank e) in
    let s = to-store a w (unit_at ssa v) k.1 in
    record {
      value = s.0;
      store = s.1;
      before = below-kept (λ u. stores_to a w (unit_at ssa u)) (arguments ssa) (length ssa.units) rank v e;
    }

stored-once : (a b : Address) (w x : Width) (y z : Wanted) (u : Option SsaUnit) → u ≡ Some (Store a w y) → u ≡ Some (Store b x z) → (a ≡ b) × (w ≡ x)
stored-once a b w x y z u e f = (cc, cc)

-- a unit is a store of one rank to one place
pub one-store : (ssa : Ssa) (a b : Address) (w x : Width) (r q v : ℕ) → IsStoreOf ssa a w r v → IsStoreOf ssa b x q v → (a ≡ b) × (w ≡ x) × (r ≡ q)
one-store ssa a b w x r q v e f =
    let s = stored-once a b w x e.value f.value (unit_at ssa v) e.store f.store in
    (s.0, s.1, sym e.before ∙ ap (λ c. stores_before ssa c w v) s.0 ∙ ap (λ z. stores_before ssa b z v) s.1 ∙ f.before)

-- it is one of the units
pub store-listed : (ssa : Ssa) (a : Address) (w : Width) (rank v : ℕ) → IsStoreOf ssa a w rank v → Has v (unit_numbers ssa)
store-listed ssa a w rank v s =
    let b = unit-bounds ssa v (Store a w s.value) s.store in
    number-has v (arguments ssa) (length ssa.units) b.0 b.1

-- it stands at the place of its rank
pub store-at : (ssa : Ssa) (a : Address) (w : Width) (rank v : ℕ) → IsStoreOf ssa a w rank v → slice_get (stores_at ssa a w) rank ≡ Some v
store-at ssa a w rank v s =
    let t : stores_to a w (unit_at ssa v) ≡ true = ap (stores_to a w) s.store ∙ own-place (made 0 a w) in
    subst (λ k. slice_get (stores_at ssa a w) k ≡ Some v) s.before
    (kept-at (λ u. stores_to a w (unit_at ssa u)) (arguments ssa) (length ssa.units) v (store-listed ssa a w rank v s) t)
