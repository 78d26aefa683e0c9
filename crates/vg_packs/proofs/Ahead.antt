-- What stands ahead along links is what the definition counts, and groups are aligned by links where they are aligned.
use Rattle.std.proofs.Common.{◌≡◌, ℕ, zero, suc, ◌*◌, ◌/◌, ◌%◌, Bool, true, false, List, [], ◌∷◌, length, map, refl, sym, ◌∙◌, ap, subst, inl, inr, arith}
use Rattle.std.specs.Prelude.{filter, find, nat_eq, option_map, position, Option, Some, None, slice_get}
use Rattle.std.proofs.lemmas.Bool.{cases_Bool}
use Rattle.std.proofs.lemmas.Bool.Decides.{nat_tests}
use Rattle.vg_base.specs.declared.address.Address.{Address}
use Rattle.vg_base.specs.declared.width.Width.{Width}
use Rattle.vg_base.specs.declared.width.Width.TheVariants.{W8, W16, W32, W64}
use Rattle.vg_base.specs.Width.{bits_of, size_of}
use Rattle.vg_plans.specs.Members.{Has}
use Rattle.vg_plans.proofs.Lists.{has-flat_map}
use Rattle.vg_plans.proofs.Members.{from-flat_map}
use Rattle.vg_kernel_plans.specs.Groups.{ahead, is_aligned, is_aligned_at, stores_ahead, stores_at, unit_numbers}
use Rattle.vg_kernel_plans.specs.Taken.{first_width, unit_width}
use Rattle.vg_kernel_plans.proofs.Inside.{unit-number}
use Rattle.vg_kernel_plans.proofs.SameTests.{eq-itself}
use Rattle.vg_shapes.specs.declared.pack.Pack.{Pack}
use Rattle.vg_shapes.specs.declared.pack.Pack.TheVariants.{Stores, Loads, Call}
use Rattle.vg_shapes.specs.declared.ssa.Ssa.{Ssa}
use Rattle.vg_shapes.specs.declared.ssa_unit.SsaUnit.{SsaUnit}
use Rattle.vg_shapes.specs.declared.ssa_unit.SsaUnit.TheVariants.{Load, Store, Operation}
use Rattle.vg_shapes.specs.declared.wanted.Wanted.{Wanted}
use Rattle.vg_shapes.specs.Pack.{stores_before}
use Rattle.vg_shapes.specs.Units.{arguments, is_unit, unit_at}
use Rattle.vg_packs.specs.Aligned.{ahead_in, aheads_of, are_aligned, count_ahead, is_aligned_by, is_pack_aligned}
use Rattle.vg_packs.specs.declared.placed.Link.{Link}
use Rattle.vg_packs.specs.declared.placed.PlacedStore.{PlacedStore}
use Rattle.vg_packs.specs.Placed.{is_ranked, link_behind, placed, placed_as, run_from}
use Rattle.vg_packs.proofs.Chains.{find-is, store-found}
use Rattle.vg_packs.proofs.Listed.{number-has}
use Rattle.vg_packs.proofs.Placing.{linked, ranked-is, unit_of}

-- ---- what stands ahead

abbrev ahead_links : Ssa → List Link
ahead_links ssa = aheads_of (placed ssa)

-- the stores ahead of a place along links
abbrev along : Ssa → ℕ → Address → Width → ℕ → ℕ
along ssa n a w r = length (run_from (ahead_links ssa) n (link_behind (ahead_links ssa) (position (is_ranked (ahead a (size_of w)) w r) (placed ssa))))

-- how many there are after the first that was found
abbrev behind_found : Ssa → Address → Width → ℕ → ℕ → Option ℕ → ℕ
behind_found ssa a w r n None = 0
behind_found ssa a w r n (Some u) = suc (stores_ahead ssa (ahead a (size_of w)) w r n)

aheads-of : (ssa : Ssa) (n : ℕ) (a : Address) (w : Width) (r : ℕ) (o : Option PlacedStore)
    → ((s : PlacedStore) → along ssa n s.address s.width s.rank ≡ stores_ahead ssa s.address s.width s.rank n)
    → ((s : PlacedStore) → o ≡ Some s → is_ranked (ahead a (size_of w)) w r s ≡ true)
    → length (run_from (ahead_links ssa) (suc n) (option_map (ahead_in (placed ssa)) o)) ≡ behind_found ssa a w r n (option_map unit_of o)
aheads-of ssa n a w r None next is = refl
aheads-of ssa n a w r (Some s) next is =
    let same = ranked-is (ahead a (size_of w)) w r s (is s refl) in
    let e = next s
    ∙ ap (λ q. stores_ahead ssa s.address s.width q n) same.0
    ∙ ap (λ b. stores_ahead ssa b s.width r n) same.1
    ∙ ap (λ x. stores_ahead ssa (ahead a (size_of w)) x r n) same.2
    in
    omega (arith, e)

counted-step : (ssa : Ssa) (n : ℕ) (a : Address) (w : Width) (r : ℕ) (o : Option ℕ)
    → slice_get (stores_at ssa (ahead a (size_of w)) w) r ≡ o → stores_ahead ssa a w r (suc n) ≡ behind_found ssa a w r n o
counted-step ssa n a w r None e = rw (e, stores_ahead) refl
counted-step ssa n a w r (Some u) e = rw (e, stores_ahead) refl

pub aheads : (ssa : Ssa) (n : ℕ) (a : Address) (w : Width) (r : ℕ) → along ssa n a w r ≡ stores_ahead ssa a w r n
aheads ssa zero a w r = refl
aheads ssa (suc n) a w r =
    ap (λ o. length (run_from (ahead_links ssa) (suc n) o)) (linked (ahead_in (placed ssa)) (is_ranked (ahead a (size_of w)) w r) (placed ssa))
    ∙ aheads-of ssa n a w r (find (is_ranked (ahead a (size_of w)) w r) (placed ssa))
    (λ s. aheads ssa n s.address s.width s.rank)
    (λ s e. find-is (is_ranked (ahead a (size_of w)) w r) (placed ssa) s e)
    ∙ ap (behind_found ssa a w r n) (store-found ssa (ahead a (size_of w)) w r)
    ∙ sym (counted-step ssa n a w r (slice_get (stores_at ssa (ahead a (size_of w)) w) r) refl)

-- ---- the store of a unit

-- what a placed store is
pub record IsStoreOf (ssa : Ssa) (v : ℕ) (s : PlacedStore) : Type 0 where
  pub value : Wanted
  pub unit : s.unit ≡ v
  pub store : unit_at ssa v ≡ Some (Store s.address s.width value)
  pub rank : s.rank ≡ stores_before ssa s.address s.width v

placed-is : (ssa : Ssa) (v : ℕ) (u : Option SsaUnit) (s : PlacedStore) → unit_at ssa v ≡ u
    → Has s (placed_as v (λ a w. stores_before ssa a w v) u) → IsStoreOf ssa v s
placed-is ssa v None s e h = absurd h
placed-is ssa v (Some (Load a w)) s e h = absurd h
placed-is ssa v (Some (Operation op w k xs)) s e h = absurd h
placed-is ssa v (Some (Store a w x)) s e h = elim h [
  | inl q ↦ subst (IsStoreOf ssa v) q (record { value = x; unit = refl; store = e; rank = refl })
  | inr n ↦ absurd n
]

-- a link that is found by its unit is that of a store
link-of : (ssa : Ssa) (v : ℕ) (stores all : List PlacedStore) (l : Link)
    → find (λ (l : Link). nat_eq l.unit v) (map (ahead_in all) stores) ≡ Some l
    → (s : PlacedStore) × Has s stores × (l ≡ ahead_in all s) × (s.unit ≡ v)
link-of ssa v [] all l e = absurd (cc)
link-of ssa v (s ∷ stores) all l e = elim (cases_Bool (nat_eq s.unit v)) [
  | inl t ↦ let k : Some (ahead_in all s) ≡ Some l = rw t at e in (s, inl refl, same-some l (ahead_in all s) (sym k), grind (arith, nat_tests, t))
  | inr f ↦ let k = link-of ssa v stores all l (rw f at e) in (k.0, inr k.1, k.2, k.3)
]
  where
    same-some : (a b : Link) → Some a ≡ Some b → a ≡ b
    same-some a b e = cc

-- no link has the unit
no-link : (v : ℕ) (stores all : List PlacedStore) → find (λ (l : Link). nat_eq l.unit v) (map (ahead_in all) stores) ≡ None
    → (s : PlacedStore) → Has s stores → s.unit ≡ v → ⊥
no-link v [] all e s h u = h
no-link v (q ∷ stores) all e s h u = elim (cases_Bool (nat_eq q.unit v)) [
  | inl t ↦ absurd (let k : Some (ahead_in all q) ≡ None = rw t at e in cc)
  | inr f ↦ elim h [
    | inl same ↦ let t : nat_eq q.unit v ≡ true = ap (λ (x : PlacedStore). nat_eq x.unit v) same ∙ ap (λ n. nat_eq n v) u ∙ eq-itself v in absurd (cc)
    | inr r ↦ no-link v stores all (rw f at e) s r u
  ]
]

made-of : (ssa : Ssa) (s : PlacedStore) → Has s (placed ssa) → IsStoreOf ssa s.unit s
made-of ssa s h =
    let k = from-flat_map (λ v. placed_as v (λ a w. stores_before ssa a w v) (unit_at ssa v)) s (unit_numbers ssa) h in
    let i = placed-is ssa k.0 (unit_at ssa k.0) s refl k.2 in
    subst (λ n. IsStoreOf ssa n s) (sym i.unit) i

-- each store is placed
is-placed : (ssa : Ssa) (v : ℕ) (a : Address) (w : Width) (x : Wanted) → unit_at ssa v ≡ Some (Store a w x)
    → (s : PlacedStore) × Has s (placed ssa) × (s.unit ≡ v)
is-placed ssa v a w x e =
    let there : is_unit ssa v ≡ true = rw e refl in
    let n = unit-number ssa v there in
    let s : PlacedStore = record { unit = v; address = a; width = w; rank = stores_before ssa a w v } in
    let of : ℕ → List PlacedStore = λ v. placed_as v (λ a w. stores_before ssa a w v) (unit_at ssa v) in
    let own : Has s (of v) = subst (λ u. Has s (placed_as v (λ a w. stores_before ssa a w v) u)) (sym e) (inl refl) in
    (s, has-flat_map of v s (unit_numbers ssa) (number-has v (arguments ssa) (length ssa.units) n.0 n.1) own, refl)

not-aligned : (ssa : Ssa) (size v : ℕ) (u : Option SsaUnit) → ((a : Address) (w : Width) (x : Wanted) → u ≡ Some (Store a w x) → ⊥)
    → is_aligned_at ssa size v u ≡ false
not-aligned ssa size v None n = refl
not-aligned ssa size v (Some (Load a w)) n = refl
not-aligned ssa size v (Some (Operation op w k xs)) n = refl
not-aligned ssa size v (Some (Store a w x)) n = absurd (n a w x refl)

aligned-as : (ssa : Ssa) (size v : ℕ) (u : Option SsaUnit) (a : Address) (w : Width) (x : Wanted) → u ≡ Some (Store a w x)
    → is_aligned_at ssa size v u ≡ nat_eq ((stores_ahead ssa a w (stores_before ssa a w v) (length ssa.units) * size_of w) % size) 0
aligned-as ssa size v u a w x e = rw e refl

pub aligned-by : (ssa : Ssa) (size v : ℕ) → is_aligned_by (aheads_of (placed ssa)) (length ssa.units) size v ≡ is_aligned_at ssa size v (unit_at ssa v)
aligned-by ssa size v = by_link (find (λ (l : Link). nat_eq l.unit v) (ahead_links ssa)) refl
  where
    by_link : (o : Option Link) → find (λ (l : Link). nat_eq l.unit v) (ahead_links ssa) ≡ o
        → (elim o as (λ l. Bool) [ None ↦ false | Some l ↦ nat_eq ((count_ahead (ahead_links ssa) (length ssa.units) l * size_of l.width) % size) 0 ]) ≡ is_aligned_at ssa size v (unit_at ssa v)
    by_link None e = sym (not-aligned ssa size v (unit_at ssa v) (λ a w x t. let s = is-placed ssa v a w x t in no-link v (placed ssa) (placed ssa) e s.0 s.1 s.2))
    by_link (Some l) e =
        let k = link-of ssa v (placed ssa) (placed ssa) l e in
        let s = k.0 in
        let i : IsStoreOf ssa v s = subst (λ n. IsStoreOf ssa n s) k.3 (made-of ssa s k.1) in
        let count : count_ahead (ahead_links ssa) (length ssa.units) l ≡ stores_ahead ssa s.address s.width s.rank (length ssa.units) =
        ap (λ (q : Link). count_ahead (ahead_links ssa) (length ssa.units) q) k.2 ∙ aheads ssa (length ssa.units) s.address s.width s.rank
        in
        let width : l.width ≡ s.width = ap (λ (q : Link). q.width) k.2 in
        let most = length ssa.units in
        ap (λ n. nat_eq ((n * size_of l.width) % size) 0) count
        ∙ ap (λ (x : Width). nat_eq ((stores_ahead ssa s.address s.width s.rank most * size_of x) % size) 0) width
        ∙ ap (λ r. nat_eq ((stores_ahead ssa s.address s.width r most * size_of s.width) % size) 0) i.rank
        ∙ sym (aligned-as ssa size v (unit_at ssa v) s.address s.width i.value i.store)

pub pack-aligned : (ssa : Ssa) (links : List Link) → links ≡ aheads_of (placed ssa) → (p : Pack) → is_pack_aligned ssa links p ≡ is_aligned ssa p
pack-aligned ssa links e (Stores []) = refl
pack-aligned ssa links e (Stores (v ∷ us)) =
    let size = length (v ∷ us) * first_width ssa (v ∷ us) / 8 in
    ap (λ ls. is_aligned_by ls (length ssa.units) size v) e ∙ aligned-by ssa size v
pack-aligned ssa links e (Loads us) = refl
pack-aligned ssa links e (Call d lanes) = refl

pub all-aligned : (ssa : Ssa) (links : List Link) → links ≡ aheads_of (placed ssa) → (ps : List Pack)
    → filter (is_pack_aligned ssa links) ps ≡ filter (is_aligned ssa) ps
all-aligned ssa links e [] = refl
all-aligned ssa links e (p ∷ ps) = rw (pack-aligned ssa links e p, all-aligned ssa links e ps) refl

-- ---- stores of no bytes

some-bytes : (n : ℕ) (w : Width) → suc n * bits_of w / 8 ≡ 0 → ⊥
some-bytes n W8 e = omega (arith, e)
some-bytes n W16 e = omega (arith, e)
some-bytes n W32 e = omega (arith, e)
some-bytes n W64 e = omega (arith, e)

no-bytes-at : (ssa : Ssa) (n v : ℕ) (u : Option SsaUnit) → suc n * unit_width u / 8 ≡ 0 → is_aligned_at ssa (suc n * unit_width u / 8) v u ≡ false
no-bytes-at ssa n v None e = refl
no-bytes-at ssa n v (Some (Load a w)) e = refl
no-bytes-at ssa n v (Some (Operation op w k xs)) e = refl
no-bytes-at ssa n v (Some (Store a w x)) e = absurd (some-bytes n w e)

pub no-bytes : (ssa : Ssa) (links : List Link) (us : List ℕ) (bytes : ℕ) → links ≡ aheads_of (placed ssa)
    → bytes ≡ length us * first_width ssa us / 8 → bytes ≡ 0 → false ≡ are_aligned ssa links us
no-bytes ssa links [] bytes e b z = refl
no-bytes ssa links (v ∷ us) bytes e b z =
    sym (pack-aligned ssa links e (Stores (v ∷ us)) ∙ no-bytes-at ssa (length us) v (unit_at ssa v) (sym b ∙ z))
