-- Aligned groups of one size are the same or apart: going back from a store that two have ends at one place, and the groups
-- begin multiples of one number of places behind it.
use Rattle.std.proofs.Common.{◌≡◌, ℕ, zero, suc, ◌+◌, ◌*◌, ◌/◌, ◌%◌, ◌<◌, ◌≤◌, true, List, [], ◌∷◌, length, refl, sym, ◌∙◌, ap, subst, inl, inr, arith}
use Rattle.std.specs.Prelude.{◌&&◌, if◌then◌else◌, is_some, nat_eq, nat_le, Option, Some, None, slice_get}
use Rattle.std.specs.List.{filter_map, list_all}
use Rattle.std.proofs.lemmas.Bool.{cases_Bool}
use Rattle.std.proofs.lemmas.Bool.Decides.{nat_tests}
use Rattle.std.proofs.Math.Nat.{add-mul, mul-div_cancel, mul-mod_left, mul_assoc, suc-mul}
use Rattle.std.proofs.lemmas.Nat.{div-add-mod', div-mul-add}
use Rattle.vg_base.specs.declared.address.Address.{Address}
use Rattle.vg_base.specs.declared.width.Width.{Width}
use Rattle.vg_base.specs.declared.width.Width.TheVariants.{W8, W16, W32, W64}
use Rattle.vg_base.specs.Width.{bits_of, size_of}
use Rattle.vg_group_laws.specs.Tiles.{IsStoreOf, IsStored, IsTile}
use Rattle.vg_group_laws.proofs.Addresses.{ahead-behind, behind-ahead, behind-behind, behind-none, not-behind, size-some}
use Rattle.vg_group_laws.proofs.Back.{Back, back-place, back-taken, here, more, on, on-is, one-start}
use Rattle.vg_group_laws.proofs.Stored.{one-store, store-at, store-listed, store-of}
use Rattle.vg_kernel_plans.specs.Groups.{ahead, aligned_groups, group_of, groups_of, is_aligned, is_aligned_at, store_groups, stores_ahead, stores_at, stores_from, unit_numbers}
use Rattle.vg_kernel_plans.specs.Taken.{first_width, unit_width}
use Rattle.vg_kernel_plans.proofs.SameTests.{both-true}
use Rattle.vg_plans.specs.Members.{Every, Has}
use Rattle.vg_plans.proofs.Disjoint.{unique-length}
use Rattle.vg_plans.proofs.Lists.{every-has, every-implies}
use Rattle.vg_plans.proofs.Members.{Includes, Unique, from-filter, from-flat_map, has-filter}
use Rattle.vg_shapes.specs.declared.pack.Pack.{Pack}
use Rattle.vg_shapes.specs.declared.pack.Pack.TheVariants.{Stores}
use Rattle.vg_shapes.specs.declared.ssa.Ssa.{Ssa}
use Rattle.vg_shapes.specs.declared.ssa_unit.SsaUnit.{SsaUnit}
use Rattle.vg_shapes.specs.declared.ssa_unit.SsaUnit.TheVariants.{Load, Store, Operation}
use Rattle.vg_shapes.specs.declared.wanted.Wanted.{Wanted}
use Rattle.vg_shapes.specs.Order.{numbers_from}
use Rattle.vg_shapes.specs.Pack.{behind, stores_before, units_of}
use Rattle.vg_shapes.specs.Units.{arguments, unit_at}

-- some store of the rank stands at a place
abbrev Stands : Ssa → Width → ℕ → Address → Type 0
Stands ssa w rank a = (v : ℕ) × (slice_get (stores_at ssa a w) rank ≡ Some v)

-- stores of a rank beside each other
abbrev AreRanked : Ssa → Width → ℕ → Address → List ℕ → Type 0
AreRanked ssa w rank a [] = Unit {0}
AreRanked ssa w rank a (u ∷ us) = (slice_get (stores_at ssa a w) rank ≡ Some u) × AreRanked ssa w rank (behind a (size_of w)) us

-- ---- stores ahead

-- a unit stores behind a place
abbrev StoresBehind : Ssa → Width → Address → ℕ → Type 0
StoresBehind ssa w a v = (j : ℕ) × (x : Wanted) × (unit_at ssa v ≡ Some (Store (behind a (suc j)) w x))

-- where counting ends
record CountedAhead (ssa : Ssa) (w : Width) (rank count : ℕ) (b : Address) : Type 0 where
  pub start : Address
  pub back : Back (Stands ssa w rank) (size_of w) count b start
  pub none : Stands ssa w rank (ahead start (size_of w)) → ⊥

behind-more : (ssa : Ssa) (w : Width) (a : Address) (v : ℕ) → StoresBehind ssa w a v → StoresBehind ssa w (ahead a (size_of w)) v
behind-more ssa w a v k =
    let e : size_of w + suc k.0 ≡ suc (size_of w + k.0) = omega arith in
    let place : behind a (suc k.0) ≡ behind (ahead a (size_of w)) (suc (size_of w + k.0)) =
    ap (λ c. behind c (suc k.0)) (sym (behind-ahead a (size_of w))) ∙ behind-behind (ahead a (size_of w)) (size_of w) (suc k.0)
    ∙ ap (behind (ahead a (size_of w))) e
    in
    (size_of w + k.0, k.1, k.2 ∙ ap (λ c. Some (Store c w k.1)) place)

length-numbers : (f n : ℕ) → length (numbers_from f n) ≡ n
length-numbers f zero = refl
length-numbers f (suc n) = let h = length-numbers (f + 1) n in omega (arith, h)

-- a store that is counted is one more
one-more : (ssa : Ssa) (w : Width) (rank u : ℕ) (b : Address) (done : List ℕ) → slice_get (stores_at ssa b w) rank ≡ Some u → Unique done
    → Includes done (unit_numbers ssa) → Every (StoresBehind ssa w b) done → Unique (u ∷ done) × Includes (u ∷ done) (unit_numbers ssa)
one-more ssa w rank u b done e q i all =
    let s = store-of ssa b w rank u e in (
      (
        (λ h.
            let k = every-has (StoresBehind ssa w b) u done all h in
            not-behind b k.0 (same-place b (behind b (suc k.0)) w s.value k.1 (unit_at ssa u) s.store k.2)),
        q,
      ),
      (λ x h. elim h [ inl same ↦ subst (λ z. Has z (unit_numbers ssa)) same (store-listed ssa b w rank u s) | inr r ↦ i x r ]),
    )
  where
    same-place : (a c : Address) (w : Width) (y z : Wanted) (o : Option SsaUnit) → o ≡ Some (Store a w y) → o ≡ Some (Store c w z) → a ≡ c
    same-place a c w y z o e f = cc

count-ahead : (ssa : Ssa) (w : Width) (rank n u : ℕ) (b : Address) (done : List ℕ) → slice_get (stores_at ssa b w) rank ≡ Some u → Unique done
    → Includes done (unit_numbers ssa) → Every (StoresBehind ssa w b) done → length ssa.units ≤ n + length done
    → CountedAhead ssa w rank (stores_ahead ssa b w rank n) b
count-ahead ssa w rank zero u b done e q i all le =
    let m = one-more ssa w rank u b done e q i all in
    let longer = unique-length (u ∷ done) (unit_numbers ssa) m.0 m.1 in
    let many = length-numbers (arguments ssa) (length ssa.units) in
    absurd (omega (arith, longer, many, le))
count-ahead ssa w rank (suc n) u b done e q i all le =
    by_found (slice_get (stores_at ssa (ahead b (size_of w)) w) rank) refl (λ v. count-ahead ssa w rank n v (ahead b (size_of w)))
  where
    by_found : (found : Option ℕ) → slice_get (stores_at ssa (ahead b (size_of w)) w) rank ≡ found
        → ((v : ℕ) (more : List ℕ) → slice_get (stores_at ssa (ahead b (size_of w)) w) rank ≡ Some v → Unique more → Includes more (unit_numbers ssa)
        → Every (StoresBehind ssa w (ahead b (size_of w))) more → length ssa.units ≤ n + length more
        → CountedAhead ssa w rank (stores_ahead ssa (ahead b (size_of w)) w rank n) (ahead b (size_of w)))
        → CountedAhead ssa w rank (elim found as (λ v. ℕ) [ None ↦ 0 | Some v ↦ suc (stores_ahead ssa (ahead b (size_of w)) w rank n) ]) b
    by_found None f rest = record {
      start = b;
      back = here b;
      none = λ k. absurd (let g : None ≡ Some k.0 = sym f ∙ k.1 in cc);
    }
    by_found (Some v) f rest =
        let s = store-of ssa b w rank u e in
        let m = one-more ssa w rank u b done e q i all in
        let z = size-some w in
        let own : StoresBehind ssa w (ahead b (size_of w)) u =
        (z.0, s.value, s.store ∙ ap (λ c. Some (Store c w s.value)) (sym (behind-ahead b (size_of w)) ∙ ap (behind (ahead b (size_of w))) z.1))
        in
        let k = rest v (u ∷ done) f m.0 m.1 (own, every-implies (StoresBehind ssa w b) (StoresBehind ssa w (ahead b (size_of w))) (behind-more ssa w b) done all)
        (omega (arith, le))
        in
        record {
          start = k.start;
          back = more (stores_ahead ssa (ahead b (size_of w)) w rank n) b k.start (v, f) k.back;
          none = k.none;
        }

-- ---- tiles

-- stores of a rank beside each other that begin a multiple of as many places behind the first of their run
record Tile (ssa : Ssa) (w : Width) (rank : ℕ) (us : List ℕ) : Type 0 where
  pub first : Address
  pub stores : AreRanked ssa w rank first us
  pub start : Address
  pub turns : ℕ
  pub some : 0 < length us
  pub back : Back (Stands ssa w rank) (size_of w) (turns * length us) first start
  pub none : Stands ssa w rank (ahead start (size_of w)) → ⊥

-- a unit of stores beside each other, and the way back from it
record UnitBack (ssa : Ssa) (w : Width) (rank n m v : ℕ) (start : Address) : Type 0 where
  pub place : Address
  pub steps : ℕ
  pub less : steps < m
  pub is : IsStoreOf ssa place w rank v
  pub back : Back (Stands ssa w rank) (size_of w) (n + steps) place start

unit-back : (ssa : Ssa) (w : Width) (rank n v : ℕ) (a start : Address) (us : List ℕ) → Back (Stands ssa w rank) (size_of w) n a start
    → AreRanked ssa w rank a us → Has v us → UnitBack ssa w rank n (length us) v start
unit-back ssa w rank n v a start [] k r h = absurd h
unit-back ssa w rank n v a start (u ∷ us) k r h = elim h [
  | inl e ↦
      let z : n ≡ n + 0 = omega arith in
      record {
        place = a;
        steps = 0;
        less = omega arith;
        is = subst (IsStoreOf ssa a w rank) e (store-of ssa a w rank u r.0);
        back = subst (λ m. Back (Stands ssa w rank) (size_of w) m a start) z k;
      }
  | inr q ↦
      let same = sym (ahead-behind a (size_of w)) in
      let step : Back (Stands ssa w rank) (size_of w) (suc n) (behind a (size_of w)) start =
      more n (behind a (size_of w)) start (subst (Stands ssa w rank) same (u, r.0))
      (subst (λ c. Back (Stands ssa w rank) (size_of w) n c start) same k)
      in
      let y = unit-back ssa w rank (suc n) v (behind a (size_of w)) start us step r.1 q in
      let less = y.less in
      let z : suc n + y.steps ≡ n + suc y.steps = omega arith in
      record {
        place = y.place;
        steps = suc y.steps;
        less = omega (arith, less);
        is = y.is;
        back = subst (λ m. Back (Stands ssa w rank) (size_of w) m y.place start) z y.back;
      }
]

ranked-same : (ssa : Ssa) (w : Width) (rank : ℕ) (a b : Address) (us vs : List ℕ) → a ≡ b → length us ≡ length vs
    → AreRanked ssa w rank a us → AreRanked ssa w rank b vs → us ≡ vs
ranked-same ssa w rank a b [] [] e l r q = refl
ranked-same ssa w rank a b [] (v ∷ vs) e l r q = absurd (omega (arith, l))
ranked-same ssa w rank a b (u ∷ us) [] e l r q = absurd (omega (arith, l))
ranked-same ssa w rank a b (u ∷ us) (v ∷ vs) e l r q =
    let s : Some u ≡ Some v = sym r.0 ∙ ap (λ c. slice_get (stores_at ssa c w) rank) e ∙ q.0 in
    let rest = ranked-same ssa w rank (behind a (size_of w)) (behind b (size_of w)) us vs (ap (λ c. behind c (size_of w)) e) (omega (arith, l)) r.1 q.1 in
    ap (λ x. x ∷ us) (some-same u v s) ∙ ap (λ xs. v ∷ xs) rest
  where
    some-same : (a b : ℕ) → Some a ≡ Some b → a ≡ b
    some-same a b e = cc

two-tiles : (ssa : Ssa) (w : Width) (rank : ℕ) (us vs : List ℕ) (v : ℕ) → Tile ssa w rank us → Tile ssa w rank vs → length us ≡ length vs
    → Has v us → Has v vs → us ≡ vs
two-tiles ssa w rank us vs v p q l h k =
    let m = length us in
    let x = unit-back ssa w rank (p.turns * m) v p.first p.start us p.back p.stores h in
    let y = unit-back ssa w rank (q.turns * length vs) v q.first q.start vs q.back q.stores k in
    let same = one-store ssa y.place x.place w w rank rank v y.is x.is in
    let back : Back (Stands ssa w rank) (size_of w) (q.turns * length vs + y.steps) x.place q.start =
    subst (λ c. Back (Stands ssa w rank) (size_of w) (q.turns * length vs + y.steps) c q.start) same.0 y.back
    in
    let s = one-start (Stands ssa w rank) (size_of w) (p.turns * m + x.steps) (q.turns * length vs + y.steps) x.place p.start q.start x.back back p.none q.none in
    let steps : p.turns * m + x.steps ≡ q.turns * m + y.steps = s.1 ∙ ap (λ n. q.turns * n + y.steps) (sym l) in
    let less : y.steps < m = subst (λ n. y.steps < n) (sym l) y.less in
    let turns : p.turns ≡ q.turns = sym (div-mul-add p.turns m x.steps x.less) ∙ ap (λ n. n / m) steps ∙ div-mul-add q.turns m y.steps less in
    let first : p.first ≡ q.first =
    back-place (Stands ssa w rank) (size_of w) (p.turns * m) p.first p.start p.back
    ∙ ap (on (size_of w) (p.turns * m)) s.0 ∙ ap (λ n. on (size_of w) (n * m) q.start) turns ∙ ap (λ n. on (size_of w) (q.turns * n) q.start) l
    ∙ sym (back-place (Stands ssa w rank) (size_of w) (q.turns * length vs) q.first q.start q.back)
    in
    ranked-same ssa w rank p.first q.first us vs first l p.stores q.stores

-- ---- aligned groups

ranked-from : (ssa : Ssa) (w : Width) (rank n : ℕ) (a : Address) → list_all is_some (stores_from ssa a w rank n) ≡ true
    → AreRanked ssa w rank a (filter_map (λ u. u) (stores_from ssa a w rank n))
ranked-from ssa w rank zero a t = tt
ranked-from ssa w rank (suc n) a t = by_found (slice_get (stores_at ssa a w) rank) refl (ranked-from ssa w rank n (behind a (size_of w))) t
  where
    by_found : (found : Option ℕ) → slice_get (stores_at ssa a w) rank ≡ found
        → (list_all is_some (stores_from ssa (behind a (size_of w)) w rank n) ≡ true
        → AreRanked ssa w rank (behind a (size_of w)) (filter_map (λ u. u) (stores_from ssa (behind a (size_of w)) w rank n)))
        → list_all is_some (found ∷ stores_from ssa (behind a (size_of w)) w rank n) ≡ true
        → AreRanked ssa w rank a (filter_map (λ u. u) (found ∷ stores_from ssa (behind a (size_of w)) w rank n))
    by_found None e rest t = absurd (cc)
    by_found (Some u) e rest t = (e, rest t)

-- stores of a rank beside each other that are a pack
record AreStored (ssa : Ssa) (p : Pack) : Type 0 where
  pub width : Width
  pub rank : ℕ
  pub first : Address
  pub units : List ℕ
  pub pack : p ≡ Stores units
  pub stores : AreRanked ssa width rank first units

group-stored : (ssa : Ssa) (size v : ℕ) (u : Option SsaUnit) (p : Pack) → Has p (group_of ssa size v u) → AreStored ssa p
group-stored ssa size v None p h = absurd h
group-stored ssa size v (Some (Load a w)) p h = absurd h
group-stored ssa size v (Some (Operation op w k xs)) p h = absurd h
group-stored ssa size v (Some (Store a w x)) p h =
    by_test (stores_from ssa a w (stores_before ssa a w v) (size / size_of w)) (λ t. ranked-from ssa w (stores_before ssa a w v) (size / size_of w) a t) h
  where
    by_test : (found : List (Option ℕ)) → (list_all is_some found ≡ true → AreRanked ssa w (stores_before ssa a w v) a (filter_map (λ u. u) found))
        → Has p (if nat_le 2 (length found) && list_all is_some found then Stores (filter_map (λ u. u) found) ∷ [] else []) → AreStored ssa p
    by_test found ranked h = elim (cases_Bool (nat_le 2 (length found) && list_all is_some found)) [
      | inl t ↦ elim (rw t at h) [
        | inl e ↦
            record {
              width = w;
              rank = stores_before ssa a w v;
              first = a;
              units = filter_map (λ u. u) found;
              pack = sym e;
              stores = ranked (both-true (nat_le 2 (length found)) (list_all is_some found) t).1;
            }
        | inr n ↦ absurd n
      ]
      | inr f ↦ absurd (rw f at h)
    ]

groups-stored : (ssa : Ssa) (p : Pack) → Has p (store_groups ssa) → AreStored ssa p
groups-stored ssa p h =
    let k = from-flat_map (groups_of ssa) p (64 ∷ 32 ∷ 16 ∷ 8 ∷ 4 ∷ []) h in
    let m = from-flat_map (λ v. group_of ssa k.0 v (unit_at ssa v)) p (unit_numbers ssa) k.2 in
    group-stored ssa k.0 m.0 (unit_at ssa m.0) p m.2

aligned-as : (ssa : Ssa) (size v : ℕ) (u : Option SsaUnit) (a : Address) (w : Width) (x : Wanted) → u ≡ Some (Store a w x)
    → is_aligned_at ssa size v u ≡ nat_eq ((stores_ahead ssa a w (stores_before ssa a w v) (length ssa.units) * size_of w) % size) 0
aligned-as ssa size v u a w x e = rw e refl

bytes-of : (w : Width) (n : ℕ) → n * bits_of w / 8 ≡ n * size_of w
bytes-of w n = ap (λ m. m / 8) (eights w) ∙ mul-div_cancel (n * size_of w) (omega arith)
  where
    eights : (w : Width) → n * bits_of w ≡ n * size_of w * 8
    eights W8 = omega arith
    eights W16 = omega arith
    eights W32 = omega arith
    eights W64 = omega arith

-- so many bytes of whole places are a multiple of those of some places
whole-turns : (w : Width) (count m : ℕ) → count * size_of w % (m * size_of w) ≡ 0 → (n : ℕ) × (count ≡ n * m)
whole-turns w count m e =
    let n = count * size_of w / (m * size_of w) in
    let d = div-add-mod' (count * size_of w) (m * size_of w) in
    let all : count * size_of w ≡ n * m * size_of w =
    (let z : n * (m * size_of w) + count * size_of w % (m * size_of w) ≡ n * (m * size_of w) = omega (arith, e) in sym d ∙ z) ∙ sym (mul_assoc n m (size_of w))
    in
    (n, cancel w (n * m) all)
  where
    cancel : (w : Width) (x : ℕ) → count * size_of w ≡ x * size_of w → count ≡ x
    cancel W8 x e = omega (arith, e)
    cancel W16 x e = omega (arith, e)
    cancel W32 x e = omega (arith, e)
    cancel W64 x e = omega (arith, e)

-- whether stores beside each other are aligned
aligned-by : (ssa : Ssa) (w : Width) (rank : ℕ) (a : Address) (u : ℕ) (us : List ℕ) → IsStoreOf ssa a w rank u
    → is_aligned ssa (Stores (u ∷ us)) ≡ nat_eq (stores_ahead ssa a w rank (length ssa.units) * size_of w % (length (u ∷ us) * size_of w)) 0
aligned-by ssa w rank a u us s =
    let m = length (u ∷ us) in
    let size : m * first_width ssa (u ∷ us) / 8 ≡ m * size_of w =
    ap (λ o. m * unit_width o / 8) s.store ∙ bytes-of w m
    in
    aligned-as ssa (m * first_width ssa (u ∷ us) / 8) u (unit_at ssa u) a w s.value s.store
    ∙ ap (λ k. nat_eq ((stores_ahead ssa a w k (length ssa.units) * size_of w) % (m * first_width ssa (u ∷ us) / 8)) 0) s.before
    ∙ ap (λ b. nat_eq ((stores_ahead ssa a w rank (length ssa.units) * size_of w) % b) 0) size

tile-of : (ssa : Ssa) (w : Width) (rank : ℕ) (a : Address) (us : List ℕ) → AreRanked ssa w rank a us → is_aligned ssa (Stores us) ≡ true → Tile ssa w rank us
tile-of ssa w rank a [] r t = absurd (cc)
tile-of ssa w rank a (u ∷ us) r t =
    let m = length (u ∷ us) in
    let count = stores_ahead ssa a w rank (length ssa.units) in
    let same : nat_eq (count * size_of w % (m * size_of w)) 0 ≡ true = sym (aligned-by ssa w rank a u us (store-of ssa a w rank u r.0)) ∙ t in
    let whole = whole-turns w count m (eq-is (count * size_of w % (m * size_of w)) 0 same) in
    let k = count-ahead ssa w rank (length ssa.units) u a [] r.0 tt (λ x h. absurd h) tt (omega arith) in
    record {
      first = a;
      stores = r;
      start = k.start;
      turns = whole.0;
      some = omega arith;
      back = subst (λ n. Back (Stands ssa w rank) (size_of w) n a k.start) whole.1 k.back;
      none = k.none;
    }
  where
    eq-is : (a b : ℕ) → nat_eq a b ≡ true → a ≡ b
    eq-is a b t = grind (arith, nat_tests, t)

-- ---- the laws

-- the stores beside each other, by their places
ranked-at : (ssa : Ssa) (w : Width) (rank : ℕ) (a : Address) (us : List ℕ) (i v : ℕ) → AreRanked ssa w rank a us → slice_get us i ≡ Some v
    → slice_get (stores_at ssa (behind a (i * size_of w)) w) rank ≡ Some v
ranked-at ssa w rank a [] i v r e = absurd (cc)
ranked-at ssa w rank a (u ∷ us) zero v r e =
    let z : 0 ≡ 0 * size_of w = omega arith in
    subst (λ c. slice_get (stores_at ssa c w) rank ≡ Some v) (sym (behind-none a) ∙ ap (behind a) z) (r.0 ∙ e)
ranked-at ssa w rank a (u ∷ us) (suc i) v r e =
    let m = suc-mul i (size_of w) in
    let z : size_of w + i * size_of w ≡ suc i * size_of w = omega (arith, m) in
    subst (λ c. slice_get (stores_at ssa c w) rank ≡ Some v) (behind-behind a (size_of w) (i * size_of w) ∙ ap (behind a) z)
    (ranked-at ssa w rank (behind a (size_of w)) us i v r.1 e)

made-tile : (ssa : Ssa) (w : Width) (rank : ℕ) (us : List ℕ) → Tile ssa w rank us → IsTile ssa us
made-tile ssa w rank us t =
    let m = length us in
    let first : t.first ≡ behind t.start (t.turns * m * size_of w) =
    back-place (Stands ssa w rank) (size_of w) (t.turns * m) t.first t.start t.back ∙ on-is (size_of w) (t.turns * m) t.start
    in
    record {
      width = w;
      rank = rank;
      start = t.start;
      turns = t.turns;
      some = t.some;
      none_ahead = λ k. t.none (k.0, store-at ssa (ahead t.start (size_of w)) w rank k.0 k.1);
      between = λ j l.
          let k = back-taken (Stands ssa w rank) (size_of w) (t.turns * m) j t.first t.start t.back l in
          subst (IsStored ssa w rank) (on-is (size_of w) j t.start) (k.0, store-of ssa (on (size_of w) j t.start) w rank k.0 k.1);
      stores = λ i v e.
          let place : behind t.first (i * size_of w) ≡ behind t.start ((t.turns * m + i) * size_of w) =
          ap (λ c. behind c (i * size_of w)) first ∙ behind-behind t.start (t.turns * m * size_of w) (i * size_of w)
          ∙ ap (behind t.start) (sym (add-mul (t.turns * m) i (size_of w)))
          in
          subst (λ c. IsStoreOf ssa c w rank v) place
          (store-of ssa (behind t.first (i * size_of w)) w rank v (ranked-at ssa w rank t.first us i v t.stores e));
    }

pub groups-are-tiles : (ssa : Ssa) (p : Pack) → Has p (aligned_groups ssa) → (us : List ℕ) × (p ≡ Stores us) × IsTile ssa us
groups-are-tiles ssa p h =
    let a = from-filter (is_aligned ssa) p (store_groups ssa) h in
    let x = groups-stored ssa p a.0 in
    let t = tile-of ssa x.width x.rank x.first x.units x.stores (subst (λ g. is_aligned ssa g ≡ true) x.pack a.1) in
    (x.units, x.pack, made-tile ssa x.width x.rank x.units t)

pub groups-tile : (ssa : Ssa) (p q : Pack) (v : ℕ) → Has p (aligned_groups ssa) → Has q (aligned_groups ssa) → length (units_of p) ≡ length (units_of q)
    → Has v (units_of p) → Has v (units_of q) → p ≡ q
groups-tile ssa p q v h k l i j =
    let a = from-filter (is_aligned ssa) p (store_groups ssa) h in
    let b = from-filter (is_aligned ssa) q (store_groups ssa) k in
    let x = groups-stored ssa p a.0 in
    let y = groups-stored ssa q b.0 in
    let t = tile-of ssa x.width x.rank x.first x.units x.stores (subst (λ g. is_aligned ssa g ≡ true) x.pack a.1) in
    let s = tile-of ssa y.width y.rank y.first y.units y.stores (subst (λ g. is_aligned ssa g ≡ true) y.pack b.1) in
    let has_x : Has v x.units = subst (λ g. Has v (units_of g)) x.pack i in
    let has_y : Has v y.units = subst (λ g. Has v (units_of g)) y.pack j in
    let u = unit-back ssa x.width x.rank (t.turns * length x.units) v t.first t.start x.units t.back t.stores has_x in
    let o = unit-back ssa y.width y.rank (s.turns * length y.units) v s.first s.start y.units s.back s.stores has_y in
    let same = one-store ssa o.place u.place y.width x.width y.rank x.rank v o.is u.is in
    let moved : Tile ssa x.width x.rank y.units = subst (λ w. Tile ssa w x.rank y.units) same.1 (subst (λ r. Tile ssa y.width r y.units) same.2 s) in
    let lengths : length x.units ≡ length y.units = ap (λ g. length (units_of g)) (sym x.pack) ∙ l ∙ ap (λ g. length (units_of g)) y.pack in
    x.pack ∙ ap Stores (two-tiles ssa x.width x.rank x.units y.units v t moved lengths has_x has_y) ∙ sym y.pack

-- ---- tiles are aligned

-- places that are taken, from one on
back-of : (Taken : Address → Type 0) (s n : ℕ) (a : Address) → ((j : ℕ) → j < n → Taken (behind a (j * s))) → Back Taken s n (behind a (n * s)) a
back-of Taken s zero a f =
    let z : 0 ≡ 0 * s = omega arith in
    subst (λ b. Back Taken s zero b a) (sym (behind-none a) ∙ ap (behind a) z) (here a)
back-of Taken s (suc n) a f =
    let m : suc n * s ≡ n * s + s = suc-mul n s in
    let place : behind a (n * s) ≡ ahead (behind a (suc n * s)) s =
    sym (ahead-behind (behind a (n * s)) s) ∙ ap (λ c. ahead c s) (behind-behind a (n * s) s ∙ ap (behind a) (sym m))
    in
    more n (behind a (suc n * s)) a (subst Taken place (f n (omega arith)))
    (subst (λ b. Back Taken s n b a) place (back-of Taken s n a (λ j l. f j (omega (arith, l)))))

is-tile-aligned : (ssa : Ssa) (us : List ℕ) → IsTile ssa us → is_aligned ssa (Stores us) ≡ true
is-tile-aligned ssa [] t = let l = t.some in absurd (omega (arith, l))
is-tile-aligned ssa (u ∷ us) t =
    let w = t.width in
    let m = length (u ∷ us) in
    let a = behind t.start (t.turns * m * size_of w) in
    let z : t.turns * m + 0 ≡ t.turns * m = omega arith in
    let s : IsStoreOf ssa a w t.rank u = subst (λ n. IsStoreOf ssa (behind t.start (n * size_of w)) w t.rank u) z (t.stores 0 u refl) in
    let at_rank = store-at ssa a w t.rank u s in
    let k = count-ahead ssa w t.rank (length ssa.units) u a [] at_rank tt (λ x h. absurd h) tt (omega arith) in
    let back : Back (Stands ssa w t.rank) (size_of w) (t.turns * m) a t.start =
    back-of (Stands ssa w t.rank) (size_of w) (t.turns * m) t.start (λ j l.
    let q = t.between j l in (q.0, store-at ssa (behind t.start (j * size_of w)) w t.rank q.0 q.1))
    in
    let none : Stands ssa w t.rank (ahead t.start (size_of w)) → ⊥ =
    λ q. t.none_ahead (q.0, store-of ssa (ahead t.start (size_of w)) w t.rank q.0 q.1)
    in
    let count = stores_ahead ssa a w t.rank (length ssa.units) in
    let same = one-start (Stands ssa w t.rank) (size_of w) count (t.turns * m) a k.start t.start k.back back k.none none in
    let whole : count * size_of w % (m * size_of w) ≡ 0 =
    ap (λ n. n * size_of w % (m * size_of w)) same.1 ∙ ap (λ n. n % (m * size_of w)) (mul_assoc t.turns m (size_of w)) ∙ mul-mod_left t.turns (m * size_of w)
    in
    aligned-by ssa w t.rank a u us s ∙ ap (λ n. nat_eq n 0) whole

pub tiles-are-aligned : (ssa : Ssa) (us : List ℕ) → Has (Stores us) (store_groups ssa) → IsTile ssa us → Has (Stores us) (aligned_groups ssa)
tiles-are-aligned ssa us h t = has-filter (is_aligned ssa) (Stores us) (store_groups ssa) h (is-tile-aligned ssa us t)
