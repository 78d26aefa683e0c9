-- Each store group stands in the list once: it tells its first unit and its size.
use Rattle.std.proofs.Common.{◌≡◌, ℕ, zero, suc, ◌+◌, ◌*◌, ◌/◌, ◌≤◌, Bool, true, false, List, [], ◌∷◌, ◌++◌, length, refl, sym, ◌∙◌, ap, subst, inl, inr, arith}
use Rattle.std.specs.Prelude.{◌&&◌, if◌then◌else◌, is_some, nat_eq, nat_le, Option, Some, None, flat_map, slice_get}
use Rattle.std.specs.List.{filter_map, list_all}
use Rattle.std.proofs.lemmas.Bool.{cases_Bool}
use Rattle.std.proofs.lemmas.Bool.Decides.{nat_tests}
use Rattle.vg_base.specs.declared.address.Address.{Address}
use Rattle.vg_base.specs.declared.width.Width.{Width}
use Rattle.vg_base.specs.Width.{size_of}
use Rattle.vg_kernel_plans.proofs.SameTests.{both-true, pack-is}
use Rattle.vg_kernel_plans.specs.Groups.{group_of, groups_of, store_groups, stores_at, stores_from, unit_numbers}
use Rattle.vg_kernel_plans.specs.SameAs.{same_pack}
use Rattle.vg_plans.specs.Members.{AllDiffer, Every, Has}
use Rattle.vg_plans.proofs.Members.{from-flat_map}
use Rattle.vg_shapes.specs.declared.pack.Pack.{Pack}
use Rattle.vg_shapes.specs.declared.pack.Pack.TheVariants.{Stores}
use Rattle.vg_shapes.specs.declared.ssa.Ssa.{Ssa}
use Rattle.vg_shapes.specs.declared.ssa_unit.SsaUnit.{SsaUnit}
use Rattle.vg_shapes.specs.declared.ssa_unit.SsaUnit.TheVariants.{Load, Store, Operation}
use Rattle.vg_shapes.specs.declared.wanted.Wanted.{Wanted}
use Rattle.vg_shapes.specs.Order.{numbers_from}
use Rattle.vg_shapes.specs.Pack.{behind, stores_before}
use Rattle.vg_shapes.specs.Units.{arguments, unit_at}
use Rattle.vg_packs.specs.Laws.{GroupsAreListed}
use Rattle.vg_packs.proofs.Chains.{length-stores}
use Rattle.vg_packs.proofs.Listed.{Fills, fills-all, found-there, from-first, group-made, group-right, if-one, length-all}

-- ---- lists that differ

all-every : {X : Type 0} (P : X → Type 0) (xs : List X) → ((x : X) → Has x xs → P x) → Every P xs
all-every P [] h = tt
all-every P (x ∷ xs) h = (h x (inl refl), all-every P xs (λ y k. h y (inr k)))

differ-append : {X : Type 0} (same : X → X → Bool) (xs ys : List X) → AllDiffer same xs → AllDiffer same ys
    → ((x y : X) → Has x xs → Has y ys → same x y ≡ false) → AllDiffer same (xs ++ ys)
differ-append same [] ys a b h = b
differ-append same (x ∷ xs) ys a b h = (
  every-both (λ y. same x y ≡ false) xs ys a.0 (all-every (λ y. same x y ≡ false) ys (λ y k. h x y (inl refl) k)),
  differ-append same xs ys a.1 b (λ z y k m. h z y (inr k) m),
)
  where
    every-both : {X : Type 0} (P : X → Type 0) (xs ys : List X) → Every P xs → Every P ys → Every P (xs ++ ys)
    every-both P [] ys a b = b
    every-both P (x ∷ xs) ys a b = (a.0, every-both P xs ys a.1 b)

-- lists that keys give differ where each does, and none of one key is the same as one of another
differ-flat : {X : Type 0} (same : X → X → Bool) (f : ℕ → List X) (ks : List ℕ) → AllDiffer nat_eq ks
    → ((k : ℕ) → Has k ks → AllDiffer same (f k))
    → ((j k : ℕ) (x y : X) → Has j ks → Has k ks → Has x (f j) → Has y (f k) → same x y ≡ true → j ≡ k)
    → AllDiffer same (flat_map f ks)
differ-flat same f [] d own key = tt
differ-flat same f (j ∷ ks) d own key =
    differ-append same (f j) (flat_map f ks) (own j (inl refl))
    (differ-flat same f ks d.1 (λ k h. own k (inr h)) (λ i k x y hi hk hx hy t. key i k x y (inr hi) (inr hk) hx hy t))
    (λ x y hx hy. elim (cases_Bool (same x y)) [
      | inl t ↦
          let k = from-flat_map f y ks hy in
          let e : j ≡ k.0 = key j k.0 x y (inl refl) (inr k.1) hx k.2 t in
          let f : nat_eq j k.0 ≡ false = every-at (λ i. nat_eq j i ≡ false) k.0 ks d.0 k.1 in
          absurd (grind (arith, nat_tests, e, f))
      | inr g ↦ g
    ])
  where
    every-at : {X : Type 0} (P : X → Type 0) (x : X) (xs : List X) → Every P xs → Has x xs → P x
    every-at P x [] a h = absurd h
    every-at P x (y ∷ xs) a h = elim h [ inl e ↦ subst P e a.0 | inr r ↦ every-at P x xs a.1 r ]

numbers-differ : (f n : ℕ) → AllDiffer nat_eq (numbers_from f n)
numbers-differ f zero = tt
numbers-differ f (suc n) = (
  all-every (λ v. nat_eq f v ≡ false) (numbers_from (f + 1) n) (λ v h.
      let l = from-first v (f + 1) n h in
      grind (arith, nat_tests, l)),
  numbers-differ (f + 1) n,
)

-- ---- what a group tells

record Made (ssa : Ssa) (size v : ℕ) (p : Pack) : Type 0 where
  us : List ℕ
  place : Address
  width : Width
  value : Wanted
  is : Stores us ≡ p
  first : slice_get us 0 ≡ Some v
  stored : unit_at ssa v ≡ Some (Store place width value)
  long : length us ≡ size / size_of width
  two : 2 ≤ size / size_of width

first-of : (ssa : Ssa) (a : Address) (w : Width) (r v n : ℕ) → 2 ≤ n → slice_get (stores_at ssa a w) r ≡ Some v
    → slice_get (filter_map (λ u. u) (stores_from ssa a w r n)) 0 ≡ Some v
first-of ssa a w r v zero l e = absurd (omega (arith, l))
first-of ssa a w r v (suc n) l e =
    ap (λ o. slice_get (filter_map (λ u. u) (o ∷ stores_from ssa (behind a (size_of w)) w r n)) 0) e

made : (ssa : Ssa) (size v : ℕ) (u : Option SsaUnit) (p : Pack) → unit_at ssa v ≡ u → Has p (group_of ssa size v u)
    → Made ssa size v p
made ssa size v None p e h = absurd h
made ssa size v (Some (Load a w)) p e h = absurd h
made ssa size v (Some (Operation op w k xs)) p e h = absurd h
made ssa size v (Some (Store a w x)) p e h =
    let r = stores_before ssa a w v in
    let n = size / size_of w in
    let found = stores_from ssa a w r n in
    let us = filter_map (λ u. u) found in
    let k = if-one (nat_le 2 (length found) && list_all is_some found) (Stores us) p h in
    let b = both-true (nat_le 2 (length found)) (list_all is_some found) k.0 in
    let full : length found ≡ n = length-stores ssa a w r n in
    let two : 2 ≤ n = grind (arith, nat_tests, b.0, full) in
    record {
      us = us;
      place = a;
      width = w;
      value = x;
      is = k.1;
      first = first-of ssa a w r v n two (found-there ssa a w x r v e refl);
      stored = e;
      long = length-all found b.1 ∙ full;
      two = two;
    }

same-units : (ssa : Ssa) (s t v u : ℕ) (p q : Pack) (a : Made ssa s v p) (b : Made ssa t u q) → p ≡ q → a.us ≡ b.us
same-units ssa s t v u p q a b e = let f : Stores a.us ≡ Stores b.us = a.is ∙ e ∙ sym b.is in cc

same-first : (ssa : Ssa) (s t v u : ℕ) (p q : Pack) → Made ssa s v p → Made ssa t u q → p ≡ q → v ≡ u
same-first ssa s t v u p q a b e =
    let f : Some v ≡ Some u =
    sym a.first ∙ ap (λ us. slice_get us 0) (same-units ssa s t v u p q a b e) ∙ b.first
    in
    cc

same-size : (ssa : Ssa) (s t v u : ℕ) (p q : Pack) → Fills s → Fills t → Made ssa s v p → Made ssa t u q → p ≡ q
    → s ≡ t
same-size ssa s t v u p q fs ft a b e =
    let f : Some (Store a.place a.width a.value) ≡ Some (Store b.place b.width b.value) =
    sym a.stored ∙ ap (unit_at ssa) (same-first ssa s t v u p q a b e) ∙ b.stored
    in
    let w : a.width ≡ b.width = cc in
    let n : s / size_of a.width ≡ t / size_of b.width =
    sym a.long ∙ ap length (same-units ssa s t v u p q a b e) ∙ b.long
    in
    sym (fs a.width a.two).0 ∙ ap (λ k. k * size_of a.width) n ∙ ap (λ z. t / size_of b.width * size_of z) w
    ∙ (ft b.width b.two).0

-- ---- the list

one-differs : (b : Bool) (p : Pack) → AllDiffer same_pack (if b then p ∷ [] else [])
one-differs true p = (tt, tt)
one-differs false p = tt

group-differs : (ssa : Ssa) (size v : ℕ) (u : Option SsaUnit) → AllDiffer same_pack (group_of ssa size v u)
group-differs ssa size v None = tt
group-differs ssa size v (Some (Load a w)) = tt
group-differs ssa size v (Some (Operation op w k xs)) = tt
group-differs ssa size v (Some (Store a w x)) =
    let found = stores_from ssa a w (stores_before ssa a w v) (size / size_of w) in
    one-differs (nat_le 2 (length found) && list_all is_some found) (Stores (filter_map (λ u. u) found))

of-size : (ssa : Ssa) (size : ℕ) → AllDiffer same_pack (groups_of ssa size)
of-size ssa size =
    differ-flat same_pack (λ v. group_of ssa size v (unit_at ssa v)) (unit_numbers ssa)
    (numbers-differ (arguments ssa) (length ssa.units)) (λ v h. group-differs ssa size v (unit_at ssa v))
    (λ v u p q hv hu hp hq t.
    same-first ssa size size v u p q (made ssa size v (unit_at ssa v) p refl hp) (made ssa size u (unit_at ssa u) q refl hq)
    (pack-is p q t))

sizes-differ : AllDiffer nat_eq (64 ∷ 32 ∷ 16 ∷ 8 ∷ 4 ∷ [])
sizes-differ =
    ((refl, (refl, (refl, (refl, tt)))), ((refl, (refl, (refl, tt))), ((refl, (refl, tt)), ((refl, tt), (tt, tt)))))

groups-differ : (ssa : Ssa) → AllDiffer same_pack (store_groups ssa)
groups-differ ssa =
    differ-flat same_pack (groups_of ssa) (64 ∷ 32 ∷ 16 ∷ 8 ∷ 4 ∷ []) sizes-differ (λ size h. of-size ssa size)
    (λ s t p q hs ht hp hq same.
    let v = from-flat_map (λ v. group_of ssa s v (unit_at ssa v)) p (unit_numbers ssa) hp in
    let u = from-flat_map (λ v. group_of ssa t v (unit_at ssa v)) q (unit_numbers ssa) hq in
    same-size ssa s t v.0 u.0 p q (fills-all s hs) (fills-all t ht) (made ssa s v.0 (unit_at ssa v.0) p refl v.2)
    (made ssa t u.0 (unit_at ssa u.0) q refl u.2) (pack-is p q same))

pub groups-listed : (ssa : Ssa) → GroupsAreListed ssa
groups-listed ssa = record {
  right = λ p h.
      let size = from-flat_map (groups_of ssa) p (64 ∷ 32 ∷ 16 ∷ 8 ∷ 4 ∷ []) h in
      let first = from-flat_map (λ v. group_of ssa size.0 v (unit_at ssa v)) p (unit_numbers ssa) size.2 in
      group-right ssa size.0 first.0 (unit_at ssa first.0) p (fills-all size.0 size.1) first.2;
  whole = λ us g. group-made ssa us g.0 g.1 g.2 g.3 g.4 g.5 g.6 g.7;
  once = groups-differ ssa;
}
