-- The stores of a kernel by their places: their ranks, and which is found at a place.
use Rattle.std.proofs.Common.{◌≡◌, ℕ, zero, suc, ◌+◌, ◌<◌, ◌≤◌, Bool, true, false, List, [], ◌∷◌, ◌++◌, ℤ, length, filter, map, refl, sym, ◌∙◌, ap, ap₂, subst, inl, inr, arith, append_assoc, append-nil, length-append}
use Rattle.std.specs.Prelude.{◌&&◌, cond, find, nat_eq, option_map, position, Option, Some, None, slice_get}
use Rattle.std.specs.List.{flat_map, position_from}
use Rattle.std.specs.Ordering.{int_eq}
use Rattle.std.proofs.lemmas.Bool.{cases_Bool}
use Rattle.std.proofs.lemmas.Bool.Decides.{nat_tests, Decides-int_eq}
use Rattle.std.proofs.lemmas.Grind.{flat_map-append}
use Rattle.std.proofs.lemmas.Iterator.Adapters.{position_from-zero}
use Rattle.vg_base.specs.declared.address.Address.{Address}
use Rattle.vg_base.specs.declared.width.Width.{Width}
use Rattle.vg_base.specs.Width.{bits_of}
use Rattle.vg_base.proofs.SameWidth.{width-tested}
use Rattle.vg_shapes.specs.declared.ssa.Ssa.{Ssa}
use Rattle.vg_shapes.specs.declared.ssa_unit.SsaUnit.{SsaUnit}
use Rattle.vg_shapes.specs.declared.ssa_unit.SsaUnit.TheVariants.{Load, Store, Operation}
use Rattle.vg_shapes.specs.Order.{numbers_from, one_if}
use Rattle.vg_shapes.specs.Pack.{stores_before, stores_to}
use Rattle.vg_shapes.specs.Units.{arguments, unit_at}
use Rattle.vg_kernel_plans.proofs.SameTests.{both-true}
use Rattle.vg_packs.specs.declared.placed.Link.{Link}
use Rattle.vg_packs.specs.declared.placed.PlacedStore.{PlacedStore}
use Rattle.vg_packs.specs.Placed.{is_ranked, link_behind, placed_as, placed_from, placed_here, stands_at}
use Rattle.vg_packs.proofs.Counts.{count-taken, numbers-more}

address-same : (a b : Address) → nat_eq a.pointer b.pointer ≡ true → int_eq a.offset b.offset ≡ true → a ≡ b
address-same a b p o =
    let e : a.pointer ≡ b.pointer = grind (arith, nat_tests, p) in
    let f : a.offset ≡ b.offset = (Decides-int_eq a.offset b.offset).0 o in
    let made : ℕ → ℤ → Address = λ x y. record { pointer = x; offset = y } in
    ap₂ made e f

-- what the test of a place says
pub place-is : (a b : Address) (w x : Width)
    → (nat_eq b.pointer a.pointer && (int_eq b.offset a.offset && nat_eq (bits_of x) (bits_of w))) ≡ true
    → (b ≡ a) × (x ≡ w)
place-is a b w x t =
    let k = both-true (nat_eq b.pointer a.pointer) (int_eq b.offset a.offset && nat_eq (bits_of x) (bits_of w)) t in
    let m = both-true (int_eq b.offset a.offset) (nat_eq (bits_of x) (bits_of w)) k.1 in
    (address-same b a k.0 m.0, width-tested x w m.1)

pub ranked-is : (a : Address) (w : Width) (r : ℕ) (s : PlacedStore) → is_ranked a w r s ≡ true
    → (s.rank ≡ r) × (s.address ≡ a) × (s.width ≡ w)
ranked-is a w r s t =
    let k = both-true (nat_eq s.rank r) (stands_at a w s) t in
    let m = place-is a s.address w s.width k.1 in
    (grind (arith, nat_tests, k.0), m.0, m.1)

counted-one : (a : Address) (w : Width) (v : ℕ) (rank : Address → Width → ℕ) (u : Option SsaUnit) (qs : List PlacedStore)
    → length (filter (stands_at a w) (placed_as v rank u ++ qs)) ≡ one_if (stores_to a w u) + length (filter (stands_at a w) qs)
counted-one a w v rank None qs = omega arith
counted-one a w v rank (Some (Load b x)) qs = omega arith
counted-one a w v rank (Some (Operation op x k xs)) qs = omega arith
counted-one a w v rank (Some (Store b x y)) qs =
    elim (cases_Bool (nat_eq b.pointer a.pointer && (int_eq b.offset a.offset && nat_eq (bits_of x) (bits_of w)))) [
      | inl t ↦ rw t (omega arith)
      | inr f ↦ rw f (omega arith)
    ]

counted : (ssa : Ssa) (a : Address) (w : Width) (vs : List ℕ)
    → length (filter (stands_at a w) (flat_map (λ v. placed_as v (λ b x. stores_before ssa b x v) (unit_at ssa v)) vs))
    ≡ length (filter (λ v. stores_to a w (unit_at ssa v)) vs)
counted ssa a w [] = refl
counted ssa a w (v ∷ vs) =
    counted-one a w v (λ b x. stores_before ssa b x v) (unit_at ssa v) _
    ∙ elim (cases_Bool (stores_to a w (unit_at ssa v))) [
      | inl t ↦ rw t (let h = counted ssa a w vs in omega (arith, h))
      | inr f ↦ rw f (let h = counted ssa a w vs in omega (arith, h))
    ]

-- those counted among the stores before are all before
rank-counted : (ssa : Ssa) (a : Address) (w : Width) (k : ℕ) → k ≤ length ssa.units
    → length (filter (stands_at a w) (placed_from ssa (arguments ssa) k)) ≡ stores_before ssa a w (arguments ssa + k)
rank-counted ssa a w k l =
    counted ssa a w (numbers_from (arguments ssa) k)
    ∙ sym (count-taken (λ v. stores_to a w (unit_at ssa v)) (arguments ssa) (length ssa.units) k l)

here-same : (ssa : Ssa) (v : ℕ) (before : List PlacedStore) (u : Option SsaUnit)
    → ((a : Address) (w : Width) → length (filter (stands_at a w) before) ≡ stores_before ssa a w v)
    → placed_here before v u ≡ placed_as v (λ a w. stores_before ssa a w v) u
here-same ssa v before None h = refl
here-same ssa v before (Some (Load a w)) h = refl
here-same ssa v before (Some (Operation op w k xs)) h = refl
here-same ssa v before (Some (Store a w x)) h =
    let made : ℕ → List PlacedStore = λ r. record { unit = v; address = a; width = w; rank = r } ∷ [] in
    ap made (h a w)

pub placed-more : (ssa : Ssa) (first k v : ℕ) (old new : List PlacedStore) → first ≡ arguments ssa
    → k < length ssa.units → v ≡ first + k → old ≡ placed_from ssa first k
    → new ≡ old ++ placed_here old v (unit_at ssa v) → new ≡ placed_from ssa first (k + 1)
placed-more ssa first k v old new f l e o n =
    let made : ℕ → List PlacedStore = λ u. placed_as u (λ a w. stores_before ssa a w u) (unit_at ssa u) in
    let ranks : (a : Address) (w : Width) → length (filter (stands_at a w) old) ≡ stores_before ssa a w v =
    λ a w.
    ap (λ xs. length (filter (stands_at a w) xs)) (o ∙ ap (λ m. placed_from ssa m k) f)
    ∙ rank-counted ssa a w k (omega (arith, l))
    ∙ ap (stores_before ssa a w) (ap (λ m. m + k) (sym f) ∙ sym e)
    in
    let s : k + 1 ≡ suc k = omega arith in
    let whole : placed_from ssa first (k + 1) ≡ placed_from ssa first k ++ made (first + k) =
    ap (placed_from ssa first) s
    ∙ ap (flat_map made) (numbers-more first k)
    ∙ flat_map-append made (numbers_from first k) ((first + k) ∷ [])
    ∙ ap (λ xs. placed_from ssa first k ++ xs) (append-nil (made (first + k)))
    in
    n ∙ ap (λ xs. old ++ xs) (here-same ssa v old (unit_at ssa v) ranks ∙ ap made e)
    ∙ ap (λ xs. xs ++ made (first + k)) o ∙ sym whole

and-false : (b : Bool) → (b && false) ≡ false
and-false true = refl
and-false false = refl

abbrev pub unit_of : PlacedStore → ℕ
unit_of s = s.unit

abbrev unit_found : Address → Width → ℕ → List PlacedStore → Option ℕ
unit_found a w r qs = option_map unit_of (find (is_ranked a w r) qs)

found-step : (ssa : Ssa) (a : Address) (w : Width) (v : ℕ) (u : Option SsaUnit) (d : ℕ) (qs : List PlacedStore) (xs : List ℕ)
    → ((d : ℕ) → unit_found a w (stores_before ssa a w v + one_if (stores_to a w u) + d) qs ≡ slice_get xs d)
    → unit_found a w (stores_before ssa a w v + d) (placed_as v (λ b x. stores_before ssa b x v) u ++ qs)
    ≡ slice_get (cond (stores_to a w u) (v ∷ xs) xs) d
found-step ssa a w v None d qs xs rest =
    let e : stores_before ssa a w v + 0 + d ≡ stores_before ssa a w v + d = omega arith in
    subst (λ k. unit_found a w k qs ≡ slice_get xs d) e (rest d)
found-step ssa a w v (Some (Load b x)) d qs xs rest =
    let e : stores_before ssa a w v + 0 + d ≡ stores_before ssa a w v + d = omega arith in
    subst (λ k. unit_found a w k qs ≡ slice_get xs d) e (rest d)
found-step ssa a w v (Some (Operation op x k ys)) d qs xs rest =
    let e : stores_before ssa a w v + 0 + d ≡ stores_before ssa a w v + d = omega arith in
    subst (λ k. unit_found a w k qs ≡ slice_get xs d) e (rest d)
found-step ssa a w v (Some (Store b x y)) d qs xs rest =
    let test = nat_eq b.pointer a.pointer && (int_eq b.offset a.offset && nat_eq (bits_of x) (bits_of w)) in
    elim (cases_Bool test) [
      | inl t ↦
          let same = place-is a b w x t in
          let rank : stores_before ssa b x v ≡ stores_before ssa a w v =
          ap (λ c. stores_before ssa c x v) same.0 ∙ ap (λ z. stores_before ssa a z v) same.1
          in
          found-there ssa a w v b x d qs xs t rank (λ k.
          subst (λ n. unit_found a w (stores_before ssa a w v + one_if n + k) qs ≡ slice_get xs k) t (rest k))
          ∙ ap (λ n. slice_get (cond n (v ∷ xs) xs) d) (sym t)
      | inr f ↦
          let e : stores_before ssa a w v + 0 + d ≡ stores_before ssa a w v + d = omega arith in
          let r = subst (λ n. unit_found a w (stores_before ssa a w v + one_if n + d) qs ≡ slice_get xs d) f (rest d) in
          rw (f, and-false (nat_eq (stores_before ssa b x v) (stores_before ssa a w v + d)))
          (subst (λ k. unit_found a w k qs ≡ slice_get xs d) e r)
    ]
  where
    found-there : (ssa : Ssa) (a : Address) (w : Width) (v : ℕ) (b : Address) (x : Width) (d : ℕ) (qs : List PlacedStore) (xs : List ℕ)
        → (nat_eq b.pointer a.pointer && (int_eq b.offset a.offset && nat_eq (bits_of x) (bits_of w))) ≡ true
        → stores_before ssa b x v ≡ stores_before ssa a w v
        → ((d : ℕ) → unit_found a w (stores_before ssa a w v + 1 + d) qs ≡ slice_get xs d)
        → unit_found a w (stores_before ssa a w v + d) (record { unit = v; address = b; width = x; rank = stores_before ssa b x v } ∷ qs)
        ≡ slice_get (v ∷ xs) d
    found-there ssa a w v b x zero qs xs t rank rest =
        let here : nat_eq (stores_before ssa b x v) (stores_before ssa a w v + 0) ≡ true = grind (arith, nat_tests, rank) in
        rw (here, t) refl
    found-there ssa a w v b x (suc d) qs xs t rank rest =
        let away : nat_eq (stores_before ssa b x v) (stores_before ssa a w v + suc d) ≡ false = grind (arith, nat_tests, rank) in
        let e : stores_before ssa a w v + 1 + d ≡ stores_before ssa a w v + suc d = omega arith in
        rw away (subst (λ k. unit_found a w k qs ≡ slice_get xs d) e (rest d))

-- the store of a rank at a place is the one of that number among those to the place
pub ranked-found : (ssa : Ssa) (a : Address) (w : Width) (v n d : ℕ)
    → ((u : ℕ) → v ≤ u → u < v + n → stores_before ssa a w (u + 1) ≡ stores_before ssa a w u + one_if (stores_to a w (unit_at ssa u)))
    → option_map unit_of (find (is_ranked a w (stores_before ssa a w v + d)) (placed_from ssa v n))
    ≡ slice_get (filter (λ u. stores_to a w (unit_at ssa u)) (numbers_from v n)) d
ranked-found ssa a w v zero d h = refl
ranked-found ssa a w v (suc n) d h =
    found-step ssa a w v (unit_at ssa v) d (placed_from ssa (v + 1) n)
    (filter (λ u. stores_to a w (unit_at ssa u)) (numbers_from (v + 1) n))
    (λ k.
    subst (λ m. unit_found a w (m + k) (placed_from ssa (v + 1) n) ≡ slice_get (filter (λ u. stores_to a w (unit_at ssa u)) (numbers_from (v + 1) n)) k)
    (h v (omega arith) (omega arith))
    (ranked-found ssa a w (v + 1) n k (λ u l m. h u (omega (arith, l)) (omega (arith, m)))))

-- ---- by index

at-front : {X Y : Type 0} (f : X → Y) (front : List X) (x : X) (rest : List X)
    → slice_get (map f (front ++ x ∷ rest)) (length front) ≡ Some (f x)
at-front f [] x rest = refl
at-front f (z ∷ front) x rest = at-front f front x rest

linked-from : (f : PlacedStore → Link) (test : PlacedStore → Bool) (front xs : List PlacedStore) (k : ℕ) → length front ≡ k
    → link_behind (map f (front ++ xs)) (position_from test k xs) ≡ option_map f (find test xs)
linked-from f test front [] k e = refl
linked-from f test front (x ∷ xs) k e = elim (cases_Bool (test x)) [
  | inl t ↦ rw t (subst (λ k. slice_get (map f (front ++ x ∷ xs)) k ≡ Some (f x)) e (at-front f front x xs))
  | inr g ↦
      let long : length (front ++ x ∷ []) ≡ k + 1 = grind (arith, length-append, e) in
      rw g
      (subst (λ ys. link_behind (map f ys) (position_from test (k + 1) xs) ≡ option_map f (find test xs))
      (append_assoc front (x ∷ []) xs)
      (linked-from f test (front ++ x ∷ []) xs (k + 1) long))
]

pub linked : (f : PlacedStore → Link) (test : PlacedStore → Bool) (xs : List PlacedStore)
    → link_behind (map f xs) (position test xs) ≡ option_map f (find test xs)
linked f test xs =
    ap (link_behind (map f xs)) (position_from-zero test xs) ∙ linked-from f test [] xs 0 refl
