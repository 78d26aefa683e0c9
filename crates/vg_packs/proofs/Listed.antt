-- Each listed store group is one, and each store group is listed.
use Rattle.std.proofs.Common.{◌≡◌, ℕ, zero, suc, ◌+◌, ◌*◌, ◌/◌, ◌<◌, ◌≤◌, Bool, true, false, List, [], ◌∷◌, length, filter, map, refl, sym, ◌∙◌, ap, subst, inl, inr, arith, mul-div_cancel}
use Rattle.std.specs.Prelude.{◌&&◌, if◌then◌else◌, IsTrue, is_some, nat_eq, nat_le, nat_lt, Option, Some, None, slice_get}
use Rattle.std.specs.List.{filter_map, list_all}
use Rattle.std.proofs.lemmas.Bool.{cases_Bool}
use Rattle.std.proofs.lemmas.Bool.Decides.{nat_tests}
use Rattle.vg_base.specs.declared.address.Address.{Address}
use Rattle.vg_base.specs.declared.width.Width.{Width}
use Rattle.vg_base.specs.declared.width.Width.TheVariants.{W8, W16, W32, W64}
use Rattle.vg_base.specs.Width.{size_of}
use Rattle.vg_kernel_plans.proofs.SameTests.{both-true}
use Rattle.vg_kernel_plans.specs.Groups.{group_of, groups_of, store_groups, stores_at, stores_from, unit_numbers}
use Rattle.vg_plans.specs.Members.{Has}
use Rattle.vg_plans.proofs.Lists.{has-flat_map}
use Rattle.vg_plans.proofs.Members.{from-filter}
use Rattle.vg_plans.proofs.Reach.{in-has}
use Rattle.vg_shapes.specs.declared.pack.Pack.{Pack}
use Rattle.vg_shapes.specs.declared.pack.Pack.TheVariants.{Stores}
use Rattle.vg_shapes.specs.declared.ssa.Ssa.{Ssa}
use Rattle.vg_shapes.specs.declared.ssa_unit.SsaUnit.{SsaUnit}
use Rattle.vg_shapes.specs.declared.ssa_unit.SsaUnit.TheVariants.{Load, Store, Operation}
use Rattle.vg_shapes.specs.declared.wanted.Wanted.{Wanted}
use Rattle.vg_shapes.specs.Order.{numbers_from}
use Rattle.vg_shapes.specs.Pack.{AreStores, HaveRank, behind, is_pack_size, stores_before, stores_to}
use Rattle.vg_shapes.specs.Units.{arguments, is_unit, unit_at}
use Rattle.vg_packs.specs.Laws.{IsGroup}
use Rattle.vg_packs.proofs.Chains.{length-stores, own-place}
use Rattle.vg_packs.proofs.Counts.{count_below, lt-is, none-below, nth-kept}
use Rattle.vg_packs.proofs.Cycles.{unit-inside}
use Rattle.vg_packs.proofs.Placing.{place-is}

get-has : {X : Type 0} (x : X) (xs : List X) (k : ℕ) → slice_get xs k ≡ Some x → Has x xs
get-has x [] zero e = absurd (cc)
get-has x [] (suc k) e = absurd (cc)
get-has x (y ∷ xs) zero e = inl (cc)
get-has x (y ∷ xs) (suc k) e = inr (get-has x xs k e)

pub from-first : (u f n : ℕ) → Has u (numbers_from f n) → f ≤ u
from-first u f zero h = absurd h
from-first u f (suc n) h = elim h [
  | inl e ↦ omega (arith, e)
  | inr r ↦ let l = from-first u (f + 1) n r in omega (arith, l)
]

pub number-has : (u f n : ℕ) → f ≤ u → u < f + n → Has u (numbers_from f n)
number-has u f zero a b = absurd (omega (arith, a, b))
number-has u f (suc n) a b = elim (cases_Bool (nat_eq f u)) [
  | inl t ↦ inl (grind (arith, nat_tests, t))
  | inr g ↦
      let l : f < u = grind (arith, nat_tests, g, a) in
      inr (number-has u (f + 1) n (omega (arith, l)) (omega (arith, b)))
]

-- a number that passes stands after as many as are below it
kept-nth : (p : ℕ → Bool) (f n r u : ℕ) → slice_get (filter p (numbers_from f n)) r ≡ Some u → count_below p f n u ≡ r
kept-nth p f zero zero u e = absurd (cc)
kept-nth p f zero (suc r) u e = absurd (cc)
kept-nth p f (suc n) zero u e = elim (cases_Bool (p f)) [
  | inl t ↦
      let h : Some f ≡ Some u = rw t at e in
      let same : f ≡ u = cc in
      none-below p f (suc n) u (omega (arith, same))
  | inr g ↦
      let h : slice_get (filter p (numbers_from (f + 1) n)) zero ≡ Some u = rw g at e in
      let l = from-first u (f + 1) n (from-filter p u (numbers_from (f + 1) n) (get-has u (filter p (numbers_from (f + 1) n)) zero h)).0 in
      let k = kept-nth p (f + 1) n zero u h in
      rw (lt-is f u (omega (arith, l)), g) k
]
kept-nth p f (suc n) (suc r) u e = elim (cases_Bool (p f)) [
  | inl t ↦
      let h : slice_get (filter p (numbers_from (f + 1) n)) r ≡ Some u = rw t at e in
      let l = from-first u (f + 1) n (from-filter p u (numbers_from (f + 1) n) (get-has u (filter p (numbers_from (f + 1) n)) r h)).0 in
      let k = kept-nth p (f + 1) n r u h in
      rw (lt-is f u (omega (arith, l)), t) (omega (arith, k))
  | inr g ↦
      let h : slice_get (filter p (numbers_from (f + 1) n)) (suc r) ≡ Some u = rw g at e in
      let l = from-first u (f + 1) n (from-filter p u (numbers_from (f + 1) n) (get-has u (filter p (numbers_from (f + 1) n)) (suc r) h)).0 in
      let k = kept-nth p (f + 1) n (suc r) u h in
      rw (lt-is f u (omega (arith, l)), g) k
]

stored-is : (a : Address) (w : Width) (o : Option SsaUnit) → stores_to a w o ≡ true → (x : Wanted) × (o ≡ Some (Store a w x))
stored-is a w None t = absurd (cc)
stored-is a w (Some (Load b v)) t = absurd (cc)
stored-is a w (Some (Operation op v k xs)) t = absurd (cc)
stored-is a w (Some (Store b v x)) t =
    let same = place-is a b w v t in
    (x, ap (λ c. Some (Store c v x)) same.0 ∙ ap (λ z. Some (Store a z x)) same.1)

stored-there : (ssa : Ssa) (a : Address) (w : Width) (r u : ℕ) → slice_get (stores_at ssa a w) r ≡ Some u
    → (x : Wanted) × (unit_at ssa u ≡ Some (Store a w x)) × (stores_before ssa a w u ≡ r)
stored-there ssa a w r u e =
    let test : ℕ → Bool = λ v. stores_to a w (unit_at ssa v) in
    let t = (from-filter test u (unit_numbers ssa) (get-has u (stores_at ssa a w) r e)).1 in
    let s = stored-is a w (unit_at ssa u) t in
    (s.0, s.1, kept-nth test (arguments ssa) (length ssa.units) r u e)

abbrev AreRanked : Ssa → Width → Address → ℕ → List ℕ → Type 0
AreRanked ssa w a r us = (xs : List Wanted) × AreStores ssa w a us xs × HaveRank ssa w a r us

ranked-first : (ssa : Ssa) (w : Width) (a : Address) (r : ℕ) (o : Option ℕ) (found : List (Option ℕ))
    → slice_get (stores_at ssa a w) r ≡ o → list_all is_some (o ∷ found) ≡ true
    → (list_all is_some found ≡ true → AreRanked ssa w (behind a (size_of w)) r (filter_map (λ u. u) found))
    → AreRanked ssa w a r (filter_map (λ u. u) (o ∷ found))
ranked-first ssa w a r None found e t rest = absurd (cc)
ranked-first ssa w a r (Some u) found e t rest =
    let s = stored-there ssa a w r u e in
    let k = rest t in
    (s.0 ∷ k.0, (s.1, k.1), (s.2, k.2))

stores-ranked : (ssa : Ssa) (w : Width) (r n : ℕ) (a : Address) → list_all is_some (stores_from ssa a w r n) ≡ true
    → AreRanked ssa w a r (filter_map (λ u. u) (stores_from ssa a w r n))
stores-ranked ssa w r zero a t = ([], refl, tt)
stores-ranked ssa w r (suc n) a t =
    ranked-first ssa w a r (slice_get (stores_at ssa a w) r) (stores_from ssa (behind a (size_of w)) w r n) refl t
    (stores-ranked ssa w r n (behind a (size_of w)))

pub length-all : (found : List (Option ℕ)) → list_all is_some found ≡ true → length (filter_map (λ u. u) found) ≡ length found
length-all [] t = refl
length-all (None ∷ found) t = absurd (cc)
length-all (Some u ∷ found) t = let h = length-all found t in omega (arith, h)

-- what is as wide as a size is that size
abbrev pub Fills : ℕ → Type 0
Fills size =
    (w : Width) → 2 ≤ size / size_of w
    → (size / size_of w * size_of w ≡ size) × IsTrue (is_pack_size size)

pub if-one : (b : Bool) (q p : Pack) → Has p (if b then q ∷ [] else []) → (b ≡ true) × (q ≡ p)
if-one true q p h = elim h [ inl e ↦ (refl, e) | inr n ↦ absurd n ]
if-one false q p h = absurd h

pub group-right : (ssa : Ssa) (size v : ℕ) (u : Option SsaUnit) (p : Pack) → Fills size → Has p (group_of ssa size v u) → IsGroup ssa p
group-right ssa size v None p f h = absurd h
group-right ssa size v (Some (Load a w)) p f h = absurd h
group-right ssa size v (Some (Operation op w k xs)) p f h = absurd h
group-right ssa size v (Some (Store a w x)) p f h =
    let r = stores_before ssa a w v in
    let n = size / size_of w in
    let found = stores_from ssa a w r n in
    let us = filter_map (λ u. u) found in
    let k = if-one (nat_le 2 (length found) && list_all is_some found) (Stores us) p h in
    let b = both-true (nat_le 2 (length found)) (list_all is_some found) k.0 in
    let s = stores-ranked ssa w r n a b.1 in
    let e : length us ≡ n = length-all found b.1 ∙ length-stores ssa a w r n in
    let l : 2 ≤ length us = let m = length-all found b.1 in grind (arith, nat_tests, b.0, m) in
    let two : 2 ≤ n = omega (arith, l, e) in
    let sized : IsTrue (is_pack_size (length us * size_of w)) =
    subst (λ m. IsTrue (is_pack_size m)) (sym (ap (λ m. m * size_of w) e ∙ (f w two).0)) (f w two).1
    in
    subst (IsGroup ssa) k.1 (w, a, s.0, r, s.1, s.2, l, sized)

fills-64 : Fills 64
fills-64 W8 l = (refl, refl)
fills-64 W16 l = (refl, refl)
fills-64 W32 l = (refl, refl)
fills-64 W64 l = (refl, refl)

fills-32 : Fills 32
fills-32 W8 l = (refl, refl)
fills-32 W16 l = (refl, refl)
fills-32 W32 l = (refl, refl)
fills-32 W64 l = (refl, refl)

fills-16 : Fills 16
fills-16 W8 l = (refl, refl)
fills-16 W16 l = (refl, refl)
fills-16 W32 l = (refl, refl)
fills-16 W64 l = (refl, refl)

fills-8 : Fills 8
fills-8 W8 l = (refl, refl)
fills-8 W16 l = (refl, refl)
fills-8 W32 l = (refl, refl)
fills-8 W64 l = absurd (omega arith)

fills-4 : Fills 4
fills-4 W8 l = (refl, refl)
fills-4 W16 l = (refl, refl)
fills-4 W32 l = (refl, refl)
fills-4 W64 l = absurd (omega arith)

pub fills-all : (size : ℕ) → Has size (64 ∷ 32 ∷ 16 ∷ 8 ∷ 4 ∷ []) → Fills size
fills-all size h = elim h [
  | inl e ↦ subst Fills e fills-64
  | inr h1 ↦ elim h1 [
    | inl e ↦ subst Fills e fills-32
    | inr h2 ↦ elim h2 [
      | inl e ↦ subst Fills e fills-16
      | inr h3 ↦ elim h3 [
        | inl e ↦ subst Fills e fills-8
        | inr h4 ↦ elim h4 [
          | inl e ↦ subst Fills e fills-4
          | inr n ↦ absurd n
        ]
      ]
    ]
  ]
]

-- ---- the other way

pub unit-number : (ssa : Ssa) (v : ℕ) → is_unit ssa v ≡ true → arguments ssa ≤ v
unit-number ssa v t = elim (cases_Bool (nat_lt v (arguments ssa))) [
  | inl e ↦ absurd (let f : is_unit ssa v ≡ false = rw e refl in cc)
  | inr f ↦ grind (arith, nat_tests, f)
]

pub found-there : (ssa : Ssa) (a : Address) (w : Width) (x : Wanted) (k u : ℕ) → unit_at ssa u ≡ Some (Store a w x)
    → stores_before ssa a w u ≡ k → slice_get (stores_at ssa a w) k ≡ Some u
found-there ssa a w x k u e r =
    let test : ℕ → Bool = λ v. stores_to a w (unit_at ssa v) in
    let t : test u ≡ true = ap (stores_to a w) e ∙ own-place a w x in
    let is : is_unit ssa u ≡ true = ap is_some e in
    ap (slice_get (stores_at ssa a w)) (sym r)
    ∙ nth-kept test (arguments ssa) (length ssa.units) u (unit-number ssa u is) (unit-inside ssa u is) t

stores-whole : (ssa : Ssa) (w : Width) (k : ℕ) (a : Address) (us : List ℕ) (xs : List Wanted) → AreStores ssa w a us xs
    → HaveRank ssa w a k us → stores_from ssa a w k (length us) ≡ map Some us
stores-whole ssa w k a [] xs s r = refl
stores-whole ssa w k a (u ∷ us) [] s r = absurd s
stores-whole ssa w k a (u ∷ us) (x ∷ xs) s r =
    ap (λ o. o ∷ stores_from ssa (behind a (size_of w)) w k (length us)) (found-there ssa a w x k u s.0 r.0)
    ∙ ap (λ found. Some u ∷ found) (stores-whole ssa w k (behind a (size_of w)) us xs s.1 r.1)

all-some : (us : List ℕ) → list_all is_some (map Some us) ≡ true
all-some [] = refl
all-some (u ∷ us) = all-some us

some-same : (us : List ℕ) → filter_map (λ u. u) (map Some us) ≡ us
some-same [] = refl
some-same (u ∷ us) = ap (λ vs. u ∷ vs) (some-same us)

length-some : (us : List ℕ) → length (map Some us) ≡ length us
length-some [] = refl
length-some (u ∷ us) = let h = length-some us in omega (arith, h)

one-if : (b : Bool) (p q : Pack) → b ≡ true → q ≡ p → Has p (if b then q ∷ [] else [])
one-if true p q t e = inl e
one-if false p q t e = absurd (cc)

size-cancel : (w : Width) (n : ℕ) → n * size_of w / size_of w ≡ n
size-cancel W8 n = mul-div_cancel n (omega arith)
size-cancel W16 n = mul-div_cancel n (omega arith)
size-cancel W32 n = mul-div_cancel n (omega arith)
size-cancel W64 n = mul-div_cancel n (omega arith)

group-there : (ssa : Ssa) (size u : ℕ) (o : Option SsaUnit) (a : Address) (w : Width) (x : Wanted) (us : List ℕ)
    → o ≡ Some (Store a w x) → stores_from ssa a w (stores_before ssa a w u) (size / size_of w) ≡ map Some us → 2 ≤ length us
    → Has (Stores us) (group_of ssa size u o)
group-there ssa size u o a w x us e f l =
    let fits : (nat_le 2 (length (map Some us)) && list_all is_some (map Some us)) ≡ true =
    let m = length-some us in
    let t : nat_le 2 (length (map Some us)) ≡ true = grind (arith, nat_tests, m, l) in
    rw t (all-some us)
    in
    subst (λ o. Has (Stores us) (group_of ssa size u o)) (sym e)
    (subst (λ found. Has (Stores us) (if nat_le 2 (length found) && list_all is_some found then Stores (filter_map (λ u. u) found) ∷ [] else [])) (sym f)
    (one-if (nat_le 2 (length (map Some us)) && list_all is_some (map Some us)) (Stores us) (Stores (filter_map (λ u. u) (map Some us))) fits (ap Stores (some-same us))))

size-listed : (n : ℕ) → is_pack_size n ≡ true → Has n (64 ∷ 32 ∷ 16 ∷ 8 ∷ 4 ∷ [])
size-listed n t = elim (in-has n (4 ∷ 8 ∷ 16 ∷ 32 ∷ 64 ∷ []) t) [
  | inl e ↦ inr (inr (inr (inr (inl e))))
  | inr h1 ↦ elim h1 [
    | inl e ↦ inr (inr (inr (inl e)))
    | inr h2 ↦ elim h2 [
      | inl e ↦ inr (inr (inl e))
      | inr h3 ↦ elim h3 [
        | inl e ↦ inr (inl e)
        | inr h4 ↦ elim h4 [ inl e ↦ inl e | inr n ↦ absurd n ]
      ]
    ]
  ]
]

pub group-made : (ssa : Ssa) (us : List ℕ) (w : Width) (a : Address) (xs : List Wanted) (k : ℕ) → AreStores ssa w a us xs
    → HaveRank ssa w a k us → 2 ≤ length us → IsTrue (is_pack_size (length us * size_of w))
    → Has (Stores us) (store_groups ssa)
group-made ssa [] w a xs k s r l z = absurd (omega (arith, l))
group-made ssa (u ∷ us) w a [] k s r l z = absurd s
group-made ssa (u ∷ us) w a (x ∷ xs) k s r l z =
    let size = length (u ∷ us) * size_of w in
    let is : is_unit ssa u ≡ true = ap is_some s.0 in
    let there = number-has u (arguments ssa) (length ssa.units) (unit-number ssa u is) (unit-inside ssa u is) in
    let found : stores_from ssa a w (stores_before ssa a w u) (size / size_of w) ≡ map Some (u ∷ us) =
    ap (λ j. stores_from ssa a w j (size / size_of w)) r.0
    ∙ ap (stores_from ssa a w k) (size-cancel w (length (u ∷ us)))
    ∙ stores-whole ssa w k a (u ∷ us) (x ∷ xs) s r
    in
    has-flat_map (groups_of ssa) size (Stores (u ∷ us)) (64 ∷ 32 ∷ 16 ∷ 8 ∷ 4 ∷ []) (size-listed size z)
    (has-flat_map (λ v. group_of ssa size v (unit_at ssa v)) u (Stores (u ∷ us)) (unit_numbers ssa) there
    (group-there ssa size u (unit_at ssa u) a w x (u ∷ us) s.0 found l))
