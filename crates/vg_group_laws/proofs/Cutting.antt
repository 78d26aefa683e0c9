-- Groups are cut from the front of a run, each the largest part.
use Rattle.std.proofs.Common.{◌≡◌, ℕ, zero, suc, ◌+◌, ◌*◌, ◌/◌, ◌≤◌, Bool, true, false, List, [], ◌∷◌, ◌++◌, take, drop, length, refl, sym, ◌∙◌, ap, subst, inl, inr, arith, append_assoc, length-append}
use Rattle.std.specs.Prelude.{filter, find, nat_eq, nat_le, Option, Some, None}
use Rattle.std.specs.List.{flat_map}
use Rattle.std.proofs.lemmas.Bool.{cases_Bool}
use Rattle.std.proofs.lemmas.Bool.Decides.{nat_tests}
use Rattle.std.proofs.lemmas.List.{length-drop, length-take-le}
use Rattle.std.proofs.Math.Nat.{mul-le-mul_right}
use Rattle.vg_base.specs.declared.width.Width.{Width}
use Rattle.vg_base.specs.declared.width.Width.TheVariants.{W8, W16, W32, W64}
use Rattle.vg_base.specs.Width.{size_of}
use Rattle.vg_group_laws.specs.Cuts.{AreCutFrom, IsLargestPart, IsPart}
use Rattle.vg_group_laws.specs.Runs.{PlacedLoad}
use Rattle.vg_kernel_plans.specs.LoadGroups.{cut_from, groups_in, is_part, run_of, sizes_in}
use Rattle.vg_kernel_plans.specs.Taken.{register_of_bytes}
use Rattle.vg_kernel_plans.proofs.LoadPacks.{found-is}
use Rattle.vg_kernel_plans.proofs.SameTests.{both-true, eq-itself}
use Rattle.vg_plans.specs.Members.{Every, Has}
use Rattle.vg_plans.proofs.Lists.{every-filter, every-has}
use Rattle.vg_plans.proofs.Members.{any-found, from-filter, has-filter}
use Rattle.vg_shapes.specs.declared.pack.Pack.{Pack}
use Rattle.vg_shapes.specs.declared.pack.Pack.TheVariants.{Loads}
use Rattle.vg_shapes.specs.Pack.{is_pack_size, units_of}

-- ---- the first that passes in a falling list is the largest

abbrev Falls : List ℕ → Type 0
Falls [] = Unit {0}
Falls (x ∷ xs) = Every (λ y. y ≤ x) xs × Falls xs

falls-filter : (test : ℕ → Bool) (xs : List ℕ) → Falls xs → Falls (filter test xs)
falls-filter test [] f = tt
falls-filter test (x ∷ xs) f = elim (cases_Bool (test x)) [
  | inl t ↦ rw t (every-filter (λ y. y ≤ x) test xs f.0, falls-filter test xs f.1)
  | inr u ↦ rw u (falls-filter test xs f.1)
]

found-largest : (test : ℕ → Bool) (xs : List ℕ) (x y : ℕ) → Falls xs → find test xs ≡ Some x → Has y xs → test y ≡ true → y ≤ x
found-largest test [] x y f e h t = absurd h
found-largest test (z ∷ zs) x y f e h t = elim (cases_Bool (test z)) [
  | inl u ↦
      let s : z ≡ x = same-some z x (rw u at e) in
      subst (λ q. y ≤ q) s (elim h [ inl g ↦ subst (λ q. q ≤ z) g (omega arith) | inr r ↦ every-has (λ q. q ≤ z) y zs f.0 r ])
  | inr u ↦ elim h [
    | inl g ↦ absurd (let k : test y ≡ false = ap test (sym g) ∙ u in cc)
    | inr r ↦ found-largest test zs x y f.1 (rw u at e) r t
  ]
]
  where
    same-some : (a b : ℕ) → Some a ≡ Some b → a ≡ b
    same-some a b e = cc

none-passes : (test : ℕ → Bool) (xs : List ℕ) (y : ℕ) → find test xs ≡ None → Has y xs → test y ≡ true → ⊥
none-passes test [] y e h t = h
none-passes test (z ∷ zs) y e h t = elim (cases_Bool (test z)) [
  | inl u ↦ absurd (let k : Some z ≡ None = rw u at e in cc)
  | inr u ↦ elim h [
    | inl g ↦ absurd (let k : test y ≡ false = ap test (sym g) ∙ u in cc)
    | inr r ↦ none-passes test zs y (rw u at e) r t
  ]
]

-- ---- parts

abbrev all_sizes : List ℕ
all_sizes = 64 ∷ 32 ∷ 16 ∷ 8 ∷ 4 ∷ []

sizes-fall : (register : ℕ) → Falls (sizes_in register)
sizes-fall register =
    falls-filter (λ n. nat_eq (register_of_bytes n) register) all_sizes (
      (omega arith, (omega arith, (omega arith, (omega arith, tt)))),
      ((omega arith, (omega arith, (omega arith, tt))), ((omega arith, (omega arith, tt)), ((omega arith, tt), (tt, tt)))),
    )

-- of a listed size, whether it has so many loads
record Divides (w : Width) (size : ℕ) : Type 0 where
  pub loaded : is_pack_size size ≡ true
  pub whole : 2 ≤ size / size_of w → size / size_of w * size_of w ≡ size
  pub two : 2 * size_of w ≤ size → 2 ≤ size / size_of w
  pub fits : (left : ℕ) → 2 * size_of w ≤ size → size ≤ left * size_of w → size / size_of w ≤ left

divides : (w : Width) (size : ℕ) → Has size all_sizes → Divides w size
divides w size h = every-has (Divides w) size all_sizes (every w) h
  where
    every : (w : Width) → Every (Divides w) all_sizes
    every W8 = (
      record { loaded = refl; whole = λ t. refl; two = λ t. omega arith; fits = λ l t f. omega (arith, f) },
      (
        record { loaded = refl; whole = λ t. refl; two = λ t. omega arith; fits = λ l t f. omega (arith, f) },
        (
          record { loaded = refl; whole = λ t. refl; two = λ t. omega arith; fits = λ l t f. omega (arith, f) },
          (
            record { loaded = refl; whole = λ t. refl; two = λ t. omega arith; fits = λ l t f. omega (arith, f) },
            (
              record { loaded = refl; whole = λ t. refl; two = λ t. omega arith; fits = λ l t f. omega (arith, f) },
              tt,
            ),
          ),
        ),
      ),
    )
    every W16 = (
      record { loaded = refl; whole = λ t. refl; two = λ t. omega arith; fits = λ l t f. omega (arith, f) },
      (
        record { loaded = refl; whole = λ t. refl; two = λ t. omega arith; fits = λ l t f. omega (arith, f) },
        (
          record { loaded = refl; whole = λ t. refl; two = λ t. omega arith; fits = λ l t f. omega (arith, f) },
          (
            record { loaded = refl; whole = λ t. refl; two = λ t. omega arith; fits = λ l t f. omega (arith, f) },
            (
              record { loaded = refl; whole = λ t. refl; two = λ t. omega arith; fits = λ l t f. omega (arith, f) },
              tt,
            ),
          ),
        ),
      ),
    )
    every W32 = (
      record { loaded = refl; whole = λ t. refl; two = λ t. omega arith; fits = λ l t f. omega (arith, f) },
      (
        record { loaded = refl; whole = λ t. refl; two = λ t. omega arith; fits = λ l t f. omega (arith, f) },
        (
          record { loaded = refl; whole = λ t. refl; two = λ t. omega arith; fits = λ l t f. omega (arith, f) },
          (
            record { loaded = refl; whole = λ t. refl; two = λ t. omega arith; fits = λ l t f. omega (arith, f) },
            (
              record { loaded = refl; whole = λ t. refl; two = λ t. absurd (omega (arith, t)); fits = λ l t f. absurd (omega (arith, t)) },
              tt,
            ),
          ),
        ),
      ),
    )
    every W64 = (
      record { loaded = refl; whole = λ t. refl; two = λ t. omega arith; fits = λ l t f. omega (arith, f) },
      (
        record { loaded = refl; whole = λ t. refl; two = λ t. omega arith; fits = λ l t f. omega (arith, f) },
        (
          record { loaded = refl; whole = λ t. refl; two = λ t. omega arith; fits = λ l t f. omega (arith, f) },
          (
            record { loaded = refl; whole = λ t. refl; two = λ t. absurd (omega (arith, t)); fits = λ l t f. absurd (omega (arith, t)) },
            (
              record { loaded = refl; whole = λ t. absurd (omega (arith, t)); two = λ t. absurd (omega (arith, t)); fits = λ l t f. absurd (omega (arith, t)) },
              tt,
            ),
          ),
        ),
      ),
    )

size-listed : (size : ℕ) → is_pack_size size ≡ true → Has size all_sizes
size-listed size t =
    let k = any-found (nat_eq size) (4 ∷ 8 ∷ 16 ∷ 32 ∷ 64 ∷ []) t in
    let e : size ≡ k.0 = let q = k.2 in grind (arith, nat_tests, q) in
    subst (λ n. Has n all_sizes) (sym e) (every-has (λ n. Has n all_sizes) k.0 (4 ∷ 8 ∷ 16 ∷ 32 ∷ 64 ∷ [])
    (inr (inr (inr (inr (inl refl)))), (inr (inr (inr (inl refl))), (inr (inr (inl refl)), (inr (inl refl), (inl refl, tt))))) k.1)

-- a part is listed and passes
part-listed : (register : ℕ) (w : Width) (left size : ℕ) → IsPart register w left size → Has size (sizes_in register) × (is_part w left size ≡ true)
part-listed register w left size p =
    let h = size-listed size p.loaded in
    let d = divides w size h in
    let two : nat_le 2 (size / size_of w) ≡ true = let t = d.two p.two in grind (arith, nat_tests, t) in
    let fits : nat_le (size / size_of w) left ≡ true = let t = d.fits left p.two p.fits in grind (arith, nat_tests, t) in (
      has-filter (λ n. nat_eq (register_of_bytes n) register) size all_sizes h (ap (λ r. nat_eq r register) p.in_register ∙ eq-itself register),
      rw (two, fits) refl,
    )

-- a size that is found, and so many loads
record IsFound (register : ℕ) (w : Width) (left size : ℕ) : Type 0 where
  pub two : 2 ≤ size / size_of w
  pub inside : size / size_of w ≤ left
  pub whole : size / size_of w * size_of w ≡ size
  pub part : IsPart register w left size
  pub largest : (other : ℕ) → IsPart register w left other → other ≤ size

found-part : (register : ℕ) (w : Width) (left size : ℕ) → find (is_part w left) (sizes_in register) ≡ Some size → IsFound register w left size
found-part register w left size e =
    let k = found-is (is_part w left) (sizes_in register) size e in
    let b = both-true (nat_le 2 (size / size_of w)) (nat_le (size / size_of w) left) k.1 in
    let s = from-filter (λ n. nat_eq (register_of_bytes n) register) size all_sizes k.0 in
    let d = divides w size s.0 in
    let two : 2 ≤ size / size_of w = let t = b.0 in grind (arith, nat_tests, t) in
    let inside : size / size_of w ≤ left = let t = b.1 in grind (arith, nat_tests, t) in
    let whole = d.whole two in
    record {
      two = two;
      inside = inside;
      whole = whole;
      part = record {
        loaded = d.loaded;
        in_register = let t = s.1 in grind (arith, nat_tests, t);
        two = subst (λ n. 2 * size_of w ≤ n) whole (times-le 2 (size / size_of w) (size_of w) two);
        fits = subst (λ n. n ≤ left * size_of w) whole (times-le (size / size_of w) left (size_of w) inside);
      };
      largest = λ other p. let q = part-listed register w left other p in found-largest (is_part w left) (sizes_in register) size other (sizes-fall register) e q.0 q.1;
    }
  where
    times-le : (m n k : ℕ) → m ≤ n → m * k ≤ n * k
    times-le m n k l = mul-le-mul_right k l

-- nothing is a part of none
none-of-none : (register : ℕ) (w : Width) (size : ℕ) → IsPart register w 0 size → ⊥
none-of-none register W8 size p = let t = p.two in let f = p.fits in absurd (omega (arith, t, f))
none-of-none register W16 size p = let t = p.two in let f = p.fits in absurd (omega (arith, t, f))
none-of-none register W32 size p = let t = p.two in let f = p.fits in absurd (omega (arith, t, f))
none-of-none register W64 size p = let t = p.two in let f = p.fits in absurd (omega (arith, t, f))

-- ---- cuts

not-nothing : {X : Type 0} (before after : List X) (x : X) → [] ≡ before ++ x ∷ after → ⊥
not-nothing [] after x e = absurd (cc)
not-nothing (y ∷ before) after x e = absurd (cc)

heads-same : {X : Type 0} (x y : X) (xs ys : List X) → x ∷ xs ≡ y ∷ ys → (x ≡ y) × (xs ≡ ys)
heads-same x y xs ys e = (cc, cc)

take-drop : {X : Type 0} (n : ℕ) (xs : List X) → take n xs ++ drop n xs ≡ xs
take-drop zero xs = refl
take-drop (suc n) [] = refl
take-drop (suc n) (x ∷ xs) = ap (λ ys. x ∷ ys) (take-drop n xs)

one-cut : (register : ℕ) (w : Width) (us : List ℕ) (size : ℕ) (groups : List Pack) → IsFound register w (length us) size
    → AreCutFrom register w (drop (size / size_of w) us) groups → AreCutFrom register w us (Loads (take (size / size_of w) us) ∷ groups)
one-cut register w us size groups f c =
    let count = size / size_of w in
    let many : length (take count us) ≡ count = length-take-le count us f.inside in
    let bytes : length (take count us) * size_of w ≡ size = ap (λ n. n * size_of w) many ∙ f.whole in
    let front : us ≡ (take count us ++ flat_map units_of groups) ++ c.left =
    sym (take-drop count us) ∙ ap (λ xs. take count us ++ xs) c.front ∙ sym (append_assoc (take count us) (flat_map units_of groups) c.left)
    in
    let whole : length us ≡ length (take count us ++ flat_map units_of groups) + length c.left =
    ap length front ∙ length-append (take count us ++ flat_map units_of groups) c.left
    in
    let own : IsLargestPart register w (length us) (Loads (take count us)) = record {
      units = take count us;
      loads = refl;
      part = subst (IsPart register w (length us)) (sym bytes) f.part;
      largest = λ other p. subst (λ n. other ≤ n) (sym bytes) (f.largest other p);
    } in
    record {
      left = c.left;
      front = front;
      largest = λ before after g e. by_place before after g e own whole;
      none_left = c.none_left;
    }
  where
    by_place : (before after : List Pack) (g : Pack) → Loads (take (size / size_of w) us) ∷ groups ≡ before ++ g ∷ after
        → IsLargestPart register w (length us) (Loads (take (size / size_of w) us))
        → length us ≡ length (take (size / size_of w) us ++ flat_map units_of groups) + length c.left
        → IsLargestPart register w (length (flat_map units_of (g ∷ after)) + length c.left) g
    by_place [] after g e own whole =
        let k = heads-same (Loads (take (size / size_of w) us)) g groups after e in
        subst (λ p. IsLargestPart register w (length (flat_map units_of (p ∷ after)) + length c.left) p) k.0
        (subst (λ ps. IsLargestPart register w (length (flat_map units_of (Loads (take (size / size_of w) us) ∷ ps)) + length c.left) (Loads (take (size / size_of w) us))) k.1
        (subst (λ n. IsLargestPart register w n (Loads (take (size / size_of w) us))) whole own))
    by_place (b ∷ before) after g e own whole =
        let k = heads-same (Loads (take (size / size_of w) us)) b groups (before ++ g ∷ after) e in
        c.largest before after g k.1

pub cut : (register : ℕ) (w : Width) (n : ℕ) (us : List ℕ) → length us ≤ n → AreCutFrom register w us (cut_from register w n us)
cut register w zero us le = record {
  left = us;
  front = refl;
  largest = λ before after g e. absurd (not-nothing before after g e);
  none_left = λ size p.
      let e : length us ≡ 0 = omega (arith, le) in
      none-of-none register w size (subst (λ m. IsPart register w m size) e p);
}
cut register w (suc n) us le = by_found (find (is_part w (length us)) (sizes_in register)) refl (λ count. cut register w n (drop count us))
  where
    by_found : (found : Option ℕ) → find (is_part w (length us)) (sizes_in register) ≡ found
        → ((count : ℕ) → length (drop count us) ≤ n → AreCutFrom register w (drop count us) (cut_from register w n (drop count us)))
        → AreCutFrom register w us
        (elim found as (λ s. List Pack) [ None ↦ [] | Some size ↦ Loads (take (size / size_of w) us) ∷ cut_from register w n (drop (size / size_of w) us) ])
    by_found None e rest = record {
      left = us;
      front = refl;
      largest = λ before after g e. absurd (not-nothing before after g e);
      none_left = λ size p. let q = part-listed register w (length us) size p in none-passes (is_part w (length us)) (sizes_in register) size e q.0 q.1;
    }
    by_found (Some size) e rest =
        let f = found-part register w (length us) size e in
        let two = f.two in
        let d = length-drop (size / size_of w) us in
        one-cut register w us size (cut_from register w n (drop (size / size_of w) us)) f (rest (size / size_of w) (omega (arith, le, two, d)))

pub groups-cut : (register : ℕ) (loads : List PlacedLoad) (l : PlacedLoad) → AreCutFrom register l.width (run_of loads l) (groups_in register loads l)
groups-cut register loads l = cut register l.width (length (run_of loads l)) (run_of loads l) (omega arith)
