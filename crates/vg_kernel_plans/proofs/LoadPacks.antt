-- Each load group is a load pack.
use Rattle.std.proofs.Common.{◌≡◌, ℕ, zero, suc, ◌+◌, ◌*◌, ◌/◌, ◌≤◌, ℤ, pos, Bool, true, List, [], ◌∷◌, take, drop, length, refl, sym, ◌∙◌, ap, ap₂, subst, inl, inr, arith}
use Rattle.std.specs.Prelude.{◌&&◌, filter, find, nat_eq, nat_le, Option, Some, None}
use Rattle.std.specs.Ordering.{int_eq}
use Rattle.std.proofs.Math.IntN.{+ℤ_comm, +ℤ_idl}
use Rattle.std.proofs.lemmas.Bool.{cases_Bool}
use Rattle.std.proofs.lemmas.Bool.Decides.{nat_tests, Decides-int_eq}
use Rattle.std.proofs.lemmas.List.{drop-drop, length-take-le, length-drop}
use Rattle.vg_base.specs.declared.address.Address.{Address}
use Rattle.vg_base.specs.declared.width.Width.{Width}
use Rattle.vg_base.specs.declared.width.Width.TheVariants.{W8, W16, W32, W64}
use Rattle.vg_base.specs.Width.{bits_of, size_of}
use Rattle.vg_base.proofs.SameWidth.{width-tested}
use Rattle.vg_plans.specs.Members.{Every, Has}
use Rattle.vg_plans.proofs.Lists.{every-distinct, every-filter, every-flat_map, every-has, every-sort}
use Rattle.vg_plans.proofs.Members.{from-filter, from-flat_map}
use Rattle.vg_shapes.specs.declared.pack.Pack.{Pack}
use Rattle.vg_shapes.specs.declared.pack.Pack.TheVariants.{Loads}
use Rattle.vg_shapes.specs.declared.ssa.Ssa.{Ssa}
use Rattle.vg_shapes.specs.declared.ssa_unit.SsaUnit.{SsaUnit}
use Rattle.vg_shapes.specs.declared.ssa_unit.SsaUnit.TheVariants.{Load, Store, Operation}
use Rattle.vg_shapes.specs.Pack.{AreLoads, IsLoadPack, behind, is_pack_size}
use Rattle.vg_shapes.specs.Units.{unit_at}
use Rattle.vg_kernel_plans.specs.declared.first_loads.PlacedLoad.{PlacedLoad}
use Rattle.vg_kernel_plans.specs.Groups.{unit_numbers}
use Rattle.vg_kernel_plans.specs.LoadGroups.{above_least, all_loads, begins_run, cut_from, first_loads, groups_in, is_part, load_groups, loads_at, placed_load, run_at, run_begins, run_of, same_place, sizes_in}
use Rattle.vg_kernel_plans.specs.Taken.{register_of_bytes}
use Rattle.vg_kernel_plans.proofs.SameTests.{both-true}

-- ---- what is found

pub found-is : {X : Type 0} (test : X → Bool) (xs : List X) (x : X) → find test xs ≡ Some x → Has x xs × (test x ≡ true)
found-is test [] x e = absurd (cc)
found-is {X = X} test (y ∷ xs) x e = elim (cases_Bool (test y)) [
  | inl t ↦ let k : y ≡ x = same-some y x (rw t at e) in (inl k, subst (λ z. test z ≡ true) k t)
  | inr f ↦ let k = found-is test xs x (rw f at e) in (inr k.0, k.1)
]
  where
    same-some : (a b : X) → Some a ≡ Some b → a ≡ b
    same-some a b e = cc

abbrev made : ℕ → ℤ → Address
made p x = record { pointer = p; offset = x }

address-same : (a b : Address) → nat_eq a.pointer b.pointer ≡ true → int_eq a.offset b.offset ≡ true → a ≡ b
address-same a b p o =
    let e : a.pointer ≡ b.pointer = grind (arith, nat_tests, p) in
    let f : a.offset ≡ b.offset = (Decides-int_eq a.offset b.offset).0 o in
    ap₂ made e f

-- a load that stands at a place
pub at-place : (a : Address) (w : Width) (l : PlacedLoad) → loads_at a w l ≡ true → (l.address ≡ a) × (l.width ≡ w)
at-place a w l t =
    let k = both-true (nat_eq l.address.pointer a.pointer) (int_eq l.address.offset a.offset && nat_eq (bits_of l.width) (bits_of w)) t in
    let m = both-true (int_eq l.address.offset a.offset) (nat_eq (bits_of l.width) (bits_of w)) k.1 in
    (address-same l.address a k.0 m.0, width-tested l.width w m.1)

-- ---- the loads of a kernel

abbrev pub IsPlaced : Ssa → PlacedLoad → Type 0
IsPlaced ssa l = unit_at ssa l.unit ≡ Some (Load l.address l.width)

placed-one : (ssa : Ssa) (v : ℕ) (u : Option SsaUnit) → unit_at ssa v ≡ u → Every (IsPlaced ssa) (placed_load v u)
placed-one ssa v None e = tt
placed-one ssa v (Some (Load a w)) e = (e, tt)
placed-one ssa v (Some (Store a w x)) e = tt
placed-one ssa v (Some (Operation op w k xs)) e = tt

every-true : (vs : List ℕ) → Every (λ v. Unit {0}) vs
every-true [] = tt
every-true (v ∷ vs) = (tt, every-true vs)

pub first-placed : (ssa : Ssa) → Every (IsPlaced ssa) (first_loads ssa)
first-placed ssa =
    every-distinct (IsPlaced ssa) same_place [] (all_loads ssa)
    (every-flat_map (λ v. Unit {0}) (IsPlaced ssa) (λ v. placed_load v (unit_at ssa v)) (unit_numbers ssa)
    (λ v h. placed-one ssa v (unit_at ssa v) refl) (every-true (unit_numbers ssa)))

pub begins-placed : (ssa : Ssa) (loads : List PlacedLoad) → Every (IsPlaced ssa) loads → Every (IsPlaced ssa) (run_begins loads)
begins-placed ssa loads a =
    let begins = filter (begins_run loads) loads in
    every-sort (IsPlaced ssa) (λ l. l.address.pointer) _
    (every-sort (IsPlaced ssa) (λ l. bits_of l.width) _
    (every-sort (IsPlaced ssa) (λ l. above_least l.address.offset) begins (every-filter (IsPlaced ssa) (begins_run loads) loads a)))

-- ---- runs

run-loads : (ssa : Ssa) (loads : List PlacedLoad) → Every (IsPlaced ssa) loads → (a : Address) (w : Width) (n : ℕ) → AreLoads ssa w a (run_at loads a w n)
run-loads ssa loads all a w zero = tt
run-loads ssa loads all a w (suc n) = by_found (find (loads_at a w) loads) refl (run-loads ssa loads all (behind a (size_of w)) w n)
  where
    by_found : (found : Option PlacedLoad) → find (loads_at a w) loads ≡ found → AreLoads ssa w (behind a (size_of w)) (run_at loads (behind a (size_of w)) w n) →
        AreLoads ssa w a (elim found as (λ l. List ℕ) [ None ↦ [] | Some l ↦ l.unit ∷ run_at loads (behind a (size_of w)) w n ])
    by_found None e rest = tt
    by_found (Some l) e rest =
        let k = found-is (loads_at a w) loads l e in
        let p = at-place a w l k.1 in
        let u : unit_at ssa l.unit ≡ Some (Load l.address l.width) = every-has (IsPlaced ssa) l loads all k.0 in
        (subst (λ x. unit_at ssa l.unit ≡ Some (Load a x)) p.1 (subst (λ x. unit_at ssa l.unit ≡ Some (Load x l.width)) p.0 u), rest)

behind-none : (a : Address) → behind a 0 ≡ a
behind-none a =
    let made : ℤ → Address = λ z. record { pointer = a.pointer; offset = z } in
    ap made (+ℤ_comm a.offset (pos 0) ∙ +ℤ_idl a.offset)

loads-drop : (ssa : Ssa) (w : Width) (a : Address) (us : List ℕ) (k : ℕ) → AreLoads ssa w a us → (b : Address) × AreLoads ssa w b (drop k us)
loads-drop ssa w a us zero h = (a, h)
loads-drop ssa w a [] (suc k) h = (a, tt)
loads-drop ssa w a (u ∷ us) (suc k) h = loads-drop ssa w (behind a (size_of w)) us k h.1

loads-take : (ssa : Ssa) (w : Width) (a : Address) (us : List ℕ) (k : ℕ) → AreLoads ssa w a us → AreLoads ssa w a (take k us)
loads-take ssa w a us zero h = tt
loads-take ssa w a [] (suc k) h = tt
loads-take ssa w a (u ∷ us) (suc k) h = (h.0, loads-take ssa w (behind a (size_of w)) us k h.1)

-- ---- parts of runs

-- a part of loads beside each other: so many bytes, from one of them on
pub record IsCut (w : Width) (us : List ℕ) (p : Pack) : Type 0 where
  pub size : ℕ
  pub from : ℕ
  pub pack : p ≡ Loads (take (size / size_of w) (drop from us))
  pub listed : Has size (64 ∷ 32 ∷ 16 ∷ 8 ∷ 4 ∷ [])
  pub two : 2 ≤ size / size_of w
  pub inside : from + size / size_of w ≤ length us

cut-later : (w : Width) (us : List ℕ) (c : ℕ) (p : Pack) → c ≤ length us → IsCut w (drop c us) p → IsCut w us p
cut-later w us c p l k = record {
  size = k.size;
  from = c + k.from;
  pack = k.pack ∙ ap (λ xs. Loads (take (k.size / size_of w) xs)) (drop-drop k.from c us);
  listed = k.listed;
  two = k.two;
  inside = let i = k.inside in let d = length-drop c us in omega (arith, i, d, l);
}

pub cut-is : (register : ℕ) (w : Width) (n : ℕ) (us : List ℕ) (p : Pack) → Has p (cut_from register w n us) → IsCut w us p
cut-is register w zero us p h = absurd h
cut-is register w (suc n) us p h = by_found (find (is_part w (length us)) (sizes_in register)) refl (λ c k. cut-is register w n (drop c us) p k) h
  where
    by_found : (found : Option ℕ) → find (is_part w (length us)) (sizes_in register) ≡ found →
        ((c : ℕ) → Has p (cut_from register w n (drop c us)) → IsCut w (drop c us) p) →
        Has p (elim found as (λ s. List Pack) [ None ↦ [] | Some size ↦ Loads (take (size / size_of w) us) ∷ cut_from register w n (drop (size / size_of w) us) ]) → IsCut w us p
    by_found None e rest h = absurd h
    by_found (Some size) e rest h =
        let k = found-is (is_part w (length us)) (sizes_in register) size e in
        let b = both-true (nat_le 2 (size / size_of w)) (nat_le (size / size_of w) (length us)) k.1 in
        let s = from-filter (λ n. nat_eq (register_of_bytes n) register) size (64 ∷ 32 ∷ 16 ∷ 8 ∷ 4 ∷ []) k.0 in
        let fits : size / size_of w ≤ length us = grind (arith, nat_tests, b.1) in
        elim h [
          | inl q ↦ record {
            size = size;
            from = 0;
            pack = sym q;
            listed = s.0;
            two = grind (arith, nat_tests, b.0);
            inside = omega (arith, fits);
          }
          | inr r ↦ cut-later w us (size / size_of w) p fits (rest (size / size_of w) r)
        ]

-- a listed size that is at least two loads is one of a pack
abbrev Sized : Width → ℕ → Type 0
Sized w size = 2 ≤ size / size_of w → is_pack_size (size / size_of w * size_of w) ≡ true

listed-size : (w : Width) (size : ℕ) → Has size (64 ∷ 32 ∷ 16 ∷ 8 ∷ 4 ∷ []) → Sized w size
listed-size w size h =
    every-has (Sized w) size (64 ∷ 32 ∷ 16 ∷ 8 ∷ 4 ∷ []) (all-sized w) h
  where
    all-sized : (w : Width) → Every (Sized w) (64 ∷ 32 ∷ 16 ∷ 8 ∷ 4 ∷ [])
    all-sized W8 = (λ t. refl, (λ t. refl, (λ t. refl, (λ t. refl, (λ t. refl, tt)))))
    all-sized W16 = (λ t. refl, (λ t. refl, (λ t. refl, (λ t. refl, (λ t. refl, tt)))))
    all-sized W32 = (λ t. refl, (λ t. refl, (λ t. refl, (λ t. refl, (λ t. absurd (omega (arith, t)), tt)))))
    all-sized W64 = (λ t. refl, (λ t. refl, (λ t. refl, (λ t. absurd (omega (arith, t)), (λ t. absurd (omega (arith, t)), tt)))))

-- ---- groups

-- loads that are a load pack, at most 64
pub record IsLoadGroup (ssa : Ssa) (p : Pack) : Type 0 where
  pub units : List ℕ
  pub pack : p ≡ Loads units
  pub loads : IsLoadPack ssa units
  pub short : length units ≤ 64

short-size : (w : Width) (size : ℕ) → Has size (64 ∷ 32 ∷ 16 ∷ 8 ∷ 4 ∷ []) → size / size_of w ≤ 64
short-size w size h = every-has (λ s. s / size_of w ≤ 64) size (64 ∷ 32 ∷ 16 ∷ 8 ∷ 4 ∷ []) (all-short w) h
  where
    all-short : (w : Width) → Every (λ s. s / size_of w ≤ 64) (64 ∷ 32 ∷ 16 ∷ 8 ∷ 4 ∷ [])
    all-short W8 = (omega arith, (omega arith, (omega arith, (omega arith, (omega arith, tt)))))
    all-short W16 = (omega arith, (omega arith, (omega arith, (omega arith, (omega arith, tt)))))
    all-short W32 = (omega arith, (omega arith, (omega arith, (omega arith, (omega arith, tt)))))
    all-short W64 = (omega arith, (omega arith, (omega arith, (omega arith, (omega arith, tt)))))

cut-group : (ssa : Ssa) (w : Width) (a : Address) (us : List ℕ) (p : Pack) → AreLoads ssa w a us → IsCut w us p → IsLoadGroup ssa p
cut-group ssa w a us p h c =
    let at = loads-drop ssa w a us c.from h in
    let count = c.size / size_of w in
    let part = take count (drop c.from us) in
    let d = length-drop c.from us in
    let i = c.inside in
    let many : length part ≡ count = length-take-le count (drop c.from us) (omega (arith, d, i)) in
    record {
      units = part;
      pack = c.pack;
      loads = (
        w,
        at.0,
        loads-take ssa w at.0 (drop c.from us) count at.1,
        subst (λ n. 2 ≤ n) (sym many) c.two,
        subst (λ n. is_pack_size (n * size_of w) ≡ true) (sym many) (listed-size w c.size c.listed c.two),
      );
      short = subst (λ n. n ≤ 64) (sym many) (short-size w c.size c.listed);
    }

pub load-group : (ssa : Ssa) (register : ℕ) (p : Pack) → Has p (load_groups ssa register) → IsLoadGroup ssa p
load-group ssa register p h =
    let loads = first_loads ssa in
    let l = from-flat_map (groups_in register loads) p (run_begins loads) h in
    cut-group ssa l.0.width l.0.address (run_of loads l.0) p (run-loads ssa loads (first-placed ssa) l.0.address l.0.width (length loads))
    (cut-is register l.0.width (length (run_of loads l.0)) (run_of loads l.0) p l.2)
