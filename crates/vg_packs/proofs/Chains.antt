-- Runs along links are the stores at places beside each other, and their groups the store groups.
use Rattle.std.proofs.Common.{◌≡◌, ℕ, zero, suc, ◌+◌, ◌-◌, ◌/◌, ◌<◌, ◌≤◌, Bool, true, false, List, [], ◌∷◌, ◌++◌, length, map, refl, sym, ◌∙◌, ap, subst, inl, inr, arith, append_assoc, append-nil}
use Rattle.std.specs.Prelude.{◌&&◌, find, if◌then◌else◌, is_some, nat_eq, nat_le, option_map, position, Option, Some, None, slice_get}
use Rattle.std.specs.List.{filter_map, flat_map, list_all}
use Rattle.std.proofs.lemmas.Bool.{cases_Bool}
use Rattle.std.proofs.lemmas.Bool.Decides.{nat_tests, Decides-int_eq}
use Rattle.std.proofs.lemmas.Grind.{flat_map-append}
use Rattle.std.proofs.lemmas.List.{map-append}
use Rattle.vg_base.specs.declared.address.Address.{Address}
use Rattle.vg_base.specs.declared.width.Width.{Width}
use Rattle.vg_base.specs.Width.{bits_of, size_of}
use Rattle.vg_kernel_plans.proofs.SameTests.{eq-itself}
use Rattle.vg_kernel_plans.specs.Groups.{group_of, groups_of, store_groups, stores_at, stores_from}
use Rattle.vg_shapes.specs.declared.pack.Pack.{Pack}
use Rattle.vg_shapes.specs.declared.pack.Pack.TheVariants.{Stores}
use Rattle.vg_shapes.specs.declared.ssa.Ssa.{Ssa}
use Rattle.vg_shapes.specs.declared.ssa_unit.SsaUnit.{SsaUnit}
use Rattle.vg_shapes.specs.declared.ssa_unit.SsaUnit.TheVariants.{Load, Store, Operation}
use Rattle.vg_shapes.specs.declared.wanted.Wanted.{Wanted}
use Rattle.vg_shapes.specs.Order.{numbers_from}
use Rattle.vg_shapes.specs.Pack.{behind, stores_before, stores_to}
use Rattle.vg_shapes.specs.Units.{arguments, unit_at}
use Rattle.vg_packs.specs.declared.placed.Link.{Link}
use Rattle.vg_packs.specs.declared.placed.PlacedStore.{PlacedStore}
use Rattle.vg_packs.specs.Placed.{group_from, groups_among, is_next, is_ranked, link_behind, link_in, links_of, placed, placed_as, placed_from, run_from}
use Rattle.vg_packs.proofs.Counts.{count-next, none-below, nth-kept}
use Rattle.vg_packs.proofs.Placing.{linked, ranked-found, ranked-is, unit_of}

-- those in front of the first that is not there
abbrev front : List (Option ℕ) → List ℕ
front [] = []
front (None ∷ found) = []
front (Some u ∷ found) = u ∷ front found

suc-same : (a b : ℕ) → nat_eq (suc a) (suc b) ≡ nat_eq a b
suc-same a b = elim (cases_Bool (nat_eq a b)) [
  | inl t ↦ grind (arith, nat_tests, t)
  | inr f ↦ grind (arith, nat_tests, f)
]

front-whole : (found : List (Option ℕ)) → nat_eq (length (front found)) (length found) ≡ list_all is_some found
front-whole [] = refl
front-whole (None ∷ found) = grind (arith, nat_tests)
front-whole (Some u ∷ found) = suc-same (length (front found)) (length found) ∙ front-whole found

front-all : (found : List (Option ℕ)) → list_all is_some found ≡ true → filter_map (λ u. u) found ≡ front found
front-all [] t = refl
front-all (None ∷ found) t = absurd (cc)
front-all (Some u ∷ found) t = ap (λ us. u ∷ us) (front-all found t)

pub length-stores : (ssa : Ssa) (a : Address) (w : Width) (r n : ℕ) → length (stores_from ssa a w r n) ≡ n
length-stores ssa a w r zero = refl
length-stores ssa a w r (suc n) = let h = length-stores ssa (behind a (size_of w)) w r n in omega (arith, h)

both-off : (b : Bool) (p q : Pack) → (if b && false then p ∷ [] else []) ≡ (if b && false then q ∷ [] else [])
both-off true p q = refl
both-off false p q = refl

group-front : (found : List (Option ℕ)) (count : ℕ) → length found ≡ count
    → (if nat_le 2 count && nat_eq (length (front found)) count then Stores (front found) ∷ [] else [])
    ≡ (if nat_le 2 (length found) && list_all is_some found then Stores (filter_map (λ u. u) found) ∷ [] else [])
group-front found count e =
    subst (λ c. (if nat_le 2 c && nat_eq (length (front found)) c then Stores (front found) ∷ [] else [])
    ≡ (if nat_le 2 (length found) && list_all is_some found then Stores (filter_map (λ u. u) found) ∷ [] else [])) e
    (rw (front-whole found) (elim (cases_Bool (list_all is_some found)) [
      | inl t ↦
          rw t
          (ap (λ us. if nat_le 2 (length found) && true then Stores us ∷ [] else []) (sym (front-all found t)))
      | inr f ↦ rw f (both-off (nat_le 2 (length found)) _ _)
    ]))

-- the store of a rank at a place, if there is one
pub store-found : (ssa : Ssa) (a : Address) (w : Width) (r : ℕ)
    → option_map unit_of (find (is_ranked a w r) (placed ssa)) ≡ slice_get (stores_at ssa a w) r
store-found ssa a w r =
    let first = arguments ssa in
    let n = length ssa.units in
    let test : ℕ → Bool = λ u. stores_to a w (unit_at ssa u) in
    let z : stores_before ssa a w first ≡ 0 = none-below test first n first (omega arith) in
    let e : stores_before ssa a w first + r ≡ r = omega (arith, z) in
    subst (λ k. option_map unit_of (find (is_ranked a w k) (placed ssa)) ≡ slice_get (stores_at ssa a w) r) e
    (ranked-found ssa a w first n r (λ u l m. count-next test first n u l m))

runs-of : (ssa : Ssa) (n : ℕ) (a : Address) (w : Width) (r : ℕ) (o : Option PlacedStore)
    → find (is_ranked a w r) (placed ssa) ≡ o
    → ((s : PlacedStore) → run_from (links_of (placed ssa)) n (link_behind (links_of (placed ssa)) (position (is_next s) (placed ssa)))
    ≡ front (stores_from ssa (behind s.address (size_of s.width)) s.width s.rank n))
    → ((s : PlacedStore) → o ≡ Some s → is_ranked a w r s ≡ true)
    → run_from (links_of (placed ssa)) (suc n) (option_map (link_in (placed ssa)) o)
    ≡ front (option_map unit_of o ∷ stores_from ssa (behind a (size_of w)) w r n)
runs-of ssa n a w r None e next is = refl
runs-of ssa n a w r (Some s) e next is =
    let same = ranked-is a w r s (is s refl) in
    ap (λ us. s.unit ∷ us) (next s ∙ ap (λ q. front (stores_from ssa (behind s.address (size_of s.width)) s.width q n)) same.0
    ∙ ap (λ b. front (stores_from ssa (behind b (size_of s.width)) s.width r n)) same.1
    ∙ ap (λ x. front (stores_from ssa (behind a (size_of x)) x r n)) same.2)

pub find-is : {X : Type 0} (test : X → Bool) (xs : List X) (x : X) → find test xs ≡ Some x → test x ≡ true
find-is test [] x e = absurd (cc)
find-is test (z ∷ xs) x e = elim (cases_Bool (test z)) [
  | inl t ↦ let h : Some z ≡ Some x = rw t at e in let k : z ≡ x = cc in subst (λ y. test y ≡ true) k t
  | inr f ↦ find-is test xs x (rw f at e)
]

runs : (ssa : Ssa) (n : ℕ) (a : Address) (w : Width) (r : ℕ)
    → run_from (links_of (placed ssa)) n (link_behind (links_of (placed ssa)) (position (is_ranked a w r) (placed ssa)))
    ≡ front (stores_from ssa a w r n)
runs ssa zero a w r = refl
runs ssa (suc n) a w r =
    ap (run_from (links_of (placed ssa)) (suc n)) (linked (link_in (placed ssa)) (is_ranked a w r) (placed ssa))
    ∙ runs-of ssa n a w r (find (is_ranked a w r) (placed ssa)) refl
    (λ s. runs ssa n (behind s.address (size_of s.width)) s.width s.rank)
    (λ s e. find-is (is_ranked a w r) (placed ssa) s e)
    ∙ ap (λ o. front (o ∷ stores_from ssa (behind a (size_of w)) w r n)) (store-found ssa a w r)

run-here : (ssa : Ssa) (a : Address) (w : Width) (r v n : ℕ) → slice_get (stores_at ssa a w) r ≡ Some v
    → run_from (links_of (placed ssa)) n (Some (link_in (placed ssa) (record { unit = v; address = a; width = w; rank = r })))
    ≡ front (stores_from ssa a w r n)
run-here ssa a w r v zero e = refl
run-here ssa a w r v (suc n) e =
    ap (λ us. v ∷ us) (runs ssa n (behind a (size_of w)) w r)
    ∙ ap (λ o. front (o ∷ stores_from ssa (behind a (size_of w)) w r n)) (sym e)

abbrev grouped : Ssa → ℕ → List PlacedStore → List Pack
grouped ssa size stores =
    flat_map (λ l. group_from (links_of (placed ssa)) (size / size_of l.width) l) (map (link_in (placed ssa)) stores)

pub own-place : (a : Address) (w : Width) (x : Wanted) → stores_to a w (Some (Store a w x)) ≡ true
own-place a w x = rw (eq-itself a.pointer, (Decides-int_eq a.offset a.offset).1 refl, eq-itself (bits_of w)) refl

group-here : (ssa : Ssa) (size v : ℕ) (u : Option SsaUnit) → unit_at ssa v ≡ u → arguments ssa ≤ v → v < arguments ssa + length ssa.units
    → grouped ssa size (placed_as v (λ a w. stores_before ssa a w v) u) ≡ group_of ssa size v u
group-here ssa size v None e l m = refl
group-here ssa size v (Some (Load a w)) e l m = refl
group-here ssa size v (Some (Operation op w k xs)) e l m = refl
group-here ssa size v (Some (Store a w x)) e l m =
    let test : ℕ → Bool = λ u. stores_to a w (unit_at ssa u) in
    let own : test v ≡ true = ap (stores_to a w) e ∙ own-place a w x in
    let r = stores_before ssa a w v in
    let n = size / size_of w in
    let at : slice_get (stores_at ssa a w) r ≡ Some v = nth-kept test (arguments ssa) (length ssa.units) v l m own in
    append-nil _
    ∙ ap (λ us. if nat_le 2 n && nat_eq (length us) n then Stores us ∷ [] else []) (run-here ssa a w r v n at)
    ∙ group-front (stores_from ssa a w r n) n (length-stores ssa a w r n)

grouped-append : (ssa : Ssa) (size : ℕ) (xs ys : List PlacedStore)
    → grouped ssa size (xs ++ ys) ≡ grouped ssa size xs ++ grouped ssa size ys
grouped-append ssa size xs ys =
    ap (flat_map (λ l. group_from (links_of (placed ssa)) (size / size_of l.width) l)) (map-append (link_in (placed ssa)) xs ys)
    ∙ flat_map-append (λ l. group_from (links_of (placed ssa)) (size / size_of l.width) l) _ _

groups-from : (ssa : Ssa) (size v n : ℕ) → arguments ssa ≤ v → v + n ≤ arguments ssa + length ssa.units
    → grouped ssa size (placed_from ssa v n) ≡ flat_map (λ v. group_of ssa size v (unit_at ssa v)) (numbers_from v n)
groups-from ssa size v zero l m = refl
groups-from ssa size v (suc n) l m =
    grouped-append ssa size (placed_as v (λ a w. stores_before ssa a w v) (unit_at ssa v)) (placed_from ssa (v + 1) n)
    ∙ ap (λ ps. ps ++ grouped ssa size (placed_from ssa (v + 1) n)) (group-here ssa size v (unit_at ssa v) refl l (omega (arith, m)))
    ∙ ap (λ ps. group_of ssa size v (unit_at ssa v) ++ ps) (groups-from ssa size (v + 1) n (omega (arith, l)) (omega (arith, m)))

pub groups-same : (ssa : Ssa) (size : ℕ) → groups_among (links_of (placed ssa)) size ≡ groups_of ssa size
groups-same ssa size = groups-from ssa size (arguments ssa) (length ssa.units) (omega arith) (omega arith)

-- ---- for the code

pub run-ends : (links : List Link) (left : ℕ) (at : Option Link) (us whole : List ℕ) → left ≤ 0
    → us ++ run_from links left at ≡ whole → us ≡ whole
run-ends links zero at us whole l e = sym (append-nil us) ∙ e
run-ends links (suc n) at us whole l e = absurd (omega (arith, l))

pub run-stops : (links : List Link) (left : ℕ) (at : Option Link) (us whole : List ℕ) → at ≡ None
    → us ++ run_from links left at ≡ whole → us ≡ whole
run-stops links zero at us whole n e = sym (append-nil us) ∙ e
run-stops links (suc k) at us whole n e =
    sym (append-nil us) ∙ ap (λ o. us ++ run_from links (suc k) o) (sym n) ∙ e

pub run-goes : (links : List Link) (left : ℕ) (at : Option Link) (l : Link) (us more whole : List ℕ) (next : Option Link)
    → 0 < left → at ≡ Some l → more ≡ us ++ l.unit ∷ [] → next ≡ link_behind links l.next
    → us ++ run_from links left at ≡ whole → more ++ run_from links (left - 1) next ≡ whole
run-goes links zero at l us more whole next p a m n e = absurd (omega (arith, p))
run-goes links (suc k) at l us more whole next p a m n e =
    let s : suc k - 1 ≡ k = omega arith in
    ap (λ xs. xs ++ run_from links (suc k - 1) next) m
    ∙ append_assoc us (l.unit ∷ []) _
    ∙ ap (λ j. us ++ l.unit ∷ run_from links j next) s
    ∙ ap (λ o. us ++ l.unit ∷ run_from links k o) n
    ∙ ap (λ o. us ++ run_from links (suc k) o) (sym a) ∙ e

pub five : (ssa : Ssa) (links : List Link) (g0 g1 g2 g3 g4 g5 : List Pack) → links ≡ links_of (placed ssa) → g0 ≡ []
    → g1 ≡ g0 ++ groups_among links 64 → g2 ≡ g1 ++ groups_among links 32 → g3 ≡ g2 ++ groups_among links 16
    → g4 ≡ g3 ++ groups_among links 8 → g5 ≡ g4 ++ groups_among links 4 → g5 ≡ store_groups ssa
five ssa links g0 g1 g2 g3 g4 g5 l e0 e1 e2 e3 e4 e5 =
    let is : (size : ℕ) → groups_among links size ≡ groups_of ssa size =
    λ size. ap (λ ls. groups_among ls size) l ∙ groups-same ssa size
    in
    let f1 : g1 ≡ groups_of ssa 64 = e1 ∙ ap (λ xs. xs ++ groups_among links 64) e0 ∙ is 64 in
    let f2 : g2 ≡ groups_of ssa 64 ++ groups_of ssa 32 = e2 ∙ ap (λ xs. xs ++ groups_among links 32) f1 ∙ ap (λ xs. groups_of ssa 64 ++ xs) (is 32) in
    let f3 : g3 ≡ groups_of ssa 64 ++ groups_of ssa 32 ++ groups_of ssa 16 = e3 ∙ ap (λ xs. xs ++ groups_among links 16) f2 ∙ ap (λ xs. groups_of ssa 64 ++ groups_of ssa 32 ++ xs) (is 16) in
    let f4 : g4 ≡ groups_of ssa 64 ++ groups_of ssa 32 ++ groups_of ssa 16 ++ groups_of ssa 8 = e4 ∙ ap (λ xs. xs ++ groups_among links 8) f3 ∙ ap (λ xs. groups_of ssa 64 ++ groups_of ssa 32 ++ groups_of ssa 16 ++ xs) (is 8) in
    let f5 : g5 ≡ groups_of ssa 64 ++ groups_of ssa 32 ++ groups_of ssa 16 ++ groups_of ssa 8 ++ groups_of ssa 4 = e5 ∙ ap (λ xs. xs ++ groups_among links 4) f4 ∙ ap (λ xs. groups_of ssa 64 ++ groups_of ssa 32 ++ groups_of ssa 16 ++ groups_of ssa 8 ++ xs) (is 4) in
    f5 ∙ right (groups_of ssa 64) (groups_of ssa 32) (groups_of ssa 16) (groups_of ssa 8) (groups_of ssa 4)
  where
    right : (a b c d e : List Pack) → a ++ b ++ c ++ d ++ e ≡ a ++ (b ++ (c ++ (d ++ (e ++ []))))
    right a b c d e =
        append_assoc (a ++ b ++ c) d e ∙ append_assoc (a ++ b) c (d ++ e) ∙ append_assoc a b (c ++ (d ++ e))
        ∙ ap (λ z. a ++ (b ++ (c ++ (d ++ z)))) (sym (append-nil e))
