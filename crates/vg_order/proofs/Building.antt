-- The graph of a plan, made piece by piece.
use Rattle.std.proofs.Common.{◌≡◌, ◌≢◌, ℕ, zero, suc, ◌+◌, ◌-◌, ◌<◌, ◌≤◌, List, [], ◌∷◌, ◌++◌, length, take, drop, map, Option, Some, None, refl, sym, ap, subst, ◌∙◌, inl, inr, arith, append_assoc, append-nil, get_or}
use Rattle.std.specs.Prelude.{if◌then◌else◌, filter, slice_index, slice_index_or, slice_set, ◌==◌}
use Rattle.std.specs.List.{cons_option}
use Rattle.std.specs.Option.{is_none, option_map_or}
use Rattle.std.proofs.lemmas.Bool.{cases_eq, eq-eqb, ne_eqb}
use Rattle.std.proofs.lemmas.List.{drop_more, get_or-set_other, get_or-set_same, get_or_append_left, get_or_push, length-append, length_push, map-append, take_more}
use Rattle.std.proofs.lemmas.List.Concat.{flat_map-append}
use Rattle.std.proofs.lemmas.List.Elements.{filter-append}
use Rattle.std.proofs.lemmas.Option.{slice_get-get_or}
use Rattle.vg_shapes.specs.declared.match_table.Bound.{Bound}
use Rattle.vg_shapes.specs.declared.match_table.Match.{Match}
use Rattle.vg_shapes.specs.declared.order.Node.{Node}
use Rattle.vg_shapes.specs.declared.order.Node.TheVariants.{PackAt, UnitAt}
use Rattle.vg_shapes.specs.declared.pack.Pack.{Pack}
use Rattle.vg_shapes.specs.Nodes.{packed, units_at}
use Rattle.vg_shapes.specs.Order.{count_of, numbers_from, one_if, Stands}
use Rattle.vg_shapes.specs.Pack.{bounds_from, units_of}
use Rattle.vg_order.specs.declared.needs.Needs.{Needs}
use Rattle.vg_order.specs.declared.needs.Needs.TheVariants.{RowsOf, Those}
use Rattle.vg_order.specs.Graphs.{free_from, IsHome, IsOwner, lane_bounds, node_needs, pack_needs, Settles, unit_in, units_among}
use Rattle.vg_order.proofs.Counts.{count_of-append, count_of-push}

-- ---- what the leaves of lanes are bound to

among-append : (first end : ℕ) (xs ys : List Bound) → units_among first end (xs ++ ys) ≡ units_among first end xs ++ units_among first end ys
among-append first end [] ys = refl
among-append first end (x ∷ xs) ys = ap (cons_option (unit_in first end x.wanted)) (among-append first end xs ys) ∙ joined (unit_in first end x.wanted) (units_among first end xs) (units_among first end ys)
  where
    joined : (o : Option ℕ) (us vs : List ℕ) → cons_option o (us ++ vs) ≡ cons_option o us ++ vs
    joined None us vs = refl
    joined (Some u) us vs = refl

bounds-cons : (matches : List Match) (d lane : ℕ) (o : Option ℕ) (lanes : List (Option ℕ)) → bounds_from matches d lane (o ∷ lanes) ≡ lane_bounds matches d lane o ++ bounds_from matches d (lane + 1) lanes
bounds-cons matches d lane None lanes = refl
bounds-cons matches d lane (Some v) lanes = refl

pub lanes-more : (matches : List Match) (first end d lane : ℕ) (lanes : List (Option ℕ)) (o : Option ℕ) (bounds : List Bound) (units more new whole : List ℕ)
    → lane < length lanes → o ≡ get_or lanes lane o → bounds ≡ lane_bounds matches d lane o → more ≡ units_among first end bounds → new ≡ units ++ more
    → units ++ units_among first end (bounds_from matches d lane (drop lane lanes)) ≡ whole
    → new ++ units_among first end (bounds_from matches d (lane + 1) (drop (lane + 1) lanes)) ≡ whole
lanes-more matches first end d lane lanes o bounds units more new whole h e b m n so =
    let rest = bounds_from matches d (lane + 1) (drop (lane + 1) lanes) in
    let cut : drop lane lanes ≡ o ∷ drop (lane + 1) lanes = drop_more lanes lane o h ∙ ap (λ q. q ∷ drop (lane + 1) lanes) (sym e) in
    let parted : units_among first end (bounds_from matches d lane (drop lane lanes)) ≡ more ++ units_among first end rest =
    ap (λ l. units_among first end (bounds_from matches d lane l)) cut
    ∙ ap (units_among first end) (bounds-cons matches d lane o (drop (lane + 1) lanes))
    ∙ among-append first end (lane_bounds matches d lane o) rest
    ∙ ap (λ l. l ++ units_among first end rest) (ap (units_among first end) (sym b) ∙ sym m) in
    ap (λ l. l ++ units_among first end rest) n ∙ append_assoc units more (units_among first end rest) ∙ ap (λ l. units ++ l) (sym parted) ∙ so

-- ---- owners

pub own-theirs : (owners : List (Option ℕ)) (units : List ℕ) (k pack : ℕ) → k < length units → slice_index units k < length owners
    → ((x : ℕ) → Stands x (take k units) → slice_index_or owners x None ≡ Some pack)
    → (x : ℕ) → Stands x (take (k + 1) units) → slice_index_or (slice_set owners (slice_index units k) (Some pack)) x None ≡ Some pack
own-theirs owners units k pack h inside theirs x s =
    let u = slice_index units k in
    elim (cases_eq x u) [
      | inl same ↦ ap (λ y. slice_index_or (slice_set owners u (Some pack)) y None) same ∙ get_or-set_same owners u (Some pack) None inside
      | inr other ↦
          let none : one_if (x == u) ≡ 0 = ap one_if (ne_eqb x u other) in
          let sum : count_of x (take (k + 1) units) ≡ count_of x (take k units) + one_if (x == u) = ap (count_of x) (take_more units k 0 h) ∙ count_of-push x u (take k units) in
          get_or-set_other owners u x (Some pack) None other ∙ theirs x (omega arith)
    ]

pub own-others : (owners before : List (Option ℕ)) (units : List ℕ) (k pack : ℕ) → k < length units
    → ((x : ℕ) → count_of x (take k units) ≡ 0 → slice_index_or owners x None ≡ slice_index_or before x None)
    → (x : ℕ) → count_of x (take (k + 1) units) ≡ 0 → slice_index_or (slice_set owners (slice_index units k) (Some pack)) x None ≡ slice_index_or before x None
own-others owners before units k pack h others x z =
    let u = slice_index units k in
    let sum : count_of x (take (k + 1) units) ≡ count_of x (take k units) + one_if (x == u) = ap (count_of x) (take_more units k 0 h) ∙ count_of-push x u (take k units) in
    elim (cases_eq x u) [
      | inl same ↦ absurd (let one : one_if (x == u) ≡ 1 = ap one_if (eq-eqb x u same) in omega arith)
      | inr other ↦ get_or-set_other owners u x (Some pack) None other ∙ others x (omega arith)
    ]

pub pack-units : (packs : List Pack) (k : ℕ) (p : Pack) → k < length packs → p ≡ get_or packs k p → units_at packs (PackAt k) ≡ units_of p
pack-units packs k p h e = ap (λ o. option_map_or units_of o []) (slice_get-get_or packs k p h ∙ ap Some (sym e))

pub packed-has : (packs : List Pack) (k : ℕ) (x : ℕ) (p : Pack) → k < length packs → p ≡ get_or packs k p → Stands x (units_of p) → Stands x (packed packs)
packed-has [] k x p h e s = absurd (omega arith)
packed-has (q ∷ packs) zero x p h e s =
    let sum = count_of-append x (units_of q) (packed packs) in
    let same : count_of x (units_of p) ≡ count_of x (units_of q) = ap (λ r. count_of x (units_of r)) e in
    omega arith
packed-has (q ∷ packs) (suc k) x p h e s =
    let sum = count_of-append x (units_of q) (packed packs) in
    let rest = packed-has packs k x p (omega arith) e s in
    omega arith

packed-more : (packs : List Pack) (k : ℕ) (p : Pack) → k < length packs → p ≡ get_or packs k p → packed (take (k + 1) packs) ≡ packed (take k packs) ++ units_of p
packed-more packs k p h e =
    ap packed (take_more packs k p h ∙ ap (λ q. take k packs ++ q ∷ []) (sym e))
    ∙ flat_map-append units_of (take k packs) (p ∷ []) ∙ ap (λ l. packed (take k packs) ++ l) (append-nil (units_of p))

pub owner-more : (packs : List Pack) (k x : ℕ) (p : Pack) (units : List ℕ) (old new : Option ℕ) → k < length packs → p ≡ get_or packs k p → units ≡ units_of p
    → (Stands x units → new ≡ Some k) → (count_of x units ≡ 0 → new ≡ old) → IsOwner packs (take k packs) x old → IsOwner packs (take (k + 1) packs) x new
owner-more packs k x p units old new h e u theirs others was = by (count_of x units) refl
  where
    keeps : (o : Option ℕ) → count_of x units ≡ 0 → IsOwner packs (take k packs) x o → IsOwner packs (take (k + 1) packs) x o
    keeps None z w =
        let sum : count_of x (packed (take (k + 1) packs)) ≡ count_of x (packed (take k packs)) + count_of x units =
        ap (count_of x) (packed-more packs k p h e) ∙ count_of-append x (packed (take k packs)) (units_of p) ∙ ap (λ l. count_of x (packed (take k packs)) + count_of x l) (sym u) in
        omega arith
    keeps (Some j) z w = w

    by : (n : ℕ) → count_of x units ≡ n → IsOwner packs (take (k + 1) packs) x new
    by zero z = subst (IsOwner packs (take (k + 1) packs) x) (sym (others z)) (keeps old z was)
    by (suc n) z =
        let here : Stands x units = omega arith in
        subst (IsOwner packs (take (k + 1) packs) x) (sym (theirs here)) (h, subst (Stands x) (u ∙ sym (pack-units packs k p h e)) here)

-- ---- the packs as nodes

pub numbers_from-more : (first n : ℕ) → numbers_from first (suc n) ≡ numbers_from first n ++ (first + n) ∷ []
numbers_from-more first zero = ap (λ m. m ∷ []) (let e : first ≡ first + 0 = omega arith in e)
numbers_from-more first (suc n) =
    let next : first + 1 + n ≡ first + suc n = omega arith in
    ap (λ l. first ∷ l) (numbers_from-more (first + 1) n ∙ ap (λ m. numbers_from (first + 1) n ++ m ∷ []) next)

pub nodes-more : (k : ℕ) (nodes new : List Node) → nodes ≡ map PackAt (numbers_from 0 k) → new ≡ nodes ++ PackAt k ∷ [] → new ≡ map PackAt (numbers_from 0 (k + 1))
nodes-more k nodes new e n =
    let here : 0 + k ≡ k = omega arith in
    let next : suc k ≡ k + 1 = omega arith in
    n ∙ ap (λ l. l ++ PackAt k ∷ []) e ∙ ap (λ m. map PackAt (numbers_from 0 k) ++ PackAt m ∷ []) (sym here)
    ∙ sym (ap (map PackAt) (numbers_from-more 0 k) ∙ map-append PackAt (numbers_from 0 k) ((0 + k) ∷ []))
    ∙ ap (λ m. map PackAt (numbers_from 0 m)) next

pub needs-more : (first end : ℕ) (matches : List Match) (packs : List Pack) (k : ℕ) (p : Pack) (nodes now : List Node) (needs more : List Needs) (one : Needs)
    → k < length packs → p ≡ get_or packs k p → one ≡ pack_needs first end matches p → needs ≡ map (node_needs first end matches packs) nodes
    → now ≡ nodes ++ PackAt k ∷ [] → more ≡ needs ++ one ∷ [] → more ≡ map (node_needs first end matches packs) now
needs-more first end matches packs k p nodes now needs more one h e is so n m =
    let f = node_needs first end matches packs in
    let here : one ≡ f (PackAt k) = is ∙ sym (ap (λ o. option_map_or (pack_needs first end matches) o (Those [])) (slice_get-get_or packs k p h ∙ ap Some (sym e))) in
    m ∙ (λ i. so i ++ here i ∷ []) ∙ sym (map-append f nodes (PackAt k ∷ [])) ∙ ap (map f) (sym n)

-- ---- the nodes of units

pub record HomesSoFar (owners : List (Option ℕ)) (first unit : ℕ) (homes : List ℕ) (before nodes : List Node) (needs more : List Needs) : Type 0 where
  pub long : length homes ≡ unit
  pub most : length nodes ≤ length before + unit
  pub nodes_are : nodes ≡ before ++ map UnitAt (free_from owners first unit)
  pub needs_are : more ≡ needs ++ map (λ v. RowsOf (v ∷ [])) (free_from owners first unit)
  pub homes_are : (x : ℕ) → first ≤ x → x < unit → IsHome nodes x (slice_index homes x) (slice_index_or owners x None)

free-more : (owners : List (Option ℕ)) (first unit : ℕ) → first ≤ unit → free_from owners first (unit + 1) ≡ free_from owners first unit ++ filter (λ v. is_none (slice_index_or owners v None)) (unit ∷ [])
free-more owners first unit h =
    let test = λ (v : ℕ). is_none (slice_index_or owners v None) in
    let next : unit + 1 - first ≡ suc (unit - first) = omega arith in
    let here : first + (unit - first) ≡ unit = omega arith in
    ap (λ n. filter test (numbers_from first n)) next ∙ ap (filter test) (numbers_from-more first (unit - first))
    ∙ filter-append test (numbers_from first (unit - first)) ((first + (unit - first)) ∷ [])
    ∙ ap (λ n. free_from owners first unit ++ filter test (n ∷ [])) here

-- a home stays where nodes and homes are pushed
home-stays : (nodes more : List Node) (homes : List ℕ) (home x : ℕ) (o : Option ℕ) → x < length homes → IsHome nodes x (slice_index homes x) o → IsHome (nodes ++ more) x (slice_index (homes ++ home ∷ []) x) o
home-stays nodes more homes home x None h is =
    let same : slice_index homes x ≡ slice_index (homes ++ home ∷ []) x = sym (get_or_append_left homes (home ∷ []) 0 x h) in
    subst (λ n. (n < length (nodes ++ more)) × (slice_index_or (nodes ++ more) n (UnitAt 0) ≡ UnitAt x)) same
    ((let l = length-append nodes more in let b = is.0 in omega arith), get_or_append_left nodes more (UnitAt 0) (slice_index homes x) is.0 ∙ is.1)
home-stays nodes more homes home x (Some k) h is = get_or_append_left homes (home ∷ []) 0 x h ∙ is

pub homes-begin : (owners : List (Option ℕ)) (first : ℕ) (homes : List ℕ) (before : List Node) (needs : List Needs) → length homes ≡ first → HomesSoFar owners first first homes before before needs needs
homes-begin owners first homes before needs l =
    let none : first - first ≡ 0 = omega arith in
    let empty : free_from owners first first ≡ [] = ap (λ n. filter (λ v. is_none (slice_index_or owners v None)) (numbers_from first n)) none in
    record {
      long = l;
      most = omega arith;
      nodes_are = sym (ap (λ vs. before ++ map UnitAt vs) empty ∙ append-nil before);
      needs_are = sym (ap (λ vs. needs ++ map (λ v. RowsOf (v ∷ [])) vs) empty ∙ append-nil needs);
      homes_are = λ x a b. absurd (omega arith);
    }

pub homes-more : (owners : List (Option ℕ)) (first unit : ℕ) (homes after : List ℕ) (start nodes now : List Node) (needs more behind : List Needs) (home : ℕ) (o : Option ℕ)
    → HomesSoFar owners first unit homes start nodes needs more → first ≤ unit → unit < length owners → o ≡ get_or owners unit o
    → Settles unit nodes now more behind home o → after ≡ homes ++ home ∷ [] → HomesSoFar owners first (unit + 1) after start now needs behind
homes-more owners first unit homes after start nodes now needs more behind home o so low high e settles a =
    let same : slice_index_or owners unit None ≡ o = here owners unit o high e in
    let test = λ (v : ℕ). is_none (slice_index_or owners v None) in
    subst (λ l. HomesSoFar owners first (unit + 1) l start now needs behind) (sym a) (by o same settles)
  where
    here : (owners : List (Option ℕ)) (unit : ℕ) (o : Option ℕ) → unit < length owners → o ≡ get_or owners unit o → get_or owners unit None ≡ o
    here [] unit o h e = absurd (omega arith)
    here (q ∷ owners) zero o h e = sym e
    here (q ∷ owners) (suc unit) o h e = here owners unit o (omega arith) e

    last : (x : ℕ) → x < unit + 1 → (x ≢ unit) → x < unit
    last x h n = elim (cases_eq x unit) [ inl s ↦ absurd (n s) | inr d ↦ below x unit h d ]
      where
        below : (x unit : ℕ) → x < unit + 1 → (x ≡ unit → ⊥) → x < unit
        below x unit h d = omega arith

    by : (o : Option ℕ) → slice_index_or owners unit None ≡ o → Settles unit nodes now more behind home o → HomesSoFar owners first (unit + 1) (homes ++ home ∷ []) start now needs behind
    by None same settles =
        let grown : free_from owners first (unit + 1) ≡ free_from owners first unit ++ unit ∷ [] =
        free-more owners first unit low ∙ ap (λ b. free_from owners first unit ++ (if b then unit ∷ [] else [])) (ap is_none same) in
        record {
          long = length_push homes home ∙ ap (λ n. n + 1) so.long;
          most = (let l = ap length settles.0 ∙ length_push nodes (UnitAt unit) in let m = so.most in omega arith);
          nodes_are = settles.0 ∙ ap (λ l. l ++ UnitAt unit ∷ []) so.nodes_are ∙ append_assoc start (map UnitAt (free_from owners first unit)) (UnitAt unit ∷ [])
              ∙ ap (λ l. start ++ l) (sym (ap (map UnitAt) grown ∙ map-append UnitAt (free_from owners first unit) (unit ∷ [])));
          needs_are = settles.1 ∙ ap (λ l. l ++ RowsOf (unit ∷ []) ∷ []) so.needs_are ∙ append_assoc needs (map (λ v. RowsOf (v ∷ [])) (free_from owners first unit)) (RowsOf (unit ∷ []) ∷ [])
              ∙ ap (λ l. needs ++ l) (sym (ap (map (λ v. RowsOf (v ∷ []))) grown ∙ map-append (λ v. RowsOf (v ∷ [])) (free_from owners first unit) (unit ∷ [])));
          homes_are = λ x a b. elim (cases_eq x unit) [
            | inl is ↦
                let read : slice_index (homes ++ home ∷ []) x ≡ length nodes = get_or_push homes home 0 x (so.long ∙ sym is) ∙ settles.2 in
                subst (λ q. IsHome now x (slice_index (homes ++ home ∷ []) x) q) (sym (ap (λ n. slice_index_or owners n None) is ∙ same))
                (subst (λ n. (n < length now) × (slice_index_or now n (UnitAt 0) ≡ UnitAt x)) (sym read) (
                  (let l = ap length settles.0 ∙ length_push nodes (UnitAt unit) in omega arith),
                  ap (λ l. slice_index_or l (length nodes) (UnitAt 0)) settles.0 ∙ get_or_push nodes (UnitAt unit) (UnitAt 0) (length nodes) refl ∙ ap UnitAt (sym is),
                ))
            | inr other ↦
                let inside : x < unit = last x b other in
                subst (λ l. IsHome l x (slice_index (homes ++ home ∷ []) x) (slice_index_or owners x None)) (sym settles.0)
                (home-stays nodes (UnitAt unit ∷ []) homes home x (slice_index_or owners x None) (let l = so.long in omega arith) (so.homes_are x a inside))
          ];
        }
    by (Some k) same settles =
        let grown : free_from owners first (unit + 1) ≡ free_from owners first unit =
        free-more owners first unit low ∙ ap (λ b. free_from owners first unit ++ (if b then unit ∷ [] else [])) (ap is_none same) ∙ append-nil (free_from owners first unit) in
        record {
          long = length_push homes home ∙ ap (λ n. n + 1) so.long;
          most = (let l = ap length settles.0 in let m = so.most in omega arith);
          nodes_are = settles.0 ∙ so.nodes_are ∙ ap (λ vs. start ++ map UnitAt vs) (sym grown);
          needs_are = settles.1 ∙ so.needs_are ∙ ap (λ vs. needs ++ map (λ v. RowsOf (v ∷ [])) vs) (sym grown);
          homes_are = λ x a b. elim (cases_eq x unit) [
            | inl is ↦
                subst (λ q. IsHome now x (slice_index (homes ++ home ∷ []) x) q) (sym (ap (λ n. slice_index_or owners n None) is ∙ same))
                (get_or_push homes home 0 x (so.long ∙ sym is) ∙ settles.2)
            | inr other ↦
                let inside : x < unit = last x b other in
                let kept = home-stays nodes [] homes home x (slice_index_or owners x None) (let l = so.long in omega arith) (so.homes_are x a inside) in
                subst (λ l. IsHome l x (slice_index (homes ++ home ∷ []) x) (slice_index_or owners x None)) (append-nil nodes ∙ sym settles.0) kept
          ];
        }
