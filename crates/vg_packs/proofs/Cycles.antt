-- A pack closes a cycle after a plan exactly where a walk down from its needs comes back to it.
use Rattle.std.proofs.Common.{◌≡◌, ℕ, zero, suc, ◌+◌, ◌-◌, ◌<◌, ◌≤◌, Bool, true, false, not, List, [], ◌∷◌, ◌++◌, length, get_or, refl, sym, ◌∙◌, ap, inl, inr, arith}
use Rattle.std.specs.Prelude.{◌&&◌, ◌||◌, All, filter, nat_eq, nat_lt, replicate, slice_get, Option, Some, None, is_some}
use Rattle.std.specs.List.{filter_map, list_any}
use Rattle.std.proofs.lemmas.Bool.{cases_Bool}
use Rattle.std.proofs.lemmas.Bool.Decides.{nat_tests}
use Rattle.vg_plans.specs.Cycle.{IsAway, IsNew, Reaches, there as stands, down as leads}
use Rattle.vg_plans.specs.Members.{Has}
use Rattle.vg_plans.specs.World.{World, has_no_cycle, is_in, is_packed, stays_plan}
use Rattle.vg_plans.proofs.Members.{any-is, from-filter, has-filter}
use Rattle.vg_plans.proofs.Reach.{cycle-behind, in-has, no-cycle-behind}
use Rattle.vg_kernel_plans.proofs.Inside.{units-listed}
use Rattle.vg_kernel_plans.specs.Packing.{needs_of, packing}
use Rattle.vg_shapes.specs.declared.match_table.Match.{Match}
use Rattle.vg_shapes.specs.declared.operand.Operand.{Operand}
use Rattle.vg_shapes.specs.declared.pack.Pack.{Pack}
use Rattle.vg_shapes.specs.declared.ssa.Ssa.{Ssa}
use Rattle.vg_shapes.specs.Depends.{numbers_below}
use Rattle.vg_shapes.specs.Pack.{units_of}
use Rattle.vg_shapes.specs.Units.{arguments, is_unit}
use Rattle.vg_packs.specs.Walk.{HasWay, IsAt, IsFree, IsSettled, LeadsApart, NameUnits, Way, there, down, is_in_plan, is_lane_in, node_needs}
use Rattle.vg_packs.proofs.NodeUnits.{node-units, pack-units}

pub lanes_in : (test : ℕ → Bool) (lanes : List (Option ℕ))
    → list_any (is_lane_in test) lanes ≡ list_any test (filter_map (λ v. v) lanes)
lanes_in test [] = refl
lanes_in test (None ∷ lanes) = lanes_in test lanes
lanes_in test (Some v ∷ lanes) = ap (λ b. test v || b) (lanes_in test lanes)

-- ---- marks

pub all-from : (n : ℕ) (xs : List ℕ) → ((v : ℕ) → Has v xs → v < n) → All (λ v. v < n) xs
all-from n [] h k d l = absurd (omega (arith, l))
all-from n (x ∷ xs) h zero d l = h x (inl refl)
all-from n (x ∷ xs) h (suc k) d l = all-from n xs (λ v m. h v (inr m)) k d (omega (arith, l))

get-short : {X : Type 0} (xs : List X) (k : ℕ) → is_some (slice_get xs k) ≡ true → k < length xs
get-short [] zero t = absurd (cc)
get-short [] (suc k) t = absurd (cc)
get-short (x ∷ xs) zero t = omega arith
get-short (x ∷ xs) (suc k) t = let h = get-short xs k t in omega (arith, h)

pub unit-inside : (ssa : Ssa) (v : ℕ) → is_unit ssa v ≡ true → v < arguments ssa + length ssa.units
unit-inside ssa v t = elim (cases_Bool (nat_lt v (arguments ssa))) [
  | inl e ↦ absurd (let f : is_unit ssa v ≡ false = rw e refl in cc)
  | inr f ↦
      let g : is_some (slice_get ssa.units (v - arguments ssa)) ≡ true = rw f at t in
      let h = get-short ssa.units (v - arguments ssa) g in
      let le : arguments ssa ≤ v = grind (arith, nat_tests, f) in
      omega (arith, h, le)
]

at-none : (n v : ℕ) → get_or (replicate n false) v false ≡ false
at-none zero v = refl
at-none (suc n) zero = refl
at-none (suc n) (suc v) = at-none n v

pub settled-none : (ns : ℕ → List ℕ) (own : ℕ → Bool) (n : ℕ) (marks : List Bool) → marks ≡ replicate n false
    → IsSettled ns own marks
settled-none ns own n marks e =
    let no : (v : ℕ) → IsAt marks v → ⊥ =
    λ v t. let f : get_or marks v false ≡ false = ap (λ m. get_or m v false) e ∙ at-none n v in absurd (cc)
    in
    record { closed = λ v x h k. absurd (no v h); away = λ v h. absurd (no v h) }

at-inside : (marks : List Bool) (v : ℕ) → IsAt marks v → v < length marks
at-inside [] v t = absurd (cc)
at-inside (b ∷ marks) zero t = omega arith
at-inside (b ∷ marks) (suc v) t = let h = at-inside marks v t in omega (arith, h)

below-has : (v n : ℕ) → v < n → Has v (numbers_below n)
below-has v zero l = absurd (omega (arith, l))
below-has v (suc n) l = elim (cases_Bool (nat_eq n v)) [
  | inl e ↦ inl (grind (arith, nat_tests, e))
  | inr f ↦ inr (below-has v n (grind (arith, nat_tests, f, l)))
]

-- the marked numbers
abbrev marked : List Bool → List ℕ
marked marks = filter (λ v. get_or marks v false) (numbers_below (length marks))

at-has : (marks : List Bool) (v : ℕ) → IsAt marks v → Has v (marked marks)
at-has marks v t =
    has-filter (λ v. get_or marks v false) v (numbers_below (length marks)) (below-has v (length marks) (at-inside marks v t)) t

has-at : (marks : List Bool) (v : ℕ) → Has v (marked marks) → IsAt marks v
has-at marks v h = (from-filter (λ v. get_or marks v false) v (numbers_below (length marks)) h).1

-- ---- cycles

module _ (matches : List Match) (ssa : Ssa) (deps : List (ℕ × ℕ)) (names : NameUnits ssa deps) (plan : List Pack) (p : Pack) where
  abbrev world : World Pack Operand Operand
  world = packing [] matches ssa deps

  abbrev own : ℕ → Bool
  own v = is_in v (units_of p)

  abbrev ns : ℕ → List ℕ
  ns v = node_needs matches ssa deps plan v

  reaches : (v : ℕ) → is_unit ssa v ≡ true → Way ns own v → Reaches world plan p v
  reaches v u (there x t) = stands v (units-listed ssa v u) t
  reaches v u (down x y h w) =
      leads v y (units-listed ssa v u) h (reaches y (node-units matches ssa deps names plan v y h) w)

  way-cycle : HasWay ns own (needs_of matches ssa deps p) → has_no_cycle world (plan ++ p ∷ []) ≡ false
  way-cycle w =
      cycle-behind world plan p w.0 w.1 (reaches w.0 (pack-units matches ssa deps names p w.0 w.1) w.2)

  is-new : list_any (is_in_plan plan) (units_of p) ≡ false → IsNew world plan p
  is-new f v t = elim (cases_Bool (is_packed world plan v)) [
    | inl s ↦ absurd (let y = any-is (is_in_plan plan) v (units_of p) (in-has v (units_of p) t) s in cc)
    | inr g ↦ g
  ]

  apart-free : has_no_cycle world plan ≡ true → list_any (is_in_plan plan) (units_of p) ≡ false
      → LeadsApart ns own (needs_of matches ssa deps p) → has_no_cycle world (plan ++ p ∷ []) ≡ true
  apart-free free f a =
      let away : IsAway world plan p (marked a.0) = record {
        starts = λ x h. at-has a.0 x (a.1.starts_marked x h);
        closed = λ v x h k. at-has a.0 x (a.1.closed v x (has-at a.0 v h) k);
        away = λ v h. a.1.away v (has-at a.0 v h);
      } in
      no-cycle-behind world plan p (marked a.0) (is-new f) away free

  pub stays-same : (overlap r : Bool) → IsFree matches ssa deps plan
      → overlap ≡ list_any (is_in_plan plan) (units_of p) → overlap ≡ false
      → (r ≡ true → HasWay ns own (needs_of matches ssa deps p))
      → (r ≡ false → LeadsApart ns own (needs_of matches ssa deps p))
      → not r ≡ stays_plan world plan p
  stays-same overlap true free e f way apart =
      let g : list_any (is_in_plan plan) (units_of p) ≡ false = sym e ∙ f in
      sym (ap (λ b. not b && has_no_cycle world (plan ++ p ∷ [])) g ∙ way-cycle (way refl))
  stays-same overlap false free e f way apart =
      let g : list_any (is_in_plan plan) (units_of p) ≡ false = sym e ∙ f in
      sym (ap (λ b. not b && has_no_cycle world (plan ++ p ∷ [])) g ∙ apart-free free g (apart refl))

  pub overlap-stays : (overlap : Bool) → overlap ≡ list_any (is_in_plan plan) (units_of p) → overlap ≡ true
      → false ≡ stays_plan world plan p
  overlap-stays overlap e t =
      sym (ap (λ b. not b && has_no_cycle world (plan ++ p ∷ [])) (sym e ∙ t))
