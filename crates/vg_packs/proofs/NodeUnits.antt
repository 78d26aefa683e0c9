-- Units of packs, and on what packs and units depend.
use Rattle.std.proofs.Common.{◌≡◌, ℕ, Bool, true, false, List, [], ◌∷◌, refl, sym, ◌∙◌, ap, inl, inr}
use Rattle.std.specs.Prelude.{◌||◌, nat_eq, Option, Some, None, flat_map, if◌then◌else◌}
use Rattle.std.specs.List.{filter_map, list_any}
use Rattle.std.proofs.lemmas.Bool.{cases_Bool}
use Rattle.vg_plans.specs.Members.{Has}
use Rattle.vg_plans.specs.World.{is_in}
use Rattle.vg_plans.proofs.Members.{from-filter, from-flat_map}
use Rattle.vg_plans.proofs.Reach.{has-in}
use Rattle.vg_kernel_plans.specs.Packing.{needs_of}
use Rattle.vg_kernel_plans.specs.Wants.{value_of}
use Rattle.vg_shapes.specs.declared.match_table.Match.{Match}
use Rattle.vg_shapes.specs.declared.pack.Pack.{Pack}
use Rattle.vg_shapes.specs.declared.pack.Pack.TheVariants.{Stores, Loads, Call}
use Rattle.vg_shapes.specs.declared.ssa.Ssa.{Ssa}
use Rattle.vg_shapes.specs.DepList.{row_of}
use Rattle.vg_shapes.specs.Pack.{bounds_from, units_of}
use Rattle.vg_shapes.specs.Units.{is_unit}
use Rattle.vg_packs.specs.Walk.{is_in_plan, is_lane_of, needs_for, node_needs, NameUnits}

pub lanes_any : (v : ℕ) (lanes : List (Option ℕ)) → list_any (is_lane_of v) lanes ≡ is_in v (filter_map (λ u. u) lanes)
lanes_any v [] = refl
lanes_any v (None ∷ lanes) = lanes_any v lanes
lanes_any v (Some u ∷ lanes) = ap (λ b. nat_eq v u || b) (lanes_any v lanes)

-- the needs of a node, chosen by whether its unit is packed
pub node-is : (matches : List Match) (ssa : Ssa) (deps : List (ℕ × ℕ)) (plan : List Pack) (v : ℕ) (packed : Bool)
    (of_packs chosen : List ℕ) → packed ≡ is_in_plan plan v
    → of_packs ≡ (if packed then flat_map (needs_for matches ssa deps v) plan else [])
    → chosen ≡ (if packed then of_packs else row_of deps v)
    → chosen ≡ node_needs matches ssa deps plan v
node-is matches ssa deps plan v true of_packs chosen t g e = rw (sym t) (e ∙ g)
node-is matches ssa deps plan v false of_packs chosen t g e = rw (sym t) e

module _ (matches : List Match) (ssa : Ssa) (deps : List (ℕ × ℕ)) (names : NameUnits ssa deps) where
  pub row-units : (v x : ℕ) → Has x (row_of deps v) → is_unit ssa x ≡ true
  row-units v x h = names v x (has-in x (row_of deps v) h)

  pub rows-units : (us : List ℕ) (x : ℕ) → Has x (flat_map (row_of deps) us) → is_unit ssa x ≡ true
  rows-units us x h = let k = from-flat_map (row_of deps) x us h in row-units k.0 x k.2

  pub pack-units : (p : Pack) (x : ℕ) → Has x (needs_of matches ssa deps p) → is_unit ssa x ≡ true
  pack-units (Stores us) x h = rows-units us x h
  pack-units (Loads us) x h = rows-units us x h
  pack-units (Call d lanes) x h =
      (from-filter (is_unit ssa) x (filter_map (λ b. value_of b.wanted) (bounds_from matches d 0 lanes)) h).1

  for-units : (v : ℕ) (p : Pack) (x : ℕ) → Has x (needs_for matches ssa deps v p) → is_unit ssa x ≡ true
  for-units v p x h = elim (cases_Bool (is_in v (units_of p))) [
    | inl t ↦ pack-units p x (rw t at h)
    | inr f ↦ absurd (rw f at h)
  ]

  pub node-units : (plan : List Pack) (v x : ℕ) → Has x (node_needs matches ssa deps plan v) → is_unit ssa x ≡ true
  node-units plan v x h = elim (cases_Bool (is_in_plan plan v)) [
    | inl t ↦
        let k = from-flat_map (needs_for matches ssa deps v) x plan (rw t at h) in
        for-units v k.0 x k.2
    | inr f ↦ row-units v x (rw f at h)
  ]
