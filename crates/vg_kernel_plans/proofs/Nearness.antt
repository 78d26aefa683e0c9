-- What near matches bind is near.
use Rattle.std.proofs.Common.{◌≡◌, ℕ, ◌+◌, List, [], ◌∷◌, ◌++◌, inl, inr, subst, sym}
use Rattle.std.specs.Prelude.{◌&&◌, nat_eq, Option, Some, None}
use Rattle.std.specs.Option.{option_map_or}
use Rattle.std.proofs.lemmas.Bool.{cases_Bool}
use Rattle.vg_shapes.specs.declared.match_table.Bound.{Bound}
use Rattle.vg_shapes.specs.declared.match_table.Match.{Match}
use Rattle.vg_shapes.specs.Pack.{bounds_from, match_at}
use Rattle.vg_kernel_plans.specs.Taken.{AreNear, MatchesNear}

near-append : (xs ys : List Bound) → AreNear xs → AreNear ys → AreNear (xs ++ ys)
near-append [] ys a b = b
near-append (x ∷ xs) ys a b = (a.0, near-append xs ys a.1 b)

near-match : (matches : List Match) (d lane v : ℕ) → MatchesNear matches
    → AreNear (option_map_or (λ m. m.bound) (match_at matches d lane v) [])
near-match [] d lane v n = tt
near-match (m ∷ matches) d lane v n =
    elim (cases_Bool (nat_eq m.description d && (nat_eq m.lane lane && nat_eq m.value v))) [
      | inl t ↦ rw t n.0
      | inr f ↦ rw f (near-match matches d lane v n.1)
    ]

pub near-bounds : (matches : List Match) (d lane : ℕ) (lanes : List (Option ℕ)) → MatchesNear matches
    → AreNear (bounds_from matches d lane lanes)
near-bounds matches d lane [] n = tt
near-bounds matches d lane (None ∷ lanes) n = near-bounds matches d (lane + 1) lanes n
near-bounds matches d lane (Some v ∷ lanes) n =
    near-append (option_map_or (λ m. m.bound) (match_at matches d lane v) []) _
    (near-match matches d lane v n) (near-bounds matches d (lane + 1) lanes n)

pub near_bounds_of : (matches : List Match) (d : ℕ) (lanes : List (Option ℕ)) (bounds : List Bound)
    → MatchesNear matches → bounds ≡ bounds_from matches d 0 lanes → AreNear bounds
near_bounds_of matches d lanes bounds n e = subst AreNear (sym e) (near-bounds matches d 0 lanes n)
