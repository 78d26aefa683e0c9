-- Stores linked to those right ahead of them, and which groups are aligned by such links.
use Rattle.std.specs.Prelude.{ℕ, ◌*◌, ◌/◌, ◌%◌, Bool, false, List, [], ◌∷◌, find, length, map, Some, None, nat_eq, position}
use Rattle.vg_base.specs.Width.{size_of}
use Rattle.vg_kernel_plans.specs.Groups.{ahead}
use Rattle.vg_kernel_plans.specs.Taken.{first_width}
use Rattle.vg_packs.specs.declared.placed.Link.{Link}
use Rattle.vg_packs.specs.declared.placed.PlacedStore.{PlacedStore}
use Rattle.vg_packs.specs.Placed.{is_ranked, link_behind, run_from}
use Rattle.vg_shapes.specs.declared.pack.Pack.{Pack}
use Rattle.vg_shapes.specs.declared.pack.Pack.TheVariants.{Stores, Loads, Call}
use Rattle.vg_shapes.specs.declared.ssa.Ssa.{Ssa}

-- the second stands right ahead of the first in memory, with as many before it to its own place
abbrev pub is_ahead : PlacedStore → PlacedStore → Bool
is_ahead s t = is_ranked (ahead s.address (size_of s.width)) s.width s.rank t

abbrev pub ahead_in : List PlacedStore → PlacedStore → Link
ahead_in stores s = record { unit = s.unit; width = s.width; next = position (is_ahead s) stores }

abbrev pub aheads_of : List PlacedStore → List Link
aheads_of stores = map (ahead_in stores) stores

-- how many stand right ahead of one, each right ahead of the next, counted to at most so many
abbrev pub count_ahead : List Link → ℕ → Link → ℕ
count_ahead links most l = length (run_from links most (link_behind links l.next))

-- the store of a unit stands a multiple of so many bytes after the first of its run
abbrev pub is_aligned_by : List Link → ℕ → ℕ → ℕ → Bool
is_aligned_by links most bytes v =
    elim (find (λ l. nat_eq l.unit v) links) as (λ l. Bool) [
      | None ↦ false
      | Some l ↦ nat_eq ((count_ahead links most l * size_of l.width) % bytes) 0
    ]

-- the first of stores stands a multiple of their size after the first of its run
abbrev pub are_aligned : Ssa → List Link → List ℕ → Bool
are_aligned ssa links [] = false
are_aligned ssa links (v ∷ us) =
    is_aligned_by links (length ssa.units) (length (v ∷ us) * first_width ssa (v ∷ us) / 8) v

abbrev pub is_pack_aligned : Ssa → List Link → Pack → Bool
is_pack_aligned ssa links (Stores us) = are_aligned ssa links us
is_pack_aligned ssa links (Loads us) = false
is_pack_aligned ssa links (Call d lanes) = false
