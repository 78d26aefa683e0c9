-- Which descriptions are shuffles.
use Rattle.std.specs.Prelude.{◌≡◌, ℕ, suc, Bool, true, List, [], ◌∷◌, length, nat_lt, slice_get, if◌then◌else◌}
use Rattle.std.specs.List.{list_all}
use Rattle.std.specs.Option.{option_map_or}
use Rattle.vg_terms.specs.Term.{Tree, leaf, constant, one, two, sel}
use Rattle.vg_shapes.specs.declared.operand.Operand.{Operand}
use Rattle.vg_shapes.specs.Description.{Description}
use Rattle.vg_kernel_plans.specs.Shuffles.{is_shuffle, shuffle_of}
use Rattle.vg_cost.specs.declared.shuffles.Shuffles.{Shuffles}

-- the numbers of those that are, the first description having this number
abbrev pub shuffles_from : ℕ → List Description → List ℕ
shuffles_from k [] = []
shuffles_from k (e ∷ es) =
    if is_shuffle e then k ∷ shuffles_from (suc k) es else shuffles_from (suc k) es

-- the shuffle that the description of a number makes of an operand
abbrev pub shuffle_at : List Description → Operand → ℕ → List (ℕ × List Operand)
shuffle_at ds o n = option_map_or (shuffle_of o) (slice_get ds n) []

-- a leaf is of one of so many parameters
abbrev pub is_tight_lane : ℕ → Tree → Bool
is_tight_lane n (leaf w k) = nat_lt k.first n
is_tight_lane n (constant w v) = true
is_tight_lane n (one op w k x) = true
is_tight_lane n (two op w x y) = true
is_tight_lane n (sel w c x y) = true

-- the lanes of a shuffle are leaves of its parameters
abbrev pub is_tight : Description → Bool
is_tight e = if is_shuffle e then list_all (is_tight_lane (length e.params)) e.lanes else true

pub record AreShuffles (ds : List Description) (s : Shuffles) : Type 0 where
  pub numbers : s.numbers.items ≡ shuffles_from 0 ds
  pub tight : s.are_tight ≡ list_all is_tight ds
