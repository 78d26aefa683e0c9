-- The lanes of terms.
use Rattle.std.specs.Prelude.{ℕ, zero, suc, ◌+◌, nat_le, if◌then◌else◌, List, [], ◌∷◌}
use Rattle.vg_terms.specs.Term.{Tree, node_count}
use Rattle.vg_shapes.specs.Lane.{Lane, known, big}

-- a term as a lane: itself where it has at most 1,024 nodes, else only that it has more
abbrev pub sized : Tree → Lane
sized t = if nat_le (node_count t) 1024 then known t else big

-- so many lanes from this one on
abbrev pub lanes_from : (ℕ → Lane) → ℕ → ℕ → List Lane
lanes_from lane_at lane zero = []
lanes_from lane_at lane (suc n) = lane_at lane ∷ lanes_from lane_at (lane + 1) n
