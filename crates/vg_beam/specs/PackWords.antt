-- Words that tell packs apart.
use Rattle.std.specs.Prelude.{ℕ, List, [], ◌∷◌, Option, Some, None, flat_map}
use Rattle.vg_shapes.specs.declared.pack.Pack.{Pack}
use Rattle.vg_shapes.specs.declared.pack.Pack.TheVariants.{Stores, Loads, Call}

-- the words of a lane
abbrev pub lane_words : Option ℕ → List ℕ
lane_words None = 0 ∷ []
lane_words (Some v) = 1 ∷ v ∷ []

-- the words of a pack: its kind, and its units, or its description and its lanes
abbrev pub words_of : Pack → List ℕ
words_of (Stores us) = 0 ∷ us
words_of (Loads us) = 1 ∷ us
words_of (Call d lanes) = 2 ∷ d ∷ flat_map lane_words lanes
