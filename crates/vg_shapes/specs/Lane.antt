-- Lanes, without the places of their terms in memory.
use Rattle.vg_terms.specs.Term.{Tree, tree}
use Rattle.vg_shapes.specs.declared.lane.Lane as declared
use Rattle.vg_shapes.specs.declared.lane.Lane.TheVariants.{Tree as IsTree, Big, Dynamic}

-- the term of a lane, or why it has none
pub data Lane : Type 0 where
  known : Tree → Lane
  big : Lane
  dynamic : Lane

abbrev pub lane_of : declared.Lane → Lane
lane_of (IsTree t) = known (tree t)
lane_of Big = big
lane_of Dynamic = dynamic
