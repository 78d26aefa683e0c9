-- A plan with a pack after it.
use Rattle.std.specs.Prelude.{List, [], ◌∷◌, ◌++◌, length, map}
use Rattle.vg_shapes.specs.declared.pack.Pack.{Pack}
use Rattle.vg_shapes.specs.Description.{Description, description_of}
use Rattle.vg_shapes.specs.Pack.{units_of}
use Rattle.vg_cost.specs.declared.longer_plan.LongerPlan.{LongerPlan}
use Rattle.vg_cost.specs.Marks.{Has}
use Rattle.vg_cost.specs.Shuffling.{AreShuffles}
use Rattle.vg_cost.specs.Touch.{MarkUnits}

abbrev pub described : LongerPlan → List Description
described l = map description_of l.descriptions.now

abbrev pub all_packs : LongerPlan → List Pack
all_packs l = l.packs.now ++ l.last.now ∷ []

-- what is known of it is so
pub record IsKnown (l : LongerPlan) : Type 0 where
  pub shuffles : AreShuffles (described l) l.shuffles.now
  pub marks : MarkUnits (all_packs l) l.marks.now
  pub own : Has (length l.own.now) (units_of l.last.now) l.own.now
