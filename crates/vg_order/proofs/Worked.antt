-- The order of two packs and a unit, worked out: five loads, of which the first and the fourth are one
-- pack, the second and the fifth another; the fourth depends on the third and then on the second.
use Rattle.std.proofs.Common.{ℕ, List, [], ◌∷◌, refl}
use Rattle.std.specs.Prelude.{pos}
use Rattle.vg_base.specs.declared.width.Width.TheVariants.{W8}
use Rattle.vg_shapes.specs.declared.order.Node.{Node}
use Rattle.vg_shapes.specs.declared.order.Node.TheVariants.{PackAt, UnitAt}
use Rattle.vg_shapes.specs.declared.pack.Pack.{Pack}
use Rattle.vg_shapes.specs.declared.pack.Pack.TheVariants.{Loads}
use Rattle.vg_shapes.specs.declared.ssa.Ssa.{Ssa}
use Rattle.vg_shapes.specs.declared.ssa_unit.SsaUnit.{SsaUnit}
use Rattle.vg_shapes.specs.declared.ssa_unit.SsaUnit.TheVariants.{Load}
use Rattle.vg_order.specs.Scheduled.{EachIsNext}

abbrev a_load : SsaUnit
a_load = Load (record { pointer = 0; offset = pos 0 }) W8

abbrev five_loads : Ssa
five_loads = record {
  name = [];
  params = [];
  units = a_load ∷ a_load ∷ a_load ∷ a_load ∷ a_load ∷ [];
  terms = [];
  cuts = [];
}

abbrev two_packs : List Pack
two_packs = Loads (0 ∷ 3 ∷ []) ∷ Loads (1 ∷ 4 ∷ []) ∷ []

abbrev waits : List (ℕ × ℕ)
waits = (3, 2) ∷ (3, 1) ∷ []

abbrev worked_order : List Node
worked_order = UnitAt 2 ∷ PackAt 1 ∷ PackAt 0 ∷ []

-- The least unit is 0, whose pack waits for 2 first, then for 1, whose pack waits for none.
worked : EachIsNext waits five_loads [] two_packs [] worked_order
worked = ((2 ∷ [], (refl, (refl, refl))), ((1 ∷ [], (refl, (refl, refl))), (([], (refl, refl)), tt)))
