-- Descriptions of instances, without the places of their terms in memory.
use Rattle.std.specs.Prelude.{◌≡◌, ℕ, ◌*◌, Bool, false, List, length, map, flat_map, Option}
use Rattle.std.specs.List.{AllByRecursion, list_any}
use Rattle.vg_terms.specs.Term.{Tree, WellFormed, tree, width_of}
use Rattle.vg_shapes.specs.declared.description.Description as declared
use Rattle.vg_shapes.specs.Leaves.{is_odd, leaves, some_clash}
use Rattle.vg_shapes.specs.Registers.{LeavesInside}

-- what the lanes of an instance compute, by the widths of its parameters and of its result
pub record Description : Type 0 where
  pub name : List ℕ
  pub imm : Option ℕ
  pub cost : ℕ
  pub params : List ℕ
  pub register : ℕ
  pub lane_width : ℕ
  pub lanes : List Tree

abbrev pub description_of : declared.Description → Description
description_of d = record {
  name = d.name;
  imm = d.imm;
  cost = d.cost;
  params = d.params;
  register = d.register;
  lane_width = d.lane_width;
  lanes = map tree d.lanes;
}

-- a term that may be a lane of this width, over parameters of these widths
pub record IsLane (params : List ℕ) (width : ℕ) (t : Tree) : Type 0 where
  pub formed : WellFormed t
  pub wide : width_of t ≡ width
  pub inside : LeavesInside params t

-- The lanes fill the result, and their leaves are such that a value can stand at each and that no
-- two of one parameter overlap without being equal.
pub record IsPackable (d : Description) : Type 0 where
  pub fill : length d.lanes * d.lane_width ≡ d.register
  pub lanes : AllByRecursion (IsLane d.params d.lane_width) d.lanes
  pub even : list_any is_odd (flat_map leaves d.lanes) ≡ false
  pub apart : some_clash (flat_map leaves d.lanes) ≡ false
