-- States over the nodes of a pool, without the numbers of the nodes.
use Rattle.std.specs.Prelude.{◌≡◌, ℕ, List, [], ◌∷◌, length, map, set, if◌then◌else◌}
use Rattle.vg_pool.specs.declared.content.Content.{Content}
use Rattle.vg_terms.specs.Term.{Tree, sel}
use Rattle.vg_terms.specs.Order.{is_same_term}
use Rattle.vg_pool.specs.Pool.{tree_at}
use Rattle.vg_lift.specs.LaneTerm as pure
use Rattle.vg_lift.specs.declared.bit.Bit.{Bit}
use Rattle.vg_lift.specs.declared.state.State.{State}
use Rattle.vg_lift.specs.Views.{bits_of, BitsFit, IsNode}

abbrev pub state_of : List Content → State → pure.State
state_of pool s = record {
  registers = map (bits_of pool) s.registers.items;
  variables = map (tree_at pool) s.variables.items;
}

abbrev pub AllFit : List Content → List (List Bit) → Type 0
AllFit pool [] = Unit {0}
AllFit pool (r ∷ rs) = BitsFit pool r × AllFit pool rs

-- nodes of 128 bits
abbrev pub AreNodes : List Content → List ℕ → Type 0
AreNodes pool [] = Unit {0}
AreNodes pool (n ∷ ns) = IsNode pool n 128 × AreNodes pool ns

-- the widths of the registers
abbrev pub widths_in : State → List ℕ
widths_in s = map length s.registers.items

pub record StateFits (pool : List Content) (s : State) : Type 0 where
  pub registers : AllFit pool s.registers.items
  pub variables : AreNodes pool s.variables.items

-- the term of a variable where a condition takes one of two ways
abbrev pub joined_node : Tree → Tree → Tree → Tree
joined_node c x y = if is_same_term x y then x else sel 128 c x y

-- What is left in a state is this one, its registers and variables fit, and it has as many of them,
-- of the same widths, as the state had.
pub record Leaves (pool : List Content) (old new : State) (s : pure.State) : Type 0 where
  pub is : state_of pool new ≡ s
  pub fits : StateFits pool new
  pub widths : widths_in new ≡ widths_in old
  pub count : length new.variables.items ≡ length old.variables.items

-- a variable becomes this term
abbrev pub with_variable : ℕ → Tree → pure.State → pure.State
with_variable k t s = record { registers = s.registers; variables = set s.variables k t }

-- What a body begins or ends with: this state, whose registers have these widths.
pub record Begins (pool : List Content) (widths : List ℕ) (new : State) (s : pure.State) : Type 0 where
  pub is : state_of pool new ≡ s
  pub fits : StateFits pool new
  pub widths_are : widths_in new ≡ widths
