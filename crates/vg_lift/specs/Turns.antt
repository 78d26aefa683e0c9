-- Ways that are still to be joined, from the last to the first.
use Rattle.std.specs.Prelude.{ℕ, List, [], ◌∷◌, max}
use Rattle.vg_pool.specs.declared.content.Content.{Content}
use Rattle.vg_pool.specs.Pool.{tree_at}
use Rattle.vg_script.specs.Formed.{ScriptFormed}
use Rattle.vg_script.specs.Views.{script_of}
use Rattle.vg_script.specs.declared.script.Script.{size-Script}
use Rattle.vg_lift.specs.LaneTerm as pure
use Rattle.vg_lift.specs.LaneTerm.{joined, lifted}
use Rattle.vg_range_laws.specs.Static.{IsStatic}
use Rattle.vg_lift.specs.Views.{IsNode}
use Rattle.vg_lift.specs.declared.turn.Turn.{Turn}

-- what is left where the first way whose condition holds is taken, each from the first state on, or
-- else the second state
abbrev pub taken : List Content → pure.State → List Turn → pure.State → pure.State
taken pool before [] s = s
taken pool before (t ∷ ts) s =
    joined (tree_at pool t.node) (lifted (script_of t.body.now) before) (taken pool before ts s)

-- a node of one bit, and a script that fits registers of these widths
pub record TurnFits (pool : List Content) (widths : List ℕ) (t : Turn) : Type 0 where
  pub node : IsNode pool t.node 1
  pub formed : ScriptFormed widths (script_of t.body.now)
  pub is_static : IsStatic (script_of t.body.now)

abbrev pub TurnsFit : List Content → List ℕ → List Turn → Type 0
TurnsFit pool widths [] = Unit {0}
TurnsFit pool widths (t ∷ ts) = TurnFits pool widths t × TurnsFit pool widths ts

-- the size of the greatest body
abbrev pub turns_size : List Turn → ℕ
turns_size [] = 0
turns_size (t ∷ ts) = max (size-Script t.body.now) (turns_size ts)
