-- Which descriptions packs may call, and when one is true of what calls give.
use Rattle.std.specs.Prelude.{◌≡◌, ℕ, ◌+◌, List, [], ◌∷◌, length, map, nat_eq, IsTrue}
use Rattle.std.specs.List.{AllByRecursion, list_any}
use Rattle.vg_bits.specs.BitList.{IsBits}
use Rattle.vg_program.specs.Meaning.{Instructions, lane_number}
use Rattle.vg_shapes.specs.Description.{Description, IsPackable}
use Rattle.vg_shapes.specs.Registers.{AllBits, env_of}
use Rattle.vg_terms.specs.declared.value.Env.{Env}
use Rattle.vg_terms.specs.Term.{Tree}
use Rattle.vg_terms.specs.Value.{value}
use Rattle.vg_emission.specs.Planned.{IsLaneWidth}
use Rattle.vg_emission.specs.Promises.{answer}

-- the width of a register
abbrev pub IsRegisterWidth : ℕ → Type 0
IsRegisterWidth n = IsTrue (list_any (nat_eq n) (128 ∷ 256 ∷ 512 ∷ []))

-- a description that is packable, with lanes and registers of the widths that there are
pub record IsCallable (d : Description) : Type 0 where
  pub packable : IsPackable d
  pub lane : IsLaneWidth d.lane_width
  pub register : IsRegisterWidth d.register
  pub params : AllByRecursion IsRegisterWidth d.params

-- registers for parameters of these widths
pub record AreRegisters (widths : List ℕ) (registers : List (List ℕ)) : Type 0 where
  pub bits : AllBits registers
  pub long : map length registers ≡ widths

-- the lanes of a register from this one on, each of so many bits, have the values of their terms
abbrev pub LanesMean : Env → ℕ → ℕ → List Tree → List ℕ → Type 0
LanesMean env w n [] register = Unit {0}
LanesMean env w n (t ∷ ts) register =
    (lane_number w n register ≡ value env t) × LanesMean env w (n + 1) ts register

-- what a call gives for registers: a register of the result's width, and in its lanes the values that
-- the terms of the description have of the bits of these registers
pub record Answers (d : Description) (registers : List (List ℕ)) (register : List ℕ) : Type 0 where
  pub long : length register ≡ d.register
  pub bits : IsBits register
  pub lanes : LanesMean (env_of registers) d.lane_width 0 d.lanes register

-- A description is true: that is what a call of its instance gives, for all registers.
abbrev pub IsTrueOf : Instructions → Description → Type 0
IsTrueOf called d =
    (registers : List (List ℕ)) → AreRegisters d.params registers →
    Answers d registers (answer called d registers)
