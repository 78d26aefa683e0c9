-- What one run of an instance leaves, over the nodes of a pool.
use Rattle.std.specs.Prelude.{◌≡◌, ℕ, true, false, List, length, Option, Some, None, Result, Ok, Err}
use Rattle.std.specs.declared.alloc.AllocError.{AllocError}
use Rattle.vg_pool.specs.declared.content.Content.{Content}
use Rattle.vg_pseudo.specs.declared.header.Header.{Header}
use Rattle.vg_pseudo.specs.Tree.{Operation}
use Rattle.vg_lift.specs.Instances.{InResult, IsLaneOf, instance_term, is_dynamic}
use Rattle.vg_lift.specs.LaneTerm.{lane_of}
use Rattle.vg_lift.specs.Views.{BitsFit, bits_of}
use Rattle.vg_lift.specs.declared.lifted.Lifted.{Lifted}

-- The bits of dst, of which the terms of the lanes are gathered.
pub record LeavesDst (pool : List Content) (h : Header) (o : Operation) (imm : ℕ) (l : Lifted) : Type 0 where
  pub static : is_dynamic h o imm ≡ false
  pub terms : (lane : ℕ) → lane_of (bits_of pool l.bits) h.lane_width lane ≡ instance_term h o imm lane
  pub means : (lane : ℕ) → InResult h lane → IsLaneOf h o imm lane (instance_term h o imm lane)
  pub fit : BitsFit pool l.bits
  pub wide : length l.bits ≡ h.register

-- the bits of dst, or none where the instance is dynamic
abbrev pub Lifts : List Content → Header → Operation → ℕ → Result (Option Lifted) AllocError → Type 0
Lifts pool h o imm (Ok (Some l)) = LeavesDst pool h o imm l
Lifts pool h o imm (Ok None) = is_dynamic h o imm ≡ true
Lifts pool h o imm (Err e) = Unit {0}
