-- Whether scripts are kept changes nothing else: an instance is refused, or accepted, just the
-- same.
use Rattle.std.specs.Prelude.{◌≡◌, ℕ, Bool, true, false, Option, Ok, Err}
use Rattle.vg_pseudo.specs.Resolved.{Resolved}
use Rattle.vg_interval.specs.declared.fault.RangeFault.{RangeFault}
use Rattle.vg_range.specs.Walk.{WalkState, instance_at}

-- What an instance comes to one way, scripts kept or not, it comes to the other way: the same
-- fault, or the same knowledge of the number variables and the same counts.
pub record GoesAs (one other : Bool) (r : Resolved) (imm : Option ℕ) : Type 0 where
  pub refused : (e : RangeFault) → instance_at one r imm ≡ Err e
      → instance_at other r imm ≡ Err e
  pub accepted : (w : WalkState) → instance_at one r imm ≡ Ok w
      → (v : WalkState) × (instance_at other r imm ≡ Ok v) × (v.numbers ≡ w.numbers) × (v.count ≡ w.count)

-- An instance that is only judged, and the same one with its script.
abbrev pub AcceptedAreWritten : Type 0
AcceptedAreWritten =
    (r : Resolved) (imm : Option ℕ) → GoesAs false true r imm × GoesAs true false r imm
