-- Which operations are accepted: names are judged first, then the instances by rising immediate,
-- each in the order in which it runs.
use Rattle.std.specs.Prelude.{ℕ, zero, suc, ◌+◌, ◌-◌, false, Option, Some, None, Result, Ok, Err}
use Rattle.vg_base.specs.Bind.{◌>>=◌}
use Rattle.vg_pseudo.specs.declared.header.Header.{Header}
use Rattle.vg_pseudo.specs.declared.header.ImmRange.{ImmRange}
use Rattle.vg_pseudo.specs.Tree.{Operation}
use Rattle.vg_pseudo.specs.Resolved.{Resolved}
use Rattle.vg_pseudo.specs.Resolve.{NameFault, unknown_name, bare_register, resolve}
use Rattle.vg_interval.specs.declared.fault.RangeFault.{RangeFault}
use Rattle.vg_interval.specs.declared.fault.RangeFault.TheVariants.{UnknownName, BareRegister}
use Rattle.vg_range.specs.Walk.{instance_at}

abbrev pub fault_of : NameFault → RangeFault
fault_of (unknown_name place) = UnknownName place
fault_of (bare_register place) = BareRegister place

-- names, as the faults of an operation
abbrev pub named : Result Resolved NameFault → Result Resolved RangeFault
named (Ok r) = Ok r
named (Err e) = Err (fault_of e)

-- this many immediates, upwards from this one
unfoldable pub judged_from : Resolved → ℕ → ℕ → Result Resolved RangeFault
judged_from r imm zero = Ok r
judged_from r imm (suc n) = do
  w ← instance_at false r (Some imm)
  judged_from r (imm + 1) n

-- all instances of an entry
abbrev pub judged : Option ImmRange → Resolved → Result Resolved RangeFault
judged None r = instance_at false r None >>= λ w. Ok r
judged (Some i) r = judged_from r i.lo ((i.hi - i.lo) + 1)

-- the operation of an accepted entry with its names resolved, or the first fault
unfoldable pub checked : Header → Operation → Result Resolved RangeFault
checked h o = named (resolve h o) >>= judged h.imm
