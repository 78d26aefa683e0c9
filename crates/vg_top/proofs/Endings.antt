-- Endings, statuses and the verdict.
use Rattle.std.proofs.Common.{◌≡◌, ◌≢◌, ℕ, ◌-◌, ◌<◌, ◌^◌, Option, Some, None, Result, refl, sym, ap, arith}
use Rattle.vg_outside.specs.Count.{Rose}
use Rattle.vg_top.specs.declared.ending.Ending.{Ending}
use Rattle.vg_top.specs.declared.ending.Ending.TheVariants.{Usage, Instructions, Kernel, Program, Absent, ReadFault, TooLarge, Bindings, Trap, WriteFault, Memory, Differs}
use Rattle.vg_top.specs.declared.status.Status.{Status}
use Rattle.vg_top.specs.declared.status.Status.TheVariants as status
use Rattle.vg_top.specs.Causes.{MayEnd, MayStop}
use Rattle.vg_top.specs.Ending.{status_of}
use Rattle.vg_request.specs.Request.{Asked}
use Rattle.vg_top.specs.Outcome.{Outcome}
use Rattle.vg_top.specs.Verdict.{EndedBy, status_told}
use Rattle.vg_top.specs.Works.{CountsFault}

-- no request has the status of words that are none
pub usage_from : (a : Option Asked) (s : Status) → MayEnd a s → s ≡ status.Usage → a ≡ None
usage_from None s may = λ e. refl
usage_from (Some x) status.Usage may = λ e. absurd may
usage_from (Some x) status.Ok may = λ e. absurd (cc)
usage_from (Some x) status.InstructionsRefused may = λ e. absurd (cc)
usage_from (Some x) status.KernelRefused may = λ e. absurd (cc)
usage_from (Some x) status.ProgramRefused may = λ e. absurd (cc)
usage_from (Some x) status.InputAbsent may = λ e. absurd (cc)
usage_from (Some x) status.ReadFault may = λ e. absurd (cc)
usage_from (Some x) status.WriteFault may = λ e. absurd (cc)
usage_from (Some x) status.BindingsRefused may = λ e. absurd (cc)
usage_from (Some x) status.Trap may = λ e. absurd (cc)
usage_from (Some x) status.Differs may = λ e. absurd (cc)
usage_from (Some x) status.TooLarge may = λ e. absurd (cc)
usage_from (Some x) status.NoMemory may = λ e. absurd (cc)

-- want of memory may end all
pub memory_may : (a : Option Asked) → MayEnd a status.NoMemory
memory_may None = tt
memory_may (Some x) = tt

-- an answer that was written, and one that was not
pub written_may : (a : Option Asked) → MayStop a None → MayEnd a status.Ok
written_may None may = absurd may
written_may (Some x) may = tt

pub unwritten_may : (a : Option Asked) → MayStop a None → MayEnd a (status_of WriteFault)
unwritten_may None may = absurd may
unwritten_may (Some x) may = tt

-- an ending of the work is one of the whole
pub stopped_may : (a : Option Asked) (e : Ending) → MayStop a (Some e) → MayEnd a (status_of e)
stopped_may None Usage may = tt
stopped_may None (Instructions n f) may = absurd may
stopped_may None (Kernel n f) may = absurd may
stopped_may None (Program n f) may = absurd may
stopped_may None (Absent n) may = absurd may
stopped_may None (ReadFault n) may = absurd may
stopped_may None (TooLarge n) may = absurd may
stopped_may None Bindings may = absurd may
stopped_may None Trap may = absurd may
stopped_may None WriteFault may = absurd may
stopped_may None Memory may = tt
stopped_may None (Differs t) may = absurd may
stopped_may (Some x) Usage may = may
stopped_may (Some x) (Instructions n f) may = may
stopped_may (Some x) (Kernel n f) may = may
stopped_may (Some x) (Program n f) may = may
stopped_may (Some x) (Absent n) may = may
stopped_may (Some x) (ReadFault n) may = may
stopped_may (Some x) (TooLarge n) may = may
stopped_may (Some x) Bindings may = may
stopped_may (Some x) Trap may = may
stopped_may (Some x) WriteFault may = absurd may
stopped_may (Some x) Memory may = may
stopped_may (Some x) (Differs t) may = may

-- the status of the ending that the verdict names
pub status_from_verdict : (e : Ending) (v : Result Outcome Ending) → EndedBy (Some e) v → status_of e ≢ status.NoMemory → status_of e ≢ status.ReadFault → status_of e ≢ status.WriteFault → status_of e ≡ status_told v
status_from_verdict Usage v told memory read write = sym (ap status_told told)
status_from_verdict (Instructions n f) v told memory read write = sym (ap status_told told)
status_from_verdict (Kernel n f) v told memory read write = sym (ap status_told told)
status_from_verdict (Program n f) v told memory read write = sym (ap status_told told)
status_from_verdict (Absent n) v told memory read write = sym (ap status_told told)
status_from_verdict (ReadFault n) v told memory read write = absurd (read refl)
status_from_verdict (TooLarge n) v told memory read write = sym (ap status_told told)
status_from_verdict Bindings v told memory read write = sym (ap status_told told)
status_from_verdict Trap v told memory read write = sym (ap status_told told)
status_from_verdict WriteFault v told memory read write = absurd (write refl)
status_from_verdict Memory v told memory read write = absurd (memory refl)
status_from_verdict (Differs t) v told memory read write = sym (ap status_told told)

-- a count that stayed did not rise, below its last value
pub not_rose : (before now : ℕ) → Rose before now → now ≡ before → before < 2 ^ 64 - 1 → ⊥
not_rose before now rose same below = omega arith

pub not_read_fault : (e : Ending) (before now : ℕ) → CountsFault before now (Some e) → now ≡ before → before < 2 ^ 64 - 1 → status_of e ≢ status.ReadFault
not_read_fault Usage before now counts same below = λ is. absurd (cc)
not_read_fault (Instructions n f) before now counts same below = λ is. absurd (cc)
not_read_fault (Kernel n f) before now counts same below = λ is. absurd (cc)
not_read_fault (Program n f) before now counts same below = λ is. absurd (cc)
not_read_fault (Absent n) before now counts same below = λ is. absurd (cc)
not_read_fault (ReadFault n) before now counts same below = λ is. not_rose before now counts same below
not_read_fault (TooLarge n) before now counts same below = λ is. absurd (cc)
not_read_fault Bindings before now counts same below = λ is. absurd (cc)
not_read_fault Trap before now counts same below = λ is. absurd (cc)
not_read_fault WriteFault before now counts same below = λ is. absurd (cc)
not_read_fault Memory before now counts same below = λ is. absurd (cc)
not_read_fault (Differs t) before now counts same below = λ is. absurd (cc)

pub not_write_fault : (a : Option Asked) (e : Ending) → MayStop a (Some e) → status_of e ≢ status.WriteFault
not_write_fault None Usage may = λ is. absurd (cc)
not_write_fault None (Instructions n f) may = absurd may
not_write_fault None (Kernel n f) may = absurd may
not_write_fault None (Program n f) may = absurd may
not_write_fault None (Absent n) may = absurd may
not_write_fault None (ReadFault n) may = absurd may
not_write_fault None (TooLarge n) may = absurd may
not_write_fault None Bindings may = absurd may
not_write_fault None Trap may = absurd may
not_write_fault None WriteFault may = absurd may
not_write_fault None Memory may = λ is. absurd (cc)
not_write_fault None (Differs t) may = absurd may
not_write_fault (Some x) Usage may = λ is. absurd (cc)
not_write_fault (Some x) (Instructions n f) may = λ is. absurd (cc)
not_write_fault (Some x) (Kernel n f) may = λ is. absurd (cc)
not_write_fault (Some x) (Program n f) may = λ is. absurd (cc)
not_write_fault (Some x) (Absent n) may = λ is. absurd (cc)
not_write_fault (Some x) (ReadFault n) may = λ is. absurd (cc)
not_write_fault (Some x) (TooLarge n) may = λ is. absurd (cc)
not_write_fault (Some x) Bindings may = λ is. absurd (cc)
not_write_fault (Some x) Trap may = λ is. absurd (cc)
not_write_fault (Some x) WriteFault may = λ is. may
not_write_fault (Some x) Memory may = λ is. absurd (cc)
not_write_fault (Some x) (Differs t) may = λ is. absurd (cc)
