-- The operation of an accepted entry, where it is only known that the entry is accepted.
use Rattle.std.proofs.Common.{◌≡◌, true, refl, ap, Result, Ok, Err}
use Rattle.std.specs.Prelude.{is_ok}
use Rattle.std.proofs.Math.Logic.{∥∥₁_elim}
use Rattle.std.proofs.Props.{props}
use Rattle.vg_pseudo.specs.declared.header.Header.{Header}
use Rattle.vg_pseudo.specs.Tree.{Operation}
use Rattle.vg_pseudo.specs.Resolved.{Resolved}
use Rattle.vg_interval.specs.declared.fault.RangeFault.{RangeFault}
use Rattle.vg_range.specs.Acceptance.{checked}

-- an accepted entry: its operation with the names resolved
pub record Accepts (h : Header) (o : Operation) : Type 0 where
  pub resolved : Resolved
  pub is : checked h o ≡ Ok resolved

-- what there is where a result is one
pub accepts : (h : Header) (o : Operation) (x : Result Resolved RangeFault) → checked h o ≡ x → is_ok x ≡ true → Accepts h o
accepts h o (Ok r) same e = record { resolved = r; is = same }
accepts h o (Err f) same e = absurd (cc)

pub accepted : (h : Header) (o : Operation) (r : Resolved) → ∥ checked h o ≡ Ok r ∥₁ → Accepts h o
accepted h o r there =
    accepts h o (checked h o) refl (∥∥₁_elim there (hlevel props) (λ e. ap is_ok e))
