-- Units that can be numbered are so few that each has a number.
use Rattle.std.proofs.Common.{◌≡◌, ℕ, suc, ◌+◌, ◌<◌, ◌≤◌, ◌^◌, Bool, true, false, List, [], ◌∷◌, length, map, Option, Some, None, ap, ◌∙◌, arith}
use Rattle.std.specs.Prelude.{filter, not, if◌then◌else◌}
use Rattle.std.specs.List.{cons_option}
use Rattle.vg_base.specs.Trap.{◌>>=◌}
use Rattle.vg_base.specs.declared.width.Width.{Width}
use Rattle.vg_kernel.specs.Tree.{Tree as Kernel}
use Rattle.vg_kernel.specs.WellFormed.{integer_widths, IsWellFormed}
use Rattle.vg_shapes.specs.declared.ssa.Ssa.{Ssa}
use Rattle.vg_shapes.specs.declared.ssa.SsaParam.{SsaParam}
use Rattle.vg_shapes.specs.declared.ssa_unit.SsaUnit.{SsaUnit}
use Rattle.vg_shapes.specs.RunUnits.{run_units, start_of}
use Rattle.vg_shapes.specs.Sound.{is_store}
use Rattle.vg_ssa.specs.Numbering.{IsNumbering, param_of, units_of}
use Rattle.vg_ssa.specs.OfUnits.{CanBeNumbered, width_of_kind, widths_of, without_terms}
use Rattle.vg_ssa.specs.StandsFor.{StandsFor}
use Rattle.vg_ssa.proofs.Running.{units-run-as-kernels}
use Rattle.vg_ssa.proofs.SameAccesses.{same-accesses, same-layouts}
use Rattle.vg_ssa.proofs.Counts.{arguments_first, arguments-first}
use Rattle.vg_ssa.proofs.Soundness.{kernel-can, widths-many}

one-most : (o : Option Width) (ws : List Width) (n : ℕ) → length ws ≤ n → length (cons_option o ws) ≤ suc n
one-most None ws n h = omega arith
one-most (Some w) ws n h = omega arith

pub widths-most : (ps : List SsaParam) → length (widths_of ps) ≤ length ps
widths-most [] = omega arith
widths-most (p ∷ ps) = one-most (width_of_kind p.kind) (widths_of ps) (length ps) (widths-most ps)

either-more : (b : Bool) (u : SsaUnit) (us vs : List SsaUnit) → length (if b then u ∷ us else us) + length (if not b then u ∷ vs else vs) ≡ suc (length us + length vs)
either-more true u us vs = omega arith
either-more false u us vs = omega arith

all-counted : (us : List SsaUnit) → length (filter is_store us) + length (filter (λ u. not (is_store u)) us) ≡ length us
all-counted [] = omega arith
all-counted (u ∷ us) = either-more (is_store u) u (filter is_store us) (filter (λ v. not (is_store v)) us) ∙ ap suc (all-counted us)

pub can-few : (ssa : Ssa) → CanBeNumbered ssa → length (widths_of ssa.params) + length ssa.units < 2 ^ 32
can-few ssa h =
    let count = all-counted ssa.units in
    let few = widths-most ssa.params in
    let a = h.params in
    let b = h.stores in
    let c = h.uses in
    omega arith

pub kernel-few : (k : Kernel) → IsWellFormed k → length (integer_widths k.params) + length (units_of k) < 2 ^ 32
kernel-few k good =
    let few = can-few (without_terms k.name (map param_of k.params) (units_of k)) (kernel-can k good) in
    let same = widths-many (map param_of k.params) ∙ arguments-first k.params in
    omega arith

pub stands-for : (k : Kernel) (ssa : Ssa) → IsWellFormed k → IsNumbering k ssa → StandsFor k ssa
stands-for k ssa good is = record {
  runs = λ memory places args long.
      ap (λ us. run_units places us (start_of memory args) >>= λ r. Some r.memory) is.units
      ∙ units-run-as-kernels k memory places args good (long ∙ arguments_first k ssa is);
  accesses = same-accesses k ssa is;
  layouts = λ places. same-layouts k ssa places is;
}
