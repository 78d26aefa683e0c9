-- Which accepted instances have terms for their lanes.
use Rattle.std.specs.Prelude.{◌≡◌, ℕ, false, Option, Ok}
use Rattle.vg_pseudo.specs.declared.header.Header.{Header}
use Rattle.vg_pseudo.specs.Tree.{Operation}
use Rattle.vg_script.specs.Views.{Whole}
use Rattle.vg_range.specs.Unrolled.{unrolled}
use Rattle.vg_range_laws.specs.Static.{IsStatic}

-- In an accepted instance that is not dynamic no slice and no shift depends on data.
abbrev pub InstancesAreStatic : Type 0
InstancesAreStatic =
    (h : Header) (o : Operation) (imm : Option ℕ) (i : Whole) → unrolled h o imm ≡ Ok i
    → i.is_dynamic ≡ false → IsStatic i.script
