-- The first difference of the numbered values of a kernel is that of the kernel.
use Rattle.std.proofs.Common.{◌≡◌, ◌∙◌, Bool, List, [], Option, refl, ap}
use Rattle.std.specs.Option.{option_map}
use Rattle.vg_catalog.specs.Called.{called_by}
use Rattle.vg_catalog.specs.Entries.{Entry}
use Rattle.vg_kernel.specs.Tree.{Tree}
use Rattle.vg_program.specs.declared.program.Program.{Program}
use Rattle.vg_shapes.specs.declared.ssa.Ssa.{Ssa}
use Rattle.vg_ssa.specs.Numbering.{IsNumbering}
use Rattle.vg_ssa.specs.StandsFor.{StandsFor}
use Rattle.vg_emission.specs.Laws.{MeansUnits}
use Rattle.vg_known.specs.Difference.{Difference, difference_by, Equality}
use Rattle.vg_known.specs.WiderDifference.{equality}
use Rattle.vg_verify.specs.Heads.{HasHead}
use Rattle.vg_compile.specs.Means.{Means}
use Rattle.vg_compile.proofs.Joined.{own-stand, units-mean-kernels}
use Rattle.vg_check.specs.Compared.{told_difference, values_of}
use Rattle.vg_check.specs.Told.{difference_text}

-- it does not look at the terms
without-terms : (equal : Equality) (entries : List Entry) (ssa : Ssa) (p : Program)
    → difference_by equal entries ssa p ≡ difference_by equal entries (record ssa { terms = []; cuts = [] }) p
unfolding difference_by
without-terms equal entries ssa p = refl

pub numbered-difference : (equal : Equality) (entries : List Entry) (k : Tree) (ssa : Ssa) (p : Program) → IsNumbering k ssa
    → difference_by equal entries ssa p ≡ difference_by equal entries (values_of k) p
numbered-difference equal entries k ssa p is =
    without-terms equal entries ssa p
    ∙ (λ i. difference_by equal entries (record { name = is.name i; params = is.params i; units = is.units i; terms = []; cuts = [] }) p)

-- what is told of it
pub told_numbered : (entries : List Entry) (k : Tree) (ssa : Ssa) (p : Program) (more : Bool) (found : Option Difference) → IsNumbering k ssa
    → found ≡ difference_by (equality more) entries ssa p → option_map (difference_text p.params) found ≡ told_difference entries k p more
unfolding told_difference
told_numbered entries k ssa p more found is e = ap (option_map (difference_text p.params)) (e ∙ numbered-difference (equality more) entries k ssa p is)

-- a program with the kernel's name and parameters that means the units means the kernel
pub means_kernel : (entries : List Entry) (k : Tree) (ssa : Ssa) (p : Program) → IsNumbering k ssa → StandsFor k ssa → HasHead ssa p
    → MeansUnits (called_by entries) p ssa → Means (called_by entries) p k
means_kernel entries k ssa p is stands head means =
    units-mean-kernels (called_by entries) k ssa p (own-stand k ssa is stands) head.name head.params means
