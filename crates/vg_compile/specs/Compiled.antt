-- What is compiled of a kernel.
use Rattle.std.specs.Prelude.{◌≡◌, ◌≤◌, ℕ, Bool, List}
use Rattle.vg_catalog.specs.Called.{called_by, headers_of}
use Rattle.vg_catalog.specs.Entries.{Entry}
use Rattle.vg_kernel.specs.Cost.{scalar_cost}
use Rattle.vg_kernel.specs.Tree.{Tree}
use Rattle.vg_program.specs.declared.program.Program.{Program}
use Rattle.vg_program.specs.Cost.{cost_of}
use Rattle.vg_program.specs.Valid.{IsValid}
use Rattle.vg_emission.specs.Fit.{CallsDescribed}
use Rattle.vg_descriptions.specs.Descriptions.{descriptions}
use Rattle.vg_compile.specs.declared.rewriting.Rewriting.{Rewriting}
use Rattle.vg_compile.specs.Chosen.{KernelPlan, IsChosenFor}
use Rattle.vg_compile.specs.Emitted.{IsProgramOf}
use Rattle.vg_compile.specs.Means.{Means}

-- A valid program that means a kernel, where a call gives what the text of its entry means. It calls
-- instances of the entries in a set of extensions alone, states the scalar cost of the kernel, costs at most
-- that, and is the program of the plan that is chosen by the descriptions of those instances, with more plans
-- or without, where the search keeps so many plans of each size: the plan that is told of the kernel, in the
-- order in which its packs and units are put. With more plans that may be over units that are made of the
-- kernel's own. There is one such program.
pub record IsCompiled
    (entries : List Entry) (set : ℕ) (k : Tree) (width : ℕ) (more : Bool) (p : Program)
    : Type 0 where
  pub means : Means (called_by entries) p k
  pub valid : IsValid (headers_of entries) p
  pub calls : CallsDescribed (descriptions set entries) p.lines
  pub scalar : p.scalar ≡ scalar_cost k
  pub cost : cost_of p ≤ scalar_cost k
  pub rewriting : Rewriting
  pub plan : KernelPlan
  pub chosen : IsChosenFor more (descriptions set entries) k width rewriting plan
  pub program : IsProgramOf (descriptions set entries) k plan p
