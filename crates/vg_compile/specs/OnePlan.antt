-- The chosen plan of a kernel is one, and so are the program that is compiled of it and what it costs.
use Rattle.std.specs.Prelude.{◌≡◌, ◌≤◌, ℕ, Bool, true, false, List}
use Rattle.vg_catalog.specs.Entries.{Entry}
use Rattle.vg_kernel.specs.Tree.{Tree}
use Rattle.vg_program.specs.declared.program.Program.{Program}
use Rattle.vg_program.specs.Cost.{cost_of}
use Rattle.vg_shapes.specs.Description.{Description}
use Rattle.vg_compile.specs.Chosen.{KernelPlan, IsChosenWhole, IsChosenWide, IsChosenFed, price_of}
use Rattle.vg_compile.specs.Compiled.{IsCompiled}
use Rattle.vg_compile.specs.Planned.{IsExplained}

-- two plans of a kernel have the same matches and the same packs, and cost the same
pub record AreOnePlan (ds : List Description) (a b : KernelPlan) : Type 0 where
  pub matches : a.matches ≡ b.matches
  pub packs : a.packs ≡ b.packs
  pub price : price_of ds a ≡ price_of ds b

-- two chosen plans of a kernel are one, and so are two chosen wide plans and two chosen fed plans
pub record OneChosenPlan : Type 0 where
  pub whole : (ds : List Description) (k : Tree) (width : ℕ) (a b : KernelPlan) →
      IsChosenWhole ds k width a → IsChosenWhole ds k width b → AreOnePlan ds a b
  pub wide : (ds : List Description) (k : Tree) (width : ℕ) (a b : KernelPlan) →
      IsChosenWide ds k width a → IsChosenWide ds k width b → AreOnePlan ds a b
  pub fed : (ds : List Description) (k : Tree) (width : ℕ) (a b : KernelPlan) →
      IsChosenFed ds k width a → IsChosenFed ds k width b → AreOnePlan ds a b

-- Two programs that are compiled of a kernel by the same entries, both with more plans or both without, cost
-- the same; and one with more plans costs at most what one without costs.
pub record CompileMoreCostsNoMore : Type 0 where
  pub same : (entries : List Entry) (set : ℕ) (k : Tree) (width : ℕ) (more : Bool) (p q : Program) →
      IsCompiled entries set k width more p → IsCompiled entries set k width more q →
      cost_of p ≡ cost_of q
  pub no_more : (entries : List Entry) (set : ℕ) (k : Tree) (width : ℕ) (p q : Program) →
      IsCompiled entries set k width true p → IsCompiled entries set k width false q →
      cost_of p ≤ cost_of q

-- there is one program that is compiled of a kernel by entries, a set of extensions and a width, with more
-- plans or without
abbrev pub OneProgramIsCompiled : Type 0
OneProgramIsCompiled =
    (entries : List Entry) (set : ℕ) (k : Tree) (width : ℕ) (more : Bool) (p q : Program) →
    IsCompiled entries set k width more p → IsCompiled entries set k width more q →
    p ≡ q

-- there is one text that tells of the plan of a kernel
abbrev pub OneTextIsExplained : Type 0
OneTextIsExplained =
    (entries : List Entry) (set : ℕ) (k : Tree) (width : ℕ) (more : Bool) (one other : List ℕ) →
    IsExplained entries set k width more one → IsExplained entries set k width more other →
    one ≡ other
