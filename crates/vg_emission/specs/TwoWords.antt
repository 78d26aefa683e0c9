-- Two words copied from one pointer to another, as one pack of loads and one of stores.
use Rattle.std.specs.Prelude.{◌≡◌, ℕ, true, false, List, [], ◌∷◌, pos, codes}
use Rattle.vg_base.specs.declared.address.Address.{Address}
use Rattle.vg_base.specs.declared.width.Width.TheVariants.{W32}
use Rattle.vg_program.specs.declared.line.Line.TheVariants as line
use Rattle.vg_program.specs.declared.vector_size.VectorSize.TheVariants.{B8}
use Rattle.vg_program.specs.Meaning.{Instructions}
use Rattle.vg_shapes.specs.declared.order.Node.{Node}
use Rattle.vg_shapes.specs.declared.order.Node.TheVariants.{PackAt}
use Rattle.vg_shapes.specs.declared.pack.Pack.{Pack}
use Rattle.vg_shapes.specs.declared.pack.Pack.TheVariants.{Stores, Loads}
use Rattle.vg_shapes.specs.declared.ssa.Ssa.{Ssa}
use Rattle.vg_shapes.specs.declared.ssa.SsaParamKind.TheVariants.{Pointer}
use Rattle.vg_shapes.specs.declared.ssa_unit.SsaUnit.TheVariants.{Load, Store}
use Rattle.vg_shapes.specs.declared.wanted.Wanted.TheVariants.{Value}
use Rattle.vg_shapes.specs.Sound.{load_key}
use Rattle.vg_kernel_plans.specs.declared.recipe.Recipe.{Recipe}
use Rattle.vg_kernel_plans.specs.declared.recipe.Recipe.TheVariants as recipe
use Rattle.vg_terms.specs.declared.term.Term.TheVariants.{Leaf, Const}
use Rattle.vg_emission.specs.Laws.{MeansUnits}
use Rattle.vg_emission.specs.Program.{job_of, lines_of, program_of}

abbrev pub word : ℕ → ℕ → Address
word pointer offset = record { pointer = pointer; offset = pos offset }

-- p is noalias and q is not; two loads from q, and two stores of what they load to p
abbrev pub two_words : Ssa
two_words = record {
  name = codes "copy";
  params =
      record { name = codes "p"; kind = Pointer true }
      ∷ record { name = codes "q"; kind = Pointer false }
      ∷ [];
  units =
      Load (word 1 0) W32
      ∷ Load (word 1 4) W32
      ∷ Store (word 0 0) W32 (Value 0)
      ∷ Store (word 0 4) W32 (Value 1)
      ∷ [];
  terms =
      Leaf 32 (load_key (word 1 0) 0)
      ∷ Leaf 32 (load_key (word 1 4) 1)
      ∷ Const 8 0
      ∷ Const 8 0
      ∷ [];
  cuts = [];
}

abbrev pub two_packs : List Pack
two_packs = Loads (0 ∷ 1 ∷ []) ∷ Stores (2 ∷ 3 ∷ []) ∷ []

-- the operand of the stores stands in the register of the loads
abbrev pub one_recipe : List Recipe
one_recipe = recipe.Reuse 0 ∷ []

abbrev pub loads_first : List Node
loads_first = PackAt 0 ∷ PackAt 1 ∷ []

-- the program has one vector load and one vector store
abbrev pub TwoLines : Type 0
TwoLines =
    lines_of (job_of [] [] two_words two_packs one_recipe) loads_first
    ≡ line.VectorLoad B8 (word 1 0) ∷ line.VectorStore B8 (word 0 0) 0 ∷ []

-- and it means the four units, whatever calls give
abbrev pub TwoWordsMeanUnits : Type 0
TwoWordsMeanUnits =
    (called : Instructions) →
    MeansUnits called (program_of [] [] two_words two_packs one_recipe loads_first) two_words
