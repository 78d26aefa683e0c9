-- What is emitted for two sums that are stored to consecutive places, by a plan with a call.
use Rattle.std.specs.Prelude.{◌≡◌, List, [], ◌∷◌, codes, replicate, None}
use Rattle.vg_base.specs.declared.width.Width.TheVariants.{W32}
use Rattle.vg_program.specs.declared.line.Line.TheVariants as line
use Rattle.vg_program.specs.declared.operand.Operand.TheVariants.{Argument}
use Rattle.vg_program.specs.declared.vector_size.VectorSize.TheVariants.{B8}
use Rattle.vg_program.specs.Meaning.{Instructions}
use Rattle.vg_shapes.specs.declared.order.Node.{Node}
use Rattle.vg_shapes.specs.declared.order.Node.TheVariants.{PackAt}
use Rattle.vg_terms.specs.declared.term.Term.{Term}
use Rattle.vg_terms.specs.Term.{tree}
use Rattle.vg_emission.specs.Laws.{MeansUnits}
use Rattle.vg_emission.specs.Truth.{IsTrueOf}
use Rattle.vg_gather.specs.Recipes.{planned_program}
use Rattle.vg_plan_relations.specs.TwoSums.{four_sums, sum_matches, sum_plan, sum_tree, two_sums, word}

-- the call stands before the stores of what it gives
abbrev pub call_first : List Node
call_first = PackAt 1 ∷ PackAt 0 ∷ []

-- The arguments are put into two registers, one call adds them, and one line stores both sums.
abbrev pub TwoSumsLines : Type 0
TwoSumsLines =
    (t : Term) →
    (planned_program (four_sums ∷ []) sum_matches (two_sums t) sum_plan call_first).lines
    ≡ line.Constant (replicate 16 0)
    ∷ line.Insert 0 128 0 W32 (Argument 0)
    ∷ line.Insert 1 128 1 W32 (Argument 0)
    ∷ line.Constant (replicate 16 0)
    ∷ line.Insert 3 128 0 W32 (Argument 1)
    ∷ line.Insert 4 128 1 W32 (Argument 1)
    ∷ line.Call (codes "add") (2 ∷ 5 ∷ []) None 128 1
    ∷ line.VectorStore B8 (word 0) 6
    ∷ []

-- These lines mean the units, where the instance adds four words.
abbrev pub TwoSumsMeanUnits : Type 0
TwoSumsMeanUnits =
    (called : Instructions) (t : Term) → tree t ≡ sum_tree → IsTrueOf called four_sums →
    MeansUnits called
    (planned_program (four_sums ∷ []) sum_matches (two_sums t) sum_plan call_first)
    (two_sums t)
