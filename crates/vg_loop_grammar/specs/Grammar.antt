-- The language of loops: which words spell which loop, one production after the other. Parameters,
-- statements and places are those of kernels. How the words are read is in `Reader` of vg_loops; here
-- is only what they may be.
use Rattle.std.specs.Prelude.{◌≡◌, ℕ, ◌≤◌, List, [], ◌∷◌, ◌++◌, length, map, Some, sum_by, Any, nat_eq, slice_index, IsTrue, codes, if◌then◌else◌}
use Rattle.std.specs.List.{IsDistinct}
use Rattle.std.specs.Str.{bytes_eq}
use Rattle.vg_base.specs.declared.width.Width.{Width}
use Rattle.vg_text.specs.Number.{decimal_value}
use Rattle.vg_text.specs.Words.{Spelled}
use Rattle.vg_kernel.specs.declared.given.Given.TheVariants as given
use Rattle.vg_kernel.specs.declared.parameter.KParam.{KParam}
use Rattle.vg_kernel.specs.Cost.{uses_of}
use Rattle.vg_kernel.specs.Grammar.{Is, IsPointer, AreParameters, AreStatements}
use Rattle.vg_kernel.specs.Names.{given_as, names_of}
use Rattle.vg_kernel.specs.Script.{Words, script_of}
use Rattle.vg_kernel.specs.Tree.{Statement, assign, store}
use Rattle.vg_kernel.specs.WellFormed.{pointers}
use Rattle.vg_kernel.specs.Words.{is_free}
use Rattle.vg_loop_laws.specs.Loops.{Loop}

-- the name of the k-th integer parameter
abbrev pub IsInteger : List KParam → Spelled → ℕ → Type 0
IsInteger params word k =
    (w : Width)
    × IsTrue (is_free word.bytes)
    × (given_as (names_of params) word.bytes ≡ Some (given.Argument k w))

-- a step as it is written: a pointer, by its number among the pointers, and by how many bytes each
-- turn moves it on
pub record WrittenStep : Type 0 where
  pub pointer : ℕ
  pub bytes : ℕ

-- `p S`: the name of a pointer, and a decimal number of 1 to 65,536
abbrev pub IsStep : List KParam → Words → WrittenStep → Type 0
IsStep params words step =
    (name number : Spelled)
    × IsPointer (names_of params) name step.pointer
    × (decimal_value number.bytes ≡ Some step.bytes)
    × (1 ≤ step.bytes)
    × (step.bytes ≤ 65536)
    × (words ≡ name ∷ number ∷ [])

-- after a step, each with a comma before it
abbrev pub AreMoreSteps : List KParam → Words → List WrittenStep → Type 0
AreMoreSteps params words [] = words ≡ []
AreMoreSteps params words (step ∷ steps) =
    (comma : Spelled)
    × (front rest : Words)
    × Is comma (codes ",")
    × IsStep params front step
    × AreMoreSteps params rest steps
    × (words ≡ comma ∷ (front ++ rest))

-- one at least, joined by commas
abbrev pub AreSteps : List KParam → Words → List WrittenStep → Type 0
AreSteps params words [] = ⊥
AreSteps params words (step ∷ steps) =
    (front rest : Words)
    × IsStep params front step
    × AreMoreSteps params rest steps
    × (words ≡ front ++ rest)

-- by how many bytes a turn moves a pointer on: what is written beside it, and 0 where it stands still
unfoldable pub bytes_written : List WrittenStep → ℕ → ℕ
bytes_written [] pointer = 0
bytes_written (step ∷ steps) pointer =
    if nat_eq step.pointer pointer then step.bytes else bytes_written steps pointer

-- `name (parameters)`, with at most 16 parameters of different names
pub record SpellsHead (words : Words) (name : List ℕ) (params : List KParam) : Type 0 where
  pub named : Spelled
  pub is_named : Is named name
  pub free : IsTrue (is_free name)
  pub opening : Spelled
  pub is_opening : Is opening (codes "(")
  pub between : Words
  pub are_params : AreParameters between params
  pub distinct : IsDistinct bytes_eq (map (λ p. p.name) params)
  pub few : length params ≤ 16
  pub closing : Spelled
  pub is_closing : Is closing (codes ")")
  pub whole : words ≡ named ∷ opening ∷ (between ++ closing ∷ [])

-- `times n step p S, ..`: the integer parameter that says how many turns there are, and steps of
-- different pointers in any order; each pointer has the step that is written for it
pub record SpellsTurns (params : List KParam) (words : Words) (times : ℕ) (steps : List ℕ) : Type 0 where
  pub before_number : Spelled
  pub is_times : Is before_number (codes "times")
  pub number : Spelled
  pub is_number : IsInteger params number times
  pub before_steps : Spelled
  pub is_step : Is before_steps (codes "step")
  pub written : List WrittenStep
  pub inside : Words
  pub are_steps : AreSteps params inside written
  pub distinct : IsDistinct nat_eq (map (λ s. s.pointer) written)
  pub each : length steps ≡ length (pointers params)
  pub moved : (k : ℕ) → slice_index steps k ≡ bytes_written written k
  pub whole : words ≡ before_number ∷ number ∷ before_steps ∷ inside

-- `{ statements }`, with at most 4,096 statements, and 8,192 loads and operations
pub record SpellsBlock (params : List KParam) (words : Words) (statements : List Statement) : Type 0 where
  pub begin : Spelled
  pub is_begin : Is begin (codes "{")
  pub inside : Words
  pub are_statements : AreStatements (names_of params) inside statements
  pub lines : length statements ≤ 4096
  pub uses : sum_by uses_of statements ≤ 8192
  pub end : Spelled
  pub is_end : Is end (codes "}")
  pub whole : words ≡ begin ∷ (inside ++ end ∷ [])

-- a store through a pointer that the turns move on
abbrev pub StoresMoving : List ℕ → Statement → Type 0
StoresMoving steps (assign e) = ⊥
StoresMoving steps (store w a e) = 1 ≤ slice_index steps a.pointer

-- `loop name (parameters) times n step p S, .. { statements }`, where some statement stores through
-- a pointer with a step
pub record SpellsLoop (words : Words) (l : Loop) : Type 0 where
  pub first : Spelled
  pub is_first : Is first (codes "loop")
  pub head : Words
  pub is_head : SpellsHead head l.kernel.name l.kernel.params
  pub turns : Words
  pub are_turns : SpellsTurns l.kernel.params turns l.times l.steps
  pub block : Words
  pub is_block : SpellsBlock l.kernel.params block l.kernel.statements
  pub moving : Any (StoresMoving l.steps) l.kernel.statements
  pub whole : words ≡ first ∷ (head ++ (turns ++ block))

-- a text of at most 262,144 bytes whose words spell the loop
pub record IsLoopText (text : List ℕ) (l : Loop) : Type 0 where
  pub size : length text ≤ 262144
  pub words : Words
  pub tokens : script_of text ≡ Some words
  pub loop : SpellsLoop words l
