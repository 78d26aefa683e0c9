-- What may be written for a kernel.
use Rattle.std.specs.Prelude.{◌≡◌, ℕ, List, [], ◌∷◌, ◌++◌, codes}
use Rattle.vg_catalog.specs.Called.{called_by}
use Rattle.vg_catalog.specs.Entries.{Entry}
use Rattle.vg_kernel.specs.Tree.{Tree}
use Rattle.vg_program.specs.declared.program.Program.{Program}
use Rattle.vg_program.specs.Text.{text_of}
use Rattle.vg_compile.specs.Compiled.{IsCompiled}
use Rattle.vg_compile.specs.Means.{Means}
use Rattle.vg_compile.specs.Planned.{IsExplained}
use Rattle.vg_guard.specs.declared.guarded.Guarded.{Guarded}
use Rattle.vg_guard.specs.Guarded.{guarded_text}
use Rattle.vg_guard.specs.Compiled.{IsCompiledGuarded}
use Rattle.vg_looped.specs.declared.looped.Looped.{Looped}
use Rattle.vg_looped.specs.Looped.{looped_text}
use Rattle.vg_loop_laws.specs.Loops.{Loop}
use Rattle.vg_loops.specs.CompiledLoop.{IsCompiledLoop}
use Rattle.vg_guarded_loop.specs.declared.guarded_loop.GuardedLoop.{GuardedLoop}
use Rattle.vg_guarded_loop.specs.GuardedLoop.{guarded_loop_text}
use Rattle.vg_loop_guard.specs.CompiledGuardedLoop.{IsCompiledGuardedLoop}
use Rattle.vg_request.specs.Options.{Choices}

-- a kernel, the entries that there are, and what the options say: how many plans the search keeps of
-- each size, the extensions whose entries a program for the kernel may call, and whether more plans are
-- asked for
pub record Source : Type 0 where
  pub entries : List Entry
  pub kernel : Tree
  pub choices : Choices

abbrev pub source : List Entry → Tree → Choices → Source
source entries kernel choices = record { entries = entries; kernel = kernel; choices = choices }

-- a loop in the place of a kernel
pub record LoopSource : Type 0 where
  pub entries : List Entry
  pub loop : Loop
  pub choices : Choices

abbrev pub loop_source : List Entry → Loop → Choices → LoopSource
loop_source entries l choices = record { entries = entries; loop = l; choices = choices }

-- a kernel and a program, and the entries that the program may call
pub record Pair : Type 0 where
  pub entries : List Entry
  pub kernel : Tree
  pub program : Program

abbrev pub pair : List Entry → Tree → Program → Pair
pair entries kernel program =
    record { entries = entries; kernel = kernel; program = program }

-- The text of a program that is valid where it may call the entries, calls the allowed ones alone,
-- means the kernel, states its scalar cost, and costs at most that and what the chosen plan costs, which
-- is at most what the plain plan does.
pub record Answer (s : Source) (bytes : List ℕ) : Type 0 where
  pub program : Program
  pub text : bytes ≡ text_of program
  pub compiled : IsCompiled s.entries s.choices.allowed s.kernel s.choices.width s.choices.more program

-- The text of a guarded program whose checks are the kernel's, which means the kernel in each layout that
-- keeps what the kernel itself says of `noalias`. Each side is what is compiled of the kernel, the fast
-- one as if every pointer were `noalias`.
pub record GuardedAnswer (s : Source) (bytes : List ℕ) : Type 0 where
  pub guarded : Guarded
  pub text : bytes ≡ guarded_text guarded
  pub compiled : IsCompiledGuarded s.entries s.choices.allowed s.kernel s.choices.width s.choices.more guarded

-- The text of a block of as many turns as one kernel may have and of a rest of one turn, which leaves
-- what the loop leaves in each layout in which the accesses of all turns keep what it says of
-- `noalias`, and traps where a turn traps. Each of its programs is what is compiled of its kernel.
pub record LoopedAnswer (s : LoopSource) (bytes : List ℕ) : Type 0 where
  pub looped : Looped
  pub text : bytes ≡ looped_text looped
  pub compiled : IsCompiledLoop s.entries s.choices.allowed s.loop s.choices.width s.choices.more looped

-- The text of a guarded loop: of a block of as many turns as one kernel may have, with the checks of the
-- kernel of so many turns, and of a rest of one turn. It leaves what the loop leaves in each layout in
-- which the accesses of all turns keep what the loop itself says of `noalias`, and traps where a turn
-- traps. The block is what is compiled with guards of the kernel of so many turns, and the rest what is
-- compiled of the kernel of one.
pub record GuardedLoopAnswer (s : LoopSource) (bytes : List ℕ) : Type 0 where
  pub guarded : GuardedLoop
  pub text : bytes ≡ guarded_loop_text guarded
  pub compiled : IsCompiledGuardedLoop s.entries s.choices.allowed s.loop s.choices.width s.choices.more guarded

-- the lines on the plan that is chosen of the kernel. `Answer` speaks of a chosen plan too, and of
-- those there is one: `OneChosenPlan` of vg_compile.
abbrev pub Explanation : Source → List ℕ → Type 0
Explanation s bytes =
    IsExplained s.entries s.choices.allowed s.kernel s.choices.width s.choices.more bytes

abbrev pub same_text : List ℕ
same_text = codes "same" ++ 10 ∷ []

-- The word `same`. The program means the kernel: on everything that the kernel may be run on it leaves the
-- same memory, or traps where the kernel traps, each call giving what the text of its entry means.
pub record SameAnswer (q : Pair) (bytes : List ℕ) : Type 0 where
  pub text : bytes ≡ same_text
  pub means : Means (called_by q.entries) q.program q.kernel
