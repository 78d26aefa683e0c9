-- What a program file of a request holds: a program, a guarded one, a looped one or a guarded loop.
use Rattle.std.specs.Prelude.{◌≡◌, ℕ, List, take, codes, if◌then◌else◌, Option, Result, Ok, Err}
use Rattle.std.specs.Str.{bytes_eq}
use Rattle.vg_base.specs.Bind.{◌>>=◌}
use Rattle.vg_pseudo.specs.declared.header.Header.{Header}
use Rattle.vg_program.specs.declared.param.Param.{Param}
use Rattle.vg_program.specs.declared.program.Program.{Program}
use Rattle.vg_program.specs.declared.program_fault.ProgramFault.{ProgramFault}
use Rattle.vg_program.specs.Faults.{read}
use Rattle.vg_program.specs.Meaning.{Instructions, meaning}
use Rattle.vg_program.specs.Valid.{KeepsRules}
use Rattle.vg_guard.specs.declared.guarded.Guarded.{Guarded}
use Rattle.vg_guard.specs.Grammar.{read_guarded}
use Rattle.vg_guard.specs.Guarded.{guarded_meaning, IsGuarded}
use Rattle.vg_looped.specs.declared.looped.Looped.{Looped}
use Rattle.vg_looped.specs.Grammar.{read_looped}
use Rattle.vg_looped.specs.Looped.{IsLooped}
use Rattle.vg_guarded_loop.specs.declared.guarded_loop.GuardedLoop.{GuardedLoop}
use Rattle.vg_guarded_loop.specs.Grammar.{read_guarded_loop}
use Rattle.vg_guarded_loop.specs.GuardedLoop.{IsGuardedLoop}
use Rattle.vg_loop_laws.specs.Loops.{Run}
use Rattle.vg_loop_guard.specs.Meaning.{guarded_loop_meaning}
use Rattle.vg_loops.specs.Inputs.{looped_meaning}
use Rattle.vg_top.specs.declared.ending.FileNumber.{FileNumber}
use Rattle.vg_top.specs.declared.ending.Ending.{Ending}
use Rattle.vg_top.specs.declared.ending.Ending.TheVariants.{Program as ProgramRefused}
use Rattle.vg_top.specs.declared.program_file.ProgramFile as code
use Rattle.vg_top.specs.declared.program_file.ProgramFile.TheVariants as seen
use Rattle.vg_top.specs.Inputs.{InputLists}
use Rattle.vg_top.specs.Left.{loop_inputs}

pub data ProgramFile : Type 0 where
  plain : Program → ProgramFile
  guarded : Guarded → ProgramFile
  looped : Looped → ProgramFile
  guarded_loop : GuardedLoop → ProgramFile

abbrev pub plain_file : List Header → List ℕ → Result ProgramFile ProgramFault
plain_file headers text = read headers text >>= λ p. Ok (plain p)

abbrev pub guarded_file : List Header → List ℕ → Result ProgramFile ProgramFault
guarded_file headers text = read_guarded headers text >>= λ g. Ok (guarded g)

abbrev pub looped_file : List Header → List ℕ → Result ProgramFile ProgramFault
looped_file headers text = read_looped headers text >>= λ l. Ok (looped l)

abbrev pub guarded_loop_file : List Header → List ℕ → Result ProgramFile ProgramFault
guarded_loop_file headers text = read_guarded_loop headers text >>= λ l. Ok (guarded_loop l)

-- a text is judged as what its first bytes announce, else as a program
unfoldable pub program_file : List Header → List ℕ → Result ProgramFile ProgramFault
program_file headers text =
    if bytes_eq (take 8 text) (codes "guarded ") then guarded_file headers text
    else if bytes_eq (take 7 text) (codes "looped ") then looped_file headers text
    else if bytes_eq (take 12 text) (codes "guardedloop ") then guarded_loop_file headers text
    else plain_file headers text

-- a fault of the program file, which has this number
abbrev pub program_or_refusal : {P : Type 0} → FileNumber → Result P ProgramFault → Result P Ending
program_or_refusal n (Ok p) = Ok p
program_or_refusal n (Err f) = Err (ProgramRefused n f)

-- the parameters
abbrev pub params_of : ProgramFile → List Param
params_of (plain p) = p.params
params_of (guarded g) = g.fast.params
params_of (looped l) = l.block.params
params_of (guarded_loop l) = l.block.fast.params

-- what it leaves, where calls give this: a guarded program what the side leaves that its checks name, and
-- a guarded loop in each block what the side leaves that its checks name there
abbrev pub meaning_of : Instructions → ProgramFile → Run
meaning_of called (plain p) = meaning called p
meaning_of called (guarded g) = guarded_meaning called g
meaning_of called (looped l) = looped_meaning called l
meaning_of called (guarded_loop l) = guarded_loop_meaning called l

-- what its parameters may be
abbrev pub inputs_for : ProgramFile → Option InputLists → Option InputLists
inputs_for (plain p) inputs = inputs
inputs_for (guarded g) inputs = inputs
inputs_for (looped l) inputs = loop_inputs l.times l.steps inputs
inputs_for (guarded_loop l) inputs = loop_inputs l.times l.steps inputs

-- the rules
abbrev pub KeepsAll : List Header → ProgramFile → Type 0
KeepsAll headers (plain p) = KeepsRules headers p
KeepsAll headers (guarded g) = IsGuarded headers g
KeepsAll headers (looped l) = IsLooped headers l
KeepsAll headers (guarded_loop l) = IsGuardedLoop headers l

-- what the code's value stands for
abbrev pub program_seen : code.ProgramFile → ProgramFile
program_seen (seen.Plain p) = plain p
program_seen (seen.Guarded g) = guarded g
program_seen (seen.Looped l) = looped l
program_seen (seen.GuardedLoop l) = guarded_loop l

-- a program alone is this one
abbrev pub IsPlain : Program → Program → Type 0
IsPlain p q = p ≡ q

-- the program of the code is this one
abbrev pub IsProgram : code.ProgramFile → ProgramFile → Type 0
IsProgram p q = program_seen p ≡ q
