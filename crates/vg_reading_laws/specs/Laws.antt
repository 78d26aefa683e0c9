-- The laws of what is read.
use Rattle.std.specs.Prelude.{◌≡◌, ℕ, List}
use Rattle.vg_pseudo.specs.declared.header.Header.{Header}
use Rattle.vg_kernel.specs.Statements.{kernel_of}
use Rattle.vg_kernel.specs.Grammar.{IsKernelText}
use Rattle.vg_catalog.specs.Files.{file_of}
use Rattle.vg_catalog.specs.Grammar.{IsFile}
use Rattle.vg_program.specs.declared.program.Program.{Program}
use Rattle.vg_program.specs.Faults.{read}
use Rattle.vg_program.specs.Text.{text_of}
use Rattle.vg_program.specs.Valid.{IsValid}
use Rattle.vg_guard.specs.declared.guarded.Guarded.{Guarded}
use Rattle.vg_guard.specs.Grammar.{read_guarded}
use Rattle.vg_guard.specs.Guarded.{guarded_text, IsGuarded}
use Rattle.vg_looped.specs.declared.looped.Looped.{Looped}
use Rattle.vg_looped.specs.Grammar.{read_looped}
use Rattle.vg_looped.specs.Looped.{looped_text, IsLooped}
use Rattle.vg_guarded_loop.specs.declared.guarded_loop.GuardedLoop.{GuardedLoop}
use Rattle.vg_guarded_loop.specs.Grammar.{read_guarded_loop}
use Rattle.vg_guarded_loop.specs.GuardedLoop.{guarded_loop_text, IsGuardedLoop}
use Rattle.vg_reading_laws.specs.Language.{IsLanguage}

-- the words of a text spell a kernel
abbrev pub KernelsAreALanguage : Type 0
KernelsAreALanguage = IsLanguage kernel_of IsKernelText

-- the words of a text spell headers and operations, one entry after the other
abbrev pub InstructionFilesAreALanguage : Type 0
InstructionFilesAreALanguage = IsLanguage file_of IsFile

-- it is the text of a program, which may call the instructions of these headers
abbrev pub IsProgramText : List Header → List ℕ → Program → Type 0
IsProgramText headers text p = IsValid headers p × (text ≡ text_of p)

abbrev pub ProgramsAreALanguage : Type 0
ProgramsAreALanguage =
    (headers : List Header) → IsLanguage (read headers) (IsProgramText headers)

-- it is the text of a guarded program
abbrev pub IsGuardedText : List Header → List ℕ → Guarded → Type 0
IsGuardedText headers text g = IsGuarded headers g × (text ≡ guarded_text g)

abbrev pub GuardedTextsAreALanguage : Type 0
GuardedTextsAreALanguage =
    (headers : List Header) → IsLanguage (read_guarded headers) (IsGuardedText headers)

-- it is the text of a looped program
abbrev pub IsLoopedText : List Header → List ℕ → Looped → Type 0
IsLoopedText headers text l = IsLooped headers l × (text ≡ looped_text l)

abbrev pub LoopedTextsAreALanguage : Type 0
LoopedTextsAreALanguage =
    (headers : List Header) → IsLanguage (read_looped headers) (IsLoopedText headers)

-- it is the text of a guarded loop
abbrev pub IsGuardedLoopText : List Header → List ℕ → GuardedLoop → Type 0
IsGuardedLoopText headers text l = IsGuardedLoop headers l × (text ≡ guarded_loop_text l)

abbrev pub GuardedLoopsAreALanguage : Type 0
GuardedLoopsAreALanguage =
    (headers : List Header) → IsLanguage (read_guarded_loop headers) (IsGuardedLoopText headers)
