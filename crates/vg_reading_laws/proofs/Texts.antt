-- The readers of the six formats.
use Rattle.std.proofs.Common.{◌≡◌, ℕ, List, length, Ok, refl, sym, ap, ◌∙◌}
use Rattle.std.proofs.lemmas.Bool.{le-ltb}
use Rattle.vg_pseudo.specs.declared.header.Header.{Header}
use Rattle.vg_kernel.specs.Grammar.{IsKernelText}
use Rattle.vg_kernel.specs.Statements.{kernel_of}
use Rattle.vg_kernel.proofs.KernelsAgain.{kernel_of-again}
use Rattle.vg_kernel.proofs.KernelsFound.{kernel_of-found}
use Rattle.vg_catalog.specs.Files.{file_of}
use Rattle.vg_catalog.specs.Grammar.{IsFile}
use Rattle.vg_catalog.proofs.FilesAgain.{file-again}
use Rattle.vg_catalog.proofs.FilesFound.{file-found}
use Rattle.vg_program.specs.declared.program.Program.{Program}
use Rattle.vg_program.specs.Faults.{read}
use Rattle.vg_program.proofs.ProgramLaws as program
use Rattle.vg_guard.specs.declared.guarded.Guarded.{Guarded}
use Rattle.vg_guard.specs.Grammar.{read_guarded}
use Rattle.vg_guard.proofs.GuardedTexts as guarded
use Rattle.vg_looped.specs.declared.looped.Looped.{Looped}
use Rattle.vg_looped.specs.Grammar.{read_looped}
use Rattle.vg_looped.specs.Looped.{looped_text, IsLooped}
use Rattle.vg_looped.proofs.LoopedTexts as looped
use Rattle.vg_guarded_loop.specs.declared.guarded_loop.GuardedLoop.{GuardedLoop}
use Rattle.vg_guarded_loop.specs.Grammar.{read_guarded_loop}
use Rattle.vg_guarded_loop.proofs.Texts as guarded_loop
use Rattle.vg_reading_laws.specs.Laws.{KernelsAreALanguage, InstructionFilesAreALanguage, IsProgramText, ProgramsAreALanguage, IsGuardedText, GuardedTextsAreALanguage, IsLoopedText, LoopedTextsAreALanguage, IsGuardedLoopText, GuardedLoopsAreALanguage}
use Rattle.vg_reading_laws.proofs.Languages.{a-language}

pub kernels-are-a-language : KernelsAreALanguage
kernels-are-a-language = a-language kernel_of IsKernelText kernel_of-found kernel_of-again

pub instruction-files-are-a-language : InstructionFilesAreALanguage
instruction-files-are-a-language = a-language file_of IsFile file-found file-again

pub programs-are-a-language : ProgramsAreALanguage
programs-are-a-language headers = a-language (read headers) (IsProgramText headers) found again
  where
    found : (text : List ℕ) (p : Program) → read headers text ≡ Ok p → IsProgramText headers text p
    found text p is =
        let spelled = program.read_sound headers text (Ok p) is in
        (spelled.0, sym spelled.1)

    again : (text : List ℕ) (p : Program) → IsProgramText headers text p → read headers text ≡ Ok p
    again text p (valid, same) = ap (read headers) same ∙ program.read_again headers p valid

pub guarded-texts-are-a-language : GuardedTextsAreALanguage
guarded-texts-are-a-language headers = a-language (read_guarded headers) (IsGuardedText headers) found again
  where
    found : (text : List ℕ) (g : Guarded) → read_guarded headers text ≡ Ok g → IsGuardedText headers text g
    found text g is =
        let spelled = guarded.read_sound headers text (Ok g) is in
        (spelled.0, sym spelled.1)

    again : (text : List ℕ) (g : Guarded) → IsGuardedText headers text g → read_guarded headers text ≡ Ok g
    again text g (rules, same) = ap (read_guarded headers) same ∙ guarded.read_again headers g rules

pub looped-again : (headers : List Header) (l : Looped) → IsLooped headers l → read_looped headers (looped_text l) ≡ Ok l
unfolding read_looped
looped-again headers l is =
    rw (le-ltb 4194304 (length (looped_text l)) is.size, looped.looped-texts-are-read headers l is) refl

pub looped-texts-are-a-language : LoopedTextsAreALanguage
looped-texts-are-a-language headers = a-language (read_looped headers) (IsLoopedText headers) found again
  where
    found : (text : List ℕ) (l : Looped) → read_looped headers text ≡ Ok l → IsLoopedText headers text l
    found text l is =
        let spelled = looped.read_sound headers text (Ok l) is in
        (spelled.0, sym spelled.1)

    again : (text : List ℕ) (l : Looped) → IsLoopedText headers text l → read_looped headers text ≡ Ok l
    again text l (rules, same) = ap (read_looped headers) same ∙ looped-again headers l rules

pub guarded-loops-are-a-language : GuardedLoopsAreALanguage
guarded-loops-are-a-language headers = a-language (read_guarded_loop headers) (IsGuardedLoopText headers) found again
  where
    found : (text : List ℕ) (l : GuardedLoop) → read_guarded_loop headers text ≡ Ok l → IsGuardedLoopText headers text l
    found text l is =
        let spelled = guarded_loop.read_sound headers text (Ok l) is in
        (spelled.0, sym spelled.1)

    again : (text : List ℕ) (l : GuardedLoop) → IsGuardedLoopText headers text l → read_guarded_loop headers text ≡ Ok l
    again text l (rules, same) = ap (read_guarded_loop headers) same ∙ guarded_loop.read_again headers l rules
