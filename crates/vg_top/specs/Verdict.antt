-- What a run has to answer, where it is known what the shelf holds.
use Rattle.std.specs.Prelude.{ℕ, List, [], if◌then◌else◌, Option, Some, None, Result, Ok, Err, IsOk}
use Rattle.vg_base.specs.Bind.{◌>>=◌}
use Rattle.vg_outside.specs.Shelf.{Held}
use Rattle.vg_top.specs.declared.ending.Ending.{Ending}
use Rattle.vg_top.specs.declared.ending.Ending.TheVariants.{Usage}
use Rattle.vg_top.specs.declared.status.Status.{Status}
use Rattle.vg_top.specs.declared.status.Status.TheVariants as status
use Rattle.vg_top.specs.Ending.{status_of}
use Rattle.vg_request.specs.Request.{Asked, compile, run, eval, lift, explain, trial, check, terms, request_of}
use Rattle.vg_top.specs.declared.task.Task.TheVariants.{Program, Guarded, Plan}
use Rattle.vg_top.specs.OnKernel.{written_for}
use Rattle.vg_top.specs.Outcome.{Outcome, memory_left, listing, line_on, IsAnswer, VecAnswers}
use Rattle.vg_top.specs.Check.{checked}
use Rattle.vg_top.specs.Eval.{evaluated}
use Rattle.vg_top.specs.Lift.{listed}
use Rattle.vg_top.specs.Run.{ran}
use Rattle.vg_top.specs.Terms.{values_listed}
use Rattle.vg_top.specs.Trial.{trial_told}
use Rattle.vg_top.specs.Files.{Tells}
use Rattle.vg_top.specs.Line.{line_of}

abbrev pub outcome_of : Held → Asked → Result Outcome Ending
outcome_of held (compile instructions kernel choices guard) =
    written_for held (if guard then Guarded else Program) instructions kernel choices
outcome_of held (explain instructions kernel choices) =
    written_for held Plan instructions kernel choices
outcome_of held (run instructions program memory bindings) =
    ran held instructions program memory bindings >>= λ left. Ok (memory_left left)
outcome_of held (eval kernel memory bindings) =
    evaluated held kernel memory bindings >>= λ left. Ok (memory_left left)
outcome_of held (lift instructions) = listed held instructions >>= λ lines. Ok (listing lines)
outcome_of held (trial instructions number) =
    trial_told held instructions number >>= λ t. Ok (line_on t)
outcome_of held (check instructions kernel program more) =
    checked held instructions kernel program more
outcome_of held (terms kernel more) = values_listed held kernel more >>= λ lines. Ok (listing lines)

-- what is to be written, or the first refusal: of the words, and then of the files in their order
abbrev pub asked_outcome : Held → Option Asked → Result Outcome Ending
asked_outcome held None = Err Usage
asked_outcome held (Some asked) = outcome_of held asked

abbrev pub verdict : Held → List (List ℕ) → Result Outcome Ending
verdict held words = asked_outcome held (request_of words)

-- these bytes are what was to be written
abbrev pub IsAnswered : Result Outcome Ending → List ℕ → Type 0
IsAnswered (Ok outcome) bytes = IsAnswer outcome bytes
IsAnswered (Err e) bytes = ⊥

-- how a run ends where nothing is wrong outside and there is memory
abbrev pub status_told : Result Outcome Ending → Status
status_told (Ok outcome) = status.Ok
status_told (Err e) = status_of e

-- how a run ended: by an answer, or by an ending
abbrev pub status_from : Option Ending → Status
status_from None = status.Ok
status_from (Some e) = status_of e

-- the line that tells of it, with the names of the files; none after an answer
abbrev pub line_from : List (List ℕ) → Option Ending → List ℕ
line_from files None = []
line_from files (Some e) = line_of files e

-- the ending is the one that the verdict names, a fault of the outside and want of memory aside
abbrev pub EndedBy : Option Ending → Result Outcome Ending → Type 0
EndedBy None v = IsOk v
EndedBy (Some e) v = Tells VecAnswers (Err e) v
