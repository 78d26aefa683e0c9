-- The requests: what the words of a command line ask for.
use Rattle.std.specs.Prelude.{ℕ, Bool, true, false, ◌-◌, ◌^◌, List, [], ◌∷◌, Option, Some, None, codes, nat_lt, slice_get, unwrap_or, if◌then◌else◌}
use Rattle.std.specs.Str.{bytes_eq}
use Rattle.std.specs.List.{list_all}
use Rattle.std.specs.Option.{option_and_then, option_map}
use Rattle.vg_text.specs.Number.{decimal_value}
use Rattle.vg_request.specs.declared.request.Request.{Request}
use Rattle.vg_request.specs.declared.request.Request.TheVariants.{Compile, Run, Eval, Lift, Explain, Trial, Check, Terms}
use Rattle.vg_request.specs.Binding.{Binding, is_binding, bindings_in}
use Rattle.vg_request.specs.Options.{Choices, alone_asked, kernel_asked, choices_seen}
use Rattle.vg_request.specs.Word.{plain_word}

-- what is asked for, each file by its name; `compile` with guards or without
pub data Asked : Type 0 where
  compile : List ℕ → List ℕ → Choices → Bool → Asked
  run : List ℕ → List ℕ → List ℕ → List Binding → Asked
  eval : List ℕ → List ℕ → List Binding → Asked
  lift : List ℕ → Asked
  explain : List ℕ → List ℕ → Choices → Asked
  trial : List ℕ → ℕ → Asked
  check : List ℕ → List ℕ → List ℕ → Bool → Asked
  terms : List ℕ → Bool → Asked

-- the names of its files, in the order in which they are read
abbrev pub files_of : Asked → List (List ℕ)
files_of (compile instructions kernel choices guard) = instructions ∷ kernel ∷ []
files_of (run instructions program memory bindings) = instructions ∷ program ∷ memory ∷ []
files_of (eval kernel memory bindings) = kernel ∷ memory ∷ []
files_of (lift instructions) = instructions ∷ []
files_of (explain instructions kernel choices) = instructions ∷ kernel ∷ []
files_of (trial instructions number) = instructions ∷ []
files_of (check instructions kernel program more) = instructions ∷ kernel ∷ program ∷ []
files_of (terms kernel more) = kernel ∷ []

-- words that are no request name no file
abbrev pub files_in : Option Asked → List (List ℕ)
files_in None = []
files_in (Some asked) = files_of asked

-- the name of a file, by its number among them, from 1
abbrev pub file_name : List (List ℕ) → ℕ → List ℕ
file_name files number = unwrap_or (slice_get files (number - 1)) []

-- the three files of `run`, and the words that bind the parameters
abbrev pub run_of : List ℕ → List ℕ → List ℕ → List (List ℕ) → Option Asked
run_of a b c words =
    if list_all is_binding words
    then option_and_then (λ instructions.
    option_and_then (λ program.
    option_map (λ memory. run instructions program memory (bindings_in words))
    (plain_word c)) (plain_word b)) (plain_word a)
    else None

-- the two files of `eval`, and the words that bind the parameters
abbrev pub eval_of : List ℕ → List ℕ → List (List ℕ) → Option Asked
eval_of a b words =
    if list_all is_binding words
    then option_and_then (λ kernel.
    option_map (λ memory. eval kernel memory (bindings_in words))
    (plain_word b)) (plain_word a)
    else None

-- the words after `compile INSTRUCTIONS KERNEL`, with options anywhere among them, also `--guard`
abbrev pub compile_words : List (List ℕ) → Option Asked
compile_words words =
    option_map (λ k. compile k.instructions k.kernel k.choices k.guard) (kernel_asked true words)

-- the words after `run INSTRUCTIONS PROGRAM MEMORY name=number ..`
abbrev pub run_words : List (List ℕ) → Option Asked
run_words (a ∷ b ∷ c ∷ words) = run_of a b c words
run_words _ = None

-- the words after `eval KERNEL MEMORY name=number ..`
abbrev pub eval_words : List (List ℕ) → Option Asked
eval_words (a ∷ b ∷ words) = eval_of a b words
eval_words _ = None

-- the words after `lift INSTRUCTIONS`
abbrev pub lift_words : List (List ℕ) → Option Asked
lift_words (a ∷ []) = option_map (λ instructions. lift instructions) (plain_word a)
lift_words _ = None

-- the words after `explain INSTRUCTIONS KERNEL`, with options anywhere among them
abbrev pub explain_words : List (List ℕ) → Option Asked
explain_words words =
    option_map (λ k. explain k.instructions k.kernel k.choices) (kernel_asked false words)

-- the number of a trial: decimal digits of a value below 2 ^ 32, leading zeros among them
abbrev pub trial_number : List ℕ → Option ℕ
trial_number digits =
    option_and_then (λ n. if nat_lt n (2 ^ 32) then Some n else None) (decimal_value digits)

-- the words after `trial INSTRUCTIONS N`
abbrev pub trial_words : List (List ℕ) → Option Asked
trial_words (a ∷ digits ∷ []) =
    option_and_then (λ instructions.
    option_map (λ number. trial instructions number) (trial_number digits)) (plain_word a)
trial_words _ = None

-- the three files of `check`
abbrev pub check_of : Bool → List (List ℕ) → Option Asked
check_of more (instructions ∷ kernel ∷ program ∷ []) =
    Some (check instructions kernel program more)
check_of more _ = None

-- the words after `check INSTRUCTIONS KERNEL PROGRAM`, with `--more` anywhere among them
abbrev pub check_words : List (List ℕ) → Option Asked
check_words words = option_and_then (λ a. check_of a.more a.files) (alone_asked words)

-- the file of `terms`
abbrev pub terms_of : Bool → List (List ℕ) → Option Asked
terms_of more (kernel ∷ []) = Some (terms kernel more)
terms_of more _ = None

-- the words after `terms KERNEL`, with `--more` before or behind it
abbrev pub terms_words : List (List ℕ) → Option Asked
terms_words words = option_and_then (λ a. terms_of a.more a.files) (alone_asked words)

-- the command, and what stands after it; all other words are no request
abbrev pub request_of : List (List ℕ) → Option Asked
request_of [] = None
request_of (command ∷ words) =
    if bytes_eq command (codes "compile") then compile_words words
    else if bytes_eq command (codes "run") then run_words words
    else if bytes_eq command (codes "eval") then eval_words words
    else if bytes_eq command (codes "lift") then lift_words words
    else if bytes_eq command (codes "explain") then explain_words words
    else if bytes_eq command (codes "trial") then trial_words words
    else if bytes_eq command (codes "check") then check_words words
    else if bytes_eq command (codes "terms") then terms_words words
    else None

-- what a request of the code asks for
abbrev pub asked_of : Request → Asked
asked_of (Compile a b options guard) = compile a.now b.now (choices_seen options) guard
asked_of (Run a b c words) = run a.now b.now c.now (bindings_in words.now)
asked_of (Eval a b words) = eval a.now b.now (bindings_in words.now)
asked_of (Lift a) = lift a.now
asked_of (Explain a b options) = explain a.now b.now (choices_seen options)
asked_of (Trial a number) = trial a.now number
asked_of (Check a b c more) = check a.now b.now c.now more
asked_of (Terms a more) = terms a.now more
