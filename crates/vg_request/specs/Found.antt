-- What `clap` finds in the words after a command, and what is asked for by it.
use Rattle.std.specs.Prelude.{◌≡◌, ℕ, ◌&&◌, Bool, List, [], ◌∷◌, Option, Some, None, codes, unwrap_or, if◌then◌else◌}
use Rattle.std.specs.List.{list_all}
use Rattle.std.specs.Option.{option_and_then, option_map}
use Rattle.clap.specs.Words.{found_of, matched_of, one_text, raw_values}
use Rattle.clap.specs.declared.parser.matches.ArgMatches.{ArgMatches}
use Rattle.vg_request.specs.Binding.{is_binding, bindings_in}
use Rattle.vg_request.specs.Options.{AloneAsked, KernelAsked, width_of, allowed_of, two_files}
use Rattle.vg_request.specs.declared.reading.FilesAlone.{FilesAlone}
use Rattle.vg_request.specs.declared.part.Flag.TheVariants.{Guard, More}
use Rattle.vg_request.specs.Parts.{Part, widths_in, extensions_in, flags_in, words_in}
use Rattle.vg_request.specs.Readable.{is_nothing}
use Rattle.vg_request.specs.Request.{Asked, run, eval, lift, trial, trial_number}

-- all values of an argument, in their order
abbrev pub values_of : List ℕ → ArgMatches → List (List ℕ)
values_of id m = unwrap_or (option_map raw_values (matched_of (found_of m) id)) []

-- the text of a flag that is given or not
abbrev pub flag_text : List (List ℕ) → List ℕ
flag_text [] = codes "false"
flag_text (g ∷ gs) = codes "true"

-- the values are those of these parts
abbrev pub HasParts : Option (List Part) → ArgMatches → Type 0
HasParts None m = ⊥
HasParts (Some parts) m = (values_of (codes "width") m ≡ widths_in parts)
    × (values_of (codes "with") m ≡ extensions_in parts)
    × (values_of (codes "files") m ≡ words_in parts)
    × (one_text (found_of m) (codes "guard") ≡ Some (flag_text (flags_in Guard parts)))
    × (one_text (found_of m) (codes "more") ≡ Some (flag_text (flags_in More parts)))

-- what these values of options and files ask for
abbrev pub kernel_by : Bool → Bool → List (List ℕ) → List (List ℕ) → List (List ℕ) → Option KernelAsked
kernel_by guard more widths names files =
    option_and_then (λ width.
    option_and_then (λ allowed.
    two_files guard (record { width = width; allowed = allowed; more = more }) files)
    (allowed_of names)) (width_of widths)

abbrev pub kernel_found : Bool → Bool → ArgMatches → Option KernelAsked
kernel_found guard more m = kernel_by guard more (values_of (codes "width") m)
    (values_of (codes "with") m) (values_of (codes "files") m)

abbrev pub alone_found : Bool → ArgMatches → Option AloneAsked
alone_found more m =
    if is_nothing (values_of (codes "width") m) && is_nothing (values_of (codes "with") m)
    then Some (record { files = values_of (codes "files") m; more = more })
    else None

-- the files that the code's value has, and whether `--more` stands beside them
abbrev pub alone_seen : FilesAlone → AloneAsked
alone_seen f = record { files = values_of (codes "files") f.matches; more = f.more }

-- what the values ask for after each other command, and the words after its files
abbrev pub run_found : List (List ℕ) → List (List ℕ) → Option Asked
run_found (a ∷ b ∷ c ∷ values) words =
    if list_all is_binding words then Some (run a b c (bindings_in words)) else None
run_found _ words = None

abbrev pub eval_found : List (List ℕ) → List (List ℕ) → Option Asked
eval_found (a ∷ b ∷ values) words =
    if list_all is_binding words then Some (eval a b (bindings_in words)) else None
eval_found _ words = None

abbrev pub lift_found : List (List ℕ) → Option Asked
lift_found (a ∷ []) = Some (lift a)
lift_found _ = None

abbrev pub trial_found : List (List ℕ) → Option Asked
trial_found (a ∷ digits ∷ []) = option_map (λ number. trial a number) (trial_number digits)
trial_found _ = None
