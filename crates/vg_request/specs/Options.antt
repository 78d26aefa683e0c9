-- What the options of a command say, and the two files beside them.
use Rattle.std.specs.Prelude.{ℕ, Bool, true, false, ◌&&◌, List, [], ◌∷◌, Option, Some, None, ◌^◌, nat_le, bit_or, if◌then◌else◌}
use Rattle.std.specs.Option.{option_and_then, option_map}
use Rattle.vg_text.specs.Number.{decimal_value}
use Rattle.vg_catalog.specs.Extensions.{all_extensions, extension_place, bits_in}
use Rattle.vg_request.specs.declared.options.Options.{Options}
use Rattle.vg_request.specs.declared.reading.OnKernel.{OnKernel}
use Rattle.vg_request.specs.declared.part.Flag.TheVariants.{Guard, More}
use Rattle.vg_request.specs.Parts.{Part, parts_of, widths_in, extensions_in, flags_in, words_in}
use Rattle.vg_request.specs.Readable.{is_nothing}

-- the width of the search, the extensions whose entries may be called (bit i stands for the extension
-- at place i of their list), and whether more plans are asked for
pub record Choices : Type 0 where
  pub width : ℕ
  pub allowed : ℕ
  pub more : Bool

-- the width where none is given
abbrev pub usual_width : ℕ
usual_width = 32

-- the number of a width: 1 to 4096
abbrev pub width_number : List ℕ → Option ℕ
width_number v =
    option_and_then (λ n. if nat_le 1 n && nat_le n 4096 then Some n else None) (decimal_value v)

-- at most one width is given
abbrev pub width_of : List (List ℕ) → Option ℕ
width_of [] = Some usual_width
width_of (v ∷ []) = width_number v
width_of _ = None

-- the set of the extension of this name alone
abbrev pub extension_named : List ℕ → Option ℕ
extension_named name = option_map (λ i. 2 ^ i) (extension_place name)

-- a set with the extensions of these names
abbrev pub with_named : ℕ → List (List ℕ) → Option ℕ
with_named set [] = Some set
with_named set (name ∷ names) =
    option_and_then (λ one. with_named (bit_or set one) names) (extension_named name)

-- the extensions that are named, and all where none is
abbrev pub allowed_of : List (List ℕ) → Option ℕ
allowed_of [] = Some all_extensions
allowed_of (name ∷ names) = with_named 0 (name ∷ names)

-- whether an option without a value stands there: once, and only where it may
abbrev pub flag_of : Bool → List (List ℕ) → Option Bool
flag_of free [] = Some false
flag_of free (g ∷ []) = if free then Some true else None
flag_of free _ = None

-- what the options say
abbrev pub choices_of : List Part → Option Choices
choices_of parts =
    option_and_then (λ width.
    option_and_then (λ allowed.
    option_map (λ more. record { width = width; allowed = allowed; more = more })
    (flag_of true (flags_in More parts)))
    (allowed_of (extensions_in parts))) (width_of (widths_in parts))

-- an instruction file, a kernel, what the options say, and whether guards are asked for
pub record KernelAsked : Type 0 where
  pub instructions : List ℕ
  pub kernel : List ℕ
  pub choices : Choices
  pub guard : Bool

-- the words that are left are two files
abbrev pub two_files : Bool → Choices → List (List ℕ) → Option KernelAsked
two_files guard choices (instructions ∷ kernel ∷ []) = Some (record {
  instructions = instructions;
  kernel = kernel;
  choices = choices;
  guard = guard;
})
two_files guard choices _ = None

-- `INSTRUCTIONS KERNEL`, with options anywhere among them, `--guard` where it may stand
abbrev pub kernel_asked : Bool → List (List ℕ) → Option KernelAsked
kernel_asked free words =
    option_and_then (λ parts.
    option_and_then (λ guard.
    option_and_then (λ choices. two_files guard choices (words_in parts))
    (choices_of parts)) (flag_of free (flags_in Guard parts))) (parts_of words)

-- files, and whether `--more` stands beside them
pub record AloneAsked : Type 0 where
  pub files : List (List ℕ)
  pub more : Bool

-- no option stands there, but for `--more`
abbrev pub more_alone : List Part → Bool
more_alone parts =
    is_nothing (widths_in parts)
    && (is_nothing (extensions_in parts) && is_nothing (flags_in Guard parts))

-- files, with `--more` at most once anywhere among them
abbrev pub alone_asked : List (List ℕ) → Option AloneAsked
alone_asked words =
    option_and_then (λ parts.
    if more_alone parts
    then option_map (λ more. record { files = words_in parts; more = more })
    (flag_of true (flags_in More parts))
    else None) (parts_of words)

-- what the code's values stand for
abbrev pub choices_seen : Options → Choices
choices_seen o = record { width = o.width; allowed = bits_in o.allowed; more = o.more }

abbrev pub kernel_seen : OnKernel → KernelAsked
kernel_seen k = record {
  instructions = k.instructions.now;
  kernel = k.kernel.now;
  choices = choices_seen k.options;
  guard = k.guard;
}
