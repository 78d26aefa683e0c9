-- What is asked for by what `clap` finds.
use Rattle.std.proofs.Common.{◌≡◌, ◌∙◌, ℕ, Bool, true, false, List, [], ◌∷◌, Option, Some, None, refl, codes, ap, sym}
use Rattle.std.specs.Prelude.{◌&&◌}
use Rattle.std.specs.Option.{option_map, option_and_then}
use Rattle.std.proofs.lemmas.Bool.{and_parts}
use Rattle.clap.specs.Words.{found_of, one_text}
use Rattle.clap.specs.declared.parser.matches.ArgMatches.{ArgMatches}
use Rattle.vg_request.specs.Found.{HasParts, flag_text, kernel_found}
use Rattle.vg_request.specs.Options.{Choices, KernelAsked, width_of, allowed_of, choices_of, flag_of, two_files, kernel_asked}
use Rattle.vg_request.specs.declared.part.Flag.TheVariants.{Guard, More}
use Rattle.vg_request.specs.Parts.{Part, parts_of, widths_in, extensions_in, flags_in, words_in}
use Rattle.vg_request.specs.Readable.{at_most_one, is_nothing, are_few, may_follow, free_first, are_options}

abbrev choices_by : Bool → Option ℕ → Option ℕ → Option Choices
choices_by more w a = option_and_then (λ width. option_map (λ allowed. record { width = width; allowed = allowed; more = more }) a) w

abbrev asked_by : Bool → Bool → Option ℕ → Option ℕ → List (List ℕ) → Option KernelAsked
asked_by guard more w a fs = option_and_then (λ width. option_and_then (λ allowed. two_files guard (record { width = width; allowed = allowed; more = more }) fs) a) w

joined : (guard more : Bool) (w a : Option ℕ) (fs : List (List ℕ)) → asked_by guard more w a fs ≡ option_and_then (λ choices. two_files guard choices fs) (choices_by more w a)
joined guard more None a fs = refl
joined guard more (Some w) None fs = refl
joined guard more (Some w) (Some a) fs = refl

-- what parts ask for
abbrev asked_of : Bool → Option (List Part) → Option KernelAsked
asked_of free o = option_and_then (λ parts. option_and_then (λ guard. option_and_then (λ choices. two_files guard choices (words_in parts)) (choices_of parts)) (flag_of free (flags_in Guard parts))) o

-- what a flag says of its words
abbrev pub Says : List ℕ → ArgMatches → Bool → Type 0
Says id m given = (one_text (found_of m) id ≡ Some (codes "true") → given ≡ true) × (one_text (found_of m) id ≡ Some (codes "false") → given ≡ false)

pub flag_is : (id : List ℕ) (free given : Bool) (gs : List (List ℕ)) (m : ArgMatches) → are_few free gs ≡ true → one_text (found_of m) id ≡ Some (flag_text gs) → Says id m given → flag_of free gs ≡ Some given
flag_is id free given [] m few is says = ap (λ b. Some b) (sym (says.1 is))
flag_is id true given (g ∷ []) m few is says = ap (λ b. Some b) (sym (says.0 is))
flag_is id false given (g ∷ gs) m few is says = cc
flag_is id true given (g ∷ h ∷ gs) m few is says = cc

-- at most one of each, where it may stand
pub few_parts : (free : Bool) (ps : List Part) → may_follow (free_first free) (Some ps) ≡ true
    → (at_most_one (widths_in ps) ≡ true) × (are_few free (flags_in Guard ps) ≡ true) × (at_most_one (flags_in More ps) ≡ true)
few_parts free ps e =
    let all = and_parts (at_most_one (widths_in ps)) _ e in
    let flags = and_parts (are_few free (flags_in Guard ps)) (at_most_one (flags_in More ps)) all.1 in
    (all.0, flags.0, flags.1)

found_is : (free guard more : Bool) (o : Option (List Part)) (m : ArgMatches) → may_follow (free_first free) o ≡ true → HasParts o m → Says (codes "guard") m guard → Says (codes "more") m more
    → kernel_found guard more m ≡ asked_of free o
found_is free guard more None m few h says tells = absurd h
found_is free guard more (Some ps) m few h says tells =
    let parts = few_parts free ps few in
    let guards = flag_is (codes "guard") free guard (flags_in Guard ps) m parts.1 h.3 says in
    let mores = flag_is (codes "more") true more (flags_in More ps) m parts.2 h.4 tells in
    rw (h.0, h.1, h.2, guards, mores) (joined guard more (width_of (widths_in ps)) (allowed_of (extensions_in ps)) (words_in ps))

pub found_is_asked : (free guard more : Bool) (ws : List (List ℕ)) (m : ArgMatches) → are_options free ws ≡ true → HasParts (parts_of ws) m → Says (codes "guard") m guard → Says (codes "more") m more
    → kernel_found guard more m ≡ kernel_asked free ws
found_is_asked free guard more ws m few h says tells = found_is free guard more (parts_of ws) m few h says tells

-- words that are not read ask for nothing
no_choices : (free : Bool) (ps : List Part) → choices_of ps ≡ None → asked_of free (Some ps) ≡ None
no_choices free ps e = by (flag_of free (flags_in Guard ps)) refl
  where
    by : (g : Option Bool) → flag_of free (flags_in Guard ps) ≡ g → asked_of free (Some ps) ≡ None
    by None guards = rw guards refl
    by (Some b) guards = rw (guards, e) refl

two_widths : (vs : List (List ℕ)) → at_most_one vs ≡ false → width_of vs ≡ None
two_widths [] e = cc
two_widths (v ∷ []) e = cc
two_widths (v ∷ w ∷ vs) e = refl

no_width : (ps : List Part) → at_most_one (widths_in ps) ≡ false → choices_of ps ≡ None
no_width ps e = rw (two_widths (widths_in ps) e) refl

pub no_flag : (free : Bool) (gs : List (List ℕ)) → are_few free gs ≡ false → flag_of free gs ≡ None
no_flag true [] e = cc
no_flag false [] e = cc
no_flag true (g ∷ []) e = cc
no_flag false (g ∷ []) e = refl
no_flag free (g ∷ h ∷ gs) e = refl

no_more : (ps : List Part) → at_most_one (flags_in More ps) ≡ false → choices_of ps ≡ None
no_more ps e = by (width_of (widths_in ps)) refl (allowed_of (extensions_in ps)) refl
  where
    by : (w : Option ℕ) → width_of (widths_in ps) ≡ w → (a : Option ℕ) → allowed_of (extensions_in ps) ≡ a → choices_of ps ≡ None
    by None x a y = rw x refl
    by (Some w) x None y = rw (x, y) refl
    by (Some w) x (Some a) y = rw (x, y, no_flag true (flags_in More ps) e) refl

not_read : (free : Bool) (o : Option (List Part)) → may_follow (free_first free) o ≡ false → asked_of free o ≡ None
not_read free None e = refl
not_read free (Some ps) e = by (at_most_one (widths_in ps)) refl (are_few free (flags_in Guard ps)) refl
  where
    by : (a : Bool) → at_most_one (widths_in ps) ≡ a → (b : Bool) → are_few free (flags_in Guard ps) ≡ b → asked_of free (Some ps) ≡ None
    by false x b y = no_choices free ps (no_width ps x)
    by true x false y = rw (no_flag free (flags_in Guard ps) y) refl
    by true x true y =
        let few : at_most_one (flags_in More ps) ≡ false = rw (x, y) at e in
        no_choices free ps (no_more ps few)

pub no_options : (free : Bool) (ws : List (List ℕ)) → are_options free ws ≡ false → kernel_asked free ws ≡ None
no_options free ws e = not_read free (parts_of ws) e

-- where `--guard` may not stand, the words are such as where it may
nothing_few : (gs : List (List ℕ)) → is_nothing gs ≡ true → at_most_one gs ≡ true
nothing_few [] e = refl
nothing_few (g ∷ gs) e = cc

more_free : (free : Bool) (o : Option (List Part)) → may_follow (free_first free) o ≡ true → may_follow (free_first true) o ≡ true
more_free true o e = e
more_free false None e = e
more_free false (Some ps) e =
    let parts = few_parts false ps e in
    rw (parts.0, nothing_few (flags_in Guard ps) parts.1, parts.2) refl

pub are_free : (free : Bool) (ws : List (List ℕ)) → are_options free ws ≡ true → are_options true ws ≡ true
are_free free ws e = more_free free (parts_of ws) e
