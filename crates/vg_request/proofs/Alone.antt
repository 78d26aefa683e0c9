-- Files, and `--more`: what is asked for by what `clap` finds.
use Rattle.std.proofs.Common.{◌≡◌, ◌∙◌, ℕ, Bool, true, false, List, [], ◌∷◌, Option, Some, None, refl, codes, ap, sym}
use Rattle.std.specs.Prelude.{◌&&◌, if◌then◌else◌}
use Rattle.std.specs.Option.{option_map, option_and_then}
use Rattle.std.proofs.lemmas.Bool.{and_parts}
use Rattle.clap.specs.declared.parser.matches.ArgMatches.{ArgMatches}
use Rattle.vg_request.specs.Found.{HasParts, alone_found}
use Rattle.vg_request.specs.Options.{AloneAsked, alone_asked, flag_of, more_alone}
use Rattle.vg_request.specs.declared.part.Flag.TheVariants.{Guard, More}
use Rattle.vg_request.specs.Parts.{Part, parts_of, widths_in, extensions_in, flags_in, words_in}
use Rattle.vg_request.specs.Readable.{at_most_one, is_nothing, are_few, may_follow, free_first, are_options}
use Rattle.vg_request.proofs.Asked.{Says, few_parts, flag_is, no_flag}

-- what parts ask for
abbrev asked_of : Option (List Part) → Option AloneAsked
asked_of o = option_and_then (λ parts. if more_alone parts then option_map (λ more. record { files = words_in parts; more = more }) (flag_of true (flags_in More parts)) else None) o

-- where `--guard` does not stand, the other options decide
without_guard : (a b c : Bool) {X : Type 0} (x y : X) → c ≡ true → (if a && (b && c) then x else y) ≡ (if a && b then x else y)
without_guard true true c x y e = rw e refl
without_guard true false c x y e = refl
without_guard false b c x y e = refl

found_is : (more : Bool) (o : Option (List Part)) (m : ArgMatches) → may_follow (free_first false) o ≡ true → HasParts o m → Says (codes "more") m more → alone_found more m ≡ asked_of o
found_is more None m few h says = absurd h
found_is more (Some ps) m few h says =
    let parts = few_parts false ps few in
    let mores = flag_is (codes "more") true more (flags_in More ps) m parts.2 h.4 says in
    let asked : option_map (λ b. record { files = words_in ps; more = b }) (flag_of true (flags_in More ps)) ≡ Some (record { files = words_in ps; more = more }) = rw mores refl in
    rw (h.0, h.1, h.2) (sym (without_guard (is_nothing (widths_in ps)) (is_nothing (extensions_in ps)) (is_nothing (flags_in Guard ps)) _ None parts.1 ∙ ap (λ x. if is_nothing (widths_in ps) && is_nothing (extensions_in ps) then x else None) asked))

pub found_is_alone : (more : Bool) (ws : List (List ℕ)) (m : ArgMatches) → are_options false ws ≡ true → HasParts (parts_of ws) m → Says (codes "more") m more → alone_found more m ≡ alone_asked ws
found_is_alone more ws m few h says = found_is more (parts_of ws) m few h says

-- words that are not read ask for nothing
some_widths : (vs : List (List ℕ)) → at_most_one vs ≡ false → is_nothing vs ≡ false
some_widths [] e = cc
some_widths (v ∷ vs) e = refl

-- another condition that does not hold
last_fails : (a b : Bool) (x : Option AloneAsked) → (if a && (b && false) then x else None) ≡ None
last_fails true true x = refl
last_fails true false x = refl
last_fails false b x = refl

-- nothing either way
nothing : (b : Bool) (x : Option AloneAsked) → x ≡ None → (if b then x else None) ≡ None
nothing true x e = e
nothing false x e = refl

not_read : (o : Option (List Part)) → may_follow (free_first false) o ≡ false → asked_of o ≡ None
not_read None e = refl
not_read (Some ps) e = by (at_most_one (widths_in ps)) refl (is_nothing (flags_in Guard ps)) refl
  where
    by : (a : Bool) → at_most_one (widths_in ps) ≡ a → (b : Bool) → is_nothing (flags_in Guard ps) ≡ b → asked_of (Some ps) ≡ None
    by false x b y = rw (some_widths (widths_in ps) x) refl
    by true x false y = rw y (last_fails (is_nothing (widths_in ps)) (is_nothing (extensions_in ps)) _)
    by true x true y =
        let few : at_most_one (flags_in More ps) ≡ false = rw (x, y) at e in
        nothing (more_alone ps) _ (rw (no_flag true (flags_in More ps) few) refl)

pub no_options_alone : (ws : List (List ℕ)) → are_options false ws ≡ false → alone_asked ws ≡ None
no_options_alone ws e = not_read (parts_of ws) e
