-- The command as `clap` builds it.
use Rattle.std.proofs.Common.{◌≡◌, refl, true, codes, Some, List, [], ◌∷◌, ℕ}
use Rattle.clap.specs.Words.{App, Rule, Shape, Text, new_app, new_rule, with_rule, is_simple, built}
use Rattle.clap.specs.Simple.{on_top, filled, with_index}
use Rattle.clap.specs.declared.builder.action.ArgAction.TheVariants.{Append, Set, SetTrue}
use Rattle.clap.proofs.OnLiterals.{clap_on_literals}
use Rattle.vg_request.specs.declared.part.Flag.{Flag}
use Rattle.vg_request.specs.declared.part.Flag.TheVariants.{Guard, More}

abbrev pub width_rule : Rule
width_rule = record (new_rule (codes "width")) { long = Some (codes "width"); action = Some Set }

abbrev pub with_option : Rule
with_option = record (new_rule (codes "with")) { long = Some (codes "with"); action = Some Append }

abbrev pub flag_id : Flag → Text
flag_id Guard = codes "guard"
flag_id More = codes "more"

abbrev pub flag_rule : Flag → Rule
flag_rule f = record (new_rule (flag_id f)) { long = Some (flag_id f); action = Some SetTrue }

abbrev pub files_rule : Rule
files_rule = record (new_rule (codes "files")) { action = Some Append }

abbrev pub bare : App
bare = on_top (λ s. record s { disable_help_flag = true })
    (on_top (λ s. record s { no_binary_name = true }) (new_app (codes "vegen")))

abbrev pub app : App
app = with_rule (with_rule (with_rule (with_rule (with_rule bare width_rule) with_option) (flag_rule Guard)) (flag_rule More)) files_rule

pub is_simple_app : is_simple app ≡ true
unfolding clap_on_literals
is_simple_app = refl

abbrev pub shape : Shape
shape = (built app).top

abbrev pub rules : List Rule
rules = shape.rules

-- the rules of the built command
abbrev pub width_built : Rule
width_built = with_index 1 (filled width_rule)

abbrev pub with_built : Rule
with_built = with_index 1 (filled with_option)

abbrev pub flag_built : Flag → Rule
flag_built f = with_index 1 (filled (flag_rule f))

abbrev pub files_built : Rule
files_built = with_index 1 (filled files_rule)
