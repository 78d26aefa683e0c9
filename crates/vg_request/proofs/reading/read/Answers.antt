use Rattle.std.proofs.Common.{rules, ap, ap₂, refl, codes, true, map, List, ◌≡◌, ◌∙◌}
use Rattle.std.proofs.lemmas.Result.{IfErr-weaker, IfOk-weaker}
use Rattle.clap.specs.Words.{App, Rule, Text, app_of, is_simple, matches_of, new_app, new_rule, rule_of, takes, with_rule}
use Rattle.clap.specs.Simple.{app_of_fields, on_top}
use Rattle.vg_request.specs.declared.part.Flag.TheVariants.{Guard, More}
use Rattle.vg_request.proofs.Command.{app, bare, files_rule, flag_rule, is_simple_app, width_rule, with_option}
use Rattle.vg_request.proofs.PartsRead.{is_found, is_taken, texts_of}
use Rattle.vg_request.proofs.reading.read.Goals as goal

pub returns-clause-ok : goal.returns-clause-ok
returns-clause-ok c =
    let width_is : rule_of c.action-width.result ≡ width_rule = search (rules, c.new.ensures.rule, c.long.ensures, c.action-width.ensures) in
    let with_is : rule_of c.action-with.result ≡ with_option = search (rules, c.new-2.ensures.rule, c.long-2.ensures, c.action-with.ensures) in
    let guard_is : rule_of c.action-guard.result ≡ flag_rule Guard = search (rules, c.new-3.ensures.rule, c.long-3.ensures, c.action-guard.ensures) in
    let more_is : rule_of c.action-more.result ≡ flag_rule More = search (rules, c.new-4.ensures.rule, c.long-4.ensures, c.action-more.ensures) in
    let files_is : rule_of c.action-files.result ≡ files_rule = search (rules, c.new-5.ensures.rule, c.action-files.ensures) in
    let unnamed : app_of c.no_binary_name.result ≡ on_top (λ s. record s { no_binary_name = true }) (app_of c.new-6.result) = ap app_of_fields c.no_binary_name.ensures in
    let unhelped : app_of c.disable_help_flag.result ≡ on_top (λ s. record s { disable_help_flag = true }) (app_of c.no_binary_name.result) = ap app_of_fields c.disable_help_flag.ensures in
    let bare_is : app_of c.disable_help_flag.result ≡ bare = unhelped ∙ ap (on_top (λ s. record s { disable_help_flag = true })) (unnamed ∙ ap (on_top (λ s. record s { no_binary_name = true })) c.new-6.ensures.app) in
    let app_is : app_of c.in_ok-command.command ≡ app = c.in_ok-command.ensures.shape (search (rules, c.new-5.ensures.optional, c.action-files.ensures))
    ∙ ap₂ with_rule (c.in_ok-arg-4.ensures.shape (search (rules, c.new-4.ensures.optional, c.long-4.ensures, c.action-more.ensures)) ∙ ap₂ with_rule (c.in_ok-arg-3.ensures.shape (search (rules, c.new-3.ensures.optional, c.long-3.ensures, c.action-guard.ensures)) ∙ ap₂ with_rule (c.in_ok-arg-2.ensures.shape (search (rules, c.new-2.ensures.optional, c.long-2.ensures, c.action-with.ensures)) ∙ ap₂ with_rule (c.in_ok-arg.ensures.shape (search (rules, c.new.ensures.optional, c.long.ensures, c.action-width.ensures)) ∙ ap₂ with_rule bare_is width_is) with_is) guard_is) more_is) files_is in
    let parse = c.try_get_matches_from in
    IfOk-weaker parse.result _ _ (λ m h. is_found c.args.words.now c.requires m ((h (ap is_simple app_is ∙ is_simple_app)).0 ∙ ap (λ a. matches_of a (texts_of c.args.words.now)) app_is)) parse.ensures.matches

pub returns-clause-err : goal.returns-clause-err
returns-clause-err c =
    let width_is : rule_of c.action-width.result ≡ width_rule = search (rules, c.new.ensures.rule, c.long.ensures, c.action-width.ensures) in
    let with_is : rule_of c.action-with.result ≡ with_option = search (rules, c.new-2.ensures.rule, c.long-2.ensures, c.action-with.ensures) in
    let guard_is : rule_of c.action-guard.result ≡ flag_rule Guard = search (rules, c.new-3.ensures.rule, c.long-3.ensures, c.action-guard.ensures) in
    let more_is : rule_of c.action-more.result ≡ flag_rule More = search (rules, c.new-4.ensures.rule, c.long-4.ensures, c.action-more.ensures) in
    let files_is : rule_of c.action-files.result ≡ files_rule = search (rules, c.new-5.ensures.rule, c.action-files.ensures) in
    let unnamed : app_of c.no_binary_name.result ≡ on_top (λ s. record s { no_binary_name = true }) (app_of c.new-6.result) = ap app_of_fields c.no_binary_name.ensures in
    let unhelped : app_of c.disable_help_flag.result ≡ on_top (λ s. record s { disable_help_flag = true }) (app_of c.no_binary_name.result) = ap app_of_fields c.disable_help_flag.ensures in
    let bare_is : app_of c.disable_help_flag.result ≡ bare = unhelped ∙ ap (on_top (λ s. record s { disable_help_flag = true })) (unnamed ∙ ap (on_top (λ s. record s { no_binary_name = true })) c.new-6.ensures.app) in
    let app_is : app_of c.in_ok-command.command ≡ app = c.in_ok-command.ensures.shape (search (rules, c.new-5.ensures.optional, c.action-files.ensures))
    ∙ ap₂ with_rule (c.in_ok-arg-4.ensures.shape (search (rules, c.new-4.ensures.optional, c.long-4.ensures, c.action-more.ensures)) ∙ ap₂ with_rule (c.in_ok-arg-3.ensures.shape (search (rules, c.new-3.ensures.optional, c.long-3.ensures, c.action-guard.ensures)) ∙ ap₂ with_rule (c.in_ok-arg-2.ensures.shape (search (rules, c.new-2.ensures.optional, c.long-2.ensures, c.action-with.ensures)) ∙ ap₂ with_rule (c.in_ok-arg.ensures.shape (search (rules, c.new.ensures.optional, c.long.ensures, c.action-width.ensures)) ∙ ap₂ with_rule bare_is width_is) with_is) guard_is) more_is) files_is in
    let parse = c.try_get_matches_from in
    IfErr-weaker parse.result _ _ (λ e h. h (ap (λ a. takes a (texts_of c.args.words.now)) app_is ∙ is_taken c.args.words.now c.requires)) parse.ensures.passes
