use Rattle.std.proofs.Common.{rules, ◌≡◌, ◌∙◌, true, false, codes, Option, Some, IfOk, option_map, sym, subst}
use Rattle.std.specs.Prelude.{slice_get}
use Rattle.std.specs.Str.{bytes_eq}
use Rattle.vg_request.specs.Request.{Asked, asked_of}
use Rattle.vg_request.proofs.Commands.{IsBehindEval, lift_at, lift_read, explain_at, explain_read, trial_at, trial_read, check_at, check_read, terms_at, terms_read}
use Rattle.vg_request.proofs.request.request_of.Goals as goal

pub returns-then-eq-4-clause-asked : goal.returns-then-eq-4-clause-asked
returns-then-eq-4-clause-asked c =
    let w = c.get-command.result.now in
    let first : slice_get c.args.words.now 0 ≡ Some w = search rules in
    let before : IsBehindEval w = record { compile = search rules; run = search rules; eval = search rules } in
    let lift : bytes_eq w (codes "lift") ≡ true = search rules in
    subst (λ (a : Option Asked). IfOk c.lift_words.result (λ r. option_map asked_of r ≡ a)) (sym (lift_at c.args.words.now w first before lift)) c.lift_words.ensures.asked

pub returns-then-eq-4-clause-refused : goal.returns-then-eq-4-clause-refused
returns-then-eq-4-clause-refused c = λ unread.
    let w = c.get-command.result.now in
    let first : slice_get c.args.words.now 0 ≡ Some w = search rules in
    let before : IsBehindEval w = record { compile = search rules; run = search rules; eval = search rules } in
    let lift : bytes_eq w (codes "lift") ≡ true = search rules in
    c.lift_words.ensures.refused (lift_read c.args.words.now w first before lift ∙ unread)

pub returns-then-eq-5-clause-asked : goal.returns-then-eq-5-clause-asked
returns-then-eq-5-clause-asked c =
    let w = c.get-command.result.now in
    let first : slice_get c.args.words.now 0 ≡ Some w = search rules in
    let before : IsBehindEval w = record { compile = search rules; run = search rules; eval = search rules } in
    let lift : bytes_eq w (codes "lift") ≡ false = search rules in
    let explain : bytes_eq w (codes "explain") ≡ true = search rules in
    subst (λ (a : Option Asked). IfOk c.explain_words.result (λ r. option_map asked_of r ≡ a)) (sym (explain_at c.args.words.now w first before lift explain)) c.explain_words.ensures.asked

pub returns-then-eq-5-clause-refused : goal.returns-then-eq-5-clause-refused
returns-then-eq-5-clause-refused c = λ unread.
    let w = c.get-command.result.now in
    let first : slice_get c.args.words.now 0 ≡ Some w = search rules in
    let before : IsBehindEval w = record { compile = search rules; run = search rules; eval = search rules } in
    let lift : bytes_eq w (codes "lift") ≡ false = search rules in
    let explain : bytes_eq w (codes "explain") ≡ true = search rules in
    c.explain_words.ensures.refused (explain_read c.args.words.now w first before lift explain ∙ unread)

pub returns-then-eq-6-clause-asked : goal.returns-then-eq-6-clause-asked
returns-then-eq-6-clause-asked c =
    let w = c.get-command.result.now in
    let first : slice_get c.args.words.now 0 ≡ Some w = search rules in
    let before : IsBehindEval w = record { compile = search rules; run = search rules; eval = search rules } in
    let lift : bytes_eq w (codes "lift") ≡ false = search rules in
    let explain : bytes_eq w (codes "explain") ≡ false = search rules in
    let trial : bytes_eq w (codes "trial") ≡ true = search rules in
    subst (λ (a : Option Asked). IfOk c.trial_words.result (λ r. option_map asked_of r ≡ a)) (sym (trial_at c.args.words.now w first before lift explain trial)) c.trial_words.ensures.asked

pub returns-then-eq-6-clause-refused : goal.returns-then-eq-6-clause-refused
returns-then-eq-6-clause-refused c = λ unread.
    let w = c.get-command.result.now in
    let first : slice_get c.args.words.now 0 ≡ Some w = search rules in
    let before : IsBehindEval w = record { compile = search rules; run = search rules; eval = search rules } in
    let lift : bytes_eq w (codes "lift") ≡ false = search rules in
    let explain : bytes_eq w (codes "explain") ≡ false = search rules in
    let trial : bytes_eq w (codes "trial") ≡ true = search rules in
    c.trial_words.ensures.refused (trial_read c.args.words.now w first before lift explain trial ∙ unread)

pub returns-then-eq-7-clause-asked : goal.returns-then-eq-7-clause-asked
returns-then-eq-7-clause-asked c =
    let w = c.get-command.result.now in
    let first : slice_get c.args.words.now 0 ≡ Some w = search rules in
    let before : IsBehindEval w = record { compile = search rules; run = search rules; eval = search rules } in
    let lift : bytes_eq w (codes "lift") ≡ false = search rules in
    let explain : bytes_eq w (codes "explain") ≡ false = search rules in
    let trial : bytes_eq w (codes "trial") ≡ false = search rules in
    let check : bytes_eq w (codes "check") ≡ true = search rules in
    subst (λ (a : Option Asked). IfOk c.check_words.result (λ r. option_map asked_of r ≡ a)) (sym (check_at c.args.words.now w first before lift explain trial check)) c.check_words.ensures.asked

pub returns-then-eq-7-clause-refused : goal.returns-then-eq-7-clause-refused
returns-then-eq-7-clause-refused c = λ unread.
    let w = c.get-command.result.now in
    let first : slice_get c.args.words.now 0 ≡ Some w = search rules in
    let before : IsBehindEval w = record { compile = search rules; run = search rules; eval = search rules } in
    let lift : bytes_eq w (codes "lift") ≡ false = search rules in
    let explain : bytes_eq w (codes "explain") ≡ false = search rules in
    let trial : bytes_eq w (codes "trial") ≡ false = search rules in
    let check : bytes_eq w (codes "check") ≡ true = search rules in
    c.check_words.ensures.refused (check_read c.args.words.now w first before lift explain trial check ∙ unread)

pub returns-then-eq-8-clause-asked : goal.returns-then-eq-8-clause-asked
returns-then-eq-8-clause-asked c =
    let w = c.get-command.result.now in
    let first : slice_get c.args.words.now 0 ≡ Some w = search rules in
    let before : IsBehindEval w = record { compile = search rules; run = search rules; eval = search rules } in
    let lift : bytes_eq w (codes "lift") ≡ false = search rules in
    let explain : bytes_eq w (codes "explain") ≡ false = search rules in
    let trial : bytes_eq w (codes "trial") ≡ false = search rules in
    let check : bytes_eq w (codes "check") ≡ false = search rules in
    let terms : bytes_eq w (codes "terms") ≡ true = search rules in
    subst (λ (a : Option Asked). IfOk c.terms_words.result (λ r. option_map asked_of r ≡ a)) (sym (terms_at c.args.words.now w first before lift explain trial check terms)) c.terms_words.ensures.asked

pub returns-then-eq-8-clause-refused : goal.returns-then-eq-8-clause-refused
returns-then-eq-8-clause-refused c = λ unread.
    let w = c.get-command.result.now in
    let first : slice_get c.args.words.now 0 ≡ Some w = search rules in
    let before : IsBehindEval w = record { compile = search rules; run = search rules; eval = search rules } in
    let lift : bytes_eq w (codes "lift") ≡ false = search rules in
    let explain : bytes_eq w (codes "explain") ≡ false = search rules in
    let trial : bytes_eq w (codes "trial") ≡ false = search rules in
    let check : bytes_eq w (codes "check") ≡ false = search rules in
    let terms : bytes_eq w (codes "terms") ≡ true = search rules in
    c.terms_words.ensures.refused (terms_read c.args.words.now w first before lift explain trial check terms ∙ unread)
