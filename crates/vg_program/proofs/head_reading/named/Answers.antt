use Rattle.std.proofs.Common.{◌∙◌, rules, tests}
use Rattle.std.specs.Str.{bytes_eq}
use Rattle.std.proofs.lemmas.Iterator.{YieldsList-from_slice}
use Rattle.std.proofs.lemmas.Iterator.Search.{find_from_yields_List}
use Rattle.vg_program.specs.Grammar.{head_text}
use Rattle.vg_program.proofs.head_reading.named.Goals as goal

pub returns : goal.returns
returns c =
    let found = find_from_yields_List (λ h. bytes_eq c.args.word.now (head_text h)) _ _ c.find.result c.find.ensures.ran (YieldsList-from_slice c.args.heads.now cc) (λ x b q k. search (rules, tests)) in
    c.copied.ensures ∙ found
