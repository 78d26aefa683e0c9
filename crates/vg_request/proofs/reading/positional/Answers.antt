use Rattle.std.proofs.lemmas.Result.{IfOk-weaker}
use Rattle.vg_request.proofs.Plain.{files_are}
use Rattle.vg_request.proofs.reading.positional.Goals as goal

pub returns : goal.returns
returns c = IfOk-weaker c.matched.result _ _ (λ m h. files_are c.args.words.now m c.requires h) c.matched.ensures
