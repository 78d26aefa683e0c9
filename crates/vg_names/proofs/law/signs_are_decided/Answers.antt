use Rattle.std.proofs.Common.{length}
use Rattle.vg_names.proofs.Deciding.{decided}
use Rattle.vg_names.proofs.law.signs_are_decided.Goals as goal

pub returns : goal.returns
returns c = λ given as' n. (λ e. (length as', e), λ shown. decided given as' n shown.0 shown.1)
