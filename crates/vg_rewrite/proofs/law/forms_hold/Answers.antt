use Rattle.vg_rewrite.proofs.Reaching.{bit-forms-hold, forms-hold}
use Rattle.vg_rewrite.proofs.law.forms_hold.Goals as goal

pub returns-clause-numbers : goal.returns-clause-numbers
returns-clause-numbers c = forms-hold

pub returns-clause-bits : goal.returns-clause-bits
returns-clause-bits c = bit-forms-hold
