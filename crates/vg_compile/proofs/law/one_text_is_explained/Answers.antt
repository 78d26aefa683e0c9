use Rattle.vg_compile.proofs.OneText.{one-text}
use Rattle.vg_compile.proofs.law.one_text_is_explained.Goals as goal

pub returns : goal.returns
returns c = one-text
