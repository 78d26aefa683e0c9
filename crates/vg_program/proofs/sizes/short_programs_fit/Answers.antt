use Rattle.vg_program.proofs.TextSizes.{short_fits}
use Rattle.vg_program.proofs.sizes.short_programs_fit.Goals as goal

pub returns : goal.returns
returns c = short_fits
