use Rattle.std.proofs.Common.{◌∙◌}
use Rattle.vg_catalog.specs.Extensions.{bits_in}
use Rattle.vg_library.specs.Kept.{entries_kept, set_kept}
use Rattle.vg_top.proofs.Answers.{told-of-kept}
use Rattle.vg_top.proofs.on_kernel.text_of.Goals as goal

-- the library keeps the entries of the catalogue, and the set that the options name
pub returns-clause-told : goal.returns-clause-told
returns-clause-told c = λ entries same.
    let options = c.args.options in
    let library = c.in-Ok.library in
    told-of-kept c.args.task c.written_of_text.result options.width options.more c.args.text.now (entries_kept library) entries (set_kept library) (bits_in options.allowed)
    (c.in-Ok.ensures.entries ∙ same) c.in-Ok.ensures.set c.written_of_text.ensures.told
