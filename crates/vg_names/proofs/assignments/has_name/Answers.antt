use Rattle.std.proofs.Common.{◌∙◌, List, ℕ}
use Rattle.std.specs.Borrow.{Bor}
use Rattle.std.specs.Str.{bytes_eq}
use Rattle.vg_names.proofs.TablesOfNames.{any_mapped}
use Rattle.vg_names.proofs.assignments.has_name.Goals as goal

pub returns : goal.returns
returns c = c.is_any.ensures ∙ any_mapped {A = Bor (List ℕ)} (λ t. t.now) (λ m. bytes_eq m c.args.name.now) c.args.names.now
