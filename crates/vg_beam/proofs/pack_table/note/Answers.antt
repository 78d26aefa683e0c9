use Rattle.std.proofs.Common.{◌∙◌, ap, map}
use Rattle.std.specs.Prelude.{bytes_eq}
use Rattle.vg_beam.proofs.Words.{insert-map}
use Rattle.vg_beam.proofs.pack_table.note.Goals as goal

pub returns-in-Ok : goal.returns-in-Ok
returns-in-Ok c = ap (map (λ k. k.items)) c.in-Ok.ensures.keys ∙ insert-map (λ k. k.items) bytes_eq c.args.places.now.keys c.args.words
