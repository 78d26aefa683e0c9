use Rattle.std.proofs.Common.{◌∙◌, ap, length}
use Rattle.std.specs.Prelude.{bytes_eq, unwrap_or}
use Rattle.vg_beam.proofs.Numbers.{place-is}
use Rattle.vg_beam.proofs.Words.{place-map}
use Rattle.vg_beam.proofs.pack_table.place_of.Goals as goal

pub returns : goal.returns
returns c =
    c.unwrap_or.ensures ∙ ap (unwrap_or c.get_index_of.result) c.len.ensures.len
    ∙ ap (λ r. unwrap_or r (length c.args.places.now.keys)) c.get_index_of.ensures.index
    ∙ place-is (λ k. bytes_eq c.args.words.now k.items) c.args.places.now.keys
    ∙ place-map (λ k. k.items) (bytes_eq c.args.words.now) c.args.places.now.keys
