use Rattle.std.proofs.Common.{◌∙◌, sym}
use Rattle.std.proofs.lemmas.List.Folds.{list_all-map}
use Rattle.vg_shapes.specs.Description.{description_of}
use Rattle.vg_cost.specs.Shuffling.{is_tight}
use Rattle.vg_cost.proofs.shuffles.Shuffles.new.Goals as goal

pub returns : goal.returns
returns c = record {
  numbers = c.in_ok-shuffle_numbers.ensures;
  tight = c.are_tight.ensures ∙ sym (list_all-map is_tight description_of c.args.descriptions.now);
}
