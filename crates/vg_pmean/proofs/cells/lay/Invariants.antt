use Rattle.std.proofs.Common.{◌≡◌, take}
use Rattle.std.specs.Prelude.{vec_len, vec_capacity}
use Rattle.vg_pmean.specs.Extent.{IsLaid, total, widths_of}
use Rattle.vg_pmean.proofs.cells.lay.Given as goal

abbrev pub invariant-registers : goal.invariant-registers
invariant-registers l = record {
  laid : IsLaid 0 l.places.items;
  widths : widths_of l.places.items ≡ take l.width-index l.widths;
  end : l.end ≡ total (widths_of l.places.items);
  count : vec_len l.places ≡ l.width-index;
  capacity : vec_capacity l.places ≡ vec_capacity l.initial.places;
}
