use Rattle.std.proofs.Common.{◌+◌, ◌≤◌, arith, map, ◌∙◌}
use Rattle.std.specs.Prelude.{slice_index}
use Rattle.std.proofs.lemmas.List.{length-map}
use Rattle.vg_paired.specs.ByteLabels.{label_of}
use Rattle.vg_paired.proofs.Sweeping.{rows-none, units-early}
use Rattle.vg_paired.proofs.turned.has_early.Goals as goal

pub returns : goal.returns
returns c =
    let ls = map label_of c.args.labels.now in
    let line = slice_index c.args.lines.now in
    let begins = c.args.begins.now in
    let long = length-map c.args.labels.now label_of in
    let begin = slice_index begins c.args.later in
    let end = slice_index begins (c.args.later + 1) in
    let order : begin ≤ end = c.requires.rising.rises c.args.later c.requires.later in
    let within = c.requires.rising.inside (c.args.later + 1) c.requires.later in
    let rows = c.in_ok-put_all.ensures end (omega arith) (omega arith) (rows-none ls line c.new-rows.result end (c.new-rows.ensures ls line)) in
    c.is_any_early-early.ensures
    ∙ units-early c.args.flags.now ls line c.put_all.new.rows (slice_index begins c.args.unit) (slice_index begins (c.args.unit + 1)) begin end (omega arith) order rows c.requires.pointers
