use Rattle.std.proofs.Common.{◌<◌, ◌≤◌, length, arith, ◌∙◌, sym}
use Rattle.vg_text.proofs.Places.{place_after-step, place_after-end}
use Rattle.vg_text.proofs.place.place_after.Goals as goal

pub bytes-preserved : goal.bytes-preserved
bytes-preserved c =
    let here : c.bytes.byte-index < length c.args.bytes.now = omega arith in
    let next = c.place_behind-here.ensures in
    record {
      whole = rw next.place (sym (place_after-step c.bytes.here c.args.bytes.now c.bytes.byte-index here) ∙ c.bytes.invariant.whole);
      line = omega (arith, next.next_line, c.bytes.invariant.line);
      column = omega (arith, next.next_column, c.bytes.invariant.column);
    }

pub returns-clause-place : goal.returns-clause-place
returns-clause-place c =
    let past : length c.args.bytes.now ≤ c.bytes.byte-index = omega arith in
    sym (place_after-end c.bytes.here c.args.bytes.now c.bytes.byte-index past) ∙ c.bytes.invariant.whole
