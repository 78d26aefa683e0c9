use Rattle.std.proofs.Common.{ℕ, List, ◌≡◌, ◌-◌, length, arith, ap, refl, subst, sym, ◌∙◌}
use Rattle.vg_paired.specs.Sweeps.{AreLinesFrom, SetsAll}
use Rattle.vg_paired.proofs.Lining.{lines-begin, lines-done, lines-long, lines-turn, written}
use Rattle.vg_paired.proofs.line_numbers.line_numbers.Goals as goal

pub lines-init : goal.lines-init
lines-init c =
    let all = c.in_ok-numbers.ensures.items_if_clones_equal (λ y e. e) in
    let long = lines-long c.in_ok-numbers.numbers.items c.args.count (length c.args.lines.now) all in (
      omega arith,
      lines-begin c.args.lines.now c.in_ok-numbers.numbers.items c.args.count (length c.args.lines.now) refl all long,
      long,
    )

pub lines-preserved : goal.lines-preserved
lines-preserved c =
    let old = c.lines.numbers.items in
    let new = c.set_all.new.numbers in
    let value = c.deref_mut.ensures.value in
    let long : length new ≡ length old = omega (arith, c.set_all.auto.numbers, ap length value) in
    let back = written c.lines.numbers.len old new long (omega (arith, ap length value, c.deref_mut.ensures.len)) in
    let sets = subst (λ (xs : List ℕ). SetsAll xs new c.as_slice-events.result.now (c.lines.left - 1)) value c.set_all.ensures in
    let all = subst (λ (es : List ℕ). SetsAll old new es (c.lines.left - 1)) (c.as_slice-events.ensures ∙ c.index-lines-left.is) sets in (
      omega arith,
      subst (AreLinesFrom c.args.lines.now (c.lines.left - 1)) (sym back) (lines-turn c.args.lines.now (c.lines.left - 1) c.lines.left _ old new (omega arith) (omega arith) long c.lines.invariant.1 all),
      ap length back ∙ long ∙ c.lines.invariant.2,
    )

pub returns-clause-lines : goal.returns-clause-lines
returns-clause-lines c = lines-done c.args.lines.now c.lines.left c.lines.numbers.items c.lines-test.false c.lines.invariant.1

pub returns-clause-all : goal.returns-clause-all
returns-clause-all c = c.lines.invariant.2
