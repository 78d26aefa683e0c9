use Rattle.std.proofs.Common.{ℕ, List, ◌≡◌, ◌++◌, [], ◌∷◌, arith, ap, length, length-append, map, sym, take, ◌∙◌}
use Rattle.std.specs.Prelude.{slice_index}
use Rattle.std.proofs.lemmas.List.{take_all}
use Rattle.vg_events.specs.Events.{labels}
use Rattle.vg_paired.specs.ByteLabels.{label_of}
use Rattle.vg_paired.proofs.Begins.{begins-turn}
use Rattle.vg_paired.proofs.Counts.{labels-grow}
use Rattle.vg_paired.proofs.spans.spans_of.Goals as goal

pub accesses-init : goal.accesses-init
accesses-init c =
    let one = c.in_ok-push.ensures.items ∙ ap (λ (xs : List ℕ). xs ++ 0 ∷ []) c.new-begins.ensures.items in (
      ap (map label_of) c.new-labels.ensures.items,
      ap length one,
      λ k small. let zero : k ≡ 0 = omega arith in ap (slice_index c.push.new.self.items) zero ∙ ap (λ (xs : List ℕ). slice_index xs 0) one ∙ ap (λ n. length (labels (take n c.args.accesses.now))) (sym zero),
    )

pub accesses-preserved : goal.accesses-preserved
accesses-preserved c =
    let begins = c.accesses.begins.items in
    let n = length c.as_slice-begin.result.now in
    let grown = c.in_ok-push-2.ensures.items in
    let all = labels-grow (map label_of c.accesses.labels.items) (map label_of c.push_any.new.all.items) c.args.accesses.now c.accesses.access-index _ c.accesses-test.true c.accesses.invariant.0 c.in_ok-push_any.ensures in (
      all,
      omega (arith, ap length grown, length-append begins (n ∷ []), c.accesses.invariant.1),
      begins-turn c.args.accesses.now c.accesses.access-index begins c.push-in-accesses.new.self.items n c.push_any.new.all.items c.accesses-test.true c.accesses.invariant.1 c.accesses.invariant.2 all
          (ap length c.as_slice-begin.ensures.value) grown,
    )

pub returns : goal.returns
returns c = record {
  events = c.accesses.invariant.0 ∙ ap labels (take_all c.accesses.access-index c.args.accesses.now c.accesses-test.false);
  units = omega (arith, c.accesses.invariant.1);
  at = λ k small. c.accesses.invariant.2 k (omega arith);
}
