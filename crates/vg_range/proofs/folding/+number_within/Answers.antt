use Rattle.std.proofs.Common.{◌≡◌, sym, subst, map, rules, to_z, of_z}
use Rattle.std.proofs.lemmas.Int.{to_z-of_z}
use Rattle.std.specs.Int.{w128}
use Rattle.std.specs.Prelude.{FitsSigned, IfSome}
use Rattle.vg_interval.specs.Views.{found_view, kept_view}
use Rattle.vg_names.specs.Views.{expr_of}
use Rattle.vg_range.specs.Folding.{IsKnown, IsNumber, Makes}
use Rattle.vg_range.specs.Seen.{sight_view}
use Rattle.vg_range.proofs.Folded.{counter_is, both_is}
use Rattle.vg_range.proofs.folding.+number_within.Goals as goal

pub returns-in-Counter : goal.returns-in-Counter
returns-in-Counter t c =
    let s = sight_view c.args.context.now in
    let ks = map kept_view c.args.numbers.now in
    let o = c.known_number.result in
    let is = subst (λ f. IfSome o (λ z. IsKnown z f)) c.counter.ensures c.known_number.ensures in
    subst (λ e. IfSome o (IsNumber s ks (expr_of e))) (sym c.in-Counter.is)
    (counter_is s ks c.in-Counter.spot c.in-Counter.turn o is)

pub returns-in_ok-second-in-Binary : goal.returns-in_ok-second-in-Binary
returns-in_ok-second-in-Binary t c =
    let s = sight_view c.args.context.now in
    let ks = map kept_view c.args.numbers.now in
    let y = c.in_ok-first-in-Binary.first in
    let z = c.in_ok-second-in-Binary.second in
    let left = c.in-Binary.left.value in
    let right = c.in-Binary.right.value in
    let first = subst (λ e. IsNumber s ks (expr_of e) y) c.deref-in-Binary.ensures c.in_ok-first-in-Binary.ensures in
    let second = subst (λ e. IsNumber s ks (expr_of e) z) c.deref-in-Binary-2.ensures c.in_ok-second-in-Binary.ensures in
    let o = c.made.result in
    let op = c.in-Binary.op in
    let fits-y : FitsSigned w128 y = search rules in
    let fits-z : FitsSigned w128 z = search rules in
    let made : IfSome o (Makes op (to_z w128 (of_z w128 y)) (to_z w128 (of_z w128 z))) = c.made.ensures in
    let made-y : IfSome o (Makes op y (to_z w128 (of_z w128 z))) =
    subst (λ u. IfSome o (Makes op u (to_z w128 (of_z w128 z)))) (to_z-of_z w128 y fits-y) made in
    let made-both : IfSome o (Makes op y z) =
    subst (λ u. IfSome o (Makes op y u)) (to_z-of_z w128 z fits-z) made-y in
    subst (λ e. IfSome o (IsNumber s ks (expr_of e))) (sym c.in-Binary.is)
    (both_is s ks c.in-Binary.spot op (expr_of left) (expr_of right) y z o first second made-both)
