use Rattle.std.proofs.Common.{◌≡◌, ◌+◌, ◌-◌, ◌≤◌, ◌<◌, ◌++◌, ℕ, List, [], ◌∷◌, Ok, sym, ap, ◌∙◌, vec_len, arith}
use Rattle.std.specs.Prelude.{codes}
use Rattle.vg_looped.specs.Steps.{Pair}
use Rattle.vg_looped.specs.Grammar.{pairs_at}
use Rattle.vg_looped.proofs.PairLoop.{pairs_ended, pairs_more}
use Rattle.vg_looped.proofs.reading.pairs_at.Goals as goal

pub returns-then-not-begins : goal.returns-then-not-begins
returns-then-not-begins c =
    let room : 0 < 17 - vec_len c.pairs.pairs = (let few = c.pairs-test.true in omega (arith, few)) in
    sym c.pairs.invariant.same
    ∙ pairs_ended (17 - vec_len c.pairs.pairs) c.args.params.now c.pairs.pairs.items c.pairs.least c.pairs.rest.now
    c.in_ok-pair.pair c.in_ok-pair.behind.now room c.in_ok-pair.ensures (sym c.begins.ensures ∙ c.if-not-begins.true)
    ∙ ap (λ (xs : List Pair). Ok (xs, c.in_ok-pair.behind.now)) (sym c.in_ok-push.ensures.items)

pub pairs-preserved : goal.pairs-preserved
pairs-preserved c =
    let few = c.pairs-test.true in
    let long = c.in_ok-push.ensures.len in
    let next = 17 - vec_len c.push.new.self in
    let room : 17 - vec_len c.pairs.pairs ≡ next + 1 = omega (arith, few, long) in
    record {
      same =
          ap (λ (xs : List Pair). pairs_at next c.args.params.now xs (c.in_ok-pair.pair.0 + 1) c.in_ok-rest.rest.now) c.in_ok-push.ensures.items
          ∙ sym (pairs_more (17 - vec_len c.pairs.pairs) next c.args.params.now c.pairs.pairs.items c.pairs.least c.pairs.rest.now
          c.in_ok-pair.pair c.in_ok-pair.behind.now c.in_ok-rest.rest.now room c.in_ok-pair.ensures (sym c.begins.ensures ∙ c.if-not-begins.false) c.in_ok-rest.ensures)
          ∙ c.pairs.invariant.same;
      few = omega (arith, few, long);
    }
