use Rattle.std.proofs.Common.{◌≡◌, ◌++◌, ◌+◌, ◌-◌, ◌≤◌, ◌<◌, ℕ, List, [], ◌∷◌, sym, ap, ◌∙◌, arith, append_assoc, append-nil}
use Rattle.vg_looped.specs.Steps.{Pair, steps_of, step_for}
use Rattle.vg_looped.proofs.PairLoop.{steps-next, steps-over}
use Rattle.vg_looped.proofs.steps.steps_of.Goals as goal

pub pointers-preserved : goal.pointers-preserved
pointers-preserved c =
    let less = c.pointers-test.true in
    let k = c.pointers.pointer in
    let next = k + 1 in
    record {
      room = omega (arith, less);
      same =
          ap (λ (xs : List ℕ). xs ++ steps_of next (c.args.count - next) c.step_for-step.result.1.now) c.in_ok-push.ensures.items
          ∙ append_assoc c.pointers.steps.items (c.step_for-step.result.0 ∷ []) (steps_of next (c.args.count - next) c.step_for-step.result.1.now)
          ∙ (λ i. c.pointers.steps.items ++ c.step_for-step.ensures.step i ∷ steps_of next (c.args.count - next) (c.step_for-step.ensures.left i))
          ∙ ap (λ (xs : List ℕ). c.pointers.steps.items ++ xs) (sym (steps-next k c.args.count c.pointers.rest.now less))
          ∙ c.pointers.invariant.same;
    }

pub returns : goal.returns
returns c =
    sym (append-nil c.pointers.steps.items)
    ∙ ap (λ (xs : List ℕ). c.pointers.steps.items ++ xs)
    (sym (steps-over c.pointers.pointer c.args.count c.pointers.rest.now (let over = c.pointers-test.false in omega (arith, over))))
    ∙ c.pointers.invariant.same
