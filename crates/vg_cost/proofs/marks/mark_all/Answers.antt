use Rattle.std.proofs.Common.{ℕ, List, refl, get_or}
use Rattle.vg_cost.proofs.Marking.{marked_all, marked_none, marked_step}
use Rattle.vg_cost.proofs.marks.mark_all.Goals as goal

pub numbers-init : goal.numbers-init
numbers-init c = marked_none _

pub numbers-preserved : goal.numbers-preserved
numbers-preserved c =
    marked_step (λ (l : List ℕ). l) c.args.numbers.now c.numbers.number-index (get_or c.args.numbers.now c.numbers.number-index 0) 0 _ _ _ (λ ys zs. refl) c.numbers-test.true
    refl c.numbers.invariant c.mark.ensures

pub returns : goal.returns
returns c = marked_all (λ (l : List ℕ). l) c.args.numbers.now c.numbers.number-index _ _ c.numbers-test.false c.numbers.invariant
