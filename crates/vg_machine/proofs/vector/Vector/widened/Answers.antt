use Rattle.std.proofs.Common.{◌≤◌, ap, sym, subst, ◌∙◌, length, take, List, ℕ}
use Rattle.vg_base.specs.Bits.{bits_of_bytes}
use Rattle.vg_machine.proofs.Registers.{filled, filled_long}
use Rattle.vg_machine.proofs.vector.Vector.widened.Goals as goal

pub returns : goal.returns
returns c = ap (λ (l : List ℕ). bits_of_bytes (take c.args.size l)) c.put_front.ensures ∙ filled c.args.from.now c.args.size c.requires.front c.requires.most

pub invariant_of-result : goal.invariant_of-result
invariant_of-result c = (c.requires.most, subst (λ (l : List ℕ). c.args.size ≤ length l) (sym c.put_front.ensures) (filled_long c.args.from.now c.args.size c.requires.front c.requires.most))
