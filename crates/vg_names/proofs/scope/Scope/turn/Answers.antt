use Rattle.std.proofs.Common.{ℕ, List, ◌∙◌}
use Rattle.std.specs.Borrow.{Bor}
use Rattle.std.specs.Str.{bytes_eq}
use Rattle.vg_names.proofs.Places.{position_is_place}
use Rattle.vg_names.proofs.scope.Scope.turn.Goals as goal

pub returns : goal.returns
returns c =
    rw (← c.self.view_is, ← c.as_slice.ensures.value)
    (c.first_turn.ensures ∙ position_is_place {A = Bor (List ℕ)} (λ t. t.now) (λ m. bytes_eq m c.args.name.now) _)
