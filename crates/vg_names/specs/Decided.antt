-- What is shown of signs in finitely many steps is shown in as many as there are assignments.
use Rattle.std.specs.Prelude.{ℕ, List, length, IsTrue, ◌↔◌}
use Rattle.vg_pseudo.specs.Names.{Assignment, Register}
use Rattle.vg_pseudo.specs.Signs.{IsSigned, signed_in}

abbrev pub SignsAreDecided : Type 0
SignsAreDecided =
    (given : List Register) (as' : List Assignment) (n : List ℕ) →
    IsTrue (signed_in given as' (length as') n) ↔ IsSigned given as' n
