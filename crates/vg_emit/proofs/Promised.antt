-- What is emitted keeps what its definition promises.
use Rattle.std.proofs.Common.{◌≡◌, ◌<◌, ◌^◌, IfOk, Result, Ok, Err, sym, subst}
use Rattle.vg_program.specs.Cost.{cost_of}
use Rattle.vg_program.specs.declared.program.Program.{Program}

-- what the wanted program keeps is kept by each that is it
pub kept : {E : Type 0} (r : Result Program E) (q : Program) (P : Program → Type 0) → IfOk r (λ p. p ≡ q) → P q → IfOk r P
kept (Ok p) q P e h = subst P (sym e) h
kept (Err f) q P e h = tt

-- and where its cost is small, what it keeps then
pub kept-small : {E : Type 0} (r : Result Program E) (q : Program) (P : Program → Type 0) → IfOk r (λ p. p ≡ q) → IfOk r (λ p. cost_of p < 2 ^ 32) → (cost_of q < 2 ^ 32 → P q) → IfOk r P
kept-small (Ok p) q P e small h = subst P (sym e) (h (subst (λ x. cost_of x < 2 ^ 32) e small))
kept-small (Err f) q P e small h = tt
