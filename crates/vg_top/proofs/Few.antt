-- Loops have few pointers.
use Rattle.std.proofs.Common.{◌≡◌, ◌≤◌, ℕ, Bool, List, [], ◌∷◌, length, filter, arith, inl, inr}
use Rattle.std.proofs.lemmas.Bool.{cases_Bool}
use Rattle.vg_kernel.specs.Names.{is_pointer}
use Rattle.vg_kernel.specs.WellFormed.{pointers}
use Rattle.vg_loop_laws.specs.Loops.{Loop}
use Rattle.vg_loops.specs.Formed.{IsLoop}
use Rattle.vg_guarded_loop.specs.declared.guarded_loop.GuardedLoop.{GuardedLoop}
use Rattle.vg_guarded_loop.specs.GuardedLoop.{IsGuardedLoop, fast_loop}
use Rattle.vg_looped.specs.declared.looped.Looped.{Looped}
use Rattle.vg_looped.specs.Looped.{IsLooped}
use Rattle.vg_program.specs.Params as program
use Rattle.vg_pseudo.specs.declared.header.Header.{Header}

-- no more pass a test than there are
filter_few : {X : Type 0} (p : X → Bool) (xs : List X) → length (filter p xs) ≤ length xs
filter_few p [] = omega arith
filter_few p (x ∷ xs) = elim (cases_Bool (p x)) [ inl e ↦ rw e (omega (arith, filter_few p xs)) | inr e ↦ rw e (omega (arith, filter_few p xs)) ]

-- each pointer has a step, and there are at most 16 parameters
pub loop_few : (l : Loop) (n : ℕ) → IsLoop l → n ≡ length l.steps → n ≤ 16
loop_few l n is e =
    let few = is.kernel.params in
    let steps = is.steps in
    let fewer : length (pointers l.kernel.params) ≤ length l.kernel.params = filter_few (λ p. is_pointer p.kind) l.kernel.params in
    omega (arith, e, few, steps, fewer)

pub looped_few : (headers : List Header) (l : Looped) (n : ℕ) → IsLooped headers l → n ≡ length l.steps → n ≤ 16
looped_few headers l n is e =
    let few = is.block.params.few in
    let steps = is.steps in
    let fewer : length (program.pointers l.block.params) ≤ length l.block.params = filter_few (λ p. program.is_pointer_kind p.kind) l.block.params in
    omega (arith, e, few, steps, fewer)

pub guarded_loop_few : (headers : List Header) (l : GuardedLoop) (n : ℕ) → IsGuardedLoop headers l → n ≡ length l.steps → n ≤ 16
guarded_loop_few headers l n is e = looped_few headers (fast_loop l) n is.looped e
