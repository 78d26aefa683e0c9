-- One turn of the loop over the pairs of a text, exit by exit, and of that over the pointers.
use Rattle.std.proofs.Common.{◌≡◌, ℕ, zero, suc, ◌+◌, ◌-◌, ◌<◌, ◌≤◌, ◌==◌, Bool, true, false, List, [], ◌∷◌, ◌++◌, length, Ok, Err, refl, sym, ap, ◌∙◌, arith}
use Rattle.std.specs.Prelude.{codes}
use Rattle.vg_program.specs.declared.param.Param.{Param}
use Rattle.vg_program.specs.declared.stop.Stop.{Stop}
use Rattle.vg_program.specs.Tokens.{unfit, begins, signs_at}
use Rattle.vg_looped.specs.Steps.{Pair, steps_of, step_for}
use Rattle.vg_looped.specs.Grammar.{pair_at, pairs_at}

pub pairs_full : (room : ℕ) (ps : List Param) (done : List Pair) (least : ℕ) (text : List ℕ) → room ≡ 0 → pairs_at room ps done least text ≡ Err (unfit text)
unfolding pairs_at
pairs_full room ps done least text r = rw r refl

pub pairs_fault : (room : ℕ) (ps : List Param) (done : List Pair) (least : ℕ) (text : List ℕ) (stop : Stop) → 0 < room → pair_at ps least text ≡ Err stop → pairs_at room ps done least text ≡ Err stop
unfolding pairs_at
pairs_fault zero ps done least text stop h e = absurd (omega (arith, h))
pairs_fault (suc room) ps done least text stop h e = rw e refl

pub pairs_ended : (room : ℕ) (ps : List Param) (done : List Pair) (least : ℕ) (text : List ℕ) (x : Pair) (behind : List ℕ) → 0 < room
    → pair_at ps least text ≡ Ok (x, behind) → begins 44 behind ≡ false → pairs_at room ps done least text ≡ Ok (done ++ x ∷ [], behind)
unfolding pairs_at
pairs_ended zero ps done least text x behind h e c = absurd (omega (arith, h))
pairs_ended (suc room) ps done least text x behind h e c = rw (e, c) refl

pub pairs_comma : (room : ℕ) (ps : List Param) (done : List Pair) (least : ℕ) (text : List ℕ) (x : Pair) (behind : List ℕ) (stop : Stop) → 0 < room
    → pair_at ps least text ≡ Ok (x, behind) → begins 44 behind ≡ true → signs_at (codes ", ") behind ≡ Err stop → pairs_at room ps done least text ≡ Err stop
unfolding pairs_at
pairs_comma zero ps done least text x behind stop h e c s = absurd (omega (arith, h))
pairs_comma (suc room) ps done least text x behind stop h e c s = rw (e, c, s) refl

pub pairs_more : (room next : ℕ) (ps : List Param) (done : List Pair) (least : ℕ) (text : List ℕ) (x : Pair) (behind rest : List ℕ) → room ≡ next + 1
    → pair_at ps least text ≡ Ok (x, behind) → begins 44 behind ≡ true → signs_at (codes ", ") behind ≡ Ok rest
    → pairs_at room ps done least text ≡ pairs_at next ps (done ++ x ∷ []) (x.0 + 1) rest
unfolding pairs_at
pairs_more zero next ps done least text x behind rest r e c s = absurd (omega (arith, r))
pairs_more (suc room) next ps done least text x behind rest r e c s = let same : next ≡ room = omega (arith, r) in rw (e, c, s, same) refl

steps-for : (k n : ℕ) (xs : List Pair) → steps_of k (suc n) xs ≡ (step_for k xs).0 ∷ steps_of (k + 1) n (step_for k xs).1
unfolding steps_of step_for
steps-for k n [] = refl
steps-for k n (x ∷ xs) = by (x.0 == k) refl
  where
    by : (b : Bool) → (x.0 == k) ≡ b → steps_of k (suc n) (x ∷ xs) ≡ (step_for k (x ∷ xs)).0 ∷ steps_of (k + 1) n (step_for k (x ∷ xs)).1
    by true e = rw e refl
    by false e = rw e refl

-- the step of this pointer, and those after it
pub steps-next : (k n : ℕ) (xs : List Pair) → k < n → steps_of k (n - k) xs ≡ (step_for k xs).0 ∷ steps_of (k + 1) (n - (k + 1)) (step_for k xs).1
steps-next k n xs less =
    let split : n - k ≡ suc (n - (k + 1)) = omega (arith, less) in
    ap (λ (m : ℕ). steps_of k m xs) split ∙ steps-for k (n - (k + 1)) xs

steps-zero : (k : ℕ) (xs : List Pair) → steps_of k 0 xs ≡ []
unfolding steps_of
steps-zero k xs = refl

pub steps-over : (k n : ℕ) (xs : List Pair) → n ≤ k → steps_of k (n - k) xs ≡ []
steps-over k n xs less = ap (λ (m : ℕ). steps_of k m xs) (let none : n - k ≡ 0 = omega (arith, less) in none) ∙ steps-zero k xs
