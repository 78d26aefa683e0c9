-- One statement, one group and one byte more, and what none of them comes to.
use Rattle.std.proofs.Common.{◌≡◌, ℕ, suc, ◌+◌, ◌*◌, ◌%◌, List, [], ◌∷◌, ◌++◌, refl, arith}
use Rattle.std.proofs.lemmas.List.{append_assoc}
use Rattle.vg_trial.specs.declared.shape.Shape.{Shape}
use Rattle.vg_trial.specs.Trial.{statement, statements, line_text, group, groups_text, bytes_to}

-- a text with something appended to what was appended before
pub grown : (old so_far now more next text : List ℕ) → now ≡ so_far ++ more → so_far ≡ old ++ text → next ≡ text ++ more → now ≡ old ++ next
grown old so_far now more next text a b c = rw (a, b, c) (append_assoc old text more)

pub no_statements : (s : Shape) (k : ℕ) → statements s k 0 ≡ []
unfolding statements
no_statements s k = refl

pub more_statements : (s : Shape) (k i : ℕ) → statements s k (i + 1) ≡ statements s k i ++ line_text (statement s k i)
unfolding statements
more_statements s k i = let up : i + 1 ≡ suc i = omega arith in rw up refl

pub no_groups : (n : ℕ) → groups_text n 0 ≡ []
unfolding groups_text
no_groups n = refl

pub more_groups : (n k : ℕ) → groups_text n (k + 1) ≡ groups_text n k ++ group n k
unfolding groups_text
more_groups n k = let up : k + 1 ≡ suc k = omega arith in rw up refl

pub no_bytes : (n : ℕ) → bytes_to n 0 ≡ []
unfolding bytes_to
no_bytes n = refl

pub more_bytes : (n x : ℕ) → bytes_to n (x + 1) ≡ bytes_to n x ++ (7 * x + n) % 256 ∷ []
unfolding bytes_to
more_bytes n x = let up : x + 1 ≡ suc x = omega arith in rw up refl
