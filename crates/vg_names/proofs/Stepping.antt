-- Statements are resolved one after the other.
use Rattle.std.proofs.Common.{◌≡◌, List, [], ◌∷◌, ◌++◌, map, Option, Some, None, Result, Ok, Err, refl, sym, ◌∙◌, ap}
use Rattle.vg_base.specs.Bind.{◌>>=◌}
use Rattle.vg_base.specs.Gives.{FailsBy}
use Rattle.vg_base.proofs.Gives.{fails_bind}
use Rattle.vg_pseudo.specs.Names.{Scope, named}
use Rattle.vg_pseudo.specs.Tree.{Statements}
use Rattle.vg_pseudo.specs.Tree as tree
use Rattle.vg_pseudo.specs.Resolve.{NameFault, resolved, target_of, assigned_register, code_of, inside}
use Rattle.vg_pseudo.specs.Resolved.{Code, stop, assign, skip, repeat, choose, way, pick, arm}
use Rattle.vg_names.specs.Pieces.{code_behind, code_done, before_rest, next_of}

-- what is left, resolved after the statement
abbrev pub rest_of : Scope → Option ((Code → Code) × Statements) → Result Code NameFault
rest_of s None = Ok stop
rest_of s (Some p) = code_of s p.1 >>= λ c. Ok (p.0 c)

one : {A : Type 0} (s : Scope) (rest : Statements) (r : Result A NameFault) (g : A → Code → Code)
    → (r >>= λ x. code_of s rest >>= λ c. Ok (g x c)) ≡ (before_rest (r >>= λ x. Ok (g x)) rest >>= rest_of s)
one s rest (Ok x) g = refl
one s rest (Err e) g = refl

two : {A B : Type 0} (s : Scope) (rest : Statements) (r : Result A NameFault) (q : Result B NameFault) (g : A → B → Code → Code)
    → (r >>= λ x. q >>= λ y. code_of s rest >>= λ c. Ok (g x y c)) ≡ (before_rest (r >>= λ x. q >>= λ y. Ok (g x y)) rest >>= rest_of s)
two s rest (Ok x) (Ok y) g = refl
two s rest (Ok x) (Err e) g = refl
two s rest (Err e) q g = refl

three : {A B C : Type 0} (s : Scope) (rest : Statements) (r : Result A NameFault) (q : Result B NameFault) (p : Result C NameFault) (g : A → B → C → Code → Code)
    → (r >>= λ x. q >>= λ y. p >>= λ z. code_of s rest >>= λ c. Ok (g x y z c))
    ≡ (before_rest (r >>= λ x. q >>= λ y. p >>= λ z. Ok (g x y z)) rest >>= rest_of s)
three s rest (Ok x) (Ok y) (Ok z) g = refl
three s rest (Ok x) (Ok y) (Err e) g = refl
three s rest (Ok x) (Err e) p g = refl
three s rest (Err e) q p g = refl

pub code_is : (s : Scope) (x : Statements) → code_of s x ≡ (next_of s x >>= rest_of s)
code_is s tree.stop = refl
code_is s (tree.assign at t e rest) = two s rest (target_of s at t) (resolved s e) (λ x y. assign at x y)
code_is s (tree.above at n l e rest) =
    three s rest (assigned_register at (named s n)) (resolved s l) (resolved s e) (λ x y z. skip at)
code_is s (tree.repeat at n a b body rest) =
    three s rest (resolved s a) (resolved s b) (code_of (inside s n) body) (λ x y z. repeat at x y z)
code_is s (tree.choose ways rest) = one s rest (code_of s ways) choose
code_is s (tree.way c body ways) = two s ways (resolved s c) (code_of s body) (λ x y. way x y)
code_is s (tree.last body) = refl
code_is s (tree.pick e arms rest) = two s rest (resolved s e) (code_of s arms) (λ x y. pick x y)
code_is s (tree.arm n body arms) = one s arms (code_of s body) (arm n)

module _ {A : Type 0} (f : A → Code → Code) where
  -- the last of those that are done stands before what is after
  pub behind_last : (done : List A) (x : A) (c : Code)
      → code_behind (map f (done ++ x ∷ [])) c ≡ code_behind (map f done) (f x c)
  behind_last [] x c = refl
  behind_last (d ∷ done) x c = ap (f d) (behind_last done x c)

  done_last : (done : List A) (x : A) (r : Result Code NameFault)
      → code_done (map f (done ++ x ∷ [])) r ≡ code_done (map f done) (r >>= λ c. Ok (f x c))
  done_last done x (Ok c) = ap Ok (behind_last done x c)
  done_last done x (Err e) = refl

  -- one statement more is done
  pub done_next : (s : Scope) (x rest : Statements) (done : List A) (first : A)
      → next_of s x ≡ Ok (Some (f first, rest))
      → code_done (map f (done ++ first ∷ [])) (code_of s rest) ≡ code_done (map f done) (code_of s x)
  done_next s x rest done first e =
      done_last done first (code_of s rest) ∙ sym (ap (code_done (map f done)) (code_is s x ∙ ap (λ r. r >>= rest_of s) e))

-- nothing is left
pub done_all : (s : Scope) (x : Statements) (fs : List (Code → Code)) → next_of s x ≡ Ok None
    → code_done fs (code_of s x) ≡ Ok (code_behind fs stop)
done_all s x fs e = ap (code_done fs) (code_is s x ∙ ap (λ r. r >>= rest_of s) e)

-- a statement that cannot be resolved
pub done_fails : (s : Scope) (x : Statements) (fs : List (Code → Code)) (fault : Option NameFault) → FailsBy fault (next_of s x)
    → FailsBy fault (code_done fs (code_of s x))
done_fails s x fs fault e = fails_bind fault (code_of s x) _ (rw (code_is s x) (fails_bind fault (next_of s x) (rest_of s) e))
