-- Arguments that are collected one after the other.
use Rattle.std.proofs.Common.{◌≡◌, List, [], ◌∷◌, ◌++◌, map, Option, Some, None, Result, Ok, Err, refl, sym, ◌∙◌, ap}
use Rattle.vg_base.specs.Bind.{◌>>=◌}
use Rattle.vg_base.specs.Gives.{FailsBy}
use Rattle.vg_base.proofs.Gives.{fails_bind}
use Rattle.vg_pseudo.specs.Names.{Scope}
use Rattle.vg_pseudo.specs.Tree as tree
use Rattle.vg_pseudo.specs.Resolve.{NameFault, resolved, all_resolved}
use Rattle.vg_pseudo.specs.Resolved.{Expr, Arguments, end, more}
use Rattle.vg_names.specs.Naming.{list_behind, all_behind, next_argument_of}

-- what is left, resolved after the argument
abbrev pub rest_of : Scope → Option (Expr × tree.Arguments) → Result Arguments NameFault
rest_of s None = Ok end
rest_of s (Some p) = all_resolved s p.1 >>= λ xs. Ok (more p.0 xs)

all_is_by : (s : Scope) (xs : tree.Arguments) (r : Result Expr NameFault)
    → (r >>= λ first. all_resolved s xs >>= λ rest. Ok (more first rest)) ≡ ((r >>= λ first. Ok (Some (first, xs))) >>= rest_of s)
all_is_by s xs (Ok x) = refl
all_is_by s xs (Err e) = refl

pub all_is : (s : Scope) (xs : tree.Arguments)
    → all_resolved s xs ≡ (next_argument_of s xs >>= rest_of s)
all_is s tree.end = refl
all_is s (tree.more x xs) = all_is_by s xs (resolved s x)

module _ {A : Type 0} (f : A → Expr) where
  -- the last of those that are done stands before what is after
  pub list_last : (done : List A) (x : A) (xs : Arguments)
      → list_behind (map f (done ++ x ∷ [])) xs ≡ list_behind (map f done) (more (f x) xs)
  list_last [] x xs = refl
  list_last (d ∷ done) x xs = ap (more (f d)) (list_last done x xs)

  all_last : (done : List A) (x : A) (r : Result Arguments NameFault)
      → all_behind (map f (done ++ x ∷ [])) r ≡ all_behind (map f done) (r >>= λ xs. Ok (more (f x) xs))
  all_last done x (Ok xs) = ap Ok (list_last done x xs)
  all_last done x (Err e) = refl

  -- one argument more is done
  pub all_next : (s : Scope) (xs rest : tree.Arguments) (done : List A) (first : A)
      → next_argument_of s xs ≡ Ok (Some (f first, rest))
      → all_behind (map f (done ++ first ∷ [])) (all_resolved s rest) ≡ all_behind (map f done) (all_resolved s xs)
  all_next s xs rest done first e =
      all_last done first (all_resolved s rest) ∙ sym (ap (all_behind (map f done)) (all_is s xs ∙ ap (λ r. r >>= rest_of s) e))

-- nothing is left
pub all_done : (s : Scope) (xs : tree.Arguments) (done : List Expr)
    → next_argument_of s xs ≡ Ok None
    → all_behind done (all_resolved s xs) ≡ Ok (list_behind done end)
all_done s xs done e = ap (all_behind done) (all_is s xs ∙ ap (λ r. r >>= rest_of s) e)

-- an argument that cannot be resolved
pub all_fails : (s : Scope) (xs : tree.Arguments) (done : List Expr) (fault : Option NameFault)
    → FailsBy fault (next_argument_of s xs)
    → FailsBy fault (all_behind done (all_resolved s xs))
all_fails s xs done fault e = fails_bind fault (all_resolved s xs) _ (rw (all_is s xs) (fails_bind fault (next_argument_of s xs) (rest_of s) e))
