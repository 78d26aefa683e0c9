-- Statements and parameters, one step of reading them.
use Rattle.std.proofs.Common.{◌≡◌, ℕ, suc, ◌-◌, ◌<◌, true, false, List, [], ◌∷◌, ◌++◌, Result, Ok, refl, sym, ◌∙◌, subst, arith}
use Rattle.std.specs.Prelude.{codes, if◌then◌else◌}
use Rattle.std.specs.Str.{bytes_eq}
use Rattle.vg_base.specs.Bind.{◌>>=◌}
use Rattle.vg_text.specs.declared.place.Place.{Place}
use Rattle.vg_text.specs.Words.{Reading, Spelled}
use Rattle.vg_kernel.specs.declared.fault.KernelFault.{KernelFault}
use Rattle.vg_kernel.specs.Gives.{Fails}
use Rattle.vg_kernel.specs.Names.{Names}
use Rattle.vg_kernel.specs.Expressions.{Scan}
use Rattle.vg_kernel.specs.Reader.{next_at}
use Rattle.vg_kernel.specs.Statements.{Step, statement_at, closing_at, statements_at}
use Rattle.vg_kernel.specs.Tree.{Statement}
use Rattle.vg_kernel.proofs.Failing.{fails-bind}

abbrev Statements : Type 0
Statements = Result ((List Statement × Place) × Reading) KernelFault

-- what stands in the place of a statement
abbrev one : ℕ → Names → List Statement → Scan → Spelled × Reading → Statements
one room names done s word = if bytes_eq word.0.bytes (codes "}") then Ok ((done, word.0.place), word.1)
    else (statement_at names word.0 word.1 s.used >>= λ x. statements_at room x.names (done ++ x.statement ∷ []) x.scan)

at_some : (n : ℕ) → 0 < n → suc (n - 1) ≡ n
at_some n h = omega arith

some-statements : (room : ℕ) (names : Names) (done : List Statement) (s : Scan) → 0 < room → (next_at s.reading >>= one (room - 1) names done s) ≡ statements_at room names done s
unfolding statements_at
some-statements room names done s h = subst (λ (n : ℕ). (next_at s.reading >>= one (room - 1) names done s) ≡ statements_at n names done s) (at_some room h) same
  where
    same : (next_at s.reading >>= one (room - 1) names done s) ≡ statements_at (suc (room - 1)) names done s
    same = refl

pub word-fails : (room : ℕ) (names : Names) (done : List Statement) (s : Scan) (fault : KernelFault) → 0 < room → Fails fault (next_at s.reading) → Fails fault (statements_at room names done s)
word-fails room names done s fault h e = subst (Fails fault) (some-statements room names done s h) (fails-bind fault (next_at s.reading) (one (room - 1) names done s) e)

pub statements-end : (room : ℕ) (names : Names) (done : List Statement) (s : Scan) (w : Spelled × Reading) → 0 < room → next_at s.reading ≡ Ok w → bytes_eq w.0.bytes (codes "}") ≡ true → statements_at room names done s ≡ Ok ((done, w.0.place), w.1)
statements-end room names done s w h e t = sym (some-statements room names done s h) ∙ rw (e, t) refl

pub statement-fails : (room : ℕ) (names : Names) (done : List Statement) (s : Scan) (w : Spelled × Reading) (fault : KernelFault) → 0 < room → next_at s.reading ≡ Ok w → bytes_eq w.0.bytes (codes "}") ≡ false
    → Fails fault (statement_at names w.0 w.1 s.used) → Fails fault (statements_at room names done s)
statement-fails room names done s w fault h e t f = subst (Fails fault) (sym reached ∙ some-statements room names done s h) (fails-bind fault (statement_at names w.0 w.1 s.used) _ f)
  where
    reached : (next_at s.reading >>= one (room - 1) names done s) ≡ (statement_at names w.0 w.1 s.used >>= λ x. statements_at (room - 1) x.names (done ++ x.statement ∷ []) x.scan)
    reached = rw (e, t) refl

pub statements-more : (room : ℕ) (names : Names) (done : List Statement) (s : Scan) (w : Spelled × Reading) (x : Step) → 0 < room → next_at s.reading ≡ Ok w → bytes_eq w.0.bytes (codes "}") ≡ false
    → statement_at names w.0 w.1 s.used ≡ Ok x → statements_at room names done s ≡ statements_at (room - 1) x.names (done ++ x.statement ∷ []) x.scan
statements-more room names done s w x h e t f = sym (some-statements room names done s h) ∙ rw (e, t, f) refl

pub statements-full : (names : Names) (done : List Statement) (s : Scan) (r : Place × Reading) → closing_at s.reading ≡ Ok r → statements_at 0 names done s ≡ Ok ((done, r.0), r.1)
unfolding statements_at
statements-full names done s r e = rw e refl

pub full-fails : (names : Names) (done : List Statement) (s : Scan) (fault : KernelFault) → Fails fault (closing_at s.reading) → Fails fault (statements_at 0 names done s)
unfolding statements_at
full-fails names done s fault e = fails-bind fault (closing_at s.reading) (λ closed. Ok ((done, closed.0), closed.1)) e
