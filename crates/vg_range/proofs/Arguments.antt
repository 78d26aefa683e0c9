-- Arguments that are judged one after the other.
use Rattle.std.proofs.Common.{◌≡◌, List, [], ◌∷◌, ◌++◌, Result, Ok, Err, refl, sym, ◌∙◌, ap, append_assoc}
use Rattle.std.specs.Prelude.{Option}
use Rattle.std.proofs.lemmas.List.{append-nil}
use Rattle.vg_base.specs.Bind.{◌>>=◌}
use Rattle.vg_base.specs.Gives.{FailsBy}
use Rattle.vg_base.proofs.Gives.{fails_bind}
use Rattle.vg_pseudo.specs.declared.spot.Spot.{Spot}
use Rattle.vg_pseudo.specs.Resolved.{Expr, Arguments, end, more}
use Rattle.vg_interval.specs.declared.fault.RangeFault.{RangeFault}
use Rattle.vg_interval.specs.Found.{Found, Passed, passed}
use Rattle.vg_interval.specs.Judge.{Sight, KnownNumber, Count, judge, judge_all, spot_of}
use Rattle.vg_range.specs.Seen.{argument_of, behind_passed}

abbrev rest_passed : Sight → List KnownNumber → Arguments → Passed × Count → Result (List Passed × Count) RangeFault
rest_passed s ks xs p = judge_all s ks xs p.1 >>= λ rest. Ok (p.0 ∷ rest.0, rest.1)

by_passed : (s : Sight) (ks : List KnownNumber) (xs : Arguments) (q : Result Passed RangeFault) (c : Count)
    → (q >>= λ first. judge_all s ks xs c >>= λ rest. Ok (first ∷ rest.0, rest.1))
    ≡ ((q >>= λ p. Ok (p, c)) >>= rest_passed s ks xs)
by_passed s ks xs (Ok p) c = refl
by_passed s ks xs (Err e) c = refl

by_found : (s : Sight) (ks : List KnownNumber) (xs : Arguments) (u : Spot) (r : Result (Found × Count) RangeFault)
    → (r >>= λ f. passed u f.0 >>= λ first. judge_all s ks xs f.1 >>= λ rest. Ok (first ∷ rest.0, rest.1))
    ≡ ((r >>= λ f. passed u f.0 >>= λ p. Ok (p, f.1)) >>= rest_passed s ks xs)
by_found s ks xs u (Ok f) = by_passed s ks xs (passed u f.0) f.1
by_found s ks xs u (Err e) = refl

all_is : (s : Sight) (ks : List KnownNumber) (x : Expr) (xs : Arguments) (c : Count)
    → judge_all s ks (more x xs) c ≡ (argument_of s ks x c >>= rest_passed s ks xs)
all_is s ks x xs c = by_found s ks xs (spot_of x) (judge s ks x c)

last_passed : (done : List Passed) (p : Passed) (r : Result (List Passed × Count) RangeFault)
    → behind_passed (done ++ p ∷ []) r ≡ behind_passed done (r >>= λ rest. Ok (p ∷ rest.0, rest.1))
last_passed done p (Ok g) = ap (λ l. Ok (l, g.1)) (append_assoc done (p ∷ []) g.0)
last_passed done p (Err e) = refl

pub passed_none : (r : Result (List Passed × Count) RangeFault) → behind_passed [] r ≡ r
passed_none (Ok g) = refl
passed_none (Err e) = refl

-- one argument more is judged
pub passed_next : (s : Sight) (ks : List KnownNumber) (x : Expr) (xs : Arguments) (c d : Count) (done : List Passed) (p : Passed)
    → argument_of s ks x c ≡ Ok (p, d)
    → behind_passed (done ++ p ∷ []) (judge_all s ks xs d) ≡ behind_passed done (judge_all s ks (more x xs) c)
passed_next s ks x xs c d done p e =
    last_passed done p (judge_all s ks xs d)
    ∙ sym (ap (behind_passed done) (all_is s ks x xs c ∙ ap (λ r. r >>= rest_passed s ks xs) e))

-- none is left
pub passed_done : (s : Sight) (ks : List KnownNumber) (c : Count) (done : List Passed) (r : Result (List Passed × Count) RangeFault)
    → behind_passed done (judge_all s ks end c) ≡ r → r ≡ Ok (done, c)
passed_done s ks c done r e = sym e ∙ ap (λ l. Ok (l, c)) (append-nil done)

-- an argument has a fault
pub passed_fails : (s : Sight) (ks : List KnownNumber) (x : Expr) (xs : Arguments) (c : Count) (done : List Passed) (fault : Option RangeFault)
    (r : Result (List Passed × Count) RangeFault)
    → behind_passed done (judge_all s ks (more x xs) c) ≡ r
    → FailsBy fault (argument_of s ks x c) → FailsBy fault r
passed_fails s ks x xs c done fault r e h =
    rw (sym e) (fails_bind fault (judge_all s ks (more x xs) c) _
    (rw (all_is s ks x xs c) (fails_bind fault (argument_of s ks x c) (rest_passed s ks xs) h)))
