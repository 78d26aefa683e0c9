-- A choice is taken by what its condition says.
use Rattle.std.proofs.Common.{◌≡◌, List, refl, Result, Ok, Err}
use Rattle.vg_base.specs.Bind.{◌>>=◌}
use Rattle.vg_pseudo.specs.declared.spot.Spot.{Spot}
use Rattle.vg_pseudo.specs.Resolved.{Expr, choice}
use Rattle.vg_interval.specs.declared.fault.RangeFault.{RangeFault}
use Rattle.vg_interval.specs.Found.{Found, Operand, fixed, moving, operand}
use Rattle.vg_interval.specs.Judge.{Sight, KnownNumber, Count, Judges, chosen, judge, spot_of}
use Rattle.vg_interval.specs.Views.{condition_of}
use Rattle.vg_range.specs.Seen.{chosen_by, tested_at}

by_operand : (o : Result Operand RangeFault) (f : Found) (c : Count) (s : Spot) (first : Judges) (t : Spot) (second : Judges)
    → chosen_by ((o >>= λ a. Ok (condition_of f a)) >>= λ d. Ok (d, c)) s first t second
    ≡ (o >>= λ a. chosen s first t second f a c)
by_operand (Err e) f c s first t second = refl
by_operand (Ok (fixed z)) f c s first t second = refl
by_operand (Ok (moving i w)) f c s first t second = refl

choice_by_condition : (j : Result (Found × Count) RangeFault) (u : Spot) (s : Spot) (first : Judges) (t : Spot) (second : Judges)
    → chosen_by (tested_at u j) s first t second
    ≡ (j >>= λ f. operand u f.0 >>= λ a. chosen s first t second f.0 a f.1)
choice_by_condition (Err e) u s first t second = refl
choice_by_condition (Ok f) u s first t second = by_operand (operand u f.0) f.0 f.1 s first t second

-- a choice as it is judged
pub choice_at : (s : Sight) (ks : List KnownNumber) (c : Count) (p : Spot) (x y z : Expr)
    → chosen_by (tested_at (spot_of x) (judge s ks x c)) (spot_of y) (judge s ks y) (spot_of z) (judge s ks z)
    ≡ judge s ks (choice p x y z) c
choice_at s ks c p x y z = choice_by_condition (judge s ks x c) (spot_of x) (spot_of y) (judge s ks y) (spot_of z) (judge s ks z)
