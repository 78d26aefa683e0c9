-- Statements are walked one after the other.
use Rattle.std.proofs.Common.{◌≡◌, Option, Some, None, Result, Ok, Err, refl, sym, ◌∙◌, ap}
use Rattle.std.specs.Option.{option_map_or}
use Rattle.vg_base.specs.Bind.{◌>>=◌}
use Rattle.vg_base.specs.Gives.{FailsBy}
use Rattle.vg_base.proofs.Gives.{fails_bind}
use Rattle.vg_pseudo.specs.Resolved.{Code, stop, assign, skip, repeat, choose, way, last, pick, arm}
use Rattle.vg_pseudo.specs.Value.{count}
use Rattle.vg_interval.specs.declared.fault.RangeFault.{RangeFault}
use Rattle.vg_interval.specs.Found.{operand}
use Rattle.vg_interval.specs.Judge.{step, spot_of}
use Rattle.vg_range.specs.Walk.{WalkContext, WalkState, at_count, walk, constant_at, turns_at, in_turn, judged, arms_of, arm_taken, all_arms}
use Rattle.vg_range.specs.Seen.{first_of, rest_code}

pub again : {A B C : Type 0} (r : Result A RangeFault) (f : A → Result B RangeFault) (g : B → Result C RangeFault)
    → ((r >>= f) >>= g) ≡ (r >>= λ x. f x >>= g)
again (Ok x) f g = refl
again (Err e) f g = refl

pub alike : {A B : Type 0} (r : Result A RangeFault) (f g : A → Result B RangeFault) → ((x : A) → f x ≡ g x) → (r >>= f) ≡ (r >>= g)
alike (Ok x) f g h = h x
alike (Err e) f g h = refl

-- the first statement, and then those after it
abbrev pub stepped : WalkContext → Code → WalkState → Result WalkState RangeFault
stepped x c w = option_map_or (λ r. first_of x c w >>= λ v. walk x r v) (rest_code c) (Ok w)

walk_is : (x : WalkContext) (c : Code) (w : WalkState) → stepped x c w ≡ walk x c w
walk_is x stop w = refl
walk_is x (assign place t e rest) w = refl
walk_is x (skip place rest) w = again (step place w.count) _ (walk x rest)
walk_is x (repeat place a b body rest) w =
    again (constant_at x w a) _ (walk x rest)
    ∙ alike (constant_at x w a) _ _ (λ first. again (constant_at x first.1 b) (λ final. turns_at (λ z u. walk (in_turn x z) body u) place first.0 (count first.0 final.0) final.1) (walk x rest))
walk_is x (choose ways rest) w = refl
walk_is x (pick e arms rest) w =
    again (judged x w e) _ (walk x rest)
    ∙ alike (judged x w e) _ _ (λ f. again (operand (spot_of e) f.0) (λ a. arms_of x (at_count w f.1) a (arm_taken x arms) (all_arms x arms)) (walk x rest))
walk_is x (way c body ways) w = refl
walk_is x (last body) w = refl
walk_is x (arm n body arms) w = refl

-- where there is no statement
pub walk_ends : (x : WalkContext) (c : Code) (w : WalkState) → rest_code c ≡ None → walk x c w ≡ Ok w
walk_ends x c w e = sym (walk_is x c w) ∙ ap (λ o. option_map_or (λ r. first_of x c w >>= λ v. walk x r v) o (Ok w)) e

-- after the first statement
pub walk_next : (x : WalkContext) (c r : Code) (w v : WalkState) → rest_code c ≡ Some r → first_of x c w ≡ Ok v → walk x r v ≡ walk x c w
walk_next x c r w v e h =
    sym (ap (λ o. o >>= λ u. walk x r u) h)
    ∙ sym (ap (λ o. option_map_or (λ q. first_of x c w >>= λ u. walk x q u) o (Ok w)) e)
    ∙ walk_is x c w

-- the first statement has a fault
pub walk_fails : (x : WalkContext) (c r : Code) (w : WalkState) (fault : Option RangeFault) → rest_code c ≡ Some r
    → FailsBy fault (first_of x c w) → FailsBy fault (walk x c w)
walk_fails x c r w fault e h =
    rw (sym (walk_is x c w), e) (fails_bind fault (first_of x c w) (walk x r) h)
