-- The arms of a CASE, one after the other.
use Rattle.std.proofs.Common.{◌≡◌, ℕ, refl, sym, ◌∙◌, ap, Result, Ok, Option, Some, None, List, [], ◌∷◌, ◌++◌, map}
use Rattle.std.specs.Prelude.{Bool, true, false, ◌&&◌, ℤ, pos, reverse, if◌then◌else◌}
use Rattle.std.specs.Option.{option_map_or}
use Rattle.std.specs.Ordering.{int_eq}
use Rattle.std.specs.List.{list_all}
use Rattle.std.proofs.lemmas.List.{reverse-append}
use Rattle.vg_base.specs.Bind.{◌>>=◌}
use Rattle.vg_base.specs.Gives.{FailsBy}
use Rattle.vg_base.proofs.Gives.{fails_bind}
use Rattle.vg_pseudo.specs.Resolved.{Code, stop, assign, skip, repeat, choose, way, last, pick, arm}
use Rattle.vg_script.specs.Script.{Script}
use Rattle.vg_interval.specs.declared.fault.RangeFault.{RangeFault}
use Rattle.vg_interval.specs.Judge.{Count}
use Rattle.vg_range.specs.Steps.{arm_of, first_arm, rest_arms}
use Rattle.vg_range.specs.Walk.{WalkContext, WalkState, Arms, all_arms, arm_taken, arms_do_nothing, beginning, is_empty, walk, with_arm}
use Rattle.vg_range.proofs.Stepping.{again}
use Rattle.vg_range.proofs.WaysLeft.{and_moved}

-- one arm, and then those after it
abbrev pub armed : WalkContext → Code → WalkState → Arms → Count → Result (Arms × Count) RangeFault
armed x c w found n =
    option_map_or (λ r. first_arm x c w found n >>= λ g. all_arms x r w g.0 g.1) (rest_arms c) (Ok (found, n))

armed_is : (x : WalkContext) (c : Code) (w : WalkState) (found : Arms) (n : Count) → armed x c w found n ≡ all_arms x c w found n
armed_is x stop w found n = refl
armed_is x (assign p t e rest) w found n = refl
armed_is x (skip p rest) w found n = refl
armed_is x (repeat p a b body rest) w found n = refl
armed_is x (choose ways rest) w found n = refl
armed_is x (way c body more) w found n = refl
armed_is x (last body) w found n = refl
armed_is x (pick e arms rest) w found n = refl
armed_is x (arm k body more) w found n =
    again (walk x body (beginning w n)) (λ v. Ok (with_arm x k v found, v.count)) (λ g. all_arms x more w g.0 g.1)

at_more : (x : WalkContext) (c r : Code) (w : WalkState) (found : Arms) (n : Count) → rest_arms c ≡ Some r
    → (first_arm x c w found n >>= λ g. all_arms x r w g.0 g.1) ≡ all_arms x c w found n
at_more x c r w found n e =
    sym (ap (λ o. option_map_or (λ q. first_arm x c w found n >>= λ g. all_arms x q w g.0 g.1) o (Ok (found, n))) e)
    ∙ armed_is x c w found n

-- an arm more
pub arms_next : (x : WalkContext) (c r : Code) (w : WalkState) (found more : Arms) (n m : Count) → rest_arms c ≡ Some r
    → first_arm x c w found n ≡ Ok (more, m) → all_arms x r w more m ≡ all_arms x c w found n
arms_next x c r w found more n m e h =
    sym (ap (λ o. o >>= λ g. all_arms x r w g.0 g.1) h) ∙ at_more x c r w found n e

-- an arm has a fault
pub arms_fail : (x : WalkContext) (c r : Code) (w : WalkState) (found : Arms) (n : Count) (fault : Option RangeFault) → rest_arms c ≡ Some r
    → FailsBy fault (first_arm x c w found n) → FailsBy fault (all_arms x c w found n)
arms_fail x c r w found n fault e h =
    rw (sym (at_more x c r w found n e)) (fails_bind fault (first_arm x c w found n) (λ g. all_arms x r w g.0 g.1) h)

by_number : (x : WalkContext) (body : Code) (w : WalkState) (o : Option Code) (r : Result WalkState RangeFault) (b : Bool)
    → option_map_or (λ c. walk x c w) o (Ok w) ≡ r
    → option_map_or (λ c. walk x c w) (if b then Some body else o) (Ok w) ≡ (if b then walk x body w else r)
by_number x body w o r true e = refl
by_number x body w o r false e = e

taken_is : (x : WalkContext) (c : Code) (w : WalkState) (z : ℤ)
    → option_map_or (λ b. walk x b w) (arm_of z c) (Ok w) ≡ arm_taken x c w z
taken_is x stop w z = refl
taken_is x (assign p t e rest) w z = refl
taken_is x (skip p rest) w z = refl
taken_is x (repeat p a b body rest) w z = refl
taken_is x (choose ways rest) w z = refl
taken_is x (way c body more) w z = refl
taken_is x (last body) w z = refl
taken_is x (pick e arms rest) w z = refl
taken_is x (arm n body more) w z =
    by_number x body w (arm_of z more) (arm_taken x more w z) (int_eq z (pos n)) (taken_is x more w z)

pub one_taken : (x : WalkContext) (c body : Code) (w : WalkState) (z : ℤ) → arm_of z c ≡ Some body → walk x body w ≡ arm_taken x c w z
one_taken x c body w z e = sym (ap (λ o. option_map_or (λ b. walk x b w) o (Ok w)) e) ∙ taken_is x c w z

pub none_taken : (x : WalkContext) (c : Code) (w : WalkState) (z : ℤ) → arm_of z c ≡ None → arm_taken x c w z ≡ Ok w
none_taken x c w z e = sym (taken_is x c w z) ∙ ap (λ o. option_map_or (λ b. walk x b w) o (Ok w)) e

nothing_behind : (arms : List (ℕ × Script)) (v : ℕ × Script)
    → arms_do_nothing (arms ++ v ∷ []) ≡ (is_empty v.1 && arms_do_nothing arms)
nothing_behind [] v = refl
nothing_behind (a ∷ arms) v =
    ap (λ b. is_empty a.1 && b) (nothing_behind arms v) ∙ and_moved (is_empty a.1) (is_empty v.1) (arms_do_nothing arms)

-- the order of the arms is the same to what does nothing
pub nothing_is : {A : Type 0} (f : A → ℕ × Script) (p : A → Bool) → ((a : A) → p a ≡ is_empty (f a).1) → (l : List A)
    → list_all p l ≡ arms_do_nothing (reverse (map f l))
nothing_is f p h [] = refl
nothing_is f p h (a ∷ l) =
    ap (λ b. b && list_all p l) (h a)
    ∙ ap (λ b. is_empty (f a).1 && b) (nothing_is f p h l)
    ∙ sym (ap arms_do_nothing (reverse-append (f a ∷ []) (map f l)) ∙ nothing_behind (reverse (map f l)) (f a))
