-- The ways of an IF, one after the other.
use Rattle.std.proofs.Common.{◌≡◌, refl, sym, ◌∙◌, ap, Result, Ok, Err, Option, Some, List, [], ◌∷◌, ◌++◌, map}
use Rattle.std.specs.Prelude.{Bool, true, false, ◌&&◌, pos, reverse, if◌then◌else◌}
use Rattle.std.specs.Option.{option_map_or}
use Rattle.std.specs.Ordering.{int_eq}
use Rattle.std.specs.List.{list_all}
use Rattle.std.proofs.lemmas.List.{reverse-append}
use Rattle.vg_base.specs.Bind.{◌>>=◌}
use Rattle.vg_base.specs.Gives.{FailsBy}
use Rattle.vg_base.proofs.Gives.{fails_bind}
use Rattle.vg_pseudo.specs.declared.spot.Spot.{Spot}
use Rattle.vg_pseudo.specs.Resolved.{Code, stop, assign, skip, repeat, choose, way, last, pick, arm}
use Rattle.vg_script.specs.Script.{Word, Script}
use Rattle.vg_interval.specs.declared.fault.RangeFault.{RangeFault}
use Rattle.vg_interval.specs.Found.{Found, Operand, fixed, moving, condition, operand}
use Rattle.vg_interval.specs.Judge.{Count, judge, spot_of}
use Rattle.vg_interval.specs.Views.{Condition, condition_of}
use Rattle.vg_range.specs.Steps.{further, final, way_by, ways_behind, first_way, last_at, rest_ways}
use Rattle.vg_range.specs.Seen.{tested_at}
use Rattle.vg_range.specs.Walk.{WalkContext, WalkState, Ways, beginning, closed, way_taken, with_way, walk, walk_ways, is_empty, does_nothing}

-- a condition that is constant
by_truth : (x : WalkContext) (more : Code) (w : WalkState) (found : Ways) (n : Count) (body : Result WalkState RangeFault) (b : Bool)
    → ((if b then Ok (further found n) else (body >>= λ u. Ok (final found u))) >>= ways_behind x more w)
    ≡ (if b then walk_ways x more w found n else (body >>= λ u. Ok (closed x w found u)))
by_truth x more w found n body true = refl
by_truth x more w found n (Ok u) false = refl
by_truth x more w found n (Err e) false = refl

-- a condition that is not
by_word : (x : WalkContext) (more : Code) (w : WalkState) (found : Ways) (y : Word) (body : Result WalkState RangeFault)
    → ((body >>= λ u. Ok (further (with_way x y u found) u.count)) >>= ways_behind x more w)
    ≡ (body >>= λ u. walk_ways x more w (with_way x y u found) u.count)
by_word x more w found y (Ok u) = refl
by_word x more w found y (Err e) = refl

abbrev said : Found → Count → Result Operand RangeFault → Result (Condition × Count) RangeFault
said f n o = (o >>= λ a. Ok (condition_of f a)) >>= λ d. Ok (d, n)

by_operand : (x : WalkContext) (body more : Code) (w : WalkState) (found : Ways) (f : Found) (n : Count) (o : Result Operand RangeFault)
    → ((said f n o >>= λ d. way_by x (walk x body (beginning w d.1)) found d.0 d.1) >>= ways_behind x more w)
    ≡ (o >>= λ a. way_taken a (walk x body (beginning w n)) (λ u. walk_ways x more w (with_way x (condition f a) u found) u.count) (walk_ways x more w found n) (closed x w found))
by_operand x body more w found f n (Err e) = refl
by_operand x body more w found f n (Ok (fixed z)) = by_truth x more w found n (walk x body (beginning w n)) (int_eq z (pos 0))
by_operand x body more w found f n (Ok (moving i y)) = by_word x more w found (condition f (moving i y)) (walk x body (beginning w n))

by_judged : (x : WalkContext) (s : Spot) (body more : Code) (w : WalkState) (found : Ways) (r : Result (Found × Count) RangeFault)
    → ((tested_at s r >>= λ d. way_by x (walk x body (beginning w d.1)) found d.0 d.1) >>= ways_behind x more w)
    ≡ (r >>= λ f. operand s f.0 >>= λ a. way_taken a (walk x body (beginning w f.1)) (λ u. walk_ways x more w (with_way x (condition f.0 a) u found) u.count) (walk_ways x more w found f.1) (closed x w found))
by_judged x s body more w found (Err e) = refl
by_judged x s body more w found (Ok f) = by_operand x body more w found f.0 f.1 (operand s f.0)

-- one way, and then those after it
abbrev pub met : WalkContext → Code → WalkState → Ways → Count → Result WalkState RangeFault
met x c w found n =
    option_map_or (λ r. first_way x c w found n >>= ways_behind x r w) (rest_ways c) (last_at x c w n >>= λ v. Ok (closed x w found v))

met_is : (x : WalkContext) (c : Code) (w : WalkState) (found : Ways) (n : Count) → met x c w found n ≡ walk_ways x c w found n
met_is x stop w found n = refl
met_is x (assign p t e rest) w found n = refl
met_is x (skip p rest) w found n = refl
met_is x (repeat p a b body rest) w found n = refl
met_is x (choose ways rest) w found n = refl
met_is x (way c body more) w found n = by_judged x (spot_of c) body more w found (judge x.sight w.numbers c n)
met_is x (last body) w found n = refl
met_is x (pick e arms rest) w found n = refl
met_is x (arm k body arms) w found n = refl

-- where there are ways after
at_more : (x : WalkContext) (c r : Code) (w : WalkState) (found : Ways) (n : Count) → rest_ways c ≡ Some r
    → (first_way x c w found n >>= ways_behind x r w) ≡ walk_ways x c w found n
at_more x c r w found n e =
    sym (ap (λ o. option_map_or (λ q. first_way x c w found n >>= ways_behind x q w) o (last_at x c w n >>= λ v. Ok (closed x w found v))) e)
    ∙ met_is x c w found n

pub ways_next : (x : WalkContext) (c r : Code) (w : WalkState) (found ways : Ways) (n m : Count) → rest_ways c ≡ Some r
    → first_way x c w found n ≡ Ok (further ways m) → walk_ways x r w ways m ≡ walk_ways x c w found n
ways_next x c r w found ways n m e h = sym (ap (λ o. o >>= ways_behind x r w) h) ∙ at_more x c r w found n e

pub ways_close : (x : WalkContext) (c r : Code) (w v : WalkState) (found ways : Ways) (n : Count) → rest_ways c ≡ Some r
    → first_way x c w found n ≡ Ok (final ways v) → walk_ways x c w found n ≡ Ok (closed x w ways v)
ways_close x c r w v found ways n e h = sym (at_more x c r w found n e) ∙ ap (λ o. o >>= ways_behind x r w) h

pub ways_fail : (x : WalkContext) (c r : Code) (w : WalkState) (found : Ways) (n : Count) (fault : Option RangeFault) → rest_ways c ≡ Some r
    → FailsBy fault (first_way x c w found n) → FailsBy fault (walk_ways x c w found n)
ways_fail x c r w found n fault e h =
    rw (sym (at_more x c r w found n e)) (fails_bind fault (first_way x c w found n) (ways_behind x r w) h)

pub and_moved : (a b c : Bool) → (a && (b && c)) ≡ (b && (a && c))
and_moved true b c = refl
and_moved false true c = refl
and_moved false false c = refl

and_true : (a : Bool) → (a && true) ≡ a
and_true true = refl
and_true false = refl

nothing_behind : (ws : List (Word × Script)) (v : Word × Script) (s : Script)
    → does_nothing (ws ++ v ∷ []) s ≡ (is_empty v.1 && does_nothing ws s)
nothing_behind [] v s = refl
nothing_behind (w ∷ ws) v s =
    ap (λ b. is_empty w.1 && b) (nothing_behind ws v s) ∙ and_moved (is_empty w.1) (is_empty v.1) (does_nothing ws s)

-- the order of the ways is the same to what does nothing
pub nothing_is : {A : Type 0} (f : A → Word × Script) (p : A → Bool) → ((a : A) → p a ≡ is_empty (f a).1) → (l : List A) (s : Script)
    → (is_empty s && list_all p l) ≡ does_nothing (reverse (map f l)) s
nothing_is f p h [] s = and_true (is_empty s)
nothing_is f p h (a ∷ l) s =
    ap (λ b. is_empty s && (b && list_all p l)) (h a)
    ∙ and_moved (is_empty s) (is_empty (f a).1) (list_all p l)
    ∙ ap (λ b. is_empty (f a).1 && b) (nothing_is f p h l s)
    ∙ sym (ap (λ r. does_nothing r s) (reverse-append (f a ∷ []) (map f l)) ∙ nothing_behind (reverse (map f l)) (f a) s)
