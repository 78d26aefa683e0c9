-- The script of a walk is static where nothing that depends on data was met.
use Rattle.std.proofs.Common.{◌≡◌, ℕ, zero, suc, Bool, true, false, List, [], ◌∷◌, ◌++◌, get_or, set, take}
use Rattle.std.specs.Prelude.{ℤ, pos, ◌+ℤ◌, nat_le, nat_eq, if◌then◌else◌, Option, Some, None, Result, Ok, Err}
use Rattle.std.specs.Ordering.{int_eq}
use Rattle.vg_base.specs.Bind.{◌>>=◌}
use Rattle.vg_text.specs.declared.place.Place.{Place}
use Rattle.vg_pseudo.specs.declared.spot.Spot.{Spot}
use Rattle.vg_pseudo.specs.Resolved.{Expr, Target, bits, lane, whole, number, Code, stop, assign, skip, repeat, choose, way, last, pick, arm, Body, Function, Resolved}
use Rattle.vg_pseudo.specs.Value.{count}
use Rattle.vg_pseudo.specs.Instance.{kept_widths}
use Rattle.vg_script.specs.Script.{Word, Low, Frame, frame, Given, Script}
use Rattle.vg_script.specs.Script as script
use Rattle.vg_interval.specs.declared.fault.RangeFault.{RangeFault}
use Rattle.vg_interval.specs.Found.{Found, known, read, handed, bit, within, wide, loose, Operand, fixed, moving, word_of, slice_word, handed_word, operand, condition, Passed, computed, answered}
use Rattle.vg_interval.specs.Found as found
use Rattle.vg_interval.specs.Words as words
use Rattle.vg_interval.specs.Judge.{Count, step, Walk, bits_between, bits_of_element, index_of, spot_of, no_walk, judge}
use Rattle.vg_range.specs.Walk.{WalkState, at_count, is_empty, behind, WalkContext, with_script, judged, constant_index, constant_at, Goal, goal, width_in, goal_at, put_word, stored, kept_of, target_number, assigned, assign_at, in_turn, turns_at, Ways, no_ways, with_way, in_front, does_nothing, branch_of, closed, beginning, Arms, arms_in_front, arms_do_nothing, pick_of, with_arm, arms_of, way_taken, walk, walk_ways, arm_taken, all_arms, given_of, context_of, constants_of, begun, called, walks_from}
use Rattle.vg_range_laws.specs.Static.{IsStatic, IsStaticWord, IsStaticGiven}
use Rattle.vg_range_laws.proofs.Settled.{Settled, Gives, gives_if, gives_where, then_settled, then_plain, anyhow, settled_if}
use Rattle.vg_range_laws.proofs.Operators.{FoundStatic, FirstStatic, OperandStatic, PassedStatic, AllPassedStatic, is_met, condition-static, word_of-static, answered-static, slice_word-static, handed_word-static, extended-static}
use Rattle.vg_range_laws.proofs.Expressions.{WalkSettles, CallsSettle, flag_of, step-settled, operand-where, judge-settled}

-- ---- stands

abbrev pub met : WalkState → Bool
met w = w.count.is_dynamic

abbrev pub StateStatic : WalkState → Type 0
StateStatic w = IsStatic w.script

-- what is known where a walk stands
abbrev pub Known : WalkState → Type 0
Known w = met w ≡ false → StateStatic w

abbrev pub ContextSettles : WalkContext → Type 0
ContextSettles x = CallsSettle x.sight.walks

abbrev pub GoesOn : (WalkState → Result WalkState RangeFault) → Type 0
GoesOn f = (w : WalkState) → Known w → Settled met StateStatic (met w) (f w)

if_script : (b : Bool) (s t : Script) → IsStatic s → IsStatic t → IsStatic (if b then s else t)
if_script true s t h g = h
if_script false s t h g = g

behind-static : (s t : Script) → IsStatic s → IsStatic t → IsStatic (behind s t)
behind-static s t h g = if_script (is_empty t) s _ h (if_script (is_empty s) t _ g (h, g))

abbrev given : WalkState → Result WalkState RangeFault
given w = Ok w

if_stand : (b : Bool) (f : Bool) (u w : WalkState) → Settled met StateStatic f (given u) → Settled met StateStatic f (given w) → Settled met StateStatic f (given (if b then u else w))
if_stand true f u w h g = h
if_stand false f u w h g = g

-- a script after the one so far
with_script-settled : (x : WalkContext) (s : Script) (w : WalkState) (b : Bool) → (met w ≡ false → (b ≡ false) × IsStatic s × StateStatic w) → Settled met StateStatic b (given (with_script x s w))
with_script-settled x s w b h =
    if_stand x.is_kept b _ w (λ e. let k = h e in (k.0, behind-static w.script s k.2 k.1)) (λ e. let k = h e in (k.0, k.2))

-- ---- assignments

abbrev second_met : {A : Type 0} → A × WalkState → Bool
second_met p = met p.1

abbrev SecondStatic : {A : Type 0} → A × WalkState → Type 0
SecondStatic p = StateStatic p.1

judged-settled : (x : WalkContext) → ContextSettles x → (w : WalkState) (e : Expr) → Settled is_met FirstStatic (met w) (judged x w e)
judged-settled x h w e = judge-settled x.sight h w.numbers e w.count

constant_at-settled : (x : WalkContext) → ContextSettles x → (w : WalkState) (e : Expr) → Known w → Settled second_met SecondStatic (met w) (constant_at x w e)
constant_at-settled x h w e k =
    then_settled is_met FirstStatic second_met SecondStatic (met w) (judged x w e) _ (judged-settled x h w e) (λ f i.
    then_plain (λ j. Unit {0}) second_met SecondStatic f.1.is_dynamic (index_of (spot_of e) f.0) _ (anyhow _) (λ j u.
    then_plain (λ z. Unit {0}) second_met SecondStatic f.1.is_dynamic (constant_index (spot_of e).outer j) _ (anyhow _) (λ z v d.
    (d, k (i d).0))))

abbrev aimed : Goal → WalkState → Result (Option Goal × WalkState) RangeFault
aimed g w = Ok (Some g, w)

goal_at-settled : (x : WalkContext) → ContextSettles x → (p : Place) (w : WalkState) (t : Target) → Known w → Settled second_met SecondStatic (met w) (goal_at x p w t)
goal_at-settled x h p w (bits r a l) k =
    then_settled second_met SecondStatic second_met SecondStatic (met w) (constant_at x w a) _ (constant_at-settled x h w a k) (λ high i.
    then_settled second_met SecondStatic second_met SecondStatic (met high.1) (constant_at x high.1 l) _ (constant_at-settled x h high.1 l (λ d. (i d).1)) (λ low j.
    then_plain (λ b. Unit {0}) second_met SecondStatic (met low.1) (bits_between p (width_in x r) high.0 low.0) (λ b. aimed (goal r b) low.1) (anyhow _) (λ b u d. (d, (j d).1))))
goal_at-settled x h p w (lane r size a) k =
    then_settled second_met SecondStatic second_met SecondStatic (met w) (constant_at x w a) _ (constant_at-settled x h w a k) (λ index i.
    then_plain (λ b. Unit {0}) second_met SecondStatic (met index.1) (bits_of_element p (width_in x r) size index.0) (λ b. aimed (goal r b) index.1) (anyhow _) (λ b u d. (d, (i d).1)))
goal_at-settled x h p w (whole r width) k =
    then_plain (λ b. Unit {0}) second_met SecondStatic (met w) (bits_of_element p (width_in x r) width (pos 0)) (λ b. aimed (goal r b) w) (anyhow _) (λ b u d. (d, k d))
goal_at-settled x h p w (number n) k = λ d. (d, k d)

put_word-static : (p : Place) (g : Goal) (y : Word) → IsStaticWord y → Gives IsStatic (put_word p g y)
put_word-static p g y h = gives_if IsStatic (nat_le g.bits.width 128) _ _ h tt

stored-static : (s : Spot) (g : Goal) (f : Found) → FoundStatic f → Gives IsStatic (stored s g f)
stored-static s g (known z v) h = tt
stored-static s g (read b q l v) h = gives_if IsStatic (nat_le g.bits.width v) _ _ h (put_word-static s.outer g (slice_word b q l v) (slice_word-static b q l v h))
stored-static s g (handed f q l v) h = gives_if IsStatic (nat_le g.bits.width v) _ _ h (put_word-static s.outer g (handed_word f q l v) (handed_word-static f q l v h.0 h.1))
stored-static s g (bit y) h = put_word-static s.outer g (words.extended false 1 y) (extended-static false 1 y h)
stored-static s g (within i y) h = put_word-static s.outer g y h
stored-static s g (wide y) h = put_word-static s.outer g y h
stored-static s g (loose y) h = tt

assigned-settled : (x : WalkContext) (s : Spot) (t : Target) (g : Option Goal) (f : Found) (w : WalkState) → Known w → (met w ≡ false → FoundStatic f)
    → Settled met StateStatic (met w) (assigned x s t g f w)
assigned-settled x s t (Some g) f w k h =
    then_plain (λ m. met w ≡ false → IsStatic m) met StateStatic (met w) (stored s g f) _ (gives_where (met w ≡ false) IsStatic (stored s g f) (λ e. stored-static s g f (h e))) (λ m n.
    with_script-settled x m w (met w) (λ e. (e, n e, k e)))
assigned-settled x s t None f w k h =
    then_plain (λ a. met w ≡ false → OperandStatic a) met StateStatic (met w) (operand s f) _ (operand-where s f (met w) h) (λ a n.
    with_script-settled x (script.give (target_number t) (word_of a)) (record { numbers = set w.numbers (target_number t) (kept_of a); count = w.count; script = w.script }) (met w)
    (λ e. (e, word_of-static a (n e), k e)))

abbrev CountHolds : Count → Type 0
CountHolds c = Unit {0}

assign_at-settled : (x : WalkContext) → ContextSettles x → (p : Place) (t : Target) (a : Expr) → GoesOn (assign_at x p t a)
assign_at-settled x h p t a w k =
    then_settled flag_of CountHolds met StateStatic (met w) (step p w.count) _ (step-settled p w.count) (λ c i.
    then_settled second_met SecondStatic met StateStatic c.is_dynamic (goal_at x p (at_count w c) t) _ (goal_at-settled x h p (at_count w c) t (λ d. k (i d).0)) (λ g j.
    then_settled is_met FirstStatic met StateStatic (met g.1) (judged x g.1 a) _ (judged-settled x h g.1 a) (λ f n.
    assigned-settled x (spot_of a) t g.0 f.0 (at_count g.1 f.1) (λ d. (j (n d).0).1) (λ d. (n d).1))))

-- ---- turns

turns-settled : (body : ℤ → WalkState → Result WalkState RangeFault) → ((z : ℤ) → GoesOn (body z)) → (p : Place) (z : ℤ) (n : ℕ) → GoesOn (turns_at body p z n)
turns-settled body h p z zero w k = λ e. (e, k e)
turns-settled body h p z (suc n) w k =
    then_settled flag_of CountHolds met StateStatic (met w) (step p w.count) _ (step-settled p w.count) (λ c i.
    then_settled met StateStatic met StateStatic c.is_dynamic (body z (at_count w c)) _ (h z (at_count w c) (λ d. k (i d).0)) (λ v j.
    turns-settled body h p (z +ℤ pos 1) n v (λ d. (j d).1)))

-- ---- ways

abbrev WaysStatic : List (Word × Script) → Type 0
WaysStatic [] = Unit {0}
WaysStatic (w ∷ ws) = IsStaticWord w.0 × IsStatic w.1 × WaysStatic ws

in_front-static : (ws : List (Word × Script)) (s : Script) → WaysStatic ws → IsStatic s → IsStatic (in_front ws s)
in_front-static [] s h g = g
in_front-static (w ∷ ws) s h g = in_front-static ws (script.way w.0 w.1 s) h.2 (h.0, h.1, g)

branch_of-static : (ws : List (Word × Script)) (s : Script) → WaysStatic ws → IsStatic s → IsStatic (branch_of ws s)
branch_of-static [] s h g = g
branch_of-static (w ∷ ws) s h g = if_script (does_nothing (w ∷ ws) s) script.stop _ tt (in_front-static (w ∷ ws) (script.last s) h g)

closed-settled : (x : WalkContext) (w : WalkState) (ways : Ways) (v : WalkState) (b : Bool) → (met v ≡ false → (b ≡ false) × StateStatic w × WaysStatic ways.scripts × StateStatic v)
    → Settled met StateStatic b (given (closed x w ways v))
closed-settled x w ways v b h =
    with_script-settled x (branch_of ways.scripts v.script) _ b (λ e. let k = h e in (k.0, branch_of-static ways.scripts v.script k.2 k.3, k.1))

if_ways : (b : Bool) (c : Word) (s : Script) (ws : List (Word × Script)) → IsStaticWord c → IsStatic s → WaysStatic ws → WaysStatic (if b then (c, s) ∷ ws else [])
if_ways true c s ws h g k = (h, g, k)
if_ways false c s ws h g k = tt

way_taken-settled : (a : Operand) (c : Bool) (body : Result WalkState RangeFault) (on : WalkState → Result WalkState RangeFault) (others : Result WalkState RangeFault) (only : WalkState → WalkState)
    → Settled met StateStatic c body → ((u : WalkState) → (met u ≡ false → (c ≡ false) × StateStatic u) → Settled met StateStatic (met u) (on u)) → Settled met StateStatic c others
    → ((u : WalkState) → (met u ≡ false → (c ≡ false) × StateStatic u) → Settled met StateStatic (met u) (given (only u)))
    → Settled met StateStatic c (way_taken a body on others only)
way_taken-settled (fixed z) c body on others only h g k n =
    settled_if met StateStatic c (int_eq z (pos 0)) _ _ k (then_settled met StateStatic met StateStatic c body _ h (λ u i. n u i))
way_taken-settled (moving i y) c body on others only h g k n = then_settled met StateStatic met StateStatic c body _ h g

-- ---- arms

abbrev ArmsStatic : List (ℕ × Script) → Type 0
ArmsStatic [] = Unit {0}
ArmsStatic (a ∷ rest) = IsStatic a.1 × ArmsStatic rest

arms_in_front-static : (ws : List (ℕ × Script)) (s : Script) → ArmsStatic ws → IsStatic s → IsStatic (arms_in_front ws s)
arms_in_front-static [] s h g = g
arms_in_front-static (a ∷ rest) s h g = arms_in_front-static rest (script.arm a.0 a.1 s) h.1 (h.0, g)

pick_of-static : (y : Word) (ws : List (ℕ × Script)) → IsStaticWord y → ArmsStatic ws → IsStatic (pick_of y ws)
pick_of-static y ws h g = if_script (arms_do_nothing ws) script.stop _ tt (h, arms_in_front-static ws script.stop g tt)

if_arms : (b : Bool) (n : ℕ) (s : Script) (ws : List (ℕ × Script)) → IsStatic s → ArmsStatic ws → ArmsStatic (if b then (n, s) ∷ ws else [])
if_arms true n s ws g k = (g, k)
if_arms false n s ws g k = tt

abbrev FirstArms : Arms × Count → Type 0
FirstArms p = ArmsStatic p.0.scripts

arms_of-settled : (x : WalkContext) (w : WalkState) (a : Operand) (one : WalkState → ℤ → Result WalkState RangeFault) (all : WalkState → Arms → Count → Result (Arms × Count) RangeFault)
    → Known w → (met w ≡ false → OperandStatic a) → ((z : ℤ) → Settled met StateStatic (met w) (one w z))
    → ((found : Arms) → ArmsStatic found.scripts → Settled is_met FirstArms (met w) (all w found w.count))
    → Settled met StateStatic (met w) (arms_of x w a one all)
arms_of-settled x w (fixed z) one all k h g n = g z
arms_of-settled x w (moving i y) one all k h g n =
    let none : Arms = record { scripts = []; joined = w.numbers } in
    then_settled is_met FirstArms met StateStatic (met w) (all w none w.count) _ (n none tt) (λ found j.
    with_script-settled x (pick_of y found.0.scripts) _ found.1.is_dynamic (λ e.
    let m = j e in
    (e, pick_of-static y found.0.scripts (h m.0) m.1, k m.0)))

-- ---- statements

begins : (w : WalkState) (c : Count) → Known (beginning w c)
begins w c = λ e. tt

mutual
  pub walk-settled : (x : WalkContext) → ContextSettles x → (d : Code) → GoesOn (walk x d)
  walk-settled x h stop w k = λ e. (e, k e)
  walk-settled x h (assign p t a rest) w k =
      then_settled met StateStatic met StateStatic (met w) (assign_at x p t a w) _ (assign_at-settled x h p t a w k) (λ v i.
      walk-settled x h rest v (λ d. (i d).1))
  walk-settled x h (skip p rest) w k =
      then_settled flag_of CountHolds met StateStatic (met w) (step p w.count) _ (step-settled p w.count) (λ c i.
      walk-settled x h rest (at_count w c) (λ d. k (i d).0))
  walk-settled x h (repeat p a b body rest) w k =
      then_settled second_met SecondStatic met StateStatic (met w) (constant_at x w a) _ (constant_at-settled x h w a k) (λ first i.
      then_settled second_met SecondStatic met StateStatic (met first.1) (constant_at x first.1 b) _ (constant_at-settled x h first.1 b (λ d. (i d).1)) (λ final j.
      then_settled met StateStatic met StateStatic (met final.1) (turns_at (λ z u. walk (in_turn x z) body u) p first.0 (count first.0 final.0) final.1) _
      (turns-settled (λ z u. walk (in_turn x z) body u) (λ z. walk-settled (in_turn x z) h body) p first.0 (count first.0 final.0) final.1 (λ d. (j d).1)) (λ v n.
      walk-settled x h rest v (λ d. (n d).1))))
  walk-settled x h (choose ways rest) w k =
      then_settled met StateStatic met StateStatic (met w) (walk_ways x ways w no_ways w.count) _ (ways-settled x h ways w no_ways w.count (λ e. (k e, tt))) (λ v i.
      walk-settled x h rest v (λ d. (i d).1))
  walk-settled x h (pick a arms rest) w k =
      then_settled is_met FirstStatic met StateStatic (met w) (judged x w a) _ (judged-settled x h w a) (λ f i.
      then_plain (λ o. f.1.is_dynamic ≡ false → OperandStatic o) met StateStatic f.1.is_dynamic (operand (spot_of a) f.0) _ (operand-where (spot_of a) f.0 f.1.is_dynamic (λ d. (i d).1)) (λ o m.
      then_settled met StateStatic met StateStatic f.1.is_dynamic (arms_of x (at_count w f.1) o (arm_taken x arms) (all_arms x arms)) _
      (arms_of-settled x (at_count w f.1) o (arm_taken x arms) (all_arms x arms) (λ d. k (i d).0) m
      (λ z. arm-settled x h arms (at_count w f.1) z (λ d. k (i d).0)) (λ found n. arms-settled x h arms (at_count w f.1) found f.1 (λ d. n))) (λ v n.
      walk-settled x h rest v (λ d. (n d).1))))
  walk-settled x h (way c body ways) w k = λ e. (e, k e)
  walk-settled x h (last body) w k = λ e. (e, k e)
  walk-settled x h (arm n body arms) w k = λ e. (e, k e)

  ways-settled : (x : WalkContext) → ContextSettles x → (d : Code) (w : WalkState) (found : Ways) (n : Count) → (n.is_dynamic ≡ false → StateStatic w × WaysStatic found.scripts)
      → Settled met StateStatic n.is_dynamic (walk_ways x d w found n)
  ways-settled x h (way c body more) w found n k =
      then_settled is_met FirstStatic met StateStatic n.is_dynamic (judge x.sight w.numbers c n) _ (judge-settled x.sight h w.numbers c n) (λ f i.
      then_plain (λ a. f.1.is_dynamic ≡ false → OperandStatic a) met StateStatic f.1.is_dynamic (operand (spot_of c) f.0) _ (operand-where (spot_of c) f.0 f.1.is_dynamic (λ d. (i d).1)) (λ a m.
      way_taken-settled a f.1.is_dynamic (walk x body (beginning w f.1)) _ (walk_ways x more w found f.1) (closed x w found)
      (walk-settled x h body (beginning w f.1) (begins w f.1))
      (λ u j. ways-settled x h more w (with_way x (condition f.0 a) u found) u.count (λ d.
      let o = j d in
      let s = i o.0 in
      let q = k s.0 in
      (q.0, if_ways x.is_kept (condition f.0 a) u.script found.scripts (condition-static f.0 a s.1 (m o.0)) o.1 q.1)))
      (ways-settled x h more w found f.1 (λ d. k (i d).0))
      (λ u j. closed-settled x w found u (met u) (λ d.
      let o = j d in
      let q = k (i o.0).0 in
      (d, q.0, q.1, o.1)))))
  ways-settled x h (last body) w found n k =
      then_settled met StateStatic met StateStatic n.is_dynamic (walk x body (beginning w n)) _ (walk-settled x h body (beginning w n) (begins w n)) (λ v i.
      closed-settled x w found v (met v) (λ d. let o = i d in let q = k o.0 in (d, q.0, q.1, o.1)))
  ways-settled x h stop w found n k = closed-settled x w found (beginning w n) n.is_dynamic (λ d. (d, (k d).0, (k d).1, tt))
  ways-settled x h (assign p t a rest) w found n k = closed-settled x w found (beginning w n) n.is_dynamic (λ d. (d, (k d).0, (k d).1, tt))
  ways-settled x h (skip p rest) w found n k = closed-settled x w found (beginning w n) n.is_dynamic (λ d. (d, (k d).0, (k d).1, tt))
  ways-settled x h (repeat p a b body rest) w found n k = closed-settled x w found (beginning w n) n.is_dynamic (λ d. (d, (k d).0, (k d).1, tt))
  ways-settled x h (choose ways rest) w found n k = closed-settled x w found (beginning w n) n.is_dynamic (λ d. (d, (k d).0, (k d).1, tt))
  ways-settled x h (pick a arms rest) w found n k = closed-settled x w found (beginning w n) n.is_dynamic (λ d. (d, (k d).0, (k d).1, tt))
  ways-settled x h (arm m body arms) w found n k = closed-settled x w found (beginning w n) n.is_dynamic (λ d. (d, (k d).0, (k d).1, tt))

  arm-settled : (x : WalkContext) → ContextSettles x → (d : Code) (w : WalkState) (z : ℤ) → Known w → Settled met StateStatic (met w) (arm_taken x d w z)
  arm-settled x h (arm n body more) w z k = settled_if met StateStatic (met w) (int_eq z (pos n)) _ _ (walk-settled x h body w k) (arm-settled x h more w z k)
  arm-settled x h stop w z k = λ e. (e, k e)
  arm-settled x h (assign p t a rest) w z k = λ e. (e, k e)
  arm-settled x h (skip p rest) w z k = λ e. (e, k e)
  arm-settled x h (repeat p a b body rest) w z k = λ e. (e, k e)
  arm-settled x h (choose ways rest) w z k = λ e. (e, k e)
  arm-settled x h (pick a arms rest) w z k = λ e. (e, k e)
  arm-settled x h (way c body ways) w z k = λ e. (e, k e)
  arm-settled x h (last body) w z k = λ e. (e, k e)

  arms-settled : (x : WalkContext) → ContextSettles x → (d : Code) (w : WalkState) (found : Arms) (c : Count) → (c.is_dynamic ≡ false → ArmsStatic found.scripts)
      → Settled is_met FirstArms c.is_dynamic (all_arms x d w found c)
  arms-settled x h (arm n body more) w found c k =
      then_settled met StateStatic is_met FirstArms c.is_dynamic (walk x body (beginning w c)) _ (walk-settled x h body (beginning w c) (begins w c)) (λ v i.
      arms-settled x h more w (with_arm x n v found) v.count (λ d.
      let o = i d in
      if_arms x.is_kept n v.script found.scripts o.1 (k o.0)))
  arms-settled x h stop w found c k = λ e. (e, k e)
  arms-settled x h (assign p t a rest) w found c k = λ e. (e, k e)
  arms-settled x h (skip p rest) w found c k = λ e. (e, k e)
  arms-settled x h (repeat p a b body rest) w found c k = λ e. (e, k e)
  arms-settled x h (choose ways rest) w found c k = λ e. (e, k e)
  arms-settled x h (pick a arms rest) w found c k = λ e. (e, k e)
  arms-settled x h (way m body ways) w found c k = λ e. (e, k e)
  arms-settled x h (last body) w found c k = λ e. (e, k e)

-- ---- calls

given-static : (ps : List Passed) → AllPassedStatic ps → IsStaticGiven (given_of ps)
given-static [] h = tt
given-static (found.constant n ∷ ps) h = given-static ps h.1
given-static (computed y ∷ ps) h = (h.0, given-static ps h.1)
given-static (found.bits r l w ∷ ps) h = (h.0, given-static ps h.1)

taken-static : (n : ℕ) (ps : List Passed) → AllPassedStatic ps → AllPassedStatic (take n ps)
taken-static zero [] h = tt
taken-static zero (p ∷ ps) h = tt
taken-static (suc n) [] h = tt
taken-static (suc n) (p ∷ ps) h = (h.0, taken-static n ps h.1)

abbrev answered_at : Found → Count → Result (Found × Count) RangeFault
answered_at f c = Ok (f, c)

called-settled : (is_kept : Bool) (walks : List Walk) (f : Function) → CallsSettle walks → WalkSettles (called is_kept walks f)
called-settled is_kept walks f h p given c k =
    let ps = take f.body.parameters given in
    let x = context_of is_kept walks f.body.widths (constants_of (kept_widths f.body.widths) ps) in
    then_settled met StateStatic is_met FirstStatic c.is_dynamic (walk x f.body.code (begun f.body c)) _ (walk-settled x h f.body.code (begun f.body c) (λ e. tt)) (λ w i.
    then_settled is_met FirstStatic is_met FirstStatic (met w) (judged x w f.answer) _ (judged-settled x h w f.answer) (λ g j.
    let own = frame (kept_widths f.body.widths) f.body.numbers (given_of ps) w.script in
    then_plain (λ a. g.1.is_dynamic ≡ false → FoundStatic a) is_met FirstStatic g.1.is_dynamic (answered (spot_of f.answer) own g.0) (λ a. answered_at a g.1)
    (gives_where (g.1.is_dynamic ≡ false) FoundStatic (answered (spot_of f.answer) own g.0) (λ e.
    let n = j e in
    let m = i n.0 in
    answered-static (spot_of f.answer) own g.0 (given-static ps (taken-static f.body.parameters given (k m.0)), m.1) n.1)) (λ a n e. (e, n e))))

no_walk-settled : WalkSettles no_walk
no_walk-settled p given c k = λ e. (e, tt)

one_more : (walks : List Walk) (w : Walk) → CallsSettle walks → WalkSettles w → CallsSettle (walks ++ w ∷ [])
one_more [] w h g zero = g
one_more [] w h g (suc k) = no_walk-settled
one_more (v ∷ walks) w h g zero = h zero
one_more (v ∷ walks) w h g (suc k) = one_more walks w (λ j. h (suc j)) g k

pub walks-settled : (is_kept : Bool) (walks : List Walk) (fs : List Function) → CallsSettle walks → CallsSettle (walks_from is_kept walks fs)
walks-settled is_kept walks [] h = h
walks-settled is_kept walks (f ∷ rest) h = walks-settled is_kept (walks ++ called is_kept walks f ∷ []) rest (one_more walks (called is_kept walks f) h (called-settled is_kept walks f h))

pub no_calls : CallsSettle []
no_calls k = no_walk-settled
