-- Statements are walked the same but for scripts, whether scripts are kept or not.
use Rattle.std.proofs.Common.{◌≡◌, ℕ, zero, suc, refl, sym, ap, ◌∙◌, Bool, true, false, List, ◌∷◌, get_or, set}
use Rattle.std.specs.Prelude.{min, ℤ, pos, ◌+ℤ◌, nat_le, if◌then◌else◌, Option, Some, None, Result, Ok, Err}
use Rattle.vg_base.specs.Bind.{◌>>=◌}
use Rattle.vg_text.specs.declared.place.Place.{Place}
use Rattle.vg_pseudo.specs.declared.spot.Spot.{Spot}
use Rattle.vg_pseudo.specs.Resolved.{Expr, Target, bits, lane, whole, number}
use Rattle.vg_script.specs.Script.{Word, Script}
use Rattle.vg_script.specs.Script as script
use Rattle.vg_interval.specs.declared.fault.RangeFault.{RangeFault}
use Rattle.vg_interval.specs.Found.{Found, known, read, handed, bit, within, wide, loose, Operand, fixed, moving, word_of, operand}
use Rattle.vg_interval.specs.Judge.{KnownNumber, Count, step, Index, settled, unsettled, index_of, bits_between, bits_of_element, spot_of, judge}
use Rattle.vg_range.specs.Walk.{WalkState, at_count, WalkContext, with_script, judged, constant_index, constant_at, Goal, goal, width_in, goal_at, put_word, stored, kept_of, target_number, assigned, assign_at, in_turn, turns_at}
use Rattle.vg_range.proofs.Bare.{seen, steps_same, if-same, bare, bare_operand, bare_index, operand-same, index-same, view}
use Rattle.vg_range.proofs.Judged.{looks, counts, AllSame, judge-same}

-- bodies that see the same, but that scripts are kept in one
pub record Alike (x y : WalkContext) : Type 0 where
  pub widths : x.sight.widths ≡ y.sight.widths
  pub constants : x.sight.constants ≡ y.sight.constants
  pub turns : x.sight.turns ≡ y.sight.turns
  pub calls : AllSame x.sight.walks y.sight.walks

pub judge-alike : (x y : WalkContext) → Alike x y → (ks : List KnownNumber) (e : Expr) (c : Count) → seen view (judge x.sight ks e c) ≡ seen view (judge y.sight ks e c)
judge-alike x y h ks e c =
    judge-same e x.sight.widths x.sight.constants x.sight.turns x.sight.walks y.sight.walks h.calls ks c
    ∙ rw (h.widths, h.constants, h.turns) refl

-- what is known where a walk stands
abbrev pub known_at : WalkState → List KnownNumber × Count
known_at w = (w.numbers, w.count)

pub same_numbers : (w v : WalkState) → known_at w ≡ known_at v → w.numbers ≡ v.numbers
same_numbers w v e = ap (λ p. p.0) e

pub same_count : (w v : WalkState) → known_at w ≡ known_at v → w.count ≡ v.count
same_count w v e = ap (λ p. p.1) e

pub judged-alike : (x y : WalkContext) → Alike x y → (w v : WalkState) → known_at w ≡ known_at v → (e : Expr) → seen view (judged x w e) ≡ seen view (judged y v e)
judged-alike x y h w v k e = rw (same_numbers w v k, same_count w v k) (judge-alike x y h v.numbers e v.count)

pub unscripted : (x : WalkContext) (s : Script) (w : WalkState) → known_at (with_script x s w) ≡ known_at w
unscripted x s w = either x.is_kept _ refl refl
  where
    either : (b : Bool) (u : WalkState) → u.numbers ≡ w.numbers → u.count ≡ w.count → known_at (if b then u else w) ≡ known_at w
    either true u p q = rw (p, q) refl
    either false u p q = refl

-- steps that lead to the same, wherever they begin with the same
abbrev pub WalksAlike : (WalkState → Result WalkState RangeFault) → (WalkState → Result WalkState RangeFault) → Type 0
WalksAlike f g = (w v : WalkState) → known_at w ≡ known_at v → seen known_at (f w) ≡ seen known_at (g v)

-- ---- targets

abbrev pub view_constant : ℤ × WalkState → ℤ × (List KnownNumber × Count)
view_constant p = (p.0, known_at p.1)

constant-same : (place : Place) (i j : Index) → bare_index i ≡ bare_index j → constant_index place i ≡ constant_index place j
constant-same place i j e = unbare i ∙ ap (constant_index place) e ∙ sym (unbare j)
  where
    unbare : (i : Index) → constant_index place i ≡ constant_index place (bare_index i)
    unbare (settled z) = refl
    unbare (unsettled o) = refl

same_steps : {A B D E : Type 0} (out : B → D) (r q : Result A E) (f g : A → Result B E) → r ≡ q
    → ((x : A) → seen out (f x) ≡ seen out (g x)) → seen out (r >>= f) ≡ seen out (q >>= g)
same_steps out (Ok x) q f g e h = rw (sym e) (h x)
same_steps out (Err d) q f g e h = rw (sym e) refl

pub constant-alike : (x y : WalkContext) → Alike x y → (w v : WalkState) → known_at w ≡ known_at v → (e : Expr)
    → seen view_constant (constant_at x w e) ≡ seen view_constant (constant_at y v e)
constant-alike x y h w v k e = steps_same view view_constant (judged x w e) (judged y v e) _ _ (judged-alike x y h w v k e) (λ f g p.
    steps_same bare_index view_constant (index_of (spot_of e) f.0) (index_of (spot_of e) g.0) _ _ (index-same (spot_of e) f.0 g.0 (looks bare f g p)) (λ i j q.
    same_steps view_constant (constant_index (spot_of e).outer i) (constant_index (spot_of e).outer j) _ _ (constant-same (spot_of e).outer i j q) (λ z.
    rw (same_numbers w v k, counts bare f g p) refl)))

pub the_constant : (a b : ℤ × WalkState) → view_constant a ≡ view_constant b → a.0 ≡ b.0
the_constant a b e = ap (λ p. p.0) e

pub its_stand : (a b : ℤ × WalkState) → view_constant a ≡ view_constant b → known_at a.1 ≡ known_at b.1
its_stand a b e = ap (λ p. p.1) e

width-alike : (x y : WalkContext) → Alike x y → (r : ℕ) → width_in x r ≡ width_in y r
width-alike x y h r = ap (λ ws. min 512 (get_or ws r 0)) h.widths

abbrev view_goal : Option Goal × WalkState → Option Goal × (List KnownNumber × Count)
view_goal p = (p.0, known_at p.1)

abbrev aimed : Option Goal → List KnownNumber × Count → Result (Option Goal × (List KnownNumber × Count)) RangeFault
aimed g k = Ok (g, k)

goal-alike : (x y : WalkContext) → Alike x y → (place : Place) (w v : WalkState) → known_at w ≡ known_at v → (t : Target)
    → seen view_goal (goal_at x place w t) ≡ seen view_goal (goal_at y place v t)
goal-alike x y h place w v k (bits r a b) =
    steps_same view_constant view_goal (constant_at x w a) (constant_at y v a) _ _ (constant-alike x y h w v k a) (λ i j p.
    steps_same view_constant view_goal (constant_at x i.1 b) (constant_at y j.1 b) _ _ (constant-alike x y h i.1 j.1 (its_stand i j p) b) (λ l m q.
    rw (width-alike x y h r, the_constant i j p, the_constant l m q)
    (same_steps view_goal (bits_between place (width_in y r) j.0 m.0) (bits_between place (width_in y r) j.0 m.0) _ _ refl (λ u. ap (aimed (Some (goal r u))) (its_stand l m q)))))
goal-alike x y h place w v k (lane r size a) =
    steps_same view_constant view_goal (constant_at x w a) (constant_at y v a) _ _ (constant-alike x y h w v k a) (λ i j p.
    rw (width-alike x y h r, the_constant i j p)
    (same_steps view_goal (bits_of_element place (width_in y r) size j.0) (bits_of_element place (width_in y r) size j.0) _ _ refl (λ u. ap (aimed (Some (goal r u))) (its_stand i j p))))
goal-alike x y h place w v k (whole r width) =
    rw (width-alike x y h r)
    (same_steps view_goal (bits_of_element place (width_in y r) width (pos 0)) (bits_of_element place (width_in y r) width (pos 0)) _ _ refl (λ u. ap (aimed (Some (goal r u))) k))
goal-alike x y h place w v k (number n) = ap (aimed None) k

the_goal : (a b : Option Goal × WalkState) → view_goal a ≡ view_goal b → a.0 ≡ b.0
the_goal a b e = ap (λ p. p.0) e

stand_behind : (a b : Option Goal × WalkState) → view_goal a ≡ view_goal b → known_at a.1 ≡ known_at b.1
stand_behind a b e = ap (λ p. p.1) e

-- ---- assignments

abbrev is_there : Script → Bool
is_there s = true

put-same : (place : Place) (g : Goal) (x y : Word) → seen is_there (put_word place g x) ≡ seen is_there (put_word place g y)
put-same place g x y = if-same is_there (nat_le g.bits.width 128) _ _ _ _ refl refl

stored-bare : (s : Spot) (g : Goal) (f : Found) → seen is_there (stored s g f) ≡ seen is_there (stored s g (bare f))
stored-bare s g (known z v) = refl
stored-bare s g (read b q l v) = if-same is_there (nat_le g.bits.width v) _ _ _ _ refl (put-same s.outer g _ _)
stored-bare s g (handed f q l v) = if-same is_there (nat_le g.bits.width v) _ _ _ _ refl (put-same s.outer g _ _)
stored-bare s g (bit x) = put-same s.outer g _ _
stored-bare s g (within i x) = put-same s.outer g _ _
stored-bare s g (wide x) = put-same s.outer g _ _
stored-bare s g (loose x) = refl

stored-same : (s : Spot) (g : Goal) (f e : Found) → bare f ≡ bare e → seen is_there (stored s g f) ≡ seen is_there (stored s g e)
stored-same s g f e h = stored-bare s g f ∙ ap (λ b. seen is_there (stored s g b)) h ∙ sym (stored-bare s g e)

kept-same : (a b : Operand) → bare_operand a ≡ bare_operand b → kept_of a ≡ kept_of b
kept-same a b e = unbare a ∙ ap kept_of e ∙ sym (unbare b)
  where
    unbare : (a : Operand) → kept_of a ≡ kept_of (bare_operand a)
    unbare (fixed z) = refl
    unbare (moving i x) = refl

abbrev pub known_ok : List KnownNumber × Count → Result (List KnownNumber × Count) RangeFault
known_ok k = Ok k

abbrev setting : WalkState → Target → Operand → WalkState
setting w t a = record { numbers = set w.numbers (target_number t) (kept_of a); count = w.count; script = w.script }

assigned-alike : (x y : WalkContext) (s : Spot) (t : Target) (g : Option Goal) (f e : Found) (w v : WalkState) → bare f ≡ bare e → known_at w ≡ known_at v
    → seen known_at (assigned x s t g f w) ≡ seen known_at (assigned y s t g e v)
assigned-alike x y s t (Some g) f e w v h k = steps_same is_there known_at (stored s g f) (stored s g e) _ _ (stored-same s g f e h) (λ a b p.
    ap known_ok (unscripted x a w ∙ k ∙ sym (unscripted y b v)))
assigned-alike x y s t None f e w v h k = steps_same bare_operand known_at (operand s f) (operand s e) _ _ (operand-same s f e h) (λ a b p.
    ap known_ok (unscripted x (script.give (target_number t) (word_of a)) (setting w t a) ∙ set_alike a b p
    ∙ sym (unscripted y (script.give (target_number t) (word_of b)) (setting v t b))))
  where
    set_alike : (a b : Operand) → bare_operand a ≡ bare_operand b → known_at (setting w t a) ≡ known_at (setting v t b)
    set_alike a b p = rw (same_numbers w v k, same_count w v k, kept-same a b p) refl

pub assign-alike : (x y : WalkContext) → Alike x y → (place : Place) (t : Target) (e : Expr) → WalksAlike (assign_at x place t e) (assign_at y place t e)
assign-alike x y h place t e w v k =
    rw (same_count w v k) (same_steps known_at (step place v.count) (step place v.count) _ _ refl (λ c.
    steps_same view_goal known_at (goal_at x place (at_count w c) t) (goal_at y place (at_count v c) t) _ _
    (goal-alike x y h place (at_count w c) (at_count v c) (rw (same_numbers w v k) refl) t) (λ g i p.
    steps_same view known_at (judged x g.1 e) (judged y i.1 e) _ _ (judged-alike x y h g.1 i.1 (stand_behind g i p) e) (λ f l q.
    rw (the_goal g i p) (assigned-alike x y (spot_of e) t i.0 f.0 l.0 (at_count g.1 f.1) (at_count i.1 l.1) (looks bare f l q)
    (rw (same_numbers g.1 i.1 (stand_behind g i p), counts bare f l q) refl))))))

-- ---- turns

pub turns-alike : (f g : ℤ → WalkState → Result WalkState RangeFault) → ((z : ℤ) → WalksAlike (f z) (g z)) → (place : Place) (n : ℕ) (z : ℤ)
    → WalksAlike (turns_at f place z n) (turns_at g place z n)
turns-alike f g h place zero z w v k = ap known_ok k
turns-alike f g h place (suc n) z w v k =
    rw (same_count w v k) (same_steps known_at (step place v.count) (step place v.count) _ _ refl (λ c.
    steps_same known_at known_at (f z (at_count w c)) (g z (at_count v c)) _ _ (h z (at_count w c) (at_count v c) (rw (same_numbers w v k) refl))
    (turns-alike f g h place n (z +ℤ pos 1))))

pub in_turn-alike : (x y : WalkContext) → Alike x y → (z : ℤ) → Alike (in_turn x z) (in_turn y z)
in_turn-alike x y h z = record { widths = h.widths; constants = h.constants; turns = ap (λ ts. z ∷ ts) h.turns; calls = h.calls }
