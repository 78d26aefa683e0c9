-- Lists of statements, IFs and CASEs are walked the same but for scripts.
use Rattle.std.proofs.Common.{◌≡◌, ℕ, refl, sym, ap, ◌∙◌, List, []}
use Rattle.std.specs.Prelude.{ℤ, pos, Result, Ok}
use Rattle.std.specs.Ordering.{int_eq}
use Rattle.vg_text.specs.declared.place.Place.{Place}
use Rattle.vg_pseudo.specs.Resolved.{Expr, Target, Code, stop, assign, skip, repeat, choose, way, last, pick, arm}
use Rattle.vg_pseudo.specs.Value.{count}
use Rattle.vg_interval.specs.declared.fault.RangeFault.{RangeFault}
use Rattle.vg_interval.specs.Found.{Operand, fixed, moving, operand, condition}
use Rattle.vg_interval.specs.Judge.{KnownNumber, Count, step, spot_of, judge}
use Rattle.vg_range.specs.Walk.{WalkState, at_count, WalkContext, judged, constant_at, assign_at, in_turn, turns_at, Ways, no_ways, joined_with, with_way, branch_of, closed, beginning, Arms, pick_of, with_arm, arms_of, way_taken, walk, walk_ways, arm_taken, all_arms}
use Rattle.vg_range.proofs.Bare.{seen, steps_same, if-same, bare, bare_operand, operand-same, view}
use Rattle.vg_range.proofs.Judged.{looks, counts}
use Rattle.vg_range.proofs.Alike.{Alike, judge-alike, known_at, same_numbers, same_count, judged-alike, unscripted, WalksAlike, view_constant, known_ok, constant-alike, the_constant, its_stand, assign-alike, turns-alike, in_turn-alike}

-- ---- ways

-- what is known after the last way
closed-known : (x : WalkContext) (w v : WalkState) (found : Ways) → known_at (closed x w found v) ≡ (joined_with found.joined v.numbers, v.count)
closed-known x w v found =
    unscripted x (branch_of found.scripts v.script) (record { numbers = joined_with found.joined v.numbers; count = v.count; script = w.script })

closed-alike : (x y : WalkContext) (w v t u : WalkState) (found other : Ways) → found.joined ≡ other.joined → known_at t ≡ known_at u
    → known_at (closed x w found t) ≡ known_at (closed y v other u)
closed-alike x y w v t u found other j k =
    closed-known x w t found ∙ rw (j, same_numbers t u k, same_count t u k) (sym (closed-known y v u other))

way_taken-alike : (a b : Operand) (r q : Result WalkState RangeFault) (f g : WalkState → Result WalkState RangeFault) (o p : Result WalkState RangeFault) (c d : WalkState → WalkState)
    → bare_operand a ≡ bare_operand b → seen known_at r ≡ seen known_at q → WalksAlike f g → seen known_at o ≡ seen known_at p
    → ((w v : WalkState) → known_at w ≡ known_at v → known_at (c w) ≡ known_at (d v))
    → seen known_at (way_taken a r f o c) ≡ seen known_at (way_taken b q g p d)
way_taken-alike (fixed y) (fixed z) r q f g o p c d e body more others only =
    rw (fixed_same e) (if-same known_at (int_eq z (pos 0)) _ _ _ _ others
    (steps_same known_at known_at r q _ _ body (λ w v k. ap known_ok (only w v k))))
  where
    fixed_same : {y z : ℤ} → fixed y ≡ fixed z → y ≡ z
    fixed_same e = cc
way_taken-alike (fixed y) (moving m z) r q f g o p c d e body more others only = absurd (cc)
way_taken-alike (moving m y) (fixed z) r q f g o p c d e body more others only = absurd (cc)
way_taken-alike (moving m y) (moving n z) r q f g o p c d e body more others only = steps_same known_at known_at r q f g body more

-- ---- arms

abbrev view_arms : Arms × Count → List KnownNumber × Count
view_arms p = (p.0.joined, p.1)

abbrev behind_arms : WalkState → Arms × Count → WalkState
behind_arms w s = record { numbers = s.0.joined; count = s.1; script = w.script }

arms_of-alike : (x y : WalkContext) (w v : WalkState) (a b : Operand) (f g : WalkState → ℤ → Result WalkState RangeFault)
    (all some : WalkState → Arms → Count → Result (Arms × Count) RangeFault) → known_at w ≡ known_at v → bare_operand a ≡ bare_operand b
    → ((z : ℤ) → seen known_at (f w z) ≡ seen known_at (g v z))
    → ((found other : Arms) (n : Count) → found.joined ≡ other.joined → seen view_arms (all w found n) ≡ seen view_arms (some v other n))
    → seen known_at (arms_of x w a f all) ≡ seen known_at (arms_of y v b g some)
arms_of-alike x y w v (fixed i) (fixed j) f g all some k e one each = ap (λ z. seen known_at (f w z)) (fixed_same e) ∙ one j
  where
    fixed_same : {y z : ℤ} → fixed y ≡ fixed z → y ≡ z
    fixed_same e = cc
arms_of-alike x y w v (fixed i) (moving n j) f g all some k e one each = absurd (cc)
arms_of-alike x y w v (moving m i) (fixed j) f g all some k e one each = absurd (cc)
arms_of-alike x y w v (moving m i) (moving n j) f g all some k e one each =
    let begun : Arms = record { scripts = []; joined = w.numbers } in
    let other : Arms = record { scripts = []; joined = v.numbers } in
    steps_same view_arms known_at (all w begun w.count) (some v other v.count) _ _
    (ap (λ c. seen view_arms (all w begun c)) (same_count w v k) ∙ each begun other v.count (same_numbers w v k)) (λ s t p.
    ap known_ok (unscripted x (pick_of i s.0.scripts) (behind_arms w s) ∙ p ∙ sym (unscripted y (pick_of j t.0.scripts) (behind_arms v t))))

-- ---- statements

-- What is to be shown of statements: that they are walked alike, also as the ways of an IF and as the arms of a CASE.
record Same (d : Code) : Type 0 where
  pub walks : (x y : WalkContext) → Alike x y → WalksAlike (walk x d) (walk y d)
  pub ways : (x y : WalkContext) → Alike x y → (w v : WalkState) (found other : Ways) (n : Count) → known_at w ≡ known_at v → found.joined ≡ other.joined
      → seen known_at (walk_ways x d w found n) ≡ seen known_at (walk_ways y d v other n)
  pub one_arm : (x y : WalkContext) → Alike x y → (w v : WalkState) (z : ℤ) → known_at w ≡ known_at v
      → seen known_at (arm_taken x d w z) ≡ seen known_at (arm_taken y d v z)
  pub arms : (x y : WalkContext) → Alike x y → (w v : WalkState) (found other : Arms) (n : Count) → known_at w ≡ known_at v → found.joined ≡ other.joined
      → seen view_arms (all_arms x d w found n) ≡ seen view_arms (all_arms y d v other n)

abbrev went : WalkState → Result WalkState RangeFault
went w = Ok w

abbrev picked : Arms × Count → Result (Arms × Count) RangeFault
picked p = Ok p

-- what is no way and no arm
no-ways : (x y : WalkContext) (w v : WalkState) (found other : Ways) (n : Count) → known_at w ≡ known_at v → found.joined ≡ other.joined
    → seen known_at (went (closed x w found (beginning w n))) ≡ seen known_at (went (closed y v other (beginning v n)))
no-ways x y w v found other n k j =
    ap known_ok (closed-alike x y w v (beginning w n) (beginning v n) found other j (ap (λ ks. (ks, n)) (same_numbers w v k)))

no-arms : (found other : Arms) (n : Count) → found.joined ≡ other.joined → seen view_arms (picked (found, n)) ≡ seen view_arms (picked (other, n))
no-arms found other n j = ap (λ ks. known_ok (ks, n)) j

stop-same : Same stop
stop-same = record {
  walks = λ x y h w v k. ap known_ok k;
  ways = λ x y h w v found other n k j. no-ways x y w v found other n k j;
  one_arm = λ x y h w v z k. ap known_ok k;
  arms = λ x y h w v found other n k j. no-arms found other n j;
}

assign-same : (p : Place) (t : Target) (a : Expr) (rest : Code) → Same rest → Same (assign p t a rest)
assign-same p t a rest q = record {
  walks = λ x y h w v k. steps_same known_at known_at (assign_at x p t a w) (assign_at y p t a v) _ _ (assign-alike x y h p t a w v k) (q.walks x y h);
  ways = λ x y h w v found other n k j. no-ways x y w v found other n k j;
  one_arm = λ x y h w v z k. ap known_ok k;
  arms = λ x y h w v found other n k j. no-arms found other n j;
}

skip-walks : (p : Place) (rest : Code) → Same rest → (x y : WalkContext) → Alike x y → WalksAlike (walk x (skip p rest)) (walk y (skip p rest))
skip-walks p rest q x y h w v k =
    rw (same_count w v k) (steps_same (λ n. n) known_at (step p v.count) (step p v.count) _ _ refl (λ m n e.
    rw e (q.walks x y h (at_count w n) (at_count v n) (ap (λ ks. (ks, n)) (same_numbers w v k)))))

skip-same : (p : Place) (rest : Code) → Same rest → Same (skip p rest)
skip-same p rest q = record {
  walks = skip-walks p rest q;
  ways = λ x y h w v found other n k j. no-ways x y w v found other n k j;
  one_arm = λ x y h w v z k. ap known_ok k;
  arms = λ x y h w v found other n k j. no-arms found other n j;
}

repeat-walks : (p : Place) (a b : Expr) (body rest : Code) → Same body → Same rest → (x y : WalkContext) → Alike x y
    → WalksAlike (walk x (repeat p a b body rest)) (walk y (repeat p a b body rest))
repeat-walks p a b body rest i q x y h w v k =
    steps_same view_constant known_at (constant_at x w a) (constant_at y v a) _ _ (constant-alike x y h w v k a) (λ f g e.
    steps_same view_constant known_at (constant_at x f.1 b) (constant_at y g.1 b) _ _ (constant-alike x y h f.1 g.1 (its_stand f g e) b) (λ l m o.
    rw (the_constant f g e, the_constant l m o)
    (steps_same known_at known_at
    (turns_at (λ z u. walk (in_turn x z) body u) p g.0 (count g.0 m.0) l.1)
    (turns_at (λ z u. walk (in_turn y z) body u) p g.0 (count g.0 m.0) m.1) _ _
    (turns-alike (λ z u. walk (in_turn x z) body u) (λ z u. walk (in_turn y z) body u)
    (λ z. i.walks (in_turn x z) (in_turn y z) (in_turn-alike x y h z)) p (count g.0 m.0) g.0 l.1 m.1 (its_stand l m o))
    (q.walks x y h))))

repeat-same : (p : Place) (a b : Expr) (body rest : Code) → Same body → Same rest → Same (repeat p a b body rest)
repeat-same p a b body rest i q = record {
  walks = repeat-walks p a b body rest i q;
  ways = λ x y h w v found other n k j. no-ways x y w v found other n k j;
  one_arm = λ x y h w v z k. ap known_ok k;
  arms = λ x y h w v found other n k j. no-arms found other n j;
}

choose-walks : (inner rest : Code) → Same inner → Same rest → (x y : WalkContext) → Alike x y → WalksAlike (walk x (choose inner rest)) (walk y (choose inner rest))
choose-walks inner rest i q x y h w v k =
    steps_same known_at known_at (walk_ways x inner w no_ways w.count) (walk_ways y inner v no_ways v.count) _ _
    (ap (λ c. seen known_at (walk_ways x inner w no_ways c)) (same_count w v k) ∙ i.ways x y h w v no_ways no_ways v.count k refl) (q.walks x y h)

choose-same : (inner rest : Code) → Same inner → Same rest → Same (choose inner rest)
choose-same inner rest i q = record {
  walks = choose-walks inner rest i q;
  ways = λ x y h w v found other n k j. no-ways x y w v found other n k j;
  one_arm = λ x y h w v z k. ap known_ok k;
  arms = λ x y h w v found other n k j. no-arms found other n j;
}

begin-alike : (w v : WalkState) (n : Count) → known_at w ≡ known_at v → known_at (beginning w n) ≡ known_at (beginning v n)
begin-alike w v n k = ap (λ ks. (ks, n)) (same_numbers w v k)

way-ways : (a : Expr) (body more : Code) → Same body → Same more → (x y : WalkContext) → Alike x y → (w v : WalkState) (found other : Ways) (n : Count)
    → known_at w ≡ known_at v → found.joined ≡ other.joined
    → seen known_at (walk_ways x (way a body more) w found n) ≡ seen known_at (walk_ways y (way a body more) v other n)
way-ways a body more i q x y h w v found other n k j =
    steps_same view known_at (judge x.sight w.numbers a n) (judge y.sight v.numbers a n) _ _
    (judge-alike x y h w.numbers a n ∙ ap (λ ks. seen view (judge y.sight ks a n)) (same_numbers w v k)) (λ f g e.
    steps_same bare_operand known_at (operand (spot_of a) f.0) (operand (spot_of a) g.0) _ _ (operand-same (spot_of a) f.0 g.0 (looks bare f g e)) (λ l m o.
    rw (counts bare f g e) (way_taken-alike l m
    (walk x body (beginning w g.1)) (walk y body (beginning v g.1))
    (λ u. walk_ways x more w (with_way x (condition f.0 l) u found) u.count) (λ u. walk_ways y more v (with_way y (condition g.0 m) u other) u.count)
    (walk_ways x more w found g.1) (walk_ways y more v other g.1) (closed x w found) (closed y v other) o
    (i.walks x y h (beginning w g.1) (beginning v g.1) (begin-alike w v g.1 k))
    (λ t u p. rw (same_count t u p) (q.ways x y h w v (with_way x (condition f.0 l) t found) (with_way y (condition g.0 m) u other) u.count k (rw (j, same_numbers t u p) refl)))
    (q.ways x y h w v found other g.1 k j)
    (λ t u p. closed-alike x y w v t u found other j p))))

way-same : (a : Expr) (body more : Code) → Same body → Same more → Same (way a body more)
way-same a body more i q = record {
  walks = λ x y h w v k. ap known_ok k;
  ways = way-ways a body more i q;
  one_arm = λ x y h w v z k. ap known_ok k;
  arms = λ x y h w v found other n k j. no-arms found other n j;
}

last-same : (body : Code) → Same body → Same (last body)
last-same body i = record {
  walks = λ x y h w v k. ap known_ok k;
  ways = λ x y h w v found other n k j. steps_same known_at known_at (walk x body (beginning w n)) (walk y body (beginning v n)) _ _
      (i.walks x y h (beginning w n) (beginning v n) (begin-alike w v n k)) (λ t u p. ap known_ok (closed-alike x y w v t u found other j p));
  one_arm = λ x y h w v z k. ap known_ok k;
  arms = λ x y h w v found other n k j. no-arms found other n j;
}

pick-walks : (a : Expr) (inner rest : Code) → Same inner → Same rest → (x y : WalkContext) → Alike x y → WalksAlike (walk x (pick a inner rest)) (walk y (pick a inner rest))
pick-walks a inner rest i q x y h w v k =
    steps_same view known_at (judged x w a) (judged y v a) _ _ (judged-alike x y h w v k a) (λ f g e.
    steps_same bare_operand known_at (operand (spot_of a) f.0) (operand (spot_of a) g.0) _ _ (operand-same (spot_of a) f.0 g.0 (looks bare f g e)) (λ l m o.
    let at : known_at (at_count w f.1) ≡ known_at (at_count v g.1) = rw (same_numbers w v k, counts bare f g e) refl in
    steps_same known_at known_at
    (arms_of x (at_count w f.1) l (arm_taken x inner) (all_arms x inner)) (arms_of y (at_count v g.1) m (arm_taken y inner) (all_arms y inner)) _ _
    (arms_of-alike x y (at_count w f.1) (at_count v g.1) l m (arm_taken x inner) (arm_taken y inner) (all_arms x inner) (all_arms y inner) at o
    (λ z. i.one_arm x y h (at_count w f.1) (at_count v g.1) z at)
    (λ found other n j. i.arms x y h (at_count w f.1) (at_count v g.1) found other n at j))
    (q.walks x y h)))

pick-same : (a : Expr) (inner rest : Code) → Same inner → Same rest → Same (pick a inner rest)
pick-same a inner rest i q = record {
  walks = pick-walks a inner rest i q;
  ways = λ x y h w v found other n k j. no-ways x y w v found other n k j;
  one_arm = λ x y h w v z k. ap known_ok k;
  arms = λ x y h w v found other n k j. no-arms found other n j;
}

arm-same : (m : ℕ) (body more : Code) → Same body → Same more → Same (arm m body more)
arm-same m body more i q = record {
  walks = λ x y h w v k. ap known_ok k;
  ways = λ x y h w v found other n k j. no-ways x y w v found other n k j;
  one_arm = λ x y h w v z k. if-same known_at (int_eq z (pos m)) _ _ _ _ (i.walks x y h w v k) (q.one_arm x y h w v z k);
  arms = λ x y h w v found other n k j. steps_same known_at view_arms (walk x body (beginning w n)) (walk y body (beginning v n)) _ _
      (i.walks x y h (beginning w n) (beginning v n) (begin-alike w v n k)) (λ t u p.
      rw (same_count t u p) (q.arms x y h w v (with_arm x m t found) (with_arm y m u other) u.count k (rw (j, same_numbers t u p) refl)));
}

same : (d : Code) → Same d
same stop = stop-same
same (assign p t a rest) = assign-same p t a rest (same rest)
same (skip p rest) = skip-same p rest (same rest)
same (repeat p a b body rest) = repeat-same p a b body rest (same body) (same rest)
same (choose inner rest) = choose-same inner rest (same inner) (same rest)
same (way a body more) = way-same a body more (same body) (same more)
same (last body) = last-same body (same body)
same (pick a inner rest) = pick-same a inner rest (same inner) (same rest)
same (arm n body more) = arm-same n body more (same body) (same more)

pub walk-alike : (d : Code) (x y : WalkContext) → Alike x y → WalksAlike (walk x d) (walk y d)
walk-alike d = (same d).walks
