-- What is found of an expression is the same but for its words, where what calls give is.
use Rattle.std.proofs.Common.{◌≡◌, ℕ, refl, ap, Bool, true, false, List, get_or}
use Rattle.std.specs.Prelude.{ℤ, pos, if◌then◌else◌, Option, Result, Ok}
use Rattle.std.specs.Ordering.{int_eq}
use Rattle.vg_base.specs.Bind.{◌>>=◌}
use Rattle.vg_pseudo.specs.declared.spot.Spot.{Spot}
use Rattle.vg_pseudo.specs.Resolved.{Expr, literal, counter, variable, slice, element, front, unary, binary, choice, call, Arguments, end, more}
use Rattle.vg_interval.specs.declared.fault.RangeFault.{RangeFault}
use Rattle.vg_interval.specs.Found.{Found, Operand, fixed, moving, plain, operand, Passed, passed}
use Rattle.vg_interval.specs.Judge.{KnownNumber, Count, step, Walk, index_of, unary_at, spot_of, no_walk, Judges, branch, chosen, judge, judge_all}
use Rattle.vg_range.proofs.Bare.{seen, steps_same, bare, bare_operand, bare_index, bare_passed, all_bare, counted, operand-same, passed-same, index-same, plain-same, span-same, sight_of, view, slice-same, element-same, unary-same, binary-same}

-- what is counted and looks the same
pub looks : {A B : Type 0} (v : A → B) (x y : A × Count) → counted v x ≡ counted v y → v x.0 ≡ v y.0
looks v x y e = ap (λ p. p.0) e

pub counts : {A B : Type 0} (v : A → B) (x y : A × Count) → counted v x ≡ counted v y → x.1 ≡ y.1
counts v x y e = ap (λ p. p.1) e

-- calls that give the same but for words, for arguments that are the same but for words
abbrev pub CallsSame : Walk → Walk → Type 0
CallsSame u v = (s : Spot) (ps qs : List Passed) (c : Count) → all_bare ps ≡ all_bare qs → seen view (u s ps c) ≡ seen view (v s qs c)

abbrev pub AllSame : List Walk → List Walk → Type 0
AllSame us vs = (k : ℕ) → CallsSame (get_or us k no_walk) (get_or vs k no_walk)

-- ---- choices

abbrev JudgesSame : Judges → Judges → Type 0
JudgesSame j k = (c : Count) → seen view (j c) ≡ seen view (k c)

abbrev view_operand : Operand × Count → Operand × Count
view_operand p = counted bare_operand p

abbrev operand_with : Operand → Count → Result (Operand × Count) RangeFault
operand_with a c = Ok (a, c)

branch-same : (s : Spot) (j k : Judges) (c : Count) → JudgesSame j k → seen view_operand (branch s j c) ≡ seen view_operand (branch s k c)
branch-same s j k c h = steps_same view view_operand (j c) (k c) _ _ (h c) (λ x y e.
    steps_same bare_operand view_operand (operand s x.0) (operand s y.0) _ _ (operand-same s x.0 y.0 (looks bare x y e)) (λ a b p.
    rw (p, counts bare x y e) refl))

abbrev plain_ok : Operand × Count → Result (Found × Count) RangeFault
plain_ok a = Ok (plain a.0, a.1)

chosen-same : (s t : Spot) (i j k l : Judges) (f g : Found) (a b : Operand) (c : Count) → JudgesSame i j → JudgesSame k l → bare_operand a ≡ bare_operand b
    → seen view (chosen s i t k f a c) ≡ seen view (chosen s j t l g b c)
chosen-same s t i j k l f g (fixed y) (fixed z) c p q e = rw (fixed_same e) (settles (int_eq z (pos 0)))
  where
    fixed_same : {y z : ℤ} → fixed y ≡ fixed z → y ≡ z
    fixed_same e = cc

    settles : (o : Bool)
        → seen view ((if o then branch t k c else branch s i c) >>= λ a. plain_ok a)
        ≡ seen view ((if o then branch t l c else branch s j c) >>= λ a. plain_ok a)
    settles true = steps_same view_operand view (branch t k c) (branch t l c) _ _ (branch-same t k l c q) (λ x y e.
        rw (plain-same x.0 y.0 (looks bare_operand x y e), counts bare_operand x y e) refl)
    settles false = steps_same view_operand view (branch s i c) (branch s j c) _ _ (branch-same s i j c p) (λ x y e.
        rw (plain-same x.0 y.0 (looks bare_operand x y e), counts bare_operand x y e) refl)
chosen-same s t i j k l f g (fixed y) (moving m z) c p q e = absurd (cc)
chosen-same s t i j k l f g (moving m y) (fixed z) c p q e = absurd (cc)
chosen-same s t i j k l f g (moving m y) (moving o z) c p q e =
    steps_same view_operand view (branch s i c) (branch s j c) _ _ (branch-same s i j c p) (λ a b h.
    rw (counts bare_operand a b h) (steps_same view_operand view (branch t k b.1) (branch t l b.1) _ _ (branch-same t k l b.1 q) (λ u v r.
    rw (span-same a.0 b.0 (looks bare_operand a b h), span-same u.0 v.0 (looks bare_operand u v r), counts bare_operand u v r) refl)))

-- ---- expressions

abbrev pub view_passed : List Passed × Count → List Passed × Count
view_passed p = counted all_bare p

abbrev found_with : Found → Count → Result (Found × Count) RangeFault
found_with f c = Ok (f, c)

mutual
  pub judge-same : (e : Expr) (ws : List ℕ) (cs : List (Option ℕ)) (ts : List ℤ) (us vs : List Walk) → AllSame us vs → (ks : List KnownNumber) (c : Count)
      → seen view (judge (sight_of ws cs ts us) ks e c) ≡ seen view (judge (sight_of ws cs ts vs) ks e c)
  judge-same (literal p n) ws cs ts us vs h ks c = refl
  judge-same (counter p k) ws cs ts us vs h ks c = refl
  judge-same (variable p k) ws cs ts us vs h ks c = refl
  judge-same (slice place g r n x y) ws cs ts us vs h ks c =
      let s = sight_of ws cs ts us in
      let t = sight_of ws cs ts vs in
      steps_same view view (judge s ks x c) (judge t ks x c) _ _ (judge-same x ws cs ts us vs h ks c) (λ a b e.
      steps_same bare_index view (index_of (spot_of x) a.0) (index_of (spot_of x) b.0) _ _ (index-same (spot_of x) a.0 b.0 (looks bare a b e)) (λ i j p.
      rw (counts bare a b e) (steps_same view view (judge s ks y b.1) (judge t ks y b.1) _ _ (judge-same y ws cs ts us vs h ks b.1) (λ u v q.
      steps_same bare_index view (index_of (spot_of y) u.0) (index_of (spot_of y) v.0) _ _ (index-same (spot_of y) u.0 v.0 (looks bare u v q)) (λ l m o.
      rw (counts bare u v q) (slice-same ws cs ts us vs place.inner g r n i j l m v.1 p o))))))
  judge-same (element p g r size k) ws cs ts us vs h ks c =
      let s = sight_of ws cs ts us in
      let t = sight_of ws cs ts vs in
      steps_same view view (judge s ks k c) (judge t ks k c) _ _ (judge-same k ws cs ts us vs h ks c) (λ a b e.
      steps_same bare_index view (index_of (spot_of k) a.0) (index_of (spot_of k) b.0) _ _ (index-same (spot_of k) a.0 b.0 (looks bare a b e)) (λ i j q.
      rw (counts bare a b e) (element-same ws cs ts us vs p.inner g r size i j b.1 q)))
  judge-same (front p g r width) ws cs ts us vs h ks c = refl
  judge-same (unary p op x) ws cs ts us vs h ks c =
      let s = sight_of ws cs ts us in
      let t = sight_of ws cs ts vs in
      steps_same view view (judge s ks x c) (judge t ks x c) _ _ (judge-same x ws cs ts us vs h ks c) (λ a b e.
      steps_same bare view (unary_at p op (spot_of x) a.0) (unary_at p op (spot_of x) b.0) _ _ (unary-same p op (spot_of x) a.0 b.0 (looks bare a b e)) (λ f g q.
      rw (counts bare a b e) (ap (λ f. found_with f b.1) q)))
  judge-same (binary p op x y) ws cs ts us vs h ks c =
      let s = sight_of ws cs ts us in
      let t = sight_of ws cs ts vs in
      steps_same view view (judge s ks x c) (judge t ks x c) _ _ (judge-same x ws cs ts us vs h ks c) (λ a b e.
      steps_same bare_operand view (operand (spot_of x) a.0) (operand (spot_of x) b.0) _ _ (operand-same (spot_of x) a.0 b.0 (looks bare a b e)) (λ i j q.
      rw (counts bare a b e) (steps_same view view (judge s ks y b.1) (judge t ks y b.1) _ _ (judge-same y ws cs ts us vs h ks b.1) (λ u v o.
      steps_same bare_operand view (operand (spot_of y) u.0) (operand (spot_of y) v.0) _ _ (operand-same (spot_of y) u.0 v.0 (looks bare u v o)) (λ l m n.
      rw (counts bare u v o) (binary-same p op (spot_of y) i l j m v.1 q n))))))
  judge-same (choice p z x y) ws cs ts us vs h ks c =
      let s = sight_of ws cs ts us in
      let t = sight_of ws cs ts vs in
      steps_same view view (judge s ks z c) (judge t ks z c) _ _ (judge-same z ws cs ts us vs h ks c) (λ a b e.
      steps_same bare_operand view (operand (spot_of z) a.0) (operand (spot_of z) b.0) _ _ (operand-same (spot_of z) a.0 b.0 (looks bare a b e)) (λ i j q.
      rw (counts bare a b e) (chosen-same (spot_of x) (spot_of y) (judge s ks x) (judge t ks x) (judge s ks y) (judge t ks y) a.0 b.0 i j b.1
      (judge-same x ws cs ts us vs h ks) (judge-same y ws cs ts us vs h ks) q)))
  judge-same (call p k xs) ws cs ts us vs h ks c =
      let s = sight_of ws cs ts us in
      let t = sight_of ws cs ts vs in
      steps_same (λ n. n) view (step p.inner c) (step p.inner c) _ _ refl (λ m n e.
      rw e (steps_same view_passed view (judge_all s ks xs n) (judge_all t ks xs n) _ _ (all-judged xs ws cs ts us vs h ks n) (λ a b q.
      rw (counts all_bare a b q) (h k p a.0 b.0 b.1 (looks all_bare a b q)))))

  pub all-judged : (xs : Arguments) (ws : List ℕ) (cs : List (Option ℕ)) (ts : List ℤ) (us vs : List Walk) → AllSame us vs → (ks : List KnownNumber) (c : Count)
      → seen view_passed (judge_all (sight_of ws cs ts us) ks xs c) ≡ seen view_passed (judge_all (sight_of ws cs ts vs) ks xs c)
  all-judged end ws cs ts us vs h ks c = refl
  all-judged (more x xs) ws cs ts us vs h ks c =
      let s = sight_of ws cs ts us in
      let t = sight_of ws cs ts vs in
      steps_same view view_passed (judge s ks x c) (judge t ks x c) _ _ (judge-same x ws cs ts us vs h ks c) (λ a b e.
      steps_same bare_passed view_passed (passed (spot_of x) a.0) (passed (spot_of x) b.0) _ _ (passed-same (spot_of x) a.0 b.0 (looks bare a b e)) (λ i j q.
      rw (counts bare a b e) (steps_same view_passed view_passed (judge_all s ks xs b.1) (judge_all t ks xs b.1) _ _ (all-judged xs ws cs ts us vs h ks b.1) (λ u v o.
      rw (q, looks all_bare u v o, counts all_bare u v o) refl))))
