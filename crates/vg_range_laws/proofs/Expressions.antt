-- What is found of an expression, of whatever form, is static where nothing that depends on data was met.
use Rattle.std.proofs.Common.{◌≡◌, ℕ, Bool, true, false, List, [], ◌∷◌, get_or}
use Rattle.std.specs.Prelude.{ℤ, pos, nat_lt, if◌then◌else◌, Option, Result, Ok, Err}
use Rattle.std.specs.Ordering.{int_eq}
use Rattle.vg_base.specs.Bind.{◌>>=◌}
use Rattle.vg_text.specs.declared.place.Place.{Place}
use Rattle.vg_pseudo.specs.declared.spot.Spot.{Spot}
use Rattle.vg_pseudo.specs.Resolved.{Expr, literal, counter, variable, slice, element, front, unary, binary, choice, call, Arguments, end, more}
use Rattle.vg_interval.specs.declared.fault.RangeFault.{RangeFault}
use Rattle.vg_interval.specs.Found.{Found, Operand, fixed, moving, word_of, plain, operand, condition, Passed, passed}
use Rattle.vg_interval.specs.Judge.{KnownNumber, Count, step, Walk, Sight, bits_between, bits_of_element, index_of, unary_at, spot_of, no_walk, Judges, branch, chosen, judge, judge_all}
use Rattle.vg_interval.specs.Judge as judging
use Rattle.vg_range_laws.proofs.Settled.{Settled, Gives, gives_where, then_settled, then_plain, anyhow, settled_if}
use Rattle.vg_range_laws.proofs.Operators.{FoundStatic, FirstStatic, OperandStatic, PassedStatic, AllPassedStatic, is_met, operand-static, condition-static, plain-static, word_of-static, passed-static, slice_at-settled, element_at-settled, front-settled, variable-static, unary_at-static, binary_at-settled}

-- a call, wherever it stands
abbrev pub WalkSettles : Walk → Type 0
WalkSettles w =
    (p : Spot) (given : List Passed) (c : Count) → (c.is_dynamic ≡ false → AllPassedStatic given)
    → Settled is_met FirstStatic c.is_dynamic (w p given c)

abbrev pub CallsSettle : List Walk → Type 0
CallsSettle walks = (k : ℕ) → WalkSettles (get_or walks k no_walk)

abbrev JudgesSettle : Judges → Type 0
JudgesSettle f = (c : Count) → Settled is_met FirstStatic c.is_dynamic (f c)

abbrev CountHolds : Count → Type 0
CountHolds c = Unit {0}

abbrev pub flag_of : Count → Bool
flag_of c = c.is_dynamic

pub step-settled : (p : Place) (c : Count) → Settled flag_of CountHolds c.is_dynamic (step p c)
step-settled p c = settled_if flag_of CountHolds c.is_dynamic (nat_lt c.steps 4096) _ _ (λ e. (e, tt)) tt

-- an operand of what was found
pub operand-where : (s : Spot) (f : Found) (b : Bool) → (b ≡ false → FoundStatic f) → Gives (λ a. b ≡ false → OperandStatic a) (operand s f)
operand-where s f b h = gives_where (b ≡ false) OperandStatic (operand s f) (λ e. operand-static s f (h e))

abbrev OperandFirst : Operand × Count → Type 0
OperandFirst p = OperandStatic p.0

branch-settled : (s : Spot) (f : Judges) → JudgesSettle f → (c : Count) → Settled is_met OperandFirst c.is_dynamic (branch s f c)
branch-settled s f h c =
    then_settled is_met FirstStatic is_met OperandFirst c.is_dynamic (f c) _ (h c) (λ g k.
    then_plain (λ a. g.1.is_dynamic ≡ false → OperandStatic a) is_met OperandFirst g.1.is_dynamic (operand s g.0) _
    (operand-where s g.0 g.1.is_dynamic (λ e. (k e).1)) (λ a n e. (e, n e)))

chosen-settled : (s : Spot) (first : Judges) (t : Spot) (second : Judges) (f : Found) (a : Operand) (c : Count) → JudgesSettle first → JudgesSettle second
    → (c.is_dynamic ≡ false → FoundStatic f) → (c.is_dynamic ≡ false → OperandStatic a) → Settled is_met FirstStatic c.is_dynamic (chosen s first t second f a c)
chosen-settled s first t second f (fixed z) c h g k n =
    then_settled is_met OperandFirst is_met FirstStatic c.is_dynamic (if int_eq z (pos 0) then branch t second c else branch s first c) _
    (settled_if is_met OperandFirst c.is_dynamic (int_eq z (pos 0)) _ _ (branch-settled t second g c) (branch-settled s first h c))
    (λ a m e. (e, plain-static a.0 (m e).1))
chosen-settled s first t second f (moving i w) c h g k n =
    then_settled is_met OperandFirst is_met FirstStatic c.is_dynamic (branch s first c) _ (branch-settled s first h c) (λ a m.
    then_settled is_met OperandFirst is_met FirstStatic a.1.is_dynamic (branch t second a.1) _ (branch-settled t second g a.1) (λ b o e.
    let x = o e in
    let y = m x.0 in
    (e, (condition-static f (moving i w) (k y.0) (n y.0), word_of-static a.0 y.1, word_of-static b.0 x.1))))

abbrev AllFirst : List Passed × Count → Type 0
AllFirst p = AllPassedStatic p.0

mutual
  pub judge-settled : (s : Sight) → CallsSettle s.walks → (ks : List KnownNumber) (e : Expr) (c : Count) → Settled is_met FirstStatic c.is_dynamic (judge s ks e c)
  judge-settled s w ks (literal p n) c = λ e. (e, tt)
  judge-settled s w ks (counter p k) c = λ e. (e, tt)
  judge-settled s w ks (variable p k) c = λ e. (e, variable-static k (get_or ks k (judging.constant (pos 0))))
  judge-settled s w ks (slice p b r n h l) c =
      then_settled is_met FirstStatic is_met FirstStatic c.is_dynamic (judge s ks h c) _ (judge-settled s w ks h c) (λ f i.
      then_plain (λ x. Unit {0}) is_met FirstStatic f.1.is_dynamic (index_of (spot_of h) f.0) _ (anyhow _) (λ high u.
      then_settled is_met FirstStatic is_met FirstStatic f.1.is_dynamic (judge s ks l f.1) _ (judge-settled s w ks l f.1) (λ g j.
      then_plain (λ x. Unit {0}) is_met FirstStatic g.1.is_dynamic (index_of (spot_of l) g.0) _ (anyhow _) (λ low v.
      slice_at-settled s p.inner b r n high low g.1))))
  judge-settled s w ks (element p b r size k) c =
      then_settled is_met FirstStatic is_met FirstStatic c.is_dynamic (judge s ks k c) _ (judge-settled s w ks k c) (λ f i.
      then_plain (λ x. Unit {0}) is_met FirstStatic f.1.is_dynamic (index_of (spot_of k) f.0) _ (anyhow _) (λ index u.
      element_at-settled s p.inner b r size index f.1))
  judge-settled s w ks (front p b r width) c = front-settled s b r (bits_of_element p.inner (get_or s.widths r 0) width (pos 0)) c
  judge-settled s w ks (unary p op x) c =
      then_settled is_met FirstStatic is_met FirstStatic c.is_dynamic (judge s ks x c) _ (judge-settled s w ks x c) (λ f i.
      then_plain (λ g. f.1.is_dynamic ≡ false → FoundStatic g) is_met FirstStatic f.1.is_dynamic (unary_at p op (spot_of x) f.0) _
      (gives_where (f.1.is_dynamic ≡ false) FoundStatic _ (λ e. unary_at-static p op (spot_of x) f.0 (i e).1)) (λ g n e. (e, n e)))
  judge-settled s w ks (binary p op x y) c =
      then_settled is_met FirstStatic is_met FirstStatic c.is_dynamic (judge s ks x c) _ (judge-settled s w ks x c) (λ f i.
      then_plain (λ a. f.1.is_dynamic ≡ false → OperandStatic a) is_met FirstStatic f.1.is_dynamic (operand (spot_of x) f.0) _
      (operand-where (spot_of x) f.0 f.1.is_dynamic (λ e. (i e).1)) (λ a m.
      then_settled is_met FirstStatic is_met FirstStatic f.1.is_dynamic (judge s ks y f.1) _ (judge-settled s w ks y f.1) (λ g j.
      then_plain (λ b. g.1.is_dynamic ≡ false → OperandStatic b) is_met FirstStatic g.1.is_dynamic (operand (spot_of y) g.0) _
      (operand-where (spot_of y) g.0 g.1.is_dynamic (λ e. (j e).1)) (λ b o.
      binary_at-settled p op (spot_of y) a b g.1 (λ e. m (j e).0) o))))
  judge-settled s w ks (choice p e x y) c =
      then_settled is_met FirstStatic is_met FirstStatic c.is_dynamic (judge s ks e c) _ (judge-settled s w ks e c) (λ f i.
      then_plain (λ a. f.1.is_dynamic ≡ false → OperandStatic a) is_met FirstStatic f.1.is_dynamic (operand (spot_of e) f.0) _
      (operand-where (spot_of e) f.0 f.1.is_dynamic (λ d. (i d).1)) (λ a m.
      chosen-settled (spot_of x) (judge s ks x) (spot_of y) (judge s ks y) f.0 a f.1 (judge-settled s w ks x) (judge-settled s w ks y) (λ d. (i d).1) m))
  judge-settled s w ks (call p k xs) c =
      then_settled flag_of CountHolds is_met FirstStatic c.is_dynamic (step p.inner c) _ (step-settled p.inner c) (λ d i.
      then_settled is_met AllFirst is_met FirstStatic d.is_dynamic (judge_all s ks xs d) _ (judge_all-settled s w ks xs d) (λ g j.
      w k p g.0 g.1 (λ e. (j e).1)))

  judge_all-settled : (s : Sight) → CallsSettle s.walks → (ks : List KnownNumber) (xs : Arguments) (c : Count) → Settled is_met AllFirst c.is_dynamic (judge_all s ks xs c)
  judge_all-settled s w ks end c = λ e. (e, tt)
  judge_all-settled s w ks (more x xs) c =
      then_settled is_met FirstStatic is_met AllFirst c.is_dynamic (judge s ks x c) _ (judge-settled s w ks x c) (λ f i.
      then_plain (λ p. f.1.is_dynamic ≡ false → PassedStatic p) is_met AllFirst f.1.is_dynamic (passed (spot_of x) f.0) _
      (gives_where (f.1.is_dynamic ≡ false) PassedStatic _ (λ e. passed-static (spot_of x) f.0 (i e).1)) (λ p m.
      then_settled is_met AllFirst is_met AllFirst f.1.is_dynamic (judge_all s ks xs f.1) _ (judge_all-settled s w ks xs f.1) (λ rest j e.
      let n = j e in
      (e, (m n.0, n.1)))))
