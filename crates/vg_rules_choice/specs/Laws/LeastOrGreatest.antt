-- Selections between the sides of their comparison.
use Rattle.std.proofs.Common.{◌≡◌, ℕ, ◌*◌, ◌≤◌, Bool, true, false, Some, refl, sym, ap, ◌∙◌, arith, inl}
use Rattle.std.specs.Prelude.{nat_eq, nat_le, nat_lt, int_lt, ◌&&◌, if◌then◌else◌}
use Rattle.std.proofs.lemmas.Bool.{and_parts, leb-true}
use Rattle.vg_base.specs.Bits.{signed_at}
use Rattle.vg_terms.specs.declared.term.TwoOp.{TwoOp}
use Rattle.vg_terms.specs.declared.term.TwoOp.TheVariants.{Slt, Ult}
use Rattle.vg_terms.specs.declared.value.Env.{Env}
use Rattle.vg_terms.specs.Measure.{two_weight}
use Rattle.vg_terms.specs.Term.{Tree, two, sel, width_of, TwoFits, WellFormed}
use Rattle.vg_terms.specs.Value.{one_value, two_value, value}
use Rattle.vg_terms.specs.Order.{is_same_term}
use Rattle.vg_terms.proofs.Orders.{same_term}
use Rattle.vg_terms.proofs.Signs.{lesser_of, greater_of}
use Rattle.vg_terms.proofs.Soundness.{width_some}
use Rattle.vg_rules_choice.specs.Rules.{stretch, widened, is_order, extension_under, lesser_under, greater_under, are_stretches, chosen, selection_is_least_or_greatest}
use Rattle.vg_terms.specs.Table.{Promises, IsSound}
use Rattle.vg_terms.proofs.Tables.{given_else, tested}
use Rattle.vg_rules_choice.specs.Laws.Stretched.{is_extension, stretch-value, widened-value, widened-formed, widened-width, widened-weight}

-- a comparison as a test, and an operation that takes its first number where the test holds
abbrev Compares : TwoOp → (ℕ → ℕ → ℕ → Bool) → Type 0
Compares op test = (w n a b : ℕ) → two_value op w n a b ≡ (if test n a b then 1 else 0)

abbrev TakesFirst : TwoOp → (ℕ → ℕ → ℕ → Bool) → Type 0
TakesFirst op test = (w n a b : ℕ) → two_value op w n a b ≡ (if test n a b then a else b)

abbrev TakesSecond : TwoOp → (ℕ → ℕ → ℕ → Bool) → Type 0
TakesSecond op test = (w n a b : ℕ) → two_value op w n a b ≡ (if test n a b then b else a)

-- an operation whose terms have its width
record Fits (op : TwoOp) : Type 0 where
  fits : (n m : ℕ) → m ≡ n → TwoFits op n n m
  own : (n : ℕ) → two_weight op n n ≡ 8 * n

record Choice (op : TwoOp) (test : ℕ → ℕ → ℕ → Bool) : Type 0 where
  extends : is_extension (extension_under op) ≡ true
  one_width : (w m n : ℕ) → TwoFits op w m n → m ≡ n
  compared : (w n : ℕ) → two_weight op w n ≡ 8 * n
  compares : Compares op test
  lesser : Fits (lesser_under op)
  takes_lesser : TakesFirst (lesser_under op) test
  greater : Fits (greater_under op)
  takes_greater : TakesSecond (greater_under op) test

signed_less : ℕ → ℕ → ℕ → Bool
signed_less n a b = int_lt (signed_at n a) (signed_at n b)

unsigned_less : ℕ → ℕ → ℕ → Bool
unsigned_less n a b = nat_lt a b

by_sign : Choice Slt signed_less
unfolding signed_less
by_sign = record {
  extends = refl;
  one_width = λ w m n f. f.1;
  compared = λ w n. refl;
  compares = λ w n a b. refl;
  lesser = record { fits = λ n m e. (refl, e); own = λ n. refl };
  takes_lesser = λ w n a b. refl;
  greater = record { fits = λ n m e. (refl, e); own = λ n. refl };
  takes_greater = λ w n a b. refl;
}

by_zeros : Choice Ult unsigned_less
unfolding unsigned_less
by_zeros = record {
  extends = refl;
  one_width = λ w m n f. f.1;
  compared = λ w n. refl;
  compares = λ w n a b. refl;
  lesser = record { fits = λ n m e. (refl, e); own = λ n. refl };
  takes_lesser = λ w n a b. lesser_of a b;
  greater = record { fits = λ n m e. (refl, e); own = λ n. refl };
  takes_greater = λ w n a b. greater_of a b;
}

-- a number of one of two, made of the one that the test takes
picked : (t : Bool) (made : ℕ → ℕ) (c r x y a b : ℕ) → c ≡ (if t then 1 else 0) → r ≡ (if t then x else y) →
    a ≡ made x → b ≡ made y → made r ≡ (if nat_eq c 1 then a else b)
picked true made c r x y a b hc hr ha hb = ap made hr ∙ sym ha ∙ sym (ap (λ k. if nat_eq k 1 then a else b) hc)
picked false made c r x y a b hc hr ha hb = ap made hr ∙ sym hb ∙ sym (ap (λ k. if nat_eq k 1 then a else b) hc)

module _ (op : TwoOp) (test : ℕ → ℕ → ℕ → Bool) (is : Choice op test) (w m : ℕ) (p q a b : Tree) (g : WellFormed (sel w (two op m p q) a b)) (l : width_of p ≤ w) where
  same : width_of q ≡ width_of p
  same = sym (is.one_width m (width_of p) (width_of q) g.2.1)

  -- a stretch of p, or of q, has the number of that, extended
  of_p : (env : Env) (s : Tree) → is_same_term s (stretch (extension_under op) w p) ≡ true →
      value env s ≡ one_value (extension_under op) w 0 (width_of p) (value env p)
  of_p env s t = ap (value env) (same_term s _ t) ∙ stretch-value env (extension_under op) w p is.extends g.2.2 l

  of_q : (env : Env) (s : Tree) → is_same_term s (stretch (extension_under op) w q) ≡ true →
      value env s ≡ one_value (extension_under op) w 0 (width_of p) (value env q)
  of_q env s t =
      let k : width_of q ≤ w = omega (arith, same) in
      ap (value env) (same_term s _ t) ∙ stretch-value env (extension_under op) w q is.extends g.2.3 k
      ∙ ap (λ n. one_value (extension_under op) w 0 n (value env q)) same

  -- an operation on p and q that has the number that is selected
  Selects : TwoOp → Type 0
  Selects o =
      (env : Env) →
      one_value (extension_under op) w 0 (width_of p) (two_value o (width_of p) (width_of q) (value env p) (value env q)) ≡ value env (sel w (two op m p q) a b)

  selects-promises : (o : TwoOp) → Fits o → Selects o →
      Promises (sel w (two op m p q) a b) (widened (extension_under op) w (two o (width_of p) p q))
  unfolding Selects
  selects-promises o fit number =
      let t = two o (width_of p) p q in
      let f : WellFormed t = (width_some p g.2.2, fit.fits (width_of p) (width_of q) same, g.2.2, g.2.3) in
      record {
        keeps = record {
          well_formed = widened-formed (extension_under op) w t is.extends g.0 f l;
          width = widened-width (extension_under op) w t l;
          value = λ env. widened-value env (extension_under op) w t is.extends f l ∙ number env;
        };
        falls =
            inl (omega (arith, widened-weight (extension_under op) w t is.extends l, fit.own (width_of p), is.compared m (width_of p), g.0.0));
      }

  lesser-selects : are_stretches (extension_under op) w p q a b ≡ true → Selects (lesser_under op)
  unfolding Selects
  lesser-selects t env =
      let both = and_parts _ _ t in
      picked (test (width_of q) (value env p) (value env q)) (one_value (extension_under op) w 0 (width_of p)) _ _ (value env p) (value env q) (value env a) (value env b)
      (is.compares m (width_of q) (value env p) (value env q)) (is.takes_lesser (width_of p) (width_of q) (value env p) (value env q)) (of_p env a both.0) (of_q env b both.1)

  greater-selects : are_stretches (extension_under op) w q p a b ≡ true → Selects (greater_under op)
  unfolding Selects
  greater-selects t env =
      let both = and_parts _ _ t in
      picked (test (width_of q) (value env p) (value env q)) (one_value (extension_under op) w 0 (width_of p)) _ _ (value env q) (value env p) (value env a) (value env b)
      (is.compares m (width_of q) (value env p) (value env q)) (is.takes_greater (width_of p) (width_of q) (value env p) (value env q)) (of_q env a both.0) (of_p env b both.1)

  chosen-promises : (new : Tree) → chosen op w p q a b ≡ Some new → Promises (sel w (two op m p q) a b) new
  chosen-promises new e =
      given_else (are_stretches (extension_under op) w p q a b) (are_stretches (extension_under op) w q p a b) _ _ _ new
      (λ t. selects-promises (lesser_under op) is.lesser (lesser-selects t))
      (λ t. selects-promises (greater_under op) is.greater (greater-selects t)) e

ordered-promises : (op : TwoOp) (w m : ℕ) (p q a b new : Tree) → is_order op ≡ true →
    WellFormed (sel w (two op m p q) a b) → width_of p ≤ w → chosen op w p q a b ≡ Some new →
    Promises (sel w (two op m p q) a b) new
ordered-promises Slt w m p q a b new t g l e = chosen-promises Slt signed_less by_sign w m p q a b g l new e
ordered-promises Ult w m p q a b new t g l e = chosen-promises Ult unsigned_less by_zeros w m p q a b g l new e
ordered-promises _ w m p q a b new t g l e = absurd (cc)

pub selection_is_least_or_greatest-sound : IsSound selection_is_least_or_greatest
unfolding selection_is_least_or_greatest
selection_is_least_or_greatest-sound (sel w (two op m p q) a b) new g e =
    let t = tested (is_order op && nat_le (width_of p) w) _ new e in
    let both = and_parts (is_order op) _ t.0 in
    ordered-promises op w m p q a b new both.0 g (leb-true (width_of p) w both.1) t.1
selection_is_least_or_greatest-sound _ new g e = absurd (cc)
