-- Whole terms have the values of the terms that they are of, and terms that count as equal have one value.
use Rattle.std.proofs.Common.{◌≡◌, ◌⊎◌, ℕ, zero, suc, ◌+◌, ◌<◌, ℤ, pos, Bool, true, false, List, [], ◌∷◌, ◌++◌, length, get_or, Option, Some, None, inl, inr, refl, sym, ap, subst, ◌∙◌, arith, append_assoc, length-append}
use Rattle.std.specs.Prelude.{◌&&◌, ◌||◌, if◌then◌else◌, nat_eq, slice_get}
use Rattle.std.specs.Cmp.{signed_Decides}
use Rattle.std.specs.Ordering.{int_eq}
use Rattle.std.proofs.lemmas.Bool.{cases_Bool, cases_lt, cond-true, cond-false, eqb-true}
use Rattle.std.proofs.lemmas.List.{get_or_append_left, get_or_push, length_push}
use Rattle.vg_terms.specs.declared.term.LeafKey.{LeafKey}
use Rattle.vg_terms.specs.declared.value.Env.{Env}
use Rattle.vg_terms.specs.Order.{is_same_term}
use Rattle.vg_terms.specs.Term.{Tree, leaf, constant, one, two, sel, OneFits, TwoFits, WellFormed, width_of}
use Rattle.vg_terms.specs.Value.{one_value, two_value, value}
use Rattle.vg_terms.proofs.Orders.{same_term}
use Rattle.vg_sums.specs.Same.{have_same_sum}
use Rattle.vg_sums.proofs.Equal.{same_means}
use Rattle.vg_canon.specs.Canonical.{canonical}
use Rattle.vg_canon.proofs.Forms.{canonical-settled}
use Rattle.vg_shapes.specs.Sound.{cut_key}
use Rattle.vg_ssa.specs.ValueTerm.{no_term}
use Rattle.vg_events.proofs.Steps.{at-seam}
use Rattle.vg_known.specs.Classes.{AllFormed, ClassesMean}
use Rattle.vg_known.specs.Laws.{EqualitiesAreSound, IsSoundEquality}
use Rattle.vg_known.specs.WiderDifference.{equal_forms, equal_wholes, equal_wider, is_class, is_small, small_whole, whole, whole_leaf, whole_or, wholes_behind, wholes_of}
use Rattle.vg_known.proofs.Formed.{formed-at}

and-parts : (a b : Bool) → (a && b) ≡ true → (a ≡ true) × (b ≡ true)
and-parts true b h = (refl, h)
and-parts false b h = absurd (cc)

or-parts : (a b : Bool) → (a || b) ≡ true → (a ≡ true) ⊎ (b ≡ true)
or-parts true b h = inl refl
or-parts false b h = inr h

int-same : (x y : ℤ) → int_eq x y ≡ true → x ≡ y
int-same x y h = (signed_Decides x y).0 h

-- a key that is that of a class is the key of the class that it names
class-key : (k : LeafKey) → is_class k ≡ true → k ≡ cut_key k.first
class-key k h =
    let outer = and-parts (nat_eq k.kind 3 && int_eq k.second (pos 0)) (nat_eq k.third 0) h in
    let inner = and-parts (nat_eq k.kind 3) (int_eq k.second (pos 0)) outer.0 in
    let kind = eqb-true k.kind 3 inner.0 in
    let second = int-same k.second (pos 0) inner.1 in
    let third = eqb-true k.third 0 outer.1 in
    (λ i. record { kind = kind i; first = k.first; second = second i; third = third i })

-- a term that may stand for another
pub record StandsFor (env : Env) (t u : Tree) : Type 0 where
  pub formed : WellFormed u
  pub width : width_of u ≡ width_of t
  pub means : value env u ≡ value env t

stands-itself : (env : Env) (t : Tree) → WellFormed t → StandsFor env t t
stands-itself env t h = record { formed = h; width = refl; means = refl }

-- each whole stands for the leaf of its class, of its own width
abbrev pub WholesMean : Env → List Tree → Type 0
WholesMean env wholes =
    (c : ℕ) → c < length wholes → StandsFor env (leaf (width_of (get_or wholes c no_term)) (cut_key c))
    (get_or wholes c no_term)

got : (wholes : List Tree) (c : ℕ) (t : Tree) → slice_get wholes c ≡ Some t → (c < length wholes)
    × (get_or wholes c no_term ≡ t)
got [] c t h = absurd (cc)
got (w ∷ wholes) zero t h = (omega arith, (let same : w ≡ t = cc in same))
got (w ∷ wholes) (suc c) t h = let rest = got wholes c t h in (omega arith, rest.1)

whole_leaf-stands : (env : Env) (wholes : List Tree) (w : ℕ) (k : LeafKey) → WholesMean env wholes
    → WellFormed (leaf w k) → StandsFor env (leaf w k) (whole_leaf wholes w k)
whole_leaf-stands env wholes w k mean formed = elim (cases_Bool (is_class k)) [
  | inr f ↦ subst (StandsFor env (leaf w k)) (sym (cond-false _ _ _ f)) (stands-itself env (leaf w k) formed)
  | inl t ↦ subst (StandsFor env (leaf w k)) (sym (cond-true _ _ _ t))
      (by (slice_get wholes k.first) refl (class-key k t))
]
  where
    by : (o : Option Tree) → slice_get wholes k.first ≡ o → k ≡ cut_key k.first
        → StandsFor env (leaf w k) (whole_or (leaf w k) o)
    by None e key = stands-itself env (leaf w k) formed
    by (Some u) e key = elim (cases_Bool (nat_eq (width_of u) w)) [
      | inr f ↦ subst (StandsFor env (leaf w k)) (sym (cond-false _ _ _ f)) (stands-itself env (leaf w k) formed)
      | inl t ↦
          let place = got wholes k.first u e in
          let stands = subst (λ x. StandsFor env (leaf (width_of x) (cut_key k.first)) x) place.1
          (mean k.first place.0) in
          let wide = eqb-true (width_of u) w t in
          subst (StandsFor env (leaf w k)) (sym (cond-true _ _ _ t)) (record {
            formed = stands.formed;
            width = wide;
            means = stands.means ∙ (λ i. value env (leaf (wide i) (sym key i)));
          })
    ]

-- the whole of a term stands for it
pub whole-stands : (env : Env) (wholes : List Tree) (t : Tree) → WholesMean env wholes → WellFormed t
    → StandsFor env t (whole wholes t)
whole-stands env wholes (leaf w k) mean formed = whole_leaf-stands env wholes w k mean formed
whole-stands env wholes (constant w v) mean formed = stands-itself env (constant w v) formed
whole-stands env wholes (one op w k x) mean formed =
    let s = whole-stands env wholes x mean formed.2 in
    record {
      formed = (formed.0, subst (OneFits op w k) (sym s.width) formed.1, s.formed);
      width = refl;
      means = (λ i. one_value op w k (s.width i) (s.means i));
    }
whole-stands env wholes (two op w x y) mean formed =
    let s = whole-stands env wholes x mean formed.2 in
    let r = whole-stands env wholes y mean formed.3 in
    record {
      formed = (
        formed.0,
        subst (λ n. TwoFits op w n (width_of (whole wholes y))) (sym s.width)
            (subst (TwoFits op w (width_of x)) (sym r.width) formed.1),
        s.formed,
        r.formed,
      );
      width = refl;
      means = (λ i. two_value op w (r.width i) (s.means i) (r.means i));
    }
whole-stands env wholes (sel w c x y) mean formed =
    let q = whole-stands env wholes c mean formed.2 in
    let s = whole-stands env wholes x mean formed.3 in
    let r = whole-stands env wholes y mean formed.4 in
    record {
      formed = (
        formed.0,
        (q.width ∙ formed.1.0, s.width ∙ formed.1.1, r.width ∙ formed.1.2),
        q.formed,
        s.formed,
        r.formed,
      );
      width = refl;
      means = (λ i. if nat_eq (q.means i) 1 then s.means i else r.means i);
    }

pub small_whole-stands : (env : Env) (wholes : List Tree) (t : Tree) → WholesMean env wholes → WellFormed t
    → StandsFor env t (small_whole wholes t)
small_whole-stands env wholes t mean formed = elim (cases_Bool (is_small (whole wholes t))) [
  | inl y ↦ subst (StandsFor env t) (sym (cond-true _ _ _ y)) (whole-stands env wholes t mean formed)
  | inr n ↦ subst (StandsFor env t) (sym (cond-false _ _ _ n)) (stands-itself env t formed)
]

-- ---- the wholes of what was met

-- one whole more: that of the next class
wholes-more : (env : Env) (wholes : List Tree) (u : Tree) → WholesMean env wholes
    → StandsFor env (leaf (width_of u) (cut_key (length wholes))) u → WholesMean env (wholes ++ u ∷ [])
wholes-more env wholes u mean last c inside = elim (cases_lt c (length wholes)) [
  | inl less ↦
      subst (λ x. StandsFor env (leaf (width_of x) (cut_key c)) x)
      (sym (get_or_append_left wholes (u ∷ []) no_term c less)) (mean c less)
  | inr above ↦
      let here : c ≡ length wholes = (let l = length_push wholes u in omega arith) in
      subst (λ x. StandsFor env (leaf (width_of x) (cut_key c)) x) (sym (get_or_push wholes u no_term c (sym here)))
      (subst (λ j. StandsFor env (leaf (width_of u) (cut_key j)) u) (sym here) last)
]

behind-mean : (env : Env) (met done rest wholes : List Tree) → met ≡ done ++ rest → length wholes ≡ length done
    → AllFormed met → ClassesMean env met → WholesMean env wholes → WholesMean env (wholes_behind wholes rest)
behind-mean env met done [] wholes whole_is long formed classes mean = mean
behind-mean env met done (t ∷ rest) wholes whole_is long formed classes mean =
    let c = length done in
    let at : get_or met c no_term ≡ t = ap (λ l. get_or l c no_term) whole_is ∙ at-seam done t rest no_term in
    let inside : c < length met = (let l = ap length whole_is ∙ length-append done (t ∷ rest) in omega arith) in
    let own = subst WellFormed at (formed-at met c formed inside) in
    let class_means : value env (leaf (width_of t) (cut_key c)) ≡ value env t =
    subst (λ x. value env (leaf (width_of x) (cut_key c)) ≡ value env x) at
    (classes c inside (formed-at met c formed inside)) in
    let u = small_whole wholes t in
    let stands = small_whole-stands env wholes t mean own in
    let last : StandsFor env (leaf (width_of u) (cut_key (length wholes))) u = record {
      formed = stands.formed;
      width = refl;
      means = stands.means ∙ sym class_means ∙ (λ i. value env (leaf (sym stands.width i) (cut_key (sym long i))));
    } in
    behind-mean env met (done ++ t ∷ []) rest (wholes ++ u ∷ []) (whole_is ∙ sym (append_assoc done (t ∷ []) rest))
    (length_push wholes u ∙ ap (λ n. n + 1) long ∙ sym (length_push done t)) formed classes
    (wholes-more env wholes u mean last)

pub wholes-mean : (env : Env) (met : List Tree) → AllFormed met → ClassesMean env met → WholesMean env (wholes_of met)
wholes-mean env met formed classes = behind-mean env met [] met [] refl refl formed classes
    (λ c l. absurd (omega arith))

-- ---- terms that count as equal

forms-equal : (env : Env) (t u : Tree) → WellFormed t → WellFormed u → equal_forms t u ≡ true
    → value env t ≡ value env u
forms-equal env t u f g h = elim
    (or-parts (is_same_term t u) (is_small t && is_small u &&
    (is_same_term (canonical t) (canonical u) || have_same_sum t u)) h) [
      | inl same ↦ ap (value env) (same_term t u same)
      | inr small ↦
          let rest = and-parts (is_small t && is_small u) (is_same_term (canonical t) (canonical u) || have_same_sum t u)
          small in
          elim (or-parts (is_same_term (canonical t) (canonical u)) (have_same_sum t u) rest.1) [
            | inl form ↦
                sym ((canonical-settled t f).keeps.value env) ∙ ap (value env) (same_term (canonical t) (canonical u) form)
                ∙ (canonical-settled u g).keeps.value env
            | inr sums ↦ same_means t u true f g (sym sums) refl env
          ]
    ]

terms-sound : IsSoundEquality (λ met t u. is_same_term t u)
terms-sound env met t u formed classes f g h = ap (value env) (same_term t u h)

pub equalities-are-sound : EqualitiesAreSound
equalities-are-sound false = terms-sound
equalities-are-sound true = wider-sound
  where
    wider-sound : IsSoundEquality equal_wider
    wider-sound env met t u formed classes f g h = elim
        (or-parts (is_same_term t u) (equal_wholes (wholes_of met) t u) h) [
          | inl same ↦ ap (value env) (same_term t u same)
          | inr wholes ↦
              let mean = wholes-mean env met formed classes in
              let a = small_whole-stands env (wholes_of met) t mean f in
              let b = small_whole-stands env (wholes_of met) u mean g in
              sym a.means ∙ forms-equal env (small_whole (wholes_of met) t) (small_whole (wholes_of met) u) a.formed
              b.formed wholes ∙ b.means
        ]
