-- There is an environment in which the leaf of each class has the value of the class's term.
use Rattle.std.proofs.Common.{◌≡◌, ℕ, zero, suc, ◌+◌, ◌%◌, ◌^◌, ◌<◌, ◌≤◌, inl, inr, Bool, true, false, cond, List, [], ◌∷◌, ◌++◌, length, get_or, refl, sym, ap, subst, ◌∙◌, arith, append_assoc, append-nil, length-append}
use Rattle.std.specs.Prelude.{◌&&◌, nat_eq, slice_index}
use Rattle.std.specs.Ordering.{int_eq}
use Rattle.std.proofs.lemmas.Bool.{cases_Bool, cases_lt, cond-true, cond-false, eq-eqb, eqb-true}
use Rattle.std.proofs.lemmas.List.{get_or_append_left, get_or_push, length_push}
use Rattle.std.proofs.Math.Nat.{mod-eq_of_lt}
use Rattle.vg_events.proofs.Steps.{at-seam}
use Rattle.vg_terms.specs.declared.term.LeafKey.{LeafKey}
use Rattle.vg_terms.specs.declared.value.Env.{Env}
use Rattle.vg_terms.specs.Term.{Tree, leaf, constant, one, two, sel, width_of}
use Rattle.vg_terms.specs.Value.{number_at, one_value, same_key, two_value, value}
use Rattle.vg_terms.proofs.Values.{value-below}
use Rattle.vg_shapes.specs.Sound.{cut_key}
use Rattle.vg_ssa.specs.ValueTerm.{no_term}
use Rattle.vg_known.proofs.Below.{AreClasses, Below, TermBelow}
use Rattle.vg_known.specs.Classes.{ClassesMean}

-- the leaves of classes from this one on stand for these numbers
abbrev pub class_pairs : ℕ → List ℕ → List (LeafKey × ℕ)
class_pairs c [] = []
class_pairs c (n ∷ ns) = (cut_key c, n) ∷ class_pairs (c + 1) ns

-- before all else
abbrev pub with_classes : List (LeafKey × ℕ) → List ℕ → Env
with_classes rest vals = record { pairs = class_pairs 0 vals ++ rest }

-- the values of terms, each in the environment of those before it
abbrev pub class_values : List (LeafKey × ℕ) → List Tree → List ℕ → List ℕ
class_values rest [] vals = vals
class_values rest (t ∷ ts) vals = class_values rest ts (vals ++ value (with_classes rest vals) t ∷ [])

-- ---- look-ups

same-cut : (c d : ℕ) → same_key (cut_key c) (cut_key d) ≡ nat_eq c d
same-cut c d = by (nat_eq c d)
  where
    by : (b : Bool) → (true && b && true && true) ≡ b
    by true = refl
    by false = refl

class-there : (c : ℕ) (ns : List ℕ) (rest : List (LeafKey × ℕ)) (k : ℕ) → k < length ns → number_at (class_pairs c ns ++ rest) (cut_key (c + k)) ≡ slice_index ns k
class-there c [] rest k h = absurd (omega arith)
class-there c (n ∷ ns) rest zero h =
    let e : c ≡ c + 0 = omega arith in
    cond-true _ _ _ (same-cut c (c + 0) ∙ eq-eqb c (c + 0) e)
class-there c (n ∷ ns) rest (suc k) h =
    let differ : nat_eq c (c + suc k) ≡ false = elim (cases_Bool (nat_eq c (c + suc k))) [ inl t ↦ absurd (let e = eqb-true c (c + suc k) t in omega arith) | inr f ↦ f ] in
    let next : c + suc k ≡ c + 1 + k = omega arith in
    cond-false _ _ _ (same-cut c (c + suc k) ∙ differ) ∙ ap (λ j. number_at (class_pairs (c + 1) ns ++ rest) (cut_key j)) next ∙ class-there (c + 1) ns rest k (omega arith)

-- other keys are looked up after the classes
pub other-key : (c : ℕ) (ns : List ℕ) (rest : List (LeafKey × ℕ)) (k : LeafKey) → nat_eq k.kind 3 ≡ false → number_at (class_pairs c ns ++ rest) k ≡ number_at rest k
other-key c [] rest k h = refl
other-key c (n ∷ ns) rest k h = cond-false _ _ _ (differs c k h) ∙ other-key (c + 1) ns rest k h
  where
    turned : (a b : ℕ) → nat_eq b a ≡ false → nat_eq a b ≡ false
    turned a b f = elim (cases_Bool (nat_eq a b)) [
      | inl t ↦ absurd (let e = eq-eqb b a (sym (eqb-true a b t)) in let no : false ≡ true = sym f ∙ e in cc)
      | inr g ↦ g
    ]

    differs : (c : ℕ) (k : LeafKey) → nat_eq k.kind 3 ≡ false → same_key (cut_key c) k ≡ false
    differs c k f = (λ i. turned 3 k.kind f i && nat_eq c k.first && int_eq (cut_key c).second k.second && nat_eq 0 k.third)

class-number : (rest : List (LeafKey × ℕ)) (vals : List ℕ) (c : ℕ) → c < length vals → number_at (class_pairs 0 vals ++ rest) (cut_key c) ≡ slice_index vals c
class-number rest vals c h = ap (λ j. number_at (class_pairs 0 vals ++ rest) (cut_key j)) (let e : c ≡ 0 + c = omega arith in e) ∙ class-there 0 vals rest c h

-- ---- more classes change nothing for a term that names lower ones

key-same : (rest : List (LeafKey × ℕ)) (vals more : List ℕ) (k : LeafKey) → Below (length vals) k → number_at (class_pairs 0 (vals ++ more) ++ rest) k ≡ number_at (class_pairs 0 vals ++ rest) k
key-same rest vals more k (inl other) = other-key 0 (vals ++ more) rest k other ∙ sym (other-key 0 vals rest k other)
key-same rest vals more k (inr class) =
    let c = class.0 in
    ap (number_at (class_pairs 0 (vals ++ more) ++ rest)) class.2
    ∙ class-number rest (vals ++ more) c (let l = class.1 in omega (arith, length-append vals more))
    ∙ get_or_append_left vals more 0 c class.1
    ∙ sym (class-number rest vals c class.1)
    ∙ sym (ap (number_at (class_pairs 0 vals ++ rest)) class.2)

more-classes : (rest : List (LeafKey × ℕ)) (vals more : List ℕ) (t : Tree) → TermBelow (length vals) t → value (with_classes rest (vals ++ more)) t ≡ value (with_classes rest vals) t
more-classes rest vals more (leaf w k) h = ap (λ n. n % 2 ^ w) (key-same rest vals more k h)
more-classes rest vals more (constant w v) h = refl
more-classes rest vals more (one op w k x) h = ap (one_value op w k (width_of x)) (more-classes rest vals more x h)
more-classes rest vals more (two op w x y) h = (λ i. two_value op w (width_of y) (more-classes rest vals more x h.0 i) (more-classes rest vals more y h.1 i))
more-classes rest vals more (sel w c x y) h = (λ i. cond (nat_eq (more-classes rest vals more c h.0 i) 1) (more-classes rest vals more x h.1 i) (more-classes rest vals more y h.2 i))

values-grow : (rest : List (LeafKey × ℕ)) (ts : List Tree) (vals : List ℕ) → (more : List ℕ) × (class_values rest ts vals ≡ vals ++ more)
values-grow rest [] vals = ([], sym (append-nil vals))
values-grow rest (t ∷ ts) vals =
    let n = value (with_classes rest vals) t in
    let others = values-grow rest ts (vals ++ n ∷ []) in
    (n ∷ others.0, others.1 ∙ append_assoc vals (n ∷ []) others.0)

-- the value of a class is that of its term
class-is : (rest : List (LeafKey × ℕ)) (done ts : List Tree) (vals : List ℕ) (c : ℕ) → length vals ≡ length done → ((k : ℕ) → k < length (done ++ ts) → TermBelow k (get_or (done ++ ts) k no_term)) → length done ≤ c → c < length (done ++ ts)
    → slice_index (class_values rest ts vals) c ≡ value (with_classes rest (class_values rest ts vals)) (get_or (done ++ ts) c no_term)
class-is rest done [] vals c long are low high = absurd (omega (arith, length-append done []))
class-is rest done (t ∷ ts) vals c long are low high =
    let n = value (with_classes rest vals) t in
    let next = vals ++ n ∷ [] in
    let all = class_values rest ts next in
    let grown = values-grow rest ts next in
    let whole = append_assoc done (t ∷ []) ts in
    elim (cases_lt (length done) c) [
      | inl later ↦
          ap (λ l. slice_index all c) whole
          ∙ class-is rest (done ++ t ∷ []) ts next c (let a = length_push vals n in let b = length_push done t in omega arith)
          (λ k l. subst (λ q. TermBelow k (get_or q k no_term)) (sym whole) (are k (subst (λ q. k < length q) whole l))) (let b = length_push done t in omega arith) (subst (λ q. c < length q) (sym whole) high)
          ∙ ap (λ l. value (with_classes rest all) (get_or l c no_term)) whole
      | inr here ↦
          let is : c ≡ length done = omega arith in
          let at : c ≡ length vals = is ∙ sym long in
          let own : get_or (done ++ t ∷ ts) c no_term ≡ t = ap (λ k. get_or (done ++ t ∷ ts) k no_term) is ∙ at-seam done t ts no_term in
          let below : TermBelow (length vals) t = subst (λ k. TermBelow k t) at (subst (TermBelow c) own (are c high)) in
          let kept : all ≡ vals ++ (n ∷ grown.0) = grown.1 ∙ append_assoc vals (n ∷ []) grown.0 in
          ap (λ l. slice_index l c) grown.1 ∙ get_or_append_left next grown.0 0 c (let a = length_push vals n in omega arith) ∙ get_or_push vals n 0 c (sym at)
          ∙ sym (more-classes rest vals (n ∷ grown.0) t below)
          ∙ ap (λ l. value (with_classes rest l) t) (sym kept)
          ∙ ap (value (with_classes rest all)) (sym own)
    ]

values-long : (rest : List (LeafKey × ℕ)) (ts : List Tree) (vals : List ℕ) → length (class_values rest ts vals) ≡ length vals + length ts
values-long rest [] vals = omega arith
values-long rest (t ∷ ts) vals = values-long rest ts (vals ++ value (with_classes rest vals) t ∷ []) ∙ (let a = length_push vals (value (with_classes rest vals) t) in omega arith)

-- the environment of a run: the classes before all else
abbrev pub class_env : List (LeafKey × ℕ) → List Tree → Env
class_env rest met = with_classes rest (class_values rest met [])

pub classes-mean : (rest : List (LeafKey × ℕ)) (met : List Tree) → AreClasses met → ClassesMean (class_env rest met) met
classes-mean rest met are c less formed =
    let vals = class_values rest met [] in
    let t = get_or met c no_term in
    let is = class-is rest [] met [] c refl are (omega arith) less in
    ap (λ n. n % 2 ^ width_of t) (class-number rest vals c (let l = values-long rest met [] in omega arith) ∙ is)
    ∙ mod-eq_of_lt (value-below (class_env rest met) t formed)
