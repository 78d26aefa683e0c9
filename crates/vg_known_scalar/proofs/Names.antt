-- What stands for a value in the scalar program has the term that the value has in the kernel.
use Rattle.std.proofs.Common.{◌≡◌, ℕ, zero, suc, ◌+◌, ◌<◌, Bool, true, false, List, [], ◌∷◌, ◌++◌, length, Option, Some, None, refl, sym, ap, subst, ◌∙◌, inl, inr, arith}
use Rattle.std.specs.Prelude.{slice_index_or}
use Rattle.std.proofs.lemmas.Bool.{cases_lt}
use Rattle.std.proofs.lemmas.List.{get_or_append_left, get_or_push, length_push}
use Rattle.vg_base.specs.declared.width.Width.{Width}
use Rattle.vg_base.specs.declared.width.Width.TheVariants.{W8, W16, W32, W64}
use Rattle.vg_base.specs.Width.{bits_of}
use Rattle.vg_terms.specs.Term.{Tree, constant}
use Rattle.vg_program.specs.declared.operand.Operand.{Operand as Number}
use Rattle.vg_program.specs.declared.operand.Operand.TheVariants.{Register, Argument, Literal}
use Rattle.vg_shapes.specs.declared.wanted.Wanted.{Wanted}
use Rattle.vg_shapes.specs.declared.wanted.Wanted.TheVariants.{Value, Constant, Nothing}
use Rattle.vg_ssa.specs.ValueTerm.{no_term}
use Rattle.vg_ssa.specs.ValueTerm as kernel
use Rattle.vg_ssa.proofs.Typing.{BitIn, NumberIn}
use Rattle.vg_emission.specs.Emission.{width_for}
use Rattle.vg_emission.specs.Scalar.{scalar_operand}
use Rattle.vg_lift.specs.Gather.{Bit}
use Rattle.vg_known.specs.Cuts.{cut, met_with}
use Rattle.vg_known.specs.Known.{Given, Known, operand_term, with_puts, with_scalar}
use Rattle.vg_known.proofs.Walk.{Grows, met-grows}
use Rattle.vg_known_scalar.proofs.Cutting.{cut-stays, HasClass, IsMet, met-itself, met-more}
use Rattle.vg_known_scalar.proofs.Needing.{IsNeeded}

-- ---- one name

-- one of the scalars so far, if it is one
abbrev pub IsThere : ℕ → Number → Type 0
IsThere count (Register r) = r < count
IsThere count (Argument a) = Unit {0}
IsThere count (Literal w n) = Unit {0}

there-more : (count : ℕ) (x : Number) → IsThere count x → IsThere (count + 1) x
there-more count (Register r) h = omega arith
there-more count (Argument a) h = tt
there-more count (Literal w n) h = tt

term-more : (g : Given) (k : Known) (t : Tree) (x : Number) → IsThere (length k.scalars) x → operand_term g (with_scalar k t) x ≡ operand_term g k x
term-more g k t (Register r) h = get_or_append_left k.scalars (t ∷ []) no_term r h
term-more g k t (Argument a) h = refl
term-more g k t (Literal w n) h = refl

term-kept : (g : Given) (k : Known) (es : List ℕ) (bs : List Bit) (x : Number) → operand_term g (with_puts k es bs) x ≡ operand_term g k x
term-kept g k es bs (Register r) = refl
term-kept g k es bs (Argument a) = refl
term-kept g k es bs (Literal w n) = refl

-- The value of this number, if it has a width, has a term that was met, and where it is needed, what stands
-- for it has this term.
abbrev pub HasName : (ℕ → Bool) → Given → List Tree → Known → ℕ → Option ℕ → Number → Tree → Type 0
HasName needed g met k v b x t = (w : ℕ) → b ≡ Some w → IsMet met t × (needed v ≡ true → IsThere (length k.scalars) x × (operand_term g k x ≡ t))

-- each value so far
pub record Named (needed : ℕ → Bool) (g : Given) (met : List Tree) (k : Known) (v : ℕ) (bits : List (Option ℕ)) (names : List Number) (terms : List Tree) : Type 0 where
  pub bits_long : length bits ≡ v
  pub names_long : length names ≡ v
  pub terms_long : length terms ≡ v
  pub each : (j : ℕ) → j < v → HasName needed g met k j (slice_index_or bits j None) (slice_index_or names j (Register 0)) (slice_index_or terms j no_term)

-- ---- operands

index-inside : (bits : List (Option ℕ)) (v w : ℕ) → slice_index_or bits v None ≡ Some w → v < length bits
index-inside [] v w e = absurd (cc)
index-inside (b ∷ bits) zero w e = omega arith
index-inside (b ∷ bits) (suc v) w e = let rest = index-inside bits v w e in omega arith

width-back : (w : Width) → bits_of (width_for (bits_of w)) ≡ bits_of w
width-back W8 = refl
width-back W16 = refl
width-back W32 = refl
width-back W64 = refl

value-named : (needed : ℕ → Bool) (g : Given) (met : List Tree) (k : Known) (n : ℕ) (bits : List (Option ℕ)) (names : List Number) (terms : List Tree) (v w : ℕ) → Named needed g met k n bits names terms → slice_index_or bits v None ≡ Some w
    → IsMet met (slice_index_or terms v no_term) × (needed v ≡ true → IsThere (length k.scalars) (slice_index_or names v (Register 0)) × (operand_term g k (slice_index_or names v (Register 0)) ≡ slice_index_or terms v no_term))
value-named needed g met k n bits names terms v w h e =
    let less = index-inside bits v w e in
    h.each v (omega (arith, less, h.bits_long)) w e

-- what stands for an operand has its term
pub record OperandIs (g : Given) (met : List Tree) (k : Known) (names : List Number) (terms : List Tree) (x : Wanted) : Type 0 where
  pub same : operand_term g k (scalar_operand names x) ≡ kernel.operand_term terms x
  pub class : HasClass met (kernel.operand_term terms x)

pub number-named : (needed : ℕ → Bool) (g : Given) (met : List Tree) (k : Known) (n : ℕ) (bits : List (Option ℕ)) (names : List Number) (terms : List Tree) (w : Width) (x : Wanted) → Named needed g met k n bits names terms → NumberIn bits w x → IsNeeded needed x → OperandIs g met k names terms x
number-named needed g met k n bits names terms w (Value v) h is need =
    let own = value-named needed g met k n bits names terms v (bits_of w) h is in
    record { same = (own.1 need).1; class = inr own.0 }
number-named needed g met k n bits names terms w (Constant m c) h is need =
    record { same = ap (λ j. constant (bits_of (width_for j)) c) is.0 ∙ ap (λ j. constant j c) (width-back w ∙ sym is.0); class = inl refl }
number-named needed g met k n bits names terms w Nothing h is need = absurd is

pub bit-named : (needed : ℕ → Bool) (g : Given) (met : List Tree) (k : Known) (n : ℕ) (bits : List (Option ℕ)) (names : List Number) (terms : List Tree) (x : Wanted) → Named needed g met k n bits names terms → BitIn bits x → IsNeeded needed x → OperandIs g met k names terms x
bit-named needed g met k n bits names terms (Value v) h is need =
    let own = value-named needed g met k n bits names terms v 1 h is in
    record { same = (own.1 need).1; class = inr own.0 }
bit-named needed g met k n bits names terms (Constant m c) h is need = absurd is
bit-named needed g met k n bits names terms Nothing h is need = absurd is

-- it is cut the same by a longer table
pub operand-cut : (g : Given) (met all : List Tree) (k : Known) (names : List Number) (terms : List Tree) (x : Wanted) → Grows met all → OperandIs g met k names terms x → cut met (kernel.operand_term terms x) ≡ cut all (kernel.operand_term terms x)
operand-cut g met all k names terms x grows is = cut-stays met all (kernel.operand_term terms x) grows is.class

-- a stored operand has the same term among all terms
pub stored-term : (bits : List (Option ℕ)) (terms all : List Tree) (w : Width) (x : Wanted) → length bits ≡ length terms → Grows terms all → NumberIn bits w x → kernel.operand_term terms x ≡ kernel.operand_term all x
stored-term bits terms all w (Value v) long grows is =
    let less = index-inside bits v (bits_of w) is in
    sym (ap (λ l. slice_index_or l v no_term) grows.1 ∙ get_or_append_left terms grows.0 no_term v (omega (arith, less, long)))
stored-term bits terms all w (Constant m c) long grows is = refl
stored-term bits terms all w Nothing long grows is = refl

-- ---- one value more

push-each : (P : ℕ → Option ℕ → Number → Tree → Type 0) (bits : List (Option ℕ)) (names : List Number) (terms : List Tree) (b : Option ℕ) (x : Number) (t : Tree) (v : ℕ) → length bits ≡ v → length names ≡ v → length terms ≡ v
    → ((j : ℕ) → j < v → P j (slice_index_or bits j None) (slice_index_or names j (Register 0)) (slice_index_or terms j no_term)) → P v b x t
    → (j : ℕ) → j < v + 1 → P j (slice_index_or (bits ++ b ∷ []) j None) (slice_index_or (names ++ x ∷ []) j (Register 0)) (slice_index_or (terms ++ t ∷ []) j no_term)
push-each P bits names terms b x t v lb ln lt old new j less = elim (cases_lt j v) [
  | inl l ↦
      let eb = get_or_append_left bits (b ∷ []) None j (omega (arith, l, lb)) in
      let en = get_or_append_left names (x ∷ []) (Register 0) j (omega (arith, l, ln)) in
      let et = get_or_append_left terms (t ∷ []) no_term j (omega (arith, l, lt)) in
      subst (λ c. P j c (slice_index_or (names ++ x ∷ []) j (Register 0)) (slice_index_or (terms ++ t ∷ []) j no_term)) (sym eb)
      (subst (λ c. P j (slice_index_or bits j None) c (slice_index_or (terms ++ t ∷ []) j no_term)) (sym en)
      (subst (λ c. P j (slice_index_or bits j None) (slice_index_or names j (Register 0)) c) (sym et) (old j l)))
  | inr g ↦
      let is : v ≡ j = omega arith in
      let eb = get_or_push bits b None j (lb ∙ is) in
      let en = get_or_push names x (Register 0) j (ln ∙ is) in
      let et = get_or_push terms t no_term j (lt ∙ is) in
      subst (λ c. P j c (slice_index_or (names ++ x ∷ []) j (Register 0)) (slice_index_or (terms ++ t ∷ []) j no_term)) (sym eb)
      (subst (λ c. P j b c (slice_index_or (terms ++ t ∷ []) j no_term)) (sym en)
      (subst (λ c. P j b x c) (sym et) (subst (λ i. P i b x t) is new)))
]

push-named : (needed : ℕ → Bool) (g : Given) (met : List Tree) (k : Known) (v : ℕ) (bits : List (Option ℕ)) (names : List Number) (terms : List Tree) (b : Option ℕ) (x : Number) (t : Tree) → Named needed g met k v bits names terms → HasName needed g met k v b x t
    → Named needed g met k (v + 1) (bits ++ b ∷ []) (names ++ x ∷ []) (terms ++ t ∷ [])
push-named needed g met k v bits names terms b x t h own = record {
  bits_long = length_push bits b ∙ ap (λ n. n + 1) h.bits_long;
  names_long = length_push names x ∙ ap (λ n. n + 1) h.names_long;
  terms_long = length_push terms t ∙ ap (λ n. n + 1) h.terms_long;
  each = push-each (HasName needed g met k) bits names terms b x t v h.bits_long h.names_long h.terms_long h.each own;
}

-- what is known grows
met-named : (needed : ℕ → Bool) (g : Given) (met all : List Tree) (k : Known) (v : ℕ) (bits : List (Option ℕ)) (names : List Number) (terms : List Tree) → Grows met all → Named needed g met k v bits names terms → Named needed g all k v bits names terms
met-named needed g met all k v bits names terms grows h = record {
  bits_long = h.bits_long;
  names_long = h.names_long;
  terms_long = h.terms_long;
  each = λ j l w e. (let own = h.each j l w e in (met-more met all (slice_index_or terms j no_term) grows own.0, own.1));
}

scalar-named : (needed : ℕ → Bool) (g : Given) (met : List Tree) (k : Known) (t : Tree) (v : ℕ) (bits : List (Option ℕ)) (names : List Number) (terms : List Tree) → Named needed g met k v bits names terms → Named needed g met (with_scalar k t) v bits names terms
scalar-named needed g met k t v bits names terms h = record {
  bits_long = h.bits_long;
  names_long = h.names_long;
  terms_long = h.terms_long;
  each = λ j l w e. (let own = h.each j l w e in (
    own.0,
    λ n.
        let is = own.1 n in (
          subst (λ c. IsThere c (slice_index_or names j (Register 0))) (sym (length_push k.scalars t)) (there-more (length k.scalars) (slice_index_or names j (Register 0)) is.0),
          term-more g k t (slice_index_or names j (Register 0)) is.0 ∙ is.1,
        ),
  ));
}

-- a load, or an operation that is needed: it has a scalar of its own
pub with-scalar-named : (needed : ℕ → Bool) (g : Given) (met : List Tree) (k : Known) (v w : ℕ) (bits : List (Option ℕ)) (names : List Number) (terms : List Tree) (t : Tree) (count : ℕ) → Named needed g met k v bits names terms → length k.scalars ≡ count
    → Named needed g (met_with met t) (with_scalar k t) (v + 1) (bits ++ Some w ∷ []) (names ++ Register count ∷ []) (terms ++ t ∷ [])
with-scalar-named needed g met k v w bits names terms t count h many =
    let all = met_with met t in
    push-named needed g all (with_scalar k t) v bits names terms (Some w) (Register count) t
    (scalar-named needed g all k t v bits names terms (met-named needed g met all k v bits names terms (met-grows met t) h))
    (λ m e. (met-itself met t, λ n. ((let l = length_push k.scalars t in omega (arith, l, many)), get_or_push k.scalars t no_term count many)))

-- an operation that is not needed
pub without-scalar-named : (needed : ℕ → Bool) (g : Given) (met : List Tree) (k : Known) (v w : ℕ) (bits : List (Option ℕ)) (names : List Number) (terms : List Tree) (t : Tree) → Named needed g met k v bits names terms → needed v ≡ false
    → Named needed g (met_with met t) k (v + 1) (bits ++ Some w ∷ []) (names ++ Register 0 ∷ []) (terms ++ t ∷ [])
without-scalar-named needed g met k v w bits names terms t h none =
    let all = met_with met t in
    push-named needed g all k v bits names terms (Some w) (Register 0) t (met-named needed g met all k v bits names terms (met-grows met t) h)
    (λ m e. (met-itself met t, λ n. absurd (let both : false ≡ true = sym none ∙ n in cc)))

-- a store has no value
pub store-named : (needed : ℕ → Bool) (g : Given) (met : List Tree) (k : Known) (es : List ℕ) (bs : List Bit) (v : ℕ) (bits : List (Option ℕ)) (names : List Number) (terms : List Tree) (t : Tree) → Named needed g met k v bits names terms
    → Named needed g met (with_puts k es bs) (v + 1) (bits ++ None ∷ []) (names ++ Register 0 ∷ []) (terms ++ t ∷ [])
store-named needed g met k es bs v bits names terms t h =
    push-named needed g met (with_puts k es bs) v bits names terms None (Register 0) t
    (record {
      bits_long = h.bits_long;
      names_long = h.names_long;
      terms_long = h.terms_long;
      each = λ j l w e. (let own = h.each j l w e in (own.0, λ n. let is = own.1 n in (is.0, term-kept g k es bs (slice_index_or names j (Register 0)) ∙ is.1)));
    })
    (λ m e. absurd (cc))
