-- Marks that are set one after the other.
use Rattle.std.proofs.Common.{◌≡◌, ℕ, zero, suc, ◌+◌, ◌-◌, ◌<◌, ◌≤◌, Bool, true, false, List, [], ◌∷◌, ◌++◌, length, get_or, refl, sym, ◌∙◌, ap, subst, inl, inr, arith, get_or-set_same, get_or-set_other}
use Rattle.std.specs.Prelude.{◌&&◌, ◌||◌, nat_eq, replicate, set}
use Rattle.std.specs.List.{list_any}
use Rattle.std.proofs.lemmas.Bool.{cases_Bool, eqb-true}
use Rattle.std.proofs.lemmas.Bool.Decides.{nat_tests}
use Rattle.std.proofs.lemmas.List.{get_or-replicate, length-replicate, length-set}
use Rattle.std.proofs.lemmas.List.Folds.{list_any-append}
use Rattle.vg_rewrite.specs.Marks.{AddsMarks, Marked, MarkedSoFar}
use Rattle.vg_shapes.specs.Order.{numbers_from}

or-none : (b : Bool) → b ≡ (b || false)
or-none true = refl
or-none false = refl

or-both : (a b c : Bool) → ((a || b) || c) ≡ (a || (b || c))
or-both true b c = refl
or-both false b c = refl

or-true : (b : Bool) → true ≡ (b || true)
or-true true = refl
or-true false = refl

pub adds-none : (p : ℕ → Bool) (marks : List Bool) → ((v : ℕ) → p v ≡ false) → AddsMarks p marks marks
adds-none p marks never = record {
  long = refl;
  each = λ v l. or-none (get_or marks v false) ∙ ap (λ b. get_or marks v false || b) (sym (never v));
}

pub adds-same : (p q : ℕ → Bool) (old new : List Bool) → ((v : ℕ) → p v ≡ q v) → AddsMarks p old new → AddsMarks q old new
adds-same p q old new same a = record {
  long = a.long;
  each = λ v l. a.each v l ∙ ap (λ b. get_or old v false || b) (same v);
}

pub adds-both : (p q : ℕ → Bool) (a b c : List Bool) → AddsMarks p a b → AddsMarks q b c → AddsMarks (λ v. p v || q v) a c
adds-both p q a b c f g = record {
  long = g.long ∙ f.long;
  each = λ v l. g.each v (subst (λ n. v < n) (sym f.long) l) ∙ ap (λ t. t || q v) (f.each v l) ∙ or-both (get_or a v false) (p v) (q v);
}

-- one number
pub adds-one : (marks : List Bool) (k : ℕ) → k < length marks → AddsMarks (λ v. nat_eq k v) marks (set marks k true)
adds-one marks k l = record {
  long = length-set marks k true;
  each = λ v h. elim (cases_Bool (nat_eq k v)) [
    | inl e ↦
        let same : k ≡ v = eqb-true k v e in
        ap (λ n. get_or (set marks k true) n false) (sym same) ∙ get_or-set_same marks k true false l ∙ or-true (get_or marks v false) ∙ ap (λ b. get_or marks v false || b) (sym e)
    | inr e ↦
        get_or-set_other marks k v true false (λ same. absurd (let d : nat_eq k v ≡ true = eq-true k v (sym same) in cc)) ∙ or-none (get_or marks v false) ∙ ap (λ b. get_or marks v false || b) (sym e)
  ];
}
  where
    eq-true : (a b : ℕ) → a ≡ b → nat_eq a b ≡ true
    eq-true a b e = grind (arith, nat_tests)

-- a number past the end has no mark
pub adds-past : (marks : List Bool) (k : ℕ) → length marks ≤ k → AddsMarks (λ v. nat_eq k v) marks marks
adds-past marks k l = record {
  long = refl;
  each = λ v h. elim (cases_Bool (nat_eq k v)) [
    | inl e ↦ absurd (let same : k ≡ v = eqb-true k v e in omega arith)
    | inr e ↦ or-none (get_or marks v false) ∙ ap (λ b. get_or marks v false || b) (sym e)
  ];
}

pub adds-where : (b : Bool) (p : ℕ → Bool) (old new : List Bool) → b ≡ true → AddsMarks p old new → AddsMarks (λ v. p v && b) old new
adds-where b p old new e a = adds-same p (λ v. p v && b) old new (λ v. and-true (p v) ∙ ap (λ t. p v && t) (sym e)) a
  where
    and-true : (c : Bool) → c ≡ (c && true)
    and-true true = refl
    and-true false = refl

pub adds-nowhere : (b : Bool) (p : ℕ → Bool) (marks : List Bool) → b ≡ false → AddsMarks (λ v. p v && b) marks marks
adds-nowhere b p marks e = adds-none (λ v. p v && b) marks (λ v. ap (λ t. p v && t) e ∙ and-false (p v))
  where
    and-false : (c : Bool) → (c && false) ≡ false
    and-false true = refl
    and-false false = refl

-- ---- one unit after the other

numbers_from-more : (first n : ℕ) → numbers_from first (suc n) ≡ numbers_from first n ++ (first + n) ∷ []
numbers_from-more first zero = ap (λ m. m ∷ []) (let e : first ≡ first + 0 = omega arith in e)
numbers_from-more first (suc n) =
    let next : first + 1 + n ≡ first + suc n = omega arith in
    ap (λ l. first ∷ l) (numbers_from-more (first + 1) n ∙ ap (λ m. numbers_from (first + 1) n ++ m ∷ []) next)

pub marks-begun : (p : ℕ → ℕ → Bool) (count first : ℕ) (marks : List Bool) → first ≤ count → marks ≡ replicate count false → MarkedSoFar p count first first marks
marks-begun p count first marks few is = record {
  begun = omega arith;
  inside = few;
  long = ap length is ∙ length-replicate count false;
  each = λ v l.
      let none : 0 ≡ first - first = omega arith in
      ap (λ m. get_or m v false) is ∙ get_or-replicate count v false false l ∙ ap (λ n. list_any (λ u. p u v) (numbers_from first n)) none;
}

pub marks-more : (p : ℕ → ℕ → Bool) (count first user : ℕ) (old new : List Bool) → user < count → MarkedSoFar p count first user old → AddsMarks (p user) old new
    → MarkedSoFar p count first (user + 1) new
marks-more p count first user old new few h a =
    let begun = h.begun in
    let long = h.long in
    record {
      begun = omega arith;
      inside = omega arith;
      long = a.long ∙ h.long;
      each = λ v l.
          let next : user + 1 - first ≡ suc (user - first) = omega arith in
          let here : first + (user - first) ≡ user = omega arith in
          a.each v (omega arith) ∙ ap (λ b. b || p user v) (h.each v l)
          ∙ ap (λ b. list_any (λ u. p u v) (numbers_from first (user - first)) || b) (or-none (p user v) ∙ ap (λ n. p n v || false) (sym here))
          ∙ sym (list_any-append (λ u. p u v) (numbers_from first (user - first)) ((first + (user - first)) ∷ []))
          ∙ ap (list_any (λ u. p u v)) (sym (numbers_from-more first (user - first)))
          ∙ ap (λ n. list_any (λ u. p u v) (numbers_from first n)) (sym next);
    }

pub marks-ended : (p : ℕ → ℕ → Bool) (count first user many : ℕ) (marks : List Bool) → count ≤ user → first + many ≡ count → MarkedSoFar p count first user marks
    → Marked count (λ v. list_any (λ u. p u v) (numbers_from first many)) marks
marks-ended p count first user many marks end all h = record {
  long = h.long;
  each = λ v l.
      let inside = h.inside in
      let same : user - first ≡ many = omega arith in
      h.each v l ∙ ap (λ n. list_any (λ u. p u v) (numbers_from first n)) same;
}
