-- Marks that are set one after the other.
use Rattle.std.proofs.Common.{◌≡◌, ℕ, zero, suc, ◌+◌, ◌<◌, ◌≤◌, ◌⊎◌, Bool, true, false, List, [], ◌∷◌, length, get_or, take, refl, sym, ◌∙◌, ap, subst, inl, inr, arith, get_or-set_same, get_or-set_other}
use Rattle.std.specs.Prelude.{◌||◌, nat_eq, nat_le, nat_lt, replicate, set, Ok, Err, IfOk, Result}
use Rattle.std.specs.List.{list_any}
use Rattle.std.proofs.lemmas.Bool.{cases_Bool}
use Rattle.std.proofs.lemmas.Bool.Decides.{nat_tests}
use Rattle.std.proofs.lemmas.List.{length-replicate, length-set, take_all}
use Rattle.std.proofs.lemmas.List.Folds.{list_any_more}
use Rattle.vg_plans.specs.Members.{Has}
use Rattle.vg_shapes.specs.declared.pack.Pack.{Pack}
use Rattle.vg_packs.specs.Marks.{AddsMarks, AreMarks, is_packed_by, is_within}
use Rattle.vg_packs.specs.Walk.{HasWay, IsApart, IsAt, LeadsApart, Way, there, down, is_in_plan}

or-none : (b : Bool) → b ≡ (b || false)
or-none true = refl
or-none false = refl

or-both : (a b c : Bool) → ((a || b) || c) ≡ (a || (b || c))
or-both true b c = refl
or-both false b c = refl

pub adds-none : (own : ℕ → Bool) (marks : List Bool) → ((v : ℕ) → own v ≡ false) → AddsMarks own marks marks
adds-none own marks never = record {
  long = refl;
  at = λ v l. or-none (get_or marks v false) ∙ ap (λ b. get_or marks v false || b) (sym (never v));
}

-- one more of a list
pub adds-more : {X : Type 0} (own : ℕ → X → Bool) (xs : List X) (i : ℕ) (x d : X) (a b c : List Bool) → i < length xs
    → x ≡ get_or xs i d → AddsMarks (λ v. list_any (own v) (take i xs)) a b → AddsMarks (λ v. own v x) b c
    → AddsMarks (λ v. list_any (own v) (take (i + 1) xs)) a c
adds-more own xs i x d a b c l is f g = record {
  long = g.long ∙ f.long;
  at = λ v k.
      g.at v (subst (λ n. v < n) (sym f.long) k)
      ∙ ap (λ t. t || own v x) (f.at v k)
      ∙ or-both (get_or a v false) (list_any (own v) (take i xs)) (own v x)
      ∙ ap (λ t. get_or a v false || t)
      (ap (λ y. list_any (own v) (take i xs) || own v y) is ∙ sym (list_any_more (own v) xs i d l));
}

pub adds-same : (own other : ℕ → Bool) (marks new_marks : List Bool) → ((v : ℕ) → own v ≡ other v)
    → AddsMarks own marks new_marks → AddsMarks other marks new_marks
adds-same own other marks new_marks same a = record {
  long = a.long;
  at = λ v l. a.at v l ∙ ap (λ b. get_or marks v false || b) (same v);
}

pub adds-all : {X : Type 0} (own : ℕ → X → Bool) (xs : List X) (i : ℕ) (a b : List Bool) → length xs ≤ i
    → AddsMarks (λ v. list_any (own v) (take i xs)) a b → AddsMarks (λ v. list_any (own v) xs) a b
adds-all own xs i a b l m =
    adds-same (λ v. list_any (own v) (take i xs)) (λ v. list_any (own v) xs) a b
    (λ v. ap (list_any (own v)) (take_all i xs l)) m

or-true : (b : Bool) → (b || true) ≡ true
or-true true = refl
or-true false = refl

-- a number that has a mark, and one that has none
pub marked-set : (marks : List Bool) (k : ℕ) → k < length marks → AddsMarks (λ v. nat_eq v k) marks (set marks k true)
marked-set marks k l = record {
  long = length-set marks k true;
  at = λ v m. elim (cases_Bool (nat_eq v k)) [
    | inl t ↦
        let e : k ≡ v = grind (arith, nat_tests, t) in
        subst (λ z. get_or (set marks k true) z false ≡ true) e (get_or-set_same marks k true false l)
        ∙ sym (or-true (get_or marks v false)) ∙ ap (λ b. get_or marks v false || b) (sym t)
    | inr f ↦
        let ne : v ≡ k → ⊥ = λ e. grind (arith, nat_tests, f, e) in
        get_or-set_other marks k v true false ne ∙ or-none (get_or marks v false)
        ∙ ap (λ b. get_or marks v false || b) (sym f)
  ];
}

pub marked-outside : (marks : List Bool) (k : ℕ) → length marks ≤ k → AddsMarks (λ v. nat_eq v k) marks marks
marked-outside marks k l = record {
  long = refl;
  at = λ v m.
      let f : nat_eq v k ≡ false = grind (arith, nat_tests, l, m) in
      or-none (get_or marks v false) ∙ ap (λ b. get_or marks v false || b) (sym f);
}

pub at-none : (n v : ℕ) → get_or (replicate n false) v false ≡ false
at-none zero v = refl
at-none (suc n) zero = refl
at-none (suc n) (suc v) = at-none n v

pub clear-long : (n : ℕ) (clear : List Bool) → clear ≡ replicate n false → length clear ≡ n
clear-long n clear e = ap length e ∙ length-replicate n false

-- marks that were clear
pub marks-set : (n : ℕ) (own : ℕ → Bool) (clear marks : List Bool) → clear ≡ replicate n false → AddsMarks own clear marks
    → AreMarks n own marks
marks-set n own clear marks e a =
    let long = clear-long n clear e in
    record {
      long = a.long ∙ long;
      at = λ v l.
          a.at v (subst (λ m. v < m) (sym long) l)
          ∙ ap (λ b. b || own v) (ap (λ m. get_or m v false) e ∙ at-none n v);
    }

-- ---- what the marks stand for

pub packed-any : (n : ℕ) (plan : List Pack) (packed : List Bool) → AreMarks n (is_in_plan plan) packed
    → (us : List ℕ) → list_any (is_packed_by packed plan) us ≡ list_any (is_in_plan plan) us
packed-any n plan packed a [] = refl
packed-any n plan packed a (u ∷ us) =
    ap (λ b. b || list_any (is_packed_by packed plan) us) (packed-same u)
    ∙ ap (λ b. is_in_plan plan u || b) (packed-any n plan packed a us)
  where
    packed-same : (v : ℕ) → is_packed_by packed plan v ≡ is_in_plan plan v
    packed-same v = elim (cases_Bool (nat_lt v (length packed))) [
      | inl t ↦
          let l : v < length packed = grind (arith, nat_tests, t) in
          rw t (a.at v (subst (λ m. v < m) a.long l))
      | inr f ↦ rw f refl
    ]

pub at-inside : (marks : List Bool) (v : ℕ) → IsAt marks v → v < length marks
at-inside [] v t = absurd (cc)
at-inside (b ∷ marks) zero t = omega arith
at-inside (b ∷ marks) (suc v) t = let h = at-inside marks v t in omega (arith, h)

module _ (ns : ℕ → List ℕ) (own : ℕ → Bool) (n : ℕ) (marked : List Bool) (a : AreMarks n own marked) where
  abbrev by_mark : ℕ → Bool
  by_mark v = get_or marked v false

  way-own : (v : ℕ) → Way ns by_mark v → Way ns own v
  way-own v (there u t) = there u (sym (a.at u (subst (λ m. u < m) a.long (at-inside marked u t))) ∙ t)
  way-own v (down u x h w) = down u x h (way-own x w)

  pub ways-own : {E : Type 0} (result : Result Bool E) (starts needed : List ℕ) → starts ≡ needed
      → IfOk result (λ r. r ≡ true → HasWay ns by_mark starts) → IfOk result (λ r. r ≡ true → HasWay ns own needed)
  ways-own (Ok r) starts needed e h =
      λ t. let w = h t in (w.0, subst (λ l. Has w.0 l) e w.1, way-own w.0 w.2)
  ways-own (Err x) starts needed e h = h

  apart-own : (starts : List ℕ) (marks : List Bool) → length marks ≡ n → IsApart ns by_mark starts marks
      → IsApart ns own starts marks
  apart-own starts marks long p = record {
    starts_marked = p.starts_marked;
    closed = p.closed;
    away = λ v h. sym (a.at v (subst (λ m. v < m) long (at-inside marks v h))) ∙ p.away v h;
  }

  pub leads-own : {E : Type 0} (result : Result Bool E) (starts needed : List ℕ) (marks : List Bool) → starts ≡ needed
      → length marks ≡ n → IfOk result (λ r. r ≡ false → IsApart ns by_mark starts marks)
      → IfOk result (λ r. r ≡ false → LeadsApart ns own needed)
  leads-own (Ok r) starts needed marks e long h =
      λ f. (marks, subst (λ l. IsApart ns own l marks) e (apart-own starts marks long (h f)))
  leads-own (Err x) starts needed marks e long h = h

-- ---- marks of runs of numbers

pub below-none : (end : ℕ) (marks : List Bool) → end ≡ 0 → AddsMarks (λ v. nat_lt v end) marks marks
below-none end marks e = adds-none (λ v. nat_lt v end) marks (λ v. grind (arith, nat_tests, e))

pub below-more : (k : ℕ) (a b c : List Bool) → AddsMarks (λ v. nat_lt v k) a b → AddsMarks (λ v. nat_eq v k) b c
    → AddsMarks (λ v. nat_lt v (k + 1)) a c
below-more k a b c f g = record {
  long = g.long ∙ f.long;
  at = λ v l.
      g.at v (subst (λ n. v < n) (sym f.long) l)
      ∙ ap (λ t. t || nat_eq v k) (f.at v l)
      ∙ or-both (get_or a v false) (nat_lt v k) (nat_eq v k)
      ∙ ap (λ t. get_or a v false || t) (one-more v);
}
  where
    one-more : (v : ℕ) → (nat_lt v k || nat_eq v k) ≡ nat_lt v (k + 1)
    one-more v = elim (cases_Bool (nat_lt v k)) [
      | inl t ↦ let e : nat_lt v (k + 1) ≡ true = grind (arith, nat_tests, t) in rw t (sym e)
      | inr n ↦ elim (cases_Bool (nat_eq v k)) [
        | inl t ↦ let e : nat_lt v (k + 1) ≡ true = grind (arith, nat_tests, t) in rw (n, t) (sym e)
        | inr d ↦ let e : nat_lt v (k + 1) ≡ false = grind (arith, nat_tests, n, d) in rw (n, d) (sym e)
      ]
    ]

pub within-none : (least k : ℕ) (marks : List Bool) → k ≤ least → AddsMarks (is_within least k) marks marks
within-none least k marks l = adds-none (is_within least k) marks never
  where
    never : (v : ℕ) → is_within least k v ≡ false
    never v = elim (cases_Bool (nat_lt least v)) [
      | inl t ↦ let e : nat_le v k ≡ false = grind (arith, nat_tests, t, l) in rw t e
      | inr n ↦ rw n refl
    ]

pub within-more : (least k : ℕ) (a b c : List Bool) → least ≤ k → AddsMarks (is_within least k) a b
    → AddsMarks (λ v. nat_eq v (k + 1)) b c → AddsMarks (is_within least (k + 1)) a c
within-more least k a b c low f g = record {
  long = g.long ∙ f.long;
  at = λ v l.
      g.at v (subst (λ n. v < n) (sym f.long) l)
      ∙ ap (λ t. t || nat_eq v (k + 1)) (f.at v l)
      ∙ or-both (get_or a v false) (is_within least k v) (nat_eq v (k + 1))
      ∙ ap (λ t. get_or a v false || t) (one-more v);
}
  where
    one-more : (v : ℕ) → (is_within least k v || nat_eq v (k + 1)) ≡ is_within least (k + 1) v
    one-more v = elim (cases_Bool (nat_lt least v)) [
      | inl t ↦ elim (cases_Bool (nat_le v k)) [
        | inl s ↦ let e : nat_le v (k + 1) ≡ true = grind (arith, nat_tests, s) in rw (t, s) (sym e)
        | inr n ↦ elim (cases_Bool (nat_eq v (k + 1))) [
          | inl s ↦ let e : nat_le v (k + 1) ≡ true = grind (arith, nat_tests, s) in rw (t, n, s) (sym e)
          | inr d ↦ let e : nat_le v (k + 1) ≡ false = grind (arith, nat_tests, n, d) in rw (t, n, d) (sym e)
        ]
      ]
      | inr n ↦
          let d : nat_eq v (k + 1) ≡ false = grind (arith, nat_tests, n, low) in
          rw (n, d) refl
    ]

-- the run that was marked is the one that was wanted
pub within-all : (least k greatest : ℕ) (a b : List Bool) → greatest ≤ k → (k ≡ least) ⊎ (k ≤ greatest)
    → AddsMarks (is_within least k) a b → AddsMarks (is_within least greatest) a b
within-all least k greatest a b up few m =
    adds-same (is_within least k) (is_within least greatest) a b (λ v. elim few [
      | inl e ↦ none v k e (omega (arith, e)) ∙ sym (none v greatest e (omega (arith, e, up)))
      | inr l ↦ let e : k ≡ greatest = omega (arith, l, up) in ap (λ n. is_within least n v) e
    ]) m
  where
    none : (v n : ℕ) → k ≡ least → n ≤ least → is_within least n v ≡ false
    none v n e l = elim (cases_Bool (nat_lt least v)) [
      | inl t ↦ let f : nat_le v n ≡ false = grind (arith, nat_tests, t, l) in rw t f
      | inr d ↦ rw d refl
    ]
