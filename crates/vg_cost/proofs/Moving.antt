-- Numbers counted one list after the other.
use Rattle.std.proofs.Common.{◌≡◌, ℕ, ◌+◌, ◌-◌, ◌<◌, ◌≤◌, Bool, true, false, List, [], ◌∷◌, ◌++◌, length, get_or, take, refl, sym, ◌∙◌, ap, subst, inl, inr, arith, get_or-set_same, get_or-set_other}
use Rattle.std.specs.Prelude.{Option, Some, None, nat_eq, nat_lt, set, if◌then◌else◌}
use Rattle.std.specs.Bool.{beq}
use Rattle.std.specs.List.{cons_option}
use Rattle.std.proofs.lemmas.Bool.{cases_Bool}
use Rattle.std.proofs.lemmas.Bool.Decides.{nat_tests}
use Rattle.std.proofs.lemmas.List.{length-set, take_all, take_more}
use Rattle.vg_cost.specs.Moves.{Counted, Moves}
use Rattle.vg_cost.specs.Needs.{times_in, under}
use Rattle.vg_cost.proofs.NumberSums.{times-append}

pub moves_none : (xs counts : List ℕ) (marks : List Bool) → Moves xs xs counts counts marks marks
moves_none xs counts marks = record {
  long = refl;
  marks = refl;
  each = λ v l k. refl;
  same = λ v l m f. (f, refl);
}

pub moves_more : (g1 c1 g2 c2 a b d : List ℕ) (m n p : List Bool)
    → Moves g1 c1 a b m n → Moves g2 c2 b d n p → Moves (g1 ++ g2) (c1 ++ c2) a d m p
moves_more g1 c1 g2 c2 a b d m n p q r = record {
  long = r.long ∙ q.long;
  marks = r.marks ∙ q.marks;
  each = λ v l k.
      let i : v < length b = let e = q.long in omega (arith, e, l) in
      let g = times-append v g1 g2 in
      let c = times-append v c1 c2 in
      let first = q.each v l (omega (arith, g, k)) in
      let second = r.each v i (omega (arith, g, k, first)) in
      omega (arith, g, c, first, second);
  same = λ v l k f.
      let i : v < length b = let e = q.long in omega (arith, e, l) in
      let j : v < length n = let e = q.marks in omega (arith, e, k) in
      let s = r.same v i j f in
      let t = q.same v l k s.0 in
      (t.0, s.1 ∙ t.1);
}

pub counted_none : (more : Bool) (counts : List ℕ) (marks : List Bool) → Counted more [] counts counts marks marks
counted_none true counts marks = moves_none [] counts marks
counted_none false counts marks = moves_none [] counts marks

pub counted_more : (more : Bool) (xs ys a b d : List ℕ) (m n p : List Bool)
    → Counted more xs a b m n → Counted more ys b d n p → Counted more (xs ++ ys) a d m p
counted_more true xs ys a b d m n p q r = moves_more [] xs [] ys a b d m n p q r
counted_more false xs ys a b d m n p q r = moves_more xs [] ys [] a b d m n p q r

pub counted_long : (more : Bool) (xs a b : List ℕ) (m n : List Bool) → Counted more xs a b m n
    → length m ≡ length a → length n ≡ length b
counted_long true xs a b m n q e = q.marks ∙ e ∙ sym q.long
counted_long false xs a b m n q e = q.marks ∙ e ∙ sym q.long

-- the same, from counts and marks that were copied
pub copied_moves : (gone come a b : List ℕ) (m n : List Bool) (counts : List ℕ) (marks : List Bool) → a ≡ counts → m ≡ marks
    → Moves gone come a b m n → Moves gone come counts b marks n
copied_moves gone come a b m n counts marks e f q =
    subst (λ l. Moves gone come l b marks n) e (subst (λ l. Moves gone come a b l n) f q)

pub moves_long : (gone come a b : List ℕ) (m n : List Bool) → Moves gone come a b m n → length m ≡ length a → length n ≡ length b
moves_long gone come a b m n q e = q.marks ∙ e ∙ sym q.long

pub differ : {X : Type 0} → true ≡ false → X
differ e = absurd (cc)

module _ (number n : ℕ) (old : List ℕ) (before : List Bool) (inside : number < length old) (long : length before ≡ length old) where
  same-one : (v : ℕ) → v < length old → v < length before → get_or (set before number true) v false ≡ false
      → (get_or before v false ≡ false) × (get_or (set old number n) v 0 ≡ get_or old v 0)
  same-one v l k f = elim (cases_Bool (nat_eq v number)) [
    | inl t ↦
        let q : number ≡ v = grind (arith, nat_tests, t) in
        let there : number < length before = omega (arith, inside, long) in
        differ (sym (get_or-set_same before number true false there) ∙ ap (λ w. get_or (set before number true) w false) q ∙ f)
    | inr g ↦
        let ne : v ≡ number → ⊥ = λ q. grind (arith, nat_tests, g, q) in
        (sym (get_or-set_other before number v true false ne) ∙ f, get_or-set_other old number v n 0 ne)
  ]

  pub counted_one : (more : Bool) → n ≡ (if more then get_or old number 0 + 1 else get_or old number 0 - 1)
      → Counted more (number ∷ []) old (set old number n) before (set before number true)
  counted_one true e = record {
    long = length-set old number n;
    marks = length-set before number true;
    each = λ v l k. elim (cases_Bool (nat_eq v number)) [
      | inl t ↦
          let q : number ≡ v = grind (arith, nat_tests, t) in
          let at : get_or (set old number n) v 0 ≡ n = ap (λ w. get_or (set old number n) w 0) (sym q) ∙ get_or-set_same old number n 0 inside in
          let was : get_or old number 0 ≡ get_or old v 0 = ap (λ w. get_or old w 0) q in
          rw t (omega (arith, at, was, e))
      | inr g ↦
          let ne : v ≡ number → ⊥ = λ q. grind (arith, nat_tests, g, q) in
          let at = get_or-set_other old number v n 0 ne in
          rw g (omega (arith, at))
    ];
    same = same-one;
  }
  counted_one false e = record {
    long = length-set old number n;
    marks = length-set before number true;
    each = λ v l. elim (cases_Bool (nat_eq v number)) [
      | inl t ↦
          let q : number ≡ v = grind (arith, nat_tests, t) in
          let at : get_or (set old number n) v 0 ≡ n = ap (λ w. get_or (set old number n) w 0) (sym q) ∙ get_or-set_same old number n 0 inside in
          let was : get_or old number 0 ≡ get_or old v 0 = ap (λ w. get_or old w 0) q in
          rw t (λ k. omega (arith, at, was, e, k))
      | inr g ↦
          let ne : v ≡ number → ⊥ = λ q. grind (arith, nat_tests, g, q) in
          let at = get_or-set_other old number v n 0 ne in
          rw g (λ k. omega (arith, at))
    ];
    same = same-one;
  }

module _ (number : ℕ) (old : List ℕ) (before : List Bool) (past : length old ≤ number) where
  none-past : (v : ℕ) → v < length old → times_in v (number ∷ []) ≡ 0
  none-past v l = elim (cases_Bool (nat_eq v number)) [
    | inl t ↦ absurd (let q : v ≡ number = grind (arith, nat_tests, t) in omega (arith, q, l, past))
    | inr g ↦ rw g refl
  ]

  -- a number past all counts counts for nothing
  pub counted_past : (more : Bool) → Counted more (number ∷ []) old old before before
  counted_past true = record {
    long = refl;
    marks = refl;
    each = λ v l k. let z = none-past v l in omega (arith, z);
    same = λ v l k f. (f, refl);
  }
  counted_past false = record {
    long = refl;
    marks = refl;
    each = λ v l k. let z = none-past v l in omega (arith, z);
    same = λ v l k f. (f, refl);
  }

-- what is counted where a test turns
pub counted_turn : (was is : Bool) (xs a b : List ℕ) (m n : List Bool) → beq was is ≡ false → Counted is xs a b m n
    → Moves (if was then xs else []) (if is then xs else []) a b m n
counted_turn true true xs a b m n ne c = differ ne
counted_turn true false xs a b m n ne c = c
counted_turn false true xs a b m n ne c = c
counted_turn false false xs a b m n ne c = differ ne

pub counted_still : (was is : Bool) (xs a : List ℕ) (m : List Bool) → was ≡ is
    → Moves (if was then xs else []) (if is then xs else []) a a m m
counted_still was is xs a m e = subst (λ b. Moves (if was then xs else []) (if b then xs else []) a a m m) e (moves_none (if was then xs else []) a m)

-- one element more of what a loop has counted
pub counted_step : {X : Type 0} (F : List X → List ℕ) (more : Bool) (xs : List X) (k : ℕ) (x d : X) (a b c : List ℕ) (m n p : List Bool)
    → ((ys zs : List X) → F (ys ++ zs) ≡ F ys ++ F zs) → k < length xs → x ≡ get_or xs k d
    → Counted more (F (take k xs)) a b m n → Counted more (F (x ∷ [])) b c n p → Counted more (F (take (k + 1) xs)) a c m p
counted_step F more xs k x d a b c m n p app inside is q r =
    let whole : take (k + 1) xs ≡ take k xs ++ x ∷ [] =
    take_more xs k d inside ∙ ap (λ y. take k xs ++ y ∷ []) (sym is)
    in
    subst (λ ys. Counted more (F ys) a c m p) (sym whole)
    (subst (λ l. Counted more l a c m p) (sym (app (take k xs) (x ∷ [])))
    (counted_more more (F (take k xs)) (F (x ∷ [])) a b c m n p q r))

pub counted_all : {X : Type 0} (F : List X → List ℕ) (more : Bool) (xs : List X) (k : ℕ) (a b : List ℕ) (m n : List Bool)
    → length xs ≤ k → Counted more (F (take k xs)) a b m n → Counted more (F xs) a b m n
counted_all F more xs k a b m n past q = subst (λ ys. Counted more (F ys) a b m n) (take_all k xs past) q

pub moves_step : {X : Type 0} (G F : List X → List ℕ) (xs : List X) (k : ℕ) (x d : X) (a b c : List ℕ) (m n p : List Bool)
    → ((ys zs : List X) → G (ys ++ zs) ≡ G ys ++ G zs) → ((ys zs : List X) → F (ys ++ zs) ≡ F ys ++ F zs)
    → k < length xs → x ≡ get_or xs k d
    → Moves (G (take k xs)) (F (take k xs)) a b m n → Moves (G (x ∷ [])) (F (x ∷ [])) b c n p
    → Moves (G (take (k + 1) xs)) (F (take (k + 1) xs)) a c m p
moves_step G F xs k x d a b c m n p gapp app inside is q r =
    let whole : take (k + 1) xs ≡ take k xs ++ x ∷ [] =
    take_more xs k d inside ∙ ap (λ y. take k xs ++ y ∷ []) (sym is)
    in
    subst (λ ys. Moves (G ys) (F ys) a c m p) (sym whole)
    (subst (λ l. Moves l (F (take k xs ++ x ∷ [])) a c m p) (sym (gapp (take k xs) (x ∷ [])))
    (subst (λ l. Moves (G (take k xs) ++ G (x ∷ [])) l a c m p) (sym (app (take k xs) (x ∷ [])))
    (moves_more (G (take k xs)) (F (take k xs)) (G (x ∷ [])) (F (x ∷ [])) a b c m n p q r)))

pub moves_all : {X : Type 0} (G F : List X → List ℕ) (xs : List X) (k : ℕ) (a b : List ℕ) (m n : List Bool)
    → length xs ≤ k → Moves (G (take k xs)) (F (take k xs)) a b m n → Moves (G xs) (F xs) a b m n
moves_all G F xs k a b m n past q = subst (λ ys. Moves (G ys) (F ys) a b m n) (take_all k xs past) q

-- a number that is not below another counts for nothing under it
pub counted_over : (more : Bool) (v number : ℕ) (counts : List ℕ) (marks : List Bool) → number ≤ v
    → Counted more (under number (v ∷ [])) counts counts marks marks
counted_over more v number counts marks l = elim (cases_Bool (nat_lt v number)) [
  | inl t ↦ absurd (let k : v < number = grind (arith, nat_tests, t) in omega (arith, k, l))
  | inr f ↦ rw f (counted_none more counts marks)
]

under-option : (n : ℕ) (x : Option ℕ) (ys : List ℕ) → under n (cons_option x ys) ≡ under n (cons_option x []) ++ under n ys
under-option n None ys = refl
under-option n (Some x) ys = elim (cases_Bool (nat_lt x n)) [ inl t ↦ rw t refl | inr f ↦ rw f refl ]

-- three numbers that there may be, under another
pub counted_three : (more : Bool) (n : ℕ) (x y z : Option ℕ) (a b c d : List ℕ) (m p q r : List Bool)
    → Counted more (under n (cons_option x [])) a b m p → Counted more (under n (cons_option y [])) b c p q
    → Counted more (under n (cons_option z [])) c d q r
    → Counted more (under n (cons_option x (cons_option y (cons_option z [])))) a d m r
counted_three more n x y z a b c d m p q r e f g =
    subst (λ l. Counted more l a d m r)
    (sym (under-option n x (cons_option y (cons_option z [])) ∙ ap (λ l. under n (cons_option x []) ++ l) (under-option n y (cons_option z []))))
    (counted_more more (under n (cons_option x [])) (under n (cons_option y []) ++ under n (cons_option z [])) a b d m p r e
    (counted_more more (under n (cons_option y [])) (under n (cons_option z [])) b c d p q r f g))

pub counted_turn_under : (number : ℕ) (was is : Bool) (xs a b : List ℕ) (m n : List Bool) → beq was is ≡ false
    → Counted is (under number xs) a b m n
    → Moves (under number (if was then xs else [])) (under number (if is then xs else [])) a b m n
counted_turn_under number true true xs a b m n ne c = differ ne
counted_turn_under number true false xs a b m n ne c = c
counted_turn_under number false true xs a b m n ne c = c
counted_turn_under number false false xs a b m n ne c = differ ne
