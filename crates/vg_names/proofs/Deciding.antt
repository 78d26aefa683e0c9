-- As many steps as there are assignments decide what is signed. Behind each step either nothing changes any more, or the
-- right side of one assignment more is known to be signed.
use Rattle.std.proofs.Common.{◌≡◌, ℕ, ◌+◌, ◌-◌, zero, suc, ◌<◌, ◌≤◌, Bool, true, false, ◌||◌, ◌&&◌, List, [], ◌∷◌, map, length, refl, sym, ◌∙◌, ap, arith, inl, inr, ◌⊎◌, true≢false}
use Rattle.std.specs.Prelude.{not, if◌then◌else◌}
use Rattle.std.specs.List.{list_any}
use Rattle.std.specs.Str.{bytes_eq}
use Rattle.vg_pseudo.specs.Tree.{Expression}
use Rattle.vg_pseudo.specs.Tree as tree
use Rattle.vg_pseudo.specs.Names.{Assignment, Register, has_name}
use Rattle.vg_pseudo.specs.Signs.{Signs, gives_signed, keeps_sign, joins_signs, is_signed, is_signed_register, signed_in}
use Rattle.vg_names.proofs.Signing.{signs-same}

-- ---- what holds once goes on to hold

abbrev Stays : Bool → Bool → Type 0
Stays a b = a ≡ true → b ≡ true

or-stays : (a b c d : Bool) → Stays a c → Stays b d → Stays (a || b) (c || d)
or-stays true b c d f g e = ap (λ x. x || d) (f refl)
or-stays false b true d f g e = refl
or-stays false b false d f g e = g e

and-stays : (a b c : Bool) → Stays b c → Stays (a && b) (a && c)
and-stays true b c f e = f e
and-stays false b c f e = e

any-stays : {A : Type 0} (p q : A → Bool) → ((x : A) → Stays (p x) (q x)) → (xs : List A) → Stays (list_any p xs) (list_any q xs)
any-stays p q f [] e = e
any-stays p q f (x ∷ xs) e = or-stays (p x) (list_any p xs) (q x) (list_any q xs) (f x) (any-stays p q f xs) e

signs-stay : (s t : Signs) → ((n : List ℕ) → s.slices n ≡ t.slices n) → ((n : List ℕ) → Stays (s.whole n) (t.whole n))
    → (ts : List (List ℕ)) (x : Expression) → Stays (is_signed s ts x) (is_signed t ts x)
signs-stay s t a b ts (tree.number at n) e = e
signs-stay s t a b ts (tree.name at n) e = and-stays (not (has_name ts n)) (s.whole n) (t.whole n) (b n) e
signs-stay s t a b ts (tree.slice at n h l) e = sym (ap (λ x. not (has_name ts n) && x) (a n)) ∙ e
signs-stay s t a b ts (tree.bit at n k) e = e
signs-stay s t a b ts (tree.element at n w k) e = sym (ap (λ x. not (has_name ts n) && x) (a n)) ∙ e
signs-stay s t a b ts (tree.part at n w) e = and-stays (not (has_name ts n)) (s.whole n) (t.whole n) (b n) e
signs-stay s t a b ts (tree.unary at op x) e =
    or-stays (gives_signed op) (keeps_sign op && is_signed s ts x) (gives_signed op) (keeps_sign op && is_signed t ts x) (λ e. e)
    (and-stays (keeps_sign op) (is_signed s ts x) (is_signed t ts x) (signs-stay s t a b ts x)) e
signs-stay s t a b ts (tree.binary at op x y) e =
    and-stays (joins_signs op) (is_signed s ts x || is_signed s ts y) (is_signed t ts x || is_signed t ts y)
    (or-stays (is_signed s ts x) (is_signed s ts y) (is_signed t ts x) (is_signed t ts y) (signs-stay s t a b ts x) (signs-stay s t a b ts y)) e
signs-stay s t a b ts (tree.choice at c x y) e =
    or-stays (is_signed s ts x) (is_signed s ts y) (is_signed t ts x) (is_signed t ts y) (signs-stay s t a b ts x) (signs-stay s t a b ts y) e
signs-stay s t a b ts (tree.call at n xs) e = e

-- ---- flags that only rise

abbrev count : List Bool → ℕ
count [] = 0
count (b ∷ bs) = (if b then 1 else 0) + count bs

count-bound : (bs : List Bool) → count bs ≤ length bs
count-bound [] = omega arith
count-bound (true ∷ bs) = let h = count-bound bs in omega (arith, h)
count-bound (false ∷ bs) = let h = count-bound bs in omega (arith, h)

abbrev Rise : List Bool → List Bool → Type 0
Rise [] [] = Unit {0}
Rise (b ∷ bs) (c ∷ cs) = Stays b c × Rise bs cs
Rise [] (c ∷ cs) = ⊥
Rise (b ∷ bs) [] = ⊥

rise-most : (bs cs : List Bool) → Rise bs cs → count bs ≤ count cs
rise-most [] [] r = omega arith
rise-most (true ∷ bs) (true ∷ cs) r = let h = rise-most bs cs r.1 in omega (arith, h)
rise-most (true ∷ bs) (false ∷ cs) r = absurd (true≢false (sym (r.0 refl)))
rise-most (false ∷ bs) (true ∷ cs) r = let h = rise-most bs cs r.1 in omega (arith, h)
rise-most (false ∷ bs) (false ∷ cs) r = let h = rise-most bs cs r.1 in omega (arith, h)
rise-most [] (c ∷ cs) r = absurd r
rise-most (b ∷ bs) [] r = absurd r

-- either nothing changes, or there is one more
same-or-more : (bs cs : List Bool) → Rise bs cs → (bs ≡ cs) ⊎ (count bs < count cs)
same-or-more [] [] r = inl refl
same-or-more (true ∷ bs) (true ∷ cs) r = elim (same-or-more bs cs r.1) [
  | inl e ↦ inl (ap (λ xs. true ∷ xs) e)
  | inr h ↦ inr (omega (arith, h))
]
same-or-more (true ∷ bs) (false ∷ cs) r = absurd (true≢false (sym (r.0 refl)))
same-or-more (false ∷ bs) (true ∷ cs) r = inr (let h = rise-most bs cs r.1 in omega (arith, h))
same-or-more (false ∷ bs) (false ∷ cs) r = elim (same-or-more bs cs r.1) [
  | inl e ↦ inl (ap (λ xs. false ∷ xs) e)
  | inr h ↦ inr (omega (arith, h))
]
same-or-more [] (c ∷ cs) r = absurd r
same-or-more (b ∷ bs) [] r = absurd r

rise-mapped : {A : Type 0} (p q : A → Bool) → ((x : A) → Stays (p x) (q x)) → (xs : List A) → Rise (map p xs) (map q xs)
rise-mapped p q f [] = tt
rise-mapped p q f (x ∷ xs) = (f x, rise-mapped p q f xs)

length-mapped : {A : Type 0} (p : A → Bool) (xs : List A) → length (map p xs) ≡ length xs
length-mapped p [] = refl
length-mapped p (x ∷ xs) = ap suc (length-mapped p xs)

-- whether some item is both
abbrev any-both : {A : Type 0} → (A → Bool) → List A → List Bool → Bool
any-both p [] bs = false
any-both p (x ∷ xs) [] = false
any-both p (x ∷ xs) (b ∷ bs) = (p x && b) || any-both p xs bs

any-flagged : {A : Type 0} (p q : A → Bool) (xs : List A) → list_any (λ x. p x && q x) xs ≡ any-both p xs (map q xs)
any-flagged p q [] = refl
any-flagged p q (x ∷ xs) = ap (λ b. (p x && q x) || b) (any-flagged p q xs)

none-flagged : {A : Type 0} (p : A → Bool) (xs : List A) (bs : List Bool) → count bs ≡ 0 → any-both p xs bs ≡ false
none-flagged p [] bs e = refl
none-flagged p (x ∷ xs) [] e = refl
none-flagged p (x ∷ xs) (true ∷ bs) e = absurd (omega (arith, e))
none-flagged p (x ∷ xs) (false ∷ bs) e = by (p x) (none-flagged p xs bs (omega (arith, e)))
  where
    by : (b : Bool) → any-both p xs bs ≡ false → ((b && false) || any-both p xs bs) ≡ false
    by true h = h
    by false h = h

or-none : (a : Bool) → (a || false) ≡ a
or-none true = refl
or-none false = refl

either : (a b : ℕ) → (a ≤ b) ⊎ (b ≤ a)
either zero b = inl (omega arith)
either (suc a) zero = inr (omega arith)
either (suc a) (suc b) = elim (either a b) [
  | inl h ↦ inl (omega (arith, h))
  | inr h ↦ inr (omega (arith, h))
]

module _ (given : List Register) (as' : List Assignment) where
  -- what is known of signs after so many steps, and of which right sides
  abbrev Known : ℕ → Signs
  Known k = record { slices = is_signed_register (λ r. r.signed_slices) given; whole = signed_in given as' k }

  abbrev flags : ℕ → List Bool
  flags k = map (λ a. is_signed (Known k) a.turns a.value) as'

  abbrev outright : List ℕ → Bool
  outright n = is_signed_register (λ r. r.signed_whole) given n

  -- one step more goes by the flags alone
  stepped : (k : ℕ) (n : List ℕ) → signed_in given as' (suc k) n ≡ (outright n || any-both (λ a. bytes_eq a.name n) as' (flags k))
  stepped k n = ap (λ b. outright n || b) (any-flagged (λ a. bytes_eq a.name n) (λ a. is_signed (Known k) a.turns a.value) as')

  same-step : (j k : ℕ) → flags j ≡ flags k → (n : List ℕ) → signed_in given as' (suc j) n ≡ signed_in given as' (suc k) n
  same-step j k e n = stepped j n ∙ ap (λ bs. outright n || any-both (λ a. bytes_eq a.name n) as' bs) e ∙ sym (stepped k n)

  mapped-same : (p q : Assignment → Bool) → ((a : Assignment) → p a ≡ q a) → (xs : List Assignment) → map p xs ≡ map q xs
  mapped-same p q e [] = refl
  mapped-same p q e (x ∷ xs) = ap (λ b. b ∷ map p xs) (e x) ∙ ap (λ bs. q x ∷ bs) (mapped-same p q e xs)

  same-flags : (j k : ℕ) → ((n : List ℕ) → signed_in given as' j n ≡ signed_in given as' k n) → flags j ≡ flags k
  same-flags j k e = mapped-same _ _ (λ a. signs-same (Known j) (Known k) (λ n. refl) e a.turns a.value) as'

  stays : (k : ℕ) (n : List ℕ) → Stays (signed_in given as' k n) (signed_in given as' (suc k) n)
  stays zero n e = ap (λ b. b || list_any (λ a. bytes_eq a.name n && is_signed (Known zero) a.turns a.value) as') e
  stays (suc k) n e =
      or-stays (outright n) (list_any (λ a. bytes_eq a.name n && is_signed (Known k) a.turns a.value) as')
      (outright n) (list_any (λ a. bytes_eq a.name n && is_signed (Known (suc k)) a.turns a.value) as') (λ e. e)
      (any-stays _ _ (λ a. and-stays (bytes_eq a.name n) (is_signed (Known k) a.turns a.value) (is_signed (Known (suc k)) a.turns a.value)
      (signs-stay (Known k) (Known (suc k)) (λ m. refl) (stays k) a.turns a.value)) as') e

  stay-more : (i k : ℕ) (n : List ℕ) → Stays (signed_in given as' k n) (signed_in given as' (i + k) n)
  stay-more zero k n e = ap (λ j. signed_in given as' j n) zeroth ∙ e
    where
      zeroth : 0 + k ≡ k
      zeroth = omega arith
  stay-more (suc i) k n e = ap (λ j. signed_in given as' j n) next ∙ stays (i + k) n (stay-more i k n e)
    where
      next : suc i + k ≡ suc (i + k)
      next = omega arith

  rises : (k : ℕ) → Rise (flags k) (flags (suc k))
  rises k = rise-mapped _ _ (λ a. signs-stay (Known k) (Known (suc k)) (λ n. refl) (stays k) a.turns a.value) as'

  abbrev Rests : ℕ → Type 0
  Rests k = flags k ≡ flags (suc k)

  -- from then on nothing changes
  forever : (k : ℕ) → Rests k → (i : ℕ) → flags (i + k) ≡ flags k
  forever k r zero = ap flags zeroth
    where
      zeroth : 0 + k ≡ k
      zeroth = omega arith
  forever k r (suc i) = ap flags next ∙ same-flags (suc (i + k)) (suc k) (same-step (i + k) k (forever k r i)) ∙ sym r
    where
      next : suc i + k ≡ suc (i + k)
      next = omega arith

  first-rest : count (flags zero) ≡ 0 → Rests zero
  first-rest e = same-flags zero (suc zero) (λ n. sym (stepped zero n ∙ ap (λ b. outright n || b) (none-flagged (λ a. bytes_eq a.name n) as' (flags zero) e) ∙ or-none (outright n)))

  -- by this step it rested, or one right side more was found at each step
  record RestsBy (k : ℕ) : Type 0 where
    step : ℕ
    early : step ≤ k
    rests : Rests step

  rests-by : (k : ℕ) → RestsBy k ⊎ (suc k ≤ count (flags k))
  rests-by zero = by (count (flags zero)) refl
    where
      by : (n : ℕ) → count (flags zero) ≡ n → RestsBy zero ⊎ (1 ≤ count (flags zero))
      by zero e = inl (record { step = 0; early = omega arith; rests = first-rest e })
      by (suc n) e = inr (omega (arith, e))
  rests-by (suc k) = elim (rests-by k) [
    | inl r ↦ inl (record { step = r.step; early = (let early = r.early in omega (arith, early)); rests = r.rests })
    | inr h ↦ elim (same-or-more (flags k) (flags (suc k)) (rises k)) [
      | inl e ↦ inl (record { step = k; early = omega arith; rests = e })
      | inr more ↦ inr (omega (arith, h, more))
    ]
  ]

  -- it rests before there are more right sides than assignments
  rests-in-time : (m : ℕ) → length as' ≡ suc m → RestsBy m
  rests-in-time m e = elim (rests-by m) [
    | inl r ↦ r
    | inr h ↦ elim (same-or-more (flags m) (flags (suc m)) (rises m)) [
      | inl r ↦ record { step = m; early = omega arith; rests = r }
      | inr more ↦
          let most = count-bound (flags (suc m)) in
          let long = length-mapped (λ a. is_signed (Known (suc m)) a.turns a.value) as' in
          absurd (omega (arith, h, more, most, long, e))
    ]
  ]

  late : (m k : ℕ) → RestsBy m → suc m ≤ k → (n : List ℕ) → signed_in given as' k n ≡ signed_in given as' (suc m) n
  late m zero r h n = absurd (omega (arith, h))
  late m (suc k) r h n =
      let early = r.early in
      let here : (k - r.step) + r.step ≡ k = omega (arith, h, early) in
      let there : (m - r.step) + r.step ≡ m = omega (arith, early) in
      same-step k m (ap flags (sym here) ∙ forever r.step r.rests (k - r.step) ∙ sym (forever r.step r.rests (m - r.step)) ∙ ap flags there) n

  none-assigned : length as' ≡ 0 → (k : ℕ) (n : List ℕ) → Stays (signed_in given as' k n) (signed_in given as' zero n)
  none-assigned e zero n h = h
  none-assigned e (suc k) n h =
      let most = count-bound (flags k) in
      let long = length-mapped (λ a. is_signed (Known k) a.turns a.value) as' in
      sym (stepped k n ∙ ap (λ b. outright n || b) (none-flagged (λ a. bytes_eq a.name n) as' (flags k) (omega (arith, most, long, e))) ∙ or-none (outright n)) ∙ h

  pub decided : (n : List ℕ) (k : ℕ) → Stays (signed_in given as' k n) (signed_in given as' (length as') n)
  decided n k e = by (length as') refl
    where
      by : (size : ℕ) → length as' ≡ size → signed_in given as' size n ≡ true
      by zero s = none-assigned s k n e
      by (suc m) s = elim (either k (suc m)) [
        | inl few ↦
            let up : (suc m - k) + k ≡ suc m = omega (arith, few) in
            ap (λ j. signed_in given as' j n) (sym up) ∙ stay-more (suc m - k) k n e
        | inr many ↦ sym (late m k (rests-in-time m s) many n) ∙ e
      ]
