-- What rows of least lines tell.
use Rattle.std.proofs.Common.{◌≡◌, ℕ, zero, suc, ◌<◌, ◌≤◌, ℤ, pos, Bool, true, false, List, [], ◌∷◌, Option, Some, None, refl, sym, ap, ◌∙◌, inl, inr, arith}
use Rattle.std.specs.Prelude.{◌+ℤ◌, ◌<ℤ◌, ◌&&◌, ◌||◌, not, nat_eq, nat_le, int_lt}
use Rattle.std.specs.List.{list_any}
use Rattle.std.proofs.lemmas.Int.{ints}
use Rattle.std.proofs.lemmas.Bool.{cases_Bool, cases_lt, cond-true, cond-false, eqb-true, eq-eqb, le-leb, leb-true}
use Rattle.vg_base.specs.declared.address.Address.{Address}
use Rattle.vg_shapes.specs.Depends.{conflict, may_share, overlap}
use Rattle.vg_shapes.specs.Layout.{is_noalias}
use Rattle.vg_shapes.specs.Order.{one_if, Stands}
use Rattle.vg_order_laws.proofs.Sequences.{counts-itself}
use Rattle.vg_events.specs.Events.{byte_access, Label, label_at}
use Rattle.vg_events.specs.Ranks.{same_label}
use Rattle.vg_events.proofs.Orders.{lt-int}
use Rattle.vg_events.proofs.Ranks.{label-itself, same-labels}
use Rattle.vg_events.proofs.UnitOrder.{any-there, int-lt, shared-offset}
use Rattle.vg_paired.specs.declared.label_numbers.LabelNumbers.{LabelNumbers}
use Rattle.vg_paired.specs.declared.rows.Rows.{Rows as Table}
use Rattle.vg_paired.specs.Noted.{noted, Notes}
use Rattle.vg_paired.specs.Rows.{any_below, AreRows, by_byte, by_pointer, is_early, is_early_by, is_free, is_noted, is_noted_through, IsRow, Lowers, Puts, within}

-- ---- Booleans

pub and-parts : (a b : Bool) → (a && b) ≡ true → (a ≡ true) × (b ≡ true)
and-parts true b h = (refl, h)
and-parts false b h = absurd (cc)

or-first : (a b : Bool) → a ≡ true → (a || b) ≡ true
or-first a b h = (λ i. h i || b)

or-second : (a b : Bool) → b ≡ true → (a || b) ≡ true
or-second true b h = refl
or-second false b h = h

or-false : (b : Bool) → (b || false) ≡ b
or-false true = refl
or-false false = refl

or-turned : (a b : Bool) → (a || b) ≡ (b || a)
or-turned true true = refl
or-turned true false = refl
or-turned false true = refl
or-turned false false = refl

or-cases : (a b c : Bool) → (a ≡ true → c ≡ true) → (b ≡ true → c ≡ true) → (a || b) ≡ true → c ≡ true
or-cases true b c f g h = f refl
or-cases false b c f g h = g h

pub both-ways : (a b : Bool) → (a ≡ true → b ≡ true) → (b ≡ true → a ≡ true) → a ≡ b
both-ways true b f g = sym (f refl)
both-ways false true f g = g refl
both-ways false false f g = refl

not-true : (b : Bool) → not b ≡ true → b ≡ false
not-true true h = absurd (cc)
not-true false h = refl

-- ---- a test of some number

any-implied : (P Q : ℕ → Bool) → ((y : ℕ) → P y ≡ true → Q y ≡ true) → (ys : List ℕ) → list_any P ys ≡ true → list_any Q ys ≡ true
any-implied P Q f [] h = absurd (cc)
any-implied P Q f (y ∷ ys) h =
    or-cases (P y) (list_any P ys) (Q y || list_any Q ys) (λ p. or-first (Q y) (list_any Q ys) (f y p))
    (λ r. or-second (Q y) (list_any Q ys) (any-implied P Q f ys r)) h

pub any-some : (P : ℕ → Bool) (b : Bool) (ys : List ℕ) → ((y : ℕ) → Stands y ys → P y ≡ true → b ≡ true) → list_any P ys ≡ true → b ≡ true
any-some P b [] f h = absurd (cc)
any-some P b (y ∷ ys) f h =
    or-cases (P y) (list_any P ys) b (f y (let one = counts-itself y in omega arith))
    (any-some P b ys (λ x s. f x (omega arith))) h

below-some : (n : ℕ) (p : ℕ → Bool) (b : Bool) → ((q : ℕ) → p q ≡ true → b ≡ true) → any_below n p ≡ true → b ≡ true
below-some zero p b f h = absurd (cc)
below-some (suc n) p b f h = or-cases (p n) (any_below n p) b (f n) (below-some n p b f) h

below-there : (n : ℕ) (p : ℕ → Bool) (q : ℕ) → q < n → p q ≡ true → any_below n p ≡ true
below-there zero p q less h = absurd (omega arith)
below-there (suc n) p q less h = elim (cases_lt q n) [
  | inl l ↦ or-second (p n) (any_below n p) (below-there n p q l h)
  | inr g ↦ let same : n ≡ q = omega arith in or-first (p n) (any_below n p) (ap p same ∙ h)
]

pub below-next : (p : ℕ → Bool) (n k : ℕ) → n ≡ suc k → p k ≡ false → any_below k p ≡ any_below n p
below-next p n k step none = sym (ap (λ m. any_below m p) step ∙ (λ i. none i || any_below k p))

-- ---- one line more

within-more : (o : Option ℕ) (a b : ℕ) → within o a ≡ true → a ≤ b → within o b ≡ true
within-more None a b h less = absurd (cc)
within-more (Some r) a b h less = let k = leb-true r a h in le-leb r b (omega arith)

within-beyond : (o : Option ℕ) (a b : ℕ) → within o a ≡ false → within o b ≡ true → a ≤ b
within-beyond None a b h k = absurd (cc)
within-beyond (Some r) a b h k = elim (cases_lt a r) [
  | inl less ↦ let m = leb-true r b k in omega arith
  | inr most ↦ absurd (let yes = le-leb r a most in cc)
]

pub lower-none : (row : LabelNumbers) (m : Label) (line : ℕ) → within (noted row m) line ≡ true → Lowers row row m line
lower-none row m line h l t = elim (cases_Bool (same_label l m)) [
  | inl s ↦ elim (cases_Bool (nat_le line t)) [
    | inl k ↦
        let yes = within-more (noted row l) line t (ap (λ x. within (noted row x) line) (same-labels l m s) ∙ h) (leb-true line t k) in
        yes ∙ sym (or-first _ _ yes)
    | inr k ↦ sym ((λ i. within (noted row l) t || (s i && k i)) ∙ or-false (within (noted row l) t))
  ]
  | inr f ↦ sym ((λ i. within (noted row l) t || (f i && nat_le line t)) ∙ or-false (within (noted row l) t))
]

pub lower-set : (old new : LabelNumbers) (m : Label) (line : ℕ) → within (noted old m) line ≡ false → Notes old new m line → Lowers old new m line
lower-set old new m line h notes l t = elim (cases_Bool (same_label l m)) [
  | inl s ↦
      ap (λ o. within o t) (notes l ∙ cond-true _ _ _ s)
      ∙ elim (cases_Bool (within (noted old l) t)) [
        | inl k ↦
            let less = within-beyond (noted old l) line t (ap (λ x. within (noted old x) line) (same-labels l m s) ∙ h) k in
            le-leb line t less ∙ sym (or-first _ _ k)
        | inr k ↦ sym (λ i. k i || (s i && nat_le line t))
      ]
  | inr f ↦ ap (λ o. within o t) (notes l ∙ cond-false _ _ _ f) ∙ sym ((λ i. within (noted old l) t || (f i && nat_le line t)) ∙ or-false (within (noted old l) t))
]

row-more : (under : Label → Label) (ls : List Label) (line : ℕ → ℕ) (later : List ℕ) (y : ℕ) (old new : LabelNumbers) (m : Label) (t : ℕ) →
    under (label_at ls y) ≡ m → line y ≡ t → IsRow under ls line later old → Lowers old new m t → IsRow under ls line (y ∷ later) new
row-more under ls line later y old new m t label at row lowers l s =
    lowers l s ∙ (λ i. row l s i || (same_label l (sym label i) && nat_le (sym at i) s))
    ∙ or-turned (list_any (λ x. same_label l (under (label_at ls x)) && nat_le (line x) s) later) (same_label l (under (label_at ls y)) && nat_le (line y) s)

pub rows-more : (old new : Table) (l p : Label) (t : ℕ) → p ≡ by_pointer l → Lowers old.bytes new.bytes l t → Lowers old.pointers new.pointers p t → Puts old new l t
rows-more old new l p t is bytes pointers ls line later y label at rows = record {
  bytes = row-more by_byte ls line later y old.bytes new.bytes l t label at rows.bytes bytes;
  pointers = row-more by_pointer ls line later y old.pointers new.pointers p t (ap by_pointer label ∙ sym is) at rows.pointers pointers;
}

-- ---- what is noted

module _ (under : Label → Label) (ls : List Label) (line : ℕ → ℕ) (later : List ℕ) (row : LabelNumbers) (is : IsRow under ls line later row) (a : Address) (w : Bool) (t : ℕ) where
  abbrev at : Bool → Label
  at v = record { writes = v; address = a }

  abbrev test : Bool → ℕ → Bool
  test v y = same_label (at v) (under (label_at ls y)) && nat_le (line y) t

  noted-finds : (Q : ℕ → Bool) → ((y : ℕ) (v : Bool) → (w || v) ≡ true → under (label_at ls y) ≡ at v → nat_le (line y) t ≡ true → Q y ≡ true) →
      is_noted row a w t ≡ true → list_any Q later ≡ true
  noted-finds Q f h =
      or-cases (within (noted row (at true)) t) (w && within (noted row (at false)) t) (list_any Q later)
      (λ k. any-implied (test true) Q (found true (or-second w true refl)) later (sym (is (at true) t) ∙ k))
      (λ k. let parts = and-parts w (within (noted row (at false)) t) k in any-implied (test false) Q (found false (or-first w false parts.0)) later (sym (is (at false) t) ∙ parts.1)) h
    where
      found : (v : Bool) → (w || v) ≡ true → (y : ℕ) → test v y ≡ true → Q y ≡ true
      found v writes y h = let parts = and-parts _ _ h in f y v writes (sym (same-labels (at v) (under (label_at ls y)) parts.0)) parts.1

  noted-there : (y : ℕ) (v : Bool) → Stands y later → (w || v) ≡ true → under (label_at ls y) ≡ at v → nat_le (line y) t ≡ true → is_noted row a w t ≡ true
  noted-there y true s writes e k =
      or-first (within (noted row (at true)) t) (w && within (noted row (at false)) t)
      (is (at true) t ∙ any-there (test true) later y s ((λ i. same_label (at true) (e i) && k i) ∙ (λ i. label-itself (at true) i && true)))
  noted-there y false s writes e k =
      or-second (within (noted row (at true)) t) (w && within (noted row (at false)) t)
      (λ i. (sym (or-false w) ∙ writes) i
      && (is (at false) t ∙ any-there (test false) later y s ((λ j. same_label (at false) (e j) && k j) ∙ (λ j. label-itself (at false) j && true))) i)

-- ---- bytes that conflict

conflict-here : (flags : List Bool) (l m : Label) → (l.writes || m.writes) ≡ true → m.address ≡ l.address → conflict flags (byte_access l) (byte_access m) ≡ true
conflict-here flags l m writes same =
    let p = l.address.pointer in
    let o = l.address.offset in
    let less = lt-int o (o +ℤ pos 1) (omega (arith, ints)) in
    let m2 : Label = record { writes = m.writes; address = l.address } in
    ap (λ (a : Address). conflict flags (byte_access l) (byte_access (record { writes = m.writes; address = a }))) same
    ∙ (λ i. writes i && (cond-true _ (overlap (byte_access l) (byte_access m2)) (not (is_noalias flags (byte_access l) || is_noalias flags (byte_access m2))) (eq-eqb p p refl) ∙ (λ j. less j && less j)) i)

conflict-apart : (flags : List Bool) (l m : Label) → (l.writes || m.writes) ≡ true → nat_eq l.address.pointer m.address.pointer ≡ false →
    is_free flags l.address.pointer ≡ true → is_free flags m.address.pointer ≡ true → conflict flags (byte_access l) (byte_access m) ≡ true
conflict-apart flags l m writes other free also =
    (λ i. writes i && (cond-false _ (overlap (byte_access l) (byte_access m)) (not (is_noalias flags (byte_access l) || is_noalias flags (byte_access m))) other ∙ (λ j. not (not-true _ free j || not-true _ also j))) i)

-- the rows tell whether some later event stands too early
module _ (flags : List Bool) (ls : List Label) (line : ℕ → ℕ) (later : List ℕ) (rows : Table) (are : AreRows ls line later rows) (n x : ℕ)
    (inside : (y : ℕ) → Stands y later → (label_at ls y).address.pointer < n) where
  abbrev l : Label
  l = label_at ls x

  early-found : is_early_by flags n rows l (line x) ≡ true → list_any (is_early flags ls line x) later ≡ true
  early-found h =
      or-cases (is_noted rows.bytes l.address l.writes (line x)) (is_free flags l.address.pointer && any_below n (is_noted_through flags rows.pointers l (line x)))
      (list_any (is_early flags ls line x) later)
      (noted-finds by_byte ls line later rows.bytes are.bytes l.address l.writes (line x) (is_early flags ls line x)
      (λ y v writes e k. let both = (λ i. (l.writes || (e i).writes)) ∙ writes in (λ i. conflict-here flags l (label_at ls y) both (ap (λ (m : Label). m.address) e) i && k i)))
      (λ h. let parts = and-parts _ _ h in below-some n (is_noted_through flags rows.pointers l (line x)) (list_any (is_early flags ls line x) later) (through parts.0) parts.1) h
    where
      through : is_free flags l.address.pointer ≡ true → (q : ℕ) → is_noted_through flags rows.pointers l (line x) q ≡ true → list_any (is_early flags ls line x) later ≡ true
      through free q h =
          let parts = and-parts (not (nat_eq q l.address.pointer)) _ h in
          let rest = and-parts (is_free flags q) _ parts.1 in
          noted-finds by_pointer ls line later rows.pointers are.pointers (record { pointer = q; offset = pos 0 }) l.writes (line x) (is_early flags ls line x)
          (λ y v writes e k.
          let m = label_at ls y in
          let pointer : m.address.pointer ≡ q = ap (λ (z : Label). z.address.pointer) e in
          let both : (l.writes || m.writes) ≡ true = (λ i. (l.writes || (e i).writes)) ∙ writes in
          let other : nat_eq l.address.pointer m.address.pointer ≡ false = elim (cases_Bool (nat_eq l.address.pointer m.address.pointer)) [
            | inl t ↦ absurd (let same : q ≡ l.address.pointer = sym pointer ∙ sym (eqb-true _ _ t) in let yes = eq-eqb q l.address.pointer same in let no = not-true _ parts.0 in cc)
            | inr f ↦ f
          ] in
          (λ i. conflict-apart flags l m both other free (ap (is_free flags) pointer ∙ rest.0) i && k i)) rest.1

  early-there : list_any (is_early flags ls line x) later ≡ true → is_early_by flags n rows l (line x) ≡ true
  early-there h = any-some (is_early flags ls line x) (is_early_by flags n rows l (line x)) later there h
    where
      there : (y : ℕ) → Stands y later → is_early flags ls line x y ≡ true → is_early_by flags n rows l (line x) ≡ true
      there y s h =
          let m = label_at ls y in
          let parts = and-parts (conflict flags (byte_access l) (byte_access m)) (nat_le (line y) (line x)) h in
          let meets = and-parts (l.writes || m.writes) (may_share flags (byte_access l) (byte_access m)) parts.0 in
          let p = l.address.pointer in
          elim (cases_Bool (nat_eq p m.address.pointer)) [
            | inl t ↦
                let a = l.address.offset in
                let b = m.address.offset in
                let both = and-parts (int_lt a (b +ℤ pos 1)) (int_lt b (a +ℤ pos 1)) (sym (cond-true _ _ _ t) ∙ meets.1) in
                let offset = shared-offset a b (int-lt _ _ both.0) (int-lt _ _ both.1) in
                let pointer = eqb-true p m.address.pointer t in
                let same : m ≡ record { writes = m.writes; address = l.address } = (λ i. record { writes = m.writes; address = record { pointer = sym pointer i; offset = sym offset i } }) in
                or-first (is_noted rows.bytes l.address l.writes (line x)) _
                (noted-there by_byte ls line later rows.bytes are.bytes l.address l.writes (line x) y m.writes s meets.0 same parts.1)
            | inr f ↦
                let neither = not-or (is_noalias flags (byte_access l)) (is_noalias flags (byte_access m)) (sym (cond-false _ _ _ f) ∙ meets.1) in
                let other : not (nat_eq m.address.pointer p) ≡ true = elim (cases_Bool (nat_eq m.address.pointer p)) [
                  | inl t ↦ absurd (let yes = eq-eqb p m.address.pointer (sym (eqb-true m.address.pointer p t)) in cc)
                  | inr g ↦ ap not g
                ] in
                let noted_so = noted-there by_pointer ls line later rows.pointers are.pointers (record { pointer = m.address.pointer; offset = pos 0 }) l.writes (line x) y m.writes s meets.0 refl parts.1 in
                or-second (is_noted rows.bytes l.address l.writes (line x)) _
                (λ i. neither.0 i
                && below-there n (is_noted_through flags rows.pointers l (line x)) m.address.pointer (inside y s) (λ j. other j && (neither.1 j && noted_so j)) i)
          ]
        where
          not-or : (a b : Bool) → not (a || b) ≡ true → (not a ≡ true) × (not b ≡ true)
          not-or true b h = absurd (cc)
          not-or false b h = (refl, h)

  pub early-is : is_early_by flags n rows l (line x) ≡ list_any (is_early flags ls line x) later
  early-is = both-ways _ _ early-found early-there
