-- Accesses of bytes that are apart may change places, traps included.
use Rattle.std.proofs.Common.{◌≡◌, ℕ, ◌+◌, ◌<◌, ◌≤◌, ℤ, pos, negsuc, Bool, true, false, cond, List, ◌++◌, length, take, drop, Option, Some, None, refl, sym, ap, ◌∙◌, ◌⊎◌, inl, inr, arith, append_assoc}
use Rattle.std.specs.Prelude.{nat_le, nat_eq, ◌+ℤ◌, ◌≤ℤ◌}
use Rattle.std.proofs.lemmas.Int.{ints}
use Rattle.std.proofs.lemmas.Bool.{cases_Bool, cond-true, cond-false, leb-true, leb-false, le-leb, lt-leb}
use Rattle.vg_base.specs.Trap.{◌>>=◌}
use Rattle.vg_base.specs.Bits.{number}
use Rattle.vg_base.specs.Memory.{loaded, stored}
use Rattle.vg_bits.specs.Range.{range, replaced}
use Rattle.vg_bits.proofs.Ranges.{length-replaced, range-replaced_beside, replaced_apart}
use Rattle.vg_order_laws.specs.Steps.{seen}

pub bind_none : {A B : Type 0} (o : Option A) → (o >>= λ x. (let n : Option B = None in n)) ≡ None
bind_none (Some x) = refl
bind_none None = refl

-- where an access lies inside, and where not
pub loaded-inside : (m : List ℕ) (a n : ℕ) → a + n ≤ length m → loaded m (pos a) n ≡ Some (range a n m)
loaded-inside m a n h = cond-true _ _ _ (le-leb (a + n) (length m) h)

pub loaded-outside : (m : List ℕ) (a n : ℕ) → length m < a + n → loaded m (pos a) n ≡ None
loaded-outside m a n h = cond-false _ _ _ (lt-leb (a + n) (length m) h)

pub stored-inside : (m : List ℕ) (a : ℕ) (new : List ℕ) → a + length new ≤ length m → stored m (pos a) new ≡ Some (replaced a new m)
stored-inside m a new h = cond-true _ _ _ (le-leb (a + length new) (length m) h) ∙ ap Some (append_assoc (take a m) new (drop (a + length new) m))

pub stored-outside : (m : List ℕ) (a : ℕ) (new : List ℕ) → length m < a + length new → stored m (pos a) new ≡ None
stored-outside m a new h = cond-false _ _ _ (lt-leb (a + length new) (length m) h)

-- the places of two accesses are apart
abbrev pub Apart : ℤ → ℕ → ℤ → ℕ → Type 0
Apart a n b k = ((a +ℤ pos n) ≤ℤ b) ⊎ ((b +ℤ pos k) ≤ℤ a)

abbrev pub NatApart : ℕ → ℕ → ℕ → ℕ → Type 0
NatApart a n b k = (a + n ≤ b) ⊎ (b + k ≤ a)

nat_apart : (a n b k : ℕ) → Apart (pos a) n (pos b) k → NatApart a n b k
nat_apart a n b k (inl h) = inl (omega (arith, ints))
nat_apart a n b k (inr h) = inr (omega (arith, ints))

apart_turned : (a : ℤ) (n : ℕ) (b : ℤ) (k : ℕ) → Apart a n b k → Apart b k a n
apart_turned a n b k (inl h) = inr h
apart_turned a n b k (inr h) = inl h

-- ---- two stores

stores-inside : (m : List ℕ) (a : ℕ) (xs : List ℕ) (b : ℕ) (ys : List ℕ) → a + length xs ≤ length m → b + length ys ≤ length m → NatApart a (length xs) b (length ys)
    → (stored m (pos a) xs >>= λ s. stored s (pos b) ys) ≡ Some (replaced b ys (replaced a xs m))
stores-inside m a xs b ys h g apart =
    ap (λ o. o >>= λ s. stored s (pos b) ys) (stored-inside m a xs h)
    ∙ stored-inside (replaced a xs m) b ys (let same = length-replaced a xs m h in omega arith)

stores-swapped : (m : List ℕ) (a : ℕ) (xs : List ℕ) (b : ℕ) (ys : List ℕ) → a + length xs ≤ length m → b + length ys ≤ length m → NatApart a (length xs) b (length ys)
    → replaced b ys (replaced a xs m) ≡ replaced a xs (replaced b ys m)
stores-swapped m a xs b ys h g (inl e) = sym (replaced_apart a b xs ys m e g)
stores-swapped m a xs b ys h g (inr e) = replaced_apart b a ys xs m e h

-- where the second is outside, both trap
store-then-outside : (m : List ℕ) (a : ℤ) (xs : List ℕ) (b : ℕ) (ys : List ℕ) → length m < b + length ys → (stored m a xs >>= λ s. stored s (pos b) ys) ≡ None
store-then-outside m (negsuc a) xs b ys h = refl
store-then-outside m (pos a) xs b ys h = elim (cases_Bool (nat_le (a + length xs) (length m))) [
  | inl t ↦ let inside = leb-true _ _ t in
      ap (λ o. o >>= λ s. stored s (pos b) ys) (stored-inside m a xs inside)
      ∙ stored-outside (replaced a xs m) b ys (let same = length-replaced a xs m inside in omega arith)
  | inr f ↦ ap (λ o. o >>= λ s. stored s (pos b) ys) (stored-outside m a xs (leb-false _ _ f))
]

pub stores-commute : (m : List ℕ) (a : ℤ) (xs : List ℕ) (b : ℤ) (ys : List ℕ) → Apart a (length xs) b (length ys)
    → (stored m a xs >>= λ s. stored s b ys) ≡ (stored m b ys >>= λ s. stored s a xs)
stores-commute m (negsuc a) xs b ys apart = sym (bind_none (stored m b ys))
stores-commute m (pos a) xs (negsuc b) ys apart = bind_none (stored m (pos a) xs)
stores-commute m (pos a) xs (pos b) ys apart = elim (cases_Bool (nat_le (b + length ys) (length m))) [
  | inr f ↦ let out = leb-false _ _ f in
      store-then-outside m (pos a) xs b ys out ∙ sym (ap (λ o. o >>= λ s. stored s (pos a) xs) (stored-outside m b ys out))
  | inl t ↦ elim (cases_Bool (nat_le (a + length xs) (length m))) [
    | inr f ↦ let out = leb-false _ _ f in
        ap (λ o. o >>= λ s. stored s (pos b) ys) (stored-outside m a xs out) ∙ sym (store-then-outside m (pos b) ys a xs out)
    | inl u ↦
        let h = leb-true _ _ u in let g = leb-true _ _ t in
        let n = nat_apart a (length xs) b (length ys) apart in
        stores-inside m a xs b ys h g n ∙ ap Some (stores-swapped m a xs b ys h g n)
        ∙ sym (stores-inside m b ys a xs g h (nat_apart b (length ys) a (length xs) (apart_turned (pos a) (length xs) (pos b) (length ys) apart)))
  ]
]

-- ---- a load and a store

pub seen-inside : (m : List ℕ) (a n v : ℕ) → a + n ≤ length m → seen m (pos a) n v ≡ cond (nat_eq (number (range a n m)) v) (Some m) None
seen-inside m a n v h = ap (λ o. o >>= λ read. cond (nat_eq (number read) v) (Some m) None) (loaded-inside m a n h)

pub seen-outside : (m : List ℕ) (a n v : ℕ) → length m < a + n → seen m (pos a) n v ≡ None
seen-outside m a n v h = ap (λ o. o >>= λ read. cond (nat_eq (number read) v) (Some m) None) (loaded-outside m a n h)

test-then : {A B : Type 0} (b : Bool) (x : A) (f : A → Option B) → (cond b (Some x) None >>= f) ≡ cond b (f x) None
test-then true x f = refl
test-then false x f = refl

test-none : {A : Type 0} (b : Bool) → (let n : Option A = None in cond b n None) ≡ None
test-none true = refl
test-none false = refl

-- a load keeps the memory
seen-then-outside : (m : List ℕ) (a : ℤ) (n v : ℕ) (b : ℕ) (ys : List ℕ) → length m < b + length ys → (seen m a n v >>= λ s. stored s (pos b) ys) ≡ None
seen-then-outside m (negsuc a) n v b ys h = refl
seen-then-outside m (pos a) n v b ys h = elim (cases_Bool (nat_le (a + n) (length m))) [
  | inl t ↦ ap (λ o. o >>= λ s. stored s (pos b) ys) (seen-inside m a n v (leb-true _ _ t))
      ∙ test-then (nat_eq (number (range a n m)) v) m (λ s. stored s (pos b) ys)
      ∙ ap (λ o. cond (nat_eq (number (range a n m)) v) o None) (stored-outside m b ys h)
      ∙ test-none (nat_eq (number (range a n m)) v)
  | inr f ↦ ap (λ o. o >>= λ s. stored s (pos b) ys) (seen-outside m a n v (leb-false _ _ f))
]

pub seen-store-commute : (m : List ℕ) (a : ℤ) (n v : ℕ) (b : ℤ) (ys : List ℕ) → Apart a n b (length ys)
    → (seen m a n v >>= λ s. stored s b ys) ≡ (stored m b ys >>= λ s. seen s a n v)
seen-store-commute m (negsuc a) n v b ys apart = sym (bind_none (stored m b ys))
seen-store-commute m (pos a) n v (negsuc b) ys apart = bind_none (seen m (pos a) n v)
seen-store-commute m (pos a) n v (pos b) ys apart = elim (cases_Bool (nat_le (b + length ys) (length m))) [
  | inr f ↦ let out = leb-false _ _ f in
      seen-then-outside m (pos a) n v b ys out ∙ sym (ap (λ o. o >>= λ s. seen s (pos a) n v) (stored-outside m b ys out))
  | inl t ↦
      let g = leb-true _ _ t in
      let after = replaced b ys m in
      let same = length-replaced b ys m g in
      let then_seen : (stored m (pos b) ys >>= λ s. seen s (pos a) n v) ≡ seen after (pos a) n v = ap (λ o. o >>= λ s. seen s (pos a) n v) (stored-inside m b ys g) in
      elim (cases_Bool (nat_le (a + n) (length m))) [
        | inr f ↦ let out = leb-false _ _ f in
            ap (λ o. o >>= λ s. stored s (pos b) ys) (seen-outside m a n v out) ∙ sym (then_seen ∙ seen-outside after a n v (omega arith))
        | inl u ↦
            let h = leb-true _ _ u in
            let read : range a n after ≡ range a n m = range-replaced_beside a n b ys m g h (nat_apart a n b (length ys) apart) in
            ap (λ o. o >>= λ s. stored s (pos b) ys) (seen-inside m a n v h)
            ∙ test-then (nat_eq (number (range a n m)) v) m (λ s. stored s (pos b) ys)
            ∙ ap (λ o. cond (nat_eq (number (range a n m)) v) o None) (stored-inside m b ys g)
            ∙ sym (then_seen ∙ seen-inside after a n v (omega arith) ∙ ap (λ r. cond (nat_eq (number r) v) (Some after) None) read)
      ]
]

-- ---- two loads

seen-is : (m : List ℕ) (a : ℤ) (n v : ℕ) → (seen m a n v ≡ Some m) ⊎ (seen m a n v ≡ None)
seen-is m a n v = by (loaded m a n)
  where
    by : (o : Option (List ℕ)) → ((o >>= λ read. cond (nat_eq (number read) v) (Some m) None) ≡ Some m) ⊎ ((o >>= λ read. cond (nat_eq (number read) v) (Some m) None) ≡ None)
    by None = inr refl
    by (Some read) = elim (cases_Bool (nat_eq (number read) v)) [ inl t ↦ inl (cond-true _ _ _ t) | inr f ↦ inr (cond-false _ _ _ f) ]

pub seen-commute : (m : List ℕ) (a : ℤ) (n v : ℕ) (b : ℤ) (k w : ℕ) → (seen m a n v >>= λ s. seen s b k w) ≡ (seen m b k w >>= λ s. seen s a n v)
seen-commute m a n v b k w = elim (seen-is m a n v) [
  | inl e ↦ elim (seen-is m b k w) [
    | inl g ↦ ap (λ o. o >>= λ s. seen s b k w) e ∙ g ∙ sym (ap (λ o. o >>= λ s. seen s a n v) g ∙ e)
    | inr g ↦ ap (λ o. o >>= λ s. seen s b k w) e ∙ g ∙ sym (ap (λ o. o >>= λ s. seen s a n v) g)
  ]
  | inr e ↦ elim (seen-is m b k w) [
    | inl g ↦ ap (λ o. o >>= λ s. seen s b k w) e ∙ sym (ap (λ o. o >>= λ s. seen s a n v) g ∙ e)
    | inr g ↦ ap (λ o. o >>= λ s. seen s b k w) e ∙ sym (ap (λ o. o >>= λ s. seen s a n v) g)
  ]
]
