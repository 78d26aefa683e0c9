-- The operations of chains: neither order nor grouping matters, and one number is neutral.
use Rattle.std.proofs.Common.{◌≡◌, ℕ, ◌+◌, ◌-◌, ◌*◌, ◌%◌, ◌^◌, ◌<◌, ◌≤◌, Bool, true, false, sym, ap, ◌∙◌, arith, inl, inr, mul_comm, add_comm}
use Rattle.std.specs.Prelude.{int_lt, nat_lt, if◌then◌else◌, min, max, bit_and, bit_or, bit_xor}
use Rattle.std.specs.Int.Bits.{or_zero_l, xor_zero_l}
use Rattle.std.proofs.lemmas.Nat.Bits.{same_from_bits_below, bit_at_or, bit_at_xor}
use Rattle.std.proofs.lemmas.Bool.{cases_lt, lt-ltb, le-ltb, cond-true, cond-false}
use Rattle.std.proofs.lemmas.Nat.{pow_pos, mod_below, mul-mod_first, mul-mod_second, and_comm, and_assoc, and_mask, and_le_l, or_comm, or_lt, xor_comm, xor_lt}
use Rattle.std.proofs.Math.Nat.{mod-eq_of_lt, add-mod-mod, mod-add-mod}
use Rattle.vg_base.specs.Bits.{signed_at}
use Rattle.vg_terms.specs.declared.term.TwoOp.{TwoOp}
use Rattle.vg_terms.specs.declared.term.TwoOp.TheVariants.{Add, Mul, And, Or, Xor, Smin, Smax, Umin, Umax, Eq, Slt, Ult, Cat}
use Rattle.vg_terms.specs.Value.{two_value}
use Rattle.vg_terms.specs.Chain.{makes_chains, neutral}
use Rattle.vg_base.proofs.LowBits.{pow-half, pow-le}
use Rattle.vg_terms.proofs.Signs.{lifted, lifted-low, lifted-high, lifted-same, signed_less}

-- on the numbers below n
pub record IsChainOp (f : ℕ → ℕ → ℕ) (n e : ℕ) : Type 0 where
  pub closed : (a b : ℕ) → a < n → b < n → f a b < n
  pub comm : (a b : ℕ) → a < n → b < n → f a b ≡ f b a
  pub assoc : (a b c : ℕ) → a < n → b < n → c < n → f (f a b) c ≡ f a (f b c)
  pub within : e < n
  pub neutral : (a : ℕ) → a < n → f e a ≡ a

add_chain : (n : ℕ) → 0 < n → IsChainOp (λ a b. (a + b) % n) n 0
add_chain n h = record {
  closed = λ a b p q. mod_below (a + b) n h;
  comm = λ a b p q. ap (λ v. v % n) (add_comm a b);
  assoc = λ a b c p q r. mod-add-mod (a + b) n c ∙ ap (λ v. v % n) (omega arith) ∙ sym (add-mod-mod a (b + c) n);
  within = h;
  neutral = λ a p. ap (λ v. v % n) (omega arith) ∙ mod-eq_of_lt p;
}

mul_chain : (n : ℕ) → 1 < n → IsChainOp (λ a b. (a * b) % n) n 1
mul_chain n h = record {
  closed = λ a b p q. mod_below (a * b) n (omega arith);
  comm = λ a b p q. ap (λ v. v % n) (mul_comm a b);
  assoc = λ a b c p q r. mul-mod_first (a * b) c n ∙ ap (λ v. v % n) (omega arith) ∙ sym (mul-mod_second a (b * c) n);
  within = h;
  neutral = λ a p. ap (λ v. v % n) (omega arith) ∙ mod-eq_of_lt p;
}

and_chain : (w : ℕ) → IsChainOp bit_and (2 ^ w) (2 ^ w - 1)
and_chain w = record {
  closed = λ a b p q. omega (arith, and_le_l a b);
  comm = λ a b p q. and_comm a b;
  assoc = λ a b c p q r. and_assoc c a b;
  within = omega (arith, pow_pos w);
  neutral = λ a p. and_comm (2 ^ w - 1) a ∙ and_mask a w ∙ mod-eq_of_lt p;
}

or_chain : (w : ℕ) → IsChainOp bit_or (2 ^ w) 0
or_chain w = record {
  closed = λ a b p q. or_lt w a b p q;
  comm = λ a b p q. or_comm a b;
  assoc = λ a b c p q r. same_from_bits_below w _ _ (or_lt w (bit_or a b) c (or_lt w a b p q) r) (or_lt w a (bit_or b c) p (or_lt w b c q r)) (λ i _. omega (arith, bit_at_or (bit_or a b) c i, bit_at_or a b i, bit_at_or a (bit_or b c) i, bit_at_or b c i));
  within = pow_pos w;
  neutral = λ a p. or_zero_l a;
}

xor_chain : (w : ℕ) → IsChainOp bit_xor (2 ^ w) 0
xor_chain w = record {
  closed = λ a b p q. xor_lt w a b p q;
  comm = λ a b p q. xor_comm a b;
  assoc = λ a b c p q r. same_from_bits_below w _ _ (xor_lt w (bit_xor a b) c (xor_lt w a b p q) r) (xor_lt w a (bit_xor b c) p (xor_lt w b c q r)) (λ i _. omega (arith, bit_at_xor (bit_xor a b) c i, bit_at_xor a b i, bit_at_xor a (bit_xor b c) i, bit_at_xor b c i));
  within = pow_pos w;
  neutral = λ a p. xor_zero_l a;
}

umin_chain : (n : ℕ) → 0 < n → IsChainOp min n (n - 1)
umin_chain n h = record {
  closed = λ a b p q. omega arith;
  comm = λ a b p q. omega arith;
  assoc = λ a b c p q r. omega arith;
  within = omega arith;
  neutral = λ a p. omega arith;
}

umax_chain : (n : ℕ) → 0 < n → IsChainOp max n 0
umax_chain n h = record {
  closed = λ a b p q. omega arith;
  comm = λ a b p q. omega arith;
  assoc = λ a b c p q r. omega arith;
  within = h;
  neutral = λ a p. omega arith;
}

-- the one whose key is less, and the one whose key is greater
abbrev lesser : (ℕ → ℕ) → ℕ → ℕ → ℕ
lesser k a b = if nat_lt (k a) (k b) then a else b

abbrev greater : (ℕ → ℕ) → ℕ → ℕ → ℕ
greater k a b = if nat_lt (k a) (k b) then b else a

module _ (k : ℕ → ℕ) where
  lesser-first : (a b : ℕ) → k a < k b → lesser k a b ≡ a
  lesser-first a b h = cond-true _ _ _ (lt-ltb _ _ h)

  lesser-second : (a b : ℕ) → k b ≤ k a → lesser k a b ≡ b
  lesser-second a b h = cond-false _ _ _ (le-ltb _ _ h)

  greater-first : (a b : ℕ) → k b ≤ k a → greater k a b ≡ a
  greater-first a b h = cond-false _ _ _ (le-ltb _ _ h)

  greater-second : (a b : ℕ) → k a < k b → greater k a b ≡ b
  greater-second a b h = cond-true _ _ _ (lt-ltb _ _ h)

  lesser_assoc : (a b c : ℕ) → lesser k (lesser k a b) c ≡ lesser k a (lesser k b c)
  lesser_assoc a b c =
      elim (cases_lt (k a) (k b)) [
        | inl l ↦ elim (cases_lt (k b) (k c)) [
          | inl m ↦ (let n : k a < k c = omega arith in ap (λ v. lesser k v c) (lesser-first a b l) ∙ lesser-first a c n ∙ sym (ap (lesser k a) (lesser-first b c m) ∙ lesser-first a b l))
          | inr m ↦ ap (λ v. lesser k v c) (lesser-first a b l) ∙ sym (ap (lesser k a) (lesser-second b c m))
        ]
        | inr l ↦ elim (cases_lt (k b) (k c)) [
          | inl m ↦ ap (λ v. lesser k v c) (lesser-second a b l) ∙ lesser-first b c m ∙ sym (ap (lesser k a) (lesser-first b c m) ∙ lesser-second a b l)
          | inr m ↦ (let n : k c ≤ k a = omega arith in ap (λ v. lesser k v c) (lesser-second a b l) ∙ lesser-second b c m ∙ sym (ap (lesser k a) (lesser-second b c m) ∙ lesser-second a c n))
        ]
      ]

  greater_assoc : (a b c : ℕ) → greater k (greater k a b) c ≡ greater k a (greater k b c)
  greater_assoc a b c =
      elim (cases_lt (k a) (k b)) [
        | inl l ↦ elim (cases_lt (k b) (k c)) [
          | inl m ↦ (let n : k a < k c = omega arith in ap (λ v. greater k v c) (greater-second a b l) ∙ greater-second b c m ∙ sym (ap (greater k a) (greater-second b c m) ∙ greater-second a c n))
          | inr m ↦ ap (λ v. greater k v c) (greater-second a b l) ∙ greater-first b c m ∙ sym (ap (greater k a) (greater-first b c m) ∙ greater-second a b l)
        ]
        | inr l ↦ elim (cases_lt (k b) (k c)) [
          | inl m ↦ ap (λ v. greater k v c) (greater-first a b l) ∙ sym (ap (greater k a) (greater-second b c m))
          | inr m ↦ (let n : k c ≤ k a = omega arith in ap (λ v. greater k v c) (greater-first a b l) ∙ greater-first a c n ∙ sym (ap (greater k a) (greater-first b c m) ∙ greater-first a b l))
        ]
      ]

  lesser_comm : (a b : ℕ) → (k a ≡ k b → a ≡ b) → lesser k a b ≡ lesser k b a
  lesser_comm a b h =
      elim (cases_lt (k a) (k b)) [
        | inl l ↦ (let m : k a ≤ k b = omega arith in lesser-first a b l ∙ sym (lesser-second b a m))
        | inr l ↦ elim (cases_lt (k b) (k a)) [
          | inl m ↦ lesser-second a b l ∙ sym (lesser-first b a m)
          | inr m ↦ lesser-second a b l ∙ sym (h (omega arith)) ∙ sym (lesser-second b a m)
        ]
      ]

  greater_comm : (a b : ℕ) → (k a ≡ k b → a ≡ b) → greater k a b ≡ greater k b a
  greater_comm a b h =
      elim (cases_lt (k a) (k b)) [
        | inl l ↦ (let m : k a ≤ k b = omega arith in greater-second a b l ∙ sym (greater-first b a m))
        | inr l ↦ elim (cases_lt (k b) (k a)) [
          | inl m ↦ greater-first a b l ∙ sym (greater-second b a m)
          | inr m ↦ greater-first a b l ∙ h (omega arith) ∙ sym (greater-first b a m)
        ]
      ]

either_below : (t : Bool) (a b n : ℕ) → a < n → b < n → (if t then a else b) < n
either_below true a b n p q = p
either_below false a b n p q = q

smin_chain : (w : ℕ) → 0 < w → IsChainOp (two_value Smin w w) (2 ^ w) (2 ^ (w - 1) - 1)
smin_chain w h =
    let half = pow-half w h in
    let H = 2 ^ (w - 1) in
    let some = pow_pos (w - 1) in
    let is : (a b : ℕ) → a < 2 ^ w → b < 2 ^ w → two_value Smin w w a b ≡ lesser (lifted w) a b = λ a b p q. ap (λ t. if t then a else b) (signed_less w a b h p q) in
    let small : (a b : ℕ) → a < 2 ^ w → b < 2 ^ w → two_value Smin w w a b < 2 ^ w = λ a b p q. either_below (int_lt (signed_at w a) (signed_at w b)) a b (2 ^ w) p q in
    let top : H - 1 < 2 ^ w = omega arith in
    let top_low : H - 1 < H = omega arith in
    record {
      closed = small;
      comm = λ a b p q. is a b p q ∙ lesser_comm (lifted w) a b (lifted-same w a b h p q) ∙ sym (is b a q p);
      assoc = λ a b c p q r. is (two_value Smin w w a b) c (small a b p q) r ∙ ap (λ v. lesser (lifted w) v c) (is a b p q) ∙ lesser_assoc (lifted w) a b c ∙ sym (is a (two_value Smin w w b c) p (small b c q r) ∙ ap (lesser (lifted w) a) (is b c q r));
      within = top;
      neutral = λ a p. is (H - 1) a top p ∙ elim (cases_lt (lifted w (H - 1)) (lifted w a)) [
        | inl l ↦ absurd (elim (cases_lt a H) [ inl m ↦ omega (arith, lifted-low w (H - 1) top_low, lifted-low w a m) | inr m ↦ omega (arith, lifted-low w (H - 1) top_low, lifted-high w a m) ])
        | inr l ↦ lesser-second (lifted w) (H - 1) a l
      ];
    }

smax_chain : (w : ℕ) → 0 < w → IsChainOp (two_value Smax w w) (2 ^ w) (2 ^ (w - 1))
smax_chain w h =
    let half = pow-half w h in
    let H = 2 ^ (w - 1) in
    let some = pow_pos (w - 1) in
    let is : (a b : ℕ) → a < 2 ^ w → b < 2 ^ w → two_value Smax w w a b ≡ greater (lifted w) a b = λ a b p q. ap (λ t. if t then b else a) (signed_less w a b h p q) in
    let small : (a b : ℕ) → a < 2 ^ w → b < 2 ^ w → two_value Smax w w a b < 2 ^ w = λ a b p q. either_below (int_lt (signed_at w a) (signed_at w b)) b a (2 ^ w) q p in
    let bottom : H < 2 ^ w = omega arith in
    let itself : H ≤ H = omega arith in
    record {
      closed = small;
      comm = λ a b p q. is a b p q ∙ greater_comm (lifted w) a b (lifted-same w a b h p q) ∙ sym (is b a q p);
      assoc = λ a b c p q r. is (two_value Smax w w a b) c (small a b p q) r ∙ ap (λ v. greater (lifted w) v c) (is a b p q) ∙ greater_assoc (lifted w) a b c ∙ sym (is a (two_value Smax w w b c) p (small b c q r) ∙ ap (greater (lifted w) a) (is b c q r));
      within = bottom;
      neutral = λ a p. is H a bottom p ∙ elim (cases_lt (lifted w H) (lifted w a)) [
        | inl l ↦ greater-second (lifted w) H a l
        | inr l ↦ greater-first (lifted w) H a l ∙ lifted-same w H a h bottom p (omega (arith, lifted-high w H itself))
      ];
    }

-- each operation of chains, at each width
pub chain_op : (op : TwoOp) (w : ℕ) → 0 < w → makes_chains op ≡ true → IsChainOp (two_value op w w) (2 ^ w) (neutral op w)
chain_op Add w h t = add_chain (2 ^ w) (pow_pos w)
chain_op Mul w h t = mul_chain (2 ^ w) (omega (arith, pow-le 1 w h))
chain_op And w h t = and_chain w
chain_op Or w h t = or_chain w
chain_op Xor w h t = xor_chain w
chain_op Smin w h t = smin_chain w h
chain_op Smax w h t = smax_chain w h
chain_op Umin w h t = umin_chain (2 ^ w) (pow_pos w)
chain_op Umax w h t = umax_chain (2 ^ w) (pow_pos w)
chain_op Eq w h t = absurd (cc)
chain_op Slt w h t = absurd (cc)
chain_op Ult w h t = absurd (cc)
chain_op Cat w h t = absurd (cc)
