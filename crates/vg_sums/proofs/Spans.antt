-- The value of a sum lies in its span.
use Rattle.std.proofs.Common.{◌≡◌, ℕ, suc, ◌+◌, ◌-◌, ◌/◌, ◌%◌, ◌^◌, ◌<◌, ◌≤◌, sym, subst, arith, true, false, Bool}
use Rattle.std.specs.Prelude.{ℤ, pos, negsuc, ◌+ℤ◌, ◌*ℤ◌, ◌≤ℤ◌, int_lt, nat_le, Option, Some, None, IfSome, if◌then◌else◌}
use Rattle.std.specs.Ordering.{int_eq}
use Rattle.std.proofs.lemmas.Int.{ints}
use Rattle.std.proofs.lemmas.Bool.{cond_both}
use Rattle.std.proofs.lemmas.Nat.{mod_below, pow_pos}
use Rattle.std.proofs.Math.IntN.{*ℤ_comm}
use Rattle.std.proofs.Math.Nat.{mul-le-mul_right}
use borrow.Author.Differences.{up, down}
use Rattle.vg_base.specs.Trap.{◌>>=◌}
use Rattle.vg_base.specs.Number.{floor_shift}
use Rattle.vg_terms.specs.declared.value.Env.{Env}
use Rattle.vg_terms.specs.Value.{number_at, two_value}
use Rattle.vg_sums.specs.declared.kind.Kind.{Kind}
use Rattle.vg_sums.specs.declared.kind.Kind.TheVariants.{Leaf, Floor, Positive, Negative, Zero, Bitwise}
use Rattle.vg_sums.specs.declared.span.Span.{Span}
use Rattle.vg_sums.specs.Arithmetic.{fit}
use Rattle.vg_sums.specs.Bitwise.{bitwise_value}
use Rattle.vg_sums.specs.Spans.{In, atom_span, between, bits_span, floor_span, greater, hull, lesser, not_negative, products_with, span, span_product, span_sum}
use Rattle.vg_sums.specs.Sums.{Polynomial, atom_value, number, plus, sum_value, truth}
use Rattle.vg_sums.proofs.Whole.{fit-same, floor_shift-le, then_some}

-- ---- lesser and greater

lesser-left : (a y x : ℤ) → a ≤ℤ x → lesser a y ≤ℤ x
lesser-left a y x p = grind (arith, ints)

lesser-right : (a y x : ℤ) → y ≤ℤ x → lesser a y ≤ℤ x
lesser-right a y x p = grind (arith, ints)

greater-left : (a y x : ℤ) → x ≤ℤ a → x ≤ℤ greater a y
greater-left a y x p = grind (arith, ints)

greater-right : (a y x : ℤ) → x ≤ℤ y → x ≤ℤ greater a y
greater-right a y x p = grind (arith, ints)

lesser-both : (a b x y : ℤ) → a ≤ℤ x → b ≤ℤ y → lesser a b ≤ℤ lesser x y
lesser-both a b x y p q = grind (arith, ints)

greater-both : (a b x y : ℤ) → a ≤ℤ x → b ≤ℤ y → greater a b ≤ℤ greater x y
greater-both a b x y p q = grind (arith, ints)

le_trans : (a b c : ℤ) → a ≤ℤ b → b ≤ℤ c → a ≤ℤ c
le_trans a b c p q = omega (arith, ints)

pub le_self : (a : ℤ) → a ≤ℤ a
le_self a = omega (arith, ints)

-- ---- products

pub mul-pos : (a x : ℤ) (n : ℕ) → a ≤ℤ x → (a *ℤ pos n) ≤ℤ (x *ℤ pos n)
mul-pos a x n p =
    let h : up a + down x ≤ up x + down a = omega (arith, ints) in
    omega (arith, ints, mul-le-mul_right n h)

mul-negsuc : (a x : ℤ) (n : ℕ) → a ≤ℤ x → (x *ℤ negsuc n) ≤ℤ (a *ℤ negsuc n)
mul-negsuc a x n p =
    let h : up a + down x ≤ up x + down a = omega (arith, ints) in
    omega (arith, ints, mul-le-mul_right (suc n) h)

-- a product lies between those of the ends
line : (a b x y : ℤ) → a ≤ℤ x → x ≤ℤ b → In (between (lesser (a *ℤ y) (b *ℤ y)) (greater (a *ℤ y) (b *ℤ y))) (x *ℤ y)
line a b x (pos n) p q = record {
  above = lesser-left (a *ℤ pos n) (b *ℤ pos n) (x *ℤ pos n) (mul-pos a x n p);
  below = greater-right (a *ℤ pos n) (b *ℤ pos n) (x *ℤ pos n) (mul-pos x b n q);
}
line a b x (negsuc n) p q = record {
  above = lesser-right (a *ℤ negsuc n) (b *ℤ negsuc n) (x *ℤ negsuc n) (mul-negsuc x b n q);
  below = greater-left (a *ℤ negsuc n) (b *ℤ negsuc n) (x *ℤ negsuc n) (mul-negsuc a x n p);
}

column : (c d a y : ℤ) → c ≤ℤ y → y ≤ℤ d → In (between (lesser (a *ℤ c) (a *ℤ d)) (greater (a *ℤ c) (a *ℤ d))) (a *ℤ y)
column c d a y p q =
    subst (λ v. In (between (lesser v (a *ℤ d)) (greater v (a *ℤ d))) (a *ℤ y)) (*ℤ_comm c a)
    (subst (λ v. In (between (lesser (c *ℤ a) v) (greater (c *ℤ a) v)) (a *ℤ y)) (*ℤ_comm d a)
    (subst (λ v. In (between (lesser (c *ℤ a) (d *ℤ a)) (greater (c *ℤ a) (d *ℤ a))) v) (*ℤ_comm y a) (line c d y a p q)))

-- the products of a number and those of a span lie in the span of its products
abbrev HoldsProducts : ℤ → Span → Span → Type 0
HoldsProducts z s u = (y : ℤ) → In s y → In u (z *ℤ y)

products_with-in : (z : ℤ) (s : Span) → IfSome (products_with z s) (HoldsProducts z s)
products_with-in z s =
    then_some (λ a. a ≡ z *ℤ s.least) (HoldsProducts z s) (fit (z *ℤ s.least)) _ (fit-same (z *ℤ s.least))
    (λ a e. then_some (λ b. b ≡ z *ℤ s.greatest) (HoldsProducts z s) (fit (z *ℤ s.greatest)) _ (fit-same (z *ℤ s.greatest))
    (λ b f y h. subst (λ v. In (between (lesser v b) (greater v b)) (z *ℤ y)) (sym e)
    (subst (λ v. In (between (lesser (z *ℤ s.least) v) (greater (z *ℤ s.least) v)) (z *ℤ y)) (sym f) (column s.least s.greatest z y h.above h.below))))

span_product-in : (s t : Span) (x y : ℤ) → In s x → In t y → IfSome (span_product s t) (λ u. In u (x *ℤ y))
span_product-in s t x y h k =
    let across = line s.least s.greatest x y h.above h.below in
    then_some (HoldsProducts s.least t) (λ u. In u (x *ℤ y)) (products_with s.least t) _ (products_with-in s.least t)
    (λ a f. then_some (HoldsProducts s.greatest t) (λ u. In u (x *ℤ y)) (products_with s.greatest t) _ (products_with-in s.greatest t)
    (λ b g. let first = f y k in
    let last = g y k in
    record {
      above = le_trans (lesser a.least b.least) (lesser (s.least *ℤ y) (s.greatest *ℤ y)) (x *ℤ y) (lesser-both a.least b.least (s.least *ℤ y) (s.greatest *ℤ y) first.above last.above) across.above;
      below = le_trans (x *ℤ y) (greater (s.least *ℤ y) (s.greatest *ℤ y)) (greater a.greatest b.greatest) across.below (greater-both (s.least *ℤ y) (s.greatest *ℤ y) a.greatest b.greatest first.below last.below);
    }))

-- ---- sums

span_sum-in : (s t : Span) (x y : ℤ) → In s x → In t y → IfSome (span_sum s t) (λ u. In u (x +ℤ y))
span_sum-in s t x y h k =
    then_some (λ a. a ≡ s.least +ℤ t.least) (λ u. In u (x +ℤ y)) (fit (s.least +ℤ t.least)) _ (fit-same (s.least +ℤ t.least))
    (λ a e. then_some (λ b. b ≡ s.greatest +ℤ t.greatest) (λ u. In u (x +ℤ y)) (fit (s.greatest +ℤ t.greatest)) _ (fit-same (s.greatest +ℤ t.greatest))
    (λ b f. record {
      above = subst (λ v. v ≤ℤ (x +ℤ y)) (sym e) (sums s.least t.least x y h.above k.above);
      below = subst (λ v. (x +ℤ y) ≤ℤ v) (sym f) (sums x y s.greatest t.greatest h.below k.below);
    }))
  where
    sums : (a b c d : ℤ) → a ≤ℤ c → b ≤ℤ d → (a +ℤ b) ≤ℤ (c +ℤ d)
    sums a b c d p q = omega (arith, ints)

-- ---- atoms

bits-in : (w n : ℕ) → n < 2 ^ w → IfSome (bits_span w) (λ u. In u (pos n))
bits-in w n h =
    cond_both (nat_le w 126) _ _ (λ m. IfSome m (λ u. In u (pos n)))
    (λ t. record { above = omega (arith, ints); below = omega (arith, ints) }) (λ t. tt)

truth-in : (b : Bool) → In (between (pos 0) (pos 1)) (truth b)
truth-in true = record { above = omega (arith, ints); below = omega (arith, ints) }
truth-in false = record { above = omega (arith, ints); below = omega (arith, ints) }

atom_span-in : (env : Env) (k : Kind) (s : Option Span) (z : ℤ) → IfSome s (λ t. In t z) → IfSome (atom_span k s) (λ u. In u (atom_value env k z))
atom_span-in env (Leaf w k) s z h = bits-in w (number_at env.pairs k % 2 ^ w) (mod_below (number_at env.pairs k) (2 ^ w) (pow_pos w))
atom_span-in env (Floor k) s z h =
    then_some (λ t. In t z) (λ u. In u (floor_shift z k)) s (floor_span k) h
    (λ i g. cond_both (nat_le k 126) _ _ (λ m. IfSome m (λ u. In u (floor_shift z k)))
    (λ t. record { above = floor_shift-le i.least z k g.above; below = floor_shift-le z i.greatest k g.below }) (λ t. tt))
atom_span-in env Positive s z h =
    then_some (λ t. In t z) (λ u. In u (greater z (pos 0))) s _ h
    (λ i g. record {
      above = greater-both i.least (pos 0) z (pos 0) g.above (le_self (pos 0));
      below = greater-both z (pos 0) i.greatest (pos 0) g.below (le_self (pos 0));
    })
atom_span-in env Negative s z h = truth-in (int_lt z (pos 0))
atom_span-in env Zero s z h = truth-in (int_eq z (pos 0))
atom_span-in env (Bitwise op w) s (pos n) h =
    bits-in w (two_value op w w (n / 2 ^ w) (n % 2 ^ w) % 2 ^ w) (mod_below (two_value op w w (n / 2 ^ w) (n % 2 ^ w)) (2 ^ w) (pow_pos w))
atom_span-in env (Bitwise op w) s (negsuc n) h = bits-in w 0 (pow_pos w)

-- ---- sums

pub span-value : (env : Env) (p : Polynomial) → IfSome (span p) (λ s. In s (sum_value env p))
span-value env (number z) = record { above = le_self z; below = le_self z }
span-value env (plus k i f r) =
    let atom = atom_value env k (sum_value env i) in
    then_some (λ a. In a atom) (λ s. In s (sum_value env (plus k i f r))) (atom_span k (span i)) _ (atom_span-in env k (span i) (sum_value env i) (span-value env i))
    (λ a g. then_some (λ b. In b (sum_value env f)) (λ s. In s (sum_value env (plus k i f r))) (span f) _ (span-value env f)
    (λ b h. then_some (λ c. In c (atom *ℤ sum_value env f)) (λ s. In s (sum_value env (plus k i f r))) (span_product a b) _ (span_product-in a b atom (sum_value env f) g h)
    (λ c l. then_some (λ d. In d (sum_value env r)) (λ s. In s (sum_value env (plus k i f r))) (span r) _ (span-value env r)
    (λ d m. span_sum-in c d (atom *ℤ sum_value env f) (sum_value env r) l m))))
