-- Least, greatest and comparisons in the bits that hold both numbers.
use Rattle.std.proofs.Common.{◌≡◌, ℕ, ◌+◌, ◌-◌, ◌*◌, ◌%◌, ◌^◌, ◌<◌, ◌≤◌, true, Some, refl, sym, ap, ◌∙◌, subst, arith, inl}
use Rattle.std.specs.Prelude.{nat_lt, ◌&&◌, if◌then◌else◌}
use Rattle.std.proofs.lemmas.Bool.{ltb-true, and_parts}
use Rattle.vg_base.specs.Bits.{signed_at}
use Rattle.vg_terms.specs.declared.term.TwoOp.{TwoOp}
use Rattle.vg_terms.specs.declared.term.TwoOp.TheVariants.{Smin, Smax, Umin, Umax, Eq, Slt, Ult}
use Rattle.vg_terms.specs.declared.value.Env.{Env}
use Rattle.vg_terms.specs.Chain.{makes_chains}
use Rattle.vg_base.specs.Number.{magnitude, residue}
use Rattle.vg_terms.specs.Known.{known}
use Rattle.vg_terms.specs.Measure.{two_weight, weight}
use Rattle.vg_terms.specs.Resize.{low_two}
use Rattle.vg_terms.specs.Term.{Tree, two, width_of, IsWidth, TwoFits, WellFormed}
use Rattle.vg_terms.specs.Value.{two_value, value}
use Rattle.vg_terms.proofs.Chains.{chain_fits, fits_chain, chain_weight}
use Rattle.vg_terms.proofs.Narrow.{FitsSigned, narrow-ult, narrow-eq, narrow-umin, narrow-umax, narrow-slt, narrow-eq_signed, narrow-smin, narrow-smax}
use Rattle.vg_terms.proofs.Resizing.{low_two-formed, low_two-value, low_two-weight}
use Rattle.vg_terms.proofs.Signs.{signed_less-low, least-low, greatest-low}
use Rattle.vg_terms.proofs.Soundness.{known-holds, known_some, width_some}
use Rattle.vg_terms.proofs.Values.{value-below}
use Rattle.vg_base.proofs.LowBits.{below_wider}
use Rattle.vg_rules_choice.specs.Rules.{both_known, is_choice, is_comparison, read_unsigned, may_read_signed, narrowed_choice, narrowed_comparison, narrow_least_or_greatest, narrow_comparison}
use Rattle.vg_terms.specs.Table.{Promises, IsSound}
use Rattle.vg_terms.proofs.Tables.{given_else, tested}

choice_chains : (op : TwoOp) → is_choice op ≡ true → makes_chains op ≡ true
choice_chains Smin t = refl
choice_chains Smax t = refl
choice_chains Umin t = refl
choice_chains Umax t = refl
choice_chains _ t = absurd (cc)

unsigned_is_choice : (op : TwoOp) → is_choice op ≡ true → is_choice (read_unsigned op) ≡ true
unsigned_is_choice Smin t = refl
unsigned_is_choice Smax t = refl
unsigned_is_choice Umin t = refl
unsigned_is_choice Umax t = refl
unsigned_is_choice _ t = absurd (cc)

-- numbers below 2 ^ u, where u is less than the width
unsigned_choice : (op : TwoOp) (w u a b : ℕ) → is_choice op ≡ true → u < w → a < 2 ^ u → b < 2 ^ u →
    two_value (read_unsigned op) u u (a % 2 ^ u) (b % 2 ^ u) ≡ two_value op w w a b
unsigned_choice Smin w u a b t l p q =
    let k : u ≤ w - 1 =
    omega arith in narrow-umin u a b p q
    ∙ sym (least-low w a b (below_wider a u (w - 1) p k) (below_wider b u (w - 1) q k))
unsigned_choice Smax w u a b t l p q =
    let k : u ≤ w - 1 =
    omega arith in narrow-umax u a b p q
    ∙ sym (greatest-low w a b (below_wider a u (w - 1) p k) (below_wider b u (w - 1) q k))
unsigned_choice Umin w u a b t l p q = narrow-umin u a b p q
unsigned_choice Umax w u a b t l p q = narrow-umax u a b p q
unsigned_choice _ w u a b t l p q = absurd (cc)

unsigned_comparison : (op : TwoOp) (w v u a b : ℕ) → is_comparison op ≡ true → u < w → a < 2 ^ u → b < 2 ^ u →
    two_value (read_unsigned op) 1 u (a % 2 ^ u) (b % 2 ^ u) ≡ two_value op v w a b
unsigned_comparison Eq w v u a b t l p q = ap (λ t. if t then 1 else 0) (narrow-eq u a b p q)
unsigned_comparison Slt w v u a b t l p q =
    let k : u ≤ w - 1 = omega arith in
    ap (λ t. if t then 1 else 0) (narrow-ult u a b p q
    ∙ sym (signed_less-low w a b (below_wider a u (w - 1) p k) (below_wider b u (w - 1) q k)))
unsigned_comparison Ult w v u a b t l p q = ap (λ t. if t then 1 else 0) (narrow-ult u a b p q)
unsigned_comparison _ w v u a b t l p q = absurd (cc)

-- numbers that fit n signed bits
signed_choice : (op : TwoOp) (w n a b : ℕ) → is_choice op ≡ true → may_read_signed op ≡ true →
    FitsSigned w n a → FitsSigned w n b →
    residue w (signed_at n (two_value op n n (a % 2 ^ n) (b % 2 ^ n))) ≡ two_value op w w a b
signed_choice Smin w n a b t s f g = narrow-smin w n a b f g
signed_choice Smax w n a b t s f g = narrow-smax w n a b f g
signed_choice _ w n a b t s f g = absurd (cc)

signed_comparison : (op : TwoOp) (w v n a b : ℕ) → is_comparison op ≡ true → may_read_signed op ≡ true →
    FitsSigned w n a → FitsSigned w n b → two_value op 1 n (a % 2 ^ n) (b % 2 ^ n) ≡ two_value op v w a b
signed_comparison Eq w v n a b t s f g = ap (λ t. if t then 1 else 0) (narrow-eq_signed w n a b f g)
signed_comparison Slt w v n a b t s f g = ap (λ t. if t then 1 else 0) (narrow-slt w n a b f g)
signed_comparison _ w v n a b t s f g = absurd (cc)

comparison_fits : (op : TwoOp) (w m n : ℕ) → is_comparison op ≡ true → TwoFits op w m n → (w ≡ 1) × (m ≡ n)
comparison_fits Eq w m n t f = f
comparison_fits Slt w m n t f = f
comparison_fits Ult w m n t f = f
comparison_fits _ w m n t f = absurd (cc)

fits_comparison : (op : TwoOp) (n : ℕ) → is_comparison op ≡ true → TwoFits op 1 n n
fits_comparison Eq n t = (refl, refl)
fits_comparison Slt n t = (refl, refl)
fits_comparison Ult n t = (refl, refl)
fits_comparison _ n t = absurd (cc)

comparison_weight : (op : TwoOp) (w n : ℕ) → is_comparison op ≡ true → two_weight op w n ≡ 8 * n
comparison_weight Eq w n t = refl
comparison_weight Slt w n t = refl
comparison_weight Ult w n t = refl
comparison_weight _ w n t = absurd (cc)

unsigned_is_comparison : (op : TwoOp) → is_comparison op ≡ true → is_comparison (read_unsigned op) ≡ true
unsigned_is_comparison Eq t = refl
unsigned_is_comparison Slt t = refl
unsigned_is_comparison Ult t = refl
unsigned_is_comparison _ t = absurd (cc)

-- a term of w bits that is known to fit n signed bits
fits : (env : Env) (w n : ℕ) (t : Tree) → WellFormed t → width_of t ≡ w → (known t).signed ≤ n → n < w →
    FitsSigned w n (value env t)
fits env w n t f e k l =
    let holds = known-holds env t f in
    let less : (known t).signed - 1 ≤ n - 1 = omega arith in
    record {
      some = omega (arith, holds.some_signed);
      narrower = omega arith;
      number = subst (λ m. value env t < 2 ^ m) e (value-below env t f);
      within =
          below_wider _ ((known t).signed - 1) (n - 1) (subst (λ m. magnitude (signed_at m (value env t)) < 2 ^ ((known t).signed - 1)) e holds.within) less;
    }

-- two terms of w bits, w at most 128, and bits that hold both numbers
module _ (w : ℕ) (x y : Tree) (most : w ≤ 128) (ex : width_of x ≡ w) (ey : width_of y ≡ w) (fx : WellFormed x) (fy : WellFormed y) where
  below_x : (env : Env) → value env x < 2 ^ (both_known x y).unsigned
  below_x env =
      let k : (known x).unsigned ≤ (both_known x y).unsigned =
      omega arith in below_wider (value env x) _ _ (known-holds env x fx).below k

  below_y : (env : Env) → value env y < 2 ^ (both_known x y).unsigned
  below_y env =
      let k : (known y).unsigned ≤ (both_known x y).unsigned =
      omega arith in below_wider (value env y) _ _ (known-holds env y fy).below k

  fits_x : (env : Env) → (both_known x y).signed < w → FitsSigned w (both_known x y).signed (value env x)
  fits_x env l = let k : (known x).signed ≤ (both_known x y).signed = omega arith in fits env w _ x fx ex k l

  fits_y : (env : Env) → (both_known x y).signed < w → FitsSigned w (both_known x y).signed (value env y)
  fits_y env l = let k : (known y).signed ≤ (both_known x y).signed = omega arith in fits env w _ y fy ey k l

  -- an operation of width v on the low n bits of both
  part-formed : (op : TwoOp) (v n : ℕ) → IsWidth v → TwoFits op v n n → 0 < n → n < w → WellFormed (low_two op v n x y)
  part-formed op v n i f h l =
      let lx : n ≤ width_of x = omega arith in
      let ly : n ≤ width_of y = omega arith in
      low_two-formed op v n x y i f h lx ly fx fy

  part-value : (env : Env) (op : TwoOp) (v n : ℕ) → n < w →
      value env (low_two op v n x y) ≡ two_value op v n (value env x % 2 ^ n) (value env y % 2 ^ n)
  part-value env op v n l =
      let lx : n ≤ width_of x = omega arith in
      let ly : n ≤ width_of y = omega arith in
      low_two-value env op v n x y lx ly fx fy

  some_unsigned : 0 < (both_known x y).unsigned
  some_unsigned = omega (arith, (known_some x fx).0)

  some_signed : 0 < (both_known x y).signed
  some_signed = omega (arith, (known_some x fx).1)

  choice-formed : (op : TwoOp) (n : ℕ) → is_choice op ≡ true → 0 < n → n < w → WellFormed (low_two op n n x y)
  choice-formed op n t h l =
      part-formed op n n (h, omega arith) (fits_chain op n n n (choice_chains op t) refl refl) h l

  choice-falls : (op o : TwoOp) (n : ℕ) → is_choice op ≡ true → is_choice o ≡ true → n < w →
      weight (low_two o n n x y) + 4 ≤ weight (two op w x y)
  choice-falls op o n t r l =
      omega (arith, low_two-weight o n n x y, chain_weight o n n (choice_chains o r), chain_weight op w (width_of x) (choice_chains op t))

  narrowed_choice-promises : (op : TwoOp) (new : Tree) → is_choice op ≡ true → IsWidth w →
      narrowed_choice op w (both_known x y) x y ≡ Some new → Promises (two op w x y) new
  narrowed_choice-promises op new t i e =
      let r = unsigned_is_choice op t in
      let old : (env : Env) → two_value op w w (value env x) (value env y) ≡ value env (two op w x y) =
      λ env. ap (λ k. two_value op w k (value env x) (value env y)) (sym ey) in
      given_else (nat_lt (both_known x y).unsigned w) (may_read_signed op && nat_lt (both_known x y).signed w) _ _ _ new
      (λ b. let l = ltb-true (both_known x y).unsigned w b in
      let n = (both_known x y).unsigned in
      record {
        keeps = record {
          well_formed = (i, (l, refl), choice-formed (read_unsigned op) n r some_unsigned l);
          width = refl;
          value =
              λ env. part-value env (read_unsigned op) n n l
              ∙ unsigned_choice op w n (value env x) (value env y) t l (below_x env) (below_y env) ∙ old env;
        };
        falls = inl (omega (arith, choice-falls op (read_unsigned op) n t r l));
      })
      (λ b. let both = and_parts _ _ b in
      let l = ltb-true (both_known x y).signed w both.1 in
      let n = (both_known x y).signed in
      record {
        keeps = record {
          well_formed = (i, (l, refl), choice-formed op n t some_signed l);
          width = refl;
          value =
              λ env. ap (λ v. residue w (signed_at n v)) (part-value env op n n l)
              ∙ signed_choice op w n (value env x) (value env y) t both.0 (fits_x env l) (fits_y env l) ∙ old env;
        };
        falls = inl (omega (arith, choice-falls op op n t t l));
      }) e

  comparison-falls : (op o : TwoOp) (v n : ℕ) → is_comparison op ≡ true → is_comparison o ≡ true → n < w →
      weight (low_two o 1 n x y) < weight (two op v x y)
  comparison-falls op o v n t r l =
      omega (arith, low_two-weight o 1 n x y, comparison_weight o 1 n r, comparison_weight op v (width_of x) t)

  narrowed_comparison-promises : (op : TwoOp) (v : ℕ) (new : Tree) → is_comparison op ≡ true → v ≡ 1 →
      narrowed_comparison op w (both_known x y) x y ≡ Some new → Promises (two op v x y) new
  narrowed_comparison-promises op v new t e1 e =
      let r = unsigned_is_comparison op t in
      let i : IsWidth 1 = (omega arith, omega arith) in
      let old : (env : Env) → two_value op v w (value env x) (value env y) ≡ value env (two op v x y) =
      λ env. ap (λ k. two_value op v k (value env x) (value env y)) (sym ey) in
      given_else (nat_lt (both_known x y).unsigned w) (may_read_signed op && nat_lt (both_known x y).signed w) _ _ _ new
      (λ b. let l = ltb-true (both_known x y).unsigned w b in
      let n = (both_known x y).unsigned in
      record {
        keeps = record {
          well_formed = part-formed (read_unsigned op) 1 n i (fits_comparison (read_unsigned op) n r) some_unsigned l;
          width = sym e1;
          value =
              λ env. part-value env (read_unsigned op) 1 n l
              ∙ unsigned_comparison op w v n (value env x) (value env y) t l (below_x env) (below_y env) ∙ old env;
        };
        falls = inl (comparison-falls op (read_unsigned op) v n t r l);
      })
      (λ b. let both = and_parts _ _ b in
      let l = ltb-true (both_known x y).signed w both.1 in
      let n = (both_known x y).signed in
      record {
        keeps = record {
          well_formed = part-formed op 1 n i (fits_comparison op n t) some_signed l;
          width = sym e1;
          value =
              λ env. part-value env op 1 n l
              ∙ signed_comparison op w v n (value env x) (value env y) t both.0 (fits_x env l) (fits_y env l)
              ∙ old env;
        };
        falls = inl (comparison-falls op op v n t t l);
      }) e

pub narrow_least_or_greatest-sound : IsSound narrow_least_or_greatest
unfolding narrow_least_or_greatest
narrow_least_or_greatest-sound (two op w x y) new g e =
    let t = tested (is_choice op) _ new e in
    let both = chain_fits op w (width_of x) (width_of y) (choice_chains op t.0) g.1 in
    narrowed_choice-promises w x y g.0.1 both.0 both.1 g.2 g.3 op new t.0 g.0 t.1
narrow_least_or_greatest-sound _ new g e = absurd (cc)

pub narrow_comparison-sound : IsSound narrow_comparison
unfolding narrow_comparison
narrow_comparison-sound (two op v x y) new g e =
    let t = tested (is_comparison op) _ new e in
    let both = comparison_fits op v (width_of x) (width_of y) t.0 g.1 in
    narrowed_comparison-promises (width_of x) x y (width_some x g.2).1 refl (sym both.1) g.2 g.3 op v new t.0 both.0 t.1
narrow_comparison-sound _ new g e = absurd (cc)
