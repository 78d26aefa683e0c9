-- Operations in the bits that hold their number.
use Rattle.std.proofs.Common.{◌≡◌, ℕ, ◌+◌, ◌-◌, ◌*◌, ◌%◌, ◌^◌, ◌<◌, ◌≤◌, true, Some, refl, sym, ap, ◌∙◌, subst, arith, inl}
use Rattle.std.specs.Prelude.{nat_lt}
use Rattle.std.proofs.lemmas.Bool.{ltb-true}
use Rattle.vg_base.specs.Bits.{signed_at}
use Rattle.vg_terms.specs.declared.term.OneOp.TheVariants.{Zext, Sext}
use Rattle.vg_terms.specs.declared.term.TwoOp.{TwoOp}
use Rattle.vg_terms.specs.declared.term.TwoOp.TheVariants.{Add, Mul}
use Rattle.vg_terms.specs.declared.value.Env.{Env}
use Rattle.vg_terms.specs.Term.{Tree, one, two, width_of, IsWidth, TwoFits, WellFormed}
use Rattle.vg_base.specs.Number.{residue, magnitude}
use Rattle.vg_terms.specs.Value.{two_value, value}
use Rattle.vg_terms.specs.Known.{known}
use Rattle.vg_terms.specs.Resize.{low_two}
use Rattle.vg_terms.specs.Measure.{two_weight, weight}
use Rattle.vg_base.proofs.LowBits.{below_wider, low-below, signed-low}
use Rattle.vg_terms.proofs.Values.{value-below}
use Rattle.vg_base.proofs.Signed.{residue-signed}
use Rattle.vg_terms.specs.Resize.{keeps_low}
use Rattle.vg_terms.proofs.Narrow.{narrow-unsigned, narrow-signed}
use Rattle.vg_terms.proofs.Soundness.{known-holds, known_some}
use Rattle.vg_terms.proofs.Resizing.{low_two-formed, low_two-value, low_two-weight}
use Rattle.vg_rules_width.specs.Rules.{extended_operation, narrowed, narrow_product, narrow_extended_sum}
use Rattle.vg_terms.specs.Table.{Promises, IsSound}
use Rattle.vg_terms.proofs.Tables.{given_if, given_else}

-- an operation of w bits whose low bits come from low bits, and a term of m bits that is worth it
record Narrows (old : Tree) (op : TwoOp) (w m : ℕ) (x y : Tree) : Type 0 where
  low : keeps_low op ≡ true
  fits : (n : ℕ) → TwoFits op n n n
  own : (n : ℕ) → two_weight op n n ≡ 8 * n
  first : width_of x ≡ w
  second : width_of y ≡ w
  formed : WellFormed (two op w x y)
  wide : w ≤ m
  width : IsWidth m
  is : width_of old ≡ m
  heavy : 8 * w + (weight x + weight y) ≤ weight old

-- a number below 2 ^ n keeps when it is read signed in w bits and extended by the sign
extended_low : (w m n v : ℕ) → v < 2 ^ n → n < w → w ≤ m → residue m (signed_at w v) ≡ v
extended_low w m n v b h l =
    let less : n ≤ w - 1 = omega arith in
    let more : n ≤ m = omega arith in
    ap (residue m) (signed-low w v (below_wider v n (w - 1) b less)) ∙ low-below v n m b more

module _ (old : Tree) (op : TwoOp) (w m : ℕ) (x y : Tree) (h : Narrows old op w m x y) where
  at_w : (env : Env) → value env (two op w x y) ≡ two_value op w w (value env x) (value env y)
  at_w env = ap (λ k. two_value op w k (value env x) (value env y)) h.second

  part-formed : (n : ℕ) → 0 < n → n < w → WellFormed (low_two op n n x y)
  part-formed n some less =
      let most : n ≤ 128 = omega (arith, h.formed.0.1) in
      let lx : n ≤ width_of x = omega (arith, h.first) in
      let ly : n ≤ width_of y = omega (arith, h.second) in
      low_two-formed op n n x y (some, most) (h.fits n) some lx ly h.formed.2 h.formed.3

  part-value : (env : Env) (n : ℕ) → n < w →
      value env (low_two op n n x y) ≡ two_value op n n (value env x % 2 ^ n) (value env y % 2 ^ n)
  part-value env n less =
      let lx : n ≤ width_of x = omega (arith, h.first) in
      let ly : n ≤ width_of y = omega (arith, h.second) in
      low_two-value env op n n x y lx ly h.formed.2 h.formed.3

  part-unsigned : (env : Env) (n : ℕ) → n < w → value env (two op w x y) < 2 ^ n →
      value env (low_two op n n x y) ≡ value env (two op w x y)
  part-unsigned env n less b =
      let l : n ≤ w = omega arith in
      part-value env n less
      ∙ narrow-unsigned op w n (value env x) (value env y) h.low l (subst (λ v. v < 2 ^ n) (at_w env) b)
      ∙ sym (at_w env)

  part-signed : (env : Env) (n : ℕ) → 0 < n → n < w →
      magnitude (signed_at w (value env (two op w x y))) < 2 ^ (n - 1) →
      signed_at n (value env (low_two op n n x y)) ≡ signed_at w (value env (two op w x y))
  part-signed env n some less b =
      let l : n ≤ w = omega arith in
      let below = subst (λ v. v < 2 ^ w) (at_w env) (value-below env (two op w x y) h.formed) in
      ap (signed_at n) (part-value env n less)
      ∙ narrow-signed op w n (value env x) (value env y) h.low some l below (subst (λ v. magnitude (signed_at w v) < 2 ^ (n - 1)) (at_w env) b) ∙ sym (ap (signed_at w) (at_w env))

  unsigned-promises : (n : ℕ) → 0 < n → n < w → ((env : Env) → value env old ≡ value env (two op w x y)) →
      ((env : Env) → value env (two op w x y) < 2 ^ n) → Promises old (extended_operation Zext m op n x y)
  unsigned-promises n some less same b =
      let wider : n < m = omega (arith, h.wide) in
      record {
        keeps = record {
          well_formed = (h.width, (wider, refl), part-formed n some less);
          width = sym h.is;
          value = λ env. part-unsigned env n less (b env) ∙ sym (same env);
        };
        falls = inl (omega (arith, low_two-weight op n n x y, h.own n, h.heavy));
      }

  signed-promises : (n : ℕ) → 0 < n → n < w →
      ((env : Env) → value env old ≡ residue m (signed_at w (value env (two op w x y)))) →
      ((env : Env) → magnitude (signed_at w (value env (two op w x y))) < 2 ^ (n - 1)) →
      Promises old (extended_operation Sext m op n x y)
  signed-promises n some less same b =
      let wider : n < m = omega (arith, h.wide) in
      record {
        keeps = record {
          well_formed = (h.width, (wider, refl), part-formed n some less);
          width = sym h.is;
          value = λ env. ap (residue m) (part-signed env n some less (b env)) ∙ sym (same env);
        };
        falls = inl (omega (arith, low_two-weight op n n x y, h.own n, h.heavy));
      }

  narrowed-promises : (new : Tree) →
      ((env : Env) → value env old ≡ residue m (signed_at w (value env (two op w x y)))) →
      narrowed (known (two op w x y)) w m op x y ≡ Some new → Promises old new
  narrowed-promises new same e =
      let k = known (two op w x y) in
      let holds = λ (env : Env). known-holds env (two op w x y) h.formed in
      given_else (nat_lt k.unsigned w) (nat_lt k.signed w) old _ _ new
      (λ t. let less = ltb-true k.unsigned w t in
      unsigned-promises k.unsigned (known_some (two op w x y) h.formed).0 less (λ env. same env
      ∙ extended_low w m k.unsigned (value env (two op w x y)) (holds env).below less h.wide) (λ env. (holds env).below))
      (λ t. signed-promises k.signed (known_some (two op w x y) h.formed).1 (ltb-true k.signed w t) same (λ env. (holds env).within)) e

pub narrow_product-sound : IsSound narrow_product
unfolding narrow_product
narrow_product-sound (two Mul w x y) new f e =
    let h : Narrows (two Mul w x y) Mul w w x y =
    record { low = refl; fits = λ n. (refl, refl); own = λ n. refl; first = f.1.0; second = f.1.1; formed = f; wide = omega arith; width = f.0; is = refl; heavy = omega arith } in
    narrowed-promises (two Mul w x y) Mul w w x y h new (λ env. sym (residue-signed w (value env (two Mul w x y)) (value-below env (two Mul w x y) f))) e
narrow_product-sound _ new f e = absurd (cc)

pub narrow_extended_sum-sound : IsSound narrow_extended_sum
unfolding narrow_extended_sum
narrow_extended_sum-sound (one Sext m z (two Add w x y)) new f e =
    let h : Narrows (one Sext m z (two Add w x y)) Add w m x y =
    record { low = refl; fits = λ n. (refl, refl); own = λ n. refl; first = f.2.1.0; second = f.2.1.1; formed = f.2; wide = omega (arith, f.1.0); width = f.0; is = refl; heavy = omega arith } in
    narrowed-promises (one Sext m z (two Add w x y)) Add w m x y h new (λ env. refl) e
narrow_extended_sum-sound (one Zext m z (two Add w x y)) new f e =
    let h : Narrows (one Zext m z (two Add w x y)) Add w m x y =
    record { low = refl; fits = λ n. (refl, refl); own = λ n. refl; first = f.2.1.0; second = f.2.1.1; formed = f.2; wide = omega (arith, f.1.0); width = f.0; is = refl; heavy = omega arith } in
    let u = (known (two Add w x y)).unsigned in
    let holds = λ (env : Env). known-holds env (two Add w x y) f.2 in
    given_if (nat_lt u w) _ _ new (λ t. unsigned-promises (one Zext m z (two Add w x y)) Add w m x y h u (known_some (two Add w x y) f.2).0 (ltb-true u w t) (λ env. refl) (λ env. (holds env).below)) e
narrow_extended_sum-sound _ new f e = absurd (cc)
