-- Values stay below 2 ^ width.
use Rattle.std.proofs.Common.{◌≡◌, ℕ, ◌+◌, ◌*◌, ◌%◌, ◌^◌, ◌<◌, ◌≤◌, Bool, sym, subst, arith}
use Rattle.std.specs.Prelude.{if◌then◌else◌, pos, negsuc, ℤ}
use Rattle.std.proofs.lemmas.Bool.{cond_both}
use Rattle.std.proofs.lemmas.Nat.{pow_pos, mod_below, or_lt, xor_lt, and_le_l, shr_le}
use Rattle.vg_base.specs.Bits.{signed_at}
use Rattle.vg_terms.specs.declared.term.OneOp.{OneOp}
use Rattle.vg_terms.specs.declared.term.OneOp.TheVariants.{Zext, Sext, Trunc, Lshr, Ashr}
use Rattle.vg_terms.specs.declared.term.TwoOp.{TwoOp}
use Rattle.vg_terms.specs.declared.term.TwoOp.TheVariants.{Add, Mul, And, Or, Xor, Smin, Smax, Umin, Umax, Eq, Slt, Ult, Cat}
use Rattle.vg_terms.specs.declared.value.Env.{Env}
use Rattle.vg_terms.specs.Term.{Tree, leaf, constant, one, two, sel, width_of, OneFits, TwoFits, WellFormed}
use Rattle.vg_base.specs.Number.{residue, floor_shift}
use Rattle.vg_terms.specs.Value.{one_value, two_value, value}
use Rattle.vg_base.proofs.LowBits.{below_wider, above_below, above-whole}
use Rattle.vg_base.proofs.Signed.{residue_below}

-- either of two numbers below a bound
either_below : (b : Bool) (x y n : ℕ) → x < n → y < n → (if b then x else y) < n
either_below b x y n p q = cond_both b x y (λ v. v < n) (λ _. p) (λ _. q)

bit_below : (b : Bool) (w : ℕ) → w ≡ 1 → (if b then 1 else 0) < 2 ^ w
bit_below b w e = subst (λ v. (if b then 1 else 0) < 2 ^ v) (sym e) (either_below b 1 0 2 (omega arith) (omega arith))

pub one-below : (op : OneOp) (w k m v : ℕ) → OneFits op w k m → v < 2 ^ m → one_value op w k m v < 2 ^ w
one-below Zext w k m v f h = let l : m ≤ w = omega (arith, f.0) in below_wider v m w h l
one-below Sext w k m v f h = residue_below w (signed_at m v)
one-below Trunc w k m v f h = mod_below v (2 ^ w) (pow_pos w)
one-below Lshr w k m v f h = let l : m ≤ w = omega (arith, f.0) in omega (arith, shr_le v k, below_wider v m w h l)
one-below Ashr w k m v f h = residue_below w (floor_shift (signed_at m v) k)

-- the numbers of two terms of width w, where the operation keeps the width
same_width : (w n x : ℕ) → n ≡ w → x < 2 ^ n → x < 2 ^ w
same_width w n x e h = subst (λ v. x < 2 ^ v) e h

pub two-below : (op : TwoOp) (w m n a b : ℕ) → TwoFits op w m n → a < 2 ^ m → b < 2 ^ n → two_value op w n a b < 2 ^ w
two-below Add w m n a b f p q = mod_below _ (2 ^ w) (pow_pos w)
two-below Mul w m n a b f p q = mod_below _ (2 ^ w) (pow_pos w)
two-below And w m n a b f p q = omega (arith, and_le_l a b, same_width w m a f.0 p)
two-below Or w m n a b f p q = or_lt w a b (same_width w m a f.0 p) (same_width w n b f.1 q)
two-below Xor w m n a b f p q = xor_lt w a b (same_width w m a f.0 p) (same_width w n b f.1 q)
two-below Smin w m n a b f p q = either_below _ a b (2 ^ w) (same_width w m a f.0 p) (same_width w n b f.1 q)
two-below Smax w m n a b f p q = either_below _ b a (2 ^ w) (same_width w n b f.1 q) (same_width w m a f.0 p)
two-below Umin w m n a b f p q = omega (arith, same_width w m a f.0 p, same_width w n b f.1 q)
two-below Umax w m n a b f p q = omega (arith, same_width w m a f.0 p, same_width w n b f.1 q)
two-below Eq w m n a b f p q = bit_below _ w f.0
two-below Slt w m n a b f p q = bit_below _ w f.0
two-below Ult w m n a b f p q = bit_below _ w f.0
two-below Cat w m n a b f p q = subst (λ v. a * 2 ^ n + b < 2 ^ v) (sym f) (above_below a b m n p q)

pub value-below : (env : Env) (t : Tree) → WellFormed t → value env t < 2 ^ width_of t
value-below env (leaf w k) h = mod_below _ (2 ^ w) (pow_pos w)
value-below env (constant w v) h = h.1
value-below env (one op w k x) h = one-below op w k (width_of x) (value env x) h.1 (value-below env x h.2)
value-below env (two op w x y) h = two-below op w (width_of x) (width_of y) (value env x) (value env y) h.1 (value-below env x h.2) (value-below env y h.3)
value-below env (sel w c x y) h =
    either_below _ (value env x) (value env y) (2 ^ w) (same_width w (width_of x) (value env x) h.1.1 (value-below env x h.3)) (same_width w (width_of y) (value env y) h.1.2 (value-below env y h.4))

-- the same, where the operation is known by an equation
pub two-below_at : (op o : TwoOp) (w m n a b : ℕ) → op ≡ o → TwoFits op w m n → a < 2 ^ m → b < 2 ^ n → two_value o w n a b < 2 ^ w
two-below_at op o w m n a b e f p q = subst (λ v. two_value v w n a b < 2 ^ w) e (two-below op w m n a b f p q)

-- the part above, shifted, loses no bit
pub cat-whole : (op : TwoOp) (w m n a : ℕ) → op ≡ Cat → w ≤ 128 → TwoFits op w m n → a < 2 ^ m → (a * 2 ^ n) % 2 ^ 128 ≡ a * 2 ^ n
cat-whole op w m n a e l f p =
    let fits : w ≡ m + n = subst (λ v. TwoFits v w m n) e f in
    let all : m + n ≤ 128 = omega arith in
    above-whole a m n p all
