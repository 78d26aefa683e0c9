-- What the terms of operations mean: what vg_scalar makes of the numbers of their operands.
use Rattle.std.proofs.Common.{◌≡◌, ℕ, zero, suc, ◌+◌, ◌-◌, ◌*◌, ◌/◌, ◌%◌, ◌^◌, ◌<◌, refl, sym, ap, subst, ◌∙◌, arith}
use Rattle.std.specs.Prelude.{if◌then◌else◌, int_lt, nat_eq, nat_lt, min, max, bit_and, bit_or, bit_xor}
use Rattle.std.proofs.lemmas.Nat.{pow_pos, mod-mul-add}
use Rattle.std.proofs.Math.Nat.{mod-eq_of_lt, add-mod_right, zero-mul}
use Rattle.std.proofs.Math.Pow.{pow-lt}
use Rattle.vg_base.specs.Bits.{signed_at}
use Rattle.vg_base.specs.Number.{residue, floor_shift}
use Rattle.vg_base.specs.declared.width.Width.{Width}
use Rattle.vg_base.specs.declared.width.Width.TheVariants.{W8, W16, W32, W64}
use Rattle.vg_base.specs.Width.{bits_of}
use Rattle.vg_canon.specs.Canonical.{canonical}
use Rattle.vg_canon.proofs.Forms.{canonical-settled}
use Rattle.vg_scalar.specs.declared.two_op.TwoOp.{TwoOp}
use Rattle.vg_scalar.specs.declared.two_op.TwoOp.TheVariants.{Add, Sub, Mul, And, Or, Xor, Smin, Smax, Umin, Umax}
use Rattle.vg_scalar.specs.declared.shift.Shift.{Shift}
use Rattle.vg_scalar.specs.declared.shift.Shift.TheVariants.{Shl, Lshr, Ashr}
use Rattle.vg_scalar.specs.declared.resize.Resize.{Resize}
use Rattle.vg_scalar.specs.declared.resize.Resize.TheVariants.{Sext, Zext, Trunc}
use Rattle.vg_scalar.specs.declared.comparison.Comparison.{Comparison}
use Rattle.vg_scalar.specs.declared.comparison.Comparison.TheVariants.{Eq, Slt, Ult}
use Rattle.vg_scalar.specs.Scalar.{low, two_result, shift_result, resize_result, comparison_result}
use Rattle.vg_shapes.specs.declared.ssa_unit.Operator.{Operator}
use Rattle.vg_shapes.specs.declared.ssa_unit.Operator.TheVariants as operator
use Rattle.vg_shapes.specs.RunUnits.{operation_result}
use Rattle.vg_shapes.specs.Sound.{IsChange, result_bits}
use Rattle.vg_ssa.specs.Fitting.{IsTermOf, OperandsFit}
use Rattle.vg_ssa.specs.ValueTerm.{comparison_term, operation_term, resize_term, shift_term, two_term}
use Rattle.vg_terms.specs.declared.value.Env.{Env}
use Rattle.vg_terms.specs.Term.{Tree, constant, IsWidth, width_of, WellFormed}
use Rattle.vg_terms.specs.Value.{value}
use Rattle.vg_terms.proofs.Values.{value-below}

-- ---- numbers of terms

pub bits-width : (w : Width) → IsWidth (bits_of w)
bits-width W8 = (omega arith, omega arith)
bits-width W16 = (omega arith, omega arith)
bits-width W32 = (omega arith, omega arith)
bits-width W64 = (omega arith, omega arith)

below : (env : Env) (w : ℕ) (t : Tree) → IsTermOf w t → value env t < 2 ^ w
below env w t h = subst (λ n. value env t < 2 ^ n) h.width (value-below env t h.well_formed)

-- the number of a term is its low bits
same : (env : Env) (w : ℕ) (t : Tree) → IsTermOf w t → value env t ≡ low w (value env t)
same env w t h = sym (mod-eq_of_lt (below env w t h))

-- a sum with the other number times -1
product : (c m : ℕ) → suc c < m + 1 → suc c * m ≡ c * (m + 1) + (m + 1 - suc c)
product c m l = omega arith

difference-at : (m a b : ℕ) → b < m + 1 → (a + b * m % (m + 1)) % (m + 1) ≡ (a + (m + 1 - b % (m + 1))) % (m + 1)
difference-at m a zero l =
    let none : zero % (m + 1) ≡ zero = mod-eq_of_lt l in
    let left : zero * m % (m + 1) ≡ zero = ap (λ v. v % (m + 1)) (zero-mul m) ∙ none in
    let right : m + 1 ≡ m + 1 - zero % (m + 1) = omega (arith, none) in
    let plain : a + zero ≡ a = omega arith in
    (λ i. (a + left i) % (m + 1)) ∙ ap (λ v. v % (m + 1)) plain ∙ sym (add-mod_right a (m + 1)) ∙ (λ i. (a + right i) % (m + 1))
difference-at m a (suc c) l =
    let rest : m + 1 - suc c < m + 1 = omega arith in
    let left : suc c * m % (m + 1) ≡ m + 1 - suc c = ap (λ v. v % (m + 1)) (product c m l) ∙ mod-mul-add c (m + 1) (m + 1 - suc c) rest in
    let right : m + 1 - suc c ≡ m + 1 - suc c % (m + 1) = ap (λ v. m + 1 - v) (sym (mod-eq_of_lt l)) in
    (λ i. (a + left i) % (m + 1)) ∙ (λ i. (a + right i) % (m + 1))

difference : (M a b : ℕ) → b < M → (a + b * (M - 1) % M) % M ≡ (a + (M - b % M)) % M
difference M a b l =
    let e : M - 1 + 1 ≡ M = omega arith in
    let P : ℕ → Type 0 = λ n. (a + b * (M - 1) % n) % n ≡ (a + (n - b % n)) % n in
    subst P e (difference-at (M - 1) a b (omega arith))

two-means : (op : TwoOp) (env : Env) (w : ℕ) (x y : Tree) → IsTermOf w x → IsTermOf w y → value env (two_term op w x y) ≡ two_result op w (value env x) (value env y)
two-means Add env w x y hx hy = refl
two-means Sub env w x y hx hy = difference (2 ^ w) (value env x) (value env y) (below env w y hy)
two-means Mul env w x y hx hy = refl
two-means And env w x y hx hy = λ i. bit_and (same env w x hx i) (same env w y hy i)
two-means Or env w x y hx hy = λ i. bit_or (same env w x hx i) (same env w y hy i)
two-means Xor env w x y hx hy = λ i. bit_xor (same env w x hx i) (same env w y hy i)
two-means Smin env w x y hx hy =
    let e = same env w x hx in
    let f = same env w y hy in
    λ i. if int_lt (signed_at (hy.width i) (e i)) (signed_at (hy.width i) (f i)) then e i else f i
two-means Smax env w x y hx hy =
    let e = same env w x hx in
    let f = same env w y hy in
    λ i. if int_lt (signed_at (hy.width i) (e i)) (signed_at (hy.width i) (f i)) then f i else e i
two-means Umin env w x y hx hy = λ i. min (same env w x hx i) (same env w y hy i)
two-means Umax env w x y hx hy = λ i. max (same env w x hx i) (same env w y hy i)

shift-means : (op : Shift) (env : Env) (w k : ℕ) (x : Tree) → IsTermOf w x → value env (shift_term op w k x) ≡ shift_result op w k (value env x)
shift-means Shl env w k x h = refl
shift-means Lshr env w k x h = ap (λ v. v / 2 ^ k) (same env w x h)
shift-means Ashr env w k x h = λ i. residue w (floor_shift (signed_at (h.width i) (same env w x h i)) k)

resize-means : (op : Resize) (env : Env) (w m : ℕ) (x : Tree) → IsTermOf m x → value env (resize_term op w x) ≡ resize_result op w m (value env x)
resize-means Sext env w m x h = λ i. residue w (signed_at (h.width i) (same env m x h i))
resize-means Zext env w m x h = same env m x h
resize-means Trunc env w m x h = refl

comparison-means : (op : Comparison) (env : Env) (m : ℕ) (x y : Tree) → IsTermOf m x → IsTermOf m y → value env (comparison_term op x y) ≡ comparison_result op m (value env x) (value env y)
comparison-means Eq env m x y hx hy = λ i. if nat_eq (same env m x hx i) (same env m y hy i) then 1 else 0
comparison-means Slt env m x y hx hy =
    λ i. if int_lt (signed_at (hy.width i) (same env m x hx i)) (signed_at (hy.width i) (same env m y hy i)) then 1 else 0
comparison-means Ult env m x y hx hy = λ i. if nat_lt (same env m x hx i) (same env m y hy i) then 1 else 0

-- the term of an operation has the value that the operation gives
pub operation-means : (op : Operator) (env : Env) (w : Width) (k : ℕ) (x y z : Tree) → OperandsFit op w k x y z
    → value env (operation_term op (bits_of w) k x y z) ≡ operation_result op (bits_of w) k (value env x) (value env y) (value env z)
operation-means (operator.Two op) env w k x y z h = two-means op env (bits_of w) x y h.0 h.1
operation-means (operator.Shift op) env w k x y z h = shift-means op env (bits_of w) k x h.1
operation-means (operator.Resize op v) env w k x y z h = resize-means op env (bits_of w) (bits_of v) x h.1
operation-means (operator.Compare op) env w k x y z h = comparison-means op env (bits_of w) x y h.0 h.1
operation-means operator.Select env w k x y z h =
    let c = same env 1 x h.0 in
    λ i. if nat_eq (c i) 1 then value env y else value env z

-- ---- what is well-formed

-- the constants of differences and of shifts to the left
pub ones-below : (w : ℕ) → 2 ^ w - 1 < 2 ^ w
ones-below w = omega (arith, pow_pos w)

constant-fits : (w n : ℕ) → IsWidth w → n < 2 ^ w → WellFormed (constant w n)
constant-fits w n h l = (h, l)

two-formed : (op : TwoOp) (w : ℕ) (x y : Tree) → IsWidth w → IsTermOf w x → IsTermOf w y → WellFormed (two_term op w x y)
two-formed Add w x y h hx hy = (h, (hx.width, hy.width), hx.well_formed, hy.well_formed)
two-formed Sub w x y h hx hy =
    (h, (hx.width, refl), hx.well_formed, (h, (hy.width, refl), hy.well_formed, constant-fits w (2 ^ w - 1) h (ones-below w)))
two-formed Mul w x y h hx hy = (h, (hx.width, hy.width), hx.well_formed, hy.well_formed)
two-formed And w x y h hx hy = (h, (hx.width, hy.width), hx.well_formed, hy.well_formed)
two-formed Or w x y h hx hy = (h, (hx.width, hy.width), hx.well_formed, hy.well_formed)
two-formed Xor w x y h hx hy = (h, (hx.width, hy.width), hx.well_formed, hy.well_formed)
two-formed Smin w x y h hx hy = (h, (hx.width, hy.width), hx.well_formed, hy.well_formed)
two-formed Smax w x y h hx hy = (h, (hx.width, hy.width), hx.well_formed, hy.well_formed)
two-formed Umin w x y h hx hy = (h, (hx.width, hy.width), hx.well_formed, hy.well_formed)
two-formed Umax w x y h hx hy = (h, (hx.width, hy.width), hx.well_formed, hy.well_formed)

two-wide : (op : TwoOp) (w : ℕ) (x y : Tree) → width_of (two_term op w x y) ≡ w
two-wide Add w x y = refl
two-wide Sub w x y = refl
two-wide Mul w x y = refl
two-wide And w x y = refl
two-wide Or w x y = refl
two-wide Xor w x y = refl
two-wide Smin w x y = refl
two-wide Smax w x y = refl
two-wide Umin w x y = refl
two-wide Umax w x y = refl

shift-formed : (op : Shift) (w k : ℕ) (x : Tree) → IsWidth w → k < w → IsTermOf w x → WellFormed (shift_term op w k x)
shift-formed Shl w k x h l hx = (h, (hx.width, refl), hx.well_formed, constant-fits w (2 ^ k) h (pow-lt l))
shift-formed Lshr w k x h l hx = (h, (hx.width, l), hx.well_formed)
shift-formed Ashr w k x h l hx = (h, (hx.width, l), hx.well_formed)

shift-wide : (op : Shift) (w k : ℕ) (x : Tree) → width_of (shift_term op w k x) ≡ w
shift-wide Shl w k x = refl
shift-wide Lshr w k x = refl
shift-wide Ashr w k x = refl

resize-formed : (op : Resize) (w v : Width) (x : Tree) → IsChange op w v → IsTermOf (bits_of v) x → WellFormed (resize_term op (bits_of w) x)
resize-formed Sext w v x l hx = (bits-width w, (subst (λ m. m < bits_of w) (sym hx.width) l, refl), hx.well_formed)
resize-formed Zext w v x l hx = (bits-width w, (subst (λ m. m < bits_of w) (sym hx.width) l, refl), hx.well_formed)
resize-formed Trunc w v x l hx = (bits-width w, (subst (λ m. bits_of w < m) (sym hx.width) l, refl), hx.well_formed)

resize-wide : (op : Resize) (w : ℕ) (x : Tree) → width_of (resize_term op w x) ≡ w
resize-wide Sext w x = refl
resize-wide Zext w x = refl
resize-wide Trunc w x = refl

comparison-formed : (op : Comparison) (m : ℕ) (x y : Tree) → IsTermOf m x → IsTermOf m y → WellFormed (comparison_term op x y)
comparison-formed Eq m x y hx hy = ((omega arith, omega arith), (refl, hx.width ∙ sym hy.width), hx.well_formed, hy.well_formed)
comparison-formed Slt m x y hx hy = ((omega arith, omega arith), (refl, hx.width ∙ sym hy.width), hx.well_formed, hy.well_formed)
comparison-formed Ult m x y hx hy = ((omega arith, omega arith), (refl, hx.width ∙ sym hy.width), hx.well_formed, hy.well_formed)

comparison-wide : (op : Comparison) (x y : Tree) → width_of (comparison_term op x y) ≡ 1
comparison-wide Eq x y = refl
comparison-wide Slt x y = refl
comparison-wide Ult x y = refl

pub operation-formed : (op : Operator) (w : Width) (k : ℕ) (x y z : Tree) → OperandsFit op w k x y z → WellFormed (operation_term op (bits_of w) k x y z)
operation-formed (operator.Two op) w k x y z h = two-formed op (bits_of w) x y (bits-width w) h.0 h.1
operation-formed (operator.Shift op) w k x y z h = shift-formed op (bits_of w) k x (bits-width w) h.0 h.1
operation-formed (operator.Resize op v) w k x y z h = resize-formed op w v x h.0 h.1
operation-formed (operator.Compare op) w k x y z h = comparison-formed op (bits_of w) x y h.0 h.1
operation-formed operator.Select w k x y z h =
    (bits-width w, (h.0.width, h.1.width, h.2.width), h.0.well_formed, h.1.well_formed, h.2.well_formed)

operation-wide : (op : Operator) (w : Width) (k : ℕ) (x y z : Tree) → width_of (operation_term op (bits_of w) k x y z) ≡ result_bits op w
operation-wide (operator.Two op) w k x y z = two-wide op (bits_of w) x y
operation-wide (operator.Shift op) w k x y z = shift-wide op (bits_of w) k x
operation-wide (operator.Resize op v) w k x y z = resize-wide op (bits_of w) x
operation-wide (operator.Compare op) w k x y z = comparison-wide op x y
operation-wide operator.Select w k x y z = refl

-- ---- the canonical form of an operation

pub canonical-term : (op : Operator) (w : Width) (k : ℕ) (x y z : Tree) → OperandsFit op w k x y z → IsTermOf (result_bits op w) (canonical (operation_term op (bits_of w) k x y z))
canonical-term op w k x y z h =
    let settled = canonical-settled (operation_term op (bits_of w) k x y z) (operation-formed op w k x y z h) in
    record {
      well_formed = settled.keeps.well_formed;
      width = settled.keeps.width ∙ operation-wide op w k x y z;
      is_canonical = settled.is_canonical;
    }

pub canonical-means : (op : Operator) (env : Env) (w : Width) (k : ℕ) (x y z : Tree) → OperandsFit op w k x y z
    → value env (canonical (operation_term op (bits_of w) k x y z)) ≡ operation_result op (bits_of w) k (value env x) (value env y) (value env z)
canonical-means op env w k x y z h =
    let settled = canonical-settled (operation_term op (bits_of w) k x y z) (operation-formed op w k x y z h) in
    settled.keeps.value env ∙ operation-means op env w k x y z h
