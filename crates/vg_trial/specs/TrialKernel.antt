-- The kernel of a trial as data, which its text spells, and where its pointers point.
use Rattle.std.specs.Prelude.{ℕ, zero, suc, ◌+◌, ◌-◌, ◌*◌, ◌^◌, true, false, List, [], ◌∷◌, ◌++◌, pos, codes, nat_lt, if◌then◌else◌}
use Rattle.vg_base.specs.declared.address.Address.{Address}
use Rattle.vg_base.specs.declared.width.Width.TheVariants.{W8, W16, W32}
use Rattle.vg_scalar.specs.declared.two_op.TwoOp.TheVariants.{Add, Mul, Smin, Smax}
use Rattle.vg_scalar.specs.declared.shift.Shift.TheVariants.{Lshr}
use Rattle.vg_scalar.specs.declared.resize.Resize.TheVariants.{Sext, Zext, Trunc}
use Rattle.vg_kernel.specs.declared.parameter.KParam.{KParam}
use Rattle.vg_kernel.specs.declared.parameter.KParamKind.TheVariants.{Pointer}
use Rattle.vg_kernel.specs.Tree.{Expression, literal, load, two, shift, resize, Statement, store, Tree}
use Rattle.vg_trial.specs.declared.shape.Shape.{Shape}
use Rattle.vg_trial.specs.declared.shape.Shape.TheVariants.{Sums, Products, Clamped, Averages, Pairs}
use Rattle.vg_trial.specs.Trial.{groups, shape_of, statements_in}

-- `d + n`, `p + n` and `q + n`
abbrev pub d_at : ℕ → Address
d_at n = record { pointer = 0; offset = pos n }

abbrev pub p_at : ℕ → Address
p_at n = record { pointer = 1; offset = pos n }

abbrev pub q_at : ℕ → Address
q_at n = record { pointer = 2; offset = pos n }

-- the statements, each by the offset at d and by that at p and q

-- the sum of two dwords
abbrev pub sum_stored : ℕ → ℕ → Statement
sum_stored to from = store W32 (d_at to) (two Add W32 (load W32 (p_at from)) (load W32 (q_at from)))

-- the product of the words at p and q
abbrev pub product : ℕ → Expression
product from =
    two Mul W32 (resize Sext W32 W16 (load W16 (p_at from)))
    (resize Sext W32 W16 (load W16 (q_at from)))

-- the sum of two products of words
abbrev pub products_stored : ℕ → ℕ → Statement
products_stored to from = store W32 (d_at to) (two Add W32 (product from) (product (from + 2)))

-- a dword, kept in the range of signed words
abbrev pub clamped_stored : ℕ → ℕ → Statement
clamped_stored to from =
    store W16 (d_at to)
    (resize Trunc W16 W32
    (two Smin W32 (two Smax W32 (load W32 (p_at from)) (literal W32 (2 ^ 32 - 32768)))
    (literal W32 32767)))

-- the average of two bytes, rounded up
abbrev pub average_stored : ℕ → ℕ → Statement
average_stored to from =
    store W8 (d_at to)
    (resize Trunc W8 W16
    (shift Lshr W16 1
    (two Add W16
    (two Add W16 (resize Zext W16 W8 (load W8 (p_at from))) (resize Zext W16 W8 (load W8 (q_at from))))
    (literal W16 1))))

-- the sum of two consecutive dwords
abbrev pub pair_stored : ℕ → Address → Address → Statement
pair_stored to low high = store W32 (d_at to) (two Add W32 (load W32 low) (load W32 high))

-- statement i of group k
abbrev pub statement_made : Shape → ℕ → ℕ → Statement
statement_made Sums k i = sum_stored (16 * k + 4 * i) (32 * k + 4 * i)
statement_made Products k i = products_stored (16 * k + 4 * i) (32 * k + 4 * i)
statement_made Clamped k i = clamped_stored (16 * k + 2 * i) (32 * k + 4 * i)
statement_made Averages k i = average_stored (16 * k + i) (32 * k + i)
statement_made Pairs k i =
    if nat_lt i 2
    then pair_stored (16 * k + 4 * i) (p_at (32 * k + 8 * i)) (p_at (32 * k + 8 * i + 4))
    else pair_stored (16 * k + 4 * i) (q_at (32 * k + 8 * (i - 2))) (q_at (32 * k + 8 * (i - 2) + 4))

-- the first statements of a group, so many
unfoldable pub made : Shape → ℕ → ℕ → List Statement
made shape k zero = []
made shape k (suc i) = made shape k i ++ statement_made shape k i ∷ []

abbrev pub group_made : ℕ → ℕ → List Statement
group_made n k = made (shape_of n k) k (statements_in (shape_of n k))

-- the first groups, so many
unfoldable pub groups_made : ℕ → ℕ → List Statement
groups_made n zero = []
groups_made n (suc k) = groups_made n k ++ group_made n k

-- `d: noalias ptr, p: ptr, q: ptr`
abbrev pub params : List KParam
params =
    record { name = codes "d"; kind = Pointer true }
    ∷ record { name = codes "p"; kind = Pointer false }
    ∷ record { name = codes "q"; kind = Pointer false } ∷ []

-- the kernel
abbrev pub kernel : ℕ → Tree
kernel n =
    record { name = codes "trial"; params = params; statements = groups_made n (groups n) }

-- where d, p and q point: 16 bytes for each group, then 32, and 32 more
abbrev pub places : ℕ → List ℕ
places n = 0 ∷ 16 * groups n ∷ 48 * groups n ∷ []
