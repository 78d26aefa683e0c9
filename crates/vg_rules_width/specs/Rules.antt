-- The rows of the table of widths: what each makes of a term to which it applies, and the first that applies.
use Rattle.std.specs.Prelude.{ℕ, ◌+◌, ◌-◌, List, [], ◌∷◌, Option, Some, None, min, nat_eq, nat_le, nat_lt, if◌then◌else◌}
use Rattle.vg_terms.specs.declared.term.OneOp.{OneOp}
use Rattle.vg_terms.specs.declared.term.OneOp.TheVariants.{Zext, Sext, Trunc, Lshr, Ashr}
use Rattle.vg_terms.specs.declared.term.TwoOp.{TwoOp}
use Rattle.vg_terms.specs.declared.term.TwoOp.TheVariants.{Add, Mul, And, Or, Xor, Cat}
use Rattle.vg_terms.specs.declared.known.Known.{Known}
use Rattle.vg_terms.specs.Term.{Tree, constant, one, two, sel, width_of}
use Rattle.vg_terms.specs.Known.{known}
use Rattle.vg_terms.specs.Resize.{low, low_two}
use Rattle.vg_terms.specs.Table.{first}

-- a truncation of a truncation: one truncation
unfoldable pub truncate_truncate : Tree → Option Tree
truncate_truncate (one Trunc n z (one Trunc m y x)) = Some (low n x)
truncate_truncate _ = None

-- n bits of an extension of x: low bits of x where it has n, else the extension to n
abbrev pub resized : OneOp → ℕ → Tree → Tree
resized op n x = if nat_le n (width_of x) then low n x else one op n 0 x

-- a truncation of an extension: a truncation, or an extension to fewer bits
unfoldable pub truncate_extension : Tree → Option Tree
truncate_extension (one Trunc n z (one Zext m y x)) = Some (resized Zext n x)
truncate_extension (one Trunc n z (one Sext m y x)) = Some (resized Sext n x)
truncate_extension _ = None

-- an extension of an extension: one extension, by zeros where the inner one is
unfoldable pub extend_extend : Tree → Option Tree
extend_extend (one Zext w z (one Zext m y x)) = Some (one Zext w 0 x)
extend_extend (one Sext w z (one Sext m y x)) = Some (one Sext w 0 x)
extend_extend (one Sext w z (one Zext m y x)) = Some (one Zext w 0 x)
extend_extend _ = None

-- a truncation of an operation whose low bits come from low bits: the operation on those
unfoldable pub truncate_operation : Tree → Option Tree
truncate_operation (one Trunc n z (two Add m x y)) = Some (low_two Add n n x y)
truncate_operation (one Trunc n z (two Mul m x y)) = Some (low_two Mul n n x y)
truncate_operation (one Trunc n z (two And m x y)) = Some (low_two And n n x y)
truncate_operation (one Trunc n z (two Or m x y)) = Some (low_two Or n n x y)
truncate_operation (one Trunc n z (two Xor m x y)) = Some (low_two Xor n n x y)
truncate_operation _ = None

-- a truncation of a selection: a selection of truncations
unfoldable pub truncate_selection : Tree → Option Tree
truncate_selection (one Trunc n z (sel m c x y)) = Some (sel n c (low n x) (low n y))
truncate_selection _ = None

-- bits below the sign that a shift with sign has moved: those of the shift without
unfoldable pub truncate_arithmetic_shift : Tree → Option Tree
truncate_arithmetic_shift (one Trunc n z (one Ashr m k x)) =
    if nat_le (n + k) m then Some (one Trunc n 0 (one Lshr m k x)) else None
truncate_arithmetic_shift _ = None

-- n bits of x from the place k on: only n + k bits are shifted
abbrev pub low_of_shift : ℕ → ℕ → Tree → Tree
low_of_shift n k x = low n (one Lshr (n + k) k (low (n + k) x))

-- low bits of a shift of more bits
unfoldable pub truncate_logical_shift : Tree → Option Tree
truncate_logical_shift (one Trunc n z (one Lshr m k x)) =
    if nat_lt (n + k) m then Some (low_of_shift n k x) else None
truncate_logical_shift _ = None

-- a shift by 0: the term that is shifted
unfoldable pub shift_by_zero : Tree → Option Tree
shift_by_zero (one Lshr w k x) = if nat_eq k 0 then Some x else None
shift_by_zero (one Ashr w k x) = if nat_eq k 0 then Some x else None
shift_by_zero _ = None

-- x below zeros, shifted in w bits: the shift of x below zeros, or 0 where nothing of it is left
abbrev pub shifted_zext : ℕ → ℕ → Tree → Tree
shifted_zext w k x = if nat_lt k (width_of x) then one Zext w 0 (one Lshr (width_of x) k x) else constant w 0

-- x below its sign, shifted with sign: the shift of x below its sign, where at least the sign bit is left
abbrev pub shifted_sext : ℕ → ℕ → Tree → Tree
shifted_sext w k x = one Sext w 0 (one Ashr (width_of x) (min k (width_of x - 1)) x)

-- a shift of an extension: the extension of a shift
unfoldable pub shift_of_extension : Tree → Option Tree
shift_of_extension (one Lshr w k (one Zext m y x)) = Some (shifted_zext w k x)
shift_of_extension (one Ashr w k (one Zext m y x)) = Some (shifted_zext w k x)
shift_of_extension (one Ashr w k (one Sext m y x)) = Some (shifted_sext w k x)
shift_of_extension _ = None

-- a shift by k, where k may be w or more: then 0 is left, or the sign
abbrev pub shifted_far : OneOp → ℕ → ℕ → Tree → Tree
shifted_far Ashr w k x = one Ashr w (min k (w - 1)) x
shifted_far op w k x = if nat_lt k w then one op w k x else constant w 0

-- a shift of a shift: one shift by the sum
unfoldable pub shift_of_shift : Tree → Option Tree
shift_of_shift (one Lshr w k (one Lshr m j x)) = Some (shifted_far Lshr w (j + k) x)
shift_of_shift (one Ashr w k (one Ashr m j x)) = Some (shifted_far Ashr w (j + k) x)
shift_of_shift _ = None

-- an operation at n bits on the low bits of two terms, extended to m bits
abbrev pub extended_operation : OneOp → ℕ → TwoOp → ℕ → Tree → Tree → Tree
extended_operation ext m op n x y = one ext m 0 (low_two op n n x y)

-- an operation in w bits whose number has these known widths, extended to m bits by its sign: in as many
-- bits as hold the number read unsigned where they are fewer than w, else in those that hold it read signed
abbrev pub narrowed : Known → ℕ → ℕ → TwoOp → Tree → Tree → Option Tree
narrowed k w m op x y =
    if nat_lt k.unsigned w then Some (extended_operation Zext m op k.unsigned x y)
    else if nat_lt k.signed w then Some (extended_operation Sext m op k.signed x y)
    else None

-- a product whose number is known to need fewer bits: the product in those, extended
unfoldable pub narrow_product : Tree → Option Tree
narrow_product (two Mul w x y) = narrowed (known (two Mul w x y)) w w Mul x y
narrow_product _ = None

-- an extended sum whose number is known to need fewer bits; under an extension by zeros, without a sign
unfoldable pub narrow_extended_sum : Tree → Option Tree
narrow_extended_sum (one Sext m z (two Add w x y)) = narrowed (known (two Add w x y)) w m Add x y
narrow_extended_sum (one Zext m z (two Add w x y)) =
    let n = (known (two Add w x y)).unsigned in if nat_lt n w then Some (extended_operation Zext m Add n x y) else None
narrow_extended_sum _ = None

-- an extension by the sign of a number that is not negative: by zeros
unfoldable pub sign_of_nonnegative : Tree → Option Tree
sign_of_nonnegative (one Sext w z x) = if nat_lt (known x).unsigned (width_of x) then Some (one Zext w 0 x) else None
sign_of_nonnegative _ = None

-- n bits of h above l
abbrev pub low_of_pair : ℕ → Tree → Tree → Tree
low_of_pair n h l = if nat_le n (width_of l) then low n l else two Cat n (low (n - width_of l) h) l

-- what a shift by k, which is all of l or more, leaves of h above l, in w bits
abbrev pub shifted_pair : ℕ → ℕ → Tree → Tree → Tree
shifted_pair w k h l =
    let rest = k - width_of l in if nat_eq rest 0 then one Zext w 0 h else one Zext w 0 (one Lshr (width_of h) rest h)

-- low bits of a pair, or a shift past its lower part
unfoldable pub part_of_concatenation : Tree → Option Tree
part_of_concatenation (one Trunc n z (two Cat w h l)) = Some (low_of_pair n h l)
part_of_concatenation (one Lshr w k (two Cat m h l)) =
    if nat_le (width_of l) k then Some (shifted_pair w k h l) else None
part_of_concatenation _ = None

-- 0 above l: l extended by zeros
unfoldable pub zero_on_top : Tree → Option Tree
zero_on_top (two Cat w (constant m v) l) = if nat_eq v 0 then Some (one Zext w 0 l) else None
zero_on_top _ = None

-- the table
abbrev pub rows : List (Tree → Option Tree)
rows =
    truncate_truncate ∷ (truncate_extension ∷ (extend_extend ∷ (truncate_operation ∷ (truncate_selection
    ∷ (truncate_arithmetic_shift ∷ (truncate_logical_shift ∷ (shift_by_zero ∷ (shift_of_extension ∷ (shift_of_shift
    ∷ (narrow_product ∷ (narrow_extended_sum ∷ (sign_of_nonnegative ∷ (part_of_concatenation ∷ (zero_on_top ∷ []))))))))))))))

-- what the first row that applies makes of a term
unfoldable pub first_row : Tree → Option Tree
first_row t = first rows t
