-- The rows for widths keep leaves.
use Rattle.std.proofs.Common.{◌≡◌, ℕ, ◌+◌, ◌-◌, refl, Bool, true, false, List, [], ◌∷◌}
use Rattle.std.specs.Prelude.{Option, Some, None, min, nat_eq, nat_le, nat_lt, if◌then◌else◌}
use Rattle.vg_terms.specs.declared.term.OneOp.{OneOp}
use Rattle.vg_terms.specs.declared.term.OneOp.TheVariants.{Zext, Sext, Trunc, Lshr, Ashr}
use Rattle.vg_terms.specs.declared.term.TwoOp.{TwoOp}
use Rattle.vg_terms.specs.declared.term.TwoOp.TheVariants.{Add, Mul, And, Or, Xor, Cat}
use Rattle.vg_terms.specs.declared.known.Known.{Known}
use Rattle.vg_terms.specs.Term.{Tree, constant, one, two, sel, width_of}
use Rattle.vg_terms.specs.Known.{known}
use Rattle.vg_terms.specs.Resize.{low, low_two}
use Rattle.vg_rules_width.specs.Rules as row
use Rattle.vg_rules_width.specs.Rules.{rows, resized, low_of_shift, shifted_zext, shifted_sext, shifted_far, extended_operation, narrowed, low_of_pair, shifted_pair}
use Rattle.vg_canon_laws.proofs.Kept.{LeavesIn, Kept, RowKeeps, AllKeep, leaves-either, kept-either, kept-where, low-in, low_two-in}

truncate_truncate-keeps : RowKeeps row.truncate_truncate
unfolding row.truncate_truncate
truncate_truncate-keeps s (one Trunc n z (one Trunc m y x)) h = low-in s n x h
truncate_truncate-keeps s _ h = tt

resized-in : (s : Tree) (op : OneOp) (n : ℕ) (x : Tree) → LeavesIn s x → LeavesIn s (resized op n x)
resized-in s op n x h = leaves-either s (nat_le n (width_of x)) (low n x) (one op n 0 x) (low-in s n x h) h

truncate_extension-keeps : RowKeeps row.truncate_extension
unfolding row.truncate_extension
truncate_extension-keeps s (one Trunc n z (one Zext m y x)) h = resized-in s Zext n x h
truncate_extension-keeps s (one Trunc n z (one Sext m y x)) h = resized-in s Sext n x h
truncate_extension-keeps s _ h = tt

extend_extend-keeps : RowKeeps row.extend_extend
unfolding row.extend_extend
extend_extend-keeps s (one Zext w z (one Zext m y x)) h = h
extend_extend-keeps s (one Sext w z (one Sext m y x)) h = h
extend_extend-keeps s (one Sext w z (one Zext m y x)) h = h
extend_extend-keeps s _ h = tt

truncate_operation-keeps : RowKeeps row.truncate_operation
unfolding row.truncate_operation
truncate_operation-keeps s (one Trunc n z (two Add m x y)) h = low_two-in s Add n n x y h.0 h.1
truncate_operation-keeps s (one Trunc n z (two Mul m x y)) h = low_two-in s Mul n n x y h.0 h.1
truncate_operation-keeps s (one Trunc n z (two And m x y)) h = low_two-in s And n n x y h.0 h.1
truncate_operation-keeps s (one Trunc n z (two Or m x y)) h = low_two-in s Or n n x y h.0 h.1
truncate_operation-keeps s (one Trunc n z (two Xor m x y)) h = low_two-in s Xor n n x y h.0 h.1
truncate_operation-keeps s _ h = tt

truncate_selection-keeps : RowKeeps row.truncate_selection
unfolding row.truncate_selection
truncate_selection-keeps s (one Trunc n z (sel m c x y)) h = (h.0, low-in s n x h.1, low-in s n y h.2)
truncate_selection-keeps s _ h = tt

truncate_arithmetic_shift-keeps : RowKeeps row.truncate_arithmetic_shift
unfolding row.truncate_arithmetic_shift
truncate_arithmetic_shift-keeps s (one Trunc n z (one Ashr m k x)) h = kept-where s (nat_le (n + k) m) (one Trunc n 0 (one Lshr m k x)) h
truncate_arithmetic_shift-keeps s _ h = tt

truncate_logical_shift-keeps : RowKeeps row.truncate_logical_shift
unfolding row.truncate_logical_shift
truncate_logical_shift-keeps s (one Trunc n z (one Lshr m k x)) h =
    kept-where s (nat_lt (n + k) m) (low_of_shift n k x) (low-in s n (one Lshr (n + k) k (low (n + k) x)) (low-in s (n + k) x h))
truncate_logical_shift-keeps s _ h = tt

shift_by_zero-keeps : RowKeeps row.shift_by_zero
unfolding row.shift_by_zero
shift_by_zero-keeps s (one Lshr w k x) h = kept-where s (nat_eq k 0) x h
shift_by_zero-keeps s (one Ashr w k x) h = kept-where s (nat_eq k 0) x h
shift_by_zero-keeps s _ h = tt

shifted_zext-in : (s : Tree) (w k : ℕ) (x : Tree) → LeavesIn s x → LeavesIn s (shifted_zext w k x)
shifted_zext-in s w k x h = leaves-either s (nat_lt k (width_of x)) (one Zext w 0 (one Lshr (width_of x) k x)) (constant w 0) h tt

shift_of_extension-keeps : RowKeeps row.shift_of_extension
unfolding row.shift_of_extension
shift_of_extension-keeps s (one Lshr w k (one Zext m y x)) h = shifted_zext-in s w k x h
shift_of_extension-keeps s (one Ashr w k (one Zext m y x)) h = shifted_zext-in s w k x h
shift_of_extension-keeps s (one Ashr w k (one Sext m y x)) h = h
shift_of_extension-keeps s _ h = tt

shift_of_shift-keeps : RowKeeps row.shift_of_shift
unfolding row.shift_of_shift
shift_of_shift-keeps s (one Lshr w k (one Lshr m j x)) h = leaves-either s (nat_lt (j + k) w) (one Lshr w (j + k) x) (constant w 0) h tt
shift_of_shift-keeps s (one Ashr w k (one Ashr m j x)) h = h
shift_of_shift-keeps s _ h = tt

narrowed-in : (s : Tree) (k : Known) (w m : ℕ) (op : TwoOp) (x y : Tree) → LeavesIn s x → LeavesIn s y → Kept s (narrowed k w m op x y)
narrowed-in s k w m op x y h l =
    kept-either s (nat_lt k.unsigned w) (Some (extended_operation Zext m op k.unsigned x y)) (if nat_lt k.signed w then Some (extended_operation Sext m op k.signed x y) else None)
    (low_two-in s op k.unsigned k.unsigned x y h l) (kept-where s (nat_lt k.signed w) (extended_operation Sext m op k.signed x y) (low_two-in s op k.signed k.signed x y h l))

narrow_product-keeps : RowKeeps row.narrow_product
unfolding row.narrow_product
narrow_product-keeps s (two Mul w x y) h = narrowed-in s (known (two Mul w x y)) w w Mul x y h.0 h.1
narrow_product-keeps s _ h = tt

narrow_extended_sum-keeps : RowKeeps row.narrow_extended_sum
unfolding row.narrow_extended_sum
narrow_extended_sum-keeps s (one Sext m z (two Add w x y)) h = narrowed-in s (known (two Add w x y)) w m Add x y h.0 h.1
narrow_extended_sum-keeps s (one Zext m z (two Add w x y)) h =
    let n = (known (two Add w x y)).unsigned in
    kept-where s (nat_lt n w) (extended_operation Zext m Add n x y) (low_two-in s Add n n x y h.0 h.1)
narrow_extended_sum-keeps s _ h = tt

sign_of_nonnegative-keeps : RowKeeps row.sign_of_nonnegative
unfolding row.sign_of_nonnegative
sign_of_nonnegative-keeps s (one Sext w z x) h = kept-where s (nat_lt (known x).unsigned (width_of x)) (one Zext w 0 x) h
sign_of_nonnegative-keeps s _ h = tt

low_of_pair-in : (s : Tree) (n : ℕ) (x y : Tree) → LeavesIn s x → LeavesIn s y → LeavesIn s (low_of_pair n x y)
low_of_pair-in s n x y h l =
    leaves-either s (nat_le n (width_of y)) (low n y) (two Cat n (low (n - width_of y) x) y) (low-in s n y l) (low-in s (n - width_of y) x h, l)

shifted_pair-in : (s : Tree) (w k : ℕ) (x y : Tree) → LeavesIn s x → LeavesIn s (shifted_pair w k x y)
shifted_pair-in s w k x y h =
    let rest = k - width_of y in
    leaves-either s (nat_eq rest 0) (one Zext w 0 x) (one Zext w 0 (one Lshr (width_of x) rest x)) h h

part_of_concatenation-keeps : RowKeeps row.part_of_concatenation
unfolding row.part_of_concatenation
part_of_concatenation-keeps s (one Trunc n z (two Cat w x y)) h = low_of_pair-in s n x y h.0 h.1
part_of_concatenation-keeps s (one Lshr w k (two Cat m x y)) h =
    kept-where s (nat_le (width_of y) k) (shifted_pair w k x y) (shifted_pair-in s w k x y h.0)
part_of_concatenation-keeps s _ h = tt

zero_on_top-keeps : RowKeeps row.zero_on_top
unfolding row.zero_on_top
zero_on_top-keeps s (two Cat w (constant m v) y) h = kept-where s (nat_eq v 0) (one Zext w 0 y) h.1
zero_on_top-keeps s _ h = tt

pub width_rows-keep : AllKeep rows
width_rows-keep = (
  truncate_truncate-keeps,
  (
    truncate_extension-keeps,
    (
      extend_extend-keeps,
      (
        truncate_operation-keeps,
        (
          truncate_selection-keeps,
          (
            truncate_arithmetic_shift-keeps,
            (
              truncate_logical_shift-keeps,
              (
                shift_by_zero-keeps,
                (
                  shift_of_extension-keeps,
                  (
                    shift_of_shift-keeps,
                    (
                      narrow_product-keeps,
                      (narrow_extended_sum-keeps, (sign_of_nonnegative-keeps, (part_of_concatenation-keeps, (zero_on_top-keeps, tt)))),
                    ),
                  ),
                ),
              ),
            ),
          ),
        ),
      ),
    ),
  ),
)
