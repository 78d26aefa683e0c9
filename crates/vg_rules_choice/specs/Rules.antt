-- The rows of the table of choices: what each makes of a term to which it applies, and the first that applies.
use Rattle.std.specs.Prelude.{ℕ, Bool, true, false, ◌&&◌, List, [], ◌∷◌, Option, Some, None, max, nat_eq, nat_le, nat_lt, if◌then◌else◌}
use Rattle.vg_terms.specs.declared.term.OneOp.{OneOp}
use Rattle.vg_terms.specs.declared.term.OneOp.TheVariants.{Zext, Sext}
use Rattle.vg_terms.specs.declared.term.TwoOp.{TwoOp}
use Rattle.vg_terms.specs.declared.term.TwoOp.TheVariants.{Xor, Smin, Smax, Umin, Umax, Eq, Slt, Ult}
use Rattle.vg_terms.specs.declared.known.Known.{Known}
use Rattle.vg_terms.specs.Known.{known, known_at}
use Rattle.vg_terms.specs.Order.{is_same_term}
use Rattle.vg_terms.specs.Resize.{low_two}
use Rattle.vg_terms.specs.Table.{first}
use Rattle.vg_terms.specs.Term.{Tree, constant, one, two, sel, width_of}
use Rattle.vg_terms.specs.Value.{one_value}

-- what a condition that is a constant selects
abbrev pub selected : Tree → Tree → Tree → Option Tree
selected (constant n v) x y = Some (if nat_eq v 1 then x else y)
selected _ x y = None

-- a selection of one term twice, or by a constant: the term that it selects
unfoldable pub known_selection : Tree → Option Tree
known_selection (sel w c x y) = if is_same_term x y then Some x else selected c x y
known_selection _ = None

-- a selection by the opposite of a condition: by the condition, between the terms exchanged
unfoldable pub negated_selection : Tree → Option Tree
negated_selection (sel w (two Xor m c (constant n v)) x y) = if nat_eq v 1 then Some (sel w c y x) else None
negated_selection _ = None

-- p, of fewer than w bits, extended to w by zeros or by the sign, where ext is Zext or Sext; what is
-- extended so already is extended further, and by zeros if it was
abbrev pub extended : OneOp → ℕ → Tree → Tree
extended ext w (constant n v) = constant w (one_value ext w 0 n v)
extended ext w (one Zext n k x) = one Zext w 0 x
extended Sext w (one Sext n k x) = one Sext w 0 x
extended ext w p = one ext w 0 p

-- the same, where p may have w bits
abbrev pub stretch : OneOp → ℕ → Tree → Tree
stretch ext w p = if nat_eq (width_of p) w then p else extended ext w p

-- p as a term of w bits, as it stands
abbrev pub widened : OneOp → ℕ → Tree → Tree
widened ext w p = if nat_eq (width_of p) w then p else one ext w 0 p

abbrev pub is_order : TwoOp → Bool
is_order Slt = true
is_order Ult = true
is_order _ = false

-- the extension that keeps the order of the sides, and the lesser and the greater side
abbrev pub extension_under : TwoOp → OneOp
extension_under Slt = Sext
extension_under _ = Zext

abbrev pub lesser_under : TwoOp → TwoOp
lesser_under Slt = Smin
lesser_under _ = Umin

abbrev pub greater_under : TwoOp → TwoOp
greater_under Slt = Smax
greater_under _ = Umax

-- a and b are the stretches of p and q
abbrev pub are_stretches : OneOp → ℕ → Tree → Tree → Tree → Tree → Bool
are_stretches ext w p q a b = is_same_term a (stretch ext w p) && is_same_term b (stretch ext w q)

-- a where p is less than q, else b: the lesser or the greater of p and q, where a and b are these
abbrev pub chosen : TwoOp → ℕ → Tree → Tree → Tree → Tree → Option Tree
chosen order w p q a b =
    let ext = extension_under order in
    if are_stretches ext w p q a b then Some (widened ext w (two (lesser_under order) (width_of p) p q))
    else if are_stretches ext w q p a b then Some (widened ext w (two (greater_under order) (width_of p) p q))
    else None

-- a selection between the sides of its comparison: the lesser or the greater of them
unfoldable pub selection_is_least_or_greatest : Tree → Option Tree
selection_is_least_or_greatest (sel w (two op m p q) a b) =
    if is_order op && nat_le (width_of p) w then chosen op w p q a b else None
selection_is_least_or_greatest _ = None

-- widths that hold the numbers of both terms
abbrev pub both_known : Tree → Tree → Known
both_known x y = known_at (max (known x).unsigned (known y).unsigned) (max (known x).signed (known y).signed)

abbrev pub is_choice : TwoOp → Bool
is_choice Smin = true
is_choice Smax = true
is_choice Umin = true
is_choice Umax = true
is_choice _ = false

abbrev pub is_comparison : TwoOp → Bool
is_comparison Eq = true
is_comparison Slt = true
is_comparison Ult = true
is_comparison _ = false

-- the operation on numbers that are not negative
abbrev pub read_unsigned : TwoOp → TwoOp
read_unsigned Smin = Umin
read_unsigned Smax = Umax
read_unsigned Slt = Ult
read_unsigned op = op

-- it may be done on numbers read signed: it reads them so, or only tells them apart
abbrev pub may_read_signed : TwoOp → Bool
may_read_signed Umin = false
may_read_signed Umax = false
may_read_signed Ult = false
may_read_signed _ = true

-- a least or greatest in w bits: that in the bits that hold both numbers read unsigned, extended by
-- zeros, or in those that hold both read signed, extended by the sign
abbrev pub narrowed_choice : TwoOp → ℕ → Known → Tree → Tree → Option Tree
narrowed_choice op w k x y =
    if nat_lt k.unsigned w then Some (one Zext w 0 (low_two (read_unsigned op) k.unsigned k.unsigned x y))
    else if may_read_signed op && nat_lt k.signed w then Some (one Sext w 0 (low_two op k.signed k.signed x y))
    else None

-- a least or greatest in more bits than hold both numbers: that in those bits, extended
unfoldable pub narrow_least_or_greatest : Tree → Option Tree
narrow_least_or_greatest (two op w x y) = if is_choice op then narrowed_choice op w (both_known x y) x y else None
narrow_least_or_greatest _ = None

-- a comparison in w bits: that in the bits that hold both numbers read unsigned, or read signed
abbrev pub narrowed_comparison : TwoOp → ℕ → Known → Tree → Tree → Option Tree
narrowed_comparison op w k x y =
    if nat_lt k.unsigned w then Some (low_two (read_unsigned op) 1 k.unsigned x y)
    else if may_read_signed op && nat_lt k.signed w then Some (low_two op 1 k.signed x y)
    else None

-- a comparison in more bits than hold both numbers: that in those bits
unfoldable pub narrow_comparison : Tree → Option Tree
narrow_comparison (two op v x y) =
    if is_comparison op then narrowed_comparison op (width_of x) (both_known x y) x y else None
narrow_comparison _ = None

-- the table
abbrev pub rows : List (Tree → Option Tree)
rows =
    known_selection ∷ (negated_selection ∷ (selection_is_least_or_greatest ∷ (narrow_least_or_greatest ∷ (narrow_comparison ∷ []))))

-- what the first row that applies makes of a term
abbrev pub first_row : Tree → Option Tree
first_row t = first rows t
