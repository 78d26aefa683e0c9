-- The rows of the table of sums: what each makes of a term to which it applies, and the first that applies.
use Rattle.std.specs.Prelude.{List, [], ◌∷◌, Option, Some, None, ◌&&◌, if◌then◌else◌}
use Rattle.vg_terms.specs.declared.term.TwoOp.TheVariants.{Eq}
use Rattle.vg_terms.specs.Chain.{makes_chains, same_op, parts, sorted, chain_of, is_disordered}
use Rattle.vg_terms.specs.Order.{is_same_term}
use Rattle.vg_terms.specs.Table.{first}
use Rattle.vg_terms.specs.Term.{Tree, constant, two}
use Rattle.vg_terms.specs.Root.{is_constant}
use Rattle.vg_rules_sum.specs.Constant.{is_over_constants, folded, is_neutral, is_absorbing, is_known_twice, twice}

-- a term over constants alone: its value
unfoldable pub fold_constants : Tree → Option Tree
fold_constants t = if is_over_constants t then Some (folded t) else None

-- an equality turned round; a chain nested to the left, over its parts in rising order
abbrev pub put_in_order : Tree → Tree
put_in_order (two Eq w x y) = two Eq w y x
put_in_order (two op w x y) = chain_of op w (sorted (parts op (two op w x y)))
put_in_order t = t

-- a chain whose parts do not rise, or an equality of a term and a lesser one: put in order
unfoldable pub sort_chain : Tree → Option Tree
sort_chain t = if is_disordered t then Some (put_in_order t) else None

-- a constant after another in one chain: one constant, the operation on the two
unfoldable pub merge_constants : Tree → Option Tree
merge_constants (two op w (two o v x c) d) =
    if makes_chains op
    && (same_op op o && (is_constant c && is_constant d)) then Some (two op w x (folded (two op w c d))) else None
merge_constants _ = None

-- after a term, a neutral constant leaves the term, and one that absorbs leaves itself
unfoldable pub neutral_or_absorbing : Tree → Option Tree
neutral_or_absorbing (two op w x (constant n v)) =
    if is_neutral op w v then Some x
    else if is_absorbing op w v then Some (constant n v)
    else None
neutral_or_absorbing _ = None

-- one term twice: the term itself, or 0 under Xor
unfoldable pub same_operands : Tree → Option Tree
same_operands (two op w x y) = if is_known_twice op && is_same_term x y then Some (twice op w x) else None
same_operands _ = None

-- the table
abbrev pub rows : List (Tree → Option Tree)
rows = fold_constants ∷ (sort_chain ∷ (merge_constants ∷ (neutral_or_absorbing ∷ (same_operands ∷ []))))

-- what the first row that applies makes of a term
abbrev pub first_row : Tree → Option Tree
first_row t = first rows t
