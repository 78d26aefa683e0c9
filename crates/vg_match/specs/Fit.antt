-- When the term of a lane fits the term of a value, as it is tried: from left to right, with what the
-- leaves so far are bound to.
use Rattle.std.specs.Prelude.{ℕ, Bool, false, ◌&&◌, List, [], ◌∷◌, ◌++◌, Option, Some, None, nat_eq, nat_lt, if◌then◌else◌}
use Rattle.std.specs.Option.{option_and_then}
use Rattle.vg_base.specs.Trap.{◌>>=◌}
use Rattle.vg_terms.specs.declared.term.LeafKey.{LeafKey}
use Rattle.vg_terms.specs.Order.{is_same_term, one_tag, two_tag}
use Rattle.vg_terms.specs.Term.{Tree, leaf, constant, one, two, sel, width_of}
use Rattle.vg_shapes.specs.declared.match_table.Bound.{Bound}
use Rattle.vg_shapes.specs.declared.wanted.Wanted.{Wanted}
use Rattle.vg_shapes.specs.declared.wanted.Wanted.TheVariants.{Value, Constant, Nothing}
use Rattle.vg_shapes.specs.Fits.{turned, wanted_for}
use Rattle.vg_shapes.specs.Wanted.{same_wanted}
use Rattle.vg_match.specs.Least.{least_with}

-- a value where it is below another, else nothing
abbrev pub value_below : ℕ → Option ℕ → Wanted
value_below v None = Nothing
value_below v (Some u) = if nat_lt u v then Value u else Nothing

-- what stands for a term below a value, if anything does
abbrev pub standing : List Tree → ℕ → Tree → Wanted
standing terms v (constant w n) = Constant w n
standing terms v (leaf w k) = value_below v (least_with terms (leaf w k))
standing terms v (one op w k x) = value_below v (least_with terms (one op w k x))
standing terms v (two op w x y) = value_below v (least_with terms (two op w x y))
standing terms v (sel w c x y) = value_below v (least_with terms (sel w c x y))

-- A leaf is bound to this after what is bound so far; it may stand there already with the same.
unfoldable pub bind : ℕ → LeafKey → Wanted → List Bound → Option (List Bound)
bind w k x bound =
    if same_wanted x Nothing then None
    else if same_wanted (wanted_for bound w k) Nothing
    then Some (bound ++ record { key = k; width = w; wanted = x } ∷ [])
    else if same_wanted (wanted_for bound w k) x then Some bound else None

-- whether two terms have one operation at their roots, at one width and by as many places; a leaf and a
-- constant have none
unfoldable pub same_root : Tree → Tree → Bool
same_root (one op w k x) (one o u j y) = nat_eq (one_tag op) (one_tag o) && (nat_eq w u && nat_eq k j)
same_root (two op w x y) (two o u p q) = nat_eq (two_tag op) (two_tag o) && nat_eq w u
same_root (sel w c x y) (sel u d p q) = nat_eq w u
same_root _ _ = false

-- the term of a lane against that of a value
unfoldable pub fit : List Tree → ℕ → Tree → Tree → List Bound → Option (List Bound)
fit terms v (leaf w k) t bound =
    if nat_eq (width_of t) w then bind w k (standing terms v t) bound else None
fit terms v (constant w n) t bound = if is_same_term (constant w n) t then Some bound else None
fit terms v (one op w k x) (one o u j y) bound =
    if nat_eq (one_tag op) (one_tag o) && (nat_eq w u && nat_eq k j) then fit terms v x y bound
    else None
fit terms v (two op w x y) (two o u p q) bound =
    if nat_eq (two_tag op) (two_tag o) && nat_eq w u
    then option_and_then (fit terms v y q) (fit terms v x p bound) else None
fit terms v (sel w c x y) (sel u d p q) bound =
    if nat_eq w u
    then option_and_then (λ more. option_and_then (fit terms v y q) (fit terms v x p more))
    (fit terms v c d bound) else None
fit terms v (one op w k x) t bound = None
fit terms v (two op w x y) t bound = None
fit terms v (sel w c x y) t bound = None

-- The term of a lane, an operation on two terms, against that of a value with the operands at its root
-- exchanged.
unfoldable pub fit_turned : List Tree → ℕ → Tree → Tree → List Bound → Option (List Bound)
fit_turned names v (two op w x y) t bound = turned t >>= λ u. fit names v (two op w x y) u bound
fit_turned names v _ t bound = None
