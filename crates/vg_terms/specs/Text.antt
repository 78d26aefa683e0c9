-- The text of a term.
use Rattle.std.specs.Prelude.{ℕ, ℤ, pos, negsuc, ◌+◌, List, [], ◌++◌, nat_eq, if◌then◌else◌, slice_index_or, codes}
use Rattle.std.specs.Fmt.{decimal, signed_decimal}
use Rattle.vg_terms.specs.declared.term.LeafKey.{LeafKey}
use Rattle.vg_terms.specs.declared.term.OneOp.{OneOp}
use Rattle.vg_terms.specs.declared.term.OneOp.TheVariants.{Zext, Sext, Trunc, Lshr, Ashr}
use Rattle.vg_terms.specs.declared.term.TwoOp.{TwoOp}
use Rattle.vg_terms.specs.declared.term.TwoOp.TheVariants.{Add, Mul, And, Or, Xor, Smin, Smax, Umin, Umax, Eq, Slt, Ult, Cat}
use Rattle.vg_terms.specs.declared.text.Names.{Names}
use Rattle.vg_terms.specs.Term.{Tree, leaf, constant, one, two, sel, width_of}

abbrev pub one_name : OneOp → List ℕ
one_name Zext = codes "zext"
one_name Sext = codes "sext"
one_name Trunc = codes "trunc"
one_name Lshr = codes "lshr"
one_name Ashr = codes "ashr"

abbrev pub two_name : TwoOp → List ℕ
two_name Add = codes "add"
two_name Mul = codes "mul"
two_name And = codes "and"
two_name Or = codes "or"
two_name Xor = codes "xor"
two_name Smin = codes "smin"
two_name Smax = codes "smax"
two_name Umin = codes "umin"
two_name Umax = codes "umax"
two_name Eq = codes "eq"
two_name Slt = codes "slt"
two_name Ult = codes "ult"
two_name Cat = codes "cat"

-- the width that is shown: a comparison shows that of its children
abbrev pub shown_width : TwoOp → ℕ → ℕ → ℕ
shown_width Eq w m = m
shown_width Slt w m = m
shown_width Ult w m = m
shown_width _ w m = w

-- a shift shows its amount after its child
abbrev pub amount_text : OneOp → ℕ → List ℕ
amount_text Lshr k = codes " " ++ decimal k
amount_text Ashr k = codes " " ++ decimal k
amount_text _ k = []

-- an offset in bytes, with its sign
abbrev pub offset_text : ℤ → List ℕ
offset_text (pos n) = codes "+" ++ decimal n
offset_text (negsuc n) = codes "-" ++ decimal (n + 1)

-- the name with this number, or nothing where there is none
abbrev pub name_at : List (List ℕ) → ℕ → List ℕ
name_at names n = slice_index_or names n []

-- bits of a parameter, a load, an argument, or a value that was cut off
abbrev pub leaf_text : Names → LeafKey → List ℕ
leaf_text names k =
    if nat_eq k.kind 0 then name_at names.params k.first ++ codes "." ++ signed_decimal k.second
    else if nat_eq k.kind 1 then name_at names.pointers k.first ++ offset_text k.second ++ codes "@" ++ decimal k.third
    else if nat_eq k.kind 2 then name_at names.arguments k.first
    else codes "#" ++ decimal k.first

abbrev pub text : Names → Tree → List ℕ
text names (leaf w k) = leaf_text names k ++ codes ":" ++ decimal w
text names (constant w v) = decimal v ++ codes ":" ++ decimal w
text names (one op w k x) =
    codes "(" ++ one_name op ++ decimal w ++ codes " " ++ text names x ++ amount_text op k ++ codes ")"
text names (two op w x y) =
    codes "(" ++ two_name op ++ decimal (shown_width op w (width_of x)) ++ codes " " ++ text names x ++ codes " " ++ text names y ++ codes ")"
text names (sel w c x y) =
    codes "(sel" ++ decimal w ++ codes " " ++ text names c ++ codes " " ++ text names x ++ codes " " ++ text names y ++ codes ")"
