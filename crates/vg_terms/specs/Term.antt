-- A term as a tree, its width, and when it is well-formed.
use Rattle.std.specs.Prelude.{◌≡◌, ℕ, ◌+◌, ◌^◌, ◌<◌, ◌≤◌, Bool, nat_eq, nat_le, nat_lt, ◌&&◌}
use Rattle.vg_terms.specs.declared.term.LeafKey.{LeafKey}
use Rattle.vg_terms.specs.declared.term.OneOp.{OneOp}
use Rattle.vg_terms.specs.declared.term.OneOp.TheVariants.{Zext, Sext, Trunc, Lshr, Ashr}
use Rattle.vg_terms.specs.declared.term.TwoOp.{TwoOp}
use Rattle.vg_terms.specs.declared.term.TwoOp.TheVariants.{Eq, Slt, Ult, Cat}
use Rattle.vg_terms.specs.declared.term.Term.{Term}
use Rattle.vg_terms.specs.declared.term.Term.TheVariants.{Leaf, Const, One', Two', Sel'}

-- an operation has its width first; `one` has the amount of a shift, else 0, before its child
pub data Tree : Type 0 where
  leaf : ℕ → LeafKey → Tree
  constant : ℕ → ℕ → Tree
  one : OneOp → ℕ → ℕ → Tree → Tree
  two : TwoOp → ℕ → Tree → Tree → Tree
  sel : ℕ → Tree → Tree → Tree → Tree

-- a term without the places of its parts in memory
abbrev pub tree : Term → Tree
tree (Leaf w k) = leaf w k
tree (Const w v) = constant w v
tree (One' op w k p x) = one op w k (tree x)
tree (Two' op w p x q y) = two op w (tree x) (tree y)
tree (Sel' w p c q x r y) = sel w (tree c) (tree x) (tree y)

abbrev pub width_of : Tree → ℕ
width_of (leaf w k) = w
width_of (constant w v) = w
width_of (one op w k x) = w
width_of (two op w x y) = w
width_of (sel w c x y) = w

-- the number of nodes, shared ones counted each time
abbrev pub node_count : Tree → ℕ
node_count (leaf w k) = 1
node_count (constant w v) = 1
node_count (one op w k x) = 1 + node_count x
node_count (two op w x y) = 1 + node_count x + node_count y
node_count (sel w c x y) = 1 + node_count c + node_count x + node_count y

abbrev pub IsWidth : ℕ → Type 0
IsWidth w = (0 < w) × (w ≤ 128)

-- the width w and the amount k of an operation on a term of width m
abbrev pub OneFits : OneOp → ℕ → ℕ → ℕ → Type 0
OneFits Zext w k m = (m < w) × (k ≡ 0)
OneFits Sext w k m = (m < w) × (k ≡ 0)
OneFits Trunc w k m = (w < m) × (k ≡ 0)
OneFits Lshr w k m = (m ≡ w) × (k < w)
OneFits Ashr w k m = (m ≡ w) × (k < w)

-- the width w of an operation on terms of widths m and n
abbrev pub TwoFits : TwoOp → ℕ → ℕ → ℕ → Type 0
TwoFits Eq w m n = (w ≡ 1) × (m ≡ n)
TwoFits Slt w m n = (w ≡ 1) × (m ≡ n)
TwoFits Ult w m n = (w ≡ 1) × (m ≡ n)
TwoFits Cat w m n = w ≡ m + n
TwoFits _ w m n = (m ≡ w) × (n ≡ w)

-- a term and all its subterms keep the widths and bounds of their operations
abbrev pub WellFormed : Tree → Type 0
WellFormed (leaf w k) = IsWidth w
WellFormed (constant w v) = IsWidth w × (v < 2 ^ w)
WellFormed (one op w k x) = IsWidth w × OneFits op w k (width_of x) × WellFormed x
WellFormed (two op w x y) = IsWidth w × TwoFits op w (width_of x) (width_of y) × WellFormed x × WellFormed y
WellFormed (sel w c x y) =
    IsWidth w × ((width_of c ≡ 1) × (width_of x ≡ w) × (width_of y ≡ w)) × WellFormed c × WellFormed x × WellFormed y

-- the same as a test
abbrev pub is_width : ℕ → Bool
is_width w = nat_lt 0 w && nat_le w 128

abbrev pub one_fits : OneOp → ℕ → ℕ → ℕ → Bool
one_fits Zext w k m = nat_lt m w && nat_eq k 0
one_fits Sext w k m = nat_lt m w && nat_eq k 0
one_fits Trunc w k m = nat_lt w m && nat_eq k 0
one_fits Lshr w k m = nat_eq m w && nat_lt k w
one_fits Ashr w k m = nat_eq m w && nat_lt k w

abbrev pub two_fits : TwoOp → ℕ → ℕ → ℕ → Bool
two_fits Eq w m n = nat_eq w 1 && nat_eq m n
two_fits Slt w m n = nat_eq w 1 && nat_eq m n
two_fits Ult w m n = nat_eq w 1 && nat_eq m n
two_fits Cat w m n = nat_eq w (m + n)
two_fits _ w m n = nat_eq m w && nat_eq n w

abbrev pub sel_fits : ℕ → ℕ → ℕ → ℕ → Bool
sel_fits w c m n = nat_eq c 1 && (nat_eq m w && nat_eq n w)

abbrev pub well_formed : Tree → Bool
well_formed (leaf w k) = is_width w
well_formed (constant w v) = is_width w && nat_lt v (2 ^ w)
well_formed (one op w k x) = is_width w && (one_fits op w k (width_of x) && well_formed x)
well_formed (two op w x y) = is_width w && (two_fits op w (width_of x) (width_of y) && (well_formed x && well_formed y))
well_formed (sel w c x y) =
    is_width w
    && (sel_fits w (width_of c) (width_of x) (width_of y) && (well_formed c && (well_formed x && well_formed y)))
