-- That descriptions are those of entries can be known in one way alone, so that a library keeps it.
use Rattle.std.specs.Prelude.{◌≡◌, ℕ, ◌+◌, ◌≤◌, pos, List, [], ◌∷◌, get_or, Option, Some, None}
use Rattle.std.specs.Coded.{Coded, Coded-set, code_by, codes}
use Rattle.std.specs.List.{AllByRecursion-prop}
use Rattle.std.proofs.Common.{sym, ap, ◌∙◌, refl, Box, Global}
use Rattle.std.proofs.Props.{props}
use mathlib.Core.HLevel.{Σ_prop_path}
use denote.RawPtr.{null_ptr}
use Rattle.vg_bits.specs.BitList.{IsBits}
use Rattle.vg_catalog.specs.Called.{called_by, headers_of}
use Rattle.vg_catalog.specs.Entries.{Entry}
use Rattle.vg_pseudo.specs.declared.header.Header.{Header}
use Rattle.vg_pseudo.specs.declared.header.ImmRange.{ImmRange}
use Rattle.vg_terms.specs.declared.term.LeafKey.{LeafKey}
use Rattle.vg_terms.specs.declared.term.OneOp.{OneOp}
use Rattle.vg_terms.specs.declared.term.OneOp.TheVariants.{Zext, Sext, Trunc, Lshr, Ashr}
use Rattle.vg_terms.specs.declared.term.TwoOp.{TwoOp}
use Rattle.vg_terms.specs.declared.term.TwoOp.TheVariants.{Add, Mul, And, Or, Xor, Smin, Smax, Umin, Umax, Eq, Slt, Ult, Cat}
use Rattle.vg_terms.specs.declared.term.Term.{Term}
use Rattle.vg_terms.specs.declared.term.Term.TheVariants.{Leaf, Const, One', Two', Sel'}
use Rattle.vg_terms.specs.declared.value.Env.{Env}
use Rattle.vg_terms.specs.contracts.term.Term.{the_row}
use Rattle.vg_terms.specs.Term.{Tree, leaf, constant, one, two, sel, tree, width_of, OneFits, TwoFits, WellFormed}
use Rattle.vg_shapes.specs.Description.{Description, IsLane, IsPackable}
use Rattle.vg_shapes.specs.Registers.{bits_key, LeavesInside}
use Rattle.vg_program.specs.Meaning.{Instructions}
use Rattle.vg_program.specs.Valid.{IsImm}
use Rattle.vg_emission.specs.Fit.{HasHeader, IsCalled}
use Rattle.vg_emission.specs.Truth.{Answers, IsCallable, IsTrueOf, LanesMean}
use Rattle.vg_descriptions.specs.Descriptions.{AreOf, IsOf}

-- ---- terms

-- a box that stands nowhere
nowhere : Box (Unit {0}) Global
nowhere = record { ptr = null_ptr; alloc = record { memory = record { seal = tt } }; value = tt }

-- a term whose parts stand nowhere in memory
placed : Tree → Term
placed (leaf w k) = Leaf w k
placed (constant w v) = Const w v
placed (one op w k x) = One' op w k nowhere (placed x)
placed (two op w x y) = Two' op w nowhere (placed x) nowhere (placed y)
placed (sel w c x y) = Sel' w nowhere (placed c) nowhere (placed x) nowhere (placed y)

same-placed : (t : Tree) → tree (placed t) ≡ t
unfolding placed
same-placed (leaf w k) = refl
same-placed (constant w v) = refl
same-placed (one op w k x) = λ i. one op w k (same-placed x i)
same-placed (two op w x y) = λ i. two op w (same-placed x i) (same-placed y i)
same-placed (sel w c x y) = λ i. sel w (same-placed c i) (same-placed x i) (same-placed y i)

tree-code : Coded Tree
tree-code = code_by Term the_row.coded placed tree same-placed

one-fits-once : (op : OneOp) (w k m : ℕ) → IsProp (OneFits op w k m)
one-fits-once Zext w k m = hlevel props
one-fits-once Sext w k m = hlevel props
one-fits-once Trunc w k m = hlevel props
one-fits-once Lshr w k m = hlevel props
one-fits-once Ashr w k m = hlevel props

two-fits-once : (op : TwoOp) (w m n : ℕ) → IsProp (TwoFits op w m n)
two-fits-once Add w m n = hlevel props
two-fits-once Mul w m n = hlevel props
two-fits-once And w m n = hlevel props
two-fits-once Or w m n = hlevel props
two-fits-once Xor w m n = hlevel props
two-fits-once Smin w m n = hlevel props
two-fits-once Smax w m n = hlevel props
two-fits-once Umin w m n = hlevel props
two-fits-once Umax w m n = hlevel props
two-fits-once Eq w m n = hlevel props
two-fits-once Slt w m n = hlevel props
two-fits-once Ult w m n = hlevel props
two-fits-once Cat w m n = hlevel props

formed-once : (t : Tree) → IsProp (WellFormed t)
formed-once (leaf w k) = hlevel props
formed-once (constant w v) = hlevel props
formed-once (one op w k x) = hlevel (props, one-fits-once op w k (width_of x), formed-once x)
formed-once (two op w x y) = hlevel (props, two-fits-once op w (width_of x) (width_of y), formed-once x, formed-once y)
formed-once (sel w c x y) = hlevel (props, formed-once c, formed-once x, formed-once y)

-- ---- leaves: the key of a leaf gives its parameter and its lowest bit

key-once : (k : LeafKey) (p l : ℕ) → IsProp (k ≡ bits_key p l)
key-once k p l = hlevel props

same-low : (p l m : ℕ) → bits_key p l ≡ bits_key p m → l ≡ m
same-low p l m e = let f : pos l ≡ pos m = ap (λ k. k.second) e in cc

leaf-once : (ws : List ℕ) (w : ℕ) (k : LeafKey) → IsProp ((p : ℕ) × ((l : ℕ) × ((k ≡ bits_key p l) × (l + w ≤ get_or ws p 0))))
leaf-once ws w k x y =
    Σ_prop_path
    (λ p u v. Σ_prop_path (λ l. hlevel (props, key-once k p l)) (same-low p u.0 v.0 (sym u.1.0 ∙ v.1.0)))
    (ap (λ j. j.first) (sym x.1.1.0 ∙ y.1.1.0))

inside-once : (ws : List ℕ) (t : Tree) → IsProp (LeavesInside ws t)
inside-once ws (leaf w k) =
    (λ x y. ap (λ z. (z.0, z.1.0, z.1.1.0, z.1.1.1)) (leaf-once ws w k (x.0, (x.1, (x.2, x.3))) (y.0, (y.1, (y.2, y.3)))))
inside-once ws (constant w v) = hlevel props
inside-once ws (one op w k x) = inside-once ws x
inside-once ws (two op w x y) = hlevel (props, inside-once ws x, inside-once ws y)
inside-once ws (sel w c x y) = hlevel (props, inside-once ws c, inside-once ws x, inside-once ws y)

-- ---- descriptions

lane-once : (ws : List ℕ) (w : ℕ) (t : Tree) → IsProp (IsLane ws w t)
lane-once ws w t = hlevel (props, formed-once t, inside-once ws t)

packable-once : (d : Description) → IsProp (IsPackable d)
packable-once d = hlevel (props, lane-once)

callable-once : (d : Description) → IsProp (IsCallable d)
callable-once d = hlevel (props, packable-once d)

bits-once : (bs : List ℕ) → IsProp (IsBits bs)
bits-once [] = hlevel props
bits-once (b ∷ bs) = hlevel (props, bits-once bs)

lanes-once : (env : Env) (w n : ℕ) (ts : List Tree) (register : List ℕ) → IsProp (LanesMean env w n ts register)
lanes-once env w n [] register = hlevel props
lanes-once env w n (t ∷ ts) register = hlevel (props, lanes-once env w (n + 1) ts register)

answers-once : (d : Description) (registers : List (List ℕ)) (register : List ℕ) → IsProp (Answers d registers register)
answers-once d registers register = hlevel (props, bits-once register, lanes-once)

true-once : (called : Instructions) (d : Description) → IsProp (IsTrueOf called d)
true-once called d = hlevel (props, answers-once)

imm-once : (r : Option ImmRange) (imm : Option ℕ) → IsProp (IsImm r imm)
imm-once None None = hlevel props
imm-once None (Some k) = hlevel props
imm-once (Some r) None = hlevel props
imm-once (Some r) (Some k) = hlevel props

called-once : (d : Description) (h : Header) → IsProp (IsCalled d h)
called-once d h = hlevel (props, imm-once)

header-once : (headers : List Header) (d : Description) → IsProp (HasHeader headers d)
header-once headers d = hlevel (props, called-once)

of-once : (entries : List Entry) (d : Description) → IsProp (IsOf entries d)
of-once entries d = hlevel (props, true-once (called_by entries) d, callable-once d, header-once (headers_of entries) d)

pub are-of-once : (entries : List Entry) (ds : List Description) → IsProp (AreOf entries ds)
are-of-once entries ds = AllByRecursion-prop (IsOf entries) (of-once entries) ds

-- two lists of descriptions are the same in one way alone
pub same-once : (ds es : List Description) → IsProp (ds ≡ es)
same-once = Coded-set (hlevel (codes, tree-code))
