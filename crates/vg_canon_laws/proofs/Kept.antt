-- Terms all of whose leaves stand in one term.
use Rattle.std.proofs.Common.{◌≡◌, ℕ, refl, sym, subst, inl, inr, Bool, true, false, List, [], ◌∷◌, ◌++◌}
use Rattle.std.specs.Prelude.{Option, Some, None, nat_eq, if◌then◌else◌}
use Rattle.std.specs.Option.{option_or}
use Rattle.vg_terms.specs.declared.term.LeafKey.{LeafKey}
use Rattle.vg_terms.specs.declared.term.TwoOp.{TwoOp}
use Rattle.vg_terms.specs.declared.term.OneOp.TheVariants.{Trunc}
use Rattle.vg_terms.specs.Term.{Tree, leaf, constant, one, two, sel, width_of}
use Rattle.vg_terms.specs.Resize.{low, low_two}
use Rattle.vg_terms.specs.Table.{first}
use Rattle.vg_canon_laws.specs.Leaves.{IsLeafOf}

-- each leaf of the second term is one of the first
abbrev pub LeavesIn : Tree → Tree → Type 0
LeavesIn s (leaf w k) = IsLeafOf w k s
LeavesIn s (constant w n) = Unit {0}
LeavesIn s (one op w k x) = LeavesIn s x
LeavesIn s (two op w x y) = LeavesIn s x × LeavesIn s y
LeavesIn s (sel w c x y) = LeavesIn s c × LeavesIn s x × LeavesIn s y

-- the same of what a row gives
abbrev pub Kept : Tree → Option Tree → Type 0
Kept s (Some t) = LeavesIn s t
Kept s None = Unit {0}

abbrev pub RowKeeps : (Tree → Option Tree) → Type 0
RowKeeps row = (s t : Tree) → LeavesIn s t → Kept s (row t)

abbrev pub AllKeep : List (Tree → Option Tree) → Type 0
AllKeep [] = Unit {0}
AllKeep (row ∷ rows) = RowKeeps row × AllKeep rows

pub leaves-either : (s : Tree) (b : Bool) (x y : Tree) → LeavesIn s x → LeavesIn s y → LeavesIn s (if b then x else y)
leaves-either s true x y h k = h
leaves-either s false x y h k = k

pub kept-either : (s : Tree) (b : Bool) (x y : Option Tree) → Kept s x → Kept s y → Kept s (if b then x else y)
kept-either s true x y h k = h
kept-either s false x y h k = k

-- what is kept only where a test holds
pub kept-where : (s : Tree) (b : Bool) (x : Tree) → LeavesIn s x → Kept s (if b then Some x else None)
kept-where s true x h = h
kept-where s false x h = tt

pub kept-or : (s : Tree) (x y : Option Tree) → Kept s x → Kept s y → Kept s (option_or x y)
kept-or s (Some x) y h k = h
kept-or s None y h k = k

pub first-keeps : (rows : List (Tree → Option Tree)) → AllKeep rows → (s t : Tree) → LeavesIn s t → Kept s (first rows t)
first-keeps [] h s t l = tt
first-keeps (row ∷ rows) h s t l = kept-or s (row t) (first rows t) (h.0 s t l) (first-keeps rows h.1 s t l)

pub low-in : (s : Tree) (n : ℕ) (x : Tree) → LeavesIn s x → LeavesIn s (low n x)
low-in s n x h = leaves-either s (nat_eq (width_of x) n) x (one Trunc n 0 x) h h

pub low_two-in : (s : Tree) (op : TwoOp) (w n : ℕ) (x y : Tree) → LeavesIn s x → LeavesIn s y → LeavesIn s (low_two op w n x y)
low_two-in s op w n x y h k = (low-in s n x h, low-in s n y k)

-- between the two ways to say it
pub leaves-in : (s t : Tree) → ((w : ℕ) (k : LeafKey) → IsLeafOf w k t → IsLeafOf w k s) → LeavesIn s t
leaves-in s (leaf w k) f = f w k (refl, refl)
leaves-in s (constant w n) f = tt
leaves-in s (one op w k x) f = leaves-in s x f
leaves-in s (two op w x y) f = (leaves-in s x (λ v j h. f v j (inl h)), leaves-in s y (λ v j h. f v j (inr h)))
leaves-in s (sel w c x y) f =
    (leaves-in s c (λ v j h. f v j (inl h)), leaves-in s x (λ v j h. f v j (inr (inl h))), leaves-in s y (λ v j h. f v j (inr (inr h))))

pub leaf-in : (s t : Tree) (v : ℕ) (j : LeafKey) → LeavesIn s t → IsLeafOf v j t → IsLeafOf v j s
leaf-in s (leaf w k) v j l h = subst (λ n. IsLeafOf n j s) (sym h.0) (subst (λ i. IsLeafOf w i s) (sym h.1) l)
leaf-in s (constant w n) v j l h = absurd h
leaf-in s (one op w k x) v j l h = leaf-in s x v j l h
leaf-in s (two op w x y) v j l h = elim h [ inl a ↦ leaf-in s x v j l.0 a | inr b ↦ leaf-in s y v j l.1 b ]
leaf-in s (sel w c x y) v j l h =
    elim h [
      | inl a ↦ leaf-in s c v j l.0 a
      | inr b ↦ elim b [ inl d ↦ leaf-in s x v j l.1 d | inr e ↦ leaf-in s y v j l.2 e ]
    ]
