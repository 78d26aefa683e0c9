-- Which classes terms name: those of terms that were met before.
use Rattle.std.proofs.Common.{◌≡◌, ℕ, zero, suc, ◌<◌, ◌≤◌, ◌⊎◌, inl, inr, Bool, true, false, List, [], ◌∷◌, ◌++◌, length, take, drop, replicate, get_or, Option, Some, None, refl, sym, subst, arith}
use Rattle.std.specs.Prelude.{if◌then◌else◌, nat_eq, nat_le, position}
use Rattle.std.specs.List.{list_any}
use Rattle.std.proofs.lemmas.Bool.{cases_Bool, cases_lt, cond-true, cond-false}
use Rattle.std.proofs.lemmas.List.{get_or_append_left, get_or_push, length_push}
use Rattle.std.proofs.lemmas.List.Quantifiers.{position-Some}
use Rattle.vg_terms.specs.declared.term.LeafKey.{LeafKey}
use Rattle.vg_terms.specs.Order.{is_same_term}
use Rattle.vg_terms.specs.Resize.{low}
use Rattle.vg_terms.specs.Term.{Tree, leaf, constant, one, two, sel, node_count, width_of}
use Rattle.vg_canon.specs.Canonical.{canonical}
use Rattle.vg_canon_laws.specs.Leaves.{IsLeafOf}
use Rattle.vg_canon_laws.proofs.Leaves.{canonical-keeps-leaves}
use Rattle.vg_scalar.specs.declared.two_op.TwoOp.TheVariants.{Add, Sub, Mul, And, Or, Xor, Smin, Smax, Umin, Umax}
use Rattle.vg_scalar.specs.declared.shift.Shift.TheVariants.{Shl, Lshr, Ashr}
use Rattle.vg_scalar.specs.declared.resize.Resize.TheVariants.{Sext, Zext, Trunc}
use Rattle.vg_scalar.specs.declared.comparison.Comparison.TheVariants.{Eq, Slt, Ult}
use Rattle.vg_shapes.specs.declared.ssa_unit.Operator.{Operator}
use Rattle.vg_shapes.specs.declared.ssa_unit.Operator.TheVariants as operator
use Rattle.vg_shapes.specs.Fits.{EachLeaf}
use Rattle.vg_shapes.specs.Sound.{cut_key}
use Rattle.vg_ssa.specs.ValueTerm.{no_term, operation_term}
use Rattle.vg_lift.specs.Gather.{Bit, clear, input, of_term, Run, zeros, inputs, terms, start, longer, continues, shifted, whole, gather_from, gather, bits_from}
use Rattle.vg_lift.specs.LaneTerm.{pieces}
use Rattle.vg_known.specs.Cuts.{built, computed, cut, cut_bit, cut_bits, gathered, is_atom, leaf_for, met_with, small_or}

-- a key names no class, or one below this
abbrev pub Below : ℕ → LeafKey → Type 0
Below n k = (nat_eq k.kind 3 ≡ false) ⊎ ((c : ℕ) × (c < n) × (k ≡ cut_key c))

abbrev pub TermBelow : ℕ → Tree → Type 0
TermBelow n t = EachLeaf (λ w k. Below n k) t

abbrev pub BitBelow : ℕ → Bit → Type 0
BitBelow n clear = Unit {0}
BitBelow n (input p i) = Unit {0}
BitBelow n (of_term t k) = TermBelow n t

abbrev pub BitsBelow : ℕ → List Bit → Type 0
BitsBelow n [] = Unit {0}
BitsBelow n (b ∷ bs) = BitBelow n b × BitsBelow n bs

-- ---- more classes

key-more : (n m : ℕ) (k : LeafKey) → n ≤ m → Below n k → Below m k
key-more n m k h (inl f) = inl f
key-more n m k h (inr c) = inr (c.0, (let l = c.1 in omega arith), c.2)

pub term-more : (n m : ℕ) (t : Tree) → n ≤ m → TermBelow n t → TermBelow m t
term-more n m (leaf w k) h b = key-more n m k h b
term-more n m (constant w v) h b = tt
term-more n m (one op w k x) h b = term-more n m x h b
term-more n m (two op w x y) h b = (term-more n m x h b.0, term-more n m y h b.1)
term-more n m (sel w c x y) h b = (term-more n m c h b.0, term-more n m x h b.1, term-more n m y h b.2)

bit-more : (n m : ℕ) (b : Bit) → n ≤ m → BitBelow n b → BitBelow m b
bit-more n m clear h b = tt
bit-more n m (input p i) h b = tt
bit-more n m (of_term t k) h b = term-more n m t h b

pub bits-more : (n m : ℕ) (bs : List Bit) → n ≤ m → BitsBelow n bs → BitsBelow m bs
bits-more n m [] h b = tt
bits-more n m (x ∷ bs) h b = (bit-more n m x h b.0, bits-more n m bs h b.1)

-- ---- canonical forms

each-leaf : (P : ℕ → LeafKey → Type 0) (t : Tree) → EachLeaf P t → (w : ℕ) (k : LeafKey) → IsLeafOf w k t → P w k
each-leaf P (leaf v j) h w k l = subst (λ u. P u k) (sym l.0) (subst (P v) (sym l.1) h)
each-leaf P (constant v n) h w k l = absurd l
each-leaf P (one op v j x) h w k l = each-leaf P x h w k l
each-leaf P (two op v x y) h w k l = elim l [ inl a ↦ each-leaf P x h.0 w k a | inr b ↦ each-leaf P y h.1 w k b ]
each-leaf P (sel v c x y) h w k l = elim l [
  | inl a ↦ each-leaf P c h.0 w k a
  | inr b ↦ elim b [ inl d ↦ each-leaf P x h.1 w k d | inr e ↦ each-leaf P y h.2 w k e ]
]

leaf-each : (P : ℕ → LeafKey → Type 0) (t : Tree) → ((w : ℕ) (k : LeafKey) → IsLeafOf w k t → P w k) → EachLeaf P t
leaf-each P (leaf w k) f = f w k (refl, refl)
leaf-each P (constant w n) f = tt
leaf-each P (one op w k x) f = leaf-each P x f
leaf-each P (two op w x y) f = (leaf-each P x (λ v j h. f v j (inl h)), leaf-each P y (λ v j h. f v j (inr h)))
leaf-each P (sel w c x y) f =
    (leaf-each P c (λ v j h. f v j (inl h)), leaf-each P x (λ v j h. f v j (inr (inl h))), leaf-each P y (λ v j h. f v j (inr (inr h))))

pub canonical-each : (P : ℕ → LeafKey → Type 0) (t : Tree) → EachLeaf P t → EachLeaf P (canonical t)
canonical-each P t h = leaf-each P (canonical t) (λ w k l. each-leaf P t h w k (canonical-keeps-leaves t w k l))

pub built-below : (n : ℕ) (t u : Tree) → TermBelow n t → TermBelow n u → TermBelow n (built t u)
built-below n t u h g =
    either (nat_le (node_count t) 4096) (small_or (canonical t) (canonical u)) (canonical u)
    (either (nat_le (node_count (canonical t)) 128) (canonical t) (canonical u) (canonical-each _ t h) (canonical-each _ u g)) (canonical-each _ u g)
  where
    either : (b : Bool) (x y : Tree) → TermBelow n x → TermBelow n y → TermBelow n (if b then x else y)
    either true x y a c = a
    either false x y a c = c

-- ---- cut terms

pub cut-below : (met : List Tree) (t : Tree) → TermBelow (length met) t → TermBelow (length met) (cut met t)
cut-below met t h = elim (cases_Bool (is_atom t)) [
  | inl y ↦ subst (TermBelow (length met)) (sym (cond-true _ _ _ y)) h
  | inr f ↦ subst (TermBelow (length met)) (sym (cond-false _ _ _ f)) (by (position (is_same_term t) met) refl)
]
  where
    by : (o : Option ℕ) → position (is_same_term t) met ≡ o → TermBelow (length met) (leaf_for t o)
    by None e = h
    by (Some c) e = inr (c, (position-Some (is_same_term t) met c no_term e).0, refl)

cut_bit-below : (met : List Tree) (b : Bit) → BitBelow (length met) b → BitBelow (length met) (cut_bit met b)
cut_bit-below met clear h = tt
cut_bit-below met (input p i) h = tt
cut_bit-below met (of_term t k) h = cut-below met t h

pub cut_bits-below : (met : List Tree) (bs : List Bit) → BitsBelow (length met) bs → BitsBelow (length met) (cut_bits met bs)
cut_bits-below met [] h = tt
cut_bits-below met (b ∷ bs) h = (cut_bit-below met b h.0, cut_bits-below met bs h.1)

-- ---- gathered bits

abbrev RunBelow : ℕ → Run → Type 0
RunBelow n (zeros m) = Unit {0}
RunBelow n (inputs p l m) = Unit {0}
RunBelow n (terms t k m) = TermBelow n t

start-below : (n : ℕ) (b : Bit) → BitBelow n b → RunBelow n (start b)
start-below n clear h = tt
start-below n (input p i) h = tt
start-below n (of_term t k) h = h

longer-below : (n : ℕ) (r : Run) → RunBelow n r → RunBelow n (longer r)
longer-below n (zeros m) h = tt
longer-below n (inputs p l m) h = tt
longer-below n (terms t k m) h = h

shifted-below : (n k : ℕ) (t : Tree) → TermBelow n t → TermBelow n (shifted k t)
shifted-below n zero t h = h
shifted-below n (suc k) t h = h

low-below : (n m : ℕ) (t : Tree) → TermBelow n t → TermBelow n (low m t)
low-below n m t h = elim (cases_Bool (nat_eq (width_of t) m)) [
  | inl y ↦ subst (TermBelow n) (sym (cond-true _ _ _ y)) h
  | inr f ↦ subst (TermBelow n) (sym (cond-false _ _ _ f)) h
]

whole-below : (n : ℕ) (r : Run) → RunBelow n r → TermBelow n (whole r)
whole-below n (zeros m) h = tt
whole-below n (inputs p l m) h = inl refl
whole-below n (terms t k m) h = low-below n m (shifted k t) (shifted-below n k t h)

gather_from-below : (n : ℕ) (r : Run) (bs : List Bit) → RunBelow n r → BitsBelow n bs → TermBelow n (gather_from r bs)
gather_from-below n r [] f g = whole-below n r f
gather_from-below n r (b ∷ bs) f g = elim (cases_Bool (continues r b)) [
  | inl t ↦ subst (TermBelow n) (sym (cond-true _ _ _ t)) (gather_from-below n (longer r) bs (longer-below n r f) g.1)
  | inr e ↦ subst (TermBelow n) (sym (cond-false _ _ _ e)) (gather_from-below n (start b) bs (start-below n b g.0) g.1, whole-below n r f)
]

pub gather-below : (n : ℕ) (bs : List Bit) → BitsBelow n bs → TermBelow n (gather bs)
gather-below n [] h = tt
gather-below n (b ∷ bs) h = gather_from-below n (start b) bs (start-below n b h.0) h.1

pub gathered-below : (met : List Tree) (bs : List Bit) → BitsBelow (length met) bs → TermBelow (length met) (gathered met bs)
gathered-below met bs h = built-below (length met) (gather bs) (gather (cut_bits met bs)) (gather-below (length met) bs h) (gather-below (length met) (cut_bits met bs) (cut_bits-below met bs h))

-- ---- operations

operation-below : (n : ℕ) (op : Operator) (w k : ℕ) (x y z : Tree) → TermBelow n x → TermBelow n y → TermBelow n z → TermBelow n (operation_term op w k x y z)
operation-below n (operator.Two Add) w k x y z a b c = (a, b)
operation-below n (operator.Two Sub) w k x y z a b c = (a, (b, tt))
operation-below n (operator.Two Mul) w k x y z a b c = (a, b)
operation-below n (operator.Two And) w k x y z a b c = (a, b)
operation-below n (operator.Two Or) w k x y z a b c = (a, b)
operation-below n (operator.Two Xor) w k x y z a b c = (a, b)
operation-below n (operator.Two Smin) w k x y z a b c = (a, b)
operation-below n (operator.Two Smax) w k x y z a b c = (a, b)
operation-below n (operator.Two Umin) w k x y z a b c = (a, b)
operation-below n (operator.Two Umax) w k x y z a b c = (a, b)
operation-below n (operator.Shift Shl) w k x y z a b c = (a, tt)
operation-below n (operator.Shift Lshr) w k x y z a b c = a
operation-below n (operator.Shift Ashr) w k x y z a b c = a
operation-below n (operator.Resize Sext v) w k x y z a b c = a
operation-below n (operator.Resize Zext v) w k x y z a b c = a
operation-below n (operator.Resize Trunc v) w k x y z a b c = a
operation-below n (operator.Compare Eq) w k x y z a b c = (a, b)
operation-below n (operator.Compare Slt) w k x y z a b c = (a, b)
operation-below n (operator.Compare Ult) w k x y z a b c = (a, b)
operation-below n operator.Select w k x y z a b c = (a, b, c)

pub computed-below : (met : List Tree) (op : Operator) (w k : ℕ) (x y z : Tree) → TermBelow (length met) x → TermBelow (length met) y → TermBelow (length met) z → TermBelow (length met) (computed met op w k x y z)
computed-below met op w k x y z a b c =
    built-below (length met) (operation_term op w k x y z) (operation_term op w k (cut met x) (cut met y) (cut met z)) (operation-below (length met) op w k x y z a b c)
    (operation-below (length met) op w k (cut met x) (cut met y) (cut met z) (cut-below met x a) (cut-below met y b) (cut-below met z c))

-- ---- lists

pub below-append : (n : ℕ) (xs ys : List Bit) → BitsBelow n xs → BitsBelow n ys → BitsBelow n (xs ++ ys)
below-append n [] ys f g = g
below-append n (x ∷ xs) ys f g = (f.0, below-append n xs ys f.1 g)

pub below-take : (n k : ℕ) (bs : List Bit) → BitsBelow n bs → BitsBelow n (take k bs)
below-take n zero bs h = tt
below-take n (suc k) [] h = tt
below-take n (suc k) (b ∷ bs) h = (h.0, below-take n k bs h.1)

pub below-drop : (n k : ℕ) (bs : List Bit) → BitsBelow n bs → BitsBelow n (drop k bs)
below-drop n zero bs h = h
below-drop n (suc k) [] h = tt
below-drop n (suc k) (b ∷ bs) h = below-drop n k bs h.1

pub bits_from-below : (n : ℕ) (t : Tree) (k m : ℕ) → TermBelow n t → BitsBelow n (bits_from t k m)
bits_from-below n t k zero h = tt
bits_from-below n t k (suc m) h = (h, bits_from-below n t (suc k) m h)

pub pieces-below : (n w v k m : ℕ) → BitsBelow n (pieces w v k m)
pieces-below n w v k zero = tt
pieces-below n w v k (suc m) = (tt, pieces-below n w v (suc k) m)

pub clears-below : (n m : ℕ) → BitsBelow n (replicate m clear)
clears-below n zero = tt
clears-below n (suc m) = (tt, clears-below n m)

-- ---- terms that were met

-- each names lower classes alone
abbrev pub AreClasses : List Tree → Type 0
AreClasses met = (c : ℕ) → c < length met → TermBelow c (get_or met c no_term)

pub met-classes : (met : List Tree) (t : Tree) → AreClasses met → TermBelow (length met) t → AreClasses (met_with met t)
met-classes met t are below = elim (cases_Bool (list_any (is_same_term t) met)) [
  | inl y ↦ subst AreClasses (sym (cond-true _ _ _ y)) are
  | inr n ↦ subst AreClasses (sym (cond-false _ _ _ n)) pushed
]
  where
    pushed : AreClasses (met ++ t ∷ [])
    pushed c less = elim (cases_lt c (length met)) [
      | inl l ↦ subst (TermBelow c) (sym (get_or_append_left met (t ∷ []) no_term c l)) (are c l)
      | inr g ↦
          let is : c ≡ length met = (let k = length_push met t in omega arith) in
          subst (TermBelow c) (sym (get_or_push met t no_term c (sym is))) (subst (λ n. TermBelow n t) (sym is) below)
    ]
