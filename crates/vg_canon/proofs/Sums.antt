-- What a rule for sums makes of a term over canonical children is a chain over canonical parts, or a constant.
use Rattle.std.proofs.Common.{◌≡◌, ℕ, ◌⊎◌, Bool, true, false, List, [], ◌∷◌, refl, sym, ◌∙◌, subst, inl, inr}
use Rattle.std.specs.Prelude.{Some, None, if◌then◌else◌}
use Rattle.std.proofs.lemmas.Bool.{cases_Bool}
use Rattle.vg_terms.specs.declared.term.TwoOp.{TwoOp}
use Rattle.vg_terms.specs.declared.term.TwoOp.TheVariants.{Add, Mul, And, Or, Xor, Smin, Smax, Umin, Umax, Eq, Slt, Ult, Cat}
use Rattle.vg_terms.specs.Chain.{same_op, parts, sorted, chain, chain_of, is_disordered}
use Rattle.vg_terms.specs.Term.{Tree, leaf, constant, one, two, sel, WellFormed}
use Rattle.vg_terms.proofs.Chains.{AllParts, all-append, all-sorted, parts-opened, parts-closed, same_op-itself}
use Rattle.vg_rules_sum.specs.Constant.{is_over_constants, is_neutral, is_absorbing, folded, twice}
use Rattle.vg_rules_sum.specs.Rules.{first_row, fold_constants, sort_chain, merge_constants, neutral_or_absorbing, same_operands, put_in_order}
use Rattle.vg_rules_sum.specs.Laws.{first_row-sound}
use Rattle.vg_canon.specs.Canonical.{IsCanonical, HasCanonicalChildren}
use Rattle.vg_canon.specs.Walk.{OverCanonical, CanonicalBeyond, walk_of_sum}
use Rattle.vg_terms.proofs.Tables.{either, tested}
use Rattle.vg_canon.proofs.Steps.{constant-finished}
use Rattle.vg_canon.proofs.Walks.{canonical-over, canonical-beyond}

-- the parts of a canonical term are canonical
pub parts-canonical : (op : TwoOp) (t : Tree) → IsCanonical t → AllParts IsCanonical (parts op t)
parts-canonical op (leaf w k) c = (c, tt)
parts-canonical op (constant w v) c = (c, tt)
parts-canonical op (one o w k x) c = (c, tt)
parts-canonical op (two o w x y) c =
    elim (cases_Bool (same_op op o)) [
      | inl t ↦ subst (AllParts IsCanonical) (sym (parts-opened op o w x y t)) (all-append IsCanonical (parts op x) (parts op y) (parts-canonical op x c.1) (parts-canonical op y c.2))
      | inr f ↦ subst (AllParts IsCanonical) (sym (parts-closed op (two o w x y) f)) (c, tt)
    ]
parts-canonical op (sel w d x y) c = (c, tt)

-- a chain over canonical parts
chain-over : (op : TwoOp) (w : ℕ) (first : Tree) (ps : List Tree) → OverCanonical op first → AllParts IsCanonical ps → OverCanonical op (chain op w first ps)
chain-over op w first [] h a = h
chain-over op w first (p ∷ ps) h a = chain-over op w (two op w first p) ps (inr (same_op-itself op, h, a.0)) a.1

chain_of-over : (op : TwoOp) (w : ℕ) (ps : List Tree) → WellFormed (chain_of op w ps) → AllParts IsCanonical ps → OverCanonical op (chain_of op w ps)
chain_of-over op w [] g a = constant-finished w 0 g
chain_of-over op w (p ∷ ps) g a = chain-over op w p ps (canonical-over op p a.0) a.1

-- what a row makes of the term
abbrev IsWalked : Tree → Tree → Type 0
IsWalked old new = CanonicalBeyond (walk_of_sum old) new

same_some : (v new : Tree) → Some v ≡ Some new → v ≡ new
same_some v new e = cc

applied : (b : Bool) (v new : Tree) → (if b then Some v else None) ≡ Some new → (b ≡ true) × (v ≡ new)
applied b v new e = let t = tested b (Some v) new e in (t.0, same_some v new t.1)

applied_either : (b c : Bool) (v u new : Tree) → (if b then Some v else if c then Some u else None) ≡ Some new → (v ≡ new) ⊎ (u ≡ new)
applied_either true c v u new e = inl (cc)
applied_either false true v u new e = inr (cc)
applied_either false false v u new e = absurd (cc)

fold-walked : (old new : Tree) → WellFormed new → fold_constants old ≡ Some new → IsWalked old new
unfolding fold_constants
fold-walked old new g e =
    let a = applied (is_over_constants old) (folded old) new e in
    let c : IsCanonical (folded old) = constant-finished _ _ (subst WellFormed (sym a.1) g) in
    subst (IsWalked old) a.1 (canonical-beyond (walk_of_sum old) (folded old) c)

order-chain : (op : TwoOp) (w : ℕ) (x y : Tree) → IsCanonical x → IsCanonical y → WellFormed (chain_of op w (sorted (parts op (two op w x y)))) → OverCanonical op (chain_of op w (sorted (parts op (two op w x y))))
order-chain op w x y c d g =
    let all = subst (AllParts IsCanonical) (sym (parts-opened op op w x y (same_op-itself op))) (all-append IsCanonical (parts op x) (parts op y) (parts-canonical op x c) (parts-canonical op y d)) in
    chain_of-over op w (sorted (parts op (two op w x y))) g (all-sorted IsCanonical (parts op (two op w x y)) all)

order-walked : (t : Tree) → HasCanonicalChildren t → is_disordered t ≡ true → WellFormed (put_in_order t) → IsWalked t (put_in_order t)
order-walked (two Add w x y) h d g = order-chain Add w x y h.0 h.1 g
order-walked (two Mul w x y) h d g = order-chain Mul w x y h.0 h.1 g
order-walked (two And w x y) h d g = order-chain And w x y h.0 h.1 g
order-walked (two Or w x y) h d g = order-chain Or w x y h.0 h.1 g
order-walked (two Xor w x y) h d g = order-chain Xor w x y h.0 h.1 g
order-walked (two Smin w x y) h d g = order-chain Smin w x y h.0 h.1 g
order-walked (two Smax w x y) h d g = order-chain Smax w x y h.0 h.1 g
order-walked (two Umin w x y) h d g = order-chain Umin w x y h.0 h.1 g
order-walked (two Umax w x y) h d g = order-chain Umax w x y h.0 h.1 g
order-walked (two Eq w x y) h d g = inr (refl, canonical-over Eq y h.1, h.0)
order-walked (two Slt w x y) h d g = absurd (cc)
order-walked (two Ult w x y) h d g = absurd (cc)
order-walked (two Cat w x y) h d g = absurd (cc)
order-walked (leaf w k) h d g = absurd (cc)
order-walked (constant w v) h d g = absurd (cc)
order-walked (one op w k x) h d g = absurd (cc)
order-walked (sel w c x y) h d g = absurd (cc)

sort-walked : (old new : Tree) → HasCanonicalChildren old → WellFormed new → sort_chain old ≡ Some new → IsWalked old new
unfolding sort_chain
sort-walked old new h g e =
    let a = applied (is_disordered old) (put_in_order old) new e in
    subst (IsWalked old) a.1 (order-walked old h a.0 (subst WellFormed (sym a.1) g))

merge-walked : (old new : Tree) → HasCanonicalChildren old → WellFormed new → merge_constants old ≡ Some new → IsWalked old new
unfolding merge_constants
merge-walked (two op w (two o v x c) d) new h g e =
    let a = applied _ _ new e in
    let made = subst WellFormed (sym a.1) g in
    subst (IsWalked (two op w (two o v x c) d)) a.1 (inr (same_op-itself op, canonical-over op x h.0.1, constant-finished _ _ made.3))
merge-walked _ new h g e = absurd (cc)

neutral-walked : (old new : Tree) → HasCanonicalChildren old → WellFormed old → neutral_or_absorbing old ≡ Some new → IsWalked old new
unfolding neutral_or_absorbing
neutral-walked (two op w x (constant n v)) new h g e =
    elim (applied_either (is_neutral op w v) (is_absorbing op w v) x (constant n v) new e) [
      | inl a ↦ subst (OverCanonical op) a (canonical-over op x h.0)
      | inr a ↦ subst (OverCanonical op) a (constant-finished n v g.3)
    ]
neutral-walked _ new h g e = absurd (cc)

twice_either : (op : TwoOp) (w : ℕ) (x : Tree) → (twice op w x ≡ x) ⊎ (twice op w x ≡ constant w 0)
twice_either Xor w x = inr refl
twice_either _ w x = inl refl

twice-walked : (old new : Tree) → HasCanonicalChildren old → WellFormed new → same_operands old ≡ Some new → IsWalked old new
unfolding same_operands
twice-walked (two op w x y) new h g e =
    let a = applied _ _ new e in
    elim (twice_either op w x) [
      | inl s ↦ subst (OverCanonical op) (sym s ∙ a.1) (canonical-over op x h.0)
      | inr s ↦ subst (OverCanonical op) (sym s ∙ a.1) (constant-finished w 0 (subst WellFormed (sym a.1 ∙ s) g))
    ]
twice-walked _ new h g e = absurd (cc)

pub sum-walked : (old new : Tree) → HasCanonicalChildren old → WellFormed old → first_row old ≡ Some new → IsWalked old new
sum-walked old new h g e =
    let made = (first_row-sound old new g e).keeps.well_formed in
    elim (either (fold_constants old) _ new e) [
      | inl f ↦ fold-walked old new made f
      | inr f ↦ elim (either (sort_chain old) _ new f) [
        | inl s ↦ sort-walked old new h made s
        | inr s ↦ elim (either (merge_constants old) _ new s) [
          | inl m ↦ merge-walked old new h made m
          | inr m ↦ elim (either (neutral_or_absorbing old) _ new m) [
            | inl n ↦ neutral-walked old new h g n
            | inr n ↦ elim (either (same_operands old) _ new n) [ inl t ↦ twice-walked old new h made t | inr t ↦ absurd (cc) ]
          ]
        ]
      ]
    ]
