-- A part that is put into a chain in order: the chain of all parts in order. The term that is made is in
-- order and has the same parts, and two terms in order with the same parts are one.
use Rattle.std.proofs.Common.{◌≡◌, ℕ, ◌+◌, true, false, refl, sym, ap, ◌∙◌, subst, arith, inl, inr}
use Rattle.std.specs.Prelude.{not, ◌&&◌, if◌then◌else◌}
use Rattle.std.proofs.lemmas.Bool.{cases_Bool, cond-true, cond-false, and_parts, and_from, not-true, not-false, not_from_true, not_from_false}
use Rattle.vg_terms.specs.declared.term.TwoOp.{TwoOp}
use Rattle.vg_terms.specs.declared.term.TwoOp.TheVariants.{Add, Mul, And, Or, Xor, Smin, Smax, Umin, Umax, Eq, Slt, Ult, Cat}
use Rattle.vg_terms.specs.Term.{Tree, leaf, constant, one, two, sel, width_of, IsWidth, WellFormed}
use Rattle.vg_terms.specs.Chain.{makes_chains, same_op, opens, parts, sorted, chain_of, not_after, leads_to, in_order, is_disordered}
use Rattle.vg_terms.proofs.Sorting.{total_by, total_by-sorted, rising-sorted, one_rising, not_after_itself, not_after_turned}
use Rattle.vg_terms.proofs.Chains.{same_op-same, same_op-itself, chain_fits, fits_chain, disordered-chain, parts-opened, total_by-append, IsPart}
use Rattle.vg_terms.proofs.SortChain.{in_order-sorted}
use Rattle.vg_rules_sum.specs.Insertion.{in_turn, joined, last_put_in, is_in_order_but_last}
use Rattle.vg_rules_sum.specs.Rules.{put_in_order}

leads-closed : (op : TwoOp) (x y : Tree) → opens op x ≡ false → leads_to op x y ≡ not_after x y
leads-closed op (leaf v k) y h = refl
leads-closed op (constant v n) y h = refl
leads-closed op (one o v k x) y h = refl
leads-closed op (two o v a b) y h = cond-false _ _ _ h
leads-closed op (sel v c a b) y h = refl

leads-opened : (op o : TwoOp) (w : ℕ) (a b y : Tree) → same_op op o ≡ true → leads_to op (two o w a b) y ≡ not_after b y && (not (opens op b) && leads_to op a b)
leads-opened op o w a b y h = cond-true _ _ _ h

leads-on : (op : TwoOp) (w : ℕ) (x q r : Tree) → leads_to op x q ≡ true → opens op q ≡ false → not_after q r ≡ true → leads_to op (two op w x q) r ≡ true
leads-on op w x q r h g n =
    leads-opened op op w x q r (same_op-itself op) ∙ and_from _ _ n (and_from _ _ (not_from_false (opens op q) g) h)

-- the part that is put in: after the last, before it, or beside another term
joined-last : (op o : TwoOp) (w v : ℕ) (a b y : Tree) → same_op op o ≡ true → not_after b y ≡ true → joined op w (two o v a b) y ≡ two op w (two o v a b) y
joined-last op o w v a b y s h = cond-true _ _ _ s ∙ cond-true _ _ _ h

joined-lower : (op o : TwoOp) (w v : ℕ) (a b y : Tree) → same_op op o ≡ true → not_after b y ≡ false → joined op w (two o v a b) y ≡ two op w (joined o v a y) b
joined-lower op o w v a b y s h = cond-true _ _ _ s ∙ cond-false _ _ _ h

joined-apart : (op o : TwoOp) (w v : ℕ) (a b y : Tree) → same_op op o ≡ false → joined op w (two o v a b) y ≡ in_turn op w (two o v a b) y
joined-apart op o w v a b y s = cond-false _ _ _ s

-- what holds of the operation over the two parts in either order holds of it in turn
in-turn : (P : Tree → Type 0) (op : TwoOp) (w : ℕ) (x y : Tree) → (not_after x y ≡ true → P (two op w x y)) → (not_after x y ≡ false → P (two op w y x)) → P (in_turn op w x y)
in-turn P op w x y h g =
    elim (cases_Bool (not_after x y)) [
      | inl t ↦ subst P (sym (cond-true _ _ _ t)) (h t)
      | inr f ↦ subst P (sym (cond-false _ _ _ f)) (g f)
    ]

-- an operation on two terms
record IsOver (op : TwoOp) (w : ℕ) (t : Tree) : Type 0 where
  first : Tree
  second : Tree
  is : t ≡ two op w first second

over : (op : TwoOp) (w : ℕ) (x y : Tree) → IsOver op w (two op w x y)
over op w x y = record { first = x; second = y; is = refl }

over-turn : (op : TwoOp) (w : ℕ) (x y : Tree) → IsOver op w (in_turn op w x y)
over-turn op w x y = in-turn (IsOver op w) op w x y (λ _. over op w x y) (λ _. over op w y x)

over-joined : (op : TwoOp) (w : ℕ) (x y : Tree) → IsOver op w (joined op w x y)
over-joined op w (leaf v k) y = over-turn op w (leaf v k) y
over-joined op w (constant v n) y = over-turn op w (constant v n) y
over-joined op w (one o v k x) y = over-turn op w (one o v k x) y
over-joined op w (sel v c a b) y = over-turn op w (sel v c a b) y
over-joined op w (two o v a b) y =
    elim (cases_Bool (same_op op o)) [
      | inl t ↦ elim (cases_Bool (not_after b y)) [
        | inl s ↦ subst (IsOver op w) (sym (joined-last op o w v a b y t s)) (over op w (two o v a b) y)
        | inr f ↦ subst (IsOver op w) (sym (joined-lower op o w v a b y t f)) (over op w (joined o v a y) b)
      ]
      | inr f ↦ subst (IsOver op w) (sym (joined-apart op o w v a b y f)) (over-turn op w (two o v a b) y)
    ]

-- it is in order up to whatever neither was after
leads-turn : (op : TwoOp) (w : ℕ) (x y q : Tree) → opens op x ≡ false → not_after x q ≡ true → opens op y ≡ false → not_after y q ≡ true → leads_to op (in_turn op w x y) q ≡ true
leads-turn op w x y q c h d g =
    in-turn (λ t. leads_to op t q ≡ true) op w x y (λ t. leads-on op w x y q (leads-closed op x y c ∙ t) d g) (λ f. leads-on op w y x q (leads-closed op y x d ∙ not_after_turned x y f) c h)

leads-joined : (op : TwoOp) (w : ℕ) (x y q : Tree) → leads_to op x q ≡ true → opens op y ≡ false → not_after y q ≡ true → leads_to op (joined op w x y) q ≡ true
leads-joined op w (leaf v k) y q h d g = leads-turn op w (leaf v k) y q refl h d g
leads-joined op w (constant v n) y q h d g = leads-turn op w (constant v n) y q refl h d g
leads-joined op w (one o v k x) y q h d g = leads-turn op w (one o v k x) y q refl h d g
leads-joined op w (sel v c a b) y q h d g = leads-turn op w (sel v c a b) y q refl h d g
leads-joined op w (two o v a b) y q h d g =
    elim (cases_Bool (same_op op o)) [
      | inl t ↦ (
          let up = and_parts (not_after b q) _ (sym (leads-opened op o v a b q t) ∙ h) in
          let below = and_parts (not (opens op b)) (leads_to op a b) up.1 in
          elim (cases_Bool (not_after b y)) [
            | inl s ↦ (
                let before : leads_to op (two o v a b) y ≡ true = leads-opened op o v a b y t ∙ and_from _ _ s (and_from _ _ below.0 below.1) in
                subst (λ r. leads_to op r q ≡ true) (sym (joined-last op o w v a b y t s)) (leads-on op w (two o v a b) y q before d g))
            | inr f ↦ (
                let inner = leads-joined op v a y b below.1 d (not_after_turned b y f) in
                let same : leads_to op (joined o v a y) b ≡ true = subst (λ p. leads_to op (joined p v a y) b ≡ true) (same_op-same op o t) inner in
                subst (λ r. leads_to op r q ≡ true) (sym (joined-lower op o w v a b y t f)) (leads-on op w (joined o v a y) b q same (not-true (opens op b) below.0) up.0))
          ])
      | inr f ↦ subst (λ r. leads_to op r q ≡ true) (sym (joined-apart op o w v a b y f)) (leads-turn op w (two o v a b) y q f (sym (leads-closed op (two o v a b) q f) ∙ h) d g)
    ]

-- it has the width, where both have
formed-both : (op : TwoOp) (w : ℕ) (x y : Tree) → makes_chains op ≡ true → IsWidth w → IsPart w x → IsPart w y → IsPart w (two op w x y)
formed-both op w x y c h a b = ((h, fits_chain op w (width_of x) (width_of y) c a.1 b.1, a.0, b.0), refl)

formed-turn : (op : TwoOp) (w : ℕ) (x y : Tree) → makes_chains op ≡ true → IsWidth w → IsPart w x → IsPart w y → IsPart w (in_turn op w x y)
formed-turn op w x y c h a b = in-turn (IsPart w) op w x y (λ _. formed-both op w x y c h a b) (λ _. formed-both op w y x c h b a)

formed-joined : (op : TwoOp) (w : ℕ) (x y : Tree) → makes_chains op ≡ true → IsWidth w → IsPart w x → IsPart w y → IsPart w (joined op w x y)
formed-joined op w (leaf v k) y c h a d = formed-turn op w (leaf v k) y c h a d
formed-joined op w (constant v n) y c h a d = formed-turn op w (constant v n) y c h a d
formed-joined op w (one o v k x) y c h a d = formed-turn op w (one o v k x) y c h a d
formed-joined op w (sel v e p q) y c h a d = formed-turn op w (sel v e p q) y c h a d
formed-joined op w (two o v p q) y c h a d =
    elim (cases_Bool (same_op op o)) [
      | inl t ↦ elim (cases_Bool (not_after q y)) [
        | inl s ↦ subst (IsPart w) (sym (joined-last op o w v p q y t s)) (formed-both op w (two o v p q) y c h a d)
        | inr f ↦ (
            let same = same_op-same op o t in
            let fits = chain_fits o v (width_of p) (width_of q) (subst (λ r. makes_chains r ≡ true) same c) a.0.1 in
            let inner : IsPart v (joined op v p y) = formed-joined op v p y c a.0.0 (a.0.2, fits.0) (d.0, d.1 ∙ sym a.1) in
            let made = subst (λ r. IsPart v (joined r v p y)) same inner in
            subst (IsPart w) (sym (joined-lower op o w v p q y t f)) (formed-both op w (joined o v p y) q c h (made.0, made.1 ∙ a.1) (a.0.3, fits.1 ∙ a.1)))
      ]
      | inr f ↦ subst (IsPart w) (sym (joined-apart op o w v p q y f)) (formed-turn op w (two o v p q) y c h a d)
    ]

-- it has the parts of both: the sums of whatever numbers of them
total-both : (f : Tree → ℕ) (op o : TwoOp) (w : ℕ) (x y : Tree) → same_op op o ≡ true → total_by f (parts op (two o w x y)) ≡ total_by f (parts op x) + total_by f (parts op y)
total-both f op o w x y s = ap (total_by f) (parts-opened op o w x y s) ∙ total_by-append f (parts op x) (parts op y)

total-turn : (f : Tree → ℕ) (op : TwoOp) (w : ℕ) (x y : Tree) → total_by f (parts op (in_turn op w x y)) ≡ total_by f (parts op x) + total_by f (parts op y)
total-turn f op w x y =
    in-turn (λ t. total_by f (parts op t) ≡ total_by f (parts op x) + total_by f (parts op y)) op w x y (λ _. total-both f op op w x y (same_op-itself op)) (λ _. omega (arith, total-both f op op w y x (same_op-itself op)))

total-joined : (f : Tree → ℕ) (op : TwoOp) (w : ℕ) (x y : Tree) → total_by f (parts op (joined op w x y)) ≡ total_by f (parts op x) + total_by f (parts op y)
total-joined f op w (leaf v k) y = total-turn f op w (leaf v k) y
total-joined f op w (constant v n) y = total-turn f op w (constant v n) y
total-joined f op w (one o v k x) y = total-turn f op w (one o v k x) y
total-joined f op w (sel v c a b) y = total-turn f op w (sel v c a b) y
total-joined f op w (two o v a b) y =
    let itself = same_op-itself op in
    elim (cases_Bool (same_op op o)) [
      | inl t ↦ elim (cases_Bool (not_after b y)) [
        | inl s ↦ ap (λ r. total_by f (parts op r)) (joined-last op o w v a b y t s) ∙ total-both f op op w (two o v a b) y itself
        | inr e ↦ (
            let inner = subst (λ p. total_by f (parts op (joined p v a y)) ≡ total_by f (parts op a) + total_by f (parts op y)) (same_op-same op o t) (total-joined f op v a y) in
            ap (λ r. total_by f (parts op r)) (joined-lower op o w v a b y t e) ∙ omega (arith, total-both f op op w (joined o v a y) b itself, inner, total-both f op o v a b t))
      ]
      | inr e ↦ ap (λ r. total_by f (parts op r)) (joined-apart op o w v a b y e) ∙ total-turn f op w (two o v a b) y
    ]

-- a term that neither a chain in order nor the part after it is after
record IsBound (op : TwoOp) (x y : Tree) : Type 0 where
  bound : Tree
  chain_leads : leads_to op x bound ≡ true
  part_leads : not_after y bound ≡ true

bound-closed : (op : TwoOp) (x y : Tree) → opens op x ≡ false → IsBound op x y
bound-closed op x y h =
    elim (cases_Bool (not_after x y)) [
      | inl t ↦ record { bound = y; chain_leads = leads-closed op x y h ∙ t; part_leads = not_after_itself y }
      | inr f ↦ record { bound = x; chain_leads = leads-closed op x x h ∙ not_after_itself x; part_leads = not_after_turned x y f }
    ]

bound-opened : (op o : TwoOp) (v : ℕ) (a b y : Tree) → same_op op o ≡ true → not (opens op b) && leads_to op a b ≡ true → IsBound op (two o v a b) y
bound-opened op o v a b y s h =
    elim (cases_Bool (not_after b y)) [
      | inl t ↦ record { bound = y; chain_leads = leads-opened op o v a b y s ∙ and_from _ _ t h; part_leads = not_after_itself y }
      | inr f ↦ record { bound = b; chain_leads = leads-opened op o v a b b s ∙ and_from _ _ (not_after_itself b) h; part_leads = not_after_turned b y f }
    ]

bound-some : (op : TwoOp) (x y : Tree) → makes_chains op ≡ true → is_disordered x ≡ false → IsBound op x y
bound-some op (leaf v k) y c h = bound-closed op (leaf v k) y refl
bound-some op (constant v n) y c h = bound-closed op (constant v n) y refl
bound-some op (one o v k x) y c h = bound-closed op (one o v k x) y refl
bound-some op (sel v e p q) y c h = bound-closed op (sel v e p q) y refl
bound-some op (two o v a b) y c h =
    elim (cases_Bool (same_op op o)) [
      | inl t ↦ (
          let same = same_op-same op o t in
          let ordered : in_order o a b ≡ true = not-false (in_order o a b) (sym (disordered-chain o a b (subst (λ p. makes_chains p ≡ true) same c)) ∙ h) in
          bound-opened op o v a b y t (subst (λ p. in_order p a b ≡ true) (sym same) ordered))
      | inr f ↦ bound-closed op (two o v a b) y f
    ]

-- the operation over two terms is in order where it leads to another
leads-ordered : (op : TwoOp) (w : ℕ) (x y q : Tree) → makes_chains op ≡ true → leads_to op (two op w x y) q ≡ true → is_disordered (two op w x y) ≡ false
leads-ordered op w x y q c h =
    let up = and_parts (not_after y q) _ (sym (leads-opened op op w x y q (same_op-itself op)) ∙ h) in
    disordered-chain op x y c ∙ not_from_true _ up.1

joined-sorted : (op : TwoOp) (w : ℕ) (x y : Tree) → makes_chains op ≡ true → WellFormed (two op w x y) → opens op y ≡ false → is_disordered x ≡ false → joined op w x y ≡ chain_of op w (sorted (parts op (two op w x y)))
joined-sorted op w x y c g d h =
    let made = joined op w x y in
    let root = over-joined op w x y in
    let fits = chain_fits op w (width_of x) (width_of y) c g.1 in
    let formed = formed-joined op w x y c g.0 (g.2, fits.0) (g.3, fits.1) in
    let up = bound-some op x y c h in
    let leads = leads-joined op w x y up.bound up.chain_leads d up.part_leads in
    let ordered = leads-ordered op w root.first root.second up.bound c (subst (λ t. leads_to op t up.bound ≡ true) root.is leads) in
    let once = in_order-sorted op w root.first root.second c (subst WellFormed root.is formed.0) ordered in
    let same : sorted (parts op made) ≡ sorted (parts op (two op w x y)) =
    one_rising (sorted (parts op made)) (sorted (parts op (two op w x y))) (rising-sorted (parts op made)) (rising-sorted (parts op (two op w x y))) (λ f. total_by-sorted f (parts op made) ∙ total-joined f op w x y ∙ sym (total-both f op op w x y (same_op-itself op)) ∙ sym (total_by-sorted f (parts op (two op w x y)))) in
    root.is ∙ sym once ∙ ap (λ t. chain_of op w (sorted (parts op t))) (sym root.is) ∙ ap (chain_of op w) same

ordered-is : (op : TwoOp) (w : ℕ) (x y : Tree) → makes_chains op ≡ true → put_in_order (two op w x y) ≡ chain_of op w (sorted (parts op (two op w x y)))
ordered-is Add w x y c = refl
ordered-is Mul w x y c = refl
ordered-is And w x y c = refl
ordered-is Or w x y c = refl
ordered-is Xor w x y c = refl
ordered-is Smin w x y c = refl
ordered-is Smax w x y c = refl
ordered-is Umin w x y c = refl
ordered-is Umax w x y c = refl
ordered-is Eq w x y c = absurd (cc)
ordered-is Slt w x y c = absurd (cc)
ordered-is Ult w x y c = absurd (cc)
ordered-is Cat w x y c = absurd (cc)

-- where the parts before the last are in order, putting it in puts the term in order
pub last_ordered : (t : Tree) → WellFormed t → is_in_order_but_last t ≡ true → last_put_in t ≡ put_in_order t
last_ordered (two op w x y) g h =
    let p = and_parts (makes_chains op) _ h in
    let q = and_parts (not (opens op y)) (not (is_disordered x)) p.1 in
    joined-sorted op w x y p.0 g (not-true (opens op y) q.0) (not-true (is_disordered x) q.1) ∙ sym (ordered-is op w x y p.0)
last_ordered (leaf w k) g h = absurd (cc)
last_ordered (constant w v) g h = absurd (cc)
last_ordered (one op w k x) g h = absurd (cc)
last_ordered (sel w c x y) g h = absurd (cc)
