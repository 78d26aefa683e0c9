-- Nodes of a pool: equal terms are one node, and what a pool keeps.
use Rattle.std.proofs.Common.{◌≡◌, ℕ, zero, suc, add-one, append_assoc, append-nil, ◌++◌, ◌+◌, ◌<◌, ◌≤◌, refl, sym, ap, ◌∙◌, subst, arith, inl, inr, Bool, true, false, List, [], ◌∷◌, length, get_or, take, drop, ◌-◌}
use Rattle.std.specs.Prelude.{nat_eq, ◌&&◌, Result, Ok, Err, OnOk}
use Rattle.std.proofs.lemmas.Bool.{cases_Bool, eqb-true, eqb-false, and_parts, cond-false}
use Rattle.std.proofs.lemmas.List.{take_all}
use Rattle.vg_terms.specs.Term.{two, sel, width_of}
use Rattle.vg_terms.specs.declared.term.TwoOp.TheVariants.{Cat}
use Rattle.vg_terms.specs.Order.{is_same_term}
use Rattle.vg_terms.proofs.Orders.{same_term, same_term-means}
use Rattle.vg_pool.specs.declared.content.Content.{Content}
use Rattle.vg_pool.specs.Pool.{IsPool, Keeps, StandsFor, tree_at}
use Rattle.vg_lift.specs.Gather.{clear, input, of_term, zeros, inputs, terms, continues, whole, size, start, gather_from, bits_from}
use Rattle.vg_lift.specs.Join.{is_same_bit, closed}
use Rattle.vg_lift.specs.declared.bit.Bit.{Bit}
use Rattle.vg_lift.specs.declared.bit.Bit.TheVariants.{Clear, Input, OfTerm}
use Rattle.vg_lift.specs.declared.run.Run.{Run}
use Rattle.vg_lift.specs.declared.run.Run.TheVariants.{Zeros, Inputs, Terms}
use Rattle.vg_lift.specs.Views.{bit_of, bits_of, run_of, IsNode, BitFits, BitsFit, RunFits, run_size, node_bits, OpenFits, open_of}
use Rattle.vg_lift.specs.declared.join.Open.TheVariants.{Differ}
use Rattle.vg_lift.proofs.Gathering.{whole-width, gather_from-width}

false-or : (b : Bool) → (b ≡ true → ⊥) → b ≡ false
false-or true h = absurd (h refl)
false-or false h = refl

-- two nodes have one term just where they are one node
pub node_same : (pool : List Content) (i j : ℕ) → IsPool pool → i < length pool → j < length pool → is_same_term (tree_at pool i) (tree_at pool j) ≡ nat_eq i j
node_same pool i j p a b = elim (cases_Bool (nat_eq i j)) [
  | inl t ↦ (same_term-means (tree_at pool i) (tree_at pool j)).1 (ap (tree_at pool) (eqb-true i j t)) ∙ sym t
  | inr f ↦ false-or (is_same_term (tree_at pool i) (tree_at pool j)) (λ e. eqb-false i j f (p.one_node i j a b (same_term _ _ e))) ∙ sym f
]

-- ---- a pool that has grown

pub node_kept : (old new : List Content) (node width : ℕ) → Keeps old new → IsNode old node width → IsNode new node width
node_kept old new node width k h = record { within = omega (arith, k.nodes, h.within); wide = ap width_of (k.trees node h.within) ∙ h.wide }

pub bit_fits : (old new : List Content) (b : Bit) → Keeps old new → BitFits old b → BitFits new b
bit_fits old new Clear k h = tt
bit_fits old new (Input p i) k h = tt
bit_fits old new (OfTerm node w i) k h = (node_kept old new node w k h.0, h.1)

pub bits_fit : (old new : List Content) (bs : List Bit) → Keeps old new → BitsFit old bs → BitsFit new bs
bits_fit old new [] k h = tt
bits_fit old new (b ∷ bs) k h = (bit_fits old new b k h.0, bits_fit old new bs k h.1)

pub run_fits : (old new : List Content) (r : Run) → Keeps old new → RunFits old r → RunFits new r
run_fits old new (Zeros n) k h = h
run_fits old new (Inputs p l n) k h = h
run_fits old new (Terms node w i n) k h = (h.0, node_kept old new node w k h.1, h.2)

pub bit_kept : (old new : List Content) (b : Bit) → Keeps old new → BitFits old b → bit_of new b ≡ bit_of old b
bit_kept old new Clear k h = refl
bit_kept old new (Input p i) k h = refl
bit_kept old new (OfTerm node w i) k h = ap (λ t. of_term t i) (k.trees node (h.0).within)

pub bits_kept : (old new : List Content) (bs : List Bit) → Keeps old new → BitsFit old bs → bits_of new bs ≡ bits_of old bs
bits_kept old new [] k h = refl
bits_kept old new (b ∷ bs) k h = ap (λ x. x ∷ bits_of new bs) (bit_kept old new b k h.0) ∙ ap (λ xs. bit_of old b ∷ xs) (bits_kept old new bs k h.1)

pub run_kept : (old new : List Content) (r : Run) → Keeps old new → RunFits old r → run_of new r ≡ run_of old r
run_kept old new (Zeros n) k h = refl
run_kept old new (Inputs p l n) k h = refl
run_kept old new (Terms node w i n) k h = ap (λ t. terms t i n) (k.trees node (h.1).within)

pub length_bits_of : (pool : List Content) (bs : List Bit) → length (bits_of pool bs) ≡ length bs
length_bits_of pool [] = refl
length_bits_of pool (b ∷ bs) = ap suc (length_bits_of pool bs)

-- ---- the next bit of a run

pub longer_fits : (pool : List Content) (node w k n other v j : ℕ) → RunFits pool (Terms node w k n) → BitFits pool (OfTerm other v j)
    → continues (run_of pool (Terms node w k n)) (bit_of pool (OfTerm other v j)) ≡ true → k + (n + 1) ≤ w
longer_fits pool node w k n other v j h g e =
    let parts = and_parts (is_same_term (tree_at pool node) (tree_at pool other)) (nat_eq j (k + n)) e in
    let same = same_term (tree_at pool node) (tree_at pool other) parts.0 in
    let next = eqb-true j (k + n) parts.1 in
    let wide : w ≡ v = sym (h.1).wide ∙ ap width_of same ∙ (g.0).wide in
    omega (arith, g.1)

pub continues_at : (pool : List Content) (run : Run) (bit : Bit) (node w k n other v j : ℕ) → run ≡ Terms node w k n → bit ≡ OfTerm other v j → IsPool pool → RunFits pool run → BitFits pool bit
    → (nat_eq node other && nat_eq j (k + n)) ≡ continues (run_of pool run) (bit_of pool bit)
continues_at pool run bit node w k n other v j e f p h g =
    let r : RunFits pool (Terms node w k n) = subst (RunFits pool) e h in
    let b : BitFits pool (OfTerm other v j) = subst (BitFits pool) f g in
    sym (rw (e, f) (ap (λ t. t && nat_eq j (k + n)) (node_same pool node other p (r.1).within (b.0).within)))

pub longer_at : (pool : List Content) (run : Run) (bit : Bit) (node w k n : ℕ) → run ≡ Terms node w k n → RunFits pool run → BitFits pool bit → continues (run_of pool run) (bit_of pool bit) ≡ true
    → RunFits pool (Terms node w k (n + 1))
longer_at pool run Clear node w k n e h g t = let q = subst (λ r. continues (run_of pool r) clear ≡ true) e t in absurd (cc)
longer_at pool run (Input p i) node w k n e h g t = let q = subst (λ r. continues (run_of pool r) (input p i) ≡ true) e t in absurd (cc)
longer_at pool run (OfTerm other v j) node w k n e h g t =
    let r : RunFits pool (Terms node w k n) = subst (RunFits pool) e h in
    (omega arith, r.1, longer_fits pool node w k n other v j r g (subst (λ r. continues (run_of pool r) (of_term (tree_at pool other) j) ≡ true) e t))

-- ---- gathered nodes

pub run_width : (pool : List Content) (r : Run) → width_of (whole (run_of pool r)) ≡ run_size r
run_width pool (Zeros n) = whole-width (zeros n)
run_width pool (Inputs p l n) = whole-width (inputs p l n)
run_width pool (Terms node w k n) = whole-width (terms (tree_at pool node) k n)

-- a node of the term of a run has its width
pub wide_run : (old new : List Content) (r : Run) (node : ℕ) → StandsFor new node (whole (run_of old r)) → width_of (tree_at new node) ≡ run_size r
wide_run old new r node h = ap width_of h.is ∙ run_width old r

pub size_of : (pool : List Content) (r : Run) → size (run_of pool r) ≡ run_size r
size_of pool (Zeros n) = refl
size_of pool (Inputs p l n) = refl
size_of pool (Terms node w k n) = refl

pub gathered_node : (old new : List Content) (r : Run) (bs : List Bit) (node : ℕ) → StandsFor new node (gather_from (run_of old r) (bits_of old bs)) → run_size r ≡ 1 → IsNode new node (length bs + 1)
gathered_node old new r bs node h e = record {
  within = h.within;
  wide = ap width_of h.is ∙ gather_from-width (run_of old r) (bits_of old bs)
      ∙ ap (λ n. n + length (bits_of old bs)) (size_of old r ∙ e) ∙ ap (λ n. 1 + n) (length_bits_of old bs) ∙ omega arith;
}

-- a list that is not empty is its first member and the rest
pub first_rest : {A : Type 0} (d : A) (bs : List A) → 0 < length bs → bs ≡ get_or bs 0 d ∷ take (length bs - 1) (drop 1 bs)
first_rest d [] h = absurd (omega arith)
first_rest d (b ∷ bs) h = ap (λ l. b ∷ l) (sym (take_all (suc (length bs) - 1) bs (omega arith)))

abbrev rest_of : List Bit → List Bit
rest_of bits = take (length bits - 1) (drop 1 bits)

-- a run after which there is another
pub gathered_above : (old new : List Content) (run next : Run) (bits : List Bit) (above : ℕ) → 0 < length bits
    → continues (run_of old run) (bit_of old (get_or bits 0 Clear)) ≡ false → RunFits old run → Keeps old new
    → run_of old next ≡ start (bit_of old (get_or bits 0 Clear)) → StandsFor new above (gather_from (run_of old next) (bits_of old (rest_of bits)))
    → two Cat (run_size run + (length (rest_of bits) + 1)) (tree_at new above) (whole (run_of new run)) ≡ gather_from (run_of old run) (bits_of old bits)
gathered_above old new run next bits above some stops fits keeps begins stands =
    let r = run_of old run in
    let x = bit_of old (get_or bits 0 Clear) in
    let xs = bits_of old (rest_of bits) in
    let whole_list : bits_of old bits ≡ x ∷ xs = ap (bits_of old) (first_rest Clear bits some) in
    let counts : run_size run + (length (rest_of bits) + 1) ≡ size r + suc (length xs) =
    ap (λ n. n + (length (rest_of bits) + 1)) (sym (size_of old run)) ∙ ap (λ n. size r + n) (omega (arith, length_bits_of old (rest_of bits))) in
    ap (λ n. two Cat n (tree_at new above) (whole (run_of new run))) counts
    ∙ ap (λ t. two Cat (size r + suc (length xs)) t (whole (run_of new run))) (stands.is ∙ ap (λ q. gather_from q xs) begins)
    ∙ ap (λ q. two Cat (size r + suc (length xs)) (gather_from (start x) xs) (whole q)) (run_kept old new run keeps fits)
    ∙ sym (cond-false _ _ _ stops)
    ∙ ap (gather_from r) (sym whole_list)

-- ---- joining

pub same_at : (pool : List Content) (x y : Bit) (node w k other v j : ℕ) → x ≡ OfTerm node w k → y ≡ OfTerm other v j → IsPool pool → BitFits pool x → BitFits pool y
    → (nat_eq node other && nat_eq k j) ≡ is_same_bit (bit_of pool x) (bit_of pool y)
same_at pool x y node w k other v j e f p h g =
    let a : BitFits pool (OfTerm node w k) = subst (BitFits pool) e h in
    let b : BitFits pool (OfTerm other v j) = subst (BitFits pool) f g in
    sym (rw (e, f) (ap (λ t. t && nat_eq k j) (node_same pool node other p (a.0).within (b.0).within)))

pub push_step : (node w bit end : ℕ) (l : List Bit) → bit < end → l ++ node_bits node w bit (end - bit) ≡ (l ++ OfTerm node w bit ∷ []) ++ node_bits node w (bit + 1) (end - (bit + 1))
push_step node w bit end l h =
    let e : end - bit ≡ suc (end - (bit + 1)) = omega arith in
    ap (λ n. l ++ node_bits node w bit n) e
    ∙ ap (λ k. l ++ (OfTerm node w bit ∷ node_bits node w k (end - (bit + 1)))) (sym (add-one bit))
    ∙ sym (append_assoc l (OfTerm node w bit ∷ []) (node_bits node w (bit + 1) (end - (bit + 1))))

pub push_end : (node w bit end : ℕ) (l : List Bit) → bit ≤ end → (bit < end → ⊥) → l ++ node_bits node w bit (end - bit) ≡ l
push_end node w bit end l h g = let e : end - bit ≡ 0 = omega arith in ap (λ n. l ++ node_bits node w bit n) e ∙ append-nil l

pub push_begin : (node w from count : ℕ) (l : List Bit) → l ++ node_bits node w from (from + count - from) ≡ l ++ node_bits node w from count
push_begin node w from count l = let e : from + count - from ≡ count = omega arith in ap (λ n. l ++ node_bits node w from n) e

pub node_bits-of : (pool : List Content) (node w k n : ℕ) → bits_of pool (node_bits node w k n) ≡ bits_from (tree_at pool node) k n
node_bits-of pool node w k zero = refl
node_bits-of pool node w k (suc n) = ap (λ l. of_term (tree_at pool node) k ∷ l) (node_bits-of pool node w (suc k) n)

pub node_bits-fit : (pool : List Content) (node w k n : ℕ) → IsNode pool node w → k + n ≤ w → BitsFit pool (node_bits node w k n)
node_bits-fit pool node w k zero h f = tt
node_bits-fit pool node w k (suc n) h f = ((h, omega arith), node_bits-fit pool node w (suc k) n h (omega arith))

pub append_of : (pool : List Content) (xs ys : List Bit) → bits_of pool (xs ++ ys) ≡ bits_of pool xs ++ bits_of pool ys
append_of pool [] ys = refl
append_of pool (x ∷ xs) ys = ap (λ l. bit_of pool x ∷ l) (append_of pool xs ys)

pub append_fit : (pool : List Content) (xs ys : List Bit) → BitsFit pool xs → BitsFit pool ys → BitsFit pool (xs ++ ys)
append_fit pool [] ys f g = g
append_fit pool (x ∷ xs) ys f g = (f.0, append_fit pool xs ys f.1 g)

pub onok : {T E : Type 0} {P Q : Type 0} (r : Result T E) → (P → Q) → OnOk r P → OnOk r Q
onok (Ok x) f h = f h
onok (Err e) f h = tt

pub closed_bits : (old new : List Content) (first second : Run) (c node : ℕ) (done : List Bit) → Keeps old new → OpenFits old (Differ first second) → BitsFit old done
    → StandsFor new node (sel (run_size first) (tree_at old c) (whole (run_of old first)) (whole (run_of old second)))
    → bits_of new (done ++ node_bits node (run_size first) 0 (run_size first)) ≡ bits_of old done ++ closed (tree_at old c) (open_of old (Differ first second))
closed_bits old new first second c node done k h fits stands =
    let n = run_size first in
    let m = size_of old first in
    append_of new done (node_bits node n 0 n)
    ∙ ap (λ l. l ++ bits_of new (node_bits node n 0 n)) (bits_kept old new done k fits)
    ∙ ap (λ l. bits_of old done ++ l) (node_bits-of new node n 0 n ∙ ap (λ t. bits_from t 0 n) stands.is
    ∙ ap (λ v. bits_from (sel v (tree_at old c) (whole (run_of old first)) (whole (run_of old second))) 0 v) (sym m))

pub closed_fit : (old new : List Content) (first second : Run) (c node : ℕ) (done : List Bit) → Keeps old new → OpenFits old (Differ first second) → BitsFit old done
    → StandsFor new node (sel (run_size first) (tree_at old c) (whole (run_of old first)) (whole (run_of old second)))
    → BitsFit new (done ++ node_bits node (run_size first) 0 (run_size first))
closed_fit old new first second c node done k h fits stands =
    append_fit new done _ (bits_fit old new done k fits)
    (node_bits-fit new node (run_size first) 0 (run_size first) (record { within = stands.within; wide = ap width_of stands.is }) (omega arith))
