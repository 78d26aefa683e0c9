-- Joining registers and variables, one after the other.
use Rattle.std.proofs.Common.{◌≡◌, ℕ, zero, suc, append_assoc, append-nil, ◌++◌, ◌+◌, ◌<◌, ◌≤◌, refl, sym, ap, ◌∙◌, arith, inl, inr, true, false, List, [], ◌∷◌, length, get_or, take, drop, length-append, length-take, length-drop}
use Rattle.std.specs.Prelude.{map, slice_index_or}
use Rattle.std.proofs.lemmas.Bool.{cases_Bool, eq-eqb, ne_eqb, cond-true, cond-false}
use Rattle.std.proofs.lemmas.List.{map-append, length-map}
use Rattle.vg_terms.specs.Term.{Tree, sel, width_of}
use Rattle.vg_terms.specs.Order.{is_same_term}
use Rattle.vg_pool.specs.declared.content.Content.{Content}
use Rattle.vg_pool.specs.Pool.{IsPool, Keeps, StandsFor, tree_at}
use Rattle.vg_bits.specs.Range.{range}
use Rattle.vg_lift.specs.Gather as pure
use Rattle.vg_lift.specs.LaneTerm as lane
use Rattle.vg_lift.specs.Gather.{size, start, longer, bits_from}
use Rattle.vg_lift.specs.Join.{Open, shut, differ, closed, goes_on, opened, is_same_bit, join_from, join, join_registers, join_variables}
use Rattle.vg_lift.specs.States.{AllFit, AreNodes, joined_node}
use Rattle.vg_lift.specs.declared.bit.Bit.{Bit}
use Rattle.vg_lift.specs.Views.{bit_of, bits_of, IsNode, BitsFit}
use Rattle.vg_lift.proofs.Gathering.{start-size, longer-size}
use Rattle.vg_lift.proofs.Joining.{length-bits_from}
use Rattle.vg_lift.proofs.Nodes.{node_same, node_kept, bits_kept, bits_fit, length_bits_of}
use Rattle.vg_lift.proofs.JoinSteps.{drop_first, drop_end}

-- ---- variables

pub nodes_kept : (old new : List Content) (ns : List ℕ) → Keeps old new → AreNodes old ns → AreNodes new ns
nodes_kept old new [] k h = tt
nodes_kept old new (n ∷ ns) k h = (node_kept old new n 128 k h.0, nodes_kept old new ns k h.1)

pub trees_kept : (old new : List Content) (ns : List ℕ) → Keeps old new → AreNodes old ns → map (tree_at new) ns ≡ map (tree_at old) ns
trees_kept old new [] k h = refl
trees_kept old new (n ∷ ns) k h = ap (λ t. t ∷ map (tree_at new) ns) (k.trees n (h.0).within) ∙ ap (λ l. tree_at old n ∷ l) (trees_kept old new ns k h.1)

pub node_at : (pool : List Content) (ns : List ℕ) (i : ℕ) → i < length ns → AreNodes pool ns → IsNode pool (get_or ns i 0) 128
node_at pool [] i h f = absurd (omega arith)
node_at pool (n ∷ ns) zero h f = f.0
node_at pool (n ∷ ns) (suc i) h f = node_at pool ns i (omega arith) f.1

pub node_behind : (pool : List Content) (ns : List ℕ) (n : ℕ) → AreNodes pool ns → IsNode pool n 128 → AreNodes pool (ns ++ n ∷ [])
node_behind pool [] n h g = (g, tt)
node_behind pool (x ∷ ns) n h g = (h.0, node_behind pool ns n h.1 g)

pub variables_step : (old now new : List Content) (c i n : ℕ) (xs ys done : List ℕ) → i < length xs → length xs ≡ length ys → Keeps old now → Keeps now new → IsNode old c 1
    → AreNodes old xs → AreNodes old ys → AreNodes now done → StandsFor new n (joined_node (tree_at now c) (tree_at now (get_or xs i 0)) (tree_at now (get_or ys i 0)))
    → map (tree_at new) (done ++ n ∷ []) ++ join_variables (tree_at old c) (map (tree_at old) (drop (i + 1) xs)) (map (tree_at old) (drop (i + 1) ys))
    ≡ map (tree_at now) done ++ join_variables (tree_at old c) (map (tree_at old) (drop i xs)) (map (tree_at old) (drop i ys))
variables_step old now new c i n xs ys done h long k l node f g d s =
    let t = tree_at old c in
    let inside : i < length ys = omega (arith, long) in
    let xr = map (tree_at old) (drop (i + 1) xs) in
    let yr = map (tree_at old) (drop (i + 1) ys) in
    let x = get_or xs i 0 in
    let y = get_or ys i 0 in
    let first : map (tree_at old) (drop i xs) ≡ tree_at old x ∷ xr = ap (map (tree_at old)) (drop_first 0 i xs h) in
    let second : map (tree_at old) (drop i ys) ≡ tree_at old y ∷ yr = ap (map (tree_at old)) (drop_first 0 i ys inside) in
    let this : tree_at new n ≡ joined_node t (tree_at old x) (tree_at old y) =
    s.is ∙ ap (λ u. joined_node u (tree_at now x) (tree_at now y)) (k.trees c node.within)
    ∙ ap (λ u. joined_node t u (tree_at now y)) (k.trees x (node_at old xs i h f).within)
    ∙ ap (λ u. joined_node t (tree_at old x) u) (k.trees y (node_at old ys i inside g).within) in
    ap (λ l. l ++ join_variables t xr yr) (map-append (tree_at new) done (n ∷ []))
    ∙ append_assoc (map (tree_at new) done) (tree_at new n ∷ []) (join_variables t xr yr)
    ∙ ap (λ l. l ++ (tree_at new n ∷ join_variables t xr yr)) (trees_kept now new done l d)
    ∙ ap (λ v. map (tree_at now) done ++ (v ∷ join_variables t xr yr)) this
    ∙ ap (λ l. map (tree_at now) done ++ join_variables t l (tree_at old y ∷ yr)) (sym first)
    ∙ ap (λ l. map (tree_at now) done ++ join_variables t (map (tree_at old) (drop i xs)) l) (sym second)

pub variables_end : (old now : List Content) (c i : ℕ) (xs ys done : List ℕ) → length xs ≤ i
    → map (tree_at now) done ++ join_variables (tree_at old c) (map (tree_at old) (drop i xs)) (map (tree_at old) (drop i ys)) ≡ map (tree_at now) done
variables_end old now c i xs ys done h =
    ap (λ l. map (tree_at now) done ++ join_variables (tree_at old c) (map (tree_at old) l) (map (tree_at old) (drop i ys))) (drop_end i xs h) ∙ append-nil (map (tree_at now) done)

-- ---- registers

pub registers_kept : (old new : List Content) (rs : List (List Bit)) → Keeps old new → AllFit old rs → AllFit new rs
registers_kept old new [] k h = tt
registers_kept old new (r ∷ rs) k h = (bits_fit old new r k h.0, registers_kept old new rs k h.1)

pub all_kept : (old new : List Content) (rs : List (List Bit)) → Keeps old new → AllFit old rs → map (bits_of new) rs ≡ map (bits_of old) rs
all_kept old new [] k h = refl
all_kept old new (r ∷ rs) k h = ap (λ t. t ∷ map (bits_of new) rs) (bits_kept old new r k h.0) ∙ ap (λ l. bits_of old r ∷ l) (all_kept old new rs k h.1)

pub register_at : (pool : List Content) (rs : List (List Bit)) (i : ℕ) → AllFit pool rs → BitsFit pool (get_or rs i [])
register_at pool [] i f = tt
register_at pool (r ∷ rs) zero f = f.0
register_at pool (r ∷ rs) (suc i) f = register_at pool rs i f.1

pub register_behind : (pool : List Content) (rs : List (List Bit)) (r : List Bit) → AllFit pool rs → BitsFit pool r → AllFit pool (rs ++ r ∷ [])
register_behind pool [] r h g = (g, tt)
register_behind pool (x ∷ rs) r h g = (h.0, register_behind pool rs r h.1 g)

pub same_count : (xs ys : List (List Bit)) → map length xs ≡ map length ys → length xs ≡ length ys
same_count xs ys e = sym (length-map xs length) ∙ ap length e ∙ length-map ys length

lengths_at : (rs : List (List Bit)) (i : ℕ) → get_or (map length rs) i 0 ≡ length (get_or rs i [])
lengths_at [] i = refl
lengths_at (r ∷ rs) zero = refl
lengths_at (r ∷ rs) (suc i) = lengths_at rs i

pub register_width : (xs ys : List (List Bit)) (i : ℕ) → map length xs ≡ map length ys → length (get_or xs i []) ≡ length (get_or ys i [])
register_width xs ys i e = sym (lengths_at xs i) ∙ ap (λ l. get_or l i 0) e ∙ lengths_at ys i

open_size : Open → ℕ
open_size shut = 0
open_size (differ r q) = size r

closed-size : (c : Tree) (o : Open) → length (closed c o) ≡ open_size o
unfolding open_size
closed-size c shut = refl
closed-size c (differ r q) = length-bits_from _ 0 (size r)

opened-size : (o : Open) (i : ℕ) (x y : pure.Bit) → goes_on o i x y ≡ true → open_size (opened o) ≡ suc (open_size o)
unfolding open_size
opened-size shut i x y e = absurd (cc)
opened-size (differ r q) i x y e = longer-size r

opening-size : (x y : pure.Bit) → open_size (differ (start x) (start y)) ≡ 1
unfolding open_size
opening-size x y = start-size x

join_from-length : (c : Tree) (o : Open) (i : ℕ) (xs ys : List pure.Bit) → length xs ≡ length ys → length (join_from c o i xs ys) ≡ open_size o + length xs
unfolding open_size
join_from-length c o i [] ys e = closed-size c o ∙ omega arith
join_from-length c o i (x ∷ xs) [] e = absurd (omega arith)
join_from-length c o i (x ∷ xs) (y ∷ ys) e =
    let long : length xs ≡ length ys = omega arith in
    elim (cases_Bool (is_same_bit x y)) [
      | inl s ↦ rw s (length-append (closed c o) (x ∷ join_from c shut (suc i) xs ys) ∙ omega (arith, closed-size c o, join_from-length c shut (suc i) xs ys long))
      | inr s ↦ rw s (elim (cases_Bool (goes_on o i x y)) [
        | inl g ↦ rw g (join_from-length c (opened o) (suc i) xs ys long ∙ omega (arith, opened-size o i x y g))
        | inr g ↦ rw g (length-append (closed c o) (join_from c (differ (start x) (start y)) (suc i) xs ys)
            ∙ omega (arith, closed-size c o, join_from-length c (differ (start x) (start y)) (suc i) xs ys long, opening-size x y))
      ])
    ]

pub join-length : (c : Tree) (xs ys : List pure.Bit) → length xs ≡ length ys → length (join c xs ys) ≡ length xs
unfolding open_size
join-length c xs ys e = join_from-length c shut 0 xs ys e ∙ omega arith

-- the width of a joined register
pub width_behind : (old now new : List Content) (t : Tree) (xs ys : List (List Bit)) (done : List (List Bit)) (bits : List Bit) (i : ℕ) → i < length xs → map length xs ≡ map length ys
    → bits_of new bits ≡ join t (bits_of now (get_or xs i [])) (bits_of now (get_or ys i [])) → map length done ≡ map length (take i xs)
    → map length (done ++ bits ∷ []) ≡ map length (take (i + 1) xs)
width_behind old now new t xs ys done bits i h w e d =
    let x = get_or xs i [] in
    let y = get_or ys i [] in
    let long : length (bits_of now x) ≡ length (bits_of now y) = length_bits_of now x ∙ register_width xs ys i w ∙ sym (length_bits_of now y) in
    let n : length bits ≡ length x = sym (length_bits_of new bits) ∙ ap length e ∙ join-length t (bits_of now x) (bits_of now y) long ∙ length_bits_of now x in
    map-append length done (bits ∷ []) ∙ ap (λ l. l ++ length bits ∷ []) d ∙ ap (λ m. map length (take i xs) ++ m ∷ []) n
    ∙ sym (map-append length (take i xs) (x ∷ [])) ∙ ap (map length) (sym (take_more [] i xs h))
  where
    take_more : {A : Type 0} (d : A) (i : ℕ) (xs : List A) → i < length xs → take (i + 1) xs ≡ take i xs ++ get_or xs i d ∷ []
    take_more d i [] h = absurd (omega arith)
    take_more d zero (x ∷ xs) h = let e : 0 + 1 ≡ suc 0 = omega arith in ap (λ n. take n (x ∷ xs)) e ∙ ap (λ l. x ∷ l) (none_taken xs)
      where
        none_taken : {A : Type 0} (xs : List A) → take 0 xs ≡ []
        none_taken [] = refl
        none_taken (x ∷ xs) = refl
    take_more d (suc i) (x ∷ xs) h = let e : suc i + 1 ≡ suc (i + 1) = omega arith in ap (λ n. take n (x ∷ xs)) e ∙ ap (λ l. x ∷ l) (take_more d i xs (omega arith))

pub registers_step : (old now new : List Content) (c i : ℕ) (bits : List Bit) (xs ys done : List (List Bit)) → i < length xs → map length xs ≡ map length ys → Keeps old now → Keeps now new → IsNode old c 1
    → AllFit old xs → AllFit old ys → AllFit now done → bits_of new bits ≡ join (tree_at now c) (bits_of now (get_or xs i [])) (bits_of now (get_or ys i []))
    → map (bits_of new) (done ++ bits ∷ []) ++ join_registers (tree_at old c) (map (bits_of old) (drop (i + 1) xs)) (map (bits_of old) (drop (i + 1) ys))
    ≡ map (bits_of now) done ++ join_registers (tree_at old c) (map (bits_of old) (drop i xs)) (map (bits_of old) (drop i ys))
registers_step old now new c i bits xs ys done h widths k l node f g d e =
    let t = tree_at old c in
    let inside : i < length ys = omega (arith, same_count xs ys widths) in
    let xr = map (bits_of old) (drop (i + 1) xs) in
    let yr = map (bits_of old) (drop (i + 1) ys) in
    let x = get_or xs i [] in
    let y = get_or ys i [] in
    let first : map (bits_of old) (drop i xs) ≡ bits_of old x ∷ xr = ap (map (bits_of old)) (drop_first [] i xs h) in
    let second : map (bits_of old) (drop i ys) ≡ bits_of old y ∷ yr = ap (map (bits_of old)) (drop_first [] i ys inside) in
    let this : bits_of new bits ≡ join t (bits_of old x) (bits_of old y) =
    e ∙ ap (λ u. join u (bits_of now x) (bits_of now y)) (k.trees c node.within)
    ∙ ap (λ u. join t u (bits_of now y)) (bits_kept old now x k (register_at old xs i f))
    ∙ ap (λ u. join t (bits_of old x) u) (bits_kept old now y k (register_at old ys i g)) in
    ap (λ l. l ++ join_registers t xr yr) (map-append (bits_of new) done (bits ∷ []))
    ∙ append_assoc (map (bits_of new) done) (bits_of new bits ∷ []) (join_registers t xr yr)
    ∙ ap (λ l. l ++ (bits_of new bits ∷ join_registers t xr yr)) (all_kept now new done l d)
    ∙ ap (λ v. map (bits_of now) done ++ (v ∷ join_registers t xr yr)) this
    ∙ ap (λ l. map (bits_of now) done ++ join_registers t l (bits_of old y ∷ yr)) (sym first)
    ∙ ap (λ l. map (bits_of now) done ++ join_registers t (map (bits_of old) (drop i xs)) l) (sym second)

pub registers_end : (old now : List Content) (c i : ℕ) (xs ys done : List (List Bit)) → length xs ≤ i
    → map (bits_of now) done ++ join_registers (tree_at old c) (map (bits_of old) (drop i xs)) (map (bits_of old) (drop i ys)) ≡ map (bits_of now) done
registers_end old now c i xs ys done h =
    ap (λ l. map (bits_of now) done ++ join_registers (tree_at old c) (map (bits_of old) l) (map (bits_of old) (drop i ys))) (drop_end i xs h) ∙ append-nil (map (bits_of now) done)

-- ---- one variable

pub joined_same : (pool : List Content) (c x y : ℕ) → x ≡ y → IsPool pool → IsNode pool x 128 → IsNode pool y 128 → StandsFor pool x (joined_node (tree_at pool c) (tree_at pool x) (tree_at pool y))
joined_same pool c x y e p h g =
    let t : is_same_term (tree_at pool x) (tree_at pool y) ≡ true = node_same pool x y p h.within g.within ∙ eq-eqb x y e in
    record { within = h.within; is = sym (cond-true _ _ _ t) }

pub joined_apart : (pool : List Content) (c x y : ℕ) → (x ≡ y → ⊥) → IsPool pool → IsNode pool x 128 → IsNode pool y 128
    → sel (width_of (tree_at pool x)) (tree_at pool c) (tree_at pool x) (tree_at pool y) ≡ joined_node (tree_at pool c) (tree_at pool x) (tree_at pool y)
joined_apart pool c x y e p h g =
    let t : is_same_term (tree_at pool x) (tree_at pool y) ≡ false = node_same pool x y p h.within g.within ∙ ne_eqb x y e in
    ap (λ w. sel w (tree_at pool c) (tree_at pool x) (tree_at pool y)) h.wide ∙ sym (cond-false _ _ _ t)

pub listed_node : (pool : List Content) (ns : List ℕ) (i : ℕ) → i < length ns → AreNodes pool ns → IsNode pool (slice_index_or ns i 0) 128
listed_node pool ns i h f = node_at pool ns i h f

abbrev pub made : List (List pure.Bit) → List Tree → lane.State
made rs vs = record { registers = rs; variables = vs }

pub state_at : (rs qs : List (List pure.Bit)) (vs us : List Tree) → rs ≡ qs → vs ≡ us → made rs vs ≡ made qs us
state_at rs qs vs us e f = ap (λ r. made r vs) e ∙ ap (made qs) f

-- ---- a slice

pub take_of : (pool : List Content) (n : ℕ) (bs : List Bit) → bits_of pool (take n bs) ≡ take n (bits_of pool bs)
take_of pool zero [] = refl
take_of pool zero (b ∷ bs) = refl
take_of pool (suc n) [] = refl
take_of pool (suc n) (b ∷ bs) = ap (λ l. bit_of pool b ∷ l) (take_of pool n bs)

pub drop_of : (pool : List Content) (n : ℕ) (bs : List Bit) → bits_of pool (drop n bs) ≡ drop n (bits_of pool bs)
drop_of pool zero [] = refl
drop_of pool zero (b ∷ bs) = refl
drop_of pool (suc n) [] = refl
drop_of pool (suc n) (b ∷ bs) = drop_of pool n bs

pub take_fits : (pool : List Content) (n : ℕ) (bs : List Bit) → BitsFit pool bs → BitsFit pool (take n bs)
take_fits pool zero [] h = tt
take_fits pool zero (b ∷ bs) h = tt
take_fits pool (suc n) [] h = tt
take_fits pool (suc n) (b ∷ bs) h = (h.0, take_fits pool n bs h.1)

pub drop_fits : (pool : List Content) (n : ℕ) (bs : List Bit) → BitsFit pool bs → BitsFit pool (drop n bs)
drop_fits pool zero [] h = tt
drop_fits pool zero (b ∷ bs) h = h
drop_fits pool (suc n) [] h = tt
drop_fits pool (suc n) (b ∷ bs) h = drop_fits pool n bs h.1

pub range_of : (pool : List Content) (l w : ℕ) (bs : List Bit) → bits_of pool (range l w bs) ≡ range l w (bits_of pool bs)
range_of pool l w bs = take_of pool w (drop l bs) ∙ ap (take w) (drop_of pool l bs)

pub range_fits : (pool : List Content) (l w : ℕ) (bs : List Bit) → BitsFit pool bs → BitsFit pool (range l w bs)
range_fits pool l w bs h = take_fits pool w (drop l bs) (drop_fits pool l bs h)

pub range_length : (l w : ℕ) (bs : List Bit) → l + w ≤ length bs → length (range l w bs) ≡ w
range_length l w bs h = simp (length-take, length-drop) (omega arith)
