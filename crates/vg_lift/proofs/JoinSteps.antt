-- Joining two lists of bits, place by place.
use Rattle.std.proofs.Common.{◌≡◌, ℕ, zero, suc, add-one, append_assoc, ◌++◌, ◌+◌, ◌<◌, ◌≤◌, refl, sym, ap, ◌∙◌, arith, inl, inr, List, [], ◌∷◌, length, get_or, drop}
use Rattle.std.proofs.lemmas.Bool.{cases_Bool}
use Rattle.vg_terms.specs.Term.{Tree}
use Rattle.vg_pool.specs.declared.content.Content.{Content}
use Rattle.vg_pool.specs.Pool.{Keeps, tree_at}
use Rattle.vg_lift.specs.Gather.{start}
use Rattle.vg_lift.specs.Gather as pure
use Rattle.vg_lift.specs.Join.{shut, differ, closed, goes_on, opened, is_same_bit, join_from}
use Rattle.vg_lift.specs.Join as pure_join
use Rattle.vg_lift.specs.Steps.{Joining, joining, joined_bit}
use Rattle.vg_lift.specs.declared.bit.Bit.{Bit}
use Rattle.vg_lift.specs.declared.bit.Bit.TheVariants.{Clear}
use Rattle.vg_lift.specs.declared.join.Open.{Open}
use Rattle.vg_lift.specs.Views.{bit_of, bits_of, IsNode, BitFits, BitsFit, open_of}
use Rattle.vg_lift.proofs.Nodes.{bit_kept}

-- one place of two lists
pure_step : (c : Tree) (i : ℕ) (x y : pure.Bit) (xs ys : List pure.Bit) (j : Joining)
    → j.done ++ join_from c j.open_range i (x ∷ xs) (y ∷ ys) ≡ (joined_bit c i x y j).done ++ join_from c (joined_bit c i x y j).open_range (suc i) xs ys
pure_step c i x y xs ys j = elim (cases_Bool (is_same_bit x y)) [
  | inl s ↦ rw s (
      sym (append_assoc j.done (closed c j.open_range) (x ∷ join_from c shut (suc i) xs ys))
      ∙ sym (append_assoc (j.done ++ closed c j.open_range) (x ∷ []) (join_from c shut (suc i) xs ys)))
  | inr s ↦ rw s (elim (cases_Bool (goes_on j.open_range i x y)) [
    | inl g ↦ rw g refl
    | inr g ↦ rw g (sym (append_assoc j.done (closed c j.open_range) (join_from c (differ (start x) (start y)) (suc i) xs ys)))
  ])
]

pub drop_first : {A : Type 0} (d : A) (i : ℕ) (xs : List A) → i < length xs → drop i xs ≡ get_or xs i d ∷ drop (i + 1) xs
drop_first d i [] h = absurd (omega arith)
drop_first d zero (x ∷ xs) h = refl
drop_first d (suc i) (x ∷ xs) h = drop_first d i xs (omega arith) ∙ (let e : suc (i + 1) ≡ suc i + 1 = omega arith in ap (λ n. get_or xs i d ∷ drop n (x ∷ xs)) e)

pub drop_end : {A : Type 0} (i : ℕ) (xs : List A) → length xs ≤ i → drop i xs ≡ []
drop_end zero [] h = refl
drop_end (suc i) [] h = refl
drop_end zero (x ∷ xs) h = absurd (omega arith)
drop_end (suc i) (x ∷ xs) h = drop_end i xs (omega arith)

pub bit_at : (pool : List Content) (bs : List Bit) (i : ℕ) → i < length bs → BitsFit pool bs → BitFits pool (get_or bs i Clear)
bit_at pool [] i h f = tt
bit_at pool (b ∷ bs) zero h f = f.0
bit_at pool (b ∷ bs) (suc i) h f = bit_at pool bs i (omega arith) f.1

pub join_step : (old now new : List Content) (c i : ℕ) (xs ys done more : List Bit) (range next : Open)
    → i < length xs → length xs ≡ length ys → Keeps old now → IsNode old c 1 → BitsFit old xs → BitsFit old ys
    → joining (bits_of new more) (open_of new next) ≡ joined_bit (tree_at now c) i (bit_of now (get_or xs i Clear)) (bit_of now (get_or ys i Clear)) (joining (bits_of now done) (open_of now range))
    → bits_of new more ++ join_from (tree_at old c) (open_of new next) (i + 1) (bits_of old (drop (i + 1) xs)) (bits_of old (drop (i + 1) ys))
    ≡ bits_of now done ++ join_from (tree_at old c) (open_of now range) i (bits_of old (drop i xs)) (bits_of old (drop i ys))
join_step old now new c i xs ys done more range next h long k node f g e =
    let t = tree_at old c in
    let inside : i < length ys = omega (arith, long) in
    let xr = bits_of old (drop (i + 1) xs) in
    let yr = bits_of old (drop (i + 1) ys) in
    let x = bit_of old (get_or xs i Clear) in
    let y = bit_of old (get_or ys i Clear) in
    let here = joining (bits_of now done) (open_of now range) in
    let first = ap (bits_of old) (drop_first Clear i xs h) in
    let second = ap (bits_of old) (drop_first Clear i ys inside) in
    let there : joining (bits_of new more) (open_of new next) ≡ joined_bit t i x y here =
    e ∙ ap (λ u. joined_bit u i (bit_of now (get_or xs i Clear)) (bit_of now (get_or ys i Clear)) here) (k.trees c node.within)
    ∙ ap (λ b. joined_bit t i b (bit_of now (get_or ys i Clear)) here) (bit_kept old now (get_or xs i Clear) k (bit_at old xs i h f))
    ∙ ap (λ b. joined_bit t i x b here) (bit_kept old now (get_or ys i Clear) k (bit_at old ys i inside g)) in
    ap (λ (j : Joining). j.done ++ join_from t j.open_range (i + 1) xr yr) there
    ∙ ap (λ n. (joined_bit t i x y here).done ++ join_from t (joined_bit t i x y here).open_range n xr yr) (add-one i)
    ∙ sym (pure_step t i x y xr yr here)
    ∙ ap (λ l. bits_of now done ++ join_from t (open_of now range) i l (y ∷ yr)) (sym first)
    ∙ ap (λ l. bits_of now done ++ join_from t (open_of now range) i (bits_of old (drop i xs)) l) (sym second)

shut-closed : (c : Tree) (o : pure_join.Open) (i : ℕ) → join_from c o i [] [] ≡ closed c o
shut-closed c o i = refl

pub join_end : (old now : List Content) (c i : ℕ) (xs ys done : List Bit) (range : Open)
    → length xs ≤ i → length xs ≡ length ys → Keeps old now → IsNode old c 1
    → bits_of now done ++ join_from (tree_at old c) (open_of now range) i (bits_of old (drop i xs)) (bits_of old (drop i ys)) ≡ bits_of now done ++ closed (tree_at now c) (open_of now range)
join_end old now c i xs ys done range h long k node =
    let second : length ys ≤ i = omega (arith, long) in
    ap (λ l. bits_of now done ++ join_from (tree_at old c) (open_of now range) i (bits_of old l) (bits_of old (drop i ys))) (drop_end i xs h)
    ∙ ap (λ l. bits_of now done ++ join_from (tree_at old c) (open_of now range) i [] (bits_of old l)) (drop_end i ys second)
    ∙ ap (λ t. bits_of now done ++ closed t (open_of now range)) (sym (k.trees c node.within))
