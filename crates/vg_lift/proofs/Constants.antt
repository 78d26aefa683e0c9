-- The pieces of constants.
use Rattle.std.proofs.Common.{◌≡◌, ℕ, zero, suc, append_assoc, append-nil, ◌+◌, ◌-◌, ◌*◌, ◌/◌, ◌%◌, ◌^◌, ◌<◌, ◌≤◌, ◌++◌, refl, sym, ap, ◌∙◌, subst, arith, List, [], ◌∷◌, length}
use Rattle.std.specs.Prelude.{pos, negsuc, min}
use Rattle.std.proofs.lemmas.Nat.{pow_pos, mod_below, field_of, div-mul-add, mod-mul-add, shr_below, div-add-mod', pow-add}
use Rattle.vg_base.specs.Number.{residue}
use Rattle.vg_base.proofs.LowBits.{low-low, pow-le}
use Rattle.vg_terms.specs.Term.{Tree, constant}
use Rattle.vg_pool.specs.declared.content.Content.{Content}
use Rattle.vg_pool.specs.Pool.{Keeps, StandsFor, tree_at}
use Rattle.vg_lift.specs.Gather.{of_term, bits_from}
use Rattle.vg_lift.specs.Gather as pure
use Rattle.vg_lift.specs.LaneTerm.{piece, pieces}
use Rattle.vg_lift.specs.declared.bit.Bit.{Bit}
use Rattle.vg_lift.specs.declared.constant.Piece.{Piece}
use Rattle.vg_lift.specs.Pieces.{IsPiece}
use Rattle.vg_lift.specs.Views.{BitsFit, bits_of}
use Rattle.vg_lift.proofs.Nodes.{append_of, append_fit, bits_kept, bits_fit, length_bits_of}
use Rattle.vg_lift.proofs.Holding.{length-pieces}

-- ---- the bits of a number and of its complement

split : (q d w : ℕ) → (q + 1 + d) * w ≡ q * w + w + d * w
split q d w = omega arith

complement : (j k x : ℕ) → x < 2 ^ (j + k) → 2 ^ (j + k) - 1 - x ≡ (2 ^ j - 1 - x / 2 ^ k) * 2 ^ k + (2 ^ k - 1 - x % 2 ^ k)
complement j k x h =
    let q = x / 2 ^ k in
    let d = 2 ^ j - 1 - q in
    let high : q < 2 ^ j = shr_below x j k h in
    let whole : q + 1 + d ≡ 2 ^ j = omega (arith, high) in
    let all : 2 ^ (j + k) ≡ 2 ^ j * 2 ^ k = pow-add 2 j k in
    let parts : 2 ^ j * 2 ^ k ≡ q * 2 ^ k + 2 ^ k + d * 2 ^ k = ap (λ (n : ℕ). n * 2 ^ k) (sym whole) ∙ split q d (2 ^ k) in
    let number : q * 2 ^ k + x % 2 ^ k ≡ x = div-add-mod' x (2 ^ k) in
    let low : x % 2 ^ k < 2 ^ k = mod_below x (2 ^ k) (pow_pos k) in
    omega (arith, all, parts, number, low)

complement-shr : (j k x : ℕ) → x < 2 ^ (j + k) → (2 ^ (j + k) - 1 - x) / 2 ^ k ≡ 2 ^ j - 1 - x / 2 ^ k
complement-shr j k x h =
    let some = pow_pos k in
    ap (λ (n : ℕ). n / 2 ^ k) (complement j k x h) ∙ div-mul-add (2 ^ j - 1 - x / 2 ^ k) (2 ^ k) (2 ^ k - 1 - x % 2 ^ k) (omega (arith, some))

complement-low : (j k x : ℕ) → x < 2 ^ (j + k) → (2 ^ (j + k) - 1 - x) % 2 ^ k ≡ 2 ^ k - 1 - x % 2 ^ k
complement-low j k x h =
    let some = pow_pos k in
    ap (λ (n : ℕ). n % 2 ^ k) (complement j k x h) ∙ mod-mul-add (2 ^ j - 1 - x / 2 ^ k) (2 ^ k) (2 ^ k - 1 - x % 2 ^ k) (omega (arith, some))

-- nothing is left of a number of 128 bits without so many or more
pub none_left : (n k : ℕ) → n < 2 ^ 128 → 128 ≤ k → 0 ≡ n / 2 ^ k
none_left n k small h =
    let below : n < 2 ^ k = omega (arith, small, pow-le 128 k h) in
    let e : n ≡ 0 * 2 ^ k + n = omega arith in
    sym (ap (λ (m : ℕ). m / 2 ^ k) e ∙ div-mul-add 0 (2 ^ k) n below)

pub part_of : (n w first count : ℕ) → first + count ≤ w → n % 2 ^ w / 2 ^ first % 2 ^ count ≡ n / 2 ^ first % 2 ^ count
part_of n w first count h =
    let e : (w - first) + first ≡ w = omega arith in
    ap (λ (m : ℕ). n % 2 ^ m / 2 ^ first % 2 ^ count) (sym e)
    ∙ ap (λ (m : ℕ). m % 2 ^ count) (field_of n (w - first) first)
    ∙ low-low (n / 2 ^ first) (w - first) count (omega arith)

pub natural_part : (n w first count : ℕ) → first + count ≤ w → n / 2 ^ first % 2 ^ count ≡ residue w (pos n) / 2 ^ first % 2 ^ count
natural_part n w first count h = sym (part_of n w first count h)

pub negative_part : (n w first count : ℕ) → first + count ≤ w → 2 ^ count - 1 - n / 2 ^ first % 2 ^ count ≡ residue w (negsuc n) / 2 ^ first % 2 ^ count
negative_part n w first count h =
    let x = n % 2 ^ w in
    let v = w - first - count in
    let e : v + count + first ≡ w = omega arith in
    let below : x < 2 ^ (v + count + first) = subst (λ (m : ℕ). x < 2 ^ m) (sym e) (mod_below n (2 ^ w) (pow_pos w)) in
    let high : x / 2 ^ first < 2 ^ (v + count) = shr_below x (v + count) first below in
    let shifted : (2 ^ w - 1 - x) / 2 ^ first ≡ 2 ^ (v + count) - 1 - x / 2 ^ first =
    ap (λ (m : ℕ). (2 ^ m - 1 - x) / 2 ^ first) (sym e) ∙ complement-shr (v + count) first x below in
    sym (
    ap (λ (m : ℕ). m % 2 ^ count) shifted
    ∙ complement-low v count (x / 2 ^ first) high
    ∙ ap (λ (m : ℕ). 2 ^ count - 1 - m) (part_of n w first count h)
    )

pub one_less : (count d r : ℕ) → count ≤ 64 → r ≡ d → 1 * 2 ^ count % 340282366920938463463374607431768211456 - 1 - r ≡ 2 ^ count - 1 - d
one_less count d r h e =
    let small = pow-le count 64 h in
    let whole : 1 * 2 ^ count % 340282366920938463463374607431768211456 ≡ 2 ^ count = omega (arith, small) in
    omega (arith, whole, e)

-- ---- the pieces of a constant, one after the other

inside_piece : (q j : ℕ) → j < 64 → (q * 64 + j) / 64 * 64 ≡ q * 64
inside_piece q j h = omega arith

place_inside : (q j : ℕ) → j < 64 → (q * 64 + j) % 64 ≡ j
place_inside q j h = omega arith

one_piece : (w v q j n : ℕ) → j + n ≤ 64 → pieces w v (q * 64 + j) n ≡ bits_from (piece w v (q * 64)) j n
one_piece w v q j zero h = refl
one_piece w v q j (suc n) h =
    let here = inside_piece q j (omega arith) in
    let first : (q * 64) / 64 * 64 ≡ q * 64 = omega arith in
    let next : suc (q * 64 + j) ≡ q * 64 + suc j = omega arith in
    let same : piece w v (q * 64 + j) ≡ piece w v (q * 64) =
    ap (λ (f : ℕ). constant (min 64 (w - f)) (v / 2 ^ f % 2 ^ min 64 (w - f))) (here ∙ sym first) in
    ap (λ (t : Tree). of_term t ((q * 64 + j) % 64) ∷ pieces w v (suc (q * 64 + j)) n) same
    ∙ ap (λ (k : ℕ). of_term (piece w v (q * 64)) k ∷ pieces w v (suc (q * 64 + j)) n) (place_inside q j (omega arith))
    ∙ ap (λ (k : ℕ). of_term (piece w v (q * 64)) j ∷ pieces w v k n) next
    ∙ ap (λ (l : List pure.Bit). of_term (piece w v (q * 64)) j ∷ l) (one_piece w v q (suc j) n (omega arith))

pieces-append : (w v k m n : ℕ) → pieces w v k (m + n) ≡ pieces w v k m ++ pieces w v (k + m) n
pieces-append w v k zero n =
    let none : 0 + n ≡ n = omega arith in
    let e : k ≡ k + 0 = omega arith in
    ap (pieces w v k) none ∙ ap (λ (j : ℕ). pieces w v j n) e
pieces-append w v k (suc m) n =
    let some : suc m + n ≡ suc (m + n) = omega arith in
    let e : suc k + m ≡ k + suc m = omega arith in
    ap (pieces w v k) some
    ∙ ap (λ (l : List pure.Bit). of_term (piece w v k) (k % 64) ∷ l) (pieces-append w v (suc k) m n ∙ ap (λ (j : ℕ). pieces w v (suc k) m ++ pieces w v j n) e)

-- the piece that begins at a multiple of 64
pub piece_is : (w v first count number : ℕ) → first % 64 ≡ 0 → count ≡ min 64 (w - first) → number ≡ v / 2 ^ first % 2 ^ count → constant count number ≡ piece w v first
piece_is w v first count number whole e f =
    let here : first / 64 * 64 ≡ first = omega (arith, whole) in
    ap (constant count) f
    ∙ ap (λ (c : ℕ). constant c (v / 2 ^ first % 2 ^ c)) e
    ∙ ap (λ (k : ℕ). constant (min 64 (w - k)) (v / 2 ^ k % 2 ^ min 64 (w - k))) (sym here)

-- what is left of a constant after q pieces is its next piece and what is left after it
pub next_piece : (w v q : ℕ) → q * 64 < w
    → pieces w v (q * 64) (w - q * 64) ≡ bits_from (piece w v (q * 64)) 0 (min 64 (w - q * 64)) ++ pieces w v ((q + 1) * 64) (w - (q + 1) * 64)
next_piece w v q h =
    let m = min 64 (w - q * 64) in
    let n = w - (q + 1) * 64 in
    let whole : w - q * 64 ≡ m + n = omega arith in
    let here : q * 64 ≡ q * 64 + 0 = omega arith in
    ap (pieces w v (q * 64)) whole
    ∙ pieces-append w v (q * 64) m n
    ∙ ap (λ (l : List pure.Bit). l ++ pieces w v (q * 64 + m) n) (ap (λ (k : ℕ). pieces w v k m) here ∙ one_piece w v q 0 m (omega arith))
    ∙ ap (λ (l : List pure.Bit). bits_from (piece w v (q * 64)) 0 m ++ l) (behind n (omega arith))
  where
    behind : (n : ℕ) → n ≡ w - (q + 1) * 64 → pieces w v (q * 64 + min 64 (w - q * 64)) n ≡ pieces w v ((q + 1) * 64) n
    behind zero e = refl
    behind (suc n) e = let k : q * 64 + min 64 (w - q * 64) ≡ (q + 1) * 64 = omega (arith, e) in ap (λ (j : ℕ). pieces w v j (suc n)) k

-- nothing is left of a constant after all of its pieces
pub no_piece : (w v q : ℕ) → w ≤ q * 64 → pieces w v (q * 64) (w - q * 64) ≡ []
no_piece w v q h = let e : w - q * 64 ≡ 0 = omega arith in ap (pieces w v (q * 64)) e

-- a constant and the number of its low bits have the same pieces
pub pieces-residue : (w n k m : ℕ) → k + m ≤ w → pieces w (n % 2 ^ w) k m ≡ pieces w n k m
pieces-residue w n k zero h = refl
pieces-residue w n k (suc m) h =
    let first = k / 64 * 64 in
    let e = part_of n w first (min 64 (w - first)) (omega arith) in
    ap (λ (v : ℕ). of_term (constant (min 64 (w - first)) v) (k % 64) ∷ pieces w (n % 2 ^ w) (suc k) m) e
    ∙ ap (λ (l : List pure.Bit). of_term (piece w n k) (k % 64) ∷ l) (pieces-residue w n (suc k) m (omega arith))

-- a piece that is built
pub built_is : (pool : List Content) (p : Piece) (node count value : ℕ)
    → StandsFor pool node (constant count value) → p.count ≡ count → p.value ≡ value
    → bits_of pool p.bits ≡ bits_from (tree_at pool node) 0 count → BitsFit pool p.bits → IsPiece pool p
built_is pool p node count value s e v b f = record {
  is = b ∙ ap (λ t. bits_from t 0 count) s.is ∙ ap (λ n. bits_from (constant n value) 0 n) (sym e)
      ∙ ap (λ n. bits_from (constant p.count n) 0 p.count) (sym v);
  fit = f;
}

-- a piece appended to bits over a pool that has grown
pub piece_appended : (old new : List Content) (p : Piece) (count value : ℕ) (l m : List Bit) (t : Tree)
    → Keeps old new → BitsFit old l → IsPiece new p → p.count ≡ count → p.value ≡ value
    → constant count value ≡ t → m ≡ l ++ p.bits
    → bits_of new m ≡ bits_of old l ++ bits_from t 0 count
piece_appended old new p count value l m t k h i c v u e =
    ap (bits_of new) e ∙ append_of new l p.bits
    ∙ ap (λ bs. bs ++ bits_of new p.bits) (bits_kept old new l k h)
    ∙ ap (λ bs. bits_of old l ++ bs) (
    i.is ∙ ap (λ n. bits_from (constant n p.value) 0 n) c
    ∙ ap (λ n. bits_from (constant count n) 0 count) v ∙ ap (λ z. bits_from z 0 count) u)

pub piece_fit : (old new : List Content) (p : Piece) (l m : List Bit)
    → Keeps old new → BitsFit old l → IsPiece new p → m ≡ l ++ p.bits → BitsFit new m
piece_fit old new p l m k h i e =
    subst (BitsFit new) (sym e) (append_fit new l p.bits (bits_fit old new l k h) i.fit)

-- the next piece of a constant is pushed
pub piece_pushed : (new : List Content) (more : List Bit) (w v q : ℕ) (done : List pure.Bit) → q * 64 < w
    → bits_of new more ≡ done ++ bits_from (piece w v (q * 64)) 0 (min 64 (w - q * 64))
    → bits_of new more ++ pieces w v ((q + 1) * 64) (w - (q + 1) * 64) ≡ done ++ pieces w v (q * 64) (w - q * 64)
piece_pushed new more w v q done h e =
    let piece_bits = bits_from (piece w v (q * 64)) 0 (min 64 (w - q * 64)) in
    let rest = pieces w v ((q + 1) * 64) (w - (q + 1) * 64) in
    ap (λ l. l ++ rest) e ∙ append_assoc done piece_bits rest ∙ ap (λ l. done ++ l) (sym (next_piece w v q h))

pub pieces_end : (w v q : ℕ) (done : List pure.Bit) → w ≤ q * 64 → done ++ pieces w v (q * 64) (w - q * 64) ≡ done
pieces_end w v q done h = ap (λ l. done ++ l) (no_piece w v q h) ∙ append-nil done

pub natural_pieces : (w n : ℕ) → pieces w (residue w (pos n)) 0 w ≡ pieces w n 0 w
natural_pieces w n = pieces-residue w n 0 w (omega arith)

-- how many bits a constant has
pub constant_length : (pool : List Content) (bits : List Bit) (w n : ℕ) → bits_of pool bits ≡ pieces w n 0 w → length bits ≡ w
constant_length pool bits w n e = sym (length_bits_of pool bits) ∙ ap length e ∙ length-pieces w n 0 w
