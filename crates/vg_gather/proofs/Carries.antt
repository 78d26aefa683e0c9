-- Bytes with a number added, one byte after the other.
use Rattle.std.proofs.Common.{◌≡◌, ℕ, zero, suc, ◌+◌, ◌-◌, ◌*◌, ◌/◌, ◌%◌, ◌^◌, ◌<◌, ◌≤◌, List, [], ◌∷◌, ◌++◌, length, refl, sym, ap, ◌∙◌, arith, replicate, get_or, take, drop, subst}
use Rattle.std.proofs.Math.Seq.{take-append_seam}
use Rattle.std.proofs.lemmas.List.{length-replicate, take_all, take_more}
use Rattle.std.proofs.lemmas.Nat.{pow-add}
use Rattle.vg_base.specs.Bits.{bytes}
use Rattle.vg_shapes.specs.declared.operand.Slot.{Slot}
use Rattle.vg_shapes.specs.declared.wanted.Wanted.{Wanted}
use Rattle.vg_shapes.specs.declared.wanted.Wanted.TheVariants.{Constant}
use Rattle.vg_emission.specs.Emission.{constant_of, constants_of}
use Rattle.vg_gather.specs.Adding.{Adds, added}

-- ---- a number in a byte, and what is after it

low : (a q : ℕ) → (a + 256 * q) % 256 ≡ a % 256
low a q = omega arith

high : (a q : ℕ) → (a + 256 * q) / 256 ≡ a / 256 + q
high a q = omega arith

-- a number moved up by a byte or more is a multiple of 256
moved : (d s : ℕ) → 8 ≤ s → d * 2 ^ s ≡ 256 * (d * 2 ^ (s - 8))
moved d s h =
    ap (λ n. d * 2 ^ n) (let e : s ≡ 8 + (s - 8) = omega arith in e) ∙ ap (λ n. d * n) (pow-add 2 8 (s - 8))
    ∙ (let p = 2 ^ (s - 8) in grind arith)

-- the lowest byte of a number, and the rest
cut : (d p : ℕ) → d * p ≡ d % 256 * p + 256 * (d / 256 * p)
cut d p = let e : d ≡ d % 256 + 256 * (d / 256) = omega arith in ap (λ n. n * p) e ∙ grind arith

pub skip_low : (b c d s : ℕ) → 8 ≤ s → (b + c) % 256 ≡ (b + (c + d * 2 ^ s)) % 256
skip_low b c d s h = let e = moved d s h in omega (arith, e)

pub skip_high : (b c d s : ℕ) → 8 ≤ s → (b + c) / 256 + d * 2 ^ (s - 8) ≡ (b + (c + d * 2 ^ s)) / 256
skip_high b c d s h = let e = moved d s h in omega (arith, e)

pub fill_low : (b c d s : ℕ) → (b + c + d % 256 * 2 ^ s) % 256 ≡ (b + (c + d * 2 ^ s)) % 256
fill_low b c d s = let e = cut d (2 ^ s) in omega (arith, e)

pub fill_high : (b c d s : ℕ) → (b + c + d % 256 * 2 ^ s) / 256 + d / 256 * 2 ^ s ≡ (b + (c + d * 2 ^ s)) / 256
fill_high b c d s = let e = cut d (2 ^ s) in omega (arith, e)

-- ---- bytes of numbers

sum-low : (n m : ℕ) → (n % 256 + m) % 256 ≡ (n + m) % 256
sum-low n m = omega arith

sum-high : (n m : ℕ) → n / 256 + (n % 256 + m) / 256 ≡ (n + m) / 256
sum-high n m = omega arith

pub added-bytes : (k n m : ℕ) → added m (bytes k n) ≡ bytes k (n + m)
unfolding bytes
added-bytes zero n m = refl
added-bytes (suc k) n m =
    ap (λ b. b ∷ added ((n % 256 + m) / 256) (bytes k (n / 256))) (sum-low n m)
    ∙ ap (λ l. (n + m) % 256 ∷ l) (added-bytes k (n / 256) ((n % 256 + m) / 256) ∙ ap (bytes k) (sum-high n m))

pub bytes-zero : (k : ℕ) → replicate k 0 ≡ bytes k 0
unfolding bytes
bytes-zero zero = refl
bytes-zero (suc k) = ap (λ l. 0 ∷ l) (bytes-zero k)

-- ---- one constant after the other

length-added : (m : ℕ) (l : List ℕ) → length (added m l) ≡ length l
length-added m [] = refl
length-added m (b ∷ bs) = ap suc (length-added ((b + m) / 256) bs)

pub adds_none : (l : List ℕ) → Adds 0 l l
adds_none l = record { long = refl; sum = λ n e. e ∙ ap (bytes (length l)) (let z : n ≡ n + 0 = omega arith in z) }

pub adds_added : (m : ℕ) (old new : List ℕ) → new ≡ added m old → Adds m old new
adds_added m old new is = record {
  long = ap length is ∙ length-added m old;
  sum = λ n e. is ∙ ap (added m) e ∙ added-bytes (length old) n m;
}

adds_both : (a b : ℕ) (x y z : List ℕ) → Adds a x y → Adds b y z → Adds (a + b) x z
adds_both a b x y z p q = record {
  long = q.long ∙ p.long;
  sum = λ n e.
      q.sum (n + a) (p.sum n e ∙ ap (λ k. bytes k (n + a)) (sym p.long))
      ∙ ap (λ k. bytes k (n + a + b)) p.long
      ∙ ap (bytes (length x)) (let z : n + a + b ≡ n + (a + b) = omega arith in z);
}

constants_push : (ss : List Slot) (s : Slot) → constants_of (ss ++ s ∷ []) ≡ constants_of ss + constant_of s s.wanted
constants_push [] s = omega arith
constants_push (t ∷ ss) s = let e = constants_push ss s in omega (arith, e)

pub adds_more : (ss : List Slot) (i : ℕ) (s d : Slot) (x y z : List ℕ) → i < length ss → s ≡ get_or ss i d
    → Adds (constants_of (take i ss)) x y → Adds (constant_of s s.wanted) y z
    → Adds (constants_of (take (i + 1) ss)) x z
adds_more ss i s d x y z inside is p q =
    let more : take (i + 1) ss ≡ take i ss ++ s ∷ [] = take_more ss i d inside ∙ ap (λ t. take i ss ++ t ∷ []) (sym is) in
    subst (λ m. Adds m x z) (sym (ap constants_of more ∙ constants_push (take i ss) s))
    (adds_both (constants_of (take i ss)) (constant_of s s.wanted) x y z p q)

pub adds_all : (ss : List Slot) (i : ℕ) (x y : List ℕ) → length ss ≤ i → Adds (constants_of (take i ss)) x y
    → Adds (constants_of ss) x y
adds_all ss i x y past p = subst (λ l. Adds (constants_of l) x y) (take_all i ss past) p

pub adds_nothing : (s : Slot) (x y : Wanted) (l : List ℕ) → x ≡ y → constant_of s y ≡ 0 → Adds (constant_of s x) l l
adds_nothing s x y l is none = subst (λ m. Adds m l l) (sym (ap (constant_of s) is ∙ none)) (adds_none l)

pub adds_constant : (s : Slot) (x : Wanted) (w n : ℕ) (old new : List ℕ) → x ≡ Constant w n
    → new ≡ added (n * 2 ^ s.low) old → Adds (constant_of s x) old new
adds_constant s x w n old new is e =
    subst (λ m. Adds m old new) (sym (ap (constant_of s) is)) (adds_added (n * 2 ^ s.low) old new e)

-- what has been added to zeros, as a vector of so many bytes gives it back
pub from_zeros : (k m len : ℕ) (items old new : List ℕ) → items ≡ replicate k 0 → len ≡ k → old ≡ items → Adds m old new
    → take len (new ++ drop (length new) items) ≡ bytes k m
from_zeros k m len items old new is count same adds =
    let whole : length items ≡ k = ap length is ∙ length-replicate k 0 in
    let before : length old ≡ k = ap length same ∙ whole in
    let behind : length new ≡ k = adds.long ∙ before in
    ap (λ j. take j (new ++ drop (length new) items)) (count ∙ sym behind)
    ∙ take-append_seam new (drop (length new) items)
    ∙ adds.sum 0 (same ∙ is ∙ bytes-zero k ∙ ap (λ j. bytes j 0) (sym before))
    ∙ ap (bytes (length old)) (let z : 0 + m ≡ m = omega arith in z)
    ∙ ap (λ j. bytes j m) before
