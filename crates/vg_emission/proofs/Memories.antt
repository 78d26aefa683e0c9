-- A vector load is its loads one after the other, a vector store its stores.
use Rattle.std.proofs.Common.{◌≡◌, ℕ, zero, suc, ◌+◌, ◌*◌, ◌≤◌, pos, cond, List, [], ◌∷◌, ◌++◌, length, take, drop, Some, None, sym, ap, subst, ◌∙◌, inl, inr, arith, length-append}
use Rattle.std.specs.Prelude.{map, nat_le, nat_eq}
use Rattle.std.specs.List.{flat_map}
use Rattle.std.proofs.lemmas.Int.{ints}
use Rattle.std.proofs.lemmas.Bool.{cases_Bool, cond-true, cond-false, leb-true, leb-false, eqb-true}
use Rattle.vg_base.specs.Bits.{number, bytes, bits, num, bits_of_bytes}
use Rattle.vg_base.specs.Memory.{stored}
use Rattle.vg_base.specs.declared.address.Address.{Address}
use Rattle.vg_base.specs.Address.{place_of}
use Rattle.vg_base.specs.declared.width.Width.{Width}
use Rattle.vg_base.specs.Width.{size_of}
use Rattle.vg_bits.specs.BitList.{IsBytes, IsBits}
use Rattle.vg_bits.specs.Range.{range, replaced}
use Rattle.vg_bits.proofs.Ranges.{length-range, length-replaced, range-append_left, range-range, replaced-append, replaced_none, range-append}
use Rattle.vg_bits.proofs.ByteLists.{length-bits_of_bytes, range-bits_of_bytes, num-bits_of_bytes, length-bytes, IsBytes-bytes, bits_of_bytes-bytes, same_from_bits, bits_of_bytes-append}
use Rattle.vg_bits.proofs.BitLists.{bits-num-range}
use Rattle.vg_shapes.specs.declared.ssa.Ssa.{Ssa}
use Rattle.vg_shapes.specs.declared.wanted.Wanted.{Wanted}
use Rattle.vg_shapes.specs.Pack.{AreLoads, AreStores, behind}
use Rattle.vg_shapes.specs.RunUnits.{number_of}
use Rattle.vg_order_laws.specs.Sequence.{run_steps}
use Rattle.vg_order_laws.specs.Steps.{seen, step_of, unit_step}
use Rattle.vg_order_laws.proofs.Accesses.{stored-inside, stored-outside, seen-inside, seen-outside}
use Rattle.vg_order_laws.proofs.Runs.{went_well}

-- the lanes of a register from a bit on, each of so many bits, have these numbers
abbrev pub Lanes : List ℕ → ℕ → ℕ → List ℕ → Type 0
Lanes register low w [] = Unit {0}
Lanes register low w (n ∷ ns) = (num (range low w register) ≡ n) × Lanes register (low + w) w ns

-- numbers as bytes side by side
abbrev pub joined : ℕ → List ℕ → List ℕ
joined size ns = flat_map (bytes size) ns

pub IsBytes-take : (n : ℕ) (l : List ℕ) → IsBytes l → IsBytes (take n l)
IsBytes-take zero l p = tt
IsBytes-take (suc n) [] p = tt
IsBytes-take (suc n) (x ∷ l) p = (p.0, IsBytes-take n l p.1)

pub IsBytes-drop : (n : ℕ) (l : List ℕ) → IsBytes l → IsBytes (drop n l)
IsBytes-drop zero l p = p
IsBytes-drop (suc n) [] p = tt
IsBytes-drop (suc n) (x ∷ l) p = IsBytes-drop n l p.1

pub IsBytes-range : (low n : ℕ) (l : List ℕ) → IsBytes l → IsBytes (range low n l)
IsBytes-range low n l p = IsBytes-take n (drop low l) (IsBytes-drop low l p)

pub place_behind : (places : List ℕ) (a : Address) (n k : ℕ) → place_of places a ≡ pos n → place_of places (behind a k) ≡ pos (n + k)
place_behind places a n k e = omega (arith, ints)

-- ---- loads

-- what a load that went well read
pub seen-some : (m : List ℕ) (a n v : ℕ) (after : List ℕ) → seen m (pos a) n v ≡ Some after → (after ≡ m) × (a + n ≤ length m) × (number (range a n m) ≡ v)
seen-some m a n v after e = elim (cases_Bool (nat_le (a + n) (length m))) [
  | inr f ↦ absurd (let none = seen-outside m a n v (leb-false _ _ f) in cc)
  | inl t ↦
      let h = leb-true _ _ t in
      let now : cond (nat_eq (number (range a n m)) v) (Some m) None ≡ Some after = sym (seen-inside m a n v h) ∙ e in
      elim (cases_Bool (nat_eq (number (range a n m)) v)) [
        | inl u ↦ (let kept : Some m ≡ Some after = sym (cond-true _ _ _ u) ∙ now in cc, h, eqb-true _ _ u)
        | inr g ↦ absurd (let none : None ≡ Some after = sym (cond-false _ _ _ g) ∙ now in cc)
      ]
]

-- numbers side by side in memory
abbrev pub StandAt : List ℕ → ℕ → ℕ → List ℕ → Type 0
StandAt m a n [] = Unit {0}
StandAt m a n (v ∷ vs) = (a + n ≤ length m) × (number (range a n m) ≡ v) × StandAt m (a + n) n vs

pub loads-run : (ssa : Ssa) (places : List ℕ) (numbers : ℕ → ℕ) (w : Width) (a : Address) (at : ℕ) (us : List ℕ) (m after : List ℕ) → AreLoads ssa w a us → place_of places a ≡ pos at
    → run_steps (unit_step ssa places numbers) us m ≡ Some after → (after ≡ m) × StandAt m at (size_of w) (map numbers us)
unfolding run_steps
loads-run ssa places numbers w a at [] m after loads place e = (let same : Some m ≡ Some after = e in cc, tt)
loads-run ssa places numbers w a at (u ∷ us) m after loads place e =
    let first : unit_step ssa places numbers u m ≡ seen m (pos at) (size_of w) (numbers u) = ap (λ o. step_of o places numbers u m) loads.0 ∙ ap (λ z. seen m z (size_of w) (numbers u)) place in
    let went = went_well (unit_step ssa places numbers u m) (run_steps (unit_step ssa places numbers) us) e in
    let read = seen-some m at (size_of w) (numbers u) went.0 (sym first ∙ went.1) in
    let rest = loads-run ssa places numbers w (behind a (size_of w)) (at + size_of w) us m after loads.1 (place_behind places a at (size_of w) place) (subst (λ s. run_steps (unit_step ssa places numbers) us s ≡ Some after) read.0 went.2) in
    (rest.0, (read.1, read.2, rest.1))

pub stand_within : (m : List ℕ) (a n : ℕ) (vs : List ℕ) → a ≤ length m → StandAt m a n vs → a + n * length vs ≤ length m
stand_within m a n [] h s = omega arith
stand_within m a n (v ∷ vs) h s = omega (arith, stand_within m (a + n) n vs s.0 s.2)

-- the register that a vector load gives has the numbers as lanes
pub stand-lanes : (m : List ℕ) (a n skip count : ℕ) (vs zeros : List ℕ) → IsBytes m → a + count ≤ length m → skip + n * length vs ≤ count → StandAt m (a + skip) n vs
    → Lanes (bits_of_bytes (range a count m) ++ zeros) (8 * skip) (8 * n) vs
stand-lanes m a n skip count [] zeros are inside fits s = tt
stand-lanes m a n skip count (v ∷ vs) zeros are inside fits s =
    let read = range a count m in
    let long : length read ≡ count = length-range a count m inside in
    let some : skip + n ≤ count = omega arith in
    let lane : range (8 * skip) (8 * n) (bits_of_bytes read ++ zeros) ≡ bits_of_bytes (range (a + skip) n m) =
    range-append_left (8 * skip) (8 * n) (bits_of_bytes read) zeros (let l = length-bits_of_bytes read in omega arith)
    ∙ range-bits_of_bytes skip n read (omega arith)
    ∙ ap bits_of_bytes (range-range skip n a count m some) in
    let next : 8 * (skip + n) ≡ 8 * skip + 8 * n = omega arith in
    let there : a + (skip + n) ≡ a + skip + n = omega arith in (
      ap num lane ∙ num-bits_of_bytes (range (a + skip) n m) (IsBytes-range (a + skip) n m are) ∙ s.1,
      subst (λ low. Lanes (bits_of_bytes read ++ zeros) low (8 * n) vs) next
          (stand-lanes m a n (skip + n) count vs zeros are inside (omega arith) (subst (λ b. StandAt m b n vs) (sym there) s.2)),
    )

-- ---- stores

pub stored-some : (m : List ℕ) (a : ℕ) (new after : List ℕ) → stored m (pos a) new ≡ Some after → (a + length new ≤ length m) × (after ≡ replaced a new m)
stored-some m a new after e = elim (cases_Bool (nat_le (a + length new) (length m))) [
  | inl t ↦ let h = leb-true _ _ t in (h, (let same : Some (replaced a new m) ≡ Some after = sym (stored-inside m a new h) ∙ e in cc))
  | inr f ↦ absurd (let none = stored-outside m a new (leb-false _ _ f) in cc)
]

pub length-joined : (size : ℕ) (ns : List ℕ) → length (joined size ns) ≡ size * length ns
length-joined size [] = omega arith
length-joined size (n ∷ ns) = length-append (bytes size n) (joined size ns) ∙ (let l = length-bytes size n in omega (arith, length-joined size ns))

pub stores-run : (ssa : Ssa) (places : List ℕ) (numbers : ℕ → ℕ) (w : Width) (a : Address) (at : ℕ) (us : List ℕ) (xs : List Wanted) (m after : List ℕ) → AreStores ssa w a us xs → place_of places a ≡ pos at → at ≤ length m
    → run_steps (unit_step ssa places numbers) us m ≡ Some after
    → (at + length (joined (size_of w) (map (number_of numbers) xs)) ≤ length m) × (after ≡ replaced at (joined (size_of w) (map (number_of numbers) xs)) m)
unfolding run_steps
stores-run ssa places numbers w a at [] [] m after stores place low e = (omega arith, (let same : Some m ≡ Some after = e in let back = replaced_none at m in cc))
stores-run ssa places numbers w a at [] (x ∷ xs) m after stores place low e = absurd (cc)
stores-run ssa places numbers w a at (u ∷ us) [] m after stores place low e = absurd stores
stores-run ssa places numbers w a at (u ∷ us) (x ∷ xs) m after stores place low e =
    let one = bytes (size_of w) (number_of numbers x) in
    let others = joined (size_of w) (map (number_of numbers) xs) in
    let first : unit_step ssa places numbers u m ≡ stored m (pos at) one = ap (λ o. step_of o places numbers u m) stores.0 ∙ ap (λ z. stored m z one) place in
    let went = went_well (unit_step ssa places numbers u m) (run_steps (unit_step ssa places numbers) us) e in
    let next = went.0 in
    let wrote = stored-some m at one next (sym first ∙ went.1) in
    let l = length-bytes (size_of w) (number_of numbers x) in
    let kept = length-replaced at one m wrote.0 in
    let long : length next ≡ length m = ap length wrote.1 ∙ kept in
    let room : at + length one ≤ length m = wrote.0 in
    let more = stores-run ssa places numbers w (behind a (size_of w)) (at + size_of w) us xs next after stores.1 (place_behind places a at (size_of w) place) (omega arith) went.2 in
    let rest : at + size_of w + length others ≤ length next = more.0 in
    let both = length-append one others in
    let fits : at + length one + length others ≤ length m = omega arith in (
      omega arith,
      more.1 ∙ ap (replaced (at + size_of w) others) wrote.1 ∙ ap (λ k. replaced (at + k) others (replaced at one m)) (sym l) ∙ sym (replaced-append at one others m fits),
    )

-- the low bits of a register with these lanes
pub lanes-range : (register : List ℕ) (low size : ℕ) (ns : List ℕ) → IsBits register → low + 8 * size * length ns ≤ length register → Lanes register low (8 * size) ns
    → bits_of_bytes (joined size ns) ≡ range low (8 * size * length ns) register
unfolding bits_of_bytes
lanes-range register low size [] are fits lanes = let none : 0 ≡ 8 * size * 0 = omega arith in ap (λ k. range low k register) none
lanes-range register low size (n ∷ ns) are fits lanes =
    let w = 8 * size in
    let one : low + w ≤ length register = omega arith in
    let all : w + w * length ns ≡ w * suc (length ns) = omega arith in
    let lane : bits_of_bytes (bytes size n) ≡ range low w register = bits_of_bytes-bytes size n ∙ ap (bits w) (sym lanes.0) ∙ bits-num-range low w register are one in
    bits_of_bytes-append (bytes size n) (joined size ns)
    ∙ (λ i. lane i ++ lanes-range register (low + w) size ns are (omega arith) lanes.1 i)
    ∙ sym (range-append low w (w * length ns) register)
    ∙ ap (λ k. range low k register) all

pub IsBytes-append : (xs ys : List ℕ) → IsBytes xs → IsBytes ys → IsBytes (xs ++ ys)
IsBytes-append [] ys p q = q
IsBytes-append (x ∷ xs) ys p q = (p.0, IsBytes-append xs ys p.1 q)

pub IsBytes-joined : (size : ℕ) (ns : List ℕ) → IsBytes (joined size ns)
IsBytes-joined size [] = tt
IsBytes-joined size (n ∷ ns) = IsBytes-append (bytes size n) (joined size ns) (IsBytes-bytes size n) (IsBytes-joined size ns)

-- the low bytes of a register with these lanes
pub lanes-bytes : (register : List ℕ) (size count : ℕ) (ns : List ℕ) → IsBits register → size * length ns ≡ count → 8 * count ≤ length register → Lanes register 0 (8 * size) ns
    → bytes count (num (range 0 (8 * count) register)) ≡ joined size ns
lanes-bytes register size count ns are e fits lanes =
    let whole : 8 * size * length ns ≡ 8 * count = omega (arith, e) in
    same_from_bits (bytes count (num (range 0 (8 * count) register))) (joined size ns) (IsBytes-bytes count _) (IsBytes-joined size ns)
    (bits_of_bytes-bytes count (num (range 0 (8 * count) register)) ∙ bits-num-range 0 (8 * count) register are (omega arith)
    ∙ ap (λ k. range 0 k register) (sym whole) ∙ sym (lanes-range register 0 size ns are (omega arith) lanes))
