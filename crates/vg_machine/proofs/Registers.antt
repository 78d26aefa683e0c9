-- Registers by their bytes.
use Rattle.std.proofs.Common.{◌≡◌, ℕ, zero, suc, ◌+◌, ◌-◌, ◌*◌, ◌^◌, ◌≤◌, ◌<◌, List, [], ◌∷◌, ◌++◌, length, take, drop, replicate, sym, ap, subst, ◌∙◌, length-append, append_assoc, arith}
use Rattle.std.proofs.lemmas.List.{take-append-drop, take-append-le, drop-append-le, take_at, take-take, length-take-le, length-take, length-drop, take-replicate, drop-replicate, length-replicate}
use Rattle.std.proofs.Math.Seq.{take-append-add}
use Rattle.vg_base.specs.Bits.{bits, bits_of_bytes, bytes, num, number}
use Rattle.vg_base.specs.declared.width.Width.{Width}
use Rattle.vg_base.specs.declared.width.Width.TheVariants.{W8, W16, W32, W64}
use Rattle.vg_base.specs.Width.{bits_of}
use Rattle.vg_base.proofs.Bits.{length-bits}
use Rattle.vg_bits.specs.BitList.{IsBytes}
use Rattle.vg_bits.specs.Range.{range, replaced}
use Rattle.vg_bits.proofs.Ranges.{length-replaced}
use Rattle.vg_bits.proofs.ByteLists.{length-bits_of_bytes, bits_of_bytes-append, take-bits_of_bytes, num-bits_of_bytes, bytes-number, bits_of_bytes-zero}
use Rattle.vg_program.specs.Valid.{IsLane}
use Rattle.vg_program.specs.Meaning.{widened, lane_number, with_lane}

-- a lane lies in the register
pub lane_inside : (all : ℕ) (w : Width) (n : ℕ) → IsLane all w n → n * bits_of w + bits_of w ≤ all
lane_inside all W8 n lane = omega (arith, lane.0)
lane_inside all W16 n lane = omega (arith, lane.0)
lane_inside all W32 n lane = omega (arith, lane.0)
lane_inside all W64 n lane = omega (arith, lane.0)

-- bytes in front of zeros
pub filled : (from : List ℕ) (size : ℕ) → length from ≤ size → size ≤ 64 → bits_of_bytes (take size (from ++ drop (length from) (replicate 64 0))) ≡ widened (8 * size) from
filled from size fits most =
    let k = length from in
    let zeros : drop k (replicate 64 0) ≡ replicate (64 - k) 0 = drop-replicate k 64 0 in
    let split : size ≡ k + (size - k) = omega (arith, fits) in
    let cut : take size (from ++ replicate (64 - k) 0) ≡ from ++ replicate (size - k) 0 =
    ap (λ (m : ℕ). take m (from ++ replicate (64 - k) 0)) split ∙ take-append-add from (replicate (64 - k) 0) (size - k) ∙ ap (λ (r : List ℕ). from ++ r) (take-replicate (size - k) (64 - k) 0 (omega (arith, most))) in
    let bits : 8 * (size - k) ≡ 8 * size - 8 * k = omega (arith, fits) in
    ap (λ (r : List ℕ). bits_of_bytes (take size (from ++ r))) zeros
    ∙ ap bits_of_bytes cut
    ∙ bits_of_bytes-append from (replicate (size - k) 0)
    ∙ ap (λ (r : List ℕ). bits_of_bytes from ++ r) (bits_of_bytes-zero (size - k) ∙ ap (λ (m : ℕ). replicate m 0) bits)

IsBytes-take : (k : ℕ) (bs : List ℕ) → IsBytes bs → IsBytes (take k bs)
IsBytes-take zero bs all = tt
IsBytes-take (suc k) [] all = tt
IsBytes-take (suc k) (b ∷ bs) all = (all.0, IsBytes-take k bs all.1)

-- the low bytes
pub front_bytes : (count size : ℕ) (bs : List ℕ) → IsBytes bs → 8 * count ≤ length (bits_of_bytes (take size bs)) → take count bs ≡ bytes count (num (take (8 * count) (bits_of_bytes (take size bs))))
front_bytes count size bs all long =
    let short : count ≤ length (take size bs) = omega (arith, long, length-bits_of_bytes (take size bs)) in
    let within : count ≤ size = omega (arith, short, length-take size bs) in
    let low = take count bs in
    let exact : length low ≡ count = length-take-le count bs (omega (arith, short, length-take size bs)) in
    let cut : take (8 * count) (bits_of_bytes (take size bs)) ≡ bits_of_bytes low = take-bits_of_bytes count (take size bs) short ∙ ap bits_of_bytes (take-take count size bs within) in
    sym (ap (λ (l : List ℕ). bytes count (num l)) cut ∙ ap (bytes count) (num-bits_of_bytes low (IsBytes-take count bs all)) ∙ ap (λ (m : ℕ). bytes m (number low)) (sym exact) ∙ bytes-number low (IsBytes-take count bs all))

-- the bits of a register and those above it
parts : (size : ℕ) (bs : List ℕ) → bits_of_bytes bs ≡ bits_of_bytes (take size bs) ++ bits_of_bytes (drop size bs)
parts size bs = ap bits_of_bytes (sym (take-append-drop size bs)) ∙ bits_of_bytes-append (take size bs) (drop size bs)

range_front : (low w : ℕ) (l m : List ℕ) → low + w ≤ length l → range low w (l ++ m) ≡ range low w l
range_front low w l m inside =
    ap (λ (r : List ℕ). take w r) (drop-append-le low l m (omega (arith, inside))) ∙ take-append-le w (drop low l) m (omega (arith, inside, length-drop low l))

-- the number of a lane
pub lane_read : (all : ℕ) (w : Width) (n size : ℕ) (bs : List ℕ) → all ≡ length (bits_of_bytes (take size bs)) → IsLane all w n → num (range (n * bits_of w) (bits_of w) (bits_of_bytes bs)) ≡ lane_number (bits_of w) n (bits_of_bytes (take size bs))
lane_read all w n size bs long lane =
    ap (λ (l : List ℕ). num (range (n * bits_of w) (bits_of w) l)) (parts size bs)
    ∙ ap num (range_front (n * bits_of w) (bits_of w) (bits_of_bytes (take size bs)) (bits_of_bytes (drop size bs)) (omega (arith, long, lane_inside all w n lane)))

replaced_front : (low : ℕ) (new l m : List ℕ) → low + length new ≤ length l → replaced low new (l ++ m) ≡ replaced low new l ++ m
replaced_front low new l m inside =
    ap (λ (r : List ℕ). r ++ (new ++ drop (low + length new) (l ++ m))) (take-append-le low l m (omega (arith, inside)))
    ∙ ap (λ (r : List ℕ). take low l ++ (new ++ r)) (drop-append-le (low + length new) l m inside)
    ∙ joined (take low l) new (drop (low + length new) l) m
  where
    joined : (a b c d : List ℕ) → a ++ (b ++ (c ++ d)) ≡ (a ++ (b ++ c)) ++ d
    joined a b c d = simp append_assoc

-- a register with another number in a lane
pub lane_put : (all : ℕ) (w : Width) (n number size : ℕ) (old new : List ℕ) → all ≡ length (bits_of_bytes (take size old)) → size ≤ length old → length new ≡ length old → IsLane all w n → bits_of_bytes new ≡ replaced (n * bits_of w) (bits (bits_of w) number) (bits_of_bytes old) → bits_of_bytes (take size new) ≡ with_lane (bits_of w) n number (bits_of_bytes (take size old))
lane_put all w n number size old new long within same lane put =
    let l = bits_of_bytes (take size old) in
    let m = bits_of_bytes (drop size old) in
    let low = n * bits_of w in
    let piece = bits (bits_of w) number in
    let inside : low + length piece ≤ length l = omega (arith, long, lane_inside all w n lane, length-bits (bits_of w) number) in
    let whole : length (replaced low piece l) ≡ 8 * size = length-replaced low piece l inside ∙ length-bits_of_bytes (take size old) ∙ ap (λ (k : ℕ). 8 * k) (length-take-le size old within) in
    sym (take-bits_of_bytes size new (omega (arith, within, same)))
    ∙ ap (λ (r : List ℕ). take (8 * size) r) (put ∙ ap (λ (r : List ℕ). replaced low piece r) (parts size old) ∙ replaced_front low piece l m inside)
    ∙ take_at (replaced low piece l) m (8 * size) whole

-- a number of a lane is one of 64 bits
pub narrow_number : (w : Width) (n : ℕ) → n < 2 ^ bits_of w → n < 2 ^ 64
narrow_number W8 n h = omega arith
narrow_number W16 n h = omega arith
narrow_number W32 n h = omega arith
narrow_number W64 n h = h

-- what the calls on a register want, and what they answer
pub register_long : (size : ℕ) (bs : List ℕ) → size ≤ 64 → length (bits_of_bytes (take size bs)) ≤ 512
register_long size bs most = omega (arith, most, length-bits_of_bytes (take size bs), length-take size bs)

pub width_least : (w : Width) → (1 ≤ bits_of w) × (bits_of w ≤ 64)
width_least W8 = (omega arith, omega arith)
width_least W16 = (omega arith, omega arith)
width_least W32 = (omega arith, omega arith)
width_least W64 = (omega arith, omega arith)

pub record Room (width : ℕ) (n : ℕ) : Type 0 where
  pub least : 1 ≤ width
  pub most : width ≤ 128
  pub inside : n * width + width ≤ 512

pub lane_room : (width : ℕ) (w : Width) (n size : ℕ) (bs now : List ℕ) → bits_of_bytes (take size bs) ≡ now → size ≤ 64 → width ≡ bits_of w → IsLane (length now) w n → Room width n
lane_room width w n size bs now view most same lane =
    let inside = lane_inside (length now) w n lane in
    let long : length now ≤ 512 = subst (λ (l : List ℕ). length l ≤ 512) view (register_long size bs most) in
    let bounds = width_least w in
    rw same (record { least = bounds.0; most = omega (arith, bounds.1); inside = omega (arith, inside, long) })

pub lane_answer : (answer got width : ℕ) (w : Width) (n size : ℕ) (bs now : List ℕ) → bits_of_bytes (take size bs) ≡ now → width ≡ bits_of w → answer ≡ got → got ≡ num (range (n * width) width (bits_of_bytes bs)) → IsLane (length now) w n → answer ≡ lane_number (bits_of w) n now
lane_answer answer got width w n size bs now view same e f lane =
    e ∙ f ∙ ap (λ (k : ℕ). num (range (n * k) k (bits_of_bytes bs))) same ∙ lane_read (length now) w n size bs (ap length (sym view)) lane ∙ ap (λ (l : List ℕ). lane_number (bits_of w) n l) view

same_long : (low size : ℕ) (piece old new : List ℕ) → low + length piece ≤ length (bits_of_bytes (take size old)) → bits_of_bytes new ≡ replaced low piece (bits_of_bytes old) → length new ≡ length old
same_long low size piece old new inside put =
    let fits : low + length piece ≤ length (bits_of_bytes old) = omega (arith, inside, length-bits_of_bytes (take size old), length-take size old, length-bits_of_bytes old) in
    omega (arith, length-bits_of_bytes new, ap length put, length-replaced low piece (bits_of_bytes old) fits, length-bits_of_bytes old)

pub put_long : (width : ℕ) (w : Width) (n number size : ℕ) (old new now : List ℕ) → bits_of_bytes (take size old) ≡ now → width ≡ bits_of w → IsLane (length now) w n → bits_of_bytes new ≡ replaced (n * width) (bits width number) (bits_of_bytes old) → length new ≡ length old
put_long width w n number size old new now view same lane put =
    let inside : n * width + width ≤ length now = subst (λ (k : ℕ). n * k + k ≤ length now) (sym same) (lane_inside (length now) w n lane) in
    same_long (n * width) size (bits width number) old new (omega (arith, inside, length-bits width number, ap length view)) put

pub put_answer : (width : ℕ) (w : Width) (n number size : ℕ) (old new now : List ℕ) → bits_of_bytes (take size old) ≡ now → width ≡ bits_of w → size ≤ length old → IsLane (length now) w n → bits_of_bytes new ≡ replaced (n * width) (bits width number) (bits_of_bytes old) → bits_of_bytes (take size new) ≡ with_lane (bits_of w) n number now
put_answer width w n number size old new now view same most lane put =
    lane_put (length now) w n number size old new (ap length (sym view)) most (put_long width w n number size old new now view same lane put) lane (put ∙ ap (λ (k : ℕ). replaced (n * k) (bits k number) (bits_of_bytes old)) same) ∙ ap (λ (l : List ℕ). with_lane (bits_of w) n number l) view

pub filled_long : (from : List ℕ) (size : ℕ) → length from ≤ size → size ≤ 64 → size ≤ length (from ++ drop (length from) (replicate 64 0))
filled_long from size fits most =
    let nought : ℕ = 0 in
    omega (arith, fits, most, length-append from (drop (length from) (replicate 64 0)), length-drop (length from) (replicate 64 nought), length-replicate 64 nought)

pub bytes_answer : (count size : ℕ) (bs now low : List ℕ) → bits_of_bytes (take size bs) ≡ now → IsBytes bs → 8 * count ≤ length now → low ≡ take count bs → low ≡ bytes count (num (take (8 * count) now))
bytes_answer count size bs now low view all long e =
    let fits : 8 * count ≤ length (bits_of_bytes (take size bs)) = omega (arith, long, ap length view) in
    e ∙ front_bytes count size bs all fits ∙ ap (λ (l : List ℕ). bytes count (num (take (8 * count) l))) view

pub bytes_room : (count size : ℕ) (bs now : List ℕ) → bits_of_bytes (take size bs) ≡ now → 8 * count ≤ length now → count ≤ length bs
bytes_room count size bs now view long = omega (arith, long, ap length view, length-bits_of_bytes (take size bs), length-take size bs)
