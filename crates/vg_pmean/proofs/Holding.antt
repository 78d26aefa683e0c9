-- What a frame holds when bits of its registers are replaced.
use Rattle.std.proofs.Common.{◌≡◌, ℕ, zero, suc, ◌+◌, ◌-◌, ◌*◌, ◌/◌, ◌%◌, ◌≤◌, List, [], ◌∷◌, ◌++◌, length, get_or, take, drop, replicate, sym, ap, ◌∙◌, arith, subst}
use Rattle.std.specs.Prelude.{min}
use Rattle.std.specs.Global.{Vec}
use Rattle.std.specs.Vec.{with_items}
use Rattle.std.proofs.Common.{inl, inr}
use Rattle.std.proofs.lemmas.Bool.{cases_lt}
use Rattle.std.proofs.lemmas.List.{length-take, with_items_is, take_all, drop-replicate}
use Rattle.vg_base.specs.Bits.{bits, num, bits_of_bytes}
use Rattle.vg_script.specs.Cells.{Cells, bits_read, entered, written}
use Rattle.vg_bits.specs.BitList.{IsBits}
use Rattle.vg_bits.specs.Range.{range, replaced}
use Rattle.vg_bits.proofs.Ranges.{length-range, length-replaced, range-replaced_same}
use Rattle.vg_bits.proofs.BitLists.{bits-zero, IsBits-range}
use Rattle.vg_bits.proofs.ByteLists.{length-bits_of_bytes, IsBits-bits_of_bytes, bits_of_bytes-append, bits_of_bytes-zero}
use Rattle.vg_pmean.specs.declared.extent.Extent.{Extent}
use Rattle.vg_pmean.specs.declared.frame_room.FrameRoom.{FrameRoom}
use Rattle.vg_pmean.specs.Extent.{IsLaid, IsRoomy, total, widths_of, place_in, bits_at, registers_in}
use Rattle.vg_pmean.specs.Held.{Held, held, widths_in}
use Rattle.vg_pmean.proofs.Laying.{ends, width_at, written_at, register_at, take-both, all_zero}

abbrev pub cells_of : List ℕ → List Extent → List ℕ → Cells
cells_of bytes es vs = record { registers = registers_in (bits_of_bytes bytes) es; variables = vs }

pub same_length : (new old more : List ℕ) (at : ℕ) → bits_of_bytes new ≡ replaced at more (bits_of_bytes old) → at + length more ≤ 8 * length old → length new ≡ length old
same_length new old more at is fits =
    let size = ap (λ l. length l) is in
    let all : at + length more ≤ length (bits_of_bytes old) = omega (arith, fits, length-bits_of_bytes old) in
    omega (arith, size, length-bits_of_bytes new, length-bits_of_bytes old, length-replaced at more (bits_of_bytes old) all)

module _ (room : FrameRoom) (es : List Extent) (v : Vec ℕ) (spare vs : List ℕ) (p q : ℕ) (roomy : IsRoomy room es v.items spare p q) (now : Held) (view : held (cells_of v.items es vs) room ≡ now) where
  all_inside : total (widths_of es) ≤ length (bits_of_bytes v.items)
  all_inside = omega (arith, roomy.within, roomy.bytes_hold, length-bits_of_bytes v.items)

  -- the width of a register is that of its place
  pub width_here : (r : ℕ) → get_or (widths_in now.cells) r 0 ≡ (place_in es r).width
  width_here r = ap (λ h. get_or (widths_in h.cells) r 0) (sym view) ∙ width_at (bits_of_bytes v.items) es 0 r roomy.laid (omega (arith, all_inside))

  pub fits_here : (r low width : ℕ) → low + width ≤ get_or (widths_in now.cells) r 0 → low + width ≤ (place_in es r).width
  fits_here r low width inside = omega (arith, inside, width_here r)

  pub written_here : (r low : ℕ) (new ws : List ℕ) → low + length new ≤ get_or (widths_in now.cells) r 0
      → bits_of_bytes ws ≡ replaced ((place_in es r).start + low) new (bits_of_bytes v.items)
      → held (cells_of (with_items v ws).items es vs) room ≡ held (written r low new now.cells) now.room
  written_here r low new ws inside is =
      let fits : low + length new ≤ (place_in es r).width = fits_here r low (length new) inside in
      let last = ends es 0 r roomy.laid in
      let size : length ws ≡ length v.items = same_length ws v.items new ((place_in es r).start + low) is (omega (arith, fits, last, roomy.within, roomy.bytes_hold)) in
      ap (λ l. held (cells_of l es vs) room) (with_items_is v ws (omega (arith, size, v.ok.0)))
      ∙ ap (λ l. held (record { registers = registers_in l es; variables = vs }) room) is
      ∙ ap (λ l. held (record { registers = l; variables = vs }) room) (written_at (bits_of_bytes v.items) new r low es roomy.laid all_inside fits)
      ∙ ap (λ h. held (written r low new h.cells) h.room) view

  -- a part of a register is what is read of it
  pub read_here : (r low width : ℕ) (part : Extent)
      → ((l : List ℕ) → total (widths_of es) ≤ length l → bits_at l part ≡ range low width (get_or (registers_in l es) r []))
      → num (bits_at (bits_of_bytes v.items) part) ≡ bits_read now.cells r low width
  read_here r low width part is =
      ap num (is (bits_of_bytes v.items) all_inside) ∙ ap (λ h. bits_read h.cells r low width) view

-- ---- bits with zeros above them

pub padded_bits : (w : ℕ) (l : List ℕ) → IsBits l → bits w (num l) ≡ take w l ++ replicate (w - length l) 0
unfolding bits num
padded_bits zero l p =
    let none : 0 - length l ≡ 0 = omega arith in
    ap (λ (n : ℕ). replicate n 0) (sym none)
padded_bits (suc w) [] p =
    let all : suc w - 0 ≡ suc w = omega arith in
    bits-zero (suc w) ∙ ap (λ (n : ℕ). replicate n 0) (sym all)
padded_bits (suc w) (x ∷ l) p =
    let bit : (x + 2 * num l) % 2 ≡ x = omega (arith, p.0) in
    let rest : (x + 2 * num l) / 2 ≡ num l = omega (arith, p.0) in
    let left : suc w - suc (length l) ≡ w - length l = omega arith in
    λ i. bit i ∷ ((ap (bits w) rest ∙ padded_bits w l p.1 ∙ ap (λ (n : ℕ). take w l ++ replicate n 0) (sym left)) i)

-- a part of a register with zeros above it is what is read of the register
pub padded_part : (width low count n : ℕ) (reg part : List ℕ) → IsBits reg → part ≡ range low (min count width) reg → length part ≡ n
    → part ++ replicate (width - n) 0 ≡ bits width (num (range low count reg))
padded_part width low count n reg part p is size =
    let l : List ℕ = range low count reg in
    let order : min count width ≡ min width count = omega arith in
    let same : part ≡ take width l =
    is ∙ ap (λ (k : ℕ). take k (drop low reg)) order ∙ sym (take-both width count (drop low reg)) in
    let left : width - n ≡ width - length l = omega (arith, size, ap (λ v. length v) same, length-take width l) in
    (λ i. same i ++ replicate (left i) 0) ∙ sym (padded_bits width l (IsBits-range low count reg p))

pub register_bits : (bytes : List ℕ) (es : List Extent) (r : ℕ) → IsBits (get_or (registers_in (bits_of_bytes bytes) es) r [])
register_bits bytes es r =
    subst (λ l. IsBits l) (sym (register_at (bits_of_bytes bytes) es r))
    (IsBits-range (place_in es r).start (place_in es r).width (bits_of_bytes bytes) (IsBits-bits_of_bytes bytes))

pub spared : (l old new : List ℕ) (start w : ℕ) → new ≡ replaced 0 (range start w l) old → start + w ≤ length l → w ≤ length old → range 0 w new ≡ range start w l
spared l old new start w is fits room =
    let size : length (range start w l) ≡ w = length-range start w l fits in
    ap (λ v. range 0 w v) is
    ∙ ap (λ (k : ℕ). range 0 k (replaced 0 (range start w l) old)) (sym size)
    ∙ range-replaced_same 0 (range start w l) old (omega (arith, size))

-- registers as a body begins
pub begun : (es : List Extent) (widths bytes rest : List ℕ) (n : ℕ) → IsLaid 0 es → widths_of es ≡ widths → bytes ≡ replicate n 0 ++ rest → total widths ≤ 8 * n
    → registers_in (bits_of_bytes bytes) es ≡ entered widths []
begun es widths bytes rest n laid is zeros fits =
    let all = ap total is in
    ap (λ l. registers_in l es) (ap (λ l. bits_of_bytes l) zeros ∙ bits_of_bytes-append (replicate n 0) rest ∙ ap (λ l. l ++ bits_of_bytes rest) (bits_of_bytes-zero n))
    ∙ all_zero es 0 (8 * n) (bits_of_bytes rest) laid (omega (arith, all, fits))
    ∙ ap (λ ws. entered ws []) is

-- the least of a length and a width cuts a list as the width does
pub cut : (w n : ℕ) (l : List ℕ) → n ≡ min (length l) w → take n l ++ replicate (w - n) 0 ≡ take w l ++ replicate (w - length l) 0
cut w n l is = elim (cases_lt w (length l)) [
  | inl longer ↦
      let same : n ≡ w = omega arith in
      let left : w - n ≡ w - length l = omega arith in
      λ i. take (same i) l ++ replicate (left i) 0
  | inr all ↦
      let same : n ≡ length l = omega arith in
      let left : w - n ≡ w - length l = omega arith in
      (λ i. take (same i) l ++ replicate (left i) 0)
      ∙ ap (λ v. v ++ replicate (w - length l) 0) (take_all (length l) l (omega arith) ∙ sym (take_all w l (omega arith)))
]

-- bits in front of zeros
pub in_zeros : (xs old : List ℕ) (n : ℕ) → old ≡ replicate n 0 → replaced 0 xs old ≡ xs ++ replicate (n - length xs) 0
in_zeros xs old n is =
    let here : 0 + length xs ≡ length xs = omega arith in
    ap (λ l. xs ++ drop (0 + length xs) l) is
    ∙ ap (λ (k : ℕ). xs ++ drop k (replicate n 0)) here
    ∙ ap (λ l. xs ++ l) (drop-replicate (length xs) n 0)
